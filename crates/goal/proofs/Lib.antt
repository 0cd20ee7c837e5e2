pub mod GoalWords
