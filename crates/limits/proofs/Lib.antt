pub mod GoalText
pub mod LimitLaws
