-- `lockgraph_goal_within` meets its contract. Assumes nothing.
use Rattle.lockgraph_c.proofs.ToldLaws.{goal-none, goal-there}
use Rattle.lockgraph_c.proofs.goals.lockgraph_goal_within.Goals as goal

pub returns-in-Some : goal.returns-in-Some
returns-in-Some c = goal-none _ _ _ c.in-Some.ensures c.number.ensures

pub returns : goal.returns
returns c =
    goal-there _ _ _ _ c.in_default.ensures c.third_line.ensures.1 c.last_text-goal.ensures
