use Rattle.std.proofs.Common.{sym, ◌∙◌}
use Rattle.coverage_db.proofs.WindowLaws.{step_left, step_right, step_less, step_equal, step_greater}
use Rattle.coverage_db.proofs.window_join.take_first.Goals as goal

pub returns-in_default : goal.returns-in_default
returns-in_default c = step_right c.args.left.now c.args.right.now c.in_ok-second.second.now c.in_ok-second.others.now c.in_default.ensures.cases c.in_ok-second.ensures.cases c.requires.right

pub returns-in_default-split_first : goal.returns-in_default-split_first
returns-in_default-split_first c = step_left c.args.left.now c.args.right.now c.in-Some.first.now c.in-Some.more.now c.in-Some.ensures.cases c.in_default-split_first.ensures.cases c.requires.left

pub returns-in-Less : goal.returns-in-Less
returns-in-Less c =
    step_less c.args.left.now c.args.right.now c.in-Some.first.now c.in-Some-split_first.second.now c.in-Some.more.now c.in-Some-split_first.others.now
    c.in-Some.ensures.cases c.in-Some-split_first.ensures.cases (sym c.compare.ensures ∙ c.in-Less.is) c.requires.left c.requires.right

pub returns-in-Equal : goal.returns-in-Equal
returns-in-Equal c =
    step_equal c.args.left.now c.args.right.now c.in-Some.first.now c.in-Some-split_first.second.now c.in-Some.more.now c.in-Some-split_first.others.now
    c.in-Some.ensures.cases c.in-Some-split_first.ensures.cases (sym c.compare.ensures ∙ c.in-Equal.is) c.requires.left c.requires.right

pub returns-in-Greater : goal.returns-in-Greater
returns-in-Greater c =
    step_greater c.args.left.now c.args.right.now c.in-Some.first.now c.in-Some-split_first.second.now c.in-Some.more.now c.in-Some-split_first.others.now
    c.in-Some.ensures.cases c.in-Some-split_first.ensures.cases (sym c.compare.ensures ∙ c.in-Greater.is) c.requires.left c.requires.right
