use Rattle.design_model.specs.View.{design_view}
use Rattle.body_trials.proofs.Below.{HasBelow}
use Rattle.body_trials.proofs.things.all_things.Given as goal

-- those below the number so far
abbrev pub invariant-loop-number : goal.invariant-loop-number
invariant-loop-number l = HasBelow (design_view l.design) l.things.items l.number
