use Rattle.std.proofs.Common.{◌≡◌, ◌+◌, subst, arith}
use Rattle.early_sets.specs.Settled.{HasSettled}
use Rattle.early_sets.specs.WakeState.{state_of}
use Rattle.step_wakes.specs.Step.{note_turns}
use Rattle.wake_tests.proofs.turns.counted.Goals as goal

pub returns : goal.returns
returns g c =
    let w = state_of c.find.new.wakes in
    let turns = note_turns c.args.changes.now w in
    let none : c.new-count.result + turns ≡ turns = omega (arith, c.new-count.ensures) in
    subst (λ n. HasSettled w n c.find.new.turns) none c.find.ensures.turns
