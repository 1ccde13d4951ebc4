use Rattle.std.proofs.Common.{◌≡◌}
use Rattle.design_model.specs.View.{design_view}
use Rattle.early_sets.specs.WakeState.{state_of}
use Rattle.step_wakes.specs.Step.{IsOfDesign, flag_at}
use Rattle.wake_laws.specs.OfDesign.{AreWritersOf}
use Rattle.round_wakes.proofs.Joined.{joined, two_facts}
use Rattle.round_wakes.proofs.made.wakes_by_rounds.Goals as goal

pub wakes_in_rounds-requires-clause-writers : goal.wakes_in_rounds-requires-clause-writers
wakes_in_rounds-requires-clause-writers c = record { count_is = c.in_ok-writers.ensures.count; below = c.in_ok-writers.ensures.within }

pub returns-clause-writers : goal.returns-clause-writers
returns-clause-writers c =
    let d = design_view c.args.design.now in
    two_facts (λ wakes. IsOfDesign d c.args.bound.now (state_of wakes)) (λ wakes. (state_of wakes).writers ≡ c.in_ok-writers.writers.items) (λ wakes. AreWritersOf d (flag_at c.args.bound.now) (state_of wakes).tables.things (state_of wakes).writers) c.wakes_in_rounds.result
    (λ wakes made is. joined d c.args.bound.now c.in_ok-writers.writers.items (state_of wakes) c.in_ok-writers.ensures.count c.in_ok-writers.ensures.writers made is)
    c.wakes_in_rounds.ensures.design c.wakes_in_rounds.ensures.writers
