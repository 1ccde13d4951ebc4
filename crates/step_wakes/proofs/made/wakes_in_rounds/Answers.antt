use Rattle.std.proofs.Common.{◌≡◌, ◌∙◌, ◌<◌, length, sym, subst, arith}
use Rattle.std.proofs.lemmas.List.{length-map}
use Rattle.design_model.specs.View.{design_view, process_view}
use Rattle.early_sets.specs.WakeState.{state_of}
use Rattle.step_wakes.specs.Step.{IsOfDesign}
use Rattle.step_wakes.proofs.Few.{few_memories}
use Rattle.step_wakes.proofs.Fresh.{fresh, three_facts}
use Rattle.step_wakes.proofs.Missing.{missing_below}
use Rattle.step_wakes.proofs.made.wakes_in_rounds.Goals as goal

pub new-requires-clause-few : goal.new-requires-clause-few
new-requires-clause-few c =
    let few = few_memories (design_view c.args.design.now) c.requires.lawful in
    omega (arith, c.in_ok-tables.ensures.things_are, c.requires.lawful.few_signals, few)

pub new-requires-clause-untold : goal.new-requires-clause-untold
new-requires-clause-untold c x m =
    let l = missing_below (design_view c.args.design.now) c.args.bound.now x ((c.in_ok-untold.ensures x).0 m) in
    omega (arith, l, c.in_ok-tables.ensures.things_are)

pub new-requires-clause-writers : goal.new-requires-clause-writers
new-requires-clause-writers c =
    let t = c.in_ok-tables.tables in
    let processes : length c.args.design.now.processes ≡ t.processes = sym (c.in_ok-tables.ensures.processes_are ∙ length-map c.args.design.now.processes process_view) in
    record {
      count_is = c.requires.writers.count_is ∙ sym c.in_ok-tables.ensures.things_are;
      below = λ x p h. subst (λ n. p < n) processes (c.requires.writers.below x p h);
    }

pub returns-clause-design : goal.returns-clause-design
returns-clause-design c =
    let d = design_view c.args.design.now in
    let t = c.in_ok-tables.tables in
    three_facts
    (λ wakes. (state_of wakes).tables ≡ t)
    (λ wakes. (state_of wakes).told ≡ c.in_ok-told.told.items)
    (λ wakes. (state_of wakes).untold ≡ c.in_ok-untold.untold.items)
    (λ wakes. IsOfDesign d c.args.bound.now (state_of wakes))
    c.new.result
    (λ wakes tables told untold. fresh d c.args.bound.now t c.in_ok-told.told.items c.in_ok-untold.untold.items (state_of wakes) c.in_ok-tables.ensures c.in_ok-told.ensures.flags c.in_ok-untold.ensures tables told untold)
    c.new.ensures.tables c.new.ensures.told c.new.ensures.untold
