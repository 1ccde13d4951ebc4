use Rattle.std.proofs.Common.{◌≡◌, length, ap, arith, ◌∙◌}
use Rattle.std.proofs.lemmas.List.{with_items_is}
use Rattle.value_store.specs.Slots.{forgotten}
use Rattle.value_store.proofs.Showing.{as_shaped, count_forgotten, each_forgotten}
use Rattle.value_store.proofs.Slots.{all_forgotten, forgotten_slots}
use Rattle.value_store.proofs.signals.Signals.forget.Goals as goal

pub invariant_of-self : goal.invariant_of-self
invariant_of-self c =
    let size : length c.forget.new.slots ≡ c.self.inside.slots.len = omega arith in
    forgotten_slots c.self.inside.epoch c.self.inside.slots.items _ (with_items_is c.self.inside.slots c.forget.new.slots size ∙ c.forget.ensures ∙ ap (forgotten 0) c.as_mut_slice.ensures.value) c.self.invariant

pub returns-clause-value : goal.returns-clause-value
returns-clause-value c =
    let size : length c.forget.new.slots ≡ c.self.inside.slots.len = omega arith in
    all_forgotten c.self.inside.epoch c.self.inside.slots.items _ c.args.self.now (with_items_is c.self.inside.slots c.forget.new.slots size ∙ c.forget.ensures ∙ ap (forgotten 0) c.as_mut_slice.ensures.value) c.self.invariant c.self.view_is

pub returns-clause-each : goal.returns-clause-each
returns-clause-each c =
    each_forgotten c.args.self.now _ (as_shaped c.self.inside.epoch c.self.inside.slots.items c.args.self.now c.self.view_is) (returns-clause-value c)

pub returns-clause-count : goal.returns-clause-count
returns-clause-count c =
    count_forgotten c.args.self.now _ (as_shaped c.self.inside.epoch c.self.inside.slots.items c.args.self.now c.self.view_is) (returns-clause-value c)
