use Rattle.std.proofs.Common.{◌≡◌, inl, inr, length, map, ap, arith, ◌∙◌}
use Rattle.std.proofs.lemmas.List.{with_items_is}
use Rattle.value_store.specs.Slots.{rewound}
use Rattle.value_store.proofs.Showing.{hides_plain, reads_plain}
use Rattle.value_store.proofs.Slots.{IsEnding, ended_slots, ended_view}
use Rattle.value_store.proofs.signals.Signals.plain.Goals as goal
use Rattle.value_store.proofs.signals.Signals.plain.Goals.{then-self, else-self}

pub invariant_of-self : goal.invariant_of-self
invariant_of-self c = ended_slots c.self.inside.epoch c.if-self.self-inside.epoch c.self.inside.slots.items c.if-self.self-inside.slots.items way c.self.invariant
  where
    way : IsEnding c.self.inside.epoch c.if-self.self-inside.epoch c.self.inside.slots.items c.if-self.self-inside.slots.items
    way = elim c.if-self.branch [
      | then-self w ↦
          (let size : length w.rewind.new.slots ≡ c.self.inside.slots.len = omega arith in
          inl (ap (λ s. s.slots.items) w.self-inside-is ∙ with_items_is c.self.inside.slots w.rewind.new.slots size ∙ w.rewind.ensures ∙ ap (map rewound) w.as_mut_slice.ensures.value, ap (λ s. s.epoch) w.self-inside-is))
      | else-self w ↦ inr (ap (λ s. s.slots.items) w.self-inside-is, ap (λ s. s.epoch) w.self-inside-is)
    ]

pub returns-clause-value : goal.returns-clause-value
returns-clause-value c = ended_view c.self.inside.epoch c.if-self.self-inside.epoch c.self.inside.slots.items c.if-self.self-inside.slots.items c.args.self.now way c.self.invariant c.self.view_is
  where
    way : IsEnding c.self.inside.epoch c.if-self.self-inside.epoch c.self.inside.slots.items c.if-self.self-inside.slots.items
    way = elim c.if-self.branch [
      | then-self w ↦
          (let size : length w.rewind.new.slots ≡ c.self.inside.slots.len = omega arith in
          inl (ap (λ s. s.slots.items) w.self-inside-is ∙ with_items_is c.self.inside.slots w.rewind.new.slots size ∙ w.rewind.ensures ∙ ap (map rewound) w.as_mut_slice.ensures.value, ap (λ s. s.epoch) w.self-inside-is))
      | else-self w ↦ inr (ap (λ s. s.slots.items) w.self-inside-is, ap (λ s. s.epoch) w.self-inside-is)
    ]

pub returns-clause-reads : goal.returns-clause-reads
returns-clause-reads c = reads_plain c.args.self.now _ (returns-clause-value c)

pub returns-clause-hides : goal.returns-clause-hides
returns-clause-hides c = hides_plain c.args.self.now _ (returns-clause-value c)
