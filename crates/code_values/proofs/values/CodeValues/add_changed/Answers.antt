use Rattle.std.proofs.Common.{◌∙◌, subst, sym, ap, arith}
use Rattle.std.proofs.lemmas.Bool.{false≢true}
use Rattle.code_values.specs.Values.{AddsChanged, AddsRow, IsChanged}
use Rattle.index_sets.specs.Rows.{row_at}
use Rattle.code_values.proofs.Changing.{AddsSoFar, all_changed, changed_more, same_more}
use Rattle.code_values.proofs.values.CodeValues.add_changed.Goals as goal
use Rattle.code_values.proofs.values.CodeValues.add_changed.Goals.{then-is_changed, else-is_changed}

pub insert_row-requires : goal.insert_row-requires
insert_row-requires c =
    λ s h. rw c.loop-place.invariant.0 (c.requires.below c.get-code.result s (rw (← c.row.ensures) h))

pub loop-place-preserved : goal.loop-place-preserved
loop-place-preserved c =
    elim c.if-is_changed.branch [
      | then-is_changed w ↦ rw w.changed-is (
        w.insert_row.ensures.size ∙ c.loop-place.invariant.0,
        changed_more c.args.self.now c.args.signals.now c.self.inside.given.items c.args.changed.now.items c.loop-place.changed.items w.insert_row.new.changed.items c.loop-place.place (omega (arith, c.loop-place-test.true, c.len-place-end.ensures.value)) (subst (IsChanged c.args.self.now) c.get-code.ensures.value (c.is_changed.ensures.0 w.if-is_changed.true)) c.loop-place.invariant.1 (subst (λ r. AddsRow r c.loop-place.changed.items w.insert_row.new.changed.items) (w.row.ensures ∙ ap (row_at c.args.signals.now) c.get-code.ensures.value) w.insert_row.ensures.added),
      )
      | else-is_changed w ↦ rw w.changed-is (
        c.loop-place.invariant.0,
        same_more c.args.self.now c.args.signals.now c.self.inside.given.items c.args.changed.now.items c.loop-place.changed.items c.loop-place.place (λ h. false≢true (sym w.if-is_changed.false ∙ c.is_changed.ensures.1 (subst (IsChanged c.args.self.now) (sym c.get-code.ensures.value) h))) c.loop-place.invariant.1,
      )
    ]

pub returns-clause-changed : goal.returns-clause-changed
returns-clause-changed c =
    subst (λ t. AddsChanged t c.args.signals.now c.args.changed.now.items c.loop-place.changed.items) c.self.view_is (all_changed c.self.inside.closed.items c.self.inside.last.items c.self.inside.given c.args.signals.now c.args.changed.now.items c.loop-place.changed.items c.loop-place.place c.self.invariant (omega (arith, c.loop-place-test.false, c.len-place-end.ensures.value)) (subst (λ t. AddsSoFar t c.args.signals.now c.self.inside.given.items c.loop-place.place c.args.changed.now.items c.loop-place.changed.items) (sym c.self.view_is) c.loop-place.invariant.1))
