use Rattle.std.proofs.Common.{◌≡◌, ◌∙◌, ◌<◌, ap, length, subst, sym}
use Rattle.std.proofs.lemmas.List.{get_or_default}
use Rattle.design_model.specs.Design.{Design, signal_at}
use Rattle.cover_marks.specs.cover_points.declared.listing.Points.{Points}
use Rattle.cover_marks.specs.Marks.{AreMarksOf}
use Rattle.signal_marks.specs.Toggled.{ListsBoth, MarksToggles}
use Rattle.signal_marks.specs.Seen.{AreSeen, IsSeen, masks_of, no_toggles}
use Rattle.signal_marks.proofs.Masks.{all_seen, change_of, own_seen, seen_after, whole_toggles}
use Rattle.signal_marks.proofs.seen.SignalMarks.mark.Goals as goal

inside : (c : goal.After-self-1) → c.args.signal < length c.self.inside.masks.items
inside c = subst (λ ms. c.args.signal < length ms) (sym c.self.view_is) c.requires.within

-- the masks of the signal
masks_are : (c : goal.After-self-1) → masks_of c.args.self.now c.args.signal ≡ c.index-seen.result.now
masks_are c =
    ap (λ ms. masks_of ms c.args.signal) (sym c.self.view_is) ∙ get_or_default c.self.inside.masks.items c.args.signal no_toggles c.index-seen.result.now (inside c) ∙ sym c.index-seen.ensures

own : (c : goal.After-self-1) (d : Design) (ps : Points) → c.args.shape.now ≡ signal_at d c.args.signal → AreSeen d ps c.args.self.now c.args.marks.now.verdicts → IsSeen ps c.args.shape.now c.args.signal c.index-seen.result.now c.args.marks.now.verdicts
own c d ps is seen = own_seen d ps c.args.shape.now c.args.signal c.args.self.now c.index-seen.result.now c.args.marks.now.verdicts is (masks_are c) seen

-- all toggles of the step, those that were left out with them
whole : (c : goal.After-self-1) (d : Design) (ps : Points) → c.args.shape.now ≡ signal_at d c.args.signal → AreMarksOf ps c.args.marks.now → ListsBoth ps c.args.shape.now c.args.signal → AreSeen d ps c.args.self.now c.args.marks.now.verdicts
    → MarksToggles ps c.args.shape.now c.args.signal c.args.time c.between-toggles.result c.args.marks.now.verdicts c.mark_toggles.new.marks.verdicts
whole c d ps is of lists seen =
    whole_toggles ps c.args.shape.now c.args.signal c.args.time c.between-toggles.result c.args.marks.now.verdicts c.mark_toggles.new.marks.verdicts c.index-seen.result.now c.without.result c.requires.width
    c.without.ensures.rises c.without.ensures.falls c.without.ensures.may_rise c.without.ensures.may_fall (own c d ps is seen) (c.mark_toggles.ensures.toggles ps of lists)

pub returns-clause-toggles : goal.returns-clause-toggles
returns-clause-toggles c =
    λ d ps is of lists seen. let e = c.between-toggles.ensures in
    change_of ps c.args.shape.now c.args.signal c.args.time c.between-toggles.result c.args.marks.now.verdicts c.mark_toggles.new.marks.verdicts c.args.before.now.bits c.args.after.now.bits c.requires.before e.rises e.falls e.may_rise e.may_fall (whole c d ps is of lists seen)

pub returns-clause-seen : goal.returns-clause-seen
returns-clause-seen c =
    λ d ps is of lists seen. let s = c.args.signal in
    let v0 = c.args.marks.now.verdicts in
    let v1 = c.mark_toggles.new.marks.verdicts in
    let t = c.between-toggles.result in
    let b = c.both.ensures in
    let marked = whole c d ps is of lists seen in
    let after = seen_after ps c.args.shape.now s c.args.time t v0 v1 c.index-seen.result.now c.both.result b.rises b.falls b.may_rise b.may_fall (own c d ps is seen) marked in
    all_seen d ps s c.args.time t c.both.result c.self.inside.masks.items v0 v1 (inside c) (subst (λ y. IsSeen ps y s c.both.result v1) is after) (subst (λ y. MarksToggles ps y s c.args.time t v0 v1) is marked) (subst (λ ms. AreSeen d ps ms v0) (sym c.self.view_is) seen)
