use Rattle.std.proofs.Common.{true, false, subst}
use Rattle.signal_marks.specs.Toggled.{MarksPlaces}
use Rattle.signal_marks.proofs.Steps.{all_toggles}
use Rattle.signal_marks.proofs.toggles.mark_toggles.Goals as goal

pub mark_places-requires-clause-listed : goal.mark_places-requires-clause-listed
mark_places-requires-clause-listed c =
    let l = c.requires.listed in (l.0, l.1, λ i b. rw c.sure.ensures (l.2 true i b))

pub mark_places-requires-2-clause-listed : goal.mark_places-requires-2-clause-listed
mark_places-requires-2-clause-listed c =
    let l = c.requires.listed in (l.0, c.mark_places.ensures.points l.0 l.1, λ i b. rw c.sure-2.ensures (l.2 false i b))

pub mark_places-requires-3-clause-listed : goal.mark_places-requires-3-clause-listed
mark_places-requires-3-clause-listed c =
    let l = c.requires.listed in
    (l.0, c.mark_places-2.ensures.points l.0 (c.mark_places.ensures.points l.0 l.1), λ i b. rw c.open.ensures (l.2 true i b))

pub mark_places-requires-4-clause-listed : goal.mark_places-requires-4-clause-listed
mark_places-requires-4-clause-listed c =
    let l = c.requires.listed in
    (l.0, c.mark_places-3.ensures.points l.0 (c.mark_places-2.ensures.points l.0 (c.mark_places.ensures.points l.0 l.1)), λ i b. rw c.open-2.ensures (l.2 false i b))

pub returns-clause-toggles : goal.returns-clause-toggles
returns-clause-toggles c =
    λ ps of lists. let x = c.args.shape.now in
    let t = c.args.toggles in
    let v0 = c.args.marks.now.verdicts in
    let v1 = c.mark_places.new.marks.verdicts in
    let v2 = c.mark_places-2.new.marks.verdicts in
    let v3 = c.mark_places-3.new.marks.verdicts in
    let v4 = c.mark_places-4.new.marks.verdicts in
    let of1 = c.mark_places.ensures.points ps of in
    let of2 = c.mark_places-2.ensures.points ps of1 in
    let of3 = c.mark_places-3.ensures.points ps of2 in
    all_toggles ps x c.requires.indexed c.requires.plain c.args.signal c.args.time t v0 v1 v2 v3 v4 (subst (λ y. MarksPlaces ps x y t.rises v0 v1) c.sure.ensures (c.mark_places.ensures.verdicts ps of (λ i b. rw c.sure.ensures (lists true i b)))) (subst (λ y. MarksPlaces ps x y t.falls v1 v2) c.sure-2.ensures (c.mark_places-2.ensures.verdicts ps of1 (λ i b. rw c.sure-2.ensures (lists false i b)))) (subst (λ y. MarksPlaces ps x y t.may_rise v2 v3) c.open.ensures (c.mark_places-3.ensures.verdicts ps of2 (λ i b. rw c.open.ensures (lists true i b)))) (subst (λ y. MarksPlaces ps x y t.may_fall v3 v4) c.open-2.ensures (c.mark_places-4.ensures.verdicts ps of3 (λ i b. rw c.open-2.ensures (lists false i b))))
