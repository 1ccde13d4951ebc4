use Rattle.std.proofs.Common.{◌∙◌, None, Some, ap, set, sym}
use Rattle.cover_marks.specs.cover_points.declared.visit.Visit.TheVariants.{Toggle}
use Rattle.signal_marks.specs.Toggled.{marked_by, verdict_of}
use Rattle.signal_marks.proofs.Marked.{point_inside}
use Rattle.signal_marks.proofs.places.mark_bit.Goals as goal

pub doubt-requires : goal.doubt-requires
doubt-requires c =
    let r = c.requires in
    point_inside r.0 c.args.marks.now (Toggle c.args.toggling.signal c.args.index c.args.toggling.rise) r.1 c.point-point.result r.2 r.3 (c.point-point.ensures r.0 r.1 r.2 r.3)

pub hit-requires : goal.hit-requires
hit-requires c =
    let r = c.requires in
    point_inside r.0 c.args.marks.now (Toggle c.args.toggling.signal c.args.index c.args.toggling.rise) r.1 c.point-point.result r.2 r.3 (c.point-point.ensures r.0 r.1 r.2 r.3)

pub returns-in-Some-clause-verdicts : goal.returns-in-Some-clause-verdicts
returns-in-Some-clause-verdicts c =
    λ ps k of visit. let old = c.args.marks.now.verdicts in
    let s = c.args.toggling.signal in
    c.doubt.ensures.verdicts ∙ ap (λ j. set old j (marked_by s (Some c.in-Some.time) (verdict_of old j))) (c.point-point.ensures ps k of visit) ∙ sym (ap (λ o. set old k (marked_by s o (verdict_of old k))) c.in-Some.is)

pub returns-in-None-clause-verdicts : goal.returns-in-None-clause-verdicts
returns-in-None-clause-verdicts c =
    λ ps k of visit. let old = c.args.marks.now.verdicts in
    let s = c.args.toggling.signal in
    c.hit.ensures.verdicts ∙ ap (λ j. set old j (marked_by s None (verdict_of old j))) (c.point-point.ensures ps k of visit) ∙ sym (ap (λ o. set old k (marked_by s o (verdict_of old k))) c.in-None.is)
