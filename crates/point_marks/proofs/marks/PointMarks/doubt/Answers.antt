use Rattle.std.proofs.Common.{◌≡◌, ◌<◌, List, length, get_or, ap, ◌∙◌}
use Rattle.std.proofs.lemmas.List.{get_or_default}
use Rattle.point_marks.specs.Marking.{with_doubt}
use Rattle.point_marks.specs.declared.verdict.Doubt.{Doubt}
use Rattle.point_marks.specs.declared.verdict.Verdict.{Verdict}
use Rattle.point_marks.specs.declared.verdict.Verdict.TheVariants.{Missed}
use Rattle.point_marks.proofs.Marking.{doubt_marked}
use Rattle.point_marks.proofs.marks.PointMarks.doubt.Goals as goal

pub returns-clause-markings : goal.returns-clause-markings
returns-clause-markings c = λ markings h.
    let y : Doubt = record { thing = c.args.thing; time = c.args.time } in
    let k = c.args.point in
    let items : List Verdict = c.self.inside.verdicts.items in
    let whole : items ≡ c.args.self.now = c.self.view_is in
    let l : k < length items = rw whole c.requires in
    let read : c.index.result.now ≡ get_or c.args.self.now k Missed =
    (c.index.ensures ∙ get_or_default items k c.index.result.now Missed l) ∙ ap (λ xs. get_or xs k Missed) whole in
    let is : c.with_doubt.result ≡ with_doubt y (get_or c.args.self.now k Missed) = c.with_doubt.ensures ∙ ap (with_doubt y) read in
    rw (is, whole) (doubt_marked markings c.args.self.now k y c.requires h)
