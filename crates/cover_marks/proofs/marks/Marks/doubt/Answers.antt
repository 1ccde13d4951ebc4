use Rattle.std.proofs.Common.{get_or, refl}
use Rattle.point_marks.specs.Marking.{with_doubt}
use Rattle.point_marks.specs.declared.verdict.Doubt.{Doubt}
use Rattle.point_marks.specs.declared.verdict.Verdict.TheVariants.{Missed}
use Rattle.cover_marks.specs.Owners.{owners_of}
use Rattle.cover_marks.proofs.Counts.{doubted}
use Rattle.cover_marks.proofs.Settled.{set_marks}
use Rattle.cover_marks.proofs.marks.Marks.doubt.Goals as goal

pub returns-clause-points : goal.returns-clause-points
returns-clause-points c = λ points h.
    let m = c.args.self.now in
    let y : Doubt = record { thing = c.args.thing; time = c.args.time } in
    set_marks points m _ c.args.point (with_doubt y (get_or m.verdicts c.args.point Missed)) h refl c.doubt.ensures.verdicts (doubted (owners_of points) m.verdicts m.open_points h.counts c.args.point y)
