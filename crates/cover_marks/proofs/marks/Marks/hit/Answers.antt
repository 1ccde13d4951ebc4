use Rattle.std.proofs.Common.{refl, sym}
use Rattle.point_marks.specs.declared.verdict.Verdict.TheVariants.{Hit}
use Rattle.cover_marks.specs.Owners.{owners_of}
use Rattle.cover_marks.proofs.Settled.{set_marks}
use Rattle.cover_marks.proofs.marks.Marks.hit.Goals as goal

pub returns-clause-points : goal.returns-clause-points
returns-clause-points c = λ points h.
    let m = c.args.self.now in
    set_marks points m _ c.args.point Hit h refl c.hit-2.ensures.verdicts (c.hit.ensures (owners_of points) m.verdicts h.counts c.requires (sym c.verdict-before.ensures.value))
