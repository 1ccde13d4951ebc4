use Rattle.std.proofs.Common.{◌≡◌, ℕ, subst}
use Rattle.mark_laws.specs.Marked.{verdict_at}
use Rattle.mark_laws.specs.Numbered.{visit_at}
use Rattle.point_marks.specs.declared.verdict.Verdict.TheVariants.{Hit}
use Rattle.term_replay.specs.Noted.{spot_of}
use Rattle.run_marks.proofs.Reports.{not_at}
use Rattle.run_marks.proofs.spots.find_open.Goals as goal

pub returns-then-is_hit-clause-none : goal.returns-then-is_hit-clause-none
returns-then-is_hit-clause-none c none marks k at =
    subst (λ (i : ℕ). verdict_at c.args.marks.now.verdicts i ≡ Hit) (c.number_of-number.ensures c.args.points.now k marks at) (c.is_hit.ensures.0 c.if-is_hit.true)

pub returns-else-is_point-clause-none : goal.returns-else-is_point-clause-none
returns-else-is_point-clause-none c none marks k at =
    absurd (not_at c.args.points.now c.args.marks.now (visit_at c.args.process (spot_of c.args.spot)) c.number_of-number.result c.is_point.result c.is_point.ensures c.if-is_point.false c.number_of-number.ensures marks k at)
