use Rattle.std.proofs.Common.{◌≡◌, ◌∙◌, ℕ, List, length, sym, ap, subst, arith}
use Rattle.std.specs.Prelude.{nat_eq, replicate}
use Rattle.std.specs.List.{count_by}
use Rattle.cover_points.specs.Listed.{points_of}
use Rattle.point_marks.specs.declared.verdict.Verdict.{Verdict}
use Rattle.cover_marks.specs.Counted.{IsOpenBy}
use Rattle.cover_marks.specs.Owners.{owners_of}
use Rattle.cover_marks.specs.declared.open.OpenPoints.{OpenPoints}
use Rattle.cover_marks.proofs.Counts.{started}
use Rattle.cover_marks.proofs.Settled.{owners_few}
use Rattle.cover_marks.proofs.open.OpenPoints.new.Goals as goal

pub counts_of-requires : goal.counts_of-requires
counts_of-requires c = omega (arith, ap length c.as_slice.ensures.value, ap length c.in_ok-owners.ensures, owners_few c.args.points.now, c.requires)

pub returns : goal.returns
returns c = λ verdicts e.
    let ps = c.args.points.now in
    let made : OpenPoints = record { owners = c.in_ok-owners.owners; counts = c.in_ok-counts.counts } in
    subst (λ (vs : List Verdict). IsOpenBy (owners_of ps) vs made) (sym e)
    (started (owners_of ps) (length (points_of ps)) made (owners_few ps) c.in_ok-owners.ensures (λ p. c.in_ok-counts.ensures p ∙ ap (count_by (nat_eq p)) c.as_slice.ensures.value))
