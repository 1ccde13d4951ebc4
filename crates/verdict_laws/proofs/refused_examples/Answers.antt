use Rattle.std.proofs.Common.{◌≡◌, ◌∙◌, sym, subst}
use Rattle.coverage_db.specs.declared.verdict.DbVerdict.TheVariants as verdict
use Rattle.design_model.specs.Points.{IsHit}
use Rattle.verdict_laws.specs.Sound.{Says}
use Rattle.verdict_laws.proofs.refused_examples.Goals as goal

pub returns-clause-missed : goal.returns-clause-missed
returns-clause-missed c d h dump ms rows row x r marked is_point names shows hit sound =
    subst (λ v. Says v (IsHit d dump r x)) marked (sound x is_point names r shows) hit

pub returns-clause-hit : goal.returns-clause-hit
returns-clause-hit c d h dump ms rows row x r marked is_point names shows never sound =
    never (subst (λ v. Says v (IsHit d dump r x)) marked (sound x is_point names r shows))

pub returns-clause-open : goal.returns-clause-open
returns-clause-open c d h dump x row time path marked reached reasoned =
    let same : verdict.Undetermined time path ≡ verdict.Hit = sym marked ∙ reasoned.reached reached in
    absurd (cc)
