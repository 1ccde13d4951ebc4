use Rattle.std.proofs.Common.{ap, refl, subst, sym}
use Rattle.point_marks.specs.Marking.{with_doubt}
use Rattle.point_marks.specs.declared.verdict.Verdict.TheVariants.{Hit}
use Rattle.signal_marks.specs.Toggled.{toggled, verdict_of}
use Rattle.machine_marks.specs.Marked.{Chances, MarksThose, is_point, is_possible, is_sure}
use Rattle.machine_marks.specs.declared.chance.Chance.{Chance}
use Rattle.machine_marks.proofs.Marked.{no_such, one_marked, unmarked}
use Rattle.machine_marks.proofs.mark.mark_point.Goals as goal

pub returns-in-Never-clause-verdicts : goal.returns-in-Never-clause-verdicts
returns-in-Never-clause-verdicts c =
    let vs = c.args.marks.now.verdicts in
    unmarked c.args.points.now c.args.reason.signal c.args.reason.time (is_point c.args.point) (λ q. record { sure = is_sure c.args.chance; possible = is_possible c.args.chance }) vs
    (λ q e. ap (λ (x : Chance). record { sure = is_sure x; possible = is_possible x }) c.in-Never.is)

pub returns-in-Open-clause-verdicts : goal.returns-in-Open-clause-verdicts
returns-in-Open-clause-verdicts c =
    let ps = c.args.points.now in
    let s = c.args.reason.signal in
    let t = c.args.reason.time in
    let chance : Chances = record { sure = is_sure c.args.chance; possible = is_possible c.args.chance } in
    let vs = c.args.marks.now.verdicts in
    let n = c.in-Some.number in
    let new = with_doubt (record { thing = s; time = t }) (verdict_of vs n) in
    subst (λ after. MarksThose ps s t (is_point c.args.point) (λ q. chance) vs after) (sym c.doubt.ensures.verdicts)
    (one_marked ps s t c.args.point chance n vs new (c.in-Some.ensures.found n refl) (λ k at. cc (c.in-Some.ensures.only k c.requires at)) c.requires.count
    (ap (λ (x : Chance). toggled s t (is_sure x) (is_possible x) (verdict_of vs n)) (sym c.in-Open.is)))

pub returns-in-Sure-clause-verdicts : goal.returns-in-Sure-clause-verdicts
returns-in-Sure-clause-verdicts c =
    let ps = c.args.points.now in
    let s = c.args.reason.signal in
    let t = c.args.reason.time in
    let chance : Chances = record { sure = is_sure c.args.chance; possible = is_possible c.args.chance } in
    let vs = c.args.marks.now.verdicts in
    let n = c.in-Some.number in
    subst (λ after. MarksThose ps s t (is_point c.args.point) (λ q. chance) vs after) (sym c.hit.ensures.verdicts)
    (one_marked ps s t c.args.point chance n vs Hit (c.in-Some.ensures.found n refl) (λ k at. cc (c.in-Some.ensures.only k c.requires at)) c.requires.count
    (ap (λ (x : Chance). toggled s t (is_sure x) (is_possible x) (verdict_of vs n)) (sym c.in-Sure.is)))

pub returns-in_default-clause-verdicts : goal.returns-in_default-clause-verdicts
returns-in_default-clause-verdicts c =
    no_such c.args.points.now c.args.reason.signal c.args.reason.time c.args.point (record { sure = is_sure c.args.chance; possible = is_possible c.args.chance }) c.args.marks.now.verdicts
    (λ k at. cc (c.in_default.ensures.only k c.requires at))
