use Rattle.std.proofs.Common.{Option, [], ◌∷◌, ◌++◌, refl, subst, sym}
use Rattle.block_runs.specs.Notes.{note_of}
use Rattle.block_runs.specs.declared.notes.Doubt.{Doubt}
use Rattle.run_marks.specs.Reported.{HasReported}
use Rattle.run_marks.proofs.Reports.{reports_doubt, reports_hit, reports_settled}
use Rattle.run_marks.proofs.notes.MarkNotes.mark.Goals as goal

pub returns-then-is_settled-clause-marked : goal.returns-then-is_settled-clause-marked
returns-then-is_settled-clause-marked c =
    let x = c.args.self.now in
    λ s ns h. reports_settled x.process x.points.now x.marks x.marks c.args.spot s ns h c.args.doubt (λ marks k at. c.is_settled.ensures c.if-is_settled.true x.points.now k marks at)

pub returns-in-None-clause-marked : goal.returns-in-None-clause-marked
returns-in-None-clause-marked c =
    let x = c.args.self.now in
    λ s ns h.
    subst (λ (o : Option Doubt). HasReported s (ns ++ note_of c.args.spot o ∷ []) x.process x.points.now c.hit.new.self) (sym c.in-None.is)
    (reports_hit x.process x.points.now x.marks c.hit.new.self c.args.spot s ns h c.in-Some.point (c.in-Some.ensures.found c.in-Some.point refl) c.hit.ensures.points c.hit.ensures.verdicts)

pub returns-in-Some-doubt-clause-marked : goal.returns-in-Some-doubt-clause-marked
returns-in-Some-doubt-clause-marked c =
    let x = c.args.self.now in
    λ s ns h.
    subst (λ (o : Option Doubt). HasReported s (ns ++ note_of c.args.spot o ∷ []) x.process x.points.now c.doubt.new.self) (sym c.in-Some-doubt.is)
    (reports_doubt x.process x.points.now x.marks c.doubt.new.self c.args.spot s ns h c.in-Some.point c.in-Some-doubt.doubt (c.in-Some.ensures.found c.in-Some.point refl) c.doubt.ensures.points c.doubt.ensures.verdicts)

pub returns-in_default-clause-marked : goal.returns-in_default-clause-marked
returns-in_default-clause-marked c =
    let x = c.args.self.now in
    λ s ns h. reports_settled x.process x.points.now x.marks x.marks c.args.spot s ns h c.args.doubt (c.find_open.ensures.none c.in_default.is)
