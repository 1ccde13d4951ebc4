use Rattle.std.proofs.Common.{◌≡◌, ◌∙◌, IfNone, IfSome, length, ap, refl, subst, sym}
use Rattle.design_model.specs.View.{design_view}
use Rattle.replay_core.specs.Closing.{Closes, Counts, Refutes}
use Rattle.replay_core.specs.Faults.{phase_after}
use Rattle.replay_core.specs.Fits.{FitsParts, HaveValues}
use Rattle.replay_core.specs.Made.{made_with, parts_with}
use Rattle.replay_core.specs.Parts.{IsReady, given_of, made_of, parts_of}
use Rattle.replay_core.specs.declared.replay.Replay.{Replay}
use Rattle.replay_core.proofs.ClosingStep.{closed_ready, contradiction_after, counts_after, followed_after, is_started, named_after, none_then, refused_after, started_after}
use Rattle.replay_core.proofs.replay.Replay.close_at.Goals as goal

pub returns-clause-ready : goal.returns-clause-ready
returns-clause-ready g c =
    let x = c.args.self.now in
    let run = c.run_step-found in
    let d = design_view x.design.now in
    let points = x.state.notes.points.now in
    let ready = c.requires.ready in
    let fits = subst (λ tables. FitsParts d points tables run.new.room run.new.state) c.deref.ensures run.ensures.fits in
    let have = subst (HaveValues x.tables.value.step.codes.items) (sym run.ensures.values) (ready.begun (is_started x.phase c.requires.started c.in_default.not-Refused)) in
    let given = ready.begun (is_started x.phase c.requires.started c.in_default.not-Refused) in
    let closed = none_then run.result run.ensures.closed (λ is. subst (HaveValues x.tables.value.step.codes.items) (sym is) given) in
    subst IsReady (sym c.end.ensures.phase) (closed_ready d points x.tables.value run.new.room run.new.state (phase_after run.result c.args.time) run.result c.args.time refl ready.replayable fits run.ensures.points run.ensures.none
    run.ensures.none_clocked have closed run.ensures.named)

pub returns-clause-made : goal.returns-clause-made
returns-clause-made g c =
    let x = c.args.self.now in
    ap made_of c.end.ensures.phase ∙ ap (λ points. made_with (design_view x.design.now) x.habit points x.tables.value) c.run_step-found.ensures.points

pub returns-clause-values : goal.returns-clause-values
returns-clause-values g c = ap given_of c.end.ensures.phase ∙ c.run_step-found.ensures.values

pub returns-clause-started : goal.returns-clause-started
returns-clause-started g c = started_after c.args.self.now c.end.new.self c.run_step-found.result c.args.time c.args.listed (ap (λ (y : Replay). y.phase) c.end.ensures.phase) c.end.result c.end.ensures.ok c.end.ensures.err

pub returns-clause-followed : goal.returns-clause-followed
returns-clause-followed g c =
    let x = c.args.self.now in
    let y = c.end.new.self in
    let run = c.run_step-found in
    let d = design_view x.design.now in
    let points = x.state.notes.points.now in
    let same : made_of y ≡ made_of x = ap made_of c.end.ensures.phase ∙ ap (λ ps. made_with d x.habit ps x.tables.value) run.ensures.points in
    let closes1 = subst (λ tables. IfNone run.result (Closes (made_with d x.habit points tables) c.args.time c.args.listed (parts_with c.deref_mut.result.now x.state) (parts_with run.new.room run.new.state))) c.deref.ensures run.ensures.closes in
    let closes2 = subst (λ room. IfNone run.result (Closes (made_of x) c.args.time c.args.listed (parts_with room x.state) (parts_with run.new.room run.new.state))) c.deref_mut.ensures.value closes1 in
    let closes3 = subst (λ z. IfNone run.result (Closes (made_of x) c.args.time c.args.listed (parts_of x) (parts_of z))) (sym c.end.ensures.phase) closes2 in
    followed_after x y run.result c.args.time c.args.listed (ap (λ (z : Replay). z.phase) c.end.ensures.phase) c.end.result c.end.ensures.ok c.end.ensures.err c.requires.ready.parts.state.unsigned same closes3

pub returns-clause-refused : goal.returns-clause-refused
returns-clause-refused g c = refused_after c.args.self.now c.end.new.self c.run_step-found.result c.args.time c.args.listed (ap (λ (y : Replay). y.phase) c.end.ensures.phase) c.end.result c.end.ensures.ok c.end.ensures.err

pub returns-clause-contradiction : goal.returns-clause-contradiction
returns-clause-contradiction g c =
    let x = c.args.self.now in
    let run = c.run_step-found in
    let d = design_view x.design.now in
    let points = x.state.notes.points.now in
    let refutes1 = subst (λ tables. IfSome run.result (Refutes (made_with d x.habit points tables) c.args.time c.args.listed (parts_with c.deref_mut.result.now x.state))) c.deref.ensures run.ensures.refutes in
    let refutes2 = subst (λ room. IfSome run.result (Refutes (made_of x) c.args.time c.args.listed (parts_with room x.state))) c.deref_mut.ensures.value refutes1 in
    contradiction_after x c.end.new.self run.result c.args.time c.args.listed (ap (λ (y : Replay). y.phase) c.end.ensures.phase) c.end.result c.end.ensures.ok c.end.ensures.err c.requires.ready.parts.state.unsigned refutes2

pub returns-clause-again : goal.returns-clause-again
returns-clause-again g c = λ fault refused. absurd (c.in_default.not-Refused fault refused)

pub returns-clause-named : goal.returns-clause-named
returns-clause-named g c =
    let x = c.args.self.now in
    named_after x c.end.new.self c.run_step-found.result c.args.time c.args.listed (ap (λ (y : Replay). y.phase) c.end.ensures.phase) c.end.result c.end.ensures.ok c.end.ensures.err (length x.design.now.signals) c.run_step-found.ensures.named

pub returns-clause-steps : goal.returns-clause-steps
returns-clause-steps g c =
    let x = c.args.self.now in
    let run = c.run_step-found in
    let d = design_view x.design.now in
    let points = x.state.notes.points.now in
    let before = c.args.steps.now in
    let after = run.new.steps in
    let counts1 = subst (λ tables. Counts (made_with d x.habit points tables) c.args.time c.args.listed (parts_with c.deref_mut.result.now x.state) before after) c.deref.ensures run.ensures.counts in
    let counts2 = subst (λ room. Counts (made_of x) c.args.time c.args.listed (parts_with room x.state) before after) c.deref_mut.ensures.value counts1 in
    counts_after x c.args.time c.args.listed before after c.requires.ready.parts.state.unsigned counts2
