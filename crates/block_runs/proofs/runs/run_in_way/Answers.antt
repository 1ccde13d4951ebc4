use Rattle.std.proofs.Common.{ap, append-nil, subst, sym, ◌++◌, ◌∙◌}
use Rattle.design_model.specs.Design.{body}
use Rattle.design_model.specs.View.{process_view}
use Rattle.body_replay.specs.Contract.{Outcome, weak_queue}
use Rattle.body_replay.specs.Runs.{own_store}
use Rattle.body_calls.specs.Under.{kept_with}
use Rattle.assignments.specs.scene_laws.At.{flat}
use Rattle.block_runs.specs.Met.{met}
use Rattle.block_runs.specs.Notes.{AddsNotes, way_of}
use Rattle.block_runs.proofs.Ways.{strong_is}
use Rattle.block_runs.proofs.WeakWay.{own_outside, strong_way, weak_is}
use Rattle.block_runs.proofs.runs.run_in_way.Goals as goal

pub returns-then-is_weak-clause-kept : goal.returns-then-is_weak-clause-kept
returns-then-is_weak-clause-kept g c =
    let u = g.S.Bodies.under c.args.store.now in
    let v = g.S.Reads.scene c.args.store.now in
    c.run_weak.ensures.kept ∙ sym (ap (λ (o : Outcome). o.kept) (weak_is v.design (body (process_view c.args.process.now)) (own_store (met u v)) (way_of c.args.how) (sym c.is_weak.ensures ∙ c.if-is_weak.true)))

pub returns-then-is_weak-clause-queued : goal.returns-then-is_weak-clause-queued
returns-then-is_weak-clause-queued g c =
    let u = g.S.Bodies.under c.args.store.now in
    let v = g.S.Reads.scene c.args.store.now in
    c.run_weak.ensures.queued
    ∙ ap (λ z. g.S.Bodies.queued c.args.store.now ++ z) (sym (append-nil (weak_queue v.design (body (process_view c.args.process.now)))))
    ∙ sym (ap (λ (o : Outcome). g.S.Bodies.queued c.args.store.now ++ flat o.queue) (weak_is v.design (body (process_view c.args.process.now)) (own_store (met u v)) (way_of c.args.how) (sym c.is_weak.ensures ∙ c.if-is_weak.true)))

pub returns-then-is_weak-clause-notes : goal.returns-then-is_weak-clause-notes
returns-then-is_weak-clause-notes g c =
    let u = g.S.Bodies.under c.args.store.now in
    let v = g.S.Reads.scene c.args.store.now in
    subst (λ (o : Outcome). AddsNotes g.N.BlockNotes.noted c.args.notes.now o.notes c.run_weak.new.notes) (sym (weak_is v.design (body (process_view c.args.process.now)) (own_store (met u v)) (way_of c.args.how) (sym c.is_weak.ensures ∙ c.if-is_weak.true))) c.run_weak.ensures.notes

pub returns-then-is_weak-clause-own : goal.returns-then-is_weak-clause-own
returns-then-is_weak-clause-own g c = λ xs all. own_outside xs (kept_with (g.S.Bodies.under c.run_weak.new.store) (g.S.Reads.scene c.run_weak.new.store)) c.run_weak.ensures.own

pub returns-else-is_weak-clause-kept : goal.returns-else-is_weak-clause-kept
returns-else-is_weak-clause-kept g c =
    let u = g.S.Bodies.under c.args.store.now in
    let v = g.S.Reads.scene c.args.store.now in
    c.run_strong.ensures.kept ∙ sym (ap (λ (o : Outcome). o.kept) (strong_is v.design (body (process_view c.args.process.now)) (own_store (met u v)) (way_of c.args.how) (strong_way (way_of c.args.how) (sym c.is_weak.ensures ∙ c.if-is_weak.false))))

pub returns-else-is_weak-clause-queued : goal.returns-else-is_weak-clause-queued
returns-else-is_weak-clause-queued g c =
    let u = g.S.Bodies.under c.args.store.now in
    let v = g.S.Reads.scene c.args.store.now in
    c.run_strong.ensures.queued ∙ sym (ap (λ (o : Outcome). g.S.Bodies.queued c.args.store.now ++ flat o.queue) (strong_is v.design (body (process_view c.args.process.now)) (own_store (met u v)) (way_of c.args.how) (strong_way (way_of c.args.how) (sym c.is_weak.ensures ∙ c.if-is_weak.false))))

pub returns-else-is_weak-clause-notes : goal.returns-else-is_weak-clause-notes
returns-else-is_weak-clause-notes g c =
    let u = g.S.Bodies.under c.args.store.now in
    let v = g.S.Reads.scene c.args.store.now in
    subst (λ (o : Outcome). AddsNotes g.N.BlockNotes.noted c.args.notes.now o.notes c.run_strong.new.notes) (sym (strong_is v.design (body (process_view c.args.process.now)) (own_store (met u v)) (way_of c.args.how) (strong_way (way_of c.args.how) (sym c.is_weak.ensures ∙ c.if-is_weak.false)))) c.run_strong.ensures.notes
