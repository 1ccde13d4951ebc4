use Rattle.std.proofs.Common.{List, None, Some, [], refl, subst, sym, ◌++◌, ◌∷◌, ◌≡◌}
use Rattle.design_model.specs.Design.{body}
use Rattle.design_model.specs.View.{process_view}
use Rattle.body_replay.specs.Contract.{notes_of}
use Rattle.body_replay.specs.Replay.{Mark}
use Rattle.block_runs.specs.Notes.{way_of}
use Rattle.block_runs.proofs.Noting.{none_noted}
use Rattle.block_runs.proofs.Queued.{after_queue}
use Rattle.block_runs.proofs.Evaluated.{begins, begun, is_kept, left, marks_noted, owned, writes_queued}
use Rattle.block_runs.proofs.strong.run_strong.Goals as goal

pub returns-clause-kept : goal.returns-clause-kept
returns-clause-kept g c =
    let u = g.B.Bodies.under c.args.store.now in
    let v = g.B.Reads.scene c.args.store.now in
    let s = body (process_view c.args.process.now) in
    let q = g.B.Bodies.queued c.args.store.now in
    let Noted : List Mark → Type 0 = λ ms. Unit {0} in
    let ran = c.run_process.ensures.state None v.design (after_queue (q ∷ []) (begun u v s)) (begins u v s q Noted c.requires.read_own tt) in
    is_kept u v s q (g.B.Bodies.queued c.run_process.new.store) _ (g.B.Reads.scene c.run_process.new.store) Noted ran (g.B.Bodies.under c.run_process.new.store) c.run_process.ensures.under

pub returns-clause-queued : goal.returns-clause-queued
returns-clause-queued g c =
    let u = g.B.Bodies.under c.args.store.now in
    let v = g.B.Reads.scene c.args.store.now in
    let s = body (process_view c.args.process.now) in
    let q = g.B.Bodies.queued c.args.store.now in
    let Noted : List Mark → Type 0 = λ ms. Unit {0} in
    let ran = c.run_process.ensures.state None v.design (after_queue (q ∷ []) (begun u v s)) (begins u v s q Noted c.requires.read_own tt) in
    writes_queued u v s q (g.B.Bodies.queued c.run_process.new.store) _ (g.B.Reads.scene c.run_process.new.store) Noted ran

pub returns-clause-notes : goal.returns-clause-notes
returns-clause-notes g c =
    let u = g.B.Bodies.under c.args.store.now in
    let v = g.B.Reads.scene c.args.store.now in
    let s = body (process_view c.args.process.now) in
    let q = g.B.Bodies.queued c.args.store.now in
    let how = way_of c.args.how in
    record {
      added = λ start earlier h.
          let noted = g.N.BlockNotes.noted start in
          let begins_noted = subst (λ z. noted z c.args.notes.now) (sym (none_noted how earlier)) h in
          let ran = c.run_process.ensures.state (Some (record { start = start; earlier = earlier; how = c.args.how; name = c.sink-1.given })) v.design (after_queue (q ∷ []) (begun u v s)) (begins u v s q (λ ms. (c.args.how ≡ c.args.how) × (c.sink-1.given ≡ c.sink-1.given) × noted (earlier ++ notes_of how ms) c.args.notes.now) c.requires.read_own (refl, refl, begins_noted)) in
          let r = marks_noted u v s q (g.B.Bodies.queued c.run_process.new.store) _ (g.B.Reads.scene c.run_process.new.store) _ ran in
          subst (noted (earlier ++ notes_of how (left u v s).marks)) (sym (c.notes-1.given.1 (sym r.1))) r.2;
    }

pub returns-clause-own : goal.returns-clause-own
returns-clause-own g c = λ xs all.
    let u = g.B.Bodies.under c.args.store.now in
    let v = g.B.Reads.scene c.args.store.now in
    let s = body (process_view c.args.process.now) in
    let q = g.B.Bodies.queued c.args.store.now in
    let Noted : List Mark → Type 0 = λ ms. Unit {0} in
    let ran = c.run_process.ensures.state None v.design (after_queue (q ∷ []) (begun u v s)) (begins u v s q Noted c.requires.read_own tt) in
    owned u v s q (g.B.Bodies.queued c.run_process.new.store) _ (g.B.Reads.scene c.run_process.new.store) Noted ran (g.B.Bodies.under c.run_process.new.store) c.run_process.ensures.under c.requires.kept_own xs all
