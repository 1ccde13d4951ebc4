use Rattle.std.proofs.Common.{None, ap, subst, sym, ⊎_elim, ◌≡◌}
use Rattle.design_model.specs.Design.{body}
use Rattle.design_model.specs.View.{process_view, stmt_view}
use Rattle.body_replay.specs.Replay.{run}
use Rattle.assignments.specs.scene_laws.At.{IsState}
use Rattle.block_runs.proofs.Ways.{at_first}
use Rattle.block_runs.proofs.process.run_process.Goals as goal

pub returns-in-Assign-clause-state : goal.returns-in-Assign-clause-state
returns-in-Assign-clause-state g c = λ start d a h.
    subst (λ p. IsState d (run d (body (process_view p)) None a) (run d (body (process_view p)) None a).first (g.B.Reads.scene c.assign.new.store) (g.B.Bodies.queued c.assign.new.store) (λ ms. g.N.Notes.noted start ms c.assign.new.notes)) (sym c.in-Assign.is)
    (at_first d _ _ _ _ _ (c.assign.ensures.state start d a h))

pub returns-in-Comb-clause-state : goal.returns-in-Comb-clause-state
returns-in-Comb-clause-state g c = λ start d a h.
    let is : body (process_view c.args.process.now) ≡ stmt_view c.in-Comb.body = ⊎_elim (λ x. ap (λ p. body (process_view p)) x.2) (λ x. ap (λ p. body (process_view p)) x.2) c.in-Comb.is in
    subst (λ s. IsState d (run d s None a) (run d s None a).first (g.B.Reads.scene c.run_statement.new.store) (g.B.Bodies.queued c.run_statement.new.store) (λ ms. g.N.Notes.noted start ms c.run_statement.new.notes)) (sym is)
    (at_first d _ _ _ _ _ (c.run_statement.ensures.state start d a h))
