use Rattle.std.proofs.Common.{◌≡◌, ◌∙◌, ap, subst, sym}
use Rattle.design_model.specs.Design.{body_at}
use Rattle.design_model.specs.Mentions.{body_assigns}
use Rattle.design_model.specs.View.{design_view}
use Rattle.body_store.specs.body_calls.Own.{is_in}
use Rattle.step_parts.specs.replay_model.Step.{settled_kept}
use Rattle.settled_targets.specs.Saved.{AreSaved}
use Rattle.settling.proofs.settled.run_saved.Goals as goal

pub run_settled-requires-clause-same : goal.run_settled-requires-clause-same
run_settled-requires-clause-same g c = ap (λ x. design_view x.now) c.meet_targets.ensures.design ∙ c.requires.same

pub run_settled-requires-clause-written : goal.run_settled-requires-clause-written
run_settled-requires-clause-written g c = λ x.
    subst (λ xs. is_in xs x ≡ body_assigns x (body_at (design_view c.args.rows.now.design.now) c.args.process)) (sym c.row.ensures) (c.requires.rows.written c.args.process x c.requires.settles)

pub run_settled-requires-clause-known : goal.run_settled-requires-clause-known
run_settled-requires-clause-known g c = (c.requires.known.0, _, c.meet_targets.ensures.knows c.requires.known.0 c.requires.known.1 c.requires.known.2)

pub returns-clause-knows : goal.returns-clause-knows
returns-clause-knows g c = λ d k h. c.run_settled.ensures.knows d (settled_kept d c.args.process k) (c.meet_targets.ensures.knows d k h)

pub returns-clause-saved : goal.returns-clause-saved
returns-clause-saved g c = λ d k h. subst (λ row. AreSaved d k row c.save.new.self) c.row-targets.ensures (c.save.ensures.saved d k h)

pub returns-clause-notes : goal.returns-clause-notes
returns-clause-notes g c = λ d k h. c.run_settled.ensures.notes d (settled_kept d c.args.process k) (c.meet_targets.ensures.knows d k h)
