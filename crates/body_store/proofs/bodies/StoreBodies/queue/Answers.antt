use Rattle.std.proofs.Common.{ap, ◌∙◌}
use Rattle.design_model.specs.View.{design_view}
use Rattle.body_store.specs.declared.update.Update.{Update}
use Rattle.body_store.specs.Updates.{are_taken, queued_writes}
use Rattle.body_store.proofs.Queued.{queued_more, taken_more}
use Rattle.body_store.proofs.bodies.StoreBodies.queue.Goals as goal

pub invariant_of-self : goal.invariant_of-self
invariant_of-self c =
    let x = c.args.self.now in
    let d = design_view x.design.now in
    let u : Update = record { to = c.args.to.now; value = c.args.part.now; certain = c.args.certain } in
    record { fits = x.fits; logged = x.logged; sized = x.sized; words_logged = x.words_logged; tests = x.tests; counted = record { log_is = x.counted.log_is; queue_is = ap (λ q. q.room) c.push.ensures ∙ x.counted.queue_is }; taken = ap (λ q. are_taken d q.items) c.push.ensures ∙ taken_more d x.updates.items u x.taken c.requires.place; veiled = x.veiled }

pub returns-clause-queued : goal.returns-clause-queued
returns-clause-queued c =
    let x = c.args.self.now in
    let d = design_view x.design.now in
    let u : Update = record { to = c.args.to.now; value = c.args.part.now; certain = c.args.certain } in
    ap (λ q. queued_writes d q.items) c.push.ensures ∙ queued_more d x.updates.items u
