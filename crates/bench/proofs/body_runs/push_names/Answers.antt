use Rattle.std.proofs.Common.{◌≡◌, ◌++◌, ◌∙◌, ap, false, subst, sym, true}
use Rattle.design_model.specs.Design.{body}
use Rattle.design_model.specs.View.{process_view}
use Rattle.body_calls.specs.Own.{is_in}
use Rattle.process_names.specs.Assigned.{assigned}
use Rattle.bench.proofs.Written.{in_names}
use Rattle.bench.proofs.body_runs.push_names.Goals as goal

pub returns : goal.returns
returns c = λ x e.
    let b = body (process_view c.args.process.now) in
    let found = c.in_ok-push_assigned-2.ensures ∙ ap (λ xs. xs ++ assigned false b) c.in_ok-push_assigned.ensures in
    subst (λ xs. is_in xs x ≡ true) (sym found) (in_names c.names_law.ensures.blocking c.names_law.ensures.nonblocking c.args.found.now.items b x e)
