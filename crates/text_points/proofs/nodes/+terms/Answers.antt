use Rattle.std.proofs.Common.{◌≡◌, ◌++◌}
use Rattle.design_model.specs.View.{term_view}
use Rattle.text_points.specs.Nodes.{cases_with}
use Rattle.text_points.proofs.Joining.{whole_term}
use Rattle.text_points.proofs.nodes.+terms.Goals as goal

pub push_term-returns : goal.push_term-returns
push_term-returns t c =
    let first : c.push_cases.new.found.items ≡ c.args.found.now.items ++ cases_with c.args.owner (term_view c.args.term.now) = c.in_ok-push_cases.ensures in
    rw (first, whole_term c.args.owner c.args.found.now.items (term_view c.args.term.now)) at c.push_inner.ensures
