use Rattle.std.proofs.Common.{◌∙◌, ◌++◌, sym, ap, append-nil}
use Rattle.text_points.proofs.Heads.{cases_none, cases_some}
use Rattle.text_points.proofs.nodes.push_cases.Goals as goal

pub returns-in-Some : goal.returns-in-Some
returns-in-Some c = rw (c.node_cases.ensures, ← cases_some c.args.owner c.args.term.now c.in-Some.node c.in-Some.is) at c.push_each.ensures

pub returns-in-None : goal.returns-in-None
returns-in-None c = sym (ap (λ xs. c.args.found.now.items ++ xs) (cases_none c.args.owner c.args.term.now c.in-None.is) ∙ append-nil c.args.found.now.items)
