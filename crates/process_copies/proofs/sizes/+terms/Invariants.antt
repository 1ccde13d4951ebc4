use Rattle.std.proofs.Common.{◌+◌, ◌*◌, max}
use Rattle.design_model.specs.declared.tree.Term.{size-Term}
use Rattle.process_copies.proofs.sizes.+terms.Given as goal

-- each call is of a part
abbrev pub decreases-after_term : goal.decreases-after_term
decreases-after_term l = 2 * size-Term l.term.now

abbrev pub decreases-after_two : goal.decreases-after_two
decreases-after_two l = 2 * max (size-Term l.a.now) (size-Term l.b.now) + 1

abbrev pub decreases-after_terms : goal.decreases-after_terms
decreases-after_terms l = 2 * goal.size-after_terms l + 1
