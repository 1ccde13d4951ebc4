use Rattle.std.proofs.Common.{◌≡◌, ◌+◌, ◌*◌, ◌++◌, drop, map, max}
use Rattle.design_model.specs.View.{term_view, terms_of}
use Rattle.design_model.specs.declared.tree.Term.{size-Term}
use Rattle.process_names.specs.Names.{all_term_names}
use Rattle.process_names.proofs.names.+terms.Given as goal

-- the names so far, with those of the rest, are those of all terms
abbrev pub invariant-push_terms-loop-term : goal.invariant-push_terms-loop-term
invariant-push_terms-loop-term l =
    l.found.items ++ all_term_names (terms_of (map term_view (drop l.term-index l.terms))) ≡ l.fn.found.items ++ all_term_names (terms_of (map term_view l.fn.terms))

-- each call is of a part
abbrev pub decreases-push_term : goal.decreases-push_term
decreases-push_term l = 2 * size-Term l.term.now

abbrev pub decreases-push_terms : goal.decreases-push_terms
decreases-push_terms l = 2 * goal.size-push_terms l + 1

abbrev pub decreases-push_two : goal.decreases-push_two
decreases-push_two l = 2 * max (size-Term l.a.now) (size-Term l.b.now) + 1

abbrev pub decreases-push_three : goal.decreases-push_three
decreases-push_three l = 2 * max (size-Term l.a.now) (max (size-Term l.b.now) (size-Term l.c.now)) + 1
