use Rattle.std.proofs.Common.{◌+◌, ◌*◌, drop, map, max}
use Rattle.design_model.specs.View.{term_view, terms_of}
use Rattle.design_model.specs.declared.tree.Term.{size-Term}
use Rattle.process_names.specs.Names.{all_term_names}
use Rattle.body_names.proofs.Taking.{TakesOn}
use Rattle.body_names.proofs.terms.+terms.Given as goal

-- the names so far, and those of the rest, are those of all terms
abbrev pub invariant-name_terms-loop-term : goal.invariant-name_terms-loop-term
invariant-name_terms-loop-term g l =
    g.N.Names.ready l.names × TakesOn g.N.Names.named l.fn.names (all_term_names (terms_of (map term_view l.fn.terms))) l.names (all_term_names (terms_of (map term_view (drop l.term-index l.terms))))

-- each call is of a part
abbrev pub decreases-name_term : goal.decreases-name_term
decreases-name_term g l = 2 * size-Term l.term.now

abbrev pub decreases-name_terms : goal.decreases-name_terms
decreases-name_terms g l = 2 * goal.size-name_terms g l + 1

abbrev pub decreases-name_two : goal.decreases-name_two
decreases-name_two g l = 2 * max (size-Term l.a.now) (size-Term l.b.now) + 1

abbrev pub decreases-name_three : goal.decreases-name_three
decreases-name_three g l = 2 * max (size-Term l.a.now) (max (size-Term l.b.now) (size-Term l.c.now)) + 1
