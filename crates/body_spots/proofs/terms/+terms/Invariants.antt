use Rattle.std.proofs.Common.{◌+◌, ◌*◌, drop, map, max}
use Rattle.design_model.specs.View.{design_view, term_view, terms_of}
use Rattle.design_model.specs.declared.tree.Term.{size-Term}
use Rattle.value_store.specs.body_replay.Contract.{terms_spots}
use Rattle.body_spots.proofs.Hits.{HitsOn}
use Rattle.body_spots.proofs.terms.+terms.Given as goal

-- the spots so far, and those of the rest, are those of all terms
abbrev pub invariant-note_terms-loop-term : goal.invariant-note_terms-loop-term
invariant-note_terms-loop-term g l =
    HitsOn g.N.Notes.noted l.fn.notes (terms_spots (design_view l.design) (terms_of (map term_view l.fn.terms))) l.notes (terms_spots (design_view l.design) (terms_of (map term_view (drop l.term-index l.terms))))

-- each call is of a part, or of the same term by a function further down
abbrev pub decreases-note_term : goal.decreases-note_term
decreases-note_term g l = 3 * size-Term l.term.now + 1

abbrev pub decreases-note_inner : goal.decreases-note_inner
decreases-note_inner g l = 3 * size-Term l.term.now

abbrev pub decreases-note_terms : goal.decreases-note_terms
decreases-note_terms g l = 3 * goal.size-note_terms g l + 2

abbrev pub decreases-note_two : goal.decreases-note_two
decreases-note_two g l = 3 * max (size-Term l.a.now) (size-Term l.b.now) + 2

abbrev pub decreases-note_three : goal.decreases-note_three
decreases-note_three g l = 3 * max (size-Term l.a.now) (max (size-Term l.b.now) (size-Term l.c.now)) + 2
