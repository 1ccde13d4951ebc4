use Rattle.std.proofs.Common.{◌≡◌, ◌+◌, ◌*◌, map, max, take}
use Rattle.design_model.specs.View.{term_view}
use Rattle.design_model.specs.declared.tree.Term.{size-Term}
use Rattle.process_copies.proofs.terms.+terms.Given as goal

-- the copies so far are those of the front
abbrev pub invariant-copy_terms-loop-term : goal.invariant-copy_terms-loop-term
invariant-copy_terms-loop-term l = map term_view l.copies.items ≡ map term_view (take l.term-index l.terms)

-- each call is of a part
abbrev pub decreases-copy_term : goal.decreases-copy_term
decreases-copy_term l = 2 * size-Term l.term.now

abbrev pub decreases-copy_terms : goal.decreases-copy_terms
decreases-copy_terms l = 2 * goal.size-copy_terms l + 1

abbrev pub decreases-copy_word : goal.decreases-copy_word
decreases-copy_word l = 2 * size-Term l.index.now + 1

abbrev pub decreases-copy_bit : goal.decreases-copy_bit
decreases-copy_bit l = 2 * max (size-Term l.of.now) (size-Term l.index.now) + 1

abbrev pub decreases-copy_part : goal.decreases-copy_part
decreases-copy_part l = 2 * max (size-Term l.of.now) (max (size-Term l.high.now) (size-Term l.low.now)) + 1

abbrev pub decreases-copy_slide : goal.decreases-copy_slide
decreases-copy_slide l = 2 * max (size-Term l.of.now) (max (size-Term l.base.now) (size-Term l.width.now)) + 1

abbrev pub decreases-copy_choice : goal.decreases-copy_choice
decreases-copy_choice l = 2 * max (size-Term l.test.now) (max (size-Term l.yes.now) (size-Term l.no.now)) + 1
