use Rattle.std.proofs.Common.{◌≡◌, ◌+◌, ◌*◌, ◌≤◌, drop, map, max, true}
use Rattle.design_model.specs.Shape.{are_alone, own_widths}
use Rattle.design_model.specs.View.{term_view, terms_of}
use Rattle.design_model.specs.declared.tree.Term.{size-Term}
use Rattle.term_replay.specs.Noted.{all_marks}
use Rattle.term_replay.specs.Stands.{all_first_after, so_far}
use Rattle.term_replay.proofs.Joining.{GoesOn, TellsOn}
use Rattle.term_replay.proofs.evaluation.+terms.Given as goal

-- what was joined so far goes on to the whole
abbrev pub invariant-join_all-loop-part : goal.invariant-join_all-loop-part
invariant-join_all-loop-part g l =
    record {
      alone : are_alone (g.R.Reads.scene l.reads).design (terms_of (map term_view (drop l.part-index l.parts))) ≡ true;
      value : own_widths (g.R.Reads.scene l.reads).design (terms_of (map term_view l.fn.parts)) ≤ 128 → GoesOn (g.R.Reads.scene l.reads) l.fn.run.first (terms_of (map term_view l.fn.parts)) l.all.first (terms_of (map term_view (drop l.part-index l.parts))) (so_far l.all.value);
      first : all_first_after (g.R.Reads.scene l.reads) l.fn.run.first (terms_of (map term_view l.fn.parts)) ≡ all_first_after (g.R.Reads.scene l.reads) l.all.first (terms_of (map term_view (drop l.part-index l.parts)));
      notes : TellsOn g.N.Notes.noted l.fn.run.mode l.fn.notes (all_marks (g.R.Reads.scene l.reads) l.fn.run.first (terms_of (map term_view l.fn.parts))) l.notes (all_marks (g.R.Reads.scene l.reads) l.all.first (terms_of (map term_view (drop l.part-index l.parts))));
    }

-- each call is of a part, or of the form of the same term
abbrev pub decreases-evaluate : goal.decreases-evaluate
decreases-evaluate g l = 4 * size-Term l.term.now + 1

abbrev pub decreases-walk : goal.decreases-walk
decreases-walk g l = 4 * size-Term l.term.now

abbrev pub decreases-word_term : goal.decreases-word_term
decreases-word_term g l = 4 * size-Term l.index.now + 2

abbrev pub decreases-bit_term : goal.decreases-bit_term
decreases-bit_term g l = 4 * max (size-Term l.of.now) (size-Term l.index.now) + 2

abbrev pub decreases-part_term : goal.decreases-part_term
decreases-part_term g l = 4 * max (size-Term l.of.now) (max (size-Term l.high.now) (size-Term l.low.now)) + 2

abbrev pub decreases-slide_term : goal.decreases-slide_term
decreases-slide_term g l = 4 * max (size-Term l.of.now) (max (size-Term l.base.now) (size-Term l.count.now)) + 2

abbrev pub decreases-unary_term : goal.decreases-unary_term
decreases-unary_term g l = 4 * size-Term l.operand.now + 2

abbrev pub decreases-binary_term : goal.decreases-binary_term
decreases-binary_term g l = 4 * max (size-Term l.left.now) (size-Term l.right.now) + 2

abbrev pub decreases-choice_term : goal.decreases-choice_term
decreases-choice_term g l = 4 * max (size-Term l.test.now) (max (size-Term l.yes.now) (size-Term l.no.now)) + 2

abbrev pub decreases-concat_term : goal.decreases-concat_term
decreases-concat_term g l = 4 * goal.size-concat_term g l + 3

abbrev pub decreases-repeat_term : goal.decreases-repeat_term
decreases-repeat_term g l = 4 * max (size-Term l.count.now) (goal.size-repeat_term g l) + 3

abbrev pub decreases-sign_term : goal.decreases-sign_term
decreases-sign_term g l = 4 * size-Term l.operand.now + 2

abbrev pub decreases-join_all : goal.decreases-join_all
decreases-join_all g l = 4 * goal.size-join_all g l + 2
