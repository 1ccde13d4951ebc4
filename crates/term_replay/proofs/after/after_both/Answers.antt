use Rattle.std.proofs.Common.{Some, ap₂, subst, sym}
use Rattle.std.specs.Prelude.{IfSome}
use Rattle.std.specs.Bool.{OnTrue}
use Rattle.four_state.specs.Operators.{takes_same_shape}
use Rattle.known_state.specs.Answers.{HaveSameShape}
use Rattle.body_replay.specs.Replay.{node_marks, two_known}
use Rattle.term_replay.specs.Noted.{in_this}
use Rattle.term_replay.specs.Plain.{IsSmall, head_in, held}
use Rattle.term_replay.specs.Stands.{Stands, first_after}
use Rattle.term_replay.proofs.Marking.{adds_same}
use Rattle.term_replay.proofs.after.after_both.Goals as goal

pub after_numbers-requires : goal.after_numbers-requires
after_numbers-requires g c =
    record {
      head = c.requires.head;
      left = c.requires.left;
      right = c.requires.right;
      one = subst (λ o. IfSome o (IsSmall (head_in c.args.left.now))) c.in-Some-Some.is-0 c.requires.one;
      two = subst (λ o. IfSome o (IsSmall (head_in c.args.right.now))) c.in-Some-Some.is-1 c.requires.two;
      operands = subst (λ o. OnTrue (takes_same_shape c.args.op) (HaveSameShape (held (head_in c.args.left.now) o c.args.other.now) (held (head_in c.args.right.now) (Some c.in-Some-Some.two) c.args.place.now))) c.in-Some-Some.is-0 (subst (λ p. OnTrue (takes_same_shape c.args.op) (HaveSameShape (held (head_in c.args.left.now) c.args.one c.args.other.now) (held (head_in c.args.right.now) p c.args.place.now))) c.in-Some-Some.is-1 c.requires.operands);
    }

pub returns-in-Some-Some-clause-value : goal.returns-in-Some-Some-clause-value
returns-in-Some-Some-clause-value g c = λ v first x y sa sc.
    c.after_numbers.ensures.value v first x y (subst (λ o. Stands v first x (held (head_in c.args.left.now) o c.args.other.now)) c.in-Some-Some.is-0 sa) (subst (λ o. Stands v (first_after v first x) y (held (head_in c.args.right.now) o c.args.place.now)) c.in-Some-Some.is-1 sc)

pub returns-in-Some-Some-clause-notes : goal.returns-in-Some-Some-clause-notes
returns-in-Some-Some-clause-notes g c =
    let one = subst (λ o. IfSome o (IsSmall (head_in c.args.left.now))) c.in-Some-Some.is-0 c.requires.one in
    let two = subst (λ o. IfSome o (IsSmall (head_in c.args.right.now))) c.in-Some-Some.is-1 c.requires.two in
    adds_same g.N.Notes.noted _ _ _ _ (ap₂ (λ o p. in_this c.args.mode (node_marks c.args.term.now.node (two_known c.args.op (held (head_in c.args.left.now) o c.args.other.now).bits (held (head_in c.args.right.now) p c.args.place.now).bits (held (head_in c.args.left.now) o c.args.other.now).blame (held (head_in c.args.right.now) p c.args.place.now).blame))) (sym c.in-Some-Some.is-0) (sym c.in-Some-Some.is-1)) (c.note_numbers.ensures (head_in c.args.left.now) (head_in c.args.right.now) one two)

pub after_vectors-requires-clause-operands : goal.after_vectors-requires-clause-operands
after_vectors-requires-clause-operands g c = rw (c.held-one.ensures, c.held-two.ensures) c.requires.operands

pub returns-in_default-clause-value : goal.returns-in_default-clause-value
returns-in_default-clause-value g c = λ v first x y sa sc.
    c.after_vectors.ensures.value v first x y (subst (Stands v first x) (sym c.held-one.ensures) sa) (subst (Stands v (first_after v first x) y) (sym c.held-two.ensures) sc)

pub returns-in_default-clause-notes : goal.returns-in_default-clause-notes
returns-in_default-clause-notes g c = rw (c.held-one.ensures, c.held-two.ensures) at c.note_two.ensures
