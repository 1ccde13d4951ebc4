-- What the evaluation of a term leaves, from that of its operands.
use Rattle.std.proofs.Common.{◌≡◌, ◌∙◌, ℕ, ◌^◌, ◌<◌, ◌≤◌, List, ◌++◌, Option, Some, None, refl, sym, ap, ap₂, subst}
use Rattle.std.specs.Prelude.{IfSome}
use Rattle.four_state.specs.declared.operator.Binary.{Binary}
use Rattle.four_state.specs.Masks.{bits_of_masks}
use Rattle.known_state.specs.Partly.{Partly, whole_of}
use Rattle.design_model.specs.Tree as t
use Rattle.design_model.specs.Value.{head}
use Rattle.design_model.specs.View.{term_view}
use Rattle.design_model.specs.declared.tree.Term.{Term}
use Rattle.body_replay.specs.Replay.{Mark, Mode, blame_of, known_cases, node_marks, two_known}
use Rattle.body_replay.specs.Store.{known_value}
use Rattle.term_replay.specs.Noted.{Adds, in_this, inner_marks, marks_of, own_cases}
use Rattle.term_replay.specs.Plain.{IsSmall, head_in, held}
use Rattle.term_replay.specs.Stands.{IsHead, IsInContext, Scene, Stands, first_after, head_of}
use Rattle.term_replay.specs.Walked.{Walked}
use Rattle.term_replay.specs.declared.head.TermHead.{TermHead}
use Rattle.term_replay.specs.declared.evaluation.Progress.{Progress}
use Rattle.term_replay.proofs.Contexts.{shape_ok}
use Rattle.term_replay.proofs.NodeMarks.{seen_own, seen_two}
use Rattle.term_replay.proofs.Stepping.{arm_notes, arm_value, next_value, same_value, two_first, two_marks, three_first, three_marks}

-- a term in a context has a width
pub in_head : (v : Scene) (x : Term) → head (term_view x) ≡ head_of (head_in x) → IsInContext v.design (term_view x) → IsHead (head_in x)
in_head v x top c = shape_ok v.design (term_view x) (head_in x) (ap (λ h. h.width) top) c

-- a number or a place by two heads of one width and sign
pub held_same : (x y : TermHead) (o : Option ℕ) (p : Partly) → x.width ≡ y.width → x.signed ≡ y.signed → held x o p ≡ held y o p
held_same x y None p e g = refl
held_same x y (Some n) p e g = ap₂ (λ w s. whole_of (record { bits = bits_of_masks w n 0; signed = s })) e g

pub small_same : (x y : TermHead) (o : Option ℕ) → x.width ≡ y.width → IfSome o (IsSmall x) → IfSome o (IsSmall y)
small_same x y None e h = tt
small_same x y (Some n) e h = record { narrow = subst (λ w. w ≤ 64) e h.narrow; inside = subst (λ w. n < 2 ^ w) e h.inside }

module _ {T S : Type 0} (noted : T → List Mark → S → Type 0) (v : Scene) where
  -- the marks of a mode with another name
  pub other_mode : (m n : Mode) (ms : List Mark) (s u : S) → m ≡ n → Adds noted s (in_this m ms) u → Adds noted s (in_this n ms) u
  other_mode m n ms s u e a = subst (λ o. Adds noted s (in_this o ms) u) e a

  -- a term that is no operator with two operands, by its value, the marks of its operands and those of its own cases
  pub walked_own : (x : Term) (run : Progress) (s m u : S) (number : Option ℕ) (place : Partly) (after : Progress) (y : t.Term) (r : Partly) → term_view x ≡ y → head y ≡ head_of (head_in x) → known_cases v.design v.kept v.blames run.first y ≡ own_cases (known_value v.design v.kept y) (blame_of v.design v.kept v.blames run.first y) → Stands v run.first y r → held (head_in x) number place ≡ r → IfSome number (IsSmall (head_in x)) → after.first ≡ first_after v run.first y → after.mode ≡ run.mode → Adds noted s (in_this run.mode (inner_marks v run.first y)) m → Adds noted m (in_this run.mode (node_marks x.node (own_cases r.bits r.blame))) u → Walked noted v x run s number place after u
  walked_own x run s m u number place after y r is top cases a holds small f g inner own = record {
    value = arm_value v run.first (term_view x) y (held (head_in x) number place) is (same_value v run.first y r (held (head_in x) number place) holds a);
    small = small;
    first = f ∙ ap (first_after v run.first) (sym is);
    mode = g;
    top = ap head is ∙ top;
    notes = arm_notes noted v run.mode run.first (term_view x) y s u is (seen_own noted v run.mode run.first y r s m u cases a inner (subst (λ h. Adds noted m (in_this run.mode (node_marks h.node (own_cases r.bits r.blame))) u) (sym top) own));
  }

  -- an operator with two operands
  pub walked_two : (x : Term) (run : Progress) (s m u : S) (number : Option ℕ) (place : Partly) (after : Progress) (op : Binary) (y z : t.Term) (a c : Partly) → term_view x ≡ t.binary (head_of (head_in x)) op y z → Stands v run.first y a → Stands v (first_after v run.first y) z c → Stands v run.first (t.binary (head_of (head_in x)) op y z) (held (head_in x) number place) → IfSome number (IsSmall (head_in x)) → after.first ≡ first_after v (first_after v run.first y) z → after.mode ≡ run.mode → Adds noted s (in_this run.mode (marks_of v run.first y ++ marks_of v (first_after v run.first y) z)) m → Adds noted m (in_this run.mode (node_marks x.node (two_known op a.bits c.bits a.blame c.blame))) u → Walked noted v x run s number place after u
  walked_two x run s m u number place after op y z a c is sa sc value small f g inner own = record {
    value = arm_value v run.first (term_view x) (t.binary (head_of (head_in x)) op y z) (held (head_in x) number place) is value;
    small = small;
    first = f ∙ ap (first_after v run.first) (sym is);
    mode = g;
    top = ap head is;
    notes = arm_notes noted v run.mode run.first (term_view x) (t.binary (head_of (head_in x)) op y z) s u is (seen_two noted v run.mode run.first (head_of (head_in x)) op y z a c s m u sa sc inner own);
  }

  -- one operand after the other
  module _ (x y : Term) (run one two : Progress) (s m u : S) (a b : Option ℕ) (p q : Partly) (wx : Walked noted v x run s a p one m) (wy : Walked noted v y one m b q two u) where
    pub second_value : Stands v (first_after v run.first (term_view x)) (term_view y) (held (head_in y) b q)
    second_value = next_value v one.first (first_after v run.first (term_view x)) (term_view y) (held (head_in y) b q) wx.first wy.value

    pub second_first : two.first ≡ first_after v (first_after v run.first (term_view x)) (term_view y)
    second_first = two_first v run.first (term_view x) (term_view y) one.first two.first wx.first wy.first

    pub second_mode : two.mode ≡ run.mode
    second_mode = wy.mode ∙ wx.mode

    pub second_notes : Adds noted s (in_this run.mode (marks_of v run.first (term_view x) ++ marks_of v (first_after v run.first (term_view x)) (term_view y))) u
    second_notes = two_marks noted v run.mode run.first (term_view x) (term_view y) one.first s m u wx.first wx.notes (subst (λ o. Adds noted m (in_this o (marks_of v one.first (term_view y))) u) wx.mode wy.notes)

    -- and a third one
    module _ (z : Term) (three : Progress) (w : S) (c : Option ℕ) (r : Partly) (wz : Walked noted v z two u c r three w) where
      pub third_value : Stands v (first_after v (first_after v run.first (term_view x)) (term_view y)) (term_view z) (held (head_in z) c r)
      third_value = next_value v two.first (first_after v (first_after v run.first (term_view x)) (term_view y)) (term_view z) (held (head_in z) c r) second_first wz.value

      pub third_first : three.first ≡ first_after v (first_after v (first_after v run.first (term_view x)) (term_view y)) (term_view z)
      third_first = three_first v run.first (term_view x) (term_view y) (term_view z) one.first two.first three.first wx.first wy.first wz.first

      pub third_mode : three.mode ≡ run.mode
      third_mode = wz.mode ∙ second_mode

      pub third_notes : Adds noted s (in_this run.mode (marks_of v run.first (term_view x) ++ marks_of v (first_after v run.first (term_view x)) (term_view y) ++ marks_of v (first_after v (first_after v run.first (term_view x)) (term_view y)) (term_view z))) w
      third_notes = three_marks noted v run.mode run.first (term_view x) (term_view y) (term_view z) one.first two.first s m u w wx.first wy.first wx.notes (subst (λ o. Adds noted m (in_this o (marks_of v one.first (term_view y))) u) wx.mode wy.notes) (subst (λ o. Adds noted u (in_this o (marks_of v two.first (term_view z))) w) second_mode wz.notes)
