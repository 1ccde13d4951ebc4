-- Vectors without x and z as numbers.
use Rattle.std.proofs.Common.{◌≡◌, ◌∙◌, ℕ, ◌^◌, ◌<◌, ◌==◌, Bool, true, false, not, if◌then◌else◌, List, [], ◌∷◌, ◌++◌, Option, Some, length, get_or, refl, sym, ap, ap₂, subst}
use Rattle.std.specs.List.{list_any, list_all}
use Rattle.std.proofs.lemmas.Nat.{pow_pos}
use Rattle.std.specs.Bool.{OnTrue}
use Rattle.std.proofs.lemmas.Bool.{eqb-true}
use Rattle.four_state.specs.declared.bit.Bit.{Bit}
use Rattle.four_state.specs.declared.bit.Bit.TheVariants.{Zero, One, X, Z}
use Rattle.four_state.specs.declared.truth.Truth.TheVariants.{True, False}
use Rattle.four_state.specs.declared.operator.Unary.{Unary}
use Rattle.four_state.specs.declared.operator.Binary.{Binary}
use Rattle.four_state.specs.declared.operator.Binary.TheVariants.{Multiply, Divide, Modulus, Add, Subtract, ShiftLeft, ShiftRight, ArithmeticShiftLeft, ArithmeticShiftRight, LessThan, LessOrEqual, GreaterThan, GreaterOrEqual, Equal, NotEqual, CaseEqual, CaseNotEqual, BitwiseAnd, BitwiseXor, BitwiseXnor, BitwiseNxor, BitwiseOr, LogicalAnd, LogicalOr}
use Rattle.four_state.specs.Masks.{bits_of_masks, bit_in_masks, is_set, is_strange, mask_of}
use Rattle.four_state.specs.Operators.{unary_vector, binary_value, binary_vector, SameShape, takes_same_shape}
use Rattle.four_state.specs.Stored.{strange_of_bits, width_of_bits}
use Rattle.four_state.specs.Vector.{Vector, all_known, extend, is_one, truth}
use Rattle.four_state.proofs.Lifted.{bits_are, get_or-bits_of_masks, is_set-mask_of, mask_is}
use Rattle.four_state.proofs.Places.{is_set-zero}
use Rattle.four_state.proofs.ReductionLaws.{all_zero, mask_is_not_zero, no_strange_place}
use Rattle.known_state.specs.Partly.{Partly, are_sure, is_whole, whole_of}
use Rattle.known_state.specs.Answers.{HaveSameShape}
use Rattle.known_state.proofs.Allowed.{are_sure_whole}
use Rattle.design_model.specs.Tree as t
use Rattle.body_replay.specs.KnownBits.{KnownBits, both, binary_partly, choose_partly, extend_partly, fits, known_truth, sure, unary_partly, unknown}
use Rattle.body_replay.specs.Store.{choice_of, known_value}
use Rattle.design_model.specs.point_words.declared.node_case.NodeCase.{NodeCase}
use Rattle.design_model.specs.point_words.declared.node_case.NodeCase.TheVariants.{ValueFalse, ValueTrue, LeftFalse, RightFalse, LeftTrue, RightTrue, BothFalse, FalseTrue, TrueFalse, BothTrue}
use Rattle.body_replay.specs.Replay.{Mark, ask, ask_of, case_mark, case_marks, hit, may_be_zero, node, two_known, undecided}
use Rattle.body_replay.proofs.Exact.{binary_exact, extend_exact, fits_exact, sure_length, truth_exact, unary_exact}
use Rattle.term_replay.specs.Noted.{own_cases}
use Rattle.term_replay.specs.Plain.{IsSmall, number_at, sure_mark, sure_marks, case_of}
use Rattle.term_replay.specs.Stands.{Fitted, Scene, Stands, first_after, head_of}
use Rattle.term_replay.specs.declared.head.TermHead.{TermHead}
use Rattle.term_replay.proofs.Standing.{extend_own, not_false, same_fits}

-- ---- the bits of a number

one_in : (p q : Bool) → q ≡ false → is_one (bit_in_masks p q) ≡ p
one_in true false e = refl
one_in false false e = refl
one_in true true e = absurd (cc)
one_in false true e = absurd (cc)

-- the 1 bits of a number are its mask
pub ones_of_number : (w n : ℕ) → n < 2 ^ w → n ≡ mask_of is_one (bits_of_masks w n 0)
ones_of_number w n h =
    mask_is is_one n (bits_of_masks w n 0) (subst (λ k. n < 2 ^ k) (sym (width_of_bits w n 0)) h) (λ i l.
    let k : i < w = subst (λ m. i < m) (width_of_bits w n 0) l in
    sym (ap is_one (get_or-bits_of_masks w n 0 i X k) ∙ one_in (is_set n i) (is_set 0 i) (is_set-zero i)))

pub number_known : (w n : ℕ) → all_known (bits_of_masks w n 0) ≡ true
number_known w n = sym (no_strange_place (bits_of_masks w n 0)) ∙ ap (λ m. m == 0) (strange_of_bits w n 0 (pow_pos w))

known_bit : (b : Bit) (q : Bool) → q ≡ false → is_strange b ≡ false → bit_in_masks (is_one b) q ≡ b
known_bit Zero q e f = ap (bit_in_masks false) e
known_bit One q e f = ap (bit_in_masks true) e
known_bit X q e f = absurd (cc)
known_bit Z q e f = absurd (cc)

-- known bits are those of the mask of the 1 bits
pub known_number : (bs : List Bit) → all_known bs ≡ true → bits_of_masks (length bs) (mask_of is_one bs) 0 ≡ bs
known_number bs e =
    let none : mask_of is_strange bs ≡ 0 = eqb-true (mask_of is_strange bs) 0 (no_strange_place bs ∙ e) in
    bits_are (length bs) (mask_of is_one bs) 0 bs refl (λ i l.
    let plain : is_strange (get_or bs i X) ≡ false = sym (is_set-mask_of is_strange bs i X l) ∙ ap (λ m. is_set m i) none ∙ is_set-zero i in
    ap (λ p. bit_in_masks p (is_set 0 i)) (is_set-mask_of is_one bs i X l) ∙ known_bit (get_or bs i X) (is_set 0 i) (is_set-zero i) plain)

-- so a known vector is its number
pub vector_number : (x : TermHead) (v : Vector) (n : ℕ) → length v.bits ≡ x.width → v.signed ≡ x.signed → all_known v.bits ≡ true → n ≡ mask_of is_one v.bits → number_at x n ≡ v
vector_number x v n wide sign known e =
    ap₂ (λ bs s. record { bits = bs; signed = s }) (ap₂ (λ w m. bits_of_masks w m 0) (sym wide) e ∙ known_number v.bits known) (sym sign)

pub whole_number : (x : TermHead) (q : Partly) (v : Vector) (n : ℕ) → q ≡ whole_of v → length q.bits ≡ x.width → q.signed ≡ x.signed → all_known v.bits ≡ true → n ≡ mask_of is_one v.bits → whole_of (number_at x n) ≡ q
whole_number x q v n is wide sign known e =
    ap whole_of (vector_number x v n (sym (sure_length v.bits) ∙ sym (ap (λ p. length p.bits) is) ∙ wide) (sym (ap (λ p. p.signed) is) ∙ sign) known e) ∙ sym is

pub number_fits : (x : TermHead) (v : Vector) (n : ℕ) → length v.bits ≡ x.width → v.signed ≡ x.signed → all_known v.bits ≡ true → n ≡ mask_of is_one v.bits → Fitted x (whole_of v) (whole_of (number_at x n))
number_fits x v n wide sign known e =
    subst (Fitted x (whole_of v)) (ap whole_of (sym (vector_number x v n wide sign known e))) (same_fits x (whole_of v) (sure_length v.bits ∙ wide) sign)

-- ---- the truth of a number

truth_by : (bs : List Bit) (p : Bool) → list_any is_one bs ≡ not p → all_known bs ≡ true → truth bs ≡ (if p then False else True)
truth_by bs true one known = rw (one, sym (all_zero bs one) ∙ known) refl
truth_by bs false one known = rw one refl

pub number_truth : (x : TermHead) (n : ℕ) → IsSmall x n → truth (number_at x n).bits ≡ (if n == 0 then False else True)
number_truth x n h =
    truth_by (bits_of_masks x.width n 0) (n == 0) (sym (mask_is_not_zero is_one (bits_of_masks x.width n 0)) ∙ ap (λ m. not (m == 0)) (sym (ones_of_number x.width n h.inside))) (number_known x.width n)

truth_asked : (p z : Bool) → (ask_of (Some (if p then False else True)) z False ≡ Some p) × (ask_of (Some (if p then False else True)) z True ≡ Some (not p))
truth_asked true z = (refl, refl)
truth_asked false z = (refl, refl)

module _ (x : TermHead) (n : ℕ) (h : IsSmall x n) where
  pub ask_false : ask (sure (number_at x n).bits) False ≡ Some (n == 0)
  ask_false = ap (λ o. ask_of o (list_all may_be_zero (sure (number_at x n).bits)) False) (truth_exact (number_at x n).bits ∙ ap Some (number_truth x n h)) ∙ (truth_asked (n == 0) _).0

  pub ask_true : ask (sure (number_at x n).bits) True ≡ Some (not (n == 0))
  ask_true = ap (λ o. ask_of o (list_all may_be_zero (sure (number_at x n).bits)) True) (truth_exact (number_at x n).bits ∙ ap Some (number_truth x n h)) ∙ (truth_asked (n == 0) _).1

-- ---- the cases of a node by numbers

own_by : (n : ℕ) (p : Bool) → case_mark n ValueFalse (Some p) 0 ++ (case_mark n ValueTrue (Some (not p)) 0 ++ []) ≡ hit (node n (if p then ValueFalse else ValueTrue)) ∷ []
own_by n true = refl
own_by n false = refl

pub own_number : (n : ℕ) (x : TermHead) (k : ℕ) → IsSmall x k → case_marks n (own_cases (sure (number_at x k).bits) 0) ≡ hit (node n (if k == 0 then ValueFalse else ValueTrue)) ∷ []
own_number n x k h =
    ap₂ (λ a b. case_mark n ValueFalse a 0 ++ (case_mark n ValueTrue b 0 ++ [])) (ask_false x k h) (ask_true x k h) ∙ own_by n (k == 0)

-- the marks of two operands by the answers
abbrev two_at : ℕ → NodeCase → Option Bool → Option Bool → List Mark
two_at n c a b = case_mark n c (both a b) (if undecided a then 0 else 0)

abbrev four_at : ℕ → Option Bool → Option Bool → Option Bool → Option Bool → List Mark
four_at n lf lt rf rt = two_at n BothFalse lf rf ++ (two_at n FalseTrue lf rt ++ (two_at n TrueFalse lt rf ++ (two_at n BothTrue lt rt ++ [])))

abbrev and_at : ℕ → Option Bool → Option Bool → Option Bool → Option Bool → List Mark
and_at n lf lt rf rt = two_at n BothTrue lt rt ++ (case_mark n LeftFalse lf 0 ++ (case_mark n RightFalse rf 0 ++ []))

abbrev or_at : ℕ → Option Bool → Option Bool → Option Bool → Option Bool → List Mark
or_at n lf lt rf rt = two_at n BothFalse lf rf ++ (case_mark n LeftTrue lt 0 ++ (case_mark n RightTrue rt 0 ++ []))

-- answers that are sure
sure_at : (at : Option Bool → Option Bool → Option Bool → Option Bool → List Mark) (l r : Bool) (lf lt rf rt : Option Bool) → lf ≡ Some (not l) → lt ≡ Some l → rf ≡ Some (not r) → rt ≡ Some r → at lf lt rf rt ≡ at (Some (not l)) (Some l) (Some (not r)) (Some r)
sure_at at l r lf lt rf rt a b c d = ap₂ (λ p q. at p q rf rt) a b ∙ ap₂ (λ p q. at (Some (not l)) (Some l) p q) c d

four_by : (n : ℕ) (l r : Bool) → four_at n (Some (not l)) (Some l) (Some (not r)) (Some r) ≡ sure_mark n (case_of l r) true
four_by n false false = refl
four_by n false true = refl
four_by n true false = refl
four_by n true true = refl

and_by : (n : ℕ) (l r : Bool) → and_at n (Some (not l)) (Some l) (Some (not r)) (Some r) ≡ sure_marks n BitwiseAnd l r
and_by n false false = refl
and_by n false true = refl
and_by n true false = refl
and_by n true true = refl

or_by : (n : ℕ) (l r : Bool) → or_at n (Some (not l)) (Some l) (Some (not r)) (Some r) ≡ sure_marks n BitwiseOr l r
or_by n false false = refl
or_by n false true = refl
or_by n true false = refl
or_by n true true = refl

module _ (n : ℕ) (ps qs : KnownBits) (l r : Bool) (lf : ask ps False ≡ Some (not l)) (lt : ask ps True ≡ Some l) (rf : ask qs False ≡ Some (not r)) (rt : ask qs True ≡ Some r) where
  four_sure : case_marks n (two_known Add ps qs 0 0) ≡ sure_mark n (case_of l r) true
  four_sure = sure_at (four_at n) l r _ _ _ _ lf lt rf rt ∙ four_by n l r

  and_sure : case_marks n (two_known BitwiseAnd ps qs 0 0) ≡ sure_marks n BitwiseAnd l r
  and_sure = sure_at (and_at n) l r _ _ _ _ lf lt rf rt ∙ and_by n l r

  or_sure : case_marks n (two_known BitwiseOr ps qs 0 0) ≡ sure_marks n BitwiseOr l r
  or_sure = sure_at (or_at n) l r _ _ _ _ lf lt rf rt ∙ or_by n l r

  two_sure : (op : Binary) → case_marks n (two_known op ps qs 0 0) ≡ sure_marks n op l r
  two_sure Multiply = four_sure
  two_sure Divide = four_sure
  two_sure Modulus = four_sure
  two_sure Add = four_sure
  two_sure Subtract = four_sure
  two_sure ShiftLeft = four_sure
  two_sure ShiftRight = four_sure
  two_sure ArithmeticShiftLeft = four_sure
  two_sure ArithmeticShiftRight = four_sure
  two_sure LessThan = four_sure
  two_sure LessOrEqual = four_sure
  two_sure GreaterThan = four_sure
  two_sure GreaterOrEqual = four_sure
  two_sure Equal = four_sure
  two_sure NotEqual = four_sure
  two_sure CaseEqual = four_sure
  two_sure CaseNotEqual = four_sure
  two_sure BitwiseAnd = and_sure
  two_sure BitwiseXor = four_sure
  two_sure BitwiseXnor = four_sure
  two_sure BitwiseNxor = four_sure
  two_sure BitwiseOr = or_sure
  two_sure LogicalAnd = and_sure
  two_sure LogicalOr = or_sure

not_twice : (p : Bool) → p ≡ not (not p)
not_twice true = refl
not_twice false = refl

pub two_numbers : (n : ℕ) (op : Binary) (x y : TermHead) (k m : ℕ) → IsSmall x k → IsSmall y m → case_marks n (two_known op (sure (number_at x k).bits) (sure (number_at y m).bits) 0 0) ≡ sure_marks n op (not (k == 0)) (not (m == 0))
two_numbers n op x y k m h g =
    two_sure n (sure (number_at x k).bits) (sure (number_at y m).bits) (not (k == 0)) (not (m == 0)) (ask_false x k h ∙ ap Some (not_twice (k == 0))) (ask_true x k h) (ask_false y m g ∙ ap Some (not_twice (m == 0))) (ask_true y m g) op

-- ---- an operator on vectors of which all bits are sure

sure_fits : (x : TermHead) (n : Vector) (r : Partly) → Fitted x (whole_of n) r → is_whole r ≡ true
sure_fits x n r f = ap are_sure (f.bits ∙ extend_exact x.width x.signed n.bits) ∙ are_sure_whole (extend x.width x.signed n.bits)

-- operands of one shape, as vectors
pub same_operands : (op : Binary) (u w : Vector) → OnTrue (takes_same_shape op) (HaveSameShape (whole_of u) (whole_of w)) → OnTrue (takes_same_shape op) (SameShape u w)
same_operands op u w = go (takes_same_shape op)
  where
    go : (b : Bool) → OnTrue b (HaveSameShape (whole_of u) (whole_of w)) → OnTrue b (SameShape u w)
    go true h = (sym (sure_length u.bits) ∙ h.0 ∙ sure_length w.bits, h.1)
    go false h = tt

module _ (v : Scene) (first : Option ℕ) (x : TermHead) where
  pub sure_unary : (op : Unary) (y : t.Term) (u : Vector) (r : Partly) → Stands v first y (whole_of u) → Fitted x (whole_of (unary_vector op u)) r → Stands v first (t.unary (head_of x) op y) r
  sure_unary op y u r sa f = record {
    bits = f.bits ∙ ap (extend_partly x.width x.signed) (sym (unary_exact op u.bits)) ∙ ap (λ ps. extend_partly x.width x.signed (unary_partly op ps)) sa.bits;
    sign_is = f.sign_is;
    blame = λ n. not_false (is_whole r) (sure_fits x (unary_vector op u) r f) n;
  }

  pub sure_binary : (op : Binary) (y z : t.Term) (u w : Vector) (r : Partly) → Stands v first y (whole_of u) → Stands v (first_after v first y) z (whole_of w) → Fitted x (whole_of (binary_vector op u w)) r → Stands v first (t.binary (head_of x) op y z) r
  sure_binary op y z u w r sa sc f =
      let shaped : (if fits op (sure u.bits) (sure w.bits) then extend_partly x.width x.signed (binary_partly op u.signed (sure u.bits) (sure w.bits)) else unknown x.width) ≡ extend_partly x.width x.signed (sure (binary_value op u.signed u.bits w.bits)) = ap (λ b. if b then extend_partly x.width x.signed (binary_partly op u.signed (sure u.bits) (sure w.bits)) else unknown x.width) (fits_exact op u.bits w.bits) ∙ ap (extend_partly x.width x.signed) (binary_exact op u.signed u.bits w.bits) in
      record {
        bits = f.bits ∙ sym shaped ∙ ap₂ (λ ps qs. if fits op ps qs then extend_partly x.width x.signed (binary_partly op u.signed ps qs) else unknown x.width) sa.bits sc.bits ∙ ap (λ g. if fits op (known_value v.design v.kept y) (known_value v.design v.kept z) then extend_partly x.width x.signed (binary_partly op g (known_value v.design v.kept y) (known_value v.design v.kept z)) else unknown x.width) sa.sign_is;
        sign_is = f.sign_is;
        blame = λ n. not_false (is_whole r) (sure_fits x (binary_vector op u w) r f) n;
      }

-- the side that the test chooses
chosen_bits : (p : Bool) (ps qs : KnownBits) → choose_partly (Some (if p then False else True)) ps qs ≡ (if p then qs else ps)
chosen_bits true ps qs = refl
chosen_bits false ps qs = refl

chosen_number : (p : Bool) (x : TermHead) (k m : ℕ) → (if p then sure (number_at x m).bits else sure (number_at x k).bits) ≡ sure (number_at x (if p then m else k)).bits
chosen_number true x k m = refl
chosen_number false x k m = refl

own_width : (x : TermHead) (k : ℕ) → extend_partly x.width x.signed (sure (number_at x k).bits) ≡ sure (number_at x k).bits
own_width x k =
    extend_exact x.width x.signed (number_at x k).bits ∙ ap sure (ap (λ w. extend w x.signed (number_at x k).bits) (sym (width_of_bits x.width k 0)) ∙ extend_own x.signed (number_at x k).bits)

pub sure_choice : (v : Scene) (first : Option ℕ) (x h : TermHead) (c y z : t.Term) (b k m : ℕ) → IsSmall h b → Stands v first c (whole_of (number_at h b)) → Stands v (first_after v first c) y (whole_of (number_at x k)) → Stands v (first_after v (first_after v first c) y) z (whole_of (number_at x m)) → Stands v first (t.choice (head_of x) c y z) (whole_of (number_at x (if b == 0 then m else k)))
sure_choice v first x h c y z b k m small sm sa sc =
    let test : known_truth (known_value v.design v.kept c) ≡ Some (if b == 0 then False else True) = ap known_truth (sym sm.bits) ∙ truth_exact (number_at h b).bits ∙ ap Some (number_truth h b small) in
    record {
      bits = sym (ap₂ (λ o ps. choice_of (head_of x) o ps (known_value v.design v.kept z)) test (sym sa.bits) ∙ ap (λ qs. choice_of (head_of x) (Some (if b == 0 then False else True)) (sure (number_at x k).bits) qs) (sym sc.bits) ∙ ap (extend_partly x.width x.signed) (chosen_bits (b == 0) (sure (number_at x k).bits) (sure (number_at x m).bits) ∙ chosen_number (b == 0) x k m) ∙ own_width x (if b == 0 then m else k));
      sign_is = refl;
      blame = λ n. not_false (is_whole (whole_of (number_at x (if b == 0 then m else k)))) (are_sure_whole (number_at x (if b == 0 then m else k)).bits) n;
    }

pub side_small : (x : TermHead) (p : Bool) (k m : ℕ) → IsSmall x k → IsSmall x m → IsSmall x (if p then m else k)
side_small x true k m h g = g
side_small x false k m h g = h
