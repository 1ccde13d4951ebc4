-- What each form of a term gives represents the term.
use Rattle.std.proofs.Common.{◌≡◌, ◌∙◌, ℕ, Bool, true, false, if◌then◌else◌, List, [], Option, Some, None, length, refl, sym, ap, ap₂, subst, suc, zero, ◌∷◌}
use mathlib.Core.Bool.{beq}
use Rattle.std.specs.Prelude.{IsTrue}
use Rattle.std.specs.Bool.{OnTrue}
use Rattle.four_state.specs.declared.bit.Bit.{Bit}
use Rattle.four_state.specs.declared.bit.Bit.TheVariants.{Zero}
use Rattle.four_state.specs.declared.truth.Truth.{Truth}
use Rattle.four_state.specs.declared.operator.Unary.{Unary}
use Rattle.four_state.specs.declared.operator.Binary.{Binary}
use Rattle.four_state.specs.Vector.{Vector, extend, fill, fit}
use Rattle.four_state.specs.Operators.{unary_value, unary_vector, binary_value, binary_vector, takes_same_shape, choice_value, choice_vector}
use Rattle.four_state.specs.Parts.{extended_vector}
use Rattle.known_state.specs.declared.maybe.KnownTruth.{KnownTruth}
use Rattle.known_state.specs.Partly.{Partly, allows, are_sure, is_whole, whole_of}
use Rattle.known_state.specs.Join.{first_blame, joined, join_bit}
use Rattle.known_state.specs.Answers.{IsTight, HaveSameShape, allow_both}
use Rattle.known_state.specs.Maybe.{IsTruthOf, allows_truth, allow_choice, choice_blame}
use Rattle.known_state.proofs.Cases.{same_bit_refl}
use Rattle.design_model.specs.Tree as t
use Rattle.body_replay.specs.KnownBits.{KnownBits, extend_partly, is_unsure_shift, sure, unknown}
use Rattle.body_replay.proofs.Answered.{extend_same, same_sure}
use Rattle.body_replay.proofs.Exact.{extend_exact}
use Rattle.body_replay.proofs.Unsure.{all_sure_sure}
use Rattle.body_replay.proofs.Steps as s
use Rattle.term_replay.specs.Stands.{Fitted, IsRead, Scene, Stands, StandsAll, first_after, head_of, whole_at}
use Rattle.term_replay.specs.declared.head.TermHead.{TermHead}

pub to_step : (v : Scene) (first : Option ℕ) (x : t.Term) (r : Partly) → Stands v first x r → s.Stands v.design v.kept v.blames first x r
to_step v first x r a = record { bits = a.bits; sign_is = a.sign_is; blame = a.blame }

pub from_step : (v : Scene) (first : Option ℕ) (x : t.Term) (r : Partly) → s.Stands v.design v.kept v.blames first x r → Stands v first x r
from_step v first x r a = record { bits = a.bits; sign_is = a.sign_is; blame = a.blame }

pub to_all : (v : Scene) (first : Option ℕ) (xs : t.Terms) (r : Partly) → StandsAll v first xs r → s.StandsAll v.design v.kept v.blames first xs r
to_all v first xs r a = record { bits = a.bits; blame = a.blame }

pub to_fit : (x : TermHead) (q r : Partly) → Fitted x q r → s.Fitted x.width x.signed q r
to_fit x q r f = record { bits = f.bits; sign_is = f.sign_is; blame = f.blame }

-- a vector that is whole is not unsure
pub whole_sure : (n : Vector) → are_sure (whole_of n).bits ≡ true
whole_sure n = sym (same_sure (sure n.bits)) ∙ all_sure_sure n.bits

pub not_false : {A : Type 0} (b : Bool) → b ≡ true → b ≡ false → A
not_false b e f = absurd (cc)

-- ---- a value at the shape of its term

fit_same : (b : Bit) (bs : List Bit) → fit (length bs) b bs ≡ bs
fit_same b [] = refl
fit_same b (c ∷ cs) = ap (λ r. c ∷ r) (fit_same b cs)

pub extend_own : (signed : Bool) (bs : List Bit) → extend (length bs) signed bs ≡ bs
extend_own signed bs = fit_same _ bs

pub same_flag : (s t : Bool) → beq s t ≡ true → s ≡ t
same_flag true true e = refl
same_flag false false e = refl
same_flag true false e = absurd (cc)
same_flag false true e = absurd (cc)

-- no bits, extended, are all 0
fit_fill : (w : ℕ) (b : Bit) → fit w b [] ≡ fill w b
fit_fill zero b = refl
fit_fill (suc w) b = ap (λ r. b ∷ r) (fit_fill w b)

pub no_bits : (w : ℕ) (g : Bool) → extend w g [] ≡ fill w Zero
no_bits w true = fit_fill w Zero
no_bits w false = fit_fill w Zero

pub whole_extended : (x : TermHead) (n m r : Vector) → m ≡ extended_vector (length n.bits) x.signed n → r ≡ extended_vector x.width x.signed m → r ≡ record { bits = extend x.width x.signed n.bits; signed = x.signed }
whole_extended x n m r e f =
    f ∙ ap (λ y. extended_vector x.width x.signed y) e ∙ ap (λ bs. record { bits = extend x.width x.signed bs; signed = x.signed }) (extend_own n.signed n.bits)

pub same_fits : (x : TermHead) (q : Partly) → length q.bits ≡ x.width → q.signed ≡ x.signed → Fitted x q q
same_fits x q w g = record {
  bits = sym (ap (λ n. extend_partly n x.signed q.bits) (sym w) ∙ extend_same x.signed q.bits);
  sign_is = g;
  blame = λ u. (u, refl);
}

pub whole_fits : (x : TermHead) (n : Vector) (q r : Partly) → q ≡ whole_of n → r ≡ whole_at x n.bits → Fitted x q r
whole_fits x n q r e f = record {
  bits = ap (λ y. y.bits) f ∙ sym (ap (λ y. extend_partly x.width x.signed y.bits) e ∙ extend_exact x.width x.signed n.bits);
  sign_is = ap (λ y. y.signed) f;
  blame = λ u. not_false (are_sure r.bits) (ap (λ y. are_sure y.bits) f ∙ whole_sure (record { bits = extend x.width x.signed n.bits; signed = x.signed })) u;
}

pub slow_fits : (x : TermHead) (k m r : Partly) → ((v : Vector) → IsTrue (allows k v) → IsTrue (allows m (extended_vector (length k.bits) x.signed v))) → IsTight (allows k) (λ v. extend (length k.bits) v.signed v.bits) m.bits → (is_whole m ≡ false → m.blame ≡ k.blame) → ((v : Vector) → IsTrue (allows m v) → IsTrue (allows r (extended_vector x.width x.signed v))) → IsTight (allows m) (λ v. extend x.width v.signed v.bits) r.bits → (is_whole r ≡ false → r.blame ≡ m.blame) → Fitted x k r
slow_fits x k m r s1 t1 b1 s2 t2 b2 = let f = s.fitted x.width x.signed k m r s1 t1 b1 s2 t2 b2 in record { bits = f.bits; sign_is = f.sign_is; blame = f.blame }

join_self : (p : Option Bit) → join_bit p p ≡ p
join_self None = refl
join_self (Some b) = ap (λ y. if y then Some b else None) (same_bit_refl b)

pub joined_self : (ps : KnownBits) → joined ps ps ≡ ps
joined_self [] = refl
joined_self (p ∷ ps) = ap₂ (λ x y. x ∷ y) (join_self p) (joined_self ps)

-- ---- the leaves

pub number_stands : (v : Scene) (first : Option ℕ) (x : TermHead) (n : Vector) (q r : Partly) → q ≡ whole_of n → Fitted x q r → Stands v first (t.number (head_of x) n) r
number_stands v first x n q r e f =
    from_step v first _ r (s.number_stands v.design v.kept v.blames first (head_of x) n r (to_fit x (whole_of n) r (subst (λ y. Fitted x y r) e f)))

pub signal_stands : (v : Scene) (first : Option ℕ) (x : TermHead) (n : ℕ) (q r : Partly) → IsRead v n q → Fitted x q r → Stands v first (t.signal (head_of x) n) r
signal_stands v first x n q r is f =
    from_step v first _ r (s.signal_stands v.design v.kept v.blames first (head_of x) n q r is.bits is.blame (to_fit x q r f))

pub sign_stands : (v : Scene) (first : Option ℕ) (x : TermHead) (y : t.Term) (g : Bool) (a r : Partly) → Stands v first y a → Fitted x a r → Stands v first (t.sign (head_of x) g y) r
sign_stands v first x y g a r sa f =
    from_step v first _ r (s.sign_stands v.design v.kept v.blames first (head_of x) g y a r (to_step v first y a sa) (to_fit x a r f))

-- ---- the operators

pub unary_stands : (v : Scene) (first : Option ℕ) (x : TermHead) (op : Unary) (y : t.Term) (a q r : Partly) → Stands v first y a → ((w : Vector) → IsTrue (allows a w) → IsTrue (allows q (unary_vector op w))) → IsTight (allows a) (λ w. unary_value op w.bits) q.bits → (is_whole q ≡ false → q.blame ≡ a.blame) → Fitted x q r → Stands v first (t.unary (head_of x) op y) r
unary_stands v first x op y a q r sa sound tight b f =
    from_step v first _ r (s.unary_stands v.design v.kept v.blames first (head_of x) op y a q r (to_step v first y a sa) sound tight b (to_fit x q r f))

pub binary_stands : (v : Scene) (first : Option ℕ) (x : TermHead) (op : Binary) (y z : t.Term) (a c q r : Partly) → Stands v first y a → Stands v (first_after v first y) z c → OnTrue (takes_same_shape op) (HaveSameShape a c) → ((u w : Vector) → IsTrue (allows a u) → IsTrue (allows c w) → IsTrue (allows q (binary_vector op u w))) → (is_unsure_shift op c.bits ≡ false → IsTight (allow_both a c) (λ p. binary_value op p.0.signed p.0.bits p.1.bits) q.bits) → (is_unsure_shift op c.bits ≡ true → q.bits ≡ unknown (length a.bits)) → (is_whole q ≡ false → q.blame ≡ first_blame a c) → Fitted x q r → Stands v first (t.binary (head_of x) op y z) r
binary_stands v first x op y z a c q r sa sc shape sound tight shifts b f =
    from_step v first _ r (s.binary_stands v.design v.kept v.blames first (head_of x) op y z a c q r (to_step v first y a sa) (to_step v (first_after v first y) z c sc) shape sound tight shifts b (to_fit x q r f))

pub choice_stands : (v : Scene) (first : Option ℕ) (x : TermHead) (i y z : t.Term) (m a c q r : Partly) (answer : KnownTruth) → Stands v first i m → Stands v (first_after v first i) y a → Stands v (first_after v (first_after v first i) y) z c → IsTruthOf m answer → HaveSameShape a c → ((h : Truth) (u w : Vector) → IsTrue (allows_truth answer h) → IsTrue (allows a u) → IsTrue (allows c w) → IsTrue (allows q (choice_vector h u w))) → IsTight (allow_choice answer a c) (λ p. choice_value p.0 p.1.bits p.2.bits) q.bits → (is_whole q ≡ false → q.blame ≡ choice_blame answer a c) → Fitted x q r → Stands v first (t.choice (head_of x) i y z) r
choice_stands v first x i y z m a c q r answer sm sa sc truth_is shape sound tight b f =
    from_step v first _ r (s.choice_stands v.design v.kept v.blames first (head_of x) i y z m a c q r answer (to_step v first i m sm) (to_step v (first_after v first i) y a sa) (to_step v (first_after v (first_after v first i) y) z c sc) truth_is shape sound tight b (to_fit x q r f))
