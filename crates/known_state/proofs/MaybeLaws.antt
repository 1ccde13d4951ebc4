-- Truths, labels and differences of partly known vectors.
use Rattle.std.proofs.Common.{◌≡◌, ◌≢◌, ◌⊎◌, ⊎_elim, ℕ, true, false, ◌&&◌, List, [], ◌∷◌, length, Option, Some, None, refl, ap, ap₂, sym, ◌∙◌}
use Rattle.std.specs.Prelude.{IsTrue}
use Rattle.std.proofs.lemmas.Bool.{and_parts, and_cases, cases_Bool}
use Rattle.std.specs.Option.{unwrap_or}
use Rattle.four_state.specs.declared.bit.Bit.{Bit}
use Rattle.four_state.specs.declared.bit.Bit.TheVariants.{Zero, One}
use Rattle.four_state.specs.declared.truth.Truth.TheVariants.{True}
use Rattle.four_state.specs.declared.operator.CaseKind.{CaseKind}
use Rattle.four_state.specs.declared.operator.CaseKind.TheVariants.{Exact}
use Rattle.four_state.specs.Vector.{Vector, truth, same_bit}
use Rattle.four_state.specs.Operators.{matches}
use Rattle.known_state.specs.Partly.{Partly, allows, allows_bits, allows_bit, same_sign, filled, filled_from, is_whole}
use Rattle.known_state.specs.Join.{first_blame}
use Rattle.known_state.specs.Maybe.{IsUndecided, IsUndecidedMatch}
use Rattle.known_state.proofs.Allowed.{filled_allowed, filled_from_allowed, sure_allowed}
use Rattle.known_state.proofs.Cases.{same_bit_refl}
use Rattle.known_state.proofs.Truths.{true_for_all, true_with_one}
use Rattle.known_state.proofs.Matched.{match_crossed, match_all}
use Rattle.known_state.proofs.BinaryLaws.{vector_allowed}

-- ---- truths

-- all bits are sure, or some 1 is
pub truth_sure : (k : Partly) → (is_whole k ≡ true) ⊎ (truth (filled Zero k.bits) ≡ True) → (v : Vector) → IsTrue (allows k v) → truth v.bits ≡ truth (filled Zero k.bits)
truth_sure k sure v h =
    let bits = (and_parts (same_sign k.signed v.signed) (allows_bits k.bits v.bits) h).1 in
    ⊎_elim (λ e. ap truth (sure_allowed Zero k.bits v.bits e bits)) (λ e. true_for_all k.bits v.bits bits e ∙ sym e) sure

pub truth_undecided : (k : Partly) → is_whole k ≡ false → truth (filled Zero k.bits) ≢ True → (thing : ℕ) → thing ≡ k.blame → IsUndecided k thing
truth_undecided k unsure other thing blamed =
    record {
      one = record { bits = filled One k.bits; signed = k.signed };
      other = record { bits = filled Zero k.bits; signed = k.signed };
      one_allowed = vector_allowed k (filled One k.bits) (filled_allowed One k.bits);
      other_allowed = vector_allowed k (filled Zero k.bits) (filled_allowed Zero k.bits);
      is_true = true_with_one k.bits unsure;
      is_not = other;
      blamed = blamed;
    }

-- ---- labels

module _ (kind : CaseKind) (a b : Partly) where
  pub label_no : matches kind (filled_from a.bits (filled Zero b.bits)) (filled_from b.bits (filled Zero a.bits)) ≡ false → (v w : Vector) → IsTrue (allows a v) → IsTrue (allows b w) → matches kind v.bits w.bits ≡ false
  label_no e v w h k =
      let left = (and_parts (same_sign a.signed v.signed) (allows_bits a.bits v.bits) h).1 in
      let right = (and_parts (same_sign b.signed w.signed) (allows_bits b.bits w.bits) k).1 in
      ⊎_elim (λ m. let bad : true ≡ false = sym (match_crossed kind a.bits b.bits v.bits w.bits left right m) ∙ e in cc) (λ m. m) (cases_Bool (matches kind v.bits w.bits))

  pub label_yes : length a.bits ≡ length b.bits → (matches kind (filled Zero a.bits) (filled Zero b.bits) && (matches kind (filled One a.bits) (filled One b.bits) && matches kind (filled Zero a.bits) (filled One b.bits))) ≡ true → (v w : Vector) → IsTrue (allows a v) → IsTrue (allows b w) → matches kind v.bits w.bits ≡ true
  label_yes same e v w h k =
      let left = (and_parts (same_sign a.signed v.signed) (allows_bits a.bits v.bits) h).1 in
      let right = (and_parts (same_sign b.signed w.signed) (allows_bits b.bits w.bits) k).1 in
      let parts = and_parts (matches kind (filled Zero a.bits) (filled Zero b.bits)) (matches kind (filled One a.bits) (filled One b.bits) && matches kind (filled Zero a.bits) (filled One b.bits)) e in
      let others = and_parts (matches kind (filled One a.bits) (filled One b.bits)) (matches kind (filled Zero a.bits) (filled One b.bits)) parts.1 in
      match_all kind a.bits b.bits v.bits w.bits same left right parts.0 others.0 others.1

  pub label_undecided : matches kind (filled_from a.bits (filled Zero b.bits)) (filled_from b.bits (filled Zero a.bits)) ≡ true → (matches kind (filled Zero a.bits) (filled Zero b.bits) && (matches kind (filled One a.bits) (filled One b.bits) && matches kind (filled Zero a.bits) (filled One b.bits))) ≡ false → (thing : ℕ) → thing ≡ first_blame a b → IsUndecidedMatch kind a b thing
  label_undecided e n thing blamed =
      ⊎_elim (by Zero Zero) (λ more. ⊎_elim (by One One) (by Zero One) (and_cases (matches kind (filled One a.bits) (filled One b.bits)) (matches kind (filled Zero a.bits) (filled One b.bits)) more)) (and_cases (matches kind (filled Zero a.bits) (filled Zero b.bits)) (matches kind (filled One a.bits) (filled One b.bits) && matches kind (filled Zero a.bits) (filled One b.bits)) n)
    where
      by : (c d : Bit) → matches kind (filled c a.bits) (filled d b.bits) ≡ false → IsUndecidedMatch kind a b thing
      by c d differ =
          record {
            left = record { bits = filled_from a.bits (filled Zero b.bits); signed = a.signed };
            right = record { bits = filled_from b.bits (filled Zero a.bits); signed = b.signed };
            left_allowed = vector_allowed a (filled_from a.bits (filled Zero b.bits)) (filled_from_allowed a.bits (filled Zero b.bits));
            right_allowed = vector_allowed b (filled_from b.bits (filled Zero a.bits)) (filled_from_allowed b.bits (filled Zero a.bits));
            match = e;
            other_left = record { bits = filled c a.bits; signed = a.signed };
            other_right = record { bits = filled d b.bits; signed = b.signed };
            other_left_allowed = vector_allowed a (filled c a.bits) (filled_allowed c a.bits);
            other_right_allowed = vector_allowed b (filled d b.bits) (filled_allowed d b.bits);
            differ = differ;
            blamed = blamed;
          }

-- ---- differences

same_filled : (p : Option Bit) (c : Bit) → same_bit (unwrap_or p c) c ≡ allows_bit p c
same_filled None c = same_bit_refl c
same_filled (Some a) c = refl

-- the vector with a value's bits where it is not sure is the value where that is allowed
pub match_filled : (ps : List (Option Bit)) (cs : List Bit) → length ps ≡ length cs → matches Exact (filled_from ps cs) cs ≡ allows_bits ps cs
match_filled [] [] e = refl
match_filled [] (c ∷ cs) e = cc
match_filled (p ∷ ps) [] e = cc
match_filled (p ∷ ps) (c ∷ cs) e = ap₂ (λ s t. s && t) (same_filled p c) (match_filled ps cs (cc))
