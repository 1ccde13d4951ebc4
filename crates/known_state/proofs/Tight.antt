-- A join of answers for values that are allowed is as sharp as it can be.
use Rattle.std.proofs.Common.{◌≡◌, ℕ, ◌<◌, Bool, true, false, if◌then◌else◌, List, length, get_or, Option, Some, None, refl, ap, arith, sym, ◌∙◌}
use Rattle.std.specs.Prelude.{IsTrue}
use Rattle.std.proofs.lemmas.List.{length-map, get_or-map}
use Rattle.four_state.specs.declared.bit.Bit.{Bit}
use Rattle.four_state.specs.declared.bit.Bit.TheVariants.{X}
use Rattle.four_state.specs.Vector.{same_bit}
use Rattle.known_state.specs.Join.{join_bit, joined}
use Rattle.known_state.specs.Agreed.{sure}
use Rattle.known_state.specs.Answers.{Differ, IsTight}
use Rattle.known_state.proofs.Bits.{length-joined, get_or-joined}
use Rattle.known_state.proofs.Allowed.{join_some}
use Rattle.known_state.proofs.Cases.{same_bit_refl}

-- a value that is allowed, whose answer has this bit there
pub record Gives {A : Type 0} (allowed : A → Bool) (answer : A → List Bit) (place : ℕ) (bit : Bit) : Type 0 where
  pub value : A
  pub is_allowed : IsTrue (allowed value)
  pub gives : get_or (answer value) place X ≡ bit

-- the bits are tight, and each sure one is given
pub record IsReached {A : Type 0} (allowed : A → Bool) (answer : A → List Bit) (ps : List (Option Bit)) : Type 0 where
  pub tight : IsTight allowed answer ps
  pub given : (i : ℕ) (b : Bit) → i < length ps → get_or ps i None ≡ Some b → Gives allowed answer i b

module _ {A : Type 0} (allowed : A → Bool) (answer : A → List Bit) where
  some_at : (x : A) (i : ℕ) → i < length (sure (answer x)) → get_or (sure (answer x)) i None ≡ Some (get_or (answer x) i X)
  some_at x i l = get_or-map Some (answer x) i X None (rw length-map at l)

  pub reached-whole : (x : A) → IsTrue (allowed x) → IsReached allowed answer (sure (answer x))
  reached-whole x h =
      record {
        tight = λ i l e. absurd (let k = some_at x i l in let bad : None ≡ Some (get_or (answer x) i X) = sym e ∙ k in cc);
        given = λ i b l e. record { value = x; is_allowed = h; gives = (let k : Some (get_or (answer x) i X) ≡ Some b = sym (some_at x i l) ∙ e in cc) };
      }

  pub reached-joined : (ps qs : List (Option Bit)) → length ps ≡ length qs → IsReached allowed answer ps → IsReached allowed answer qs → IsReached allowed answer (joined ps qs)
  reached-joined ps qs same p q =
      record {
        tight = λ i l e. let k : i < length ps = rw (length-joined ps qs same) at l in unsure i k (get_or ps i None) (get_or qs i None) refl refl (sym (get_or-joined ps qs i same k) ∙ e);
        given = λ i b l e. let k : i < length ps = rw (length-joined ps qs same) at l in p.given i b k (join_some _ _ b (sym (get_or-joined ps qs i same k) ∙ e)).0;
      }
    where
      two : (i : ℕ) (b c : Bit) → i < length ps → get_or ps i None ≡ Some b → get_or qs i None ≡ Some c → (t : Bool) → same_bit b c ≡ t → (if t then Some b else None) ≡ None → Differ allowed answer i
      two i b c l e f true s k = cc
      two i b c l e f false s k =
          let x = p.given i b l e in
          let y = q.given i c (omega arith) f in
          record {
            one = x.value;
            other = y.value;
            one_allowed = x.is_allowed;
            other_allowed = y.is_allowed;
            differ = λ d. let equal : b ≡ c = sym x.gives ∙ d ∙ y.gives in let bad : false ≡ true = sym s ∙ ap (same_bit b) (sym equal) ∙ same_bit_refl b in cc;
          }

      unsure : (i : ℕ) → i < length ps → (o r : Option Bit) → get_or ps i None ≡ o → get_or qs i None ≡ r → join_bit o r ≡ None → Differ allowed answer i
      unsure i l None r e f k = p.tight i l e
      unsure i l (Some b) None e f k = q.tight i (omega arith) f
      unsure i l (Some b) (Some c) e f k = two i b c l e f (same_bit b c) refl k
