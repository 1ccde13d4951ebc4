-- Which vectors are allowed: the filled ones, and what a join allows.
use Rattle.std.proofs.Common.{◌≡◌, ℕ, zero, suc, ◌<◌, Bool, true, false, if◌then◌else◌, List, [], ◌∷◌, length, get_or, Option, Some, None, is_some, refl, ap, arith, sym, subst, ◌∙◌}
use Rattle.std.proofs.lemmas.Bool.{and_parts}
use Rattle.std.proofs.lemmas.List.{length-map}
use Rattle.std.specs.Option.{unwrap_or}
use Rattle.std.specs.Prelude.{IsTrue}
use Rattle.four_state.specs.declared.bit.Bit.{Bit}
use Rattle.four_state.specs.declared.bit.Bit.TheVariants.{Zero, X}
use Rattle.four_state.specs.Vector.{Vector, same_bit}
use Rattle.known_state.specs.Partly.{with_blame, Partly, allows, whole_of, allows_bit, allows_bits, same_sign, are_sure, filled, filled_from}
use Rattle.known_state.specs.Join.{join_bit, joined}
use Rattle.known_state.specs.Agreed.{sure}
use Rattle.known_state.proofs.Bits.{length-joined, get_or-joined}
use Rattle.known_state.proofs.Cases.{both_true, same_bit_refl, same_bit_eq}

pub same_sign_refl : (s : Bool) → same_sign s s ≡ true
same_sign_refl false = refl
same_sign_refl true = refl

pub same_sign_eq : (s t : Bool) → same_sign s t ≡ true → s ≡ t
same_sign_eq false false h = refl
same_sign_eq true true h = refl
same_sign_eq false true h = cc
same_sign_eq true false h = cc

-- ---- bits that are filled are allowed

option_allows : (p : Option Bit) (b : Bit) → allows_bit p (unwrap_or p b) ≡ true
option_allows None b = refl
option_allows (Some a) b = same_bit_refl a

pub filled_allowed : (b : Bit) (ps : List (Option Bit)) → allows_bits ps (filled b ps) ≡ true
filled_allowed b [] = refl
filled_allowed b (p ∷ ps) = both_true _ _ (option_allows p b) (filled_allowed b ps)

pub filled_from_allowed : (ps : List (Option Bit)) (cs : List Bit) → allows_bits ps (filled_from ps cs) ≡ true
filled_from_allowed [] cs = refl
filled_from_allowed (p ∷ ps) [] = both_true _ _ (option_allows p Zero) (filled_from_allowed ps [])
filled_from_allowed (p ∷ ps) (c ∷ cs) = both_true _ _ (option_allows p c) (filled_from_allowed ps cs)

pub length-allowed : (ps : List (Option Bit)) (bs : List Bit) → allows_bits ps bs ≡ true → length ps ≡ length bs
length-allowed [] [] h = refl
length-allowed [] (b ∷ bs) h = cc
length-allowed (p ∷ ps) [] h = cc
length-allowed (p ∷ ps) (b ∷ bs) h = ap suc (length-allowed ps bs (and_parts _ _ h).1)

pub length-filled : (b : Bit) (ps : List (Option Bit)) → length (filled b ps) ≡ length ps
length-filled b ps = length-map ps (λ p. unwrap_or p b)

-- ---- bits that are all sure

sure_parts : (p : Option Bit) (ps : List (Option Bit)) → are_sure (p ∷ ps) ≡ true → (is_some p ≡ true) × (are_sure ps ≡ true)
sure_parts p ps h = and_parts (is_some p) (are_sure ps) h

pub sure_filled : (b c : Bit) (ps : List (Option Bit)) → are_sure ps ≡ true → filled b ps ≡ filled c ps
sure_filled b c [] h = refl
sure_filled b c (None ∷ ps) h = cc
sure_filled b c (Some a ∷ ps) h = ap (λ bs. a ∷ bs) (sure_filled b c ps h)

pub sure_filled_from : (b : Bit) (ps : List (Option Bit)) (cs : List Bit) → are_sure ps ≡ true → filled_from ps cs ≡ filled b ps
sure_filled_from b [] cs h = refl
sure_filled_from b (None ∷ ps) cs h = cc
sure_filled_from b (Some a ∷ ps) [] h = ap (λ bs. a ∷ bs) (sure_filled_from b ps [] h)
sure_filled_from b (Some a ∷ ps) (c ∷ cs) h = ap (λ bs. a ∷ bs) (sure_filled_from b ps cs h)

-- the only vector that is allowed
pub sure_allowed : (b : Bit) (ps : List (Option Bit)) (bs : List Bit) → are_sure ps ≡ true → allows_bits ps bs ≡ true → bs ≡ filled b ps
sure_allowed b [] [] s h = refl
sure_allowed b [] (c ∷ bs) s h = cc
sure_allowed b (p ∷ ps) [] s h = cc
sure_allowed b (None ∷ ps) (c ∷ bs) s h = cc
sure_allowed b (Some a ∷ ps) (c ∷ bs) s h =
    let here = and_parts (same_bit a c) (allows_bits ps bs) h in
    ap (λ x. x ∷ bs) (sym (same_bit_eq a c here.0)) ∙ ap (λ cs. a ∷ cs) (sure_allowed b ps bs s here.1)

pub whole_filled : (b : Bit) (bs : List Bit) → filled b (sure bs) ≡ bs
whole_filled b [] = refl
whole_filled b (c ∷ bs) = ap (λ ds. c ∷ ds) (whole_filled b bs)

pub are_sure_whole : (bs : List Bit) → are_sure (sure bs) ≡ true
are_sure_whole [] = refl
are_sure_whole (b ∷ bs) = are_sure_whole bs

pub sure_whole : (b : Bit) (ps : List (Option Bit)) → are_sure ps ≡ true → ps ≡ sure (filled b ps)
sure_whole b [] h = refl
sure_whole b (None ∷ ps) h = cc
sure_whole b (Some a ∷ ps) h = ap (λ qs. Some a ∷ qs) (sure_whole b ps h)

-- a vector of which all bits are sure and nothing is to blame is whole
pub whole_is : (ps : List (Option Bit)) (v : Vector) (thing : ℕ) → filled Zero ps ≡ v.bits → are_sure ps ≡ true → thing ≡ 0 → record { bits = ps; signed = v.signed; blame = thing } ≡ whole_of v
whole_is ps v thing bits all_sure spared =
    ap (λ qs. record { bits = qs; signed = v.signed; blame = thing }) (sure_whole Zero ps all_sure ∙ ap sure bits) ∙ ap (λ n. record { bits = sure v.bits; signed = v.signed; blame = n }) spared

-- ---- what a join allows

pub join_some : (p q : Option Bit) (b : Bit) → join_bit p q ≡ Some b → (p ≡ Some b) × (q ≡ Some b)
join_some None q b h = cc
join_some (Some a) None b h = cc
join_some (Some a) (Some c) b h = go (same_bit a c) refl h
  where
    go : (t : Bool) → same_bit a c ≡ t → (if t then Some a else None) ≡ Some b → (Some a ≡ Some b) × (Some c ≡ Some b)
    go true e k = (k, ap Some (sym (same_bit_eq a c e)) ∙ k)
    go false e k = cc

pub join_same : (b : Bit) → join_bit (Some b) (Some b) ≡ Some b
join_same b = ap (λ t. if t then Some b else None) (same_bit_refl b)

pub joined_same : (bs : List Bit) → joined (sure bs) (sure bs) ≡ sure bs
joined_same [] = refl
joined_same (b ∷ bs) = ap (λ p. p ∷ joined (sure bs) (sure bs)) (join_same b) ∙ ap (λ ps. Some b ∷ ps) (joined_same bs)

-- bits allow a vector where each sure one is the vector's
pub allowed_by_places : (ps : List (Option Bit)) (bs : List Bit) → length ps ≡ length bs → ((i : ℕ) (b : Bit) → i < length ps → get_or ps i None ≡ Some b → get_or bs i X ≡ b) → allows_bits ps bs ≡ true
allowed_by_places [] [] e h = refl
allowed_by_places [] (b ∷ bs) e h = cc
allowed_by_places (p ∷ ps) [] e h = cc
allowed_by_places (p ∷ ps) (b ∷ bs) e h =
    both_true _ _ (first p (λ c k. h 0 c (omega arith) k)) (allowed_by_places ps bs (cc) (λ i c l k. h (suc i) c (omega arith) k))
  where
    first : (p : Option Bit) → ((c : Bit) → p ≡ Some c → b ≡ c) → allows_bit p b ≡ true
    first None k = refl
    first (Some a) k = rw (k a refl) (same_bit_refl a)

pub place_allowed : (ps : List (Option Bit)) (bs : List Bit) (i : ℕ) (b : Bit) → allows_bits ps bs ≡ true → i < length ps → get_or ps i None ≡ Some b → get_or bs i X ≡ b
place_allowed [] bs i b h l e = absurd (omega arith)
place_allowed (p ∷ ps) [] i b h l e = cc
place_allowed (p ∷ ps) (c ∷ bs) zero b h l e =
    sym (same_bit_eq b c (subst (λ q. allows_bit q c ≡ true) e (and_parts _ _ h).0))
place_allowed (p ∷ ps) (c ∷ bs) (suc i) b h l e = place_allowed ps bs i b (and_parts _ _ h).1 (omega arith) e

pub joined_left : (ps qs : List (Option Bit)) (bs : List Bit) → length ps ≡ length qs → allows_bits ps bs ≡ true → allows_bits (joined ps qs) bs ≡ true
joined_left ps qs bs e h =
    allowed_by_places (joined ps qs) bs (length-joined ps qs e ∙ length-allowed ps bs h) (λ i b l k. let m : i < length ps = rw (length-joined ps qs e) at l in
    place_allowed ps bs i b h m (join_some _ _ b (sym (get_or-joined ps qs i e m) ∙ k)).0)

pub joined_right : (ps qs : List (Option Bit)) (bs : List Bit) → length ps ≡ length qs → allows_bits qs bs ≡ true → allows_bits (joined ps qs) bs ≡ true
joined_right ps qs bs e h =
    allowed_by_places (joined ps qs) bs (length-joined ps qs e ∙ e ∙ length-allowed qs bs h) (λ i b l k. let m : i < length ps = rw (length-joined ps qs e) at l in
    place_allowed qs bs i b h (omega arith) (join_some _ _ b (sym (get_or-joined ps qs i e m) ∙ k)).1)

-- a vector that is allowed has the width and the sign
pub shape_of_allowed : (k : Partly) (v : Vector) → IsTrue (allows k v) → (length k.bits ≡ length v.bits) × (k.signed ≡ v.signed)
shape_of_allowed k v h =
    let parts = and_parts (same_sign k.signed v.signed) (allows_bits k.bits v.bits) h in (length-allowed k.bits v.bits parts.1, same_sign_eq k.signed v.signed parts.0)

pub allows_at : (ps : List (Option Bit)) (bs : List Bit) (i : ℕ) → allows_bits ps bs ≡ true → i < length ps → allows_bit (get_or ps i None) (get_or bs i X) ≡ true
allows_at [] bs i h l = absurd (omega arith)
allows_at (p ∷ ps) [] i h l = cc
allows_at (p ∷ ps) (b ∷ bs) zero h l = (and_parts (allows_bit p b) (allows_bits ps bs) h).0
allows_at (p ∷ ps) (b ∷ bs) (suc i) h l = allows_at ps bs i (and_parts (allows_bit p b) (allows_bits ps bs) h).1 (omega arith)

-- a join of two vectors with one sign
module _ (a b : Partly) (same : length a.bits ≡ length b.bits) (thing : ℕ) (v : Vector) where
  pub join_allows_left : IsTrue (allows a v) → IsTrue (allows (with_blame (joined a.bits b.bits) a.signed thing) v)
  join_allows_left h =
      let parts = and_parts (same_sign a.signed v.signed) (allows_bits a.bits v.bits) h in both_true _ _ parts.0 (joined_left a.bits b.bits v.bits same parts.1)

  pub join_allows_right : a.signed ≡ b.signed → IsTrue (allows b v) → IsTrue (allows (with_blame (joined a.bits b.bits) a.signed thing) v)
  join_allows_right sign h =
      let parts = and_parts (same_sign b.signed v.signed) (allows_bits b.bits v.bits) h in both_true _ _ (rw sign parts.0) (joined_right a.bits b.bits v.bits same parts.1)
