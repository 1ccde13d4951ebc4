-- The join of partly known vectors: in any order, and with a vector of which nothing is sure.
use Rattle.std.proofs.Common.{◌≡◌, ℕ, zero, suc, Bool, true, false, if◌then◌else◌, [], ◌∷◌, length, Option, Some, None, refl, sym, ap, ap₂, ◌∙◌, arith}
use Rattle.std.proofs.lemmas.Bool.{false≢true}
use Rattle.four_state.specs.declared.bit.Bit.{Bit}
use Rattle.four_state.specs.Vector.{same_bit}
use Rattle.known_state.specs.Join.{join_bit, joined}
use Rattle.known_state.specs.Stored.{mask_of_sure}
use Rattle.known_state.proofs.Cases.{same_bit_eq, same_bit_of}
use Rattle.body_replay.specs.KnownBits.{KnownBits, unknown}
use Rattle.body_replay.proofs.Frames.{join_self}

join_comm : (p q : Option Bit) → join_bit p q ≡ join_bit q p
join_comm None None = refl
join_comm None (Some b) = refl
join_comm (Some a) None = refl
join_comm (Some a) (Some b) = go (same_bit a b) (same_bit b a) refl refl
  where
    go : (s t : Bool) → same_bit a b ≡ s → same_bit b a ≡ t → (if s then Some a else None) ≡ (if t then Some b else None)
    go true true e f = ap Some (same_bit_eq a b e)
    go false false e f = refl
    go true false e f = absurd (false≢true (sym f ∙ same_bit_of b a (sym (same_bit_eq a b e))))
    go false true e f = absurd (false≢true (sym e ∙ same_bit_of a b (sym (same_bit_eq b a f))))

join_assoc : (p q r : Option Bit) → join_bit (join_bit p q) r ≡ join_bit p (join_bit q r)
join_assoc None q r = refl
join_assoc (Some a) None r = refl
join_assoc (Some a) (Some b) None = go (same_bit a b)
  where
    go : (t : Bool) → join_bit (if t then Some a else None) None ≡ None
    go true = refl
    go false = refl
join_assoc (Some a) (Some b) (Some c) = go (same_bit a b) (same_bit b c) refl refl
  where
    go : (s t : Bool) → same_bit a b ≡ s → same_bit b c ≡ t → join_bit (if s then Some a else None) (Some c) ≡ join_bit (Some a) (if t then Some b else None)
    go true true e f =
        let there : same_bit a c ≡ true = same_bit_of a c (same_bit_eq a b e ∙ same_bit_eq b c f) in
        ap (λ x. if x then Some a else None) (there ∙ sym e)
    go true false e f = ap (λ x. if x then Some a else None) (ap (λ x. same_bit x c) (same_bit_eq a b e) ∙ f)
    go false true e f = sym (ap (λ x. if x then Some a else None) e)
    go false false e f = refl

pub joined_comm : (ps qs : KnownBits) → joined ps qs ≡ joined qs ps
joined_comm [] [] = refl
joined_comm [] (q ∷ qs) = refl
joined_comm (p ∷ ps) [] = refl
joined_comm (p ∷ ps) (q ∷ qs) = ap₂ (λ x xs. x ∷ xs) (join_comm p q) (joined_comm ps qs)

pub joined_assoc : (ps qs rs : KnownBits) → joined (joined ps qs) rs ≡ joined ps (joined qs rs)
joined_assoc [] qs rs = refl
joined_assoc (p ∷ ps) [] rs = refl
joined_assoc (p ∷ ps) (q ∷ qs) [] = refl
joined_assoc (p ∷ ps) (q ∷ qs) (r ∷ rs) = ap₂ (λ x xs. x ∷ xs) (join_assoc p q r) (joined_assoc ps qs rs)

pub joined_self : (ps : KnownBits) → joined ps ps ≡ ps
joined_self [] = refl
joined_self (p ∷ ps) = ap₂ (λ x xs. x ∷ xs) (join_self p) (joined_self ps)

-- a join once more with one of its sides
pub joined_again : (ps qs : KnownBits) → joined (joined ps qs) qs ≡ joined ps qs
joined_again ps qs = joined_assoc ps qs qs ∙ ap (joined ps) (joined_self qs)

pub length-joined : (ps qs : KnownBits) (n : ℕ) → length ps ≡ n → length qs ≡ n → length (joined ps qs) ≡ n
length-joined [] qs n e f = e
length-joined (p ∷ ps) [] n e f = f
length-joined (p ∷ ps) (q ∷ qs) zero e f = cc
length-joined (p ∷ ps) (q ∷ qs) (suc n) e f = let i : length ps ≡ n = cc in let j : length qs ≡ n = cc in ap suc (length-joined ps qs n i j)

-- where nothing is sure of one side, nothing is of the join
pub unknown_joined : (n : ℕ) (qs : KnownBits) → length qs ≡ n → joined (unknown n) qs ≡ unknown n
unknown_joined zero qs e = refl
unknown_joined (suc n) [] e = cc
unknown_joined (suc n) (q ∷ qs) e = let i : length qs ≡ n = cc in ap (λ xs. None ∷ xs) (unknown_joined n qs i)

-- no place is in the mask
pub nothing_sure : (ps : KnownBits) → mask_of_sure ps ≡ 0 → ps ≡ unknown (length ps)
unfolding mask_of_sure
nothing_sure [] e = refl
nothing_sure (None ∷ ps) e = ap (λ qs. None ∷ qs) (nothing_sure ps (omega (arith, e)))
nothing_sure (Some b ∷ ps) e = absurd (omega (arith, e))
