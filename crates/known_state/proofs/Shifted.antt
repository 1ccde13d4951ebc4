-- Bits that are only moved: what is the same for 0 and for 1 at the bits that are not sure is so for all.
use Rattle.std.proofs.Common.{◌≡◌, ℕ, zero, suc, ◌+◌, ◌-◌, ◌<◌, nat_lt, Bool, true, false, if◌then◌else◌, List, [], ◌∷◌, map, length, get_or, Option, Some, None, refl, ap, arith, sym, ◌∙◌, ⊎_elim}
use Rattle.std.specs.List.{range_with_len}
use Rattle.std.proofs.lemmas.Bool.{and_parts, cases_Bool, cond-true, cond-false}
use Rattle.std.proofs.lemmas.List.{get_or-replicate}
use Rattle.std.proofs.lemmas.List.FromFn.{get_or-map-range_with_len}
use Rattle.std.specs.Option.{unwrap_or}
use Rattle.four_state.specs.declared.bit.Bit.{Bit}
use Rattle.four_state.specs.declared.bit.Bit.TheVariants.{Zero, One, X}
use Rattle.four_state.specs.Vector.{all_known, fill, top}
use Rattle.four_state.specs.Arithmetic.{natural, shift, shift_left, shift_right}
use Rattle.known_state.specs.Partly.{allows_bits, allows_bit, filled, are_sure}
use Rattle.known_state.specs.Agreed.{both_agreed}
use Rattle.known_state.proofs.Allowed.{length-allowed, length-filled, sure_allowed, sure_filled}
use Rattle.known_state.proofs.Cases.{same_bit_eq}
use Rattle.known_state.proofs.Strict.{known_for}
use Rattle.known_state.proofs.Pairs.{both_agreed_sound}
use Rattle.known_state.proofs.Widths.{length-shift_left, length-shift_right}

pub moved_bit : (p : Option Bit) (c b : Bit) → allows_bit p c ≡ true → unwrap_or p Zero ≡ b → unwrap_or p One ≡ b → c ≡ b
moved_bit None c b h e f = cc
moved_bit (Some a) c b h e f = sym (same_bit_eq a c h) ∙ e

-- the bit at a place, or another one past the end
pub moved_at : (ps : List (Option Bit)) (bs : List Bit) (i : ℕ) (d0 d1 d b : Bit) → allows_bits ps bs ≡ true → (d0 ≡ b → d1 ≡ b → d ≡ b) → get_or (filled Zero ps) i d0 ≡ b → get_or (filled One ps) i d1 ≡ b → get_or bs i d ≡ b
moved_at [] [] i d0 d1 d b h k e f = k e f
moved_at [] (c ∷ bs) i d0 d1 d b h k e f = cc
moved_at (p ∷ ps) [] i d0 d1 d b h k e f = cc
moved_at (p ∷ ps) (c ∷ bs) zero d0 d1 d b h k e f = moved_bit p c b (and_parts (allows_bit p c) (allows_bits ps bs) h).0 e f
moved_at (p ∷ ps) (c ∷ bs) (suc i) d0 d1 d b h k e f = moved_at ps bs i d0 d1 d b (and_parts (allows_bit p c) (allows_bits ps bs) h).1 k e f

-- the highest bit
pub moved_top : (ps : List (Option Bit)) (bs : List Bit) (b : Bit) → allows_bits ps bs ≡ true → top (filled Zero ps) ≡ b → top (filled One ps) ≡ b → top bs ≡ b
moved_top [] [] b h e f = e
moved_top [] (c ∷ bs) b h e f = cc
moved_top (p ∷ ps) [] b h e f = cc
moved_top (p ∷ []) (c ∷ []) b h e f = moved_bit p c b (and_parts (allows_bit p c) true h).0 e f
moved_top (p ∷ []) (c ∷ d ∷ bs) b h e f = let bad = (and_parts (allows_bit p c) false h).1 in cc
moved_top (p ∷ q ∷ ps) (c ∷ []) b h e f = let bad = (and_parts (allows_bit p c) false h).1 in cc
moved_top (p ∷ q ∷ ps) (c ∷ d ∷ bs) b h e f = moved_top (q ∷ ps) (d ∷ bs) b (and_parts (allows_bit p c) (allows_bits (q ∷ ps) (d ∷ bs)) h).1 e f

-- what fills a vector up
pub moved_filler : (s : Bool) (ps : List (Option Bit)) (bs : List Bit) (b : Bit) → allows_bits ps bs ≡ true → (if s then top (filled Zero ps) else Zero) ≡ b → (if s then top (filled One ps) else Zero) ≡ b → (if s then top bs else Zero) ≡ b
moved_filler false ps bs b h e f = e
moved_filler true ps bs b h e f = moved_top ps bs b h e f

-- ---- shifts

shift_known : (f : ℕ → ℕ → Bit) (bs cs : List Bit) (i : ℕ) → all_known cs ≡ true → i < length bs → get_or (shift f bs cs) i X ≡ f (natural cs) i
shift_known f bs cs i k l =
    ap (λ xs. get_or xs i X) (cond-true (all_known cs) (map (f (natural cs)) (range_with_len 0 (length bs))) (fill (length bs) X) k) ∙ get_or-map-range_with_len (f (natural cs)) 0 (length bs) i i X l (omega arith)

shift_strange : (f : ℕ → ℕ → Bit) (bs cs : List Bit) (i : ℕ) → all_known cs ≡ false → i < length bs → get_or (shift f bs cs) i X ≡ X
shift_strange f bs cs i k l =
    ap (λ xs. get_or xs i X) (cond-false (all_known cs) (map (f (natural cs)) (range_with_len 0 (length bs))) (fill (length bs) X) k) ∙ get_or-replicate (length bs) i X X l

not_both : (p : Bool) → p ≡ true → p ≡ false → {A : Type 0} → A
not_both true e f = cc
not_both false e f = cc

-- a shift of which each bit is one of the left operand or does not hang on it
module _ (f : List Bit → ℕ → ℕ → Bit) (ps qs : List (Option Bit)) (bs cs : List Bit) (h : allows_bits ps bs ≡ true) (k : allows_bits qs cs ≡ true) (can : all_known (filled Zero qs) ≡ true → are_sure qs ≡ true) (moves : (n i : ℕ) (b : Bit) → f (filled Zero ps) n i ≡ b → f (filled One ps) n i ≡ b → f bs n i ≡ b) where
  strange : (i : ℕ) (b : Bit) → i < length ps → all_known (filled Zero qs) ≡ false → get_or (shift (f (filled Zero ps)) (filled Zero ps) (filled Zero qs)) i X ≡ b → get_or (shift (f bs) bs cs) i X ≡ b
  strange i b l n e =
      let unknown : all_known cs ≡ false = ⊎_elim (λ t. not_both _ (known_for Zero refl qs cs k t) n) (λ t. t) (cases_Bool (all_known cs)) in
      shift_strange (f bs) bs cs i unknown (rw (← length-allowed ps bs h) l) ∙ sym (shift_strange (f (filled Zero ps)) (filled Zero ps) (filled Zero qs) i n (rw length-filled l)) ∙ e

  whole : (i : ℕ) (b : Bit) → i < length ps → all_known (filled Zero qs) ≡ true → get_or (shift (f (filled Zero ps)) (filled Zero ps) (filled Zero qs)) i X ≡ b → get_or (shift (f (filled One ps)) (filled One ps) (filled One qs)) i X ≡ b → get_or (shift (f bs) bs cs) i X ≡ b
  whole i b l n e d =
      let only : cs ≡ filled Zero qs = sure_allowed Zero qs cs (can n) k in
      let one : filled One qs ≡ filled Zero qs = sure_filled One Zero qs (can n) in
      shift_known (f bs) bs cs i (ap all_known only ∙ n) (rw (← length-allowed ps bs h) l) ∙ moves (natural cs) i b
      (ap (λ xs. f (filled Zero ps) (natural xs) i) only ∙ sym (shift_known (f (filled Zero ps)) (filled Zero ps) (filled Zero qs) i n (rw length-filled l)) ∙ e)
      (ap (λ xs. f (filled One ps) (natural xs) i) (only ∙ sym one) ∙ sym (shift_known (f (filled One ps)) (filled One ps) (filled One qs) i (ap all_known one ∙ n) (rw length-filled l)) ∙ d)

  pub shift_agrees : (i : ℕ) (b : Bit) → i < length ps → get_or (shift (f (filled Zero ps)) (filled Zero ps) (filled Zero qs)) i X ≡ b → get_or (shift (f (filled One ps)) (filled One ps) (filled One qs)) i X ≡ b → get_or (shift (f bs) bs cs) i X ≡ b
  shift_agrees i b l e d = ⊎_elim (λ n. whole i b l n e d) (λ n. strange i b l n e) (cases_Bool (all_known (filled Zero qs)))

module _ (ps qs : List (Option Bit)) (bs cs : List Bit) (h : allows_bits ps bs ≡ true) (k : allows_bits qs cs ≡ true) (can : all_known (filled Zero qs) ≡ true → are_sure qs ≡ true) where
  left_moves : (n i : ℕ) (b : Bit) (t : Bool) → (if t then Zero else get_or (filled Zero ps) (i - n) Zero) ≡ b → (if t then Zero else get_or (filled One ps) (i - n) Zero) ≡ b → (if t then Zero else get_or bs (i - n) Zero) ≡ b
  left_moves n i b true e d = e
  left_moves n i b false e d = moved_at ps bs (i - n) Zero Zero Zero b h (λ x y. x) e d

  pub left_sound : allows_bits (both_agreed shift_left ps qs) (shift_left bs cs) ≡ true
  left_sound =
      both_agreed_sound shift_left ps qs (length ps) (λ xs ys e d. length-shift_left xs ys ∙ e) bs cs h k (λ i b l r.
      shift_agrees (λ xs n j. if nat_lt j n then Zero else get_or xs (j - n) Zero) ps qs bs cs h k can (λ n j c e d. left_moves n j c (nat_lt j n) e d) i b l r.of_zeros r.of_ones)

  pub right_sound : (filler : List Bit → Bit) → ((b : Bit) → filler (filled Zero ps) ≡ b → filler (filled One ps) ≡ b → filler bs ≡ b) → allows_bits (both_agreed (λ xs ys. shift_right (filler xs) xs ys) ps qs) (shift_right (filler bs) bs cs) ≡ true
  right_sound filler moves =
      both_agreed_sound (λ xs ys. shift_right (filler xs) xs ys) ps qs (length ps) (λ xs ys e d. length-shift_right (filler xs) xs ys ∙ e) bs cs h k (λ i b l r.
      shift_agrees (λ xs n j. get_or xs (j + n) (filler xs)) ps qs bs cs h k can (λ n j c e d. moved_at ps bs (j + n) _ _ _ c h (moves c) e d) i b l r.of_zeros r.of_ones)
