-- What two operands give for a few values of the bits that are not sure, place by place.
use Rattle.std.proofs.Common.{◌≡◌, ℕ, zero, suc, ◌<◌, Bool, true, List, [], ◌∷◌, map, length, get_or, Option, Some, None, refl, ap, arith, sym, ◌∙◌}
use Rattle.std.proofs.lemmas.List.{length-map, get_or-map}
use Rattle.std.specs.Option.{unwrap_or}
use Rattle.four_state.specs.declared.bit.Bit.{Bit}
use Rattle.four_state.specs.declared.bit.Bit.TheVariants.{Zero, One, X}
use Rattle.four_state.specs.Vector.{same_bit}
use Rattle.four_state.specs.Operators.{not_bit, zip_bits}
use Rattle.known_state.specs.Partly.{allows_bits, allows_bit, filled, filled_from}
use Rattle.known_state.specs.Join.{joined}
use Rattle.known_state.specs.Agreed.{sure, both_moved, both_agreed}
use Rattle.known_state.proofs.Bits.{get_or-filled, length-filled_from}
use Rattle.known_state.proofs.Allowed.{allowed_by_places, allows_at, length-allowed, length-filled}
use Rattle.known_state.proofs.Cases.{every, every_option, option_holds, every_holds, implies, implied, same_bit_eq, same_bit_of}
use Rattle.known_state.proofs.Widths.{length-zip_bits}
use Rattle.known_state.proofs.UnarySound.{two_places, more_places, length-two, length-more}

-- a bit that five answers have at a place
pub record IsAgreed (zeros ones mixed strange crossed : List Bit) (i : ℕ) (b : Bit) : Type 0 where
  pub of_zeros : get_or zeros i X ≡ b
  pub of_ones : get_or ones i X ≡ b
  pub of_mixed : get_or mixed i X ≡ b
  pub of_strange : get_or strange i X ≡ b
  pub of_crossed : get_or crossed i X ≡ b

-- answers of one width
module _ (f : List Bit → List Bit → List Bit) (ps qs : List (Option Bit)) (w : ℕ) (width : (bs cs : List Bit) → length bs ≡ length ps → length cs ≡ length qs → length (f bs cs) ≡ w) where
  here : (b c : Bit) → length (f (filled b ps) (filled c qs)) ≡ w
  here b c = width (filled b ps) (filled c qs) (length-filled b ps) (length-filled c qs)

  crossed : length (f (filled_from ps (filled Zero qs)) (filled_from qs (filled Zero ps))) ≡ w
  crossed = width _ _ (length-filled_from ps (filled Zero qs)) (length-filled_from qs (filled Zero ps))

  pub length-both_moved : length (both_moved f ps qs) ≡ w
  length-both_moved = length-two (f (filled Zero ps) (filled Zero qs)) (f (filled One ps) (filled One qs)) (here Zero Zero ∙ sym (here One One)) ∙ here Zero Zero

  pub length-mixed : length (joined (both_moved f ps qs) (sure (f (filled Zero ps) (filled One qs)))) ≡ w
  length-mixed = length-more (both_moved f ps qs) (f (filled Zero ps) (filled One qs)) (length-both_moved ∙ sym (here Zero One)) ∙ length-both_moved

  pub length-strange : length (joined (joined (both_moved f ps qs) (sure (f (filled Zero ps) (filled One qs)))) (sure (f (filled X ps) (filled X qs)))) ≡ w
  length-strange = length-more _ (f (filled X ps) (filled X qs)) (length-mixed ∙ sym (here X X)) ∙ length-mixed

  pub length-both_agreed : length (both_agreed f ps qs) ≡ w
  length-both_agreed = length-more _ (f (filled_from ps (filled Zero qs)) (filled_from qs (filled Zero ps))) (length-strange ∙ sym crossed) ∙ length-strange

  places : (i : ℕ) (b : Bit) → i < w → get_or (both_agreed f ps qs) i None ≡ Some b → IsAgreed (f (filled Zero ps) (filled Zero qs)) (f (filled One ps) (filled One qs)) (f (filled Zero ps) (filled One qs)) (f (filled X ps) (filled X qs)) (f (filled_from ps (filled Zero qs)) (filled_from qs (filled Zero ps))) i b
  places i b l e =
      let fifth = more_places _ (f (filled_from ps (filled Zero qs)) (filled_from qs (filled Zero ps))) i b (length-strange ∙ sym crossed) (rw length-strange l) e in
      let fourth = more_places _ (f (filled X ps) (filled X qs)) i b (length-mixed ∙ sym (here X X)) (rw length-mixed l) fifth.0 in
      let third = more_places (both_moved f ps qs) (f (filled Zero ps) (filled One qs)) i b (length-both_moved ∙ sym (here Zero One)) (rw length-both_moved l) fourth.0 in
      let firsts = two_places (f (filled Zero ps) (filled Zero qs)) (f (filled One ps) (filled One qs)) i b (here Zero Zero ∙ sym (here One One)) (rw (here Zero Zero) l) third.0 in
      record { of_zeros = firsts.0; of_ones = firsts.1; of_mixed = third.1; of_strange = fourth.1; of_crossed = fifth.1 }

  pub both_agreed_sound : (bs cs : List Bit) → allows_bits ps bs ≡ true → allows_bits qs cs ≡ true → ((i : ℕ) (b : Bit) → i < w → IsAgreed (f (filled Zero ps) (filled Zero qs)) (f (filled One ps) (filled One qs)) (f (filled Zero ps) (filled One qs)) (f (filled X ps) (filled X qs)) (f (filled_from ps (filled Zero qs)) (filled_from qs (filled Zero ps))) i b → get_or (f bs cs) i X ≡ b) → allows_bits (both_agreed f ps qs) (f bs cs) ≡ true
  both_agreed_sound bs cs h k each =
      allowed_by_places (both_agreed f ps qs) (f bs cs) (length-both_agreed ∙ sym (width bs cs (sym (length-allowed ps bs h)) (sym (length-allowed qs cs k)))) (λ i b l e. let m : i < w = rw length-both_agreed at l in each i b m (places i b m e))

  pub both_moved_sound : (bs cs : List Bit) → allows_bits ps bs ≡ true → allows_bits qs cs ≡ true → ((i : ℕ) (b : Bit) → i < w → get_or (f (filled Zero ps) (filled Zero qs)) i X ≡ b → get_or (f (filled One ps) (filled One qs)) i X ≡ b → get_or (f bs cs) i X ≡ b) → allows_bits (both_moved f ps qs) (f bs cs) ≡ true
  both_moved_sound bs cs h k each =
      allowed_by_places (both_moved f ps qs) (f bs cs) (length-both_moved ∙ sym (width bs cs (sym (length-allowed ps bs h)) (sym (length-allowed qs cs k)))) (λ i b l e. let m : i < w = rw length-both_moved at l in
      let firsts = two_places (f (filled Zero ps) (filled Zero qs)) (f (filled One ps) (filled One qs)) i b (here Zero Zero ∙ sym (here One One)) (rw (here Zero Zero) m) e in
      each i b m firsts.0 firsts.1)

-- one bit
pub one_bit_agreed : (g : List Bit → List Bit → Bit) (ps qs : List (Option Bit)) (bs cs : List Bit) → allows_bits ps bs ≡ true → allows_bits qs cs ≡ true → ((b : Bit) → g (filled Zero ps) (filled Zero qs) ≡ b → g (filled One ps) (filled One qs) ≡ b → g (filled Zero ps) (filled One qs) ≡ b → g (filled X ps) (filled X qs) ≡ b → g (filled_from ps (filled Zero qs)) (filled_from qs (filled Zero ps)) ≡ b → g bs cs ≡ b) → allows_bits (both_agreed (λ xs ys. g xs ys ∷ []) ps qs) (g bs cs ∷ []) ≡ true
one_bit_agreed g ps qs bs cs h k each = both_agreed_sound (λ xs ys. g xs ys ∷ []) ps qs 1 (λ xs ys e d. refl) bs cs h k at
  where
    at : (i : ℕ) (b : Bit) → i < 1 → IsAgreed (g (filled Zero ps) (filled Zero qs) ∷ []) (g (filled One ps) (filled One qs) ∷ []) (g (filled Zero ps) (filled One qs) ∷ []) (g (filled X ps) (filled X qs) ∷ []) (g (filled_from ps (filled Zero qs)) (filled_from qs (filled Zero ps)) ∷ []) i b → get_or (g bs cs ∷ []) i X ≡ b
    at zero b l r = each b r.of_zeros r.of_ones r.of_mixed r.of_strange r.of_crossed
    at (suc i) b l r = absurd (omega arith)

-- ---- operators that work on each pair of bits

-- what five pairs of bits give is what all allowed pairs give
abbrev pub pair_agrees : (Bit → Bit → Bit) → Option Bit → Option Bit → Bit → Bit → Bool
pair_agrees g p q b c =
    implies (allows_bit p b) (implies (allows_bit q c) (implies (same_bit (g (unwrap_or p Zero) (unwrap_or q Zero)) (g (unwrap_or p One) (unwrap_or q One))) (implies (same_bit (g (unwrap_or p Zero) (unwrap_or q Zero)) (g (unwrap_or p Zero) (unwrap_or q One))) (same_bit (g (unwrap_or p Zero) (unwrap_or q Zero)) (g b c)))))

abbrev pub pairs_agree : (Bit → Bit → Bit) → Bool
pairs_agree g = every_option (λ p. every_option (λ q. every (λ b. every (λ c. pair_agrees g p q b c))))

pub pair_holds : (g : Bit → Bit → Bit) → pairs_agree g ≡ true → (p q : Option Bit) (b c : Bit) → pair_agrees g p q b c ≡ true
pair_holds g h p q b c =
    every_holds (λ c. pair_agrees g p q b c) (every_holds (λ b. every (λ c. pair_agrees g p q b c)) (option_holds (λ q. every (λ b. every (λ c. pair_agrees g p q b c))) (option_holds (λ p. every_option (λ q. every (λ b. every (λ c. pair_agrees g p q b c)))) h p) q) b) c

-- so an operator that gives g of the bits at each place
pub placewise_sound : (f : List Bit → List Bit → List Bit) (g : Bit → Bit → Bit) → pairs_agree g ≡ true → ((bs cs : List Bit) → length bs ≡ length cs → length (f bs cs) ≡ length bs) → ((bs cs : List Bit) (i : ℕ) → length bs ≡ length cs → i < length bs → get_or (f bs cs) i X ≡ g (get_or bs i X) (get_or cs i X)) → (ps qs : List (Option Bit)) (bs cs : List Bit) → length ps ≡ length qs → allows_bits ps bs ≡ true → allows_bits qs cs ≡ true → allows_bits (both_agreed f ps qs) (f bs cs) ≡ true
placewise_sound f g holds width at ps qs bs cs same h k =
    both_agreed_sound f ps qs (length ps) (λ xs ys e d. width xs ys (e ∙ same ∙ sym d) ∙ e) bs cs h k (λ i b l r.
    let value : (x y : Bit) → get_or (f (filled x ps) (filled y qs)) i X ≡ g (unwrap_or (get_or ps i None) x) (unwrap_or (get_or qs i None) y) = λ x y. at (filled x ps) (filled y qs) i (length-filled x ps ∙ same ∙ sym (length-filled y qs)) (rw length-filled l) ∙ ap (λ a. g a (get_or (filled y qs) i X)) (get_or-filled x ps i l) ∙ ap (g (unwrap_or (get_or ps i None) x)) (get_or-filled y qs i (rw (← same) l)) in
    let p = get_or ps i None in
    let q = get_or qs i None in
    let to : (x y : Bit) → get_or (f (filled x ps) (filled y qs)) i X ≡ b → g (unwrap_or p x) (unwrap_or q y) ≡ b = λ x y e. sym (value x y) ∙ e in
    let zeros : g (unwrap_or p Zero) (unwrap_or q Zero) ≡ b = to Zero Zero r.of_zeros in
    let m : i < length bs = rw (← length-allowed ps bs h) l in
    at bs cs i (sym (length-allowed ps bs h) ∙ same ∙ length-allowed qs cs k) m ∙ sym (same_bit_eq _ _ (implied _ _ (implied _ _ (implied _ _ (implied _ _ (pair_holds g holds p q (get_or bs i X) (get_or cs i X)) (allows_at ps bs i h l)) (allows_at qs cs i k (rw (← same) l))) (same_bit_of _ _ (zeros ∙ sym (to One One r.of_ones)))) (same_bit_of _ _ (zeros ∙ sym (to Zero One r.of_mixed))))) ∙ zeros)

get_or-zip_bits : (g : Bit → Bit → Bit) (bs cs : List Bit) (i : ℕ) → length bs ≡ length cs → i < length bs → get_or (zip_bits g bs cs) i X ≡ g (get_or bs i X) (get_or cs i X)
get_or-zip_bits g [] cs i e h = absurd (omega arith)
get_or-zip_bits g (b ∷ bs) [] i e h = cc
get_or-zip_bits g (b ∷ bs) (c ∷ cs) zero e h = refl
get_or-zip_bits g (b ∷ bs) (c ∷ cs) (suc i) e h = get_or-zip_bits g bs cs i (cc) (omega arith)

module _ (ps qs : List (Option Bit)) (bs cs : List Bit) (same : length ps ≡ length qs) (h : allows_bits ps bs ≡ true) (k : allows_bits qs cs ≡ true) where
  pub zip_sound : (g : Bit → Bit → Bit) → pairs_agree g ≡ true → allows_bits (both_agreed (zip_bits g) ps qs) (zip_bits g bs cs) ≡ true
  zip_sound g holds = placewise_sound (zip_bits g) g holds (length-zip_bits g) (get_or-zip_bits g) ps qs bs cs same h k

  -- the same inverted
  pub zip_not_sound : (g : Bit → Bit → Bit) → pairs_agree (λ b c. not_bit (g b c)) ≡ true → allows_bits (both_agreed (λ xs ys. map not_bit (zip_bits g xs ys)) ps qs) (map not_bit (zip_bits g bs cs)) ≡ true
  zip_not_sound g holds =
      placewise_sound (λ xs ys. map not_bit (zip_bits g xs ys)) (λ b c. not_bit (g b c)) holds (λ xs ys e. length-map _ not_bit ∙ length-zip_bits g xs ys e) (λ xs ys i e l. get_or-map not_bit (zip_bits g xs ys) i X X (rw (length-zip_bits g xs ys e) l) ∙ ap not_bit (get_or-zip_bits g xs ys i e l)) ps qs bs cs same h k
