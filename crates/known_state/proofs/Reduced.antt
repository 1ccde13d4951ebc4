-- The reductions: what two values of the bits that are not sure say of all.
use Rattle.std.proofs.Common.{◌≡◌, Bool, true, false, not, ◌&&◌, ◌||◌, List, [], ◌∷◌, Option, refl, ap, sym, ◌∙◌, ⊎_elim}
use Rattle.std.proofs.lemmas.Bool.{and_parts, or_cases}
use Rattle.std.specs.Option.{unwrap_or}
use Rattle.four_state.specs.declared.bit.Bit.{Bit}
use Rattle.four_state.specs.declared.bit.Bit.TheVariants.{Zero, One, X}
use Rattle.four_state.specs.Vector.{same_bit}
use Rattle.four_state.specs.Operators.{not_bit, and_bit, or_bit, xor_bit, reduce}
use Rattle.known_state.specs.Partly.{allows_bits, allows_bit, filled}
use Rattle.known_state.proofs.Cases.{every, every_option, option_holds, every_holds, implies, implied, both_true, same_bit_refl, same_bit_eq}

-- either both and the answer are equal, or the first is this bit and the second is not, also after `~`
abbrev pub is_split : Bit → Bit → Bit → Bit → Bool
is_split c x y r = (same_bit x y && same_bit y r) || (same_bit x c && not (same_bit (not_bit y) (not_bit c)))

-- one more bit keeps that
abbrev keeps_split : (Bit → Bit → Bit) → Bit → Bit → Bit → Bool
keeps_split f c d e =
    every_option (λ p. every (λ b. implies (allows_bit p b) (every (λ x. every (λ y. every (λ r. implies (is_split c x y r) (is_split c (f (unwrap_or p d) x) (f (unwrap_or p e) y) (f b r))))))))

split_more : (f : Bit → Bit → Bit) (c d e : Bit) → keeps_split f c d e ≡ true → (p : Option Bit) (b x y r : Bit) → allows_bit p b ≡ true → is_split c x y r ≡ true → is_split c (f (unwrap_or p d) x) (f (unwrap_or p e) y) (f b r) ≡ true
split_more f c d e h p b x y r a s =
    implied (is_split c x y r) _ (every_holds (λ r. implies (is_split c x y r) (is_split c (f (unwrap_or p d) x) (f (unwrap_or p e) y) (f b r))) (every_holds (λ y. every (λ r. implies (is_split c x y r) (is_split c (f (unwrap_or p d) x) (f (unwrap_or p e) y) (f b r)))) (every_holds (λ x. every (λ y. every (λ r. implies (is_split c x y r) (is_split c (f (unwrap_or p d) x) (f (unwrap_or p e) y) (f b r)))))
    (implied (allows_bit p b) _ (every_holds (λ b. implies (allows_bit p b) (every (λ x. every (λ y. every (λ r. implies (is_split c x y r) (is_split c (f (unwrap_or p d) x) (f (unwrap_or p e) y) (f b r))))))) (option_holds (λ p. every (λ b. implies (allows_bit p b) (every (λ x. every (λ y. every (λ r. implies (is_split c x y r) (is_split c (f (unwrap_or p d) x) (f (unwrap_or p e) y) (f b r)))))))) h p) b) a) x) y) r) s

or_left : (p q : Bool) → p ≡ true → (p || q) ≡ true
or_left true q h = refl
or_left false q h = cc

split_start : (c z : Bit) → is_split c z z z ≡ true
split_start c z = or_left _ _ (both_true _ _ (same_bit_refl z) (same_bit_refl z))

reduce_split : (f : Bit → Bit → Bit) (c d e z : Bit) → keeps_split f c d e ≡ true → (ps : List (Option Bit)) (bs : List Bit) → allows_bits ps bs ≡ true → is_split c (reduce f z (filled d ps)) (reduce f z (filled e ps)) (reduce f z bs) ≡ true
reduce_split f c d e z k [] [] h = split_start c z
reduce_split f c d e z k [] (b ∷ bs) h = cc
reduce_split f c d e z k (p ∷ ps) [] h = cc
reduce_split f c d e z k (p ∷ ps) (b ∷ bs) h =
    let here = and_parts (allows_bit p b) (allows_bits ps bs) h in
    split_more f c d e k p b (reduce f z (filled d ps)) (reduce f z (filled e ps)) (reduce f z bs) here.0 (reduce_split f c d e z k ps bs here.1)

split_agrees : (c x y r : Bit) → is_split c x y r ≡ true → not_bit x ≡ not_bit y → x ≡ r
split_agrees c x y r h e = ⊎_elim equal other (or_cases _ _ h)
  where
    equal : (same_bit x y && same_bit y r) ≡ true → x ≡ r
    equal k = let q = and_parts _ _ k in same_bit_eq x y q.0 ∙ same_bit_eq y r q.1

    other : (same_bit x c && not (same_bit (not_bit y) (not_bit c))) ≡ true → x ≡ r
    other k =
        let q = and_parts _ _ k in
        let same : same_bit (not_bit y) (not_bit c) ≡ true = ap (λ a. same_bit a (not_bit c)) (sym e ∙ ap not_bit (same_bit_eq x c q.0)) ∙ same_bit_refl (not_bit c) in
        let bad : not true ≡ true = sym (ap not same) ∙ q.1 in
        cc

module _ (ps : List (Option Bit)) (bs : List Bit) (h : allows_bits ps bs ≡ true) where
  pub and_agrees : not_bit (reduce and_bit One (filled Zero ps)) ≡ not_bit (reduce and_bit One (filled One ps)) → reduce and_bit One (filled Zero ps) ≡ reduce and_bit One bs
  and_agrees e = split_agrees Zero _ _ _ (reduce_split and_bit Zero Zero One One refl ps bs h) e

  pub or_agrees : not_bit (reduce or_bit Zero (filled One ps)) ≡ not_bit (reduce or_bit Zero (filled Zero ps)) → reduce or_bit Zero (filled One ps) ≡ reduce or_bit Zero bs
  or_agrees e = split_agrees One _ _ _ (reduce_split or_bit One One Zero Zero refl ps bs h) e

  pub xor_agrees : not_bit (reduce xor_bit Zero (filled X ps)) ≡ not_bit (reduce xor_bit Zero (filled Zero ps)) → reduce xor_bit Zero (filled X ps) ≡ reduce xor_bit Zero bs
  xor_agrees e = split_agrees X _ _ _ (reduce_split xor_bit X X Zero Zero refl ps bs h) e
