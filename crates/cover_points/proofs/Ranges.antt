-- What the numbers of a range have, one after the other.
use Rattle.std.proofs.Common.{◌≡◌, ◌∙◌, ◌+◌, ◌++◌, ℕ, zero, suc, List, [], ◌∷◌, ap, sym, arith, add-zero, add-one}
use Rattle.std.specs.List.{flat_map, range_with_len}
use Rattle.std.proofs.lemmas.List.{append-nil}
use Rattle.std.proofs.lemmas.List.Concat.{flat_map-append}

-- the numbers from a on, with one more
range_suc : (a n : ℕ) → range_with_len a (suc n) ≡ range_with_len a n ++ (a + n) ∷ []
range_suc a zero = ap (λ k. k ∷ []) (sym (add-zero a))
range_suc a (suc n) =
    let e : a + 1 + n ≡ a + suc n = omega arith in
    ap (λ ks. a ∷ ks) (range_suc (a + 1) n) ∙ ap (λ k. a ∷ (range_with_len (a + 1) n ++ k ∷ [])) e

pub flat_map_range_more : {X : Type 0} (f : ℕ → List X) (a n : ℕ) → flat_map f (range_with_len a (n + 1)) ≡ flat_map f (range_with_len a n) ++ f (a + n)
flat_map_range_more f a n =
    ap (λ k. flat_map f (range_with_len a k)) (add-one n) ∙ ap (flat_map f) (range_suc a n) ∙ flat_map-append f (range_with_len a n) ((a + n) ∷ []) ∙ ap (λ xs. flat_map f (range_with_len a n) ++ xs) (append-nil (f (a + n)))
