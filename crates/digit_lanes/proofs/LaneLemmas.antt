-- The mask of what is computed lane by lane is that of a test of each byte.
use Rattle.std.proofs.Common.{◌≡◌, ℕ, ◌%◌, ◌^◌, ◌≤◌, Bool, true, List, [], ◌∷◌, map, length, replicate, Fits, w8, refl, sym, ap, ap₂, ◌∙◌, arith}
use Rattle.std.proofs.lemmas.Bool.{agree_below, agree_below_at}
use Rattle.std.proofs.lemmas.List.{length-map}
use Rattle.std.proofs.lemmas.Simd.{mask_l-mod, splat_is_map, zip2_of_maps}
use lib.Lanes.{Each1, mask_l, top, zip2}

-- an operation on two vectors that were computed lane by lane from v
pub joined : (h : ℕ → ℕ → ℕ) (f g : ℕ → ℕ) (v : List ℕ) {a b : List ℕ} → a ≡ map f v → b ≡ map g v → zip2 h a b ≡ map (λ x. h (f x) (g x)) v
joined h f g v p q = zip2_of_maps h f g v p q

pub splat_is : (v : List ℕ) (n y : ℕ) → length v ≡ n → replicate n y ≡ map (λ _. y) v
splat_is v n y e = splat_is_map v n y e

each_byte : (f : ℕ → ℕ) (p : ℕ → Bool) → agree_below (λ x. top 7 (f x)) p 256 ≡ true → (v : List ℕ) → Each1 (Fits w8) v → map (top 7) (map f v) ≡ map p v
each_byte f p all [] fits = refl
each_byte f p all (x ∷ xs) fits = ap₂ (λ a b. a ∷ b) (agree_below_at (λ y. top 7 (f y)) p 256 x all fits.0.fits) (each_byte f p all xs fits.1)

pub masked : (f : ℕ → ℕ) (p : ℕ → Bool) (v z : List ℕ) → length v ≤ 64 → Each1 (Fits w8) v → z ≡ map f v → agree_below (λ x. top 7 (f x)) p 256 ≡ true
    → mask_l (map (top 7) z) % 2 ^ 64 ≡ mask_l (map p v)
masked f p v z short fits e all =
    ap (λ l. mask_l l % 2 ^ 64) (ap (map (top 7)) e ∙ each_byte f p all v fits) ∙ mask_l-mod (map p v) 64 (omega (arith, length-map v p))
