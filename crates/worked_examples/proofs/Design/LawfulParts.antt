-- Parts of proofs that a design is lawful: line points and nodes whose numbers rise differ by them, and names by their first letters.
use Rattle.std.proofs.Common.{◌≡◌, inl, inr, ℕ, ◌<◌, ◌&&◌, Bool, true, List, [], ◌∷◌, sym, ap, subst, ◌∙◌, arith}
use Rattle.std.specs.Prelude.{nat_lt, slice_index_or}
use Rattle.std.specs.List.{list_all}
use Rattle.std.proofs.lemmas.Bool.{and_parts, ltb-true}
use Rattle.design_model.specs.Design.{In, Named}

-- each number is below those after it
abbrev pub are_rising : {A : Type 0} → (A → ℕ) → List A → Bool
are_rising f [] = true
are_rising f (x ∷ xs) = list_all (λ y. nat_lt (f x) (f y)) xs && are_rising f xs

above : {A : Type 0} (f : A → ℕ) (n : ℕ) (xs : List A) (y : A) → list_all (λ z. nat_lt n (f z)) xs ≡ true → In y xs → n < f y
above f n [] y all h = absurd h
above f n (x ∷ xs) y all (inl e) = subst (λ z. n < f z) e (ltb-true n (f x) (and_parts (nat_lt n (f x)) _ all).0)
above f n (x ∷ xs) y all (inr h) = above f n xs y (and_parts (nat_lt n (f x)) _ all).1 h

pub same_number : {A : Type 0} (f : A → ℕ) (xs : List A) → are_rising f xs ≡ true → (x y : A) → In x xs → In y xs → f x ≡ f y → x ≡ y
same_number f [] rising x y a b e = absurd a
same_number f (z ∷ zs) rising x y (inl a) (inl b) e = sym a ∙ b
same_number f (z ∷ zs) rising x y (inl a) (inr b) e = absurd (let less = above f (f z) zs y (and_parts (list_all (λ w. nat_lt (f z) (f w)) zs) _ rising).0 b in let same : f z ≡ f x = ap f a in omega (arith, less, e, same))
same_number f (z ∷ zs) rising x y (inr a) (inl b) e = absurd (let less = above f (f z) zs x (and_parts (list_all (λ w. nat_lt (f z) (f w)) zs) _ rising).0 a in let same : f z ≡ f y = ap f b in omega (arith, less, e, same))
same_number f (z ∷ zs) rising x y (inr a) (inr b) e = same_number f zs (and_parts (list_all (λ w. nat_lt (f z) (f w)) zs) _ rising).1 x y a b e

-- the first letters of two names differ
pub other_name : (n m : ℕ) {x y : Named} → y ≡ x → slice_index_or y.1 0 0 ≡ n → slice_index_or x.1 0 0 ≡ m → (n ≡ m → ⊥) → ⊥
other_name n m e is other differ = differ (sym is ∙ ap (λ z. slice_index_or z.1 0 0) e ∙ other)
