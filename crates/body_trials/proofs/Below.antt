-- A list of all signals and memories, one by one.
use Rattle.std.proofs.Common.{◌≡◌, ◌<◌, ◌+◌, ◌==◌, ◌++◌, ◌∷◌, ⊎_elim, ℕ, List, [], true, ◌∙◌, arith, eq-eqb, refl, subst, sym}
use Rattle.std.specs.List.{All, list_any}
use Rattle.std.proofs.lemmas.Bool.{or_left, or_right}
use Rattle.std.proofs.lemmas.List.Elements.{All-nil, All-push}
use Rattle.std.proofs.lemmas.List.Folds.{list_any-append}
use Rattle.design_model.proofs.Finite.{below_next}
use Rattle.design_model.specs.Design.{Design, is_number}
use Rattle.body_calls.specs.Own.{is_in}

-- the list has numbers of the design alone, and all below this one
pub record HasBelow (d : Design) (xs : List ℕ) (n : ℕ) : Type 0 where
  pub numbers : All (λ x. is_number d x ≡ true) xs
  pub all : (x : ℕ) → x < n → is_in xs x ≡ true

earlier : (xs : List ℕ) (n x : ℕ) → is_in xs x ≡ true → is_in (xs ++ n ∷ []) x ≡ true
earlier xs n x e = list_any-append (λ y. y == x) xs (n ∷ []) ∙ or_left (list_any (λ y. y == x) xs) _ e

last : (xs : List ℕ) (n : ℕ) → is_in (xs ++ n ∷ []) n ≡ true
last xs n = list_any-append (λ y. y == n) xs (n ∷ []) ∙ or_right (list_any (λ y. y == n) xs) _ (or_left (n == n) _ (eq-eqb n n refl))

pub below_none : (d : Design) (xs : List ℕ) → xs ≡ [] → HasBelow d xs 0
below_none d xs e = record { numbers = subst (All (λ x. is_number d x ≡ true)) (sym e) (All-nil (λ x. is_number d x ≡ true)); all = λ x l. absurd (omega (arith, l)) }

pub below_more : (d : Design) (xs ys : List ℕ) (n : ℕ) → ys ≡ xs ++ n ∷ [] → is_number d n ≡ true → HasBelow d xs n → HasBelow d ys (n + 1)
below_more d xs ys n e i h =
    record {
      numbers = subst (All (λ x. is_number d x ≡ true)) (sym e) (All-push (λ x. is_number d x ≡ true) xs n h.numbers i);
      all = λ x l. subst (λ zs. is_in zs x ≡ true) (sym e) (⊎_elim (λ b. subst (λ m. is_in (xs ++ n ∷ []) m ≡ true) (sym b) (last xs n)) (λ b. earlier xs n x (h.all x b)) (below_next x n (omega (arith, l))));
    }
