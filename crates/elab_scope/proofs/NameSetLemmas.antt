-- The names of a set, as the set in order of insertion keeps them.
use Rattle.std.proofs.Common.{◌≡◌, ℕ, Bool, true, false, ◌||◌, List, [], ◌∷◌, ◌++◌, map, refl, sym, ◌∙◌, inl, inr}
use Rattle.std.specs.Prelude.{bytes_eq, is_some, Option, None, Some}
use Rattle.std.specs.Option.{option_copied}
use Rattle.std.specs.Borrow.{Bor}
use Rattle.std.specs.List.{list_any}
use Rattle.std.proofs.lemmas.Bool.{cases_Bool}
use Rattle.std.proofs.lemmas.Slice.Eq.{bytes_eq-Decides}
use Rattle.indexmap.specs.IndexSet.{insert_key}
use Rattle.elab_scope.specs.NameSet.{has}
use Rattle.elab_scope.proofs.ConnectionLemmas.{bytes_eq-sym}

-- names behind references
abbrev pub names_in : List (Bor (List ℕ)) → List (List ℕ)
names_in ks = map (λ name. name.now) ks

-- two references to one name
abbrev pub same_name : Bor (List ℕ) → Bor (List ℕ) → Bool
same_name a b = bytes_eq a.now b.now

-- a name is found from either side
pub has_found : (x : List ℕ) (ks : List (Bor (List ℕ))) → list_any (λ k. bytes_eq x k.now) ks ≡ has (names_in ks) x
has_found x [] = refl
has_found x (k ∷ ks) = rw (bytes_eq-sym x k.now, has_found x ks) refl

or_false : (b : Bool) → (b || false) ≡ b
or_false true = refl
or_false false = refl

or_swap : (a b : Bool) → (a || (b || false)) ≡ (b || a)
or_swap true true = refl
or_swap true false = refl
or_swap false true = refl
or_swap false false = refl

has_pushed : (x : Bor (List ℕ)) (y : List ℕ) (ks : List (Bor (List ℕ))) → has (names_in (ks ++ x ∷ [])) y ≡ (bytes_eq x.now y || has (names_in ks) y)
has_pushed x y [] = refl
has_pushed x y (k ∷ ks) = rw (has_pushed x y ks) (swap (bytes_eq k.now y) (bytes_eq x.now y) (has (names_in ks) y))
  where
    swap : (a b c : Bool) → (a || (b || c)) ≡ (b || (a || c))
    swap true true c = refl
    swap true false c = refl
    swap false b c = refl

absorbed : (x y : List ℕ) (names : List (List ℕ)) → has names x ≡ true → has names y ≡ (bytes_eq x y || has names y)
absorbed x y names there =
    elim (cases_Bool (bytes_eq x y)) [
      | inl same ↦
          let one : x ≡ y = (bytes_eq-Decides x y).0 same in
          rw (same, ← one, there) refl
      | inr other ↦ rw other refl
    ]

-- after an insertion the set has the name too
pub has_inserted : (x : Bor (List ℕ)) (ks : List (Bor (List ℕ))) (y : List ℕ) → has (names_in (insert_key same_name ks x)) y ≡ has (x.now ∷ names_in ks) y
has_inserted x ks y =
    elim (cases_Bool (list_any (same_name x) ks)) [
      | inl there ↦ rw there (absorbed x.now y (names_in ks) (sym (has_found x.now ks) ∙ there))
      | inr away ↦ rw away (has_pushed x y ks)
    ]

pub copied_is_some : {A : Type 0} (r : Option (Bor A)) → is_some r ≡ is_some (option_copied r)
copied_is_some None = refl
copied_is_some (Some x) = refl
