-- Sets of tokens, by their codes.
use Rattle.std.proofs.Common.{◌≡◌, ℕ, Bool, true, false, nat_eq, List, [], ◌∷◌, ◌++◌, refl, sym, ap, ◌∙◌, ◌⊎◌, inl, inr}
use Rattle.std.specs.Prelude.{not, ◌&&◌, ◌||◌}
use Rattle.std.proofs.lemmas.Bool.{eqb-true}
use Rattle.grammar_rules.specs.Rule.{member}

pub and_true : (a b : Bool) → (a && b) ≡ true → (a ≡ true) × (b ≡ true)
and_true true b e = (refl, e)
and_true false b e = absurd cc

or_true : (a b : Bool) → (a || b) ≡ true → (a ≡ true) ⊎ (b ≡ true)
or_true true b e = inl refl
or_true false b e = inr e

or_left : (a b : Bool) → a ≡ true → (a || b) ≡ true
or_left true b e = refl
or_left false b e = absurd cc

or_right : (a b : Bool) → b ≡ true → (a || b) ≡ true
or_right true b e = refl
or_right false b e = e

or_none : (a : Bool) → a ≡ (a || false)
or_none true = refl
or_none false = refl

pub not_true : (a : Bool) → not a ≡ true → a ≡ false
not_true true e = absurd cc
not_true false e = refl

pub both_ways : {A : Type 0} (b : Bool) → b ≡ true → b ≡ false → A
both_ways true p q = absurd cc
both_ways false p q = absurd cc

member-cons : (x y : ℕ) (ys : List ℕ) → member x (y ∷ ys) ≡ (nat_eq x y || member x ys)
member-cons x y [] = or_none (nat_eq x y)
member-cons x y (z ∷ ys) = refl

pub member-left : (x : ℕ) (xs ys : List ℕ) → member x xs ≡ true → member x (xs ++ ys) ≡ true
member-left x [] ys h = absurd cc
member-left x (y ∷ xs) ys h =
    member-cons x y (xs ++ ys) ∙ elim (or_true (nat_eq x y) (member x xs) (sym (member-cons x y xs) ∙ h)) [
      | inl e ↦ or_left (nat_eq x y) (member x (xs ++ ys)) e
      | inr e ↦ or_right (nat_eq x y) (member x (xs ++ ys)) (member-left x xs ys e)
    ]

pub member-right : (x : ℕ) (xs ys : List ℕ) → member x ys ≡ true → member x (xs ++ ys) ≡ true
member-right x [] ys h = h
member-right x (y ∷ xs) ys h = member-cons x y (xs ++ ys) ∙ or_right (nat_eq x y) (member x (xs ++ ys)) (member-right x xs ys h)

abbrev pub disjoint : List ℕ → List ℕ → Bool
disjoint [] ys = true
disjoint (x ∷ xs) ys = not (member x ys) && disjoint xs ys

pub apart : (x : ℕ) (xs ys : List ℕ) → disjoint xs ys ≡ true → member x xs ≡ true → member x ys ≡ false
apart x [] ys d h = absurd cc
apart x (y ∷ xs) ys d h =
    let p = and_true (not (member y ys)) (disjoint xs ys) d in
    elim (or_true (nat_eq x y) (member x xs) (sym (member-cons x y xs) ∙ h)) [
      | inl e ↦ ap (λ (z : ℕ). member z ys) (eqb-true x y e) ∙ not_true (member y ys) p.0
      | inr e ↦ apart x xs ys p.1 e
    ]

abbrev pub within : List ℕ → List ℕ → Bool
within [] ys = true
within (x ∷ xs) ys = member x ys && within xs ys

pub inside : (x : ℕ) (xs ys : List ℕ) → within xs ys ≡ true → member x xs ≡ true → member x ys ≡ true
inside x [] ys d h = absurd cc
inside x (y ∷ xs) ys d h =
    let p = and_true (member y ys) (within xs ys) d in
    elim (or_true (nat_eq x y) (member x xs) (sym (member-cons x y xs) ∙ h)) [
      | inl e ↦ ap (λ (z : ℕ). member z ys) (eqb-true x y e) ∙ p.0
      | inr e ↦ inside x xs ys p.1 e
    ]

pub apart_back : (x : ℕ) (xs ys : List ℕ) → disjoint xs ys ≡ true → member x ys ≡ true → member x xs ≡ false
apart_back x xs ys d h = go (member x xs) refl
  where
    go : (b : Bool) → member x xs ≡ b → member x xs ≡ false
    go true e = both_ways (member x ys) h (apart x xs ys d e)
    go false e = e

pub member-either : (x : ℕ) (xs ys : List ℕ) → member x (xs ++ ys) ≡ true → (member x xs ≡ true) ⊎ (member x ys ≡ true)
member-either x [] ys h = inr h
member-either x (y ∷ xs) ys h =
    elim (or_true (nat_eq x y) (member x (xs ++ ys)) (sym (member-cons x y (xs ++ ys)) ∙ h)) [
      | inl e ↦ inl (member-cons x y xs ∙ or_left (nat_eq x y) (member x xs) e)
      | inr e ↦ elim (member-either x xs ys e) [
        | inl k ↦ inl (member-cons x y xs ∙ or_right (nat_eq x y) (member x xs) k)
        | inr k ↦ inr k
      ]
    ]
