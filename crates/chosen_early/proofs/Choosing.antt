-- What is early does not depend on what was found before.
use Rattle.std.proofs.Common.{◌≡◌, ◌↔◌, ℕ, Option, Some, sym, subst}
use Rattle.std.specs.Prelude.{IfSome}
use Rattle.std.specs.List.{Contains}
use Rattle.early_sets.specs.Early.{HasNoBlocking, IsEarlyBy}
use Rattle.early_sets.specs.WakeState.{WakeState}
use Rattle.early_sets.specs.declared.habit.Habit.{Habit}
use Rattle.chosen_early.specs.Shared.{IsEarlyList, IsSameButEarly, IsShared}

pub early_same : (w v : WakeState) → IsSameButEarly w v → (h : Habit) (p t x : ℕ) → IsEarlyBy w h p t x ↔ IsEarlyBy v h p t x
early_same w v same h p t x = (λ e. subst (λ z. IsEarlyBy z h p t x) (sym same) e, λ e. subst (λ z. IsEarlyBy z h p t x) same e)

module _ (w v : WakeState) (same : IsSameButEarly w v) (h : Habit) (t : ℕ) where
  pub list_same : (p : ℕ) → ((x : ℕ) → Contains v.early x ↔ IsEarlyBy w h p t x) → IsEarlyList v h p t v.early
  list_same p is = λ x. let law = early_same w v same h p t x in (λ c. law.0 ((is x).0 c), λ e. (is x).1 (law.1 e))

  pub shared_same : ((p : ℕ) → HasNoBlocking w.tables p → (x : ℕ) → Contains v.early x ↔ IsEarlyBy w h p t x) → IsShared v h t
  shared_same is = λ p none. list_same p (is p (subst (λ z. HasNoBlocking z.tables p) same none))

-- a fact for the value that there is
pub at_some : {A : Type 0} (P : A → Type 0) (o : Option A) (a : A) → o ≡ Some a → IfSome o P → P a
at_some P o a e h = subst (λ z. IfSome z P) e h
