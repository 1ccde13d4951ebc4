-- Blocks without blocking targets share what is early for a trigger.
use Rattle.std.proofs.Common.{◌≡◌, ◌↔◌, ◌∙◌, inl, inr, ⊎_elim, ℕ, true, ◌==◌, Some, ap, subst, arith}
use Rattle.std.specs.List.{Contains}
use Rattle.std.proofs.lemmas.Bool.{cases_eq, ne_eqb, not_from_false}
use Rattle.index_sets.specs.Rows.{row_at}
use Rattle.early_sets.specs.declared.habit.Habit.{Habit}
use Rattle.early_sets.specs.Early.{HasNoBlocking, IsEarlyBy, IsEarlySeed, early_rule}
use Rattle.early_sets.specs.Reached.{IsTargetBy, is_apart, of_seed, of_target}
use Rattle.early_sets.specs.WakeState.{WakeState}

-- a process with a blocking target is not one without
with_target : (w : WakeState) (b p y : ℕ) → HasNoBlocking w.tables b → Contains (row_at w.tables.blocking p) y → is_apart (Some b) p ≡ true
with_target w b p y none c =
    ⊎_elim
    (λ e. let m = subst (λ r. Contains r y) (ap (row_at w.tables.blocking) e ∙ none) c in absurd (omega (arith, m.1)))
    (λ ne. not_from_false (p == b) (ne_eqb p b ne))
    (cases_eq p b)

module _ (w : WakeState) (h : Habit) (a b s : ℕ) (none : HasNoBlocking w.tables b) where
  same_target : (p y : ℕ) → IsTargetBy w.tables (early_rule a s) p y → IsTargetBy w.tables (early_rule b s) p y
  same_target p y (inl n, apart) = (inl n, apart)
  same_target p y (inr k, apart) = (inr (with_target w b p y none k.1, k.1), apart)

  same_seed : (x : ℕ) → IsEarlySeed w h a s x → IsEarlySeed w h b s x
  same_seed x (inl i, apart) = (inl i, apart)
  same_seed x (inr k, apart) = (inr (k.0, k.1, with_target w b k.0 x none k.3, k.3), apart)

  shared_with : (x : ℕ) → IsEarlyBy w h a s x → IsEarlyBy w h b s x
  shared_with x (of_seed _ q) = of_seed x (same_seed x q)
  shared_with y (of_target x p _ m wakes target) = of_target x p y (shared_with x m) wakes (same_target p y target)

pub shared_early : (w : WakeState) (h : Habit) (a b s : ℕ) → HasNoBlocking w.tables a → HasNoBlocking w.tables b → (x : ℕ) → IsEarlyBy w h a s x ↔ IsEarlyBy w h b s x
shared_early w h a b s first second x = (shared_with w h a b s second x, shared_with w h b a s first x)
