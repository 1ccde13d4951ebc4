-- The inputs that a dump does not give, number by number.
use Rattle.std.proofs.Common.{◌≡◌, ◌↔◌, ⊎_elim, ℕ, ◌+◌, ◌<◌, ◌≤◌, Bool, true, false, List, [], ◌∷◌, ◌++◌, length, ap, subst, arith}
use Rattle.std.specs.List.{Contains}
use Rattle.std.proofs.lemmas.Bool.{and_parts, both_ways, cases_lt}
use Rattle.std.proofs.lemmas.List.{get_or_past}
use Rattle.std.proofs.lemmas.List.Elements.{Contains-append_left, Contains-push, Contains-push_cases}
use Rattle.design_model.specs.Design.{Design, no_signal, signal_at}
use Rattle.step_wakes.specs.Step.{is_missing}

module _ (test : ℕ → Bool) (xs : List ℕ) (n : ℕ) (so : (x : ℕ) → Contains xs x ↔ ((x < n) × (test x ≡ true))) where
  pub one_taken : test n ≡ true → (x : ℕ) → Contains (xs ++ n ∷ []) x ↔ ((x < n + 1) × (test x ≡ true))
  one_taken h x = (
    λ c. ⊎_elim
        (λ m. let k = (so x).0 m in (omega (arith, k.0), k.1))
        (λ e. (omega (arith, e), subst (λ y. test y ≡ true) e h))
        (Contains-push_cases xs n x c),
    λ k. ⊎_elim
        (λ l. Contains-append_left xs (n ∷ []) x ((so x).1 (l, k.1)))
        (λ past. let e : n ≡ x = omega (arith, past, k.0) in subst (Contains (xs ++ n ∷ [])) e (Contains-push xs n))
        (cases_lt x n),
  )

  pub one_passed : test n ≡ false → (x : ℕ) → Contains xs x ↔ ((x < n + 1) × (test x ≡ true))
  one_passed h x = (
    λ m. let k = (so x).0 m in (omega (arith, k.0), k.1),
    λ k. ⊎_elim
        (λ l. (so x).1 (l, k.1))
        (λ past. let e : n ≡ x = omega (arith, past, k.0) in absurd (both_ways _ (subst (λ y. test y ≡ false) e h) k.1))
        (cases_lt x n),
  )

-- what is missing is a signal
pub missing_below : (d : Design) (bound : List Bool) (x : ℕ) → is_missing d bound x ≡ true → x < length d.signals
missing_below d bound x h =
    ⊎_elim
    (λ l. l)
    (λ past. absurd (both_ways _ (ap (λ s. s.input) (get_or_past d.signals x no_signal past)) (and_parts (signal_at d x).input _ h).0))
    (cases_lt x (length d.signals))

pub all_missing : (d : Design) (bound : List Bool) (xs : List ℕ) (n : ℕ) → length d.signals ≤ n → ((x : ℕ) → Contains xs x ↔ ((x < n) × (is_missing d bound x ≡ true))) → (x : ℕ) → Contains xs x ↔ (is_missing d bound x ≡ true)
all_missing d bound xs n all so x = (
  λ m. ((so x).0 m).1,
  λ h. let l = missing_below d bound x h in (so x).1 (omega (arith, l, all), h),
)
