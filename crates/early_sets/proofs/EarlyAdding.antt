-- What is early at first, input by input and process by process.
use Rattle.std.proofs.Common.{◌≡◌, ◌⊎◌, inl, inr, ⊎_elim, ℕ, ◌+◌, not, ◌==◌, List, Some, get_or, subst, arith}
use Rattle.std.proofs.lemmas.Bool.{cases_lt}
use Rattle.index_sets.specs.Rows.{row_at}
use Rattle.wake_tables.specs.declared.tables.WakeTables.{WakeTables}
use Rattle.early_sets.specs.declared.habit.Habit.{Habit}
use Rattle.early_sets.specs.Adds.{Adds}
use Rattle.early_sets.specs.Early.{IsEarlyInput, IsTriggerTarget, is_free}
use Rattle.early_sets.specs.Reached.{IsItemWhere, IsRowItem}
use Rattle.early_sets.proofs.Adding.{both_added, none_added, same_added}

pub inputs_none : (t : WakeTables) (h : Habit) (inputs : List ℕ) (trigger : ℕ) (xs : List ℕ) → Adds (IsEarlyInput t h inputs 0 trigger) xs xs
inputs_none t h inputs trigger xs = none_added (IsEarlyInput t h inputs 0 trigger) xs (λ x p. absurd (omega (arith, p.1)))

-- one input more
pub inputs_more : (t : WakeTables) (h : Habit) (inputs : List ℕ) (at trigger : ℕ) (xs ys zs : List ℕ) → Adds (IsEarlyInput t h inputs at trigger) xs ys → Adds (IsItemWhere (is_free t h (get_or inputs at 0)) (get_or inputs at 0) (Some trigger)) ys zs → Adds (IsEarlyInput t h inputs (at + 1) trigger) xs zs
inputs_more t h inputs at trigger xs ys zs a b =
    let P = IsEarlyInput t h inputs at trigger in
    let Q = IsItemWhere (is_free t h (get_or inputs at 0)) (get_or inputs at 0) (Some trigger) in
    same_added (λ x. P x ⊎ Q x) (IsEarlyInput t h inputs (at + 1) trigger) xs zs
    (λ x. ⊎_elim (λ p. (p.0, omega (arith, p.1), p.2, p.3)) (λ q. (at, omega arith, q.0, q.1)))
    (λ x p. ⊎_elim (λ below. inl (p.0, below, p.2, p.3)) (λ above. let same : p.0 ≡ at = omega (arith, p.1, above) in inr (subst (λ k. IsItemWhere (is_free t h (get_or inputs k 0)) (get_or inputs k 0) (Some trigger) x) same (p.2, p.3))) (cases_lt p.0 at))
    (both_added P Q xs ys zs a b)

pub targets_none : (t : WakeTables) (processes : List ℕ) (block trigger : ℕ) (xs : List ℕ) → Adds (IsTriggerTarget t processes 0 block trigger) xs xs
targets_none t processes block trigger xs = none_added (IsTriggerTarget t processes 0 block trigger) xs (λ x p. absurd (omega (arith, p.1)))

-- one process more
pub targets_more : (t : WakeTables) (processes : List ℕ) (at block trigger : ℕ) (xs ys zs : List ℕ) → Adds (IsTriggerTarget t processes at block trigger) xs ys → Adds (IsRowItem (not (get_or processes at 0 == block)) (row_at t.blocking (get_or processes at 0)) (Some trigger)) ys zs → Adds (IsTriggerTarget t processes (at + 1) block trigger) xs zs
targets_more t processes at block trigger xs ys zs a b =
    let P = IsTriggerTarget t processes at block trigger in
    let Q = IsRowItem (not (get_or processes at 0 == block)) (row_at t.blocking (get_or processes at 0)) (Some trigger) in
    same_added (λ y. P y ⊎ Q y) (IsTriggerTarget t processes (at + 1) block trigger) xs zs
    (λ y. ⊎_elim (λ p. (p.0, omega (arith, p.1), p.2)) (λ q. (at, omega arith, q)))
    (λ y p. ⊎_elim (λ below. inl (p.0, below, p.2)) (λ above. let same : p.0 ≡ at = omega (arith, p.1, above) in inr (subst (λ k. IsRowItem (not (get_or processes k 0 == block)) (row_at t.blocking (get_or processes k 0)) (Some trigger) y) same p.2)) (cases_lt p.0 at))
    (both_added P Q xs ys zs a b)
