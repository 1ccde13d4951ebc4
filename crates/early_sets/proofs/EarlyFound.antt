-- What is found to be early is what is early by the tables.
use Rattle.std.proofs.Common.{◌≡◌, ◌↔◌, inl, inr, ⊎_elim, ℕ, true, not, ◌==◌, List, [], Some, length, get_or, refl, sym, subst, arith}
use Rattle.std.specs.List.{Contains}
use Rattle.index_sets.specs.Rows.{row_at}
use Rattle.wake_tables.specs.declared.tables.WakeTables.{WakeTables}
use Rattle.early_sets.specs.declared.edges.Edges.{Edges}
use Rattle.early_sets.specs.declared.habit.Habit.{Habit}
use Rattle.early_sets.specs.declared.rule.Rule.{Rule}
use Rattle.early_sets.specs.Adds.{Adds}
use Rattle.early_sets.specs.Early.{IsEarlyBy, IsEarlyInput, IsEarlySeed, IsTriggerTarget, early_rule, habit_for, is_free}
use Rattle.early_sets.specs.Reached.{IsRowItem, IsWoken, MayWakeBy, Reached}
use Rattle.early_sets.specs.WakeState.{WakeState, edges_at}
use Rattle.early_sets.proofs.Adding.{extends_has, member_at, place_of}
use Rattle.early_sets.proofs.Closing.{reached_from}

none_in : (x : ℕ) → Contains [] x → ⊥
none_in x c = omega (arith, c.1)

module _ (w : WakeState) (h : Habit) (block trigger : ℕ) (processes ys zs : List ℕ) (a : Adds (IsEarlyInput w.tables (habit_for w h trigger) w.noted (length w.noted) trigger) [] ys) (ps : Adds (MayWakeBy w.tables (edges_at w) trigger) [] processes) (b : Adds (IsTriggerTarget w.tables processes (length processes) block trigger) ys zs) where
  of_inputs : (x : ℕ) → IsEarlyInput w.tables (habit_for w h trigger) w.noted (length w.noted) trigger x → IsEarlySeed w h block trigger x
  of_inputs x p = (inl (member_at w.noted p.0 x p.1 p.3.0, subst (λ y. is_free w.tables (habit_for w h trigger) y ≡ true) p.3.0 p.2), p.3.1)

  of_targets : (x : ℕ) → IsTriggerTarget w.tables processes (length processes) block trigger x → IsEarlySeed w h block trigger x
  of_targets x p =
      let q = get_or processes p.0 0 in
      let wakes : MayWakeBy w.tables (edges_at w) trigger q = ⊎_elim (λ c. absurd (none_in q c)) (λ m. m) (ps.only q (member_at processes p.0 q p.1 refl)) in
      (inr (q, wakes, p.2.0, p.2.1.0), p.2.1.1)

  seed_of : (x : ℕ) → Contains zs x → IsEarlySeed w h block trigger x
  seed_of x c = ⊎_elim (λ y. ⊎_elim (λ n. absurd (none_in x n)) (of_inputs x) (a.only x y)) (of_targets x) (b.only x c)

  seed_by : (x : ℕ) → IsEarlySeed w h block trigger x → Contains zs x
  seed_by x (inl i, apart) =
      let k = place_of w.noted x i.0 in
      extends_has ys zs x b.extends (a.all x (k.0, k.1, subst (λ y. is_free w.tables (habit_for w h trigger) y ≡ true) (sym k.2) i.1, (k.2, apart)))
  seed_by x (inr q, apart) =
      let k = place_of processes q.0 (ps.all q.0 q.1) in
      b.all x (k.0, k.1, subst (λ p. IsRowItem (not (p == block)) (row_at w.tables.blocking p) (Some trigger) x) (sym k.2) (q.2, (q.3, apart)))

  -- the closed set is the one of the definition
  pub early_found : (new : List ℕ) → ((x : ℕ) → Contains new x ↔ Reached w.tables (edges_at w) (early_rule block trigger) (Contains zs) x) → (x : ℕ) → Contains new x ↔ IsEarlyBy w h block trigger x
  early_found new closed x = (
    λ c. reached_from w.tables (edges_at w) (early_rule block trigger) (Contains zs) (IsEarlySeed w h block trigger) seed_of x ((closed x).0 c),
    λ e. (closed x).1 (reached_from w.tables (edges_at w) (early_rule block trigger) (IsEarlySeed w h block trigger) (Contains zs) seed_by x e),
  )

-- the members of a list that is put into an empty set are those of the list
pub same_members : (noted copied : List ℕ) → Adds (Contains noted) [] copied → (x : ℕ) → Contains copied x ↔ Contains noted x
same_members noted copied a x = (λ c. ⊎_elim (λ n. absurd (none_in x n)) (λ m. m) (a.only x c), a.all x)

module _ (t : WakeTables) (edges : ℕ → Edges) (r : Rule) (noted copied : List ℕ) (a : Adds (Contains noted) [] copied) where
  pub same_reached : (x : ℕ) → Reached t edges r (Contains copied) x ↔ Reached t edges r (Contains noted) x
  same_reached x = (
    reached_from t edges r (Contains copied) (Contains noted) (λ y. (same_members noted copied a y).0) x,
    reached_from t edges r (Contains noted) (Contains copied) (λ y. (same_members noted copied a y).1) x,
  )

  -- what may move and what it may wake are by the list itself
  pub settled_moves : (new : List ℕ) → ((x : ℕ) → Contains new x ↔ Reached t edges r (Contains copied) x) → (x : ℕ) → Contains new x ↔ Reached t edges r (Contains noted) x
  settled_moves new closed x = (λ c. (same_reached x).0 ((closed x).0 c), λ m. (closed x).1 ((same_reached x).1 m))

  pub settled_woken : (new : List ℕ) → ((p : ℕ) → Contains new p ↔ IsWoken t edges r (Contains copied) p) → (p : ℕ) → Contains new p ↔ IsWoken t edges r (Contains noted) p
  settled_woken new closed p = (
    λ c. let k = (closed p).0 c in (k.0, (same_reached k.0).0 k.1, k.2),
    λ k. (closed p).1 (k.0, (same_reached k.0).1 k.1, k.2),
  )
