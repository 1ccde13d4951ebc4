-- What the sets of a step say of the Clocked processes.
use Rattle.std.proofs.Common.{◌≡◌, ◌↔◌, inl, inr, ◌∙◌, ℕ, ◌+◌, ◌<◌, ◌≤◌, ◌||◌, ◌&&◌, ◌==◌, Bool, true, false, cond, List, [], ◌∷◌, length, Option, Some, None, refl, sym, ap, subst, arith}
use Rattle.std.specs.Prelude.{is_some, nat_lt, sum_by}
use Rattle.std.proofs.lemmas.Bool.{and_parts, false≢true}
use Rattle.std.proofs.lemmas.Bool.Decides.{nat_tests}
use Rattle.std.proofs.lemmas.List.Sums.{sum_by-cons}
use Rattle.design_model.specs.Design.{Design, process_at, signal_at}
use Rattle.design_model.specs.Lawful.{IsLawfulDesign, span}
use Rattle.design_model.specs.Machine.{events_of}
use Rattle.design_model.specs.declared.design.Memory.{Memory}
use Rattle.clocked_marks.specs.chosen_runs.chosen_early.Shared.{IsEarlyList, IsSameButEarly}
use Rattle.clocked_marks.specs.chosen_runs.chosen_early.early_sets.Early.{IsEarlyBy}
use Rattle.clocked_marks.specs.chosen_runs.chosen_early.early_sets.Has.{is_in}
use Rattle.clocked_marks.specs.chosen_runs.chosen_early.early_sets.Reached.{of_seed, of_target}
use Rattle.clocked_marks.specs.chosen_runs.chosen_early.early_sets.WakeState.{WakeState, can_wake_by, first_signal, is_single, is_told, trigger_by, trigger_of, waker_of, wakes_only_by}
use Rattle.clocked_marks.specs.chosen_runs.chosen_early.early_sets.declared.habit.Habit.{Habit}
use Rattle.clocked_marks.specs.chosen_runs.clocked_block.entry_values.step_values.Loose.{has_code}
use Rattle.replay_sets.proofs.wake_laws.EdgeLists.{all_gives, first_gives}
use Rattle.replay_sets.specs.wake_laws.OfDesign.{AreTablesOf}
use Rattle.step_clocked.specs.Runs.{AreStepSets, is_woken, runs_clean}
use Rattle.replay_sets.specs.SetsOf.{round_by, round_of}

-- ---- what was found to be early does not matter

module _ (w v : WakeState) (same : IsSameButEarly w v) where
  pub waker_same : (p : ℕ) → waker_of v p ≡ waker_of w p
  waker_same p = subst (λ z. waker_of z p ≡ waker_of w p) (sym same) refl

  trigger_by_same : (p : ℕ) (o : Option ℕ) → trigger_by (record w { early = v.early }) p o ≡ trigger_by w p o
  trigger_by_same p None = refl
  trigger_by_same p (Some s) = refl

  pub trigger_same : (p : ℕ) → trigger_of v p ≡ trigger_of w p
  trigger_same p = subst (λ z. trigger_of z p ≡ trigger_of w p) (sym same) (trigger_by_same p (waker_of w p))

  pub woken_same : (p : ℕ) → is_woken v p ≡ is_woken w p
  woken_same p = ap is_some (waker_same p)

  pub early_same : (h : Habit) (p t x : ℕ) → IsEarlyBy w h p t x ↔ IsEarlyBy v h p t x
  early_same h p t x = (λ e. subst (λ z. IsEarlyBy z h p t x) (sym same) e, λ e. subst (λ z. IsEarlyBy z h p t x) same e)

  -- a list of what is early by the one is such a list by the other
  pub early_list : (h : Habit) (p t : ℕ) (xs : List ℕ) → IsEarlyList v h p t xs → IsEarlyList w h p t xs
  early_list h p t xs is x = (λ i. (early_same h p t x).1 ((is x).0 i), λ e. (is x).1 ((early_same h p t x).0 e))

  pub step_same : (d : Design) (codes : List (Option ℕ)) → AreStepSets d codes w → AreStepSets d codes v
  step_same d codes h = subst (AreStepSets d codes) (sym same) (record { tables = h.tables; single = h.single; numbers = h.numbers; noted = h.noted })

-- twice so
pub same_both : (w v u : WakeState) → IsSameButEarly w v → IsSameButEarly v u → IsSameButEarly w u
same_both w v u a b = b ∙ ap (λ (z : WakeState). record z { early = u.early }) a

-- ---- the trigger of a process

picked : (w : WakeState) (x s : ℕ) (only b : Bool) → (is_single w x && only) ≡ b → cond b (Some x) None ≡ Some s → (x ≡ s) × (is_single w s ≡ true)
picked w x s only true e h = let same : x ≡ s = cc in (same, subst (λ z. is_single w z ≡ true) same (and_parts (is_single w x) only e).0)
picked w x s only false e h = absurd (cc)

trigger_parts : (w : WakeState) (p s : ℕ) (o : Option ℕ) → trigger_by w p o ≡ Some s → (o ≡ Some s) × (is_single w s ≡ true)
trigger_parts w p s None h = absurd (cc)
trigger_parts w p s (Some x) h = let r = picked w x s (wakes_only_by w p x) (is_single w x && wakes_only_by w p x) refl h in (ap Some r.0, r.1)

-- a process that has a trigger can wake by it
pub trigger_wakes : (w : WakeState) (p s : ℕ) → trigger_of w p ≡ Some s → waker_of w p ≡ Some s
trigger_wakes w p s h = (trigger_parts w p s (waker_of w p) h).0

module _ (d : Design) (lawful : IsLawfulDesign d) (w : WakeState) (tables : AreTablesOf d w.tables) where
  -- what can wake a process is a signal
  pub waker_below : (p s : ℕ) → waker_of w p ≡ Some s → s < length d.signals
  waker_below p s h =
      let r = first_gives (can_wake_by w) (events_of (process_at d p)) s (ap (first_signal (can_wake_by w)) (sym (tables.events_are p)) ∙ h) in
      let both = all_gives (λ e. nat_lt e.1 (length d.signals) && ((signal_at d e.1).width == 1)) (events_of (process_at d p)) r.0 (lawful.events p) r.1 in
      let less = (and_parts (nat_lt r.0.1 (length d.signals)) _ both).0 in
      subst (λ z. z < length d.signals) r.3 (grind (arith, nat_tests, less))

module _ (d : Design) (codes : List (Option ℕ)) (w : WakeState) (first : AreStepSets d codes w) where
  -- a trigger has a code
  pub trigger_coded : IsLawfulDesign d → (p s : ℕ) → trigger_of w p ≡ Some s → has_code codes s ≡ true
  trigger_coded lawful p s h =
      let r = trigger_parts w p s (waker_of w p) h in
      let low = waker_below d lawful w first.tables p s r.0 in
      let all = first.tables.things_are in
      first.single s (omega (arith, low, all)) r.1

  -- the number of its round is within those of the signals and memories
  pub round_below : (p : ℕ) → runs_clean w p ≡ true → round_of w p ≤ w.tables.things
  round_below p clean = go (trigger_of w p) refl clean
    where
      go : (o : Option ℕ) → trigger_of w p ≡ o → is_some o ≡ true → round_by w o ≤ w.tables.things
      go None e none = absurd (false≢true none)
      go (Some s) e some = first.numbers s (trigger_parts w p s (waker_of w p) e).1

  -- what is early is a signal or memory
  pub early_below : (h : Habit) (p t x : ℕ) → IsEarlyBy w h p t x → x < w.tables.things
  early_below h p t _ (of_seed x (inl free, apart)) = first.noted x free.0
  early_below h p t _ (of_seed x (inr (q, wakes, other, target), apart)) = w.tables.blocking_within.below q x target
  early_below h p t _ (of_target x q y reached wakes (inl nonblocking, apart)) = w.tables.nonblocking_within.below q y nonblocking
  early_below h p t _ (of_target x q y reached wakes (inr (other, blocking), apart)) = w.tables.blocking_within.below q y blocking

-- ---- how many signals and memories there are

at_least : {T : Type 0} (f : T → ℕ) (xs : List T) → ((x : T) → 1 ≤ f x) → length xs ≤ sum_by f xs
at_least f [] one = omega arith
at_least f (x ∷ xs) one = let rest = at_least f xs one in let here = one x in let both = sum_by-cons f x xs in omega (arith, rest, here, both)

pub few_things : (d : Design) → IsLawfulDesign d → length d.signals + length d.memories ≤ 4294967295
few_things d lawful =
    let signals = lawful.few_signals in
    let words = lawful.few_words in
    let counted = at_least (λ (m : Memory). span m.first m.last) d.memories (λ m. omega arith) in
    omega (arith, signals, words, counted)
