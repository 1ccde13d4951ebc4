-- A block is entered by the list of what was found to be early.
use Rattle.std.proofs.Common.{◌≡◌, ◌↔◌, ℕ, ◌<◌, ◌==◌, Bool, true, false, not, List, get_or, Option, refl, sym, ap, ◌∙◌, eq-eqb}
use Rattle.std.specs.List.{All}
use Rattle.std.proofs.lemmas.Bool.{false_from_ne_true, false≢true}
use Rattle.std.proofs.lemmas.List.{get_or_default}
use Rattle.chosen_early.specs.early_sets.Early.{IsEarlyBy}
use Rattle.chosen_early.specs.early_sets.Reached.{of_seed, of_target}
use Rattle.chosen_early.specs.early_sets.WakeState.{WakeState}
use Rattle.chosen_early.specs.early_sets.declared.habit.Habit.{Habit}
use Rattle.chosen_early.proofs.Choosing.{early_same}
use Rattle.chosen_early.proofs.early_sets.Membership.{is_in_from, is_in_gives}
use Rattle.chosen_early.specs.Shared.{IsEarlyList, IsSameButEarly}
use Rattle.code_values.specs.Values.{Values}
use Rattle.clocked_block.specs.clocked_runs.block_runs.body_calls.Own.{is_in}
use Rattle.clocked_block.specs.entry_values.Entry.{IsEntryOf}
use Rattle.clocked_block.specs.entry_values.replay_model.Step.{Closing}
use Rattle.clocked_block.specs.entry_values.step_values.Loose.{has_code}
use Rattle.chosen_runs.specs.Chosen.{IsDumpedStep, IsEarlyIn}

-- the trigger is not early
trigger_apart : (w : WakeState) (h : Habit) (p t x : ℕ) → IsEarlyBy w h p t x → not (x == t) ≡ true
trigger_apart w h p t _ (of_seed x seed) = seed.1
trigger_apart w h p t _ (of_target x q y r wakes target) = target.1

never_early : (w : WakeState) (h : Habit) (p t : ℕ) → IsEarlyBy w h p t t → ⊥
never_early w h p t e = false≢true (sym (ap not (eq-eqb t t refl)) ∙ trigger_apart w h p t t e)

same_test : (a b : Bool) → (a ≡ true → b ≡ true) → (b ≡ true → a ≡ true) → a ≡ b
same_test true b f g = sym (f refl)
same_test false true f g = g refl
same_test false false f g = refl

-- the test of a list of what is early
pub is_listed : (w : WakeState) (h : Habit) (p t : ℕ) (early : List ℕ) → IsEarlyList w h p t early → (x : ℕ) → (is_in early x ≡ true) ↔ IsEarlyBy w h p t x
is_listed w h p t early is x = (λ e. (is x).0 (is_in_gives early x e), λ b. let c = (is x).1 b in is_in_from early x c.0 c.1 c.2)

module _ (w v : WakeState) (same : IsSameButEarly w v) (h : Habit) (p t : ℕ) (early : List ℕ) (is : IsEarlyList v h p t early) where
  -- a number in the list is early by the sets before, and the other way round
  listed_gives : (x : ℕ) → is_in early x ≡ true → IsEarlyBy w h p t x
  listed_gives x e = (early_same w v same h p t x).1 ((is x).0 (is_in_gives early x e))

  listed_from : (x : ℕ) → IsEarlyBy w h p t x → is_in early x ≡ true
  listed_from x e = let c = (is x).1 ((early_same w v same h p t x).0 e) in is_in_from early x c.0 c.1 c.2

  pub all_inside : (n : ℕ) → ((x : ℕ) → IsEarlyBy w h p t x → x < n) → All (λ x. x < n) early
  all_inside n inside = λ k d l. inside (get_or early k d) ((early_same w v same h p t (get_or early k d)).1 ((is (get_or early k d)).0 (k, l, get_or_default early k (get_or early k d) d l)))

  module _ (st : Closing) (codes : List (Option ℕ)) (values : Values) (dumped : IsDumpedStep st codes values) (coded : has_code codes t ≡ true) where
    pub entry_by : ((x : ℕ) → st.sets.early p x ≡ is_in early x) → IsEntryOf st p t early codes values
    entry_by tests =
        record {
          bound = dumped.bound;
          old = dumped.old;
          before = dumped.before;
          known = dumped.known;
          after = dumped.after;
          coded = coded;
          early_are = tests;
          apart = false_from_ne_true _ (λ e. never_early w h p t (listed_gives t e));
        }

    -- the step in which this list is what is early
    pub entry_here : IsEarlyIn st w h p t → IsEntryOf st p t early codes values
    entry_here in_step = entry_by (λ x. same_test (st.sets.early p x) (is_in early x) (λ e. listed_from x ((in_step x).0 e)) (λ e. (in_step x).1 (listed_gives x e)))
