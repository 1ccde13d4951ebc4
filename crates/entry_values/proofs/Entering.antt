-- The views on the way from a plain store to the one that a clean block meets.
use Rattle.std.proofs.Common.{◌≡◌, ℕ, ◌+◌, ◌<◌, ◌==◌, Bool, true, false, List, [], length, map, take, get_or, Option, Some, None, refl, sym, ap, ap₂, ◌∙◌, arith}
use Rattle.std.specs.Prelude.{◌||◌}
use Rattle.std.proofs.Math.Path.{fun_ext}
use Rattle.std.proofs.lemmas.Bool.{false_from_ne_true, false≢true}
use Rattle.std.proofs.lemmas.Bool.Decides.{nat_tests}
use Rattle.std.proofs.lemmas.List.Folds.{list_any_at, list_any_more}
use Rattle.four_state.specs.Vector.{Vector}
use Rattle.code_values.specs.Values.{Values}
use Rattle.run_views.specs.body_calls.Own.{is_in}
use Rattle.run_views.specs.body_replay.KnownBits.{KnownBits}
use Rattle.run_views.specs.body_replay.Runs.{StoreView}
use Rattle.run_views.specs.body_replay.Store.{Kept}
use Rattle.run_views.specs.body_store.declared.store.Store.{Store}
use Rattle.run_views.specs.design_model.Design.{cell}
use Rattle.run_views.specs.Meets.{Meets, also_hiding}
use Rattle.step_values.specs.Dumped.{dumped_of}
use Rattle.step_values.specs.replay_model.Step.{Closing, Working, clean_store, entry, plain_store}
use Rattle.entry_values.specs.Entry.{IsEntryOf, early_bits, entered}
use Rattle.entry_values.proofs.Entries.{bit_of, early_at, trigger_at}

-- the order of two numbers does not count in a test whether they are equal
pub same_order : (a b : ℕ) → (a == b) ≡ (b == a)
same_order a b = grind (arith, nat_tests)

or_swapped : (a b : Bool) → (a || b) ≡ (b || a)
or_swapped true true = refl
or_swapped true false = refl
or_swapped false true = refl
or_swapped false false = refl

module _ (st : Closing) (trigger : ℕ) (k : Kept) where
  -- where nothing is hidden, what is shown is free
  pub enter : (x : Store) → Meets st.design (plain_store k) x → Meets st.design (entered st trigger [] k) x
  enter x h = record { keeps = h.keeps; own = h.own; hidden = h.hidden; shown = λ c e. absurd (false≢true e) }

  -- the views are equal where the same is hidden
  abbrev view_by : (ℕ → Bool) → StoreView
  view_by f = record { kept = k; hidden = f; shown = entry st trigger }

  same_view : (f g : ℕ → Bool) → ((y : ℕ) → f y ≡ g y) → view_by f ≡ view_by g
  same_view f g same = ap view_by (fun_ext same)

  pub enter_more : (early : List ℕ) (i e : ℕ) → i < length early → also_hiding (get_or early i e) (entered st trigger (take i early) k) ≡ entered st trigger (take (i + 1) early) k
  enter_more early i e l =
      same_view (λ y. (get_or early i e == y) || is_in (take i early) y) (is_in (take (i + 1) early))
      (λ y. or_swapped (get_or early i e == y) (is_in (take i early) y) ∙ sym (list_any_more (λ z. z == y) early i e l))

module _ (st : Closing) (p trigger : ℕ) (early : List ℕ) (codes : List (Option ℕ)) (values : Values) (is : IsEntryOf st p trigger early codes values) where
  -- the trigger is not among what is early
  pub apart_at : (i e : ℕ) → i < length early → (get_or early i e == trigger) ≡ false
  apart_at i e l = false_from_ne_true _ (λ h. false≢true (sym is.apart ∙ list_any_at (λ z. z == trigger) early i e l h))

  -- with the trigger hidden too this is the store that the block meets
  pub entered_all : (w : Working) → also_hiding trigger (entered st trigger early w.kept) ≡ clean_store st p trigger w
  entered_all w =
      same_view st trigger w.kept (λ y. (trigger == y) || is_in early y) (λ y. (y == trigger) || st.sets.early p y)
      (λ y. ap₂ (λ a b. a || b) (same_order trigger y) (sym (is.early_are y)))

  -- what is shown of an early signal or memory is what the view shows of it, and where nothing is known of it the view shows nothing
  module _ (x : ℕ) (apart : (x == trigger) ≡ false) (v : StoreView) (shown : v.shown ≡ entry st trigger) where
    pub early_some : (ps : KnownBits) → early_bits st.design codes values x ≡ Some ps → (k : ℕ) → get_or ps k None ≡ v.shown (cell x k)
    early_some ps e k = ap (λ o. bit_of o k) (sym e) ∙ early_at st p trigger early codes values is x k apart ∙ sym (ap (λ (f : Kept). f (cell x k)) shown)

    pub early_none : early_bits st.design codes values x ≡ None → (k : ℕ) → v.shown (cell x k) ≡ None
    early_none e k = ap (λ (f : Kept). f (cell x k)) shown ∙ sym (early_at st p trigger early codes values is x k apart) ∙ ap (λ o. bit_of o k) e

  -- so is what is shown of the trigger
  pub trigger_shown : (v : StoreView) → v.shown ≡ entry st trigger → (q : Vector) → dumped_of codes values.last trigger ≡ Some q → (k : ℕ) → get_or (map Some q.bits) k None ≡ v.shown (cell trigger k)
  trigger_shown v shown q e k = trigger_at st p trigger early codes values is q e k ∙ sym (ap (λ (f : Kept). f (cell trigger k)) shown)
