-- Those that ran are those of the list that can wake, each once.
use Rattle.std.proofs.Common.{◌≡◌, ◌↔◌, ◌⊎◌, inl, inr, ⊎_elim, ℕ, Bool, true, false, ◌&&◌, List, [], ◌∷◌, Option, Some, None, refl, sym, ap, ◌∙◌}
use Rattle.std.specs.Prelude.{if◌then◌else◌, is_none, is_some}
use Rattle.std.specs.List.{filter}
use Rattle.std.proofs.lemmas.Bool.{and_from, and_parts, false≢true}
use Rattle.design_model.specs.Design.{AreDistinct, In}
use Rattle.clocked_marks.specs.chosen_runs.chosen_early.early_sets.WakeState.{WakeState, trigger_of}
use Rattle.replay_sets.specs.SetsOf.{round_of}
use Rattle.clocked_laws.proofs.replay_model.Rounds.{in_order, order_distinct, order_in}
use Rattle.step_clocked.specs.Runs.{clean_first, clean_in_rounds, is_unclean, is_woken, runs_clean, runs_weak}
use Rattle.step_clocked.proofs.Members.{distinct_both, distinct_filter, filter_in, in_either, in_filter, in_left, in_right}
use Rattle.step_clocked.proofs.Sets.{trigger_wakes}

module _ (w : WakeState) where
  some_of : (o : Option ℕ) → is_some o ≡ true → (s : ℕ) × (o ≡ Some s)
  some_of None h = absurd (false≢true h)
  some_of (Some s) h = (s, refl)

  -- a clean one can wake
  clean_woken : (p : ℕ) → runs_clean w p ≡ true → is_woken w p ≡ true
  clean_woken p h = let t = some_of (trigger_of w p) h in ap is_some (trigger_wakes w p t.0 t.1)

  -- one is clean or not
  either : (o : Option ℕ) → (is_some o ≡ true) ⊎ (is_none o ≡ true)
  either None = inr refl
  either (Some s) = inl refl

  not_both : (o : Option ℕ) → is_some o ≡ true → is_none o ≡ true → ⊥
  not_both None h e = false≢true h
  not_both (Some s) h e = false≢true e

  clean_off : (o : Option ℕ) → is_some o ≡ true → is_none o ≡ false
  clean_off None h = absurd (false≢true h)
  clean_off (Some s) h = refl

  -- a clean one is not put off
  pub not_clean : (p : ℕ) → runs_clean w p ≡ true → is_unclean w p ≡ false
  not_clean p h = clean_off (trigger_of w p) h

  from_off : (o : Option ℕ) → is_some o ≡ false → is_none o ≡ true
  from_off None h = refl
  from_off (Some s) h = absurd (false≢true (sym h))

  pub unclean_from : (p : ℕ) → runs_clean w p ≡ false → is_unclean w p ≡ true
  unclean_from p h = from_off (trigger_of w p) h

  none_of : (o : Option ℕ) → is_none o ≡ true → o ≡ None
  none_of None h = refl
  none_of (Some s) h = absurd (false≢true h)

  pub unclean_none : (p : ℕ) → is_unclean w p ≡ true → trigger_of w p ≡ None
  unclean_none p h = none_of (trigger_of w p) h

  pub ran_members : (listed : List ℕ) (p : ℕ) → In p (clean_first w listed) ↔ (In p listed × (is_woken w p ≡ true))
  ran_members listed p = (to, from)
    where
      to : In p (clean_first w listed) → In p listed × (is_woken w p ≡ true)
      to i =
          ⊎_elim
          (λ a. let r = in_filter (runs_clean w) p listed (in_order (round_of w) p (filter (runs_clean w) listed) a) in (r.0, clean_woken p r.1))
          (λ b. let r = in_filter (runs_weak w) p listed b in (r.0, (and_parts (is_unclean w p) (is_woken w p) r.1).1))
          (in_either p (clean_in_rounds w listed) (filter (runs_weak w) listed) i)

      from : In p listed × (is_woken w p ≡ true) → In p (clean_first w listed)
      from (i, e) =
          ⊎_elim
          (λ a. in_left p (clean_in_rounds w listed) (filter (runs_weak w) listed) (order_in (round_of w) p (filter (runs_clean w) listed) (filter_in (runs_clean w) p listed i a)))
          (λ b. in_right p (clean_in_rounds w listed) (filter (runs_weak w) listed) (filter_in (runs_weak w) p listed i (and_from (is_unclean w p) (is_woken w p) b e)))
          (either (trigger_of w p))

  pub ran_once : (listed : List ℕ) → AreDistinct listed → AreDistinct (clean_first w listed)
  ran_once listed once =
      distinct_both (clean_in_rounds w listed) (filter (runs_weak w) listed) (order_distinct (round_of w) (filter (runs_clean w) listed) (distinct_filter (runs_clean w) listed once)) (distinct_filter (runs_weak w) listed once)
      (λ p i j. not_both (trigger_of w p) (in_filter (runs_clean w) p listed (in_order (round_of w) p (filter (runs_clean w) listed) i)).1 (and_parts (is_unclean w p) (is_woken w p) (in_filter (runs_weak w) p listed j).1).0)

  -- those that are put off and can wake are those that run weak
  pub weak_twice : (ps : List ℕ) → filter (is_woken w) (filter (is_unclean w) ps) ≡ filter (runs_weak w) ps
  weak_twice [] = refl
  weak_twice (p ∷ ps) = go (is_unclean w p) (is_woken w p) refl (weak_twice ps)
    where
      go : (a b : Bool) → is_woken w p ≡ b → filter (is_woken w) (filter (is_unclean w) ps) ≡ filter (runs_weak w) ps
          → filter (is_woken w) (if a then p ∷ filter (is_unclean w) ps else filter (is_unclean w) ps) ≡ (if a && b then p ∷ filter (runs_weak w) ps else filter (runs_weak w) ps)
      go false b e rest = rest
      go true true e rest = ap (λ c. if c then p ∷ filter (is_woken w) (filter (is_unclean w) ps) else filter (is_woken w) (filter (is_unclean w) ps)) e ∙ ap (λ qs. p ∷ qs) rest
      go true false e rest = ap (λ c. if c then p ∷ filter (is_woken w) (filter (is_unclean w) ps) else filter (is_woken w) (filter (is_unclean w) ps)) e ∙ rest
