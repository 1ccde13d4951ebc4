-- Whether a Comb has surely acted, by the flags and by what it watches.
use Rattle.std.proofs.Common.{◌≡◌, ℕ, zero, suc, ◌+◌, ◌<◌, ◌≤◌, ◌&&◌, ◌||◌, Bool, true, false, not, List, [], ◌∷◌, map, length, Option, refl, sym, ap, ap₂, subst, ◌∙◌, arith, inl, inr, lt-ltb, nat_lt}
use Rattle.std.specs.List.{All, list_any, range_with_len}
use Rattle.std.proofs.lemmas.Bool.{and_from, and_parts, cases_eq, ltb-true, false≢true, or_cases, or_left, or_right}
use Rattle.std.proofs.lemmas.List.Elements.{All-head, All-tail}
use Rattle.design_model.specs.Design.{In, IsComb, body_at, process_at}
use Rattle.design_model.specs.Mentions.{body_mentions}
use Rattle.design_model.specs.Tree.{Process, assign, clocked, comb}
use Rattle.body_store.specs.body_calls.Own.{is_in}
use Rattle.body_replay.specs.Contract.{Certainty}
use Rattle.index_sets.specs.Rows.{row_at}
use Rattle.step_parts.specs.replay_model.Step.{Closing, Working, acts, dump_changes, is_clean_way, is_comb, sees_change}
use Rattle.wake_bits.specs.Laws.{IsWakeOf}
use Rattle.wake_bits.specs.declared.wakes.Wake.{Wake}
use Rattle.step_parts.specs.AtStep.{AreActed}
use Rattle.settling.specs.Runs.{IsStepOf, acts_by, sees_by}

-- two tests that hold together
same_tests : (a b : Bool) → (a ≡ true → b ≡ true) → (b ≡ true → a ≡ true) → a ≡ b
same_tests true b there back = sym (there refl)
same_tests false true there back = absurd (false≢true (back refl))
same_tests false false there back = refl

-- a test of the numbers of a range
any_at : (f : ℕ → Bool) (n w s : ℕ) → n ≤ s → s < n + w → f s ≡ true → list_any f (range_with_len n w) ≡ true
any_at f n zero s l m e = absurd (omega (arith, l, m))
any_at f n (suc w) s l m e = elim (cases_eq s n) [
  | inl is ↦ or_left (f n) (list_any f (range_with_len (n + 1) w)) (ap f (sym is) ∙ e)
  | inr ne ↦ or_right (f n) (list_any f (range_with_len (n + 1) w)) (any_at f (n + 1) w s (omega (arith, l, ne)) (omega (arith, m)) e)
]

-- one of a range that passes a test
record FoundIn (f : ℕ → Bool) (bound : ℕ) : Type 0 where
  pub number : ℕ
  pub below : number < bound
  pub passes : f number ≡ true

found_in : (f : ℕ → Bool) (n w : ℕ) → list_any f (range_with_len n w) ≡ true → FoundIn f (n + w)
found_in f n zero e = absurd (false≢true e)
found_in f n (suc w) e = elim (or_cases (f n) (list_any f (range_with_len (n + 1) w)) e) [
  | inl h ↦ record { number = n; below = omega arith; passes = h }
  | inr h ↦ let r = found_in f (n + 1) w h in let l = r.below in record { number = r.number; below = omega (arith, l); passes = r.passes }
]

module _ (st : Closing) (p : ℕ) (row : List Wake) (changed : List ℕ) (are : (s : ℕ) → s < length st.design.signals → is_in changed s ≡ (st.bound s && dump_changes st s)) where
  -- a bound signal that is mentioned has changed
  abbrev sees : ℕ → Bool
  sees s = st.bound s && (body_mentions s (body_at st.design p) && dump_changes st s)

  -- what the process watches is mentioned and has changed
  abbrev wakes : Wake → Bool
  wakes w = w.mentioned && (nat_lt w.thing (length st.design.signals) && is_in changed w.thing)

  seen_from : (ws : List Wake) → All (IsWakeOf st.design p) ws → list_any wakes ws ≡ true → list_any sees (range_with_len 0 (length st.design.signals)) ≡ true
  seen_from [] each e = absurd (false≢true e)
  seen_from (w ∷ ws) each e = elim (or_cases (wakes w) (list_any wakes ws) e) [
    | inl h ↦
        let wake : IsWakeOf st.design p w = All-head (IsWakeOf st.design p) w ws each in
        let parts = and_parts w.mentioned _ h in
        let inner = and_parts (nat_lt w.thing (length st.design.signals)) (is_in changed w.thing) parts.1 in
        let l : w.thing < length st.design.signals = ltb-true w.thing (length st.design.signals) inner.0 in
        let dump = and_parts (st.bound w.thing) (dump_changes st w.thing) (sym (are w.thing l) ∙ inner.1) in
        any_at sees 0 (length st.design.signals) w.thing (omega arith) (omega (arith, l)) (and_from (st.bound w.thing) _ dump.0 (and_from (body_mentions w.thing (body_at st.design p)) _ (sym wake.mentioned ∙ parts.0) dump.1))
    | inr h ↦ seen_from ws (All-tail (IsWakeOf st.design p) w ws each) h
  ]

  wakes_from : (ws : List Wake) → All (IsWakeOf st.design p) ws → (s : ℕ) → In s (map (λ w. w.thing) ws) → body_mentions s (body_at st.design p) ≡ true → (nat_lt s (length st.design.signals) && is_in changed s) ≡ true → list_any wakes ws ≡ true
  wakes_from [] each s i m e = absurd i
  wakes_from (w ∷ ws) each s (inl is) m e =
      let wake : IsWakeOf st.design p w = All-head (IsWakeOf st.design p) w ws each in
      or_left (wakes w) (list_any wakes ws) (and_from w.mentioned _ (wake.mentioned ∙ ap (λ y. body_mentions y (body_at st.design p)) is ∙ m) (ap (λ y. nat_lt y (length st.design.signals) && is_in changed y) is ∙ e))
  wakes_from (w ∷ ws) each s (inr i) m e = or_right (wakes w) (list_any wakes ws) (wakes_from ws (All-tail (IsWakeOf st.design p) w ws each) s i m e)

  module _ (each : All (IsWakeOf st.design p) row) (things : map (λ w. w.thing) row ≡ st.tables.watched p) (watched : (x : ℕ) → body_mentions x (body_at st.design p) ≡ true → In x (st.tables.watched p)) where
    -- by the range of the signals it is found in the row
    back : list_any sees (range_with_len 0 (length st.design.signals)) ≡ true → list_any wakes row ≡ true
    back e =
        let found = found_in sees 0 (length st.design.signals) e in
        let s : ℕ = found.number in
        let below = found.below in
        let l : s < length st.design.signals = omega (arith, below) in
        let parts = and_parts (st.bound s) _ found.passes in
        let rest = and_parts (body_mentions s (body_at st.design p)) (dump_changes st s) parts.1 in
        wakes_from row each s (subst (In s) (sym things) (watched s rest.0)) rest.0 (and_from (nat_lt s (length st.design.signals)) _ (lt-ltb s (length st.design.signals) l) (are s l ∙ and_from (st.bound s) _ parts.0 rest.1))

    pub sees_is : sees_by (length st.design.signals) row changed ≡ sees_change st p
    sees_is = same_tests (list_any wakes row) (list_any sees (range_with_len 0 (length st.design.signals))) (seen_from row each) back

comb_from : (q : Process) → is_comb q ≡ true → IsComb q
comb_from (assign i x t counted) e = absurd (false≢true e)
comb_from (comb i wakes s) e = tt
comb_from (clocked i events s) e = absurd (false≢true e)

pub comb_test : (q : Process) → IsComb q → is_comb q ≡ true
comb_test (assign i x t counted) e = absurd e
comb_test (comb i wakes s) e = refl
comb_test (clocked i events s) e = absurd e

module _ (st : Closing) (w : Working) (p : ℕ) (wakes : List (List Wake)) (codes : List (Option ℕ)) (changed : List ℕ) (time : ℕ) (step : IsStepOf st p wakes codes changed time) (flags : List Bool) (acted : AreActed st.design flags w.acted) (how : Certainty) where
  pub acts_is : is_comb (process_at st.design p) ≡ true → acts_by flags p how (length st.design.signals) (row_at wakes p) changed ≡ acts st p how w
  acts_is e =
      ap₂ (λ a b. a || (is_clean_way how || b)) (acted p (comb_from (process_at st.design p) e))
      (sees_is st p (row_at wakes p) changed step.changed step.wakes.each step.wakes.things step.watched)

  -- what a run makes holds
  pub holds_is : (not (is_comb (process_at st.design p)) || acts_by flags p how (length st.design.signals) (row_at wakes p) changed) ≡ (not (is_comb (process_at st.design p)) || acts st p how w)
  holds_is = go (is_comb (process_at st.design p)) refl
    where
      go : (t : Bool) → is_comb (process_at st.design p) ≡ t → (not t || acts_by flags p how (length st.design.signals) (row_at wakes p) changed) ≡ (not t || acts st p how w)
      go true e = acts_is e
      go false e = refl
