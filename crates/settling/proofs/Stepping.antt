-- The parts of the code after a run, beside the definition of the run.
use Rattle.std.proofs.Common.{◌≡◌, ℕ, ◌<◌, ◌==◌, ◌&&◌, ◌||◌, Bool, true, false, not, if◌then◌else◌, List, get_or, length, map, Option, None, refl, sym, ap, ap₂, subst, ◌∙◌, eq-eqb, length-set}
use Rattle.std.specs.Prelude.{slice_index_or, slice_set}
use Rattle.std.proofs.lemmas.Bool.{eqb-true, false≢true}
use Rattle.std.proofs.lemmas.List.{get_or-set_other, get_or-set_same}
use Rattle.known_state.specs.Partly.{Partly}
use Rattle.design_model.specs.Design.{Design, IsClocked, IsComb, body_at, process_at, signal_cells}
use Rattle.design_model.specs.Lawful.{IsLawfulDesign}
use Rattle.design_model.specs.Mentions.{blocking_target}
use Rattle.design_model.specs.View.{design_view, process_view}
use Rattle.design_model.specs.declared.design.Design.{Design as CodeDesign}
use Rattle.design_model.specs.declared.tree.Process.{Process as CodeProcess}
use Rattle.body_replay.specs.Contract.{Certainty, Outcome}
use Rattle.body_replay.specs.Runs.{AreRuns, Runs, runs_of}
use Rattle.body_store.specs.declared.store.Store.{Store}
use Rattle.early_sets.specs.WakeState.{WakeState}
use Rattle.index_sets.specs.Rows.{row_at}
use Rattle.settled_runs.specs.process_targets.Rows.{AreTargets}
use Rattle.settled_runs.specs.process_targets.Targets.{names, row_has}
use Rattle.settled_runs.specs.process_targets.declared.bits.Bits.{Bits}
use Rattle.settled_runs.proofs.process_targets.Processes.{process_is}
use Rattle.step_parts.specs.replay_model.Step.{Closing, Working, acts, after_settling, certainty, is_comb, is_touched, kept_target, plain_store, run_settling, settled_kept}
use Rattle.settled_runs.proofs.replay_steps.Settling.{run_still}
use Rattle.settled_runs.specs.store_knowledge.Knows.{Knows}
use Rattle.settled_targets.specs.step_values.Starts.{HasValues}
use Rattle.settled_targets.specs.step_values.Vectors.{StepVectors, vector_at}
use Rattle.settled_targets.specs.Returned.{Returns}
use Rattle.settled_targets.specs.Saved.{AreSaved}
use Rattle.wake_bits.specs.declared.wakes.Wake.{Wake}
use Rattle.step_parts.specs.AtStep.{AreActed}
use Rattle.settling.specs.Runs.{AtPoint, IsStepOf, acts_by, outcome_at}
use Rattle.settling.specs.Wakes.{HasState}
use Rattle.settling.proofs.Acts.{comb_test, holds_is}
use Rattle.settled_runs.specs.process_targets.Laws.{WritesSignals}
use Rattle.step_words.specs.Words.{StepState}
use Rattle.settling.proofs.Targets.{kept_is, made_is}
use Rattle.settling.proofs.Words.{changes_after}

-- the outcome is that of the body, in the way that the code has found
pub outcome_is : (st : Closing) (w : Working) (p : ℕ) (how : Certainty) → st.run ≡ runs_of st.design → how ≡ certainty st w.kept p → outcome_at st w p ≡ runs_of st.design p (plain_store (settled_kept st.design p w.kept)) how
outcome_is st w p how runs is =
    ap {A = Runs} (λ f. f p (plain_store (settled_kept st.design p w.kept)) (certainty st w.kept p)) runs
    ∙ ap (λ h. runs_of st.design p (plain_store (settled_kept st.design p w.kept)) h) (sym is)

-- a process that watches what may move has run
pub touched_is : (st : Closing) (ordered : Bool) (p : ℕ) (w : Working) → is_touched st p ≡ true → run_settling st ordered p w ≡ after_settling st ordered p (certainty st w.kept p) (outcome_at st w p) w
touched_is st ordered p w e = ap (λ t. if t then after_settling st ordered p (certainty st w.kept p) (outcome_at st w p) w else w) e

module _ (st : Closing) (w : Working) (p : ℕ) (ordered : Bool) (how : Certainty) (row : List Bits) (wakes : List (List Wake)) (codes : List (Option ℕ)) (changed : List ℕ) (time : ℕ) (sets : WakeState) (flags : List Bool) (x z y : Store) (v u : StepVectors) (words : StepState) (qs : List Partly) (is_kept is_made : Bool)
    (lawful : IsLawfulDesign st.design) (runs : AreRuns st.design (runs_of st.design)) (settles : IsClocked (process_at st.design p) → ⊥) (targets : AreTargets st.design p row)
    (point : AtPoint st w x v words sets flags) (step : IsStepOf st p wakes codes changed time) (touched : is_touched st p ≡ true) (how_is : how ≡ certainty st w.kept p)
    (made : is_made ≡ (not (is_comb (process_at st.design p)) || acts_by flags p how (length st.design.signals) (row_at wakes p) changed)) (kept : is_kept ≡ (ordered && is_made))
    (saved : AreSaved st.design w.kept row qs) (left : Knows st.design (runs_of st.design p (plain_store (settled_kept st.design p w.kept)) how).kept z)
    (back : Returns codes (names row) (row_has row) is_kept is_made (λ d k. AreSaved d k row qs) z y v u) where
  abbrev d : Design
  d = st.design

  abbrev o : Outcome
  o = runs_of d p (plain_store (settled_kept d p w.kept)) how

  abbrev after : Working
  after = after_settling st ordered p how o w

  after_is : run_settling st ordered p w ≡ after
  after_is = touched_is st ordered p w touched ∙ ap₂ (λ (h : Certainty) (r : Outcome). after_settling st ordered p h r w) (sym how_is) (outcome_is st w p how step.runs how_is)

  made_test : is_made ≡ (not (is_comb (process_at d p)) || acts st p how w)
  made_test = made ∙ holds_is st w p wakes codes changed time step flags point.acted how

  kept_test : is_kept ≡ (ordered && (not (is_comb (process_at d p)) || acts st p how w))
  kept_test = kept ∙ ap (λ t. ordered && t) made_test

  known : Knows d after.kept y
  known = subst (λ j. Knows d j y)
      (kept_is d p row lawful settles targets runs w.kept how codes st.bound step.bound is_kept ∙ ap (λ t. kept_target st t o w p) kept_test)
      (back.knows d w.kept o.kept saved left)

  values : HasValues st after y u
  values =
      let old = point.state.values in
      record {
        knows = known;
        fits = back.fits d old.fits;
        before = λ s l m. ap (λ ps. (vector_at ps s).bits) back.before ∙ old.before s l m;
        made = λ s l m b.
            back.made d w.kept o.kept w.made s saved left old.fits l (sym (step.bound s) ∙ b) (old.made s l m b)
            ∙ ap (λ j. map j (signal_cells d s)) (made_is d p row lawful settles targets is_made o.kept w.made ∙ ap (λ t. λ c. if blocking_target d (body_at d p) c then (if t then o.kept c else None) else w.made c) made_test);
      }

  -- the parts of the step, except the flags
  pub state_after : HasState st (run_settling st ordered p w) y u sets
  state_after = record {
    values = subst (λ a. HasValues st a y u) (sym after_is) values;
    still = run_still st step.moves ordered p w point.state.still;
    moves = point.state.moves;
  }

  -- the flags
  abbrev flagged : List Bool
  flagged = if is_comb (process_at d p) then slice_set flags p is_made else flags

  flag_at : p < length flags → (q : ℕ) (t : Bool) → (q == p) ≡ t → IsComb (process_at d q) → slice_index_or flagged q false ≡ (if t then acts st p how w else w.acted q)
  flag_at place q true e comb =
      let is : q ≡ p = eqb-true q p e in
      let test : is_comb (process_at d p) ≡ true = subst (λ s. is_comb (process_at d s) ≡ true) is (comb_test (process_at d q) comb) in
      ap (λ t. slice_index_or (if t then slice_set flags p is_made else flags) q false) test
      ∙ ap (λ s. slice_index_or (slice_set flags p is_made) s false) is
      ∙ get_or-set_same flags p is_made false place
      ∙ made_test
      ∙ ap (λ t. not t || acts st p how w) test
  flag_at place q false e comb = other (is_comb (process_at d p)) ∙ point.acted q comb
    where
      apart : q ≡ p → ⊥
      apart is = false≢true (sym e ∙ eq-eqb q p is)

      other : (t : Bool) → slice_index_or (if t then slice_set flags p is_made else flags) q false ≡ slice_index_or flags q false
      other true = get_or-set_other flags p q is_made false apart
      other false = refl

  -- all parts of the step
  pub point_after : p < length flags → WritesSignals d p → AtPoint st (run_settling st ordered p w) y u words sets flagged
  point_after place signals = record {
    state = state_after;
    words = changes_after st w p ordered words signals point.words;
    acted = subst (λ a. AreActed d flagged a.acted) (sym after_is) (λ q comb. flag_at place q (q == p) refl comb);
  }

-- a process of the design that a store knows
pub found_process : (c : CodeDesign) (d : Design) (p : ℕ) (q : CodeProcess) (qs : List CodeProcess) → design_view c ≡ d → p < length c.processes → q ≡ get_or qs p q → qs ≡ c.processes → process_at d p ≡ process_view q
found_process c d p q qs same l is list = ap (λ e. process_at e p) (sym same) ∙ process_is c p q l (is ∙ ap (λ ys. get_or ys p q) list)

-- the flags are as many as before
pub same_count : (t b : Bool) (flags : List Bool) (p : ℕ) → length (if t then slice_set flags p b else flags) ≡ length flags
same_count true b flags p = length-set flags p b
same_count false b flags p = refl
