-- The runs of the processes of a list, in order, are those of the step.
use Rattle.std.proofs.Common.{◌≡◌, inl, inr, ℕ, suc, ◌+◌, ◌<◌, Bool, true, false, ◌++◌, List, [], ◌∷◌, length, get_or, Option, Some, None, refl, sym, ap, ap₂, subst, ◌∙◌, arith}
use Rattle.std.specs.Prelude.{nat_lt, slice_index_or}
use Rattle.std.specs.List.{filter}
use Rattle.std.proofs.Math.ListN.{get_or-append}
use Rattle.std.proofs.lemmas.Bool.{false_from_ne_true}
use Rattle.std.proofs.lemmas.Bool.Decides.{nat_tests}
use Rattle.std.proofs.lemmas.List.{get_or_default, length-append}
use Rattle.std.proofs.lemmas.List.Elements.{filter-append}
use Rattle.settling.specs.body_store.declared.store.Store.{Store}
use Rattle.run_marks.specs.cover_marks.declared.marks.Marks.{Marks}
use Rattle.run_marks.specs.cover_points.Visits.{AreApart, AreOnce}
use Rattle.run_marks.specs.cover_points.declared.listing.Points.{Points}
use Rattle.design_model.specs.Design.{In}
use Rattle.early_sets.specs.WakeState.{WakeState}
use Rattle.settling.proofs.process_order.Distinct.{in_contains, in_filter, in_right}
use Rattle.settling.specs.replay_model.Step.{Closing, Working, all_run, clocked_run, is_touched, run_all_settling, run_settling, settle_start}
use Rattle.settling.proofs.replay_steps.Settling.{filtered}
use Rattle.run_order.specs.Ranked.{AreRanksOf}
use Rattle.settling.specs.step_values.Vectors.{StepVectors}
use Rattle.settling.specs.step_parts.AtStep.{AtStep}
use Rattle.settling.specs.wake_bits.declared.wakes.Wake.{Wake}
use Rattle.settling.specs.Runs.{IsStepOf}
use Rattle.settling.specs.Wakes.{HasWordChanges}
use Rattle.step_words.specs.Words.{StepState}
use Rattle.step_runs.specs.Runs.{AtRun, IsRunOf, is_before, is_ordered}

-- the processes of a list run, each ordered where it passes a test
abbrev pub run_listed : Closing → (ℕ → Bool) → List ℕ → Working → Working
run_listed st test [] w = w
run_listed st test (p ∷ ps) w = run_listed st test ps (run_settling st (test p) p w)

listed_both : (st : Closing) (test : ℕ → Bool) (xs ys : List ℕ) (w : Working) → run_listed st test (xs ++ ys) w ≡ run_listed st test ys (run_listed st test xs w)
listed_both st test [] ys w = refl
listed_both st test (x ∷ xs) ys w = listed_both st test xs ys (run_settling st (test x) x w)

-- where they are all ordered, or none is
listed_same : (st : Closing) (test : ℕ → Bool) (b : Bool) (xs : List ℕ) (w : Working) → ((p : ℕ) → In p xs → test p ≡ b) → run_listed st test xs w ≡ run_all_settling st b xs w
listed_same st test b [] w same = refl
listed_same st test b (x ∷ xs) w same =
    ap (λ c. run_listed st test xs (run_settling st c x w)) (same x (inl refl)) ∙ listed_same st test b xs (run_settling st b x w) (λ p i. same p (inr i))

right_at : (xs ys : List ℕ) (k d : ℕ) → get_or (xs ++ ys) (length xs + k) d ≡ get_or ys k d
right_at [] ys k d = let start : 0 + k ≡ k = omega arith in ap (λ i. get_or ys i d) start
right_at (x ∷ xs) ys k d = let next : length (x ∷ xs) + k ≡ suc (length xs + k) = omega arith in ap (λ i. get_or (x ∷ (xs ++ ys)) i d) next ∙ right_at xs ys k d

module _ (first last : List ℕ) (count : ℕ) (places : List (Option ℕ)) (ranked : AreRanksOf (first ++ last) count places) where
  placed : (p k : ℕ) → k < length (first ++ last) → get_or (first ++ last) k 0 ≡ p → slice_index_or places p None ≡ Some k
  placed p k l e = ap (λ q. slice_index_or places q None) (sym e) ∙ ranked.ranked k l

  is_first : (p : ℕ) → In p first → is_ordered places (length first) p ≡ true
  is_first p i =
      let m = in_contains p first i in
      let l = m.1 in
      let place = placed p m.0 (omega (arith, l, length-append first last)) (get_or-append first last 0 m.0 l ∙ get_or_default first m.0 0 p l ∙ m.2) in
      let before : nat_lt m.0 (length first) ≡ true = grind (arith, nat_tests, l) in
      ap (is_before (length first)) place ∙ before

  is_last : (p : ℕ) → In p last → is_ordered places (length first) p ≡ false
  is_last p i =
      let m = in_contains p last i in
      let l = m.1 in
      let place = placed p (length first + m.0) (omega (arith, l, length-append first last)) (right_at first last m.0 0 ∙ get_or_default last m.0 0 p l ∙ m.2) in
      let past : nat_lt (length first + m.0) (length first) ≡ false = false_from_ne_true _ (λ e. let less : length first + m.0 < length first = grind (arith, nat_tests, e) in omega (arith, less)) in
      ap (is_before (length first)) place ∙ past

-- those that watch something that may move, in the order of the tables
listed_run : (st : Closing) (places : List (Option ℕ)) (count ordered : ℕ) (listed : List ℕ) (w : Working) → AreRanksOf (st.tables.order ++ st.tables.last) count places → ordered ≡ length st.tables.order
    → listed ≡ filter (is_touched st) (st.tables.order ++ st.tables.last) → run_listed st (is_ordered places ordered) listed w ≡ run_all_settling st false st.tables.last (run_all_settling st true st.tables.order w)
listed_run st places count ordered listed w ranked many is =
    ap₂ (λ n ps. run_listed st (is_ordered places n) ps w) many (is ∙ filter-append (is_touched st) st.tables.order st.tables.last)
    ∙ listed_both st (is_ordered places (length st.tables.order)) (filter (is_touched st) st.tables.order) (filter (is_touched st) st.tables.last) w
    ∙ listed_same st (is_ordered places (length st.tables.order)) false (filter (is_touched st) st.tables.last) (run_listed st (is_ordered places (length st.tables.order)) (filter (is_touched st) st.tables.order) w)
    (λ p i. is_last st.tables.order st.tables.last count places ranked p (in_filter (is_touched st) p st.tables.last i).0)
    ∙ ap (run_all_settling st false (filter (is_touched st) st.tables.last)) (listed_same st (is_ordered places (length st.tables.order)) true (filter (is_touched st) st.tables.order) w
    (λ p i. is_first st.tables.order st.tables.last count places ranked p (in_filter (is_touched st) p st.tables.order i).0))
    ∙ sym (filtered st false st.tables.last (run_all_settling st true (filter (is_touched st) st.tables.order) w))
    ∙ ap (run_all_settling st false st.tables.last) (sym (filtered st true st.tables.order w))

-- the runs so far have led here, and those of the rest of the list lead to the end of the step
pub record HasLed (st : Closing) (ps : Points) (test : ℕ → Bool) (rest : List ℕ) (x : Store) (v : StepVectors) (words : StepState) (sets : WakeState) (flags : List Bool) (m : Marks) : Type 0 where
  pub working : Working
  pub at : AtRun st ps working x v words sets flags m
  pub leads : run_listed st test rest working ≡ all_run st

module _ (st : Closing) (ps : Points) (places : List (Option ℕ)) (ordered : ℕ) (listed : List ℕ) (wakes : List (List Wake)) (codes : List (Option ℕ)) (changed : List ℕ) (now : ℕ) (run : IsRunOf st ps places ordered listed wakes codes changed now) where
  -- before the first run
  pub led_start : (x : Store) (v : StepVectors) (words : StepState) (sets : WakeState) (flags : List Bool) (m : Marks) → HasWordChanges st (settle_start st (clocked_run st)).kept words → AtStep st ps (settle_start st (clocked_run st)) x v sets flags m → HasLed st ps (is_ordered places ordered) listed x v words sets flags m
  led_start x v words sets flags m changes at = record {
    working = settle_start st (clocked_run st);
    at = record { step = at; words = changes };
    leads = listed_run st places (length st.design.processes) ordered listed (settle_start st (clocked_run st)) run.ranked run.ordered run.listed;
  }

  -- the next one of the list is one of the step
  in_list : (ran rest : List ℕ) (p : ℕ) → ran ++ p ∷ rest ≡ listed → In p listed
  in_list ran rest p is = subst (In p) is (in_right p ran (p ∷ rest) (inl refl))

  next_step : (ran rest : List ℕ) (p : ℕ) → ran ++ p ∷ rest ≡ listed → IsStepOf st p wakes codes changed now
  next_step ran rest p is = run.step p (in_list ran rest p is)

  next_touched : (ran rest : List ℕ) (p : ℕ) → ran ++ p ∷ rest ≡ listed → is_touched st p ≡ true
  next_touched ran rest p is = (in_filter (is_touched st) p (st.tables.order ++ st.tables.last) (subst (In p) run.listed (in_list ran rest p is))).1

  -- one run more
  pub led_more : (ran : List ℕ) (p : ℕ) (rest : List ℕ) → ran ++ p ∷ rest ≡ listed → (qs : Points) → qs ≡ ps → (kept : Bool) → kept ≡ is_ordered places ordered p
      → (x y : Store) (v u : StepVectors) (words : StepState) (sets : WakeState) (before after : List Bool) (m n : Marks)
      → ((w : Working) → AreApart qs → AreOnce qs → IsStepOf st p wakes codes changed now → is_touched st p ≡ true → AtRun st qs w x v words sets before m → AtRun st qs (run_settling st kept p w) y u words sets after n)
      → HasLed st ps (is_ordered places ordered) (p ∷ rest) x v words sets before m → HasLed st ps (is_ordered places ordered) rest y u words sets after n
  led_more ran p rest is qs same kept kept_is x y v u words sets before after m n step h = record {
    working = run_settling st (is_ordered places ordered p) p h.working;
    at =
        subst (λ b. AtRun st ps (run_settling st b p h.working) y u words sets after n) kept_is
        (subst (λ os. AtRun st os (run_settling st kept p h.working) y u words sets after n) same
        (step h.working (subst AreApart (sym same) run.apart) (subst AreOnce (sym same) run.once) (next_step ran rest p is) (next_touched ran rest p is) (subst (λ os. AtRun st os h.working x v words sets before m) (sym same) h.at)));
    leads = h.leads;
  }

-- after the last run
pub led_end : (st : Closing) (ps : Points) (test : ℕ → Bool) (rest : List ℕ) (x : Store) (v : StepVectors) (words : StepState) (sets : WakeState) (flags : List Bool) (m : Marks) → rest ≡ [] → HasLed st ps test rest x v words sets flags m → AtStep st ps (all_run st) x v sets flags m
led_end st ps test rest x v words sets flags m none h = subst (λ w. AtStep st ps w x v sets flags m) (ap (λ qs. run_listed st test qs h.working) (sym none) ∙ h.leads) h.at.step
