-- Two walks from the top: the first finds what is wrong, the second builds the design where nothing is.
use Rattle.std.proofs.Common.{◌≡◌, ◌⊎◌, ℕ, true, false, List, [], ◌∷◌, Option, None, Some, Ok, refl, sym, ap, ◌∙◌, subst, inl, inr, length, arith}
use Rattle.std.specs.Prelude.{is_some}
use Rattle.std.proofs.lemmas.Bool.{false≢true, cases_Bool}
use Rattle.design_model.specs.View.{design_view}
use Rattle.design_model.specs.declared.design.Design.{Design}
use Rattle.verilog_tree.specs.Tree.{Module}
use Rattle.flat_design.specs.Bodies.{met_fault, met_faults}
use Rattle.flat_design.specs.Fault.{Fault, first_fault, missing_top, told}
use Rattle.flat_design.specs.Faults.{answer, design_or, faults_of, two_modules}
use Rattle.flat_design.specs.Flat.{elaborated, elaborated_from, instance, module_of, start, top_instance}
use Rattle.flat_design.specs.Instances.{Instantiation}
use Rattle.flat_design.specs.Processes.{driver_faults}
use Rattle.flat_design.specs.declared.fault.ElabFault.{ElabFault}
use Rattle.flat_design.specs.declared.fault.ElabFault.TheVariants.{NoMemory}
use Rattle.flat_laws.proofs.Freedom.{IsFree}
use Rattle.elab_scope.specs.Tally.{Tally, after_all, after_faults, nothing_found}
use Rattle.elab_scope.proofs.FirstFault.{after_faults_open, driver_faults_none, first_found, found}
use Rattle.elab_scope.proofs.TallyLemmas.{after_all_ended}
use Rattle.elaborator.specs.Answered.{IsAnsweredFault, walked_top}
use Rattle.elaborator.specs.Walk.{IsAt, IsClean, StandsFor, WalksBy}
use Rattle.elaborator.specs.declared.walk.Walk.{Walk}
use Rattle.elaborator.proofs.StepLemmas.{faults_walk}
use Rattle.elaborator.proofs.WalkLemmas.{all_clean, stands_faults}

-- what the top gives where nothing comes before it
walked_is : (base : ℕ) (ms : List Module) (top : List ℕ) (m : Option Module) → walked_top base ms top m (start top) ≡ elaborated_from base ms top m
walked_is base ms top None = refl
walked_is base ms top (Some m) = refl

stands_nothing : (top : List ℕ) → StandsFor nothing_found nothing_found 0 (start top)
stands_nothing top =
    record {
      met = refl;
      told = λ ended. absurd (false≢true ended);
      numbers = λ open'. record { signals = refl; processes = refl; instances = refl; memories = refl; words = omega arith };
    }

-- faults of modules that are reported first
stands_first : (top : List ℕ) (fs : List Fault) → StandsFor (after_faults nothing_found fs) (after_faults nothing_found fs) 0 (start top)
stands_first top fs = let s = stands_faults fs (stands_nothing top) in record { met = refl; told = s.told; numbers = s.numbers }

-- the module of the top is walked
pub walks_present : {base : ℕ} {w later : Walk} (ms : List Module) (top : List ℕ) (m : Module) (i : Instantiation) → module_of ms top ≡ Some m → i ≡ top_instance top m → WalksBy base w later (λ b st. instance b ms 64 i st) →
    WalksBy base w later (λ b st. walked_top b ms top (module_of ms top) st)
walks_present {base = base} {w = w} {later = later} ms top m i found is walks =
    subst (λ o. WalksBy base w later (λ b st. walked_top b ms top o st)) (sym found) (subst (λ x. WalksBy base w later (λ b st. instance b ms 64 x st)) is walks)

-- that there is no such module is reported
pub walks_absent : {base : ℕ} {w later : Walk} (ms : List Module) (top : List ℕ) → module_of ms top ≡ None → later.tally ≡ after_all w.tally (met_fault (missing_top top) ∷ []) → later.memories ≡ w.memories → later.draft ≡ w.draft →
    WalksBy base w later (λ b st. walked_top b ms top (module_of ms top) st)
walks_absent {base = base} {w = w} {later = later} ms top found met memories draft =
    subst (λ o. WalksBy base w later (λ b st. walked_top b ms top o st)) (sym found) (faults_walk (missing_top top ∷ []) met memories draft)

module _ (ms : List Module) (top : List ℕ) where
  abbrev before : Tally
  before = after_faults nothing_found (two_modules [] ms)

  abbrev named : Option Module
  named = module_of ms top

  abbrev Walks : ℕ → Walk → Walk → Type 0
  Walks base w later = WalksBy base w later (λ b st. walked_top b ms top named st)

  -- the walk that builds nothing, however memories are numbered
  found_at : (t : Tally) (later : Walk) → t ≡ before → Walks 0 (record { tally = t; memories = 0; draft = None }) later → (b : ℕ) → IsAt before 0 b later (elaborated_from b ms top named)
  found_at t later is walks b =
      subst (IsAt before 0 b later) (walked_is b ms top named)
      ((walks before b (start top) (record { stands = subst (λ u. StandsFor before u 0 (start top)) (sym is) (stands_first top (two_modules [] ms)); built = λ d building. absurd (let e : None ≡ Some d = building.draft in cc) })).0)

  -- all that was found, except for drivers
  found_is : (t : Tally) (later : Walk) → t ≡ before → Walks 0 (record { tally = t; memories = 0; draft = None }) later → later.tally ≡ found ms top
  found_is t later is walks = (found_at t later is walks (length (elaborated_from 0 ms top named).design.signals)).stands.met

  -- the first fault, with those of drivers after all others
  pub first_is : (t end : Tally) (later : Walk) → t ≡ before → Walks 0 (record { tally = t; memories = 0; draft = None }) later → end ≡ after_faults later.tally (driver_faults later.tally.writings) → end.first ≡ first_fault (faults_of ms top)
  first_is t end later is walks told =
      ap (λ u. u.first) told ∙ ap (λ u. (after_faults u (driver_faults u.writings)).first) (found_is t later is walks) ∙ sym (first_found ms top)

  -- where no fault is reported no limit is passed
  was_open : (t end : Tally) (later : Walk) → t ≡ before → Walks 0 (record { tally = t; memories = 0; draft = None }) later → end ≡ after_faults later.tally (driver_faults later.tally.writings) → end.first ≡ None → later.tally.ended ≡ false
  was_open t end later is walks told none = elim (cases_Bool later.tally.ended) [
    | inl ended ↦
        let same : end ≡ later.tally = told ∙ after_all_ended later.tally (met_faults (driver_faults later.tally.writings)) ended in
        absurd ((found_at t later is walks 0).stands.told ended (sym (ap (λ u. u.first) same) ∙ none))
    | inr open' ↦ open'
  ]

  opened_end : (end : Tally) (later : Walk) → end ≡ after_faults later.tally (driver_faults later.tally.writings) → later.tally.ended ≡ false → (end.ended ≡ false) × (end.counts ≡ later.tally.counts)
  opened_end end later told open' =
      let same = told ∙ after_faults_open later.tally (driver_faults later.tally.writings) open' (driver_faults_none later.tally.writings) in
      (ap (λ u. u.ended) same ∙ open', ap (λ u. u.counts) same)

  -- and as many signals were counted as there are
  pub signals_are : (t end : Tally) (later : Walk) → t ≡ before → Walks 0 (record { tally = t; memories = 0; draft = None }) later → end ≡ after_faults later.tally (driver_faults later.tally.writings) → end.first ≡ None →
      end.counts.signals ≡ length (elaborated_from 0 ms top named).design.signals
  signals_are t end later is walks told none =
      let open' = was_open t end later is walks told none in
      ap (λ c. c.signals) (opened_end end later told open').1 ∙ ((found_at t later is walks 0).stands.numbers open').signals

  no_faults : (fs : List Fault) → IsFree (met_faults fs) → fs ≡ []
  no_faults [] free = refl
  no_faults (f ∷ fs) free = absurd (false≢true (sym free.no_fault))

  -- where no fault is reported nothing is wrong from the beginning
  pub clean_is : (t end : Tally) (later : Walk) → t ≡ before → Walks 0 (record { tally = t; memories = 0; draft = None }) later → end ≡ after_faults later.tally (driver_faults later.tally.writings) → end.first ≡ None →
      IsClean (after_all nothing_found (elaborated ms top).met)
  clean_is t end later is walks told none =
      let open' = was_open t end later is walks told none in
      let ended : IsClean end = record { open' = (opened_end end later told open').0; none = none } in
      let walked : IsClean later.tally = (all_clean later.tally (met_faults (driver_faults later.tally.writings)) (subst IsClean told ended)).0 in
      let all : IsClean (after_all before (elaborated ms top).met) = subst IsClean (found_is t later is walks) walked in
      let first : IsClean before = (all_clean before (elaborated ms top).met all).0 in
      let none_twice : two_modules [] ms ≡ [] = no_faults (two_modules [] ms) (all_clean nothing_found (met_faults (two_modules [] ms)) first).1 in
      subst (λ fs. IsClean (after_all (after_faults nothing_found fs) (elaborated ms top).met)) none_twice all

  -- the second walk begins with a design without anything
  begun : (base : ℕ) (t : Tally) (empty : Design) → t ≡ nothing_found → design_view empty ≡ (start top).design → IsAt nothing_found base base (record { tally = t; memories = 0; draft = Some empty }) (start top)
  begun base t empty new is =
      record {
        stands = subst (λ u. StandsFor nothing_found u 0 (start top)) (sym new) (stands_nothing top);
        built = λ other building. let e : Some empty ≡ Some other = building.draft in let same : empty ≡ other = cc in sym (ap design_view same) ∙ is;
      }

  -- and has one in the end
  pub has_design : (base : ℕ) (t : Tally) (empty : Design) (later : Walk) → t ≡ nothing_found → design_view empty ≡ (start top).design → Walks base (record { tally = t; memories = 0; draft = Some empty }) later → later.draft ≡ None → ⊥
  has_design base t empty later new is walks none =
      let drafted : is_some later.draft ≡ true = (walks nothing_found base (start top) (begun base t empty new is)).1.drafted in
      false≢true (sym (ap is_some none) ∙ drafted)

  -- where nothing is wrong it is the design that is built
  pub built_is : (base : ℕ) (t : Tally) (empty d : Design) (later : Walk) → t ≡ nothing_found → design_view empty ≡ (start top).design → Walks base (record { tally = t; memories = 0; draft = Some empty }) later →
      IsClean (after_all nothing_found (elaborated_from base ms top named).met) → later.draft ≡ Some d → design_view d ≡ (elaborated_from base ms top named).design
  built_is base t empty d later new is walks clean draft =
      let at : IsAt nothing_found base base later (elaborated_from base ms top named) = subst (IsAt nothing_found base base later) (walked_is base ms top named) (walks nothing_found base (start top) (begun base t empty new is)).0 in
      at.built d (record { same = refl; draft = draft; clean = subst IsClean (sym at.stands.met) clean })

  -- no fault, and the design
  pub design_answered : (design : Design) (signals : ℕ) → first_fault (faults_of ms top) ≡ None → signals ≡ length (elaborated_from 0 ms top named).design.signals → design_view design ≡ (elaborated_from signals ms top named).design →
      answer ms top ≡ Ok (design_view design)
  design_answered design signals none are built =
      ap (design_or (elaborated ms top).design) none ∙ ap (λ d. Ok d) (sym (built ∙ ap (λ b. (elaborated_from b ms top named).design) are))

  -- the first fault, as it is reported
  pub fault_answered : (f : Fault) (fault : ElabFault) → first_fault (faults_of ms top) ≡ Some f → (fault ≡ NoMemory) ⊎ (fault ≡ told f) → IsAnsweredFault ms top fault
  fault_answered f fault first (inl memory) = inl memory
  fault_answered f fault first (inr is) = inr (f, ap (design_or (elaborated ms top).design) first, is)
