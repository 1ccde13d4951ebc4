-- The fault that is reported of modules is the first one that is found.
use Rattle.std.proofs.Common.{◌≡◌, ℕ, refl, inl, inr, Bool, true, false, ◌||◌, None, List, [], ◌∷◌, ◌++◌, if◌then◌else◌, sym, ap, ◌∙◌}
use Rattle.std.specs.List.{fold, list_any}
use Rattle.std.proofs.lemmas.Bool.{false≢true, cases_Bool}
use Rattle.std.proofs.lemmas.List.Folds.{list_any-append}
use Rattle.verilog_tree.specs.Tree.{Module}
use Rattle.verilog_tree.specs.declared.item.Named.{Named}
use Rattle.flat_design.specs.Bodies.{Met, met_fault}
use Rattle.flat_design.specs.Fault.{Fault, is_limit, first_fault, fault_at, fault_if}
use Rattle.flat_design.specs.declared.fault.ElabKind.TheVariants.{TwoModules, TwoDrivers}
use Rattle.flat_design.specs.Faults.{nothing, told, two_modules, faults_of}
use Rattle.flat_design.specs.Flat.{elaborated}
use Rattle.flat_design.specs.Identifiers.{is_among}
use Rattle.flat_design.specs.Processes.{writings, driver_faults, fault_at_first}
use Rattle.flat_design.specs.Targets.{Writing}
use Rattle.elab_scope.specs.Tally.{Tally, sooner, with_fault, after_all, after_faults, nothing_found}
use Rattle.elab_scope.proofs.TallyLemmas.{after_open, after_faults_ended, first_fault_is, first_at_end, first_told, all_written}

-- none of these is a limit
abbrev pub NoLimit : List Fault → Type 0
NoLimit fs = list_any is_limit fs ≡ false

or_none : (a b : Bool) → (a || b) ≡ false → (a ≡ false) × (b ≡ false)
or_none true b e = absurd (false≢true (sym e))
or_none false b e = (refl, e)

-- faults that are no limits change the first fault alone
pub after_faults_open : (t : Tally) (fs : List Fault) → t.ended ≡ false → NoLimit fs → after_faults t fs ≡ record t { first = fold sooner t.first fs }
after_faults_open t [] e none = refl
after_faults_open t (f ∷ fs) e none =
    let parts = or_none (is_limit f) (list_any is_limit fs) none in
    ap (λ u. after_faults u fs) (after_open t (met_fault f) e)
    ∙ after_faults_open (with_fault f t) fs parts.0 parts.1
    ∙ (λ i. record { first = fold sooner (sooner t.first f) fs; counts = t.counts; ended = (parts.0 ∙ sym e) i; writings = t.writings })

-- so they are the last to be reported
pub first_after_faults : (t : Tally) (rest : List Fault) → NoLimit rest → (after_faults t rest).first ≡ first_at_end t rest
first_after_faults t rest none =
    elim (cases_Bool t.ended) [
      | inl ended ↦ ap (λ u. u.first) (after_faults_ended t rest ended) ∙ sym (ap (λ b. if b then t.first else fold sooner t.first rest) ended)
      | inr other ↦ ap (λ u. u.first) (after_faults_open t rest other none) ∙ sym (ap (λ b. if b then t.first else fold sooner t.first rest) other)
    ]

-- what is reported of faults, of what is met after them, and of what is written
module _ (fs : List Fault) (ms : List Met) (rest : List Writing → List Fault) where
  abbrev start : Tally
  start = after_faults nothing_found fs

  abbrev end : Tally
  end = after_all start ms

  rest_written : start.writings ≡ [] → first_at_end end (rest (writings ms)) ≡ first_at_end end (rest end.writings)
  rest_written none =
      elim (cases_Bool end.ended) [
        | inl ended ↦ ap (λ b. if b then end.first else fold sooner end.first (rest (writings ms))) ended ∙ sym (ap (λ b. if b then end.first else fold sooner end.first (rest end.writings)) ended)
        | inr other ↦ ap (λ ws. first_at_end end (rest ws)) (sym (all_written start ms other ∙ ap (λ ws. ws ++ writings ms) none))
      ]

  pub first_met : NoLimit fs → ((ws : List Writing) → NoLimit (rest ws)) → first_fault (fs ++ told nothing (rest (writings ms)) ms) ≡ (after_faults end (rest end.writings)).first
  first_met before behind =
      let is : start ≡ record nothing_found { first = fold sooner None fs } = after_faults_open nothing_found fs refl before in
      ap (λ u. first_fault (fs ++ told u.counts (rest (writings ms)) ms)) (sym is)
      ∙ first_told fs start (rest (writings ms)) ms (ap (λ u. u.first) is ∙ sym (first_fault_is fs)) (ap (λ u. u.ended) is)
      ∙ rest_written (ap (λ u. u.writings) is)
      ∙ sym (first_after_faults end (rest end.writings) (behind end.writings))

two_modules_none : (sofar : List Named) (ms : List Module) → NoLimit (two_modules sofar ms)
two_modules_none sofar [] = refl
two_modules_none sofar (m ∷ ms) =
    list_any-append is_limit (fault_if (is_among sofar m.name.name) (fault_at TwoModules m.name)) (two_modules (m.name ∷ sofar) ms)
    ∙ by (is_among sofar m.name.name) (list_any is_limit (two_modules (m.name ∷ sofar) ms)) (two_modules_none (m.name ∷ sofar) ms)
  where
    by : (b c : Bool) → c ≡ false → (list_any is_limit (fault_if b (fault_at TwoModules m.name)) || c) ≡ false
    by true c e = e
    by false c e = e

at_first_none : (xs : List Named) → NoLimit (fault_at_first TwoDrivers xs)
at_first_none [] = refl
at_first_none (x ∷ xs) = refl

pub driver_faults_none : (ws : List Writing) → NoLimit (driver_faults ws)
driver_faults_none ws = at_first_none _

-- what is found in modules with this top before drivers are compared
abbrev pub found : List Module → List ℕ → Tally
found ms top = after_all (after_faults nothing_found (two_modules [] ms)) (elaborated ms top).met

-- the fault that is reported is the first one found, with those of drivers after all others
pub first_found : (ms : List Module) (top : List ℕ) → first_fault (faults_of ms top) ≡ (after_faults (found ms top) (driver_faults (found ms top).writings)).first
first_found ms top = first_met (two_modules [] ms) (elaborated ms top).met driver_faults (two_modules_none [] ms) driver_faults_none
