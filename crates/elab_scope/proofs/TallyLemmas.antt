-- What is found so far, by what was met.
use Rattle.std.proofs.Common.{◌≡◌, refl, inl, inr, Bool, true, false, Option, Some, None, List, [], ◌∷◌, ◌++◌, if◌then◌else◌, sym, ap, ◌∙◌, append_assoc, append-nil}
use Rattle.std.specs.List.{fold}
use Rattle.std.proofs.lemmas.List.{map-append}
use Rattle.std.proofs.lemmas.List.Sums.{fold-append}
use Rattle.std.proofs.lemmas.Bool.{false≢true, cases_Bool}
use Rattle.flat_design.specs.Bodies.{Met, met_fault, met_signal, met_words, met_process, met_instance, met_statement, met_text, met_writing, met_faults}
use Rattle.flat_design.specs.Fault.{Fault, goes_before, is_limit, first_fault, first_of_faults}
use Rattle.flat_design.specs.Faults.{told}
use Rattle.flat_design.specs.Processes.{writing_met, writings}
use Rattle.flat_design.specs.declared.counts.Counts.{Counts}
use Rattle.elab_scope.specs.Tally.{Tally, tells, sooner, with_fault, with_counts, with_met, after, after_all, after_faults}

-- the fault that is reported, by the test
pub sooner_if : (o : Option Fault) (f : Fault) (b : Bool) → b ≡ tells o f → (if b then Some f else o) ≡ sooner o f
sooner_if None f b e = rw e refl
sooner_if (Some g) f true e = rw (← e) refl
sooner_if (Some g) f false e = rw (← e) refl

-- what is met is counted in order
pub after_all-append : (t : Tally) (ms ns : List Met) → after_all t (ms ++ ns) ≡ after_all (after_all t ms) ns
after_all-append t [] ns = refl
after_all-append t (m ∷ ms) ns = after_all-append (after t m) ms ns

pub after_faults-append : (t : Tally) (fs gs : List Fault) → after_faults t (fs ++ gs) ≡ after_faults (after_faults t fs) gs
after_faults-append t fs gs = ap (after_all t) (map-append met_fault fs gs) ∙ after_all-append t (met_faults fs) (met_faults gs)

-- faults before what else is met
pub after_all-faults : (t : Tally) (fs : List Fault) (ms : List Met) → after_all t (met_faults fs ++ ms) ≡ after_all (after_faults t fs) ms
after_all-faults t fs ms = after_all-append t (met_faults fs) ms

-- after a limit that is passed nothing counts
pub after_ended : (t : Tally) (m : Met) → t.ended ≡ true → after t m ≡ t
after_ended t m e = ap (λ b. if b then t else with_met m t) e

pub after_open : (t : Tally) (m : Met) → t.ended ≡ false → after t m ≡ with_met m t
after_open t m e = ap (λ b. if b then t else with_met m t) e

pub after_all_ended : (t : Tally) (ms : List Met) → t.ended ≡ true → after_all t ms ≡ t
after_all_ended t [] e = refl
after_all_ended t (m ∷ ms) e = ap (λ u. after_all u ms) (after_ended t m e) ∙ after_all_ended t ms e

pub after_faults_ended : (t : Tally) (fs : List Fault) → t.ended ≡ true → after_faults t fs ≡ t
after_faults_ended t fs e = after_all_ended t (met_faults fs) e

pub stays_ended : (t : Tally) (ms : List Met) → t.ended ≡ true → (after_all t ms).ended ≡ true
stays_ended t ms e = ap (λ u. u.ended) (after_all_ended t ms e) ∙ e

-- where none is passed at the end, none was before
pub was_open : (t : Tally) (ms : List Met) → (after_all t ms).ended ≡ false → t.ended ≡ false
was_open t ms e = elim (cases_Bool t.ended) [ inl ended ↦ absurd (false≢true (sym e ∙ stays_ended t ms ended)) | inr open' ↦ open' ]

-- the first fault of a list is the one that is reported of each one and those before it
some_first : (f : Fault) (fs : List Fault) → fold sooner (Some f) fs ≡ Some (first_of_faults f fs)
some_first f [] = refl
some_first f (g ∷ gs) = some_first (if goes_before g f then g else f) gs

pub first_fault_is : (fs : List Fault) → first_fault fs ≡ fold sooner None fs
first_fault_is [] = refl
first_fault_is (f ∷ fs) = sym (some_first f fs)

pub first_fault-append : (fs gs : List Fault) → first_fault (fs ++ gs) ≡ fold sooner (first_fault fs) gs
first_fault-append fs gs = first_fault_is (fs ++ gs) ∙ fold-append sooner None fs gs ∙ ap (λ o. fold sooner o gs) (sym (first_fault_is fs))

-- the first fault, where these are met at the end
abbrev pub first_at_end : Tally → List Fault → Option Fault
first_at_end t rest = if t.ended then t.first else fold sooner t.first rest

ended_first : (t : Tally) (rest : List Fault) (ms : List Met) → t.ended ≡ true → t.first ≡ first_at_end (after_all t ms) rest
ended_first t rest ms e = sym (ap (λ u. first_at_end u rest) (after_all_ended t ms e) ∙ ap (λ b. if b then t.first else fold sooner t.first rest) e)

module _ (rest : List Fault) where
  -- what is reported of this is what the tally has at the end
  abbrev IsTold : List Met → Type 0
  IsTold ms = (t : Tally) → t.ended ≡ false → fold sooner t.first (told t.counts rest ms) ≡ first_at_end (after_all t ms) rest

  told_fault : (f : Fault) (ms : List Met) → IsTold ms → (t : Tally) → fold sooner (sooner t.first f) (if is_limit f then [] else told t.counts rest ms) ≡ first_at_end (after_all (with_fault f t) ms) rest
  told_fault f ms others t =
      elim (cases_Bool (is_limit f)) [
        | inl limit ↦ ap (λ b. fold sooner (sooner t.first f) (if b then [] else told t.counts rest ms)) limit ∙ ended_first (with_fault f t) rest ms limit
        | inr other ↦ ap (λ b. fold sooner (sooner t.first f) (if b then [] else told t.counts rest ms)) other ∙ others (with_fault f t) other
      ]

  told_count : (passed : Bool) (f : Fault) (c : Counts) (ms : List Met) → IsTold ms → (t : Tally) → t.ended ≡ false → is_limit f ≡ true →
      fold sooner t.first (if passed then f ∷ [] else told c rest ms) ≡ first_at_end (after_all (with_counts passed f c t) ms) rest
  told_count true f c ms others t e limit = ended_first (with_fault f t) rest ms limit
  told_count false f c ms others t e limit = others (record t { counts = c }) e

  told_met : (m : Met) (ms : List Met) → IsTold ms → (t : Tally) → t.ended ≡ false → fold sooner t.first (told t.counts rest (m ∷ ms)) ≡ first_at_end (after_all (with_met m t) ms) rest
  told_met (met_fault f) ms others t e = told_fault f ms others t
  told_met (met_signal p) ms others t e = told_count _ _ _ ms others t e refl
  told_met (met_words p n) ms others t e = told_count _ _ _ ms others t e refl
  told_met (met_process p) ms others t e = told_count _ _ _ ms others t e refl
  told_met (met_instance p) ms others t e = told_count _ _ _ ms others t e refl
  told_met (met_statement p) ms others t e = told_count _ _ _ ms others t e refl
  told_met (met_text p n) ms others t e = told_count _ _ _ ms others t e refl
  told_met (met_writing w) ms others t e = others (record t { writings = t.writings ++ w ∷ [] }) e

  pub all_told : (ms : List Met) (t : Tally) → t.ended ≡ false → fold sooner t.first (told t.counts rest ms) ≡ first_at_end (after_all t ms) rest
  all_told [] t e = sym (ap (λ b. if b then t.first else fold sooner t.first rest) e)
  all_told (m ∷ ms) t e = told_met m ms (all_told ms) t e ∙ ap (λ u. first_at_end (after_all u ms) rest) (sym (after_open t m e))

-- which fault is reported of those before a tally, of what is met, and of the rest
pub first_told : (fs : List Fault) (t : Tally) (rest : List Fault) (ms : List Met) → t.first ≡ first_fault fs → t.ended ≡ false →
    first_fault (fs ++ told t.counts rest ms) ≡ first_at_end (after_all t ms) rest
first_told fs t rest ms first e =
    first_fault-append fs (told t.counts rest ms) ∙ ap (λ o. fold sooner o (told t.counts rest ms)) (sym first) ∙ all_told rest ms t e

-- the targets, by what is met
counts_write : (passed : Bool) (f : Fault) (c : Counts) (t : Tally) → (with_counts passed f c t).writings ≡ t.writings ++ []
counts_write true f c t = sym (append-nil t.writings)
counts_write false f c t = sym (append-nil t.writings)

met_writes : (m : Met) (t : Tally) → (with_met m t).writings ≡ t.writings ++ writing_met m
met_writes (met_fault f) t = sym (append-nil t.writings)
met_writes (met_signal p) t = counts_write _ _ _ t
met_writes (met_words p n) t = counts_write _ _ _ t
met_writes (met_process p) t = counts_write _ _ _ t
met_writes (met_instance p) t = counts_write _ _ _ t
met_writes (met_statement p) t = counts_write _ _ _ t
met_writes (met_text p n) t = counts_write _ _ _ t
met_writes (met_writing w) t = refl

-- where no limit is passed all targets that were met are written
pub all_written : (t : Tally) (ms : List Met) → (after_all t ms).ended ≡ false → (after_all t ms).writings ≡ t.writings ++ writings ms
all_written t [] e = sym (append-nil t.writings)
all_written t (m ∷ ms) e =
    let before : t.ended ≡ false = was_open t (m ∷ ms) e in
    let now : (after t m).writings ≡ t.writings ++ writing_met m = ap (λ u. u.writings) (after_open t m before) ∙ met_writes m t in
    all_written (after t m) ms e ∙ ap (λ ws. ws ++ writings ms) now ∙ append_assoc t.writings (writing_met m) (writings ms)
