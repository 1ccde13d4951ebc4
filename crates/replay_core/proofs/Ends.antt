-- A replay after the first step.
use Rattle.std.proofs.Common.{◌≡◌, ℕ, ◌<◌, ◌≤◌, false, List, [], length, IfErr, IfNone, IfSome, OnOk, Option, Some, None, Result, Ok, Err, inl, inr, refl, sym, ap, subst, arith}
use Rattle.std.specs.Prelude.{nat_lt}
use Rattle.std.proofs.lemmas.Bool.{cases_Bool}
use Rattle.std.proofs.lemmas.Bool.Decides.{nat_tests}
use Rattle.std.proofs.lemmas.List.{get_or_past}
use Rattle.code_values.specs.Values.{lacks_code, lacks_value}
use Rattle.four_state.specs.Vector.{Vector}
use Rattle.cover_points.specs.declared.listing.Points.{Points}
use Rattle.design_model.specs.Design.{Design}
use Rattle.dump_check.specs.declared.order.Difference.{Difference}
use Rattle.replay_core.specs.Faults.{fault_at, phase_after}
use Rattle.replay_core.specs.Fits.{FitsParts, FitsReplay, HaveValues, IsReplayable, signal_of}
use Rattle.replay_core.specs.declared.fault.Phase.{Phase}
use Rattle.replay_core.specs.declared.fault.Phase.TheVariants.{Paused, Refused, Started}
use Rattle.replay_core.specs.declared.fault.ReplayFault.{ReplayFault}
use Rattle.replay_core.specs.declared.room.ReplayRoom.{ReplayRoom}
use Rattle.replay_core.specs.declared.state.ReplayState.{ReplayState}
use Rattle.replay_core.specs.declared.tables.ReplayTables.{ReplayTables}

-- after a step in which this was found, or nothing, it is not paused
not_off : (found : Option Difference) (t : ℕ) → phase_after found t ≡ Paused → ⊥
not_off None t e = cc
not_off (Some found) t e = cc

named_by : (found : Option Difference) (t n : ℕ) → IfSome found (λ one. one.signal < n) → (fault : ReplayFault) → phase_after found t ≡ Refused fault → signal_of fault < n
named_by None t n l fault e = absurd (none_refused e)
  where
    none_refused : Started ≡ Refused fault → ⊥
    none_refused e = cc
named_by (Some found) t n l fault e =
    let same : fault_at found t ≡ fault = cc in
    subst (λ f. signal_of f < n) same l

-- what holds where nothing was found holds once it has started
pub closed_by : {P : Type 0} (found : Option Difference) (t : ℕ) → IfNone found P → phase_after found t ≡ Started → P
closed_by None t p e = p
closed_by (Some found) t p e = absurd cc

pub none_at : {A P : Type 0} (o : Option A) → P → IfNone o P
none_at None p = p
none_at (Some y) p = tt

-- the parts fit after a step that ends at this time, in which this was found
pub step_ready : (d : Design) (points : Points) (x : ReplayTables) (r : ReplayRoom) (s : ReplayState) (found : Option Difference) (t : ℕ) → IsReplayable d points → FitsParts d points x r s → r.step.list.pairs ≡ [] → r.step.clocked.pairs ≡ [] → HaveValues x.step.codes.items s.values.last
    → IfNone found (HaveValues x.step.codes.items s.values.closed) → IfSome found (λ one. one.signal < length d.signals)
    → FitsReplay d points x r s (phase_after found t)
step_ready d points x r s found t replayable parts none none_clocked have closed named = record {
  replayable = replayable;
  parts = parts;
  none = none;
  none_clocked = none_clocked;
  forgotten = λ off. absurd (not_off found t off);
  begun = λ started. have;
  closed = closed_by found t closed;
  refused = named_by found t (length d.signals) named;
}

-- a replay that has not started and refused nothing is paused
pub is_off : (p : Phase) → (p ≡ Started → ⊥) → ((fault : ReplayFault) → p ≡ Refused fault → ⊥) → p ≡ Paused
is_off Paused a b = refl
is_off Started a b = absurd (a refl)
is_off (Refused fault) a b = absurd (b fault refl)

-- each signal with a code has a value where none of the listed ones lacks it
pub all_valued : (codes : List (Option ℕ)) (values : List (Option Vector)) → ((s : ℕ) → s < length codes → lacks_value values codes s ≡ false) → HaveValues codes values
all_valued codes values none s = elim (cases_Bool (nat_lt s (length codes))) [
  | inl e ↦ none s (grind (arith, nat_tests, e))
  | inr e ↦
      let past : length codes ≤ s = grind (arith, nat_tests, e) in
      ap (lacks_code values) (get_or_past codes s None past)
]

pub if_err : {T E : Type 0} {P Q : E → Type 0} (r : Result T E) → IfErr r P → ((e : E) → P e → Q e) → IfErr r Q
if_err (Ok x) p to = tt
if_err (Err e) p to = to e p

pub on_ok : {T E P Q : Type 0} (r : Result T E) → OnOk r P → (P → Q) → OnOk r Q
on_ok (Ok x) p to = to p
on_ok (Err e) p to = tt

-- the signal that a difference names
pub named_fault : (found : Option Difference) (one : Difference) (fault : ReplayFault) (t n : ℕ) → IfSome found (λ other. other.signal < n) → found ≡ Some one → fault ≡ fault_at one t → signal_of fault < n
named_fault found one fault t n l is same = subst (λ f. signal_of f < n) (sym same) (subst (λ o. IfSome o (λ other. other.signal < n)) is l)
