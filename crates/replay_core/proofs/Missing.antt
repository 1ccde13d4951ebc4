-- A replay of which the first step is refused, since a signal has no value.
use Rattle.std.proofs.Common.{◌≡◌, ◌∙◌, ℕ, ◌<◌, Bool, false, true, List, length, IfErr, OnOk, Option, Some, None, Result, Ok, Err, refl, sym, ap, subst}
use Rattle.std.specs.Prelude.{is_none, slice_index_or}
use Rattle.std.proofs.lemmas.Bool.{false≢true}
use Rattle.code_values.specs.Values.{lacks_code, lacks_value}
use Rattle.cover_points.specs.declared.listing.Points.{Points}
use Rattle.design_model.specs.Design.{Design}
use Rattle.event_machine.specs.Cell.{Values}
use Rattle.four_state.specs.Vector.{Vector}
use Rattle.four_state.specs.declared.bit.Bit.{Bit}
use Rattle.first_step.specs.step_values.Dumped.{AreDumped}
use Rattle.replay_core.specs.Fits.{FitsReplay, signal_of}
use Rattle.replay_core.specs.declared.fault.Phase.{Phase}
use Rattle.replay_core.specs.declared.fault.Phase.TheVariants.{Paused, Refused, Started}
use Rattle.replay_core.specs.declared.fault.ReplayFault.{ReplayFault}
use Rattle.replay_core.specs.declared.fault.ReplayFault.TheVariants.{Contradiction, NoBaseline}
use Rattle.replay_core.specs.declared.room.ReplayRoom.{ReplayRoom}
use Rattle.replay_core.specs.declared.state.ReplayState.{ReplayState}
use Rattle.replay_core.specs.declared.tables.ReplayTables.{ReplayTables}

abbrev pub is_refused : Phase → Bool
is_refused Paused = false
is_refused Started = false
is_refused (Refused fault) = true

abbrev pub fault_in : ReplayFault → Phase → ReplayFault
fault_in other Paused = other
fault_in other Started = other
fault_in other (Refused fault) = fault

abbrev pub is_missing : ReplayFault → Bool
is_missing (NoBaseline s) = true
is_missing (Contradiction s t dumped computed) = false

abbrev pub fault_of : {T : Type 0} → ReplayFault → Result T ReplayFault → ReplayFault
fault_of other (Ok x) = other
fault_of other (Err fault) = fault

-- the parts fit as well after a refusal that names a signal of the design
pub refused_ready : (d : Design) (points : Points) (x : ReplayTables) (r : ReplayRoom) (s : ReplayState) (p : Phase) (fault : ReplayFault) → signal_of fault < length d.signals → FitsReplay d points x r s p → FitsReplay d points x r s (Refused fault)
refused_ready d points x r s p fault named ready = record {
  replayable = ready.replayable;
  parts = ready.parts;
  none = ready.none;
  none_clocked = ready.none_clocked;
  forgotten = λ e. absurd (false≢true (sym (ap is_refused e)));
  begun = λ e. absurd (false≢true (sym (ap is_refused e)));
  closed = λ e. absurd (false≢true (sym (ap is_refused e)));
  refused = λ other e. subst (λ f. signal_of f < length d.signals) (ap (λ q. fault_in fault q) e) named;
}

-- no dump has values at which a signal lacks one
pub not_given : (d : Design) (codes : List (Option ℕ)) (values : List (Option Vector)) (new : Values Bit) (s : ℕ) → lacks_value values codes s ≡ true → AreDumped d codes values new → ⊥
not_given d codes values new s missing dumped = go (slice_index_or codes s None) refl
  where
    go : (o : Option ℕ) → slice_index_or codes s None ≡ o → ⊥
    go None e = false≢true (ap (λ o. lacks_code values o) (sym e) ∙ missing)
    go (Some code) e = false≢true (ap is_none (sym (dumped s code e).1) ∙ ap (λ o. lacks_code values o) (sym e) ∙ missing)

-- a call that gives this fault is not done
pub not_done : {T : Type 0} (P : Type 0) (r : Result T ReplayFault) (fault : ReplayFault) → r ≡ Err fault → OnOk r P
not_done {T} P r fault e = subst (λ (z : Result T ReplayFault). OnOk z P) (sym e) tt

-- what holds of the fault holds of what the call gives
pub of_fault : {T : Type 0} (Q : ReplayFault → Type 0) (r : Result T ReplayFault) (fault : ReplayFault) → r ≡ Err fault → Q fault → IfErr r Q
of_fault {T} Q r fault e q = subst (λ (z : Result T ReplayFault). IfErr z Q) (sym e) q

-- a call gives one fault
pub same_signal : {T : Type 0} (r : Result T ReplayFault) (s n : ℕ) → r ≡ Err (NoBaseline s) → r ≡ Err (NoBaseline n) → s ≡ n
same_signal r s n e f = ap (λ z. signal_of (fault_of (NoBaseline s) z)) (sym e ∙ f)

pub no_contradiction : {T : Type 0} (r : Result T ReplayFault) (s : ℕ) (other : ReplayFault) → is_missing other ≡ false → r ≡ Err (NoBaseline s) → r ≡ Err other → ⊥
no_contradiction r s other kind e f = false≢true (sym kind ∙ ap (λ z. is_missing (fault_of (NoBaseline s) z)) (sym f ∙ e))
