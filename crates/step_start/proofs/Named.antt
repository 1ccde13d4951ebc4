-- A signal of which the Clocked have left something else than what the dump says is one of the design.
use Rattle.std.proofs.Common.{◌≡◌, ℕ, ◌<◌, true, false, List, [], length, Option, Some, refl, inl, inr}
use Rattle.std.proofs.lemmas.List.Elements.{All-contains}
use Rattle.event_machine.specs.Cell.{Values as CellValues}
use Rattle.four_state.specs.Vector.{Vector}
use Rattle.four_state.specs.declared.bit.Bit.{Bit}
use Rattle.body_replay.specs.Runs.{runs_of}
use Rattle.body_replay.specs.Store.{Kept}
use Rattle.body_store.specs.declared.store.Store.{Store}
use Rattle.design_model.specs.Design.{Design}
use Rattle.dump_check.specs.declared.order.Difference.{Difference}
use Rattle.early_sets.specs.WakeState.{WakeState}
use Rattle.step_parts.proofs.process_order.Distinct.{in_contains}
use Rattle.step_parts.specs.replay_model.Step.{Closing}
use Rattle.step_parts.specs.replay_sets.SetsOf.{sets_of}
use Rattle.step_parts.specs.store_knowledge.Knows.{Knows}
use Rattle.still_check.specs.Stays.{IsAfterClocked, IsLeastMoved}
use Rattle.still_check.specs.step_values.Dumped.{AreDumped, HaveCodes}
use Rattle.still_check.specs.step_values.Loose.{has_code}

-- some step without Clocked with these parts
abbrev some_step : Design → Kept → WakeState → CellValues Bit → Closing
some_step d k w new =
    record {
      design = d;
      bound = λ s. true;
      run = runs_of d;
      tables = record { watched = λ p. []; clocked = []; order = []; last = [] };
      sets = sets_of w (λ p. []);
      time = 0;
      listed = true;
      new = new;
      start = record { kept = k; acted = λ p. false; notes = [] };
    }

pub named : (d : Design) (k : Kept) (store : Store) (w : WakeState) (codes : List (Option ℕ)) (values : List (Option Vector)) (changed overwritten : List ℕ) (new : CellValues Bit) (found : Difference) → Knows d k store → AreDumped d codes values new
    → HaveCodes d codes changed → HaveCodes d codes overwritten
    → ((st : Closing) → IsAfterClocked st store w codes values → IsLeastMoved st changed overwritten (Some found)) → found.signal < length d.signals
named d k store w codes values changed overwritten new found knows dumped coded made least =
    let m = least (some_step d k w new) (record { knows = knows; moves = λ s. refl; dumped = dumped }) in
    elim m.0.which [
      | inl c ↦ (All-contains (λ s. (s < length d.signals) × (has_code codes s ≡ true)) changed found.signal coded (in_contains found.signal changed c.0)).0
      | inr i ↦ (All-contains (λ s. (s < length d.signals) × (has_code codes s ≡ true)) overwritten found.signal made (in_contains found.signal overwritten i)).0
    ]
