-- The parts of the code after a run in the first step of a stretch.
use Rattle.std.proofs.Common.{◌≡◌, ℕ, Bool, true, if◌then◌else◌, List, map, Option, sym, ap, subst, ◌∙◌}
use Rattle.event_machine.specs.Cell.{Values}
use Rattle.four_state.specs.declared.bit.Bit.{Bit}
use Rattle.known_state.specs.Partly.{Partly}
use Rattle.design_model.specs.Design.{Design, IsClocked, process_at, signal_cells}
use Rattle.design_model.specs.Lawful.{IsLawfulDesign}
use Rattle.body_replay.specs.Contract.{Outcome, quiet}
use Rattle.body_replay.specs.Runs.{AreRuns, runs_of}
use Rattle.body_store.specs.declared.store.Store.{Store}
use Rattle.settled_runs.specs.process_targets.Rows.{AreTargets}
use Rattle.settled_runs.specs.process_targets.Targets.{names, row_has}
use Rattle.settled_runs.specs.process_targets.declared.bits.Bits.{Bits}
use Rattle.step_parts.specs.replay_model.Start.{Starting, after_first, run_first, runs_first}
use Rattle.step_parts.specs.replay_model.Step.{Replay, plain_store, settled_kept}
use Rattle.step_parts.specs.replay_model.Tables.{Tables}
use Rattle.settled_runs.specs.store_knowledge.Knows.{Knows}
use Rattle.settled_targets.specs.step_values.Loose.{has_code}
use Rattle.settled_targets.specs.step_values.Vectors.{StepVectors}
use Rattle.settled_targets.specs.Returned.{Returns}
use Rattle.settled_targets.specs.Saved.{AreSaved}
use Rattle.settling.specs.First.{AtFirst}
use Rattle.settling.proofs.Targets.{kept_is, made_is}

module _ (d : Design) (bound : ℕ → Bool) (tables : Tables) (new : Values Bit) (before : Replay) (w : Starting) (p : ℕ) (ordered : Bool) (row : List Bits) (codes : List (Option ℕ)) (x z y : Store) (v u : StepVectors) (qs : List Partly)
    (lawful : IsLawfulDesign d) (runs : AreRuns d (runs_of d)) (settles : IsClocked (process_at d p) → ⊥) (is : runs_first d bound (runs_of d) tables new before p ≡ true) (targets : AreTargets d p row) (same : (s : ℕ) → bound s ≡ has_code codes s)
    (at : AtFirst d bound w x v) (saved : AreSaved d w.kept row qs) (left : Knows d (runs_of d p (plain_store (settled_kept d p w.kept)) quiet).kept z)
    (back : Returns codes (names row) (row_has row) ordered true (λ e k. AreSaved e k row qs) z y v u) where
  abbrev o : Outcome
  o = runs_of d p (plain_store (settled_kept d p w.kept)) quiet

  abbrev after : Starting
  after = after_first d bound (runs_of d) tables new before ordered p o w

  -- it has run on what is kept
  after_is : run_first d bound (runs_of d) tables new before ordered p w ≡ after
  after_is = ap (λ t. if t then after_first d bound (runs_of d) tables new before ordered p o w else w) is

  known : Knows d after.kept y
  known = subst (λ j. Knows d j y) (kept_is d p row lawful settles targets runs w.kept quiet codes bound same ordered) (back.knows d w.kept o.kept saved left)

  -- all parts of the first step
  pub first_after : AtFirst d bound (run_first d bound (runs_of d) tables new before ordered p w) y u
  first_after = subst (λ a. AtFirst d bound a y u) (sym after_is) (record {
    knows = known;
    fits = back.fits d at.fits;
    made = λ s l b.
        back.made d w.kept o.kept w.made s saved left at.fits l (sym (same s) ∙ b) (at.made s l b)
        ∙ ap (λ j. map j (signal_cells d s)) (made_is d p row lawful settles targets true o.kept w.made);
  })
