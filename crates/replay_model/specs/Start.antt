-- The replay of the first closed step of a stretch, as a function: the dump's values, and what Assigns make of them, and Combs that have acted.
use Rattle.std.specs.Prelude.{ℕ, Bool, true, false, not, ◌&&◌, ◌||◌, if◌then◌else◌, List, [], ◌∷◌, Some, None}
use Rattle.event_machine.specs.Cell.{Cell, Values}
use Rattle.design_model.specs.four_state.declared.bit.Bit.{Bit}
use Rattle.design_model.specs.Design.{Design, body_at, is_assign, process_at, signal_at}
use Rattle.design_model.specs.Mentions.{blocking_target}
use Rattle.body_replay.specs.Contract.{Outcome, quiet}
use Rattle.body_replay.specs.Runs.{Runs, StoreView}
use Rattle.body_replay.specs.Store.{Kept}
use Rattle.replay_model.specs.Tables.{Tables}
use Rattle.replay_model.specs.Step.{Replay, is_comb, is_dumped, settled_kept, surely_differ}

-- the replay within the first step
pub record Starting : Type 0 where
  pub kept : Kept  -- what is known of the values
  pub made : Kept  -- what was made of each cell, before the dump's value took its place

module _ (d : Design) (bound : ℕ → Bool) (run : Runs) (tables : Tables) (new : Values Bit) (before : Replay) where
  -- what the dump says
  abbrev pub first_kept : Kept
  first_kept c = if is_dumped d bound c then Some (new c) else None

  -- a store in which nothing is hidden
  abbrev pub first_store : Kept → StoreView
  first_store k = record { kept = k; hidden = λ x. false; shown = k }

  -- an Assign, or a Comb that has acted, has its targets as its body leaves them
  abbrev pub runs_first : ℕ → Bool
  runs_first p = is_assign (process_at d p) || (is_comb (process_at d p) && before.acted p)

  -- what such a process makes of its targets
  abbrev pub after_first : Bool → ℕ → Outcome → Starting → Starting
  after_first ordered p o w =
      record {
        kept = λ c. if blocking_target d (body_at d p) c && not (is_dumped d bound c) then (if ordered then o.kept c else None) else w.kept c;
        made = λ c. if blocking_target d (body_at d p) c then o.kept c else w.made c;
      }

  -- it runs, whether anything moves or not
  abbrev pub run_first : Bool → ℕ → Starting → Starting
  run_first ordered p w =
      if runs_first p then after_first ordered p (run p (first_store (settled_kept d p w.kept)) quiet) w else w

  -- those, in order
  abbrev pub run_all_first : Bool → List ℕ → Starting → Starting
  run_all_first ordered [] w = w
  run_all_first ordered (p ∷ ps) w = run_all_first ordered ps (run_first ordered p w)

  -- after all
  abbrev pub all_first : Starting
  all_first = run_all_first false tables.last (run_all_first true tables.order (record { kept = first_kept; made = λ c. None }))

  -- what was made of a bit that the dump has surely differs from the dump
  abbrev pub contradicts_first : Cell → Bool
  contradicts_first c = is_dumped d bound c && (not (signal_at d c.thing).input && surely_differ (all_first.made c) (Some (new c)))

  -- the replay after the step
  abbrev pub started : Replay
  started = record { kept = all_first.kept; acted = before.acted; notes = before.notes }
