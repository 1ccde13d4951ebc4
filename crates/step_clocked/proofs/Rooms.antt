-- Room for the runs of processes, whatever the order in which they run.
use Rattle.std.proofs.Common.{◌≡◌, ℕ, ◌+◌, ◌≤◌, List, [], ◌∷◌, ◌++◌, arith}
use Rattle.std.specs.Prelude.{sum_by}
use Rattle.std.specs.List.{filter}
use Rattle.std.proofs.lemmas.List.Sums.{sum_by-append, sum_by-cons}
use Rattle.design_model.specs.Design.{Design, body_at}
use Rattle.clocked_marks.specs.AtClocked.{AtClocked, CanRunAll}
use Rattle.clocked_marks.specs.chosen_runs.clocked_block.clocked_runs.CanRun.{CanRun}
use Rattle.clocked_marks.specs.chosen_runs.clocked_block.clocked_runs.run_views.body_replay.Runs.{StoreView}
use Rattle.clocked_marks.specs.chosen_runs.clocked_block.clocked_runs.run_views.body_replay.Store.{KnownWrite}
use Rattle.clocked_marks.specs.chosen_runs.clocked_block.clocked_runs.run_views.body_store.declared.store.Store.{Store}
use Rattle.clocked_marks.specs.chosen_runs.clocked_block.clocked_runs.store_knowledge.open_tests.Weights.{queues}
use Rattle.clocked_marks.specs.run_marks.declared.notes.MarkNotes.{MarkNotes}
use Rattle.clocked_marks.specs.run_marks.cover_points.declared.listing.Points.{Points}
use Rattle.clocked_marks.specs.chosen_runs.chosen_early.early_sets.WakeState.{WakeState}
use Rattle.replay_sets.specs.replay_model.Step.{Closing, Working}
use Rattle.step_clocked.specs.Runs.{clean_in_rounds, is_unclean}
use Rattle.step_clocked.proofs.Rounds.{sum_in_turn}

module _ (d : Design) where
  abbrev queued : ℕ → ℕ
  queued p = queues (body_at d p)

  module _ (v : StoreView) (ws : List KnownWrite) (x : Store) where
    -- these queue no more together than those
    fewer : (ps qs : List ℕ) → sum_by queued qs ≤ sum_by queued ps → CanRun d v ws ps x → CanRun d v ws qs x
    fewer ps qs less h =
        let all = h.rooms.queue in
        record { meets = h.meets; queued = h.queued; rooms = record { log = h.rooms.log; queue = omega (arith, less, all) } }

    -- the first one need not run
    pub left_out : (p : ℕ) (rest : List ℕ) → CanRun d v ws (p ∷ rest) x → CanRun d v ws rest x
    left_out p rest h = let one : sum_by queued (p ∷ rest) ≡ queued p + sum_by queued rest = sum_by-cons queued p rest in fewer (p ∷ rest) rest (omega (arith, one)) h

  pub all_left_out : (p : ℕ) (rest : List ℕ) (x : Store) → CanRunAll d (p ∷ rest) x → CanRunAll d rest x
  all_left_out p rest x h = record { kept = h.kept; queue = h.queue; runs = left_out _ h.queue x p rest h.runs }

  -- the clean ones may run first, in order of their rounds
  pub in_turn : (w : WakeState) (v : StoreView) (ws : List KnownWrite) (x : Store) (listed : List ℕ) → CanRun d v ws listed x → CanRun d v ws (clean_in_rounds w listed ++ filter (is_unclean w) listed) x
  in_turn w v ws x listed h =
      let both = sum_by-append queued (clean_in_rounds w listed) (filter (is_unclean w) listed) in
      let all = sum_in_turn queued w listed in
      fewer v ws x listed (clean_in_rounds w listed ++ filter (is_unclean w) listed) (omega (arith, both, all)) h

  pub all_in_turn : (w : WakeState) (listed : List ℕ) (x : Store) → CanRunAll d listed x → CanRunAll d (clean_in_rounds w listed ++ filter (is_unclean w) listed) x
  all_in_turn w listed x h = record { kept = h.kept; queue = h.queue; runs = in_turn w _ h.queue x listed h.runs }

module _ (st : Closing) (ps : Points) (w : Working) (x : Store) (m : MarkNotes) where
  pub at_in_turn : (s : WakeState) (listed : List ℕ) → AtClocked st ps w listed x m → AtClocked st ps w (clean_in_rounds s listed ++ filter (is_unclean s) listed) x m
  at_in_turn s listed at = record { runs = in_turn st.design s _ _ x listed at.runs; points = at.points; marks = at.marks; unwritten = at.unwritten }

  pub at_left_out : (p : ℕ) (rest : List ℕ) → AtClocked st ps w (p ∷ rest) x m → AtClocked st ps w rest x m
  at_left_out p rest at = record { runs = left_out st.design _ _ x p rest at.runs; points = at.points; marks = at.marks; unwritten = at.unwritten }
