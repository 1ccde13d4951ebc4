-- Of what is no cell of the design nothing is known.
use Rattle.std.proofs.Common.{◌≡◌, ℕ, Bool, true, false, not, ◌&&◌, List, [], ◌∷◌, Option, Some, None, refl, sym, ap, subst, ◌∙◌}
use Rattle.std.specs.Prelude.{if◌then◌else◌}
use Rattle.std.proofs.lemmas.Bool.{cases_Bool, false_from_ne_true}
use Rattle.event_machine.specs.Cell.{Cell, Values}
use Rattle.replay_model.specs.four_state.declared.bit.Bit.{Bit}
use Rattle.replay_model.specs.design_model.Design.{Design, body_at}
use Rattle.replay_model.specs.design_model.Mentions.{blocking_target}
use Rattle.replay_model.specs.body_replay.Contract.{quiet}
use Rattle.replay_model.specs.body_replay.Runs.{Runs}
use Rattle.replay_model.specs.Start.{Starting, after_first, first_kept, first_store, run_all_first, run_first, runs_first, started}
use Rattle.replay_model.specs.Step.{Closing, Replay, Working, after_settling, all_run, certainty, clocked_run, is_dumped, is_loose, is_touched, plain_store, run_all_settling, run_settling, settle_start, settled_kept}
use Rattle.replay_model.specs.Tables.{Tables}
use Rattle.replay_model.proofs.Clocked.{at_false}
use Rattle.replay_steps.specs.Blank.{DrivesCells, HasDumpCells, IsBlank, IsCellOf}
use Rattle.replay_steps.specs.Settling.{loosened}
use Rattle.replay_steps.proofs.Settling.{starts_settled}

-- a choice of two that are both unknown
none_of : (b : Bool) (o : Option Bit) → o ≡ None → (if b then None else o) ≡ None
none_of true o e = refl
none_of false o e = e

not_driven : (d : Design) (p : ℕ) → DrivesCells d p → (c : Cell) → (IsCellOf d c → ⊥) → blocking_target d (body_at d p) c ≡ false
not_driven d p drives c outside = false_from_ne_true _ (λ e. outside (drives c e))

not_dumped : (d : Design) (bound : ℕ → Bool) → HasDumpCells d bound → (c : Cell) → (IsCellOf d c → ⊥) → is_dumped d bound c ≡ false
not_dumped d bound has c outside = false_from_ne_true _ (λ e. outside (has c e))

module _ (st : Closing) where
  pub start_blank : st.tables.clocked ≡ [] → HasDumpCells st.design st.bound → IsBlank st.design st.start.kept → IsBlank st.design (settle_start st (clocked_run st)).kept
  start_blank none has before = λ c outside.
      (starts_settled st c none).0
      ∙ at_false (λ z. z ≡ None) (is_dumped st.design st.bound c) (Some (st.new c)) (loosened st c) (not_dumped st.design st.bound has c outside) (none_of (is_loose st c) (st.start.kept c) (before c outside))

  pub run_blank : (ordered : Bool) (p : ℕ) (w : Working) → DrivesCells st.design p → IsBlank st.design w.kept → IsBlank st.design (run_settling st ordered p w).kept
  run_blank ordered p w drives before = go (is_touched st p)
    where
      go : (b : Bool) → IsBlank st.design (if b then after_settling st ordered p (certainty st w.kept p) (st.run p (plain_store (settled_kept st.design p w.kept)) (certainty st w.kept p)) w else w).kept
      go true = λ c outside. at_false (λ z. z ≡ None) (blocking_target st.design (body_at st.design p) c && not (is_dumped st.design st.bound c)) _ (w.kept c)
          (ap (λ v. v && not (is_dumped st.design st.bound c)) (not_driven st.design p drives c outside)) (before c outside)
      go false = before

  runs_blank : (ordered : Bool) (ps : List ℕ) (w : Working) → ((p : ℕ) → DrivesCells st.design p) → IsBlank st.design w.kept → IsBlank st.design (run_all_settling st ordered ps w).kept
  runs_blank ordered [] w drives before = before
  runs_blank ordered (p ∷ ps) w drives before = runs_blank ordered ps (run_settling st ordered p w) drives (run_blank ordered p w (drives p) before)

  pub all_blank : st.tables.clocked ≡ [] → HasDumpCells st.design st.bound → ((p : ℕ) → DrivesCells st.design p) → IsBlank st.design st.start.kept → IsBlank st.design (all_run st).kept
  all_blank none has drives before =
      runs_blank false st.tables.last (run_all_settling st true st.tables.order (settle_start st (clocked_run st))) drives
      (runs_blank true st.tables.order (settle_start st (clocked_run st)) drives (start_blank none has before))

module _ (d : Design) (bound : ℕ → Bool) (run : Runs) (tables : Tables) (new : Values Bit) (earlier : Replay) (has : HasDumpCells d bound) (drives : (p : ℕ) → DrivesCells d p) where
  first_run_blank : (ordered : Bool) (p : ℕ) (w : Starting) → IsBlank d w.kept → IsBlank d (run_first d bound run tables new earlier ordered p w).kept
  first_run_blank ordered p w before = go (runs_first d bound run tables new earlier p)
    where
      go : (b : Bool) → IsBlank d (if b then after_first d bound run tables new earlier ordered p (run p (first_store d bound run tables new earlier (settled_kept d p w.kept)) quiet) w else w).kept
      go true = λ c outside. at_false (λ z. z ≡ None) (blocking_target d (body_at d p) c && not (is_dumped d bound c)) _ (w.kept c) (ap (λ v. v && not (is_dumped d bound c)) (not_driven d p (drives p) c outside)) (before c outside)
      go false = before

  first_runs_blank : (ordered : Bool) (ps : List ℕ) (w : Starting) → IsBlank d w.kept → IsBlank d (run_all_first d bound run tables new earlier ordered ps w).kept
  first_runs_blank ordered [] w before = before
  first_runs_blank ordered (p ∷ ps) w before = first_runs_blank ordered ps (run_first d bound run tables new earlier ordered p w) (first_run_blank ordered p w before)

  pub first_blank : IsBlank d (started d bound run tables new earlier).kept
  first_blank =
      first_runs_blank false tables.last (run_all_first d bound run tables new earlier true tables.order (record { kept = first_kept d bound run tables new earlier; made = λ c. None }))
      (first_runs_blank true tables.order (record { kept = first_kept d bound run tables new earlier; made = λ c. None }) (λ c outside. at_false (λ z. z ≡ None) (is_dumped d bound c) (Some (new c)) None (not_dumped d bound has c outside) refl))
