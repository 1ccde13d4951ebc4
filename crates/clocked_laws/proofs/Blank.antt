-- Of what is no cell of the design nothing is known after the runs of the Clocked.
use Rattle.std.proofs.Common.{◌≡◌, ℕ, Bool, true, false, List, [], ◌∷◌, Option, Some, None, inl, inr, refl, ◌∙◌}
use Rattle.std.specs.Prelude.{if◌then◌else◌}
use Rattle.std.proofs.lemmas.Bool.{false_from_ne_true}
use Rattle.event_machine.specs.Cell.{Cell}
use Rattle.replay_steps.specs.replay_model.design_model.Design.{In}
use Rattle.replay_steps.specs.replay_model.body_replay.Contract.{clean, weak}
use Rattle.replay_steps.specs.replay_model.Step.{Closing, Working, clean_store, clocked_run, is_dumped, is_loose, plain_store, run_all_settling, run_settling, settle_start, updated}
use Rattle.replay_steps.specs.Blank.{DrivesCells, IsBlank, IsCellOf}
use Rattle.replay_steps.proofs.Blank.{run_blank}
use Rattle.replay_steps.proofs.replay_model.Bits.{in_left, in_right}
use Rattle.replay_steps.proofs.replay_model.Clocked.{at_false}
use Rattle.clocked_laws.specs.Clocked.{IsAsAtStart}
use Rattle.clocked_laws.specs.Laws.{CleanBlankLaw, ClockedAllBlankLaw, ClockedBlankLaw, ClockedStartBlankLaw, FlushedBlankLaw, StayInside, WeakBlankLaw}
use Rattle.clocked_laws.proofs.Kept.{clocked_kept}

-- ---- one run

pub clean_blank : CleanBlankLaw
clean_blank st None p w inside before = before
clean_blank st (Some s) p w inside before = λ c outside. (inside c outside).kept (clean_store st p s w) (clean st.time) ∙ before c outside

pub weak_blank : WeakBlankLaw
weak_blank st (Some s) n p w inside before = before
weak_blank st None None p w inside before = before
weak_blank st None (Some x) p w inside before = λ c outside. (inside c outside).kept (plain_store w.kept) (weak st.time x) ∙ before c outside

-- ---- all of them

-- what is no cell of the design is as it was
outside_kept : (st : Closing) → StayInside st → (c : Cell) → (IsCellOf st.design c → ⊥) → IsAsAtStart st (clocked_run st) c
outside_kept st inside c outside = clocked_kept st c (λ p i e. inside p i e c outside)

pub clocked_blank : ClockedBlankLaw
clocked_blank st inside before = λ c outside. (outside_kept st inside c outside).kept ∙ before c outside

pub flushed_blank : FlushedBlankLaw
flushed_blank st inside before = λ c outside. (outside_kept st inside c outside).queue (clocked_run st).kept ∙ clocked_blank st inside before c outside

-- ---- up to the Assigns and Combs, and after them

-- a choice of two that are both unknown
none_of : {A : Type 0} (b : Bool) (o : Option A) → o ≡ None → (if b then None else o) ≡ None
none_of true o e = refl
none_of false o e = e

pub start_blank : ClockedStartBlankLaw
start_blank st inside has before = λ c outside.
    at_false (λ z. z ≡ None) (is_dumped st.design st.bound c) (Some (st.new c)) (updated st (clocked_run st) c) (false_from_ne_true _ (λ e. outside (has c e)))
    (none_of (is_loose st c) _ (flushed_blank st inside before c outside))

runs_blank : (st : Closing) (ordered : Bool) (ps : List ℕ) (w : Working) → ((p : ℕ) → In p ps → DrivesCells st.design p) → IsBlank st.design w.kept → IsBlank st.design (run_all_settling st ordered ps w).kept
runs_blank st ordered [] w drives before = before
runs_blank st ordered (p ∷ ps) w drives before = runs_blank st ordered ps (run_settling st ordered p w) (λ q i. drives q (inr i)) (run_blank st ordered p w (drives p (inl refl)) before)

pub all_blank : ClockedAllBlankLaw
all_blank st inside has drives before =
    runs_blank st false st.tables.last (run_all_settling st true st.tables.order (settle_start st (clocked_run st))) (λ p i. drives p (in_right p st.tables.order st.tables.last i))
    (runs_blank st true st.tables.order (settle_start st (clocked_run st)) (λ p i. drives p (in_left p st.tables.order st.tables.last i)) (start_blank st inside has before))
