-- What is clear is sure after a closing step, what it reports is reasoned, and so are the verdicts.
use Rattle.std.proofs.Common.{◌≡◌, ◌⊎◌, inl, inr, ⊎_elim, ℕ, suc, true, false, List, [], ◌∷◌, ◌++◌, refl, sym, subst, ◌∙◌, arith}
use Rattle.std.proofs.lemmas.Bool.{cases_Bool, cases_eq}
use Rattle.event_machine.proofs.Least.{early_law}
use Rattle.event_machine.specs.Cell.{Cell}
use Rattle.event_machine.specs.Habit.{Habit}
use Rattle.design_model.specs.four_state.declared.bit.Bit.{Bit}
use Rattle.design_model.specs.declared.point.Point.{Point}
use Rattle.design_model.specs.Design.{Design, In, IsClocked, IsComb, Thing, body_at, process_at}
use Rattle.design_model.specs.Machine.{machine}
use Rattle.design_model.specs.Shows.{BoundDump, IsListed, IsShowing, IsWindow, Shows}
use Rattle.design_model.specs.Clear.{clear}
use Rattle.design_model.specs.Doubt.{IsInDoubt}
use Rattle.design_model.specs.Lawful.{IsLawfulDesign}
use Rattle.design_model.specs.MayMove.{AreLastRounds}
use Rattle.design_model.specs.Open.{IsReached}
use Rattle.design_model.specs.Points.{IsHitAt}
use Rattle.design_model.specs.Run.{IsRun, Run}
use Rattle.body_replay.specs.Contract.{Doubted, sure_in}
use Rattle.body_replay.specs.Runs.{Runs}
use Rattle.replay_model.specs.Tables.{Tables}
use Rattle.replay_model.specs.Marks.{IsDoubtMarked, IsHitMarked, Marking}
use Rattle.replay_model.specs.Step.{Replay, all_run, contradicts, is_touched}
use Rattle.replay_model.specs.Sets.{AreSets, Sets}
use Rattle.replay_model.specs.Stands.{AreKnown, AreReasoned, IsMade}
use Rattle.hidden_times.specs.Hidden.{IsAnyDumpOf, IsSameTime}
use Rattle.hidden_times.proofs.Clear.{changed_before, shrink_law}
use Rattle.hidden_times.proofs.Doubts.{same_doubt_law}
use Rattle.hidden_times.proofs.Quiet.{no_reach_law}
use Rattle.replay_model.proofs.Grows.{sample, sample_agrees}
use Rattle.replay_model.proofs.AskedLaws.{AskedLaws, asked_of}
use Rattle.replay_model.specs.Laws.{AreReasonedVerdicts, IsReplayOf, ReasonedVerdictLaw, RestForcedLaw, RestKnownLaw, RestReasonedLaw, StepKnownLaw, StepReasonedLaw, closed_at, closing_at}
use Rattle.replay_model.proofs.Bits.{in_left}
use Rattle.replay_model.proofs.Calm.{calm_dumped}
use Rattle.replay_model.proofs.ClearClocked.{unwoken_sure, written_sure}
use Rattle.replay_model.proofs.ClearRounds.{clear_sure}
use Rattle.replay_model.proofs.MadeNow.{find, made_touched, starts}
use Rattle.replay_model.proofs.Order.{final_dumped}
use Rattle.replay_model.proofs.MadeRest.{has_acted_now, made_untouched, untouched_acted}
use Rattle.replay_model.proofs.Settling.{is_comb-from}
use Rattle.replay_model.proofs.Showing.{shows_to}
use Rattle.replay_model.proofs.Tells.{doubt_step, kept_told, reached_step}
use Rattle.replay_model.proofs.Trace.{hit_in, in_hit}

pub step_known :
    (h : Habit)
    → (d : Design) (dump : BoundDump) (run : Runs) (tables : Tables) (points : List Point) → IsReplayOf d h dump run tables points → AskedLaws d
    → (t : ℕ) (sets : Sets) (a : Replay) → IsWindow dump (suc t) → AreSets d h dump (suc t) sets
    → AreKnown d h dump tables t a → ((c : Cell) → contradicts (closing_at d dump run tables sets t a) c ≡ false)
    → AreKnown d h dump tables (suc t) (closed_at d dump run tables points sets t a)
step_known h d dump run tables points is asked t sets a window are known agreed =
    record {
      is_clear = λ x bits e. clear_sure d h dump run tables points is asked (suc t) (clear d h dump t) (all_run (closing_at d dump run tables sets t a)).kept (all_run (closing_at d dump run tables sets t a)).acted (final_dumped d h (early_law (machine d)) dump run tables points is t sets are a) made_now acted_now (λ p y is_a m mine free n v. asked.own_unclear h dump (suc t) p y is_a m mine free (v.0, (n, v.1)))
          (λ p z w in_window free target never k. unwoken_sure d h (early_law (machine d)) dump run tables points is asked t window sets are a known.is_clear p z w free target never k)
          (λ p c z w in_window free value. written_sure d h (early_law (machine d)) dump run tables points is asked t window sets are a known.is_clear p c z w free value) e.0 x bits e.1;
      has_acted = acted_now;
      made = made_now;
    }
  where
    acted_now : (p : ℕ) → IsComb (process_at d p) → Rattle.design_model.specs.Clear.HasChanged dump d (body_at d p) (suc t) → (all_run (closing_at d dump run tables sets t a)).acted p ≡ true
    acted_now p c changed = has_acted_now h d dump run tables points is asked t sets a window are known.is_clear agreed known.has_acted p c changed

    made_now : (p : ℕ) → In p tables.order → (IsComb (process_at d p) → (all_run (closing_at d dump run tables sets t a)).acted p ≡ true) → IsMade d dump.bound p (all_run (closing_at d dump run tables sets t a)).kept
    made_now p inside acted = ⊎_elim ran rested (cases_Bool (is_touched (closing_at d dump run tables sets t a) p))
      where
        settles : IsClocked (process_at d p) → ⊥
        settles = ((is.tabled.others p).0 (inl inside)).1

        ran : is_touched (closing_at d dump run tables sets t a) p ≡ true → IsMade d dump.bound p (all_run (closing_at d dump run tables sets t a)).kept
        ran touched =
            let k = find d h (early_law (machine d)) dump run tables points is t sets are a p tables.order (Rattle.replay_model.specs.Step.settle_start (closing_at d dump run tables sets t a) (Rattle.replay_model.specs.Step.clocked_run (closing_at d dump run tables sets t a))) (starts d h (early_law (machine d)) dump run tables points is t sets are a) inside in
            made_touched d h (early_law (machine d)) dump run tables points is t sets are a p settles k.0 k.1 k.2 touched (λ c. acted (is_comb-from (process_at d p) c)) agreed

        rested : is_touched (closing_at d dump run tables sets t a) p ≡ false → IsMade d dump.bound p (all_run (closing_at d dump run tables sets t a)).kept
        rested untouched =
            made_untouched h d dump run tables points is asked t sets a window are known.is_clear agreed p settles untouched (known.made p inside (λ c. sym (untouched_acted h d dump run tables points is asked t sets a window are known.is_clear agreed p untouched) ∙ acted c))

step_reasoned :
    (h : Habit)
    → (d : Design) (dump : BoundDump) (run : Runs) (tables : Tables) (points : List Point) → IsReplayOf d h dump run tables points → AskedLaws d
    → (t : ℕ) (sets : Sets) (a : Replay) → IsWindow dump (suc t) → AreSets d h dump (suc t) sets
    → AreKnown d h dump tables t a → ((c : Cell) → contradicts (closing_at d dump run tables sets t a) c ≡ false) → AreReasoned d h dump t a
    → AreReasoned d h dump (suc t) (closed_at d dump run tables points sets t a)
step_reasoned h d dump run tables points is asked t sets a window are known agreed reasoned =
    record {
      doubts = λ x y now. ⊎_elim (λ old. let k = reasoned.doubts x y old in (k.0, omega (arith, k.1), k.2)) (λ n. (subst (IsWindow dump) (sym n.0) window, omega (arith, n.0), subst (λ u. Rattle.design_model.specs.Doubt.IsInDoubt d h dump x u y.thing) (sym n.0) n.1))
          (doubt_step d h (early_law (machine d)) dump run tables points is asked t window sets are a known.is_clear at_end x y now);
      reached = λ u p x le reached. ⊎_elim (λ e. reached_step d h (early_law (machine d)) dump run tables points is asked t window sets are a known.is_clear at_end (calm_dumped h d dump run tables points is asked t sets a window are known.is_clear agreed) p x (subst (λ z. Rattle.design_model.specs.Open.IsReached d h dump z p x) e reached))
          (λ differ. keep x (reasoned.reached u p x (omega (arith, le, differ)) reached)) (cases_eq u (suc t));
    }
  where
    at_end : (x : Thing) (bits : List Bit) → clear d h dump (suc t) x bits → sure_in d (all_run (closing_at d dump run tables sets t a)).kept x bits
    at_end = (step_known h d dump run tables points is asked t sets a window are known agreed).is_clear

    keep : (x : Point) → IsHitMarked d x a.notes → IsHitMarked d x (closed_at d dump run tables points sets t a).notes
    keep x old =
        let n = hit_in d x a.notes old in
        in_hit d x (closed_at d dump run tables points sets t a).notes n.0 (in_left n.0 (all_run (closing_at d dump run tables sets t a)).notes (Rattle.replay_model.specs.Step.all_point_notes (closing_at d dump run tables sets t a) points) (kept_told d h (early_law (machine d)) dump run tables points is asked t window sets are a known.is_clear at_end n.0 n.1)) n.2 n.3

-- over a time that the dump does not list nothing is reached, and no more is clear
pub rest_reasoned_law : RestReasonedLaw
rest_reasoned_law d h dump run tables points is t a window unlisted reasoned =
    record {
      doubts = λ x y old. let k = reasoned.doubts x y old in (k.0, omega (arith, k.1), k.2);
      reached = λ u p x le reached. ⊎_elim (λ e. absurd (no_reach_law d h is.lawful dump is.fits (suc t) window unlisted p x (subst (λ z. Rattle.design_model.specs.Open.IsReached d h dump z p x) e reached))) (λ differ. reasoned.reached u p x (omega (arith, le, differ)) reached) (cases_eq u (suc t));
    }

pub rest_known_law : RestKnownLaw
rest_known_law d h dump run tables points is own t a window unlisted known =
    record {
      is_clear = λ x bits e. known.is_clear x bits (shrink_law d h is.lawful dump is.fits t window unlisted (sample a.kept) (λ y w k. sample_agrees d a.kept y w (known.is_clear y w k)) x bits e);
      has_acted = λ p c changed. known.has_acted p c (changed_before d dump t (is.fits.stays t unlisted) (body_at d p) changed);
      made = known.made;
    }

pub rest_forced_law : RestForcedLaw
rest_forced_law d h dump t unlisted before u s bits le forced = ⊎_elim (λ e. absurd (unlisted (subst (IsListed dump) e forced.is_listed))) (λ ne. before u s bits (omega (arith, le, ne)) forced) (cases_eq u (suc t))

-- verdicts are reasoned where the doubts that were reported are doubts, what is hit was reported, and so was what is reached
pub verdicts_reasoned : (d : Design) (h : Habit) (dump : BoundDump) (points : List Point) (a : Replay) → IsLawfulDesign d → IsAnyDumpOf d dump → AreLastRounds d dump
    → ((x : Point) (y : Doubted) → IsDoubtMarked d x y a.notes → IsWindow dump y.time × IsInDoubt d h dump x y.time y.thing)
    → ((x : Point) → In x points → (r : Run) → IsRun d h r → Shows d dump r → (u : ℕ) → IsWindow dump u → IsHitAt d dump r x u → IsHitMarked d x a.notes ⊎ ((y : Doubted) × IsSameTime dump y.time u × IsDoubtMarked d x y a.notes))
    → ((u p : ℕ) (x : Point) → IsReached d h dump u p x → IsHitMarked d x a.notes)
    → AreReasonedVerdicts d h dump points a
verdicts_reasoned d h dump points a lawful any rounds doubts marked reached =
    record {
      doubted = λ x y verdict. doubts x y (first_doubt x y verdict);
      decided = λ x y member verdict r is_run shows u window none hit.
          ⊎_elim (λ reasoned. verdict.0 reasoned) (λ s. same_time x s.0.time u s.0.thing r (shows_to d h dump u r is_run shows) s.1 (doubts x s.0 s.2).1 none) (marked x member r is_run shows u window hit);
      reached = reached;
    }
  where
    -- a doubt at a time that is the same leaves one at this time
    same_time : (x : Point) (w u s : ℕ) (r : Run) → IsShowing d h dump u r → IsSameTime dump w u → IsInDoubt d h dump x w s → ((q : ℕ) → IsInDoubt d h dump x u q → ⊥) → ⊥
    same_time x w u s r now (inl e) doubt none = none s (subst (λ z. IsInDoubt d h dump x z s) (sym e) doubt)
    same_time x w u s r now (inr hidden) doubt none = same_doubt_law d h lawful dump any rounds r w u hidden now x s doubt none

    in_middle : (before : List Marking) (n : Marking) (after : List Marking) → In n (before ++ n ∷ after)
    in_middle [] n after = inl refl
    in_middle (m ∷ before) n after = inr (in_middle before n after)

    first_doubt : (x : Point) (y : Doubted) → Rattle.replay_model.specs.Marks.IsVerdict d x a.notes (Rattle.replay_model.specs.Marks.Undetermined y) → IsDoubtMarked d x y a.notes
    first_doubt x y v = Rattle.replay_model.proofs.Trace.in_doubt d x y a.notes v.1.1 (subst (In v.1.1) (sym v.1.3) (in_middle v.1.0 v.1.1 v.1.2)) v.1.5 v.1.6

pub reasoned_verdict_law : ReasonedVerdictLaw
reasoned_verdict_law d h dump points t a lawful any rounds ends shown sound told_all =
    verdicts_reasoned d h dump points a lawful any rounds (λ x y told. let k = told_all.doubts x y told in (k.0, k.2))
    (λ x member r is_run shows u window hit. sound.marked x member r t (inl refl) (shows_to d h dump t r is_run shows) u window (ends u window) hit)
    (λ u p x reached. told_all.reached u p x (ends u reached.0) reached)

pub step_known_law : (h : Habit) → StepKnownLaw h
step_known_law h d dump run tables points is own = step_known h d dump run tables points is (asked_of d is.lawful own)

pub step_reasoned_law : (h : Habit) → StepReasonedLaw h
step_reasoned_law h d dump run tables points is own = step_reasoned h d dump run tables points is (asked_of d is.lawful own)
