-- After the first closed step of a stretch the settled values are allowed, in each run that shows the dump; and a contradiction is one.
use Rattle.std.proofs.Common.{◌≡◌, ⊎_elim, ℕ, Bool, true, false, not, ◌&&◌, ◌||◌, List, [], ◌∷◌, refl, sym, arith, Some, None}
use Rattle.std.proofs.lemmas.Bool.{and_parts, both_ways, cases_Bool, ltb-true, or_cases}
use Rattle.event_machine.specs.Cell.{Cell}
use Rattle.event_machine.specs.Habit.{Habit}
use Rattle.design_model.specs.Tree.{Process, assign, clocked, comb}
use Rattle.design_model.specs.declared.point.Point.{Point}
use Rattle.design_model.specs.Design.{Design, IsClocked, IsComb, body_at, is_assign, process_at, signal_at}
use Rattle.design_model.specs.Mentions.{blocking_target}
use Rattle.design_model.specs.Machine.{machine}
use Rattle.design_model.specs.Run.{Run, settled}
use Rattle.design_model.specs.Shows.{BoundDump, IsShowing, IsShown}
use Rattle.design_model.proofs.Sound.{pick_cell}
use Rattle.design_model.proofs.StepLaws.{StepLaws}
use Rattle.design_model.specs.StepLaws.{IsLeft}
use Rattle.body_replay.specs.Contract.{quiet}
use Rattle.body_replay.specs.KnownBits.{Allows}
use Rattle.body_replay.specs.Runs.{Runs, StoreView}
use Rattle.body_replay.specs.Store.{AllowsState, Kept}
use Rattle.replay_model.specs.Tables.{Tables}
use Rattle.replay_model.specs.Step.{Replay, is_comb, is_dumped, settled_kept}
use Rattle.replay_model.specs.Start.{Starting, after_first, all_first, contradicts_first, first_kept, first_store, run_all_first, run_first, runs_first}
use Rattle.replay_model.specs.Laws.{IsReplayOf}
use Rattle.replay_model.proofs.Bits.{differ_apart}
use Rattle.replay_model.proofs.Clocked.{at_false, at_true}
use Rattle.replay_model.proofs.Settling.{is_comb-from, settling_allowed}

pub assign_not_clocked : (x : Process) → is_assign x ≡ true → IsClocked x → ⊥
assign_not_clocked (assign i t v c) e h = h
assign_not_clocked (comb i wakes s) e h = h
assign_not_clocked (clocked i events s) e h = both_ways false refl e

-- what runs at the first step of a stretch is no Clocked
pub first_not_clocked : (x : Process) (acted : Bool) → (is_assign x || (is_comb x && acted)) ≡ true → IsClocked x → ⊥
first_not_clocked (assign i t v c) acted e h = h
first_not_clocked (comb i wakes s) acted e h = h
first_not_clocked (clocked i events s) acted e h = both_ways false refl e

module _ (d : Design) (h : Habit) (dump : BoundDump) (run : Runs) (tables : Tables) (points : List Point) (is : IsReplayOf d h dump run tables points) (laws : StepLaws (machine d) h) (t : ℕ) (a : Replay) (combs : (r : Run) → IsShowing d h dump t r → (p : ℕ) → IsComb (process_at d p) → a.acted p ≡ true → IsLeft d p (settled d r t)) (shown : IsShown dump t) (r : Run) (showing : IsShowing d h dump t r) where
  pub record StartSound (wk : Starting) : Type 0 where
    pub allowed : AllowsState wk.kept (settled d r t)
    pub made : AllowsState wk.made (settled d r t)

  at_dump : (c : Cell) → is_dumped d dump.bound c ≡ true → dump.values t c ≡ settled d r t c
  at_dump c e = sym (pick_cell d (settled d r t) (dump.values t) c (showing.shows.shows t shown (omega arith) c.thing (and_parts (dump.bound c.thing) _ e).0) (ltb-true _ _ (and_parts (dump.bound c.thing) _ e).1))

  abbrev left : (p : ℕ) → is_assign (process_at d p) ≡ true → IsLeft d p (settled d r t)
  left p e = record { entry = settled d r t; wakes = λ c wake. refl; leaves = λ c target. laws.net h r.begins r.start r.steps showing.is_run t p c e target }

  abbrev runs : ℕ → Bool
  runs p = runs_first d dump.bound run tables (dump.values t) a p

  -- what is met of the values when p runs
  abbrev met : ℕ → Kept → StoreView
  met p k = first_store d dump.bound run tables (dump.values t) a (settled_kept d p k)

  made_first : (p : ℕ) → runs p ≡ true → (k : Kept) → AllowsState k (settled d r t) → (c : Cell) → blocking_target d (body_at d p) c ≡ true → Allows ((run p (met p k) quiet).kept c) (settled d r t c)
  made_first p e k ok c target = ⊎_elim of_assign of_comb (or_cases (is_assign (process_at d p)) _ e)
    where
      settles : IsClocked (process_at d p) → ⊥
      settles = first_not_clocked (process_at d p) (a.acted p) e

      of_assign : is_assign (process_at d p) ≡ true → Allows ((run p (met p k) quiet).kept c) (settled d r t c)
      of_assign f = settling_allowed d is.lawful dump run is.runs (settled d r t) p settles k ok (left p f) (λ b g. refl) quiet tt c target

      of_comb : (is_comb (process_at d p) && a.acted p) ≡ true → Allows ((run p (met p k) quiet).kept c) (settled d r t c)
      of_comb f =
          let both = and_parts (is_comb (process_at d p)) _ f in
          settling_allowed d is.lawful dump run is.runs (settled d r t) p settles k ok (combs r showing p (is_comb-from (process_at d p) both.0) both.1) (λ b g. absurd (both_ways _ g both.0)) quiet tt c target

  run_sound : (ordered : Bool) (p : ℕ) (wk : Starting) → StartSound wk → StartSound (run_first d dump.bound run tables (dump.values t) a ordered p wk)
  run_sound ordered p wk inv = ⊎_elim (λ e. at_true StartSound _ _ _ e (ran e)) (λ e. at_false StartSound _ _ _ e inv) (cases_Bool (runs p))
    where
      ran : runs p ≡ true → StartSound (after_first d dump.bound run tables (dump.values t) a ordered p (run p (met p wk.kept) quiet) wk)
      ran e =
          record {
            allowed = λ c. ⊎_elim (λ f. at_true (λ z. Allows z (settled d r t c)) _ _ _ f (⊎_elim (λ o. at_true (λ z. Allows z (settled d r t c)) _ _ _ o (made_first p e wk.kept inv.allowed c (and_parts (blocking_target d (body_at d p) c) _ f).0)) (λ o. at_false (λ z. Allows z (settled d r t c)) _ _ _ o tt) (cases_Bool ordered))) (λ f. at_false (λ z. Allows z (settled d r t c)) _ _ _ f (inv.allowed c)) (cases_Bool (blocking_target d (body_at d p) c && not (is_dumped d dump.bound c)));
            made = λ c. ⊎_elim (λ f. at_true (λ z. Allows z (settled d r t c)) _ _ _ f (made_first p e wk.kept inv.allowed c f)) (λ f. at_false (λ z. Allows z (settled d r t c)) _ _ _ f (inv.made c)) (cases_Bool (blocking_target d (body_at d p) c));
          }

  run_all_sound : (ordered : Bool) (ps : List ℕ) (wk : Starting) → StartSound wk → StartSound (run_all_first d dump.bound run tables (dump.values t) a ordered ps wk)
  run_all_sound ordered [] wk inv = inv
  run_all_sound ordered (p ∷ ps) wk inv = run_all_sound ordered ps (run_first d dump.bound run tables (dump.values t) a ordered p wk) (run_sound ordered p wk inv)

  pub first_sound : StartSound (all_first d dump.bound run tables (dump.values t) a)
  first_sound =
      run_all_sound false tables.last (run_all_first d dump.bound run tables (dump.values t) a true tables.order (record { kept = first_kept d dump.bound run tables (dump.values t) a; made = λ c. None }))
      (run_all_sound true tables.order (record { kept = first_kept d dump.bound run tables (dump.values t) a; made = λ c. None })
      (record {
        allowed = λ c. ⊎_elim (λ e. at_true (λ z. Allows z (settled d r t c)) _ _ _ e (at_dump c e)) (λ e. at_false (λ z. Allows z (settled d r t c)) _ _ _ e tt) (cases_Bool (is_dumped d dump.bound c));
        made = λ c. tt;
      }))

  pub first_contradicts_none : (c : Cell) → contradicts_first d dump.bound run tables (dump.values t) a c ≡ true → ⊥
  first_contradicts_none c e =
      let one = and_parts (is_dumped d dump.bound c) _ e in
      let two = and_parts (not (signal_at d c.thing).input) _ one.1 in
      differ_apart ((all_first d dump.bound run tables (dump.values t) a).made c) (Some (dump.values t c)) (settled d r t c) (settled d r t c) two.1 (first_sound.made c) (at_dump c one.0) refl
