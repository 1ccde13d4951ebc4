-- The marks that a closing step makes on points of bodies are sound and complete.
use Rattle.std.proofs.Common.{◌≡◌, ◌⊎◌, inl, inr, ⊎_elim, ℕ, suc, Bool, true, false, List, ◌∷◌, ◌++◌, refl, sym, subst, Some, None}
use Rattle.event_machine.specs.Cell.{Cell, Values}
use Rattle.event_machine.specs.Machine.{IsWakeCell}
use Rattle.event_machine.specs.Habit.{Habit}
use Rattle.event_machine.specs.Laws.{EarlyLaw}
use Rattle.design_model.specs.four_state.declared.bit.Bit.{Bit}
use Rattle.design_model.specs.declared.point.Point.{Point}
use Rattle.design_model.specs.Design.{Design, In, IsClocked, IsComb, body_at, cell, process_at}
use Rattle.design_model.specs.Execution.{execution}
use Rattle.design_model.specs.Machine.{is_level, machine}
use Rattle.design_model.specs.Run.{Run, StepOf, settled}
use Rattle.design_model.specs.Shows.{BoundDump, IsShowing, IsWindow}
use Rattle.design_model.specs.Points.{HitIn, IsBlock}
use Rattle.design_model.proofs.StepLaws.{StepLaws}
use Rattle.replay_model.proofs.AskedLaws.{AskedLaws}
use Rattle.body_replay.specs.Contract.{Certainty, HasHitNote, Note, clean, perhaps, quiet, spot_at}
use Rattle.body_replay.specs.KnownBits.{Allows}
use Rattle.body_replay.specs.Replay.{Spot, Visited}
use Rattle.body_replay.specs.Runs.{Runs}
use Rattle.body_replay.specs.Store.{AllowsState, Kept}
use Rattle.replay_model.specs.Sets.{AreSets, Sets}
use Rattle.design_model.specs.BodyLaws.{all_cells}
use Rattle.design_model.specs.StepLaws.{CleanEvaluation, IsLeft, StepFacts}
use Rattle.replay_model.specs.Tables.{Tables}
use Rattle.replay_model.specs.Marks.{IsKeyOf, Marking, markings_by, of_process}
use Rattle.replay_model.specs.Step.{Closing, Replay, Working, all_run, certainty, clean_order, clocked_run, entry_kept, has_changed, is_touched, opened, plain_store, run_all_clean, run_all_settling, run_settling, settle_start, settled_kept, surely_differ, wake_cells}
use Rattle.replay_model.specs.Laws.{IsReplayOf, closing_at}
use Rattle.replay_model.proofs.AllowedBy.{IsUnknown}
use Rattle.replay_model.proofs.Allows.{Sound, here, nets_at, settle_starts}
use Rattle.replay_model.proofs.Bits.{any_in, differ_apart}
use Rattle.replay_model.proofs.Clocked.{distinct_left}
use Rattle.replay_model.proofs.Clocked as blocks
use Rattle.replay_model.proofs.Hits.{Way, clean_entry, level_settles, settling_entry, still, sure, told_hit, unsure, visited_hit, way_of}
use Rattle.replay_model.proofs.Settling.{in_thing, not_assigned-in, run_sound}
use Rattle.replay_model.proofs.MetValues as met_values
use Rattle.replay_model.proofs.Trace.{CleanRun, SettleRun, Traced, WeakRun, order_traced, settle_all, settle_keeps, weak_all}

module _ (d : Design) (h : Habit) (dump : BoundDump) (run : Runs) (tables : Tables) (points : List Point) (is : IsReplayOf d h dump run tables points) (laws : StepLaws (machine d) h) (early_law : EarlyLaw (machine d)) (asked : AskedLaws d) (t : ℕ) (window : IsWindow dump (suc t)) (sets : Sets) (are : AreSets d h dump (suc t) sets) (a : Replay) (r : Run) (showing : IsShowing d h dump (suc t) r) (starts : AllowsState a.kept (settled d r t)) (acted : (p : ℕ) → IsComb (process_at d p) → a.acted p ≡ true → IsLeft d p (settled d r t)) (unknown : IsUnknown d dump a) where
  abbrev st : Closing
  st = closing_at d dump run tables sets t a

  abbrev facts : StepFacts d h dump t (settled d r t) (settled d r (suc t))
  facts = here d h dump run tables points is laws early_law t window sets are a r showing starts

  -- what a clean block reads allows the values on which it is evaluated
  pub entry_allowed : (p s : ℕ) → sets.trigger p ≡ Some s → (o : CleanEvaluation d h dump t (settled d r t) (settled d r (suc t)) p (cell s 0)) → AllowsState (entry_kept st p s) o.entry
  entry_allowed p s e o =
      blocks.reads_entry d is.lawful h early_law dump is.fits run is.runs tables t sets are a (settled d r t) (settled d r (suc t)) facts starts (λ q. ⊥) (opened st) (record { mid = settled d r t; allowed = starts; start_or = λ c. inl refl; unqueued = λ c none k. refl; final = λ q x. absurd x }) p (λ q x. absurd x) (λ x. x) s e o

  -- an execution on values that agree with the settled ones on the wake cells, and one that the store allows
  pub settled_allowed : (p : ℕ) → (IsClocked (process_at d p) → ⊥) → (k : Kept) → AllowsState k (settled d r (suc t)) → (v : Values Bit) → ((b : Cell) → IsWakeCell (machine d) p b → v b ≡ settled d r (suc t) b) → (x : Values Bit) × AllowsState (settled_kept d p k) x × ((execution d (body_at d p) x).visits ≡ (execution d (body_at d p) v).visits)
  settled_allowed p settles k ok v wakes = met_values.settled_allowed d asked (settled d r (suc t)) p settles k ok v wakes

  abbrev pub Good : List ℕ → Working → Type 0
  Good ps wk = Sound d h dump run tables points is laws early_law t window sets are a r showing starts acted unknown wk × ((q : ℕ) → In q ps → IsClocked (process_at d q) → ⊥)

  -- what the stages report
  pub clean_told : Traced (CleanRun d is.lawful h early_law dump run is.runs tables t sets are a) (λ q. In q tables.clocked × ((s : ℕ) × (sets.trigger q ≡ Some s))) a.notes (run_all_clean st (clean_order st) (opened st)).notes
  clean_told =
      order_traced d is.lawful h early_law dump run is.runs tables t sets are a (distinct_left tables.clocked (tables.order ++ tables.last) is.tabled.once)

  pub weak_told : Traced (WeakRun d is.lawful h early_law dump run is.runs tables t sets are a) (λ q. In q tables.clocked × ((sets.trigger q ≡ None) × ((s : ℕ) × (sets.wakes q ≡ Some s)))) (run_all_clean st (clean_order st) (opened st)).notes (clocked_run st).notes
  weak_told = weak_all d is.lawful h early_law dump run is.runs tables t sets are a tables.clocked (run_all_clean st (clean_order st) (opened st))

  next : (ordered : Bool) (p : ℕ) (rest : List ℕ) (wk : Working) → Good (p ∷ rest) wk → Good rest (run_settling st ordered p wk)
  next ordered p rest wk good =
      (run_sound d is.lawful h dump is.fits run is.runs tables is.tabled t sets a (settled d r t) (settled d r (suc t)) facts starts (nets_at d h dump run tables points is laws early_law t window sets are a r showing starts (suc t)) ordered p (good.1 p (inl refl)) wk good.0, λ q y. good.1 q (inr y))

  abbrev settles_order : (p : ℕ) → In p tables.order → IsClocked (process_at d p) → ⊥
  settles_order p x = ((is.tabled.others p).0 (inl x)).1

  abbrev settles_last : (p : ℕ) → In p tables.last → IsClocked (process_at d p) → ⊥
  settles_last p x = ((is.tabled.others p).0 (inr x)).1

  pub order_told : Traced (SettleRun d is.lawful h early_law dump run is.runs tables t sets are a Good) (λ q. In q tables.order × (is_touched st q ≡ true)) (clocked_run st).notes (run_all_settling st true tables.order (settle_start st (clocked_run st))).notes
  order_told =
      settle_all d is.lawful h early_law dump run is.runs tables t sets are a Good true (next true) tables.order (settle_start st (clocked_run st)) (settle_starts d h dump run tables points is laws early_law t window sets are a r showing starts acted unknown, settles_order)

  pub last_told : Traced (SettleRun d is.lawful h early_law dump run is.runs tables t sets are a Good) (λ q. In q tables.last × (is_touched st q ≡ true)) (run_all_settling st true tables.order (settle_start st (clocked_run st))).notes (all_run st).notes
  last_told =
      settle_all d is.lawful h early_law dump run is.runs tables t sets are a Good false (next false) tables.last (run_all_settling st true tables.order (settle_start st (clocked_run st)))
      ((settle_keeps d is.lawful h early_law dump run is.runs tables t sets are a Good true (next true) tables.order (settle_start st (clocked_run st)) (settle_starts d h dump run tables points is laws early_law t window sets are a r showing starts acted unknown, settles_order)).0, settles_last)

  -- what was reported before stays reported
  pub old_kept : (n : Marking) → In n a.notes → In n (all_run st).notes
  old_kept n y = last_told.keeps n (order_told.keeps n (weak_told.keeps n (clean_told.keeps n y)))

  -- a hit of the step
  abbrev HitNow : Point → Type 0
  HitNow x = (k : StepOf r) × (k.step.time ≡ suc t) × HitIn d r k x

  key_spot : (x : Point) (n : Marking) (p : ℕ) (s : Spot) → IsKeyOf d x n.key → n.key ≡ of_process p s → (spot_at x ≡ Some s) × IsBlock d x p
  key_spot x n p s key e = subst (IsKeyOf d x) e key

  clean_hit : (x : Point) (n : Marking) (p : ℕ) (ns : List Note) → CleanRun d is.lawful h early_law dump run is.runs tables t sets are a p ns → In n (markings_by p ns) → IsKeyOf d x n.key → n.doubt ≡ None → HitNow x
  clean_hit x n p ns k there key e =
      let s = told_hit p ns n there e in
      let b = key_spot x n p s.0 key s.1 in
      let o = clean_entry d h dump run tables points is laws t window r showing p (cell k.trigger 0) (are.trigger p k.trigger k.is_trigger) in
      (o.0, o.1, visited_hit d r o.0 p o.2.entry o.3 x s.0 b.0 b.1 (is.runs.hits_sound p k.store (suc t) s.0 (subst (HasHitNote s.0) k.notes s.2) o.2.entry (λ c. subst (λ z. Allows z (o.2.entry c)) (sym (k.reads c)) (entry_allowed p k.trigger k.is_trigger o.2 c))))

  weak_hit : (x : Point) (n : Marking) (p : ℕ) (ns : List Note) → WeakRun d is.lawful h early_law dump run is.runs tables t sets are a p ns → In n (markings_by p ns) → n.doubt ≡ None → ⊥
  weak_hit x n p ns k there e = let s = told_hit p ns n there e in is.runs.weak_no_hit p k.store (suc t) k.thing s.0 (subst (HasHitNote s.0) k.notes s.2)

  touched_settles : (p : ℕ) → is_touched st p ≡ true → IsClocked (process_at d p) → ⊥
  touched_settles p e = let x = any_in sets.moves (tables.watched p) e in level_settles (process_at d p) x.0 ((is.tabled.watched p x.0).0 x.1)

  settle_hit : (x : Point) (n : Marking) (p : ℕ) (ns : List Note) → SettleRun d is.lawful h early_law dump run is.runs tables t sets are a Good p ns → In n (markings_by p ns) → IsKeyOf d x n.key → n.doubt ≡ None → HitNow x
  settle_hit x n p ns k there key e = go (way_of st k.wk.kept p)
    where
      s : (y : Spot) × (n.key ≡ of_process p y) × HasHitNote y ns
      s = told_hit p ns n there e

      abbrev_notes : (how : Certainty) → certainty st k.wk.kept p ≡ how → HasHitNote (told_hit p ns n there e).0 (run p (plain_store (settled_kept d p k.wk.kept)) how).notes
      abbrev_notes how f = subst (λ z. HasHitNote (told_hit p ns n there e).0 (run p (plain_store (settled_kept d p k.wk.kept)) z).notes) f (subst (HasHitNote (told_hit p ns n there e).0) k.notes (told_hit p ns n there e).2)

      settles : IsClocked (process_at d p) → ⊥
      settles = touched_settles p k.touched

      go : Way st k.wk.kept p → HitNow x
      go (sure changed f) =
          let y = any_in (has_changed st k.wk.kept p) (tables.watched p) changed in
          let c = any_in (λ c. surely_differ (a.kept c) (k.wk.kept c)) (wake_cells d p y.0) y.2 in
          let m = not_assigned-in d p (all_cells d y.0) c.0 c.1 in
          let wake : IsWakeCell (machine d) p c.0 = (subst (λ z. is_level (process_at d p) z ≡ true) (sym (in_thing d y.0 c.0 m.0)) ((is.tabled.watched p y.0).0 y.1), m.1) in
          let o = settling_entry d h dump run tables points is laws t window r showing p settles c.0 wake (differ_apart (a.kept c.0) (k.wk.kept c.0) (settled d r t c.0) (settled d r (suc t) c.0) c.2 (starts c.0) (k.holds.0.allowed c.0)) in
          let v = settled_allowed p settles k.wk.kept k.holds.0.allowed o.2 o.4 in
          let b = key_spot x n p (told_hit p ns n there e).0 key (told_hit p ns n there e).1 in
          (o.0, o.1, visited_hit d r o.0 p o.2 o.3 x (told_hit p ns n there e).0 b.0 b.1 (subst (Visited (told_hit p ns n there e).0) v.2 (is.runs.hits_sound p (plain_store (settled_kept d p k.wk.kept)) (suc t) (told_hit p ns n there e).0 (abbrev_notes (clean (suc t)) f) v.0 v.1)))
      go (unsure y q g f) = absurd (is.runs.perhaps_no_hit p (plain_store (settled_kept d p k.wk.kept)) (suc t) y (told_hit p ns n there e).0 (abbrev_notes (perhaps (suc t) y) f))
      go (still q g f) = absurd (subst (HasHitNote (told_hit p ns n there e).0) (is.runs.quiet_notes p (plain_store (settled_kept d p k.wk.kept))) (abbrev_notes quiet f))

  -- a hit that the step reports is one in each run that shows the dump
  pub body_hit : (x : Point) (n : Marking) → In n (all_run st).notes → IsKeyOf d x n.key → n.doubt ≡ None → In n a.notes ⊎ HitNow x
  body_hit x n there key e = ⊎_elim in_order (λ k. inr (settle_hit x n k.0 k.1 k.2 k.3 key e)) (last_told.from n there)
    where
      in_clean : In n (run_all_clean st (clean_order st) (opened st)).notes → In n a.notes ⊎ HitNow x
      in_clean y = ⊎_elim (λ z. inl z) (λ k. inr (clean_hit x n k.0 k.1 k.2 k.3 key e)) (clean_told.from n y)

      in_clocked : In n (clocked_run st).notes → In n a.notes ⊎ HitNow x
      in_clocked y = ⊎_elim in_clean (λ k. absurd (weak_hit x n k.0 k.1 k.2 k.3 e)) (weak_told.from n y)

      in_order : In n (run_all_settling st true tables.order (settle_start st (clocked_run st))).notes → In n a.notes ⊎ HitNow x
      in_order y = ⊎_elim in_clocked (λ k. inr (settle_hit x n k.0 k.1 k.2 k.3 key e)) (order_told.from n y)
