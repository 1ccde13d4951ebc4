-- A point that is hit at a hidden time after the one of a closing step, in a run that shows the dump, is reported in that step to be hit or in doubt.
use Rattle.std.proofs.Common.{◌≡◌, ◌⊎◌, inl, inr, ⊎_elim, ℕ, suc, ◌<◌, ◌≤◌, Bool, true, false, not, ◌&&◌, ◌||◌, List, [], ◌∷◌, length, map, refl, sym, ap, subst, ◌∙◌, arith, Option, Some, None, if◌then◌else◌}
use Rattle.std.specs.List.{list_all}
use Rattle.std.proofs.lemmas.Bool.{and_from, both_ways, cases_lt, false_from_ne_true, not_from_false, true_from_ne_false}
use Rattle.event_machine.specs.Cell.{Cell, Values}
use Rattle.event_machine.specs.Machine.{IsWakeCell}
use Rattle.event_machine.specs.Habit.{Habit}
use Rattle.event_machine.specs.Laws.{EarlyLaw}
use Rattle.design_model.specs.four_state.declared.bit.Bit.{Bit}
use Rattle.design_model.specs.four_state.declared.bit.Bit.TheVariants.{One, Zero}
use Rattle.design_model.specs.declared.point.Point.{Point}
use Rattle.design_model.specs.declared.point.Point.TheVariants.{Line as line_point, Logic as logic_point, Toggle as toggle_point, State as state_point, Arc as arc_point, Word as word_point}
use Rattle.design_model.specs.Design.{Design, In, IsClocked, a_word, body_at, cell, process_at, signal_bits, signal_cells}
use Rattle.design_model.specs.Mentions.{body_mentions}
use Rattle.design_model.specs.Execution.{at_line, at_node, execution, execution_start, reads, writes_word}
use Rattle.design_model.specs.Machine.{is_level, machine}
use Rattle.design_model.specs.MayMove.{CanWakeSome}
use Rattle.design_model.specs.Run.{Run, StepOf, end_of, settled, start_of}
use Rattle.design_model.specs.Scored.{IsScored}
use Rattle.design_model.specs.Shows.{BoundDump, IsListed, IsShowing, IsWindow}
use Rattle.design_model.specs.Points.{HitIn, IsBlock, toggle_cell}
use Rattle.design_model.proofs.Mentions.{execute_reads}
use Rattle.design_model.proofs.StepFacts.{facts_law}
use Rattle.design_model.proofs.StepLaws.{StepLaws}
use Rattle.design_model.proofs.Toggles.{end_values, start_values}
use Rattle.design_model.specs.StepLaws.{StepFacts}
use Rattle.design_model.specs.BodyLaws.{all_cells}
use Rattle.hidden_times.specs.Hidden.{IsHiddenOn, is_listed}
use Rattle.hidden_times.specs.Laws.{AreSameSets}
use Rattle.hidden_times.proofs.Clear.{hidden_to, window_of}
use Rattle.hidden_times.proofs.Jump.{shows_before}
use Rattle.hidden_times.proofs.Listed.{listed_law}
use Rattle.hidden_times.proofs.Quiet.{no_clean_law}
use Rattle.hidden_times.proofs.Sets.{same_sets}
use Rattle.body_replay.specs.Contract.{Certainty, Doubted, HasHitNote, Note, clean, perhaps, spot_at}
use Rattle.body_replay.specs.KnownBits.{Allows}
use Rattle.body_replay.specs.Replay.{Spot, Visited, line, node, word_read, word_write}
use Rattle.body_replay.specs.Runs.{HasDoubtNote, Runs}
use Rattle.body_replay.specs.Store.{AllowsState}
use Rattle.body_replay.specs.known_state.Join.{join_bit}
use Rattle.replay_model.specs.Sets.{AreSets, Sets}
use Rattle.replay_model.specs.Tables.{Tables}
use Rattle.replay_model.specs.Marks.{IsKeyOf, Marking, markings_by, of_process}
use Rattle.replay_model.specs.Step.{Closing, Replay, Working, all_run, are_surely, before_of, certainty, clean_order, clocked_run, is_touched, known_bits, mark_had, mark_reached, mark_toggle, may_be, opened, plain_store, point_notes, run_all_clean, run_all_settling, run_settling, settle_start, settled_kept, surely_differ, surely_same, tell, wake_cells}
use Rattle.replay_model.specs.Stands.{IsSound}
use Rattle.replay_model.specs.Laws.{IsReplayOf, closing_at}
use Rattle.replay_model.proofs.AllowedBy.{past, some_target}
use Rattle.replay_model.proofs.AskedLaws.{AskedLaws}
use Rattle.replay_model.proofs.Bits.{all_in, in_any, join_right}
use Rattle.replay_model.proofs.BodyComplete.{in_reads}
use Rattle.replay_model.proofs.Existing.{changed_exists}
use Rattle.replay_model.proofs.Hits.{OnWakes, Way, all_still, doubt_told, every_settling, hit_told, in_not_assigned, in_visited, still, sure, unsure, unwoken_none, way_of}
use Rattle.replay_model.proofs.Jumps as jumps
use Rattle.replay_model.proofs.MetValues.{settled_allowed}
use Rattle.replay_model.proofs.Settling.{in_signal, run_sound}
use Rattle.replay_model.proofs.SignalPoints.{PointNow, may_bit, may_bits, surely_bits, tells_of, toggle_thing}
use Rattle.replay_model.proofs.Targets.{clocked_or}
use Rattle.replay_model.proofs.Trace.{SettleRun, Traced, WeakRun, settle_all, settle_keeps, weak_all}

-- two values that a bit allows which is surely the same as another are one
known_one : (p q : Option Bit) (x y : Bit) → surely_same p q ≡ true → Allows q x → Allows q y → x ≡ y
known_one (Some p) (Some q) x y e h k = sym h ∙ k
known_one (Some p) None x y e h k = absurd (both_ways false refl e)
known_one None q x y e h k = absurd (both_ways false refl e)

module _ (d : Design) (h : Habit) (dump : BoundDump) (run : Runs) (tables : Tables) (points : List Point) (is : IsReplayOf d h dump run tables points) (laws : StepLaws (machine d) h) (early_law : EarlyLaw (machine d)) (asked : AskedLaws d) (t : ℕ) (window : IsWindow dump (suc t)) (sets : Sets) (are : AreSets d h dump (suc t) sets) (a : Replay) (sound : IsSound d h dump points t a) (r : Run) (e : ℕ) (later : suc t ≤ e) (hidden : IsHiddenOn dump (suc t) (suc e)) (showing : IsShowing d h dump (suc e) r) where
  abbrev st : Closing
  st = closing_at d dump run tables sets t a

  -- the moment before, a hidden time too
  window_before : IsWindow dump e
  window_before = window_of dump is.fits.rising (suc t) e later hidden

  hidden_before : IsHiddenOn dump (suc t) e
  hidden_before = hidden_to dump (suc t) e later hidden window_before

  showing_before : IsShowing d h dump e r
  showing_before = shows_before d h dump e (suc e) r (omega arith) showing

  -- what holds of the step at suc e
  facts : StepFacts d h dump e (settled d r e) (settled d r (suc e))
  facts = facts_law d is.lawful h laws dump r e is.fits.signals showing hidden.last

  same : AreSameSets d dump (suc t) (suc e)
  same = same_sets d dump is.fits is.rounds (suc t) (suc e) hidden

  unlisted : IsListed dump (suc t) → ⊥
  unlisted = hidden.none (suc t) (omega arith) hidden.later

  -- what does not move at suc t does not move at suc e
  moves_of : (c : Cell) → (settled d r e c ≡ settled d r (suc e) c → ⊥) → sets.moves c.thing ≡ true
  moves_of c differ = true_from_ne_false _ (λ f. differ (sym (facts.unmoved c (λ m. both_ways _ f ((are.moves c.thing).1 ((same.may_move c.thing).0 m))))))

  -- what a stage has left allows the settled values at both ends of the step
  abbrev SoundNow : Working → Type 0
  SoundNow wk = jumps.Sound d h dump run tables points is laws early_law t window sets are a sound r (suc e) (inr hidden) showing wk

  abbrev SoundBefore : Working → Type 0
  SoundBefore wk = jumps.Sound d h dump run tables points is laws early_law t window sets are a sound r e (inr hidden_before) showing_before wk

  abbrev Good : List ℕ → Working → Type 0
  Good ps wk = SoundNow wk × SoundBefore wk × ((q : ℕ) → In q ps → IsClocked (process_at d q) → ⊥)

  next : (ordered : Bool) (p : ℕ) (rest : List ℕ) (wk : Working) → Good (p ∷ rest) wk → Good rest (run_settling st ordered p wk)
  next ordered p rest wk good = (
    run_sound d is.lawful h dump is.fits run is.runs tables is.tabled t sets a (settled d r t) (settled d r (suc e)) (jumps.over d h dump run tables points is laws early_law t window sets are a sound r (suc e) (inr hidden) showing) (jumps.starts d h dump run tables points is laws early_law t window sets are a sound r (suc e) (inr hidden) showing) (jumps.nets_at d h dump run tables points is laws early_law t window sets are a sound r (suc e) (inr hidden) showing (suc e)) ordered p (good.2 p (inl refl)) wk good.0,
    run_sound d is.lawful h dump is.fits run is.runs tables is.tabled t sets a (settled d r t) (settled d r e) (jumps.over d h dump run tables points is laws early_law t window sets are a sound r e (inr hidden_before) showing_before) (jumps.starts d h dump run tables points is laws early_law t window sets are a sound r e (inr hidden_before) showing_before) (jumps.nets_at d h dump run tables points is laws early_law t window sets are a sound r e (inr hidden_before) showing_before e) ordered p (good.2 p (inl refl)) wk good.1,
    λ q y. good.2 q (inr y),
  )

  good_starts : Good tables.order (settle_start st (clocked_run st))
  good_starts = (
    jumps.settle_starts d h dump run tables points is laws early_law t window sets are a sound r (suc e) (inr hidden) showing,
    jumps.settle_starts d h dump run tables points is laws early_law t window sets are a sound r e (inr hidden_before) showing_before,
    λ q x. ((is.tabled.others q).0 (inl x)).1,
  )

  weak_told : Traced (WeakRun d is.lawful h early_law dump run is.runs tables t sets are a) (λ q. In q tables.clocked × ((sets.trigger q ≡ None) × ((s : ℕ) × (sets.wakes q ≡ Some s)))) (run_all_clean st (clean_order st) (opened st)).notes (clocked_run st).notes
  weak_told = weak_all d is.lawful h early_law dump run is.runs tables t sets are a tables.clocked (run_all_clean st (clean_order st) (opened st))

  order_told : Traced (SettleRun d is.lawful h early_law dump run is.runs tables t sets are a Good) (λ q. In q tables.order × (is_touched st q ≡ true)) (clocked_run st).notes (run_all_settling st true tables.order (settle_start st (clocked_run st))).notes
  order_told = settle_all d is.lawful h early_law dump run is.runs tables t sets are a Good true (next true) tables.order (settle_start st (clocked_run st)) good_starts

  ordered_good : Good [] (run_all_settling st true tables.order (settle_start st (clocked_run st)))
  ordered_good = settle_keeps d is.lawful h early_law dump run is.runs tables t sets are a Good true (next true) tables.order (settle_start st (clocked_run st)) good_starts

  last_told : Traced (SettleRun d is.lawful h early_law dump run is.runs tables t sets are a Good) (λ q. In q tables.last × (is_touched st q ≡ true)) (run_all_settling st true tables.order (settle_start st (clocked_run st))).notes (all_run st).notes
  last_told =
      settle_all d is.lawful h early_law dump run is.runs tables t sets are a Good false (next false) tables.last (run_all_settling st true tables.order (settle_start st (clocked_run st))) (ordered_good.0, ordered_good.1, λ q x. ((is.tabled.others q).0 (inr x)).1)

  later_told : (n : Marking) → In n (clocked_run st).notes → In n (all_run st).notes
  later_told n y = last_told.keeps n (order_told.keeps n y)

  -- a process that is clocked, or sensitive to something, is one of the design
  clocked_below : (p : ℕ) → IsClocked (process_at d p) → p < length d.processes
  clocked_below p is_clocked = ⊎_elim (λ lt. lt) (λ le. absurd (subst IsClocked (past d.processes p le) is_clocked)) (cases_lt p (length d.processes))

  level_below : (p y : ℕ) → is_level (process_at d p) y ≡ true → p < length d.processes
  level_below p y level = ⊎_elim (λ lt. lt) (λ le. absurd (both_ways false refl (subst (λ z. is_level z y ≡ true) (past d.processes p le) level))) (cases_lt p (length d.processes))

  -- something is reported of a spot of p at the time of the closing step
  abbrev TellsNow : ℕ → Spot → Type 0
  TellsNow p s = (n : Marking) × In n (all_run st).notes × (n.key ≡ of_process p s) × ((n.doubt ≡ None) ⊎ ((y : ℕ) × (n.doubt ≡ Some (record { time = suc t; thing = y }))))

  from_notes : (p : ℕ) (s : Spot) (ns : List Note) → ((n : Marking) → In n (markings_by p ns) → In n (all_run st).notes) → HasHitNote s ns ⊎ ((y : Doubted) × (y.time ≡ suc t) × HasDoubtNote s y ns) → TellsNow p s
  from_notes p s ns there (inl f) = let n = hit_told p ns s f in (n.0, there n.0 n.1, n.2, inl n.3)
  from_notes p s ns there (inr y) =
      let n = doubt_told p ns s y.0 y.2 in
      (n.0, there n.0 n.1, n.2, inr (y.0.thing, n.3 ∙ ap Some (λ i. record { time = y.1 i; thing = y.0.thing })))

  module _ (k : StepOf r) (at : k.step.time ≡ suc e) (p : ℕ) (v : Values Bit) (scored : IsScored d r k p v) (s : Spot) (seen : Visited s (execution d (body_at d p) v).visits) where
    by_weak : (thing : ℕ) → sets.trigger p ≡ None → sets.wakes p ≡ Some thing → IsClocked (process_at d p) → TellsNow p s
    by_weak thing f g is_clocked = tells (weak_told.has p ((is.tabled.clocked p).1 (clocked_below p is_clocked, is_clocked), (f, (thing, g))))
      where
        tells : (ns : List Note) × WeakRun d is.lawful h early_law dump run is.runs tables t sets are a p ns × ((n : Marking) → In n (markings_by p ns) → In n (clocked_run st).notes) → TellsNow p s
        tells c =
            from_notes p s c.0 (λ n y. later_told n (c.2 n y))
            (subst (λ ns. HasHitNote s ns ⊎ ((y : Doubted) × (y.time ≡ suc t) × HasDoubtNote s y ns)) (sym c.1.notes) (inr (record { time = suc t; thing = c.1.thing }, refl, is.runs.weak_marked p c.1.store (suc t) c.1.thing v s seen)))

    by_settling : (IsClocked (process_at d p) → ⊥) → TellsNow p s
    by_settling settles = ⊎_elim by_order by_last ((is.tabled.others p).1 (level_below p entry.1.0.thing entry.1.1.0, settles))
      where
        entry : OnWakes d h dump run tables points is laws e hidden.last r showing p v × ((c : Cell) × IsWakeCell (machine d) p c × (settled d r e c ≡ settled d r (suc e) c → ⊥))
        entry = every_settling d h dump run tables points is laws e hidden.last r showing k at p settles v scored

        tells : (ns : List Note) × SettleRun d is.lawful h early_law dump run is.runs tables t sets are a Good p ns × ((n : Marking) → In n (markings_by p ns) → In n (all_run st).notes) → (OnWakes d h dump run tables points is laws e hidden.last r showing p v × ((c : Cell) × IsWakeCell (machine d) p c × (settled d r e c ≡ settled d r (suc e) c → ⊥))) → TellsNow p s
        tells c on = from_notes p s c.0 c.2 (subst (λ ns. HasHitNote s ns ⊎ ((y : Doubted) × (y.time ≡ suc t) × HasDoubtNote s y ns)) (sym c.1.notes) (go (way_of st c.1.wk.kept p)))
          where
            with_how : (how : Certainty) → certainty st c.1.wk.kept p ≡ how → HasHitNote s (run p (plain_store (settled_kept d p c.1.wk.kept)) how).notes ⊎ ((y : Doubted) × (y.time ≡ suc t) × HasDoubtNote s y (run p (plain_store (settled_kept d p c.1.wk.kept)) how).notes) → HasHitNote s (run p (plain_store (settled_kept d p c.1.wk.kept)) (certainty st c.1.wk.kept p)).notes ⊎ ((y : Doubted) × (y.time ≡ suc t) × HasDoubtNote s y (run p (plain_store (settled_kept d p c.1.wk.kept)) (certainty st c.1.wk.kept p)).notes)
            with_how how f x = subst (λ z. HasHitNote s (run p (plain_store (settled_kept d p c.1.wk.kept)) z).notes ⊎ ((y : Doubted) × (y.time ≡ suc t) × HasDoubtNote s y (run p (plain_store (settled_kept d p c.1.wk.kept)) z).notes)) (sym f) x

            allowed : (x : Values Bit) × AllowsState (settled_kept d p c.1.wk.kept) x × ((execution d (body_at d p) x).visits ≡ (execution d (body_at d p) v).visits)
            allowed = settled_allowed d asked (settled d r (suc e)) p settles c.1.wk.kept c.1.holds.0.allowed v on.0

            moves : (b : Bool) → sets.moves on.1.0.thing ≡ b → (not b || list_all (λ c'. surely_same (a.kept c') (c.1.wk.kept c')) (wake_cells d p on.1.0.thing)) ≡ true → ⊥
            moves false f g = both_ways _ f (moves_of on.1.0 on.1.2)
            moves true f g =
                on.1.2
                (known_one (a.kept on.1.0) (c.1.wk.kept on.1.0) (settled d r e on.1.0) (settled d r (suc e) on.1.0)
                (all_in (λ c'. surely_same (a.kept c') (c.1.wk.kept c')) (wake_cells d p on.1.0.thing) g on.1.0 (in_not_assigned d p (all_cells d on.1.0.thing) on.1.0 (changed_exists d asked.written_cells h dump e (settled d r e) (settled d r (suc e)) facts on.1.0 (some_target d h dump run tables points is on.1.0) on.1.2) on.1.1.1)) (c.1.holds.1.allowed on.1.0) (c.1.holds.0.allowed on.1.0))

            go : Way st c.1.wk.kept p → HasHitNote s (run p (plain_store (settled_kept d p c.1.wk.kept)) (certainty st c.1.wk.kept p)).notes ⊎ ((y : Doubted) × (y.time ≡ suc t) × HasDoubtNote s y (run p (plain_store (settled_kept d p c.1.wk.kept)) (certainty st c.1.wk.kept p)).notes)
            go (sure changed f) =
                with_how (clean (suc t)) f
                (⊎_elim (λ y. inl y) (λ y. inr (y.0, (is.runs.blames p (plain_store (settled_kept d p c.1.wk.kept)) (suc t) s y.0 y.1).0, y.1)) (is.runs.visits_marked p (plain_store (settled_kept d p c.1.wk.kept)) (suc t) allowed.0 allowed.1 s (subst (Visited s) (sym allowed.2) seen)))
            go (unsure y q g f) =
                with_how (perhaps (suc t) y) f (inr (record { time = suc t; thing = y }, refl, is.runs.perhaps_marked p (plain_store (settled_kept d p c.1.wk.kept)) (suc t) y allowed.0 allowed.1 s (subst (Visited s) (sym allowed.2) seen)))
            go (still q g f) = absurd (moves (sets.moves on.1.0.thing) refl (all_still st c.1.wk.kept p (tables.watched p) g on.1.0.thing ((is.tabled.watched p on.1.0.thing).1 on.1.1.0)))

        touched : (OnWakes d h dump run tables points is laws e hidden.last r showing p v × ((c : Cell) × IsWakeCell (machine d) p c × (settled d r e c ≡ settled d r (suc e) c → ⊥))) → is_touched st p ≡ true
        touched on = in_any sets.moves (tables.watched p) on.1.0.thing ((is.tabled.watched p on.1.0.thing).1 on.1.1.0) (moves_of on.1.0 on.1.2)

        by_order : In p tables.order → TellsNow p s
        by_order y = let c = order_told.has p (y, touched entry) in tells (c.0, c.1, λ n z. last_told.keeps n (c.2 n z)) entry

        by_last : In p tables.last → TellsNow p s
        by_last y = tells (last_told.has p (y, touched entry)) entry

    tells_now : TellsNow p s
    tells_now = ⊎_elim of_clocked by_settling (clocked_or (process_at d p))
      where
        asleep : sets.wakes p ≡ None → CanWakeSome d dump (suc e) p → ⊥
        asleep g wakes = are.no_wakes p g (wakes.0, (same.can_wake wakes.0 p).0 wakes.1)

        of_clocked : IsClocked (process_at d p) → TellsNow p s
        of_clocked is_clocked = go (sets.trigger p) refl (sets.wakes p) refl
          where
            go : (o : Option ℕ) → sets.trigger p ≡ o → (n : Option ℕ) → sets.wakes p ≡ n → TellsNow p s
            go (Some c) f n g = absurd (no_clean_law d is.lawful dump is.fits (suc t) window unlisted p (cell c 0) (are.trigger p c f))
            go None f (Some thing) g = by_weak thing f g is_clocked
            go None f None g = absurd (unwoken_none d h dump run tables points is laws e hidden.last r showing k at p is_clocked (asleep g) v scored)

  -- what is reported of the point
  abbrev pub PointTold : Point → Type 0
  PointTold x = (n : Marking) × In n (all_run st).notes × IsKeyOf d x n.key × ((n.doubt ≡ None) ⊎ ((y : ℕ) × (n.doubt ≡ Some (record { time = suc t; thing = y }))))

  with_key : (x : Point) (p : ℕ) (s : Spot) → spot_at x ≡ Some s → IsBlock d x p → TellsNow p s → PointTold x
  with_key x p s f block n = (n.0, n.1, subst (IsKeyOf d x) (sym n.2) (f, block), n.3)

  pub body_marked : (x : Point) (s : Spot) → spot_at x ≡ Some s → (k : StepOf r) → k.step.time ≡ suc e → HitIn d r k x → PointTold x
  body_marked (line_point q n place word) s f k at hit =
      with_key (line_point q n place word) q (line n) refl refl (tells_now k at q hit.0 hit.1 (line n) (in_visited (line n) (execution d (body_at d q) hit.0).visits (at_line n) hit.2 refl))
  body_marked (logic_point q n place op c) s f k at hit =
      with_key (logic_point q n place op c) q (node n c) refl refl (tells_now k at q hit.0 hit.1 (node n c) (in_visited (node n c) (execution d (body_at d q) hit.0).visits (at_node n c) hit.2 refl))
  body_marked (word_point m i true) s f k at hit =
      with_key (word_point m i true) hit.0 (word_write m i) refl (asked.word_visits hit.0 hit.1.0 m i hit.1.2) (tells_now k at hit.0 hit.1.0 hit.1.1 (word_write m i) (in_visited (word_write m i) (execution d (body_at d hit.0) hit.1.0).visits (writes_word m i) hit.1.2 refl))
  body_marked (word_point m i false) s f k at hit =
      with_key (word_point m i false) hit.0 (word_read m i) refl
      (in_reads (λ q. body_mentions q (body_at d hit.0) ≡ true) (execution d (body_at d hit.0) hit.2.0).visits m i hit.1 (execute_reads (λ q. body_mentions q (body_at d hit.0) ≡ true) d (body_at d hit.0) (λ q g. g) (execution_start hit.2.0) tt) hit.2.2)
      (tells_now k at hit.0 hit.2.0 hit.2.1 (word_read m i) (in_visited (word_read m i) (execution d (body_at d hit.0) hit.2.0).visits (reads (a_word m i) hit.1) hit.2.2 refl))
  body_marked (toggle_point q i rise) s f k at hit = absurd (cc)
  body_marked (state_point i name q state bits) s f k at hit = absurd (cc)
  body_marked (arc_point i name q from to old new) s f k at hit = absurd (cc)

  -- ---- points on signals

  ends : AllowsState (all_run st).kept (settled d r (suc e))
  ends = (jumps.all_sound d h dump run tables points is laws early_law t window sets are a sound r (suc e) (inr hidden) showing).allowed

  ends_before : AllowsState (all_run st).kept (settled d r e)
  ends_before = (jumps.all_sound d h dump run tables points is laws early_law t window sets are a sound r e (inr hidden_before) showing_before).allowed

  no_list : is_listed dump (suc t) ≡ false
  no_list = false_from_ne_true _ (λ f. unlisted ((listed_law dump (suc t)).0 f))

  -- what is known before allows the values at the start of the step
  befores : AllowsState (before_of st) (settled d r e)
  befores c =
      subst (λ b. Allows (if b then a.kept c else join_bit (a.kept c) ((all_run st).kept c)) (settled d r e c)) (sym no_list) (join_right (a.kept c) ((all_run st).kept c) (settled d r e c) (ends_before c))

  zero_one : Zero ≡ One → ⊥
  zero_one f = cc

  if_then : (x : Point) (b : Bool) (ns : List Marking) → b ≡ true → PointNow st x ns → PointNow st x (if b then ns else [])
  if_then x true ns f now = now
  if_then x false ns f now = absurd (both_ways false refl f)

  toggle_marked : (x : Point) (s i : ℕ) (p q : Bit) → (p ≡ q → ⊥) → settled d r e (toggle_cell d s i) ≡ p → settled d r (suc e) (toggle_cell d s i) ≡ q → PointNow st x (if sets.moves s then mark_toggle st x s (toggle_cell d s i) p q else [])
  toggle_marked x s i p q apart was now =
      if_then x (sets.moves s) (mark_toggle st x s (toggle_cell d s i) p q) (subst (λ z. sets.moves z ≡ true) (toggle_thing d s i) (moves_of (toggle_cell d s i) (λ kept. apart (sym was ∙ kept ∙ now))))
      (tells_of st x s (surely_same (before_of st (toggle_cell d s i)) (Some p) && surely_same ((all_run st).kept (toggle_cell d s i)) (Some q)) (not (surely_differ (before_of st (toggle_cell d s i)) (Some p)) && not (surely_differ ((all_run st).kept (toggle_cell d s i)) (Some q)))
      (and_from _ _ (may_bit (before_of st (toggle_cell d s i)) (settled d r e (toggle_cell d s i)) p (befores (toggle_cell d s i)) was) (may_bit ((all_run st).kept (toggle_cell d s i)) (settled d r (suc e) (toggle_cell d s i)) q (ends (toggle_cell d s i)) now)))

  at_start : (k : StepOf r) → k.step.time ≡ suc e → settled d r e ≡ (start_of d r k).values
  at_start k at = sym (start_values d h r showing.is_run k e at)

  at_end : (k : StepOf r) → k.step.time ≡ suc e → settled d r (suc e) ≡ (end_of d r k).values
  at_end k at = sym (end_values d h r showing.is_run k (suc e) at)

  -- where no cell of a signal may move its bits stay
  calm_bits : (s : ℕ) → sets.moves s ≡ false → (cs : List Cell) → ((c : Cell) → In c cs → c.thing ≡ s) → map (settled d r (suc e)) cs ≡ map (settled d r e) cs
  calm_bits s calm [] own = refl
  calm_bits s calm (c ∷ cs) own =
      Rattle.std.proofs.Common.ap₂ (λ b bs. b ∷ bs) (facts.unmoved c (λ m. both_ways _ calm (subst (λ z. sets.moves z ≡ true) (own c (inl refl)) ((are.moves c.thing).1 ((same.may_move c.thing).0 m))))) (calm_bits s calm cs (λ b x. own b (inr x)))

  calm_signal : (s : ℕ) → sets.moves s ≡ false → signal_bits d (settled d r e) s ≡ signal_bits d (settled d r (suc e)) s
  calm_signal s calm = sym (calm_bits s calm (signal_cells d s) (λ c z. (in_signal d s c z).0))

  -- a state that the signal comes to in the step
  state_now : (b : Bool) → is_listed dump (suc t) ≡ b → (x : Point) (s : ℕ) (bits : List Bit) → signal_bits d (settled d r (suc e)) s ≡ bits → (signal_bits d (settled d r e) s ≡ signal_bits d (settled d r (suc e)) s → ⊥) → PointNow st x (if b then mark_had st x s bits else (if sets.moves s then mark_reached st x s bits else []))
  state_now true f x s bits g differ = absurd (both_ways _ no_list f)
  state_now false f x s bits g differ =
      if_then x (sets.moves s) (mark_reached st x s bits) (true_from_ne_false _ (λ calm. differ (calm_signal s calm)))
      (tells_of st x s false (may_be (known_bits d (all_run st).kept s) bits && not (are_surely (known_bits d (before_of st) s) bits))
      (and_from _ _ (may_bits (all_run st).kept (settled d r (suc e)) ends (signal_cells d s) bits g) (not_from_false _ (false_from_ne_true _ (λ q. differ (surely_bits (before_of st) (settled d r e) befores (signal_cells d s) bits q ∙ sym g))))))

  arc_now : (x : Point) (s : ℕ) (from to : List Bit) → (from ≡ to → ⊥) → signal_bits d (settled d r e) s ≡ from → signal_bits d (settled d r (suc e)) s ≡ to → PointNow st x (if sets.moves s then tell st x s (are_surely (known_bits d (before_of st) s) from && are_surely (known_bits d (all_run st).kept s) to) (may_be (known_bits d (before_of st) s) from && may_be (known_bits d (all_run st).kept s) to) else [])
  arc_now x s from to apart was now =
      if_then x (sets.moves s) (tell st x s (are_surely (known_bits d (before_of st) s) from && are_surely (known_bits d (all_run st).kept s) to) (may_be (known_bits d (before_of st) s) from && may_be (known_bits d (all_run st).kept s) to))
      (true_from_ne_false _ (λ calm. apart (sym was ∙ calm_signal s calm ∙ now)))
      (tells_of st x s (are_surely (known_bits d (before_of st) s) from && are_surely (known_bits d (all_run st).kept s) to) (may_be (known_bits d (before_of st) s) from && may_be (known_bits d (all_run st).kept s) to)
      (and_from _ _ (may_bits (before_of st) (settled d r e) befores (signal_cells d s) from was) (may_bits (all_run st).kept (settled d r (suc e)) ends (signal_cells d s) to now)))

  -- a point that is hit in the step: it is on a signal and reported, or of a body
  pub point_marked : (x : Point) → In x points → (k : StepOf r) → k.step.time ≡ suc e → HitIn d r k x → PointNow st x (point_notes st x) ⊎ ((s : Spot) × (spot_at x ≡ Some s))
  point_marked (line_point q n at word) member k here hit = inr (line n, refl)
  point_marked (logic_point q n at op c) member k here hit = inr (node n c, refl)
  point_marked (word_point m i true) member k here hit = inr (word_write m i, refl)
  point_marked (word_point m i false) member k here hit = inr (word_read m i, refl)
  point_marked (toggle_point s i true) member k here hit =
      inl (toggle_marked (toggle_point s i true) s i Zero One zero_one (ap (λ f. f (toggle_cell d s i)) (at_start k here) ∙ hit.0) (ap (λ f. f (toggle_cell d s i)) (at_end k here) ∙ hit.1))
  point_marked (toggle_point s i false) member k here hit =
      inl (toggle_marked (toggle_point s i false) s i One Zero (λ f. zero_one (sym f)) (ap (λ f. f (toggle_cell d s i)) (at_start k here) ∙ hit.0) (ap (λ f. f (toggle_cell d s i)) (at_end k here) ∙ hit.1))
  point_marked (state_point i name s state x) member k here hit =
      inl
      (state_now (is_listed dump (suc t)) refl (state_point i name s state x) s x.bits (ap (λ f. signal_bits d f s) (at_end k here) ∙ hit.1)
      (λ kept. hit.0 (ap (λ f. signal_bits d f s) (sym (at_start k here)) ∙ kept ∙ ap (λ f. signal_bits d f s) (at_end k here))))
  point_marked (arc_point i name s from to' x y) member k here hit =
      inl
      (arc_now (arc_point i name s from to' x y) s x.bits y.bits (is.arcs i name s from to' x y member) (ap (λ f. signal_bits d f s) (at_start k here) ∙ hit.0) (ap (λ f. signal_bits d f s) (at_end k here) ∙ hit.1))
