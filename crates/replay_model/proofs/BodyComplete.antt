-- A point of a body that is hit at this time, in a run that shows the dump, is reported to be hit or in doubt.
use Rattle.std.proofs.Common.{◌≡◌, ◌⊎◌, inl, inr, ⊎_elim, ℕ, suc, ◌<◌, Bool, true, false, not, ◌||◌, List, [], ◌∷◌, length, refl, sym, ap, subst, ◌∙◌, Option, Some, None}
use Rattle.std.specs.List.{list_all}
use Rattle.std.proofs.lemmas.Bool.{both_ways, cases_lt}
use Rattle.event_machine.specs.Cell.{Cell, Values}
use Rattle.event_machine.specs.Machine.{IsWakeCell}
use Rattle.event_machine.specs.Habit.{Habit}
use Rattle.event_machine.specs.Laws.{EarlyLaw}
use Rattle.design_model.specs.four_state.declared.bit.Bit.{Bit}
use Rattle.design_model.specs.declared.point.Point.{Point}
use Rattle.design_model.specs.declared.point.Point.TheVariants.{Line as line_point, Logic as logic_point, Toggle as toggle_point, State as state_point, Arc as arc_point, Word as word_point}
use Rattle.design_model.specs.Design.{Design, In, IsClocked, IsComb, a_word, body_at, cell, process_at}
use Rattle.design_model.specs.Mentions.{body_mentions}
use Rattle.design_model.specs.Execution.{Visit, at_line, at_node, execution, execution_start, reads, writes_word}
use Rattle.design_model.specs.Machine.{is_level, machine}
use Rattle.design_model.specs.Run.{Run, StepOf, settled}
use Rattle.design_model.specs.Scored.{IsScored}
use Rattle.design_model.specs.Shows.{BoundDump, IsShowing, IsWindow}
use Rattle.design_model.specs.Points.{HitIn, IsBlock}
use Rattle.design_model.proofs.Mentions.{AllReads, execute_reads}
use Rattle.design_model.proofs.StepLaws.{StepLaws}
use Rattle.replay_model.proofs.AskedLaws.{AskedLaws}
use Rattle.body_replay.specs.Contract.{Certainty, Doubted, HasHitNote, Note, clean, perhaps, spot_at}
use Rattle.body_replay.specs.KnownBits.{Allows}
use Rattle.body_replay.specs.Replay.{Spot, Visited, line, node, word_read, word_write}
use Rattle.body_replay.specs.Runs.{HasDoubtNote, Runs, seen_of}
use Rattle.body_replay.specs.Store.{AllowsState}
use Rattle.replay_model.specs.Sets.{AreSets, Sets}
use Rattle.design_model.specs.BodyLaws.{all_cells}
use Rattle.design_model.specs.StepLaws.{IsLeft, StepFacts}
use Rattle.replay_model.specs.Tables.{Tables}
use Rattle.replay_model.specs.Marks.{IsKeyOf, Marking, markings_by, of_process}
use Rattle.replay_model.specs.Step.{Closing, Replay, all_run, certainty, clean_order, clocked_run, entry_kept, is_touched, opened, plain_store, run_all_clean, settled_kept, surely_same, wake_cells}
use Rattle.replay_model.specs.Laws.{IsReplayOf, closing_at}
use Rattle.replay_model.proofs.AllowedBy.{IsUnknown, past, some_target}
use Rattle.replay_model.proofs.Allows.{here}
use Rattle.replay_model.proofs.Bits.{all_in, in_any, same_equal}
use Rattle.replay_model.proofs.BodyMarks.{Good, clean_told, entry_allowed, last_told, order_told, settled_allowed, weak_told}
use Rattle.replay_model.proofs.Existing.{changed_exists}
use Rattle.replay_model.proofs.Hits.{OnWakes, Way, all_still, doubt_told, every_entry, every_settling, hit_told, in_not_assigned, in_visited, still, sure, unsure, unwoken_none, way_of}
use Rattle.replay_model.proofs.Targets.{clocked_or}
use Rattle.replay_model.proofs.Trace.{CleanRun, SettleRun, WeakRun}

pub in_reads : (Q : ℕ → Type 0) (xs : List Visit) (m i : ℕ) (inner : Bool) → AllReads Q xs → In (reads (a_word m i) inner) xs → Q m
in_reads Q [] m i inner all h = absurd h
in_reads Q (x ∷ xs) m i inner all (inl e) = (subst (λ z. AllReads Q (z ∷ xs)) e all).0
in_reads Q (x ∷ xs) m i inner all (inr h) = in_reads Q xs m i inner all.1 h

module _ (d : Design) (h : Habit) (dump : BoundDump) (run : Runs) (tables : Tables) (points : List Point) (is : IsReplayOf d h dump run tables points) (laws : StepLaws (machine d) h) (early_law : EarlyLaw (machine d)) (asked : AskedLaws d) (t : ℕ) (window : IsWindow dump (suc t)) (sets : Sets) (are : AreSets d h dump (suc t) sets) (a : Replay) (r : Run) (showing : IsShowing d h dump (suc t) r) (starts : AllowsState a.kept (settled d r t)) (acted : (p : ℕ) → IsComb (process_at d p) → a.acted p ≡ true → IsLeft d p (settled d r t)) (unknown : IsUnknown d dump a) where
  abbrev st : Closing
  st = closing_at d dump run tables sets t a

  abbrev facts : StepFacts d h dump t (settled d r t) (settled d r (suc t))
  facts = here d h dump run tables points is laws early_law t window sets are a r showing starts

  -- a process that is clocked, or sensitive to something, is one of the design
  clocked_below : (p : ℕ) → IsClocked (process_at d p) → p < length d.processes
  clocked_below p is_clocked = ⊎_elim (λ lt. lt) (λ le. absurd (subst IsClocked (past d.processes p le) is_clocked)) (cases_lt p (length d.processes))

  level_below : (p y : ℕ) → is_level (process_at d p) y ≡ true → p < length d.processes
  level_below p y level = ⊎_elim (λ lt. lt) (λ le. absurd (both_ways false refl (subst (λ z. is_level z y ≡ true) (past d.processes p le) level))) (cases_lt p (length d.processes))

  -- something is reported of a spot of p at this time
  abbrev TellsNow : ℕ → Spot → Type 0
  TellsNow p s = (n : Marking) × In n (all_run st).notes × (n.key ≡ of_process p s) × ((n.doubt ≡ None) ⊎ ((y : ℕ) × (n.doubt ≡ Some (record { time = suc t; thing = y }))))

  from_notes : (p : ℕ) (s : Spot) (ns : List Note) → ((n : Marking) → In n (markings_by p ns) → In n (all_run st).notes) → HasHitNote s ns ⊎ ((y : Doubted) × (y.time ≡ suc t) × HasDoubtNote s y ns) → TellsNow p s
  from_notes p s ns there (inl e) = let n = hit_told p ns s e in (n.0, there n.0 n.1, n.2, inl n.3)
  from_notes p s ns there (inr y) =
      let n = doubt_told p ns s y.0 y.2 in
      (n.0, there n.0 n.1, n.2, inr (y.0.thing, n.3 ∙ ap Some (λ i. record { time = y.1 i; thing = y.0.thing })))

  module _ (k : StepOf r) (at : k.step.time ≡ suc t) (p : ℕ) (v : Values Bit) (scored : IsScored d r k p v) (s : Spot) (seen : Visited s (execution d (body_at d p) v).visits) where
    later : (n : Marking) → In n (clocked_run st).notes → In n (all_run st).notes
    later n y =
        (last_told d h dump run tables points is laws early_law asked t window sets are a r showing starts acted unknown).keeps n ((order_told d h dump run tables points is laws early_law asked t window sets are a r showing starts acted unknown).keeps n y)

    by_clean : (e : ℕ) → sets.trigger p ≡ Some e → IsClocked (process_at d p) → TellsNow p s
    by_clean e f is_clocked = tells ((clean_told d h dump run tables points is laws early_law asked t window sets are a r showing starts acted unknown).has p ((is.tabled.clocked p).1 (clocked_below p is_clocked, is_clocked), (e, f)))
      where
        tells : (ns : List Note) × CleanRun d is.lawful h early_law dump run is.runs tables t sets are a p ns × ((n : Marking) → In n (markings_by p ns) → In n (run_all_clean st (clean_order st) (opened st)).notes) → TellsNow p s
        tells c =
            from_notes p s c.0 (λ n y. later n ((weak_told d h dump run tables points is laws early_law asked t window sets are a r showing starts acted unknown).keeps n (c.2 n y)))
            (subst (λ ns. HasHitNote s ns ⊎ ((y : Doubted) × (y.time ≡ suc t) × HasDoubtNote s y ns)) (sym c.1.notes)
            (⊎_elim (λ y. inl y) (λ y. inr (y.0, (is.runs.blames p c.1.store (suc t) s y.0 y.1).0, y.1)) (is.runs.visits_marked p c.1.store (suc t) v allowed s seen)))
          where
            allowed : AllowsState (seen_of c.1.store) v
            allowed b =
                let o = every_entry d h dump run tables points is laws t window r showing k at p (cell c.1.trigger 0) (are.trigger p c.1.trigger c.1.is_trigger) v scored in
                subst (λ z. Allows z (v b)) (sym (c.1.reads b)) (subst (λ f. Allows (entry_kept st p c.1.trigger b) (f b)) (sym o.1) (entry_allowed d h dump run tables points is laws early_law asked t window sets are a r showing starts acted unknown p c.1.trigger c.1.is_trigger o.0 b))

    by_weak : (thing : ℕ) → sets.trigger p ≡ None → sets.wakes p ≡ Some thing → IsClocked (process_at d p) → TellsNow p s
    by_weak thing e f is_clocked = tells ((weak_told d h dump run tables points is laws early_law asked t window sets are a r showing starts acted unknown).has p ((is.tabled.clocked p).1 (clocked_below p is_clocked, is_clocked), (e, (thing, f))))
      where
        tells : (ns : List Note) × WeakRun d is.lawful h early_law dump run is.runs tables t sets are a p ns × ((n : Marking) → In n (markings_by p ns) → In n (clocked_run st).notes) → TellsNow p s
        tells c =
            from_notes p s c.0 (λ n y. later n (c.2 n y))
            (subst (λ ns. HasHitNote s ns ⊎ ((y : Doubted) × (y.time ≡ suc t) × HasDoubtNote s y ns)) (sym c.1.notes) (inr (record { time = suc t; thing = c.1.thing }, refl, is.runs.weak_marked p c.1.store (suc t) c.1.thing v s seen)))

    by_settling : (IsClocked (process_at d p) → ⊥) → TellsNow p s
    by_settling settles = ⊎_elim by_order by_last ((is.tabled.others p).1 (level_below p e.1.0.thing e.1.1.0, settles))
      where
        abbrev_entry : OnWakes d h dump run tables points is laws t window r showing p v × ((c : Cell) × IsWakeCell (machine d) p c × (settled d r t c ≡ settled d r (suc t) c → ⊥))
        abbrev_entry = every_settling d h dump run tables points is laws t window r showing k at p settles v scored

        e : OnWakes d h dump run tables points is laws t window r showing p v × ((c : Cell) × IsWakeCell (machine d) p c × (settled d r t c ≡ settled d r (suc t) c → ⊥))
        e = every_settling d h dump run tables points is laws t window r showing k at p settles v scored

        tells : (ns : List Note) × SettleRun d is.lawful h early_law dump run is.runs tables t sets are a (Good d h dump run tables points is laws early_law asked t window sets are a r showing starts acted unknown) p ns × ((n : Marking) → In n (markings_by p ns) → In n (all_run st).notes) → (OnWakes d h dump run tables points is laws t window r showing p v × ((c : Cell) × IsWakeCell (machine d) p c × (settled d r t c ≡ settled d r (suc t) c → ⊥))) → TellsNow p s
        tells c e = from_notes p s c.0 c.2 (subst (λ ns. HasHitNote s ns ⊎ ((y : Doubted) × (y.time ≡ suc t) × HasDoubtNote s y ns)) (sym c.1.notes) (go (way_of st c.1.wk.kept p)))
          where
            abbrev_how : (how : Certainty) → certainty st c.1.wk.kept p ≡ how → HasHitNote s (run p (plain_store (settled_kept d p c.1.wk.kept)) how).notes ⊎ ((y : Doubted) × (y.time ≡ suc t) × HasDoubtNote s y (run p (plain_store (settled_kept d p c.1.wk.kept)) how).notes) → HasHitNote s (run p (plain_store (settled_kept d p c.1.wk.kept)) (certainty st c.1.wk.kept p)).notes ⊎ ((y : Doubted) × (y.time ≡ suc t) × HasDoubtNote s y (run p (plain_store (settled_kept d p c.1.wk.kept)) (certainty st c.1.wk.kept p)).notes)
            abbrev_how how f x = subst (λ z. HasHitNote s (run p (plain_store (settled_kept d p c.1.wk.kept)) z).notes ⊎ ((y : Doubted) × (y.time ≡ suc t) × HasDoubtNote s y (run p (plain_store (settled_kept d p c.1.wk.kept)) z).notes)) (sym f) x

            allowed : (x : Values Bit) × AllowsState (settled_kept d p c.1.wk.kept) x × ((execution d (body_at d p) x).visits ≡ (execution d (body_at d p) v).visits)
            allowed = settled_allowed d h dump run tables points is laws early_law asked t window sets are a r showing starts acted unknown p settles c.1.wk.kept c.1.holds.0.allowed v e.0

            moves : (b : Bool) → sets.moves e.1.0.thing ≡ b → (not b || list_all (λ c'. surely_same (a.kept c') (c.1.wk.kept c')) (wake_cells d p e.1.0.thing)) ≡ true → ⊥
            moves false f g = e.1.2 (sym (facts.unmoved e.1.0 (λ m. both_ways _ f ((are.moves e.1.0.thing).1 m))))
            moves true f g =
                e.1.2
                (same_equal (a.kept e.1.0) (c.1.wk.kept e.1.0) (settled d r t e.1.0) (settled d r (suc t) e.1.0)
                (all_in (λ c'. surely_same (a.kept c') (c.1.wk.kept c')) (wake_cells d p e.1.0.thing) g e.1.0 (in_not_assigned d p (all_cells d e.1.0.thing) e.1.0 (changed_exists d asked.written_cells h dump t (settled d r t) (settled d r (suc t)) facts e.1.0 (some_target d h dump run tables points is e.1.0) e.1.2) e.1.1.1)) (starts e.1.0) (c.1.holds.0.allowed e.1.0))

            go : Way st c.1.wk.kept p → HasHitNote s (run p (plain_store (settled_kept d p c.1.wk.kept)) (certainty st c.1.wk.kept p)).notes ⊎ ((y : Doubted) × (y.time ≡ suc t) × HasDoubtNote s y (run p (plain_store (settled_kept d p c.1.wk.kept)) (certainty st c.1.wk.kept p)).notes)
            go (sure changed f) =
                abbrev_how (clean (suc t)) f
                (⊎_elim (λ y. inl y) (λ y. inr (y.0, (is.runs.blames p (plain_store (settled_kept d p c.1.wk.kept)) (suc t) s y.0 y.1).0, y.1)) (is.runs.visits_marked p (plain_store (settled_kept d p c.1.wk.kept)) (suc t) allowed.0 allowed.1 s (subst (Visited s) (sym allowed.2) seen)))
            go (unsure y q g f) =
                abbrev_how (perhaps (suc t) y) f (inr (record { time = suc t; thing = y }, refl, is.runs.perhaps_marked p (plain_store (settled_kept d p c.1.wk.kept)) (suc t) y allowed.0 allowed.1 s (subst (Visited s) (sym allowed.2) seen)))
            go (still q g f) = absurd (moves (sets.moves e.1.0.thing) refl (all_still st c.1.wk.kept p (tables.watched p) g e.1.0.thing ((is.tabled.watched p e.1.0.thing).1 e.1.1.0)))

        touched : (OnWakes d h dump run tables points is laws t window r showing p v × ((c : Cell) × IsWakeCell (machine d) p c × (settled d r t c ≡ settled d r (suc t) c → ⊥))) → is_touched st p ≡ true
        touched e =
            in_any sets.moves (tables.watched p) e.1.0.thing ((is.tabled.watched p e.1.0.thing).1 e.1.1.0)
            (Rattle.std.proofs.lemmas.Bool.true_from_ne_false _ (λ f. e.1.2 (sym (facts.unmoved e.1.0 (λ m. both_ways _ f ((are.moves e.1.0.thing).1 m))))))

        by_order : In p tables.order → TellsNow p s
        by_order y =
            let c = (order_told d h dump run tables points is laws early_law asked t window sets are a r showing starts acted unknown).has p (y, touched abbrev_entry) in
            tells (c.0, c.1, λ n z. (last_told d h dump run tables points is laws early_law asked t window sets are a r showing starts acted unknown).keeps n (c.2 n z)) abbrev_entry

        by_last : In p tables.last → TellsNow p s
        by_last y = tells ((last_told d h dump run tables points is laws early_law asked t window sets are a r showing starts acted unknown).has p (y, touched abbrev_entry)) abbrev_entry

    tells_now : TellsNow p s
    tells_now = ⊎_elim of_clocked by_settling (clocked_or (process_at d p))
      where
        of_clocked : IsClocked (process_at d p) → TellsNow p s
        of_clocked is_clocked = go (sets.trigger p) refl (sets.wakes p) refl
          where
            go : (o : Option ℕ) → sets.trigger p ≡ o → (n : Option ℕ) → sets.wakes p ≡ n → TellsNow p s
            go (Some e) f n g = by_clean e f is_clocked
            go None f (Some thing) g = by_weak thing f g is_clocked
            go None f None g = absurd (unwoken_none d h dump run tables points is laws t window r showing k at p is_clocked (are.no_wakes p g) v scored)

  -- what is reported of the point
  abbrev pub PointTold : Point → Type 0
  PointTold x = (n : Marking) × In n (all_run st).notes × IsKeyOf d x n.key × ((n.doubt ≡ None) ⊎ ((y : ℕ) × (n.doubt ≡ Some (record { time = suc t; thing = y }))))

  with_key : (x : Point) (p : ℕ) (s : Spot) → spot_at x ≡ Some s → IsBlock d x p → TellsNow p s → PointTold x
  with_key x p s e block n = (n.0, n.1, subst (IsKeyOf d x) (sym n.2) (e, block), n.3)

  pub body_marked : (x : Point) (s : Spot) → spot_at x ≡ Some s → (k : StepOf r) → k.step.time ≡ suc t → HitIn d r k x → PointTold x
  body_marked (line_point q n place word) s e k at hit =
      with_key (line_point q n place word) q (line n) refl refl (tells_now k at q hit.0 hit.1 (line n) (in_visited (line n) (execution d (body_at d q) hit.0).visits (at_line n) hit.2 refl))
  body_marked (logic_point q n place op c) s e k at hit =
      with_key (logic_point q n place op c) q (node n c) refl refl (tells_now k at q hit.0 hit.1 (node n c) (in_visited (node n c) (execution d (body_at d q) hit.0).visits (at_node n c) hit.2 refl))
  body_marked (word_point m i true) s e k at hit =
      with_key (word_point m i true) hit.0 (word_write m i) refl (asked.word_visits hit.0 hit.1.0 m i hit.1.2) (tells_now k at hit.0 hit.1.0 hit.1.1 (word_write m i) (in_visited (word_write m i) (execution d (body_at d hit.0) hit.1.0).visits (writes_word m i) hit.1.2 refl))
  body_marked (word_point m i false) s e k at hit =
      with_key (word_point m i false) hit.0 (word_read m i) refl
      (in_reads (λ q. body_mentions q (body_at d hit.0) ≡ true) (execution d (body_at d hit.0) hit.2.0).visits m i hit.1 (execute_reads (λ q. body_mentions q (body_at d hit.0) ≡ true) d (body_at d hit.0) (λ q f. f) (execution_start hit.2.0) tt) hit.2.2)
      (tells_now k at hit.0 hit.2.0 hit.2.1 (word_read m i) (in_visited (word_read m i) (execution d (body_at d hit.0) hit.2.0).visits (reads (a_word m i) hit.1) hit.2.2 refl))
  body_marked (toggle_point q i rise) s e k at hit = absurd (cc)
  body_marked (state_point i name q state bits) s e k at hit = absurd (cc)
  body_marked (arc_point i name q from to old new) s e k at hit = absurd (cc)
