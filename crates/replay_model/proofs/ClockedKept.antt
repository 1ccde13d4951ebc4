-- What the runs of the Clocked leave of a cell, whatever the runs of the design are.
use Rattle.std.proofs.Common.{◌≡◌, inl, inr, ⊎_elim, ℕ, suc, ◌<◌, true, false, ◌&&◌, ◌||◌, ◌==◌, List, [], ◌∷◌, ◌++◌, length, refl, sym, ap, subst, ◌∙◌, Option, Some, None}
use Rattle.std.proofs.lemmas.Bool.{and_parts, false_from_ne_true}
use Rattle.event_machine.specs.Cell.{Cell}
use Rattle.event_machine.specs.Habit.{Habit}
use Rattle.event_machine.specs.Laws.{EarlyLaw}
use Rattle.event_machine.specs.Machine.{IsTarget}
use Rattle.design_model.specs.declared.point.Point.{Point}
use Rattle.design_model.specs.Design.{AreDistinct, Design, In, IsClocked, body_at, process_at}
use Rattle.design_model.specs.Mentions.{blocking_target, body_assigns, nonblocking_target}
use Rattle.design_model.specs.Machine.{machine}
use Rattle.design_model.specs.Shows.{BoundDump}
use Rattle.body_replay.specs.Contract.{Outcome, clean, flushed, weak}
use Rattle.body_replay.specs.Replay.{flush}
use Rattle.body_replay.specs.Runs.{Runs, StoreView, seen_of}
use Rattle.body_replay.specs.Store.{Kept}
use Rattle.replay_model.specs.Sets.{AreSets, Sets}
use Rattle.replay_model.specs.Tables.{Tables}
use Rattle.replay_model.specs.Step.{Closing, Replay, Working, after_clocked, all_run, clean_order, clean_store, clocked_run, entry_kept, is_dumped, is_loose, is_touched, opened, plain_store, run_all_clean, run_all_settling, run_all_weak, run_clean, run_weak, settle_start}
use Rattle.replay_model.specs.Laws.{IsReplayOf, closing_at}
use Rattle.replay_model.proofs.Bits.{any_in, flush_append, flush_same, in_halves}
use Rattle.replay_model.proofs.Clocked.{at_false, distinct_left}
use Rattle.replay_model.proofs.Order.{kept_all, made_all, makes}
use Rattle.replay_model.proofs.Targets.{one_assigner, target_assigns}
use Rattle.replay_model.proofs.Trace.{AreBefore, KeptOr, RanClean, RanWeak, Wider, next_before, one_kept, reads_entry}
use Rattle.replay_model.proofs.Rounds.{AreSorted, in_order, order_distinct, order_in, order_sorted}

module _ (d : Design) (h : Habit) (early_law : EarlyLaw (machine d)) (dump : BoundDump) (run : Runs) (tables : Tables) (points : List Point) (is : IsReplayOf d h dump run tables points) (t : ℕ) (sets : Sets) (are : AreSets d h dump (suc t) sets) (a : Replay) where
  abbrev st : Closing
  st = closing_at d dump run tables sets t a

  -- the process does not write the cell
  abbrev pub Away : Cell → ℕ → Type 0
  Away c q = (blocking_target d (body_at d q) c ≡ false) × (nonblocking_target d (body_at d q) c ≡ false)

  pub away_from : (c : Cell) (q : ℕ) → (IsTarget (machine d) q c → ⊥) → Away c q
  away_from c q never = (false_from_ne_true _ (λ e. never (inl e)), false_from_ne_true _ (λ e. never (inr e)))

  -- what these outcomes have left of the cell so far
  abbrev pub Left : Cell → Kept → (Kept → Kept) → Working → Type 0
  Left c k f wk = (wk.kept c ≡ k c) × ((b : Kept) → flush b wk.queue c ≡ f b c)

  after_away : (c : Cell) (k : Kept) (f : Kept → Kept) (wk : Working) (p : ℕ) (o : Outcome) → Left c k f wk → o.kept c ≡ wk.kept c → ((b : Kept) → flush b o.queue c ≡ b c) → Left c k f (after_clocked st p o wk)
  after_away c k f wk p o left same calm = (same ∙ left.0, λ b. ap (λ g. g c) (flush_append wk.queue o.queue b) ∙ calm (flush b wk.queue) ∙ left.1 b)

  clean_away : (c : Cell) (k : Kept) (f : Kept → Kept) (wk : Working) (p : ℕ) (o : Option ℕ) → Left c k f wk → (RanClean d is.lawful h early_law dump run is.runs tables t sets are a p → Away c p) → sets.trigger p ≡ o → Left c k f (run_clean st o p wk)
  clean_away c k f wk p None left away e = left
  clean_away c k f wk p (Some s) left away e =
      after_away c k f wk p (run p (clean_store st p s wk) (clean (suc t))) left (is.runs.frame p (clean_store st p s wk) (clean (suc t)) c (away (s, e)).0) (is.runs.frame_queue p (clean_store st p s wk) (clean (suc t)) c (away (s, e)).1)

  all_clean_away : (c : Cell) (k : Kept) (f : Kept → Kept) (ps : List ℕ) (wk : Working) → Left c k f wk → ((q : ℕ) → In q ps → RanClean d is.lawful h early_law dump run is.runs tables t sets are a q → Away c q) → Left c k f (run_all_clean st ps wk)
  all_clean_away c k f [] wk left away = left
  all_clean_away c k f (p ∷ ps) wk left away = all_clean_away c k f ps (run_clean st (sets.trigger p) p wk) (clean_away c k f wk p (sets.trigger p) left (away p (inl refl)) refl) (λ q x. away q (inr x))

  weak_away : (c : Cell) (k : Kept) (f : Kept → Kept) (wk : Working) (p : ℕ) (o n : Option ℕ) → Left c k f wk → (RanWeak d is.lawful h early_law dump run is.runs tables t sets are a p → Away c p) → sets.trigger p ≡ o → sets.wakes p ≡ n → Left c k f (run_weak st o n p wk)
  weak_away c k f wk p (Some s) n left away e g = left
  weak_away c k f wk p None None left away e g = left
  weak_away c k f wk p None (Some x) left away e g =
      after_away c k f wk p (run p (plain_store wk.kept) (weak (suc t) x)) left (is.runs.frame p (plain_store wk.kept) (weak (suc t) x) c (away (e, (x, g))).0) (is.runs.frame_queue p (plain_store wk.kept) (weak (suc t) x) c (away (e, (x, g))).1)

  all_weak_away : (c : Cell) (k : Kept) (f : Kept → Kept) (ps : List ℕ) (wk : Working) → Left c k f wk → ((q : ℕ) → In q ps → RanWeak d is.lawful h early_law dump run is.runs tables t sets are a q → Away c q) → Left c k f (run_all_weak st ps wk)
  all_weak_away c k f [] wk left away = left
  all_weak_away c k f (p ∷ ps) wk left away =
      all_weak_away c k f ps (run_weak st (sets.trigger p) (sets.wakes p) p wk) (weak_away c k f wk p (sets.trigger p) (sets.wakes p) left (away p (inl refl)) refl refl) (λ q x. away q (inr x))

  -- a cell that no Clocked which runs may write stays
  pub clocked_stays : (c : Cell) → ((q : ℕ) → In q tables.clocked → RanClean d is.lawful h early_law dump run is.runs tables t sets are a q → Away c q) → ((q : ℕ) → In q tables.clocked → RanWeak d is.lawful h early_law dump run is.runs tables t sets are a q → Away c q) → flush (clocked_run st).kept (clocked_run st).queue c ≡ a.kept c
  clocked_stays c clean_ones weak_ones =
      let left = all_weak_away c a.kept (λ b. b) tables.clocked (run_all_clean st (clean_order st) (opened st)) (all_clean_away c a.kept (λ b. b) (clean_order st) (opened st) (refl, λ b. refl) (λ q i. clean_ones q (in_order sets.round q tables.clocked i))) weak_ones in
      left.1 (clocked_run st).kept ∙ left.0

  -- what a clean block leaves of a cell of its own
  pub record OwnRun (p s : ℕ) (c : Cell) (wk : Working) : Type 0 where
    pub store : StoreView
    pub reads : (b : Cell) → seen_of store b ≡ entry_kept st p s b
    pub hides : store.hidden ≡ (λ x. (x == s) || sets.early p x)
    pub kept : store.kept c ≡ a.kept c
    pub left : Left c (run p store (clean (suc t))).kept (λ b. flush b (run p store (clean (suc t))).queue) wk

  find_own : (p s : ℕ) → sets.trigger p ≡ Some s → IsClocked (process_at d p) → (c : Cell) → body_assigns c.thing (body_at d p) ≡ true → (Ran : ℕ → Type 0) (ps : List ℕ) (wk : Working) → KeptOr d is.lawful h early_law dump run is.runs tables t sets are a Ran wk → AreBefore d is.lawful h early_law dump run is.runs tables t sets are a Ran ps → ((q : ℕ) → In q ps → Ran q → ⊥) → AreDistinct ps → AreSorted sets.round ps → In p ps → Left c a.kept (λ b. b) wk → OwnRun p s c (run_all_clean st ps wk)
  find_own p s e is_clocked c mine Ran [] wk kept before fresh once sorted inside left = absurd inside
  find_own p s e is_clocked c mine Ran (q ∷ ps) wk kept before fresh once sorted (inl same) left = here (sets.trigger q) refl
    where
      away : (r : ℕ) → In r ps → Away c r
      away r x = away_from c r (λ at. once.0 (subst (λ z. In z ps) (one_assigner d is.lawful p r c.thing is_clocked mine (target_assigns d is.lawful r c at) ∙ sym same) x))

      here : (o : Option ℕ) → sets.trigger q ≡ o → OwnRun p s c (run_all_clean st ps (run_clean st o q wk))
      here None f = absurd (none_some (sets.trigger q) s f (subst (λ z. sets.trigger z ≡ Some s) (sym same) e))
        where
          none_some : (o : Option ℕ) (s : ℕ) → o ≡ None → o ≡ Some s → ⊥
          none_some o s f g = cc
      here (Some z) f =
          subst (λ y. OwnRun y s c (run_all_clean st ps (run_clean st (Some z) q wk))) same
          (subst (λ y. OwnRun q y c (run_all_clean st ps (run_clean st (Some z) q wk))) is_s
          (record {
            store = clean_store st q z wk;
            reads = reads_entry d is.lawful h early_law dump run is.runs tables t sets are a Ran wk kept q (before q (inl refl)) (fresh q (inl refl)) z f;
            hides = refl;
            kept = left.0;
            left = all_clean_away c (run q (clean_store st q z wk) (clean (suc t))).kept (λ b. flush b (run q (clean_store st q z wk) (clean (suc t))).queue) ps (after_clocked st q (run q (clean_store st q z wk) (clean (suc t))) wk)
                (refl, λ b. ap (λ g. g c) (flush_append wk.queue (run q (clean_store st q z wk) (clean (suc t))).queue b) ∙ flush_same (run q (clean_store st q z wk) (clean (suc t))).queue (flush b wk.queue) b c (left.1 b)) (λ r x ran. away r x);
          }))
        where
          is_s : z ≡ s
          is_s = some_same (sets.trigger q) f (subst (λ y. sets.trigger y ≡ Some s) (sym same) e)
            where
              some_same : (o : Option ℕ) → o ≡ Some z → o ≡ Some s → z ≡ s
              some_same o f g = cc
  find_own p s e is_clocked c mine Ran (q ∷ ps) wk kept before fresh once sorted (inr later) left =
      find_own p s e is_clocked c mine (Wider d is.lawful h early_law dump run is.runs tables t sets are a Ran q) ps (run_clean st (sets.trigger q) q wk) (one_kept d is.lawful h early_law dump run is.runs tables t sets are a Ran wk kept q (sets.trigger q) refl)
      (next_before d is.lawful h early_law dump run is.runs tables t sets are a Ran q ps sorted before) (λ r x y. ⊎_elim (fresh r (inr x)) (λ z. once.0 (subst (λ v. In v ps) z.0 x)) y) once.1 sorted.1 later
      (clean_away c a.kept (λ b. b) wk q (sets.trigger q) left (λ ran. away_from c q (λ at. once.0 (subst (λ z. In z ps) (sym (one_assigner d is.lawful p q c.thing is_clocked mine (target_assigns d is.lawful q c at))) later))) refl)

  -- at the end of the Clocked
  pub own_left : (p s : ℕ) → In p tables.clocked → sets.trigger p ≡ Some s → IsClocked (process_at d p) → (c : Cell) → body_assigns c.thing (body_at d p) ≡ true → (k : OwnRun p s c (run_all_clean st (clean_order st) (opened st))) × (flush (clocked_run st).kept (clocked_run st).queue c ≡ flushed (run p k.store (clean (suc t))) c)
  own_left p s inside e is_clocked c mine =
      let k = find_own p s e is_clocked c mine (λ q. ⊥) (clean_order st) (opened st) (λ b. inl refl) (λ r i q x. absurd x) (λ q x y. y) (order_distinct sets.round tables.clocked (distinct_left tables.clocked (tables.order ++ tables.last) is.tabled.once)) (order_sorted sets.round tables.clocked) (order_in sets.round p tables.clocked inside) (refl, λ b. refl) in
      let left = all_weak_away c (run p k.store (clean (suc t))).kept (λ b. flush b (run p k.store (clean (suc t))).queue) tables.clocked (run_all_clean st (clean_order st) (opened st)) k.left
      (λ q x ran. away_from c q (λ at. some_none (sets.trigger p) s e (subst (λ z. sets.trigger z ≡ None) (one_assigner d is.lawful p q c.thing is_clocked mine (target_assigns d is.lawful q c at)) ran.0))) in
      (k, left.1 (clocked_run st).kept ∙ flush_same (run p k.store (clean (suc t))).queue (clocked_run st).kept (run p k.store (clean (suc t))).kept c left.0)
    where
      some_none : (o : Option ℕ) (s : ℕ) → o ≡ Some s → o ≡ None → ⊥
      some_none o s e f = cc

  -- what a Clocked assigns no other process writes
  module _ (p : ℕ) (is_clocked : IsClocked (process_at d p)) (c : Cell) (mine : body_assigns c.thing (body_at d p) ≡ true) where
    never : (q : ℕ) → (q < length d.processes) × (IsClocked (process_at d q) → ⊥) → blocking_target d (body_at d q) c ≡ true → ⊥
    never q known e = known.1 (subst (λ z. IsClocked (process_at d z)) (sym (one_assigner d is.lawful p q c.thing is_clocked mine (target_assigns d is.lawful q c (inl e)))) is_clocked)

    firm : is_loose st c ≡ false
    firm =
        false_from_ne_true _
        (λ m. let q = any_in (λ q. is_touched st q && blocking_target d (body_at d q) c) (tables.order ++ tables.last) m in never q.0 ((is.tabled.others q.0).0 (in_halves q.0 tables.order tables.last q.1)) (and_parts (is_touched st q.0) _ q.2).1)

    -- a bit that is not the dump's is at the end of the step as the Clocked leave it
    pub clocked_final : is_dumped d dump.bound c ≡ false → (all_run st).kept c ≡ flush (clocked_run st).kept (clocked_run st).queue c
    clocked_final away =
        kept_all d h early_law dump run tables points is t sets are a false tables.last (run_all_settling st true tables.order (settle_start st (clocked_run st))) c (λ q x f. other q ((is.tabled.others q).0 (inr x)))
        ∙ kept_all d h early_law dump run tables points is t sets are a true tables.order (settle_start st (clocked_run st)) c (λ q x f. other q ((is.tabled.others q).0 (inl x)))
        ∙ at_false (λ z. z ≡ flush (clocked_run st).kept (clocked_run st).queue c) (is_dumped d dump.bound c) _ _ away (at_false (λ z. z ≡ flush (clocked_run st).kept (clocked_run st).queue c) (is_loose st c) None (flush (clocked_run st).kept (clocked_run st).queue c) firm refl)
      where
        other : (q : ℕ) → (q < length d.processes) × (IsClocked (process_at d q) → ⊥) → makes d h early_law dump run tables points is t sets are a q c ≡ false
        other q known = false_from_ne_true _ (λ m. never q known (and_parts (blocking_target d (body_at d q) c) _ m).0)

    -- and that is what was made of it
    pub clocked_made : (all_run st).made c ≡ flush (clocked_run st).kept (clocked_run st).queue c
    clocked_made =
        made_all d h early_law dump run tables points is t sets are a false tables.last (run_all_settling st true tables.order (settle_start st (clocked_run st))) c (λ q x f. other q ((is.tabled.others q).0 (inr x)))
        ∙ made_all d h early_law dump run tables points is t sets are a true tables.order (settle_start st (clocked_run st)) c (λ q x f. other q ((is.tabled.others q).0 (inl x)))
        ∙ at_false (λ z. z ≡ flush (clocked_run st).kept (clocked_run st).queue c) (is_loose st c) None (flush (clocked_run st).kept (clocked_run st).queue c) firm refl
      where
        other : (q : ℕ) → (q < length d.processes) × (IsClocked (process_at d q) → ⊥) → blocking_target d (body_at d q) c ≡ false
        other q known = false_from_ne_true _ (λ m. never q known m)
