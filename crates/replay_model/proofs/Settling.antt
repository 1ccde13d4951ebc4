-- The Assigns and Combs of a closing step, on settled values: what their runs leave allows the values at the step's end.
use Rattle.std.proofs.Common.{◌≡◌, inl, inr, ⊎_elim, ℕ, zero, suc, ◌+◌, ◌*◌, ◌<◌, Bool, true, false, not, ◌&&◌, ◌||◌, ◌==◌, List, [], ◌∷◌, ◌++◌, refl, sym, ap, subst, ◌∙◌, map, arith, Option, Some, None, if◌then◌else◌}
use Rattle.std.specs.Prelude.{length, nat_lt}
use Rattle.std.specs.List.{list_any, range_with_len}
use Rattle.std.proofs.lemmas.Bool.{and_parts, and_cases, both_ways, cases_Bool, eqb-true, false_from_ne_true, not-true, not_from_true, or_cases, or_left}
use Rattle.event_machine.specs.Cell.{Cell, Values, put_all, join}
use Rattle.event_machine.specs.Machine.{output}
use Rattle.event_machine.specs.Habit.{Habit}
use Rattle.design_model.specs.four_state.declared.bit.Bit.{Bit}
use Rattle.design_model.specs.Tree.{Process, Stmt, assign, clocked, comb}
use Rattle.design_model.specs.Design.{Design, In, IsClocked, IsComb, body, body_at, cell, is_assign, memory_at, owner, process_at, signal_at, signal_cells, thing_bits, word_cells}
use Rattle.design_model.specs.Mentions.{blocking_target, body_assigns, body_mentions, body_queues}
use Rattle.design_model.specs.Execution.{Visit, at_line, at_node, execution, execution_start, reads, writes_word}
use Rattle.design_model.specs.Reads.{Agrees, AllInside, PartialMap}
use Rattle.design_model.specs.Machine.{is_level, machine}
use Rattle.design_model.specs.Shows.{BoundDump}
use Rattle.design_model.specs.Lawful.{IsLawfulDesign, target_once}
use Rattle.design_model.proofs.Lawful.{any_weaker}
use Rattle.design_model.proofs.Mentions.{AllReads, execute_reads}
use Rattle.design_model.proofs.Sound.{cells_eq}
use Rattle.design_model.proofs.WithinMap.{execution_same, inside_outer, put_same, within_blocking, within_nonblocking}
use Rattle.hidden_times.specs.Hidden.{IsAnyDumpOf}
use Rattle.body_replay.specs.Contract.{Certainty, IsStrong, Outcome, all_written, clean, flushed}
use Rattle.body_replay.specs.KnownBits.{Allows}
use Rattle.body_replay.specs.Runs.{AreRuns, Runs}
use Rattle.body_replay.specs.Store.{AllowsState, Kept}
use Rattle.replay_model.specs.Sets.{Sets}
use Rattle.design_model.specs.BodyLaws.{all_cells, word_indexes, words_cells}
use Rattle.design_model.specs.StepLaws.{IsLeft, StepFacts}
use Rattle.replay_model.specs.Tables.{AreTables, Tables}
use Rattle.replay_model.specs.Step.{Closing, Replay, Working, after_settling, acts, certainty, certainty_from, first_unsure, has_changed, is_clean_way, is_comb, is_dumped, is_touched, not_assigned, plain_store, run_all_settling, run_settling, sees_change, settled_kept, surely_differ, wake_cells}
use Rattle.replay_model.specs.Laws.{closing_at}
use Rattle.replay_model.proofs.Bits.{any_in, differ_apart, in_halves}
use Rattle.replay_model.proofs.Clocked.{at_false, at_true}
use Rattle.replay_model.proofs.Targets.{blocks_assigns, blocks_from, not_queueing}

-- the values of what a body mentions
abbrev pub Mentioned : Design → Stmt → Values Bit → PartialMap
Mentioned d b v x bits = (body_mentions (owner x) b ≡ true) × (bits ≡ thing_bits d v x)

all_mentioned : (d : Design) (b : Stmt) (v : Values Bit) (xs : List Visit) → AllReads (λ q. body_mentions q b ≡ true) xs → AllInside (Mentioned d b v) xs
all_mentioned d b v [] a = tt
all_mentioned d b v (at_line n ∷ xs) a = (tt, all_mentioned d b v xs a.1)
all_mentioned d b v (at_node n c ∷ xs) a = (tt, all_mentioned d b v xs a.1)
all_mentioned d b v (writes_word m i ∷ xs) a = (tt, all_mentioned d b v xs a.1)
all_mentioned d b v (reads x true ∷ xs) a = (tt, all_mentioned d b v xs a.1)
all_mentioned d b v (reads x false ∷ xs) a = ((thing_bits d v x, (a.0, refl)), all_mentioned d b v xs a.1)

-- executions on states that agree on what the body mentions write the same
module _ (d : Design) (b : Stmt) (u v : Values Bit) (agree : (c : Cell) → body_mentions c.thing b ≡ true → u c ≡ v c) where
  pub mine : Agrees d (Mentioned d b u) u
  mine x bits k = sym k.1

  pub theirs : Agrees d (Mentioned d b u) v
  theirs x bits k = cells_eq d v u x (λ c at. sym (agree c (subst (λ q. body_mentions q b ≡ true) (sym at) k.0))) ∙ sym k.1

  pub inside : AllInside (Mentioned d b u) (execution d b u).visits
  inside = all_mentioned d b u _ (execute_reads (λ q. body_mentions q b ≡ true) d b (λ q e. e) (execution_start u) tt)

  pub same_visits : (execution d b u).visits ≡ (execution d b v).visits
  same_visits = (execution_same d u v b (inside_outer d (Mentioned d b u) u v mine theirs _ inside)).visits

  pub same_writes : all_written d b u ≡ all_written d b v
  same_writes = ap (λ z. z ++ join (execution d b u).nonblocking) (within_blocking d (Mentioned d b u) b u v mine theirs inside) ∙ ap (λ z. (execution d b v).blocking ++ join z) (within_nonblocking d (Mentioned d b u) b u v mine theirs inside)

-- what an Assign or Comb mentions it is sensitive to
pub level_mentioned : (x : Process) (y : ℕ) → (IsClocked x → ⊥) → body_mentions y (body x) ≡ true → is_level x y ≡ true
level_mentioned (assign i z t c) y is m = m
level_mentioned (comb i wakes s) y is m = or_left (body_mentions y s) _ m
level_mentioned (clocked i events s) y is m = absurd (is tt)

-- an Assign or Comb has no nonblocking assignment
pub queues_none : (d : Design) (x : Process) → (IsClocked x → ⊥) → target_once x d ≡ true → (y : ℕ) → body_queues y (body x) ≡ false
queues_none d (assign i z t c) is once y = refl
queues_none d (comb i wakes s) is once y =
    false_from_ne_true _ (λ e. both_ways _ (not-true _ once) (any_weaker (λ k z t. not k && _) (λ k z t. not k) (λ k z t h. (and_parts (not k) _ h).0) s e))
queues_none d (clocked i events s) is once y = absurd (is tt)

pub is_comb-from : (x : Process) → is_comb x ≡ true → IsComb x
is_comb-from (assign i z t c) e = absurd (both_ways _ refl e)
is_comb-from (comb i wakes s) e = tt
is_comb-from (clocked i events s) e = absurd (both_ways _ refl e)

pub is_comb-of : (x : Process) → IsComb x → is_comb x ≡ true
is_comb-of (assign i z t c) h = absurd h
is_comb-of (comb i wakes s) h = refl
is_comb-of (clocked i events s) h = absurd h

pub comb_not_clocked : (x : Process) → IsComb x → IsClocked x → ⊥
comb_not_clocked (assign i z t c) h k = k
comb_not_clocked (comb i wakes s) h k = k
comb_not_clocked (clocked i events s) h k = h

pub assign_if : (x : Process) → (IsClocked x → ⊥) → is_comb x ≡ false → is_assign x ≡ true
assign_if (assign i z t c) is e = refl
assign_if (comb i wakes s) is e = absurd (both_ways _ e refl)
assign_if (clocked i events s) is e = absurd (is tt)

-- the cells of the list that a process does not assign
pub not_assigned-in : (d : Design) (p : ℕ) (cs : List Cell) (c : Cell) → In c (not_assigned d p cs) → In c cs × (blocking_target d (body_at d p) c ≡ false)
not_assigned-in d p [] c h = absurd h
not_assigned-in d p (b ∷ cs) c h = go (blocking_target d (body_at d p) b) refl h (not_assigned-in d p cs c)
  where
    go : (x : Bool) → blocking_target d (body_at d p) b ≡ x → In c (if x then not_assigned d p cs else b ∷ not_assigned d p cs) → (In c (not_assigned d p cs) → In c cs × (blocking_target d (body_at d p) c ≡ false)) → In c (b ∷ cs) × (blocking_target d (body_at d p) c ≡ false)
    go true e k rest = let r = rest k in (inr r.0, r.1)
    go false e (inl q) rest = (inl q, subst (λ z. blocking_target d (body_at d p) z ≡ false) q e)
    go false e (inr k) rest = let r = rest k in (inr r.0, r.1)

pub strong : (st : Closing) (k : Kept) (p : ℕ) → IsStrong (certainty st k p)
strong st k p = go (list_any (has_changed st k p) (st.tables.watched p))
  where
    unsure : (o : Option ℕ) → IsStrong (certainty_from st o)
    unsure None = tt
    unsure (Some x) = tt

    go : (b : Bool) → IsStrong (if b then clean st.time else certainty_from st (first_unsure st k p (st.tables.watched p)))
    go true = tt
    go false = unsure (first_unsure st k p (st.tables.watched p))

module _ (d : Design) (lawful : IsLawfulDesign d) (dump : BoundDump) (run : Runs) (runs : AreRuns d run) (w : Values Bit) where
  -- the values on which the run of an Assign or Comb is to be right
  abbrev Mixed : ℕ → Values Bit → Values Bit
  Mixed p e c = if blocking_target d (body_at d p) c then e c else w c

  -- on settled values a run leaves each target as it is, where the process has left it so
  pub settling_allowed : (p : ℕ) → (IsClocked (process_at d p) → ⊥) → (k : Kept) → AllowsState k w → (left : IsLeft d p w) → ((c : Cell) → is_comb (process_at d p) ≡ false → left.entry c ≡ w c) → (how : Certainty) → IsStrong how → (c : Cell) → blocking_target d (body_at d p) c ≡ true → Allows ((run p (plain_store (settled_kept d p k)) how).kept c) (w c)
  settling_allowed p is k ok left plain how is_strong c target =
      subst (λ z. Allows z (w c)) (runs.frame_queue p (plain_store (settled_kept d p k)) how c (not_queueing d p c (queues_none d (process_at d p) is (lawful.targets p) c.thing)) (run p (plain_store (settled_kept d p k)) how).kept)
      (subst (Allows (flushed (run p (plain_store (settled_kept d p k)) how) c)) ends (runs.writes_sound p (plain_store (settled_kept d p k)) how is_strong (Mixed p left.entry) (Mixed p left.entry) reads reads c refl))
    where
      reads : AllowsState (settled_kept d p k) (Mixed p left.entry)
      reads b =
          ⊎_elim (λ own. at_true (λ z. Allows z (Mixed p left.entry b)) _ _ _ own tt)
          (λ other. at_false (λ z. Allows z (Mixed p left.entry b)) _ _ _ other (⊎_elim (λ e. at_true (Allows (k b)) _ _ _ e (subst (Allows (k b)) (sym (plain b (not_comb other e))) (ok b))) (λ e. at_false (Allows (k b)) _ _ _ e (ok b)) (cases_Bool (blocking_target d (body_at d p) b)))) (cases_Bool (is_comb (process_at d p) && body_assigns b.thing (body_at d p)))
        where
          not_comb : (is_comb (process_at d p) && body_assigns b.thing (body_at d p)) ≡ false → blocking_target d (body_at d p) b ≡ true → is_comb (process_at d p) ≡ false
          not_comb e f = ⊎_elim (λ x. x) (λ x. absurd (both_ways _ x (blocks_assigns b.thing (body_at d p) (blocks_from d p b f)))) (and_cases (is_comb (process_at d p)) _ e)

      agree : (b : Cell) → body_mentions b.thing (body_at d p) ≡ true → Mixed p left.entry b ≡ left.entry b
      agree b m =
          ⊎_elim (λ e. at_true (λ z. z ≡ left.entry b) _ _ _ e refl) (λ e. at_false (λ z. z ≡ left.entry b) _ _ _ e (sym (left.wakes b (level_mentioned (process_at d p) b.thing is m, e)))) (cases_Bool (blocking_target d (body_at d p) b))

      ends : put_all (Mixed p left.entry) (all_written d (body_at d p) (Mixed p left.entry)) c ≡ w c
      ends =
          ap (λ ws. put_all (Mixed p left.entry) ws c) (same_writes d (body_at d p) (Mixed p left.entry) left.entry agree) ∙ put_same (Mixed p left.entry) left.entry (output (machine d) p left.entry) c (at_true (λ z. z ≡ left.entry c) _ _ _ target refl) ∙ sym (left.leaves c target)

-- the cells of a thing are its own, those of a signal within its width
in_cells : (x n k : ℕ) (c : Cell) → In c (map (cell x) (range_with_len n k)) → (c.thing ≡ x) × (c.place < n + k)
in_cells x n zero c h = absurd h
in_cells x n (suc k) c (inl e) = (ap (λ z. z.thing) (sym e), subst (λ z. z < n + suc k) (ap (λ z. z.place) e) (omega arith))
in_cells x n (suc k) c (inr h) = let r = in_cells x (n + 1) k c h in (r.0, omega (arith, r.1))

pub in_signal : (d : Design) (s : ℕ) (c : Cell) → In c (signal_cells d s) → (c.thing ≡ s) × (c.place < (signal_at d s).width)
in_signal d s c h = let r = in_cells s 0 (signal_at d s).width c h in (r.0, omega (arith, r.1))

pub in_word : (m f : ℕ) (ks : List ℕ) (c : Cell) → In c (map (λ k. cell m (f + k)) ks) → c.thing ≡ m
in_word m f [] c h = absurd h
in_word m f (k ∷ ks) c (inl e) = ap (λ z. z.thing) (sym e)
in_word m f (k ∷ ks) c (inr h) = in_word m f ks c h

in_words : (d : Design) (m : ℕ) (is : List ℕ) (c : Cell) → In c (words_cells d m is) → c.thing ≡ m
in_words d m [] c h = absurd h
in_words d m (i ∷ is) c h = ⊎_elim (λ x. in_word m (i * (memory_at d m).width) (range_with_len 0 (memory_at d m).width) c x) (λ x. in_words d m is c x) (in_halves c (word_cells d m i) (words_cells d m is) h)

pub in_thing : (d : Design) (x : ℕ) (c : Cell) → In c (all_cells d x) → c.thing ≡ x
in_thing d x c h = go (nat_lt x (length d.signals)) h
  where
    go : (b : Bool) → In c (if b then signal_cells d x else words_cells d x (word_indexes d x)) → c.thing ≡ x
    go true k = (in_signal d x c k).0
    go false k = in_words d x (word_indexes d x) c k

pub clean_way : (st : Closing) (k : Kept) (p : ℕ) → is_clean_way (certainty st k p) ≡ true → list_any (has_changed st k p) (st.tables.watched p) ≡ true
clean_way st k p e = go (list_any (has_changed st k p) (st.tables.watched p)) e
  where
    unsure : (o : Option ℕ) → is_clean_way (certainty_from st o) ≡ true → false ≡ true
    unsure None f = f
    unsure (Some x) f = f

    go : (b : Bool) → is_clean_way (if b then clean st.time else certainty_from st (first_unsure st k p (st.tables.watched p))) ≡ true → b ≡ true
    go true f = refl
    go false f = unsure (first_unsure st k p (st.tables.watched p)) f

module _ (d : Design) (lawful : IsLawfulDesign d) (h : Habit) (dump : BoundDump) (fits : IsAnyDumpOf d dump) (run : Runs) (runs : AreRuns d run) (tables : Tables) (tabled : AreTables d dump.bound tables) (t : ℕ) (sets : Sets) (a : Replay) (u w : Values Bit) (facts : StepFacts d h dump t u w) (starts : AllowsState a.kept u) (nets : (p : ℕ) (c : Cell) → is_assign (process_at d p) ≡ true → (machine d).blocking p c ≡ true → w c ≡ put_all w (output (machine d) p w) c) where
  abbrev pub st : Closing
  st = closing_at d dump run tables sets t a

  -- what the Assigns and Combs that ran so far have left
  pub record SettlingSound (wk : Working) : Type 0 where
    pub allowed : AllowsState wk.kept w
    pub made : (c : Cell) → (signal_at d c.thing).input ≡ false → Allows (wk.made c) (w c)
    pub acted : (p : ℕ) → IsComb (process_at d p) → wk.acted p ≡ true → IsLeft d p w

  -- where a wake cell differs at the start and the end, the process has acted
  pub left_by_change : (p : ℕ) (c : Cell) → is_level (process_at d p) c.thing ≡ true → (u c ≡ w c → ⊥) → IsLeft d p w
  left_by_change p c level differ = ⊎_elim (λ l. l) (λ idle. absurd (differ (sym (idle.sensitive c level)))) (facts.settles p)

  pub acts_left : (p : ℕ) → IsComb (process_at d p) → (wk : Working) → SettlingSound wk → acts st p (certainty st wk.kept p) wk ≡ true → IsLeft d p w
  acts_left p is wk inv e = ⊎_elim (inv.acted p is) (λ f. ⊎_elim by_change by_signal (or_cases (is_clean_way (certainty st wk.kept p)) _ f)) (or_cases (wk.acted p) _ e)
    where
      by_change : is_clean_way (certainty st wk.kept p) ≡ true → IsLeft d p w
      by_change f =
          let x = any_in (has_changed st wk.kept p) (tables.watched p) (clean_way st wk.kept p f) in
          let c = any_in (λ c. surely_differ (a.kept c) (wk.kept c)) (wake_cells d p x.0) x.2 in
          left_by_change p c.0 (subst (λ z. is_level (process_at d p) z ≡ true) (sym (in_thing d x.0 c.0 (not_assigned-in d p (all_cells d x.0) c.0 c.1).0)) ((tabled.watched p x.0).0 x.1)) (differ_apart (a.kept c.0) (wk.kept c.0) (u c.0) (w c.0) c.2 (starts c.0) (inv.allowed c.0))

      by_signal : sees_change st p ≡ true → IsLeft d p w
      by_signal f =
          let s = any_in (λ s. dump.bound s && (body_mentions s (body_at d p) && list_any (λ c. surely_differ (a.kept c) (Some (dump.values (suc t) c))) (signal_cells d s))) (range_with_len 0 (length d.signals)) f in
          let both = and_parts (dump.bound s.0) _ s.2 in
          let more = and_parts (body_mentions s.0 (body_at d p)) _ both.1 in
          let c = any_in (λ c. surely_differ (a.kept c) (Some (dump.values (suc t) c))) (signal_cells d s.0) more.1 in
          let at = in_signal d s.0 c.0 c.1 in
          left_by_change p c.0 (level_mentioned (process_at d p) c.0.thing (comb_not_clocked (process_at d p) is) (subst (λ z. body_mentions z (body_at d p) ≡ true) (sym at.0) more.0))
          (differ_apart (a.kept c.0) (Some (dump.values (suc t) c.0)) (u c.0) (w c.0) c.2 (starts c.0) (sym (facts.new c.0 (subst (λ z. dump.bound z ≡ true) (sym at.0) both.0) (subst (λ z. c.0.place < (signal_at d z).width) (sym at.0) at.1))))

  -- what a run makes of a target is allowed, where it is kept
  made_allowed : (p : ℕ) → (IsClocked (process_at d p) → ⊥) → (wk : Working) → SettlingSound wk → (not (is_comb (process_at d p)) || acts st p (certainty st wk.kept p) wk) ≡ true → (c : Cell) → blocking_target d (body_at d p) c ≡ true → Allows ((run p (plain_store (settled_kept d p wk.kept)) (certainty st wk.kept p)).kept c) (w c)
  made_allowed p is wk inv holds c target = ⊎_elim of_comb of_assign (cases_Bool (is_comb (process_at d p)))
    where
      of_comb : is_comb (process_at d p) ≡ true → Allows ((run p (plain_store (settled_kept d p wk.kept)) (certainty st wk.kept p)).kept c) (w c)
      of_comb e =
          settling_allowed d lawful dump run runs w p is wk.kept inv.allowed (acts_left p (is_comb-from (process_at d p) e) wk inv (⊎_elim (λ x. absurd (both_ways _ (not_from_true _ e) x)) (λ x. x) (or_cases (not (is_comb (process_at d p))) _ holds)))
          (λ b f. absurd (both_ways _ f e)) (certainty st wk.kept p) (strong st wk.kept p) c target

      of_assign : is_comb (process_at d p) ≡ false → Allows ((run p (plain_store (settled_kept d p wk.kept)) (certainty st wk.kept p)).kept c) (w c)
      of_assign e =
          settling_allowed d lawful dump run runs w p is wk.kept inv.allowed (record { entry = w; wakes = λ b wake. refl; leaves = λ b at. nets p b (assign_if (process_at d p) is e) at }) (λ b f. refl) (certainty st wk.kept p) (strong st wk.kept p) c target

  pub run_sound : (ordered : Bool) (p : ℕ) → (IsClocked (process_at d p) → ⊥) → (wk : Working) → SettlingSound wk → SettlingSound (run_settling st ordered p wk)
  run_sound ordered p is wk inv = ⊎_elim (λ e. at_true SettlingSound _ _ _ e ran) (λ e. at_false SettlingSound _ _ _ e inv) (cases_Bool (is_touched st p))
    where
      o : Outcome
      o = run p (plain_store (settled_kept d p wk.kept)) (certainty st wk.kept p)

      ran : SettlingSound (after_settling st ordered p (certainty st wk.kept p) (run p (plain_store (settled_kept d p wk.kept)) (certainty st wk.kept p)) wk)
      ran =
          record {
            allowed = λ c. ⊎_elim (λ e. at_true (λ z. Allows z (w c)) _ _ _ e (⊎_elim (λ f. at_true (λ z. Allows z (w c)) _ _ _ f (made_allowed p is wk inv (and_parts ordered _ f).1 c (and_parts (blocking_target d (body_at d p) c) _ e).0)) (λ f. at_false (λ z. Allows z (w c)) _ _ _ f tt) (cases_Bool (ordered && (not (is_comb (process_at d p)) || acts st p (certainty st wk.kept p) wk))))) (λ e. at_false (λ z. Allows z (w c)) _ _ _ e (inv.allowed c)) (cases_Bool (blocking_target d (body_at d p) c && not (is_dumped d dump.bound c)));
            made = λ c plain. ⊎_elim (λ e. at_true (λ z. Allows z (w c)) _ _ _ e (⊎_elim (λ f. at_true (λ z. Allows z (w c)) _ _ _ f (made_allowed p is wk inv f c e)) (λ f. at_false (λ z. Allows z (w c)) _ _ _ f tt) (cases_Bool (not (is_comb (process_at d p)) || acts st p (certainty st wk.kept p) wk)))) (λ e. at_false (λ z. Allows z (w c)) _ _ _ e (inv.made c plain)) (cases_Bool (blocking_target d (body_at d p) c));
            acted = λ q a_comb. ⊎_elim (λ e. own q a_comb (eqb-true q p e) e) (λ e x. inv.acted q a_comb (subst (λ z. (if z then acts st p (certainty st wk.kept p) wk else wk.acted q) ≡ true) e x)) (cases_Bool (q == p));
          }
        where
          own : (q : ℕ) → IsComb (process_at d q) → q ≡ p → (q == p) ≡ true → (if q == p then acts st p (certainty st wk.kept p) wk else wk.acted q) ≡ true → IsLeft d q w
          own q a_comb e f x = subst (λ z. IsLeft d z w) (sym e) (acts_left p (subst (λ z. IsComb (process_at d z)) e a_comb) wk inv (subst (λ z. (if z then acts st p (certainty st wk.kept p) wk else wk.acted q) ≡ true) f x))

  pub run_all_sound : (ordered : Bool) (ps : List ℕ) → ((p : ℕ) → In p ps → IsClocked (process_at d p) → ⊥) → (wk : Working) → SettlingSound wk → SettlingSound (run_all_settling st ordered ps wk)
  run_all_sound ordered [] is wk inv = inv
  run_all_sound ordered (p ∷ ps) is wk inv = run_all_sound ordered ps (λ q h. is q (inr h)) (run_settling st ordered p wk) (run_sound ordered p (is p (inl refl)) wk inv)
