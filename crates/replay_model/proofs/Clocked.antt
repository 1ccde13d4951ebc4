-- The Clocked processes of a closing step: what their runs leave allows the settled values at the step's end.
use Rattle.std.proofs.Common.{◌≡◌, ◌⊎◌, inl, inr, ⊎_elim, ℕ, suc, ◌<◌, ◌≤◌, Bool, true, false, ◌||◌, ◌==◌, List, [], ◌∷◌, ◌++◌, refl, sym, ap, subst, ◌∙◌, arith, Option, Some, None, if◌then◌else◌}
use Rattle.std.proofs.lemmas.Bool.{and_parts, and_from, both_ways, cases_Bool, eqb-true, eq-eqb, ne_eqb, false_from_ne_true, ltb-true, lt-ltb, or_from, or_left, or_right}
use Rattle.event_machine.specs.Cell.{Cell, Update, UpdatesCell, Values, WritesCell, put_all, join}
use Rattle.event_machine.specs.Machine.{IsTarget, output}
use Rattle.event_machine.specs.Step.{outputs}
use Rattle.event_machine.specs.Habit.{Habit}
use Rattle.event_machine.specs.Laws.{EarlyLaw}
use Rattle.design_model.specs.four_state.declared.bit.Bit.{Bit}
use Rattle.design_model.specs.Tree.{Stmt}
use Rattle.design_model.specs.Design.{AreDistinct, Design, In, IsClocked, body_at, cell, process_at, signal_at}
use Rattle.design_model.specs.Mentions.{body_assigns, body_blocks, body_queues}
use Rattle.design_model.specs.Execution.{execution}
use Rattle.design_model.specs.Machine.{machine}
use Rattle.design_model.specs.Shows.{BoundDump}
use Rattle.design_model.specs.MayMove.{CanWakeSome, IsCleanAt}
use Rattle.design_model.specs.Early.{IsEarlyAt}
use Rattle.design_model.specs.Lawful.{IsLawfulDesign}
use Rattle.design_model.proofs.Assigns.{machine_lawful}
use Rattle.design_model.proofs.Lawful.{edge_one}
use Rattle.design_model.proofs.Named.{WritesCell-halves}
use Rattle.design_model.proofs.WithinMap.{put_append, put_same}
use Rattle.design_model.proofs.Untouched.{put_other}
use Rattle.design_model.specs.StepLaws.{CleanEvaluation, StepFacts}
use Rattle.hidden_times.specs.Hidden.{IsAnyDumpOf}
use Rattle.body_replay.specs.Contract.{Arises, Outcome, acts, all_written, applies, clean, flushed, same, weak}
use Rattle.body_replay.specs.KnownBits.{Allows}
use Rattle.body_replay.specs.Replay.{flush}
use Rattle.body_replay.specs.Runs.{AreRuns, Runs, seen_of}
use Rattle.body_replay.specs.Store.{AllowsState, Kept}
use Rattle.body_replay.specs.known_state.Join.{join_bit}
use Rattle.replay_model.specs.Sets.{AreSets, Sets}
use Rattle.replay_model.specs.Tables.{AreTables, Tables}
use Rattle.replay_model.specs.Step.{Closing, Replay, Working, after_clocked, clean_order, clean_store, clocked_run, dumped, is_dumped, opened, plain_store, run_all_clean, run_all_weak, run_clean, run_weak}
use Rattle.replay_model.specs.Laws.{closing_at}
use Rattle.replay_model.proofs.Bits.{flush_append, flush_same, in_left, join_left, join_right}
use Rattle.replay_model.proofs.Targets.{blocks_assigns, blocks_not_queues, input_unassigned, not_blocking, not_queueing, one_assigner, own_not_early, queues_assigns, queues_from, target_assigns, target_or}
use Rattle.replay_model.proofs.Rounds.{AreSorted, in_order, order_distinct, order_in, order_sorted, others_early, own_not_trigger}

pub at_true : {A : Type 0} (P : A → Type 0) (b : Bool) (x y : A) → b ≡ true → P x → P (if b then x else y)
at_true P b x y e h = subst (λ z. P (if z then x else y)) (sym e) h

pub at_false : {A : Type 0} (P : A → Type 0) (b : Bool) (x y : A) → b ≡ false → P y → P (if b then x else y)
at_false P b x y e h = subst (λ z. P (if z then x else y)) (sym e) h

join_none : (p : Option Bit) (b : Bit) → Allows (join_bit p None) b
join_none None b = tt
join_none (Some a) b = tt

-- updates of an execution, one after the other
arises_updates : (d : Design) (b : Stmt) (k w v : Values Bit) (us : List (Update Bit)) → ((x : Update Bit) → In x us → In x (execution d b v).nonblocking) → Arises d b k w → Arises d b k (put_all w (join us))
arises_updates d b k w v [] some a = a
arises_updates d b k w v (x ∷ us) some a =
    subst (Arises d b k) (sym (put_append w x (join us))) (arises_updates d b k (put_all w x) v us (λ y h. some y (inr h)) (applies v x (some x (inl refl)) a))

-- what all executions of a process write, in order
pub arises_outputs : (d : Design) (p : ℕ) (k w : Values Bit) (vs : List (Values Bit)) → Arises d (body_at d p) k w → Arises d (body_at d p) k (put_all w (outputs (machine d) p vs))
arises_outputs d p k w [] a = a
arises_outputs d p k w (v ∷ vs) a =
    subst (Arises d (body_at d p) k) (sym (put_append w (output (machine d) p v) (outputs (machine d) p vs)))
    (arises_outputs d p k (put_all w (output (machine d) p v)) vs
    (subst (Arises d (body_at d p) k) (sym (put_append w (execution d (body_at d p) v).blocking (join (execution d (body_at d p) v).nonblocking))) (arises_updates d (body_at d p) k _ v (execution d (body_at d p) v).nonblocking (λ y h. h) (acts v a))))

pub UpdatesCell-join : (us : List (Update Bit)) (c : Cell) → WritesCell (join us) c → UpdatesCell us c
UpdatesCell-join [] c h = h
UpdatesCell-join (u ∷ us) c h = ⊎_elim (λ a. inl a) (λ b. inr (UpdatesCell-join us c b)) (WritesCell-halves u (join us) c h)

-- an evaluation writes targets alone
pub output_targets : (d : Design) → IsLawfulDesign d → (p : ℕ) (v : Values Bit) (c : Cell) → WritesCell (output (machine d) p v) c → IsTarget (machine d) p c
output_targets d lawful p v c h =
    ⊎_elim (λ a. inl ((machine_lawful d lawful).blocking_kept p v c a)) (λ a. inr ((machine_lawful d lawful).nonblocking_kept p v c (UpdatesCell-join _ c a))) (WritesCell-halves (execution d (body_at d p) v).blocking _ c h)

outputs_targets : (d : Design) → IsLawfulDesign d → (p : ℕ) (vs : List (Values Bit)) (c : Cell) → WritesCell (outputs (machine d) p vs) c → IsTarget (machine d) p c
outputs_targets d lawful p [] c h = absurd h
outputs_targets d lawful p (v ∷ vs) c h = ⊎_elim (λ a. output_targets d lawful p v c a) (λ a. outputs_targets d lawful p vs c a) (WritesCell-halves (output (machine d) p v) _ c h)

pub distinct_left : (xs ys : List ℕ) → AreDistinct (xs ++ ys) → AreDistinct xs
distinct_left [] ys once = tt
distinct_left (x ∷ xs) ys once = (λ h. once.0 (in_left x xs ys h), distinct_left xs ys once.1)

module _ (d : Design) (lawful : IsLawfulDesign d) (h : Habit) (early_law : EarlyLaw (machine d)) (dump : BoundDump) (fits : IsAnyDumpOf d dump) (run : Runs) (runs : AreRuns d run) (tables : Tables) (t : ℕ) (sets : Sets) (are : AreSets d h dump (suc t) sets) (a : Replay) (u w : Values Bit) (facts : StepFacts d h dump t u w) (starts : AllowsState a.kept u) where
  abbrev st : Closing
  st = closing_at d dump run tables sets t a

  -- what the Clocked that ran so far have left
  pub record ClockedSound (Ran : ℕ → Type 0) (wk : Working) : Type 0 where
    pub mid : Values Bit
    pub allowed : AllowsState wk.kept mid
    pub start_or : (c : Cell) → (mid c ≡ u c) ⊎ ((q : ℕ) × Ran q × ((machine d).blocking q c ≡ true))
    pub unqueued : (c : Cell) → ((q : ℕ) → Ran q → body_assigns c.thing (body_at d q) ≡ true → ⊥) → (k : Kept) → flush k wk.queue c ≡ k c
    pub final : (q : ℕ) → Ran q → (c : Cell) → body_assigns c.thing (body_at d q) ≡ true → Allows (flush wk.kept wk.queue c) (w c)

  -- what a run of one of them does
  pub record Leaves (p : ℕ) (wk : Working) (o : Outcome) : Type 0 where
    pub target : (c : Cell) → body_assigns c.thing (body_at d p) ≡ true → Allows (flushed o c) (w c)
    pub frame : (c : Cell) → body_blocks c.thing (body_at d p) ≡ false → o.kept c ≡ wk.kept c
    pub frame_queue : (c : Cell) → body_queues c.thing (body_at d p) ≡ false → (k : Kept) → flush k o.queue c ≡ k c

  -- a bit of what a Clocked assigns that it does not write itself
  own_stays : (p : ℕ) → IsClocked (process_at d p) → (c : Cell) → body_assigns c.thing (body_at d p) ≡ true → (IsTarget (machine d) p c → ⊥) → w c ≡ u c
  own_stays p is c mine away =
      facts.unwritten c (λ input. input_unassigned d lawful p c.thing (and_parts (signal_at d c.thing).input _ input).0 mine) (λ q at. away (subst (λ z. IsTarget (machine d) z c) (one_assigner d lawful p q c.thing is mine (target_assigns d lawful q c at)) at))

  after : (Ran : ℕ → Type 0) (wk : Working) (p : ℕ) (o : Outcome) → ClockedSound Ran wk → (Ran p → ⊥) → IsClocked (process_at d p) → Leaves p wk o → ClockedSound (λ q. Ran q ⊎ (q ≡ p)) (after_clocked st p o wk)
  after Ran wk p o inv fresh is leaves =
      record {
        mid = λ c. if body_blocks c.thing (body_at d p) then w c else inv.mid c;
        allowed = λ c. allowed' c (cases_Bool (body_blocks c.thing (body_at d p)));
        start_or = λ c. same' c (cases_Bool (body_blocks c.thing (body_at d p)));
        unqueued = λ c none k. ap (λ f. f c) (flush_append wk.queue o.queue k) ∙ leaves.frame_queue c (false_from_ne_true _ (λ e. none p (inr refl) (queues_assigns c.thing (body_at d p) e))) (flush k wk.queue) ∙ inv.unqueued c (λ q ran mine. none q (inl ran) mine) k;
        final = λ q ran c mine. ⊎_elim (λ before. later q before c mine) (λ e. now c (subst (λ z. body_assigns c.thing (body_at d z) ≡ true) e mine)) ran;
      }
    where
      allowed' : (c : Cell) → (body_blocks c.thing (body_at d p) ≡ true) ⊎ (body_blocks c.thing (body_at d p) ≡ false) → Allows (o.kept c) (if body_blocks c.thing (body_at d p) then w c else inv.mid c)
      allowed' c (inl e) =
          at_true (Allows (o.kept c)) _ _ _ e (subst (λ z. Allows z (w c)) (leaves.frame_queue c (blocks_not_queues d lawful p p c.thing e) o.kept) (leaves.target c (blocks_assigns c.thing (body_at d p) e)))
      allowed' c (inr e) = at_false (Allows (o.kept c)) _ _ _ e (subst (λ z. Allows z (inv.mid c)) (sym (leaves.frame c e)) (inv.allowed c))

      same' : (c : Cell) → (body_blocks c.thing (body_at d p) ≡ true) ⊎ (body_blocks c.thing (body_at d p) ≡ false) → ((if body_blocks c.thing (body_at d p) then w c else inv.mid c) ≡ u c) ⊎ ((q : ℕ) × (Ran q ⊎ (q ≡ p)) × ((machine d).blocking q c ≡ true))
      same' c (inl e) =
          ⊎_elim (λ b. inr (p, inr refl, b))
          (λ b. inl (at_true (λ z. z ≡ u c) _ _ _ e (own_stays p is c (blocks_assigns c.thing (body_at d p) e) (λ target. ⊎_elim (λ x. both_ways _ b x) (λ x. both_ways _ (blocks_not_queues d lawful p p c.thing e) (queues_from d p c x)) target)))) (cases_Bool ((machine d).blocking p c))
      same' c (inr e) = ⊎_elim (λ s. inl (at_false (λ z. z ≡ u c) _ _ _ e s)) (λ s. inr (s.0, inl s.1, s.2)) (inv.start_or c)

      now : (c : Cell) → body_assigns c.thing (body_at d p) ≡ true → Allows (flush o.kept (wk.queue ++ o.queue) c) (w c)
      now c mine =
          subst (λ z. Allows z (w c)) (sym (ap (λ f. f c) (flush_append wk.queue o.queue o.kept) ∙ flush_same o.queue (flush o.kept wk.queue) o.kept c (inv.unqueued c (λ q ran theirs. fresh (subst Ran (one_assigner d lawful p q c.thing is mine theirs) ran)) o.kept))) (leaves.target c mine)

      later : (q : ℕ) → Ran q → (c : Cell) → body_assigns c.thing (body_at d q) ≡ true → Allows (flush o.kept (wk.queue ++ o.queue) c) (w c)
      later q ran c theirs =
          subst (λ z. Allows z (w c)) (sym (ap (λ f. f c) (flush_append wk.queue o.queue o.kept) ∙ leaves.frame_queue c (false_from_ne_true _ (λ e. not_mine (queues_assigns c.thing (body_at d p) e))) (flush o.kept wk.queue) ∙ flush_same wk.queue o.kept wk.kept c (leaves.frame c (false_from_ne_true _ (λ e. not_mine (blocks_assigns c.thing (body_at d p) e)))))) (inv.final q ran c theirs)
        where
          not_mine : body_assigns c.thing (body_at d p) ≡ true → ⊥
          not_mine mine = fresh (subst Ran (one_assigner d lawful p q c.thing is mine theirs) ran)

  -- before p has run, no other has written what it assigns
  own_before : (Ran : ℕ → Type 0) (wk : Working) (inv : ClockedSound Ran wk) (p : ℕ) → IsClocked (process_at d p) → (Ran p → ⊥) → (c : Cell) → body_assigns c.thing (body_at d p) ≡ true → inv.mid c ≡ u c
  own_before Ran wk inv p is fresh c mine =
      ⊎_elim (λ e. e) (λ s. absurd (fresh (subst Ran (one_assigner d lawful p s.0 c.thing is mine (target_assigns d lawful s.0 c (inl s.2))) s.1))) (inv.start_or c)

  -- those that have run are clean, and of no later round than p
  abbrev AllBefore : (ℕ → Type 0) → ℕ → Type 0
  AllBefore Ran p = (q : ℕ) → Ran q → (x : ℕ) × (sets.trigger q ≡ Some x) × (sets.round q ≤ sets.round p)

  -- what a clean block reads allows the values on which it is evaluated
  module _ (Ran : ℕ → Type 0) (wk : Working) (inv : ClockedSound Ran wk) (p : ℕ) (all_before : AllBefore Ran p) (fresh : Ran p → ⊥) (s : ℕ) (has : sets.trigger p ≡ Some s) (evaluated : CleanEvaluation d h dump t u w p (cell s 0)) where
    abbrev is_clean : IsCleanAt d dump (suc t) p (cell s 0)
    is_clean = are.trigger p s has

    one_bit : (signal_at d s).width ≡ 1
    one_bit = (edge_one d (process_at d p) is_clean.can_wake.0.0 (cell s 0) is_clean.can_wake.0.1 (lawful.events p)).2

    same_cells : (b c : Cell) → b.thing ≡ c.thing → b.place ≡ c.place → b ≡ c
    same_cells b c e f = λ i. record { thing = e i; place = f i }

    of_dumped : (c : Cell) → c.thing ≡ s → (is_dumped d dump.bound c ≡ true) ⊎ (is_dumped d dump.bound c ≡ false) → Allows (dumped st c) (evaluated.entry c)
    of_dumped c e (inr x) = at_false (λ z. Allows z (evaluated.entry c)) _ _ _ x tt
    of_dumped c e (inl x) = at_true (λ z. Allows z (evaluated.entry c)) _ _ _ x (subst (λ z. dump.values (suc t) z ≡ evaluated.entry z) (same_cells (cell s 0) c (sym e) (sym first)) (sym evaluated.trigger))
      where
        below : c.place < (signal_at d s).width
        below = subst (λ z. c.place < (signal_at d z).width) e (ltb-true _ _ (and_parts (dump.bound c.thing) _ x).1)

        first : c.place ≡ 0
        first = omega (arith, below, one_bit)

    at_trigger : (c : Cell) → (c.thing == s) ≡ true → Allows (seen_of (clean_store st p s wk) c) (evaluated.entry c)
    at_trigger c e =
        at_true (λ z. Allows z (evaluated.entry c)) _ _ _ (or_left (c.thing == s) _ e) (at_true (λ z. Allows z (evaluated.entry c)) _ _ _ e (of_dumped c (eqb-true c.thing s e) (cases_Bool (is_dumped d dump.bound c))))

    of_input : (c : Cell) → (signal_at d c.thing).input ≡ true → (is_dumped d dump.bound c ≡ true) ⊎ (is_dumped d dump.bound c ≡ false) → Allows (join_bit (a.kept c) (dumped st c)) (evaluated.entry c)
    of_input c input (inr x) = at_false (λ z. Allows (join_bit (a.kept c) z) (evaluated.entry c)) _ _ _ x (join_none (a.kept c) (evaluated.entry c))
    of_input c input (inl x) =
        at_true (λ z. Allows (join_bit (a.kept c) z) (evaluated.entry c)) _ _ _ x
        (⊎_elim (λ old. join_left (a.kept c) (Some (dump.values (suc t) c)) (evaluated.entry c) (subst (Allows (a.kept c)) (facts.old c bound below ∙ sym old) (starts c))) (λ new. join_right (a.kept c) (Some (dump.values (suc t) c)) (evaluated.entry c) (sym new))
        (evaluated.inputs c (and_from (signal_at d c.thing).input _ input (lt-ltb _ _ below)) bound))
      where
        bound : dump.bound c.thing ≡ true
        bound = (and_parts (dump.bound c.thing) _ x).0

        below : c.place < (signal_at d c.thing).width
        below = ltb-true _ _ (and_parts (dump.bound c.thing) _ x).1

    at_early : (c : Cell) → (c.thing == s) ≡ false → sets.early p c.thing ≡ true → Allows (seen_of (clean_store st p s wk) c) (evaluated.entry c)
    at_early c e early =
        at_true (λ z. Allows z (evaluated.entry c)) _ _ _ (or_right (c.thing == s) _ early)
        (at_false (λ z. Allows z (evaluated.entry c)) _ _ _ e (⊎_elim (λ i. at_true (λ z. Allows z (evaluated.entry c)) _ _ _ i (of_input c i (cases_Bool (is_dumped d dump.bound c)))) (λ i. at_false (λ z. Allows z (evaluated.entry c)) _ _ _ i tt) (cases_Bool (signal_at d c.thing).input)))

    at_other : (c : Cell) → (c.thing == s) ≡ false → sets.early p c.thing ≡ false → Allows (seen_of (clean_store st p s wk) c) (evaluated.entry c)
    at_other c e_off late = at_false (λ z. Allows z (evaluated.entry c)) _ _ _ (or_from (c.thing == s) _ e_off late) (⊎_elim kept moved (inv.start_or c))
      where
        not_early : IsEarlyAt d h dump (suc t) p (cell s 0) c.thing → ⊥
        not_early x = both_ways _ late ((are.early p (cell s 0) is_clean c.thing).1 x)

        is_start : evaluated.entry c ≡ u c
        is_start = evaluated.others c (λ q. both_ways _ e_off (eq-eqb c.thing s q)) not_early

        kept : inv.mid c ≡ u c → Allows (wk.kept c) (evaluated.entry c)
        kept m = subst (Allows (wk.kept c)) (m ∙ sym is_start) (inv.allowed c)

        moved : (q : ℕ) × Ran q × ((machine d).blocking q c ≡ true) → Allows (wk.kept c) (evaluated.entry c)
        moved q =
            let before = all_before q.0 q.1 in
            absurd (not_early (others_early d lawful dump (suc t) h p q.0 (cell s 0) (cell before.0 0) is_clean (are.trigger q.0 before.0 before.1) (sets.round p) (sets.round q.0) (are.round p s has) (are.round q.0 before.0 before.1) before.2 (λ e. fresh (subst Ran e q.1)) c q.2 (λ e. both_ways _ e_off (eq-eqb c.thing s e))))

    pub reads_entry : AllowsState (seen_of (clean_store st p s wk)) evaluated.entry
    reads_entry c = ⊎_elim (at_trigger c) (λ e. ⊎_elim (at_early c e) (at_other c e) (cases_Bool (sets.early p c.thing))) (cases_Bool (c.thing == s))

    own_shown : IsClocked (process_at d p) → (c : Cell) → body_assigns c.thing (body_at d p) ≡ true → ((c.thing == s) || sets.early p c.thing) ≡ false
    own_shown is c mine =
        or_from (c.thing == s) _ (ne_eqb c.thing s (λ e. own_not_trigger d lawful dump (suc t) p (cell s 0) is_clean (sets.round p) (are.round p s has) (subst (λ z. body_assigns z (body_at d p) ≡ true) e mine)))
        (false_from_ne_true _ (λ e. own_not_early d lawful h dump (suc t) early_law p (cell s 0) is is_clean c.thing mine ((are.early p (cell s 0) is_clean c.thing).0 e)))

    pub clean_leaves : IsClocked (process_at d p) → Leaves p wk (run p (clean_store st p s wk) (clean (suc t)))
    clean_leaves is =
        record {
          target = λ c mine. subst (Allows (flushed (run p (clean_store st p s wk) (clean (suc t))) c)) (ends c mine) (runs.writes_sound p (clean_store st p s wk) (clean (suc t)) tt evaluated.entry inv.mid reads_entry inv.allowed c (own_shown is c mine));
          frame = λ c e. runs.frame p (clean_store st p s wk) (clean (suc t)) c (not_blocking d p c e);
          frame_queue = λ c e. runs.frame_queue p (clean_store st p s wk) (clean (suc t)) c (not_queueing d p c e);
        }
      where
        ends : (c : Cell) → body_assigns c.thing (body_at d p) ≡ true → put_all inv.mid (all_written d (body_at d p) evaluated.entry) c ≡ w c
        ends c mine =
            put_same inv.mid u (all_written d (body_at d p) evaluated.entry) c (own_before Ran wk inv p is fresh c mine)
            ∙ ⊎_elim (λ target. sym (evaluated.leaves c target)) (λ away. put_other u (all_written d (body_at d p) evaluated.entry) c (λ x. away (output_targets d lawful p evaluated.entry c x)) ∙ sym (own_stays p is c mine away)) (target_or d p c)

  weak_leaves : (Ran : ℕ → Type 0) (wk : Working) (inv : ClockedSound Ran wk) (p : ℕ) → (Ran p → ⊥) → IsClocked (process_at d p) → (thing : ℕ) → Leaves p wk (run p (plain_store wk.kept) (weak (suc t) thing))
  weak_leaves Ran wk inv p fresh is thing =
      record {
        target = λ c mine. subst (Allows (flushed (run p (plain_store wk.kept) (weak (suc t) thing)) c)) (ends c mine) (runs.weak_sound p (plain_store wk.kept) (suc t) thing inv.mid (put_all inv.mid (outputs (machine d) p vs)) inv.allowed (arises_outputs d p inv.mid inv.mid vs same) c);
        frame = λ c e. runs.frame p (plain_store wk.kept) (weak (suc t) thing) c (not_blocking d p c e);
        frame_queue = λ c e. runs.frame_queue p (plain_store wk.kept) (weak (suc t) thing) c (not_queueing d p c e);
      }
    where
      vs : List (Values Bit)
      vs = (facts.evaluated p).0

      ends : (c : Cell) → body_assigns c.thing (body_at d p) ≡ true → put_all inv.mid (outputs (machine d) p (facts.evaluated p).0) c ≡ w c
      ends c mine =
          put_same inv.mid u (outputs (machine d) p (facts.evaluated p).0) c (own_before Ran wk inv p is fresh c mine)
          ∙ ⊎_elim (λ target. sym ((facts.evaluated p).1 c target)) (λ away. put_other u (outputs (machine d) p (facts.evaluated p).0) c (λ x. away (outputs_targets d lawful p (facts.evaluated p).0 c x)) ∙ sym (own_stays p is c mine away)) (target_or d p c)

  -- the same of a set with the same members
  renamed : (Ran Ran' : ℕ → Type 0) (wk : Working) → ((q : ℕ) → Ran q → Ran' q) → ((q : ℕ) → Ran' q → Ran q) → ClockedSound Ran wk → ClockedSound Ran' wk
  renamed Ran Ran' wk to from inv =
      record {
        mid = inv.mid;
        allowed = inv.allowed;
        start_or = λ c. ⊎_elim (λ e. inl e) (λ s. inr (s.0, to s.0 s.1, s.2)) (inv.start_or c);
        unqueued = λ c none k. inv.unqueued c (λ q ran mine. none q (to q ran) mine) k;
        final = λ q ran c mine. inv.final q (from q ran) c mine;
      }

  -- a Clocked that runs clean, and one that runs weak
  abbrev pub RanClean : ℕ → Type 0
  RanClean q = (s : ℕ) × (sets.trigger q ≡ Some s)

  abbrev pub RanWeak : ℕ → Type 0
  RanWeak q = (sets.trigger q ≡ None) × ((s : ℕ) × (sets.wakes q ≡ Some s))

  some_none : (o : Option ℕ) (s : ℕ) → o ≡ Some s → o ≡ None → ⊥
  some_none o s e f = cc

  at_process : (P : ℕ → Type 0) (p q : ℕ) → q ≡ p → P p → P q
  at_process P p q e h = subst P (sym e) h

  abbrev Wider : (ℕ → Type 0) → (ℕ → Type 0) → ℕ → ℕ → Type 0
  Wider Ran Of p q = Ran q ⊎ ((q ≡ p) × Of q)

  clean_one : (Ran : ℕ → Type 0) (wk : Working) → ClockedSound Ran wk → (p : ℕ) → AllBefore Ran p → (Ran p → ⊥) → IsClocked (process_at d p) → (o : Option ℕ) → sets.trigger p ≡ o → ClockedSound (Wider Ran RanClean p) (run_clean st o p wk)
  clean_one Ran wk inv p all_before fresh is None e =
      renamed Ran (Wider Ran RanClean p) wk (λ q r. inl r) (λ q r. ⊎_elim (λ x. x) (λ x. absurd (some_none (sets.trigger p) x.1.0 (subst (λ z. sets.trigger z ≡ Some x.1.0) x.0 x.1.1) e)) r) inv
  clean_one Ran wk inv p all_before fresh is (Some s) e =
      renamed (λ q. Ran q ⊎ (q ≡ p)) (Wider Ran RanClean p) (after_clocked st p (run p (clean_store st p s wk) (clean (suc t))) wk) (λ q r. ⊎_elim (λ x. inl x) (λ x. inr (x, at_process RanClean p q x (s, e))) r) (λ q r. ⊎_elim (λ x. inl x) (λ x. inr x.0) r)
      (after Ran wk p (run p (clean_store st p s wk) (clean (suc t))) inv fresh is (clean_leaves Ran wk inv p all_before fresh s e (facts.clean p (cell s 0) (are.trigger p s e)) is))

  abbrev Also : (ℕ → Type 0) → (ℕ → Type 0) → List ℕ → ℕ → Type 0
  Also Ran Of ps q = Ran q ⊎ (In q ps × Of q)

  distinct_head : (p q : ℕ) (ps : List ℕ) → AreDistinct (p ∷ ps) → In q ps → q ≡ p → ⊥
  distinct_head p q ps once h e = once.0 (subst (λ z. In z ps) e h)

  wider_also : (Ran Of : ℕ → Type 0) (p : ℕ) (ps : List ℕ) (q : ℕ) → Also (Wider Ran Of p) Of ps q → Also Ran Of (p ∷ ps) q
  wider_also Ran Of p ps q (inl (inl r)) = inl r
  wider_also Ran Of p ps q (inl (inr r)) = inr (inl (sym r.0), r.1)
  wider_also Ran Of p ps q (inr r) = inr (inr r.0, r.1)

  also_wider : (Ran Of : ℕ → Type 0) (p : ℕ) (ps : List ℕ) (q : ℕ) → Also Ran Of (p ∷ ps) q → Also (Wider Ran Of p) Of ps q
  also_wider Ran Of p ps q (inl r) = inl (inl r)
  also_wider Ran Of p ps q (inr r) = ⊎_elim (λ e. inl (inr (sym e, r.1))) (λ h. inr (h, r.1)) r.0

  clean_all : (Ran : ℕ → Type 0) (ps : List ℕ) (wk : Working) → ClockedSound Ran wk → ((p : ℕ) → In p ps → AllBefore Ran p) → ((q : ℕ) → In q ps → Ran q → ⊥) → AreDistinct ps → AreSorted sets.round ps → ((q : ℕ) → In q ps → IsClocked (process_at d q)) → ClockedSound (Also Ran RanClean ps) (run_all_clean st ps wk)
  clean_all Ran [] wk inv all_before fresh once sorted is = renamed Ran (Also Ran RanClean []) wk (λ q r. inl r) (λ q r. ⊎_elim (λ x. x) (λ x. absurd x.0) r) inv
  clean_all Ran (p ∷ ps) wk inv all_before fresh once sorted is =
      renamed (Also (Wider Ran RanClean p) RanClean ps) (Also Ran RanClean (p ∷ ps)) (run_all_clean st ps (run_clean st (sets.trigger p) p wk)) (wider_also Ran RanClean p ps) (also_wider Ran RanClean p ps)
      (clean_all (Wider Ran RanClean p) ps (run_clean st (sets.trigger p) p wk) (clean_one Ran wk inv p (all_before p (inl refl)) (fresh p (inl refl)) (is p (inl refl)) (sets.trigger p) refl)
      (λ r h q ran. ⊎_elim (all_before r (inr h) q) (λ x. (x.1.0, x.1.1, subst (λ z. sets.round z ≤ sets.round r) (sym x.0) (sorted.0 r h))) ran)
      (λ q h r. ⊎_elim (fresh q (inr h)) (λ x. distinct_head p q ps once h x.0) r) once.1 sorted.1 (λ q h. is q (inr h)))

  weak_one : (Ran : ℕ → Type 0) (wk : Working) → ClockedSound Ran wk → (p : ℕ) → (RanWeak p → Ran p → ⊥) → IsClocked (process_at d p) → (o : Option ℕ) → sets.trigger p ≡ o → (n : Option ℕ) → sets.wakes p ≡ n → ClockedSound (Wider Ran RanWeak p) (run_weak st o n p wk)
  weak_one Ran wk inv p fresh is (Some s) e n f =
      renamed Ran (Wider Ran RanWeak p) wk (λ q r. inl r) (λ q r. ⊎_elim (λ x. x) (λ x. absurd (some_none (sets.trigger p) s e (subst (λ z. sets.trigger z ≡ None) x.0 x.1.0))) r) inv
  weak_one Ran wk inv p fresh is None e None f =
      renamed Ran (Wider Ran RanWeak p) wk (λ q r. inl r) (λ q r. ⊎_elim (λ x. x) (λ x. absurd (some_none (sets.wakes p) x.1.1.0 (subst (λ z. sets.wakes z ≡ Some x.1.1.0) x.0 x.1.1.1) f)) r) inv
  weak_one Ran wk inv p fresh is None e (Some thing) f =
      renamed (λ q. Ran q ⊎ (q ≡ p)) (Wider Ran RanWeak p) (after_clocked st p (run p (plain_store wk.kept) (weak (suc t) thing)) wk) (λ q r. ⊎_elim (λ x. inl x) (λ x. inr (x, at_process RanWeak p q x (e, (thing, f)))) r) (λ q r. ⊎_elim (λ x. inl x) (λ x. inr x.0) r)
      (after Ran wk p (run p (plain_store wk.kept) (weak (suc t) thing)) inv (fresh (e, (thing, f))) is (weak_leaves Ran wk inv p (fresh (e, (thing, f))) is thing))

  weak_all : (Ran : ℕ → Type 0) (ps : List ℕ) (wk : Working) → ClockedSound Ran wk → ((q : ℕ) → In q ps → RanWeak q → Ran q → ⊥) → AreDistinct ps → ((q : ℕ) → In q ps → IsClocked (process_at d q)) → ClockedSound (Also Ran RanWeak ps) (run_all_weak st ps wk)
  weak_all Ran [] wk inv fresh once is = renamed Ran (Also Ran RanWeak []) wk (λ q r. inl r) (λ q r. ⊎_elim (λ x. x) (λ x. absurd x.0) r) inv
  weak_all Ran (p ∷ ps) wk inv fresh once is =
      renamed (Also (Wider Ran RanWeak p) RanWeak ps) (Also Ran RanWeak (p ∷ ps)) (run_all_weak st ps (run_weak st (sets.trigger p) (sets.wakes p) p wk)) (wider_also Ran RanWeak p ps) (also_wider Ran RanWeak p ps)
      (weak_all (Wider Ran RanWeak p) ps (run_weak st (sets.trigger p) (sets.wakes p) p wk) (weak_one Ran wk inv p (fresh p (inl refl)) (is p (inl refl)) (sets.trigger p) refl (sets.wakes p) refl)
      (λ q h can r. ⊎_elim (fresh q (inr h) can) (λ x. distinct_head p q ps once h x.0) r) once.1 (λ q h. is q (inr h)))

  module _ (tabled : AreTables d dump.bound tables) where
    abbrev RanAll : ℕ → Type 0
    RanAll = Also (Also (λ q. ⊥) RanClean (clean_order st)) RanWeak tables.clocked

    clocked_once : AreDistinct tables.clocked
    clocked_once = distinct_left tables.clocked (tables.order ++ tables.last) tabled.once

    is_clocked : (q : ℕ) → In q tables.clocked → IsClocked (process_at d q)
    is_clocked q h = ((tabled.clocked q).0 h).1

    begun : ClockedSound (λ q. ⊥) (opened st)
    begun = record { mid = u; allowed = starts; start_or = λ c. inl refl; unqueued = λ c none k. refl; final = λ q r. absurd r }

    pub all_ran : ClockedSound RanAll (clocked_run st)
    all_ran =
        weak_all (Also (λ q. ⊥) RanClean (clean_order st)) tables.clocked (run_all_clean st (clean_order st) (opened st))
        (clean_all (λ q. ⊥) (clean_order st) (opened st) begun (λ p h q r. absurd r) (λ q h r. r) (order_distinct sets.round tables.clocked clocked_once) (order_sorted sets.round tables.clocked) (λ q h. is_clocked q (in_order sets.round q tables.clocked h)))
        (λ q h can r. ⊎_elim (λ x. x) (λ x. some_none (sets.trigger q) x.1.0 x.1.1 can.0) r) clocked_once is_clocked

    -- what a Clocked assigns is allowed as it is at the end
    pub clocked_allowed : (p : ℕ) → In p tables.clocked → (c : Cell) → body_assigns c.thing (body_at d p) ≡ true → Allows (flush (clocked_run st).kept (clocked_run st).queue c) (w c)
    clocked_allowed p h c mine = go (sets.trigger p) refl (sets.wakes p) refl
      where
        asleep : (RanAll p → ⊥) → (CanWakeSome d dump (suc t) p → ⊥) → Allows (flush (clocked_run st).kept (clocked_run st).queue c) (w c)
        asleep fresh never =
            subst (λ z. Allows z (w c)) (sym (all_ran.unqueued c (λ q ran theirs. fresh (subst RanAll (one_assigner d lawful p q c.thing (is_clocked p h) mine theirs) ran)) (clocked_run st).kept))
            (subst (Allows ((clocked_run st).kept c)) (own_before RanAll (clocked_run st) all_ran p (is_clocked p h) fresh c mine ∙ ⊎_elim (λ target. sym (facts.asleep p (is_clocked p h) never c target)) (λ away. sym (own_stays p (is_clocked p h) c mine away)) (target_or d p c)) (all_ran.allowed c))

        go : (o : Option ℕ) → sets.trigger p ≡ o → (n : Option ℕ) → sets.wakes p ≡ n → Allows (flush (clocked_run st).kept (clocked_run st).queue c) (w c)
        go (Some s) e n f = all_ran.final p (inl (inr (order_in sets.round p tables.clocked h, (s, e)))) c mine
        go None e (Some s) f = all_ran.final p (inr (h, (e, (s, f)))) c mine
        go None e None f = asleep (λ r. ⊎_elim (λ x. ⊎_elim (λ y. y) (λ y. some_none (sets.trigger p) y.1.0 y.1.1 e) x) (λ x. some_none (sets.wakes p) x.1.1.0 x.1.1.1 f) r) (are.no_wakes p f)

    -- and all else as it is at the start
    pub others_allowed : (c : Cell) → ((p : ℕ) → In p tables.clocked → body_assigns c.thing (body_at d p) ≡ true → ⊥) → Allows (flush (clocked_run st).kept (clocked_run st).queue c) (u c)
    others_allowed c none =
        subst (λ z. Allows z (u c)) (sym (all_ran.unqueued c (λ q ran theirs. none q (in_list q ran) theirs) (clocked_run st).kept))
        (subst (Allows ((clocked_run st).kept c)) (⊎_elim (λ e. e) (λ s. absurd (none s.0 (in_list s.0 s.1) (target_assigns d lawful s.0 c (inl s.2)))) (all_ran.start_or c)) (all_ran.allowed c))
      where
        in_list : (q : ℕ) → RanAll q → In q tables.clocked
        in_list q (inl (inl r)) = absurd r
        in_list q (inl (inr r)) = in_order sets.round q tables.clocked r.0
        in_list q (inr r) = r.0
