-- After a closing step each process of the order has made what it may from what is known.
use Rattle.std.proofs.Common.{◌≡◌, inl, inr, ⊎_elim, ℕ, suc, Bool, true, false, not, ◌&&◌, ◌||◌, ◌==◌, List, [], ◌∷◌, ◌++◌, refl, sym, ap, subst, ◌∙◌, Option, Some, None, if◌then◌else◌}
use Rattle.std.specs.List.{list_any}
use Rattle.std.proofs.lemmas.Bool.{and_parts, and_from, both_ways, cases_Bool, eq-eqb, eqb-true, false_from_ne_true, not-true, not_from_false, or_left, or_right}
use Rattle.event_machine.specs.Cell.{Cell, Values, join, put_all}
use Rattle.event_machine.specs.Habit.{Habit}
use Rattle.event_machine.specs.Laws.{EarlyLaw}
use Rattle.design_model.specs.four_state.declared.bit.Bit.{Bit}
use Rattle.design_model.specs.declared.point.Point.{Point}
use Rattle.design_model.specs.Design.{Design, In, IsClocked, IsComb, Thing, a_signal, a_word, body_at, cell, cells, owner, process_at, signal_at, thing_bits}
use Rattle.design_model.specs.Mentions.{blocking_target, body_assigns, body_mentions, has_cell}
use Rattle.design_model.specs.Execution.{execution, execution_start}
use Rattle.design_model.specs.Machine.{is_level, machine}
use Rattle.design_model.specs.Shows.{BoundDump}
use Rattle.design_model.specs.Reads.{Agrees, ReadsWithin, PartialMap}
use Rattle.design_model.proofs.Assigns.{machine_lawful}
use Rattle.design_model.proofs.Mentions.{execute_reads}
use Rattle.design_model.proofs.Named.{WritesCell-from}
use Rattle.design_model.proofs.WithinMap.{put_covered, within_blocking, within_by, within_nonblocking}
use Rattle.body_replay.specs.Contract.{Outcome, all_written, sure_in}
use Rattle.body_replay.specs.Replay.{flush}
use Rattle.body_replay.specs.Runs.{Runs}
use Rattle.body_replay.specs.Store.{Kept}
use Rattle.replay_model.specs.Sets.{AreSets, Sets}
use Rattle.replay_model.specs.Tables.{Tables}
use Rattle.replay_model.specs.Step.{Closing, Replay, Working, acts, after_settling, all_run, certainty, clocked_run, contradicts, is_comb, is_dumped, is_loose, is_touched, plain_store, run_all_settling, run_settling, settle_start, settled_kept}
use Rattle.replay_model.specs.Stands.{IsMade, made_kept}
use Rattle.replay_model.specs.Laws.{IsReplayOf, closing_at}
use Rattle.replay_model.proofs.Bits.{any_in, in_any, in_halves, in_left, in_right, none_in}
use Rattle.replay_model.proofs.Clocked.{at_false, at_true, distinct_left, output_targets}
use Rattle.replay_model.proofs.ClearRounds.{inside_as, read_in}
use Rattle.replay_model.proofs.Grows.{sample, sample_agrees}
use Rattle.replay_model.proofs.Order.{OnWay, distinct_apart, distinct_right, final_dumped, kept_all, kept_one, made_all, made_dumped, makes, once_all, order_dumped, order_meets, way_next, way_starts}
use Rattle.replay_model.proofs.Reasons.{in_owner, map_same, sure_bit}
use Rattle.replay_model.proofs.Settling.{level_mentioned, queues_none, strong}
use Rattle.replay_model.proofs.Targets.{blocks_assigns, blocks_from, input_unassigned, not_queueing, queues_from, target_assigns}

module _ (d : Design) (h : Habit) (early_law : EarlyLaw (machine d)) (dump : BoundDump) (run : Runs) (tables : Tables) (points : List Point) (is : IsReplayOf d h dump run tables points) (t : ℕ) (sets : Sets) (are : AreSets d h dump (suc t) sets) (a : Replay) where
  abbrev st : Closing
  st = closing_at d dump run tables sets t a

  abbrev final : Kept
  final = (all_run st).kept

  abbrev pub Makes : ℕ → Cell → Type 0
  Makes q c = makes d h early_law dump run tables points is t sets are a q c ≡ true

  pub makers_one : (p q : ℕ) (c : Cell) → Makes p c → Makes q c → p ≡ q
  makers_one p q c e f = (machine_lawful d is.lawful).one_writer p q c (inl (and_parts (blocking_target d (body_at d p) c) _ e).0) (inl (and_parts (blocking_target d (body_at d q) c) _ f).0)

  abbrev pub Nones : List ℕ → Working → Type 0
  Nones ps wk = (q : ℕ) → In q (ps ++ tables.last) → is_touched st q ≡ true → (c : Cell) → Makes q c → wk.kept c ≡ None

  abbrev pub Way : List ℕ → Working → Type 0
  Way ps wk = OnWay d h early_law dump run tables points is t sets are a ps wk × Nones ps wk

  way_once : (p : ℕ) (rest : List ℕ) (wk : Working) → Way (p ∷ rest) wk → (q : ℕ) → In q (rest ++ tables.last) → p ≡ q → ⊥
  way_once p rest wk way q x e = ⊎_elim (λ y. in_rest once (subst (λ z. In z rest) (sym e) y)) (λ y. distinct_apart tables.order tables.last (once_all d h early_law dump run tables points is t sets are a) p (subst (In p) (sym way.0.1) (in_right p way.0.0 (p ∷ rest) (inl refl))) (subst (λ z. In z tables.last) (sym e) y)) (in_halves q rest tables.last x)
    where
      once : Rattle.design_model.specs.Design.AreDistinct (p ∷ rest)
      once = distinct_right way.0.0 (p ∷ rest) (subst Rattle.design_model.specs.Design.AreDistinct way.0.1 (distinct_left tables.order tables.last (once_all d h early_law dump run tables points is t sets are a)))

      in_rest : Rattle.design_model.specs.Design.AreDistinct (p ∷ rest) → In p rest → ⊥
      in_rest o y = o.0 y

  next : (p : ℕ) (rest : List ℕ) (wk : Working) → Way (p ∷ rest) wk → Way rest (run_settling st true p wk)
  next p rest wk way = (way_next d h early_law dump run tables points is t sets are a p rest wk way.0, none)
    where
      none : Nones rest (run_settling st true p wk)
      none q x f c m =
          kept_one d h early_law dump run tables points is t sets are a true p wk c (λ g. false_from_ne_true _ (λ e. way_once p rest wk way q x (makers_one p q c e m))) ∙ way.1 q (inr x) f c m

  pub starts : Way tables.order (settle_start st (clocked_run st))
  starts = (way_starts d h early_law dump run tables points is t sets are a, none)
    where
      none : Nones tables.order (settle_start st (clocked_run st))
      none q x f c m =
          at_false (λ z. z ≡ None) (is_dumped d dump.bound c) _ _ (not-true _ (and_parts (blocking_target d (body_at d q) c) _ m).1)
          (at_true (λ z. z ≡ None) (is_loose st c) None (flush (clocked_run st).kept (clocked_run st).queue c) (in_any (λ p. is_touched st p && blocking_target d (body_at d p) c) (tables.order ++ tables.last) q x (and_from (is_touched st q) _ f (and_parts (blocking_target d (body_at d q) c) _ m).0)) refl)

  pub find : (p : ℕ) (ps : List ℕ) (wk : Working) → Way ps wk → In p ps → (rest : List ℕ) × (wk' : Working) × Way (p ∷ rest) wk'
  find p [] wk way inside = absurd inside
  find p (q ∷ ps) wk way (inl e) = (ps, wk, subst (λ z. Way (z ∷ ps) wk) e way)
  find p (q ∷ ps) wk way (inr x) = find p ps (run_settling st true q wk) (next q ps wk way) x

  -- only a process itself changes whether it has acted
  pub acted_all : (ordered : Bool) (ps : List ℕ) (wk : Working) (p : ℕ) → ((q : ℕ) → In q ps → is_touched st q ≡ true → p ≡ q → ⊥) → (run_all_settling st ordered ps wk).acted p ≡ wk.acted p
  acted_all ordered [] wk p other = refl
  acted_all ordered (q ∷ ps) wk p other = acted_all ordered ps (run_settling st ordered q wk) p (λ r x. other r (inr x)) ∙ go (is_touched st q) refl
    where
      go : (b : Bool) → is_touched st q ≡ b → (if b then after_settling st ordered q (certainty st wk.kept q) (run q (plain_store (settled_kept d q wk.kept)) (certainty st wk.kept q)) wk else wk).acted p ≡ wk.acted p
      go true e = at_false (λ z. z ≡ wk.acted p) (p == q) _ (wk.acted p) (false_from_ne_true _ (λ f. other q (inl refl) e (eqb-true p q f))) refl
      go false e = refl

  pub made_agrees : (p : ℕ) (k : Kept) → Agrees d (sure_in d (made_kept d dump.bound p k)) (sample k)
  made_agrees p k x bits e = sample_agrees d k x bits (map_same k (made_kept d dump.bound p k) (cells d x) same ∙ e)
    where
      same : (c : Cell) → In c (cells d x) → k c ≡ made_kept d dump.bound p k c
      same c inside = go (body_assigns c.thing (body_at d p) && (is_comb (process_at d p) || not (dump.bound c.thing))) refl
        where
          go : (b : Bool) → (body_assigns c.thing (body_at d p) && (is_comb (process_at d p) || not (dump.bound c.thing))) ≡ b → k c ≡ (if b then None else k c)
          go false f = refl
          go true f = absurd (sure_bit (made_kept d dump.bound p k) (cells d x) bits e c inside (at_true (λ z. z ≡ None) _ None (k c) f refl))

  -- a cell that is known without the targets of p is not one of them
  pub made_is : (p : ℕ) (k : Kept) (x : Thing) (bits : List Bit) → sure_in d (made_kept d dump.bound p k) x bits → (c : Cell) → In c (cells d x) → ((body_assigns c.thing (body_at d p) && (is_comb (process_at d p) || not (dump.bound c.thing))) ≡ false) × (made_kept d dump.bound p k c ≡ k c)
  made_is p k x bits e c inside = ⊎_elim (λ f. absurd (sure_bit (made_kept d dump.bound p k) (cells d x) bits e c inside (at_true (λ z. z ≡ None) _ None (k c) f refl))) (λ f. (f, at_false (λ z. z ≡ k c) _ None (k c) f refl)) (cases_Bool (body_assigns c.thing (body_at d p) && (is_comb (process_at d p) || not (dump.bound c.thing))))

  -- the writes of an execution that reads only what is known
  pub same_all : (K : PartialMap) (p : ℕ) (u v : Values Bit) → Agrees d K u → Agrees d K v → ReadsWithin d K (body_at d p) → all_written d (body_at d p) u ≡ all_written d (body_at d p) v
  same_all K p u v au av told =
      ap (λ z. z ++ join (execution d (body_at d p) u).nonblocking) (within_blocking d K (body_at d p) u v au av (told u au)) ∙ ap (λ z. (execution d (body_at d p) v).blocking ++ join z) (within_nonblocking d K (body_at d p) u v au av (told u au))

  module _ (p : ℕ) (settles : IsClocked (process_at d p) → ⊥) where
    -- what it writes is a target of its
    pub written_target : (v : Values Bit) (c : Cell) → has_cell (all_written d (body_at d p) v) c ≡ true → blocking_target d (body_at d p) c ≡ true
    written_target v c has =
        ⊎_elim (λ b. b) (λ b. absurd (both_ways _ (queues_none d (process_at d p) settles (is.lawful.targets p) c.thing) (queues_from d p c b))) (output_targets d is.lawful p v c (WritesCell-from (all_written d (body_at d p) v) c has))

    -- and no input
    pub target_plain : (c : Cell) → blocking_target d (body_at d p) c ≡ true → (signal_at d c.thing).input ≡ false
    target_plain c target = false_from_ne_true _ (λ input. input_unassigned d is.lawful p c.thing input (target_assigns d is.lawful p c (inl target)))

    -- where it has run
    module _ (rest : List ℕ) (wk : Working) (way : Way (p ∷ rest) wk) (touched : is_touched st p ≡ true) (acted : is_comb (process_at d p) ≡ true → (all_run st).acted p ≡ true) where
      o : Outcome
      o = run p (plain_store (settled_kept d p wk.kept)) (certainty st wk.kept p)

      final_now : (c : Cell) → ((q : ℕ) → In q (rest ++ tables.last) → is_touched st q ≡ true → makes d h early_law dump run tables points is t sets are a q c ≡ false) → final c ≡ (run_settling st true p wk).kept c
      final_now c other =
          kept_all d h early_law dump run tables points is t sets are a false tables.last (run_all_settling st true tables.order (settle_start st (clocked_run st))) c (λ q x f. other q (in_right q rest tables.last x) f)
          ∙ ap (λ z. z.kept c) (sym way.0.2) ∙ kept_all d h early_law dump run tables points is t sets are a true rest (run_settling st true p wk) c (λ q x f. other q (in_left q rest tables.last x) f)

      run_is : run_settling st true p wk ≡ after_settling st true p (certainty st wk.kept p) (run p (plain_store (settled_kept d p wk.kept)) (certainty st wk.kept p)) wk
      run_is = ap (λ b. if b then after_settling st true p (certainty st wk.kept p) (run p (plain_store (settled_kept d p wk.kept)) (certainty st wk.kept p)) wk else wk) touched

      acted_now : (all_run st).acted p ≡ acts st p (certainty st wk.kept p) wk
      acted_now =
          acted_all false tables.last (run_all_settling st true tables.order (settle_start st (clocked_run st))) p (λ q x f e. way_once p rest wk way q (in_right q rest tables.last x) e)
          ∙ ap (λ z. z.acted p) (sym way.0.2) ∙ acted_all true rest (run_settling st true p wk) p (λ q x f e. way_once p rest wk way q (in_left q rest tables.last x) e) ∙ ap (λ z. z.acted p) run_is
          ∙ at_true (λ z. z ≡ acts st p (certainty st wk.kept p) wk) (p == p) (acts st p (certainty st wk.kept p) wk) (wk.acted p) (eq-eqb p p refl) refl

      holds : (not (is_comb (process_at d p)) || acts st p (certainty st wk.kept p) wk) ≡ true
      holds = ⊎_elim (λ e. or_right _ _ (sym acted_now ∙ acted e)) (λ e. or_left _ _ (not_from_false _ e)) (cases_Bool (is_comb (process_at d p)))

      final_made : (c : Cell) → Makes p c → final c ≡ (run p (plain_store (settled_kept d p wk.kept)) (certainty st wk.kept p)).kept c
      final_made c m =
          final_now c (λ q x f. false_from_ne_true _ (λ e. way_once p rest wk way q x (makers_one p q c m e))) ∙ ap (λ z. z.kept c) run_is
          ∙ at_true (λ z. z ≡ (run p (plain_store (settled_kept d p wk.kept)) (certainty st wk.kept p)).kept c) (makes d h early_law dump run tables points is t sets are a p c) _ (wk.kept c) m (at_true (λ z. z ≡ (run p (plain_store (settled_kept d p wk.kept)) (certainty st wk.kept p)).kept c) (true && (not (is_comb (process_at d p)) || acts st p (certainty st wk.kept p) wk)) _ None holds refl)

      -- what it met stays
      stays : (c : Cell) (z : Bit) → wk.kept c ≡ Some z → final c ≡ Some z
      stays c z e = ⊎_elim some none (cases_Bool (list_any (λ q. is_touched st q && makes d h early_law dump run tables points is t sets are a q c) ((p ∷ rest) ++ tables.last)))
        where
          some_none : (o : Option Bit) → o ≡ Some z → o ≡ None → ⊥
          some_none o f g = cc

          some : list_any (λ q. is_touched st q && makes d h early_law dump run tables points is t sets are a q c) ((p ∷ rest) ++ tables.last) ≡ true → final c ≡ Some z
          some f =
              let q = any_in (λ q. is_touched st q && makes d h early_law dump run tables points is t sets are a q c) ((p ∷ rest) ++ tables.last) f in
              let b = and_parts (is_touched st q.0) _ q.2 in
              absurd (some_none (wk.kept c) e (way.1 q.0 q.1 b.0 c b.1))

          none : list_any (λ q. is_touched st q && makes d h early_law dump run tables points is t sets are a q c) ((p ∷ rest) ++ tables.last) ≡ false → final c ≡ Some z
          none f =
              let away : (q : ℕ) → In q ((p ∷ rest) ++ tables.last) → is_touched st q ≡ true → makes d h early_law dump run tables points is t sets are a q c ≡ false = λ q x g. false_from_ne_true _ (λ m. both_ways _ (none_in (λ q. is_touched st q && makes d h early_law dump run tables points is t sets are a q c) ((p ∷ rest) ++ tables.last) f q x) (and_from (is_touched st q) _ g m)) in
              final_now c (λ q x. away q (inr x)) ∙ kept_one d h early_law dump run tables points is t sets are a true p wk c (away p (inl refl)) ∙ e

      met_agrees : Agrees d (sure_in d (settled_kept d p wk.kept)) (sample final)
      met_agrees x bits e = sample_agrees d final x bits (map_same final (settled_kept d p wk.kept) (cells d x) same ∙ e)
        where
          same : (c : Cell) → In c (cells d x) → final c ≡ settled_kept d p wk.kept c
          same c inside = go (settled_kept d p wk.kept c) refl
            where
              kept_of : (b : Bool) (z : Bit) → (if b then None else wk.kept c) ≡ Some z → wk.kept c ≡ Some z
              kept_of true z f = absurd (cc)
              kept_of false z f = f

              go : (q : Option Bit) → settled_kept d p wk.kept c ≡ q → final c ≡ settled_kept d p wk.kept c
              go None f = absurd (sure_bit (settled_kept d p wk.kept) (cells d x) bits e c inside f)
              go (Some z) f = stays c z (kept_of (is_comb (process_at d p) && body_assigns c.thing (body_at d p)) z f) ∙ sym f

      met_sure : (x : Thing) (bits : List Bit) → body_mentions (owner x) (body_at d p) ≡ true → sure_in d (made_kept d dump.bound p final) x bits → sure_in d (settled_kept d p wk.kept) x bits
      met_sure x bits mention e = map_same (settled_kept d p wk.kept) (made_kept d dump.bound p final) (cells d x) same ∙ e
        where
          same : (c : Cell) → In c (cells d x) → settled_kept d p wk.kept c ≡ made_kept d dump.bound p final c
          same c inside =
              at_false (λ z. z ≡ wk.kept c) (is_comb (process_at d p) && body_assigns c.thing (body_at d p)) None (wk.kept c) not_own refl ∙ ⊎_elim own other (cases_Bool (blocking_target d (body_at d p) c)) ∙ sym (made_is p final x bits e c inside).1
            where
              free : (body_assigns c.thing (body_at d p) && (is_comb (process_at d p) || not (dump.bound c.thing))) ≡ false
              free = (made_is p final x bits e c inside).0

              not_own : (is_comb (process_at d p) && body_assigns c.thing (body_at d p)) ≡ false
              not_own = false_from_ne_true _ (λ f. let b = and_parts (is_comb (process_at d p)) _ f in both_ways _ free (and_from (body_assigns c.thing (body_at d p)) _ b.1 (or_left _ _ b.0)))

              level : is_level (process_at d p) c.thing ≡ true
              level = level_mentioned (process_at d p) c.thing settles (subst (λ z. body_mentions z (body_at d p) ≡ true) (sym (in_owner d x c inside)) mention)

              other : blocking_target d (body_at d p) c ≡ false → wk.kept c ≡ final c
              other f = order_meets d h early_law dump run tables points is t sets are a p rest wk way.0 c level f

              own : blocking_target d (body_at d p) c ≡ true → wk.kept c ≡ final c
              own f =
                  ⊎_elim (λ g. order_dumped d h early_law dump run tables points is t sets are a (p ∷ rest) wk way.0 c g ∙ sym (final_dumped d h early_law dump run tables points is t sets are a c g))
                  (λ g. absurd (both_ways _ free (and_from (body_assigns c.thing (body_at d p)) _ (blocks_assigns c.thing (body_at d p) (blocks_from d p c f)) (or_right (is_comb (process_at d p)) _ (not_from_false _ (Rattle.replay_model.proofs.Order.makes_unbound d h early_law dump run tables points is t sets are a p c (and_from (blocking_target d (body_at d p) c) _ f (not_from_false _ g)))))))) (cases_Bool (is_dumped d dump.bound c))

      -- what it made of a bit stays noted
      made_final : (c : Cell) → blocking_target d (body_at d p) c ≡ true → (all_run st).made c ≡ (run p (plain_store (settled_kept d p wk.kept)) (certainty st wk.kept p)).kept c
      made_final c m =
          made_all d h early_law dump run tables points is t sets are a false tables.last (run_all_settling st true tables.order (settle_start st (clocked_run st))) c (λ q x f. other q (in_right q rest tables.last x)) ∙ ap (λ z. z.made c) (sym way.0.2)
          ∙ made_all d h early_law dump run tables points is t sets are a true rest (run_settling st true p wk) c (λ q x f. other q (in_left q rest tables.last x)) ∙ ap (λ z. z.made c) run_is
          ∙ at_true (λ z. z ≡ (run p (plain_store (settled_kept d p wk.kept)) (certainty st wk.kept p)).kept c) (blocking_target d (body_at d p) c) _ (wk.made c) m (at_true (λ z. z ≡ (run p (plain_store (settled_kept d p wk.kept)) (certainty st wk.kept p)).kept c) (not (is_comb (process_at d p)) || acts st p (certainty st wk.kept p) wk) _ None holds refl)
        where
          other : (q : ℕ) → In q (rest ++ tables.last) → blocking_target d (body_at d q) c ≡ false
          other q x = false_from_ne_true _ (λ e. way_once p rest wk way q x ((machine_lawful d is.lawful).one_writer p q c (inl m) (inl e)))

      pub made_touched : ((c : Cell) → contradicts st c ≡ false) → IsMade d dump.bound p final
      made_touched agreed v agrees told c has = ⊎_elim of_dump of_run (cases_Bool (is_dumped d dump.bound c))
        where
          same : all_written d (body_at d p) (sample final) ≡ all_written d (body_at d p) v
          same = same_all (sure_in d (made_kept d dump.bound p final)) p (sample final) v (made_agrees p final) agrees told

          met_told : ReadsWithin d (sure_in d (settled_kept d p wk.kept)) (body_at d p)
          met_told =
              within_by d (sure_in d (settled_kept d p wk.kept)) (body_at d p) (sample final) met_agrees
              (inside_as (sure_in d (made_kept d dump.bound p final)) (sure_in d (settled_kept d p wk.kept)) (execution d (body_at d p) (sample final)).visits
              (λ x read v. (v.0, met_sure x v.0 (read_in (λ q. body_mentions q (body_at d p) ≡ true) _ x (execute_reads (λ q. body_mentions q (body_at d p) ≡ true) d (body_at d p) (λ q f. f) (execution_start (sample final)) tt) read) v.1)) (told (sample final) (made_agrees p final)))

          leaves : (run p (plain_store (settled_kept d p wk.kept)) (certainty st wk.kept p)).kept c ≡ Some (put_all v (all_written d (body_at d p) v) c)
          leaves =
              sym (is.runs.frame_queue p (plain_store (settled_kept d p wk.kept)) (certainty st wk.kept p) c (not_queueing d p c (queues_none d (process_at d p) settles (is.lawful.targets p) c.thing)) (run p (plain_store (settled_kept d p wk.kept)) (certainty st wk.kept p)).kept)
              ∙ is.runs.sure_written p (plain_store (settled_kept d p wk.kept)) (certainty st wk.kept p) (strong st wk.kept p) (sample final) met_agrees met_told c refl (subst (λ z. has_cell z c ≡ true) (sym same) has)
              ∙ ap Some (put_covered (sample final) v (all_written d (body_at d p) (sample final)) c (subst (λ z. has_cell z c ≡ true) (sym same) has) ∙ ap (λ z. put_all v z c) same)

          target : blocking_target d (body_at d p) c ≡ true
          target = written_target v c has

          of_run : is_dumped d dump.bound c ≡ false → final c ≡ Some (put_all v (all_written d (body_at d p) v) c)
          of_run away = final_made c (and_from (blocking_target d (body_at d p) c) _ target (not_from_false _ away)) ∙ leaves

          of_dump : is_dumped d dump.bound c ≡ true → final c ≡ Some (put_all v (all_written d (body_at d p) v) c)
          of_dump e =
              final_dumped d h early_law dump run tables points is t sets are a c e
              ∙ ap Some (sym (made_dumped d h early_law dump run tables points is t sets are a c (agreed c) e (target_plain c target) (put_all v (all_written d (body_at d p) v) c) (made_final c target ∙ leaves)))
