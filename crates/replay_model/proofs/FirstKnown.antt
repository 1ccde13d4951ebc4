-- After the first step of a stretch each Assign of the order, and each Comb that has acted, has made what it may, and what is clear is sure.
use Rattle.std.proofs.Common.{◌≡◌, inl, inr, ⊎_elim, ℕ, zero, suc, ◌<◌, Bool, true, false, not, ◌&&◌, ◌||◌, List, [], ◌∷◌, ◌++◌, append_assoc, length, refl, sym, ap, subst, ◌∙◌, arith, Option, Some, None, if◌then◌else◌}
use Rattle.std.specs.List.{list_any}
use Rattle.std.proofs.lemmas.Bool.{and_parts, and_from, and_right, both_ways, cases_Bool, false_from_ne_true, lt-ltb, not-true, not_from_false, not_from_true, or_left, or_right}
use Rattle.event_machine.specs.Cell.{Cell, Values, join, put_all}
use Rattle.event_machine.specs.Habit.{Habit}
use Rattle.design_model.specs.four_state.declared.bit.Bit.{Bit}
use Rattle.design_model.specs.declared.point.Point.{Point}
use Rattle.design_model.specs.Tree.{Process, assign, clocked, comb}
use Rattle.design_model.specs.Design.{AreDistinct, Design, In, IsClocked, IsComb, Thing, a_signal, body_at, cells, is_assign, owner, process_at, signal_at}
use Rattle.design_model.specs.Mentions.{blocking_target, body_assigns, body_mentions, has_cell, may_write}
use Rattle.design_model.specs.Execution.{execution, execution_start}
use Rattle.design_model.specs.Machine.{is_level}
use Rattle.design_model.specs.Shows.{BoundDump, IsFirst, IsWindow}
use Rattle.design_model.specs.Reads.{Agrees, HasValue, ReadsWithin, PartialMap}
use Rattle.design_model.specs.Clear.{HasChanged, IsCombValue, IsNetValue, clear, clear_from, clear_in, clear_start}
use Rattle.design_model.proofs.Assigns.{machine_lawful}
use Rattle.design_model.proofs.Lawful.{any_gives, may_any, place_from}
use Rattle.design_model.proofs.Mentions.{execute_reads}
use Rattle.design_model.proofs.Named.{WritesCell-from}
use Rattle.design_model.proofs.Stretches.{window_before_first, window_not_first}
use Rattle.design_model.proofs.WithinMap.{put_covered, within_blocking, within_by, within_nonblocking}
use Rattle.replay_model.proofs.AskedLaws.{AskedLaws, asked_of}
use Rattle.body_replay.specs.Contract.{all_written, quiet, sure_in}
use Rattle.body_replay.specs.Runs.{Runs, StoreView}
use Rattle.body_replay.specs.Store.{Kept}
use Rattle.replay_model.specs.Tables.{Drives, StandsBefore, Tables}
use Rattle.replay_model.specs.Step.{Replay, is_comb, is_dumped, settled_kept}
use Rattle.replay_model.specs.Paused.{IsPaused}
use Rattle.replay_model.specs.Start.{Starting, after_first, all_first, contradicts_first, first_kept, first_store, run_all_first, run_first, runs_first, started}
use Rattle.replay_model.specs.Stands.{AreKnown, IsMade, made_kept}
use Rattle.replay_model.specs.Laws.{FirstKnownLaw, IsReplayOf}
use Rattle.replay_model.proofs.Bits.{any_in, in_halves, in_left, in_right, none_in, not_differ}
use Rattle.replay_model.proofs.ClearRounds.{clear_sure, comb_clear, inside_as, net_clear, read_in}
use Rattle.replay_model.proofs.Clocked.{at_false, at_true, distinct_left, output_targets}
use Rattle.replay_model.proofs.FirstStep.{first_not_clocked}
use Rattle.replay_model.proofs.Grows.{sample, sample_agrees}
use Rattle.replay_model.proofs.Order.{before_after, distinct_apart, distinct_right, stands_in}
use Rattle.replay_model.proofs.Reasons.{in_owner, map_same, sure_bit}
use Rattle.replay_model.proofs.Settling.{is_comb-of, level_mentioned, queues_none}
use Rattle.replay_model.proofs.Targets.{blocks_assigns, blocks_from, input_unassigned, not_queueing, queues_from, target_assigns}

comb_if : (x : Process) → (IsClocked x → ⊥) → is_assign x ≡ false → IsComb x
comb_if (assign i t v c) is e = absurd (both_ways true e refl)
comb_if (comb i wakes s) is e = tt
comb_if (clocked i events s) is e = absurd (is tt)

-- what is not left out of a run of p was known
settled_same : (d : Design) (p : ℕ) (k : Kept) (c : Cell) → (is_comb (process_at d p) && body_assigns c.thing (body_at d p)) ≡ false → settled_kept d p k c ≡ k c
settled_same d p k c free = at_false (λ z. z ≡ k c) (is_comb (process_at d p) && body_assigns c.thing (body_at d p)) None (k c) free refl

settled_some : (d : Design) (p : ℕ) (k : Kept) (c : Cell) (z : Bit) → settled_kept d p k c ≡ Some z → k c ≡ Some z
settled_some d p k c z = go (is_comb (process_at d p) && body_assigns c.thing (body_at d p))
  where
    go : (b : Bool) → (if b then None else k c) ≡ Some z → k c ≡ Some z
    go true e = absurd cc
    go false e = e

module _ (d : Design) (h : Habit) (dump : BoundDump) (run : Runs) (tables : Tables) (points : List Point) (is : IsReplayOf d h dump run tables points) (t : ℕ) (a : Replay) (agreed : (c : Cell) → contradicts_first d dump.bound run tables (dump.values t) a c ≡ false) where
  abbrev pub starting : Starting
  starting = record { kept = first_kept d dump.bound run tables (dump.values t) a; made = λ c. None }

  abbrev pub ordered_first : Starting
  ordered_first = run_all_first d dump.bound run tables (dump.values t) a true tables.order (record { kept = first_kept d dump.bound run tables (dump.values t) a; made = λ c. None })

  abbrev pub final : Kept
  final = (all_first d dump.bound run tables (dump.values t) a).kept

  -- what runs at this step
  abbrev runs : ℕ → Bool
  runs q = runs_first d dump.bound run tables (dump.values t) a q

  -- what p meets of what is known
  abbrev met : ℕ → Kept → StoreView
  met p k = first_store d dump.bound run tables (dump.values t) a (settled_kept d p k)

  abbrev pub makes : ℕ → Cell → Bool
  makes q c = blocking_target d (body_at d q) c && not (is_dumped d dump.bound c)

  kept_one : (ordered : Bool) (p : ℕ) (wk : Starting) (c : Cell) → (runs p ≡ true → makes p c ≡ false) → (run_first d dump.bound run tables (dump.values t) a ordered p wk).kept c ≡ wk.kept c
  kept_one ordered p wk c other = go (runs p) refl
    where
      go : (b : Bool) → runs p ≡ b → (if b then after_first d dump.bound run tables (dump.values t) a ordered p (run p (met p wk.kept) quiet) wk else wk).kept c ≡ wk.kept c
      go true e = at_false (λ z. z ≡ wk.kept c) (makes p c) _ (wk.kept c) (other e) refl
      go false e = refl

  kept_all : (ordered : Bool) (ps : List ℕ) (wk : Starting) (c : Cell) → ((q : ℕ) → In q ps → runs q ≡ true → makes q c ≡ false) → (run_all_first d dump.bound run tables (dump.values t) a ordered ps wk).kept c ≡ wk.kept c
  kept_all ordered [] wk c other = refl
  kept_all ordered (p ∷ ps) wk c other = kept_all ordered ps (run_first d dump.bound run tables (dump.values t) a ordered p wk) c (λ q x. other q (inr x)) ∙ kept_one ordered p wk c (other p (inl refl))

  made_one : (ordered : Bool) (p : ℕ) (wk : Starting) (c : Cell) → (runs p ≡ true → blocking_target d (body_at d p) c ≡ false) → (run_first d dump.bound run tables (dump.values t) a ordered p wk).made c ≡ wk.made c
  made_one ordered p wk c other = go (runs p) refl
    where
      go : (b : Bool) → runs p ≡ b → (if b then after_first d dump.bound run tables (dump.values t) a ordered p (run p (met p wk.kept) quiet) wk else wk).made c ≡ wk.made c
      go true e = at_false (λ z. z ≡ wk.made c) (blocking_target d (body_at d p) c) _ (wk.made c) (other e) refl
      go false e = refl

  made_all : (ordered : Bool) (ps : List ℕ) (wk : Starting) (c : Cell) → ((q : ℕ) → In q ps → runs q ≡ true → blocking_target d (body_at d q) c ≡ false) → (run_all_first d dump.bound run tables (dump.values t) a ordered ps wk).made c ≡ wk.made c
  made_all ordered [] wk c other = refl
  made_all ordered (p ∷ ps) wk c other = made_all ordered ps (run_first d dump.bound run tables (dump.values t) a ordered p wk) c (λ q x. other q (inr x)) ∙ made_one ordered p wk c (other p (inl refl))

  makes_unbound : (q : ℕ) (c : Cell) → makes q c ≡ true → dump.bound c.thing ≡ false
  makes_unbound q c e =
      false_from_ne_true _
      (λ bound. both_ways _ (not-true _ (and_parts (blocking_target d (body_at d q) c) _ e).1)
      (and_from (dump.bound c.thing) _ bound
      (lt-ltb _ _ (any_gives (λ x y w. may_write d y c) _ (λ x y w f. place_from d y c (is.fits.signals c.thing bound) f) (body_at d q) (may_any d (body_at d q) c (inl (and_parts (blocking_target d (body_at d q) c) _ e).0))))))

  makers_one : (p q : ℕ) (c : Cell) → makes p c ≡ true → makes q c ≡ true → p ≡ q
  makers_one p q c e f = (machine_lawful d is.lawful).one_writer p q c (inl (and_parts (blocking_target d (body_at d p) c) _ e).0) (inl (and_parts (blocking_target d (body_at d q) c) _ f).0)

  makes_drives : (q : ℕ) (c : Cell) → (q < length d.processes) × (IsClocked (process_at d q) → ⊥) → makes q c ≡ true → Drives d q c.thing
  makes_drives q c known e = record { is_process = known.0; settles = known.1; drives = target_assigns d is.lawful q c (inl (and_parts (blocking_target d (body_at d q) c) _ e).0) }

  pub once_all : AreDistinct (tables.order ++ tables.last)
  once_all = distinct_right tables.clocked (tables.order ++ tables.last) is.tabled.once

  -- on the way through the order: what is to be made is not known yet
  abbrev pub Way : List ℕ → Starting → Type 0
  Way ps wk = ((pre : List ℕ) × (tables.order ≡ pre ++ ps) × (run_all_first d dump.bound run tables (dump.values t) a true ps wk ≡ ordered_first)) × ((q : ℕ) → In q (ps ++ tables.last) → runs q ≡ true → (c : Cell) → makes q c ≡ true → wk.kept c ≡ None)

  way_once : (p : ℕ) (rest : List ℕ) (wk : Starting) → Way (p ∷ rest) wk → (q : ℕ) → In q (rest ++ tables.last) → p ≡ q → ⊥
  way_once p rest wk way q x e = ⊎_elim (λ y. once.0 (subst (λ z. In z rest) (sym e) y)) (λ y. distinct_apart tables.order tables.last once_all p (subst (In p) (sym way.0.1) (in_right p way.0.0 (p ∷ rest) (inl refl))) (subst (λ z. In z tables.last) (sym e) y)) (in_halves q rest tables.last x)
    where
      once : AreDistinct (p ∷ rest)
      once = distinct_right way.0.0 (p ∷ rest) (subst AreDistinct way.0.1 (distinct_left tables.order tables.last once_all))

  next : (p : ℕ) (rest : List ℕ) (wk : Starting) → Way (p ∷ rest) wk → Way rest (run_first d dump.bound run tables (dump.values t) a true p wk)
  next p rest wk way = (
    (way.0.0 ++ p ∷ [], way.0.1 ∙ sym (append_assoc way.0.0 (p ∷ []) rest), way.0.2),
    λ q x f c m. kept_one true p wk c (λ g. false_from_ne_true _ (λ e. way_once p rest wk way q x (makers_one p q c e m))) ∙ way.1 q (inr x) f c m,
  )

  way_starts : Way tables.order starting
  way_starts = (([], refl, refl), λ q x f c m. at_false (λ z. z ≡ None) (is_dumped d dump.bound c) _ None (not-true _ (and_parts (blocking_target d (body_at d q) c) _ m).1) refl)

  find : (p : ℕ) (ps : List ℕ) (wk : Starting) → Way ps wk → In p ps → (rest : List ℕ) × (wk' : Starting) × Way (p ∷ rest) wk'
  find p [] wk way inside = absurd inside
  find p (q ∷ ps) wk way (inl e) = (ps, wk, subst (λ z. Way (z ∷ ps) wk) e way)
  find p (q ∷ ps) wk way (inr x) = find p ps (run_first d dump.bound run tables (dump.values t) a true q wk) (next q ps wk way) x

  dumped_other : (c : Cell) → is_dumped d dump.bound c ≡ true → (q : ℕ) → makes q c ≡ false
  dumped_other c e q = and_right _ _ (not_from_true _ e)

  pub final_first : (c : Cell) → is_dumped d dump.bound c ≡ true → final c ≡ Some (dump.values t c)
  final_first c e =
      kept_all false tables.last ordered_first c (λ q x f. dumped_other c e q) ∙ kept_all true tables.order starting c (λ q x f. dumped_other c e q) ∙ at_true (λ z. z ≡ Some (dump.values t c)) (is_dumped d dump.bound c) (Some (dump.values t c)) None e refl

  way_dumped : (ps : List ℕ) (wk : Starting) → Way ps wk → (c : Cell) → is_dumped d dump.bound c ≡ true → wk.kept c ≡ Some (dump.values t c)
  way_dumped ps wk way c e =
      sym (kept_all true ps wk c (λ q x f. dumped_other c e q)) ∙ ap (λ z. z.kept c) way.0.2 ∙ sym (kept_all false tables.last ordered_first c (λ q x f. dumped_other c e q)) ∙ final_first c e

  meets : (p : ℕ) (rest : List ℕ) (wk : Starting) → Way (p ∷ rest) wk → (c : Cell) → is_level (process_at d p) c.thing ≡ true → blocking_target d (body_at d p) c ≡ false → wk.kept c ≡ final c
  meets p rest wk way c level own = sym (kept_all true (p ∷ rest) wk c here) ∙ ap (λ z. z.kept c) way.0.2 ∙ sym (kept_all false tables.last ordered_first c after)
    where
      mine : In p tables.order
      mine = subst (In p) (sym way.0.1) (in_right p way.0.0 (p ∷ rest) (inl refl))

      ordered_once : AreDistinct (way.0.0 ++ p ∷ rest)
      ordered_once = subst AreDistinct way.0.1 (distinct_left tables.order tables.last once_all)

      before : (q : ℕ) → (q < length d.processes) × (IsClocked (process_at d q) → ⊥) → (q ≡ p → ⊥) → makes q c ≡ true → StandsBefore q tables.order p
      before q known other m = is.tabled.ordered p q c.thing mine level (makes_unbound q c m) (makes_drives q c known m) other

      self : (q : ℕ) → makes q c ≡ true → q ≡ p → ⊥
      self q m e = both_ways _ own (subst (λ z. blocking_target d (body_at d z) c ≡ true) e (and_parts (blocking_target d (body_at d q) c) _ m).0)

      here : (q : ℕ) → In q (p ∷ rest) → runs q ≡ true → makes q c ≡ false
      here q (inl e) f = false_from_ne_true _ (λ m. self q m (sym e))
      here q (inr x) f =
          false_from_ne_true _
          (λ m. before_after way.0.0 p rest q ordered_once (subst (λ z. StandsBefore q z p) way.0.1 (before q ((is.tabled.others q).0 (inl (subst (In q) (sym way.0.1) (in_right q way.0.0 (p ∷ rest) (inr x))))) (self q m) m)) x)

      after : (q : ℕ) → In q tables.last → runs q ≡ true → makes q c ≡ false
      after q x f = false_from_ne_true _ (λ m. distinct_apart tables.order tables.last once_all q (stands_in q tables.order p (before q ((is.tabled.others q).0 (inr x)) (self q m) m)).1 x)

  pub first_agrees : (p : ℕ) → Agrees d (sure_in d (made_kept d dump.bound p final)) (sample final)
  first_agrees p x bits e = sample_agrees d final x bits (map_same final (made_kept d dump.bound p final) (cells d x) same ∙ e)
    where
      same : (c : Cell) → In c (cells d x) → final c ≡ made_kept d dump.bound p final c
      same c inside = go (body_assigns c.thing (body_at d p) && (is_comb (process_at d p) || not (dump.bound c.thing))) refl
        where
          go : (b : Bool) → (body_assigns c.thing (body_at d p) && (is_comb (process_at d p) || not (dump.bound c.thing))) ≡ b → final c ≡ (if b then None else final c)
          go false f = refl
          go true f = absurd (sure_bit (made_kept d dump.bound p final) (cells d x) bits e c inside (at_true (λ z. z ≡ None) _ None (final c) f refl))

  -- what is to run of the order has run
  module _ (p : ℕ) (is_a : runs p ≡ true) (rest : List ℕ) (wk : Starting) (way : Way (p ∷ rest) wk) where
    settles : IsClocked (process_at d p) → ⊥
    settles = first_not_clocked (process_at d p) (a.acted p) is_a

    written_target : (v : Values Bit) (c : Cell) → has_cell (all_written d (body_at d p) v) c ≡ true → blocking_target d (body_at d p) c ≡ true
    written_target v c has =
        ⊎_elim (λ b. b) (λ b. absurd (both_ways _ (queues_none d (process_at d p) settles (is.lawful.targets p) c.thing) (queues_from d p c b))) (output_targets d is.lawful p v c (WritesCell-from (all_written d (body_at d p) v) c has))

    final_now : (c : Cell) → ((q : ℕ) → In q (rest ++ tables.last) → runs q ≡ true → makes q c ≡ false) → final c ≡ (run_first d dump.bound run tables (dump.values t) a true p wk).kept c
    final_now c other =
        kept_all false tables.last ordered_first c (λ q x f. other q (in_right q rest tables.last x) f) ∙ ap (λ z. z.kept c) (sym way.0.2)
        ∙ kept_all true rest (run_first d dump.bound run tables (dump.values t) a true p wk) c (λ q x f. other q (in_left q rest tables.last x) f)

    final_made : (c : Cell) → makes p c ≡ true → final c ≡ (run p (met p wk.kept) quiet).kept c
    final_made c m =
        final_now c (λ q x f. false_from_ne_true _ (λ e. way_once p rest wk way q x (makers_one p q c m e)))
        ∙ ap (λ b. (if b then after_first d dump.bound run tables (dump.values t) a true p (run p (met p wk.kept) quiet) wk else wk).kept c) is_a
        ∙ at_true (λ z. z ≡ (run p (met p wk.kept) quiet).kept c) (makes p c) _ (wk.kept c) m refl

    stays : (c : Cell) (z : Bit) → wk.kept c ≡ Some z → final c ≡ Some z
    stays c z e = ⊎_elim some none (cases_Bool (list_any (λ q. runs q && makes q c) ((p ∷ rest) ++ tables.last)))
      where
        some_none : (o : Option Bit) → o ≡ Some z → o ≡ None → ⊥
        some_none o f g = cc

        some : list_any (λ q. runs q && makes q c) ((p ∷ rest) ++ tables.last) ≡ true → final c ≡ Some z
        some f =
            let q = any_in (λ q. runs q && makes q c) ((p ∷ rest) ++ tables.last) f in
            let b = and_parts (runs q.0) _ q.2 in
            absurd (some_none (wk.kept c) e (way.1 q.0 q.1 b.0 c b.1))

        none : list_any (λ q. runs q && makes q c) ((p ∷ rest) ++ tables.last) ≡ false → final c ≡ Some z
        none f =
            let away : (q : ℕ) → In q ((p ∷ rest) ++ tables.last) → runs q ≡ true → makes q c ≡ false = λ q x g. false_from_ne_true _ (λ m. both_ways _ (none_in (λ q. runs q && makes q c) ((p ∷ rest) ++ tables.last) f q x) (and_from (runs q) _ g m)) in
            final_now c (λ q x. away q (inr x)) ∙ kept_one true p wk c (away p (inl refl)) ∙ e

    -- what it meets
    abbrev meets_kept : Kept
    meets_kept = settled_kept d p wk.kept

    met_agrees : Agrees d (sure_in d meets_kept) (sample final)
    met_agrees x bits e = sample_agrees d final x bits (map_same final meets_kept (cells d x) same ∙ e)
      where
        same : (c : Cell) → In c (cells d x) → final c ≡ meets_kept c
        same c inside = go (meets_kept c) refl
          where
            go : (q : Option Bit) → meets_kept c ≡ q → final c ≡ meets_kept c
            go None f = absurd (sure_bit meets_kept (cells d x) bits e c inside f)
            go (Some z) f = stays c z (settled_some d p wk.kept c z f) ∙ sym f

    met_sure : (x : Thing) (bits : List Bit) → body_mentions (owner x) (body_at d p) ≡ true → sure_in d (made_kept d dump.bound p final) x bits → sure_in d meets_kept x bits
    met_sure x bits mention e = map_same meets_kept (made_kept d dump.bound p final) (cells d x) same ∙ e
      where
        same : (c : Cell) → In c (cells d x) → meets_kept c ≡ made_kept d dump.bound p final c
        same c inside = settled_same d p wk.kept c away ∙ ⊎_elim own (λ f. meets p rest wk way c level f) (cases_Bool (blocking_target d (body_at d p) c)) ∙ sym (at_false (λ z. z ≡ final c) _ None (final c) free refl)
          where
            free : (body_assigns c.thing (body_at d p) && (is_comb (process_at d p) || not (dump.bound c.thing))) ≡ false
            free =
                false_from_ne_true _ (λ f. sure_bit (made_kept d dump.bound p final) (cells d x) bits e c inside (at_true (λ z. z ≡ None) _ None (final c) f refl))

            away : (is_comb (process_at d p) && body_assigns c.thing (body_at d p)) ≡ false
            away =
                false_from_ne_true _ (λ f.
                let both = and_parts (is_comb (process_at d p)) _ f in
                both_ways _ free (and_from (body_assigns c.thing (body_at d p)) _ both.1 (or_left (is_comb (process_at d p)) _ both.0)))

            level : is_level (process_at d p) c.thing ≡ true
            level = level_mentioned (process_at d p) c.thing settles (subst (λ z. body_mentions z (body_at d p) ≡ true) (sym (in_owner d x c inside)) mention)

            own : blocking_target d (body_at d p) c ≡ true → wk.kept c ≡ final c
            own f =
                ⊎_elim (λ g. way_dumped (p ∷ rest) wk way c g ∙ sym (final_first c g))
                (λ g. absurd (both_ways _ free (and_from (body_assigns c.thing (body_at d p)) _ (blocks_assigns c.thing (body_at d p) (blocks_from d p c f)) (or_right (is_comb (process_at d p)) _ (not_from_false _ (makes_unbound p c (and_from (blocking_target d (body_at d p) c) _ f (not_from_false _ g))))))))
                (cases_Bool (is_dumped d dump.bound c))

    met_told : ReadsWithin d (sure_in d (made_kept d dump.bound p final)) (body_at d p) → ReadsWithin d (sure_in d meets_kept) (body_at d p)
    met_told told =
        within_by d (sure_in d meets_kept) (body_at d p) (sample final) met_agrees
        (inside_as (sure_in d (made_kept d dump.bound p final)) (sure_in d meets_kept) (execution d (body_at d p) (sample final)).visits
        (λ x read v. (v.0, met_sure x v.0 (read_in (λ q. body_mentions q (body_at d p) ≡ true) _ x (execute_reads (λ q. body_mentions q (body_at d p) ≡ true) d (body_at d p) (λ q f. f) (execution_start (sample final)) tt) read) v.1)) (told (sample final) (first_agrees p)))

    -- what it made of a bit stays noted
    made_final : (c : Cell) → blocking_target d (body_at d p) c ≡ true → (all_first d dump.bound run tables (dump.values t) a).made c ≡ (run p (met p wk.kept) quiet).kept c
    made_final c m =
        made_all false tables.last ordered_first c (λ q x f. other q (in_right q rest tables.last x)) ∙ ap (λ z. z.made c) (sym way.0.2)
        ∙ made_all true rest (run_first d dump.bound run tables (dump.values t) a true p wk) c (λ q x f. other q (in_left q rest tables.last x))
        ∙ ap (λ b. (if b then after_first d dump.bound run tables (dump.values t) a true p (run p (met p wk.kept) quiet) wk else wk).made c) is_a
        ∙ at_true (λ z. z ≡ (run p (met p wk.kept) quiet).kept c) (blocking_target d (body_at d p) c) _ (wk.made c) m refl
      where
        other : (q : ℕ) → In q (rest ++ tables.last) → blocking_target d (body_at d q) c ≡ false
        other q x = false_from_ne_true _ (λ e. way_once p rest wk way q x ((machine_lawful d is.lawful).one_writer p q c (inl m) (inl e)))

    made_ran : IsMade d dump.bound p final
    made_ran v agrees told c has = ⊎_elim of_dump of_run (cases_Bool (is_dumped d dump.bound c))
      where
        all_inside : Rattle.design_model.specs.Reads.AllInside (sure_in d (made_kept d dump.bound p final)) (execution d (body_at d p) (sample final)).visits
        all_inside = told (sample final) (first_agrees p)

        same : all_written d (body_at d p) (sample final) ≡ all_written d (body_at d p) v
        same =
            ap (λ z. z ++ join (execution d (body_at d p) (sample final)).nonblocking) (within_blocking d (sure_in d (made_kept d dump.bound p final)) (body_at d p) (sample final) v (first_agrees p) agrees all_inside)
            ∙ ap (λ z. (execution d (body_at d p) v).blocking ++ join z) (within_nonblocking d (sure_in d (made_kept d dump.bound p final)) (body_at d p) (sample final) v (first_agrees p) agrees all_inside)

        leaves : (run p (met p wk.kept) quiet).kept c ≡ Some (put_all v (all_written d (body_at d p) v) c)
        leaves =
            sym (is.runs.frame_queue p (met p wk.kept) quiet c (not_queueing d p c (queues_none d (process_at d p) settles (is.lawful.targets p) c.thing)) (run p (met p wk.kept) quiet).kept)
            ∙ is.runs.sure_written p (met p wk.kept) quiet tt (sample final) met_agrees (met_told told) c refl (subst (λ z. has_cell z c ≡ true) (sym same) has)
            ∙ ap Some (put_covered (sample final) v (all_written d (body_at d p) (sample final)) c (subst (λ z. has_cell z c ≡ true) (sym same) has) ∙ ap (λ z. put_all v z c) same)

        target : blocking_target d (body_at d p) c ≡ true
        target = written_target v c has

        plain : (signal_at d c.thing).input ≡ false
        plain = false_from_ne_true _ (λ input. input_unassigned d is.lawful p c.thing input (target_assigns d is.lawful p c (inl target)))

        of_run : is_dumped d dump.bound c ≡ false → final c ≡ Some (put_all v (all_written d (body_at d p) v) c)
        of_run away = final_made c (and_from (blocking_target d (body_at d p) c) _ target (not_from_false _ away)) ∙ leaves

        of_dump : is_dumped d dump.bound c ≡ true → final c ≡ Some (put_all v (all_written d (body_at d p) v) c)
        of_dump e =
            final_first c e
            ∙ ap Some (sym (not_differ ((all_first d dump.bound run tables (dump.values t) a).made c) (put_all v (all_written d (body_at d p) v) c) (dump.values t c) (made_final c target ∙ leaves)
            (false_from_ne_true _ (λ f. both_ways _ (agreed c) (and_from (is_dumped d dump.bound c) _ e (and_from (not (signal_at d c.thing).input) _ (not_from_false _ plain) f))))))

  pub made_first : (p : ℕ) → In p tables.order → runs p ≡ true → IsMade d dump.bound p final
  made_first p inside is_a = let k = find p tables.order starting way_starts inside in made_ran p is_a k.0 k.1 k.2

-- what is clear at t is so in some round, from what the rules begin with
pub clear_rounds : (d : Design) (h : Habit) (dump : BoundDump) (t : ℕ) (x : Thing) (bits : List Bit) → clear d h dump t x bits → (n : ℕ) × clear_in d h dump t (clear_start d h dump t) n x bits
clear_rounds d h dump zero x bits e = e
clear_rounds d h dump (suc t) x bits e = e

net_rounds : (d : Design) (h : Habit) (dump : BoundDump) (t s : ℕ) (bits : List Bit) → IsNetValue d (clear d h dump t) s bits → IsNetValue d (clear_from d h dump t (clear_start d h dump t)) s bits
net_rounds d h dump zero s bits e = e
net_rounds d h dump (suc t) s bits e = e

rounds_clear : (d : Design) (h : Habit) (dump : BoundDump) (t : ℕ) (x : Thing) (bits : List Bit) → (n : ℕ) → clear_in d h dump t (clear_start d h dump t) n x bits → clear d h dump t x bits
rounds_clear d h dump zero x bits n e = (n, e)
rounds_clear d h dump (suc t) x bits n e = (n, e)

comb_rounds : (d : Design) (h : Habit) (dump : BoundDump) (t p s : ℕ) (bits : List Bit) → IsCombValue d dump t (clear d h dump t) p s bits → IsCombValue d dump t (clear_from d h dump t (clear_start d h dump t)) p s bits
comb_rounds d h dump zero p s bits e = e
comb_rounds d h dump (suc t) p s bits e = e

module _ (d : Design) (h : Habit) (dump : BoundDump) (run : Runs) (tables : Tables) (points : List Point) (is : IsReplayOf d h dump run tables points) (asked : AskedLaws d) (t : ℕ) (a : Replay) (first : IsFirst dump t) (paused : IsPaused d h dump points t a) (agreed : (c : Cell) → contradicts_first d dump.bound run tables (dump.values t) a c ≡ false) where
  abbrev final_kept : Kept
  final_kept = (all_first d dump.bound run tables (dump.values t) a).kept

  -- a change up to now was before
  has_acted : (p : ℕ) → IsComb (process_at d p) → HasChanged dump d (body_at d p) t → a.acted p ≡ true
  has_acted p is_comb changed =
      paused.has_acted p is_comb changed.time (window_before_first dump.stretches t changed.time is.fits.rising first changed.in_window changed.until)
      (record { by = changed.by; time = changed.time; mentioned = changed.mentioned; is_bound = changed.is_bound; until = omega arith; in_window = changed.in_window; changed = changed.changed })

  never : IsWindow dump t → ⊥
  never window = window_not_first dump.stretches t is.fits.rising first window

  made : (p : ℕ) → In p tables.order → (IsComb (process_at d p) → a.acted p ≡ true) → IsMade d dump.bound p final_kept
  made p inside acted = made_first d h dump run tables points is t a agreed p inside (⊎_elim (λ e. or_left (is_assign (process_at d p)) _ e) of_comb (cases_Bool (is_assign (process_at d p))))
    where
      of_comb : is_assign (process_at d p) ≡ false → runs_first d dump.bound run tables (dump.values t) a p ≡ true
      of_comb e =
          let c = comb_if (process_at d p) ((is.tabled.others p).0 (inl inside)).1 e in
          or_right (is_assign (process_at d p)) _ (and_from (is_comb (process_at d p)) _ (is_comb-of (process_at d p) c) (acted c))

  own : (p y : ℕ) → is_assign (process_at d p) ≡ true → body_mentions y (body_at d p) ≡ true → body_assigns y (body_at d p) ≡ true → dump.bound y ≡ false → (n : ℕ) → HasValue (clear_in d h dump t (clear_start d h dump t) n) (a_signal y) → ⊥
  own p y is_a m mine free n v = asked.own_unclear h dump t p y is_a m mine free (v.0, rounds_clear d h dump t (a_signal y) v.0 n v.1)

  pub is_sure : (x : Thing) (bits : List Bit) → clear d h dump t x bits → sure_in d final_kept x bits
  is_sure x bits e =
      let k = clear_rounds d h dump t x bits e in
      clear_sure d h dump run tables points is asked t (clear_start d h dump t) final_kept a.acted (final_first d h dump run tables points is t a agreed) made has_acted own
      (λ p z w window free target unwoken was. absurd (never window)) (λ p c z w window free value. absurd (never window)) k.0 x bits k.1

  -- and so is the value of a net whose Assigns read only what is clear
  pub net_sure : (s : ℕ) (bits : List Bit) → IsNetValue d (clear d h dump t) s bits → sure_in d final_kept (a_signal s) bits
  net_sure s bits net =
      net_clear d h dump run tables points is asked t (clear_start d h dump t) final_kept a.acted (final_first d h dump run tables points is t a agreed) made has_acted own
      (λ p z w window free target unwoken was. absurd (never window)) (λ p c z w window free value. absurd (never window)) s bits (net_rounds d h dump t s bits net)

  -- and the value that a Comb gives a signal
  pub comb_sure : (p s : ℕ) (bits : List Bit) → IsCombValue d dump t (clear d h dump t) p s bits → sure_in d final_kept (a_signal s) bits
  comb_sure p s bits value =
      comb_clear d h dump run tables points is asked t (clear_start d h dump t) final_kept a.acted (final_first d h dump run tables points is t a agreed) made has_acted own
      (λ q z w window free target unwoken was. absurd (never window)) (λ q c z w window free written. absurd (never window)) p s bits (comb_rounds d h dump t p s bits value)

  pub known_first : AreKnown d h dump tables t (started d dump.bound run tables (dump.values t) a)
  known_first = record { is_clear = is_sure; has_acted = has_acted; made = made }

pub first_known_law : FirstKnownLaw
first_known_law d h dump run tables points is own t a first shown paused agreed = known_first d h dump run tables points is (asked_of d is.lawful own) t a first paused agreed
