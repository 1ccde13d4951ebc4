-- After a closing step a process that did not run has still made what it may, and a Comb of which a bound signal changed has acted.
use Rattle.std.proofs.Common.{◌≡◌, ◌≢◌, ◌⊎◌, inl, inr, ⊎_elim, ℕ, zero, suc, ◌-◌, ◌+◌, ◌<◌, ◌≤◌, Bool, true, false, not, ◌&&◌, ◌||◌, ◌==◌, List, [], ◌∷◌, ◌++◌, length, refl, sym, ap, subst, ◌∙◌, arith, Some, None, if◌then◌else◌}
use Rattle.std.specs.List.{list_any, range_with_len}
use Rattle.std.proofs.lemmas.Bool.{and_parts, and_from, and_left, both_ways, cases_Bool, cases_eq, cases_lt, eq-eqb, eqb-true, false_from_ne_true, lt-ltb, not-true, not_from_false, or_left, or_right, true_from_ne_false}
use Rattle.event_machine.proofs.Least.{early_law}
use Rattle.event_machine.specs.Cell.{Cell, Values, put_all}
use Rattle.event_machine.specs.Habit.{Habit}
use Rattle.event_machine.specs.Machine.{IsTarget}
use Rattle.design_model.specs.four_state.declared.bit.Bit.{Bit}
use Rattle.design_model.specs.declared.point.Point.{Point}
use Rattle.design_model.specs.Design.{Design, In, IsClocked, IsComb, Thing, a_signal, body_at, cell, cells, no_process, owner, process_at, signal_at, signal_bits, signal_cells, thing_bits}
use Rattle.design_model.specs.Mentions.{blocking_target, body_assigns, body_mentions, has_cell}
use Rattle.design_model.specs.Execution.{execution, execution_start}
use Rattle.design_model.specs.Machine.{is_level, machine}
use Rattle.design_model.specs.Shows.{BoundDump, IsWindow}
use Rattle.design_model.specs.Reads.{Agrees, ReadsWithin}
use Rattle.design_model.specs.Clear.{HasChanged, clear}
use Rattle.design_model.proofs.Assigns.{machine_lawful}
use Rattle.design_model.proofs.Lawful.{same_bit_is}
use Rattle.design_model.proofs.Mentions.{execute_reads}
use Rattle.design_model.proofs.WithinMap.{put_covered, within_by}
use Rattle.design_model.proofs.Stretches.{window_shown_at}
use Rattle.replay_model.proofs.AskedLaws.{AskedLaws}
use Rattle.body_replay.specs.Contract.{all_written, sure_in}
use Rattle.body_replay.specs.Replay.{flush}
use Rattle.body_replay.specs.Runs.{Runs}
use Rattle.body_replay.specs.Store.{Kept}
use Rattle.replay_model.specs.Sets.{AreSets, Sets}
use Rattle.replay_model.specs.Tables.{Tables}
use Rattle.replay_model.specs.Step.{Closing, Replay, Working, acts, after_settling, all_run, certainty, clocked_run, contradicts, is_comb, is_dumped, is_loose, is_touched, plain_store, run_all_settling, run_settling, sees_change, settle_start, settled_kept, surely_differ}
use Rattle.replay_model.specs.Stands.{IsMade, made_kept}
use Rattle.replay_model.specs.Laws.{IsReplayOf, closing_at}
use Rattle.replay_model.proofs.Acted.{clocked_acted}
use Rattle.replay_model.proofs.AllowedBy.{past}
use Rattle.replay_model.proofs.Bits.{any_in, in_any, none_in}
use Rattle.replay_model.proofs.Clocked.{at_false, at_true}
use Rattle.replay_model.proofs.ClearRounds.{inside_as, read_in, signal_dumped}
use Rattle.replay_model.proofs.ClockedKept.{away_from, clocked_stays}
use Rattle.replay_model.proofs.Existing.{signal_has}
use Rattle.replay_model.proofs.Grows.{sample}
use Rattle.replay_model.proofs.MadeNow.{acted_all, made_agrees, same_all, target_plain, written_target}
use Rattle.replay_model.proofs.Order.{final_dumped, kept_all, made_dumped, makes}
use Rattle.replay_model.proofs.Reasons.{in_owner, map_same}
use Rattle.replay_model.proofs.Calm.{calm_dumped, made_start, target_moves}
use Rattle.replay_model.proofs.SettleReasons.{bound_clear, sure_at}
use Rattle.replay_model.proofs.Settling.{in_signal, level_mentioned, same_visits, same_writes}

in_numbers : (n k s : ℕ) → n ≤ s → s < n + k → In s (range_with_len n k)
in_numbers n zero s le lt = absurd (omega (arith, le, lt))
in_numbers n (suc k) s le lt = ⊎_elim (λ e. inl e) (λ ne. inr (in_numbers (n + 1) k s (omega (arith, le, ne)) (omega (arith, lt)))) (cases_eq n s)

module _ (h : Habit) (d : Design) (dump : BoundDump) (run : Runs) (tables : Tables) (points : List Point) (is : IsReplayOf d h dump run tables points) (asked : AskedLaws d) (t : ℕ) (sets : Sets) (a : Replay) (window : IsWindow dump (suc t)) (are : AreSets d h dump (suc t) sets) (at_start : (x : Thing) (bits : List Bit) → clear d h dump t x bits → sure_in d a.kept x bits) (agreed : (c : Cell) → contradicts (closing_at d dump run tables sets t a) c ≡ false) where
  abbrev st : Closing
  st = closing_at d dump run tables sets t a

  abbrev final : Kept
  final = (all_run st).kept

  moves_with : (q : ℕ) (c : Cell) → IsTarget (machine d) q c → (is_touched st q ≡ true) ⊎ Rattle.design_model.specs.MayMove.CanWakeSome d dump (suc t) q → sets.moves c.thing ≡ true
  moves_with = target_moves h d dump run tables points is asked t sets a window are at_start agreed

  start_dumped : (c : Cell) → is_dumped d dump.bound c ≡ true → a.kept c ≡ Some (dump.values t c)
  start_dumped c has =
      let b = and_parts (dump.bound c.thing) _ has in
      sure_at a.kept (dump.values t) (signal_cells d c.thing) (at_start (a_signal c.thing) (signal_bits d (dump.values t) c.thing) (bound_clear d h dump t c.thing (window_shown_at dump.stretches t window).0 b.0 (is.fits.signals c.thing b.0))) c (signal_has d c (Rattle.std.proofs.lemmas.Bool.ltb-true _ _ b.1))

  -- what the Clocked and the Assigns and Combs that run do not write stays
  undumped_same : (c : Cell) → is_dumped d dump.bound c ≡ false → ((q : ℕ) → IsTarget (machine d) q c → (is_touched st q ≡ true) ⊎ Rattle.design_model.specs.MayMove.CanWakeSome d dump (suc t) q → ⊥) → final c ≡ a.kept c
  undumped_same c away never =
      kept_all d h (early_law (machine d)) dump run tables points is t sets are a false tables.last (run_all_settling st true tables.order (settle_start st (clocked_run st))) c (λ q x f. other q f)
      ∙ kept_all d h (early_law (machine d)) dump run tables points is t sets are a true tables.order (settle_start st (clocked_run st)) c (λ q x f. other q f)
      ∙ at_false (λ z. z ≡ flush (clocked_run st).kept (clocked_run st).queue c) (is_dumped d dump.bound c) _ _ away (at_false (λ z. z ≡ flush (clocked_run st).kept (clocked_run st).queue c) (is_loose st c) None (flush (clocked_run st).kept (clocked_run st).queue c) firm refl)
      ∙ clocked_stays d h (early_law (machine d)) dump run tables points is t sets are a c (λ q x ran. away_from d h (early_law (machine d)) dump run tables points is t sets are a c q (λ at. never q at (inr (cell ran.0 0, (are.trigger q ran.0 ran.1).can_wake))))
      (λ q x ran. away_from d h (early_law (machine d)) dump run tables points is t sets are a c q (λ at. never q at (inr (cell ran.1.0 0, are.wakes q ran.1.0 ran.1.1))))
    where
      other : (q : ℕ) → is_touched st q ≡ true → makes d h (early_law (machine d)) dump run tables points is t sets are a q c ≡ false
      other q f = false_from_ne_true _ (λ m. never q (inl (and_parts (blocking_target d (body_at d q) c) _ m).0) (inl f))

      firm : is_loose st c ≡ false
      firm = false_from_ne_true _ (λ m. let q = any_in (λ q. is_touched st q && blocking_target d (body_at d q) c) (tables.order ++ tables.last) m in let b = and_parts (is_touched st q.0) _ q.2 in never q.0 (inl b.1) (inl b.0))

  -- what may not move is known as it was
  calm_same : (c : Cell) → sets.moves c.thing ≡ false → final c ≡ a.kept c
  calm_same c calm = ⊎_elim dumped' (λ e. undumped_same c e (λ q at woken. both_ways _ calm (moves_with q c at woken))) (cases_Bool (is_dumped d dump.bound c))
    where
      dumped' : is_dumped d dump.bound c ≡ true → final c ≡ a.kept c
      dumped' e = final_dumped d h (early_law (machine d)) dump run tables points is t sets are a c e ∙ ap Some (sym (calm_dumped h d dump run tables points is asked t sets a window are at_start agreed c e calm)) ∙ sym (start_dumped c e)

  module _ (p : ℕ) (settles : IsClocked (process_at d p) → ⊥) (untouched : is_touched st p ≡ false) where
    calm_level : (x : ℕ) → is_level (process_at d p) x ≡ true → sets.moves x ≡ false
    calm_level x level = none_in sets.moves (tables.watched p) untouched x ((is.tabled.watched p x).1 level)

    mention_same : (c : Cell) → body_mentions c.thing (body_at d p) ≡ true → final c ≡ a.kept c
    mention_same c m = calm_same c (calm_level c.thing (level_mentioned (process_at d p) c.thing settles m))

    -- no other process that runs writes a target of its
    never : (c : Cell) → blocking_target d (body_at d p) c ≡ true → (q : ℕ) → IsTarget (machine d) q c → (is_touched st q ≡ true) ⊎ Rattle.design_model.specs.MayMove.CanWakeSome d dump (suc t) q → ⊥
    never c target q at woken =
        let e = (machine_lawful d is.lawful).one_writer q p c at (inl target) in
        ⊎_elim (λ f. both_ways _ untouched (subst (λ z. is_touched st z ≡ true) e f)) (λ f. settles (Rattle.replay_model.proofs.Hits.edge_clocked (process_at d p) f.1.0.0 f.0 (subst (λ z. (machine d).edge z f.1.0.0 f.0 ≡ true) e f.1.0.1))) woken

    target_same : (c : Cell) → blocking_target d (body_at d p) c ≡ true → final c ≡ a.kept c
    target_same c target = ⊎_elim of_dump (λ away. undumped_same c away (never c target)) (cases_Bool (is_dumped d dump.bound c))
      where
        of_dump : is_dumped d dump.bound c ≡ true → final c ≡ a.kept c
        of_dump has =
            final_dumped d h (early_law (machine d)) dump run tables points is t sets are a c has
            ∙ ap Some (sym (made_dumped d h (early_law (machine d)) dump run tables points is t sets are a c (agreed c) has (target_plain d h (early_law (machine d)) dump run tables points is t sets are a p settles c target) (dump.values t c)
            (made_start h d dump run tables points is asked t sets a window are at_start agreed c (never c target) ∙ start_dumped c has)))
            ∙ sym (start_dumped c has)

    abbrev mixed : Values Bit
    mixed c = if body_mentions c.thing (body_at d p) then sample final c else sample a.kept c

    mixed_final : (c : Cell) → body_mentions c.thing (body_at d p) ≡ true → mixed c ≡ sample final c
    mixed_final c m = at_true (λ z. z ≡ sample final c) (body_mentions c.thing (body_at d p)) (sample final c) (sample a.kept c) m refl

    kept_same : (x : Thing) → body_mentions (owner x) (body_at d p) ≡ true → (c : Cell) → In c (cells d x) → made_kept d dump.bound p final c ≡ made_kept d dump.bound p a.kept c
    kept_same x m c inside = ap (λ z. if body_assigns c.thing (body_at d p) && (is_comb (process_at d p) || not (dump.bound c.thing)) then None else z) (mention_same c (subst (λ z. body_mentions z (body_at d p) ≡ true) (sym (in_owner d x c inside)) m))

    mixed_agrees : Agrees d (sure_in d (made_kept d dump.bound p a.kept)) mixed
    mixed_agrees x bits e = ⊎_elim mentioned other (cases_Bool (body_mentions (owner x) (body_at d p)))
      where
        mentioned : body_mentions (owner x) (body_at d p) ≡ true → thing_bits d mixed x ≡ bits
        mentioned m =
            map_same mixed (sample final) (cells d x) (λ c inside. mixed_final c (subst (λ z. body_mentions z (body_at d p) ≡ true) (sym (in_owner d x c inside)) m))
            ∙ made_agrees d h (early_law (machine d)) dump run tables points is t sets are a p final x bits (map_same (made_kept d dump.bound p final) (made_kept d dump.bound p a.kept) (cells d x) (kept_same x m) ∙ e)

        other : body_mentions (owner x) (body_at d p) ≡ false → thing_bits d mixed x ≡ bits
        other m =
            map_same mixed (sample a.kept) (cells d x) (λ c inside. at_false (λ z. z ≡ sample a.kept c) (body_mentions c.thing (body_at d p)) (sample final c) (sample a.kept c) (subst (λ z. body_mentions z (body_at d p) ≡ false) (sym (in_owner d x c inside)) m) refl)
            ∙ made_agrees d h (early_law (machine d)) dump run tables points is t sets are a p a.kept x bits e

    pub made_untouched : IsMade d dump.bound p a.kept → IsMade d dump.bound p final
    made_untouched was v agrees told c has =
        target_same c target ∙ was mixed mixed_agrees mixed_told c (subst (λ z. has_cell z c ≡ true) (sym all_same) has)
        ∙ ap Some (put_covered mixed v (all_written d (body_at d p) mixed) c (subst (λ z. has_cell z c ≡ true) (sym all_same) has) ∙ ap (λ z. put_all v z c) all_same)
      where
        target : blocking_target d (body_at d p) c ≡ true
        target = written_target d h (early_law (machine d)) dump run tables points is t sets are a p settles v c has

        all_same : all_written d (body_at d p) mixed ≡ all_written d (body_at d p) v
        all_same =
            same_writes d (body_at d p) mixed (sample final) mixed_final
            ∙ same_all d h (early_law (machine d)) dump run tables points is t sets are a (sure_in d (made_kept d dump.bound p final)) p (sample final) v (made_agrees d h (early_law (machine d)) dump run tables points is t sets are a p final) agrees told

        mixed_told : ReadsWithin d (sure_in d (made_kept d dump.bound p a.kept)) (body_at d p)
        mixed_told =
            within_by d (sure_in d (made_kept d dump.bound p a.kept)) (body_at d p) mixed mixed_agrees
            (subst (Rattle.design_model.specs.Reads.AllInside (sure_in d (made_kept d dump.bound p a.kept))) (sym (same_visits d (body_at d p) mixed (sample final) mixed_final))
            (inside_as (sure_in d (made_kept d dump.bound p final)) (sure_in d (made_kept d dump.bound p a.kept)) (execution d (body_at d p) (sample final)).visits
            (λ x read v. (v.0, map_same (made_kept d dump.bound p a.kept) (made_kept d dump.bound p final) (cells d x) (λ c inside. sym (kept_same x (read_in (λ q. body_mentions q (body_at d p) ≡ true) _ x (execute_reads (λ q. body_mentions q (body_at d p) ≡ true) d (body_at d p) (λ q f. f) (execution_start (sample final)) tt) read) c inside)) ∙ v.1))
            (told (sample final) (made_agrees d h (early_law (machine d)) dump run tables points is t sets are a p final))))

  start_acted : (settle_start st (clocked_run st)).acted ≡ a.acted
  start_acted = clocked_acted st

  -- a Comb that did not run has acted where it had
  pub untouched_acted : (p : ℕ) → is_touched st p ≡ false → (all_run st).acted p ≡ a.acted p
  untouched_acted p untouched =
      acted_all d h (early_law (machine d)) dump run tables points is t sets are a false tables.last (run_all_settling st true tables.order (settle_start st (clocked_run st))) p (λ q x f e. both_ways _ untouched (subst (λ z. is_touched st z ≡ true) (sym e) f))
      ∙ acted_all d h (early_law (machine d)) dump run tables points is t sets are a true tables.order (settle_start st (clocked_run st)) p (λ q x f e. both_ways _ untouched (subst (λ z. is_touched st z ≡ true) (sym e) f)) ∙ ap (λ f. f p) start_acted

  one_more : (ordered : Bool) (q : ℕ) (wk : Working) (p : ℕ) → wk.acted p ≡ true → (run_settling st ordered q wk).acted p ≡ true
  one_more ordered q wk p e = go (is_touched st q)
    where
      go : (b : Bool) → (if b then after_settling st ordered q (certainty st wk.kept q) (run q (plain_store (settled_kept d q wk.kept)) (certainty st wk.kept q)) wk else wk).acted p ≡ true
      go true = ⊎_elim (λ f. at_true (λ z. z ≡ true) (p == q) (acts st q (certainty st wk.kept q) wk) (wk.acted p) f (or_left _ _ (subst (λ z. wk.acted z ≡ true) (eqb-true p q f) e))) (λ f. at_false (λ z. z ≡ true) (p == q) (acts st q (certainty st wk.kept q) wk) (wk.acted p) f e) (cases_Bool (p == q))
      go false = e

  all_more : (ordered : Bool) (ps : List ℕ) (wk : Working) (p : ℕ) → wk.acted p ≡ true → (run_all_settling st ordered ps wk).acted p ≡ true
  all_more ordered [] wk p e = e
  all_more ordered (q ∷ ps) wk p e = all_more ordered ps (run_settling st ordered q wk) p (one_more ordered q wk p e)

  acts_here : (ordered : Bool) (ps : List ℕ) (wk : Working) (p : ℕ) → In p ps → is_touched st p ≡ true → sees_change st p ≡ true → (run_all_settling st ordered ps wk).acted p ≡ true
  acts_here ordered [] wk p inside touched sees = absurd inside
  acts_here ordered (q ∷ ps) wk p (inr x) touched sees = acts_here ordered ps (run_settling st ordered q wk) p x touched sees
  acts_here ordered (q ∷ ps) wk p (inl e) touched sees = all_more ordered ps (run_settling st ordered q wk) p here
    where
      here : (run_settling st ordered q wk).acted p ≡ true
      here =
          subst (λ z. (run_settling st ordered z wk).acted p ≡ true) (sym e)
          (ap (λ b. (if b then after_settling st ordered p (certainty st wk.kept p) (run p (plain_store (settled_kept d p wk.kept)) (certainty st wk.kept p)) wk else wk).acted p) touched
          ∙ at_true (λ z. z ≡ true) (p == p) (acts st p (certainty st wk.kept p) wk) (wk.acted p) (eq-eqb p p refl) (or_right _ _ (or_right _ _ sees)))

  pub acted_kept : (p : ℕ) → a.acted p ≡ true → (all_run st).acted p ≡ true
  acted_kept p e = all_more false tables.last (run_all_settling st true tables.order (settle_start st (clocked_run st))) p (all_more true tables.order (settle_start st (clocked_run st)) p (ap (λ f. f p) start_acted ∙ e))

  last : suc t - 1 ≡ t
  last = omega arith

  -- a Comb of which a bound signal that it mentions changes over the step acts
  pub acted_now : (p : ℕ) → IsComb (process_at d p) → (s : ℕ) → body_mentions s (body_at d p) ≡ true → dump.bound s ≡ true → signal_bits d (dump.values t) s ≢ signal_bits d (dump.values (suc t)) s → (all_run st).acted p ≡ true
  acted_now p is_comb' s mention bound differ = ⊎_elim by_order by_last ((is.tabled.others p).1 (below (cases_lt p (length d.processes)), not_clocked (process_at d p) is_comb'))
    where
      not_clocked : (x : Rattle.design_model.specs.Tree.Process) → IsComb x → IsClocked x → ⊥
      not_clocked x c k = Rattle.replay_model.proofs.Settling.comb_not_clocked x c k

      below : (p < length d.processes) ⊎ (length d.processes ≤ p) → p < length d.processes
      below (inl lt) = lt
      below (inr le) = absurd (both_ways false refl (subst (λ z. body_mentions s (Rattle.design_model.specs.Design.body z) ≡ true) (past d.processes p le) mention))

      dumped_cell : (c : Cell) → In c (signal_cells d s) → is_dumped d dump.bound c ≡ true
      dumped_cell c inside = signal_dumped d dump.bound s c bound inside

      inner : list_any (λ c. surely_differ (a.kept c) (Some (dump.values (suc t) c))) (signal_cells d s) ≡ true
      inner =
          true_from_ne_false _
          (λ e. differ (map_same (dump.values t) (dump.values (suc t)) (signal_cells d s) (λ c inside. equal (dump.values t c) (dump.values (suc t) c) (ap (λ z. surely_differ z (Some (dump.values (suc t) c))) (sym (start_dumped c (dumped_cell c inside))) ∙ none_in (λ c. surely_differ (a.kept c) (Some (dump.values (suc t) c))) (signal_cells d s) e c inside))))
        where
          equal : (x y : Bit) → surely_differ (Some x) (Some y) ≡ false → x ≡ y
          equal x y f = same_bit_is x y (Rattle.std.proofs.lemmas.Bool.not-false _ f)

      sees : sees_change st p ≡ true
      sees =
          in_any (λ s. dump.bound s && (body_mentions s (body_at d p) && list_any (λ c. surely_differ (a.kept c) (Some (dump.values (suc t) c))) (signal_cells d s))) (range_with_len 0 (length d.signals)) s (in_numbers 0 (length d.signals) s (omega arith) (omega (arith, is.fits.signals s bound)))
          (and_from (dump.bound s) _ bound (and_from (body_mentions s (body_at d p)) _ mention inner))

      touched : is_touched st p ≡ true
      touched =
          in_any sets.moves (tables.watched p) s ((is.tabled.watched p s).1 (level_mentioned (process_at d p) s (not_clocked (process_at d p) is_comb') mention))
          (true_from_ne_false _
          (λ calm. differ (map_same (dump.values t) (dump.values (suc t)) (signal_cells d s) (λ c inside. calm_dumped h d dump run tables points is asked t sets a window are at_start agreed c (dumped_cell c inside) (subst (λ z. sets.moves z ≡ false) (sym (in_signal d s c inside).0) calm)))))

      by_order : In p tables.order → (all_run st).acted p ≡ true
      by_order x = all_more false tables.last (run_all_settling st true tables.order (settle_start st (clocked_run st))) p (acts_here true tables.order (settle_start st (clocked_run st)) p x touched sees)

      by_last : In p tables.last → (all_run st).acted p ≡ true
      by_last x = acts_here false tables.last (run_all_settling st true tables.order (settle_start st (clocked_run st))) p x touched sees

  pub has_acted_now : ((p : ℕ) → IsComb (process_at d p) → HasChanged dump d (body_at d p) t → a.acted p ≡ true) → (p : ℕ) → IsComb (process_at d p) → HasChanged dump d (body_at d p) (suc t) → (all_run st).acted p ≡ true
  has_acted_now before p is_comb' changed = ⊎_elim now old (cases_eq changed.time (suc t))
    where
      now : changed.time ≡ suc t → (all_run st).acted p ≡ true
      now e =
          acted_now p is_comb' changed.by changed.mentioned changed.is_bound
          (λ f. changed.changed (ap (λ u. signal_bits d (dump.values (u - 1)) changed.by) e ∙ ap (λ u. signal_bits d (dump.values u) changed.by) last ∙ f ∙ ap (λ u. signal_bits d (dump.values u) changed.by) (sym e)))

      old : changed.time ≢ suc t → (all_run st).acted p ≡ true
      old ne =
          acted_kept p
          (before p is_comb' (record { by = changed.by; time = changed.time; mentioned = changed.mentioned; is_bound = changed.is_bound; until = earlier changed.until; in_window = changed.in_window; changed = changed.changed }))
        where
          earlier : changed.time ≤ suc t → changed.time ≤ t
          earlier le = omega (arith, le, ne)
