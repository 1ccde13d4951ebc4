-- What is clear by the rules for Clocked is sure at the end of a closing step.
use Rattle.std.proofs.Common.{◌≡◌, ⊎_elim, ℕ, suc, ◌-◌, true, false, ◌==◌, List, map, length, refl, sym, ap, subst, ◌∙◌, arith, Option, Some, None}
use Rattle.std.specs.Prelude.{nat_le}
use Rattle.std.specs.List.{list_any}
use Rattle.std.proofs.lemmas.Bool.{and_parts, and_left, both_ways, cases_Bool, false_from_ne_true, leb-true, ne_eqb, or_from}
use Rattle.event_machine.specs.Cell.{Cell, Values, put_all, same_cell}
use Rattle.event_machine.specs.Habit.{Habit}
use Rattle.event_machine.specs.Laws.{EarlyLaw}
use Rattle.design_model.specs.four_state.declared.bit.Bit.{Bit}
use Rattle.design_model.specs.declared.point.Point.{Point}
use Rattle.design_model.specs.Design.{Design, In, IsClocked, IsThing, Thing, a_signal, a_word, body_at, cell, cells, process_at}
use Rattle.design_model.specs.Mentions.{body_assigns, has_cell}
use Rattle.design_model.specs.Execution.{execution}
use Rattle.design_model.specs.Machine.{machine}
use Rattle.design_model.specs.Shows.{BoundDump}
use Rattle.design_model.specs.MayMove.{CanWakeSome}
use Rattle.design_model.specs.Reads.{Agrees, HasValue, ReadsWithin}
use Rattle.design_model.specs.Clear.{EntryFrom, IsClockedTarget, IsUnbound, IsWrittenValue, LeavesValue, all_writes, clear}
use Rattle.design_model.proofs.Named.{has_cell-from}
use Rattle.design_model.proofs.WithinMap.{put_covered}
use Rattle.design_model.proofs.Untouched.{put_other}
use Rattle.replay_model.proofs.AskedLaws.{AskedLaws}
use Rattle.body_replay.specs.Contract.{all_written, clean, flushed, sure_in}
use Rattle.body_replay.specs.Replay.{flush}
use Rattle.body_replay.specs.Runs.{Runs, StoreView, seen_of}
use Rattle.replay_model.specs.Sets.{AreSets, Sets}
use Rattle.replay_model.specs.Tables.{Tables}
use Rattle.replay_model.specs.Step.{Closing, Replay, all_run, clean_order, clocked_run, entry_kept, is_dumped, opened, plain_store, run_all_clean}
use Rattle.replay_model.specs.Laws.{IsReplayOf, closing_at}
use Rattle.replay_model.proofs.AllowedBy.{past}
use Rattle.replay_model.proofs.Bits.{all_in}
use Rattle.replay_model.proofs.ClockedKept.{OwnRun, away_from, clocked_final, clocked_made, clocked_stays, own_left}
use Rattle.replay_model.proofs.Grows.{Within, sample, sample_agrees, within_agrees, reads_within}
use Rattle.replay_model.proofs.Reasons.{entry_within, in_owner, map_same, map_sure}
use Rattle.replay_model.proofs.SettleReasons.{sure_at}
use Rattle.replay_model.proofs.Targets.{one_assigner, own_not_early, target_assigns}
use Rattle.replay_model.proofs.Rounds.{own_not_trigger}
use Rattle.design_model.specs.Shows.{IsWindow}

module _ (d : Design) (h : Habit) (early_law : EarlyLaw (machine d)) (dump : BoundDump) (run : Runs) (tables : Tables) (points : List Point) (is : IsReplayOf d h dump run tables points) (asked : AskedLaws d) (t : ℕ) (window : IsWindow dump (suc t)) (sets : Sets) (are : AreSets d h dump (suc t) sets) (a : Replay) (at_start : (x : Thing) (bits : List Bit) → clear d h dump t x bits → sure_in d a.kept x bits) where
  abbrev st : Closing
  st = closing_at d dump run tables sets t a

  -- a cell of an unbound thing is not dumped
  undumped : (x : Thing) → IsThing d x → IsUnbound dump x → (c : Cell) → In c (cells d x) → is_dumped d dump.bound c ≡ false
  undumped (a_signal s) is_thing free c inside = and_left _ _ (subst (λ z. dump.bound z ≡ false) (sym (in_owner d (a_signal s) c inside)) free)
  undumped (a_word m i) is_thing free c inside =
      and_left _ _ (false_from_ne_true _ (λ bound. omega (arith, is.fits.signals c.thing bound, in_owner d (a_word m i) c inside, leb-true (length d.signals) m (and_parts (nat_le (length d.signals) m) _ is_thing.0).0)))

  clocked_known : (p : ℕ) → IsClocked (process_at d p) → In p tables.clocked
  clocked_known p is_clocked = (is.tabled.clocked p).1 (⊎_elim (λ lt. lt) (λ le. absurd (subst IsClocked (past d.processes p le) is_clocked)) (Rattle.std.proofs.lemmas.Bool.cases_lt p (length d.processes)), is_clocked)

  -- what a Clocked writes that cannot wake stays as it was clear
  pub unwoken_sure : (p : ℕ) (x : Thing) (bits : List Bit) → IsUnbound dump x → IsClockedTarget d p x → (CanWakeSome d dump (suc t) p → ⊥) → clear d h dump t x bits → sure_in d (all_run st).kept x bits
  unwoken_sure p x bits free target never known = map_same (all_run st).kept a.kept (cells d x) same ∙ at_start x bits known
    where
      same : (c : Cell) → In c (cells d x) → (all_run st).kept c ≡ a.kept c
      same c inside =
          clocked_final d h early_law dump run tables points is t sets are a p target.is_clocked c mine (undumped x target.is_thing free c inside)
          ∙ clocked_stays d h early_law dump run tables points is t sets are a c (λ q y ran. away_from d h early_law dump run tables points is t sets are a c q (λ at. never (cell ran.0 0, (are.trigger p ran.0 (subst (λ z. sets.trigger z ≡ Some ran.0) (is_p q at) ran.1)).can_wake)))
          (λ q y ran. away_from d h early_law dump run tables points is t sets are a c q (λ at. never (cell ran.1.0 0, are.wakes p ran.1.0 (subst (λ z. sets.wakes z ≡ Some ran.1.0) (is_p q at) ran.1.1))))
        where
          mine : body_assigns c.thing (body_at d p) ≡ true
          mine = subst (λ z. body_assigns z (body_at d p) ≡ true) (sym (in_owner d x c inside)) target.target

          is_p : (q : ℕ) → Rattle.event_machine.specs.Machine.IsTarget (machine d) q c → q ≡ p
          is_p q at = one_assigner d is.lawful p q c.thing target.is_clocked (subst (λ z. body_assigns z (body_at d p) ≡ true) (sym (in_owner d x c inside)) target.target) (target_assigns d is.lawful q c at)

  -- what a clean block so writes the Clocked leave sure
  written_left : (p : ℕ) (c0 : Cell) (x : Thing) (bits : List Bit) → IsWrittenValue d h dump (suc t) (clear d h dump t) p c0 x bits → sure_in d (flush (clocked_run st).kept (clocked_run st).queue) x bits
  written_left p c0 x bits value = go (sets.trigger p) refl
    where
      go : (o : Option ℕ) → sets.trigger p ≡ o → sure_in d (flush (clocked_run st).kept (clocked_run st).queue) x bits
      go None e = absurd (are.no_trigger p e c0 value.is_clean)
      go (Some s) e = map_sure (flush (clocked_run st).kept (clocked_run st).queue) (put_all (sample a.kept) (all_written d (body_at d p) v0)) (cells d x) each ∙ ap (map Some) whole
        where
          v0 : Values Bit
          v0 = sample (entry_kept st p s)

          reads_as : (k : StoreView) → ((b : Cell) → seen_of k b ≡ entry_kept st p s b) → seen_of k ≡ entry_kept st p s
          reads_as k f = λ i b. f b i

          first : IsClocked (process_at d p)
          first = value.writer.is_clocked

          owns : (c : Cell) → In c (cells d x) → body_assigns c.thing (body_at d p) ≡ true
          owns c inside = subst (λ z. body_assigns z (body_at d p) ≡ true) (sym (in_owner d x c inside)) value.writer.target

          left : (c : Cell) → In c (cells d x) → (k : OwnRun d h early_law dump run tables points is t sets are a p s c (run_all_clean st (clean_order st) (opened st))) × (flush (clocked_run st).kept (clocked_run st).queue c ≡ flushed (run p k.store (clean (suc t))) c)
          left c inside = own_left d h early_law dump run tables points is t sets are a p s (clocked_known p value.writer.is_clocked) e value.writer.is_clocked c (owns c inside)

          -- what the block knows is sure as it reads
          within0 : Within (EntryFrom d h dump (suc t) (clear d h dump t) p c0) (sure_in d (entry_kept st p s))
          within0 z w known =
              entry_within d h dump run tables points is early_law asked t window sets are a at_start p (run p (plain_store (entry_kept st p s)) (clean (suc t))).notes (record { trigger = s; is_trigger = e; store = plain_store (entry_kept st p s); reads = λ b. refl; notes = refl }) z w
              (c0, value.is_clean, subst (λ u. EntryFrom d h dump (suc t) (clear d h dump u) p c0 z w) back known)
            where
              back : t ≡ suc t - 1
              back = omega arith

          agrees : (c : Cell) (inside : In c (cells d x)) → Agrees d (sure_in d (seen_of (left c inside).0.store)) (sample (entry_kept st p s))
          agrees c inside = subst (λ f. Agrees d (sure_in d f) (sample (entry_kept st p s))) (sym (reads_as (left c inside).0.store (left c inside).0.reads)) (sample_agrees d (entry_kept st p s))

          hidden : (c : Cell) (inside : In c (cells d x)) → (left c inside).0.store.hidden c.thing ≡ false
          hidden c inside =
              ap (λ f. f c.thing) (left c inside).0.hides
              ∙ or_from (c.thing == s) _ (ne_eqb c.thing s (λ q. own_not_trigger d is.lawful dump (suc t) p (cell s 0) (are.trigger p s e) (sets.round p) (are.round p s e) (subst (λ z. body_assigns z (body_at d p) ≡ true) q (owns c inside))))
              (false_from_ne_true _ (λ q. own_not_early d is.lawful h dump (suc t) early_law p (cell s 0) value.writer.is_clocked (are.trigger p s e) c.thing (owns c inside) ((are.early p (cell s 0) (are.trigger p s e) c.thing).0 q)))

          told : (c : Cell) (inside : In c (cells d x)) → ReadsWithin d (sure_in d (seen_of (left c inside).0.store)) (body_at d p)
          told c inside =
              subst (λ f. ReadsWithin d (sure_in d f) (body_at d p)) (sym (reads_as (left c inside).0.store (left c inside).0.reads)) (reads_within d (EntryFrom d h dump (suc t) (clear d h dump t) p c0) (sure_in d (entry_kept st p s)) (body_at d p) within0 value.within)

          gives : LeavesValue d (clear d h dump t) (sample (entry_kept st p s)) (all_writes (execution d (body_at d p) (sample (entry_kept st p s)))) x bits
          gives = value.gives (sample (entry_kept st p s)) (within_agrees d (EntryFrom d h dump (suc t) (clear d h dump t) p c0) (sure_in d (entry_kept st p s)) within0 (sample (entry_kept st p s)) (sample_agrees d (entry_kept st p s)))

          whole : map (put_all (sample a.kept) (all_written d (body_at d p) (sample (entry_kept st p s)))) (cells d x) ≡ bits
          whole = gives.is (sample a.kept) (λ w known. sample_agrees d a.kept x w (at_start x w known))

          start_bit : HasValue (clear d h dump t) x → (c : Cell) → In c (cells d x) → a.kept c ≡ Some (sample a.kept c)
          start_bit v c inside = sure_at a.kept (sample a.kept) (cells d x) (at_start x v.0 v.1 ∙ ap (map Some) (sym (sample_agrees d a.kept x v.0 (at_start x v.0 v.1)))) c inside

          each : (c : Cell) → In c (cells d x) → flush (clocked_run st).kept (clocked_run st).queue c ≡ Some (put_all (sample a.kept) (all_written d (body_at d p) (sample (entry_kept st p s))) c)
          each c inside =
              (left c inside).1
              ∙ ⊎_elim written unwritten (cases_Bool (has_cell (all_written d (body_at d p) (sample (entry_kept st p s))) c))
            where
              written : has_cell (all_written d (body_at d p) (sample (entry_kept st p s))) c ≡ true → flushed (run p (left c inside).0.store (clean (suc t))) c ≡ Some (put_all (sample a.kept) (all_written d (body_at d p) (sample (entry_kept st p s))) c)
              written f =
                  is.runs.sure_written p (left c inside).0.store (clean (suc t)) tt (sample (entry_kept st p s)) (agrees c inside) (told c inside) c (hidden c inside) f
                  ∙ ap Some (put_covered (sample (entry_kept st p s)) (sample a.kept) (all_written d (body_at d p) (sample (entry_kept st p s))) c f)

              unwritten : has_cell (all_written d (body_at d p) (sample (entry_kept st p s))) c ≡ false → flushed (run p (left c inside).0.store (clean (suc t))) c ≡ Some (put_all (sample a.kept) (all_written d (body_at d p) (sample (entry_kept st p s))) c)
              unwritten f =
                  is.runs.sure_kept p (left c inside).0.store (clean (suc t)) tt (sample (entry_kept st p s)) (agrees c inside) (told c inside) c (hidden c inside) f ∙ (left c inside).0.kept
                  ∙ ⊎_elim (λ all. absurd (both_ways _ f (all_in (λ c. list_any (λ w. same_cell w.cell c) (all_written d (body_at d p) (sample (entry_kept st p s)))) (cells d x) all c inside))) (λ v. start_bit v c inside) gives.decided
                  ∙ ap Some (sym (put_other (sample a.kept) (all_written d (body_at d p) (sample (entry_kept st p s))) c (λ w. both_ways _ f (has_cell-from (all_written d (body_at d p) (sample (entry_kept st p s))) c w))))

  -- it is so made
  pub written_made : (p : ℕ) (c0 : Cell) (x : Thing) (bits : List Bit) → IsWrittenValue d h dump (suc t) (clear d h dump t) p c0 x bits → sure_in d (all_run st).made x bits
  written_made p c0 x bits value =
      map_same (all_run st).made (flush (clocked_run st).kept (clocked_run st).queue) (cells d x) (λ c inside. clocked_made d h early_law dump run tables points is t sets are a p value.writer.is_clocked c (subst (λ z. body_assigns z (body_at d p) ≡ true) (sym (in_owner d x c inside)) value.writer.target))
      ∙ written_left p c0 x bits value

  -- and, unbound, sure at the end
  pub written_sure : (p : ℕ) (c0 : Cell) (x : Thing) (bits : List Bit) → IsUnbound dump x → IsWrittenValue d h dump (suc t) (clear d h dump t) p c0 x bits → sure_in d (all_run st).kept x bits
  written_sure p c0 x bits free value =
      map_same (all_run st).kept (flush (clocked_run st).kept (clocked_run st).queue) (cells d x)
      (λ c inside. clocked_final d h early_law dump run tables points is t sets are a p value.writer.is_clocked c (subst (λ z. body_assigns z (body_at d p) ≡ true) (sym (in_owner d x c inside)) value.writer.target) (undumped x value.writer.is_thing free c inside))
      ∙ written_left p c0 x bits value
