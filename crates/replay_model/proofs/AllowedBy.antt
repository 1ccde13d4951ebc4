-- After a closing step the values at the end of a step are allowed; and there is no contradiction where there is such a step.
use Rattle.std.proofs.Common.{◌≡◌, ◌⊎◌, inl, inr, ⊎_elim, ℕ, zero, suc, ◌<◌, ◌≤◌, true, false, not, ◌&&◌, List, [], ◌∷◌, ◌++◌, length, refl, sym, ap, subst, ◌∙◌, arith, Some, None}
use Rattle.std.specs.Prelude.{slice_index_or}
use Rattle.std.specs.List.{list_any}
use Rattle.std.proofs.lemmas.Bool.{and_parts, and_from, both_ways, cases_Bool, cases_lt, false_from_ne_true, ltb-true, not-true}
use Rattle.event_machine.specs.Cell.{Cell, Values, put_all}
use Rattle.event_machine.specs.Machine.{Edge as MachineEdge, IsCombinational, IsTarget, output}
use Rattle.event_machine.specs.Habit.{Habit}
use Rattle.event_machine.specs.MayMove.{MayWake, of_input, of_target}
use Rattle.event_machine.specs.Laws.{EarlyLaw}
use Rattle.design_model.specs.four_state.declared.bit.Bit.{Bit}
use Rattle.design_model.specs.Tree.{Process, assign, clocked, comb}
use Rattle.design_model.specs.declared.point.Point.{Point}
use Rattle.design_model.specs.Design.{Design, In, IsAssign, IsClocked, IsComb, body_at, is_assign, no_process, process_at, signal_at}
use Rattle.design_model.specs.Mentions.{blocking_target, body_assigns}
use Rattle.design_model.specs.Machine.{is_level, lists_edge, machine}
use Rattle.design_model.specs.Shows.{BoundDump}
use Rattle.design_model.specs.MayMove.{IsSingleAt, MayMoveAt, told_at}
use Rattle.design_model.proofs.Assigns.{machine_lawful}
use Rattle.design_model.proofs.Lawful.{assign_or}
use Rattle.design_model.proofs.Named.{has_cell-from}
use Rattle.design_model.proofs.WithinMap.{put_covered}
use Rattle.design_model.specs.StepLaws.{IsLeft, StepFacts}
use Rattle.body_replay.specs.KnownBits.{Allows}
use Rattle.body_replay.specs.Replay.{flush}
use Rattle.body_replay.specs.Runs.{Runs}
use Rattle.body_replay.specs.Store.{AllowsState}
use Rattle.replay_model.specs.Sets.{AreSets, Sets}
use Rattle.replay_model.specs.Tables.{Tables}
use Rattle.replay_model.specs.Step.{Closing, Replay, Working, all_run, clocked_run, contradicts, is_dumped, is_loose, is_target, is_touched, run_all_settling, settle_start, updated}
use Rattle.replay_model.specs.Laws.{IsReplayOf, closing_at}
use Rattle.replay_model.proofs.Acted.{clocked_acted}
use Rattle.replay_model.proofs.Bits.{any_in, differ_apart, in_any, in_halves, in_left, in_right, none_in}
use Rattle.replay_model.proofs.Clocked.{at_false, at_true, clocked_allowed, others_allowed}
use Rattle.replay_model.proofs.Settling.{SettlingSound, queues_none, run_all_sound}
use Rattle.replay_model.proofs.Targets.{clocked_or, input_unassigned, is_target-from, is_target-of, queues_from, target_assigns}
use Rattle.replay_model.proofs.Unknown.{updated_input}

-- only the numbers of processes have targets
pub past : (xs : List Process) (q : ℕ) → length xs ≤ q → slice_index_or xs q no_process ≡ no_process
past [] q le = refl
past (x ∷ xs) zero le = absurd (omega (arith, le))
past (x ∷ xs) (suc q) le = past xs q (omega (arith, le))

no_edges : (x : Process) → IsComb x → (e : MachineEdge) (c : Cell) → lists_edge x e c ≡ false
no_edges (assign i y t counted) h e c = absurd h
no_edges (comb i wakes s) h e c = refl
no_edges (clocked i events s) h e c = absurd h

comb_not_assign : (x : Process) → IsComb x → IsAssign x → ⊥
comb_not_assign (assign i t v c) h a = h
comb_not_assign (comb i wakes s) h a = a
comb_not_assign (clocked i events s) h a = a

by_kind : (x : Process) → (IsClocked x → ⊥) → (is_assign x ≡ true) ⊎ IsComb x
by_kind (assign i t v c) h = inl refl
by_kind (comb i wakes s) h = inr tt
by_kind (clocked i events s) h = absurd (h tt)

-- on these values the target of each Assign has its value
abbrev pub NetsHold : Design → Values Bit → Type 0
NetsHold d v = (p : ℕ) (c : Cell) → is_assign (process_at d p) ≡ true → (machine d).blocking p c ≡ true → v c ≡ put_all v (output (machine d) p v) c

-- nothing is known of an input that the dump lacks
abbrev pub IsUnknown : Design → BoundDump → Replay → Type 0
IsUnknown d dump a = (c : Cell) → (machine d).is_input c ≡ true → dump.bound c.thing ≡ false → a.kept c ≡ None

module _ (d : Design) (h : Habit) (dump : BoundDump) (run : Runs) (tables : Tables) (points : List Point) (is : IsReplayOf d h dump run tables points) where
  pub in_all : (q : ℕ) → q < length d.processes → (IsClocked (process_at d q) → ⊥) → In q (tables.order ++ tables.last)
  in_all q below settles = ⊎_elim (λ x. in_left q tables.order tables.last x) (λ x. in_right q tables.order tables.last x) ((is.tabled.others q).1 (below, settles))

  pub settles_of : (q : ℕ) → In q (tables.order ++ tables.last) → IsClocked (process_at d q) → ⊥
  settles_of q x = ((is.tabled.others q).0 (in_halves q tables.order tables.last x)).1

  pub below_of : (q : ℕ) (c : Cell) → IsTarget (machine d) q c → q < length d.processes
  below_of q c target = ⊎_elim (λ lt. lt) (λ le. absurd (none (past d.processes q le))) (cases_lt q (length d.processes))
    where
      none : process_at d q ≡ no_process → ⊥
      none e = both_ways false refl (subst (λ z. body_assigns c.thing (Rattle.design_model.specs.Design.body z) ≡ true) e (target_assigns d is.lawful q c target))

  -- whether some process may write the cell
  pub some_target : (c : Cell) → ((p : ℕ) × IsTarget (machine d) p c) ⊎ ((p : ℕ) → IsTarget (machine d) p c → ⊥)
  some_target c = ⊎_elim found none (cases_Bool (list_any (λ p. is_target d p c) (tables.clocked ++ (tables.order ++ tables.last))))
    where
      found : list_any (λ p. is_target d p c) (tables.clocked ++ (tables.order ++ tables.last)) ≡ true → ((p : ℕ) × IsTarget (machine d) p c) ⊎ ((p : ℕ) → IsTarget (machine d) p c → ⊥)
      found e = let p = any_in (λ p. is_target d p c) (tables.clocked ++ (tables.order ++ tables.last)) e in inl (p.0, is_target-from d p.0 c p.2)

      listed : (p : ℕ) → p < length d.processes → In p (tables.clocked ++ (tables.order ++ tables.last))
      listed p below = ⊎_elim (λ y. in_left p tables.clocked (tables.order ++ tables.last) ((is.tabled.clocked p).1 (below, y))) (λ y. in_right p tables.clocked (tables.order ++ tables.last) (in_all p below y)) (clocked_or (process_at d p))

      none : list_any (λ p. is_target d p c) (tables.clocked ++ (tables.order ++ tables.last)) ≡ false → ((p : ℕ) × IsTarget (machine d) p c) ⊎ ((p : ℕ) → IsTarget (machine d) p c → ⊥)
      none e = inr (λ p target. both_ways _ (none_in (λ p. is_target d p c) (tables.clocked ++ (tables.order ++ tables.last)) e p (listed p (below_of p c target))) (is_target-of d p c target))

-- over a step from values u to w
module _ (d : Design) (h : Habit) (dump : BoundDump) (run : Runs) (tables : Tables) (points : List Point) (is : IsReplayOf d h dump run tables points) (early_law : EarlyLaw (machine d)) (t : ℕ) (sets : Sets) (are : AreSets d h dump (suc t) sets) (a : Replay) (u w : Values Bit) (here : StepFacts d h dump t u w) (u_nets : NetsHold d u) (w_nets : NetsHold d w) (starts : AllowsState a.kept u) where
  abbrev st : Closing
  st = closing_at d dump run tables sets t a

  -- what an Assign or Comb writes that watches nothing that may move stays
  module _ (p : ℕ) (settles : IsClocked (process_at d p) → ⊥) (calm : (x : ℕ) → is_level (process_at d p) x ≡ true → sets.moves x ≡ true → ⊥) (c : Cell) (target : (machine d).blocking p c ≡ true) where
    same_level : (b : Cell) → is_level (process_at d p) b.thing ≡ true → w b ≡ u b
    same_level b level = here.unmoved b (λ m. calm b.thing level ((are.moves b.thing).1 m))

    of_assign : is_assign (process_at d p) ≡ true → w c ≡ u c
    of_assign e =
        w_nets p c e target
        ∙ ap (λ o. put_all w (o.blocking ++ Rattle.event_machine.specs.Cell.join o.nonblocking) c) same
        ∙ put_covered w u (output (machine d) p u) c (has_cell-from _ c (Rattle.design_model.proofs.Named.WritesCell-left _ _ c (combinational.writes u)))
        ∙ sym (u_nets p c e target)
      where
        combinational : IsCombinational (machine d) p c
        combinational = (machine_lawful d is.lawful).assigns_combinational p c e target

        same : (machine d).evaluate p w ≡ (machine d).evaluate p u
        same = combinational.reads w u (λ b wake. same_level b wake.0)

    of_comb : IsComb (process_at d p) → w c ≡ u c
    of_comb is_comb = here.unmoved c (λ m. unmoved c.thing m refl)
      where
        mine : body_assigns c.thing (body_at d p) ≡ true
        mine = target_assigns d is.lawful p c (inl target)

        one : (q : ℕ) → body_assigns c.thing (body_at d q) ≡ true → q ≡ p
        one q theirs =
            ⊎_elim (λ x. absurd (comb_not_assign (process_at d p) is_comb (is.lawful.apart q p c.thing x theirs mine))) (λ n. is.lawful.one_writer q p c.thing n (comb_not_assign (process_at d p) is_comb) theirs mine) (assign_or (process_at d q))

        woken : (x : ℕ) → MayMoveAt d dump (suc t) x → MayWake (machine d) (told_at dump (suc t)) (IsSingleAt d dump (suc t)) x p → ⊥
        woken x m (inl level) = calm x level ((are.moves x).1 m)
        woken x m (inr k) = both_ways _ (no_edges (process_at d p) is_comb k.2.0 k.0) k.2.1

        unmoved : (y : ℕ) → MayMoveAt d dump (suc t) y → y ≡ c.thing → ⊥
        unmoved y (of_input b moving) e = input_unassigned d is.lawful p c.thing (subst (λ z. (signal_at d z).input ≡ true) e (and_parts (signal_at d b.thing).input _ moving.0).0) mine
        unmoved y (of_target x q b m wakes at) e = woken x m (subst (λ z. MayWake (machine d) (told_at dump (suc t)) (IsSingleAt d dump (suc t)) x z) (one q (subst (λ z. body_assigns z (body_at d q) ≡ true) e (target_assigns d is.lawful q b at))) wakes)

    calm_stays : w c ≡ u c
    calm_stays = ⊎_elim of_assign of_comb (by_kind (process_at d p) settles)

  -- what the Clocked have left, once what is to be made anew is unknown
  updated_allowed : (c : Cell) → ((machine d).is_input c ≡ true → ⊥) → Allows (updated st (clocked_run st) c) (w c)
  updated_allowed c outside = ⊎_elim (λ e. at_true (λ z. Allows z (w c)) _ _ _ e tt) (λ e. at_false (λ z. Allows z (w c)) _ _ _ e (⊎_elim by_clocked (by_other e) (cases_Bool (list_any (λ p. body_assigns c.thing (body_at d p)) tables.clocked)))) (cases_Bool (is_loose st c))
    where
      by_clocked : list_any (λ p. body_assigns c.thing (body_at d p)) tables.clocked ≡ true → Allows (flush (clocked_run st).kept (clocked_run st).queue c) (w c)
      by_clocked e =
          let p = any_in (λ p. body_assigns c.thing (body_at d p)) tables.clocked e in
          clocked_allowed d is.lawful h early_law dump is.fits run is.runs tables t sets are a u w here starts is.tabled p.0 p.1 c p.2

      by_other : is_loose st c ≡ false → list_any (λ p. body_assigns c.thing (body_at d p)) tables.clocked ≡ false → Allows (flush (clocked_run st).kept (clocked_run st).queue c) (w c)
      by_other firm e = subst (Allows (flush (clocked_run st).kept (clocked_run st).queue c)) (sym stays) (others_allowed d is.lawful h early_law dump is.fits run is.runs tables t sets are a u w here starts is.tabled c (λ p x mine. both_ways _ (none_in (λ p. body_assigns c.thing (body_at d p)) tables.clocked e p x) mine))
        where
          calm_in : (p : ℕ) → In p (tables.order ++ tables.last) → blocking_target d (body_at d p) c ≡ true → w c ≡ u c
          calm_in p x target =
              calm_stays p (settles_of d h dump run tables points is p x)
              (λ y level moves. both_ways _ (none_in (λ p. is_touched st p && blocking_target d (body_at d p) c) (tables.order ++ tables.last) firm p x) (and_from (is_touched st p) _ (in_any sets.moves (tables.watched p) y ((is.tabled.watched p y).1 level) moves) target)) c target

          none_at_all : list_any (λ p. blocking_target d (body_at d p) c) (tables.order ++ tables.last) ≡ false → (q : ℕ) → IsTarget (machine d) q c → ⊥
          none_at_all f q target =
              ⊎_elim (λ is_clocked. both_ways _ (none_in (λ p. body_assigns c.thing (body_at d p)) tables.clocked e q ((is.tabled.clocked q).1 (below_of d h dump run tables points is q c target, is_clocked))) (target_assigns d is.lawful q c target))
              (λ settles. ⊎_elim (λ b. both_ways _ (none_in (λ p. blocking_target d (body_at d p) c) (tables.order ++ tables.last) f q (in_all d h dump run tables points is q (below_of d h dump run tables points is q c target) settles)) b) (λ b. both_ways _ (queues_none d (process_at d q) settles (is.lawful.targets q) c.thing) (queues_from d q c b)) target) (clocked_or (process_at d q))

          stays : w c ≡ u c
          stays =
              ⊎_elim (λ f. let p = any_in (λ p. blocking_target d (body_at d p) c) (tables.order ++ tables.last) f in calm_in p.0 p.1 p.2) (λ f. here.unwritten c outside (none_at_all f)) (cases_Bool (list_any (λ p. blocking_target d (body_at d p) c) (tables.order ++ tables.last)))

  -- a Comb that had acted has still left its targets so
  acted_still : (p : ℕ) → IsLeft d p u → IsLeft d p w
  acted_still p left =
      ⊎_elim (λ l. l)
      (λ idle. record {
        entry = left.entry;
        wakes = λ c wake. left.wakes c wake ∙ sym (idle.sensitive c wake.0);
        leaves = λ c target. idle.targets c target ∙ left.leaves c target;
      })
      (here.settles p)

  module _ (acted : (p : ℕ) → IsComb (process_at d p) → a.acted p ≡ true → IsLeft d p u) (unknown : IsUnknown d dump a) where
    abbrev pub Sound : Working → Type 0
    Sound wk = SettlingSound d is.lawful h dump is.fits run is.runs tables is.tabled t sets a u w here starts w_nets wk

    -- what the dump does not have: of an input nothing is known
    others : (c : Cell) → is_dumped d dump.bound c ≡ false → Allows (updated st (clocked_run st) c) (w c)
    others c e = ⊎_elim of_input (λ plain. updated_allowed c (λ input. both_ways _ plain input)) (cases_Bool ((machine d).is_input c))
      where
        of_input : (machine d).is_input c ≡ true → Allows (updated st (clocked_run st) c) (w c)
        of_input input =
            subst (λ z. Allows z (w c))
            (sym (updated_input d h early_law dump run tables points is t sets are a c input (unknown c input (false_from_ne_true _ (λ b. both_ways _ e (and_from (dump.bound c.thing) _ b (and_parts (signal_at d c.thing).input _ input).1)))))) tt

    pub settle_starts : Sound (settle_start st (clocked_run st))
    settle_starts =
        record {
          allowed = λ c. ⊎_elim (λ e. at_true (λ z. Allows z (w c)) _ _ _ e (sym (here.new c (and_parts (dump.bound c.thing) _ e).0 (ltb-true _ _ (and_parts (dump.bound c.thing) _ e).1)))) (λ e. at_false (λ z. Allows z (w c)) _ _ _ e (others c e)) (cases_Bool (is_dumped d dump.bound c));
          made = λ c plain. updated_allowed c (λ input. both_ways _ plain (and_parts (signal_at d c.thing).input _ input).0);
          acted = λ p is_comb e. acted_still p (acted p is_comb (subst (λ f. f p ≡ true) (clocked_acted st) e));
        }

    pub all_sound : Sound (all_run st)
    all_sound =
        run_all_sound d is.lawful h dump is.fits run is.runs tables is.tabled t sets a u w here starts w_nets false tables.last (λ p x. ((is.tabled.others p).0 (inr x)).1) (run_all_settling st true tables.order (settle_start st (clocked_run st)))
        (run_all_sound d is.lawful h dump is.fits run is.runs tables is.tabled t sets a u w here starts w_nets true tables.order (λ p x. ((is.tabled.others p).0 (inl x)).1) (settle_start st (clocked_run st)) settle_starts)

    -- there is no contradiction where a run shows the dump
    pub contradicts_none : (c : Cell) → contradicts st c ≡ true → ⊥
    contradicts_none c e =
        let one = and_parts (is_dumped d dump.bound c) _ e in
        let two = and_parts (not (signal_at d c.thing).input) _ one.1 in
        differ_apart ((all_run st).made c) (Some (dump.values (suc t) c)) (w c) (w c) two.1 (all_sound.made c (not-true _ two.0)) (sym (here.new c (and_parts (dump.bound c.thing) _ one.0).0 (ltb-true _ _ (and_parts (dump.bound c.thing) _ one.0).1))) refl
