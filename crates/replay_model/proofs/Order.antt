-- What a run of an Assign or Comb watches is in the store as it is at the end of the step: the order of the processes.
use Rattle.std.proofs.Common.{◌≡◌, inl, inr, ⊎_elim, ℕ, suc, ◌<◌, Bool, true, false, not, ◌&&◌, List, [], ◌∷◌, ◌++◌, append_assoc, length, refl, sym, ap, subst, ◌∙◌, Some, None, if◌then◌else◌}
use Rattle.std.specs.List.{list_any}
use Rattle.std.proofs.lemmas.Bool.{and_parts, and_from, and_left, both_ways, cases_Bool, false_from_ne_true, lt-ltb, not-true, not_from_false}
use Rattle.event_machine.specs.Cell.{Cell}
use Rattle.event_machine.specs.Habit.{Habit}
use Rattle.event_machine.specs.Laws.{EarlyLaw}
use Rattle.design_model.specs.declared.point.Point.{Point}
use Rattle.design_model.specs.four_state.declared.bit.Bit.{Bit}
use Rattle.design_model.specs.Design.{AreDistinct, Design, In, IsClocked, body_at, process_at, signal_at}
use Rattle.design_model.specs.Mentions.{blocking_target, may_write}
use Rattle.design_model.specs.Machine.{is_level, machine}
use Rattle.design_model.specs.Shows.{BoundDump}
use Rattle.design_model.proofs.Assigns.{machine_lawful}
use Rattle.design_model.proofs.Lawful.{any_gives, may_any, place_from}
use Rattle.body_replay.specs.Contract.{Note}
use Rattle.body_replay.specs.Replay.{flush}
use Rattle.body_replay.specs.Runs.{Runs}
use Rattle.body_replay.specs.Store.{Kept}
use Rattle.replay_model.specs.Sets.{AreSets, Sets}
use Rattle.replay_model.specs.Tables.{Drives, StandsBefore, Tables}
use Rattle.replay_model.specs.Step.{Closing, Replay, Working, after_settling, all_run, certainty, clocked_run, contradicts, is_dumped, is_loose, is_touched, plain_store, run_all_settling, run_settling, settle_start, settled_kept}
use Rattle.replay_model.specs.Laws.{IsReplayOf, closing_at}
use Rattle.replay_model.proofs.Bits.{any_in, in_any, in_right, none_in, not_differ}
use Rattle.replay_model.proofs.Clocked.{at_false, at_true, distinct_left}
use Rattle.replay_model.proofs.Targets.{target_assigns}
use Rattle.replay_model.proofs.Trace.{SettleRun, Traced, settle_all, settle_keeps}

pub distinct_right : (xs ys : List ℕ) → AreDistinct (xs ++ ys) → AreDistinct ys
distinct_right [] ys once = once
distinct_right (x ∷ xs) ys once = distinct_right xs ys once.1

pub distinct_apart : (xs ys : List ℕ) → AreDistinct (xs ++ ys) → (x : ℕ) → In x xs → In x ys → ⊥
distinct_apart [] ys once x h k = h
distinct_apart (y ∷ xs) ys once x (inl e) k = once.0 (in_right y xs ys (subst (λ z. In z ys) (sym e) k))
distinct_apart (y ∷ xs) ys once x (inr h) k = distinct_apart xs ys once.1 x h k

pub stands_in : (q : ℕ) (xs : List ℕ) (p : ℕ) → StandsBefore q xs p → In p xs × In q xs
stands_in q [] p h = absurd h
stands_in q (x ∷ xs) p (inl h) = (inr h.1, inl h.0)
stands_in q (x ∷ xs) p (inr h) = let r = stands_in q xs p h in (inr r.0, inr r.1)

-- what is before p is not after it
pub before_after : (pre : List ℕ) (p : ℕ) (rest : List ℕ) (q : ℕ) → AreDistinct (pre ++ p ∷ rest) → StandsBefore q (pre ++ p ∷ rest) p → In q rest → ⊥
before_after [] p rest q once (inl h) later = once.0 h.1
before_after [] p rest q once (inr h) later = once.0 (stands_in q rest p h).0
before_after (x ∷ pre) p rest q once (inl h) later = once.0 (subst (λ z. In z (pre ++ p ∷ rest)) (sym h.0) (in_right q pre (p ∷ rest) (inr later)))
before_after (x ∷ pre) p rest q once (inr h) later = before_after pre p rest q once.1 h later

module _ (d : Design) (h : Habit) (early_law : EarlyLaw (machine d)) (dump : BoundDump) (run : Runs) (tables : Tables) (points : List Point) (is : IsReplayOf d h dump run tables points) (t : ℕ) (sets : Sets) (are : AreSets d h dump (suc t) sets) (a : Replay) where
  abbrev pub st : Closing
  st = closing_at d dump run tables sets t a

  -- whether a process writes the cell and the dump does not have it
  abbrev pub makes : ℕ → Cell → Bool
  makes q c = blocking_target d (body_at d q) c && not (is_dumped d dump.bound c)

  pub kept_one : (ordered : Bool) (p : ℕ) (wk : Working) (c : Cell) → (is_touched st p ≡ true → makes p c ≡ false) → (run_settling st ordered p wk).kept c ≡ wk.kept c
  kept_one ordered p wk c other = go (is_touched st p) refl
    where
      go : (b : Bool) → is_touched st p ≡ b → (if b then after_settling st ordered p (certainty st wk.kept p) (run p (plain_store (settled_kept d p wk.kept)) (certainty st wk.kept p)) wk else wk).kept c ≡ wk.kept c
      go true e = at_false (λ z. z ≡ wk.kept c) (makes p c) _ (wk.kept c) (other e) refl
      go false e = refl

  pub kept_all : (ordered : Bool) (ps : List ℕ) (wk : Working) (c : Cell) → ((q : ℕ) → In q ps → is_touched st q ≡ true → makes q c ≡ false) → (run_all_settling st ordered ps wk).kept c ≡ wk.kept c
  kept_all ordered [] wk c other = refl
  kept_all ordered (p ∷ ps) wk c other = kept_all ordered ps (run_settling st ordered p wk) c (λ q x. other q (inr x)) ∙ kept_one ordered p wk c (other p (inl refl))

  pub made_one : (ordered : Bool) (p : ℕ) (wk : Working) (c : Cell) → (is_touched st p ≡ true → blocking_target d (body_at d p) c ≡ false) → (run_settling st ordered p wk).made c ≡ wk.made c
  made_one ordered p wk c other = go (is_touched st p) refl
    where
      go : (b : Bool) → is_touched st p ≡ b → (if b then after_settling st ordered p (certainty st wk.kept p) (run p (plain_store (settled_kept d p wk.kept)) (certainty st wk.kept p)) wk else wk).made c ≡ wk.made c
      go true e = at_false (λ z. z ≡ wk.made c) (blocking_target d (body_at d p) c) _ (wk.made c) (other e) refl
      go false e = refl

  pub made_all : (ordered : Bool) (ps : List ℕ) (wk : Working) (c : Cell) → ((q : ℕ) → In q ps → is_touched st q ≡ true → blocking_target d (body_at d q) c ≡ false) → (run_all_settling st ordered ps wk).made c ≡ wk.made c
  made_all ordered [] wk c other = refl
  made_all ordered (p ∷ ps) wk c other = made_all ordered ps (run_settling st ordered p wk) c (λ q x. other q (inr x)) ∙ made_one ordered p wk c (other p (inl refl))

  -- without a contradiction what was surely made of a bit that the dump has is the dump's
  pub made_dumped : (c : Cell) → contradicts st c ≡ false → is_dumped d dump.bound c ≡ true → (signal_at d c.thing).input ≡ false → (x : Bit) → (all_run st).made c ≡ Some x → x ≡ dump.values (suc t) c
  made_dumped c agreed has plain x e =
      not_differ ((all_run st).made c) x (dump.values (suc t) c) e
      (false_from_ne_true _ (λ f. both_ways _ agreed (and_from (is_dumped d dump.bound c) _ has (and_from (not (signal_at d c.thing).input) _ (not_from_false _ plain) f))))

  -- what a process makes is of an unbound thing
  pub makes_unbound : (q : ℕ) (c : Cell) → makes q c ≡ true → dump.bound c.thing ≡ false
  makes_unbound q c e =
      false_from_ne_true _
      (λ bound. both_ways _ (not-true _ (and_parts (blocking_target d (body_at d q) c) _ e).1)
      (and_from (dump.bound c.thing) _ bound
      (lt-ltb _ _ (any_gives (λ x y w. may_write d y c) _ (λ x y w f. place_from d y c (is.fits.signals c.thing bound) f) (body_at d q) (may_any d (body_at d q) c (inl (and_parts (blocking_target d (body_at d q) c) _ e).0))))))

  pub makes_drives : (q : ℕ) (c : Cell) → (q < length d.processes) × (IsClocked (process_at d q) → ⊥) → makes q c ≡ true → Drives d q c.thing
  makes_drives q c known e = record { is_process = known.0; settles = known.1; drives = target_assigns d is.lawful q c (inl (and_parts (blocking_target d (body_at d q) c) _ e).0) }

  pub once_all : AreDistinct (tables.order ++ tables.last)
  once_all = distinct_right tables.clocked (tables.order ++ tables.last) is.tabled.once

  abbrev pub W0 : Working
  W0 = settle_start st (clocked_run st)

  abbrev pub W1 : Working
  W1 = run_all_settling st true tables.order (settle_start st (clocked_run st))

  abbrev pub final : Kept
  final = (all_run st).kept

  -- on the way through the order
  abbrev pub OnWay : List ℕ → Working → Type 0
  OnWay ps wk = (pre : List ℕ) × (tables.order ≡ pre ++ ps) × (run_all_settling st true ps wk ≡ run_all_settling st true tables.order (settle_start st (clocked_run st)))

  pub way_next : (p : ℕ) (rest : List ℕ) (wk : Working) → OnWay (p ∷ rest) wk → OnWay rest (run_settling st true p wk)
  way_next p rest wk way = (way.0 ++ p ∷ [], way.1 ∙ sym (append_assoc way.0 (p ∷ []) rest), way.2)

  -- on the way through the last
  Nones : Working → Type 0
  Nones wk = (q : ℕ) → In q tables.last → is_touched st q ≡ true → (c : Cell) → makes q c ≡ true → wk.kept c ≡ None

  abbrev pub OnLast : List ℕ → Working → Type 0
  OnLast ps wk = ((q : ℕ) → In q ps → In q tables.last) × (run_all_settling st false ps wk ≡ all_run st) × ((q : ℕ) → In q tables.last → is_touched st q ≡ true → (c : Cell) → makes q c ≡ true → wk.kept c ≡ None)

  last_next : (p : ℕ) (rest : List ℕ) (wk : Working) → OnLast (p ∷ rest) wk → OnLast rest (run_settling st false p wk)
  last_next p rest wk way = (λ q x. way.0 q (inr x), way.1, none)
    where
      none : (q : ℕ) → In q tables.last → is_touched st q ≡ true → (c : Cell) → makes q c ≡ true → (run_settling st false p wk).kept c ≡ None
      none q x f c e = go (is_touched st p)
        where
          go : (b : Bool) → (if b then after_settling st false p (certainty st wk.kept p) (run p (plain_store (settled_kept d p wk.kept)) (certainty st wk.kept p)) wk else wk).kept c ≡ None
          go true = ⊎_elim (λ m. at_true (λ z. z ≡ None) (makes p c) None (wk.kept c) m refl) (λ m. at_false (λ z. z ≡ None) (makes p c) None (wk.kept c) m (way.2 q x f c e)) (cases_Bool (makes p c))
          go false = way.2 q x f c e

  pub order_known : (q : ℕ) → In q tables.order → (q < length d.processes) × (IsClocked (process_at d q) → ⊥)
  order_known q x = (is.tabled.others q).0 (inl x)

  pub last_known : (q : ℕ) → In q tables.last → (q < length d.processes) × (IsClocked (process_at d q) → ⊥)
  last_known q x = (is.tabled.others q).0 (inr x)

  last_starts : OnLast tables.last (run_all_settling st true tables.order (settle_start st (clocked_run st)))
  last_starts = (λ q x. x, refl, none)
    where
      none : (q : ℕ) → In q tables.last → is_touched st q ≡ true → (c : Cell) → makes q c ≡ true → (run_all_settling st true tables.order (settle_start st (clocked_run st))).kept c ≡ None
      none q x f c e =
          kept_all true tables.order (settle_start st (clocked_run st)) c
          (λ p y g. false_from_ne_true _ (λ m. distinct_apart tables.order tables.last once_all q (subst (λ z. In z tables.order) ((machine_lawful d is.lawful).one_writer p q c (inl (and_parts (blocking_target d (body_at d p) c) _ m).0) (inl (and_parts (blocking_target d (body_at d q) c) _ e).0)) y) x))
          ∙ at_false (λ z. z ≡ None) (is_dumped d dump.bound c) _ _ (not-true _ (and_parts (blocking_target d (body_at d q) c) _ e).1)
          (at_true (λ z. z ≡ None) (is_loose st c) None (flush (clocked_run st).kept (clocked_run st).queue c) (in_any (λ p. is_touched st p && blocking_target d (body_at d p) c) (tables.order ++ tables.last) q (in_right q tables.order tables.last x) (and_from (is_touched st q) _ f (and_parts (blocking_target d (body_at d q) c) _ e).0)) refl)

  last_ends : OnLast [] (all_run st)
  last_ends = settle_keeps d is.lawful h early_law dump run is.runs tables t sets are a OnLast false last_next tables.last (run_all_settling st true tables.order (settle_start st (clocked_run st))) last_starts

  pub way_starts : OnWay tables.order (settle_start st (clocked_run st))
  way_starts = ([], refl, refl)

  -- a run meets what it watches as it is at the end
  abbrev pub Meets : ℕ → Working → Type 0
  Meets p wk = (c : Cell) → is_level (process_at d p) c.thing ≡ true → blocking_target d (body_at d p) c ≡ false → wk.kept c ≡ (all_run st).kept c

  pub order_meets : (p : ℕ) (rest : List ℕ) (wk : Working) → OnWay (p ∷ rest) wk → Meets p wk
  order_meets p rest wk way c level own = sym (kept_all true (p ∷ rest) wk c here) ∙ ap (λ z. z.kept c) way.2 ∙ sym (kept_all false tables.last (run_all_settling st true tables.order (settle_start st (clocked_run st))) c after)
    where
      mine : In p tables.order
      mine = subst (In p) (sym way.1) (in_right p way.0 (p ∷ rest) (inl refl))

      ordered_once : AreDistinct (way.0 ++ p ∷ rest)
      ordered_once = subst AreDistinct way.1 (distinct_left tables.order tables.last once_all)

      before : (q : ℕ) → (q < length d.processes) × (IsClocked (process_at d q) → ⊥) → (q ≡ p → ⊥) → makes q c ≡ true → StandsBefore q tables.order p
      before q known other m = is.tabled.ordered p q c.thing mine level (makes_unbound q c m) (makes_drives q c known m) other

      self : (q : ℕ) → makes q c ≡ true → q ≡ p → ⊥
      self q m e = both_ways _ own (subst (λ z. blocking_target d (body_at d z) c ≡ true) e (and_parts (blocking_target d (body_at d q) c) _ m).0)

      here : (q : ℕ) → In q (p ∷ rest) → is_touched st q ≡ true → makes q c ≡ false
      here q (inl e) f = false_from_ne_true _ (λ m. self q m (sym e))
      here q (inr x) f =
          false_from_ne_true _ (λ m. before_after way.0 p rest q ordered_once (subst (λ z. StandsBefore q z p) way.1 (before q (order_known q (subst (In q) (sym way.1) (in_right q way.0 (p ∷ rest) (inr x)))) (self q m) m)) x)

      after : (q : ℕ) → In q tables.last → is_touched st q ≡ true → makes q c ≡ false
      after q x f = false_from_ne_true _ (λ m. distinct_apart tables.order tables.last once_all q (stands_in q tables.order p (before q (last_known q x) (self q m) m)).1 x)

  last_meets : (p : ℕ) (rest : List ℕ) (wk : Working) → OnLast (p ∷ rest) wk → Meets p wk
  last_meets p rest wk way c level own = ⊎_elim some none (cases_Bool (list_any (λ q. is_touched st q && makes q c) (p ∷ rest)))
    where
      some : list_any (λ q. is_touched st q && makes q c) (p ∷ rest) ≡ true → wk.kept c ≡ (all_run st).kept c
      some e =
          let q = any_in (λ q. is_touched st q && makes q c) (p ∷ rest) e in
          let both = and_parts (is_touched st q.0) _ q.2 in
          way.2 q.0 (way.0 q.0 q.1) both.0 c both.1 ∙ sym (last_ends.2 q.0 (way.0 q.0 q.1) both.0 c both.1)

      none : list_any (λ q. is_touched st q && makes q c) (p ∷ rest) ≡ false → wk.kept c ≡ (all_run st).kept c
      none e = sym (kept_all false (p ∷ rest) wk c (λ q x f. false_from_ne_true _ (λ m. both_ways _ (none_in (λ q. is_touched st q && makes q c) (p ∷ rest) e q x) (and_from (is_touched st q) _ f m)))) ∙ ap (λ z. z.kept c) way.1

  -- what the dump has is as it says
  pub final_dumped : (c : Cell) → is_dumped d dump.bound c ≡ true → (all_run st).kept c ≡ Some (dump.values (suc t) c)
  final_dumped c e =
      kept_all false tables.last (run_all_settling st true tables.order (settle_start st (clocked_run st))) c (λ q x f. dumped_other q)
      ∙ kept_all true tables.order (settle_start st (clocked_run st)) c (λ q x f. dumped_other q)
      ∙ at_true (λ z. z ≡ Some (dump.values (suc t) c)) (is_dumped d dump.bound c) _ _ e refl
    where
      dumped_other : (q : ℕ) → makes q c ≡ false
      dumped_other q = Rattle.std.proofs.lemmas.Bool.and_right _ _ (Rattle.std.proofs.lemmas.Bool.not_from_true _ e)

  -- the runs of the two stages, each of which meets what it watches as it is at the end
  pub order_runs : Traced (SettleRun d is.lawful h early_law dump run is.runs tables t sets are a OnWay) (λ q. In q tables.order × (is_touched st q ≡ true)) (clocked_run st).notes (run_all_settling st true tables.order (settle_start st (clocked_run st))).notes
  order_runs = settle_all d is.lawful h early_law dump run is.runs tables t sets are a OnWay true way_next tables.order (settle_start st (clocked_run st)) way_starts

  pub last_runs : Traced (SettleRun d is.lawful h early_law dump run is.runs tables t sets are a OnLast) (λ q. In q tables.last × (is_touched st q ≡ true)) (run_all_settling st true tables.order (settle_start st (clocked_run st))).notes (all_run st).notes
  last_runs = settle_all d is.lawful h early_law dump run is.runs tables t sets are a OnLast false last_next tables.last (run_all_settling st true tables.order (settle_start st (clocked_run st))) last_starts

  -- and what the dump has as it says
  dumped_other : (c : Cell) → is_dumped d dump.bound c ≡ true → (q : ℕ) → makes q c ≡ false
  dumped_other c e q = Rattle.std.proofs.lemmas.Bool.and_right _ _ (Rattle.std.proofs.lemmas.Bool.not_from_true _ e)

  pub order_dumped : (ps : List ℕ) (wk : Working) → OnWay ps wk → (c : Cell) → is_dumped d dump.bound c ≡ true → wk.kept c ≡ Some (dump.values (suc t) c)
  order_dumped ps wk way c e =
      sym (kept_all true ps wk c (λ q x f. dumped_other c e q)) ∙ ap (λ z. z.kept c) way.2 ∙ sym (kept_all false tables.last (run_all_settling st true tables.order (settle_start st (clocked_run st))) c (λ q x f. dumped_other c e q)) ∙ final_dumped c e

  last_dumped : (ps : List ℕ) (wk : Working) → OnLast ps wk → (c : Cell) → is_dumped d dump.bound c ≡ true → wk.kept c ≡ Some (dump.values (suc t) c)
  last_dumped ps wk way c e = sym (kept_all false ps wk c (λ q x f. dumped_other c e q)) ∙ ap (λ z. z.kept c) way.1 ∙ final_dumped c e

  pub record MeetingRun (p : ℕ) (ns : List Note) : Type 0 where
    pub wk : Working
    pub meets : Meets p wk
    pub dumped : (c : Cell) → is_dumped d dump.bound c ≡ true → wk.kept c ≡ Some (dump.values (suc t) c)
    pub touched : is_touched st p ≡ true
    pub notes : ns ≡ (run p (plain_store (settled_kept d p wk.kept)) (certainty st wk.kept p)).notes

  pub of_order : (p : ℕ) (ns : List Note) → SettleRun d is.lawful h early_law dump run is.runs tables t sets are a OnWay p ns → MeetingRun p ns
  of_order p ns k = record { wk = k.wk; meets = order_meets p k.rest k.wk k.holds; dumped = order_dumped (p ∷ k.rest) k.wk k.holds; touched = k.touched; notes = k.notes }

  pub of_last : (p : ℕ) (ns : List Note) → SettleRun d is.lawful h early_law dump run is.runs tables t sets are a OnLast p ns → MeetingRun p ns
  of_last p ns k = record { wk = k.wk; meets = last_meets p k.rest k.wk k.holds; dumped = last_dumped (p ∷ k.rest) k.wk k.holds; touched = k.touched; notes = k.notes }
