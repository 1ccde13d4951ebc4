-- The changes of a step, noted one after the other.
use Rattle.std.proofs.Common.{◌≡◌, ◌≢◌, ◌⊎◌, ◌↔◌, inl, inr, ⊎_elim, ◌∙◌, ℕ, ◌-◌, ◌<◌, ◌≤◌, ◌+◌, ◌&&◌, ◌||◌, Bool, true, false, cond, not, List, [], ◌∷◌, ◌++◌, Option, Some, None, length, get_or, set, take, refl, sym, ap, ap₂, subst, arith, lt-ltb}
use Rattle.std.specs.Prelude.{is_some}
use Rattle.std.specs.List.{All, Contains}
use Rattle.std.proofs.lemmas.Bool.{and_from, and_parts, both_ways, cases_Bool, cases_eq, cases_lt, false≢true, or_left, or_right, false_from_ne_true}
use Rattle.std.proofs.lemmas.List.{get_or-set_other, get_or-set_same, get_or_past, length-set, take_more}
use Rattle.std.proofs.lemmas.List.Elements.{Contains-append_left, Contains-push, Contains-push_cases}
use Rattle.four_state.specs.Vector.{same_bit}
use Rattle.four_state.specs.declared.bit.Bit.{Bit}
use Rattle.four_state.specs.declared.bit.Bit.TheVariants.{One, X, Z, Zero}
use Rattle.event_machine.specs.Single.{IsLastRound}
use Rattle.design_model.specs.Design.{Design, cell, no_signal, signal_at}
use Rattle.design_model.specs.Lawful.{IsLawfulDesign}
use Rattle.design_model.specs.Machine.{machine}
use Rattle.design_model.specs.MayMove.{told_at}
use Rattle.design_model.specs.Shows.{BoundDump}
use Rattle.design_model.proofs.AssignLaws.{has_bit}
use Rattle.design_model.proofs.Lawful.{same_bit_is, same_bit_self}
use Rattle.design_model.proofs.TargetCells.{target_cells_law}
use Rattle.early_sets.specs.Adds.{Adds}
use Rattle.early_sets.specs.Edges.{edges_between, no_edges}
use Rattle.early_sets.specs.Has.{is_in}
use Rattle.early_sets.specs.Rounds.{AreRounds, becomes_single, is_written_by, round_at, writer_at}
use Rattle.early_sets.specs.Settled.{HasSettled}
use Rattle.early_sets.specs.WakeState.{WakeState, is_single, is_told, own_edges}
use Rattle.early_sets.proofs.Membership.{is_in_from, is_in_gives}
use Rattle.replay_sets.proofs.SetsLaw.{sets_law}
use Rattle.replay_sets.specs.wake_laws.Laws.{AreNotes, HasNoWriters, IsChangedInput, IsRoundOf}
use Rattle.replay_sets.specs.wake_laws.OfDesign.{AreTablesOf, AreWritersOf}
use Rattle.replay_sets.proofs.wake_laws.RoundsLaw.{has_moves, rounds_law}
use Rattle.step_wakes.specs.Step.{AreChanges, IsOfDesign, StepSets, flag_at, is_given, is_missing}
use Rattle.step_wakes.specs.declared.step.SignalChange.{SignalChange}

-- these changes, and no others, are noted since the state before, beside the inputs whose changes are never reported
pub record IsNoted (before : WakeState) (changes : List SignalChange) (after : WakeState) : Type 0 where
  pub tables : after.tables ≡ before.tables
  pub told : after.told ≡ before.told
  pub untold : after.untold ≡ before.untold
  pub writers : after.writers ≡ before.writers
  pub size : length after.own ≡ length before.own
  pub only : (x : ℕ) → Contains after.noted x → Contains before.untold x ⊎ ((c : SignalChange) × (c.signal ≡ x) × Contains changes c × (is_told before x ≡ true))
  pub any : (x : ℕ) → Contains before.untold x → Contains after.noted x
  pub all : (c : SignalChange) → Contains changes c → is_told before c.signal ≡ true → Contains after.noted c.signal
  pub known : (x : ℕ) → Contains after.changed x → (c : SignalChange) × (c.signal ≡ x) × Contains changes c
  pub every : (c : SignalChange) → Contains changes c → is_told before c.signal ≡ false → Contains after.changed c.signal
  pub own : (c : SignalChange) → Contains changes c → (e : SignalChange) × (e.signal ≡ c.signal) × Contains changes e × (get_or after.own c.signal no_edges ≡ edges_between e.old e.new)

pub noted_none : (before after : WakeState) → after ≡ record before { noted = after.noted; changed = []; derived = []; moves = []; woken = []; early = [] } → ((x : ℕ) → Contains after.noted x ↔ Contains before.untold x) → IsNoted before [] after
noted_none before after rest noted =
    record {
      tables = ap (λ w. w.tables) rest;
      told = ap (λ w. w.told) rest;
      untold = ap (λ w. w.untold) rest;
      writers = ap (λ w. w.writers) rest;
      size = ap (λ w. length w.own) rest;
      only = λ x c. inl ((noted x).0 c);
      any = λ x c. (noted x).1 c;
      all = λ c m. absurd (omega (arith, m.1));
      known = λ x c. let m = subst (λ w. Contains w.changed x) rest c in absurd (omega (arith, m.1));
      every = λ c m. absurd (omega (arith, m.1));
      own = λ c m. absurd (omega (arith, m.1));
    }

module _ (before s after : WakeState) (xs : List SignalChange) (c : SignalChange) (below : c.signal < length s.own) (rest : after ≡ record s { own = set s.own c.signal (edges_between c.old c.new); noted = after.noted; changed = after.changed }) (noted : Adds (λ x. (is_told s c.signal ≡ true) × (c.signal ≡ x)) s.noted after.noted) (changed : Adds (λ x. (is_told s c.signal ≡ false) × (c.signal ≡ x)) s.changed after.changed) (so : IsNoted before xs s) where
  told_same : (x : ℕ) → is_told s x ≡ is_told before x
  told_same x = ap (λ ts. get_or ts x false) so.told

  own_is : after.own ≡ set s.own c.signal (edges_between c.old c.new)
  own_is = ap (λ w. w.own) rest

  same_own : get_or after.own c.signal no_edges ≡ edges_between c.old c.new
  same_own = ap (λ es. get_or es c.signal no_edges) own_is ∙ get_or-set_same s.own c.signal (edges_between c.old c.new) no_edges below

  other_own : (x : ℕ) → x ≢ c.signal → get_or after.own x no_edges ≡ get_or s.own x no_edges
  other_own x ne = ap (λ es. get_or es x no_edges) own_is ∙ get_or-set_other s.own c.signal x (edges_between c.old c.new) no_edges ne

  more : (e : SignalChange) → Contains xs e → Contains (xs ++ c ∷ []) e
  more e m = Contains-append_left xs (c ∷ []) e m

  kept : (x : ℕ) → Contains s.noted x → Contains after.noted x
  kept x m = subst (λ ys. Contains ys x) (sym noted.extends.is) (Contains-append_left s.noted noted.extends.more x m)

  kept_changed : (x : ℕ) → Contains s.changed x → Contains after.changed x
  kept_changed x m = subst (λ ys. Contains ys x) (sym changed.extends.is) (Contains-append_left s.changed changed.extends.more x m)

  more_only : (x : ℕ) → Contains after.noted x → Contains before.untold x ⊎ ((e : SignalChange) × (e.signal ≡ x) × Contains (xs ++ c ∷ []) e × (is_told before x ≡ true))
  more_only x m =
      ⊎_elim
      (λ k. ⊎_elim (λ u. inl u) (λ e. inr (e.0, e.1, more e.0 e.2, e.3)) (so.only x k))
      (λ here. inr (c, here.1, Contains-push xs c, subst (λ y. is_told before y ≡ true) here.1 (sym (told_same c.signal) ∙ here.0)))
      (noted.only x m)

  more_all : (e : SignalChange) → Contains (xs ++ c ∷ []) e → is_told before e.signal ≡ true → Contains after.noted e.signal
  more_all e m told =
      ⊎_elim
      (λ k. kept e.signal (so.all e k told))
      (λ here. noted.all e.signal (told_same c.signal ∙ subst (λ z. is_told before z.signal ≡ true) (sym here) told, ap (λ z. z.signal) here))
      (Contains-push_cases xs c e m)

  more_known : (x : ℕ) → Contains after.changed x → (e : SignalChange) × (e.signal ≡ x) × Contains (xs ++ c ∷ []) e
  more_known x m =
      ⊎_elim
      (λ k. let e = so.known x k in (e.0, e.1, more e.0 e.2))
      (λ here. (c, here.1, Contains-push xs c))
      (changed.only x m)

  more_every : (e : SignalChange) → Contains (xs ++ c ∷ []) e → is_told before e.signal ≡ false → Contains after.changed e.signal
  more_every e m out =
      ⊎_elim
      (λ k. kept_changed e.signal (so.every e k out))
      (λ here. changed.all e.signal (told_same c.signal ∙ subst (λ z. is_told before z.signal ≡ false) (sym here) out, ap (λ z. z.signal) here))
      (Contains-push_cases xs c e m)

  more_own : (e : SignalChange) → Contains (xs ++ c ∷ []) e → (f : SignalChange) × (f.signal ≡ e.signal) × Contains (xs ++ c ∷ []) f × (get_or after.own e.signal no_edges ≡ edges_between f.old f.new)
  more_own e m =
      ⊎_elim
      (λ here. (c, sym here, Contains-push xs c, ap (λ x. get_or after.own x no_edges) here ∙ same_own))
      (λ ne. ⊎_elim
      (λ k. let f = so.own e k in (f.0, f.1, more f.0 f.2, other_own e.signal ne ∙ f.3))
      (λ here. absurd (ne (sym (ap (λ z. z.signal) here))))
      (Contains-push_cases xs c e m))
      (cases_eq e.signal c.signal)

  noted_one : IsNoted before (xs ++ c ∷ []) after
  noted_one =
      record {
        tables = ap (λ w. w.tables) rest ∙ so.tables;
        told = ap (λ w. w.told) rest ∙ so.told;
        untold = ap (λ w. w.untold) rest ∙ so.untold;
        writers = ap (λ w. w.writers) rest ∙ so.writers;
        size = ap length own_is ∙ length-set s.own c.signal (edges_between c.old c.new) ∙ so.size;
        only = more_only;
        any = λ x m. kept x (so.any x m);
        all = more_all;
        known = more_known;
        every = more_every;
        own = more_own;
      }

pub noted_more : (before s after : WakeState) (xs : List SignalChange) (i : ℕ) (c : SignalChange) → i < length xs → c ≡ get_or xs i c → c.signal < length s.own → after ≡ record s { own = set s.own c.signal (edges_between c.old c.new); noted = after.noted; changed = after.changed } → Adds (λ x. (is_told s c.signal ≡ true) × (c.signal ≡ x)) s.noted after.noted → Adds (λ x. (is_told s c.signal ≡ false) × (c.signal ≡ x)) s.changed after.changed → IsNoted before (take i xs) s → IsNoted before (take (i + 1) xs) after
noted_more before s after xs i c l e below rest noted changed so =
    subst (λ ys. IsNoted before ys after) (ap (λ z. take i xs ++ z ∷ []) e ∙ sym (take_more xs i c l)) (noted_one before s after (take i xs) c below rest noted changed so)

-- whether a signal is an input and given, where the flags agree on inputs
same_given : (i a b : Bool) → (i ≡ true → a ≡ b) → (i && b) ≡ (i && a)
same_given true a b h = sym (h refl)
same_given false a b h = refl

not_given : (i b : Bool) → (i && not b) ≡ true → (i && b) ≡ true → ⊥
not_given true true h k = false≢true h
not_given true false h k = false≢true k
not_given false b h k = false≢true k

not_missing : (i b : Bool) → (i && not b) ≡ true → b ≡ false
not_missing true true h = absurd (false≢true h)
not_missing true false h = refl
not_missing false b h = absurd (false≢true h)

is_missing_from : (i b : Bool) → i ≡ true → b ≡ false → (i && not b) ≡ true
is_missing_from true false p q = refl
is_missing_from true true p q = absurd (false≢true (sym q))
is_missing_from false b p q = absurd (false≢true p)

-- no edge is from a bit to itself
no_change : (v : Bit) → edges_between v v ≡ no_edges
no_change Zero = refl
no_change One = refl
no_change X = refl
no_change Z = refl

some_writer : (p : ℕ) → None ≡ Some p → ⊥
some_writer p e = cc

module _ (d : Design) (bound : List Bool) (before noted : WakeState) (changes : List SignalChange) (of : IsOfDesign d bound before) (so : IsNoted before changes noted) where
  told_is : (x : ℕ) → is_told noted x ≡ is_told before x
  told_is x = ap (λ xs. get_or xs x false) so.told

  -- the state is still one of the design
  pub still_of : IsOfDesign d bound noted
  still_of =
      record {
        tables = subst (AreTablesOf d) (sym so.tables) of.tables;
        told = λ x l. told_is x ∙ of.told x (subst (λ t. x < t.things) so.tables l);
        untold = λ x. subst (λ xs. Contains xs x ↔ (is_missing d bound x ≡ true)) (sym so.untold) (of.untold x);
      }

  module _ (lawful : IsLawfulDesign d) (dump : BoundDump) (t : ℕ) (sized : length before.told ≡ before.tables.things) (round : IsRoundOf d dump t noted) (same : (x : ℕ) → (signal_at d x).input ≡ true → dump.bound x ≡ flag_at bound x) (are : AreChanges d dump t noted changes) where
    input_below : (x : ℕ) → (signal_at d x).input ≡ true → x < length d.signals
    input_below x h = ⊎_elim (λ l. l) (λ past. absurd (both_ways _ (ap (λ s. s.input) (get_or_past d.signals x no_signal past)) h)) (cases_lt x (length d.signals))

    told_below : (x : ℕ) → (signal_at d x).input ≡ true → x < before.tables.things
    told_below x h = let l = input_below x h in omega (arith, l, of.tables.things_are)

    -- an input whose changes are reported is one that the dump gives
    given_told : (x : ℕ) → is_told before x ≡ true → is_given d bound x ≡ true
    given_told x h =
        let l : x < before.tables.things = ⊎_elim (λ l. l) (λ past. absurd (both_ways _ (get_or_past before.told x false (omega (arith, past, sized))) h)) (cases_lt x before.tables.things) in
        sym (of.told x l) ∙ h

    -- an input whose changes are never reported may change in each step
    missing_changes : (x : ℕ) → is_missing d bound x ≡ true → IsChangedInput d dump t x
    missing_changes x h =
        let input = (and_parts (signal_at d x).input _ h).0 in
        let one = has_bit d lawful x (input_below x input) in
        (cell x 0, refl, (and_from (signal_at d x).input _ input (lt-ltb 0 (signal_at d x).width (omega (arith, one))), λ b. absurd (both_ways _ (same x input ∙ not_missing (signal_at d x).input (flag_at bound x) h) b)))

    noted_changes : (x : ℕ) → Contains noted.noted x → IsChangedInput d dump t x
    noted_changes x m =
        ⊎_elim
        (λ u. missing_changes x ((of.untold x).0 u))
        (λ k. subst (IsChangedInput d dump t) k.1 (are.only k.0 k.2 (subst (λ y. (signal_at d y).input ≡ true) (sym k.1) (and_parts (signal_at d x).input _ (given_told x k.3)).0)))
        (so.only x m)

    input_of : (x : ℕ) → IsChangedInput d dump t x → (signal_at d x).input ≡ true
    input_of x h = subst (λ y. (signal_at d y).input ≡ true) h.1 (and_parts (signal_at d h.0.thing).input _ h.2.0).0

    changes_noted : (x : ℕ) → IsChangedInput d dump t x → Contains noted.noted x
    changes_noted x h =
        let input = input_of x h in
        ⊎_elim
        (λ b. let k = are.inputs x b h in
        let told : is_told before x ≡ true = of.told x (told_below x input) ∙ and_from (signal_at d x).input (flag_at bound x) input (sym (same x input) ∙ b) in
        subst (Contains noted.noted) k.1 (so.all k.0 k.2 (subst (λ y. is_told before y ≡ true) (sym k.1) told)))
        (λ b. so.any x ((of.untold x).1 (is_missing_from (signal_at d x).input (flag_at bound x) input (sym (same x input) ∙ b))))
        (cases_Bool (dump.bound x))

    -- the edges of a change of the list
    listed_own : (c : SignalChange) → Contains changes c → get_or noted.own c.signal no_edges ≡ edges_between (dump.values (t - 1) (cell c.signal 0)) (dump.values t (cell c.signal 0))
    listed_own c m =
        let f = so.own c m in
        f.3 ∙ ap₂ edges_between (are.old f.0 f.2 ∙ ap (λ z. dump.values (t - 1) (cell z 0)) f.1) (are.new f.0 f.2 ∙ ap (λ z. dump.values t (cell z 0)) f.1)

    own_at : (x : ℕ) (c : SignalChange) → c.signal ≡ x → Contains changes c → get_or noted.own x no_edges ≡ edges_between (dump.values (t - 1) (cell x 0)) (dump.values t (cell x 0))
    own_at x c is m = subst (λ y. get_or noted.own y no_edges ≡ edges_between (dump.values (t - 1) (cell y 0)) (dump.values t (cell y 0))) is (listed_own c m)

    -- the edges of an input that is noted and whose changes are reported
    told_own : (x : ℕ) → Contains noted.noted x → is_told noted x ≡ true → own_edges noted x ≡ edges_between (dump.values (t - 1) (cell x 0)) (dump.values t (cell x 0))
    told_own x m h =
        ap (λ b. cond b (get_or noted.own x no_edges) no_edges) (or_left (is_told noted x) (is_in noted.changed x) h)
        ∙ ⊎_elim
        (λ u. absurd (not_given (signal_at d x).input (flag_at bound x) ((of.untold x).0 u) (given_told x (sym (told_is x) ∙ h))))
        (λ k. own_at x k.0 k.1 k.2)
        (so.only x m)

    -- what may become single is no input
    candidate_untold : (x p : ℕ) → writer_at noted x ≡ Some p → is_told noted x ≡ false
    candidate_untold x p is = ⊎_elim (λ none. absurd (some_writer p (sym (none.0 x) ∙ is))) by_writers round
      where
        by_writers : AreWritersOf d dump.bound noted.tables.things noted.writers × IsLastRound (machine d) (told_at dump t) (dump.round t) → is_told noted x ≡ false
        by_writers r =
            false_from_ne_true (is_told noted x) (λ h.
            let given = given_told x (sym (told_is x) ∙ h) in
            let input = (and_parts (signal_at d x).input _ given).0 in
            let l : x < noted.tables.things = subst (λ s. x < s.things) (sym so.tables) (told_below x input) in
            let o = (r.0.is x p l).0 is in
            both_ways _ (lawful.no_input p x (target_cells_law d p (cell x 0) o.writes)) input)

    -- the edges of what may become single
    candidate_own : (x p : ℕ) → writer_at noted x ≡ Some p → own_edges noted x ≡ edges_between (dump.values (t - 1) (cell x 0)) (dump.values t (cell x 0))
    candidate_own x p is =
        let out = candidate_untold x p is in
        let old = dump.values (t - 1) (cell x 0) in
        let new = dump.values t (cell x 0) in
        ⊎_elim
        (λ h. let k = so.known x (is_in_gives noted.changed x h) in
        ap (λ b. cond b (get_or noted.own x no_edges) no_edges) (or_right (is_told noted x) (is_in noted.changed x) h) ∙ own_at x k.0 k.1 k.2)
        (λ h. let never : old ≢ new → ⊥ = λ ne.
        let k = are.candidates x p is ne in
        let c = so.every k.0 k.2 (subst (λ y. is_told before y ≡ false) (sym k.1) (sym (told_is x) ∙ out)) in
        let m = subst (Contains noted.changed) k.1 c in
        both_ways _ h (is_in_from noted.changed x m.0 m.1 m.2) in
        let still : old ≡ new = ⊎_elim (same_bit_is old new) (λ differs. absurd (never (λ e. both_ways _ differs (subst (λ v. same_bit old v ≡ true) e (same_bit_self old))))) (cases_Bool (same_bit old new)) in
        ap (λ b. cond b (get_or noted.own x no_edges) no_edges) (ap₂ (λ a b. a || b) out h) ∙ sym (ap (λ v. edges_between old v) (sym still) ∙ no_change old))
        (cases_Bool (is_in noted.changed x))

    -- what was noted is what the dump says
    pub notes_are : AreNotes d dump t noted
    notes_are =
        record {
          told_are = λ x l. still_of.told x l ∙ same_given (signal_at d x).input (dump.bound x) (flag_at bound x) (same x);
          noted_are = λ x. (noted_changes x, changes_noted x);
          changes = told_own;
          others = candidate_own;
        }

-- what is found does not change of which design the state is
pub found_of : (d : Design) (bound : List Bool) (noted after : WakeState) → after ≡ record noted { derived = after.derived; rounds = after.rounds; moves = after.moves; woken = after.woken } → IsOfDesign d bound noted → IsOfDesign d bound after
found_of d bound noted after rest of =
    record {
      tables = subst (AreTablesOf d) (sym (ap (λ w. w.tables) rest)) of.tables;
      told = λ x l. ap (λ w. is_told w x) rest ∙ of.told x (subst (λ w. x < w.tables.things) rest l);
      untold = λ x. subst (λ xs. Contains xs x ↔ (is_missing d bound x ≡ true)) (sym (ap (λ w. w.untold) rest)) (of.untold x);
    }

found_notes : (d : Design) (dump : BoundDump) (t : ℕ) (noted after : WakeState) → after ≡ record noted { derived = after.derived; rounds = after.rounds; moves = after.moves; woken = after.woken } → AreNotes d dump t noted → AreNotes d dump t after
found_notes d dump t noted after rest notes =
    subst (AreNotes d dump t) (sym rest) (record { told_are = notes.told_are; noted_are = notes.noted_are; changes = notes.changes; others = notes.others })

pub step_sets : (d : Design) (bound : List Bool) (before noted after : WakeState) (changes : List SignalChange) (start end : ℕ) → length before.told ≡ before.tables.things → IsOfDesign d bound before → IsNoted before changes noted → after ≡ record noted { derived = after.derived; rounds = after.rounds; moves = after.moves; woken = after.woken } → HasSettled after start end → StepSets d bound changes after
step_sets d bound before noted after changes start end sized of so rest settled dump t h early lawful round same are chosen =
    let back : AreChanges d dump t noted changes = record { only = are.only; old = are.old; new = are.new; inputs = are.inputs; candidates = λ x p is. are.candidates x p (ap (λ w. writer_at w x) rest ∙ is) } in
    let round' : IsRoundOf d dump t noted = subst (IsRoundOf d dump t) rest round in
    let tables = subst (AreTablesOf d) (sym (ap (λ w. w.tables) rest)) (still_of d bound before noted changes of so).tables in
    let notes = found_notes d dump t noted after rest (notes_are d bound before noted changes of so lawful dump t sized round' same back) in
    let rounds = rounds_law d lawful dump t after settled.earlier tables notes round settled.rounds settled.is_last in
    sets_law d lawful dump t after h early tables notes rounds (record { moves_are = (has_moves after settled.earlier settled.rounds).moves }) chosen

-- what is noted is a signal or memory
pub noted_below : (before after : WakeState) (changes : List SignalChange) (n : ℕ) → ((x : ℕ) → Contains before.untold x → x < n) → All (λ (c : SignalChange). c.signal < n) changes → IsNoted before changes after
    → (x : ℕ) → Contains after.noted x → x < n
noted_below before after changes n untold all so x i =
    ⊎_elim (λ u. untold x u) (λ e. let at = e.2 in subst (λ z. z < n) e.1 (subst (λ (c : SignalChange). c.signal < n) at.2 (all at.0 e.0 at.1))) (so.only x i)

-- what became single did so in a round with a number of at most the rounds
number_within : (w : WakeState) (earlier : List WakeState) → AreRounds (w ∷ earlier) → (x : ℕ) → Contains w.derived x → get_or w.rounds x 0 ≤ length earlier
number_within w [] rounds x i = let m = subst (λ xs. Contains xs x) rounds.0 i in absurd (omega (arith, m.1))
number_within w (a ∷ earlier) (next, rounds) x i = ⊎_elim now (λ h. before h (number_within a earlier rounds x (known h))) (cases_Bool (becomes_single a x))
  where
    now : becomes_single a x ≡ true → get_or w.rounds x 0 ≤ length (a ∷ earlier)
    now h = let is = next.now x h in omega (arith, is)

    known : becomes_single a x ≡ false → Contains a.derived x
    known h = ⊎_elim (λ k. k) (λ k. absurd (both_ways _ h k)) ((next.derived x).0 i)

    before : becomes_single a x ≡ false → get_or a.rounds x 0 ≤ length earlier → get_or w.rounds x 0 ≤ length (a ∷ earlier)
    before h rest = let is = next.before x h in omega (arith, is, rest)

pub round_within : (w : WakeState) (earlier : List WakeState) → AreRounds (w ∷ earlier) → length earlier ≤ w.tables.things → (x : ℕ) → Contains w.derived x → round_at w x ≤ w.tables.things
round_within w earlier rounds few x i = go (is_told w x)
  where
    most : get_or w.rounds x 0 ≤ length earlier
    most = number_within w earlier rounds x i

    go : (b : Bool) → cond b 0 (get_or w.rounds x 0) ≤ w.tables.things
    go true = omega arith
    go false = omega (arith, most, few)

-- what became single in a round has a writer
pub derived_written : (w : WakeState) (earlier : List WakeState) → AreRounds (w ∷ earlier) → (x : ℕ) → Contains w.derived x → is_some (writer_at w x) ≡ true
derived_written w [] rounds x i = let m = subst (λ xs. Contains xs x) rounds.0 i in absurd (omega (arith, m.1))
derived_written w (a ∷ earlier) (next, rounds) x i =
    ap (λ z. is_some (writer_at z x)) next.rest ∙ ⊎_elim (λ before. derived_written a earlier rounds x before) (λ now. written (writer_at a x) (becoming now)) ((next.derived x).0 i)
  where
    becoming : becomes_single a x ≡ true → is_written_by a (writer_at a x) ≡ true
    becoming h = (and_parts (not (is_single a x)) _ (and_parts (is_in a.moves x) _ h).1).1

    written : (o : Option ℕ) → is_written_by a o ≡ true → is_some o ≡ true
    written None h = absurd (false≢true h)
    written (Some p) h = refl
