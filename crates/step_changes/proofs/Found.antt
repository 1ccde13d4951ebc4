-- The changes of a step are those of the dump, and so are the sets that are found by them.
use Rattle.std.proofs.Common.{◌≡◌, ◌≢◌, ℕ, ◌+◌, ◌-◌, ◌<◌, ◌≤◌, Bool, true, false, List, [], ◌∷◌, ◌++◌, length, map, get_or, take, Option, Some, None, refl, sym, ap, ap₂, subst, ◌∙◌, arith, ⊎_elim, inl, inr}
use Rattle.std.specs.Prelude.{is_some, nat_lt, slice_get, slice_index_or}
use Rattle.std.specs.List.{All, Contains}
use Rattle.std.proofs.lemmas.Bool.{and_from, and_parts, cases_lt, false≢true}
use Rattle.std.proofs.lemmas.Bool.Decides.{nat_tests}
use Rattle.std.proofs.lemmas.List.{get_or-map, get_or_default, get_or_past, length-map, take_more}
use Rattle.std.proofs.lemmas.List.Elements.{All-from_get_or}
use Rattle.event_machine.specs.Cell.{Cell}
use Rattle.event_machine.specs.Told.{IsMovingInput}
use Rattle.four_state.specs.Vector.{Vector}
use Rattle.four_state.specs.declared.bit.Bit.{Bit}
use Rattle.four_state.specs.declared.bit.Bit.TheVariants.{X}
use Rattle.step_values.specs.design_model.Design.{Design, cell, signal_at, signal_bits}
use Rattle.step_values.specs.design_model.Machine.{machine}
use Rattle.step_values.specs.design_model.MayMove.{told_at}
use Rattle.step_values.specs.design_model.Shows.{BoundDump}
use Rattle.step_values.proofs.design_model.AssignLaws.{has_bit}
use Rattle.code_values.specs.Values.{AddsChanged, IsChanged, Values, value_of}
use Rattle.early_sets.specs.Rounds.{writer_at}
use Rattle.early_sets.specs.WakeState.{WakeState}
use Rattle.early_sets.specs.declared.habit.Habit.{Habit}
use Rattle.process_order.specs.replay_model.Sets.{AreSets}
use Rattle.step_wakes.specs.replay_sets.SetsOf.{AreChosen, sets_of}
use Rattle.step_values.specs.Dumped.{coded_value}
use Rattle.step_values.specs.Loose.{has_code}
use Rattle.step_values.proofs.Dumps.{bits_in}
use Rattle.step_wakes.specs.Step.{AreChanges, IsOfDesign, StepSets}
use Rattle.step_wakes.specs.declared.step.SignalChange.{SignalChange}
use Rattle.step_wakes.specs.wake_laws.Laws.{IsChangedInput, habit_of}
use Rattle.step_wakes.specs.wake_laws.OfDesign.{AreWritersOf}
use Rattle.step_changes.specs.Changes.{AreChangedSignals, AreSignalsOf, IsDue, change_by, lowest}
use Rattle.step_changes.proofs.Differing.{apart_at, first_at, same_at}

-- ---- members of mapped lists

in_map : {B : Type 0} (f : ℕ → B) (xs : List ℕ) (y : B) → Contains (map f xs) y → (x : ℕ) × Contains xs x × (f x ≡ y)
in_map f xs y m =
    let size = length-map xs f in
    let l : m.0 < length xs = let k = m.1 in omega (arith, k, size) in
    let x = get_or xs m.0 0 in
    (x, (m.0, l, sym (get_or_default xs m.0 0 x l)), sym (get_or-map f xs m.0 0 y l) ∙ m.2)

map_in : {B : Type 0} (f : ℕ → B) (xs : List ℕ) (x : ℕ) → Contains xs x → Contains (map f xs) (f x)
map_in f xs x m =
    let size = length-map xs f in
    let l : m.0 < length (map f xs) = let k = m.1 in omega (arith, k, size) in
    (m.0, l, get_or-map f xs m.0 x (f x) m.1 ∙ ap f m.2)

-- ---- what has changed

-- the code of a signal
pub code_of : (codes : List (Option ℕ)) (s : ℕ) → has_code codes s ≡ true → (code : ℕ) × (slice_index_or codes s None ≡ Some code)
code_of codes s coded = go (slice_index_or codes s None) refl coded
  where
    go : (o : Option ℕ) → slice_index_or codes s None ≡ o → is_some o ≡ true → (code : ℕ) × (slice_index_or codes s None ≡ Some code)
    go None e none = absurd (false≢true none)
    go (Some code) e some = (code, e)

pub coded_by : (codes : List (Option ℕ)) (s code : ℕ) → slice_index_or codes s None ≡ Some code → has_code codes s ≡ true
coded_by codes s code e = ap is_some e

-- what is put into an empty set are the signals that have changed
pub changed_are : (codes : List (Option ℕ)) (values : Values) (rows : List (List ℕ)) (before after : List ℕ) → AreSignalsOf codes rows → before ≡ [] → AddsChanged values rows before after → AreChangedSignals codes values after
changed_are codes values rows before after of empty adds s = (to, from)
  where
    to : Contains after s → (code : ℕ) × (slice_index_or codes s None ≡ Some code) × IsChanged values code
    to m = ⊎_elim (λ b. absurd (let k = subst (λ xs. Contains xs s) empty b in omega (arith, k.1))) (λ r. (r.0, (of r.0 s).0 r.2, r.1)) ((adds s).0 m)

    from : (code : ℕ) × (slice_index_or codes s None ≡ Some code) × IsChanged values code → Contains after s
    from r = (adds s).1 (inr (r.0, r.2, (of r.0 s).1 r.1))

-- each change is one of a signal below a bound, where each signal with a code is
pub changes_below : (codes : List (Option ℕ)) (values : Values) (changed : List ℕ) (n : ℕ) → AreChangedSignals codes values changed → ((s : ℕ) → has_code codes s ≡ true → s < n) → All (λ (c : SignalChange). c.signal < n) (map (change_by codes values) changed)
changes_below codes values changed n are below = All-from_get_or (λ (c : SignalChange). c.signal < n) (map (change_by codes values) changed) none (λ i l.
    let size = length-map changed (change_by codes values) in
    let k : i < length changed = omega (arith, l, size) in
    let s = get_or changed i 0 in
    let r = (are s).0 (i, k, sym (get_or_default changed i 0 s k)) in
    subst (λ (c : SignalChange). c.signal < n) (sym (get_or-map (change_by codes values) changed i 0 none k)) (below s (coded_by codes s r.0 r.1)))
  where
    none : SignalChange
    none = record { signal = 0; old = X; new = X }

-- values without a sign that have the same bits are the same
same_value : (v w : Vector) → v.bits ≡ w.bits → v.signed ≡ false → w.signed ≡ false → v ≡ w
same_value v w bits a b = let make : List Bit → Bool → Vector = λ (bs : List Bit). λ (s : Bool). record { bits = bs; signed = s } in ap₂ make bits (a ∙ sym b)

module _ (d : Design) (dump : BoundDump) (t : ℕ) (flags : List Bool) (codes : List (Option ℕ)) (values : Values) (w : WakeState) (due : IsDue d dump t flags codes values w) where
  -- a code with another value has other bits
  pub differ : (s code : ℕ) → slice_index_or codes s None ≡ Some code → IsChanged values code → signal_bits d (dump.values (t - 1)) s ≡ signal_bits d (dump.values t) s → ⊥
  differ s code is changed same =
      let v = due.old s code is in
      let w = due.new s code is in
      changed (v.1 ∙ ap Some (same_value v.0 w.0 (v.2 ∙ same ∙ sym w.2) (due.unsigned_old code v.0 v.1) (due.unsigned_new code w.0 w.1)) ∙ sym w.1)

  -- a code with the same value has the same bits
  pub agree : (s code : ℕ) → slice_index_or codes s None ≡ Some code → value_of values.closed code ≡ value_of values.last code → signal_bits d (dump.values (t - 1)) s ≡ signal_bits d (dump.values t) s
  agree s code is same =
      let v = due.old s code is in
      let w = due.new s code is in
      sym v.2 ∙ ap bits_in (sym v.1 ∙ same ∙ w.1) ∙ w.2

  some_bit : (s code : ℕ) → slice_index_or codes s None ≡ Some code → 1 ≤ (signal_at d s).width
  some_bit s code is = has_bit d due.lawful s (due.signals s (due.bound s ∙ coded_by codes s code is))

  old_bit : (s code : ℕ) → slice_index_or codes s None ≡ Some code → (change_by codes values s).old ≡ dump.values (t - 1) (cell s 0)
  old_bit s code is =
      let v = due.old s code is in
      ap (λ o. lowest (coded_value values.closed o)) is ∙ ap lowest v.1 ∙ ap (λ bs. get_or bs 0 X) v.2 ∙ first_at (dump.values (t - 1)) (dump.values t) (cell s) (signal_at d s).width (some_bit s code is)

  new_bit : (s code : ℕ) → slice_index_or codes s None ≡ Some code → (change_by codes values s).new ≡ dump.values t (cell s 0)
  new_bit s code is =
      let v = due.new s code is in
      ap (λ o. lowest (coded_value values.last o)) is ∙ ap lowest v.1 ∙ ap (λ bs. get_or bs 0 X) v.2 ∙ first_at (dump.values t) (dump.values (t - 1)) (cell s) (signal_at d s).width (some_bit s code is)

  -- an input that has changed is a changed input of the step
  changed_input : (s code : ℕ) → slice_index_or codes s None ≡ Some code → IsChanged values code → (signal_at d s).input ≡ true → IsChangedInput d dump t s
  changed_input s code is changed input =
      let r = apart_at (dump.values (t - 1)) (dump.values t) (cell s) 0 (signal_at d s).width (differ s code is changed) in
      let inside : nat_lt (0 + r.0) (signal_at d s).width ≡ true = let l = r.1 in grind (arith, nat_tests, l) in
      (cell s (0 + r.0), refl, (and_from (signal_at d s).input _ input inside, λ told. r.2))

  -- a code of an input that changes has another value
  input_changed : (c : Cell) (code : ℕ) → slice_index_or codes c.thing None ≡ Some code → dump.bound c.thing ≡ true → IsMovingInput (machine d) (told_at dump t) c → IsChanged values code
  input_changed c code is bound moving same =
      let inside : c.place < (signal_at d c.thing).width = let l = (and_parts (signal_at d c.thing).input _ moving.0).1 in grind (arith, nat_tests, l) in
      let start : 0 + c.place ≡ c.place = omega arith in
      let bit = same_at (dump.values (t - 1)) (dump.values t) (cell c.thing) 0 (signal_at d c.thing).width (agree c.thing code is same) c.place inside in
      moving.1 bound (subst (λ i. dump.values (t - 1) (cell c.thing i) ≡ dump.values t (cell c.thing i)) start bit)

  -- a code of a signal of which the lowest bit changes has another value
  bit_changed : (s code : ℕ) → slice_index_or codes s None ≡ Some code → dump.values (t - 1) (cell s 0) ≢ dump.values t (cell s 0) → IsChanged values code
  bit_changed s code is ne same =
      let start : 0 + 0 ≡ 0 = refl in
      let one = some_bit s code is in
      let bit = same_at (dump.values (t - 1)) (dump.values t) (cell s) 0 (signal_at d s).width (agree s code is same) 0 (omega (arith, one)) in
      ne (subst (λ i. dump.values (t - 1) (cell s i) ≡ dump.values t (cell s i)) start bit)

  module _ (changed : List ℕ) (are : AreChangedSignals codes values changed) where
    abbrev changes : List SignalChange
    changes = map (change_by codes values) changed

    -- something holds of each change where it holds of that of each signal that has changed
    each : (P : SignalChange → Type 0) → ((s code : ℕ) → slice_index_or codes s None ≡ Some code → IsChanged values code → P (change_by codes values s)) → (c : SignalChange) → Contains changes c → P c
    each P holds c m =
        let r = in_map (change_by codes values) changed c m in
        let g = (are r.0).0 r.1 in
        subst P r.2 (holds r.0 g.0 g.1 g.2)

    listed : (c : Cell) → dump.bound c.thing ≡ true → IsMovingInput (machine d) (told_at dump t) c → (e : SignalChange) × (e.signal ≡ c.thing) × Contains changes e
    listed c bound moving =
        let code = code_of codes c.thing (sym (due.bound c.thing) ∙ bound) in
        let m = (are c.thing).1 (code.0, code.1, input_changed c code.0 code.1 bound moving) in
        (change_by codes values c.thing, refl, map_in (change_by codes values) changed c.thing m)

    -- what may become single and changes is among them
    candidate : (x p : ℕ) → writer_at w x ≡ Some p → dump.values (t - 1) (cell x 0) ≢ dump.values t (cell x 0) → (e : SignalChange) × (e.signal ≡ x) × Contains changes e
    candidate x p is ne =
        let by = (due.writers.is x p inside).0 is in
        let code = code_of codes x (sym (due.bound x) ∙ by.is_bound) in
        let m = (are x).1 (code.0, code.1, bit_changed x code.0 code.1 ne) in
        (change_by codes values x, refl, map_in (change_by codes values) changed x m)
      where
        past : w.tables.things ≤ x → ⊥
        past most =
            let size = due.writers.count_is in
            let none = get_or_past w.writers x None (omega (arith, size, most)) in
            let none_some : None ≡ Some p = sym none ∙ is in
            cc

        inside : x < w.tables.things
        inside = ⊎_elim (λ less. less) (λ most. absurd (past most)) (cases_lt x w.tables.things)

    changes_are : (after : WakeState) → after.writers ≡ w.writers → AreChanges d dump t after changes
    changes_are after same =
        record {
          only = each (λ c. (signal_at d c.signal).input ≡ true → IsChangedInput d dump t c.signal) (λ s code is changes input. changed_input s code is changes input);
          old = each (λ c. c.old ≡ dump.values (t - 1) (cell c.signal 0)) (λ s code is changes. old_bit s code is);
          new = each (λ c. c.new ≡ dump.values t (cell c.signal 0)) (λ s code is changes. new_bit s code is);
          inputs = λ x bound h. subst (λ y. (e : SignalChange) × (e.signal ≡ y) × Contains changes e) h.1 (listed h.0 (subst (λ y. dump.bound y ≡ true) (sym h.1) bound) h.2);
          candidates = λ x p is ne. candidate x p (ap (λ xs. get_or xs x None) (sym same) ∙ is) ne;
        }

    pub sets_are : (after : WakeState) (h : Habit) (early : ℕ → List ℕ) → IsOfDesign d flags after → after.writers ≡ w.writers → StepSets d flags changes after → AreChosen after h early → AreSets d (habit_of h) dump t (sets_of after early)
    sets_are after h early of same sets chosen =
        let writers : AreWritersOf d dump.bound after.tables.things after.writers = subst (λ ws. AreWritersOf d dump.bound after.tables.things ws) (sym same) (subst (λ n. AreWritersOf d dump.bound n w.writers) (due.tables.tables.things_are ∙ sym of.tables.things_are) due.writers) in
        sets dump t h early due.lawful (inr (writers, due.round)) (λ x input. due.bound x ∙ sym (due.flagged x)) (changes_are after same) chosen

-- ---- the list of the changes

map_push : {B : Type 0} (f : ℕ → B) (xs : List ℕ) (x : ℕ) → map f (xs ++ x ∷ []) ≡ map f xs ++ f x ∷ []
map_push f [] x = refl
map_push f (y ∷ xs) x = ap (λ ys. f y ∷ ys) (map_push f xs x)

-- one change more
pub one_more : (codes : List (Option ℕ)) (values : Values) (xs : List ℕ) (i : ℕ) (found : List SignalChange) → i < length xs → found ≡ map (change_by codes values) (take i xs)
    → found ++ change_by codes values (get_or xs i 0) ∷ [] ≡ map (change_by codes values) (take (i + 1) xs)
one_more codes values xs i found l e =
    ap (λ ys. ys ++ change_by codes values (get_or xs i 0) ∷ []) e
    ∙ sym (map_push (change_by codes values) (take i xs) (get_or xs i 0))
    ∙ ap (map (change_by codes values)) (sym (take_more xs i 0 l))

-- the first bit of a value
pub first_bit : (bs : List Bit) (b : Bit) → slice_get bs 0 ≡ Some b → b ≡ get_or bs 0 X
first_bit [] b e = absurd (let no : None ≡ Some b = e in cc)
first_bit (x ∷ bs) b e = let same : Some x ≡ Some b = e in cc
