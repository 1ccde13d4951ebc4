-- What is known of words from step to step.
use Rattle.std.proofs.Common.{◌≡◌, inl, inr, ℕ, suc, zero, ◌+◌, ◌-◌, ◌*◌, ◌<◌, ◌≤◌, Bool, true, List, [], ◌∷◌, map, length, max, min, nat_le, nat_lt, refl, sym, ap, ap₂, subst, ◌∙◌, arith, le-leb, lt-ltb}
use Rattle.std.specs.List.{range_with_len}
use Rattle.std.specs.Prelude.{if◌then◌else◌, slice_index_or}
use Rattle.std.proofs.lemmas.Bool.{and_from, and_parts, cases_Bool, leb-true, ltb-true}
use Rattle.std.proofs.lemmas.Bool.Decides.{nat_tests}
use Rattle.std.proofs.lemmas.List.{get_or_past}
use Rattle.event_machine.specs.Cell.{Cell}
use Rattle.body_replay.specs.Store.{Kept}
use Rattle.design_model.specs.Design.{Design, In, cell, is_memory, memory_at, no_memory}
use Rattle.design_model.specs.declared.design.Memory.{Memory}
use Rattle.index_sets.specs.Rows.{row_at}
use Rattle.replay_model.specs.Step.{Closing}
use Rattle.first_step.specs.settling.Wakes.{HasWordChanges}
use Rattle.step_words.specs.Words.{AreWordChanges, FitsRanges, HasWords, StepState}
use Rattle.written_words.specs.Same.{FollowsAll}
use Rattle.written_words.specs.Written.{AreRanges, WrittenState, flag_at, in_range, no_range, range_at, range_of}
use Rattle.written_words.specs.declared.range.WordRange.{WordRange}
use Rattle.replay_core.specs.Fits.{FitsWords}
use Rattle.replay_core.specs.declared.tables.ReplayTables.{ReplayTables}

memory_is : (d : Design) (m : ℕ) → m < length d.memories → is_memory d (length d.signals + m) ≡ true
memory_is d m l =
    let n = length d.signals in
    and_from (nat_le n (n + m)) _ (le-leb n (n + m) (omega arith)) (lt-ltb (n + m) (n + length d.memories) (omega (arith, l)))

cells_same : (x : ℕ) (f : ℕ → ℕ) (j k : Kept) (ns : List ℕ) → ((c : Cell) → c.thing ≡ x → k c ≡ j c) → map j (map (λ i. cell x (f i)) ns) ≡ map k (map (λ i. cell x (f i)) ns)
cells_same x f j k [] same = refl
cells_same x f j k (n ∷ ns) same = ap₂ (λ a b. a ∷ b) (sym (same (cell x (f n)) refl)) (cells_same x f j k ns same)

-- where nothing of a memory changes its words are known still
pub words_stay : (d : Design) (j k : Kept) (ranges : List WordRange) (x : StepState) → ((c : Cell) → is_memory d c.thing ≡ true → k c ≡ j c) → HasWords d j ranges x → HasWords d k ranges x
words_stay d j k ranges x same words m q l below =
    let t = length d.signals + m in
    let w = (memory_at d t).width in
    words m q l below ∙ cells_same t (λ i. ((range_at ranges m).least + q) * w + i) j k (range_with_len 0 w) (λ c e. same c (subst (λ y. is_memory d y ≡ true) (sym e) (memory_is d m l)))

-- what has changed of the words that are followed has so of those that a process watches
pub watched_changes : (st : Closing) (k : Kept) (v : WrittenState) (x : StepState) → ((p m : ℕ) → In m (st.tables.watched p) → is_memory st.design m ≡ true → FollowsAll st.design v m) → AreWordChanges st.design (FollowsAll st.design v) st.start.kept k x → HasWordChanges st k x
watched_changes st k v x followed changes m is watched = changes m is (followed watched.0 m watched.1 is)

-- ---- a new replay

number_within : (n w i : ℕ) → In i (range_with_len n w) → (n ≤ i) × (i < n + w)
number_within n zero i h = absurd h
number_within n (suc w) i (inl e) = (omega (arith, e), omega (arith, e))
number_within n (suc w) i (inr h) = let r = number_within (n + 1) w i h in let low = r.0 in let high = r.1 in (omega (arith, low), omega (arith, high))

-- all words of a memory are followed where its flag is set
follows : (d : Design) (w : WrittenState) (flags : List Bool) (m : ℕ) → w.first ≡ length d.signals → AreRanges d.memories flags w.ranges → is_memory d m ≡ true → flag_at flags (m - length d.signals) ≡ true → FollowsAll d w m
follows d w flags m first are is set i among =
    let n = length d.signals in
    let both = and_parts (nat_le n m) _ is in
    let low : n ≤ m = leb-true n m both.0 in
    let high : m < n + length d.memories = ltb-true m (n + length d.memories) both.1 in
    let y = slice_index_or d.memories (m - n) no_memory in
    let below : m - n < length d.memories = omega (arith, low, high) in
    let named : memory_at d m ≡ y = ap (λ t. if t then y else no_memory) both.0 in
    let range : range_at w.ranges (m - n) ≡ range_of y = are.each (m - n) below ∙ ap (λ t. if t then range_of y else no_range) set in
    let least = ap (λ (r : WordRange). r.least) range in
    let count = ap (λ (r : WordRange). r.count) range in
    let inside = number_within (min y.first y.last) (max y.first y.last - min y.first y.last + 1) i (subst (λ (z : Memory). In i (range_with_len (min z.first z.last) (max z.first z.last - min z.first z.last + 1))) named among) in
    let from = inside.0 in
    let to = inside.1 in
    let here : in_range (range_at w.ranges (m - n)) i ≡ true =
    and_from (nat_le (range_at w.ranges (m - n)).least i) _ (le-leb (range_at w.ranges (m - n)).least i (omega (arith, from, least))) (lt-ltb (i - (range_at w.ranges (m - n)).least) (range_at w.ranges (m - n)).count (omega (arith, from, to, least, count))) in
    and_from (nat_le w.first m) _ (le-leb w.first m (omega (arith, low, first))) (subst (λ k. in_range (range_at w.ranges (m - k)) i ≡ true) (sym first) here)

-- so are those of each memory that a process watches
pub new_followed : (d : Design) (x : ReplayTables) (w : WrittenState) (y : StepState) (flags : List Bool) (count : ℕ) → w.first ≡ length d.signals → AreRanges d.memories flags w.ranges → FitsRanges d w.ranges y → length x.processes.watched ≡ count
    → ((p m : ℕ) → p < count → In (length d.signals + m) (row_at x.processes.watched p) → m < length d.memories → flag_at flags m ≡ true) → FitsWords d x w y
new_followed d x w y flags count first are fits rows set = record {
  first = first;
  ranges = fits;
  followed = λ p m i is.
      let n = length d.signals in
      let both = and_parts (nat_le n m) _ is in
      let low : n ≤ m = leb-true n m both.0 in
      let high : m < n + length d.memories = ltb-true m (n + length d.memories) both.1 in
      let below : m - n < length d.memories = omega (arith, low, high) in
      let at : m ≡ n + (m - n) = omega (arith, low) in
      follows d w flags m first are is (set p (m - n) (row_there x.processes.watched p m count rows i) (subst (λ t. In t (row_at x.processes.watched p)) at i) below);
}
  where
    row_there : (rs : List (List ℕ)) (p m n : ℕ) → length rs ≡ n → In m (row_at rs p) → p < n
    row_there rs p m n size i = elim (cases_Bool (nat_lt p n)) [
      | inl e ↦ ltb-true p n e
      | inr e ↦
          let past : length rs ≤ p = grind (arith, nat_tests, e, size) in
          absurd (subst (In m) (get_or_past rs p [] past) i)
    ]
