-- What of the words of memories has changed over a step.
use Rattle.std.proofs.Common.{◌≡◌, ◌⊎◌, inl, inr, ⊎_elim, ℕ, zero, suc, ◌+◌, ◌*◌, ◌<◌, ◌≤◌, ◌&&◌, ◌||◌, Bool, true, false, not, if◌then◌else◌, List, [], ◌∷◌, ◌++◌, map, length, get_or, Option, Some, None, refl, sym, ap, ap₂, subst, ◌∙◌, arith, nat_le, nat_lt, lt-ltb}
use Rattle.std.specs.List.{list_all, list_any, range_with_len}
use Rattle.std.proofs.Math.ListN.{get_or-map}
use Rattle.std.proofs.lemmas.Bool.{and_from, and_parts, false_from_ne_true, leb-true}
use Rattle.std.proofs.lemmas.Bool.Decides.{nat_tests}
use Rattle.std.proofs.lemmas.List.{length-map}
use Rattle.event_machine.specs.Cell.{Cell}
use Rattle.four_state.specs.declared.bit.Bit.{Bit}
use Rattle.design_model.specs.BodyLaws.{all_cells, word_indexes, words_cells}
use Rattle.design_model.specs.Design.{Design, In, body_at, cell, is_memory, memory_at, process_at, signal_at, signal_cells, word_cells}
use Rattle.design_model.specs.Mentions.{blocking_target}
use Rattle.design_model.specs.View.{design_view}
use Rattle.design_model.specs.declared.design.Design.{Design as CodeDesign}
use Rattle.design_model.proofs.Lawful.{same_bit_self}
use Rattle.body_replay.specs.Contract.{Outcome}
use Rattle.settled_runs.specs.process_targets.Laws.{WritesSignals}
use Rattle.settled_runs.specs.replay_steps.Settling.{IsStillAt}
use Rattle.step_parts.specs.replay_model.Step.{Closing, Working, acts, after_settling, certainty, has_changed, is_comb, is_dumped, is_still, is_touched, kept_target, not_assigned, plain_store, run_settling, settled_kept, surely_differ, surely_same, wake_cells}
use Rattle.step_words.specs.Words.{IsOfMemories, StepState, has_changed as words_changed, is_still as words_still}
use Rattle.wake_bits.specs.declared.wakes.Wake.{Wake}
use Rattle.settling.specs.Wakes.{HasWordChanges, IsWakeRow, IsWatched}

-- ---- tests of the cells of a list

pub any_same : (f g : Cell → Bool) (cs : List Cell) → ((c : Cell) → In c cs → f c ≡ g c) → list_any f cs ≡ list_any g cs
any_same f g [] same = refl
any_same f g (c ∷ cs) same = ap₂ (λ a b. a || b) (same c (inl refl)) (any_same f g cs (λ x i. same x (inr i)))

pub all_same : (f g : Cell → Bool) (cs : List Cell) → ((c : Cell) → In c cs → f c ≡ g c) → list_all f cs ≡ list_all g cs
all_same f g [] same = refl
all_same f g (c ∷ cs) same = ap₂ (λ a b. a && b) (same c (inl refl)) (all_same f g cs (λ x i. same x (inr i)))

none_passes : (f : Cell → Bool) (cs : List Cell) → ((c : Cell) → In c cs → f c ≡ false) → list_any f cs ≡ false
none_passes f [] none = refl
none_passes f (c ∷ cs) none = ap₂ (λ a b. a || b) (none c (inl refl)) (none_passes f cs (λ x i. none x (inr i)))

-- ---- the cells of a signal or memory

mapped_thing : (x : ℕ) (f : ℕ → ℕ) (ns : List ℕ) (c : Cell) → In c (map (λ k. cell x (f k)) ns) → c.thing ≡ x
mapped_thing x f [] c h = absurd h
mapped_thing x f (n ∷ ns) c (inl e) = ap (λ y. y.thing) (sym e)
mapped_thing x f (n ∷ ns) c (inr h) = mapped_thing x f ns c h

in_either : (c : Cell) (xs ys : List Cell) → In c (xs ++ ys) → In c xs ⊎ In c ys
in_either c [] ys h = inr h
in_either c (x ∷ xs) ys (inl e) = inl (inl e)
in_either c (x ∷ xs) ys (inr h) = ⊎_elim (λ g. inl (inr g)) (λ g. inr g) (in_either c xs ys h)

words_thing : (d : Design) (m : ℕ) (is : List ℕ) (c : Cell) → In c (words_cells d m is) → c.thing ≡ m
words_thing d m [] c h = absurd h
words_thing d m (i ∷ is) c h = ⊎_elim (λ g. mapped_thing m (λ k. i * (memory_at d m).width + k) (range_with_len 0 (memory_at d m).width) c g) (λ g. words_thing d m is c g) (in_either c (word_cells d m i) (words_cells d m is) h)

pub all_thing : (d : Design) (x : ℕ) (c : Cell) → In c (all_cells d x) → c.thing ≡ x
all_thing d x c h = go (nat_lt x (length d.signals)) h
  where
    go : (t : Bool) → In c (if t then signal_cells d x else words_cells d x (word_indexes d x)) → c.thing ≡ x
    go true g = mapped_thing x (λ k. k) (range_with_len 0 (signal_at d x).width) c g
    go false g = words_thing d x (word_indexes d x) c g

kept_in : (d : Design) (p : ℕ) (cs : List Cell) (c : Cell) → In c (not_assigned d p cs) → In c cs
kept_in d p [] c h = absurd h
kept_in d p (x ∷ xs) c h = go (blocking_target d (body_at d p) x) (λ g. kept_in d p xs c g) h
  where
    go : (t : Bool) → (In c (not_assigned d p xs) → In c xs) → In c (if t then not_assigned d p xs else x ∷ not_assigned d p xs) → In c (x ∷ xs)
    go true rest g = inr (rest g)
    go false rest (inl e) = inl e
    go false rest (inr g) = inr (rest g)

all_kept : (d : Design) (p : ℕ) (cs : List Cell) → ((c : Cell) → In c cs → blocking_target d (body_at d p) c ≡ false) → not_assigned d p cs ≡ cs
all_kept d p [] free = refl
all_kept d p (c ∷ cs) free = ap (λ t. if t then not_assigned d p cs else c ∷ not_assigned d p cs) (free c (inl refl)) ∙ ap (λ xs. c ∷ xs) (all_kept d p cs (λ x i. free x (inr i)))

-- ---- which numbers are memories

pub memory_above : (d : Design) (x : StepState) (t : ℕ) → IsOfMemories d x → nat_le x.first t ≡ true → x.first ≤ t
memory_above d x t are e = leb-true x.first t e

pub signal_below : (d : Design) (x : StepState) (t : ℕ) → IsOfMemories d x → nat_le x.first t ≡ false → t < length d.signals
signal_below d x t are e = let below : t < x.first = grind (arith, nat_tests, e) in let first = are.first in omega (arith, below, first)

memory_is : (d : Design) (t : ℕ) → length d.signals ≤ t → t < length d.signals + length d.memories → is_memory d t ≡ true
memory_is d t low high = and_from (nat_le (length d.signals) t) (nat_lt t (length d.signals + length d.memories)) (grind (arith, nat_tests, low)) (lt-ltb t (length d.signals + length d.memories) high)

memory_low : (d : Design) (t : ℕ) → is_memory d t ≡ true → length d.signals ≤ t
memory_low d t e = leb-true (length d.signals) t (and_parts (nat_le (length d.signals) t) _ e).0

-- an Assign or Comb writes no word
pub unwritten : (d : Design) (p m : ℕ) (c : Cell) → WritesSignals d p → is_memory d m ≡ true → c.thing ≡ m → blocking_target d (body_at d p) c ≡ false
unwritten d p m c writes is same = false_from_ne_true _ (λ e. let below = writes.signals c e in let low = memory_low d m is in omega (arith, below, low, same))

-- ---- what has changed

differ_self : (p : Option Bit) → surely_differ p p ≡ false
differ_self None = refl
differ_self (Some x) = ap not (same_bit_self x)

-- of what may not move nothing has
pub unmoved : (st : Closing) (w : Working) (p x : ℕ) → st.sets.moves x ≡ false → IsStillAt st w → (has_changed st w.kept p x ≡ false) × (is_still st w.kept p x ≡ true)
unmoved st w p x none still = (
  none_passes (λ c. surely_differ (st.start.kept c) (w.kept c)) (wake_cells st.design p x) (λ c i.
      let thing : c.thing ≡ x = all_thing st.design x c (kept_in st.design p (all_cells st.design x) c i) in
      ap (surely_differ (st.start.kept c)) (still.kept c (ap st.sets.moves thing ∙ none)) ∙ differ_self (st.start.kept c)),
  ap (λ t. not t || list_all (λ c. surely_same (st.start.kept c) (w.kept c)) (wake_cells st.design p x)) none,
)

module _ (st : Closing) (w : Working) (p : ℕ) (words : StepState) (t : ℕ) (moves : st.sets.moves t ≡ true) (e : CodeDesign) (design : design_view e ≡ st.design) (are : IsOfMemories (design_view e) words) (below : t < length e.signals + length e.memories) (memory : nat_le words.first t ≡ true) (writes : WritesSignals st.design p) (changes : HasWordChanges st w.kept words) (watched : IsWatched st t) where
  memory_there : is_memory st.design t ≡ true
  memory_there = subst (λ d. is_memory d t ≡ true) design (memory_is (design_view e) t (let low = memory_above (design_view e) words t are memory in let first = are.first in omega (arith, low, first)) below)

  wakes : wake_cells st.design p t ≡ all_cells st.design t
  wakes = all_kept st.design p (all_cells st.design t) (λ c i. unwritten st.design p t c writes memory_there (all_thing st.design t c i))

  pub changed_words : words_changed words t ≡ has_changed st w.kept p t
  changed_words = (changes t memory_there watched).0 ∙ ap (list_any (λ c. surely_differ (st.start.kept c) (w.kept c))) (sym wakes)

  pub still_words : words_still words t ≡ is_still st w.kept p t
  still_words =
      (changes t memory_there watched).1 ∙ ap (list_all (λ c. surely_same (st.start.kept c) (w.kept c))) (sym wakes)
      ∙ ap (λ b. not b || list_all (λ c. surely_same (st.start.kept c) (w.kept c)) (wake_cells st.design p t)) (sym moves)

-- ---- a run of an Assign or Comb leaves the words

kept_free : (st : Closing) (holds : Bool) (o : Outcome) (w : Working) (p : ℕ) (c : Cell) → blocking_target st.design (body_at st.design p) c ≡ false → kept_target st holds o w p c ≡ w.kept c
kept_free st holds o w p c free = ap (λ b. if b && not (is_dumped st.design st.bound c) then (if holds then o.kept c else None) else w.kept c) free

pub run_leaves : (st : Closing) (w : Working) (p m : ℕ) (ordered : Bool) (c : Cell) → WritesSignals st.design p → is_memory st.design m ≡ true → c.thing ≡ m → (run_settling st ordered p w).kept c ≡ w.kept c
run_leaves st w p m ordered c writes memory same = go (is_touched st p)
  where
    go : (t : Bool) → (if t then after_settling st ordered p (certainty st w.kept p) (st.run p (plain_store (settled_kept st.design p w.kept)) (certainty st w.kept p)) w else w).kept c ≡ w.kept c
    go true = kept_free st (ordered && (not (is_comb (process_at st.design p)) || acts st p (certainty st w.kept p) w)) (st.run p (plain_store (settled_kept st.design p w.kept)) (certainty st w.kept p)) w p c (unwritten st.design p m c writes memory same)
    go false = refl

pub changes_after : (st : Closing) (w : Working) (p : ℕ) (ordered : Bool) (words : StepState) → WritesSignals st.design p → HasWordChanges st w.kept words → HasWordChanges st (run_settling st ordered p w).kept words
changes_after st w p ordered words writes changes m is watched =
    let old = changes m is watched in
    let same : (c : Cell) → In c (all_cells st.design m) → (run_settling st ordered p w).kept c ≡ w.kept c = λ c i. run_leaves st w p m ordered c writes is (all_thing st.design m c i) in (
      old.0 ∙ any_same _ _ (all_cells st.design m) (λ c i. ap (surely_differ (st.start.kept c)) (sym (same c i))),
      old.1 ∙ all_same _ _ (all_cells st.design m) (λ c i. ap (surely_same (st.start.kept c)) (sym (same c i))),
    )

-- ---- the rows

at_in : (xs : List ℕ) (i d : ℕ) → i < length xs → In (get_or xs i d) xs
at_in [] i d l = absurd (omega (arith, l))
at_in (x ∷ xs) zero d l = inl refl
at_in (x ∷ xs) (suc i) d l = inr (at_in xs i d (omega (arith, l)))

-- what is in the row of a process is watched
pub watched_at : (st : Closing) (p : ℕ) (row : List Wake) (i : ℕ) (y : Wake) → i < length row → IsWakeRow st p row → IsWatched st (get_or row i y).thing
watched_at st p row i y l wakes = (
  p,
  subst (λ xs. In (get_or row i y).thing xs) wakes.things
      (subst (λ t. In t (map (λ (w : Wake). w.thing) row)) (get_or-map (λ (w : Wake). w.thing) row i y) (at_in (map (λ (w : Wake). w.thing) row) i y.thing (omega (arith, l, length-map row (λ (w : Wake). w.thing))))),
)
