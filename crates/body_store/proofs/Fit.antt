-- What is read of a store that has the shapes of a design.
use Rattle.std.proofs.Common.{◌≡◌, ℕ, zero, suc, ◌+◌, ◌-◌, ◌<◌, ◌≤◌, ◌&&◌, Bool, true, if◌then◌else◌, List, length, map, get_or, max, min, replicate, None, refl, sym, ap, subst, ◌∙◌, arith, ⊎_elim}
use Rattle.std.specs.Prelude.{nat_le, nat_lt}
use Rattle.std.proofs.lemmas.Bool.{and_parts, cases_lt}
use Rattle.std.proofs.lemmas.Bool.Decides.{nat_tests}
use Rattle.std.proofs.Math.Nat.{le-max_left, min-le_left}
use Rattle.std.proofs.lemmas.List.{get_or-map, get_or_past, length-map, length-replicate}
use Rattle.known_state.specs.Partly.{Partly}
use Rattle.design_model.specs.declared.design.Memory.{Memory}
use Rattle.design_model.specs.declared.design.Signal.{Signal}
use Rattle.design_model.specs.Design.{Design, is_memory, memory_at, no_memory, no_signal, signal_at, signal_cells}
use Rattle.body_calls.specs.body_replay.KnownBits.{KnownBits, unknown}
use Rattle.word_log.specs.memory_rebuild.declared.shape.Shape.{Shape}
use Rattle.word_log.specs.memory_rebuild.Words.{HaveWidth, IsIndex, KnownWords, StandsFor, count, least, unwritten}
use Rattle.write_log.specs.value_store.Signals as s
use Rattle.write_log.specs.value_store.Signals.{SameUnder, Signals, no_shape, shape_at, unknown_signals}
use Rattle.word_log.specs.declared.memory.StoredMemory.{StoredMemory}
use Rattle.word_log.specs.Logs.{IsWordLogOf, WordLogState}
use Rattle.word_log.specs.Memories.{SameShapes, word_in}
use Rattle.word_log.proofs.Shapes.{all_under, sizes_same}
use Rattle.body_store.specs.Made.{AreUnknown, shape_of, unknown_memory}
use Rattle.body_store.specs.Fitting.{FitsDesign, FitsWords, memory_in}
use Rattle.body_store.specs.Scenes.{kept_by}
use Rattle.body_store.proofs.Blank.{length-unknown}
use Rattle.body_store.proofs.Rows.{signal_row, stands_here}

-- ---- a new store

same_past : (n k : ℕ) (x : KnownBits) → get_or (replicate n x) k x ≡ x
same_past zero k x = refl
same_past (suc n) zero x = refl
same_past (suc n) (suc k) x = same_past n k x

unwritten_widths : (x : Shape) → HaveWidth (unwritten x)
unwritten_widths x i = ap length (same_past (count x) (i - least x) (unknown x.width)) ∙ length-replicate x.width None

pub blank_fits : (x : Memory) (m : ℕ) → FitsWords x m (unwritten (shape_of x m))
blank_fits x m =
    record { shape = refl; widths = λ i inside. unwritten_widths (shape_of x m) i; size = length-replicate (count (shape_of x m)) (unknown x.width) }

pub new_fits : (ss : List Signal) (ms : List Memory) (v : Signals) (rs : List StoredMemory) → v ≡ unknown_signals (map s.shape_of ss) → AreUnknown (length ss) ms rs → FitsDesign ss ms v rs
new_fits ss ms v rs e a =
    record {
      shapes = ap (λ y. y.shapes) e;
      signals = ap (λ y. length y.kept) e ∙ length-unknown 0 (map s.shape_of ss) ∙ length-map ss s.shape_of;
      memories = a.count;
      each = λ i l.
          let is : memory_in rs i ≡ unknown_memory (get_or ms i no_memory) (length ss + i) = a.each i (unknown_memory no_memory 0) no_memory l in
          subst (FitsWords (get_or ms i no_memory) (length ss + i)) (sym (ap (λ r. r.words) is)) (blank_fits (get_or ms i no_memory) (length ss + i));
    }

-- ---- a signal

pub shape_is : (d : Design) (v : Signals) (x : ℕ) → v.shapes ≡ map s.shape_of d.signals → x < length d.signals → shape_at v x ≡ s.shape_of (signal_at d x)
shape_is d v x e l = ap (λ xs. get_or xs x no_shape) e ∙ get_or-map s.shape_of d.signals x no_signal no_shape l

pub width_is : (d : Design) (v : Signals) (x : ℕ) (q : Partly) → v.shapes ≡ map s.shape_of d.signals → x < length d.signals → length q.bits ≡ (shape_at v x).width → length q.bits ≡ (signal_at d x).width
width_is d v x q e l size = size ∙ ap (λ y. y.width) (shape_is d v x e l)

pub reads_signal : (d : Design) (v : Signals) (at : ℕ → Partly) (words : ℕ → KnownWords) (x : ℕ) (q : Partly) → v.shapes ≡ map s.shape_of d.signals → x < length d.signals → q ≡ at x → length q.bits ≡ (shape_at v x).width → q.bits ≡ map (kept_by (length d.signals) at words) (signal_cells d x)
reads_signal d v at words x q e l is size =
    ap (λ y. y.bits) is ∙ signal_row (length d.signals) at words d x l (ap (λ y. length y.bits) (sym is) ∙ width_is d v x q e l size)

-- ---- a memory

pub from_memories : (d : Design) (m : ℕ) → is_memory d m ≡ true → length d.signals ≤ m
from_memories d m h = let first = (and_parts (nat_le (length d.signals) m) (nat_lt m (length d.signals + length d.memories)) h).0 in grind (arith, nat_tests, first)

pub among_memories : (d : Design) (m : ℕ) → is_memory d m ≡ true → m - length d.signals < length d.memories
among_memories d m h =
    let both = and_parts (nat_le (length d.signals) m) (nat_lt m (length d.signals + length d.memories)) h in
    let first = both.0 in
    let second = both.1 in
    grind (arith, nat_tests, first, second)

pub in_memories : (d : Design) (m : ℕ) → is_memory d m ≡ true → memory_at d m ≡ get_or d.memories (m - length d.signals) no_memory
in_memories d m h = ap (λ t. if t then get_or d.memories (m - length d.signals) no_memory else no_memory) (and_parts (nat_le (length d.signals) m) (nat_lt m (length d.signals + length d.memories)) h).0

pub memory_stands : (d : Design) (v : Signals) (rs : List StoredMemory) (at : ℕ → Partly) (m : ℕ) → FitsDesign d.signals d.memories v rs → is_memory d m ≡ true → StandsFor d (kept_by (length d.signals) at (λ i. (memory_in rs i).words)) m (memory_in rs (m - length d.signals)).words
memory_stands d v rs at m f h =
    let n = length d.signals in
    let fit : FitsWords (get_or d.memories (m - n) no_memory) (n + (m - n)) (memory_in rs (m - n)).words = f.each (m - n) (among_memories d m h) in
    let is : get_or d.memories (m - n) no_memory ≡ memory_at d m = sym (in_memories d m h) in
    stands_here n at (λ i. (memory_in rs i).words) d m (memory_in rs (m - n)).words (from_memories d m h) refl
    (ap (λ y. y.first) fit.shape ∙ ap (λ y. y.first) is) (ap (λ y. y.last) fit.shape ∙ ap (λ y. y.last) is) (ap (λ y. y.width) fit.shape ∙ ap (λ y. y.width) is) fit.widths

pub flag_is : (d : Design) (m : ℕ) (b : Bool) → is_memory d m ≡ true → b ≡ (nat_le (length d.signals) m && b)
flag_is d m b h = sym (ap (λ t. t && b) (and_parts (nat_le (length d.signals) m) (nat_lt m (length d.signals + length d.memories)) h).0)

-- ---- what both branches of a test leave has the shapes of the design

-- each word is as wide as the memory's words
wide_word : (x : Memory) (m : ℕ) (r : StoredMemory) → FitsWords x m r.words → (q : ℕ) → length (word_in r q) ≡ r.words.shape.width
wide_word x m r f q = ⊎_elim listed past (cases_lt q (count r.words.shape))
  where
    listed : q < count r.words.shape → length (word_in r q) ≡ r.words.shape.width
    listed l =
        let h : Shape = r.words.shape in
        let low : min h.first h.last ≤ h.first = min-le_left h.first h.last in
        let high : h.first ≤ max h.first h.last = le-max_left h.first h.last in
        let named : IsIndex h (least h + q) = (omega arith, omega (arith, l, low, high)) in
        let place : q ≡ least h + q - least h = omega arith in
        ap (λ j. length (get_or r.words.words j (unknown h.width))) place ∙ f.widths (least h + q) named

    past : count r.words.shape ≤ q → length (word_in r q) ≡ r.words.shape.width
    past l = let size = f.size in ap length (get_or_past r.words.words q (unknown r.words.shape.width) (omega (arith, l, size))) ∙ length-replicate r.words.shape.width None

-- memories of the shapes of one design
pub fit_shapes : (ss : List Signal) (ms : List Memory) (v v' : Signals) (rs rs' : List StoredMemory) → FitsDesign ss ms v rs → FitsDesign ss ms v' rs' → SameShapes rs rs'
fit_shapes ss ms v v' rs rs' f g =
    record {
      count = g.memories ∙ sym f.memories;
      shape = λ i. ⊎_elim (λ l. (g.each i l).shape ∙ sym (f.each i l).shape) (λ l. ap (λ r. r.words.shape) (gone i l)) (cases_lt i (length ms));
      size = λ i. ⊎_elim (λ l. (g.each i l).size ∙ ap count ((g.each i l).shape ∙ sym (f.each i l).shape) ∙ sym (f.each i l).size) (λ l. ap (λ r. length r.words.words) (gone i l)) (cases_lt i (length ms));
      widths = λ i q. ⊎_elim (λ l. wide_word (get_or ms i no_memory) (length ss + i) (memory_in rs' i) (g.each i l) q ∙ ap (λ x. x.width) ((g.each i l).shape ∙ sym (f.each i l).shape) ∙ sym (wide_word (get_or ms i no_memory) (length ss + i) (memory_in rs i) (f.each i l) q)) (λ l. ap (λ r. length (word_in r q)) (gone i l)) (cases_lt i (length ms));
    }
  where
    gone : (i : ℕ) → length ms ≤ i → memory_in rs' i ≡ memory_in rs i
    gone i l =
        let here = f.memories in
        let there = g.memories in
        get_or_past rs' i (unknown_memory no_memory 0) (omega (arith, l, there)) ∙ sym (get_or_past rs i (unknown_memory no_memory 0) (omega (arith, l, here)))

-- a log of the one is a log of the other
pub logged_too : (rs rs' : List StoredMemory) (q : WordLogState) → SameShapes rs rs' → IsWordLogOf rs q → IsWordLogOf rs' q
logged_too rs rs' q s f = record { sizes = f.sizes ∙ sym (sizes_same rs rs' s); done = all_under rs rs' q.done s f.done; undone = all_under rs rs' q.undone s f.undone }

-- other values of the same shapes
pub both_fit : (ss : List Signal) (ms : List Memory) (v v' : Signals) (rs rs' : List StoredMemory) → SameUnder v v' → SameShapes rs rs' → FitsDesign ss ms v rs → FitsDesign ss ms v' rs'
both_fit ss ms v v' rs rs' u s f =
    record {
      shapes = u.shapes ∙ f.shapes;
      signals = u.count ∙ f.signals;
      memories = s.count ∙ f.memories;
      each = λ i l.
          let old : FitsWords (get_or ms i no_memory) (length ss + i) (memory_in rs i).words = f.each i l in
          record {
            shape = s.shape i ∙ old.shape;
            widths = λ j inside. s.widths i (j - least (memory_in rs' i).words.shape) ∙ wide_word (get_or ms i no_memory) (length ss + i) (memory_in rs i) old (j - least (memory_in rs' i).words.shape) ∙ ap (λ x. x.width) (sym (s.shape i));
            size = s.size i ∙ old.size ∙ ap count (sym (s.shape i));
          };
    }
