-- What the calls between runs keep of what is known of the cells.
use Rattle.std.proofs.Common.{◌≡◌, ◌≢◌, ℕ, ◌+◌, ◌-◌, ◌*◌, ◌<◌, ◌≤◌, ◌==◌, Bool, true, false, if◌then◌else◌, List, [], ◌∷◌, length, map, refl, sym, ap, ap₂, subst, ◌∙◌, arith, length-set, inl, ne_eqb, ⊎_elim}
use Rattle.std.specs.List.{range_with_len}
use Rattle.std.proofs.lemmas.Bool.{cases_eq}
use Rattle.std.proofs.lemmas.Bool.Decides.{nat_tests}
use Rattle.std.proofs.lemmas.List.Elements.{All-weaker}
use Rattle.design_model.specs.event_machine.Cell.{Cell}
use Rattle.known_state.specs.Partly.{Partly}
use Rattle.design_model.specs.declared.design.Memory.{Memory}
use Rattle.design_model.specs.declared.design.Signal.{Signal}
use Rattle.design_model.specs.Design.{Design, cell, is_memory, memory_at, signal_at, signal_cells}
use Rattle.body_calls.specs.body_replay.Replay.{Blames}
use Rattle.body_calls.specs.body_replay.KnownBits.{KnownBits}
use Rattle.body_calls.specs.body_replay.Store.{Kept, KnownWrite, keep_all, weaken, write_bits, writes_of}
use Rattle.body_calls.proofs.body_replay.Frames.{Misses, missed}
use Rattle.word_log.specs.memory_rebuild.Words.{StandsFor}
use Rattle.write_log.specs.value_store.Signals.{HasShape, Signals, shape_at, kept_at}
use Rattle.write_log.specs.value_store.Parts.{part_written, updated}
use Rattle.write_log.specs.value_store.Held as held
use Rattle.write_log.specs.value_store.Held.{HoldsSignals, IsSignal, itself, with_kept}
use Rattle.write_log.proofs.value_store.Held.{update_law, update_part_law}
use Rattle.body_calls.specs.Lvalues.{if_certain}
use Rattle.write_log.specs.Entries.{Fits}
use Rattle.write_log.specs.Logs.{IsLogOf, LogState}
use Rattle.word_log.specs.declared.memory.StoredMemory.{StoredMemory}
use Rattle.body_store.specs.Fitting.{FitsDesign}
use Rattle.body_store.specs.Held.{HoldsMemories, IsMemory}
use Rattle.body_store.specs.Made.{unblamed}
use Rattle.body_store.proofs.Fit.{among_memories, from_memories}
use Rattle.body_store.proofs.Inside.{Inside, inside_misses, inside_part, inside_weaken, inside_whole, is_below}

-- ---- the shapes stay

pub set_fits : (ss : List Signal) (ms : List Memory) (v : Signals) (rs : List StoredMemory) (s : ℕ) (q : Partly) → FitsDesign ss ms v rs → FitsDesign ss ms (with_kept v s q) rs
set_fits ss ms v rs s q f = record { shapes = f.shapes; signals = length-set v.kept s q ∙ f.signals; memories = f.memories; each = f.each }

entry_fits : (v w : Signals) → w.shapes ≡ v.shapes → length w.kept ≡ length v.kept → (e : _) → Fits v e → Fits w e
entry_fits v w shapes count e f =
    record { inside = (let l = f.inside in omega (arith, l, count)); shape = subst (λ xs. HasShape (shape_at (record v { shapes = xs }) e.signal) e.value) (sym shapes) f.shape }

pub set_logged : (v : Signals) (l : LogState) (s : ℕ) (q : Partly) → IsLogOf v l → IsLogOf (with_kept v s q) l
set_logged v l s q f =
    record {
      signals = f.signals ∙ sym (length-set v.kept s q);
      done = All-weaker (Fits v) (Fits (with_kept v s q)) (entry_fits v (with_kept v s q) refl (length-set v.kept s q)) l.done f.done;
      undone = All-weaker (Fits v) (Fits (with_kept v s q)) (entry_fits v (with_kept v s q) refl (length-set v.kept s q)) l.undone f.undone;
    }

-- ---- what no write names stays

row_missed : (k : Kept) (ws : List KnownWrite) (f : ℕ → Cell) (ns : List ℕ) → ((i : ℕ) → Misses (f i) ws) → map (keep_all k ws) (map f ns) ≡ map k (map f ns)
row_missed k ws f [] h = refl
row_missed k ws f (n ∷ ns) h = ap₂ (λ a b. a ∷ b) (missed (f n) ws k (h n)) (row_missed k ws f ns h)

stands_missed : (d : Design) (k : Kept) (ws : List KnownWrite) (m : ℕ) (r : _) → ((j : ℕ) → Misses (cell m j) ws) → StandsFor d k m r → StandsFor d (keep_all k ws) m r
stands_missed d k ws m r h s =
    record {
      first = s.first;
      last = s.last;
      width = s.width;
      words = λ i inside. s.words i inside ∙ sym (row_missed k ws (λ j. cell m (i * (memory_at d m).width + j)) (range_with_len 0 (memory_at d m).width) (λ j. h (i * (memory_at d m).width + j)));
    }

-- writes to a signal leave the memories
pub memories_left : (d : Design) (k : Kept) (e : Blames) (n : ℕ) (held : ℕ → StoredMemory) (s : ℕ) (at : ℕ → Bool) (ws : List KnownWrite) → s < length d.signals → Inside s at ws → HoldsMemories d k e n held → HoldsMemories d (keep_all k ws) e n held
memories_left d k e n held s at ws l inside h =
    record {
      count = h.count;
      each = λ i b.
          let old : IsMemory d k e (length d.signals + i) (held i) = h.each i b in
          let other : (s == length d.signals + i) ≡ false = grind (arith, nat_tests, l) in
          record { words = stands_missed d k ws (length d.signals + i) (held i).words (λ j. inside_misses s at ws (cell (length d.signals + i) j) inside (inl other)) old.words; blame = old.blame; wrote = old.wrote };
    }

-- writes to a memory leave the signals
pub signals_left : (d : Design) (k : Kept) (blame : ℕ → ℕ) (v : Signals) (m : ℕ) (at : ℕ → Bool) (ws : List KnownWrite) → length d.signals ≤ m → Inside m at ws → HoldsSignals d k blame v → HoldsSignals d (keep_all k ws) blame v
signals_left d k blame v m at ws l inside h =
    record {
      shapes = h.shapes;
      count = h.count;
      each = λ s b.
          let old : IsSignal d k blame s (kept_at v s) = h.each s b in
          let other : (m == s) ≡ false = grind (arith, nat_tests, l, b) in
          record { bits = old.bits ∙ sym (row_missed k ws (cell s) (range_with_len 0 (signal_at d s).width) (λ j. inside_misses m at ws (cell s j) inside (inl other))); blamed = old.blamed };
    }

-- ---- a signal is set

-- writes that are certain or not are to the same cells
pub certain_inside : (x : ℕ) (at : ℕ → Bool) (ws : List KnownWrite) (certain : Bool) → Inside x at ws → Inside x at (if_certain certain ws)
certain_inside x at ws true i = i
certain_inside x at ws false i = inside_weaken x at ws i

same_certain : (certain : Bool) (ws : List KnownWrite) → held.if_certain certain ws ≡ if_certain certain ws
same_certain true ws = refl
same_certain false ws = refl

pub same_either : (certain : Bool) (ws : List KnownWrite) → (if certain then ws else weaken ws) ≡ if_certain certain ws
same_either true ws = refl
same_either false ws = refl

module _ (d : Design) (k : Kept) (v w : Signals) (n : ℕ) (mems : ℕ → StoredMemory) (s : ℕ) (certain : Bool) (l : s < length d.signals) (signals : HoldsSignals d k itself v) (memories : HoldsMemories d k unblamed n mems) where
  pub whole_kept : (p : Partly) (bits : KnownBits) → length p.bits ≡ (signal_at d s).width → p.bits ≡ bits → w ≡ with_kept v s (updated certain s p (kept_at v s)) → HoldsSignals d (keep_all k (if_certain certain (writes_of (signal_cells d s) bits))) itself w × HoldsMemories d (keep_all k (if_certain certain (writes_of (signal_cells d s) bits))) unblamed n mems
  whole_kept p bits size same is =
      let ws = if_certain certain (writes_of (signal_cells d s) bits) in
      let law : HoldsSignals d (keep_all k (held.if_certain certain (writes_of (signal_cells d s) p.bits))) itself (with_kept v s (updated certain s p (kept_at v s))) = update_law d k v s p certain l size signals in
      let writes : held.if_certain certain (writes_of (signal_cells d s) p.bits) ≡ ws = same_certain certain (writes_of (signal_cells d s) p.bits) ∙ ap (λ ps. if_certain certain (writes_of (signal_cells d s) ps)) same in (
        subst (λ y. HoldsSignals d (keep_all k ws) itself y) (sym is) (subst (λ us. HoldsSignals d (keep_all k us) itself (with_kept v s (updated certain s p (kept_at v s)))) writes law),
        memories_left d k unblamed n mems s (is_below (signal_at d s).width) ws l (certain_inside s (is_below (signal_at d s).width) (writes_of (signal_cells d s) bits) certain (inside_whole d s bits)) memories,
      )

  pub part_kept : (i p : Partly) → 1 ≤ length p.bits → w ≡ with_kept v s (updated certain s (part_written (shape_at v s).range i p (kept_at v s)) (kept_at v s)) → HoldsSignals d (keep_all k (if_certain certain (write_bits d s i.signed i.bits p.bits))) itself w × HoldsMemories d (keep_all k (if_certain certain (write_bits d s i.signed i.bits p.bits))) unblamed n mems
  part_kept i p some is =
      let ws = if_certain certain (write_bits d s i.signed i.bits p.bits) in
      let law : HoldsSignals d (keep_all k (held.if_certain certain (write_bits d s i.signed i.bits p.bits))) itself (with_kept v s (updated certain s (part_written (shape_at v s).range i p (kept_at v s)) (kept_at v s))) = update_part_law d k v s i p certain l some signals in (
        subst (λ y. HoldsSignals d (keep_all k ws) itself y) (sym is) (subst (λ us. HoldsSignals d (keep_all k us) itself (with_kept v s (updated certain s (part_written (shape_at v s).range i p (kept_at v s)) (kept_at v s)))) (same_certain certain (write_bits d s i.signed i.bits p.bits)) law),
        memories_left d k unblamed n mems s (is_below (signal_at d s).width) ws l (certain_inside s (is_below (signal_at d s).width) (write_bits d s i.signed i.bits p.bits) certain (inside_part d s i.signed i.bits p.bits)) memories,
      )

-- ---- a word is set

-- the words of a memory as they are held
pub held_words : (d : Design) (k : Kept) (e : Blames) (n : ℕ) (held : ℕ → StoredMemory) (m : ℕ) → is_memory d m ≡ true → HoldsMemories d k e n held → StandsFor d k m (held (m - length d.signals)).words
held_words d k e n held m is h =
    let from = from_memories d m is in
    let number : length d.signals + (m - length d.signals) ≡ m = omega (arith, from) in
    subst (λ y. StandsFor d k y (held (m - length d.signals)).words) number (h.each (m - length d.signals) (among_memories d m is)).words

pub memory_set : (d : Design) (k : Kept) (e : Blames) (n n' : ℕ) (held held' : ℕ → StoredMemory) (m : ℕ) (at : ℕ → Bool) (ws : List KnownWrite) → is_memory d m ≡ true → Inside m at ws → HoldsMemories d k e n held → n' ≡ n → StandsFor d (keep_all k ws) m (held' (m - length d.signals)).words → (held' (m - length d.signals)).words.shape ≡ (held (m - length d.signals)).words.shape → (held' (m - length d.signals)).written ≡ (held (m - length d.signals)).written → ((i : ℕ) → (m - length d.signals == i) ≡ false → held' i ≡ held i) → HoldsMemories d (keep_all k ws) e n' held'
memory_set d k e n n' held held' m at ws is inside h count stands shape flag others =
    record { count = count ∙ h.count; each = λ i l. ⊎_elim (λ q. here i l q) (λ ne. there i l ne) (cases_eq i (m - length d.signals)) }
  where
    here : (i : ℕ) → i < length d.memories → i ≡ m - length d.signals → IsMemory d (keep_all k ws) e (length d.signals + i) (held' i)
    here i l q =
        let from = from_memories d m is in
        let number : length d.signals + i ≡ m = omega (arith, from, q) in
        let old : IsMemory d k e (length d.signals + i) (held i) = h.each i l in
        subst (λ j. IsMemory d (keep_all k ws) e (length d.signals + i) (held' j)) (sym q)
        (record { words = subst (λ y. StandsFor d (keep_all k ws) y (held' (m - length d.signals)).words) (sym number) stands; blame = ap (λ y. y.blame) shape ∙ ap (λ j. (held j).words.shape.blame) (sym q) ∙ old.blame; wrote = flag ∙ ap (λ j. (held j).written) (sym q) ∙ old.wrote })

    there : (i : ℕ) → i < length d.memories → (i ≡ m - length d.signals → ⊥) → IsMemory d (keep_all k ws) e (length d.signals + i) (held' i)
    there i l ne =
        let from = from_memories d m is in
        let differ : m ≢ length d.signals + i = (λ q. ne (omega (arith, q))) in
        let other : (m == length d.signals + i) ≡ false = ne_eqb m (length d.signals + i) differ in
        let away : (m - length d.signals == i) ≡ false = ne_eqb (m - length d.signals) i (λ q. ne (sym q)) in
        let old : IsMemory d k e (length d.signals + i) (held i) = h.each i l in
        subst (IsMemory d (keep_all k ws) e (length d.signals + i)) (sym (others i away))
        (record { words = stands_missed d k ws (length d.signals + i) (held i).words (λ j. inside_misses m at ws (cell (length d.signals + i) j) inside (inl other)) old.words; blame = old.blame; wrote = old.wrote })
