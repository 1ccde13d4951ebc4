-- What is kept of a memory after a write, where some memories are veiled.
use Rattle.std.proofs.Common.{◌≡◌, ℕ, ◌+◌, ◌-◌, ◌*◌, ◌<◌, ◌≤◌, ◌==◌, Bool, true, false, if◌then◌else◌, List, [], ◌∷◌, None, eq-eqb, map, ne_eqb, length, get_or, set, refl, sym, ap, ap₂, subst, ◌∙◌, arith, get_or-set_same, get_or-set_other, length-set}
use Rattle.std.proofs.lemmas.Bool.{eqb-false, eqb-true}
use Rattle.std.specs.Prelude.{slice_index}
use Rattle.std.specs.List.{range_with_len}
use Rattle.std.proofs.lemmas.Bool.Decides.{nat_tests}
use Rattle.design_model.specs.event_machine.Cell.{Cell}
use Rattle.std.proofs.lemmas.List.{get_or_read}
use Rattle.known_state.specs.Partly.{Partly}
use Rattle.design_model.specs.declared.design.Design as m
use Rattle.design_model.specs.declared.design.Memory.{Memory}
use Rattle.design_model.specs.declared.design.Signal.{Signal}
use Rattle.design_model.specs.Design.{Design, cell, is_memory, memory_at, no_memory, signal_at}
use Rattle.design_model.specs.View.{design_view}
use Rattle.body_calls.specs.body_replay.KnownBits.{KnownBits}
use Rattle.body_calls.specs.body_replay.Replay.{Blames}
use Rattle.body_calls.specs.body_replay.Store.{Kept, keep_all, write_word}
use Rattle.word_log.specs.memory_rebuild.Words.{KnownWords, StandsFor, cell_writes, count, unwritten}
use Rattle.word_log.proofs.memory_rebuild.Laws.{unwritten_stands}
use Rattle.write_log.specs.value_store.Signals.{Signals, kept_at, no_value}
use Rattle.write_log.specs.value_store.Held.{HoldsSignals, IsSignal}
use Rattle.write_log.specs.Entries.{has}
use Rattle.body_calls.specs.Lvalues.{if_certain}
use Rattle.word_log.specs.declared.memory.StoredMemory.{StoredMemory}
use Rattle.body_store.specs.declared.veils.Veils.{Veils}
use Rattle.body_store.specs.Ended.{settled}
use Rattle.body_store.specs.Scenes.{kept_by}
use Rattle.body_store.specs.Fitting.{FitsDesign, FitsWords, memory_in}
use Rattle.body_store.specs.Held.{HoldsMemories, IsMemory}
use Rattle.body_store.specs.Made.{without}
use Rattle.body_store.specs.Veils.{Exchanged, FitsVeils, SameButWords, is_veiled, kept_memory, kept_words, under_at}
use Rattle.body_store.proofs.Between.{certain_inside, memory_set, same_either}
use Rattle.body_store.proofs.Blank.{memory_is}
use Rattle.body_store.proofs.Ending.{memory_settled}
use Rattle.body_store.proofs.Fit.{blank_fits, from_memories}
use Rattle.body_store.proofs.Memories.{no_stored, stands_wide}
use Rattle.body_store.proofs.Rows.{stands_here}
use Rattle.body_store.proofs.Words.{inside_words, is_in_word}

-- ---- the words that are kept have the shape of the memory

pub kept_fits : (ss : List Signal) (ms : List Memory) (signals : Signals) (rs : List StoredMemory) (v : Veils) → FitsDesign ss ms signals rs → FitsVeils (length ss) ms v → (i : ℕ) → i < length ms → FitsWords (get_or ms i no_memory) (length ss + i) (kept_words v rs i)
kept_fits ss ms signals rs v f g i l = go (is_veiled v i)
  where
    go : (t : Bool) → FitsWords (get_or ms i no_memory) (length ss + i) (if t then under_at v i else (memory_in rs i).words)
    go true = g.each i l
    go false = f.each i l

-- ---- a word is written

pub word_kept : (d : Design) (k : Kept) (e : Blames) (v v' : Veils) (rs rs' : List StoredMemory) (m : ℕ) (i : Partly) (bits : KnownBits) (certain : Bool) → is_memory d m ≡ true → HoldsMemories d k e (length rs) (kept_memory v rs) → SameButWords (m - length d.signals) v rs v' rs' → (kept_words v' rs' (m - length d.signals)).shape ≡ (kept_words v rs (m - length d.signals)).shape → StandsFor d (keep_all k (cell_writes d m i bits certain)) m (kept_words v' rs' (m - length d.signals)) → HoldsMemories d (keep_all k (if_certain certain (write_word d m i.signed i.bits bits))) e (length rs') (kept_memory v' rs')
word_kept d k e v v' rs rs' m i bits certain is h same shape stands =
    let ws = write_word d m i.signed i.bits bits in
    memory_set d k e (length rs) (length rs') (kept_memory v rs) (kept_memory v' rs') m (is_in_word (memory_at d m)) (if_certain certain ws) is
    (certain_inside m (is_in_word (memory_at d m)) ws certain (inside_words d m i.signed i.bits bits))
    h same.count
    (subst (λ us. StandsFor d (keep_all k us) m (kept_words v' rs' (m - length d.signals))) (same_either certain ws) stands)
    shape (same.written (m - length d.signals))
    (λ j away. ap₂ (λ w b. record { words = w; written = b }) (same.others j away) (same.written j))

-- ---- one of the memories changes

pub stored_here : (rs : List StoredMemory) (p : ℕ) (new : StoredMemory) → p < length rs → memory_in (set rs p new) p ≡ new
stored_here rs p new inside = get_or-set_same rs p new no_stored inside

pub stored_there : (rs : List StoredMemory) (p : ℕ) (new : StoredMemory) (i : ℕ) → (p == i) ≡ false → memory_in (set rs p new) i ≡ memory_in rs i
stored_there rs p new i e = get_or-set_other rs p i new no_stored (λ same. eqb-false p i e (sym same))

-- a change of the words alone leaves the flags
pub same_flags : (rs : List StoredMemory) (p : ℕ) (new : StoredMemory) → p < length rs → new.written ≡ (memory_in rs p).written → (i : ℕ) → (memory_in (set rs p new) i).written ≡ (memory_in rs i).written
same_flags rs p new inside flag i = go (p == i) refl
  where
    go : (t : Bool) → (p == i) ≡ t → (memory_in (set rs p new) i).written ≡ (memory_in rs i).written
    go true e = subst (λ j. (memory_in (set rs p new) j).written ≡ (memory_in rs j).written) (eqb-true p i e) (ap (λ r. r.written) (stored_here rs p new inside) ∙ flag)
    go false e = ap (λ r. r.written) (stored_there rs p new i e)

abbrev no_words : KnownWords
no_words = no_stored.words

under_here : (us : List KnownWords) (p : ℕ) (w : KnownWords) → p < length us → get_or (set us p w) p no_words ≡ w
under_here us p w inside = get_or-set_same us p w no_words inside

under_there : (us : List KnownWords) (p : ℕ) (w : KnownWords) (i : ℕ) → (p == i) ≡ false → get_or (set us p w) i no_words ≡ get_or us i no_words
under_there us p w i e = get_or-set_other us p i w no_words (λ same. eqb-false p i e (sym same))

-- the words of a memory change places
module _ (v v' : Veils) (rs : List StoredMemory) (p : ℕ) (new : StoredMemory) (w : KnownWords) (inside : p < length rs) (within : p < length v.under.items) (words : new.words ≡ under_at v p) (flag : new.written ≡ (memory_in rs p).written) (under : v'.under.items ≡ set v.under.items p w) (w_is : w ≡ (memory_in rs p).words) (veiled : v'.veiled ≡ v.veiled) where
  read_is : (i : ℕ) (t : Bool) → (p == i) ≡ t → (memory_in (set rs p new) i).words ≡ (if t then under_at v p else (memory_in rs i).words)
  read_is i true e = ap (λ j. (memory_in (set rs p new) j).words) (sym (eqb-true p i e)) ∙ ap (λ r. r.words) (stored_here rs p new inside) ∙ words
  read_is i false e = ap (λ r. r.words) (stored_there rs p new i e)

  under_is : (i : ℕ) (t : Bool) → (p == i) ≡ t → under_at v' i ≡ (if t then (memory_in rs p).words else under_at v i)
  under_is i true e = ap (under_at v') (sym (eqb-true p i e)) ∙ ap (λ us. get_or us p no_words) under ∙ under_here v.under.items p w within ∙ w_is
  under_is i false e = ap (λ us. get_or us i no_words) under ∙ under_there v.under.items p w i e

  pub exchanged : Exchanged p v rs v' (set rs p new)
  exchanged =
      record {
        count = length-set rs p new;
        written = same_flags rs p new inside flag;
        veiled = veiled;
        read = λ i. read_is i (p == i) refl;
        under = λ i. under_is i (p == i) refl;
      }

-- ---- what fits stays

-- other words are kept beside one of the memories
pub veils_set : (n : ℕ) (ms : List Memory) (v v' : Veils) (p : ℕ) (w : KnownWords) → FitsVeils n ms v → v'.veiled ≡ v.veiled → v'.under.items ≡ set v.under.items p w → (p < length ms → FitsWords (get_or ms p no_memory) (n + p) w) → FitsVeils n ms v'
veils_set n ms v v' p w f veiled under here =
    record {
      size = ap (λ z. z.size) veiled ∙ f.size;
      count = ap length under ∙ length-set v.under.items p w ∙ f.count;
      each = λ i l. at i l (p == i) refl;
      once = subst (λ z. (i j : ℕ) → i < j → j < length z.items → slice_index z.items i ≡ slice_index z.items j → ⊥) (sym veiled) f.once;
    }
  where
    at : (i : ℕ) → i < length ms → (t : Bool) → (p == i) ≡ t → FitsWords (get_or ms i no_memory) (n + i) (under_at v' i)
    at i l true e =
        let is : p ≡ i = eqb-true p i e in
        let small : p < length ms = omega (arith, l, is) in
        let within : p < length v.under.items = (let count = f.count in omega (arith, small, count)) in
        subst (λ j. FitsWords (get_or ms j no_memory) (n + j) (under_at v' j)) is
        (subst (FitsWords (get_or ms p no_memory) (n + p)) (sym (ap (λ us. get_or us p no_words) under ∙ under_here v.under.items p w within)) (here small))
    at i l false e =
        subst (FitsWords (get_or ms i no_memory) (n + i)) (sym (ap (λ us. get_or us i no_words) under ∙ under_there v.under.items p w i e)) (f.each i l)

-- what a write leaves of the words of a memory fits it
pub written_fits : (D : m.Design) (p : ℕ) (r s : KnownWords) (after : Kept → Kept) → p < length D.memories → FitsWords (get_or D.memories p no_memory) (length D.signals + p) r → s.shape ≡ r.shape → length s.words ≡ count r.shape → ((k : Kept) → StandsFor (design_view D) k (length D.signals + p) r → StandsFor (design_view D) (after k) (length D.signals + p) s) → FitsWords (get_or D.memories p no_memory) (length D.signals + p) s
written_fits D p r s after l fit shape size stands =
    let n = length D.signals in
    let d = design_view D in
    let is : get_or D.memories p no_memory ≡ memory_at d (n + p) = sym (memory_is d p) in
    let k : Kept = kept_by n (λ x. no_value) (λ i. r) in
    let before : StandsFor d k (n + p) r = stands_here n (λ x. no_value) (λ i. r) d (n + p) r (omega arith) refl (ap (λ y. y.first) fit.shape ∙ ap (λ y. y.first) is) (ap (λ y. y.last) fit.shape ∙ ap (λ y. y.last) is) (ap (λ y. y.width) fit.shape ∙ ap (λ y. y.width) is) fit.widths in
    record { shape = shape ∙ fit.shape; widths = stands_wide d (after k) (n + p) s (stands k before); size = size ∙ ap count (sym shape) }

-- ---- the flag of a memory

pub flag_settled : (d : Design) (k : Kept) (e : Blames) (v : Veils) (rs : List StoredMemory) (p : ℕ) (new : StoredMemory) → p < length rs → new.words ≡ (memory_in rs p).words → new.written ≡ false → (p < length d.memories → (kept_words v rs p).shape.blame ≡ length d.signals + p) → HoldsMemories d k e (length rs) (kept_memory v rs) → HoldsMemories d k (settled (length d.signals + p) e) (length (set rs p new)) (kept_memory v (set rs p new))
flag_settled d k e v rs p new inside words flag own h =
    memory_settled d k e (length rs) (length (set rs p new)) (kept_memory v rs) (kept_memory v (set rs p new)) p h (length-set rs p new) own
    (ap (λ (w : KnownWords). if is_veiled v p then under_at v p else w) (ap (λ r. r.words) (stored_here rs p new inside) ∙ words))
    (ap (λ r. r.written) (stored_here rs p new inside) ∙ flag)
    (λ i e. ap {B = StoredMemory} (λ r. record { words = if is_veiled v i then under_at v i else r.words; written = r.written }) (stored_there rs p new i e))

-- ---- the words that a write changes

pub kept_under : (v : Veils) (rs : List StoredMemory) (p : ℕ) (old : KnownWords) → p < length v.under.items → is_veiled v p ≡ true → old ≡ get_or v.under.items p old → kept_words v rs p ≡ old
kept_under v rs p old inside veiled is =
    ap (λ t. if t then under_at v p else (memory_in rs p).words) veiled ∙ sym (get_or_read v.under.items p old inside is no_words)

pub kept_plain : (v : Veils) (rs : List StoredMemory) (p : ℕ) (old : StoredMemory) → p < length rs → is_veiled v p ≡ false → old ≡ get_or rs p old → kept_words v rs p ≡ old.words
kept_plain v rs p old inside plain is =
    ap (λ t. if t then under_at v p else (memory_in rs p).words) plain ∙ ap (λ r. r.words) (sym (get_or_read rs p old inside is no_stored))

pub under_set : (v v' : Veils) (rs : List StoredMemory) (p : ℕ) (w : KnownWords) → p < length v.under.items → is_veiled v p ≡ true → v'.veiled ≡ v.veiled → v'.under.items ≡ set v.under.items p w → kept_words v' rs p ≡ w
under_set v v' rs p w inside veiled same under =
    ap (λ t. if t then under_at v' p else (memory_in rs p).words) (ap (λ z. has z.items p) same ∙ veiled) ∙ ap (λ us. get_or us p no_words) under ∙ under_here v.under.items p w inside

pub plain_set : (v : Veils) (rs : List StoredMemory) (p : ℕ) (new : StoredMemory) → p < length rs → is_veiled v p ≡ false → kept_words v (set rs p new) p ≡ new.words
plain_set v rs p new inside plain =
    ap (λ t. if t then under_at v p else (memory_in (set rs p new) p).words) plain ∙ ap (λ r. r.words) (stored_here rs p new inside)

-- ---- words that are given up

-- unknown words of the shape of a memory fit it
pub blank_again : (x : Memory) (m : ℕ) (w : KnownWords) → FitsWords x m w → FitsWords x m (unwritten w.shape)
blank_again x m w f = subst (λ s. FitsWords x m (unwritten s)) (sym f.shape) (blank_fits x m)

row_same : (k l : Kept) (f : ℕ → Cell) (ns : List ℕ) → ((i : ℕ) → k (f i) ≡ l (f i)) → map k (map f ns) ≡ map l (map f ns)
row_same k l f [] h = refl
row_same k l f (n ∷ ns) h = ap₂ (λ a b. a ∷ b) (h n) (row_same k l f ns h)

module _ (d : Design) (k : Kept) (e : Blames) (m : ℕ) where
  -- the cells of another signal or memory
  other_cells : (x : ℕ) → (m == x) ≡ false → (f : ℕ → ℕ) (ns : List ℕ) → map (without m k) (map (λ j. cell x (f j)) ns) ≡ map k (map (λ j. cell x (f j)) ns)
  other_cells x away f ns = row_same (without m k) k (λ j. cell x (f j)) ns (λ i. ap (λ t. if t then None else k (cell x (f i))) away)

  pub signals_without : (v : Signals) → length d.signals ≤ m → HoldsSignals d k e.blame v → HoldsSignals d (without m k) e.blame v
  signals_without v l h =
      record {
        shapes = h.shapes;
        count = h.count;
        each = λ s b.
            let old : IsSignal d k e.blame s (kept_at v s) = h.each s b in
            let away : (m == s) ≡ false = grind (arith, nat_tests, l, b) in
            record { bits = old.bits ∙ sym (other_cells s away (λ j. j) (range_with_len 0 (signal_at d s).width)); blamed = old.blamed };
      }

  stands_without : (x : ℕ) (w : KnownWords) → (m == x) ≡ false → StandsFor d k x w → StandsFor d (without m k) x w
  stands_without x w away s =
      record {
        first = s.first;
        last = s.last;
        width = s.width;
        words = λ i inside. s.words i inside ∙ sym (other_cells x away (λ j. i * (memory_at d x).width + j) (range_with_len 0 (memory_at d x).width));
      }

  pub memories_without : (v v' : Veils) (rs rs' : List StoredMemory) → is_memory d m ≡ true → HoldsMemories d k e (length rs) (kept_memory v rs) → SameButWords (m - length d.signals) v rs v' rs' → kept_words v' rs' (m - length d.signals) ≡ unwritten (kept_words v rs (m - length d.signals)).shape → HoldsMemories d (without m k) e (length rs') (kept_memory v' rs')
  memories_without v v' rs rs' is h same here =
      record { count = same.count ∙ h.count; each = λ i l. by i l (m - length d.signals == i) refl }
    where
      n : ℕ
      n = length d.signals

      by : (i : ℕ) → i < length d.memories → (t : Bool) → (m - n == i) ≡ t → IsMemory d (without m k) e (n + i) (kept_memory v' rs' i)
      by i l true q =
          let at : m - n ≡ i = eqb-true (m - n) i q in
          let from = from_memories d m is in
          let number : n + i ≡ m = omega (arith, from, at) in
          let old : IsMemory d k e (n + i) (kept_memory v rs i) = h.each i l in
          let now : kept_words v' rs' i ≡ unwritten (kept_words v rs i).shape = subst (λ j. kept_words v' rs' j ≡ unwritten (kept_words v rs j).shape) at here in
          record {
            words = subst (StandsFor d (without m k) (n + i)) (sym now) (unwritten_stands d (without m k) (n + i) (kept_words v rs i).shape old.words.first old.words.last old.words.width (λ c e. ap (λ t. if t then None else k c) (eq-eqb m c.thing (sym (e ∙ number)))));
            blame = ap (λ w. w.shape.blame) now ∙ old.blame;
            wrote = same.written i ∙ old.wrote;
          }
      by i l false q =
          let from = from_memories d m is in
          let away : (m == n + i) ≡ false = ne_eqb m (n + i) (λ z. eqb-false (m - n) i q (omega (arith, z))) in
          let old : IsMemory d k e (n + i) (kept_memory v rs i) = h.each i l in
          let words : kept_words v' rs' i ≡ kept_words v rs i = same.others i q in
          record { words = subst (StandsFor d (without m k) (n + i)) (sym words) (stands_without (n + i) (kept_words v rs i) away old.words); blame = ap (λ w. w.shape.blame) words ∙ old.blame; wrote = same.written i ∙ old.wrote }
