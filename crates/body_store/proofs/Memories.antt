-- A store after a blocking write to a word of a memory.
use Rattle.std.proofs.Common.{◌≡◌, ℕ, ◌+◌, ◌-◌, ◌<◌, ◌≤◌, ◌==◌, ◌&&◌, ◌||◌, Bool, true, false, List, length, map, get_or, set, None, refl, sym, ap, subst, ◌∙◌, arith, eq-eqb, get_or-set_same, get_or-set_other, length-set, ⊎_elim}
use Rattle.std.specs.Prelude.{◌*◌, nat_le}
use Rattle.std.specs.List.{range_with_len}
use Rattle.design_model.specs.event_machine.Cell.{Cell}
use Rattle.std.proofs.lemmas.Bool.{cases_eq, eqb-true, false≢true}
use Rattle.std.proofs.lemmas.Bool.Decides.{nat_tests}
use Rattle.std.proofs.lemmas.List.{get_or_read, length-map}
use Rattle.std.proofs.lemmas.List.FromFn.{length-map-range_with_len}
use Rattle.known_state.specs.Partly.{Partly}
use Rattle.design_model.specs.declared.design.Design as m
use Rattle.design_model.specs.declared.design.Memory.{Memory}
use Rattle.design_model.specs.declared.design.Signal.{Signal}
use Rattle.design_model.specs.Design.{Design, cell, is_memory, memory_at, no_memory}
use Rattle.design_model.specs.View.{design_view}
use Rattle.body_calls.specs.body_replay.KnownBits.{KnownBits}
use Rattle.body_calls.specs.body_replay.Store.{Kept, keep_all, write_word}
use Rattle.word_log.specs.memory_rebuild.Words.{IsIndex, KnownWords, StandsFor, count, word_at}
use Rattle.write_log.specs.value_store.Signals.{Signals}
use Rattle.body_calls.specs.Lvalues.{Like, written}
use Rattle.body_calls.specs.declared.lvalue.Lvalue.TheVariants.{Word}
use Rattle.word_log.specs.declared.memory.StoredMemory.{StoredMemory}
use Rattle.body_store.specs.Fitting.{FitsDesign, FitsWords, memory_in}
use Rattle.body_store.specs.Made.{unknown_memory}
use Rattle.body_store.specs.Scenes.{kept_by, scene_with}
use Rattle.body_store.proofs.Fit.{among_memories, from_memories, memory_stands}
use Rattle.body_store.proofs.Words.{word_changed}

abbrev pub no_stored : StoredMemory
no_stored = unknown_memory no_memory 0

or_true : (b : Bool) → true ≡ (b || true)
or_true true = refl
or_true false = refl

or_false : (b : Bool) → b ≡ (b || false)
or_false true = refl
or_false false = refl

-- words that represent a memory are as wide as its words
pub stands_wide : (d : Design) (k : Kept) (x : ℕ) (r : KnownWords) → StandsFor d k x r → (i : ℕ) → IsIndex r.shape i → length (word_at r i) ≡ r.shape.width
stands_wide d k x r h i inside =
    let f : ℕ → Cell = λ j. cell x (i * (memory_at d x).width + j) in
    ap length (h.words i inside) ∙ length-map (map f (range_with_len 0 (memory_at d x).width)) k ∙ length-map-range_with_len f 0 (memory_at d x).width ∙ sym h.width

-- another one of the memories
pub fits_set : (ss : List Signal) (ms : List Memory) (v : Signals) (rs : List StoredMemory) (p : ℕ) (new : StoredMemory) → FitsDesign ss ms v rs → (p < length ms → FitsWords (get_or ms p no_memory) (length ss + p) new.words) → FitsDesign ss ms v (set rs p new)
fits_set ss ms v rs p new fits here =
    record { shapes = fits.shapes; signals = fits.signals; memories = length-set rs p new ∙ fits.memories; each = λ i l. ⊎_elim (λ e. at i l e) (λ ne. there i l ne) (cases_eq i p) }
  where
    at : (i : ℕ) → i < length ms → i ≡ p → FitsWords (get_or ms i no_memory) (length ss + i) (memory_in (set rs p new) i).words
    at i l e =
        let inside : p < length rs = (let count = fits.memories in omega (arith, l, e, count)) in
        let now : memory_in (set rs p new) p ≡ new = get_or-set_same rs p new no_stored inside in
        subst (λ j. FitsWords (get_or ms j no_memory) (length ss + j) (memory_in (set rs p new) j).words) (sym e)
        (subst (λ r. FitsWords (get_or ms p no_memory) (length ss + p) r.words) (sym now) (here (subst (λ j. j < length ms) e l)))

    there : (i : ℕ) → i < length ms → (i ≡ p → ⊥) → FitsWords (get_or ms i no_memory) (length ss + i) (memory_in (set rs p new) i).words
    there i l ne =
        subst (λ r. FitsWords (get_or ms i no_memory) (length ss + i) r.words) (sym (get_or-set_other rs p i new no_stored ne)) (fits.each i l)

module _ (D : m.Design) (v : Signals) (rs : List StoredMemory) (x : ℕ) (new : StoredMemory) (fits : FitsDesign D.signals D.memories v rs) (is : is_memory (design_view D) x ≡ true) where
  abbrev n : ℕ
  n = length D.signals

  abbrev place : ℕ
  place = x - n

  inside : place < length rs
  inside = let among = among_memories (design_view D) x is in let count = fits.memories in omega (arith, among, count)

  pub at_place : memory_in (set rs place new) place ≡ new
  at_place = get_or-set_same rs place new no_stored inside

  pub at_other : (i : ℕ) → (place == i) ≡ false → memory_in (set rs place new) i ≡ memory_in rs i
  at_other i e = get_or-set_other rs place i new no_stored (λ same. let s : (place == i) ≡ true = eq-eqb place i (sym same) in absurd (false≢true (sym e ∙ s)))

  -- it still has the shapes of the design
  pub word_fits : (k : Kept) → new.words.shape ≡ (memory_in rs place).words.shape → length new.words.words ≡ count (memory_in rs place).words.shape → StandsFor (design_view D) k x new.words → FitsDesign D.signals D.memories v (set rs place new)
  word_fits k shape size stands =
      fits_set D.signals D.memories v rs place new fits
      (λ l. record { shape = shape ∙ (fits.each place l).shape; widths = stands_wide (design_view D) k x new.words stands; size = size ∙ ap count (sym shape) })

  module _ (at : ℕ → Partly) (index : Partly) (ps : KnownBits) (some : 1 ≤ (memory_at (design_view D) x).width) (flag : new.written ≡ true) where
    abbrev d : Design
    d = design_view D

    abbrev k : Kept
    k = kept_by n at (λ i. (memory_in rs i).words)

    abbrev later : List StoredMemory
    later = set rs place new

    flags : (y : ℕ) (t : Bool) → (x == y) ≡ t → (nat_le n y && (memory_in later (y - n)).written) ≡ ((nat_le n y && (memory_in rs (y - n)).written) || t)
    flags y true e =
        let same : x ≡ y = eqb-true x y e in
        let yes : nat_le n x ≡ true = let from = from_memories d x is in grind (arith, nat_tests, from) in
        subst (λ z. (nat_le n z && (memory_in later (z - n)).written) ≡ ((nat_le n z && (memory_in rs (z - n)).written) || true)) same
        (ap (λ t. t && (memory_in later place).written) yes ∙ ap (λ r. r.written) at_place ∙ flag ∙ or_true (nat_le n x && (memory_in rs place).written))
    flags y false e = go (nat_le n y) refl ∙ or_false (nat_le n y && (memory_in rs (y - n)).written)
      where
        go : (t : Bool) → nat_le n y ≡ t → (t && (memory_in later (y - n)).written) ≡ (t && (memory_in rs (y - n)).written)
        go false u = refl
        go true u =
            let from = from_memories d x is in
            let differ : (place == y - n) ≡ false = grind (arith, nat_tests, e, u, from) in
            ap (λ r. r.written) (at_other (y - n) differ)

    pub word_like : StandsFor d (keep_all k (write_word d x index.signed index.bits ps)) x new.words → Like (written (Word x index) ps None (scene_with D rs at)) (scene_with D later at)
    word_like stands =
        let old : StandsFor d k x (memory_in rs place).words = memory_stands d v rs at x fits is in
        let now : StandsFor d (keep_all k (write_word d x index.signed index.bits ps)) x (memory_in later place).words = subst (λ r. StandsFor d (keep_all k (write_word d x index.signed index.bits ps)) x r.words) (sym at_place) stands in
        record {
          design = refl;
          kept = word_changed d n at (λ i. (memory_in rs i).words) (λ i. (memory_in later i).words) x index.signed index.bits ps (from_memories d x is) some (λ i e. ap (λ r. r.words) (at_other i e)) old now;
          wrote = λ y. flags y (x == y) refl;
          blame = λ y u. refl;
        }

  -- what is found at the place of the memory
  pub stored_is : (len : ℕ) (a : StoredMemory) → len ≡ length v.kept → a ≡ get_or rs (x - len) a → a ≡ memory_in rs place
  stored_is len a e h =
      let same : x - len ≡ place = ap (λ z. x - z) (e ∙ fits.signals) in
      get_or_read rs place a inside (h ∙ ap (λ i. get_or rs i a) same) no_stored

  pub place_is : (len : ℕ) → len ≡ length v.kept → place ≡ x - len
  place_is len e = ap (λ z. x - z) (sym (e ∙ fits.signals))
