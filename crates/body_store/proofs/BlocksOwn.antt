-- What is kept of a store, and what is to blame for it, by the relation of a store to the cells of a design.
use Rattle.std.proofs.Common.{◌≡◌, ℕ, ◌+◌, ◌-◌, ◌<◌, ◌≤◌, ◌==◌, ◌&&◌, ◌||◌, Bool, true, false, if◌then◌else◌, List, [], ◌∷◌, length, map, get_or, None, refl, sym, ap, subst, ◌∙◌, arith, ⊎_elim}
use Rattle.std.specs.Prelude.{nat_le, nat_lt}
use Rattle.std.proofs.lemmas.Bool.{cases_lt}
use Rattle.std.proofs.lemmas.Bool.Decides.{nat_tests}
use Rattle.std.proofs.lemmas.List.{get_or_past, length-map}
use Rattle.std.proofs.lemmas.List.FromFn.{length-map-range_with_len}
use Rattle.design_model.specs.event_machine.Cell.{Cell}
use Rattle.design_model.specs.Design.{Design, cell, memory_at, no_memory, signal_at, signal_cells}
use Rattle.design_model.specs.View.{design_view}
use Rattle.body_calls.specs.body_replay.KnownBits.{all_sure}
use Rattle.body_calls.specs.body_replay.Replay.{Blames}
use Rattle.body_calls.specs.body_replay.Store.{Kept}
use Rattle.body_calls.proofs.body_replay.Answered.{same_sure}
use Rattle.word_log.specs.memory_rebuild.Words.{KnownWords, unwritten}
use Rattle.body_calls.specs.term_replay.Stands.{Scene}
use Rattle.write_log.specs.value_store.Signals.{HasShape, kept_at, shape_at}
use Rattle.body_calls.specs.Own.{IsOwn, IsOwnOutside, is_in}
use Rattle.body_store.specs.declared.store.Store.{Store}
use Rattle.body_store.specs.Ended.{ended, settled}
use Rattle.body_store.specs.Fitting.{FitsWords, memory_in}
use Rattle.body_store.specs.Held.{HoldsStore}
use Rattle.body_store.specs.Made.{shape_of, unblamed, unknown_memory}
use Rattle.body_store.specs.Scenes.{signal_count}
use Rattle.body_store.specs.Veils.{is_veiled, kept_memory, kept_words, under_at}
use Rattle.body_store.specs.Views.{kept_scene}
use Rattle.body_store.proofs.Between.{held_words}
use Rattle.body_store.proofs.Blank.{memory_is}
use Rattle.body_store.proofs.BlocksCells.{all_held, blank, is_cell}
use Rattle.body_store.proofs.Fit.{blank_fits, width_is}
use Rattle.body_store.proofs.KeptWords.{kept_fits}
use Rattle.body_store.proofs.Rows.{signal_row, stands_here}

-- the same is held with other blames, if those of what is not sure are the same
pub blames_changed : (d : Design) (k : Kept) (e e' : Blames) (x : Store) → ((s : ℕ) → s < length d.signals → all_sure (map k (signal_cells d s)) ≡ false → e.blame s ≡ e'.blame s) → ((i : ℕ) → i < length d.memories → e.blame (length d.signals + i) ≡ e'.blame (length d.signals + i)) → ((i : ℕ) → i < length d.memories → e.wrote (length d.signals + i) ≡ e'.wrote (length d.signals + i)) → HoldsStore d k e x → HoldsStore d k e' x
blames_changed d k e e' x f g w h =
    record {
      signals = record {
        shapes = h.signals.shapes;
        count = h.signals.count;
        each = λ s l. let old = h.signals.each s l in record { bits = old.bits; blamed = λ u. old.blamed u ∙ f s l (sym (ap all_sure old.bits) ∙ same_sure (kept_at x.signals s).bits ∙ u) };
      };
      memories = record {
        count = h.memories.count;
        each = λ i l. let old = h.memories.each i l in record { words = old.words; blame = old.blame ∙ g i l; wrote = old.wrote ∙ w i l };
      };
    }

from_count : (n i : ℕ) → nat_le n (n + i) ≡ true
from_count n i = grind (arith, nat_tests)

past_count : (n i : ℕ) → nat_lt (n + i) n ≡ false
past_count n i = grind (arith, nat_tests)

below_count : (s n : ℕ) → s < n → nat_lt s n ≡ true
below_count s n l = grind (arith, nat_tests, l)

less_is : (s n : ℕ) → nat_lt s n ≡ true → s < n
less_is s n e = grind (arith, nat_tests, e)

-- what is kept of each signal has its width and sign
abbrev pub AreWide : Store → Type 0
AreWide x = (s : ℕ) → s < length x.signals.kept → HasShape (shape_at x.signals s) (kept_at x.signals s)

module _ (x : Store) where
  abbrev d : Design
  d = design_view x.design.now

  abbrev n : ℕ
  n = signal_count x

  abbrev v : Scene
  v = kept_scene x

  abbrev words : ℕ → KnownWords
  words = kept_words x.veils x.memories.items

  -- ---- the shapes

  no_words : (i : ℕ) → length x.design.now.memories ≤ i → words i ≡ unwritten (shape_of no_memory 0)
  no_words i l = go (is_veiled x.veils i)
    where
      go : (t : Bool) → (if t then under_at x.veils i else (memory_in x.memories.items i).words) ≡ unwritten (shape_of no_memory 0)
      go true = let count = x.veiled.count in get_or_past x.veils.under.items i (unwritten (shape_of no_memory 0)) (omega (arith, l, count))
      go false = let count = x.fits.memories in ap (λ r. r.words) (get_or_past x.memories.items i (unknown_memory no_memory 0) (omega (arith, l, count)))

  pub words_fit : (m : ℕ) → n ≤ m → (j : ℕ) × FitsWords (memory_at d m) j (words (m - n))
  words_fit m from = ⊎_elim here gone (cases_lt (m - n) (length x.design.now.memories))
    where
      is : memory_at d m ≡ get_or x.design.now.memories (m - n) no_memory
      is = let yes : nat_le n m ≡ true = grind (arith, nat_tests, from) in ap (λ t. if t then get_or x.design.now.memories (m - n) no_memory else no_memory) yes

      here : m - n < length x.design.now.memories → (j : ℕ) × FitsWords (memory_at d m) j (words (m - n))
      here l = (n + (m - n), subst (λ y. FitsWords y (n + (m - n)) (words (m - n))) (sym is) (kept_fits x.design.now.signals x.design.now.memories x.signals x.memories.items x.veils x.fits x.veiled (m - n) l))

      gone : length x.design.now.memories ≤ m - n → (j : ℕ) × FitsWords (memory_at d m) j (words (m - n))
      gone l = (0, subst (λ y. FitsWords y 0 (words (m - n))) (sym (is ∙ get_or_past x.design.now.memories (m - n) no_memory l)) (subst (FitsWords no_memory 0) (sym (no_words (m - n) l)) (blank_fits no_memory 0)))

  signals_wide : AreWide x → (s : ℕ) → s < length d.signals → length (kept_at x.signals s).bits ≡ (signal_at d s).width
  signals_wide wide s l = let count = x.fits.signals in width_is d x.signals s (kept_at x.signals s) x.fits.shapes l (wide s (omega (arith, l, count))).0

  -- ---- the cells

  -- nothing is kept of the cells that the design does not have
  pub blank_scene : AreWide x → (c : Cell) → is_cell d c ≡ false → v.kept c ≡ None
  blank_scene wide c out = blank d (kept_at x.signals) words (signals_wide wide) words_fit c out

  -- what is kept is all that is known, if that is of cells of the design
  pub scene_is : (k : Kept) (e : Blames) → HoldsStore d k e x → ((c : Cell) → is_cell d c ≡ false → k c ≡ None) → v.kept ≡ k
  scene_is k e h none =
      all_held d (kept_at x.signals) words k (λ s l. (h.signals.each s l).bits) (λ m is. held_words d k e (length x.memories.items) (kept_memory x.veils x.memories.items) m is h.memories)
      (λ s l. ap length (h.signals.each s l).bits ∙ length-map (signal_cells d s) k ∙ length-map-range_with_len (cell s) 0 (signal_at d s).width) words_fit none

  -- ---- the blames

  memory_blame : (i : ℕ) → v.blames.blame (n + i) ≡ n + i
  memory_blame i = ap (λ t. if t then (kept_at x.signals (n + i)).blame else n + i) (past_count n i)

  -- the store holds what is kept of it
  pub scene_held : AreWide x → HoldsStore d v.kept v.blames x
  scene_held wide =
      record {
        signals = record {
          shapes = x.fits.shapes;
          count = x.fits.signals;
          each = λ s l. record { bits = signal_row n (kept_at x.signals) words d s l (signals_wide wide s l); blamed = λ u. sym (ap (λ t. if t then (kept_at x.signals s).blame else s) (below_count s n l)) };
        };
        memories = record {
          count = x.fits.memories;
          each = λ i l.
              let fit = kept_fits x.design.now.signals x.design.now.memories x.signals x.memories.items x.veils x.fits x.veiled i l in
              let is : get_or x.design.now.memories i no_memory ≡ memory_at d (n + i) = sym (memory_is d i) in
              let place : n + i - n ≡ i = omega arith in
              let from : n ≤ n + i = omega arith in
              record {
                words = stands_here n (kept_at x.signals) words d (n + i) (words i) from (ap words place)
                    (ap (λ y. y.first) fit.shape ∙ ap (λ y. y.first) is) (ap (λ y. y.last) fit.shape ∙ ap (λ y. y.last) is) (ap (λ y. y.width) fit.shape ∙ ap (λ y. y.width) is) fit.widths;
                blame = ap (λ y. y.blame) fit.shape ∙ sym (memory_blame i);
                wrote = ap (λ j. (memory_in x.memories.items j).written) (sym place) ∙ sym (ap (λ t. t && (memory_in x.memories.items (n + i - n)).written) (from_count n i));
              };
        };
      }

  -- where each is to blame for itself, the store holds that
  pub own_held : AreWide x → IsOwn v → HoldsStore d v.kept unblamed x
  own_held wide own =
      blames_changed d v.kept v.blames unblamed x (λ s l u. own.blame s (ap (λ t. t && all_sure (map v.kept (signal_cells d s))) (below_count s n l) ∙ u)) (λ i l. memory_blame i) (λ i l. own.wrote (n + i)) (scene_held wide)

  unwritten_flag : (m : ℕ) → HoldsStore d v.kept unblamed x → (t : Bool) → (t && (memory_in x.memories.items (m - n)).written) ≡ false
  unwritten_flag m h false = refl
  unwritten_flag m h true = ⊎_elim (λ l. (h.memories.each (m - n) l).wrote) (λ l. let count = x.fits.memories in ap (λ r. r.written) (get_or_past x.memories.items (m - n) (unknown_memory no_memory 0) (omega (arith, l, count)))) (cases_lt (m - n) (length x.design.now.memories))

  own_blame : (y : ℕ) → HoldsStore d v.kept unblamed x → (t : Bool) → nat_lt y n ≡ t → (t && all_sure (map v.kept (signal_cells d y))) ≡ false → (if t then (kept_at x.signals y).blame else y) ≡ y
  own_blame y h true e u = let old = h.signals.each y (less_is y n e) in old.blamed (sym (same_sure (kept_at x.signals y).bits) ∙ ap all_sure old.bits ∙ u)
  own_blame y h false e u = refl

  -- and if the store holds that, each is
  pub own_scene : HoldsStore d v.kept unblamed x → IsOwn v
  own_scene h = record { design = refl; kept = refl; wrote = λ m. unwritten_flag m h (nat_le n m); blame = λ y u. own_blame y h (nat_lt y n) refl u }

-- ---- the end of a run

pub ended_blame : (ts : List ℕ) (e : Blames) (y : ℕ) → (ended ts e).blame y ≡ (if is_in ts y then y else e.blame y)
ended_blame [] e y = refl
ended_blame (t ∷ ts) e y = ended_blame ts (settled t e) y ∙ go (is_in ts y) (t == y)
  where
    go : (a b : Bool) → (if a then y else (if b then y else e.blame y)) ≡ (if b || a then y else e.blame y)
    go true true = refl
    go true false = refl
    go false true = refl
    go false false = refl

pub ended_wrote : (ts : List ℕ) (e : Blames) (m : ℕ) → (ended ts e).wrote m ≡ (if is_in ts m then false else e.wrote m)
ended_wrote [] e m = refl
ended_wrote (t ∷ ts) e m = ended_wrote ts (settled t e) m ∙ go (is_in ts m) (t == m)
  where
    go : (a b : Bool) → (if a then false else (if b then false else e.wrote m)) ≡ (if b || a then false else e.wrote m)
    go true true = refl
    go true false = refl
    go false true = refl
    go false false = refl

-- each is to blame for itself once the run of a body has ended that wrote no others than these
pub ended_own : (x y : Store) (ts : List ℕ) → IsOwnOutside ts (kept_scene x) → HoldsStore (design_view x.design.now) (kept_scene x).kept (ended ts (kept_scene x).blames) y → HoldsStore (design_view x.design.now) (kept_scene x).kept unblamed y
ended_own x y ts out h =
    blames_changed (d x) (v x).kept (ended ts (v x).blames) unblamed y (λ s l u. ended_blame ts (v x).blames s ∙ signal_by s l u (is_in ts s) refl) (λ i l. ended_blame ts (v x).blames (n x + i) ∙ memory_by i (is_in ts (n x + i))) (λ i l. ended_wrote ts (v x).blames (n x + i) ∙ flag_by (n x + i) (is_in ts (n x + i)) refl) h
  where
    signal_by : (s : ℕ) → s < n x → all_sure (map (v x).kept (signal_cells (d x) s)) ≡ false → (t : Bool) → is_in ts s ≡ t → (if t then s else (v x).blames.blame s) ≡ s
    signal_by s l u true e = refl
    signal_by s l u false e = out.blame s e (ap (λ t. t && all_sure (map (v x).kept (signal_cells (d x) s))) (below_count s (n x) l) ∙ u)

    memory_by : (i : ℕ) (t : Bool) → (if t then n x + i else (v x).blames.blame (n x + i)) ≡ n x + i
    memory_by i true = refl
    memory_by i false = memory_blame x i

    flag_by : (m : ℕ) (t : Bool) → is_in ts m ≡ t → (if t then false else (v x).blames.wrote m) ≡ false
    flag_by m true e = refl
    flag_by m false e = out.wrote m e
