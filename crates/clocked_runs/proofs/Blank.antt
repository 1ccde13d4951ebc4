-- Of what is no cell of the design a store keeps nothing.
use Rattle.std.proofs.Common.{◌≡◌, ℕ, zero, suc, ◌+◌, ◌-◌, ◌*◌, ◌/◌, ◌%◌, ◌<◌, ◌≤◌, Bool, true, false, if◌then◌else◌, length, map, max, min, sym, ap, subst, ◌∙◌, arith, inl, inr}
use Rattle.std.specs.Prelude.{◌&&◌, nat_le, nat_lt}
use Rattle.std.specs.List.{range_with_len}
use Rattle.std.proofs.lemmas.Bool.{and_parts, false_from_ne_true}
use Rattle.std.proofs.lemmas.Bool.Decides.{nat_tests}
use Rattle.std.proofs.lemmas.List.{length-map}
use Rattle.std.proofs.lemmas.List.FromFn.{length-map-range_with_len}
use Rattle.run_views.specs.event_machine.Cell.{Cell}
use Rattle.run_views.specs.design_model.BodyLaws.{all_cells, word_indexes, words_cells}
use Rattle.run_views.specs.design_model.Design.{Design, In, cell, memory_at, signal_at, signal_cells, word_cells}
use Rattle.run_views.specs.design_model.View.{design_view}
use Rattle.run_views.specs.body_replay.Replay.{Blames}
use Rattle.run_views.specs.body_replay.Store.{Kept}
use Rattle.run_views.specs.body_store.declared.store.Store.{Store}
use Rattle.run_views.specs.body_store.Held.{HoldsStore}
use Rattle.run_views.specs.body_store.Owned.{IsBlank}
use Rattle.run_views.specs.body_store.Veils.{kept_words}
use Rattle.run_views.specs.body_store.Views.{kept_scene}
use Rattle.run_views.proofs.body_store.BlocksCells.{blank, has_bit, is_cell}
use Rattle.run_views.proofs.body_store.BlocksOwn.{words_fit}
use Rattle.run_views.proofs.body_store.Inside.{is_below}
use Rattle.clocked_laws.proofs.replay_model.Bits.{in_left, in_right}
use Rattle.store_knowledge.specs.value_store.Signals.{kept_at}

in_row : (f : ℕ → Cell) (a k j : ℕ) → j < k → In (f (a + j)) (map f (range_with_len a k))
in_row f a zero j l = absurd (omega (arith, l))
in_row f a (suc k) zero l = let start : a ≡ a + 0 = omega arith in inl (ap f start)
in_row f a (suc k) (suc j) l = let next : a + 1 + j ≡ a + suc j = omega arith in inr (subst (λ i. In (f i) (map f (range_with_len (a + 1) k))) next (in_row f (a + 1) k j (omega (arith, l))))

module _ (d : Design) (c : Cell) where
  abbrev m : ℕ
  m = c.thing

  in_words : (a k i : ℕ) → i < k → In c (word_cells d m (a + i)) → In c (words_cells d m (range_with_len a k))
  in_words a zero i l h = absurd (omega (arith, l))
  in_words a (suc k) zero l h = let start : a + 0 ≡ a = omega arith in in_left c (word_cells d m a) (words_cells d m (range_with_len (a + 1) k)) (subst (λ z. In c (word_cells d m z)) start h)
  in_words a (suc k) (suc i) l h =
      let next : a + suc i ≡ a + 1 + i = omega arith in
      in_right c (word_cells d m a) (words_cells d m (range_with_len (a + 1) k)) (in_words (a + 1) k i (omega (arith, l)) (subst (λ z. In c (word_cells d m z)) next h))

  -- a bit of a word of a memory
  word_listed : has_bit (memory_at d m) c.place ≡ true → In c (words_cells d m (word_indexes d m))
  word_listed e =
      let w : ℕ = (memory_at d m).width in
      let low : ℕ = min (memory_at d m).first (memory_at d m).last in
      let high : ℕ = max (memory_at d m).first (memory_at d m).last in
      let i : ℕ = c.place / w in
      let j : ℕ = c.place % w in
      let parts = and_parts (nat_le low i && nat_le i high) (nat_lt j w) e in
      let from = (and_parts (nat_le low i) (nat_le i high) parts.0).0 in
      let to = (and_parts (nat_le low i) (nat_le i high) parts.0).1 in
      let below = parts.1 in
      let above : low ≤ i = grind (arith, nat_tests, from) in
      let under : i ≤ high = grind (arith, nat_tests, to) in
      let inside : j < w = grind (arith, nat_tests, below) in
      let index : low + (i - low) ≡ i = omega (arith, above) in
      let place : i * w + (0 + j) ≡ c.place = omega (arith, inside) in
      in_words low (high - low + 1) (i - low) (omega (arith, above, under))
      (subst (λ z. In c (word_cells d m z)) (sym index) (subst (λ k. In (cell m k) (word_cells d m i)) place (in_row (λ k. cell m (i * w + k)) 0 w j inside)))

  signal_listed : is_below (signal_at d m).width c.place ≡ true → In c (signal_cells d m)
  signal_listed e =
      let below : c.place < (signal_at d m).width = grind (arith, nat_tests, e) in
      let start : 0 + c.place ≡ c.place = omega arith in
      subst (λ k. In (cell m k) (signal_cells d m)) start (in_row (cell m) 0 (signal_at d m).width c.place below)

  listed_by : (t : Bool) → (if t then is_below (signal_at d m).width c.place else has_bit (memory_at d m) c.place) ≡ true → In c (if t then signal_cells d m else words_cells d m (word_indexes d m))
  listed_by true e = signal_listed e
  listed_by false e = word_listed e

  cell_listed : is_cell d c ≡ true → In c (all_cells d m)
  cell_listed e = listed_by (nat_lt m (length d.signals)) e

pub kept_blank : (x : Store) (k : Kept) (e : Blames) → HoldsStore (design_view x.design.now) k e x → IsBlank (design_view x.design.now) (kept_scene x).kept
kept_blank x k e h c out =
    let d : Design = design_view x.design.now in
    blank d (kept_at x.signals) (kept_words x.veils x.memories.items)
    (λ s l. ap length (h.signals.each s l).bits ∙ length-map (signal_cells d s) k ∙ length-map-range_with_len (cell s) 0 (signal_at d s).width)
    (words_fit x) c (false_from_ne_true _ (λ y. out (cell_listed d c y)))
