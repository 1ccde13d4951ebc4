-- Bits of a signal that are forgotten, of what is known of it and of what was made of it.
use Rattle.std.proofs.Common.{◌≡◌, ℕ, ◌+◌, ◌<◌, ◌==◌, ◌&&◌, Bool, true, false, if◌then◌else◌, List, length, map, get_or, [], ◌∷◌, Option, None, refl, sym, ap, ap₂, subst, ◌∙◌, arith, inl, inr}
use Rattle.std.specs.Prelude.{slice_set}
use Rattle.std.specs.List.{range_with_len}
use Rattle.std.proofs.Math.Path.{fun_ext}
use Rattle.std.proofs.lemmas.Bool.{cases_lt, eqb-true}
use Rattle.std.proofs.lemmas.List.{get_or_past}
use Rattle.event_machine.specs.Cell.{Cell}
use Rattle.four_state.specs.Masks.{is_set}
use Rattle.four_state.specs.declared.bit.Bit.{Bit}
use Rattle.known_state.specs.Partly.{Partly}
use Rattle.design_model.specs.Design.{Design, cell, signal_at, signal_cells}
use Rattle.store_knowledge.specs.body_replay.KnownBits.{KnownBits}
use Rattle.store_knowledge.specs.body_replay.Store.{Kept}
use Rattle.store_knowledge.specs.body_store.Owned.{IsBlank}
use Rattle.store_knowledge.proofs.body_store.Rows.{row_at, row_is}
use Rattle.process_targets.specs.Targets.{has_bit}
use Rattle.process_targets.specs.declared.bits.Bits.{Bits}
use Rattle.store_knowledge.specs.Knows.{with_bits}
use Rattle.store_knowledge.proofs.Cells.{out_of_cells}
use Rattle.step_values.specs.Loose.{forgetting}
use Rattle.step_values.specs.Vectors.{FitsSignals, StepVectors, vector_at}
use Rattle.step_values.proofs.Aside.{in_list, set_there, set_wide}

-- a bit that is forgotten by a mask
abbrev pub left : ℕ → KnownBits → ℕ → Option Bit
left mask ps i = if is_set mask i then None else get_or ps i None

-- ---- of what is known

module _ (d : Design) (k : Kept) (b : Bits) (ps qs : KnownBits) (blank : IsBlank d k) (l : b.signal < length d.signals) (old : ps ≡ map k (signal_cells d b.signal)) (size : length qs ≡ (signal_at d b.signal).width) (bits : (i : ℕ) → i < length ps → get_or qs i None ≡ left b.mask ps i) (same : length qs ≡ length ps) where
  abbrev width : ℕ
  width = (signal_at d b.signal).width

  nothing_there : (t : Bool) (o : Option Bit) → o ≡ None → None ≡ (if t then None else o)
  nothing_there true o e = refl
  nothing_there false o e = sym e

  here : (j : ℕ) → get_or qs j None ≡ (if is_set b.mask j then None else k (cell b.signal j))
  here j = elim (cases_lt j width) [
    | inl below ↦
        let start : 0 + j ≡ j = omega arith in
        let inside : j < length ps = omega (arith, below, size, same) in
        bits j inside ∙ ap (λ o. if is_set b.mask j then None else o) (sym (row_at k (cell b.signal) 0 width ps j old below) ∙ ap (λ i. k (cell b.signal i)) start)
    | inr above ↦ get_or_past qs j None (omega (arith, size, above)) ∙ nothing_there (is_set b.mask j) (k (cell b.signal j)) (blank (cell b.signal j) (out_of_cells d b.signal l j above))
  ]

  at : (c : Cell) (t : Bool) → (b.signal == c.thing) ≡ t → (if t then get_or qs c.place None else k c) ≡ (if t && is_set b.mask c.place then None else k c)
  at c false e = refl
  at c true e = subst (λ x. get_or qs c.place None ≡ (if is_set b.mask c.place then None else k (cell x c.place))) (eqb-true b.signal c.thing e) (here c.place)

  pub bits_forgotten : with_bits b.signal qs k ≡ forgetting (has_bit b) k
  bits_forgotten = fun_ext (λ c. at c (b.signal == c.thing) refl)

-- ---- of what was made

-- a row of cells is as before where the test holds of no cell of its signal
pub row_kept : (t : Cell → Bool) (m : Kept) (s : ℕ) (js : List ℕ) → ((j : ℕ) → t (cell s j) ≡ false) → map (forgetting t m) (map (cell s) js) ≡ map m (map (cell s) js)
row_kept t m s [] none = refl
row_kept t m s (j ∷ js) none = ap₂ (λ p ps. p ∷ ps) (ap (λ b. if b then None else m (cell s j)) (none j)) (row_kept t m s js none)

module _ (d : Design) (v : StepVectors) (b : Bits) (q : Partly) (fits : FitsSignals d v) (l : b.signal < length v.made) (width : length q.bits ≡ length (vector_at v.made b.signal).bits) where
  inside : b.signal < length d.signals
  inside = let count = fits.made.count in omega (arith, l, count)

  pub made_fits : FitsSignals d (record v { made = slice_set v.made b.signal q })
  made_fits = record { before = fits.before; made = set_wide d.signals v.made b.signal q l (width ∙ fits.made.width b.signal inside) fits.made }

  module _ (m : Kept) (bits : (i : ℕ) → i < length (vector_at v.made b.signal).bits → get_or q.bits i None ≡ left b.mask (vector_at v.made b.signal).bits i) where
    bits_at : (s : ℕ) (t : Bool) → (b.signal == s) ≡ t → s < length d.signals → (vector_at v.made s).bits ≡ map m (signal_cells d s) → (if t then q else vector_at v.made s).bits ≡ map (forgetting (has_bit b) m) (signal_cells d s)
    bits_at s false e k old = old ∙ sym (row_kept (has_bit b) m s (range_with_len 0 (signal_at d s).width) (λ j. ap (λ t. t && is_set b.mask j) e))
    bits_at s true e k old =
        let is : s ≡ b.signal = sym (eqb-true b.signal s e) in
        let size : length (vector_at v.made s).bits ≡ (signal_at d s).width = fits.made.width s k in
        row_is (forgetting (has_bit b) m) (cell s) 0 (signal_at d s).width q.bits (width ∙ ap (λ x. length (vector_at v.made x).bits) (sym is) ∙ size) (λ i below.
        let here : i < length (vector_at v.made b.signal).bits = subst (λ x. i < length (vector_at v.made x).bits) is (omega (arith, below, size)) in
        ap (λ t. if t && is_set b.mask (0 + i) then None else m (cell s (0 + i))) e
        ∙ ap (λ o. if is_set b.mask (0 + i) then None else o) (row_at m (cell s) 0 (signal_at d s).width (vector_at v.made s).bits i old below)
        ∙ (let start : 0 + i ≡ i = omega arith in ap (λ j. if is_set b.mask j then None else get_or (vector_at v.made s).bits i None) start)
        ∙ ap (λ x. left b.mask (vector_at v.made x).bits i) is
        ∙ sym (bits i here))

    pub made_forgotten : (s : ℕ) → s < length d.signals → (vector_at v.made s).bits ≡ map m (signal_cells d s) → (vector_at (slice_set v.made b.signal q) s).bits ≡ map (forgetting (has_bit b) m) (signal_cells d s)
    made_forgotten s k old = ap (λ (p : Partly). p.bits) (set_there v.made b.signal q s (b.signal == s) l refl) ∙ bits_at s (b.signal == s) refl k old

-- the same, of a vector that was found at its place
pub forget_made_is : (d : Design) (v : StepVectors) (b : Bits) (p q : Partly) → FitsSignals d v → b.signal < length v.made → p ≡ get_or v.made b.signal p → length q.bits ≡ length p.bits → ((i : ℕ) → i < length p.bits → get_or q.bits i None ≡ left b.mask p.bits i)
    → FitsSignals d (record v { made = slice_set v.made b.signal q })
    × ((m : Kept) (s : ℕ) → s < length d.signals → (vector_at v.made s).bits ≡ map m (signal_cells d s) → (vector_at (slice_set v.made b.signal q) s).bits ≡ map (forgetting (has_bit b) m) (signal_cells d s))
forget_made_is d v b p q fits l found width bits =
    let is : p ≡ vector_at v.made b.signal = in_list v.made b.signal p l found in
    let size : length q.bits ≡ length (vector_at v.made b.signal).bits = width ∙ ap (λ (x : Partly). length x.bits) is in
    let each : (i : ℕ) → i < length (vector_at v.made b.signal).bits → get_or q.bits i None ≡ left b.mask (vector_at v.made b.signal).bits i = subst (λ (x : Partly). (i : ℕ) → i < length x.bits → get_or q.bits i None ≡ left b.mask x.bits i) is bits in
    (made_fits d v b q fits l size, λ m s. made_forgotten d v b q fits l size m each s)
