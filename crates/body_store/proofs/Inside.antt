-- The writes of an evaluated target are to cells of one signal, or of one memory.
use Rattle.std.proofs.Common.{◌≡◌, ℕ, zero, suc, ◌+◌, ◌<◌, ◌≤◌, ◌⊎◌, ◌&&◌, ◌==◌, Bool, true, false, if◌then◌else◌, List, [], ◌∷◌, ◌++◌, map, Option, Some, None, ℤ, pos, negsuc, ◌+ℤ◌, refl, sym, ap, ◌∙◌, arith, inl, inr}
use Rattle.std.specs.Prelude.{⊤, nat_lt}
use Rattle.std.specs.List.{range_with_len}
use Rattle.std.proofs.lemmas.Bool.{eqb-true, false≢true}
use Rattle.std.proofs.lemmas.Bool.Decides.{nat_tests}
use Rattle.design_model.specs.event_machine.Cell.{Cell, same_cell}
use Rattle.design_model.specs.four_state.declared.bit.Bit.{Bit}
use Rattle.design_model.specs.four_state.Parts.{index, within}
use Rattle.design_model.specs.Design.{Design, cell, signal_at, signal_cells}
use Rattle.design_model.specs.Value.{offset_option}
use Rattle.design_model.specs.Assignment.{option_cell, signal_range}
use Rattle.body_calls.specs.body_replay.KnownBits.{KnownBits, on_whole, whole_bits}
use Rattle.body_calls.specs.body_replay.Store.{KnownWrite, known_bit_option, known_bit_writes, perhaps_cell, perhaps_cells, weaken, write_bits, writes_of}
use Rattle.body_calls.proofs.body_replay.Frames.{Misses}

-- each write is to a cell of this thing, at a place that passes the test
abbrev pub Inside : ℕ → (ℕ → Bool) → List KnownWrite → Type 0
Inside x at [] = ⊤
Inside x at (w ∷ ws) = ((w.cell.thing ≡ x) × (at w.cell.place ≡ true)) × Inside x at ws

-- the cell is of another thing, or at a place that does not pass
abbrev pub IsOutside : ℕ → (ℕ → Bool) → Cell → Type 0
IsOutside x at c = ((x == c.thing) ≡ false) ⊎ (at c.place ≡ false)

and_false : (a b : Bool) → b ≡ false → (a && b) ≡ false
and_false true b e = e
and_false false b e = refl

apart : (x : ℕ) (at : ℕ → Bool) (b c : Cell) → b.thing ≡ x → at b.place ≡ true → IsOutside x at c → same_cell b c ≡ false
apart x at b c is passes (inl other) = ap (λ y. (y == c.thing) && (b.place == c.place)) is ∙ ap (λ t. t && (b.place == c.place)) other
apart x at b c is passes (inr fails) = and_false (b.thing == c.thing) (b.place == c.place) (go (b.place == c.place) refl)
  where
    go : (t : Bool) → (b.place == c.place) ≡ t → (b.place == c.place) ≡ false
    go false e = e
    go true e = absurd (false≢true (sym fails ∙ (ap at (sym (eqb-true b.place c.place e)) ∙ passes)))

-- so no write is to such a cell
pub inside_misses : (x : ℕ) (at : ℕ → Bool) (ws : List KnownWrite) (c : Cell) → Inside x at ws → IsOutside x at c → Misses c ws
inside_misses x at [] c i o = tt
inside_misses x at (w ∷ ws) c i o = (apart x at w.cell c i.0.0 i.0.1 o, inside_misses x at ws c i.1 o)

pub inside_append : (x : ℕ) (at : ℕ → Bool) (vs ws : List KnownWrite) → Inside x at vs → Inside x at ws → Inside x at (vs ++ ws)
inside_append x at [] ws a b = b
inside_append x at (v ∷ vs) ws a b = (a.0, inside_append x at vs ws a.1 b)

pub inside_weaken : (x : ℕ) (at : ℕ → Bool) (ws : List KnownWrite) → Inside x at ws → Inside x at (weaken ws)
inside_weaken x at [] i = tt
inside_weaken x at (w ∷ ws) i = (i.0, inside_weaken x at ws i.1)

-- ---- a row of cells

module _ (x : ℕ) (at : ℕ → Bool) where
  pub inside_row : (f : ℕ → ℕ) (a n : ℕ) (ps : KnownBits) → ((i : ℕ) → a ≤ i → i < a + n → at (f i) ≡ true) → Inside x at (writes_of (map (λ i. cell x (f i)) (range_with_len a n)) ps)
  inside_row f a zero ps h = tt
  inside_row f a (suc n) [] h = tt
  inside_row f a (suc n) (p ∷ ps) h = ((refl, h a (omega arith) (omega arith)), inside_row f (a + 1) n ps (λ i l m. h i (omega (arith, l)) (omega (arith, m))))

  inside_cell : (k : ℕ) (ps : KnownBits) → at k ≡ true → Inside x at (perhaps_cell (cell x k) ps)
  inside_cell k [] e = tt
  inside_cell k (p ∷ ps) e = ((refl, e), inside_cell k ps e)

  pub inside_cells : (a n : ℕ) (ps : KnownBits) → ((i : ℕ) → a ≤ i → i < a + n → at i ≡ true) → Inside x at (perhaps_cells (map (cell x) (range_with_len a n)) ps)
  inside_cells a zero ps h = tt
  inside_cells a (suc n) ps h =
      inside_append x at (perhaps_cell (cell x a) ps) (perhaps_cells (map (cell x) (range_with_len (a + 1) n)) ps) (inside_cell a ps (h a (omega arith) (omega arith)))
      (inside_cells (a + 1) n ps (λ i l m. h i (omega (arith, l)) (omega (arith, m))))

-- ---- a signal with w bits

-- the place is that of a bit
abbrev pub is_below : ℕ → ℕ → Bool
is_below w k = nat_lt k w

below_yes : (a w : ℕ) → (i : ℕ) → a ≤ i → i < 0 + w → is_below w i ≡ true
below_yes a w i l m = grind (arith, nat_tests, m)

module _ (s w : ℕ) where
  inside_bit : (z : ℤ) (p : Option Bit) → Inside s (is_below w) (writes_of (option_cell s (within w z)) (p ∷ []))
  inside_bit (negsuc k) p = tt
  inside_bit (pos k) p = go (nat_lt k w) refl
    where
      go : (t : Bool) → nat_lt k w ≡ t → Inside s (is_below w) (writes_of (option_cell s (if t then Some k else None)) (p ∷ []))
      go true e = ((refl, e), tt)
      go false e = tt

  inside_bits : (z : ℤ) (ps : KnownBits) → Inside s (is_below w) (known_bit_writes s w z ps)
  inside_bits z [] = tt
  inside_bits z (p ∷ ps) =
      inside_append s (is_below w) (writes_of (option_cell s (within w z)) (p ∷ [])) (known_bit_writes s w (z +ℤ pos 1) ps) (inside_bit z p) (inside_bits (z +ℤ pos 1) ps)

  inside_option : (o : Option ℤ) (ps : KnownBits) → Inside s (is_below w) (known_bit_option s w o ps)
  inside_option None ps = tt
  inside_option (Some z) ps = inside_bits z ps

module _ (d : Design) (s : ℕ) where
  -- the writes to a whole signal
  pub inside_whole : (ps : KnownBits) → Inside s (is_below (signal_at d s).width) (writes_of (signal_cells d s) ps)
  inside_whole ps = inside_row s (is_below (signal_at d s).width) (λ i. i) 0 (signal_at d s).width ps (below_yes 0 (signal_at d s).width)

  -- those to a part of it
  pub inside_part : (signed : Bool) (is ps : KnownBits) → Inside s (is_below (signal_at d s).width) (write_bits d s signed is ps)
  inside_part signed is ps = go (whole_bits is)
    where
      go : (o : Option (List Bit)) → Inside s (is_below (signal_at d s).width) (on_whole o (λ bs. known_bit_option s (signal_at d s).width (offset_option (signal_range d s) (index signed bs)) ps) (perhaps_cells (signal_cells d s) ps))
      go None = inside_cells s (is_below (signal_at d s).width) 0 (signal_at d s).width ps (below_yes 0 (signal_at d s).width)
      go (Some bs) = inside_option s (signal_at d s).width (offset_option (signal_range d s) (index signed bs)) ps
