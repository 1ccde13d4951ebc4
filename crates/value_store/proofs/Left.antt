-- What the writes of an evaluated target leave of its signal.
use Rattle.std.proofs.Common.{◌≡◌, ℕ, zero, suc, ◌≤◌, Bool, true, false, if◌then◌else◌, List, [], ◌∷◌, ◌++◌, length, map, is_some, replicate, ℤ, pos, ◌+ℤ◌, neg_ℤ, Option, Some, None, refl, sym, ap, ap₂, ◌∙◌, arith}
use Rattle.std.proofs.lemmas.Bool.{and_parts, false≢true}
use Rattle.body_replay.specs.event_machine.Cell.{Cell}
use Rattle.four_state.specs.declared.bit.Bit.{Bit}
use Rattle.four_state.specs.declared.bit.Bit.TheVariants.{Zero}
use Rattle.four_state.specs.Parts.{index, within}
use Rattle.four_state.specs.Vector.{same_bit}
use Rattle.body_replay.specs.known_state.Partly.{Partly, are_sure, filled, is_whole}
use Rattle.body_replay.specs.known_state.Join.{join_bit, joined}
use Rattle.body_replay.proofs.known_state.Allowed.{whole_filled}
use Rattle.body_replay.proofs.known_state.Cases.{both_true}
use Rattle.design_model.specs.Design.{Design, signal_at, signal_cells}
use Rattle.design_model.specs.Value.{offset_option}
use Rattle.design_model.specs.Assignment.{signal_range}
use Rattle.body_replay.specs.KnownBits.{KnownBits}
use Rattle.body_replay.specs.Store.{Kept, KnownWrite, keep_all, known_bit_option, perhaps_cell, perhaps_cells, weaken, write_bits}
use Rattle.body_replay.proofs.Answered.{same_sure}
use Rattle.body_replay.proofs.Exact.{on_sure}
use Rattle.body_replay.proofs.Frames.{join_self}
use Rattle.body_replay.proofs.Unsure.{all_sure_is, not_whole}
use Rattle.body_replay.proofs.Stored.{join_each, part_stored, unsure_part_stored, weak_part_stored}
use Rattle.value_store.specs.Parts.{bit_or_old, bits_over, common_bit, common_bits, placed_bits, whole_offset}
use Rattle.value_store.proofs.Placed.{over_is}

-- ---- joins

pub joined_self : (ps : KnownBits) → joined ps ps ≡ ps
joined_self [] = refl
joined_self (p ∷ ps) = ap₂ (λ a b. a ∷ b) (join_self p) (joined_self ps)

join_twice : (p q : Option Bit) → join_bit p (join_bit p q) ≡ join_bit p q
join_twice None q = refl
join_twice (Some a) None = refl
join_twice (Some a) (Some b) = go (same_bit a b)
  where
    go : (t : Bool) → join_bit (Some a) (if t then Some a else None) ≡ (if t then Some a else None)
    go true = join_self (Some a)
    go false = refl

joined_twice : (ps qs : KnownBits) → joined ps (joined ps qs) ≡ joined ps qs
joined_twice [] qs = refl
joined_twice (p ∷ ps) [] = refl
joined_twice (p ∷ ps) (q ∷ qs) = ap₂ (λ a b. a ∷ b) (join_twice p q) (joined_twice ps qs)

each_common : (q : Option Bit) (ps : KnownBits) → join_each q ps ≡ common_bit q ps
each_common q [] = refl
each_common q (p ∷ ps) = each_common (join_bit q p) ps

-- ---- writes that are not certain in any case

weak_cell : (c : Cell) (ps : KnownBits) → weaken (perhaps_cell c ps) ≡ perhaps_cell c ps
weak_cell c [] = refl
weak_cell c (p ∷ ps) = ap (λ ws. record { cell = c; value = p; certain = false } ∷ ws) (weak_cell c ps)

-- ---- a part

-- the bits that a write of a part leaves
abbrev pub bits_after : Design → ℕ → Partly → KnownBits → KnownBits → KnownBits
bits_after d s i ps qs = if is_whole i then placed_bits qs ps (whole_offset (signal_range d s) i) else joined qs (replicate (length qs) (common_bits ps))

weaken_append : (ws vs : List KnownWrite) → weaken (ws ++ vs) ≡ weaken ws ++ weaken vs
weaken_append [] vs = refl
weaken_append (w ∷ ws) vs = ap (λ us. record w { certain = false } ∷ us) (weaken_append ws vs)

weak_cells : (cs : List Cell) (ps : KnownBits) → weaken (perhaps_cells cs ps) ≡ perhaps_cells cs ps
weak_cells [] ps = refl
weak_cells (c ∷ cs) ps = weaken_append (perhaps_cell c ps) (perhaps_cells cs ps) ∙ ap₂ (λ a b. a ++ b) (weak_cell c ps) (weak_cells cs ps)

module _ (d : Design) (s : ℕ) (k : Kept) where
  abbrev here : List Cell
  here = signal_cells d s

  abbrev width : ℕ
  width = (signal_at d s).width

  placed_left : (ps : KnownBits) (o : Option ℤ) → map (keep_all k (known_bit_option s width o ps)) here ≡ placed_bits (map k here) ps o
  placed_left ps None = refl
  placed_left ps (Some low) = part_stored d s k ps low ∙ over_is (map k here) ps (neg_ℤ low)

  placed_weak : (ps : KnownBits) (o : Option ℤ) → map (keep_all k (weaken (known_bit_option s width o ps))) here ≡ joined (map k here) (placed_bits (map k here) ps o)
  placed_weak ps None = sym (joined_self (map k here))
  placed_weak ps (Some low) = weak_part_stored d s k ps low ∙ ap (joined (map k here)) (over_is (map k here) ps (neg_ℤ low))

  spread_left : (ps : KnownBits) → 1 ≤ length ps → map (keep_all k (perhaps_cells here ps)) here ≡ joined (map k here) (replicate (length (map k here)) (common_bits ps))
  spread_left [] l = absurd (omega (arith, l))
  spread_left (p ∷ ps) l =
      unsure_part_stored d s k p ps ∙ ap (λ o. joined (map k here) (replicate (length (map k here)) o)) (each_common p ps)

  -- the writes of a part by an index that is whole
  whole_writes : (i : Partly) (ps : KnownBits) → is_whole i ≡ true → write_bits d s i.signed i.bits ps ≡ known_bit_option s width (whole_offset (signal_range d s) i) ps
  whole_writes i ps h =
      let all = all_sure_is i.bits (same_sure i.bits ∙ h) in
      let value : all.0 ≡ filled Zero i.bits = sym (ap (filled Zero) all.1 ∙ whole_filled Zero all.0) in
      ap (λ z. write_bits d s i.signed z ps) all.1 ∙ on_sure all.0 (λ bs. known_bit_option s width (offset_option (signal_range d s) (index i.signed bs)) ps) (perhaps_cells here ps) ∙ ap (λ bs. known_bit_option s width (offset_option (signal_range d s) (index i.signed bs)) ps) value

  -- by one that is not
  unsure_writes : (i : Partly) (ps : KnownBits) → is_whole i ≡ false → write_bits d s i.signed i.bits ps ≡ perhaps_cells here ps
  unsure_writes i ps h =
      not_whole i.bits (same_sure i.bits ∙ h) (λ bs. known_bit_option s width (offset_option (signal_range d s) (index i.signed bs)) ps) (perhaps_cells here ps)

  pub part_left : (i : Partly) (ps : KnownBits) → 1 ≤ length ps → map (keep_all k (write_bits d s i.signed i.bits ps)) here ≡ bits_after d s i ps (map k here)
  part_left i ps l = go (is_whole i) refl
    where
      go : (t : Bool) → is_whole i ≡ t → map (keep_all k (write_bits d s i.signed i.bits ps)) here ≡ (if t then placed_bits (map k here) ps (whole_offset (signal_range d s) i) else joined (map k here) (replicate (length (map k here)) (common_bits ps)))
      go true h = ap (λ ws. map (keep_all k ws) here) (whole_writes i ps h) ∙ placed_left ps (whole_offset (signal_range d s) i)
      go false h = ap (λ ws. map (keep_all k ws) here) (unsure_writes i ps h) ∙ spread_left ps l

  pub part_weak : (i : Partly) (ps : KnownBits) → 1 ≤ length ps → map (keep_all k (weaken (write_bits d s i.signed i.bits ps))) here ≡ joined (map k here) (bits_after d s i ps (map k here))
  part_weak i ps l = go (is_whole i) refl
    where
      go : (t : Bool) → is_whole i ≡ t → map (keep_all k (weaken (write_bits d s i.signed i.bits ps))) here ≡ joined (map k here) (if t then placed_bits (map k here) ps (whole_offset (signal_range d s) i) else joined (map k here) (replicate (length (map k here)) (common_bits ps)))
      go true h = ap (λ ws. map (keep_all k (weaken ws)) here) (whole_writes i ps h) ∙ placed_weak ps (whole_offset (signal_range d s) i)
      go false h =
          ap (λ ws. map (keep_all k (weaken ws)) here) (unsure_writes i ps h) ∙ ap (λ ws. map (keep_all k ws) here) (weak_cells here ps) ∙ spread_left ps l ∙ sym (joined_twice (map k here) (replicate (length (map k here)) (common_bits ps)))

-- ---- a sure part leaves a sure vector sure

sure_at : (q : Option Bit) (ps : KnownBits) (o : Option ℕ) → is_some q ≡ true → are_sure ps ≡ true → is_some (bit_or_old q ps o) ≡ true
sure_at q ps None h e = h
sure_at q [] (Some n) h e = h
sure_at q (p ∷ ps) (Some zero) h e = (and_parts (is_some p) (are_sure ps) e).0
sure_at q (p ∷ ps) (Some (suc n)) h e = sure_at q ps (Some n) h (and_parts (is_some p) (are_sure ps) e).1

sure_over : (qs ps : KnownBits) (z : ℤ) → are_sure qs ≡ true → are_sure ps ≡ true → are_sure (bits_over qs ps z) ≡ true
sure_over [] ps z h e = refl
sure_over (q ∷ qs) ps z h e =
    let both = and_parts (is_some q) (are_sure qs) h in
    both_true _ _ (sure_at q ps (within (length ps) z) both.0 e) (sure_over qs ps (z +ℤ pos 1) both.1 e)

sure_placed : (qs ps : KnownBits) (o : Option ℤ) → are_sure qs ≡ true → are_sure ps ≡ true → are_sure (placed_bits qs ps o) ≡ true
sure_placed qs ps None h e = h
sure_placed qs ps (Some low) h e = sure_over qs ps (neg_ℤ low) h e

pub placed_unsure : (qs ps : KnownBits) (o : Option ℤ) → are_sure (placed_bits qs ps o) ≡ false → are_sure ps ≡ true → are_sure qs ≡ false
placed_unsure qs ps o u e = go (are_sure qs) refl
  where
    go : (t : Bool) → are_sure qs ≡ t → t ≡ false
    go false h = refl
    go true h = absurd (false≢true (sym u ∙ sure_placed qs ps o h e))
