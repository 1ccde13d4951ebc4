-- The bits of what the dump says of a signal, before and after a step.
use Rattle.std.proofs.Common.{◌≡◌, ℕ, ◌+◌, ◌<◌, ◌≤◌, Bool, true, false, if◌then◌else◌, List, length, map, get_or, Option, Some, None, refl, sym, ap, ap₂, subst, ◌∙◌, arith}
use Rattle.std.specs.Prelude.{nat_lt, is_some, slice_index_or}
use Rattle.std.specs.List.{range_with_len}
use Rattle.std.proofs.lemmas.Bool.{false≢true}
use Rattle.std.proofs.lemmas.Bool.Decides.{nat_tests}
use Rattle.std.proofs.lemmas.List.{get_or_past, length-map}
use Rattle.std.proofs.lemmas.List.FromFn.{length-map-range_with_len}
use Rattle.event_machine.specs.Cell.{Values as CellValues}
use Rattle.four_state.specs.Vector.{Vector}
use Rattle.four_state.specs.declared.bit.Bit.{Bit}
use Rattle.known_state.specs.Join.{join_bit, joined}
use Rattle.known_state.proofs.Bits.{get_or-joined, length-joined}
use Rattle.code_values.specs.Values.{Values}
use Rattle.run_views.specs.body_replay.KnownBits.{KnownBits}
use Rattle.run_views.specs.design_model.Design.{Design, cell, signal_at, signal_bits, signal_cells}
use Rattle.step_values.specs.Dumped.{AreDumped, coded_value, dumped_of}
use Rattle.step_values.specs.Loose.{has_code}
use Rattle.step_values.proofs.Dumps.{map_twice, said}
use Rattle.step_values.proofs.body_store.Rows.{row_at}
use Rattle.entry_values.specs.Entry.{common_bits, early_bits}

pub join_none : (p : Option Bit) → join_bit p None ≡ None
join_none None = refl
join_none (Some a) = refl

module _ (d : Design) (s : ℕ) where
  abbrev width : ℕ
  width = (signal_at d s).width

  sure_width : (v : CellValues Bit) → length (map Some (signal_bits d v s)) ≡ width
  sure_width v = length-map (signal_bits d v s) Some ∙ length-map (signal_cells d s) v ∙ length-map-range_with_len (cell s) 0 width

  -- a bit of a value that is wholly known
  pub sure_at : (v : CellValues Bit) (k : ℕ) (b : Bool) → nat_lt k width ≡ b → get_or (map Some (signal_bits d v s)) k None ≡ (if b then Some (v (cell s k)) else None)
  sure_at v k true e =
      let below : k < width = grind (arith, nat_tests, e) in
      let start : 0 + k ≡ k = omega arith in
      sym (row_at (λ c. Some (v c)) (cell s) 0 width (map Some (signal_bits d v s)) k (map_twice v (cell s) (range_with_len 0 width)) below) ∙ ap (λ i. Some (v (cell s i))) start
  sure_at v k false e =
      let above : width ≤ k = grind (arith, nat_tests, e) in
      let size = sure_width v in
      get_or_past (map Some (signal_bits d v s)) k None (omega (arith, size, above))

  module _ (u v : CellValues Bit) where
    same_width : length (map Some (signal_bits d u s)) ≡ length (map Some (signal_bits d v s))
    same_width = sure_width u ∙ sym (sure_width v)

    common_width : length (joined (map Some (signal_bits d u s)) (map Some (signal_bits d v s))) ≡ width
    common_width = length-joined (map Some (signal_bits d u s)) (map Some (signal_bits d v s)) same_width ∙ sure_width u

    -- a bit of what two values have in common
    pub common_at : (k : ℕ) (b : Bool) → nat_lt k width ≡ b
        → get_or (joined (map Some (signal_bits d u s)) (map Some (signal_bits d v s))) k None ≡ (if b then join_bit (Some (u (cell s k))) (Some (v (cell s k))) else None)
    common_at k true e =
        let below : k < width = grind (arith, nat_tests, e) in
        let size = sure_width u in
        get_or-joined (map Some (signal_bits d u s)) (map Some (signal_bits d v s)) k same_width (omega (arith, size, below))
        ∙ ap₂ join_bit (sure_at u k true e) (sure_at v k true e)
    common_at k false e =
        let above : width ≤ k = grind (arith, nat_tests, e) in
        get_or_past (joined (map Some (signal_bits d u s)) (map Some (signal_bits d v s))) k None (omega (arith, common_width, above))

-- what has no code has no value
pub unsaid : (codes : List (Option ℕ)) (values : List (Option Vector)) (s : ℕ) → has_code codes s ≡ false → dumped_of codes values s ≡ None
unsaid codes values s none = go (slice_index_or codes s None) none
  where
    go : (o : Option ℕ) → is_some o ≡ false → coded_value values o ≡ None
    go None e = refl
    go (Some code) e = absurd (false≢true (sym e))

-- what may be read of an early signal is as wide as the signal, where something is known of it
abbrev IsWide : ℕ → Option KnownBits → Type 0
IsWide n None = Unit {0}
IsWide n (Some ps) = length ps ≡ n

module _ (d : Design) (codes : List (Option ℕ)) (values : Values) (old new : CellValues Bit) (before : AreDumped d codes values.closed old) (after : AreDumped d codes values.last new) (s : ℕ) where
  wide_coded : (b : Bool) → has_code codes s ≡ b → IsWide (signal_at d s).width (common_bits (dumped_of codes values.closed s) (dumped_of codes values.last s))
  wide_coded true e =
      let a = said d codes values.closed old s before e in
      let b = said d codes values.last new s after e in
      subst (λ o. IsWide (signal_at d s).width (common_bits o (dumped_of codes values.last s))) (sym a.is) (subst (λ o. IsWide (signal_at d s).width (common_bits (Some a.value) o)) (sym b.is) (ap₂ (λ ps qs. length (joined (map Some ps) (map Some qs))) a.bits b.bits ∙ common_width d s old new))
  wide_coded false e = subst (λ o. IsWide (signal_at d s).width (common_bits o (dumped_of codes values.last s))) (sym (unsaid codes values.closed s e)) tt

  wide_input : (i : Bool) → IsWide (signal_at d s).width (if i then common_bits (dumped_of codes values.closed s) (dumped_of codes values.last s) else None)
  wide_input true = wide_coded (has_code codes s) refl
  wide_input false = tt

  pub early_width : (ps : KnownBits) → early_bits d codes values s ≡ Some ps → length ps ≡ (signal_at d s).width
  early_width ps e = subst (IsWide (signal_at d s).width) e (wide_input (signal_at d s).input)

-- what may be read of an early signal is of an input
pub early_input : (d : Design) (codes : List (Option ℕ)) (values : Values) (s : ℕ) (ps : KnownBits) → early_bits d codes values s ≡ Some ps → (signal_at d s).input ≡ true
early_input d codes values s ps e = go (signal_at d s).input e
  where
    go : (i : Bool) → (if i then common_bits (dumped_of codes values.closed s) (dumped_of codes values.last s) else None) ≡ Some ps → i ≡ true
    go true h = refl
    go false h = cc
