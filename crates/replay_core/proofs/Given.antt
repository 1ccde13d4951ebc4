-- The values that the dump gave are those of the cells of the signals.
use Rattle.std.proofs.Common.{◌≡◌, ◌∙◌, ℕ, true, false, List, [], ◌∷◌, length, map, Option, Some, None, refl, sym, ap, arith}
use Rattle.std.specs.Prelude.{is_none, slice_index_or}
use Rattle.std.specs.List.{range_with_len}
use Rattle.std.proofs.lemmas.List.{ext_get_or}
use Rattle.std.proofs.lemmas.List.FromFn.{get_or-map-range_with_len, length-map-range_with_len}
use Rattle.std.proofs.lemmas.Bool.{both_ways}
use Rattle.event_machine.specs.Cell.{Cell, Values as CellValues}
use Rattle.four_state.specs.Vector.{Vector}
use Rattle.four_state.specs.declared.bit.Bit.{Bit}
use Rattle.four_state.specs.declared.bit.Bit.TheVariants.{X}
use Rattle.design_model.specs.Design.{Design, cell, signal_at, signal_bits}
use Rattle.code_values.specs.Values.{lacks_code, value_of}
use Rattle.first_step.specs.step_values.Dumped.{AreDumped}
use Rattle.replay_core.specs.Fits.{AreWideValues, HaveValues}

-- the bits of a value, if there is one
abbrev value_bits : Option Vector → List Bit
value_bits None = []
value_bits (Some v) = v.bits

-- the bits of the value of a code, if there is one
abbrev code_bits : List (Option Vector) → Option ℕ → List Bit
code_bits values None = []
code_bits values (Some code) = value_bits (value_of values code)

-- what the dump says of each cell
abbrev pub cells_given : List (Option ℕ) → List (Option Vector) → CellValues Bit
cells_given codes values c = slice_index_or (code_bits values (slice_index_or codes c.thing None)) c.place X

there_is : (o : Option Vector) → is_none o ≡ false → (v : Vector) × (o ≡ Some v)
there_is None e = absurd (both_ways true e refl)
there_is (Some v) e = (v, refl)

pub value_there : (codes : List (Option ℕ)) (values : List (Option Vector)) (s code : ℕ) → HaveValues codes values → slice_index_or codes s None ≡ Some code → (v : Vector) × (value_of values code ≡ Some v)
value_there codes values s code have e = there_is (value_of values code) (sym (ap (lacks_code values) e) ∙ have s)

mapped : (f : ℕ → Cell) (g : Cell → Bit) (ks : List ℕ) → map (λ k. g (f k)) ks ≡ map g (map f ks)
mapped f g [] = refl
mapped f g (k ∷ ks) = ap (λ bs. g (f k) ∷ bs) (mapped f g ks)

module _ (d : Design) (codes : List (Option ℕ)) (values : List (Option Vector)) (wide : AreWideValues d codes values) (have : HaveValues codes values) where
  read : (s code : ℕ) (v : Vector) → slice_index_or codes s None ≡ Some code → value_of values code ≡ Some v → v.bits ≡ signal_bits d (cells_given codes values) s
  read s code v e is =
      let n = (signal_at d s).width in
      let f = λ (k : ℕ). cells_given codes values (cell s k) in
      let size : length v.bits ≡ n = wide s code v e is in
      let bits : code_bits values (slice_index_or codes s None) ≡ v.bits = ap (code_bits values) e ∙ ap value_bits is in
      let made = length-map-range_with_len f 0 n in
      let listed : v.bits ≡ map f (range_with_len 0 n) = ext_get_or X v.bits (map f (range_with_len 0 n)) (size ∙ sym made) (λ i l.
      sym (get_or-map-range_with_len f 0 n i i X (omega (arith, l, size)) (omega arith) ∙ ap (λ bs. slice_index_or bs i X) bits)) in
      listed ∙ mapped (cell s) (cells_given codes values) (range_with_len 0 n)

  pub dumped : AreDumped d codes values (cells_given codes values)
  dumped s code e = let v = value_there codes values s code have e in (v.0, v.1, read s code v.0 e v.1)
