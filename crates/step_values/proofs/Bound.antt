-- What is known of the bits that the dump has.
use Rattle.std.proofs.Common.{◌≡◌, ℕ, ◌+◌, ◌<◌, Bool, true, false, List, map, get_or, Option, Some, None, refl, sym, ap, ◌∙◌, arith}
use Rattle.std.specs.Prelude.{nat_lt, is_some, slice_index_or}
use Rattle.std.specs.List.{range_with_len}
use Rattle.std.proofs.lemmas.Bool.{and_parts, false≢true}
use Rattle.std.proofs.lemmas.Bool.Decides.{nat_tests}
use Rattle.event_machine.specs.Cell.{Values}
use Rattle.four_state.specs.Vector.{Vector, same_bit}
use Rattle.four_state.specs.declared.bit.Bit.{Bit}
use Rattle.design_model.specs.Design.{Design, a_signal, cell, signal_at, signal_bits, signal_cells}
use Rattle.design_model.proofs.Definite.{bound_clear_law}
use Rattle.design_model.proofs.Lawful.{same_bit_is, same_bit_self}
use Rattle.store_knowledge.specs.body_replay.Store.{Kept}
use Rattle.store_knowledge.proofs.body_store.Rows.{row_at}
use Rattle.code_values.specs.Values.{value_of}
use Rattle.step_values.specs.Dumped.{AreDumped}
use Rattle.step_values.specs.Laws.{BoundLaw, StillLaw}
use Rattle.step_values.specs.Loose.{has_code}
use Rattle.step_values.proofs.Dumps.{bits_in, map_twice}

-- the bit at a place of a signal
bit_of : (d : Design) (v : Values Bit) (s j : ℕ) (o : List (Option Bit)) → o ≡ map Some (signal_bits d v s) → j < (signal_at d s).width → get_or o j None ≡ Some (v (cell s j))
bit_of d v s j o is l =
    let start : 0 + j ≡ j = omega arith in
    sym (row_at (λ c. Some (v c)) (cell s) 0 (signal_at d s).width o j (is ∙ map_twice v (cell s) (range_with_len 0 (signal_at d s).width)) l) ∙ ap (λ i. Some (v (cell s i))) start

pub known_bit : (d : Design) (k : Kept) (v : Values Bit) (s j : ℕ) → map k (signal_cells d s) ≡ map Some (signal_bits d v s) → j < (signal_at d s).width → k (cell s j) ≡ Some (v (cell s j))
known_bit d k v s j is l =
    let start : 0 + j ≡ j = omega arith in
    ap (λ i. k (cell s i)) (sym start) ∙ row_at k (cell s) 0 (signal_at d s).width (map k (signal_cells d s)) j refl l ∙ bit_of d v s j (map k (signal_cells d s)) is l

below : (k n : ℕ) → nat_lt k n ≡ true → k < n
below k n e = grind (arith, nat_tests, e)

pub bound_known : BoundLaw
bound_known d h dump tables t a binds shown known c has =
    let parts = and_parts (dump.bound c.thing) (nat_lt c.place (signal_at d c.thing).width) has in
    known_bit d a.kept (dump.values t) c.thing c.place (known.is_clear (a_signal c.thing) (signal_bits d (dump.values t) c.thing) (bound_clear_law d h dump t c.thing shown parts.0 (binds c.thing parts.0))) (below c.place (signal_at d c.thing).width parts.1)

-- ---- what has not changed

-- the code of a signal
code_of : (codes : List (Option ℕ)) (s : ℕ) → has_code codes s ≡ true → (code : ℕ) × (slice_index_or codes s None ≡ Some code)
code_of codes s coded = go (slice_index_or codes s None) refl coded
  where
    go : (o : Option ℕ) → slice_index_or codes s None ≡ o → is_some o ≡ true → (code : ℕ) × (slice_index_or codes s None ≡ Some code)
    go None e none = absurd (false≢true none)
    go (Some code) e some = (code, e)

-- signals of codes with the same value have the same bits
same_bits : (d : Design) (codes : List (Option ℕ)) (closed last : List (Option Vector)) (old new : Values Bit) (s code : ℕ) → AreDumped d codes closed old → AreDumped d codes last new → slice_index_or codes s None ≡ Some code → value_of closed code ≡ value_of last code → signal_bits d old s ≡ signal_bits d new s
same_bits d codes closed last old new s code before after coded same =
    let v = before s code coded in
    let w = after s code coded in
    sym v.2 ∙ ap bits_in (sym v.1 ∙ same ∙ w.1) ∙ w.2

abbrev is_same : Bit → Option Bit → Bool
is_same b None = false
is_same b (Some a) = same_bit a b

differ_no : (a b : Bit) → same_bit a b ≡ false → Some a ≡ Some b → ⊥
differ_no a b e is = false≢true (sym e ∙ ap (is_same b) is ∙ same_bit_self b)

pub still_known : StillLaw
still_known d bound k codes closed last old new changed coded before after listed known c has out =
    let parts = and_parts (bound c.thing) (nat_lt c.place (signal_at d c.thing).width) has in
    let code = code_of codes c.thing (sym (coded c.thing) ∙ parts.0) in
    known c has ∙ go code.0 code.1 (below c.place (signal_at d c.thing).width parts.1) (same_bit (old c) (new c)) refl
  where
    go : (code : ℕ) → slice_index_or codes c.thing None ≡ Some code → c.place < (signal_at d c.thing).width → (t : Bool) → same_bit (old c) (new c) ≡ t → Some (old c) ≡ Some (new c)
    go code is l true e = ap Some (same_bit_is (old c) (new c) e)
    go code is l false e = absurd (listed c.thing code is out (λ same. differ_no (old c) (new c) e (
        let bits = same_bits d codes closed last old new c.thing code before after is same in
        sym (bit_of d old c.thing c.place (map Some (signal_bits d new c.thing)) (ap (map Some) (sym bits)) l) ∙ bit_of d new c.thing c.place (map Some (signal_bits d new c.thing)) refl l)))
