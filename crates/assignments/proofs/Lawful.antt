-- The signals and words of a lawful design are as wide as their ranges.
use Rattle.std.proofs.Common.{◌≡◌, ◌∙◌, ◌+◌, ◌-◌, ◌<◌, ◌==◌, ◌&&◌, ◌||◌, ℕ, zero, suc, Bool, true, List, [], ◌∷◌, ap, arith, if◌then◌else◌, length, slice_index_or, subst, sym}
use Rattle.std.specs.Prelude.{nat_le, nat_lt}
use Rattle.std.specs.List.{list_all}
use Rattle.std.proofs.lemmas.Bool.{and_parts, eqb-true, leb-true}
use Rattle.std.proofs.lemmas.Bool.Decides.{nat_tests}
use Rattle.design_model.specs.declared.design.Memory.{Memory}
use Rattle.design_model.specs.declared.design.Signal.{Signal}
use Rattle.design_model.specs.Design.{Design, is_memory, memory_at, no_memory, no_signal, signal_at}
use Rattle.design_model.specs.Lawful.{IsLawfulDesign, is_memory_of, is_signal, span}
use Rattle.assignments.specs.Widths.{HasWidths, IsWidth, WidthsLaw}

passes : {A : Type 0} (p : A → Bool) (z : A) (xs : List A) (n : ℕ) → list_all p xs ≡ true → n < length xs → p (slice_index_or xs n z) ≡ true
passes p z [] n h less = absurd (omega (arith, less))
passes p z (x ∷ xs) zero h less = (and_parts (p x) (list_all p xs) h).0
passes p z (x ∷ xs) (suc n) h less = passes p z xs n (and_parts (p x) (list_all p xs) h).1 (omega (arith, less))

signal_width : (d : Design) (s : Signal) → is_signal d s ≡ true → IsWidth s.width s.high s.low
signal_width d s h =
    let p = and_parts _ (s.ranged || ((s.high == 0) && (s.low == 0))) h in
    let q = and_parts _ (s.width == span s.high s.low) p.0 in
    let r = and_parts _ (nat_le s.width 128) q.0 in
    record { spans = eqb-true s.width (span s.high s.low) q.1; at_most = leb-true s.width 128 r.1 }

word_width : (d : Design) (m : Memory) → is_memory_of d m ≡ true → IsWidth m.width m.high m.low
word_width d m h =
    let p = and_parts _ (m.ranged || ((m.high == 0) && (m.low == 0))) h in
    let q = and_parts _ (m.width == span m.high m.low) p.0 in
    let o = and_parts _ (nat_le (span m.first m.last) 65536) q.0 in
    let r = and_parts _ (nat_le m.width 128) o.0 in
    record { spans = eqb-true m.width (span m.high m.low) q.1; at_most = leb-true m.width 128 r.1 }

pub lawful_widths : WidthsLaw
lawful_widths d h =
    record {
      signals = λ s less. signal_width d (signal_at d s) (passes (is_signal d) no_signal d.signals s h.signals less);
      memories = λ m is.
          let both = and_parts (nat_le (length d.signals) m) (nat_lt m (length d.signals + length d.memories)) is in
          let low = both.0 in
          let high = both.1 in
          let less : m - length d.signals < length d.memories = grind (arith, nat_tests, low, high) in
          let at : memory_at d m ≡ slice_index_or d.memories (m - length d.signals) no_memory = ap (λ b. if b then slice_index_or d.memories (m - length d.signals) no_memory else no_memory) both.0 in
          let P : Memory → Type 0 = λ x. IsWidth x.width x.high x.low in
          subst P (sym at) (word_width d (slice_index_or d.memories (m - length d.signals) no_memory) (passes (is_memory_of d) no_memory d.memories (m - length d.signals) h.memories less));
    }
