-- Designs whose signals and memories are as wide as their ranges.
use Rattle.std.specs.Prelude.{◌≡◌, ◌<◌, ◌≤◌, ℕ, true, length}
use Rattle.design_model.specs.Design.{Design, is_memory, memory_at, signal_at}
use Rattle.design_model.specs.Lawful.{IsLawfulDesign, span}

-- from 1 to 128 bits, as many as the range has
pub record IsWidth (width high low : ℕ) : Type 0 where
  pub spans : width ≡ span high low
  pub at_most : width ≤ 128

-- each signal and each word of a memory is as wide as its range
pub record HasWidths (d : Design) : Type 0 where
  pub signals : (s : ℕ) → s < length d.signals → IsWidth (signal_at d s).width (signal_at d s).high (signal_at d s).low
  pub memories : (m : ℕ) → is_memory d m ≡ true → IsWidth (memory_at d m).width (memory_at d m).high (memory_at d m).low

-- a lawful design has these
abbrev pub WidthsLaw : Type 0
WidthsLaw = (d : Design) → IsLawfulDesign d → HasWidths d
