-- What a store asks of a design.
use Rattle.std.specs.Prelude.{◌≤◌, length}
use Rattle.std.specs.List.{All}
use Rattle.design_model.specs.Design.{Design}
use Rattle.design_model.specs.Lawful.{IsLawfulDesign}
use Rattle.write_log.specs.value_store.Signals.{HasWidth}
use Rattle.body_store.specs.Made.{HasWordWidth}

-- each signal and each word has 1 to 128 bits, and there are at most so many signals and memories
pub record IsStorable (d : Design) : Type 0 where
  pub widths : All HasWidth d.signals
  pub word_widths : All HasWordWidth d.memories
  pub few_signals : length d.signals ≤ 65536
  pub few_memories : length d.memories ≤ 262144

-- a lawful design has
abbrev pub PremisesLaw : Type 0
PremisesLaw = (d : Design) → IsLawfulDesign d → IsStorable d
