-- What the program keeps of its sources.
use Rattle.std.specs.Prelude.{◌≡◌, map}
use Rattle.verilog_lexer.specs.Sources.{source_view, total_length, AreWithinLimits}
use Rattle.verilog_lexer.specs.declared.sources.Sources.TheInside.{Inside}

-- the sources are within the limits, and the number of their bytes is kept
pub record IsKept (inside : Inside) : Type 0 where
  pub within : AreWithinLimits (map source_view inside.sources.items)
  pub total : inside.total ≡ total_length (map source_view inside.sources.items)
