-- How large the ranges of declared names are.
use Rattle.std.specs.Prelude.{◌≤◌}
use Rattle.design_model.specs.Lawful.{span}
use Rattle.flat_design.specs.Declarations.{Declaration, Sort, words_from}
use Rattle.elab_scope.specs.Entries.{IsRange, IsVectorRange}

-- a memory has at most 65,536 words
abbrev pub AreFewWords : Sort → Type 0
AreFewWords (words_from r) = IsRange r × (span r.high r.low ≤ 65536)
AreFewWords _ = Unit {0}

-- from 1 to 128 bits, and few words
pub record IsInBounds (d : Declaration) : Type 0 where
  pub bits : IsVectorRange d.range
  pub words : AreFewWords d.sort
