-- What holds of each entry of a scope, and how the names of a scope are seen as constants.
use Rattle.std.specs.Prelude.{◌≤◌, Option, ℕ, if◌then◌else◌, List, bytes_eq, None}
use Rattle.design_model.specs.Lawful.{span}
use Rattle.design_model.specs.declared.design.Range.{Range}
use Rattle.elab_const.specs.Scope.{IsWidth}
use Rattle.flat_design.specs.Scope.{Scope, range_or, range_width}
use Rattle.flat_design.specs.declared.entry.Entry.{Entry}
use Rattle.flat_design.specs.declared.entry.Entry.TheVariants.{Signal, Memory}

-- both bounds are from 0 to 1,048,575
abbrev pub IsRange : Range → Type 0
IsRange r = (r.high ≤ 1048575) × (r.low ≤ 1048575)

-- the range of a vector of 1 to 128 bits
abbrev pub IsVectorRange : Option Range → Type 0
IsVectorRange r = IsRange (range_or r) × IsWidth (range_width r)

-- signals and words have from 1 to 128 bits, memories at most 65,536 words, and all memories together 262,144
abbrev pub IsEntry : Entry → Type 0
IsEntry (Signal s) = IsVectorRange s.range
IsEntry (Memory m) = IsRange m.words × (span m.words.high m.words.low ≤ 65536) × IsVectorRange m.range × (m.number ≤ 262144)
IsEntry e = Unit {0}

-- the scope where x means nothing
abbrev pub without_entry : List ℕ → Scope → Scope
without_entry x g = λ y. if bytes_eq y x then None else g y
