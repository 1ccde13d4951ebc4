-- An instance that is entered.
use Rattle.std.specs.Prelude.{◌≡◌, false, true}
use Rattle.elab_build.specs.Sound.{IsClear}
use Rattle.flat_design.specs.Instances.{Instantiation, declared as names_of, scope_of}
use Rattle.flat_design.specs.Scope.{binding_of}
use Rattle.elaborator.specs.Kept.{IsKept}
use Rattle.elaborator.specs.Walk.{IsClean, Opens}
use Rattle.elaborator.specs.declared.entering.Entered.{Entered}
use Rattle.elaborator.specs.declared.walk.Numbers.{Numbers}
use Rattle.elaborator.specs.declared.walk.Walk.{Walk}

-- the numbers before any
abbrev pub no_numbers : Numbers
no_numbers = record { instance = 0; line = 1; node = 1 }

-- a limit is passed with the instance
pub record IsPassed (w later : Walk) (i : Instantiation) : Type 0 where
  pub opens : Opens w later no_numbers i
  pub ended : later.tally.ended ≡ true

-- the instance is opened, and its declared names with what they mean are these
pub record IsEntered (w later : Walk) (i : Instantiation) (entered : Entered) : Type 0 where
  pub opens : Opens w later entered.numbers i
  pub before : w.tally.ended ≡ false
  pub still : later.tally.ended ≡ false
  pub declared : entered.declared ≡ names_of i.overrides i.of_module
  pub scope : binding_of entered.scope ≡ scope_of i w.tally.counts.signals w.memories
  pub kept : IsKept later
  pub clear : IsClean later.tally → IsClear (binding_of entered.scope)
