-- Reading a file whole, and writing one.
use Rattle.std.specs.Prelude.{◌≡◌, ◌<◌, ◌≤◌, ℕ, List, length}
use Rattle.cov_host.specs.Outside.{Outside, IsCounted}
use Rattle.whole_files.specs.Refusals.{IsRefused}
use Rattle.whole_files.specs.declared.call.Call.{Call}
use Rattle.whole_files.specs.declared.call.Call.TheVariants.{OpenRead, Read, Write}
use Rattle.whole_files.specs.declared.files.FileFault.{FileFault}
use Rattle.whole_files.specs.declared.files.FileFault.TheVariants.{Refused, NoMemory}

-- the bytes are the file's content, or both are longer than this
pub record IsContent (most : ℕ) (bytes content : List ℕ) : Type 0 where
  pub whole : length content ≤ most → bytes ≡ content
  pub longer : most < length content → most < length bytes

-- a piece was not read because the call failed, which took nothing from the file
abbrev pub IsPieceFault : Outside → Outside → FileFault → Type 0
IsPieceFault before after (Refused Read) = IsCounted before.faults after.faults × (after.rest ≡ before.rest)
IsPieceFault before after (Refused call) = ⊥
IsPieceFault before after NoMemory = Unit {0}

-- a file was not read because a call failed or the file is not there
abbrev pub IsReadFault : List ℕ → Outside → Outside → FileFault → Type 0
IsReadFault name before after (Refused OpenRead) = IsRefused OpenRead name before after
IsReadFault name before after (Refused Read) = IsRefused Read name before after
IsReadFault name before after (Refused call) = ⊥
IsReadFault name before after NoMemory = Unit {0}

-- a file was not written because a call failed
abbrev pub IsWriteFault : List ℕ → Outside → Outside → FileFault → Type 0
IsWriteFault name before after (Refused OpenRead) = ⊥
IsWriteFault name before after (Refused Read) = ⊥
IsWriteFault name before after (Refused call) = IsRefused call name before after
IsWriteFault name before after NoMemory = Unit {0}

-- the rest of a file was not written because the call failed
abbrev pub IsRestFault : Outside → Outside → FileFault → Type 0
IsRestFault before after (Refused Write) = IsCounted before.faults after.faults
IsRestFault before after (Refused call) = ⊥
IsRestFault before after NoMemory = Unit {0}

-- a fact of the call that gave nothing
abbrev pub IfRefused : FileFault → (Call → Type 0) → Type 0
IfRefused (Refused call) fact = fact call
IfRefused NoMemory fact = Unit {0}
