-- A file that is read piece by piece.
use Rattle.std.specs.Prelude.{◌≡◌, ℕ, true, List, ◌++◌, Some, IfSome, IsSomeAnd}
use Rattle.cov_host.specs.Outside.{Outside, IsCounted}
use Rattle.whole_files.specs.Effects.{OnlyReads}
use Rattle.whole_files.specs.Refusals.{IsRefused}
use Rattle.whole_files.specs.declared.call.Call.TheVariants.{OpenRead, Read}
use Rattle.dump_score.specs.declared.fault.ScoreFault.{ScoreFault}
use Rattle.dump_score.specs.declared.fault.ScoreFault.TheVariants as fault

-- the file has this text, where the files of the host are known
abbrev pub IsFile : Outside → List ℕ → List ℕ → Type 0
IsFile outside name text = IfSome outside.files (λ files. files name ≡ Some text)

-- the file was opened, and this text was read of it
pub record HasReadFile (name : List ℕ) (before now : Outside) (text : List ℕ) : Type 0 where
  pub reading : now.reading ≡ true
  pub content : IfSome before.files (λ files. IsSomeAnd (files name) (λ content. IsSomeAnd now.rest (λ rest. content ≡ text ++ rest)))
  pub effects : OnlyReads before now

-- a call of reading gave nothing, because it failed or the file is not there
abbrev pub IsCallFault : List ℕ → Outside → Outside → ScoreFault → Type 0
IsCallFault name before after (fault.Refused OpenRead) = IsRefused OpenRead name before after
IsCallFault name before after (fault.Refused Read) = IsRefused Read name before after
IsCallFault name before after fault.NoMemory = Unit {0}
IsCallFault name before after other = ⊥

-- a piece was not read because the call failed, which took nothing from the file
abbrev pub IsPieceFault : Outside → Outside → ScoreFault → Type 0
IsPieceFault before after (fault.Refused Read) = IsCounted before.faults after.faults × (after.rest ≡ before.rest)
IsPieceFault before after other = ⊥
