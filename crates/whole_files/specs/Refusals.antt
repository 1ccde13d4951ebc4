-- A call on a file that gave nothing, and how the host is after it.
use Rattle.std.specs.Prelude.{◌≡◌, ◌⊎◌, ℕ, true, false, List, ◌++◌, Some, IfSome, IsSomeAnd}
use Rattle.cov_host.specs.Outside.{Outside, IsCounted}
use Rattle.whole_files.specs.Effects.{IsMissing}
use Rattle.whole_files.specs.declared.call.Call.{Call}
use Rattle.whole_files.specs.declared.call.Call.TheVariants.{OpenRead, Read, OpenWrite, Write, CloseWrite}

-- a file is being read, and where the files are known what is left of it is the end of this one's content
pub record IsBeingRead (name : List ℕ) (now : Outside) : Type 0 where
  pub reading : now.reading ≡ true
  pub rest : IfSome now.files (λ files. IsSomeAnd (files name) (λ content. IsSomeAnd now.rest (λ rest. (front : List ℕ) × (content ≡ front ++ rest))))

-- a file is being written, and where the files are known it is this one
pub record IsBeingWritten (name : List ℕ) (now : Outside) : Type 0 where
  pub writing : now.writing ≡ true
  pub target : IfSome now.files (λ files. now.target ≡ Some name)

-- how the host is after the call on the file gave nothing: after an opening, and after a closing, no file is being read or written
abbrev pub IsAfter : Call → List ℕ → Outside → Type 0
IsAfter OpenRead name now = now.reading ≡ false
IsAfter Read name now = IsBeingRead name now
IsAfter OpenWrite name now = now.writing ≡ false
IsAfter Write name now = IsBeingWritten name now
IsAfter CloseWrite name now = now.writing ≡ false

-- why the call gave nothing: a fault was counted, or the file that was to be opened for reading is not there
abbrev pub HasCause : Call → List ℕ → Outside → Outside → Type 0
HasCause OpenRead name before after = IsCounted before.faults after.faults ⊎ IsMissing name before after
HasCause call name before after = IsCounted before.faults after.faults

-- the call on the file gave nothing, and no other call of reading or writing was made since
pub record IsRefused (call : Call) (name : List ℕ) (before after : Outside) : Type 0 where
  pub cause : HasCause call name before after
  pub then : IsAfter call name after
