-- What a stage of the program changes outside.
use Rattle.std.specs.Prelude.{◌≡◌, ◌⊎◌, ◌≤◌, ℕ, List, take, Option, None, IfSome, IsSome, IsSomeAnd, MatchOption}
use Rattle.cov_host.specs.Outside.{Outside, Files, SameFiles, HasFile, Told, Appends, AppendsPrefix, AppendsTo, IsCounted, KeepsFiles, KeepsOutput, KeepsStreams}

-- no count falls
pub record CountsUp (before after : Outside) : Type 0 where
  pub faults : before.faults ≤ after.faults
  pub absences : before.absences ≤ after.absences
  pub mute : before.mute ≤ after.mute

-- only what is being read has changed
pub record OnlyReads (before after : Outside) : Type 0 where
  pub files : KeepsFiles before after
  pub output : KeepsOutput before after
  pub streams : KeepsStreams before after
  pub counts : CountsUp before after

-- the file is not among the known files of the host; where they are not known, an absence was counted
abbrev pub IsMissing : List ℕ → Outside → Outside → Type 0
IsMissing name before after = MatchOption before.files (IsCounted before.absences after.absences) (λ files. files name ≡ None)

-- where the files are known, the file that is being written is one of them
abbrev pub HasTarget : Outside → Type 0
HasTarget before = IfSome before.files (λ files. IsSomeAnd before.target (λ name. IsSome (files name)))

-- a first part of the text was added at the target's end, and every other file is as before
abbrev pub AppendsFront : Option (List ℕ) → List ℕ → Files → Files → Type 0
AppendsFront target text old new = (count : ℕ) × AppendsTo target (take count text) old new

-- the file has this text, or is as before, or holds a front of the text
abbrev pub HoldsFront : List ℕ → List ℕ → Files → Files → Type 0
HoldsFront name text old new = SameFiles old new ⊎ ((count : ℕ) × HasFile name (take count text) old new)

-- the line was warned whole; or a front of it, and the refusal was counted
abbrev pub WarnsLine : List ℕ → Outside → Outside → Type 0
WarnsLine line before after =
    Told (Appends line) before.warned after.warned
    ⊎ (IsCounted before.mute after.mute × Told (AppendsPrefix line) before.warned after.warned)
