-- What a program sees of the outside, and what one call on it may change.
use Rattle.std.specs.Prelude.{◌≡◌, ◌≢◌, ◌⊎◌, ◌<◌, ◌≤◌, ◌-◌, ◌^◌, ℕ, Bool, true, false, List, [], ◌++◌, length, take, Option, Some, None, IfSome, IsSomeAnd}

-- the bytes of each file by its name, and none for a name that no file has
abbrev pub Files : Type 0
Files = List ℕ → Option (List ℕ)

-- what is known of the outside of a host; none means that it is not known
pub record Outside : Type 0 where
  pub files : Option Files
  pub rest : Option (List ℕ)  -- the bytes left of the file that is being read
  pub reading : Bool  -- a file is being read
  pub writing : Bool  -- a file is being written
  pub target : Option (List ℕ)  -- the name of the file that is being written
  pub printed : Option (List ℕ)  -- what went to the standard output
  pub warned : Option (List ℕ)  -- what went to the warning output
  pub faults : ℕ  -- how often a call has failed
  pub absences : ℕ  -- how often a file to be read was absent
  pub mute : ℕ  -- how often a warning was refused

-- all is known, and there is nothing
abbrev pub empty_outside : Outside
empty_outside = record {
  files = Some (λ _. None);
  rest = Some [];
  reading = false;
  writing = false;
  target = None;
  printed = Some [];
  warned = Some [];
  faults = 0;
  absences = 0;
  mute = 0;
}

-- no content is known, and nothing is being read or written
abbrev pub untold_outside : Outside
untold_outside = record {
  files = None;
  rest = None;
  reading = false;
  writing = false;
  target = None;
  printed = None;
  warned = None;
  faults = 0;
  absences = 0;
  mute = 0;
}

-- it is known before and after, and the two are in this relation; or it is known neither before nor after
abbrev pub Told : {A : Type 0} → (A → A → Type 0) → Option A → Option A → Type 0
Told R None None = Unit {0}
Told R None (Some after) = ⊥
Told R (Some before) None = ⊥
Told R (Some before) (Some after) = R before after

-- every file is as before
abbrev pub SameFiles : Files → Files → Type 0
SameFiles before after = (name : List ℕ) → after name ≡ before name

-- one file has these bytes, and every other file is as before
pub record HasFile (name bytes : List ℕ) (before after : Files) : Type 0 where
  pub named : after name ≡ Some bytes
  pub others : (other : List ℕ) → other ≢ name → after other ≡ before other

-- the target has these bytes more at its end, and every other file is as before
abbrev pub AppendsTo : Option (List ℕ) → List ℕ → Files → Files → Type 0
AppendsTo target piece before after =
    IfSome target (λ name. IsSomeAnd (before name) (λ bytes. HasFile name (bytes ++ piece) before after))

-- these bytes are at the end
abbrev pub Appends : List ℕ → List ℕ → List ℕ → Type 0
Appends piece before after = after ≡ before ++ piece

-- some first bytes of the piece are at the end
abbrev pub AppendsPrefix : List ℕ → List ℕ → List ℕ → Type 0
AppendsPrefix piece before after = (count : ℕ) × Appends (take count piece) before after

-- the count rose, or is at the greatest value that it can have
abbrev pub IsCounted : ℕ → ℕ → Type 0
IsCounted before after = (before < after) ⊎ (after ≡ 2 ^ 64 - 1)

-- every file is as before, where the files are known
abbrev pub KeepsFiles : Outside → Outside → Type 0
KeepsFiles before after = Told SameFiles before.files after.files

-- what is being read is as before
pub record KeepsInput (before after : Outside) : Type 0 where
  pub rest : after.rest ≡ before.rest
  pub reading : after.reading ≡ before.reading

-- what is being written is as before
pub record KeepsOutput (before after : Outside) : Type 0 where
  pub writing : after.writing ≡ before.writing
  pub target : after.target ≡ before.target

-- nothing was printed and nothing was warned
pub record KeepsStreams (before after : Outside) : Type 0 where
  pub printed : after.printed ≡ before.printed
  pub warned : after.warned ≡ before.warned

-- no count changed
pub record KeepsCounts (before after : Outside) : Type 0 where
  pub faults : after.faults ≡ before.faults
  pub absences : after.absences ≡ before.absences
  pub mute : after.mute ≡ before.mute

-- faults do not become fewer, and the other two counts stay
pub record CountsFaults (before after : Outside) : Type 0 where
  pub faults : before.faults ≤ after.faults
  pub absences : after.absences ≡ before.absences
  pub mute : after.mute ≡ before.mute

-- faults and absences do not become fewer, and the third count stays
pub record CountsAbsences (before after : Outside) : Type 0 where
  pub faults : before.faults ≤ after.faults
  pub absences : before.absences ≤ after.absences
  pub mute : after.mute ≡ before.mute

-- faults and refused warnings do not become fewer, and the third count stays
pub record CountsMute (before after : Outside) : Type 0 where
  pub faults : before.faults ≤ after.faults
  pub absences : after.absences ≡ before.absences
  pub mute : before.mute ≤ after.mute

-- the file is at its first byte; where the files are known, it is one of them
pub record IsOpened (name : List ℕ) (before after : Outside) : Type 0 where
  pub reading : after.reading ≡ true
  pub rest : IfSome before.files (λ files. IsSomeAnd (files name) (λ bytes. after.rest ≡ Some bytes))

-- where the files are known, the name is not one of theirs
abbrev pub IsAbsent : List ℕ → Outside → Type 0
IsAbsent name before = IfSome before.files (λ files. files name ≡ None)

-- this number of first bytes of the piece are the next ones of the file, and 0 only at its end
pub record IsRead (count : ℕ) (piece : List ℕ) (before after : Outside) : Type 0 where
  pub within : count ≤ length piece
  pub bytes : Told (λ rest left. rest ≡ take count piece ++ left) before.rest after.rest
  pub none_at_end : count ≡ 0 → piece ≢ [] → IfSome before.rest (λ rest. rest ≡ [])

-- the file is empty and is being written
pub record IsCreated (name : List ℕ) (before after : Outside) : Type 0 where
  pub writing : after.writing ≡ true
  pub target : IfSome before.files (λ files. after.target ≡ Some name)
  pub files : Told (HasFile name []) before.files after.files

-- no file is being written, and the file is as before or empty
pub record IsNotCreated (name : List ℕ) (before after : Outside) : Type 0 where
  pub writing : after.writing ≡ false
  pub files : Told (λ old new. SameFiles old new ⊎ HasFile name [] old new) before.files after.files

-- this number of first bytes of the piece was appended, at least one of a piece that is not empty
pub record IsWritten (count : ℕ) (piece : List ℕ) (before after : Outside) : Type 0 where
  pub within : count ≤ length piece
  pub some : piece ≢ [] → 0 < count
  pub files : Told (AppendsTo before.target (take count piece)) before.files after.files

-- some first bytes of the piece were appended, where the files are known
abbrev pub IsPartlyWritten : List ℕ → Outside → Outside → Type 0
IsPartlyWritten piece before after = (count : ℕ) × Told (AppendsTo before.target (take count piece)) before.files after.files
