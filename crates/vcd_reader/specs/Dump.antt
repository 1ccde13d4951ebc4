-- The dump of a text (IEEE 1364-2001 clause 18), and what it says of a code at a time.
use Rattle.std.specs.Prelude.{◌≡◌, ◌⊎◌, ◌<◌, ◌==◌, ℕ, nat_le, if◌then◌else◌, List, [], ◌∷◌, ◌++◌, length, map, filter, flat_map, Option, Some, None}
use Rattle.std.specs.Option.{option_or}
use Rattle.four_state.specs.Vector.{Vector}
use Rattle.vcd_reader.specs.Body.{most_stretches}
use Rattle.vcd_reader.specs.Reading.{Body, body}
use Rattle.vcd_reader.specs.Text.{Stands, EndsAs}
use Rattle.vcd_reader.specs.declared.vars.Var.{Var}
use Rattle.vcd_reader.specs.declared.entry.Entry.{Entry}
use Rattle.vcd_reader.specs.declared.entry.Entry.TheVariants.{Time, Value, Off, On}

-- a change of a code to a value
pub record Change : Type 0 where
  pub code : ℕ
  pub value : Vector

-- what changes at one time, in order
pub record DumpStep : Type 0 where
  pub time : ℕ
  pub changes : List Change

-- the variables in order of declaration, and the steps of each stretch
pub record Dump : Type 0 where
  pub vars : List Var
  pub stretches : List (List DumpStep)

-- the changes before the first time
abbrev pub leading : List Entry → List Change
leading [] = []
leading (Time time ∷ entries) = []
leading (Value code value ∷ entries) = record { code = code; value = value } ∷ leading entries
leading (Off ∷ entries) = []
leading (On time ∷ entries) = []

-- the steps from the first time on
abbrev pub timed : List Entry → List DumpStep
timed [] = []
timed (Time time ∷ entries) = record { time = time; changes = leading entries } ∷ timed entries
timed (Value code value ∷ entries) = timed entries
timed (Off ∷ entries) = []
timed (On time ∷ entries) = []

-- the steps with these changes in front, which belong to the first step
abbrev pub with_leading : List Change → List DumpStep → List DumpStep
with_leading changes [] = []
with_leading changes (step ∷ steps) = record step { changes = changes ++ step.changes } ∷ steps

-- the steps of what is said up to where the dump goes off: the times with their changes in order, where changes before the first time belong to it
abbrev pub steps_of : List Entry → List DumpStep
steps_of entries = with_leading (leading entries) (timed entries)

-- a stretch that begins at the last time, if there was one
abbrev pub begun_at : Option ℕ → List Entry → List Entry
begun_at None entries = entries
begun_at (Some time) entries = Time time ∷ entries

-- what is said from where each later stretch begins
abbrev pub later_stretches : List Entry → List (List Entry)
later_stretches [] = []
later_stretches (Time time ∷ entries) = later_stretches entries
later_stretches (Value code value ∷ entries) = later_stretches entries
later_stretches (Off ∷ entries) = later_stretches entries
later_stretches (On time ∷ entries) = begun_at time entries ∷ later_stretches entries

-- the body says few stretches, with the one with which it begins
abbrev pub HasFewStretches : List Entry → Type 0
HasFewStretches entries = length (later_stretches entries) < most_stretches

-- the steps of each stretch of what a body says
abbrev pub stretches_of : List Entry → List (List DumpStep)
stretches_of entries = map steps_of (entries ∷ later_stretches entries)

-- the whole text is a dump with these variables and these stretches
pub record IsDump (text : List ℕ) (dump : Dump) : Type 0 where
  pub b : Body
  pub ends : EndsAs text b
  pub vars : dump.vars ≡ b.vars
  pub stretches : dump.stretches ≡ stretches_of b.items

-- the distinct times of a stretch in order
abbrev pub times_of : List DumpStep → List ℕ
times_of steps = map (λ step. step.time) steps

-- the value of the last change of a code, if there is one
abbrev pub last_value : ℕ → List Change → Option Vector
last_value code [] = None
last_value code (change ∷ changes) = option_or (last_value code changes) (if change.code == code then Some change.value else None)

-- the value of the last change of a code in a stretch at or before a time, if there is one
abbrev pub value_at : List DumpStep → ℕ → ℕ → Option Vector
value_at steps code time = last_value code (flat_map (λ step. step.changes) (filter (λ step. nat_le step.time time) steps))

-- a front of the text has a whole header, and means this body
pub record BeginsAs (text : List ℕ) (b : Body) : Type 0 where
  pub front : List ℕ
  pub rest : List ℕ
  pub word : List ℕ
  pub split : text ≡ front ++ rest
  pub stands : Stands front (body b) word

-- the text says this body at a place, or at its end
abbrev pub SaysBody : List ℕ → Body → Type 0
SaysBody text b = BeginsAs text b ⊎ EndsAs text b

-- the text says no body: its header is not whole
abbrev pub HasNoBody : List ℕ → Type 0
HasNoBody text = (b : Body) → SaysBody text b → ⊥

-- the body has these variables and says this, and maybe more after it
pub record GoesOn (b whole : Body) : Type 0 where
  pub vars : whole.vars ≡ b.vars
  pub more : List Entry
  pub items : whole.items ≡ b.items ++ more
