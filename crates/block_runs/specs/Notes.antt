-- The ways of a run and what it notes, as the definition of a run has them.
use Rattle.std.specs.Prelude.{◌≡◌, ℕ, Bool, true, false, List, ◌++◌, Option, Some, None}
use Rattle.body_replay.specs.Contract as c
use Rattle.body_replay.specs.Contract.{Doubted, Note, notes_of}
use Rattle.body_replay.specs.Replay.{Mark}
use Rattle.term_replay.specs.Noted.{spot_of}
use Rattle.term_replay.specs.declared.notes.Spot.{Spot}
use Rattle.block_runs.specs.declared.certainty.Certainty.{Certainty}
use Rattle.block_runs.specs.declared.certainty.Certainty.TheVariants.{Clean, Perhaps, Quiet, Weak}
use Rattle.block_runs.specs.declared.notes.Doubt.{Doubt}

-- a way of a run
abbrev pub way_of : Certainty → c.Certainty
way_of (Clean time) = c.clean time
way_of Quiet = c.quiet
way_of (Perhaps time thing) = c.perhaps time thing
way_of (Weak time thing) = c.weak time thing

-- the way in which the body is not evaluated
abbrev pub is_weak_way : c.Certainty → Bool
is_weak_way (c.weak time thing) = true
is_weak_way _ = false

-- a doubt
abbrev pub doubt_of : Option Doubt → Option Doubted
doubt_of None = None
doubt_of (Some y) = Some (record { time = y.time; thing = y.thing })

-- a note
abbrev pub note_of : Spot → Option Doubt → Note
note_of x y = record { spot = spot_of x; doubt = doubt_of y }

-- whatever notes the sink took since any start, it has then taken these too
pub record AddsNotes {T S : Type 0} (noted : T → List Note → S → Type 0) (before : S) (notes : List Note) (after : S) : Type 0 where
  pub added : (start : T) (earlier : List Note) → noted start earlier before → noted start (earlier ++ notes) after

-- what a sink of marks had taken when a run began that notes them in this way in the sink of notes with this name
pub record WayStart (T : Type 0) : Type 0 where
  pub start : T
  pub earlier : List Note
  pub how : Certainty
  pub name : ℕ

-- since this start, if one is known, the sink with this name has taken these marks in this way
abbrev pub IsNoted : {T S : Type 0} → (T → List Note → S → Type 0) → Option (WayStart T) → Certainty → ℕ → S → List Mark → Type 0
IsNoted noted None how name notes ms = Unit {0}
IsNoted noted (Some x) how name notes ms = (how ≡ x.how) × (name ≡ x.name) × noted x.start (x.earlier ++ notes_of (way_of x.how) ms) notes
