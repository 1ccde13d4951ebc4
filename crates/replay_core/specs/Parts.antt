-- What the promises of a replay speak of: what it is made of, what it keeps, and how far it has come.
use Rattle.std.specs.Prelude.{◌≡◌, false, List, Option}
use Rattle.design_model.specs.View.{design_view}
use Rattle.four_state.specs.Vector.{Vector}
use Rattle.replay_core.specs.Fits.{FitsReplay}
use Rattle.replay_core.specs.Made.{Following, Made, made_with, parts_with}
use Rattle.replay_core.specs.declared.fault.Phase.TheVariants.{Paused, Refused, Started}
use Rattle.replay_core.specs.declared.fault.ReplayFault.{ReplayFault}
use Rattle.replay_core.specs.declared.replay.Replay.{Replay}

-- what this replay is made of
abbrev pub made_of : Replay → Made
made_of x = made_with (design_view x.design.now) x.habit x.state.notes.points.now x.tables.value

-- what it keeps
abbrev pub parts_of : Replay → Following
parts_of x = parts_with x.room.value x.state

-- the values that the dump gave last, by code
abbrev pub given_of : Replay → List (Option Vector)
given_of x = x.state.values.last

-- its parts fit its design
abbrev pub IsReady : Replay → Type 0
IsReady x = FitsReplay (design_view x.design.now) x.state.notes.points.now x.tables.value x.room.value x.state x.phase

-- no step of a stretch was closed, and none was refused
abbrev pub IsPausedPhase : Replay → Type 0
IsPausedPhase x = x.phase ≡ Paused

-- the first step of a stretch was closed, and none was refused
abbrev pub IsStarted : Replay → Type 0
IsStarted x = x.phase ≡ Started

-- a step was refused for this
abbrev pub HasRefused : Replay → ReplayFault → Type 0
HasRefused x fault = x.phase ≡ Refused fault

-- the value of a code with the sign taken off
abbrev pub without_sign : Vector → Vector
without_sign v = record { bits = v.bits; signed = false }
