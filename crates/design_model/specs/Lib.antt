pub mod Tree
pub mod Design
pub mod Value
pub mod Assignment
pub mod Mentions
pub mod Execution
pub mod Numbered
pub mod Paths
pub mod Once
pub mod Reads
pub mod Machine
pub mod Run
pub mod Shows
pub mod ToggleLaw
pub mod Scored
pub mod Points
pub mod MayMove
pub mod Early
pub mod Clear
pub mod Open
pub mod Doubt
pub mod Shape
pub mod WellFormed
pub mod Lawful
pub mod Laws
pub mod StepLaws
pub mod MoreKnown
pub mod StillLaw
pub mod VisitedOpen
pub mod DecidedLaw
pub mod RoundLaws
pub mod BodyLaws
pub mod View
pub mod ExampleParts
pub mod FlipFlop
pub mod Gate
pub mod Pipe
pub mod Ram
pub mod WordBit
pub use Rattle.cov_host.specs as cov_host
pub use Rattle.event_machine.specs as event_machine
pub use Rattle.four_state.specs as four_state
pub use Rattle.point_words.specs as point_words
