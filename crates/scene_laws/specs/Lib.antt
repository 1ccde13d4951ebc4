pub mod At
pub mod Contexts
pub mod Laws
pub use Rattle.body_calls.specs as body_calls
pub use Rattle.body_calls.specs.body_replay as body_replay
pub use Rattle.body_calls.specs.event_machine as event_machine
pub use Rattle.body_calls.specs.term_replay as term_replay
