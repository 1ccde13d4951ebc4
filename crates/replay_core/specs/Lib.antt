pub mod Codes
pub mod Fits
pub mod Made
pub mod Steps
pub mod Faults
pub mod Closing
pub mod Parts
pub mod Followed
pub use Rattle.first_step.specs.mark_laws as mark_laws
pub use Rattle.first_step.specs.step_values as step_values
pub use Rattle.replay_follows.specs as replay_follows
pub use Rattle.wake_laws.specs as wake_laws
