pub mod Blank
pub mod Rooms
pub mod Running
pub mod Flushed
pub use Rattle.run_views.proofs as run_views
pub use Rattle.clocked_laws.proofs as clocked_laws
