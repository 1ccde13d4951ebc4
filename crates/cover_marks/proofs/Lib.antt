pub mod Numbers
pub mod States
pub mod StillOpen
pub mod Counts
pub mod Settled
pub use Rattle.cover_points.proofs as cover_points
pub use Rattle.cover_points.proofs.state_machines as state_machines
