pub mod More
pub mod Taken
pub mod Facts
pub mod Windows
pub mod Following
pub mod Closing
pub mod Finishing
pub use Rattle.score_tables.proofs.instance_paths as instance_paths
pub use Rattle.shown_dumps.proofs as shown_dumps
pub use Rattle.score_tables.proofs as score_tables
