pub mod Constants
pub mod Shapes
pub mod Targets
pub mod Lists
pub mod OneBit
pub use Rattle.process_names.proofs as process_names
