pub mod Paths
pub mod Ranges
pub mod Named
pub use Rattle.parsed_modules.proofs as parsed_modules
pub use Rattle.parsed_modules.proofs.flat_laws as flat_laws
