pub mod Matching
pub use Rattle.scene_laws.proofs as scene_laws
