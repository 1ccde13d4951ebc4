pub mod Cells
pub mod Knowing
pub mod Known
pub use Rattle.body_store.proofs as body_store
