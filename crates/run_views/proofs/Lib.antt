pub mod Running
pub mod Showing
pub use Rattle.body_store.proofs as body_store
