pub mod Firsts
pub mod PutBack
pub mod Joins
pub mod Tests
pub mod CommonHeld
pub use Rattle.value_store.proofs as value_store
