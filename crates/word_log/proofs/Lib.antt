pub mod Shapes
pub mod Undone
pub mod Merging
pub mod Tests
pub mod SeenSets
pub mod Keeping
pub use Rattle.memory_rebuild.proofs as memory_rebuild
