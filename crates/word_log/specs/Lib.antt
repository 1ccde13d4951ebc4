pub mod Memories
pub mod Entries
pub mod Logs
pub mod Seen
pub mod Keeps
pub use Rattle.memory_rebuild.specs as memory_rebuild
