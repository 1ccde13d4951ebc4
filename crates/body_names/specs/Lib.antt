pub mod Taken
pub use Rattle.process_names.specs as process_names
