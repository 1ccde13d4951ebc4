pub mod Tables
pub mod Transpose
pub use Rattle.process_names.specs as process_names
