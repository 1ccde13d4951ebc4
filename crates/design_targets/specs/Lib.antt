pub mod Leaves
pub mod Written
pub mod Laws
pub use Rattle.process_names.specs as process_names
