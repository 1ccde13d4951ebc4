pub mod Marked
pub use Rattle.toggle_laws.specs as toggle_laws
