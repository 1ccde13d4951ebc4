pub mod Marked
pub use Rattle.machine_laws.specs as machine_laws
