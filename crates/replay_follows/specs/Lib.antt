pub mod Follows
pub mod Laws
pub use Rattle.machine_laws.specs as machine_laws
