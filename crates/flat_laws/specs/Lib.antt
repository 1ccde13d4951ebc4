pub mod Laws
pub mod Literals
pub mod Tokens
pub use Rattle.flat_design.specs as flat_design
