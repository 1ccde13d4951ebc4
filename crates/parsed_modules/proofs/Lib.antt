pub mod TokensHold
pub mod Parts
pub mod Lists
pub mod Widths
pub mod Names
pub mod Expressions
pub mod Statements
pub mod Items
pub mod Modules
pub use Rattle.flat_laws.proofs as flat_laws
