pub mod AddressKeys
pub mod OnePoint
pub mod Rows
pub mod Numbers
pub mod Written
pub mod NoStep
pub use Rattle.table_laws.proofs as table_laws
