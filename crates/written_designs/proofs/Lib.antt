pub mod Texts
pub mod Processes
pub mod Elaborated
pub mod Written
pub use Rattle.design_names.proofs.parsed_modules as parsed_modules
