pub mod Names
pub use Rattle.parsed_modules.specs as parsed_modules
