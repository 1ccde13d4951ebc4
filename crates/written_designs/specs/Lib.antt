pub use Rattle.table_laws.specs as table_laws
