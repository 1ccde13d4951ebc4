pub mod Written
pub mod Rows
pub use Rattle.point_table.specs as point_table
