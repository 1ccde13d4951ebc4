pub mod Slots
pub mod Index
pub mod Open
pub mod Counted
pub mod Owners
pub mod Marks
pub use Rattle.cover_points.specs as cover_points
