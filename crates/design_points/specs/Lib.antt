pub mod Counted
pub use Rattle.cover_points.specs as cover_points
