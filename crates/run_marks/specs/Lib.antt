pub mod Reported
pub mod Example
pub use Rattle.cover_marks.specs as cover_marks
pub use Rattle.cover_points.specs as cover_points
pub use Rattle.mark_laws.specs as mark_laws
