pub mod Toggled
pub mod Seen
pub use Rattle.bit_changes.specs as bit_changes
pub use Rattle.cover_marks.specs as cover_marks
pub use Rattle.design_model.specs as design_model
pub use Rattle.point_marks.specs as point_marks
