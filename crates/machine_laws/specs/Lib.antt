pub mod Told
pub mod Followed
pub use Rattle.machine_marks.specs as machine_marks
pub use Rattle.mark_laws.specs as mark_laws
pub use Rattle.toggle_laws.specs as toggle_laws
