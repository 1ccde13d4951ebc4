pub mod Marked
pub use Rattle.signal_marks.specs as signal_marks
pub use Rattle.mark_laws.specs as mark_laws
