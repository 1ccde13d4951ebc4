pub mod AtClocked
pub use Rattle.chosen_runs.specs as chosen_runs
pub use Rattle.run_marks.specs as run_marks
