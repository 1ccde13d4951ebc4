-- What each process writes at most once of some signals.
use Rattle.std.specs.Prelude.{◌||◌, ◌==◌, ◌++◌, if◌then◌else◌, ℕ, Bool, true, false, not, List, [], ◌∷◌, Option, Some, None, length}
use Rattle.std.specs.List.{filter}
use Rattle.design_model.specs.Design.{body}
use Rattle.design_model.specs.Once.{names_once}
use Rattle.design_model.specs.Tree.{Process}
use Rattle.design_targets.specs.Written.{written}
use Rattle.index_sets.specs.Rows.{row_at}
use Rattle.process_names.specs.Names.{level_names}
use Rattle.once_writers.specs.Writers.{flag_at}

-- the marked ones of what the body of a process may write
abbrev pub marked_targets : List Bool → Process → List ℕ
marked_targets wanted p = filter (flag_at wanted) (written true (body p)) ++ filter (flag_at wanted) (written false (body p))

-- no level wakes the process
abbrev pub is_clocked : Process → Bool
is_clocked p = length (level_names p) == 0

-- of these, those that a process names at most once on each path, if no level wakes it
abbrev pub once_of : Process → List ℕ → List ℕ
once_of p marked = if is_clocked p then filter (names_once (body p)) marked else []

-- the marked signals that a process may write, by its text at most once, if no level wakes it
abbrev pub once_written : List Bool → Process → List ℕ
once_written wanted p = once_of p (marked_targets wanted p)

-- the row of a number has an item in one of two tables
abbrev pub is_listed : List (List ℕ) → List (List ℕ) → ℕ → Bool
is_listed rising falling x = not (length (row_at rising x) == 0) || not (length (row_at falling x) == 0)

-- the first item
abbrev pub first_of : List ℕ → Option ℕ
first_of [] = None
first_of (x ∷ xs) = Some x
