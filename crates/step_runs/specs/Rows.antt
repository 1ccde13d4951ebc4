-- What is made of the processes of a design for their runs.
use Rattle.std.specs.Prelude.{◌≡◌, ◌++◌, ℕ, true, false, List, length}
use Rattle.design_model.specs.Design.{Design, body, body_at}
use Rattle.design_model.specs.Mentions.{body_assigns}
use Rattle.design_model.specs.Tree.{Process}
use Rattle.settling.specs.body_calls.Own.{is_in}
use Rattle.index_sets.specs.Rows.{row_at}
use Rattle.process_names.specs.Assigned.{assigned}

-- what the body of a process assigns, by blocking assignments and then by nonblocking ones
abbrev pub written_names : Process → List ℕ
written_names p = assigned true (body p) ++ assigned false (body p)

-- there is a row for each process, with the signals and memories that it assigns
pub record AreWrittenRows (d : Design) (rows : List (List ℕ)) : Type 0 where
  pub count : length rows ≡ length d.processes
  pub each : (p x : ℕ) → is_in (row_at rows p) x ≡ body_assigns x (body_at d p)
