-- The two branches of a test that is not decided.
use Rattle.std.specs.Prelude.{◌==◌, ◌&&◌, ◌||◌, ℕ, if◌then◌else◌}
use Rattle.std.specs.List.{list_all}
use Rattle.term_replay.specs.design_model.Design.{Design, signal_cells}
use Rattle.term_replay.specs.body_replay.Replay.{join_kept, same_kept}
use Rattle.term_replay.specs.Stands.{Scene}

-- an undecided test around, by what is to blame for it: in its first branch with what was known when it began, in its second one with
-- what the first one left
pub data Around : Type 0 where
  in_first : ℕ → Scene → Around
  in_second : ℕ → Scene → Around

-- what both branches leave keeps its blame; else the test is to blame
abbrev pub blame_after : ℕ → Scene → Scene → ℕ → ℕ
blame_after test left right x =
    if (left.blames.blame x == right.blames.blame x) && list_all (λ c. same_kept (left.kept c) (right.kept c)) (signal_cells left.design x) then left.blames.blame x else test

-- what both branches of a test leave in common
abbrev pub joined_scene : ℕ → Scene → Scene → Scene
joined_scene test left right =
    record left {
      kept = join_kept left.kept right.kept;
      blames = record { blame = blame_after test left right; wrote = λ m. left.blames.wrote m || right.blames.wrote m };
    }
