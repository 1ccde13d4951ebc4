-- What the run of a body leaves: what is kept of the signals and memories of which bodies read something else, and the size of the log.
use Rattle.std.specs.Prelude.{ℕ, Bool, if◌then◌else◌}
use Rattle.term_replay.specs.body_replay.Replay.{Blames}
use Rattle.term_replay.specs.body_replay.Store.{Kept}
use Rattle.term_replay.specs.Stands.{Scene}

-- which signals and memories are shown or veiled, and what is kept of the cells of those, with what is to blame for each; how much
-- can be logged in all
pub record Under : Type 0 where
  pub hidden : ℕ → Bool
  pub kept : Kept
  pub blame : ℕ → ℕ
  pub log : ℕ  -- how much can be logged in all

-- what is kept, where bodies read this
abbrev pub kept_with : Under → Scene → Scene
kept_with u v =
    record v {
      kept = λ c. if u.hidden c.thing then u.kept c else v.kept c;
      blames = record { blame = λ x. if u.hidden x then u.blame x else v.blames.blame x; wrote = v.blames.wrote };
    }
