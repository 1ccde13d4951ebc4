-- What a process watches, with the places of the bits at whose changes it acts.
use Rattle.std.specs.Prelude.{◌≡◌, ◌&&◌, ℕ, Bool, not, List, length, map, nat_lt}
use Rattle.std.specs.List.{All}
use Rattle.event_machine.specs.Cell.{Cell}
use Rattle.four_state.specs.Masks.{is_set}
use Rattle.design_model.specs.Design.{Design, body_at, cell, signal_at}
use Rattle.design_model.specs.Mentions.{blocking_target, body_mentions}
use Rattle.index_sets.specs.Rows.{row_at}
use Rattle.wake_bits.specs.declared.wakes.Wake.{Wake}

-- the places are those of the bits of a signal that the process does not write, and it is noted whether it mentions the thing
pub record IsWake (d : Design) (writes : Cell → Bool) (mentions : ℕ → Bool) (w : Wake) : Type 0 where
  pub places : (k : ℕ) → is_set w.mask k ≡ (nat_lt k (signal_at d w.thing).width && not (writes (cell w.thing k)))
  pub mentioned : w.mentioned ≡ mentions w.thing

-- these of each thing of a list, in order
pub record AreWakes (d : Design) (writes : Cell → Bool) (mentions : ℕ → Bool) (watched : List ℕ) (ws : List Wake) : Type 0 where
  pub things : map (λ w. w.thing) ws ≡ watched
  pub each : All (IsWake d writes mentions) ws

-- these of what each process watches
pub record AreWakeRows (d : Design) (watched : List (List ℕ)) (rows : List (List Wake)) : Type 0 where
  pub count : length rows ≡ length watched
  pub each : (p : ℕ) → AreWakes d (blocking_target d (body_at d p)) (λ x. body_mentions x (body_at d p)) (row_at watched p) (row_at rows p)
