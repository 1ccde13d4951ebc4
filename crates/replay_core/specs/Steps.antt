-- How many bodies run in a step.
use Rattle.std.specs.Prelude.{◌≡◌, ◌==◌, ◌||◌, ◌+◌, ℕ, Bool, true, List, length}
use Rattle.std.specs.List.{All, list_any}
use Rattle.design_model.specs.Design.{AreDistinct, Design, process_at}
use Rattle.design_model.specs.Machine.{events_of, is_level}
use Rattle.design_model.specs.Tree.{Process}
use Rattle.design_model.specs.MayMove.{MayMoveAt}
use Rattle.design_model.specs.Shows.{BoundDump}

-- the process has the signal as an event signal
abbrev pub has_event_of : Process → ℕ → Bool
has_event_of p x = list_any (λ e. e.1 == x) (events_of p)

-- the process mentions, lists or has as event signal something that may move in the step that ends at this time
pub record IsSensitive (d : Design) (dump : BoundDump) (t p : ℕ) : Type 0 where
  pub thing : ℕ
  pub watched : is_level (process_at d p) thing || has_event_of (process_at d p) thing ≡ true
  pub moves : MayMoveAt d dump t thing

-- from one count to another there are at most as many steps as there are such processes
pub record CountsSensitive (d : Design) (dump : BoundDump) (t before after : ℕ) : Type 0 where
  pub processes : List ℕ
  pub once : AreDistinct processes
  pub sensitive : All (IsSensitive d dump t) processes
  pub counted : after ≡ before + length processes
