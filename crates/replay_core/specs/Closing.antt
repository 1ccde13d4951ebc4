-- What the first step and a closing step do to the parts of a replay.
use Rattle.std.specs.Prelude.{◌≡◌, ℕ, Bool, suc}
use Rattle.design_model.specs.Shows.{BoundDump, IsFirst, IsShown, IsWindow}
use Rattle.dump_check.specs.declared.order.Difference.{Difference}
use Rattle.replay_follows.specs.Follows.{Pauses, Subject}
use Rattle.replay_follows.specs.Laws.{AreGiven}
use Rattle.replay_model.specs.Step.{Replay}
use Rattle.hidden_times.specs.Hidden.{is_listed}
use Rattle.first_step.specs.step_values.Dumped.{AreDumped}
use Rattle.wake_laws.specs.Laws.{habit_of}
use Rattle.replay_core.specs.Faults.{IsRefuted}
use Rattle.replay_core.specs.Made.{Following, HasFollows, IsDumpFor, Made, subject_of}
use Rattle.replay_core.specs.Steps.{CountsSensitive}

-- the parts have followed the dump up to a time, and the next step is to be closed, at a time that is listed or not
pub record IsDueAt (f : Subject) (t : ℕ) (listed : Bool) (a : Replay) (x : Following) : Type 0 where
  pub follows : HasFollows f t a x
  pub given : AreGiven f x.parts (suc t)
  pub window : IsWindow f.dump (suc t)
  pub kind : is_listed f.dump (suc t) ≡ listed

-- a fact of each dump of which the step that ends at this time is to be closed
abbrev pub ForDue : Made → ℕ → Bool → Following → (BoundDump → ℕ → Type 0) → Type 0
ForDue m end listed x holds = (dump : BoundDump) (t : ℕ) (a : Replay) → end ≡ suc t → IsDueAt (subject_of m dump) t listed a x → holds dump (suc t)

-- after the step the parts have followed each such dump up to its end
abbrev pub Closes : Made → ℕ → Bool → Following → Following → Type 0
Closes m end listed x y = ForDue m end listed x (λ dump t. (b : Replay) × HasFollows (subject_of m dump) t b y)

-- what was found refutes each such dump
abbrev pub Refutes : Made → ℕ → Bool → Following → Difference → Type 0
Refutes m end listed x found = ForDue m end listed x (λ dump t. IsRefuted m.design (habit_of m.habit) dump t found.signal found.dumped found.computed.bits)

-- so many bodies run in it
abbrev pub Counts : Made → ℕ → Bool → Following → ℕ → ℕ → Type 0
Counts m end listed x before after = ForDue m end listed x (λ dump t. CountsSensitive m.design dump t before after)

-- a fact of each dump for which the parts are paused at this time, where it is the first of a stretch with these values
abbrev pub ForFirst : Made → ℕ → Following → (BoundDump → Type 0) → Type 0
ForFirst m t x holds =
    (dump : BoundDump) (a : Replay) → IsDumpFor m dump → Pauses (subject_of m dump) t a x.parts → IsFirst dump t → IsShown dump t → AreDumped m.design m.codes x.parts.values.last (dump.values t) → holds dump

-- after the first step the parts have followed each such dump up to this time
abbrev pub Starts : Made → ℕ → Following → Following → Type 0
Starts m t x y = ForFirst m t x (λ dump. (b : Replay) × HasFollows (subject_of m dump) t b y)

-- what was found refutes each such dump
abbrev pub RefutesFirst : Made → ℕ → Following → Difference → Type 0
RefutesFirst m t x found = ForFirst m t x (λ dump. IsRefuted m.design (habit_of m.habit) dump t found.signal found.dumped found.computed.bits)
