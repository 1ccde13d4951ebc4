-- What is known of the bits that the dump has.
use Rattle.std.specs.Prelude.{◌≡◌, ℕ, Bool, true, false, List, slice_index_or, Option, Some, None}
use Rattle.event_machine.specs.Cell.{Cell, Values}
use Rattle.event_machine.specs.Habit.{Habit}
use Rattle.four_state.specs.Vector.{Vector}
use Rattle.four_state.specs.declared.bit.Bit.{Bit}
use Rattle.design_model.specs.Design.{Design}
use Rattle.design_model.specs.Shows.{BindsSignals, BoundDump, IsShown}
use Rattle.store_knowledge.specs.body_replay.Store.{Kept}
use Rattle.store_knowledge.specs.body_calls.Own.{is_in}
use Rattle.code_values.specs.Values.{value_of}
use Rattle.replay_steps.specs.replay_model.Stands.{AreKnown}
use Rattle.replay_steps.specs.replay_model.Step.{Replay, is_dumped}
use Rattle.replay_steps.specs.replay_model.Tables.{Tables}
use Rattle.step_values.specs.Dumped.{AreDumped}
use Rattle.step_values.specs.Loose.{has_code}

-- of the bits that the dump has these are known
abbrev pub KnowsDump : Design → (ℕ → Bool) → Kept → Values Bit → Type 0
KnowsDump d bound k v = (c : Cell) → is_dumped d bound c ≡ true → k c ≡ Some (v c)

-- after a closed step the dump's values are known
abbrev pub BoundLaw : Type 0
BoundLaw =
    (d : Design) (h : Habit) (dump : BoundDump) (tables : Tables) (t : ℕ) (a : Replay) → BindsSignals d dump → IsShown dump t → AreKnown d h dump tables t a
    → KnowsDump d dump.bound a.kept (dump.values t)

-- the code of each signal that is not listed has the same value in both
abbrev pub AreListed : List (Option ℕ) → List (Option Vector) → List (Option Vector) → List ℕ → Type 0
AreListed codes closed last changed =
    (s code : ℕ) → slice_index_or codes s None ≡ Some code → is_in changed s ≡ false → ((value_of closed code ≡ value_of last code → ⊥) → ⊥)

-- where the dump's old values are known, so are the new ones of the signals that are not listed
abbrev pub StillLaw : Type 0
StillLaw =
    (d : Design) (bound : ℕ → Bool) (k : Kept) (codes : List (Option ℕ)) (closed last : List (Option Vector)) (old new : Values Bit) (changed : List ℕ)
    → ((s : ℕ) → bound s ≡ has_code codes s) → AreDumped d codes closed old → AreDumped d codes last new → AreListed codes closed last changed → KnowsDump d bound k old
    → (c : Cell) → is_dumped d bound c ≡ true → is_in changed c.thing ≡ false → k c ≡ Some (new c)
