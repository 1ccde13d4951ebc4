-- What is clear contradicts itself in no dump, and what follows for a signal that an Assign both drives and mentions.
use Rattle.std.specs.Prelude.{◌≡◌, ℕ, true, false, List}
use Rattle.design_model.specs.event_machine.Cell.{Values}
use Rattle.design_model.specs.event_machine.Habit.{Habit}
use Rattle.design_model.specs.four_state.declared.bit.Bit.{Bit}
use Rattle.design_model.specs.Design.{Design, Thing, a_signal, body_at, is_assign, process_at}
use Rattle.design_model.specs.Mentions.{body_assigns, body_mentions}
use Rattle.design_model.specs.Reads.{Agrees, HasValue}
use Rattle.design_model.specs.Shows.{BoundDump}
use Rattle.design_model.specs.Clear.{clear}

-- Consistency law: it cannot be that no state agrees with what is clear, whatever the dump says and whether or not a run shows it.
abbrev pub ConsistentLaw : Design → Habit → Type 0
ConsistentLaw d h = (dump : BoundDump) (t : ℕ) → ((v : Values Bit) → Agrees d (clear d h dump t) v → ⊥) → ⊥

-- One-value law: so what is clear has one value.
abbrev pub OneValueLaw : Design → Habit → Type 0
OneValueLaw d h = (dump : BoundDump) (t : ℕ) (x : Thing) (a b : List Bit) → clear d h dump t x a → clear d h dump t x b → a ≡ b

-- Own signals: a signal that the dump lacks and that an Assign both drives and mentions is never clear.
abbrev pub HasOwnUnclear : Design → Type 0
HasOwnUnclear d =
    (h : Habit) (dump : BoundDump) (t p y : ℕ) → is_assign (process_at d p) ≡ true → body_mentions y (body_at d p) ≡ true
    → body_assigns y (body_at d p) ≡ true → dump.bound y ≡ false → HasValue (clear d h dump t) (a_signal y)
    → ⊥
