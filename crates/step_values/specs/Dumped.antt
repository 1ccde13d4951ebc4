-- The dump's values of signals.
use Rattle.std.specs.Prelude.{◌≡◌, ◌<◌, ◌&&◌, ℕ, true, if◌then◌else◌, nat_lt, List, length, slice_index_or, Option, Some, None}
use Rattle.std.specs.List.{All}
use Rattle.event_machine.specs.Cell.{Values}
use Rattle.four_state.specs.Vector.{Vector}
use Rattle.four_state.specs.declared.bit.Bit.{Bit}
use Rattle.design_model.specs.Design.{Design, signal_at, signal_bits}
use Rattle.store_knowledge.specs.body_replay.Store.{Kept}
use Rattle.store_knowledge.specs.body_calls.Own.{is_in}
use Rattle.code_values.specs.Values.{value_of}
use Rattle.step_values.specs.Loose.{has_code}

-- each signal with a code has these bits by the value of its code
abbrev pub AreDumped : Design → List (Option ℕ) → List (Option Vector) → Values Bit → Type 0
AreDumped d codes values new =
    (s code : ℕ) → slice_index_or codes s None ≡ Some code → (v : Vector) × (value_of values code ≡ Some v) × (v.bits ≡ signal_bits d new s)

-- the value of a code, if there is one
abbrev pub coded_value : List (Option Vector) → Option ℕ → Option Vector
coded_value values None = None
coded_value values (Some code) = value_of values code

-- what the dump says of a signal, if it says something
abbrev pub dumped_of : List (Option ℕ) → List (Option Vector) → ℕ → Option Vector
dumped_of codes values s = coded_value values (slice_index_or codes s None)

-- each of these is a signal of the design with a code
abbrev pub HaveCodes : Design → List (Option ℕ) → List ℕ → Type 0
HaveCodes d codes ss = All (λ s. (s < length d.signals) × (has_code codes s ≡ true)) ss

-- the same, with these bits of the signals that are listed
abbrev pub putting : Design → List ℕ → Values Bit → Kept → Kept
putting d listed new k c = if is_in listed c.thing && nat_lt c.place (signal_at d c.thing).width then Some (new c) else k c
