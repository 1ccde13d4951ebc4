-- What holds of each dump that goes on from what was read.
use Rattle.std.specs.Prelude.{◌≡◌, ◌<◌, ◌≤◌, ◌-◌, ◌++◌, ℕ, List, ◌∷◌, length, Option, Some, None, IsSome}
use Rattle.std.specs.Option.{option_map}
use Rattle.four_state.specs.Vector.{Vector}
use Rattle.four_state.specs.declared.bit.Bit.{Bit}
use Rattle.design_model.specs.Design.{signal_bits}
use Rattle.design_model.specs.Shows.{BoundDump, IsShown}
use Rattle.design_model.specs.View.{design_view}
use Rattle.design_model.specs.declared.design.Design.{Design}
use Rattle.vcd_reader.specs.Dump.{steps_of, stretches_of}
use Rattle.vcd_reader.specs.Times.{Rises, last_time}
use Rattle.vcd_reader.specs.declared.entry.Entry.{Entry}
use Rattle.vcd_reader.specs.declared.entry.Entry.TheVariants.{Time}
use Rattle.vcd_reader.specs.declared.vars.Var.{Var}
use Rattle.entry_laws.specs.Entries.{AreEntries}
use Rattle.signal_binding.specs.Binding.{codes_of}
use Rattle.shown_dumps.specs.Bound.{first_value}
use Rattle.shown_dumps.specs.Laws.{dump_with}
use Rattle.shown_dumps.specs.Said.{EndsIn, ended_at, open_stretch, times_in, value_after}
use Rattle.shown_dumps.specs.Shown.{code_at, dump_of}

-- this holds of each dump whose body begins with these entries, and of the moment before the last time of the stretch that is on, if it has two
abbrev pub HoldsOn : (BoundDump → ℕ → Type 0) → List (Option ℕ) → List Entry → Type 0
HoldsOn P codes entries =
    (before last : ℕ) → EndsIn (times_in (open_stretch entries)) before last → (more : List Entry) → Rises None (entries ++ more) → P (dump_of codes (stretches_of (entries ++ more))) (last - 1)

-- the time is one up to which nothing more of the dump is shown, after the stretches that have ended
pub record IsPauseUntil (dump : BoundDump) (end t : ℕ) : Type 0 where
  pub later : end ≤ t
  pub none : (u : ℕ) → end ≤ u → u < t → IsShown dump u → ⊥

-- this holds of each dump whose body begins with these entries, and of each such time
abbrev pub HoldsPaused : (BoundDump → ℕ → Type 0) → List (Option ℕ) → List Entry → Type 0
HoldsPaused P codes entries =
    (more : List Entry) (t : ℕ) → Rises None (entries ++ more) → IsPauseUntil (dump_of codes (stretches_of (entries ++ more))) (ended_at entries) t
    → P (dump_of codes (stretches_of (entries ++ more))) t

-- the bits of a value, if there is one
abbrev pub bits_of : Option Vector → Option (List Bit)
bits_of value = option_map (λ v. v.bits) value

-- the values of the codes that signals have are those of the last changes in the stretch that is on, their signs aside
abbrev pub AreGiven : List (Option ℕ) → (ℕ → Option Vector) → List Entry → Type 0
AreGiven codes values entries = (s code : ℕ) → code_at codes s ≡ Some code → bits_of (values code) ≡ bits_of (value_after (open_stretch entries) code)

-- each signal with a code has a value, and these are its bits
abbrev pub AreValues : Design → List (Option ℕ) → (ℕ → Option Vector) → BoundDump → ℕ → Type 0
AreValues design codes values dump t =
    (s code : ℕ) → code_at codes s ≡ Some code → (v : Vector) × (values code ≡ Some v) × (v.bits ≡ signal_bits (design_view design) (dump.values t) s)

-- from the last time of the stretch that is on, up to the next one, they are those of the dump
abbrev pub GivenLaw : Type 0
GivenLaw =
    (design : Design) (vars : List Var) (instance : List ℕ) (values : ℕ → Option Vector) (entries more : List Entry) (last next t : ℕ) → AreEntries vars entries
    → Rises None (entries ++ Time next ∷ more) → last_time None (open_stretch entries) ≡ Some last → last ≤ t → t < next → AreGiven (codes_of design vars instance) values entries
    → ((s code : ℕ) → code_at (codes_of design vars instance) s ≡ Some code → IsSome (values code))
    → AreValues design (codes_of design vars instance) values (dump_with (codes_of design vars instance) entries next more) t

-- after the second time of a stretch its first values stay
abbrev pub FirstStaysLaw : Type 0
FirstStaysLaw = (stretch more : List Entry) (code : ℕ) → 2 ≤ length (times_in stretch) → first_value (steps_of (stretch ++ more)) code ≡ first_value (steps_of stretch) code
