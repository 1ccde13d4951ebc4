-- What is set aside of each signal in a step: as it was at the start of the step, and as it was made in it.
use Rattle.std.specs.Prelude.{◌≡◌, ◌<◌, if◌then◌else◌, ℕ, Bool, true, List, Option, length, map, slice_index_or, slice_set}
use Rattle.four_state.specs.declared.bit.Bit.{Bit}
use Rattle.known_state.specs.Join.{joined}
use Rattle.known_state.specs.Partly.{Partly}
use Rattle.design_model.specs.Design.{Design, no_signal, signal_cells}
use Rattle.design_model.specs.declared.design.Signal.{Signal}
use Rattle.store_knowledge.specs.body_replay.Store.{Kept}
use Rattle.store_knowledge.specs.body_calls.Own.{is_in}
use Rattle.store_knowledge.specs.value_store.Signals.{no_value}
use Rattle.store_knowledge.specs.body_store.declared.store.Store.{Store}
use Rattle.store_knowledge.specs.Knows.{Knows}

-- the vectors, by the number of a signal
pub record StepVectors : Type 0 where
  pub before : List Partly  -- at the start of the step
  pub made : List Partly  -- made in the step, before the dump's value took its place

-- the vector of a signal
abbrev pub vector_at : List Partly → ℕ → Partly
vector_at qs s = slice_index_or qs s no_value

-- the bits before a step: as they were known, and where the time is not listed as far as they are known to be the same after it
abbrev pub bits_before : Bool → List (Option Bit) → List (Option Bit) → List (Option Bit)
bits_before listed before after = if listed then before else joined before after

-- there is a vector for each of these signals, as wide as it is
pub record AreWide (signals : List Signal) (qs : List Partly) : Type 0 where
  pub count : length qs ≡ length signals
  pub width : (s : ℕ) → s < length signals → length (vector_at qs s).bits ≡ (slice_index_or signals s no_signal).width

-- there are both for each signal of the design
pub record FitsSignals (d : Design) (v : StepVectors) : Type 0 where
  pub before : AreWide d.signals v.before
  pub made : AreWide d.signals v.made

-- the vector of each signal that is listed is what is known of it
abbrev pub AreKnownBits : Design → Kept → List ℕ → List Partly → Type 0
AreKnownBits d k listed qs = (s : ℕ) → s < length d.signals → is_in listed s ≡ true → (vector_at qs s).bits ≡ map k (signal_cells d s)

-- so are both
pub record AreOpened (d : Design) (k : Kept) (listed : List ℕ) (v : StepVectors) : Type 0 where
  pub before : AreKnownBits d k listed v.before
  pub made : AreKnownBits d k listed v.made

-- what the store knows of signal s is set aside in both
abbrev pub IsSetAside : Store → ℕ → StepVectors → StepVectors → Type 0
IsSetAside x s v w =
    (value : Partly) × (w ≡ record { before = slice_set v.before s value; made = slice_set v.made s value }) × ((d : Design) (k : Kept) → Knows d k x → value.bits ≡ map k (signal_cells d s))
