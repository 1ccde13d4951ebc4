-- What was kept of the signals that a process writes, before it ran.
use Rattle.std.specs.Prelude.{◌≡◌, ◌<◌, ◌≤◌, ℕ, Bool, if◌then◌else◌, List, length, map, slice_index_or, None}
use Rattle.known_state.specs.Partly.{Partly}
use Rattle.design_model.specs.Design.{Design, signal_cells}
use Rattle.step_values.specs.body_replay.Store.{Kept}
use Rattle.step_values.specs.body_store.Owned.{IsBlank}
use Rattle.process_targets.specs.Placed.{no_bits}
use Rattle.process_targets.specs.declared.bits.Bits.{Bits}
use Rattle.step_values.specs.Vectors.{vector_at}

-- the bits are what was known of the signal, and of what is no cell of the design nothing was
pub record IsSaved (d : Design) (k : Kept) (s : ℕ) (q : Partly) : Type 0 where
  pub blank : IsBlank d k
  pub bits : q.bits ≡ map k (signal_cells d s)

-- the vectors are what was known of the signals of a row, in order
pub record AreSaved (d : Design) (k : Kept) (row : List Bits) (qs : List Partly) : Type 0 where
  pub room : length row ≤ length qs
  pub each : (i : ℕ) → i < length row → IsSaved d k (slice_index_or row i no_bits).signal (vector_at qs i)

-- the same, with nothing known of the things that pass a test
abbrev pub hiding : (ℕ → Bool) → Kept → Kept
hiding test k c = if test c.thing then None else k c
