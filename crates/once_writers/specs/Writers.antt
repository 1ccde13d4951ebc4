-- Which process writes an event signal of the dump at most once in each evaluation.
use Rattle.std.specs.Prelude.{◌≡◌, ◌↔◌, ℕ, Bool, false, List, Option, Some, None, slice_index_or}
use Rattle.design_model.specs.Design.{Design}
use Rattle.wake_laws.specs.OfDesign.{IsOnceWriter}

-- the flag of a signal, false where it has no flag
abbrev pub flag_at : List Bool → ℕ → Bool
flag_at flags x = slice_index_or flags x false

-- the writer of a signal, if there is one
abbrev pub writer_at : List (Option ℕ) → ℕ → Option ℕ
writer_at writers x = slice_index_or writers x None

-- the list has the writer of each signal that has one
abbrev pub AreOnceWriters : Design → (ℕ → Bool) → List (Option ℕ) → Type 0
AreOnceWriters d bound writers = (x p : ℕ) → (writer_at writers x ≡ Some p) ↔ IsOnceWriter d bound x p
