-- The dumps that a design can be scored by.
use Rattle.std.specs.Prelude.{◌≡◌, ◌<◌, ◌≤◌, ℕ, List, [], ◌∷◌, length, Option, Some, None, IsSome, IfSome}
use Rattle.four_state.specs.Vector.{Vector}
use Rattle.design_model.specs.declared.design.Design.{Design}
use Rattle.vcd_reader.specs.Dump.{Dump, DumpStep, last_value, steps_of}
use Rattle.vcd_reader.specs.declared.entry.Entry.{Entry}
use Rattle.vcd_reader.specs.declared.vars.Var.{Var}
use Rattle.signal_binding.specs.Binding.{HasInstance, codes_of}
use Rattle.shown_dumps.specs.Said.{open_stretch}
use Rattle.shown_dumps.specs.Shown.{code_at}

-- the value of a code before the second time, if it has one
abbrev pub first_value : List DumpStep → ℕ → Option Vector
first_value [] code = None
first_value (first ∷ steps) code = last_value code first.changes

-- the signal with this number has a value before the second time, if it has a code
abbrev pub HasFirstValue : List (Option ℕ) → List DumpStep → ℕ → Type 0
HasFirstValue codes steps s = IfSome (code_at codes s) (λ code. IsSome (first_value steps code))

-- in each of these stretches that has a second time, each signal with a code has a value before it
abbrev pub HaveFirstValues : List (Option ℕ) → List (List DumpStep) → Type 0
HaveFirstValues codes [] = Unit {0}
HaveFirstValues codes (steps ∷ later) = (2 ≤ length steps → (s : ℕ) → HasFirstValue codes steps s) × HaveFirstValues codes later

-- the instance is there, and each bound signal has a value before the second time of each stretch that has one
pub record IsBound (design : Design) (dump : Dump) (instance : List ℕ) : Type 0 where
  pub there : HasInstance dump.vars instance
  pub first_values : HaveFirstValues (codes_of design dump.vars instance) dump.stretches

-- the instance is there, the stretch that is on has a second time, and the signal with this number is the first bound one that has no value before it
pub record HasNoBaseline (design : Design) (vars : List Var) (instance : List ℕ) (entries : List Entry) (s : ℕ) : Type 0 where
  pub there : HasInstance vars instance
  pub second : 2 ≤ length (steps_of (open_stretch entries))
  pub listed : s < length design.signals
  pub earlier : (k : ℕ) → k < s → HasFirstValue (codes_of design vars instance) (steps_of (open_stretch entries)) k
  pub code : ℕ
  pub bound : code_at (codes_of design vars instance) s ≡ Some code
  pub none : first_value (steps_of (open_stretch entries)) code ≡ None
