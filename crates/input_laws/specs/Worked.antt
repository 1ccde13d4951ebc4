-- The worked case: a design of two inputs, one of which the dump has under a name of an inner instance alone, and its dump.
use Rattle.std.specs.Prelude.{◌≡◌, ℕ, false, true, None, Some, List, [], ◌∷◌, codes}
use Rattle.coverage_db.specs.declared.address.Subject.TheVariants.{Toggle}
use Rattle.coverage_db.specs.declared.db.DbInstance.{DbInstance}
use Rattle.coverage_db.specs.declared.db.DbPoint.{DbPoint}
use Rattle.coverage_db.specs.declared.verdict.DbVerdict.{DbVerdict}
use Rattle.coverage_db.specs.declared.verdict.DbVerdict.TheVariants.{Hit, Missed, Undetermined}
use Rattle.design_model.specs.Design.{Design as Tree, cell}
use Rattle.design_model.specs.Shows.{BoundDump}
use Rattle.design_model.specs.View.{design_view}
use Rattle.design_model.specs.declared.design.Design.{Design}
use Rattle.design_model.specs.declared.design.Instance.{Instance}
use Rattle.design_model.specs.declared.design.Signal.{Signal}
use Rattle.four_state.specs.declared.bit.Bit.{Bit}
use Rattle.four_state.specs.declared.bit.Bit.TheVariants.{One, X, Zero}
use Rattle.shown_dumps.specs.Shown.{bound_dump, code_at}
use Rattle.design_model.specs.StillLaw.{BindsInputs}
use Rattle.signal_binding.specs.Binding.{codes_of}
use Rattle.vcd_reader.specs.Dump.{Change, Dump}
use Rattle.input_laws.specs.Exact.{IsExactRow}
use Rattle.input_laws.specs.Inputs.{HasInputsAlone}
use Rattle.input_laws.specs.Shown.{SomeRunShows}
use Rattle.input_laws.specs.Toggled.{TogglesOver}

-- one bit
abbrev pub clk : Signal
clk = record { instance = 0; name = codes "clk"; high = 0; low = 0; ranged = false; width = 1; signed = false; input = true }

-- two bits
abbrev pub a : Signal
a = record { instance = 0; name = codes "a"; high = 1; low = 0; ranged = true; width = 2; signed = false; input = true }

-- the top
abbrev pub outer : Instance
outer = record { path = codes "top"; «module» = codes "top" }

-- an instance in it
abbrev pub inner : Instance
inner = record { path = codes "top.u"; «module» = codes "sub" }

-- the top has the inputs, and the inner instance has a port k that is joined to clk
abbrev pub nested : Design
nested = record {
  top = codes "top";
  instances = outer ∷ inner ∷ [];
  signals = clk ∷ a ∷ [];
  memories = [];
  processes = [];
  constants = [];
  aliases = record { instance = 1; name = codes "k"; signal = 0 } ∷ [];
}

-- a change of a code to bits, the lowest first
abbrev pub changed : ℕ → List Bit → Change
changed code bits = record { code = code; value = record { bits = bits; signed = false } }

-- a dump with the times 0, 5, 10 and 15, that has clk as k of the instance u alone
abbrev pub nested_dump : Dump
nested_dump = record {
  vars = record { scope = codes "tb.dut"; kind = codes "wire"; name = codes "a"; size = 2; code = 0 }
      ∷ record { scope = codes "tb.dut.u"; kind = codes "wire"; name = codes "k"; size = 1; code = 1 } ∷ [];
  stretches = (record { time = 0; changes = changed 0 (Zero ∷ Zero ∷ []) ∷ changed 1 (Zero ∷ []) ∷ [] }
      ∷ record { time = 5; changes = changed 0 (One ∷ Zero ∷ []) ∷ changed 1 (One ∷ []) ∷ [] }
      ∷ record { time = 10; changes = changed 0 (X ∷ One ∷ []) ∷ changed 1 (Zero ∷ []) ∷ [] }
      ∷ record { time = 15; changes = changed 0 (X ∷ Zero ∷ []) ∷ changed 1 (One ∷ []) ∷ [] } ∷ []) ∷ [];
}

-- the design with plain trees
abbrev pub nested_tree : Tree
nested_tree = design_view nested

-- what the dump says of it
abbrev pub nested_values : BoundDump
nested_values = bound_dump nested nested_dump (codes "tb.dut")

-- the design is one of inputs, the dump binds them, by the inner name for clk, and some run shows it
pub record IsWorkedRun : Type 0 where
  pub inputs : HasInputsAlone nested_tree
  pub bound : BindsInputs nested_tree nested_values
  pub inner_name : code_at (codes_of nested nested_dump.vars (codes "tb.dut")) 0 ≡ Some 1
  pub run : SomeRunShows nested_tree nested_values

-- clk rises at 5 and falls at 10; bit 0 of a goes from 1 to x at 10, which is no fall, and bit 1 falls at 15, the last time
pub record AreWorkedToggles : Type 0 where
  pub rises : TogglesOver nested_values (cell 0 0) true
  pub falls : TogglesOver nested_values (cell 0 0) false
  pub unknown : TogglesOver nested_values (cell 1 0) false → ⊥
  pub too_late : TogglesOver nested_values (cell 1 1) false → ⊥

-- the instances in a table of the design
abbrev pub nested_rows : List DbInstance
nested_rows = record { path = outer.path; «module» = outer.«module» } ∷ record { path = inner.path; «module» = inner.«module» } ∷ []

-- the row of the rise of clk with this verdict
abbrev pub clk_rise : DbVerdict → DbPoint
clk_rise verdict = record { address = record { instance = 0; subject = Toggle clk.name None true }; verdict = verdict }

-- that it is hit is exact, and not that it is missed, or undetermined
pub record IsWorkedRow : Type 0 where
  pub hit : IsExactRow nested_tree nested_values nested_rows (clk_rise Hit)
  pub missed : IsExactRow nested_tree nested_values nested_rows (clk_rise Missed) → ⊥
  pub undetermined : (time : ℕ) (path : List ℕ) → IsExactRow nested_tree nested_values nested_rows (clk_rise (Undetermined time path)) → ⊥
