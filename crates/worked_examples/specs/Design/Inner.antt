-- A combinational block with a variable of its own, worked out: a is signal 0, t is 1, y is 2.
--   always @* begin t = a; y = t; end
use Rattle.std.specs.Prelude.{◌≡◌, ◌∷◌, true, false, List, [], slice_index_or, codes}
use Rattle.event_machine.specs.Cell.{Values}
use Rattle.event_machine.specs.Machine.{IsCombinational}
use Rattle.four_state.specs.declared.bit.Bit.{Bit}
use Rattle.four_state.specs.declared.bit.Bit.TheVariants.{One, X}
use Rattle.design_model.specs.Tree.{a_stmt, all_of, block, comb, no_stmts, set, signal}
use Rattle.design_model.specs.Design.{Design, Thing, a_signal, body_at, cell}
use Rattle.design_model.specs.Execution.{at_line, execution, reads}
use Rattle.design_model.specs.Machine.{machine}
use Rattle.design_model.specs.Paths.{ReadsUnwritten, each_writes_whole, reads_signal_before_writing}
use Rattle.design_model.specs.Reads.{ReadsWithin, ReadsFrom}
use Rattle.design_model.specs.ExampleParts.{at, one_bit, one_instance, plain}

-- the design
abbrev pub helped : Design
helped =
    record {
      top = codes "helped";
      instances = one_instance (codes "helped");
      signals = one_bit (codes "a") true ∷ one_bit (codes "t") false ∷ one_bit (codes "y") false ∷ [];
      memories = [];
      processes = comb 0 [] (block (at 11) (a_stmt (set (at 17) 1 true (all_of 1) (signal plain 0)) (a_stmt (set (at 24) 2 true (all_of 2) (signal plain 1)) no_stmts))) ∷ [];
      constants = [];
      aliases = [];
    }

-- the values in which a, t and y are these
abbrev pub helped_values : Bit → Bit → Bit → Values Bit
helped_values a t y c = slice_index_or (a ∷ t ∷ y ∷ []) c.thing X

-- only a is known, with the value 1
abbrev pub only_a : Thing → List Bit → Type 0
only_a x bits = (x ≡ a_signal 0) × (bits ≡ One ∷ [])

-- The read of t is inner, as t is written whole before: so the body reads within the map of a alone, and from that reads a and not t, and it is combinational for y.
pub record IsInnerExample : Type 0 where
  pub visits : (a t y : Bit) → (execution helped (body_at helped 0) (helped_values a t y)).visits ≡ at_line 1 ∷ reads (a_signal 0) false ∷ at_line 2 ∷ reads (a_signal 1) true ∷ []
  pub whole : each_writes_whole helped (body_at helped 0) 1 ≡ true
  pub writes_first : reads_signal_before_writing helped (body_at helped 0) 1 ≡ false
  pub reads_a : ReadsUnwritten helped (body_at helped 0) 0
  pub reads_no_t : ReadsUnwritten helped (body_at helped 0) 1 → ⊥
  pub within : ReadsWithin helped only_a (body_at helped 0)
  pub from_a : ReadsFrom helped only_a (body_at helped 0) (a_signal 0)
  pub not_from_t : ReadsFrom helped only_a (body_at helped 0) (a_signal 1) → ⊥
  pub combinational : IsCombinational (machine helped) 0 (cell 2 0)
