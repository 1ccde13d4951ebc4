-- The widths of parts that are side by side.
use Rattle.std.specs.Prelude.{ℕ, if◌then◌else◌, List, [], Option, Some, None}
use Rattle.cov_host.specs.declared.place.Place.{Place}
use Rattle.verilog_tree.specs.Tree.{Exprs}
use Rattle.elab_const.specs.Meaning.{parts_of}
use Rattle.flat_design.specs.Expressions.{size_faults}
use Rattle.flat_design.specs.Fault.{Fault}
use Rattle.flat_design.specs.Scope.{Scope, names}
use Rattle.flat_design.specs.Targets.{have_shapes}

-- the widths of the parts together, where each has one
abbrev pub known_width : Scope → Exprs → Option ℕ
known_width g es = if have_shapes g es then Some (parts_of (names g) es).width else None

-- the fault of this number of bits side by side, where that is known
abbrev pub joined_size_faults : Option ℕ → Place → List Fault
joined_size_faults None p = []
joined_size_faults (Some w) p = size_faults w p
