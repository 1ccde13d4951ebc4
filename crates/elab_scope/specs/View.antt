-- The values of the definitions for those of the code.
use Rattle.std.specs.Prelude.{◌+◌, ◌≤◌, List, map}
use Rattle.std.specs.List.{range_with_len}
use Rattle.flat_design.specs.Fault.{Fault, of_constant, of_modules}
use Rattle.flat_design.specs.Targets.{Writing}
use Rattle.elab_scope.specs.declared.fault.FoundFault.{FoundFault}
use Rattle.elab_scope.specs.declared.fault.FoundFault.TheVariants.{Constant, Modules}
use Rattle.elab_scope.specs.declared.names.NameAt.{NameAt}
use Rattle.verilog_tree.specs.declared.item.Named.{Named}
use Rattle.elab_scope.specs.declared.tally.Written.{Written}

-- the fault that was found
abbrev pub fault_view : FoundFault → Fault
fault_view (Constant k p) = of_constant k p
fault_view (Modules k p x) = of_modules k p x.now

-- the name with its place
abbrev pub name_view : NameAt → Named
name_view x = record { name = x.name.now; place = x.place }

-- the target that was written
abbrev pub writing_view : Written → Writing
writing_view w =
    record {
      name = name_view w.name;
      thing = w.thing;
      offsets = range_with_len w.low w.count;
      blocking = w.blocking;
      continuous = w.continuous;
      process = w.process;
    }

-- the names with their places
abbrev pub names_view : List NameAt → List Named
names_view xs = map name_view xs

-- the bits that are written lie within 128
abbrev pub IsWithin : Written → Type 0
IsWithin w = w.low + w.count ≤ 128
