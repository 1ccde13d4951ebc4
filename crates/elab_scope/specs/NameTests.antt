-- Tests of what the names of an expression mean.
use Rattle.std.specs.Prelude.{Bool, not, List, Option}
use Rattle.std.specs.List.{list_any}
use Rattle.flat_design.specs.Expressions.{is_no_constant}
use Rattle.flat_design.specs.Scope.{Scope, look_up, is_constant_entry, is_faulty_entry, is_thing_entry}
use Rattle.flat_design.specs.declared.entry.Entry.{Entry}
use Rattle.verilog_tree.specs.declared.item.Named.{Named}
use Rattle.elab_scope.specs.declared.names.NameTest.{NameTest}
use Rattle.elab_scope.specs.declared.names.NameTest.TheVariants.{Thing, Faulty, NoConstant, Variable}

-- what a name means passes the test
abbrev pub passes : NameTest → Option Entry → Bool
passes Thing e = is_thing_entry e
passes Faulty e = is_faulty_entry e
passes NoConstant e = is_no_constant e
passes Variable e = not (is_constant_entry e)

-- one of the names passes the test
abbrev pub pass_some : NameTest → Scope → List Named → Bool
pass_some t g xs = list_any (λ x. passes t (look_up g x.name)) xs
