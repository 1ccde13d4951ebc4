-- The names that modules have and declare.
use Rattle.std.specs.Prelude.{◌≡◌, true, List}
use Rattle.cov_host.specs.Identifier.{is_identifier}
use Rattle.design_model.specs.Design.{In}
use Rattle.verilog_tree.specs.declared.item.Named.{Named}
use Rattle.verilog_tree.specs.Tree.{Module}
use Rattle.flat_design.specs.Identifiers.{names_of}

-- the name of each module, and each name that it declares, those of instances too, is an identifier
pub record AreNamed (ms : List Module) : Type 0 where
  pub modules : (m : Module) → In m ms → is_identifier m.name.name ≡ true
  pub names : (m : Module) → In m ms → (x : Named) → In x (names_of m) → is_identifier x.name ≡ true
