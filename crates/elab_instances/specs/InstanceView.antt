-- The instantiation of the definitions for one of the code.
use Rattle.std.specs.Prelude.{ℕ, List, map, reverse}
use Rattle.std.specs.Borrow.{Bor}
use Rattle.verilog_tree.specs.View.{module_view}
use Rattle.verilog_tree.specs.declared.module.Module.{Module}
use Rattle.flat_design.specs.Instances as spec
use Rattle.elab_declarations.specs.Constants.{overrides_view}
use Rattle.elab_instances.specs.declared.instantiation.Instantiation.{Instantiation}
use Rattle.elab_instances.specs.declared.instantiation.PortAlias.{PortAlias}

-- a port that is joined to a plain name, with the number of the outer signal
abbrev pub alias_view : PortAlias → List ℕ × ℕ
alias_view a = (a.port.now, a.signal)

-- such ports in order
abbrev pub aliases_view : List PortAlias → spec.PortAliases
aliases_view as' = map alias_view as'

-- the names of these modules, the innermost and last one first
abbrev pub around_view : List (Bor Module) → List (List ℕ)
around_view ms = reverse (map (λ m. m.now.name.name) ms)

-- the instantiation
abbrev pub instantiation_view : Instantiation → spec.Instantiation
instantiation_view i =
    record {
      of_module = module_view i.module.now;
      path = i.path;
      overrides = overrides_view i.overrides.items;
      aliases = aliases_view i.aliases.items;
      around = around_view i.around.items;
      item = i.item;
      is_top = i.is_top;
    }
