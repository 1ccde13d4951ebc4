-- What decides which names of an instance are signals of its own.
use Rattle.std.specs.Prelude.{ℕ, Bool, List, Option}
use Rattle.flat_design.specs.Instances.{Instantiation, is_named_signal, alias_number}
use Rattle.elab_scope.specs.NameMap.{bound_to}
use Rattle.elab_instances.specs.Uses.{named_by}
use Rattle.elab_instances.specs.declared.roles.Links.{Links}

-- which integers are signals, and the outer signals of the ports that are joined to plain names
pub record Linked : Type 0 where
  pub named : List ℕ → Bool
  pub outer : List ℕ → Option ℕ

-- those of an instance
abbrev pub linked_of : Instantiation → Linked
linked_of i = record { named = is_named_signal i.of_module; outer = alias_number i.aliases }

-- those that were found
abbrev pub links_view : Links → Linked
links_view l = record { named = named_by l.uses; outer = bound_to l.aliases }
