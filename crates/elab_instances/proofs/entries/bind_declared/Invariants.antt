use Rattle.std.proofs.Common.{◌≡◌, drop}
use Rattle.flat_design.specs.Scope.{binding_of}
use Rattle.elab_declarations.specs.DeclarationView.{declarations_view}
use Rattle.elab_instances.specs.Behind.{or_bound}
use Rattle.elab_instances.specs.Entering.{numbers_past, role_entries}
use Rattle.elab_instances.specs.Linked.{links_view}
use Rattle.elab_instances.proofs.entries.bind_declared.Given as goal

-- the names so far, and after them the others, are all, and so are the numbers
abbrev pub invariant-loop-declaration : goal.invariant-loop-declaration
invariant-loop-declaration l =
    let rest = declarations_view (drop l.declaration-index l.declared) in
    let all = declarations_view l.fn.declared in
    record {
      scope : or_bound (binding_of l.scope) (role_entries (links_view l.links) l.numbers rest) ≡ or_bound (binding_of l.fn.scope) (role_entries (links_view l.fn.links) l.fn.first all);
      next : numbers_past (links_view l.links) l.numbers rest ≡ numbers_past (links_view l.fn.links) l.fn.first all;
    }
