use Rattle.std.proofs.Common.{◌≡◌, [], drop}
use Rattle.elab_declarations.specs.DeclarationView.{declarations_view}
use Rattle.elab_scope.specs.Tally.{after_faults}
use Rattle.flat_design.specs.Declarations.{declarations_from, twice_faults}
use Rattle.elab_declarations.proofs.declarations.declare_all.Given as goal

-- with the declarations that are left, the names and the tally are the last ones
abbrev pub invariant-loop-declaration : goal.invariant-loop-declaration
invariant-loop-declaration l =
    record {
      names : declarations_from l.sofar (declarations_view (drop l.declaration-index l.all)) ≡ declarations_from [] (declarations_view l.fn.all);
      met : after_faults l.tally (twice_faults l.sofar (declarations_view (drop l.declaration-index l.all))) ≡ after_faults l.fn.tally (twice_faults [] (declarations_view l.fn.all));
    }
