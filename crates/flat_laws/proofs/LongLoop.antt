-- A loop whose test always holds is too long.
use Rattle.std.proofs.Common.{◌≡◌, refl}
use Rattle.std.specs.Prelude.{true, [], ◌∷◌, codes}
use Rattle.verilog_tree.specs.Tree.{Header, literal, identifier}
use Rattle.elab_const.specs.declared.fault.ConstKind.TheVariants.{LoopTooLong}
use Rattle.flat_design.specs.Fault.{of_constant}
use Rattle.flat_design.specs.Loops.{turn_faults}
use Rattle.flat_design.specs.Scope.{Scope, no_names, with_entry}
use Rattle.flat_design.specs.declared.entry.Entry.TheVariants.{LoopVariable as a_loop_variable}
use Rattle.flat_laws.proofs.ExampleParts.{at, known}

-- for (i = 0; 1; i = i)
abbrev endless : Header
endless =
    record {
      place = at 1 1;
      name = identifier (at 1 6) (codes "i");
      first = literal (at 1 10) (known 32 0 true);
      test = literal (at 1 13) (known 32 1 true);
      target = identifier (at 1 16) (codes "i");
      step = identifier (at 1 20) (codes "i");
    }

abbrev scope : Scope
scope = with_entry (codes "i") a_loop_variable no_names

too_long : turn_faults scope endless ≡ of_constant LoopTooLong (at 1 1) ∷ []
too_long = refl
