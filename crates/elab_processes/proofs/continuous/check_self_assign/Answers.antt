use Rattle.std.proofs.Common.{sym, ◌∙◌}
use Rattle.verilog_tree.specs.View.{expr_view}
use Rattle.flat_design.specs.Expressions.{faults}
use Rattle.flat_design.specs.Scope.{binding_of}
use Rattle.flat_design.specs.Targets.{target_faults}
use Rattle.flat_design.specs.declared.entry.Mode.TheVariants.{Continuous}
use Rattle.flat_design.proofs.NoConstFaults.{both_none}
use Rattle.elab_processes.proofs.continuous.check_self_assign.Goals as goal

pub check_reads-requires-clause-sound : goal.check_reads-requires-clause-sound
check_reads-requires-clause-sound c =
    let g = binding_of c.args.scope.now in
    let both = both_none (target_faults g Continuous (expr_view c.args.target.now)) (faults g (expr_view c.args.value.now)) (sym c.requires.sound ∙ c.if-not-sound.false) in
    (both.1, sym c.names_faulty-else-names_faulty.ensures ∙ c.if-names_faulty-2.false)
