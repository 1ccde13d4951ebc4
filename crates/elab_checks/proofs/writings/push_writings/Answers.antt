use Rattle.std.proofs.Common.{◌≡◌, true, false, map, sym, ap, ◌∙◌}
use Rattle.verilog_tree.specs.View.{expr_view}
use Rattle.flat_design.specs.Fault.{none}
use Rattle.flat_design.specs.Scope.{binding_of, names_faulty}
use Rattle.flat_design.specs.Targets.{target_faults}
use Rattle.elab_scope.specs.Tally.{after_all}
use Rattle.elab_scope.specs.View.{writing_view}
use Rattle.elab_checks.proofs.WritingLemmas.{met_is}
use Rattle.elab_checks.proofs.writings.push_writings.Goals as goal

pub loop-written-init : goal.loop-written-init
loop-written-init c =
    let g = binding_of c.args.scope.now in
    let e = expr_view c.args.expr.now in
    let w = c.args.writer in
    let sound : none (target_faults g c.args.mode e) ≡ true = sym c.requires.sound ∙ c.if-not-sound.false in
    let known : names_faulty g e ≡ false = sym c.names_faulty.ensures ∙ c.if-names_faulty.false in
    ap (after_all c.args.tally.now) (met_is g c.args.mode w.blocking w.continuous w.process e c.deref-written-items.result.now sound known (ap (map writing_view) c.deref-written-items.ensures.value ∙ c.in_ok-all.ensures.value))
