use Rattle.std.proofs.Common.{◌∙◌, ap, sym}
use Rattle.elab_const.specs.Loops.{turns_answer}
use Rattle.flat_design.specs.Scope.{binding_of}
use Rattle.verilog_tree.specs.View.{loop_view}
use Rattle.elab_bodies.proofs.SoundLoops.{found_turns, no_turn_fault}
use Rattle.elab_bodies.proofs.statements.turns_of.Goals as goal

pub unreachable-requires : goal.unreachable-requires
unreachable-requires c =
    let g = binding_of c.args.scope.now in
    let h = (loop_view c.args.header.now).0 in
    let found = rw c.in-Err-At.field-0-is at c.in-Err-At.ensures in
    no_turn_fault g h c.in-Err-At.field-0-0 c.in-Err-At.field-0-1 c.requires.clear c.requires.sound (ap (λ names. turns_answer names h) (sym c.values.ensures) ∙ found)

pub returns-in-Ok : goal.returns-in-Ok
returns-in-Ok c =
    let g = binding_of c.args.scope.now in
    let h = (loop_view c.args.header.now).0 in
    found_turns g h c.in-Ok.values c.requires.clear c.requires.sound (ap (λ names. turns_answer names h) (sym c.values.ensures) ∙ c.in-Ok.ensures)
