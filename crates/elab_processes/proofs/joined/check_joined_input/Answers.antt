use Rattle.std.proofs.Common.{◌≡◌, [], ◌∷◌, subst}
use Rattle.std.specs.Prelude.{OnOk}
use Rattle.verilog_tree.specs.View.{expr_view}
use Rattle.flat_design.specs.Bodies.{met_process, met_writing}
use Rattle.flat_design.specs.Expressions.{faults}
use Rattle.flat_design.specs.Processes.{whole_writing}
use Rattle.flat_design.specs.Scope.{binding_of}
use Rattle.flat_design.specs.Targets.{Writing}
use Rattle.elab_scope.specs.Tally.{after}
use Rattle.elab_scope.specs.View.{name_view}
use Rattle.elab_processes.proofs.MetLemmas.{process_met}
use Rattle.elab_processes.proofs.joined.check_joined_input.Goals as goal

pub returns : goal.returns
returns c =
    let IsTold : Writing → Type 0 = λ w. OnOk c.writing.result (c.writing.new.self ≡ after c.check.new.tally (met_writing w)) in
    process_met c.writing.result c.args.tally.now c.process.new.self c.check.new.tally c.writing.new.self
    (met_process c.args.place) (faults (binding_of c.args.scope.now) (expr_view c.args.value.now)) (met_writing (whole_writing c.args.process (name_view c.args.label) c.args.signal) ∷ [])
    c.process.ensures c.check.ensures.met (subst IsTold c.whole.ensures.value c.writing.ensures)
