use Rattle.std.proofs.Common.{sym, ap, ◌∙◌}
use Rattle.verilog_tree.specs.View.{param_view}
use Rattle.flat_design.specs.Declarations.{vector_faults}
use Rattle.flat_design.specs.Expressions.{constant_faults, faults}
use Rattle.flat_design.specs.Scope.{binding_of}
use Rattle.elab_scope.specs.Tally.{after_faults}
use Rattle.elab_scope.proofs.TallyLemmas.{after_faults-append}
use Rattle.elab_declarations.proofs.TypedLemmas.{faulty_by_name, faulty_by_range, faulty_by_value}
use Rattle.elab_declarations.proofs.parameters.param_entry.Goals as goal
use Rattle.elab_declarations.proofs.parameters.param_entry.Goals.{else-vector-via-then-vector+then-sound+else-not-names_faulty, else-vector-via-then-vector+else-sound, else-vector-via-else-vector}

pub returns-then-not-names_faulty-clause-met : goal.returns-then-not-names_faulty-clause-met
returns-then-not-names_faulty-clause-met c =
    let g = binding_of c.args.scope.now in
    let p = param_view c.args.param.now in
    let value = constant_faults g p.value (faults g p.value) in
    c.check_constant-sound.ensures.met ∙ ap (λ t. after_faults t value) c.vector_range-vector.ensures.met ∙ sym (after_faults-append c.args.tally.now (vector_faults g p.range) value)

pub returns-else-vector-clause-met : goal.returns-else-vector-clause-met
returns-else-vector-clause-met c =
    let g = binding_of c.args.scope.now in
    let p = param_view c.args.param.now in
    let value = constant_faults g p.value (faults g p.value) in
    c.check_constant-sound.ensures.met ∙ ap (λ t. after_faults t value) c.vector_range-vector.ensures.met ∙ sym (after_faults-append c.args.tally.now (vector_faults g p.range) value)

pub returns-else-vector-clause-value : goal.returns-else-vector-clause-value
returns-else-vector-clause-value c =
    let g = binding_of c.args.scope.now in
    let p = param_view c.args.param.now in
    elim c.else-vector.branch [
      | else-vector-via-then-vector+then-sound+else-not-names_faulty w ↦ faulty_by_name g c.args.given p (sym w.names_faulty.ensures ∙ w.if-not-names_faulty.false)
      | else-vector-via-then-vector+else-sound w ↦ faulty_by_value g c.args.given p (sym c.check_constant-sound.ensures.sound ∙ w.if-sound.false)
      | else-vector-via-else-vector w ↦ faulty_by_range g c.args.given p (sym c.vector_range-vector.ensures.sound ∙ w.if-vector.false)
    ]
