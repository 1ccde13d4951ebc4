use Rattle.std.proofs.Common.{◌≡◌, true, sym, ap, ◌∙◌, arith, rules}
use Rattle.verilog_tree.specs.View.{expr_view}
use Rattle.flat_design.specs.Expressions.{faults}
use Rattle.flat_design.specs.Scope.{binding_of}
use Rattle.flat_design.specs.Targets.{fixed_faults, signal_target_faults}
use Rattle.elab_scope.specs.Tally.{after_faults}
use Rattle.elab_scope.proofs.TallyLemmas.{after_faults-append}
use Rattle.elab_checks.proofs.TargetLemmas.{net_faults}
use Rattle.elab_checks.proofs.targets.check_signal.Goals as goal
use Rattle.elab_checks.proofs.targets.check_signal.Goals.{in-Continuous, in_default}

pub returns-else-check_fixed-clause-met : goal.returns-else-check_fixed-clause-met
returns-else-check_fixed-clause-met c =
    let g = binding_of c.args.scope.now in
    let e = expr_view c.args.expr.now in
    let both = c.check_fixed.ensures.met ∙ ap (λ t. after_faults t (fixed_faults g e)) c.check-sound.ensures.met ∙ sym (after_faults-append c.args.tally.now (faults g e) (fixed_faults g e)) in
    elim c.match-matches.branch [
      | in-Continuous w ↦
          let matches = w.matches-is in
          let net : c.args.signal.net ≡ true = grind arith in
          both ∙ ap (after_faults c.args.tally.now) (sym (ap (λ m. signal_target_faults g m c.args.signal e) w.in-Continuous.is ∙ net_faults g c.args.signal e c.if-signal.false net))
      | in_default w ↦ absurd (search rules)
    ]
