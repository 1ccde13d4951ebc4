use Rattle.std.proofs.Common.{◌≡◌, sym, ap, ◌∙◌}
use Rattle.verilog_tree.specs.View.{loop_view}
use Rattle.flat_design.specs.Identifiers.{base_name}
use Rattle.flat_design.specs.Loops.{in_some_turn}
use Rattle.flat_design.specs.Scope.{binding_of, with_entry}
use Rattle.flat_design.specs.declared.entry.Entry.TheVariants.{Turn}
use Rattle.elab_scope.specs.Tally.{after_faults}
use Rattle.elab_checks.specs.Turns.{restored, outer_faults, inner_faults}
use Rattle.elab_checks.proofs.MetLemmas.{after_two}
use Rattle.elab_checks.proofs.RestoredLemmas.{same_itself, same_with, restored_same}
use Rattle.elab_checks.proofs.TurnLemmas.{header_faults_are}
use Rattle.elab_checks.proofs.loops.check_header.Goals as goal

pub returns-clause-kept : goal.returns-clause-kept
returns-clause-kept c =
    let g = binding_of c.args.scope.now in
    let x = c.in_ok-variable.variable in
    let before = c.copied-before.ensures ∙ c.get.ensures.value ∙ ap g c.as_slice.ensures in
    c.in_ok-put_back.ensures ∙ ap (restored x c.copied-before.result) c.in_ok-insert.ensures ∙ restored_same x c.copied-before.result (with_entry x (Turn c.fill.result) g) g (same_with x (Turn c.fill.result) g g (same_itself x g)) (sym before)

pub returns-clause-met : goal.returns-clause-met
returns-clause-met c =
    let g = binding_of c.args.scope.now in
    let h = (loop_view c.args.header.now).0 in
    let x = (base_name h.name).name in
    let turn : binding_of c.insert.new.self ≡ in_some_turn h g =
    c.in_ok-insert.ensures ∙ ap (λ y. with_entry y (Turn c.fill.result) g) c.in_ok-variable.ensures ∙ ap (λ v. with_entry x (Turn v) g) c.fill.ensures
    in
    let inside = c.check_inside-inside.ensures.met ∙ ap (λ f. after_faults c.check_outside-outside.new.tally (inner_faults f h)) turn in
    after_two c.args.tally.now (outer_faults g h) (inner_faults (in_some_turn h g) h) c.check_outside-outside.ensures.met inside ∙ ap (after_faults c.args.tally.now) (sym (header_faults_are g h))
