use Rattle.std.proofs.Common.{◌≡◌, ◌+◌, suc, length, [], ◌∷◌, ◌++◌, Ok, Err, sym, ap, ◌∙◌, arith}
use Rattle.std.specs.Prelude.{◌*◌}
use Rattle.tree_sizes.specs.Sizes.{header_size}
use Rattle.verilog_tree.specs.View.{loop_view}
use Rattle.elab_const.specs.Calls.{told}
use Rattle.elab_const.specs.Loops.{turns_answer}
use Rattle.elab_const.specs.Scope.{fault_at}
use Rattle.flat_design.specs.Bodies.{met_faults, met_text}
use Rattle.flat_design.specs.Fault.{answer_faults}
use Rattle.flat_design.specs.Loops.{times}
use Rattle.flat_design.specs.Scope.{binding_of, names}
use Rattle.elab_scope.specs.Tally.{after, after_all}
use Rattle.elab_checks.proofs.loops.found_turns.Goals as goal

pub returns-in-Ok-clause-met : goal.returns-in-Ok-clause-met
returns-in-Ok-clause-met c =
    let h = (loop_view c.args.header.now).0 in
    let t = c.args.tally.now in
    let vs = c.in-Ok.values in
    let answer = turns_answer (names (binding_of c.args.scope.now)) h in
    let is : answer ≡ Ok vs = ap (λ s. turns_answer s h) (sym c.values.ensures) ∙ c.in-Ok.ensures in
    let length_is : length c.as_slice.result.now ≡ length vs = ap length c.as_slice.ensures in
    let count : 1 + length c.as_slice.result.now ≡ suc (length vs) = omega arith in
    let counted = c.turns-in-Ok.ensures ∙ ap (λ n. after t (met_text h.place (header_size h * n))) count in
    counted ∙ ap (λ r. let a = told r in after_all t (met_faults (answer_faults a) ++ met_text h.place (header_size h * times a) ∷ [])) (sym is)

pub returns-in-Err-At-clause-met : goal.returns-in-Err-At-clause-met
returns-in-Err-At-clause-met c =
    let h = (loop_view c.args.header.now).0 in
    let t = c.args.tally.now in
    let answer = turns_answer (names (binding_of c.args.scope.now)) h in
    let is : answer ≡ Err (fault_at c.in-Err-At.kind c.in-Err-At.place) = ap (λ s. turns_answer s h) (sym c.values.ensures) ∙ (rw c.in-Err-At.field-0-is at c.in-Err-At.ensures) in
    let counted = c.turns-in-Err-At.ensures ∙ ap (λ s. after s (met_text h.place (header_size h * 1025))) c.fault.ensures in
    counted ∙ ap (λ r. let a = told r in after_all t (met_faults (answer_faults a) ++ met_text h.place (header_size h * times a) ∷ [])) (sym is)
