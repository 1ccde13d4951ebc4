use Rattle.std.proofs.Common.{◌∙◌, ◌++◌, [], ap, append-nil, sym}
use Rattle.design_model.specs.Design.{body}
use Rattle.design_model.specs.View.{design_view, process_view, target_view, term_view}
use Rattle.fsm_extract.specs.Walked.{arcs_in, assigned}
use Rattle.fsm_extract.proofs.Listed.{none_open}
use Rattle.fsm_extract.proofs.draw.walk_process.Goals as goal

pub returns-in-Assign-clause-arcs : goal.returns-in-Assign-clause-arcs
returns-in-Assign-clause-arcs c =
    let m = c.args.machine.now in
    let d = design_view m.constants.design.now in
    let old = c.args.found.now.arcs.items in
    let none = none_open (assigned d m.next (target_view c.in-Assign.target) (term_view c.in-Assign.value)) in
    sym (append-nil old) ∙ ap (λ xs. old ++ xs) (sym none) ∙ ap (λ p. old ++ arcs_in d m.current m.next [] (body (process_view p))) (sym c.in-Assign.is)
