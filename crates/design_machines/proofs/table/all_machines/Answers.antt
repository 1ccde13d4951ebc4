use Rattle.std.proofs.Common.{◌≡◌, ◌∙◌, ◌++◌, Err, List, map, ap, sym, subst}
use Rattle.std.specs.List.{All}
use Rattle.std.proofs.lemmas.Result.{err_from_is_err_and}
use Rattle.state_machines.specs.declared.drawn.Drawn.{Drawn}
use Rattle.state_machines.specs.design_model.View.{design_view}
use Rattle.design_machines.specs.Drawn.{AreAllMachines, HasOneWidth, drawn_machine}
use Rattle.design_machines.proofs.AllMachines.{all_are, one_widths}
use Rattle.design_machines.proofs.Faults.{handed_on}
use Rattle.design_machines.proofs.table.all_machines.Goals as goal

pub push_drawn-requires : goal.push_drawn-requires
push_drawn-requires c = subst (λ (es : List Drawn). All HasOneWidth es) (sym c.drawn.ensures) (one_widths (design_view c.args.design.now) c.args.states.now c.requires.drawable)

pub returns-in_err-machines-clause-fault : goal.returns-in_err-machines-clause-fault
returns-in_err-machines-clause-fault c = λ f e.
    let given = err_from_is_err_and c.from_residual.result c.from_residual.ensures.1 in
    let same = handed_on c.from_residual.result c.in_err-machines.field-0.0 given.0 f given.1 given.2 e in
    c.in_err-machines.ensures.fault f (ap Err same)

pub returns-clause-machines : goal.returns-clause-machines
returns-clause-machines c =
    let d = design_view c.args.design.now in
    let ms = c.args.states.now in
    let named = c.in_ok-machines.machines.items in
    let is = c.in_ok-push_drawn.ensures ∙ ap (λ (es : List Drawn). named ++ map drawn_machine es) c.drawn.ensures in
    subst (AreAllMachines d ms) (sym is) (all_are d ms c.requires.drawable named c.in_ok-machines.ensures.machines)
