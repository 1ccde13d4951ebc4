use Rattle.std.proofs.Common.{◌++◌, ◌∷◌, [], List, Err, ap, sym, subst, append_assoc}
use Rattle.std.proofs.lemmas.Bool.{iff_false}
use Rattle.std.proofs.lemmas.Result.{err_from_is_err_and}
use Rattle.state_machines.specs.design_model.View.{design_view}
use Rattle.state_machines.specs.design_model.declared.design.Instance.{Instance}
use Rattle.state_machines.specs.Seen.{machine_seen}
use Rattle.design_machines.specs.Machines.{IsOfModule}
use Rattle.design_machines.proofs.Faults.{handed_on, in_instance}
use Rattle.design_machines.proofs.MachineLists.{one_below, other_below}
use Rattle.design_machines.proofs.found.push_machines.Goals as goal
use Rattle.design_machines.proofs.found.push_machines.Goals.{then-is_of_module+in_ok-machine_at+in_ok-add, else-is_of_module}

pub returns-in_err-machine_at-clause-fault : goal.returns-in_err-machine_at-clause-fault
returns-in_err-machine_at-clause-fault c = λ f e.
    let d = design_view c.args.design.now in
    let m = machine_seen c.args.named.now in
    let n = c.loop-number.number in
    let counted = c.is_counted.ensures.0 c.if-not-is_counted.false in
    let of_module = c.is_of_module.ensures.0 c.if-is_of_module.true in
    let at = subst (λ (is : List Instance). IsOfModule is n c.args.named.now.«module».now) c.as_slice-instances.ensures of_module in
    let given = err_from_is_err_and c.from_residual.result c.from_residual.ensures.1 in
    let same = handed_on c.from_residual.result c.in_err-machine_at.field-0.0 given.0 f given.1 given.2 e in
    in_instance d m n f c.loop-number.invariant.0 counted at c.loop-number.invariant.2 (c.in_err-machine_at.ensures.fault f (ap Err same))

pub loop-number-preserved : goal.loop-number-preserved
loop-number-preserved c =
    let d = design_view c.args.design.now in
    let m = machine_seen c.args.named.now in
    let n = c.loop-number.number in
    let xs = c.loop-number.invariant.0 in
    let is = c.loop-number.invariant.1 in
    let below = c.loop-number.invariant.2 in
    elim c.if-is_of_module.branch [
      | then-is_of_module+in_ok-machine_at+in_ok-add w ↦
          (let y = w.in_ok-machine_at.field-0 in
          let added = w.in_ok-add.ensures in
          let found = w.found-is in
          let joined = append_assoc c.args.found.now.items xs (y ∷ []) in
          (xs ++ y ∷ [], cc, one_below d m n xs y below w.in_ok-machine_at.ensures.machine.0 w.in_ok-machine_at.ensures.machine.1))
      | else-is_of_module w ↦
          (let found = w.found-is in
          let other = iff_false c.is_of_module.ensures w.if-is_of_module.false in
          (xs, cc, other_below d m n xs below (λ at. other (subst (λ (is : List Instance). IsOfModule is n c.args.named.now.«module».now) (sym c.as_slice-instances.ensures) at))))
    ]
