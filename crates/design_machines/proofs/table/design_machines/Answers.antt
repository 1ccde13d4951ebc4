use Rattle.std.proofs.Common.{◌≡◌, ◌<◌, ◌∙◌, ◌+◌, ◌++◌, ◌∷◌, [], Err, length, take, ap, sym, subst, arith}
use Rattle.std.proofs.lemmas.Result.{err_from_is_err_and}
use Rattle.state_machines.specs.design_model.Points.{StateNames}
use Rattle.state_machines.specs.design_model.View.{design_view}
use Rattle.state_machines.specs.Seen.{machine_seen}
use Rattle.design_machines.specs.Faults.{IsFaultOf, IsStateFault}
use Rattle.design_machines.proofs.Faults.{handed_on, or_later}
use Rattle.design_machines.proofs.MachineLists.{more_machines, taken}
use Rattle.design_machines.proofs.table.design_machines.Goals as goal

pub returns-in_err-push_machines-in-Some-clause-fault : goal.returns-in_err-push_machines-in-Some-clause-fault
returns-in_err-push_machines-in-Some-clause-fault c = λ f e.
    let d = design_view c.args.design.now in
    let ms = c.args.states.now.named in
    let k = c.loop-place.place in
    let there : k < length ms = omega (arith, c.loop-place-test.true, c.len-place-end.ensures) in
    let m = machine_seen c.in-Some.named in
    let given = err_from_is_err_and c.from_residual.result c.from_residual.ensures.1 in
    let same = handed_on c.from_residual.result c.in_err-push_machines-in-Some.field-0.0 given.0 f given.1 given.2 e in
    let fault = c.in_err-push_machines-in-Some.ensures.fault f (ap Err same) in
    or_later (IsFaultOf d m f) (IsStateFault d ms f) f (λ h. (k, there, subst (λ (n : StateNames). IsFaultOf d n f) c.in-Some.ensures.machine h, c.loop-place.found.items, c.loop-place.invariant)) fault

pub loop-place-preserved : goal.loop-place-preserved
loop-place-preserved c =
    let d = design_view c.args.design.now in
    let ms = c.args.states.now.named in
    let k = c.loop-place.place in
    let m = machine_seen c.in-Some.named in
    let there : k < length ms = omega (arith, c.loop-place-test.true, c.len-place-end.ensures) in
    let step : take (k + 1) ms ≡ take k ms ++ m ∷ [] = taken ms k there ∙ ap (λ (n : StateNames). take k ms ++ n ∷ []) (sym c.in-Some.ensures.machine) in
    let e = c.in_ok-push_machines-in-Some.ensures in
    rw (e.machines.1, step) (more_machines d (take k ms) m c.loop-place.found.items e.machines.0 c.loop-place.invariant e.counted e.placed e.machines.2)
