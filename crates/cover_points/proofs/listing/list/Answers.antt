use Rattle.std.proofs.Common.{◌≡◌, ◌<◌, length, inl, inr, refl, subst, arith}
use Rattle.std.proofs.lemmas.Bool.{cases_lt, false≢true}
use Rattle.std.proofs.lemmas.Result.{err_from_is_err_and}
use Rattle.cover_points.specs.Faults.{IsPointFault, point_fault}
use Rattle.cover_points.specs.Listed.{points_of}
use Rattle.cover_points.specs.declared.fault.PointFault.TheVariants.{TooManyPoints}
use Rattle.cover_points.specs.declared.listing.TheConstants.{MOST_POINTS}
use Rattle.design_model.specs.View.{design_view}
use Rattle.cover_points.proofs.Apart.{points_apart, points_once}
use Rattle.cover_points.proofs.PointFaults.{counted, handed_on, of_machines}
use Rattle.cover_points.proofs.listing.list.Goals as goal

pub returns-in_err-machines-clause-fault : goal.returns-in_err-machines-clause-fault
returns-in_err-machines-clause-fault c = λ f e.
    let d = design_view c.args.design.now in
    let ms = c.args.states.now in
    let x = c.in_err-machines.field-0.0 in
    let given = err_from_is_err_and c.from_residual.result c.from_residual.ensures.1 in
    let same = handed_on c.from_residual.result (point_fault x) given.0 f given.1 given.2 e in
    subst (IsPointFault d ms) same (of_machines d ms x (c.in_err-machines.ensures.fault x refl))

pub returns-in-None-clause-fault : goal.returns-in-None-clause-fault
returns-in-None-clause-fault c = λ f e.
    let d = design_view c.args.design.now in
    let ms = c.args.states.now in
    let points = c.in_ok-points.points in
    let over : MOST_POINTS < length (points_of points) = elim (cases_lt MOST_POINTS (length (points_of points))) [ inl l ↦ l | inr m ↦ absurd (false≢true (c.in-None.ensures.1 (omega arith))) ] in
    let same : TooManyPoints ≡ f = cc in
    subst (IsPointFault d ms) same (points, c.in_ok-points.ensures ms c.requires.drawable c.in_ok-machines.ensures.machines, over)

pub returns-in-Some-clause-apart : goal.returns-in-Some-clause-apart
returns-in-Some-clause-apart c =
    let d = design_view c.args.design.now in
    points_apart d c.args.states.now c.in_ok-points.points (c.in_ok-points.ensures c.args.states.now c.requires.drawable c.in_ok-machines.ensures.machines)

pub returns-in-Some-clause-once : goal.returns-in-Some-clause-once
returns-in-Some-clause-once c =
    let d = design_view c.args.design.now in
    points_once d c.args.states.now c.in_ok-points.points (c.in_ok-points.ensures c.args.states.now c.requires.drawable c.in_ok-machines.ensures.machines)

pub returns-in-Some-clause-placed : goal.returns-in-Some-clause-placed
returns-in-Some-clause-placed c =
    let d = design_view c.args.design.now in
    let listed = c.in_ok-points.ensures c.args.states.now c.requires.drawable c.in_ok-machines.ensures.machines in
    record { placed = listed.placed; counted = counted d c.args.states.now c.in_ok-points.points.machines.items listed.machines }
