use Rattle.std.proofs.Common.{◌≡◌, None, inl, refl, sym, arith}
use Rattle.std.proofs.lemmas.List.{length-map}
use Rattle.std.proofs.lemmas.Result.{err_from_is_err_and}
use Rattle.db_tools.specs.Faults.{HasNumber}
use Rattle.db_tools.specs.Reading.{count_parts}
use Rattle.db_tools.specs.Views.{texts}
use Rattle.db_tools.proofs.HeadLaws.{count_takes, head_fault, head_opens, head_short, lacks_count, opens_by}
use Rattle.db_tools.proofs.head.read_head.Goals as goal

pub returns-in_default-clause-fault : goal.returns-in_default-clause-fault
returns-in_default-clause-fault c =
    let none : count_parts c.args.rest.now ≡ None = sym (rw c.in_default.is at c.count_of.ensures) in
    rw c.bad_line.ensures (λ text version. inl (refl, lacks_count text c.args.rest.now version none))

pub returns-in_err-check_head-clause-fault : goal.returns-in_err-check_head-clause-fault
returns-in_err-check_head-clause-fault c =
    let head = c.in_ok-head.head in
    let number : HasNumber c.args.rest.now c.in-Some.digits.now c.in-Some.after.now = count_takes c.args.rest.now c.in-Some.digits.now c.in-Some.after.now (sym (rw c.in-Some.is at c.count_of.ensures)) in
    let fault = err_from_is_err_and c.from_residual-in_err-check_head.result c.from_residual-in_err-check_head.ensures.1 in
    rw (fault.1, fault.2)
    (λ text version. head_fault text c.in-Some.digits.now (texts head.lines.items) head.inner.now _ (opens_by text c.args.rest.now c.in-Some.digits.now c.in-Some.after.now (texts head.lines.items) head.inner.now version number c.in_ok-head.ensures) c.in_err-check_head.ensures.fault)

pub returns-clause-opens : goal.returns-clause-opens
returns-clause-opens c =
    let head = c.in_ok-head.head in
    let lines = texts head.lines.items in
    let number : HasNumber c.args.rest.now c.in-Some.digits.now c.in-Some.after.now = count_takes c.args.rest.now c.in-Some.digits.now c.in-Some.after.now (sym (rw c.in-Some.is at c.count_of.ensures)) in
    λ text version. head_opens text c.args.rest.now c.in-Some.digits.now c.in-Some.after.now lines head.inner.now version number c.in_ok-head.ensures c.in_ok-check_head.ensures.count

pub returns-clause-short : goal.returns-clause-short
returns-clause-short c =
    let head = c.in_ok-head.head in
    let number : HasNumber c.args.rest.now c.in-Some.digits.now c.in-Some.after.now = count_takes c.args.rest.now c.in-Some.digits.now c.in-Some.after.now (sym (rw c.in-Some.is at c.count_of.ensures)) in
    let short = head_short c.args.rest.now c.in-Some.digits.now c.in-Some.after.now (texts head.lines.items) head.inner.now number c.in_ok-head.ensures in
    omega (arith, short, length-map head.lines.items (λ line. line.now), c.requires)

pub check_head-requires : goal.check_head-requires
check_head-requires c =
    let head = c.in_ok-head.head in
    let number : HasNumber c.args.rest.now c.in-Some.digits.now c.in-Some.after.now = count_takes c.args.rest.now c.in-Some.digits.now c.in-Some.after.now (sym (rw c.in-Some.is at c.count_of.ensures)) in
    let short = head_short c.args.rest.now c.in-Some.digits.now c.in-Some.after.now (texts head.lines.items) head.inner.now number c.in_ok-head.ensures in
    omega (arith, short, length-map head.lines.items (λ line. line.now), c.requires)
