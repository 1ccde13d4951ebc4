use Rattle.std.proofs.Common.{◌≡◌, ◌∙◌, false, length, refl, sym, arith}
use Rattle.std.proofs.lemmas.Result.{IfErr-weaker, IfOk-weaker}
use Rattle.std.specs.Prelude.{bytes_eq, codes, decimal}
use Rattle.coverage_db.specs.Text.{text_of}
use Rattle.db_tools.specs.Views.{texts}
use Rattle.db_tools.proofs.HeadLaws.{begins_newest, excluded_by, first_digits, inside_fault, nothing_open, one_opening, open_fault, opening_of, other_digits, version_of_opening, version_one}
use Rattle.db_tools.proofs.read.read_version.Goals as goal

pub returns-then-not-is_first-clause-only : goal.returns-then-not-is_first-clause-only
returns-then-not-is_first-clause-only c =
    let other : bytes_eq c.args.digits.now (codes "1") ≡ false = grind (arith, c.is_first.ensures) in
    λ e text version is spelled.
    let o = opening_of e text c.args.digits.now c.args.rest.now is spelled version in
    absurd (other_digits c.args.digits.now other (version_of_opening text c.args.digits.now c.args.rest.now (decimal (length o.lines)) o.lines (text_of e.table) version o.opens))

pub returns-then-not-is_first-clause-fault : goal.returns-then-not-is_first-clause-fault
returns-then-not-is_first-clause-fault c =
    let other : bytes_eq c.args.digits.now (codes "1") ≡ false = grind (arith, c.is_first.ensures) in
    λ text version. (refl, (c.args.digits.now, c.args.rest.now, version, other_digits c.args.digits.now other))

pub returns-in-Err-clause-only : goal.returns-in-Err-clause-only
returns-in-Err-clause-only c =
    let first = first_digits c.args.digits.now (grind (arith, c.is_first.ensures)) in
    λ e text version is spelled.
    let line = version_one text c.args.digits.now c.args.rest.now first version in
    let o = opening_of e text c.args.digits.now c.args.rest.now is spelled version in
    nothing_open text o.lines (text_of e.table) c.in-Err.fault o.opens (begins_newest e.table (text_of e.table) refl) (c.in-Err.ensures.fault text line)

pub returns-in-Err-clause-fault : goal.returns-in-Err-clause-fault
returns-in-Err-clause-fault c =
    let first = first_digits c.args.digits.now (grind (arith, c.is_first.ensures)) in
    λ text version. open_fault text c.in-Err.fault (c.in-Err.ensures.fault text (version_one text c.args.digits.now c.args.rest.now first version))

pub returns-in-Ok-clause-spelled : goal.returns-in-Ok-clause-spelled
returns-in-Ok-clause-spelled c =
    let first = first_digits c.args.digits.now (grind (arith, c.is_first.ensures)) in
    let lines = texts c.in-Ok.head.lines.items in
    IfOk-weaker c.read_inside.result _ _
    (λ e is text version. excluded_by e text c.in-Ok.head.inner.now lines (c.in-Ok.ensures.opens text (version_one text c.args.digits.now c.args.rest.now first version)) is.0 is.1)
    c.read_inside.ensures.inside

pub returns-in-Ok-clause-only : goal.returns-in-Ok-clause-only
returns-in-Ok-clause-only c =
    let first = first_digits c.args.digits.now (grind (arith, c.is_first.ensures)) in
    let lines = texts c.in-Ok.head.lines.items in
    λ e text version is spelled.
    let line = version_one text c.args.digits.now c.args.rest.now first version in
    let o = opening_of e text c.args.digits.now c.args.rest.now is spelled version in
    let same = one_opening text (decimal (length lines)) (decimal (length o.lines)) lines o.lines c.in-Ok.head.inner.now (text_of e.table) (c.in-Ok.ensures.opens text line) o.opens in
    c.read_inside.ensures.only e is (o.named ∙ sym same.lines_are) same.inner_is

pub returns-in-Ok-clause-fault : goal.returns-in-Ok-clause-fault
returns-in-Ok-clause-fault c =
    let first = first_digits c.args.digits.now (grind (arith, c.is_first.ensures)) in
    let lines = texts c.in-Ok.head.lines.items in
    IfErr-weaker c.read_inside.result _ _
    (λ fault is text version.
    inside_fault text (decimal (length lines)) lines c.in-Ok.head.inner.now fault (c.in-Ok.ensures.opens text (version_one text c.args.digits.now c.args.rest.now first version)) (is (decimal (length lines))))
    c.read_inside.ensures.fault
