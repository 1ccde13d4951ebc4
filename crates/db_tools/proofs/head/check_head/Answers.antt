use Rattle.std.proofs.Common.{◌≡◌, ◌∙◌, None, ap, length, refl, sym, arith}
use Rattle.std.proofs.lemmas.List.{length-map}
use Rattle.std.specs.Prelude.{decimal}
use Rattle.coverage_db.specs.Fields.{split_first}
use Rattle.db_tools.specs.Faults.{HasLine}
use Rattle.db_tools.specs.Views.{texts}
use Rattle.db_tools.proofs.HeadLaws.{cut_after, newest_after, number_is, other_after, other_number}
use Rattle.db_tools.proofs.head.check_head.Goals as goal

pub returns-in_default-clause-fault : goal.returns-in_default-clause-fault
returns-in_default-clause-fault c =
    let lines = c.args.head.now.lines.items in
    let none : split_first 10 c.args.head.now.inner.now ≡ None = sym (rw c.in_default.is at c.split_first.ensures) in
    rw c.bad_line.ensures (omega (arith, c.len-count.ensures, length-map lines (λ line. line.now)), cut_after c.args.digits.now (texts lines) c.args.head.now.inner.now none)

pub returns-then-not-is_number-clause-fault : goal.returns-then-not-is_number-clause-fault
returns-then-not-is_number-clause-fault c =
    let lines = c.args.head.now.lines.items in
    let has : HasLine c.args.head.now.inner.now c.in-Some.line.now _ = sym (rw c.in-Some.is at c.split_first.ensures) in
    let counted : c.len-count.result ≡ length (texts lines) = omega (arith, c.len-count.ensures, length-map lines (λ line. line.now)) in
    (refl, other_number c.args.digits.now (texts lines) c.args.head.now.inner.now c.in-Some.line.now _ c.len-count.result has counted (grind (arith, c.is_number.ensures)))

pub returns-then-not-is_newest-clause-fault : goal.returns-then-not-is_newest-clause-fault
returns-then-not-is_newest-clause-fault c =
    let lines = c.args.head.now.lines.items in
    let has : HasLine c.args.head.now.inner.now c.in-Some.line.now _ = sym (rw c.in-Some.is at c.split_first.ensures) in
    rw c.bad_line-then-not-is_newest.ensures (omega (arith, c.len-count.ensures, length-map lines (λ line. line.now)), other_after c.args.digits.now (texts lines) c.args.head.now.inner.now c.in-Some.line.now _ has (grind (arith, c.is_newest.ensures)))

pub returns-clause-count : goal.returns-clause-count
returns-clause-count c =
    let lines = c.args.head.now.lines.items in
    let counted : c.len-count.result ≡ length (texts lines) = omega (arith, c.len-count.ensures, length-map lines (λ line. line.now)) in
    number_is c.args.digits.now c.len-count.result (grind (arith, c.is_number.ensures)) ∙ ap decimal counted

pub returns-clause-newest : goal.returns-clause-newest
returns-clause-newest c =
    let has : HasLine c.args.head.now.inner.now c.in-Some.line.now _ = sym (rw c.in-Some.is at c.split_first.ensures) in
    newest_after c.args.head.now.inner.now c.in-Some.line.now _ has (grind (arith, c.is_newest.ensures))
