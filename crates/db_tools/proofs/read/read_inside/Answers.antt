use Rattle.std.proofs.Common.{◌∙◌, ap, inl, subst, sym, arith}
use Rattle.std.proofs.lemmas.List.{length-map}
use Rattle.std.proofs.lemmas.Result.{IfErr-weaker, IfOk-weaker}
use Rattle.coverage_db.specs.Faults.{IsTheTable}
use Rattle.coverage_db.specs.Text.{text_of}
use Rattle.db_tools.specs.Faults.{IsInsideFault, moved}
use Rattle.db_tools.specs.Views.{texts}
use Rattle.db_tools.proofs.HeadLaws.{line_fits, mark_fault, moved_fault, newest_text}
use Rattle.db_tools.proofs.read.read_inside.Goals as goal

pub returns-in-Ok-clause-inside : goal.returns-in-Ok-clause-inside
returns-in-Ok-clause-inside c =
    let newest = newest_text c.in-Ok.db c.args.head.now.inner.now c.requires.newest c.in-Ok.ensures.spelled in
    IfOk-weaker c.exclude_named.result _ _ (λ e is. (is.0 ∙ ap texts c.deref.ensures.value, newest ∙ ap text_of (sym is.1))) c.exclude_named.ensures.named

pub returns-in-Ok-clause-only : goal.returns-in-Ok-clause-only
returns-in-Ok-clause-only c = λ e is named text.
    let table = subst (IsTheTable e.table) c.in-Ok.is (c.read_db.ensures.only e.table is.table (inl text) (omega (arith, c.requires.short))) in
    c.exclude_named.ensures.only e is (sym table) (named ∙ ap texts (sym c.deref.ensures.value))

pub returns-in-Ok-clause-fault : goal.returns-in-Ok-clause-fault
returns-in-Ok-clause-fault c =
    let inner = c.args.head.now.inner.now in
    let newest = newest_text c.in-Ok.db inner c.requires.newest c.in-Ok.ensures.spelled in
    IfErr-weaker c.exclude_named.result _ _ (λ fault is digits. mark_fault digits (texts c.args.head.now.lines.items) inner c.in-Ok.db fault c.in-Ok.ensures.table newest is) (rw c.deref.ensures.value at c.exclude_named.ensures.fault)

pub moved-requires : goal.moved-requires
moved-requires c = line_fits c.args.head.now.inner.now c.in-Err.fault _ (omega (arith, c.requires.short)) c.in-Err.ensures.fault

pub returns-in-Err-clause-only : goal.returns-in-Err-clause-only
returns-in-Err-clause-only c = λ e is named text.
    let none = subst (IsTheTable e.table) c.in-Err.is (c.read_db.ensures.only e.table is.table (inl text) (omega (arith, c.requires.short))) in
    c.moved.ensures ∙ ap (moved _) none

pub returns-in-Err-clause-fault : goal.returns-in-Err-clause-fault
returns-in-Err-clause-fault c =
    let lines = c.args.head.now.lines.items in
    let long = length-map lines (λ line. line.now) in
    λ digits.
    rw c.moved.ensures (subst (λ n. IsInsideFault digits (texts lines) c.args.head.now.inner.now (moved n c.in-Err.fault)) (omega (arith, long, c.len.ensures)) (moved_fault c.args.head.now.inner.now digits (texts lines) c.in-Err.fault c.requires.newest (omega (arith, c.requires.short)) c.in-Err.ensures.fault))
