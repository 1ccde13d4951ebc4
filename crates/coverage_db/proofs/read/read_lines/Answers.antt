use Rattle.std.proofs.Common.{sym, ◌∙◌, arith, ap}
use Rattle.std.proofs.lemmas.Result.{err_from_is_err_and}
use Rattle.coverage_db.specs.declared.draft.Draft.{Draft}
use Rattle.coverage_db.specs.Text.{lines_of}
use Rattle.coverage_db.specs.Drafting.{read_lines, reading}
use Rattle.coverage_db.proofs.ReadingLaws.{read_start, read_draft, read_next, goes_on, returned_err, returned_end}
use Rattle.coverage_db.proofs.Splitting.{split_shorter}
use Rattle.coverage_db.proofs.read.read_lines.Goals as goal

pub take_line-requires : goal.take_line-requires
take_line-requires c = read_draft c.loop-line.draft c.loop-line.number c.loop-line.invariant.read (omega (arith, c.loop-line.invariant.short))

pub returns-in_err-take_line : goal.returns-in_err-take_line
returns-in_err-take_line c =
    let p = err_from_is_err_and c.from_residual.result c.from_residual.ensures.1 in
    rw (p.1, p.2) (returned_err c.in_err-take_line.field-0.0 c.loop-line.draft c.take_line.new.self c.loop-line.number c.loop-line.rest.now c.in-Some.line.now c.in-Some.after.now (reading c.args.alloc c.args.bytes.now) (sym (rw c.in-Some.is at c.split_first.ensures)) c.in_err-take_line.ensures c.loop-line.invariant.goes_on)

pub loop-line-init : goal.loop-line-init
loop-line-init c = record {
  goes_on = ap (λ (d : Draft). read_lines 1 d (lines_of c.args.bytes.now)) c.new-draft.ensures;
  read = rw c.new-draft.ensures (read_start c.args.alloc);
  short = omega (arith, c.requires);
}

pub loop-line-smaller : goal.loop-line-smaller
loop-line-smaller c = split_shorter 10 c.loop-line.rest.now c.in-Some.line.now c.in-Some.after.now (sym (rw c.in-Some.is at c.split_first.ensures))

pub loop-line-preserved : goal.loop-line-preserved
loop-line-preserved c =
    let split = sym (rw c.in-Some.is at c.split_first.ensures) in
    record {
      goes_on = sym (goes_on c.loop-line.number c.loop-line.draft c.loop-line.rest.now c.in-Some.line.now c.in-Some.after.now c.take_line.new.self split c.in_ok-take_line.ensures) ∙ c.loop-line.invariant.goes_on;
      read = read_next c.loop-line.draft c.loop-line.number c.in-Some.line.now c.take_line.new.self c.loop-line.invariant.read (omega (arith, c.loop-line.invariant.short)) c.in_ok-take_line.ensures;
      short = omega (arith, c.loop-line.invariant.short, split_shorter 10 c.loop-line.rest.now c.in-Some.line.now c.in-Some.after.now split);
    }

pub returns : goal.returns
returns c = returned_end c.finish.result c.loop-line.draft c.loop-line.number c.loop-line.rest.now (reading c.args.alloc c.args.bytes.now) (sym (rw c.in_default.is at c.split_first.ensures)) c.finish.ensures c.loop-line.invariant.goes_on
