use Rattle.std.proofs.Common.{arith, length}
use Rattle.std.proofs.lemmas.Result.{err_from_is_err_and}
use Rattle.verilog_lexer.specs.ReadingView.{reading_view, entry_view}
use Rattle.verilog_lexer.proofs.Stands.{full_faults, opened_faults}
use Rattle.verilog_lexer.proofs.reader.Reader.enter.Goals as goal

pub returns-then-len-eq-DEEPEST-clause-fault : goal.returns-then-len-eq-DEEPEST-clause-fault
returns-then-len-eq-DEEPEST-clause-fault c = rw c.at.ensures (full_faults c.args.self.now.sources.now (length c.args.self.now.waiting.items) c.args.spot (entry_view c.args.entry) (reading_view c.args.self.now.reading) (omega (arith, c.len.ensures.value)))

pub returns-in_err-inside-clause-fault : goal.returns-in_err-inside-clause-fault
returns-in_err-inside-clause-fault c =
    let p = err_from_is_err_and c.from_residual.result c.from_residual.ensures.1 in
    rw (p.1, p.2) (opened_faults c.args.self.now.sources.now (length c.args.self.now.waiting.items) c.args.spot (entry_view c.args.entry) (reading_view c.args.self.now.reading) (omega (arith, c.len.ensures.value)) _ c.in_err-inside.ensures.fault)
