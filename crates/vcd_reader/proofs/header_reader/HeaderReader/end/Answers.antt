use Rattle.std.proofs.Common.{length}
use Rattle.std.proofs.lemmas.Result.{err_from_is_err_and}
use Rattle.vcd_reader.proofs.FewCodes.{few_codes}
use Rattle.vcd_reader.proofs.HeaderStanding.{end_kept, end_fault, end_cut_short}
use Rattle.vcd_reader.proofs.header_reader.HeaderReader.end.Goals as goal

pub read_last-requires-clause-few : goal.read_last-requires-clause-few
read_last-requires-clause-few c =
    let reader = c.args.self.now in
    few_codes reader.progress (length reader.sections.declared.codes) reader.at c.requires reader.few reader.within

pub returns-in_err-is_last-clause-fault : goal.returns-in_err-is_last-clause-fault
returns-in_err-is_last-clause-fault c =
    let fault = err_from_is_err_and c.from_residual.result c.from_residual.ensures.1 in
    rw (fault.1, fault.2) (λ text stands. end_fault c.args.self.now text _ c.requires stands (rw c.as_slice.ensures.value at c.in_err-is_last.ensures.fault))

pub returns-then-not-is_last-clause-fault : goal.returns-then-not-is_last-clause-fault
returns-then-not-is_last-clause-fault c = λ text stands. end_cut_short c.args.self.now text c.at.result c.in_ok-is_last.is_last _ c.requires stands (rw c.as_slice.ensures.value at c.in_ok-is_last.ensures.ok) c.if-not-is_last.true c.at.ensures

pub returns-clause-ok : goal.returns-clause-ok
returns-clause-ok c = λ text stands. record { at = stands.at; means = end_kept c.args.self.now text c.in_ok-is_last.is_last _ c.requires stands (rw c.as_slice.ensures.value at c.in_ok-is_last.ensures.ok) c.if-not-is_last.false }
