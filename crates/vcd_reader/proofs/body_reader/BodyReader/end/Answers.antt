use Rattle.std.proofs.Common.{sym, ◌∙◌}
use Rattle.std.proofs.lemmas.Result.{err_from_is_err_and}
use Rattle.vcd_reader.proofs.BodyStanding.{ends_saying, ends_with_fault, ends_alone, ends_open}
use Rattle.vcd_reader.proofs.body_reader.BodyReader.end.Goals as goal

pub returns-then-is_alone-clause-fault : goal.returns-then-is_alone-clause-fault
returns-then-is_alone-clause-fault c = λ text b s. ends_alone c.args.self.now text b c.at.result s (sym (c.is_alone.ensures text b s) ∙ c.if-is_alone.true) c.at.ensures

pub returns-in_err-says-clause-fault : goal.returns-in_err-says-clause-fault
returns-in_err-says-clause-fault c =
    let fault = err_from_is_err_and c.from_residual.result c.from_residual.ensures.1 in
    rw (fault.1, fault.2) (λ text b s. ends_with_fault c.args.filter c.args.self.now text b c.read_kept.new.reading _ s c.in_err-says.ensures (sym (c.is_alone.ensures text b s) ∙ c.if-is_alone.false))

pub returns-then-has_begun-clause-fault : goal.returns-then-has_begun-clause-fault
returns-then-has_begun-clause-fault c = λ text b s. ends_open c.args.filter c.args.self.now text b c.in_ok-says.says c.read_kept.new.reading c.has_begun.result c.at-then-has_begun.result s c.in_ok-says.ensures c.has_begun.ensures c.if-has_begun.true c.at-then-has_begun.ensures

pub returns-clause-ok : goal.returns-clause-ok
returns-clause-ok c = λ text b s. ends_saying c.args.filter c.args.self.now text b c.in_ok-says.says c.read_kept.new.reading c.has_begun.result s c.in_ok-says.ensures (sym (c.is_alone.ensures text b s) ∙ c.if-is_alone.false) c.has_begun.ensures c.if-has_begun.false
