use Rattle.std.proofs.Common.{refl}
use Rattle.std.proofs.lemmas.Result.{err_from_is_err_and}
use Rattle.vcd_reader.proofs.WholeWords.{word_said, word_fault}
use Rattle.vcd_reader.proofs.body_reader.BodyReader.read_word.Goals as goal

pub returns-in_err-says-clause-fault : goal.returns-in_err-says-clause-fault
returns-in_err-says-clause-fault c =
    let fault = err_from_is_err_and c.from_residual.result c.from_residual.ensures.1 in
    rw (fault.1, fault.2) (λ text space b none black white s. word_fault c.args.filter c.args.self.now text c.args.word.now space b c.read_whole.new.reading _ c.in_err-says.ensures c.requires none black white s)

pub returns-clause-ok : goal.returns-clause-ok
returns-clause-ok c = λ text space b none black white s. word_said c.args.filter c.args.self.now _ text c.args.word.now space b c.in_ok-says.says c.in_ok-says.ensures c.requires refl refl refl refl none black white s
