use Rattle.std.proofs.Common.{ℕ, List, ◌++◌, get_or, subst}
use Rattle.std.proofs.lemmas.Result.{err_from_is_err_and}
use Rattle.vcd_reader.specs.BodyStanding.{SaysNext}
use Rattle.vcd_reader.specs.Hearing.{said_by}
use Rattle.vcd_reader.specs.Passing.{Passing}
use Rattle.vcd_reader.proofs.WholeWords.{is_front, fault_in_front, fault_of_byte}
use Rattle.vcd_reader.proofs.body_reader.BodyReader.read_word_or_byte.Goals as goal

pub returns-in_err-says-in-Some-clause-fault : goal.returns-in_err-says-in-Some-clause-fault
returns-in_err-says-in-Some-clause-fault c =
    let fault = err_from_is_err_and c.from_residual.result c.from_residual.ensures.1 in
    let front = is_front c.args.piece.now c.in-Some.length c.in-Some.ensures.end in
    let refused = rw c.split_at.ensures.front at c.in_err-says-in-Some.ensures.fault in
    rw (fault.1, fault.2) (λ text b s. fault_in_front text c.args.piece.now c.in-Some.length b _ front (refused text (get_or c.args.piece.now c.in-Some.length 0) b c.in-Some.ensures.none front.black front.white s))

pub returns-in_err-says-in-None-clause-fault : goal.returns-in_err-says-in-None-clause-fault
returns-in_err-says-in-None-clause-fault c =
    let fault = err_from_is_err_and c.from_residual-in_err-says-in-None.result c.from_residual-in_err-says-in-None.ensures.1 in
    rw (fault.1, fault.2) (λ text b s. fault_of_byte text c.args.piece.now _ b _ c.requires (c.in_err-says-in-None.ensures.fault text b s))

pub returns-in_ok-says-in-Some-clause-ok : goal.returns-in_ok-says-in-Some-clause-ok
returns-in_ok-says-in-Some-clause-ok c = λ text b s.
    let front = is_front c.args.piece.now c.in-Some.length c.in-Some.ensures.end in
    let says = rw c.split_at.ensures.front at c.in_ok-says-in-Some.ensures.ok in
    subst (λ (t : List ℕ). Passing c.args.filter b (SaysNext (said_by c.in_ok-says-in-Some.says c.read_word.new.self.reading) c.read_word.new.self (text ++ t))) front.is (says text (get_or c.args.piece.now c.in-Some.length 0) b c.in-Some.ensures.none front.black front.white s)
