use Rattle.std.proofs.Common.{◌≡◌, ◌<◌, false, eqb, length, refl, sym, ◌∙◌, arith}
use Rattle.std.proofs.lemmas.Result.{err_from_is_err_and, IfErr-weaker, IfOk-weaker}
use Rattle.std.proofs.lemmas.Bool.{eqb-true}
use Rattle.std.proofs.lemmas.Bool.Decides.{nat_tests}
use Rattle.vcd_reader.proofs.BodyStanding.{behind_at, behind_at_end, has_stepped, last_steps, nothing_passed, passing_on}
use Rattle.vcd_reader.proofs.body_reader.BodyReader.step.Goals as goal

pub returns-in_err-says-clause-fault : goal.returns-in_err-says-clause-fault
returns-in_err-says-clause-fault c =
    let fault = err_from_is_err_and c.from_residual.result c.from_residual.ensures.1 in
    let empty = eqb-true (length c.args.piece.now) 0 (sym c.is_empty.ensures ∙ c.if-is_empty.true) in
    rw (fault.1, fault.2) (λ text b s. nothing_passed c.args.filter b _ (behind_at_end c.args.self.now text c.args.piece.now b _ empty s (c.in_err-says.ensures.fault text b s)))

pub returns-in_ok-says-clause-ok : goal.returns-in_ok-says-clause-ok
returns-in_ok-says-clause-ok c = λ text b s.
    let empty = eqb-true (length c.args.piece.now) 0 (sym c.is_empty.ensures ∙ c.if-is_empty.true) in
    rw c.at_end.ensures (passing_on c.args.filter b _ _ (λ m h. last_steps c.in_ok-says.says _ text c.args.piece.now m empty refl h) (c.in_ok-says.ensures.ok text b s))

pub returns-else-is_empty-clause-ok : goal.returns-else-is_empty-clause-ok
returns-else-is_empty-clause-ok c =
    let full : eqb (length c.args.piece.now) 0 ≡ false = sym c.is_empty.ensures ∙ c.if-is_empty.false in
    let some : 0 < length c.args.piece.now = grind (arith, nat_tests, full) in
    IfOk-weaker c.read.result _ _ (λ heard h text b s. passing_on c.args.filter b _ _ (λ m steps. has_stepped _ heard.used c.read.new.self text c.args.piece.now m some steps) (h text b s)) c.read.ensures.ok

pub returns-else-is_empty-clause-fault : goal.returns-else-is_empty-clause-fault
returns-else-is_empty-clause-fault c =
    let full : eqb (length c.args.piece.now) 0 ≡ false = sym c.is_empty.ensures ∙ c.if-is_empty.false in
    let some : 0 < length c.args.piece.now = grind (arith, nat_tests, full) in
    IfErr-weaker c.read.result _ _ (λ f h text b s. passing_on c.args.filter b _ _ (λ m is. behind_at text c.args.piece.now m f some is) (h text b s)) c.read.ensures.fault
