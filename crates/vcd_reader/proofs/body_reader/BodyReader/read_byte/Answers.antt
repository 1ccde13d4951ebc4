use Rattle.std.proofs.Common.{sym, ◌∙◌, ◌++◌, ◌∷◌, []}
use Rattle.std.proofs.lemmas.Result.{err_from_is_err_and, IfErr-weaker}
use Rattle.vcd_reader.proofs.BodyStanding.{says_nothing}
use Rattle.vcd_reader.proofs.body_reader.BodyReader.read_byte.Goals as goal

pub returns-in_err-push-clause-fault : goal.returns-in_err-push-clause-fault
returns-in_err-push-clause-fault c =
    let fault = err_from_is_err_and c.from_residual.result c.from_residual.ensures.1 in
    rw (fault.1, fault.2) (λ text b s. c.in_err-push.ensures.fault text b (sym c.is_white_space.ensures ∙ c.if-is_white_space.false) s)

pub returns-then-is_white_space-clause-fault : goal.returns-then-is_white_space-clause-fault
returns-then-is_white_space-clause-fault c = IfErr-weaker c.read_space.result _ _ (λ f h text b s. h text c.args.byte b (sym c.is_white_space.ensures ∙ c.if-is_white_space.true) s) c.read_space.ensures.fault

pub returns-in_ok-push-clause-ok : goal.returns-in_ok-push-clause-ok
returns-in_ok-push-clause-ok c = λ text b s. says_nothing c.args.filter c.push.new.self (text ++ c.args.byte ∷ []) b (c.in_ok-push.ensures.ok text b (sym c.is_white_space.ensures ∙ c.if-is_white_space.false) s)
