use Rattle.std.proofs.Common.{◌∙◌, subst, ap}
use Rattle.four_state.specs.Operators.{unary_vector}
use Rattle.known_state.specs.Partly.{whole_of}
use Rattle.term_replay.specs.Plain.{head_in, held, number_at}
use Rattle.term_replay.specs.Stands.{Fitted, Stands}
use Rattle.term_replay.proofs.Numbers.{sure_unary}
use Rattle.term_replay.proofs.after.after_operand.Goals as goal

pub returns-in-Some-clause-value : goal.returns-in-Some-clause-value
returns-in-Some-clause-value c = λ v first x sa.
    sure_unary v first (head_in c.args.term.now) c.args.op x (number_at (head_in c.args.operand.now) c.in-Some.number) _ (subst (λ o. Stands v first x (held (head_in c.args.operand.now) o c.args.place.now)) c.in-Some.is sa)
    (subst (λ n. Fitted (head_in c.args.term.now) (whole_of n) (held (head_in c.args.term.now) c.settle_vector.result c.settle_vector.new.place)) (c.unary-value.ensures ∙ ap (unary_vector c.args.op) c.vector.ensures) c.settle_vector.ensures.value)

pub returns-in-None-clause-value : goal.returns-in-None-clause-value
returns-in-None-clause-value c = λ v first x sa.
    c.after_placed.ensures.value v first x (subst (λ o. Stands v first x (held (head_in c.args.operand.now) o c.args.place.now)) c.in-None.is sa)
