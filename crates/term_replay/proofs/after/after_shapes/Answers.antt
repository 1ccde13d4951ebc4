use Rattle.std.proofs.Common.{◌∙◌, subst, ap₂}
use Rattle.four_state.specs.Operators.{binary_vector}
use Rattle.known_state.specs.Partly.{whole_of}
use Rattle.term_replay.specs.Plain.{head_in, held, number_at}
use Rattle.term_replay.specs.Stands.{Fitted}
use Rattle.term_replay.proofs.Numbers.{same_operands, sure_binary}
use Rattle.term_replay.proofs.after.after_shapes.Goals as goal

pub binary-value-requires : goal.binary-value-requires
binary-value-requires c = rw (c.vector.ensures, c.vector-2.ensures) (same_operands c.args.op (number_at (head_in c.args.left.now) c.args.one) (number_at (head_in c.args.right.now) c.args.two) c.requires.operands)

pub returns-clause-value : goal.returns-clause-value
returns-clause-value c = λ v first x y sa sc.
    sure_binary v first (head_in c.args.term.now) c.args.op x y (number_at (head_in c.args.left.now) c.args.one) (number_at (head_in c.args.right.now) c.args.two) _ sa sc
    (subst (λ n. Fitted (head_in c.args.term.now) (whole_of n) (held (head_in c.args.term.now) c.settle_vector.result c.settle_vector.new.place)) (c.binary-value.ensures ∙ ap₂ (binary_vector c.args.op) c.vector.ensures c.vector-2.ensures) c.settle_vector.ensures.value)
