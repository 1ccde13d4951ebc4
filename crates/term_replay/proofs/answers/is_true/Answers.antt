use Rattle.term_replay.proofs.Questions.{true_answer}
use Rattle.term_replay.proofs.answers.is_true.Goals as goal

pub returns : goal.returns
returns c = true_answer c.args.value.now c.holds.result c.holds.ensures
