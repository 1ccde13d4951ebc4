use Rattle.term_replay.proofs.Questions.{sure_answer, unsure_answer}
use Rattle.term_replay.proofs.answers.is_false.Goals as goal

pub returns-in-Sure : goal.returns-in-Sure
returns-in-Sure c = sure_answer c.args.value.now c.in-Sure.truth c.sure_false.result c.in-Sure.ensures c.sure_false.ensures

pub returns-in-Unsure : goal.returns-in-Unsure
returns-in-Unsure c = unsure_answer c.args.value.now c.in-Unsure.thing c.may_be_false.result c.in-Unsure.ensures c.may_be_false.ensures
