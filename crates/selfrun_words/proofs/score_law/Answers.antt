use Rattle.selfrun_words.proofs.Score.{is_selfrun_score}
use Rattle.selfrun_words.proofs.score_law.Goals as goal

pub returns : goal.returns
returns c = is_selfrun_score
