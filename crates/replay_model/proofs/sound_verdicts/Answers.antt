use Rattle.replay_model.proofs.SoundLaws.{sound_verdict_law}
use Rattle.replay_model.proofs.sound_verdicts.Goals as goal

pub returns : goal.returns
returns c = sound_verdict_law
