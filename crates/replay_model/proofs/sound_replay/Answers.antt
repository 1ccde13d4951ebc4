use Rattle.replay_model.proofs.SoundLaws.{first_sound_law, rest_sound_law, step_sound_law}
use Rattle.replay_model.proofs.sound_replay.Goals as goal

pub returns-clause-first : goal.returns-clause-first
returns-clause-first c = first_sound_law

pub returns-clause-step : goal.returns-clause-step
returns-clause-step c = step_sound_law

pub returns-clause-rest : goal.returns-clause-rest
returns-clause-rest c = rest_sound_law
