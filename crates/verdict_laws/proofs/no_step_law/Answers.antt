use Rattle.verdict_laws.proofs.NoStep.{no_reasons, no_sound}
use Rattle.verdict_laws.proofs.no_step_law.Goals as goal

pub returns-clause-sound : goal.returns-clause-sound
returns-clause-sound c d h dump points a none silent = no_sound d h dump points a none silent

pub returns-clause-reasoned : goal.returns-clause-reasoned
returns-clause-reasoned c d h dump points a none silent = no_reasons d h dump points a none silent
