use Rattle.input_laws.proofs.Texts.{no_contradiction_law, shown_law}
use Rattle.input_laws.proofs.shown_law.Goals as goal

pub returns-clause-shown : goal.returns-clause-shown
returns-clause-shown c = shown_law

pub returns-clause-no_contradiction : goal.returns-clause-no_contradiction
returns-clause-no_contradiction c = no_contradiction_law
