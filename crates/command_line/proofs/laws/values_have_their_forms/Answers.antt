use Rattle.command_line.proofs.ScoreForms.{score_forms}
use Rattle.command_line.proofs.laws.values_have_their_forms.Goals as goal

pub returns : goal.returns
returns c = score_forms
