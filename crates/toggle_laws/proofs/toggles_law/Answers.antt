use Rattle.toggle_laws.proofs.Turns.{all_follow}
use Rattle.toggle_laws.proofs.toggles_law.Goals as goal

pub returns : goal.returns
returns c st machines ps signals before after lawful list moves h = all_follow st ps lawful signals before after moves h machines list
