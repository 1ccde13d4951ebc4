use Rattle.tree_places.proofs.Modules.{placed_at_tokens}
use Rattle.tree_places.proofs.places_law.Goals as goal

pub returns : goal.returns
returns c tokens ms s = placed_at_tokens tokens ms s
