use Rattle.tree_places.proofs.Example.{placed, refused}
use Rattle.tree_places.proofs.places_example.Goals as goal

pub returns-clause-placed : goal.returns-clause-placed
returns-clause-placed c = placed

pub returns-clause-refused : goal.returns-clause-refused
returns-clause-refused c = λ h. refused h
