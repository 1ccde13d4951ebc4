use Rattle.body_store.proofs.Veiling.{same_test}
use Rattle.body_store.proofs.veils.Veils.is_veiled.Goals as goal

pub returns : goal.returns
returns c = same_test c.args.self.now.veiled.items c.args.place c.contains.result c.contains.ensures.0 c.contains.ensures.1
