use Rattle.flat_laws.proofs.LawfulDesigns.{answered_lawful}
use Rattle.flat_laws.proofs.lawful_law.Goals as goal

pub returns : goal.returns
returns c ms top d tokens e = answered_lawful ms top d tokens e
