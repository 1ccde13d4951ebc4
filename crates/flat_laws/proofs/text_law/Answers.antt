use Rattle.flat_laws.proofs.Freedom.{answered_text}
use Rattle.flat_laws.proofs.text_law.Goals as goal

pub returns : goal.returns
returns c ms top d e = answered_text ms top d e
