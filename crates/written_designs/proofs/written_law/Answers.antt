use Rattle.written_designs.proofs.Written.{design_written}
use Rattle.written_designs.proofs.written_law.Goals as goal

pub returns : goal.returns
returns c sources defines tokens ms top d within names some lexed spelled e = design_written sources defines tokens ms top d within names some lexed spelled e
