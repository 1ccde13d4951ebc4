use Rattle.verilog_lexer.proofs.ReadFiles.{tokens_stand}
use Rattle.source_places.proofs.TokenPlaces.{turns_on}
use Rattle.source_places.proofs.token_places_law.Goals as goal

pub returns : goal.returns
returns c sources defines tokens counted are = turns_on sources counted 1 tokens (tokens_stand sources defines tokens are)
