use Rattle.std.proofs.Common.{ap}
use Rattle.verilog_lexer.proofs.Spots.{places_rise, after_all-inside}
use Rattle.verilog_lexer.proofs.laws.places_rise.Goals as goal

pub returns-clause-rise : goal.returns-clause-rise
returns-clause-rise c = λ place bytes some. places_rise bytes place some

pub returns-clause-stay : goal.returns-clause-stay
returns-clause-stay c = λ place bytes. ap (λ spot. spot.place) (after_all-inside place bytes)
