-- The faults of the parser in messages.
use Rattle.std.specs.Prelude.{ℕ, List, codes}
use Rattle.verilog_parser.specs.declared.fault.ParseKind.{ParseKind}
use Rattle.verilog_parser.specs.declared.fault.ParseKind.TheVariants.{Unexpected, EarlyEnd, TooDeep, LeftOut}

-- the stage, the number and the name of a fault
abbrev pub parse_text : ParseKind → List ℕ
parse_text Unexpected = codes "parse 1 Unexpected"
parse_text EarlyEnd = codes "parse 2 EarlyEnd"
parse_text TooDeep = codes "parse 3 TooDeep"
parse_text LeftOut = codes "parse 4 LeftOut"
