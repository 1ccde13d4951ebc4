-- The faults of the lexer in messages.
use Rattle.std.specs.Prelude.{ℕ, List, codes}
use Rattle.verilog_lexer.specs.declared.fault.LexKind.{LexKind}
use Rattle.verilog_lexer.specs.declared.fault.LexKind.TheVariants.{BadByte, BadNumber, OpenComment, OpenCondition, UnknownDirective, UnknownMacro, MacroDepth, TooManyTokens, IncludeMissing, SourcesTooLong, TooManySources, ExpansionTooLong}

-- the stage, the number and the name of a fault
abbrev pub lex_text : LexKind → List ℕ
lex_text BadByte = codes "lex 1 BadByte"
lex_text BadNumber = codes "lex 2 BadNumber"
lex_text OpenComment = codes "lex 3 OpenComment"
lex_text OpenCondition = codes "lex 4 OpenCondition"
lex_text UnknownDirective = codes "lex 5 UnknownDirective"
lex_text UnknownMacro = codes "lex 6 UnknownMacro"
lex_text MacroDepth = codes "lex 7 MacroDepth"
lex_text TooManyTokens = codes "lex 8 TooManyTokens"
lex_text IncludeMissing = codes "lex 9 IncludeMissing"
lex_text SourcesTooLong = codes "lex 10 SourcesTooLong"
lex_text TooManySources = codes "lex 11 TooManySources"
lex_text ExpansionTooLong = codes "lex 12 ExpansionTooLong"
