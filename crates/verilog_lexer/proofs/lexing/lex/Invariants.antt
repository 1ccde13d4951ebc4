use Rattle.verilog_lexer.proofs.lexing.lex.Given as goal

abbrev pub ghosts-lex_uncounted : goal.ghosts-lex_uncounted
ghosts-lex_uncounted a = record { name = a.blank.name; parts = a.blank.parts }
