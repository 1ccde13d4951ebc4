-- The pieces of the program as the pieces of the definition.
use Rattle.std.specs.Prelude.{Option, None, Some}
use Rattle.verilog_lexer.specs.Piece.{Piece, blank, token, define, undefine, condition, inclusion, expansion, fault, Test, if_defined, if_undefined, else_if_defined, otherwise, end_of_condition}
use Rattle.verilog_lexer.specs.declared.piece.Piece.{Piece as CodePiece}
use Rattle.verilog_lexer.specs.declared.piece.Piece.TheVariants as code
use Rattle.verilog_lexer.specs.declared.piece.Test.{Test as CodeTest}
use Rattle.verilog_lexer.specs.declared.piece.Test.TheVariants as code_test

abbrev pub test_view : CodeTest → Test
test_view (code_test.IfDefined name) = if_defined name.now
test_view (code_test.IfUndefined name) = if_undefined name.now
test_view (code_test.ElseIfDefined name) = else_if_defined name.now
test_view code_test.Otherwise = otherwise
test_view code_test.End = end_of_condition

abbrev pub piece_view : CodePiece → Piece
piece_view (code.Blank length) = blank length
piece_view (code.Token kind text) = token kind text.now
piece_view (code.Define name text length) = define name.now text.now length
piece_view (code.Undefine name length) = undefine name.now length
piece_view (code.Condition test length) = condition (test_view test) length
piece_view (code.Inclusion name length) = inclusion name.now length
piece_view (code.Expansion name length) = expansion name.now length
piece_view (code.Fault kind before) = fault kind before

abbrev pub piece_option_view : Option CodePiece → Option Piece
piece_option_view None = None
piece_option_view (Some piece) = Some (piece_view piece)
