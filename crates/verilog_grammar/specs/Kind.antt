-- What the tokens are to the grammar, and the numbers of these kinds (IEEE 1364-2001 annex A).
use Rattle.std.specs.Prelude.{ℕ, List, [], ◌∷◌, if◌then◌else◌}
use Rattle.std.specs.Str.{bytes_eq}
use Rattle.verilog_lexer.specs.Tokens.{Lexeme}
use Rattle.verilog_lexer.specs.declared.token.TokenKind.{TokenKind}
use Rattle.verilog_lexer.specs.declared.token.TokenKind.TheVariants as lexical
pub use Rattle.verilog_grammar.specs.declared.kind.Kind.{Kind}
use Rattle.verilog_grammar.specs.declared.kind.Kind.TheVariants as k
use Rattle.verilog_grammar.specs.declared.kind.TheConstants.{KEYWORDS, OPERATORS, SYSTEM_NAMES}

abbrev pub code : Kind → ℕ
code k.Nothing = 0
code k.Unknown = 255
code k.Module = 1
code k.Endmodule = 2
code k.Parameter = 3
code k.Signed = 4
code k.Integer = 5
code k.Input = 6
code k.Output = 7
code k.Wire = 8
code k.Reg = 9
code k.Localparam = 10
code k.Assign = 11
code k.Always = 12
code k.Initial = 13
code k.OrWord = 14
code k.Posedge = 15
code k.Negedge = 16
code k.Begin = 17
code k.End = 18
code k.If = 19
code k.Else = 20
code k.Case = 21
code k.Casez = 22
code k.Casex = 23
code k.Endcase = 24
code k.For = 25
code k.Default = 26
code k.Event = 27
code k.Wait = 28
code k.Fork = 29
code k.Join = 30
code k.Force = 31
code k.Release = 32
code k.Deassign = 33
code k.Disable = 34
code k.While = 35
code k.Repeat = 36
code k.Forever = 37
code k.TaskWord = 38
code k.Endtask = 39
code k.Function = 40
code k.Endfunction = 41
code k.Generate = 42
code k.Endgenerate = 43
code k.Genvar = 44
code k.Defparam = 45
code k.AndWord = 46
code k.Nand = 47
code k.Nor = 48
code k.XorWord = 49
code k.Xnor = 50
code k.Buf = 51
code k.NotWord = 52
code k.Bufif0 = 53
code k.Bufif1 = 54
code k.Notif0 = 55
code k.Notif1 = 56
code k.Primitive = 57
code k.Endprimitive = 58
code k.Specify = 59
code k.Endspecify = 60
code k.Tri = 61
code k.Tri0 = 62
code k.Tri1 = 63
code k.Triand = 64
code k.Trior = 65
code k.Trireg = 66
code k.Wand = 67
code k.Wor = 68
code k.Supply0 = 69
code k.Supply1 = 70
code k.Inout = 71
code k.Real = 72
code k.Realtime = 73
code k.Time = 74
code k.Hash = 75
code k.OpenParen = 76
code k.CloseParen = 77
code k.Comma = 78
code k.Semicolon = 79
code k.Equals = 80
code k.OpenBracket = 81
code k.CloseBracket = 82
code k.Colon = 83
code k.At = 84
code k.Star = 85
code k.Dot = 86
code k.OpenBrace = 87
code k.CloseBrace = 88
code k.LessOrEqual = 89
code k.PlusColon = 90
code k.MinusColon = 91
code k.Plus = 92
code k.Minus = 93
code k.Not = 94
code k.Tilde = 95
code k.And = 96
code k.TildeAnd = 97
code k.Or = 98
code k.TildeOr = 99
code k.Xor = 100
code k.TildeXor = 101
code k.XorTilde = 102
code k.Slash = 103
code k.Percent = 104
code k.ShiftLeft = 105
code k.ShiftRight = 106
code k.ArithmeticShiftLeft = 107
code k.ArithmeticShiftRight = 108
code k.Less = 109
code k.Greater = 110
code k.GreaterOrEqual = 111
code k.EqualEqual = 112
code k.NotEqual = 113
code k.CaseEqual = 114
code k.CaseNotEqual = 115
code k.AndAnd = 116
code k.OrOr = 117
code k.Question = 118
code k.Arrow = 119
code k.StarStar = 120
code k.Identifier = 121
code k.Decimal = 122
code k.Based = 123
code k.Quoted = 124
code k.SignedCast = 125
code k.UnsignedCast = 126
code k.Task = 127
code k.InitialTask = 128
code k.OtherSystem = 129

-- the kind of a word by a table, or another one where the table lacks the word
abbrev pub look_up : {A : Type 0} → (text : A → List ℕ) → List (A × Kind) → (word : List ℕ) → (other : Kind) → Kind
look_up text [] word other = other
look_up text (entry ∷ entries) word other = if bytes_eq (text entry.0) word then entry.1 else look_up text entries word other

-- the kind of a token by what it is lexically
abbrev pub kind_of_word : TokenKind → List ℕ → Kind
kind_of_word lexical.Identifier text = k.Identifier
kind_of_word lexical.Keyword text = look_up (λ t. t.now) KEYWORDS text k.Unknown
kind_of_word lexical.System text = look_up (λ t. t.now) SYSTEM_NAMES text k.OtherSystem
kind_of_word lexical.Decimal text = k.Decimal
kind_of_word lexical.Based text = k.Based
kind_of_word lexical.Quoted text = k.Quoted
kind_of_word lexical.Operator text = look_up (λ t. t.now) OPERATORS text k.Unknown

unfoldable pub kind_of : Lexeme → Kind
kind_of token = kind_of_word token.kind token.text

-- the kind of the next token
abbrev pub next_kind : List Lexeme → Kind
next_kind [] = k.Nothing
next_kind (token ∷ others) = kind_of token
