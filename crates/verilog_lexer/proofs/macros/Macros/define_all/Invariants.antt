use Rattle.std.proofs.Common.{◌≡◌, drop, map}
use Rattle.verilog_lexer.specs.Defines.{with_macros, define_view}
use Rattle.verilog_lexer.specs.MacrosView.{macros_view}
use Rattle.verilog_lexer.proofs.macros.Macros.define_all.Given as goal

abbrev pub invariant-loop-define : goal.invariant-loop-define
invariant-loop-define l = with_macros (macros_view l.self) (map define_view (drop l.define-index l.define-items)) ≡ with_macros (macros_view l.fn.self) l.defines
