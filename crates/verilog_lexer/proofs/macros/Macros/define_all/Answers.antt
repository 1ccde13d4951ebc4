use Rattle.std.proofs.Common.{◌<◌, length, sym, ◌∙◌, arith}
use Rattle.verilog_lexer.specs.MacrosView.{macros_view}
use Rattle.verilog_lexer.proofs.MacroLemmas.{with_macros_more}
use Rattle.verilog_lexer.proofs.macros.Macros.define_all.Goals as goal

pub loop-define-preserved : goal.loop-define-preserved
loop-define-preserved c =
    let within : c.loop-define.define-index < length c.as_slice-define-items.result.now = omega arith in
    let more = with_macros_more (macros_view c.loop-define.self) c.as_slice-define-items.result.now c.loop-define.define-index c.define-item.result within in
    rw (c.in_ok-define.ensures.ok, c.name.ensures, c.text.ensures) (sym (rw (← c.define-item.is) at more) ∙ c.loop-define.invariant)
