use Rattle.std.proofs.Common.{◌∙◌, sym}
use Rattle.verilog_tree.specs.View.{expr_view}
use Rattle.elab_const.specs.Scope.{look_up}
use Rattle.elab_const.proofs.AnswerLemmas.{constant_is}
use Rattle.elab_const.proofs.calls.constant_in.Goals as goal

pub returns : goal.returns
returns c = c.alone.ensures ∙ constant_is (look_up c.args.names.now) (expr_view c.args.expr.now) (sym c.is_constant.ensures ∙ c.if-not-is_constant.false)
