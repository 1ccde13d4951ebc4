use Rattle.std.proofs.Common.{◌++◌, sym, ap, ◌∙◌}
use Rattle.std.proofs.lemmas.Result.{err_from_is_err_and}
use Rattle.verilog_tree.specs.Tree as t
use Rattle.verilog_tree.specs.View.{param_view}
use Rattle.verilog_grammar.specs.Modules.{param_of, valued_rule}
use Rattle.verilog_items.specs.Declarations.{type_view, param_valued}
use Rattle.verilog_items.proofs.Listed.{viewed_as, both_pushed, list_more, list_done, behind_falls, comma_fails, item_fails}
use Rattle.verilog_items.proofs.parameter.params.Goals as goal

pub more-preserved : goal.more-preserved
more-preserved c = record {
  read =
      list_more _ valued_rule _ _ _ _ _ _ _ _ (viewed_as param_valued _ _ _ _ c.in_ok-push-2.ensures.items (ap (λ (p : t.Param). (p.name, p.value)) c.in_ok-param-2.ensures))
      (sym c.sees.ensures ∙ c.more-test.true) c.in_ok-take.ensures c.in_ok-next.ensures c.more.invariant.read;
  typed =
      both_pushed param_view (param_of c.args.local (type_view c.args.kind.now)) param_valued _ _ _ c.in_ok-push-2.ensures.items c.more.invariant.typed
      (c.in_ok-param-2.ensures ∙ ap (λ v. param_of c.args.local (type_view c.args.kind.now) v) (sym (ap (λ (p : t.Param). (p.name, p.value)) c.in_ok-param-2.ensures)));
}

pub more-smaller : goal.more-smaller
more-smaller c = behind_falls _ valued_rule _ _ _ _ _ c.in_ok-take.ensures c.in_ok-next.ensures

pub returns-clause-read : goal.returns-clause-read
returns-clause-read c = list_done _ valued_rule _ _ _ (sym c.sees.ensures ∙ c.more-test.false) c.more.invariant.read

pub returns-in_err-take-clause-read : goal.returns-in_err-take-clause-read
returns-in_err-take-clause-read c =
    let p = err_from_is_err_and c.from_residual-in_err-take.result c.from_residual-in_err-take.ensures.1 in
    rw (p.1, p.2) (comma_fails ◌++◌ _ valued_rule _ _ _ _ (sym c.sees.ensures ∙ c.more-test.true) c.in_err-take.ensures c.more.invariant.read)

pub returns-in_err-next-clause-read : goal.returns-in_err-next-clause-read
returns-in_err-next-clause-read c =
    let p = err_from_is_err_and c.from_residual-in_err-next.result c.from_residual-in_err-next.ensures.1 in
    rw (p.1, p.2) (item_fails ◌++◌ _ valued_rule _ _ _ _ _ _ (sym c.sees.ensures ∙ c.more-test.true) c.in_ok-take.ensures c.in_err-next.ensures c.more.invariant.read)
