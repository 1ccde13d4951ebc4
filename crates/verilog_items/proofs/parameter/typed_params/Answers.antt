use Rattle.std.proofs.Common.{◌∷◌, sym, ◌∙◌}
use Rattle.std.proofs.lemmas.List.{append-nil}
use Rattle.std.proofs.lemmas.Result.{err_from_is_err_and}
use Rattle.verilog_grammar.specs.Modules.{header_param_rule, header_params, plain_type}
use Rattle.verilog_items.specs.Declarations.{header_param_view, with_params}
use Rattle.verilog_items.proofs.Listed.{made_begun, more_behind, none_behind, behind_falls, comma_fails, item_fails}
use Rattle.verilog_items.proofs.parameter.typed_params.Goals as goal

pub more-init : goal.more-init
more-init c =
    made_begun with_params (header_params plain_type) _ header_param_rule c.in_ok-params.params _ _ _ (λ vs. sym (c.in_ok-params.ensures vs) ∙ c.new.ensures (header_param_view c.in_ok-first.first ∷ vs)) c.in_ok-first.ensures

pub more-preserved : goal.more-preserved
more-preserved c =
    more_behind with_params _ header_param_rule c.more.params c.in_ok-params-2.params _ _ _ _ _ _ c.in_ok-params-2.ensures (sym c.sees.ensures ∙ c.more-test.true) c.in_ok-take.ensures c.in_ok-next.ensures c.more.invariant

pub more-smaller : goal.more-smaller
more-smaller c = behind_falls _ header_param_rule _ _ _ _ _ c.in_ok-take.ensures c.in_ok-next.ensures

pub returns : goal.returns
returns c = let done = none_behind with_params _ header_param_rule c.more.params _ _ (sym c.sees.ensures ∙ c.more-test.false) c.more.invariant in rw append-nil at done

pub returns-in_err-take : goal.returns-in_err-take
returns-in_err-take c =
    let p = err_from_is_err_and c.from_residual-in_err-take.result c.from_residual-in_err-take.ensures.1 in
    rw (p.1, p.2) (comma_fails with_params _ header_param_rule c.more.params _ _ _ (sym c.sees.ensures ∙ c.more-test.true) c.in_err-take.ensures c.more.invariant)

pub returns-in_err-next : goal.returns-in_err-next
returns-in_err-next c =
    let p = err_from_is_err_and c.from_residual-in_err-next.result c.from_residual-in_err-next.ensures.1 in
    rw (p.1, p.2) (item_fails with_params _ header_param_rule c.more.params _ _ _ _ _ (sym c.sees.ensures ∙ c.more-test.true) c.in_ok-take.ensures c.in_err-next.ensures c.more.invariant)
