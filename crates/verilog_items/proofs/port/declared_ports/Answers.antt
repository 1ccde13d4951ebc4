use Rattle.std.proofs.Common.{sym, ap, ◌∙◌, Ok}
use Rattle.std.proofs.lemmas.Result.{err_from_is_err_and}
use Rattle.verilog_grammar.specs.Modules.{Ports, port_rule, entry_rule, entries_rule, declared_ports}
use Rattle.verilog_items.specs.Declarations.{with_entries}
use Rattle.verilog_items.proofs.Listed.{both_begun, more_behind, none_behind, behind_falls, comma_fails, item_fails}
use Rattle.verilog_items.proofs.port.declared_ports.Goals as goal

pub more-init : goal.more-init
unfolding entries_rule
more-init c = both_begun with_entries declared_ports _ port_rule entry_rule c.in_ok-ports.ports _ _ _ c.in_ok-ports.ensures c.in_ok-head.ensures

pub more-preserved : goal.more-preserved
more-preserved c =
    more_behind with_entries _ entry_rule c.more.ports c.in_ok-ports-2.ports _ _ _ _ _ _ c.in_ok-ports-2.ensures (sym c.sees.ensures ∙ c.more-test.true) c.in_ok-take.ensures c.in_ok-next.ensures c.more.invariant

pub more-smaller : goal.more-smaller
more-smaller c = behind_falls _ entry_rule _ _ _ _ _ c.in_ok-take.ensures c.in_ok-next.ensures

pub returns : goal.returns
returns c = let done = none_behind with_entries _ entry_rule c.more.ports _ _ (sym c.sees.ensures ∙ c.more-test.false) c.more.invariant in done ∙ ap (λ (x : Ports). Ok (x, c.more.cursor)) c.in_ok-close.ensures

pub returns-in_err-take : goal.returns-in_err-take
returns-in_err-take c =
    let p = err_from_is_err_and c.from_residual-in_err-take.result c.from_residual-in_err-take.ensures.1 in
    rw (p.1, p.2) (comma_fails with_entries _ entry_rule c.more.ports _ _ _ (sym c.sees.ensures ∙ c.more-test.true) c.in_err-take.ensures c.more.invariant)

pub returns-in_err-next : goal.returns-in_err-next
returns-in_err-next c =
    let p = err_from_is_err_and c.from_residual-in_err-next.result c.from_residual-in_err-next.ensures.1 in
    rw (p.1, p.2) (item_fails with_entries _ entry_rule c.more.ports _ _ _ _ _ (sym c.sees.ensures ∙ c.more-test.true) c.in_ok-take.ensures c.in_err-next.ensures c.more.invariant)
