use Rattle.std.proofs.Common.{◌∙◌, ap, subst, sym}
use Rattle.design_model.specs.Design.{signal_at}
use Rattle.design_model.specs.View.{design_view}
use Rattle.state_machines.specs.Values.{IsNamedSignal}
use Rattle.fsm_extract.proofs.Named.{one_signal}
use Rattle.fsm_extract.proofs.names.signal_as.Goals as goal

pub returns-else-width_of-clause-none : goal.returns-else-width_of-clause-none
returns-else-width_of-clause-none c = λ t h e.
    let d = design_view c.args.design.now in
    let i = c.args.instance in
    let s = c.in_ok-signal.signal in
    let named = subst (λ n. IsNamedSignal d i n s) c.as_bytes.ensures.value c.in_ok-signal.ensures.some in
    let same = one_signal d c.requires.lawful i t s c.args.name.now h named.1 in
    c.if-width_of.false (c.width_of.ensures ∙ e ∙ ap (λ k. (signal_at d k).width) same ∙ sym c.width_of-2.ensures)
