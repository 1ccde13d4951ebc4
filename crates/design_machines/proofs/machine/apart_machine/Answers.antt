use Rattle.std.proofs.Common.{◌≡◌, ◌<◌, ◌∙◌, List, length, get_or, ap, sym, subst, arith}
use Rattle.std.proofs.lemmas.List.{get_or_default}
use Rattle.four_state.specs.Vector.{Vector}
use Rattle.state_machines.specs.design_model.Design.{no_signal, signal_at}
use Rattle.state_machines.specs.design_model.declared.design.Signal.{Signal}
use Rattle.state_machines.specs.design_model.Points.{IsStateValue}
use Rattle.state_machines.specs.design_model.View.{design_view}
use Rattle.design_machines.specs.Machines.{AreApart}
use Rattle.design_machines.proofs.MachineLists.{widths, zip_length}
use Rattle.design_machines.proofs.machine.apart_machine.Goals as goal

pub first_same-requires : goal.first_same-requires
first_same-requires c = λ k v l.
    let d = design_view c.args.design.now in
    let s = c.args.found.signal in
    let ss = c.as_slice.result.now in
    let vs = c.args.found.values.items in
    let same : c.as_slice-2.result.now ≡ vs = c.as_slice-2.ensures.value in
    let there : s < length ss = omega (arith, c.requires.signal.0, ap length c.as_slice.ensures) in
    let signal : get_or ss s c.index-as_slice-found.result ≡ signal_at d s = get_or_default ss s c.index-as_slice-found.result no_signal there ∙ ap (λ ys. get_or ys s no_signal) c.as_slice.ensures in
    let short : k < length vs = omega (arith, l, ap length same) in
    let width = widths d c.args.instance s c.args.named.now.names.now vs c.requires.values k v short in
    ap (λ (ys : List Vector). length (get_or ys k v).bits) same ∙ width ∙ sym (ap (λ (y : Signal). y.width) signal)

pub same_state-requires : goal.same_state-requires
same_state-requires c =
    let d = design_view c.args.design.now in
    omega (arith, c.in-Some.ensures.some.0, ap length c.as_slice-2.ensures.value, zip_length (IsStateValue d c.args.instance c.args.found.signal) c.args.named.now.names.now c.args.found.values.items c.requires.values)

pub returns-in_ok-whole_machine-in-None-clause-machine : goal.returns-in_ok-whole_machine-in-None-clause-machine
returns-in_ok-whole_machine-in-None-clause-machine c =
    let e = c.in_ok-whole_machine-in-None.ensures in (
      record {
        instance = rw e.0 c.requires.instance;
        variable = e.1;
        signal = rw (e.0, e.2) c.requires.signal;
        names = e.3;
        values = rw (e.0, e.2, e.4) c.requires.values;
        apart = subst AreApart (c.as_slice-2.ensures.value ∙ sym e.4) c.in-None.ensures.none;
        leaving = e.5;
      },
      e.0,
    )
