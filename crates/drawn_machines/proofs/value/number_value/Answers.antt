use Rattle.std.proofs.Common.{◌≡◌, ℕ, ◌∙◌, ◌<◌, ◌≤◌, ◌^◌, List, length, get_or, ap, subst, sym, arith}
use Rattle.std.proofs.lemmas.List.{get_or_default}
use Rattle.design_model.specs.Design.{Design, no_signal, signal_at}
use Rattle.design_model.specs.View.{design_view}
use Rattle.design_model.specs.declared.design.Signal.{Signal}
use Rattle.fsm_extract.proofs.Bounds.{signal_bounds}
use Rattle.four_state.specs.Masks.{bits_of_masks}
use Rattle.four_state.specs.Vector.{Vector}
use Rattle.four_state.specs.declared.bit.Bit.{Bit}
use Rattle.drawn_machines.proofs.Numbers.{number_bits}
use Rattle.drawn_machines.proofs.value.number_value.Goals as goal

-- the signal that is read is that of the design
own_signal : (d : Design) (ss : List Signal) (s : ℕ) (x : Signal) → s < length d.signals → ss ≡ d.signals → get_or ss s x ≡ signal_at d s
own_signal d ss s x l same = get_or_default ss s x no_signal (omega (arith, l, ap (λ (ys : List Signal). length ys) same)) ∙ ap (λ ys. get_or ys s no_signal) same

pub make-requires-clause-at_least : goal.make-requires-clause-at_least
make-requires-clause-at_least c =
    let d = design_view c.args.design.now in
    let own = c.index-as_slice-signal.is ∙ own_signal d c.as_slice.result.now c.args.signal c.index-as_slice-signal.result c.requires.listed c.as_slice.ensures in
    subst (λ (x : Signal). 1 ≤ x.width) (sym own) (signal_bounds d c.requires.lawful c.args.signal c.requires.listed).0

pub make-requires-clause-at_most : goal.make-requires-clause-at_most
make-requires-clause-at_most c =
    let d = design_view c.args.design.now in
    let own = c.index-as_slice-signal.is ∙ own_signal d c.as_slice.result.now c.args.signal c.index-as_slice-signal.result c.requires.listed c.as_slice.ensures in
    subst (λ (x : Signal). x.width ≤ 128) (sym own) (signal_bounds d c.requires.lawful c.args.signal c.requires.listed).1

pub make-requires-clause-ones_inside : goal.make-requires-clause-ones_inside
make-requires-clause-ones_inside c =
    let d = design_view c.args.design.now in
    let own = c.index-as_slice-signal.is ∙ own_signal d c.as_slice.result.now c.args.signal c.index-as_slice-signal.result c.requires.listed c.as_slice.ensures in
    subst (λ (x : Signal). c.args.number < 2 ^ x.width) (sym own) c.requires.inside

pub returns : goal.returns
returns c =
    let d = design_view c.args.design.now in
    let s = c.args.signal in
    let own = c.index-as_slice-signal.is ∙ own_signal d c.as_slice.result.now s c.index-as_slice-signal.result c.requires.listed c.as_slice.ensures in
    let make : Signal → Vector = λ (x : Signal). record { bits = bits_of_masks x.width c.args.number 0; signed = x.signed } in
    let signs : List Bit → Vector = λ (bs : List Bit). record { bits = bs; signed = (signal_at d s).signed } in
    c.make.ensures.value ∙ ap make own ∙ ap signs (number_bits (signal_at d s).width c.args.number)
