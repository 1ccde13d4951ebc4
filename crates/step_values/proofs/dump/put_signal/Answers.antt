use Rattle.std.proofs.Common.{◌≡◌, ◌∙◌, ◌<◌, Some, ap, length, subst, sym}
use Rattle.std.proofs.lemmas.List.{length-map}
use Rattle.known_state.specs.Partly.{Partly}
use Rattle.design_model.specs.View.{design_view}
use Rattle.store_knowledge.specs.Knows.{Knows, with_bits}
use Rattle.step_values.specs.Dumped.{dumped_of}
use Rattle.step_values.proofs.Dumps.{one_put, said_width, value_bits}
use Rattle.step_values.proofs.Forgets.{here}
use Rattle.step_values.proofs.dump.put_signal.Goals as goal

pub keep_signal-requires-clause-width : goal.keep_signal-requires-clause-width
keep_signal-requires-clause-width c =
    let d = design_view c.args.store.now.design.now in
    let value : dumped_of c.args.codes.now c.args.values.now.last c.args.signal ≡ Some c.in-Some.value = sym c.dumped.ensures ∙ c.in-Some.is in
    let bits = value_bits d c.args.codes.now c.args.values.now.last c.requires.dumped.0 c.args.signal c.in-Some.value c.requires.dumped.1 c.requires.coded value in
    ap (λ (p : Partly). length p.bits) c.whole.ensures ∙ length-map c.in-Some.value.bits Some ∙ said_width d c.requires.dumped.0 c.args.signal c.in-Some.value.bits bits

pub returns-in-Some-clause-knows : goal.returns-in-Some-clause-knows
returns-in-Some-clause-knows c = λ d new k dumped h.
    let l : c.args.signal < length d.signals = here (λ e. c.args.signal < length e.signals) d k c.args.store.now h c.requires.place in
    let value : dumped_of c.args.codes.now c.args.values.now.last c.args.signal ≡ Some c.in-Some.value = sym c.dumped.ensures ∙ c.in-Some.is in
    let bits = value_bits d c.args.codes.now c.args.values.now.last new c.args.signal c.in-Some.value dumped c.requires.coded value in
    subst (λ j. Knows d j c.keep_signal.new.store) (ap (λ (p : Partly). with_bits c.args.signal p.bits k) c.whole.ensures ∙ one_put d new k h.blank c.args.signal l c.in-Some.value.bits bits) (c.keep_signal.ensures.knows d k h)
