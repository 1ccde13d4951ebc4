use Rattle.std.proofs.Common.{◌≡◌, ◌∙◌, None, Some, ap, get_or, length, sym}
use Rattle.std.proofs.lemmas.List.{length-map}
use Rattle.known_state.specs.Partly.{Partly}
use Rattle.run_views.specs.design_model.View.{design_view}
use Rattle.step_values.specs.Dumped.{dumped_of}
use Rattle.step_values.proofs.Dumps.{said_width, value_bits}
use Rattle.entry_values.proofs.Entering.{trigger_shown}
use Rattle.entry_values.proofs.entry.show_trigger.Goals as goal

pub show_value-requires-clause-width : goal.show_value-requires-clause-width
show_value-requires-clause-width c =
    let d = design_view c.args.store.now.design.now in
    let value : dumped_of c.args.codes.now c.args.values.now.last c.args.trigger ≡ Some c.in-Some.value = sym c.new_value.ensures ∙ c.in-Some.is in
    let bits = value_bits d c.args.codes.now c.args.values.now.last c.requires.after.0 c.args.trigger c.in-Some.value c.requires.after.1 c.requires.coded value in
    ap (λ (p : Partly). length p.bits) c.whole.ensures ∙ length-map c.in-Some.value.bits Some ∙ said_width d c.requires.after.0 c.args.trigger c.in-Some.value.bits bits

pub returns-in-Some-clause-meets : goal.returns-in-Some-clause-meets
returns-in-Some-clause-meets c = λ st p early v is shown h.
    let value : dumped_of c.args.codes.now c.args.values.now.last c.args.trigger ≡ Some c.in-Some.value = sym c.new_value.ensures ∙ c.in-Some.is in
    c.show_value.ensures.meets st.design v (λ k. ap (λ (p : Partly). get_or p.bits k None) c.whole.ensures ∙ trigger_shown st p c.args.trigger early c.args.codes.now c.args.values.now is v shown c.in-Some.value value k) h
