use Rattle.std.proofs.Common.{◌≡◌, ◌∙◌, ◌<◌, None, Some, ap, arith, length, subst, sym, true}
use Rattle.std.proofs.lemmas.Bool.Decides.{nat_tests}
use Rattle.run_views.specs.design_model.Design.{is_number, signal_at}
use Rattle.run_views.specs.design_model.View.{design_view}
use Rattle.step_values.proofs.replay_model.Existing.{input_number}
use Rattle.entry_values.specs.Entry.{early_bits}
use Rattle.entry_values.proofs.Bits.{early_input, early_width}
use Rattle.entry_values.proofs.Entering.{early_none, early_some}
use Rattle.entry_values.proofs.entry.show_early.Goals as goal

pub show_value-requires-clause-place : goal.show_value-requires-clause-place
show_value-requires-clause-place c =
    let d = design_view c.args.design.now in
    subst (λ e. c.args.thing < length e.signals) (sym c.requires.same) (input_number d c.args.thing (early_input d c.args.codes.now c.args.values.now c.args.thing c.in-Some.value.bits c.in-Some.ensures.some))

pub show_value-requires-clause-width : goal.show_value-requires-clause-width
show_value-requires-clause-width c =
    let d = design_view c.args.design.now in
    early_width d c.args.codes.now c.args.values.now c.requires.before.0 c.requires.after.0 c.requires.before.1 c.requires.after.1 c.args.thing c.in-Some.value.bits c.in-Some.ensures.some
    ∙ ap (λ e. (signal_at e c.args.thing).width) (sym c.requires.same)

pub veil_thing-requires : goal.veil_thing-requires
veil_thing-requires c = let below = c.requires.thing in subst (λ e. is_number e c.args.thing ≡ true) (sym c.requires.same) (grind (arith, nat_tests, below))

pub returns-in-Some-clause-meets : goal.returns-in-Some-clause-meets
returns-in-Some-clause-meets c = λ st p trigger early v is apart shown h.
    let e : early_bits st.design c.args.codes.now c.args.values.now c.args.thing ≡ Some c.in-Some.value.bits = subst (λ d. early_bits d c.args.codes.now c.args.values.now c.args.thing ≡ Some c.in-Some.value.bits) (sym c.requires.same ∙ h.keeps.design) c.in-Some.ensures.some in
    c.show_value.ensures.meets st.design v (early_some st p trigger early c.args.codes.now c.args.values.now is c.args.thing apart v shown c.in-Some.value.bits e) h

pub returns-in-None-clause-meets : goal.returns-in-None-clause-meets
returns-in-None-clause-meets c = λ st p trigger early v is apart shown h.
    let e : early_bits st.design c.args.codes.now c.args.values.now c.args.thing ≡ None = subst (λ d. early_bits d c.args.codes.now c.args.values.now c.args.thing ≡ None) (sym c.requires.same ∙ h.keeps.design) c.in-None.ensures.none in
    c.veil_thing.ensures.meets st.design v (early_none st p trigger early c.args.codes.now c.args.values.now is c.args.thing apart v shown e) h
