use Rattle.std.proofs.Common.{◌≡◌, ◌∙◌, None, ap, length, subst}
use Rattle.std.specs.Prelude.{replicate, Option}
use Rattle.std.proofs.lemmas.List.{length-replicate}
use Rattle.four_state.specs.declared.bit.Bit.{Bit}
use Rattle.known_state.specs.Partly.{Partly}
use Rattle.design_model.specs.Design.{signal_at}
use Rattle.step_values.specs.store_knowledge.Knows.{Knows, with_bits}
use Rattle.step_values.proofs.Forgets.{known_width}
use Rattle.settled_targets.proofs.Cells.{bits_hidden}
use Rattle.settled_targets.proofs.hide.hide_signal.Goals as goal

pub keep_signal-requires-clause-width : goal.keep_signal-requires-clause-width
keep_signal-requires-clause-width c =
    let h = c.requires.known.2 in
    ap (λ (q : Partly). length q.bits) c.unknown-unknown.ensures ∙ length-replicate c.width.result None ∙ c.width.ensures.value
    ∙ known_width c.requires.known.0 c.requires.known.1 c.args.store.now c.args.signal c.known_signal-value.result h (c.known_signal-value.ensures c.requires.known.0 c.requires.known.1 h)

pub returns-clause-knows : goal.returns-clause-knows
returns-clause-knows c = λ d k h.
    let size : length {A = Option Bit} (replicate c.width.result None) ≡ (signal_at d c.args.signal).width =
    length-replicate c.width.result None ∙ c.width.ensures.value ∙ known_width d k c.args.store.now c.args.signal c.known_signal-value.result h (c.known_signal-value.ensures d k h) ∙ ap (λ e. (signal_at e c.args.signal).width) h.design in
    subst (λ j. Knows d j c.keep_signal.new.store) (ap (λ (q : Partly). with_bits c.args.signal q.bits k) c.unknown-unknown.ensures ∙ bits_hidden d c.args.signal c.width.result k size) (c.keep_signal.ensures.knows d k h)
