use Rattle.std.proofs.Common.{◌∙◌, subst, sym, ◌<◌, ◌^◌}
use Rattle.step_values.proofs.Forgets.{forgotten_knows, known_width}
use Rattle.step_values.proofs.forget.forget_kept.Goals as goal

pub forgotten-requires : goal.forgotten-requires
forgotten-requires c =
    let h = c.requires.known.2 in
    let width = known_width c.requires.known.0 c.requires.known.1 c.args.store.now c.args.bits.now.signal c.known_signal-value.result h (c.known_signal-value.ensures c.requires.known.0 c.requires.known.1 h) in
    subst (λ n. c.args.bits.now.mask < 2 ^ n) (sym width) c.requires.inside.1

pub keep_signal-requires-clause-width : goal.keep_signal-requires-clause-width
keep_signal-requires-clause-width c =
    let h = c.requires.known.2 in
    c.forgotten.ensures.width ∙ known_width c.requires.known.0 c.requires.known.1 c.args.store.now c.args.bits.now.signal c.known_signal-value.result h (c.known_signal-value.ensures c.requires.known.0 c.requires.known.1 h)

pub returns-clause-knows : goal.returns-clause-knows
returns-clause-knows c = forgotten_knows c.args.store.now c.keep_signal.new.store c.args.bits.now c.known_signal-value.result c.forgotten.result c.requires.inside c.known_signal-value.ensures c.forgotten.ensures.width c.forgotten.ensures.bits c.keep_signal.ensures.knows
