use Rattle.std.proofs.Common.{length, ap, sym, ◌∙◌}
use Rattle.known_state.specs.Partly.{Partly}
use Rattle.write_log.proofs.Joins.{left_lost, length_joined, nothing_lost}
use Rattle.write_log.proofs.common.common.Goals as goal

pub returns-then-sure-clause-common : goal.returns-then-sure-clause-common
returns-then-sure-clause-common c =
    left_lost c.args.test c.args.one.now c.args.other.now c.join-joined.result c.join-joined.ensures.value (λ e. c.if-sure.true (c.sure.ensures ∙ e ∙ sym c.sure-2.ensures))

pub returns-then-sure-clause-width : goal.returns-then-sure-clause-width
returns-then-sure-clause-width c =
    ap (λ (q : Partly). length q.bits) c.join-joined.ensures.value ∙ length_joined c.args.one.now.bits c.args.other.now.bits c.requires.width

pub returns-then-sure-2-clause-width : goal.returns-then-sure-2-clause-width
returns-then-sure-2-clause-width c =
    ap (λ (q : Partly). length q.bits) c.join-joined.ensures.value ∙ length_joined c.args.one.now.bits c.args.other.now.bits c.requires.width

pub returns-then-blame-clause-width : goal.returns-then-blame-clause-width
returns-then-blame-clause-width c =
    ap (λ (q : Partly). length q.bits) c.join-joined.ensures.value ∙ length_joined c.args.one.now.bits c.args.other.now.bits c.requires.width

pub returns-clause-common : goal.returns-clause-common
returns-clause-common c =
    nothing_lost c.args.test c.args.one.now c.args.other.now c.join-joined.result c.join-joined.ensures.value c.requires.width (sym c.sure.ensures ∙ c.if-sure.false ∙ c.sure-2.ensures) (sym c.sure-3.ensures ∙ c.if-sure-2.false ∙ c.sure-4.ensures) (sym c.blame.ensures.value ∙ c.if-blame.false ∙ c.blame-2.ensures.value)
