use Rattle.std.proofs.Common.{sym, ◌∙◌}
use Rattle.known_state.specs.Join.{first_blame}
use Rattle.known_state.proofs.BinaryLaws.{binary_allows, binary_tight, binary_exact, unknown_shift_allows, unsure_shift, can_shift, not_whole}
use Rattle.known_state.proofs.known.Known.binary.Goals as goal

pub returns-then-has_unsure_amount-clause-sound : goal.returns-then-has_unsure_amount-clause-sound
returns-then-has_unsure_amount-clause-sound c =
    rw (c.unknown.ensures, c.width.ensures.value, c.is_signed.ensures) (unknown_shift_allows c.args.op c.args.a.now c.args.b.now c.requires (unsure_shift c.args.op c.args.b.now (sym c.has_unsure_amount.ensures ∙ c.if-has_unsure_amount.true)).0 c.first_blame.result)

pub returns-then-has_unsure_amount-clause-exact : goal.returns-then-has_unsure_amount-clause-exact
returns-then-has_unsure_amount-clause-exact c =
    λ v w e d. not_whole c.args.b.now w (unsure_shift c.args.op c.args.b.now (sym c.has_unsure_amount.ensures ∙ c.if-has_unsure_amount.true)).1 d

pub returns-else-has_unsure_amount-clause-sound : goal.returns-else-has_unsure_amount-clause-sound
returns-else-has_unsure_amount-clause-sound c =
    rw c.both_agreed.ensures (binary_allows c.args.op c.args.a.now c.args.b.now c.requires (can_shift c.args.op c.args.b.now (sym c.has_unsure_amount.ensures ∙ c.if-has_unsure_amount.false)) (first_blame c.args.a.now c.args.b.now))

pub returns-else-has_unsure_amount-clause-tight : goal.returns-else-has_unsure_amount-clause-tight
returns-else-has_unsure_amount-clause-tight c =
    λ sure. rw c.both_agreed.ensures (binary_tight c.args.op c.args.a.now c.args.b.now c.requires)

pub returns-else-has_unsure_amount-clause-exact : goal.returns-else-has_unsure_amount-clause-exact
returns-else-has_unsure_amount-clause-exact c =
    rw c.both_agreed.ensures (binary_exact c.args.op c.args.a.now c.args.b.now c.requires (first_blame c.args.a.now c.args.b.now))
