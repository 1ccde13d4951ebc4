use Rattle.std.proofs.Common.{ap₂, sym, ◌∙◌}
use Rattle.known_state.specs.Partly.{with_blame}
use Rattle.body_calls.proofs.term_replay.Standing.{same_flag}
use Rattle.write_log.proofs.value_store.Left.{joined_self}
use Rattle.body_store.proofs.Signs.{new_sign, same_bits}
use Rattle.body_store.proofs.write.signed_as.Goals as goal

pub returns-then-is_signed-signed : goal.returns-then-is_signed-signed
returns-then-is_signed-signed c =
    c.join.ensures.value
    ∙ ap₂ (λ ps t. with_blame ps t c.args.thing) (joined_self c.args.part.now.bits) (sym c.is_signed.ensures ∙ same_flag c.is_signed.result c.args.signed c.if-is_signed-signed.true)

pub returns : goal.returns
returns c =
    let a = c.args.part.now in
    let r = c.extend-value.result in
    c.join-2.ensures.value
    ∙ ap₂ (λ ps t. with_blame ps t c.args.thing)
    (joined_self r.bits ∙ same_bits a r c.width.result c.args.signed c.width.ensures.value c.extend-value.ensures.sound c.extend-value.ensures.tight)
    (new_sign a r c.width.result c.args.signed c.width.ensures.value c.extend-value.ensures.sound c.extend-value.ensures.tight)
