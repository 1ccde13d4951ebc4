use Rattle.std.proofs.Common.{◌≡◌, ◌∙◌, true, sym, ap, ap₂, cond, Some, None}
use Rattle.four_state.specs.Vector.{Vector}
use Rattle.design_model.specs.Mentions.{blank, is_constant}
use Rattle.design_model.specs.Value.{head, value}
use Rattle.design_model.specs.View.{design_view, term_view}
use Rattle.scene_laws.proofs.term_replay.Constants.{constant_bits}
use Rattle.fsm_extract.specs.Strange.{strange_scene}
use Rattle.fsm_extract.proofs.strange.Strange.constant.Goals as goal

pub returns : goal.returns
returns c =
    let d = design_view c.args.self.now.design.now in
    let t = term_view c.args.term.now in
    let constant : is_constant t ≡ true = sym c.is_constant.ensures ∙ c.if-not-is_constant.false in
    let stands = c.evaluate.ensures.value in
    let known : Vector = record { bits = value d blank t; signed = (head t).signed } in
    let same : c.value.result ≡ known = c.value.ensures.value ∙ ap₂ (λ bits signed. record { bits = bits; signed = signed }) (constant_bits (strange_scene d) _ t c.evaluate.result.value constant stands) stands.sign_is in
    ap Some same ∙ ap (λ b. cond b (Some known) None) (sym constant)
