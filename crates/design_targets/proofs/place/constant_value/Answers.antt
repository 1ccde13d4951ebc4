use Rattle.std.proofs.Common.{◌≡◌, ◌∙◌, true, sym, ap, arith}
use Rattle.design_model.specs.Mentions.{is_constant}
use Rattle.design_model.specs.Shape.{own_sign, own_width}
use Rattle.design_model.specs.View.{term_view}
use Rattle.term_replay.proofs.Constants.{constant_bits}
use Rattle.design_targets.specs.Written.{smallest_design, smallest_scene}
use Rattle.design_targets.proofs.Constants.{alone_too}
use Rattle.design_targets.proofs.place.constant_value.Goals as goal

pub evaluate-evaluated-requires : goal.evaluate-evaluated-requires
evaluate-evaluated-requires c =
    let t = term_view c.args.term.now in
    let constant : is_constant t ≡ true = sym c.is_constant.ensures ∙ c.if-not-is_constant.false in
    record {
      width = own_width smallest_design t;
      signed = own_sign smallest_design t;
      shaped = alone_too c.requires.0 smallest_design t constant c.requires.1;
      narrow = omega arith;
    }

pub returns-clause-value : goal.returns-clause-value
returns-clause-value c =
    let t = term_view c.args.term.now in
    let constant : is_constant t ≡ true = sym c.is_constant.ensures ∙ c.if-not-is_constant.false in (
      ap (λ v. v.bits) c.value.ensures.value ∙ constant_bits smallest_scene _ t c.evaluate-evaluated.result.value constant c.evaluate-evaluated.ensures.value,
      ap (λ v. v.signed) c.value.ensures.value ∙ c.evaluate-evaluated.ensures.value.sign_is,
    )
