use Rattle.std.proofs.Common.{◌≡◌, ap, ◌∙◌, sym, inl, inr}
use Rattle.four_state.specs.declared.bit.Bit.TheVariants.{Zero}
use Rattle.four_state.specs.Vector.{Vector, truth}
use Rattle.known_state.specs.Partly.{filled}
use Rattle.known_state.proofs.MaybeLaws.{truth_sure, truth_undecided}
use Rattle.known_state.proofs.known.Known.truth.Goals as goal

pub returns-in-True : goal.returns-in-True
returns-in-True c =
    let low : c.truth.result ≡ truth (filled Zero c.args.self.now.bits) = c.truth.ensures ∙ ap (λ (v : Vector). truth v.bits) c.value.ensures.value in
    let is_true = sym low ∙ c.in-True.is in
    λ v h. truth_sure c.args.self.now (inr is_true) v h ∙ is_true

pub returns-in_default : goal.returns-in_default
returns-in_default c =
    let low : c.truth.result ≡ truth (filled Zero c.args.self.now.bits) = c.truth.ensures ∙ ap (λ (v : Vector). truth v.bits) c.value.ensures.value in
    λ v h. truth_sure c.args.self.now (inl (sym c.is_whole.ensures ∙ c.if-is_whole.true)) v h ∙ sym low

pub returns-in_default-2 : goal.returns-in_default-2
returns-in_default-2 c =
    let low : c.truth.result ≡ truth (filled Zero c.args.self.now.bits) = c.truth.ensures ∙ ap (λ (v : Vector). truth v.bits) c.value.ensures.value in
    truth_undecided c.args.self.now (sym c.is_whole.ensures ∙ c.if-is_whole.false) (λ e. c.in_default-2.not-True (low ∙ e)) c.blame.result c.blame.ensures.value
