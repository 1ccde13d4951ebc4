-- At hidden times the dump's values stay, and so does what is known of a step.
use Rattle.std.proofs.Common.{◌≡◌, ℕ, zero, suc, ◌+◌, ◌-◌, ◌<◌, ◌≤◌, sym, ap, ◌∙◌, arith}
use Rattle.design_model.specs.Design.{Design}
use Rattle.design_model.specs.Shows.{BoundDump, IsListed, IsWindow}
use Rattle.design_model.specs.StillLaw.{KeepsValues}
use Rattle.design_model.specs.MayMove.{told_at}
use Rattle.design_model.proofs.Stretches.{no_window_at}
use Rattle.hidden_times.specs.Hidden.{IsHiddenOn}
use Rattle.hidden_times.specs.Laws.{SameValuesLaw}

module _ (dump : BoundDump) (keeps : KeepsValues dump) where
  values_stay : (t n : ℕ) → ((u : ℕ) → t < u → u ≤ t + n → IsListed dump u → ⊥) → dump.values (t + n) ≡ dump.values t
  values_stay t zero gap = let none : t + zero ≡ t = omega arith in ap dump.values none
  values_stay t (suc n) gap =
      let before : dump.values (t + n) ≡ dump.values t = values_stay t n (λ u after within. gap u after (omega (arith, within))) in
      let one : dump.values (suc (t + n)) ≡ dump.values (t + n) = keeps (t + n) (gap (suc (t + n)) (omega arith) (omega arith)) in
      let next : t + suc n ≡ suc (t + n) = omega arith in
      ap dump.values next ∙ one ∙ before

  -- at a hidden time they are those of the moment before
  pub stay_at : (t : ℕ) → IsWindow dump t → (IsListed dump t → ⊥) → dump.values t ≡ dump.values (t - 1)
  stay_at zero window unlisted = absurd (no_window_at dump.stretches window)
  stay_at (suc t) window unlisted = let back : suc t - 1 ≡ t = omega arith in keeps t unlisted ∙ ap dump.values (sym back)

  module _ (t v : ℕ) (hidden : IsHiddenOn dump t v) where
    pub at_last : dump.values v ≡ dump.values t
    at_last =
        let n : ℕ = v - t in
        let is : v ≡ t + n = omega (arith, hidden.later) in
        ap dump.values is ∙ values_stay t n (λ u after within. hidden.none u (omega (arith, after)) (omega (arith, within, is)))

    pub before_last : dump.values (v - 1) ≡ dump.values (t - 1)
    before_last =
        sym (stay_at v hidden.last (hidden.none v hidden.later (omega arith))) ∙ at_last ∙ stay_at t hidden.first (hidden.none t (omega arith) hidden.later)

    -- so the same is known of their steps
    pub same_told : told_at dump v ≡ told_at dump t
    same_told = λ i. record { is_told = dump.bound; old = before_last i; new = at_last i }

pub same_values_law : (d : Design) → SameValuesLaw d
same_values_law d dump any t v hidden = (at_last dump any.stays t v hidden, before_last dump any.stays t v hidden)
