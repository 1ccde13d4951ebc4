-- The register of the worked example, whose data stays, is definite.
use Rattle.std.proofs.Common.{◌≡◌, ◌≢◌, inl, inr, ⊎_elim, ℕ, zero, suc, ◌-◌, ◌<◌, ◌==◌, true, false, refl, sym, ap, subst, ◌∙◌, arith}
use Rattle.std.proofs.lemmas.Bool.{or_cases, eqb-true, cases_eq, false≢true}
use Rattle.event_machine.specs.Habit.{Free}
use Rattle.event_machine.specs.MayMove.{MayMove}
use Rattle.four_state.specs.declared.bit.Bit.TheVariants.{One}
use Rattle.design_model.specs.Design.{body_at, cell}
use Rattle.design_model.specs.Mentions.{body_mentions}
use Rattle.design_model.specs.Shows.{IsListed, IsWindow}
use Rattle.design_model.specs.MayMove.{CanWakeSome, IsCleanAt, MayMoveAt}
use Rattle.design_model.specs.Early.{IsEarlyAt}
use Rattle.design_model.specs.Laws.{IsDefinite}
use Rattle.design_model.specs.FlipFlop.{flip_flop, steady_dump}
use Rattle.design_model.proofs.FlipFlopDoubt.{input_bound, is_clean, none_early, only_clk}
use Rattle.design_model.proofs.FlipFlopLawful.{flip_flop_fits}

-- within the window the dump lists 5 alone
unlisted : (t : ℕ) → suc t < 10 → suc t ≢ 5 → IsListed steady_dump (suc t) → ⊥
unlisted t below other (inl is) = absurd (omega (arith, is))
unlisted t below other (inr (inl is)) = other (sym is)
unlisted t below other (inr (inr (inl is))) = absurd (omega (arith, is, below))
unlisted t below other (inr (inr (inr none))) = none

-- so at another time nothing may move
none_moves : (t : ℕ) → suc t < 10 → suc t ≢ 5 → (x : ℕ) → MayMoveAt flip_flop steady_dump (suc t) x → ⊥
none_moves t below other x (MayMove.of_input c moving) =
    moving.1 (input_bound c.thing c.place moving.0) (ap (λ v. v c) (same t ∙ sym ((flip_flop_fits One).stays t (unlisted t below other))))
  where
    same : (t : ℕ) → steady_dump.values (suc t - 1) ≡ steady_dump.values t
    same t = let e : suc t - 1 ≡ t = omega arith in ap (λ n. steady_dump.values n) e
none_moves t below other x (MayMove.of_target y p c may may_wake target) = none_moves t below other y may

at_five : (t : ℕ) → IsWindow steady_dump t → CanWakeSome flip_flop steady_dump t 0 → t ≡ 5
at_five zero window wakes_it = absurd (omega (arith, window.0))
at_five (suc t) window wakes_it =
    ⊎_elim (λ is. is) (λ other. absurd (none_moves t window.1 other wakes_it.0.thing wakes_it.1.1)) (cases_eq (suc t) 5)

mentions_a : (x : ℕ) → body_mentions x (body_at flip_flop 0) ≡ true → x ≡ 1
mentions_a x h = ⊎_elim (λ is. sym (eqb-true 1 x is)) (λ none. absurd (false≢true none)) (or_cases (1 == x) false h)

pub flip_flop_definite : IsDefinite flip_flop Free steady_dump 0
flip_flop_definite =
    record {
      clocked = tt;
      clean = λ t window wakes_it. (cell 0 0, subst (λ n. IsCleanAt flip_flop steady_dump n 0 (cell 0 0)) (sym (at_five t window wakes_it)) (is_clean One));
      all_bound = λ x mentioned. subst (λ y. steady_dump.bound y ≡ true) (sym (mentions_a x mentioned)) refl;
      none_early = λ t c window clean x mentioned other is_early.
          none_early Free x
          (subst (λ b. IsEarlyAt flip_flop Free steady_dump 5 0 b x) (only_clk clean.can_wake.0.0 c clean.can_wake.0.1)
          (subst (λ n. IsEarlyAt flip_flop Free steady_dump n 0 c x) (at_five t window (c, clean.can_wake)) is_early));
    }
