-- At hidden times between two listed ones the rounds are the same, and so are the sets.
use Rattle.std.proofs.Common.{◌≡◌, ⊎_elim, ℕ, ◌≤◌, sym, subst, arith}
use Rattle.std.proofs.lemmas.Bool.{cases_lt}
use Rattle.event_machine.specs.Cell.{Cell}
use Rattle.event_machine.specs.Machine.{Machine}
use Rattle.event_machine.specs.MayMove.{CanWake, MayMove}
use Rattle.event_machine.specs.Single.{IsLastRound, IsSingle}
use Rattle.event_machine.specs.Told.{Told}
use Rattle.design_model.specs.four_state.declared.bit.Bit.{Bit}
use Rattle.design_model.specs.Design.{Design}
use Rattle.design_model.specs.Machine.{machine}
use Rattle.design_model.specs.MayMove.{AreLastRounds, told_at}
use Rattle.design_model.specs.Shows.{BoundDump}
use Rattle.hidden_times.specs.Hidden.{IsAnyDumpOf, IsHiddenOn}
use Rattle.hidden_times.specs.Laws.{AreSameSets, SameRoundLaw, SameSetsLaw}
use Rattle.hidden_times.proofs.Values.{same_told}

-- a step has one last round
one_last : {V : Type 0} (m : Machine V) (t : Told V) (n k : ℕ) → IsLastRound m t n → IsLastRound m t k → n ≡ k
one_last m t n k a b = ⊎_elim (λ below. absurd (b.is_first n below a.same_next)) (λ le. ⊎_elim (λ below. absurd (a.is_first k below b.same_next)) (λ ge. both le ge) (cases_lt k n)) (cases_lt n k)
  where
    both : k ≤ n → n ≤ k → n ≡ k
    both le ge = omega (arith, le, ge)

module _ (d : Design) (dump : BoundDump) (any : IsAnyDumpOf d dump) (rounds : AreLastRounds d dump) (t v : ℕ) (hidden : IsHiddenOn dump t v) where
  told : told_at dump v ≡ told_at dump t
  told = same_told dump any.stays t v hidden

  pub same_round : dump.round v ≡ dump.round t
  same_round = one_last (machine d) (told_at dump t) (dump.round v) (dump.round t) (subst (λ w. IsLastRound (machine d) w (dump.round v)) told (rounds v)) (rounds t)

  -- what holds by what is known of the step and by the round holds at both
  over : (holds : Told Bit → ℕ → Type 0) → holds (told_at dump v) (dump.round v) → holds (told_at dump t) (dump.round t)
  over holds k = subst (holds (told_at dump t)) same_round (subst (λ w. holds w (dump.round v)) told k)

  back : (holds : Told Bit → ℕ → Type 0) → holds (told_at dump t) (dump.round t) → holds (told_at dump v) (dump.round v)
  back holds k = subst (λ w. holds w (dump.round v)) (sym told) (subst (holds (told_at dump t)) (sym same_round) k)

  abbrev Moves : ℕ → Told Bit → ℕ → Type 0
  Moves x w n = MayMove (machine d) w (IsSingle (machine d) w n) x

  abbrev Wakes : Cell → ℕ → Told Bit → ℕ → Type 0
  Wakes c p w n = CanWake (machine d) w (IsSingle (machine d) w n) c p

  pub same_sets : AreSameSets d dump t v
  same_sets = record {
    may_move = λ x. (over (Moves x), back (Moves x));
    can_wake = λ c p. (over (Wakes c p), back (Wakes c p));
  }

pub same_round_law : (d : Design) → SameRoundLaw d
same_round_law d dump any rounds t v hidden = same_round d dump any rounds t v hidden

pub same_sets_law : (d : Design) → SameSetsLaw d
same_sets_law d dump any rounds t v hidden = same_sets d dump any rounds t v hidden
