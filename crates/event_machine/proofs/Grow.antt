-- From round to round the single cells grow, and what may move and what can wake shrinks.
use Rattle.std.proofs.Common.{◌⊎◌, inl, inr, ⊎_elim, ℕ, zero, suc, subst}
use Rattle.event_machine.specs.Cell.{Cell}
use Rattle.event_machine.specs.Machine.{Machine}
use Rattle.event_machine.specs.Told.{Told}
use Rattle.event_machine.specs.MayMove.{CanWake, IsClean, MayMove, MayWake}
use Rattle.event_machine.specs.Single.{IsSingle, IsWrittenOnce}
use Rattle.event_machine.specs.Laws.{IsDecided, RoundGrows, RoundsLaw}

module _ {V : Type 0} (m : Machine V) (t : Told V) where
  module _ (A B : Cell → Type 0) (more : (c : Cell) → A c → B c) where
    may_wake_less : (x p : ℕ) → MayWake m t B x p → MayWake m t A x p
    may_wake_less x p (inl level) = inl level
    may_wake_less x p (inr by) = inr (by.0, by.1, (by.2.0, by.2.1, λ one. by.2.2 (more by.0 one)))

    pub may_move_less : (x : ℕ) → MayMove m t B x → MayMove m t A x
    may_move_less x (MayMove.of_input c moving) = MayMove.of_input c moving
    may_move_less x (MayMove.of_target y p c may may_wake target) = MayMove.of_target y p c (may_move_less y may) (may_wake_less y p may_wake) target

    pub can_wake_less : (c : Cell) (p : ℕ) → CanWake m t B c p → CanWake m t A c p
    can_wake_less c p can = ((can.0.0, can.0.1, λ one. can.0.2 (more c one)), may_move_less c.thing can.1)

    -- a clean block stays clean or can no longer wake, where it is decided what can wake
    module _ (decides : (c : Cell) (p : ℕ) → CanWake m t B c p ⊎ (CanWake m t B c p → ⊥)) where
      clean_more : (p : ℕ) (c : Cell) → IsClean m t A p c → ((d : Cell) → CanWake m t B d p → ⊥) ⊎ ((d : Cell) × IsClean m t B p d)
      clean_more p c clean =
          ⊎_elim
          (λ can.
          inr (
            c,
            record {
              clocked = clean.clocked;
              can_wake = can;
              alone = λ d other. clean.alone d (can_wake_less d p other);
              is_single = more c clean.is_single;
            },
          ))
          (λ cannot. inl (λ d other. cannot (subst (λ x. CanWake m t B x p) (clean.alone d (can_wake_less d p other)) other)))
          (decides c p)

      written_once_more : (c : Cell) → IsWrittenOnce m t A c → IsWrittenOnce m t B c
      written_once_more c made =
          record {
            told = made.told;
            is_event = made.is_event;
            writer = made.writer;
            writes = made.writes;
            clocked = made.clocked;
            once = made.once;
            cannot_wake_or_clean =
                ⊎_elim
                (λ cannot. inl (λ d can. cannot d (can_wake_less d made.writer can)))
                (λ clean. clean_more made.writer clean.0 clean.1)
                made.cannot_wake_or_clean;
          }

  single_more : IsDecided m t → (n : ℕ) (c : Cell) → IsSingle m t n c → IsSingle m t (suc n) c
  single_more decides zero c one = inl one
  single_more decides (suc n) c (inl told) = inl told
  single_more decides (suc n) c (inr made) =
      inr (written_once_more (IsSingle m t n) (IsSingle m t (suc n)) (single_more decides n) (decides (suc n)) c made)

  round_grows : IsDecided m t → (n : ℕ) → RoundGrows m t n
  round_grows decides n =
      record {
        single = more;
        may_move = may_move_less (IsSingle m t n) (IsSingle m t (suc n)) more;
        can_wake = can_wake_less (IsSingle m t n) (IsSingle m t (suc n)) more;
        clean = clean_more (IsSingle m t n) (IsSingle m t (suc n)) more (decides (suc n));
      }
    where
      more : (c : Cell) → IsSingle m t n c → IsSingle m t (suc n) c
      more = single_more decides n

pub rounds_law : {V : Type 0} (m : Machine V) → RoundsLaw m
rounds_law m = round_grows m
