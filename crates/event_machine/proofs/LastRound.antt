-- From a round on whose single cells are those of the next, nothing changes.
use Rattle.std.proofs.Common.{◌≡◌, inl, inr, ⊎_elim, ℕ, zero, suc, ◌+◌, ◌-◌, ◌↔◌, subst, arith}
use Rattle.event_machine.specs.Cell.{Cell}
use Rattle.event_machine.specs.Machine.{Machine}
use Rattle.event_machine.specs.Told.{Told}
use Rattle.event_machine.specs.MayMove.{IsClean}
use Rattle.event_machine.specs.Single.{IsSameNext, IsSingle, IsWrittenOnce}
use Rattle.event_machine.specs.LastRound.{AreSameRounds, LastRoundLaw}
use Rattle.event_machine.proofs.Grow.{can_wake_less, may_move_less}

module _ {V : Type 0} (m : Machine V) (t : Told V) where
  clean_same : (A B : Cell → Type 0) → ((c : Cell) → A c → B c) → ((c : Cell) → B c → A c) → (p : ℕ) (c : Cell) → IsClean m t A p c → IsClean m t B p c
  clean_same A B more less p c clean =
      record {
        clocked = clean.clocked;
        can_wake = can_wake_less m t B A less c p clean.can_wake;
        alone = λ d can. clean.alone d (can_wake_less m t A B more d p can);
        is_single = more c clean.is_single;
      }

  written_same : (A B : Cell → Type 0) → ((c : Cell) → A c → B c) → ((c : Cell) → B c → A c) → (c : Cell) → IsWrittenOnce m t A c → IsWrittenOnce m t B c
  written_same A B more less c made =
      record {
        told = made.told;
        is_event = made.is_event;
        writer = made.writer;
        writes = made.writes;
        clocked = made.clocked;
        once = made.once;
        cannot_wake_or_clean =
            ⊎_elim
            (λ cannot. inl (λ d can. cannot d (can_wake_less m t A B more d made.writer can)))
            (λ clean. inr (clean.0, clean_same A B more less made.writer clean.0 clean.1))
            made.cannot_wake_or_clean;
      }

  next_same : (n : ℕ) → IsSameNext m t n → IsSameNext m t (suc n)
  next_same n same c = (
    λ one. ⊎_elim (λ told. inl told) (λ made. inr (written_same (IsSingle m t n) (IsSingle m t (suc n)) (λ d. (same d).0) (λ d. (same d).1) c made)) one,
    λ one. ⊎_elim (λ told. inl told) (λ made. inr (written_same (IsSingle m t (suc n)) (IsSingle m t n) (λ d. (same d).1) (λ d. (same d).0) c made)) one,
  )

  later_same : (j n : ℕ) → IsSameNext m t n → (c : Cell) → IsSingle m t n c ↔ IsSingle m t (n + j) c
  later_same zero n same c =
      let is : n ≡ n + 0 = omega arith in
      subst (λ k. IsSingle m t n c ↔ IsSingle m t k c) is (λ one. one, λ one. one)
  later_same (suc j) n same c =
      let is : suc n + j ≡ n + suc j = omega arith in
      let later = later_same j (suc n) (next_same n same) c in
      subst (λ k. IsSingle m t n c ↔ IsSingle m t k c) is (λ one. later.0 ((same c).0 one), λ one. (same c).1 (later.1 one))

  same_rounds : (n k : ℕ) → ((c : Cell) → IsSingle m t n c ↔ IsSingle m t k c) → AreSameRounds m t n k
  same_rounds n k same =
      record {
        single = same;
        may_move = λ x. (may_move_less m t (IsSingle m t k) (IsSingle m t n) less x, may_move_less m t (IsSingle m t n) (IsSingle m t k) more x);
        can_wake = λ c p. (can_wake_less m t (IsSingle m t k) (IsSingle m t n) less c p, can_wake_less m t (IsSingle m t n) (IsSingle m t k) more c p);
        clean = λ p c. (clean_same (IsSingle m t n) (IsSingle m t k) more less p c, clean_same (IsSingle m t k) (IsSingle m t n) less more p c);
      }
    where
      more : (c : Cell) → IsSingle m t n c → IsSingle m t k c
      more c = (same c).0

      less : (c : Cell) → IsSingle m t k c → IsSingle m t n c
      less c = (same c).1

pub last_round_law : {V : Type 0} (m : Machine V) → LastRoundLaw m
last_round_law m t n k same at_most =
    let is : n + (k - n) ≡ k = omega (arith, at_most) in
    same_rounds m t n k (λ c. subst (λ j. IsSingle m t n c ↔ IsSingle m t j c) is (later_same m t (k - n) n same c))
