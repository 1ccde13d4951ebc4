-- At each time the rounds of the divided clock end with the second, in which h is single.
use Rattle.std.proofs.Common.{◌≡◌, ⊎_elim, refl, sym, subst, ◌∙◌, ◌&&◌, inl, inr, ℕ, zero, suc, ◌<◌, ◌-◌, ◌==◌, true, false, arith}
use Rattle.std.specs.Prelude.{nat_lt}
use Rattle.std.proofs.lemmas.Bool.{and_parts, cases_Bool, eqb-true, false≢true, ltb-true}
use Rattle.event_machine.specs.Cell.{Cell}
use Rattle.event_machine.specs.Machine.{Edge, IsTarget, Negedge, Posedge}
use Rattle.event_machine.specs.MayMove.{CanWake, IsClean, MayMove}
use Rattle.event_machine.specs.Single.{IsSameNext, IsSingle}
use Rattle.four_state.specs.declared.bit.Bit.{Bit}
use Rattle.design_model.specs.Design.{cell}
use Rattle.design_model.specs.Machine.{is_edge, is_event_signal, machine}
use Rattle.design_model.specs.MayMove.{AreLastRounds, told_at}
use Rattle.design_model.proofs.Lawful.{no_edge}
use Rattle.worked_examples.specs.Design.Divided.{divided, divided_dump}
use Rattle.worked_examples.proofs.Design.OneSet.{one_rise}

module _ (t : ℕ) where
  abbrev Single : ℕ → Cell → Type 0
  Single n c = IsSingle (machine divided) (told_at (divided_dump 1) t) n c

  abbrev old : Bit
  old = (divided_dump 1).values (t - 1) (cell 0 0)

  abbrev new : Bit
  new = (divided_dump 1).values t (cell 0 0)

  single_clk : (n : ℕ) → IsSingle (machine divided) (told_at (divided_dump 1) t) n (cell 0 0)
  single_clk zero = (refl, refl)
  single_clk (suc n) = inl (refl, refl)

  -- a rise of clk alone wakes the block of h
  wakes_by : (n : ℕ) (c : Cell) → CanWake (machine divided) (told_at (divided_dump 1) t) (IsSingle (machine divided) (told_at (divided_dump 1) t) n) c 0 → is_edge Posedge ((divided_dump 1).values (t - 1) (cell 0 0)) ((divided_dump 1).values t (cell 0 0)) ≡ true
  wakes_by n c w = go w.0.0 c w.0.1 w.0.2
    where
      goes : (c : Cell) → c ≡ cell 0 0 → (Single n c → is_edge Posedge ((divided_dump 1).values (t - 1) c) ((divided_dump 1).values t c) ≡ true) → is_edge Posedge old new ≡ true
      goes c is change = (subst (λ b. Single n b → is_edge Posedge ((divided_dump 1).values (t - 1) b) ((divided_dump 1).values t b) ≡ true) is change) (single_clk n)

      go : (e : Edge) (c : Cell) → (machine divided).edge 0 e c ≡ true → (Single n c → is_edge e ((divided_dump 1).values (t - 1) c) ((divided_dump 1).values t c) ≡ true) → is_edge Posedge old new ≡ true
      go Posedge c lists change = goes c (one_rise 0 Posedge c lists) change
      go Negedge c lists change = absurd (false≢true (and_parts (c.place == 0) false lists).1)

  rises : (n : ℕ) → is_edge Posedge ((divided_dump 1).values (t - 1) (cell 0 0)) ((divided_dump 1).values t (cell 0 0)) ≡ true → IsClean (machine divided) (told_at (divided_dump 1) t) (IsSingle (machine divided) (told_at (divided_dump 1) t) n) 0 (cell 0 0)
  rises n e =
      record {
        clocked = λ x. refl;
        can_wake = ((Posedge, refl, λ s. e), MayMove.of_input (cell 0 0) (refl, λ s same. false≢true (sym (no_edge Posedge new) ∙ subst (λ b. is_edge Posedge b new ≡ true) same e)));
        alone = λ c wakes. one_rise 0 wakes.0.0 c wakes.0.1;
        is_single = single_clk n;
      }

  single_h : (n : ℕ) → IsSingle (machine divided) (told_at (divided_dump 1) t) (suc n) (cell 2 0)
  single_h n =
      inr
      (record {
        told = refl;
        is_event = refl;
        writer = 0;
        writes = inr refl;
        clocked = λ x. refl;
        once = refl;
        cannot_wake_or_clean = ⊎_elim (λ e. inr (cell 0 0, rises n e)) (λ e. inl (λ c w. false≢true (sym e ∙ wakes_by n c w))) (cases_Bool (is_edge Posedge old new));
      })

  -- no other cell is written once
  the_target : (p : ℕ) (c : Cell) → is_event_signal divided c.thing ≡ true → IsTarget (machine divided) p c → c ≡ cell 2 0
  the_target zero c event (inl h) = absurd (false≢true h)
  the_target zero c event (inr h) =
      let p = and_parts (c.thing == 2) (nat_lt c.place 1) (same_target h) in
      λ i. record { thing = eqb-true c.thing 2 p.0 i; place = below (ltb-true c.place 1 p.1) i }
    where
      same_target : (machine divided).nonblocking 0 c ≡ true → ((c.thing == 2) && nat_lt c.place 1) ≡ true
      same_target h = h

      below : c.place < 1 → c.place ≡ 0
      below h = omega (arith, h)
  the_target (suc zero) c event (inl h) = absurd (false≢true h)
  the_target (suc zero) c event (inr h) = absurd (false≢true (subst (λ x. is_event_signal divided x ≡ true) (eqb-true c.thing 3 (and_parts (c.thing == 3) (nat_lt c.place 1) h).0) event))
  the_target (suc (suc p)) c event (inl h) = absurd (false≢true h)
  the_target (suc (suc p)) c event (inr h) = absurd (false≢true h)

  next : (n m : ℕ) (c : Cell) → IsSingle (machine divided) (told_at (divided_dump 1) t) (suc n) c → IsSingle (machine divided) (told_at (divided_dump 1) t) (suc m) c
  next n m c (inl told) = inl told
  next n m c (inr w) = subst (Single (suc m)) (sym (the_target w.writer c w.is_event w.writes)) (single_h m)

  not_first : (k : ℕ) → k < 1 → IsSameNext (machine divided) (told_at (divided_dump 1) t) k → ⊥
  not_first zero less same = false≢true ((same (cell 2 0)).1 (single_h 0)).0
  not_first (suc k) less same = omega (arith, less)

pub last_rounds : AreLastRounds divided (divided_dump 1)
last_rounds t = record { same_next = λ c. (next t 0 1 c, next t 1 0 c); is_first = not_first t }
