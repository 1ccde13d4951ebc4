-- The worked example: its machine is lawful, its events are a step, and its blocks are clean.
use Rattle.std.proofs.Common.{⊎_elim, take, ◌≡◌, ◌≢◌, inl, inr, ℕ, zero, suc, ◌+◌, ◌≤◌, ◌==◌, if◌then◌else◌, Bool, true, false, not, ◌||◌, true≢false, List, [], ◌∷◌, ◌++◌, ◌↔◌, refl, sym, ap, subst, ◌∙◌, arith}
use Rattle.std.proofs.lemmas.Bool.{eqb-true, and_parts, and_right, or_cases}
use Rattle.std.proofs.lemmas.Bool.Decides.{nat_tests}
use Rattle.event_machine.specs.Cell.{Cell, UpdatesCell, Values, Write, WritesCell, put, same_cell, times}
use Rattle.event_machine.specs.Machine.{Edge, IsLawful, IsTarget, Negedge, Posedge, is_sensitive, output, wakes}
use Rattle.event_machine.specs.State.{State}
use Rattle.event_machine.specs.Event.{Event, Move, end_state, is_evaluation, mark, state_after, event_writes}
use Rattle.event_machine.specs.Habit.{Free, Habit, IsByHabit, Late, is_free_input}
use Rattle.event_machine.specs.Step.{IsStep}
use Rattle.event_machine.specs.Told.{IsAsTold}
use Rattle.event_machine.specs.ToldStep.{ToldStep}
use Rattle.event_machine.specs.MayMove.{IsClean, MayMove}
use Rattle.event_machine.specs.Single.{IsSingle}
use Rattle.event_machine.proofs.Rounds.{edge_law}
use Rattle.event_machine.proofs.Habits.{free_by_habit}
use Rattle.event_machine.specs.Example.{bit, is, same, is_edge, edge, target, evaluate, divider, start, told, events, IsWorkedExample}

is_bit : (c : Cell) (x : ℕ) → is c x ≡ true → c ≡ bit x
is_bit c x e =
    let both = and_parts (c.thing == x) (c.place == 0) e in
    let t : c.thing ≡ x = eqb-true _ _ both.0 in
    let p : c.place ≡ 0 = eqb-true _ _ both.1 in
    λ i. record { thing = t i; place = p i }

edge_place : (p : ℕ) (e : Edge) (c : Cell) → edge p e c ≡ true → c.place ≡ 0
edge_place zero Posedge c h = ap (λ (x : Cell). x.place) (is_bit c 0 h)
edge_place (suc zero) Posedge c h = ap (λ (x : Cell). x.place) (is_bit c 2 h)
edge_place (suc (suc p)) Posedge c h = absurd (true≢false (sym h))
edge_place zero Negedge c h = absurd (true≢false (sym h))
edge_place (suc zero) Negedge c h = absurd (true≢false (sym h))
edge_place (suc (suc p)) Negedge c h = absurd (true≢false (sym h))

in_list : (p : ℕ) (e : Edge) (c : Cell) → edge p e c ≡ true → ((c.thing == 0) || (c.thing == 2)) ≡ true
in_list zero Posedge c h = ap (λ (d : Cell). (d.thing == 0) || (d.thing == 2)) (is_bit c 0 h)
in_list (suc zero) Posedge c h = ap (λ (d : Cell). (d.thing == 0) || (d.thing == 2)) (is_bit c 2 h)
in_list (suc (suc p)) Posedge c h = absurd (true≢false (sym h))
in_list zero Negedge c h = absurd (true≢false (sym h))
in_list (suc zero) Negedge c h = absurd (true≢false (sym h))
in_list (suc (suc p)) Negedge c h = absurd (true≢false (sym h))

target_place : (p : ℕ) (c : Cell) → target p c ≡ true → c.place ≡ 0
target_place zero c h = ap (λ (x : Cell). x.place) (is_bit c 2 h)
target_place (suc zero) c h = ap (λ (x : Cell). x.place) (is_bit c 3 h)
target_place (suc (suc p)) c h = absurd (true≢false (sym h))

one_place : (c d : Cell) → c.place ≡ 0 → d.place ≡ 0 → d.thing ≡ c.thing → d ≡ c
one_place c d a b e = λ i. record { thing = e i; place = (b ∙ sym a) i }

kept : (p : ℕ) (v : Values Bool) (c : Cell) → UpdatesCell (evaluate p v).nonblocking c → target p c ≡ true
kept zero v c (inl (inl e)) = subst (λ x. is x 2 ≡ true) e refl
kept zero v c (inl (inr h)) = absurd h
kept zero v c (inr h) = absurd h
kept (suc zero) v c (inl (inl e)) = subst (λ x. is x 3 ≡ true) e refl
kept (suc zero) v c (inl (inr h)) = absurd h
kept (suc zero) v c (inr h) = absurd h
kept (suc (suc p)) v c h = absurd h

at_most : (b : Bool) → (if b then 1 else 0) + 0 ≤ 1
at_most true = omega arith
at_most false = omega arith

one_write : (p : ℕ) (v : Values Bool) (c : Cell) → times c (output divider p v) ≤ 1
one_write zero v c = at_most (same_cell (bit 2) c)
one_write (suc zero) v c = at_most (same_cell (bit 3) c)
one_write (suc (suc p)) v c = omega arith

one_writer : (p q : ℕ) (c : Cell) → target p c ≡ true → target q c ≡ true → p ≡ q
one_writer zero zero c a b = refl
one_writer (suc zero) (suc zero) c a b = refl
one_writer zero (suc zero) c a b = grind (arith, nat_tests)
one_writer (suc zero) zero c a b = grind (arith, nat_tests)
one_writer (suc (suc p)) q c a b = absurd (true≢false (sym a))
one_writer zero (suc (suc q)) c a b = absurd (true≢false (sym b))
one_writer (suc zero) (suc (suc q)) c a b = absurd (true≢false (sym b))

input_place : (c : Cell) → (is c 0 || is c 1) ≡ true → c.place ≡ 0
input_place c h = grind (arith, nat_tests)

no_input : (p : ℕ) (c : Cell) → (is c 0 || is c 1) ≡ true → target p c ≡ true → ⊥
no_input zero c a b = grind (arith, nat_tests)
no_input (suc zero) c a b = grind (arith, nat_tests)
no_input (suc (suc p)) c a b = true≢false (sym b)

the_target : (p : ℕ) (c : Cell) → IsTarget divider p c → target p c ≡ true
the_target p c (inl h) = absurd (true≢false (sym h))
the_target p c (inr h) = h

lawful : IsLawful divider
lawful =
    record {
      same_is = same_is;
      same_self = same_self;
      edge_changes = edge_changes;
      event_signals = event_signals;
      blocking_kept = none;
      nonblocking_kept = kept;
      once_kept = λ p v c e. one_write p v c;
      inputs_kept = λ p c input t. no_input p c input (the_target p c t);
      not_both = λ p c a b. true≢false (sym a);
      one_writer = λ p q c a b. one_writer p q c (the_target p c a) (the_target q c b);
      input_has_one_bit = λ p e c d a b t. one_place c d (edge_place p e c a) (input_place d b) t;
      target_has_one_bit = λ p q e c d a b t. one_place c d (edge_place p e c a) (target_place q d (the_target q d b)) t;
      assigns_combinational = λ p c a b. absurd (true≢false (sym a));
    }
  where
    same_is : (x y : Bool) → same x y ≡ true → x ≡ y
    same_is true true h = refl
    same_is true false h = sym h
    same_is false true h = h
    same_is false false h = refl

    same_self : (x : Bool) → same x x ≡ true
    same_self true = refl
    same_self false = refl

    edge_changes : (e : Edge) (x : Bool) → is_edge e x x ≡ false
    edge_changes Posedge true = refl
    edge_changes Posedge false = refl
    edge_changes Negedge true = refl
    edge_changes Negedge false = refl

    event_signals : (x : ℕ) → (divider.is_event_signal x ≡ true) ↔ ((p : ℕ) × (e : Edge) × (c : Cell) × (c.thing ≡ x) × (edge p e c ≡ true))
    event_signals x = (listed, is_listed)
      where
        listed : ((x == 0) || (x == 2)) ≡ true → (p : ℕ) × (e : Edge) × (c : Cell) × (c.thing ≡ x) × (edge p e c ≡ true)
        listed is = elim (or_cases _ _ is) [
          | inl clk ↦ (0, Posedge, bit 0, sym (eqb-true x 0 clk), refl)
          | inr half ↦ (1, Posedge, bit 2, sym (eqb-true x 2 half), refl)
        ]

        is_listed : ((p : ℕ) × (e : Edge) × (c : Cell) × (c.thing ≡ x) × (edge p e c ≡ true)) → ((x == 0) || (x == 2)) ≡ true
        is_listed (p, e, c, at, lists) = subst (λ y. ((y == 0) || (y == 2)) ≡ true) at (in_list p e c lists)

    none : (p : ℕ) (v : Values Bool) (c : Cell) → WritesCell (evaluate p v).blocking c → false ≡ true
    none zero v c h = absurd h
    none (suc zero) v c h = absurd h
    none (suc (suc p)) v c h = absurd h

clean_writer : IsClean divider told (IsSingle divider told 0) 0 (bit 0)
clean_writer =
    record {
      clocked = λ x. refl;
      can_wake = ((Posedge, refl, λ one. refl), MayMove.of_input (bit 0) (refl, λ is_told same. true≢false (sym same)));
      alone = λ d can. alone can.0.0 d can.0.1;
      is_single = (refl, refl);
    }
  where
    alone : (e : Edge) (d : Cell) → edge 0 e d ≡ true → d ≡ bit 0
    alone Posedge d h = is_bit d 0 h
    alone Negedge d h = absurd (true≢false (sym h))

-- h is single in round 1, and so block 1 is clean there
single_h : IsSingle divider told 1 (bit 2)
single_h =
    inr
    (record {
      told = refl;
      is_event = refl;
      writer = 0;
      writes = inr refl;
      clocked = λ x. refl;
      once = refl;
      cannot_wake_or_clean = inr (bit 0, clean_writer);
    })

clean_q : IsClean divider told (IsSingle divider told 1) 1 (bit 2)
clean_q =
    record {
      clocked = λ x. refl;
      can_wake = ((Posedge, refl, λ one. refl), MayMove.of_target 0 0 (bit 2) (MayMove.of_input (bit 0) (refl, λ is_told same. true≢false (sym same))) (inr (bit 0, refl, (Posedge, refl, λ one. refl))) (inr refl));
      alone = λ d can. alone can.0.0 d can.0.1;
      is_single = single_h;
    }
  where
    alone : (e : Edge) (d : Cell) → edge 1 e d ≡ true → d ≡ bit 2
    alone Posedge d h = is_bit d 2 h
    alone Negedge d h = absurd (true≢false (sym h))

insensitive : (p : ℕ) (v : Values Bool) (ws : List (Write Bool)) → wakes divider (suc (suc p)) v ws ≡ false
unfolding is_sensitive
insensitive p v [] = refl
insensitive p v (w ∷ ws) = insensitive p (put v w) ws

-- there is no third process
not_woken_now : (es : List (Event Bool)) (s : State Bool) (p : ℕ) → s.woken (suc (suc p)) ≡ false → (end_state divider s es).woken (suc (suc p)) ≡ false
not_woken_now [] s p is = is
not_woken_now (e ∷ es) s p is =
    not_woken_now es (state_after divider s e) p (and_right (not (is_evaluation (suc (suc p)) e)) (s.woken (suc (suc p)) || wakes divider (suc (suc p)) s.values (event_writes divider s e)) (rw is (insensitive p s.values (event_writes divider s e))))

none_woken : (es : List (Event Bool)) → (end_state divider start es).woken 0 ≡ false → (end_state divider start es).woken 1 ≡ false → (p : ℕ) → (end_state divider start es).woken p ≡ false
none_woken es a b zero = a
none_woken es a b (suc zero) = b
none_woken es a b (suc (suc p)) = not_woken_now es start p refl

has_some : {A : Type 0} (x : A) (xs : List A) → x ∷ xs ≢ []
has_some x xs e = cc

the_step : (h : Habit) → IsByHabit divider h start events → IsStep divider h start events
unfolding is_sensitive put mark
the_step h habit =
    record {
      starts = record { none_woken = λ p. refl; none_active = refl; none_queued = refl };
      unmoved = λ c. refl;
      legal = (
        (has_some _ _, (refl, refl, λ same. true≢false (sym same), tt)),
        (
          refl,
          (
            ((none_woken (take 2 events) refl refl, refl), has_some _ _),
            (
              has_some _ _,
              (
                refl,
                (((none_woken (take 5 events) refl refl, refl), has_some _ _), (has_some _ _, tt)),
              ),
            ),
          ),
        ),
      );
      habit = habit;
      ends = record { none_woken = none_woken events refl refl; none_active = refl; none_queued = refl };
    }

-- the one Move of the step is of an event signal, so the step is by either habit
move_is : (before : List (Event Bool)) (ws : List (Write Bool)) (after : List (Event Bool)) → events ≡ before ++ Move ws ∷ after → ws ≡ record { cell = bit 0; value = true } ∷ []
move_is [] ws after is = cc
move_is (a ∷ []) ws after is = absurd (cc)
move_is (a ∷ b ∷ []) ws after is = absurd (cc)
move_is (a ∷ b ∷ c ∷ []) ws after is = absurd (cc)
move_is (a ∷ b ∷ c ∷ d ∷ []) ws after is = absurd (cc)
move_is (a ∷ b ∷ c ∷ d ∷ e ∷ []) ws after is = absurd (cc)
move_is (a ∷ b ∷ c ∷ d ∷ e ∷ f ∷ []) ws after is = absurd (cc)
move_is (a ∷ b ∷ c ∷ d ∷ e ∷ f ∷ g ∷ []) ws after is = absurd (cc)
move_is (a ∷ b ∷ c ∷ d ∷ e ∷ f ∷ g ∷ x ∷ before) ws after is = absurd (cc)

by_habit : (h : Habit) → IsByHabit divider h start events
by_habit h = free_by_habit divider h events start moves_clk
  where
    clk_is_free : (k : Habit) → is_free_input divider k 0 ≡ true
    clk_is_free Free = refl
    clk_is_free Late = refl

    moves_clk : (before : List (Event Bool)) (ws : List (Write Bool)) (after : List (Event Bool)) → events ≡ before ++ Move ws ∷ after → (c : Cell) → WritesCell ws c → is_free_input divider h c.thing ≡ true
    moves_clk before ws after is c has =
        ⊎_elim
        (λ here. subst (λ (d : Cell). is_free_input divider h d.thing ≡ true) here (clk_is_free h))
        (λ none. absurd none)
        (subst (λ us. WritesCell us c) (move_is before ws after is) has)

as_told : IsAsTold divider told start events
unfolding is_sensitive put
as_told c is = (refl, grind (arith, nat_tests))

abbrev told_step : (h : Habit) → ToldStep divider h told
told_step h = record { start = start; events = events; is_step = the_step h (by_habit h); as_told = as_told }

pub worked_example : IsWorkedExample
worked_example =
    record {
      lawful = lawful;
      step = λ h. the_step h (by_habit h);
      as_told = as_told;
      clean = clean_writer;
      clean_next = clean_q;
      once = edge_law divider lawful Free 1 told (told_step Free) 1 (bit 2) clean_q;
      once_late = edge_law divider lawful Late 1 told (told_step Late) 1 (bit 2) clean_q;
    }
