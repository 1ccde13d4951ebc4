-- y is clear from 5 on, with the value 0, and the block of q knows it at 10.
use Rattle.std.proofs.Common.{◌≡◌, ◌≢◌, refl, sym, ap, subst, ◌∙◌, ℕ, zero, suc, ◌<◌, ◌-◌, ◌||◌, ◌==◌, true, false, List, [], ◌∷◌, inl, inr, ⊎_elim, arith, suc-ne-zero, lit<, lit≤, Some}
use Rattle.std.specs.Prelude.{nat_le, nat_lt}
use Rattle.std.specs.List.{list_any}
use Rattle.std.proofs.lemmas.Bool.{and_parts, or_cases, eqb-true, ltb-true, leb-true, false≢true, lt-leb}
use Rattle.event_machine.specs.Cell.{Cell, Values, put}
use Rattle.event_machine.specs.Machine.{Posedge}
use Rattle.event_machine.specs.Habit.{Free, Habit}
use Rattle.event_machine.specs.MayMove.{MayMove, MayWake}
use Rattle.event_machine.specs.Early.{IsEarly}
use Rattle.four_state.specs.Vector.{extend, truth}
use Rattle.four_state.specs.declared.bit.Bit.{Bit}
use Rattle.four_state.specs.declared.bit.Bit.TheVariants.{One, X, Zero}
use Rattle.four_state.specs.declared.truth.Truth.TheVariants.{False}
use Rattle.design_model.specs.Tree.{Term, binary, signal}
use Rattle.four_state.specs.declared.operator.Binary.TheVariants.{BitwiseAnd}
use Rattle.design_model.specs.Design.{In, IsThing, Thing, a_signal, a_word, body_at, cell, process_at, signal_bits}
use Rattle.design_model.specs.Value.{head, value}
use Rattle.design_model.specs.Mentions.{body_blocks, mentions}
use Rattle.point_words.specs.declared.node_case.NodeCase.TheVariants.{BothTrue, RightFalse}
use Rattle.design_model.specs.Execution.{cases, execution}
use Rattle.design_model.specs.Paths.{Path, paths, reaches, reads_signal_before_writing}
use Rattle.design_model.specs.Reads.{Agrees, AllInside, HasValue, PartialMap}
use Rattle.design_model.specs.Machine.{is_input_cell, is_level, machine}
use Rattle.design_model.specs.MayMove.{IsCleanAt, IsSingleAt, told_at}
use Rattle.design_model.specs.Early.{IsEarlyAt}
use Rattle.design_model.specs.Clear.{HasChanged, IsClearBy, IsClockedTarget, IsCombValue, bits_after, clear, clear_in, is_driven, of_assigns, of_clean, of_comb, of_dump, of_unwoken}
use Rattle.design_model.specs.Open.{FollowsAll, HasAction, IsFixed, IsOpen, IsOpenPath, IsSurelyOpen, KnownAtEnd, KnownOnEntry, MayBeAsked, asks, is_true}
use Rattle.design_model.specs.Doubt.{of_signal}
use Rattle.design_model.specs.ExampleParts.{at, counted, plain}
use Rattle.design_model.specs.Pipe.{pipe, pipe_values}
use Rattle.design_model.proofs.Bound.{clear-thing, clear_bound, clear_in-thing, in_bound}
use Rattle.design_model.proofs.WithinMap.{within_blocking, within_by}
use Rattle.worked_examples.specs.Design.Settling.{IsSettlingExample, case_of, line_one, line_zero, settling_dump}
use Rattle.worked_examples.proofs.Design.Entry.{on_entry}
use Rattle.worked_examples.proofs.Design.OneSet.{node_met, node_sure, one_rise}
use Rattle.worked_examples.proofs.Design.Parts.{False≢True, Zero≢One, none_some, path_at, thing_of}
use Rattle.worked_examples.proofs.Design.PathSteps.{is_reaching, node_inside, reaching_found}

abbrev IsBoundHere : Thing → Type 0
IsBoundHere (a_signal s) = nat_lt s 4 ≡ true
IsBoundHere (a_word m i) = Unit {0}

no_words : (m i : ℕ) → IsThing pipe (a_word m i) → ⊥
no_words m i h = let p = and_parts (nat_le 5 m) (nat_lt m 5) h.0 in omega (arith, leb-true 5 m p.0, ltb-true m 5 p.1)

-- ---- the gate gives y a value

-- nothing else does
not_clocked : (p : ℕ) → IsClockedTarget pipe p (a_signal 4) → ⊥
not_clocked zero h = h.is_clocked
not_clocked (suc zero) h = false≢true h.target
not_clocked (suc (suc p)) h = h.is_clocked

only_gate : (p : ℕ) (K : PartialMap) (t : ℕ) (bits : List Bit) → IsCombValue pipe settling_dump t K p 4 bits → p ≡ 0
only_gate zero K t bits h = refl
only_gate (suc zero) K t bits h = absurd h.is_comb
only_gate (suc (suc p)) K t bits h = absurd (false≢true h.target)

by_rule : (P : List Bit → Type 0) (t : ℕ) (start K : PartialMap) → ((bits : List Bit) → IsCombValue pipe settling_dump t K 0 4 bits → P bits) → (x : Thing) (bits : List Bit) → IsClearBy pipe Free settling_dump t start K x bits → x ≡ a_signal 4 → P bits
by_rule P t start K f x bits (of_dump s w0 is_shown is_bound is_signal is) e = absurd (false≢true (subst IsBoundHere e is_bound))
by_rule P t start K f x bits (of_assigns s w0 unbound is) e = absurd (false≢true (subst (λ y. is_driven pipe y ≡ true) (ap thing_of e) is.driven))
by_rule P t start K f x bits (of_comb p s w0 unbound is) e =
    let made : IsCombValue pipe settling_dump t K p 4 w0 = subst (λ y. IsCombValue pipe settling_dump t K p y w0) (ap thing_of e) is in
    f w0 (subst (λ q. IsCombValue pipe settling_dump t K q 4 w0) (only_gate p K t w0 made) made)
by_rule P t start K f x bits (of_unwoken p x0 w0 w unbound target still old) e = absurd (not_clocked p (subst (IsClockedTarget pipe p) e target))
by_rule P t start K f x bits (of_clean p c x0 w0 w unbound is) e = absurd (not_clocked p (subst (IsClockedTarget pipe p) e is.writer))

-- until 4 nothing changes, so y is not clear
values_early : (t : ℕ) → t < 5 → settling_dump.values t ≡ pipe_values Zero Zero One X X
values_early t h = rw (lt-leb 15 t (omega arith), lt-leb 10 t (omega arith), lt-leb 5 t h) refl

unchanged : HasChanged settling_dump pipe (body_at pipe 0) 4 → ⊥
unchanged h =
    let now : settling_dump.values h.time ≡ pipe_values Zero Zero One X X = values_early h.time (omega (arith, h.until)) in
    let then' : settling_dump.values (h.time - 1) ≡ pipe_values Zero Zero One X X = values_early (h.time - 1) (omega (arith, h.until)) in
    h.changed (ap (λ v. signal_bits pipe v h.by) (then' ∙ sym now))

in_early : (start : PartialMap) (n : ℕ) (bits : List Bit) → clear_in pipe Free settling_dump 4 start n (a_signal 4) bits → ⊥
in_early start zero bits k = k
in_early start (suc n) bits k = by_rule (λ w. ⊥) 4 start (clear_in pipe Free settling_dump 4 start n) (λ w h. unchanged h.has_changed) (a_signal 4) bits k refl

not_clear_y : HasValue (clear pipe Free settling_dump 4) (a_signal 4) → ⊥
not_clear_y k = in_early (clear pipe Free settling_dump 3) k.1.0 k.0 k.1.1

-- at 9 a is 1 and b is 0, so y is 0
abbrev start_9 : PartialMap
start_9 = clear pipe Free settling_dump 8

abbrev values_9 : Values Bit
values_9 = pipe_values Zero One Zero X Zero

gate_gives : bits_after pipe (pipe_values Zero One Zero X Zero) (execution pipe (body_at pipe 0) (pipe_values Zero One Zero X Zero)).blocking (a_signal 4) ≡ Zero ∷ []
unfolding put
gate_gives = refl

agrees_9 : (n : ℕ) → Agrees pipe (clear_in pipe Free settling_dump 9 (clear pipe Free settling_dump 8) n) (pipe_values Zero One Zero X Zero)
agrees_9 zero x bits k = absurd k
agrees_9 (suc n) (a_signal zero) bits k = sym (in_bound pipe Free settling_dump 9 start_9 (suc n) 0 bits k refl)
agrees_9 (suc n) (a_signal (suc zero)) bits k = sym (in_bound pipe Free settling_dump 9 start_9 (suc n) 1 bits k refl)
agrees_9 (suc n) (a_signal (suc (suc zero))) bits k = sym (in_bound pipe Free settling_dump 9 start_9 (suc n) 2 bits k refl)
agrees_9 (suc n) (a_signal (suc (suc (suc zero)))) bits k = sym (in_bound pipe Free settling_dump 9 start_9 (suc n) 3 bits k refl)
agrees_9 (suc n) (a_signal (suc (suc (suc (suc zero))))) bits k =
    by_rule (λ w. Zero ∷ [] ≡ w) 9 start_9 (clear_in pipe Free settling_dump 9 start_9 n) (λ w h. sym gate_gives ∙ h.gives (pipe_values Zero One Zero X Zero) (agrees_9 n)) (a_signal 4) bits k refl
agrees_9 (suc n) (a_signal (suc (suc (suc (suc (suc s)))))) bits k = absurd (omega (arith, clear_in-thing pipe Free settling_dump 9 start_9 (suc n) (a_signal (suc (suc (suc (suc (suc s)))))) bits k))
agrees_9 (suc n) (a_word m i) bits k = absurd (no_words m i (clear_in-thing pipe Free settling_dump 9 start_9 (suc n) (a_word m i) bits k))

y_is : (n : ℕ) (bits : List Bit) → clear_in pipe Free settling_dump 9 (clear pipe Free settling_dump 8) n (a_signal 4) bits → bits ≡ Zero ∷ []
y_is n bits k = sym (agrees_9 n (a_signal 4) bits k)

abbrev clear_1 : PartialMap
clear_1 = clear_in pipe Free settling_dump 9 start_9 1

clear_a : HasValue (clear_in pipe Free settling_dump 9 (clear pipe Free settling_dump 8) 1) (a_signal 1)
clear_a = (One ∷ [], of_dump 1 (One ∷ []) (lit≤ tt, lit< tt) refl (lit< tt) refl)

clear_b : HasValue (clear_in pipe Free settling_dump 9 (clear pipe Free settling_dump 8) 1) (a_signal 2)
clear_b = (Zero ∷ [], of_dump 2 (Zero ∷ []) (lit≤ tt, lit< tt) refl (lit< tt) refl)

all_inside : AllInside (clear_in pipe Free settling_dump 9 (clear pipe Free settling_dump 8) 1) (execution pipe (body_at pipe 0) (pipe_values Zero One Zero X Zero)).visits
all_inside = (tt, (clear_a, (clear_b, (tt, tt))))

gives : (v : Values Bit) → Agrees pipe (clear_in pipe Free settling_dump 9 (clear pipe Free settling_dump 8) 1) v → bits_after pipe v (execution pipe (body_at pipe 0) v).blocking (a_signal 4) ≡ Zero ∷ []
unfolding put
gives v agrees = subst (λ ws. bits_after pipe v ws (a_signal 4) ≡ Zero ∷ []) (within_blocking pipe _ (body_at pipe 0) (pipe_values Zero One Zero X Zero) v (agrees_9 1) agrees all_inside) refl

mentioned : (x : ℕ) → is_level (process_at pipe 0) x ≡ true → HasValue (clear_in pipe Free settling_dump 9 (clear pipe Free settling_dump 8) 1) (a_signal x)
mentioned x h = ⊎_elim (λ e. ⊎_elim (λ f. subst (λ y. HasValue clear_1 (a_signal y)) (eqb-true 1 x f) clear_a) (λ f. subst (λ y. HasValue clear_1 (a_signal y)) (eqb-true 2 x f) clear_b) (or_cases (1 == x) (2 == x) e)) (λ e. absurd (false≢true e)) (or_cases ((1 == x) || (2 == x)) false h)

clear_y : clear pipe Free settling_dump 9 (a_signal 4) (Zero ∷ [])
clear_y = (2, of_comb 0 4 (Zero ∷ []) refl is_made)
  where
    zero_one : Zero ∷ [] ≢ One ∷ []
    zero_one = grind arith

    is_made : IsCombValue pipe settling_dump 9 (clear_in pipe Free settling_dump 9 (clear pipe Free settling_dump 8) 1) 0 4 (Zero ∷ [])
    is_made =
        record {
          is_signal = lit< tt;
          is_comb = tt;
          target = refl;
          written_whole = refl;
          writes_first = λ x h. subst (λ y. reads_signal_before_writing pipe (body_at pipe 0) y ≡ false) (eqb-true 4 x h) refl;
          all_clear = λ x h away is_signal. mentioned x h;
          within = within_by pipe _ (body_at pipe 0) (pipe_values Zero One Zero X Zero) (agrees_9 1) all_inside;
          has_changed = record { by = 1; time = 5; mentioned = refl; is_bound = refl; until = lit≤ tt; in_window = (lit< tt, lit< tt); changed = zero_one };
          gives = gives;
        }

-- ---- the gate at 5

gate_agrees : Agrees pipe (KnownAtEnd pipe Free settling_dump 5 0) (pipe_values Zero One Zero X X)
gate_agrees = by_thing
  where
    by_thing : Agrees pipe (KnownAtEnd pipe Free settling_dump 5 0) (pipe_values Zero One Zero X X)
    by_thing (a_signal zero) bits k = sym (clear_bound pipe Free settling_dump 5 0 bits k.1 refl)
    by_thing (a_signal (suc zero)) bits k = sym (clear_bound pipe Free settling_dump 5 1 bits k.1 refl)
    by_thing (a_signal (suc (suc zero))) bits k = sym (clear_bound pipe Free settling_dump 5 2 bits k.1 refl)
    by_thing (a_signal (suc (suc (suc zero)))) bits k = sym (clear_bound pipe Free settling_dump 5 3 bits k.1 refl)
    by_thing (a_signal (suc (suc (suc (suc zero))))) bits k = absurd (false≢true (sym k.0))
    by_thing (a_signal (suc (suc (suc (suc (suc s)))))) bits k = absurd (omega (arith, clear-thing pipe Free settling_dump 5 (a_signal (suc (suc (suc (suc (suc s)))))) bits k.1))
    by_thing (a_word m i) bits k = absurd (no_words m i (clear-thing pipe Free settling_dump 5 (a_word m i) bits k.1))

abbrev AtEnd : PartialMap
AtEnd = KnownAtEnd pipe Free settling_dump 5 0

abbrev gate : Term
gate = binary (counted 1) BitwiseAnd (signal plain 1) (signal plain 2)

knows_b : KnownAtEnd pipe Free settling_dump 5 0 (a_signal 2) (Zero ∷ [])
knows_b = (refl, (1, of_dump 2 (Zero ∷ []) (lit≤ tt, lit< tt) refl (lit< tt) refl))

fixed_b : IsFixed pipe (KnownAtEnd pipe Free settling_dump 5 0) (body_at pipe 0) (signal plain 2)
fixed_b = record { within = λ v a. ((Zero ∷ [], knows_b), tt); unwritten = unwritten }
  where
    unwritten : (x : ℕ) → mentions x (signal plain 2) ≡ true → body_blocks x (body_at pipe 0) ≡ false
    unwritten x m = subst (λ y. body_blocks y (body_at pipe 0) ≡ false) (eqb-true 2 x m) refl

b_is : (v : Values Bit) → Agrees pipe (KnownAtEnd pipe Free settling_dump 5 0) v → truth (value pipe v (signal plain 2)) ≡ False
b_is v av = ap (λ bs. truth (extend 1 false bs)) (av (a_signal 2) (Zero ∷ []) knows_b)

right_sure : IsSurelyOpen pipe (KnownAtEnd pipe Free settling_dump 5 0) (body_at pipe 0) (case_of RightFalse)
right_sure = (gate, inr (inl refl), (fixed_b, b_is, tt), node_sure pipe AtEnd (at 13) 1 true 4 gate 1 gate (inl refl) refl)

both_closed : IsOpen pipe (KnownAtEnd pipe Free settling_dump 5 0) (body_at pipe 0) (case_of BothTrue) → ⊥
both_closed h = go (node_met pipe AtEnd (at 13) 1 true 4 gate 1 (λ u. MayBeAsked pipe AtEnd (body_at pipe 0) (asks BothTrue u)) h)
  where
    asked_true : (u : Term) → gate ≡ u → MayBeAsked pipe AtEnd (body_at pipe 0) (asks BothTrue u) → ⊥
    asked_true u e m =
        let f = subst (λ z. MayBeAsked pipe AtEnd (body_at pipe 0) (asks BothTrue z)) (sym e) m in
        False≢True (f.1.0 fixed_b (pipe_values Zero One Zero X X) gate_agrees)

    go : ((u : Term) × In u (gate ∷ signal plain 1 ∷ signal plain 2 ∷ []) × ((head u).node ≡ Some 1) × MayBeAsked pipe AtEnd (body_at pipe 0) (asks BothTrue u)) → ⊥
    go (u, inl e, node, m) = asked_true u e m
    go (u, inr (inl e), node, m) = none_some 1 (subst (λ z. (head z).node ≡ Some 1) (sym e) node)
    go (u, inr (inr (inl e)), node, m) = none_some 1 (subst (λ z. (head z).node ≡ Some 1) (sym e) node)
    go (u, inr (inr (inr none)), node, m) = none

-- ---- the block of q at 10

is_clean : IsCleanAt pipe settling_dump 10 1 (cell 0 0)
is_clean =
    record {
      clocked = λ x. refl;
      can_wake = ((Posedge, refl, λ s. refl), MayMove.of_input (cell 0 0) (refl, λ s. Zero≢One));
      alone = λ c wakes. one_rise 0 wakes.0.0 c wakes.0.1;
      is_single = (refl, refl);
    }

only : (e : Cell) → IsCleanAt pipe settling_dump 10 1 e → e ≡ cell 0 0
only e clean = one_rise 0 clean.can_wake.0.0 e clean.can_wake.0.1

moving_clk : (x k : ℕ) → is_input_cell pipe (cell x k) ≡ true → (settling_dump.bound x ≡ true → (told_at settling_dump 10).old (cell x k) ≢ (told_at settling_dump 10).new (cell x k)) → x ≢ 0 → ⊥
moving_clk zero k h moves ne = ne refl
moving_clk (suc zero) k h moves ne = moves refl refl
moving_clk (suc (suc zero)) k h moves ne = moves refl refl
moving_clk (suc (suc (suc zero))) k h moves ne = false≢true h
moving_clk (suc (suc (suc (suc zero)))) k h moves ne = false≢true h
moving_clk (suc (suc (suc (suc (suc x))))) k h moves ne = false≢true h

-- the clock does not wake the gate, and nothing else is early that could
clk_not_level : (p : ℕ) → is_level (process_at pipe p) 0 ≡ true → ⊥
clk_not_level zero h = false≢true h
clk_not_level (suc zero) h = false≢true h
clk_not_level (suc (suc p)) h = false≢true h

blocking_is : (p : ℕ) (c : Cell) → (machine pipe).blocking p c ≡ true → p ≡ 0
blocking_is zero c h = refl
blocking_is (suc zero) c h = absurd (false≢true h)
blocking_is (suc (suc p)) c h = absurd (false≢true h)

gate_sleeps : (p x : ℕ) → p ≡ 0 → x ≡ 0 → MayWake (machine pipe) (told_at settling_dump 10) (IsSingleAt pipe settling_dump 10) x p → ⊥
gate_sleeps p x e z w = ⊎_elim (λ l. clk_not_level p (subst (λ y. is_level (process_at pipe p) y ≡ true) z l)) (λ s. false≢true (subst (λ q. (machine pipe).edge q s.2.0 s.0 ≡ true) e s.2.1)) w

none_is_early : (h : Habit) (x : ℕ) → IsEarlyAt pipe h settling_dump 10 1 (cell 0 0) x → ⊥
none_is_early h x (IsEarly.of_input c moving free other) = moving_clk c.thing c.place moving.0 moving.1 other
none_is_early h x (IsEarly.of_trigger p c may_wake not_b blocks away) = gate_sleeps p 0 (blocking_is p c blocks) refl may_wake
none_is_early h x (IsEarly.of_blocking y p c is may_wake not_b blocks away) = none_is_early h y is
none_is_early h x (IsEarly.of_nonblocking y p c is may_wake queues away) = none_is_early h y is

entry_agrees : Agrees pipe (KnownOnEntry pipe Free settling_dump 10 1) (pipe_values One One Zero X Zero)
entry_agrees = on_entry pipe Free settling_dump 10 1 (cell 0 0) only (pipe_values One One Zero X Zero) no_words refl others
  where
    others : (s : ℕ) → s < 5 → s ≢ 0 → (IsEarlyAt pipe Free settling_dump 10 1 (cell 0 0) s → ⊥) → (bits : List Bit) → clear pipe Free settling_dump 9 (a_signal s) bits → signal_bits pipe (pipe_values One One Zero X Zero) s ≡ bits
    others zero below ne not_early bits k = absurd (ne refl)
    others (suc zero) below ne not_early bits k = sym (clear_bound pipe Free settling_dump 9 1 bits k refl)
    others (suc (suc zero)) below ne not_early bits k = sym (clear_bound pipe Free settling_dump 9 2 bits k refl)
    others (suc (suc (suc zero))) below ne not_early bits k = sym (clear_bound pipe Free settling_dump 9 3 bits k refl)
    others (suc (suc (suc (suc zero)))) below ne not_early bits k = sym (y_is k.0 bits k.1)
    others (suc (suc (suc (suc (suc s))))) below ne not_early bits k = absurd (omega (arith, below))

abbrev Entry : PartialMap
Entry = KnownOnEntry pipe Free settling_dump 10 1

knows_y : KnownOnEntry pipe Free settling_dump 10 1 (a_signal 4) (Zero ∷ [])
knows_y = (cell 0 0, is_clean, inr ((λ e. suc-ne-zero 3 (ap thing_of e)), none_is_early Free 4, clear_y))

fixed_y : IsFixed pipe (KnownOnEntry pipe Free settling_dump 10 1) (body_at pipe 1) (signal (counted 2) 4)
fixed_y = record { within = λ v a. ((Zero ∷ [], knows_y), node_inside Entry (Some 2) (cases pipe v (signal (counted 2) 4))); unwritten = λ x m. refl }

test_is : (v : Values Bit) → Agrees pipe (KnownOnEntry pipe Free settling_dump 10 1) v → is_true (truth (value pipe v (signal (counted 2) 4))) ≡ false
test_is v av = ap (λ bs. is_true (truth (extend 1 false bs))) (av (a_signal 4) (Zero ∷ []) knows_y)

closed : FollowsAll pipe Entry (body_at pipe 1) (path_at 0 (paths [] (body_at pipe 1))) → ⊥
closed f = false≢true (sym (test_is (pipe_values One One Zero X Zero) entry_agrees) ∙ f.1.0 fixed_y (pipe_values One One Zero X Zero) entry_agrees)

line_closed : IsOpen pipe (KnownOnEntry pipe Free settling_dump 10 1) (body_at pipe 1) line_one → ⊥
line_closed h = go h.1.is_path
  where
    go : In h.0 (paths [] (body_at pipe 1)) → ⊥
    go (inl e) = closed (subst (FollowsAll pipe Entry (body_at pipe 1)) (sym e) h.1.follows)
    go (inr (inl e)) = false≢true (subst (λ p. list_any (λ y. is_reaching 3 y.action) p ≡ true) (sym e) (reaching_found 3 h.2.1.0 h.0 h.2.1.1 h.2.1.3))
    go (inr (inr none)) = none

line_sure : IsSurelyOpen pipe (KnownOnEntry pipe Free settling_dump 10 1) (body_at pipe 1) line_zero
line_sure = (1 ∷ [], λ path o. go path o o.is_path)
  where
    go : (path : Path) → IsOpenPath pipe Entry (body_at pipe 1) path → In path (paths [] (body_at pipe 1)) → HasAction (λ x. x ≡ reaches 4) (1 ∷ []) path
    go path o (inl e) = absurd (closed (subst (FollowsAll pipe Entry (body_at pipe 1)) (sym e) o.follows))
    go path o (inr (inl e)) = subst (HasAction (λ x. x ≡ reaches 4) (1 ∷ [])) e (_, inr (inr (inl refl)), refl, refl)
    go path o (inr (inr none)) = absurd none

pub settling_example : IsSettlingExample
settling_example =
    record {
      reached = ((lit< tt, lit< tt), refl, inr ((λ c. c), (cell 1 0, (lit< tt, lit< tt, (refl, refl)), refl, Zero≢One), inr right_sure));
      gate_not_open = both_closed;
      is_clear = clear_y;
      doubt = of_signal (lit< tt, lit< tt) refl (inl (inr (inl refl))) (inl not_clear_y);
      clean = is_clean;
      none_early = none_is_early;
      not_open = line_closed;
      surely_open = line_sure;
    }
