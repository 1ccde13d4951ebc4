-- A register that the dump lacks, between a gate and a flip flop: clk is signal 0, a is 1, b is 2, q is 3, y is 4.
--   always @* y = a & b;
--   always @(posedge clk) if (y) q <= 1; else q <= 0;
use Rattle.std.proofs.Common.{◌≡◌, ◌≢◌, refl, sym, ap, subst, ◌∙◌, ℕ, zero, suc, ◌<◌, ◌-◌, ◌||◌, ◌==◌, true, false, List, [], ◌∷◌, inl, inr, ⊎_elim, arith, lit<, lit≤}
use Rattle.std.specs.Prelude.{nat_le, nat_lt}
use Rattle.std.proofs.lemmas.Bool.{and_parts, or_cases, eqb-true, ltb-true, leb-true, false≢true, lt-leb}
use Rattle.event_machine.specs.Cell.{Values, put}
use Rattle.event_machine.specs.Habit.{Free}
use Rattle.four_state.specs.declared.bit.Bit.{Bit}
use Rattle.four_state.specs.declared.bit.Bit.TheVariants.{One, X, Zero}
use Rattle.design_model.specs.Design.{Thing, a_signal, a_word, body_at, is_memory, process_at, signal_bits, thing_bits}
use Rattle.design_model.specs.Execution.{BothTrue, at_line, at_node, execution, reads}
use Rattle.design_model.specs.Paths.{reads_signal_before_writing}
use Rattle.design_model.specs.Reads.{Agrees, AllInside, HasValue, PartialMap, nothing_known}
use Rattle.design_model.specs.Machine.{is_level}
use Rattle.design_model.specs.Points.{toggle_point}
use Rattle.design_model.specs.Clear.{HasChanged, IsClearBy, IsClockedTarget, IsCombValue, bits_after, clear, clear_in, is_driven, of_assigns, of_clean, of_comb, of_dump, of_unwoken}
use Rattle.design_model.specs.Doubt.{IsInDoubt, of_signal}
use Rattle.design_model.specs.Lawful.{is_signal}
use Rattle.design_model.specs.Pipe.{IsPipeExample, pipe, pipe_dump, pipe_values}
use Rattle.design_model.proofs.Bound.{clear_in-thing, in_bound}
use Rattle.design_model.proofs.FlipFlopDoubt.{agrees}
use Rattle.design_model.proofs.WithinMap.{within_blocking, within_by}

-- the gate on a 1 and b 1
pub gate_visits : (execution pipe (body_at pipe 0) (pipe_values Zero One One X X)).visits ≡ at_line 1 ∷ reads (a_signal 1) false ∷ reads (a_signal 2) false ∷ at_node 1 BothTrue ∷ []
gate_visits = refl

no_memory : (m : ℕ) → is_memory pipe m ≡ true → ⊥
no_memory m h = let p = and_parts (nat_le 5 m) (nat_lt m 5) h in omega (arith, leb-true 5 m p.0, ltb-true m 5 p.1)

-- no Clocked writes y
not_clocked : (p : ℕ) → IsClockedTarget pipe p (a_signal 4) → ⊥
not_clocked zero h = h.is_clocked
not_clocked (suc zero) h = false≢true h.target
not_clocked (suc (suc p)) h = h.is_clocked

-- nothing gives y a value but the gate
only_gate : (p : ℕ) (K : PartialMap) (t : ℕ) (bits : List Bit) → IsCombValue pipe pipe_dump t K p 4 bits → p ≡ 0
only_gate zero K t bits h = refl
only_gate (suc zero) K t bits h = absurd h.is_comb
only_gate (suc (suc p)) K t bits h = absurd (false≢true h.target)

abbrev IsBoundHere : Thing → Type 0
IsBoundHere (a_signal s) = nat_lt s 4 ≡ true
IsBoundHere (a_word m i) = Unit {0}

abbrev signal_of : Thing → ℕ
signal_of (a_signal s) = s
signal_of (a_word m i) = 0

no_net : (s : ℕ) → a_signal s ≡ a_signal 4 → is_driven pipe s ≡ true → ⊥
no_net s e h = false≢true (subst (λ y. is_driven pipe y ≡ true) (ap signal_of e) h)

at_zero : (t : ℕ) (bits : List Bit) → IsCombValue pipe pipe_dump t nothing_known 0 4 bits → ⊥
at_zero t bits h = (h.all_clear 1 refl refl (lit< tt)).1

no_gate : (t p s : ℕ) (bits : List Bit) → a_signal s ≡ a_signal 4 → IsCombValue pipe pipe_dump t nothing_known p s bits → ⊥
no_gate t p s bits e h = go p (only_gate p nothing_known t bits h') h'
  where
    h' : IsCombValue pipe pipe_dump t nothing_known p 4 bits
    h' = subst (λ y. IsCombValue pipe pipe_dump t nothing_known p y bits) (ap signal_of e) h

    go : (p : ℕ) → p ≡ 0 → IsCombValue pipe pipe_dump t nothing_known p 4 bits → ⊥
    go p e h = at_zero t bits (subst (λ y. IsCombValue pipe pipe_dump t nothing_known y 4 bits) e h)

-- y is not clear before the block's inputs are
by_first : (t : ℕ) (start : PartialMap) (x : Thing) (bits : List Bit) → IsClearBy pipe Free pipe_dump t start nothing_known x bits → x ≡ a_signal 4 → ⊥
by_first t start x bits (of_dump s w0 is_shown is_bound is_signal is) e = false≢true (subst IsBoundHere e is_bound)
by_first t start x bits (of_assigns s w0 unbound is) e = no_net s e is.driven
by_first t start x bits (of_comb p s w0 unbound is) e = no_gate t p s w0 e is
by_first t start x bits (of_unwoken p x0 w0 w unbound target still old) e = not_clocked p (subst (IsClockedTarget pipe p) e target)
by_first t start x bits (of_clean p c x0 w0 w unbound is) e = not_clocked p (subst (IsClockedTarget pipe p) e is.writer)

-- what is clear at 5 in the first round
abbrev clear_1 : PartialMap
clear_1 = clear_in pipe Free pipe_dump 5 (clear pipe Free pipe_dump 4) 1

-- the values at 5 agree with what is clear in the first round
agrees_1 : (y : Bit) (x : Thing) (bits : List Bit) → clear_in pipe Free pipe_dump 5 (clear pipe Free pipe_dump 4) 1 x bits → thing_bits pipe (pipe_values Zero One One X y) x ≡ bits
agrees_1 y (a_signal zero) bits k = sym (in_bound pipe Free pipe_dump 5 (clear pipe Free pipe_dump 4) 1 0 bits k refl)
agrees_1 y (a_signal (suc zero)) bits k = sym (in_bound pipe Free pipe_dump 5 (clear pipe Free pipe_dump 4) 1 1 bits k refl)
agrees_1 y (a_signal (suc (suc zero))) bits k = sym (in_bound pipe Free pipe_dump 5 (clear pipe Free pipe_dump 4) 1 2 bits k refl)
agrees_1 y (a_signal (suc (suc (suc zero)))) bits k = sym (in_bound pipe Free pipe_dump 5 (clear pipe Free pipe_dump 4) 1 3 bits k refl)
agrees_1 y (a_signal (suc (suc (suc (suc zero))))) bits k = absurd (by_first 5 (clear pipe Free pipe_dump 4) (a_signal 4) bits k refl)
agrees_1 y (a_signal (suc (suc (suc (suc (suc s)))))) bits k = absurd (omega (arith, clear_in-thing pipe Free pipe_dump 5 (clear pipe Free pipe_dump 4) 1 (a_signal (suc (suc (suc (suc (suc s)))))) bits k))
agrees_1 y (a_word m i) bits k = absurd (no_memory m (clear_in-thing pipe Free pipe_dump 5 (clear pipe Free pipe_dump 4) 1 (a_word m i) bits k).0)

-- at 5 the gate's inputs are clear in the first round
clear_a : HasValue (clear_in pipe Free pipe_dump 5 (clear pipe Free pipe_dump 4) 1) (a_signal 1)
clear_a = (One ∷ [], of_dump 1 (One ∷ []) (lit≤ tt, lit< tt) refl (lit< tt) refl)

clear_b : HasValue (clear_in pipe Free pipe_dump 5 (clear pipe Free pipe_dump 4) 1) (a_signal 2)
clear_b = (One ∷ [], of_dump 2 (One ∷ []) (lit≤ tt, lit< tt) refl (lit< tt) refl)

all_inside : (y : Bit) → AllInside (clear_in pipe Free pipe_dump 5 (clear pipe Free pipe_dump 4) 1) (execution pipe (body_at pipe 0) (pipe_values Zero One One X y)).visits
all_inside y = (tt, (clear_a, (clear_b, (tt, tt))))

-- what the gate writes on all values that agree
gives : (v : Values Bit) → Agrees pipe (clear_in pipe Free pipe_dump 5 (clear pipe Free pipe_dump 4) 1) v → bits_after pipe v (execution pipe (body_at pipe 0) v).blocking (a_signal 4) ≡ One ∷ []
unfolding put
gives v agrees = subst (λ ws. bits_after pipe v ws (a_signal 4) ≡ One ∷ []) (within_blocking pipe _ (body_at pipe 0) (pipe_values Zero One One X X) v (agrees_1 X) agrees (all_inside X)) refl

mentioned : (x : ℕ) → is_level (process_at pipe 0) x ≡ true → HasValue (clear_in pipe Free pipe_dump 5 (clear pipe Free pipe_dump 4) 1) (a_signal x)
mentioned x h = ⊎_elim (λ e. ⊎_elim (λ f. subst (λ y. HasValue clear_1 (a_signal y)) (eqb-true 1 x f) clear_a) (λ f. subst (λ y. HasValue clear_1 (a_signal y)) (eqb-true 2 x f) clear_b) (or_cases (1 == x) (2 == x) e)) (λ e. absurd (false≢true e)) (or_cases ((1 == x) || (2 == x)) false h)

-- y is clear at 5, with the value 1
pub clear_y : clear pipe Free pipe_dump 5 (a_signal 4) (One ∷ [])
clear_y = (2, of_comb 0 4 (One ∷ []) refl is_made)
  where
    zero_one : Zero ∷ [] ≢ One ∷ []
    zero_one = grind arith

    is_made : IsCombValue pipe pipe_dump 5 (clear_in pipe Free pipe_dump 5 (clear pipe Free pipe_dump 4) 1) 0 4 (One ∷ [])
    is_made =
        record {
          is_signal = lit< tt;
          is_comb = tt;
          target = refl;
          written_whole = refl;
          writes_first = λ x h. subst (λ y. reads_signal_before_writing pipe (body_at pipe 0) y ≡ false) (eqb-true 4 x h) refl;
          all_clear = λ x h away is_signal. mentioned x h;
          within = within_by pipe _ (body_at pipe 0) (pipe_values Zero One One X X) (agrees_1 X) (all_inside X);
          has_changed = record { by = 1; time = 5; mentioned = refl; is_bound = refl; until = lit≤ tt; in_window = (lit< tt, lit< tt); changed = zero_one };
          gives = gives;
        }

-- until 4 the values are those of the first time
values_early : (t : ℕ) → t < 5 → pipe_dump.values t ≡ pipe_values Zero Zero One X X
values_early t h = rw (lt-leb 15 t (omega arith), lt-leb 10 t (omega arith), lt-leb 5 t h) refl

unchanged : HasChanged pipe_dump pipe (body_at pipe 0) 4 → ⊥
unchanged h =
    let now : pipe_dump.values h.time ≡ pipe_values Zero Zero One X X = values_early h.time (omega (arith, h.until)) in
    let then' : pipe_dump.values (h.time - 1) ≡ pipe_values Zero Zero One X X = values_early (h.time - 1) (omega (arith, h.until)) in
    h.changed (ap (λ v. signal_bits pipe v h.by) (then' ∙ sym now))

made_early : (p : ℕ) (K : PartialMap) (bits : List Bit) → IsCombValue pipe pipe_dump 4 K p 4 bits → ⊥
made_early p K bits h = unchanged (subst (λ q. HasChanged pipe_dump pipe (body_at pipe q) 4) (only_gate p K 4 bits h) h.has_changed)

by_early : (start K : PartialMap) (x : Thing) (bits : List Bit) → IsClearBy pipe Free pipe_dump 4 start K x bits → x ≡ a_signal 4 → ⊥
by_early start K x bits (of_dump s w0 is_shown is_bound is_signal is) e = false≢true (subst IsBoundHere e is_bound)
by_early start K x bits (of_assigns s w0 unbound is) e = no_net s e is.driven
by_early start K x bits (of_comb p s w0 unbound is) e = made_early p K w0 (subst (λ y. IsCombValue pipe pipe_dump 4 K p y w0) (ap signal_of e) is)
by_early start K x bits (of_unwoken p x0 w0 w unbound target still old) e = not_clocked p (subst (IsClockedTarget pipe p) e target)
by_early start K x bits (of_clean p c x0 w0 w unbound is) e = not_clocked p (subst (IsClockedTarget pipe p) e is.writer)

in_early : (start : PartialMap) (n : ℕ) (bits : List Bit) → clear_in pipe Free pipe_dump 4 start n (a_signal 4) bits → ⊥
in_early start zero bits k = k
in_early start (suc n) bits k = by_early start (clear_in pipe Free pipe_dump 4 start n) (a_signal 4) bits k refl

-- y is not clear at 4, so it is in doubt at 5 for its toggle from 0 to 1
pub not_clear_y : HasValue (clear pipe Free pipe_dump 4) (a_signal 4) → ⊥
not_clear_y k = in_early (clear pipe Free pipe_dump 3) k.1.0 k.0 k.1.1

pub doubt_y : IsInDoubt pipe Free pipe_dump (toggle_point 4 0 true) 5 4
doubt_y = of_signal (lit< tt, lit< tt) refl (inl (inr (inl refl))) (inl not_clear_y)

pub pipe_example : IsPipeExample
pipe_example = record { visits = gate_visits; not_clear = not_clear_y; doubt = doubt_y; is_clear = clear_y }
