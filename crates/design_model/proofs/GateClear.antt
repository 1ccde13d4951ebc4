-- The worked example of the net that the dump lacks.
use Rattle.std.proofs.Common.{◌≡◌, ◌≢◌, refl, sym, subst, ap, ◌∙◌, ◌++◌, ℕ, zero, suc, ◌<◌, true, false, List, [], ◌∷◌, inl, inr, arith, lit<, lit≤}
use Rattle.std.specs.Prelude.{nat_le, nat_lt, codes}
use Rattle.std.proofs.lemmas.Bool.{and_parts, ltb-true, leb-true, false≢true}
use Rattle.event_machine.specs.Cell.{Values, put}
use Rattle.event_machine.specs.Habit.{Free}
use Rattle.four_state.specs.Operators.{and_bit}
use Rattle.four_state.specs.declared.bit.Bit.{Bit}
use Rattle.four_state.specs.declared.bit.Bit.TheVariants.{One, X, Z, Zero}
use Rattle.design_model.specs.Design.{Thing, a_signal, a_word, body_at, cell, is_memory, process_at, signal_bits, thing_bits}
use Rattle.design_model.specs.Execution.{BothTrue, at_node, execution}
use Rattle.design_model.specs.Reads.{Agrees, AllInside, HasValue, ReadsWithin, PartialMap, nothing_known}
use Rattle.design_model.specs.Shows.{IsShown}
use Rattle.design_model.specs.Points.{logic_point}
use Rattle.design_model.specs.Clear.{IsClearBy, IsClockedTarget, IsCombValue, IsNetValue, bits_after, clear, clear_from, clear_in, driven_writes, drives, is_driven, of_assigns, of_clean, of_comb, of_dump, of_unwoken}
use Rattle.design_model.specs.Open.{KnownAtEnd, IsReached}
use Rattle.design_model.specs.Lawful.{is_signal}
use Rattle.design_model.specs.ExampleParts.{at}
use Rattle.design_model.specs.Gate.{IsGateExample, gate, gate_dump, gate_values}
use Rattle.design_model.proofs.Bound.{clear-thing, clear_bound, clear_in-thing, in_bound}
use Rattle.design_model.proofs.WithinMap.{within_blocking, within_by}

no_memory : (m : ℕ) → is_memory gate m ≡ true → ⊥
no_memory m h = let p = and_parts (nat_le 3 m) (nat_lt m 3) h in omega (arith, leb-true 3 m p.0, ltb-true m 3 p.1)

-- no Clocked writes y, and no Comb
not_clocked : (p : ℕ) (x : Thing) → IsClockedTarget gate p x → ⊥
not_clocked zero x h = h.is_clocked
not_clocked (suc p) x h = h.is_clocked

no_comb : (p t s : ℕ) (K : PartialMap) (bits : List Bit) → IsCombValue gate gate_dump t K p s bits → ⊥
no_comb zero t s K bits h = h.is_comb
no_comb (suc p) t s K bits h = false≢true h.target

abbrev IsBoundHere : Thing → Type 0
IsBoundHere (a_signal s) = nat_lt s 2 ≡ true
IsBoundHere (a_word m i) = Unit {0}

-- a thing other than y is not driven
only_y : (s : ℕ) → is_driven gate s ≡ true → nat_lt s 2 ≡ false → s < 3 → s ≡ 2
only_y zero driven unbound below = absurd (false≢true (sym unbound))
only_y (suc zero) driven unbound below = absurd (false≢true (sym unbound))
only_y (suc (suc zero)) driven unbound below = refl
only_y (suc (suc (suc s))) driven unbound below = absurd (omega (arith, below))

no_value_from_nothing : (s : ℕ) (bits : List Bit) → s ≡ 2 → IsNetValue gate nothing_known s bits → ⊥
no_value_from_nothing s bits is h = (h.within 0 (subst (λ y. drives y (process_at gate 0) ≡ true) (sym is) refl) (gate_values X X X) (λ x b none. absurd none)).1.0.1

-- in the first round y is not clear
not_first : (t : ℕ) (start : PartialMap) (x : Thing) (bits : List Bit) → IsClearBy gate Free gate_dump t start nothing_known x bits → x ≡ a_signal 2 → ⊥
not_first t start x bits (of_dump s w0 is_shown is_bound is_signal is) e = false≢true (subst IsBoundHere e is_bound)
not_first t start x bits (of_assigns s w0 unbound is) e = no_value_from_nothing s w0 (only_y s is.driven unbound is.is_signal) is
not_first t start x bits (of_comb p s w0 unbound is) e = no_comb p t s nothing_known w0 is
not_first t start x bits (of_unwoken p x0 w0 w unbound target still old) e = not_clocked p x0 target
not_first t start x bits (of_clean p c x0 w0 w unbound is) e = not_clocked p x0 is.writer

-- at a shown time at which a and b have these values, y is clear in the second round
module _ (t : ℕ) (start : PartialMap) (shown : IsShown gate_dump t) (a : Bit) (now : gate_dump.values t ≡ gate_values a One X) where
  First : PartialMap
  First = clear_in gate Free gate_dump t start 1

  agrees : Agrees gate First (gate_values a One X)
  unfolding First
  agrees (a_signal zero) bits k = ap (λ v. signal_bits gate v 0) (sym now) ∙ sym (in_bound gate Free gate_dump t start 1 0 bits k refl)
  agrees (a_signal (suc zero)) bits k = ap (λ v. signal_bits gate v 1) (sym now) ∙ sym (in_bound gate Free gate_dump t start 1 1 bits k refl)
  agrees (a_signal (suc (suc zero))) bits k = absurd (not_first t start (a_signal 2) bits k refl)
  agrees (a_signal (suc (suc (suc s)))) bits k = absurd (omega (arith, clear_in-thing gate Free gate_dump t start 1 (a_signal (suc (suc (suc s)))) bits k))
  agrees (a_word m i) bits k = absurd (no_memory m (clear_in-thing gate Free gate_dump t start 1 (a_word m i) bits k).0)

  has_a : HasValue First (a_signal 0)
  unfolding First
  has_a = (a ∷ [], of_dump 0 (a ∷ []) shown refl (lit< tt) (ap (λ v. signal_bits gate v 0) (sym now)))

  has_b : HasValue First (a_signal 1)
  unfolding First
  has_b = (One ∷ [], of_dump 1 (One ∷ []) shown refl (lit< tt) (ap (λ v. signal_bits gate v 1) (sym now)))

  inside : AllInside First (execution gate (body_at gate 0) (gate_values a One X)).visits
  inside = inside_of a has_a has_b
    where
      inside_of : (x : Bit) → HasValue First (a_signal 0) → HasValue First (a_signal 1) → AllInside First (execution gate (body_at gate 0) (gate_values x One X)).visits
      inside_of Zero p q = (tt, (p, (q, (tt, tt))))
      inside_of One p q = (tt, (p, (q, (tt, tt))))
      inside_of X p q = (tt, (p, (q, tt)))
      inside_of Z p q = (tt, (p, (q, tt)))

  gives : (v : Values Bit) → Agrees gate First v → bits_after gate v (driven_writes gate v 2 gate.processes) (a_signal 2) ≡ and_bit a One ∷ []
  unfolding put
  gives v fits = subst (λ ws. bits_after gate v (ws ++ []) (a_signal 2) ≡ and_bit a One ∷ []) (within_blocking gate First (body_at gate 0) (gate_values a One X) v agrees fits inside) refl

  only_driver : (p : ℕ) → drives 2 (process_at gate p) ≡ true → ReadsWithin gate First (body_at gate p)
  only_driver zero h = within_by gate First (body_at gate 0) (gate_values a One X) agrees inside
  only_driver (suc p) h = absurd (false≢true h)

  pub y_is_clear : clear_from gate Free gate_dump t start (a_signal 2) (and_bit a One ∷ [])
  unfolding First
  y_is_clear = (2, of_assigns 2 (and_bit a One ∷ []) refl (record { is_signal = lit< tt; driven = refl; within = only_driver; gives = gives }))

-- what the assignment knows at 5
known_at_5 : (x : Thing) (bits : List Bit) → KnownAtEnd gate Free gate_dump 5 0 x bits → thing_bits gate (gate_values One One X) x ≡ bits
known_at_5 (a_signal zero) bits k = sym (clear_bound gate Free gate_dump 5 0 bits k.1 refl)
known_at_5 (a_signal (suc zero)) bits k = sym (clear_bound gate Free gate_dump 5 1 bits k.1 refl)
known_at_5 (a_signal (suc (suc zero))) bits k = absurd (false≢true (sym k.0))
known_at_5 (a_signal (suc (suc (suc s)))) bits k = absurd (omega (arith, clear-thing gate Free gate_dump 5 (a_signal (suc (suc (suc s)))) bits k.1))
known_at_5 (a_word m i) bits k = absurd (no_memory m (clear-thing gate Free gate_dump 5 (a_word m i) bits k.1).0)

known : (s : ℕ) → s < 2 → HasValue (KnownAtEnd gate Free gate_dump 5 0) (a_signal s)
known zero h = (One ∷ [], (refl, (1, of_dump 0 (One ∷ []) (lit≤ tt, lit< tt) refl (lit< tt) refl)))
known (suc zero) h = (One ∷ [], (refl, (1, of_dump 1 (One ∷ []) (lit≤ tt, lit< tt) refl (lit< tt) refl)))
known (suc (suc s)) h = absurd (omega (arith, h))

Zero≢One : Zero ≢ One
Zero≢One = grind arith

reached_at_5 : IsReached gate Free gate_dump 5 0 (logic_point 0 1 (at 0) (codes "&") BothTrue)
reached_at_5 = (
  (lit< tt, lit< tt),
  refl,
  inr (
    (λ h. h),
    (cell 0 0, (lit< tt, lit< tt, (refl, refl)), refl, Zero≢One),
    inl (at_node 1 BothTrue, refl, (gate_values One One X, known_at_5, inr (tt, inr (known 0 (lit< tt), inr (known 1 (lit< tt), inl refl))))),
  ),
)

pub gate_example : IsGateExample
gate_example =
    record {
      at_first = y_is_clear 0 nothing_known (lit≤ tt, lit< tt) Zero refl;
      at_five = y_is_clear 5 (clear gate Free gate_dump 4) (lit≤ tt, lit< tt) One refl;
      reached = reached_at_5;
    }
