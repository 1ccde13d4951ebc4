-- A cell whose value differs at the ends of a step is one of the design's.
use Rattle.std.proofs.Common.{◌≡◌, ◌⊎◌, inl, inr, ⊎_elim, ℕ, zero, suc, ◌+◌, ◌<◌, ◌≤◌, ◌==◌, true, false, List, [], ◌∷◌, map, length, refl, sym, subst, ◌∙◌, arith, if◌then◌else◌}
use Rattle.std.specs.Prelude.{slice_index_or}
use Rattle.std.specs.List.{list_any, range_with_len}
use Rattle.std.proofs.lemmas.Bool.{and_from, and_parts, both_ways, cases_Bool, cases_lt, eq-eqb, eqb-true, lt-ltb, ltb-true}
use Rattle.event_machine.specs.Cell.{Cell, Values, WritesCell, same_cell}
use Rattle.event_machine.specs.Machine.{IsTarget, output}
use Rattle.event_machine.specs.Step.{outputs}
use Rattle.event_machine.specs.Habit.{Habit}
use Rattle.design_model.specs.four_state.declared.bit.Bit.{Bit}
use Rattle.design_model.specs.declared.design.Signal.{Signal}
use Rattle.design_model.specs.Design.{Design, In, cell, no_signal, signal_at, signal_cells}
use Rattle.design_model.specs.Machine.{machine}
use Rattle.design_model.specs.Shows.{BoundDump}
use Rattle.design_model.proofs.Named.{WritesCell-halves}
use Rattle.design_model.proofs.Untouched.{put_other}
use Rattle.design_model.specs.BodyLaws.{WrittenCellsLaw, all_cells, word_indexes, words_cells}
use Rattle.design_model.specs.StepLaws.{StepFacts}
use Rattle.replay_model.proofs.Bits.{any_in, none_in}

same_cells : (b c : Cell) → same_cell b c ≡ true → b ≡ c
same_cells b c e = λ i. record { thing = eqb-true b.thing c.thing (and_parts (b.thing == c.thing) _ e).0 i; place = eqb-true b.place c.place (and_parts (b.thing == c.thing) _ e).1 i }

pub in_cells_or : (c : Cell) (cs : List Cell) → In c cs ⊎ (In c cs → ⊥)
in_cells_or c cs = ⊎_elim (λ e. let r = any_in (λ b. same_cell b c) cs e in inl (subst (λ z. In z cs) (same_cells r.0 c r.2) r.1)) (λ e. inr (λ h. both_ways _ (none_in (λ b. same_cell b c) cs e c h) (and_from (c.thing == c.thing) _ (eq-eqb c.thing c.thing refl) (eq-eqb c.place c.place refl)))) (cases_Bool (list_any (λ b. same_cell b c) cs))

-- a bit within the width of a signal is one of its cells
range_has : (x n k : ℕ) (c : Cell) → c.thing ≡ x → n ≡ c.place ⊎ (n < c.place) → c.place < n + k → In c (map (cell x) (range_with_len n k))
range_has x n zero c e at below = absurd (⊎_elim (λ f. omega (arith, f, below)) (λ f. omega (arith, f, below)) at)
range_has x n (suc k) c e (inl f) below = inl (λ i. record { thing = sym e i; place = f i })
range_has x n (suc k) c e (inr f) below = inr (range_has x (n + 1) k c e (next (cases_lt (n + 1) c.place)) (omega (arith, below)))
  where
    next : ((n + 1) < c.place) ⊎ (c.place ≤ n + 1) → ((n + 1) ≡ c.place) ⊎ ((n + 1) < c.place)
    next (inl lt) = inr lt
    next (inr le) = inl (omega (arith, le, f))

pub signal_has : (d : Design) (c : Cell) → c.place < (signal_at d c.thing).width → In c (signal_cells d c.thing)
signal_has d c below = range_has c.thing 0 (signal_at d c.thing).width c refl (start (cases_lt 0 c.place)) (omega (arith, below))
  where
    start : (0 < c.place) ⊎ (c.place ≤ 0) → (0 ≡ c.place) ⊎ (0 < c.place)
    start (inl lt) = inr lt
    start (inr le) = inl (omega (arith, le))

pub all_has : (d : Design) (c : Cell) → c.thing < length d.signals → c.place < (signal_at d c.thing).width → In c (all_cells d c.thing)
all_has d c is below = subst (λ b. In c (if b then signal_cells d c.thing else words_cells d c.thing (word_indexes d c.thing))) (sym (lt-ltb _ _ is)) (signal_has d c below)

past_signals : (xs : List Signal) (s : ℕ) → length xs ≤ s → slice_index_or xs s no_signal ≡ no_signal
past_signals [] s le = refl
past_signals (x ∷ xs) zero le = absurd (omega (arith, le))
past_signals (x ∷ xs) (suc s) le = past_signals xs s (omega (arith, le))

pub input_number : (d : Design) (s : ℕ) → (signal_at d s).input ≡ true → s < length d.signals
input_number d s e = ⊎_elim (λ lt. lt) (λ le. absurd (both_ways false refl (subst (λ z. z.input ≡ true) (past_signals d.signals s le) e))) (cases_lt s (length d.signals))

module _ (d : Design) (written : WrittenCellsLaw d) (h : Habit) (dump : BoundDump) (t : ℕ) (u w : Values Bit) (facts : StepFacts d h dump t u w) where
  outputs_exist : (p : ℕ) (vs : List (Values Bit)) (c : Cell) → WritesCell (outputs (machine d) p vs) c → In c (all_cells d c.thing)
  outputs_exist p [] c x = absurd x
  outputs_exist p (v ∷ vs) c x = ⊎_elim (λ a. written p v c a) (λ a. outputs_exist p vs c a) (WritesCell-halves (output (machine d) p v) (outputs (machine d) p vs) c x)

  -- with a test for whether some process may write the cell
  pub changed_exists : (c : Cell) → ((p : ℕ) × IsTarget (machine d) p c) ⊎ ((p : ℕ) → IsTarget (machine d) p c → ⊥) → (u c ≡ w c → ⊥) → In c (all_cells d c.thing)
  changed_exists c some differ = ⊎_elim (λ x. x) (λ away. absurd (differ (sym (stays away)))) (in_cells_or c (all_cells d c.thing))
    where
      stays : (In c (all_cells d c.thing) → ⊥) → w c ≡ u c
      stays away =
          ⊎_elim (λ p. (facts.evaluated p.0).1 c p.1 ∙ put_other u (outputs (machine d) p.0 (facts.evaluated p.0).0) c (λ x. away (outputs_exist p.0 (facts.evaluated p.0).0 c x)))
          (λ none. facts.unwritten c (λ input. away (all_has d c (input_number d c.thing (and_parts (signal_at d c.thing).input _ input).0) (ltb-true _ _ (and_parts (signal_at d c.thing).input _ input).1))) none) some
