-- What the dump says of the design.
use Rattle.std.proofs.Common.{◌≡◌, ◌↔◌, ℕ, zero, suc, ◌+◌, ◌*◌, ◌<◌, ◌≤◌, List, [], ◌∷◌, length, Option, Some, refl, sym, ap, subst, ◌∙◌, arith}
use Rattle.std.specs.Prelude.{is_some, nat_lt}
use Rattle.std.proofs.lemmas.Bool.{le-ltb}
use Rattle.four_state.specs.Vector.{Vector}
use Rattle.four_state.specs.declared.bit.Bit.{Bit}
use Rattle.design_model.specs.Design.{Design as Tree}
use Rattle.design_model.specs.RoundLaws.{read_by}
use Rattle.design_model.specs.Shows.{BoundDump, IsShown, IsWindow, StartsAt, last_time}
use Rattle.design_model.specs.View.{design_view}
use Rattle.design_model.specs.declared.design.Design.{Design}
use Rattle.shown_dumps.specs.Bound.{HasFirstValue}
use Rattle.shown_dumps.specs.Shown.{bit_at, code_at, dump_of}
use Rattle.signal_binding.specs.Binding.{codes_of}
use Rattle.vcd_reader.specs.Dump.{steps_of, times_of}
use Rattle.selfrun_design.specs.Selfrun.{selfrun}
use Rattle.selfrun_files.specs.Moments.{moment}
use Rattle.selfrun_files.specs.Samples.{samples, start}
use Rattle.selfrun_runs.specs.Says.{SaysSelfrun}
use Rattle.selfrun_runs.proofs.Registers.{steps_counted}
use Rattle.selfrun_dump.specs.Entries.{entries, scope, variables}
use Rattle.selfrun_dump.specs.Laws.{BoundLaw, SaysLaw}
use Rattle.selfrun_dump.proofs.Steps.{steps_are, steps_from}
use Rattle.selfrun_dump.proofs.Values.{values_high, values_low}

-- the codes of the signals in order
abbrev signal_codes : List (Option ℕ)
signal_codes = Some 0 ∷ Some 1 ∷ Some 2 ∷ Some 3 ∷ Some 5 ∷ Some 4 ∷ []

-- the design with other memories and processes is bound to the same codes
codes_are : (design : Design) → design_view design ≡ selfrun → codes_of design variables scope ≡ signal_codes
codes_are design view =
    let top = ap (λ (d : Tree). d.top) view in
    let instances = ap (λ (d : Tree). d.instances) view in
    let signals = ap (λ (d : Tree). d.signals) view in
    let aliases = ap (λ (d : Tree). d.aliases) view in
    λ i. codes_of
    (record {
      top = top i;
      instances = instances i;
      signals = signals i;
      memories = design.memories;
      processes = design.processes;
      constants = design.constants;
      aliases = aliases i;
    })
    variables scope

-- ---- the times

last_after : (number n k t : ℕ) → last_time t (times_of (steps_from number n k)) ≡ 10 * (k + n)
last_after number zero k t = let step = steps_counted number k in omega (arith, step)
last_after number (suc n) k t = last_after number n (suc k) (10 * (moment number k).step + 5) ∙ (let same : 10 * (suc k + n) ≡ 10 * (k + suc n) = omega arith in same)

-- the dump, whatever rounds it is read by
abbrev said : ℕ → ℕ → (ℕ → ℕ) → BoundDump
said number steps rounds = read_by (dump_of signal_codes (steps_from number steps 0 ∷ [])) rounds

starts : (number steps : ℕ) → StartsAt (times_of (steps_from number steps 0) ∷ []) 0
starts number zero = refl
starts number (suc n) = refl

shown : (number steps : ℕ) (rounds : ℕ → ℕ) (t : ℕ) → IsShown (said number steps rounds) t ↔ (t < 10 * steps)
shown number zero rounds t = (λ h. h.1, λ h. absurd (omega (arith, h)))
shown number (suc n) rounds t =
    let last : last_time 5 (times_of (steps_from number n 1)) ≡ 10 * (1 + n) = last_after number n 1 5 in
    (λ h. (let until : t < 10 * (1 + n) = subst (λ x. t < x) last h.1 in omega (arith, until)), λ h. (omega arith, subst (λ x. t < x) (sym last) (let until : t < 10 * (1 + n) = omega (arith, h) in until)))

window : (number steps : ℕ) (rounds : ℕ → ℕ) (t : ℕ) → IsWindow (said number steps rounds) t ↔ ((0 < t) × (t < 10 * steps))
window number zero rounds t = (λ h. (h.0, h.1), λ h. absurd (omega (arith, h.1)))
window number (suc n) rounds t =
    let last : last_time 5 (times_of (steps_from number n 1)) ≡ 10 * (1 + n) = last_after number n 1 5 in
    (λ h. (h.0, (let until : t < 10 * (1 + n) = subst (λ x. t < x) last h.1 in omega (arith, until))), λ h. (h.0, subst (λ x. t < x) (sym last) (let until : t < 10 * (1 + n) = omega (arith, h.1) in until)))

-- ---- the values

six_bound : (s : ℕ) → is_some (code_at signal_codes s) ≡ nat_lt s 6
six_bound zero = refl
six_bound (suc zero) = refl
six_bound (suc (suc zero)) = refl
six_bound (suc (suc (suc zero))) = refl
six_bound (suc (suc (suc (suc zero)))) = refl
six_bound (suc (suc (suc (suc (suc zero))))) = refl
six_bound (suc (suc (suc (suc (suc (suc s)))))) = sym (le-ltb (suc (suc (suc (suc (suc (suc s)))))) 6 (omega arith))

abbrev one_bit : Option Vector → List Bit
one_bit o = bit_at o 0 ∷ []

abbrev four_bits : Option Vector → List Bit
four_bits o = bit_at o 0 ∷ bit_at o 1 ∷ bit_at o 2 ∷ bit_at o 3 ∷ []

abbrev eight_bits : Option Vector → List Bit
eight_bits o = bit_at o 0 ∷ bit_at o 1 ∷ bit_at o 2 ∷ bit_at o 3 ∷ bit_at o 4 ∷ bit_at o 5 ∷ bit_at o 6 ∷ bit_at o 7 ∷ []

said_says : (number steps : ℕ) (rounds : ℕ → ℕ) → SaysSelfrun number steps (said number steps rounds)
said_says number steps rounds = record {
  bound = six_bound;
  starts = starts number steps;
  shown = shown number steps rounds;
  window = window number steps rounds;
  low = λ k j inside below.
      let values = values_low number steps k (10 * k + j) inside (omega arith) (omega (arith, below)) in
      record { is_clk = ap one_bit values.is_clk; is_we = ap one_bit values.is_we; is_a = ap four_bits values.is_a; is_d = ap eight_bits values.is_d; is_q = ap eight_bits values.is_q; is_p = ap eight_bits values.is_p };
  high = λ k j inside below.
      let values = values_high number steps k (10 * k + 5 + j) inside (omega arith) (omega (arith, below)) in
      record { is_clk = ap one_bit values.is_clk; is_we = ap one_bit values.is_we; is_a = ap four_bits values.is_a; is_d = ap eight_bits values.is_d; is_q = ap eight_bits values.is_q; is_p = ap eight_bits values.is_p };
}

pub says_law : SaysLaw
says_law number steps design rounds view =
    subst (λ codes. SaysSelfrun number steps (read_by (dump_of codes (steps_of (entries number steps) ∷ [])) rounds)) (sym (codes_are design view))
    (subst (λ ss. SaysSelfrun number steps (read_by (dump_of signal_codes (ss ∷ [])) rounds)) (sym (steps_are (samples steps (start number)))) (said_says number steps rounds))

-- ---- the first values

first_said : (number steps s : ℕ) → 2 ≤ length (steps_from number steps 0) → HasFirstValue signal_codes (steps_from number steps 0) s
first_said number zero s two = absurd (omega (arith, two))
first_said number (suc n) zero two = refl
first_said number (suc n) (suc zero) two = refl
first_said number (suc n) (suc (suc zero)) two = refl
first_said number (suc n) (suc (suc (suc zero))) two = refl
first_said number (suc n) (suc (suc (suc (suc zero)))) two = refl
first_said number (suc n) (suc (suc (suc (suc (suc zero))))) two = refl
first_said number (suc n) (suc (suc (suc (suc (suc (suc s)))))) two = tt

pub bound_law : BoundLaw
bound_law number steps design view = record {
  there = refl;
  first_values = (
    λ two s.
        subst (λ codes. HasFirstValue codes (steps_of (entries number steps)) s) (sym (codes_are design view))
        (subst (λ ss. 2 ≤ length ss → HasFirstValue signal_codes ss s) (sym (steps_are (samples steps (start number)))) (first_said number steps s) two),
    tt,
  );
}
