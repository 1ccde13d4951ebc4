-- The signals whose code has another value are those of which the dump says something else than what was known.
use Rattle.std.proofs.Common.{◌≡◌, ◌∙◌, ℕ, zero, suc, ◌+◌, ◌-◌, ◌<◌, Bool, true, false, not, ◌&&◌, List, map, Option, Some, refl, sym, ap, subst, arith, inl, inr}
use Rattle.std.specs.Prelude.{nat_lt}
use Rattle.std.specs.List.{list_any, range_with_len}
use Rattle.std.proofs.lemmas.Bool.{and_from, and_parts, both_ways}
use Rattle.std.proofs.lemmas.Bool.Decides.{nat_tests}
use Rattle.event_machine.specs.Cell.{Cell, Values as CellValues}
use Rattle.four_state.specs.Vector.{same_bit}
use Rattle.four_state.specs.declared.bit.Bit.{Bit}
use Rattle.design_model.specs.Design.{Design, In, body_at, cell, process_at, signal_at, signal_cells}
use Rattle.design_model.specs.Mentions.{blocking_target, body_mentions}
use Rattle.design_model.specs.Shows.{BoundDump}
use Rattle.design_model.proofs.Lawful.{same_bit_is, same_bit_self}
use Rattle.model_laws.proofs.Cells.{in_signal}
use Rattle.settling.specs.body_calls.Own.{is_in}
use Rattle.body_replay.specs.Runs.{runs_of}
use Rattle.code_values.specs.Values.{Values}
use Rattle.early_sets.specs.WakeState.{WakeState}
use Rattle.early_sets.proofs.Membership.{is_in_from, is_in_gives}
use Rattle.index_sets.specs.Rows.{row_at}
use Rattle.settling.specs.replay_model.Step.{Replay, surely_differ}
use Rattle.settling.proofs.replay_model.Bits.{any_in, in_any}
use Rattle.settling.proofs.replay_model.Settling.{level_mentioned}
use Rattle.settling.proofs.replay_steps.Settling.{targets_move}
use Rattle.settling.specs.step_changes.Changes.{AreChangedSignals, IsDue}
use Rattle.settling.proofs.step_changes.Differing.{apart_at, same_at}
use Rattle.settling.proofs.step_changes.Found.{agree, code_of, coded_by, differ}
use Rattle.settling.specs.step_values.Laws.{KnowsDump}
use Rattle.settling.specs.wake_bits.Wakes.{AreWakes}
use Rattle.step_runs.specs.Laws.{StepsLaw}

-- two bits that are not the same differ
differ_bits : (a b : Bit) → (a ≡ b → ⊥) → not (same_bit a b) ≡ true
differ_bits a b ne = go (same_bit a b) refl
  where
    go : (t : Bool) → same_bit a b ≡ t → not t ≡ true
    go true e = absurd (ne (same_bit_is a b e))
    go false e = refl

same_bits : (a b : Bit) → not (same_bit a b) ≡ true → a ≡ b → ⊥
same_bits a b e is = both_ways _ (ap not (subst (λ c. same_bit a c ≡ true) is (same_bit_self a))) e

both_tests : (a b : Bool) → (a ≡ true → b ≡ true) → (b ≡ true → a ≡ true) → a ≡ b
both_tests true b to from = sym (to refl)
both_tests false true to from = from refl
both_tests false false to from = refl

-- the place of a cell of a signal
place_of : (s n k : ℕ) (c : Cell) → In c (map (cell s) (range_with_len n k)) → (j : ℕ) × (j < n + k) × (c ≡ cell s j)
place_of s n zero c i = absurd i
place_of s n (suc k) c (inl e) = (n, omega arith, sym e)
place_of s n (suc k) c (inr i) = let r = place_of s (n + 1) k c i in let l = r.1 in (r.0, omega (arith, l), r.2)

module _ (d : Design) (dump : BoundDump) (t : ℕ) (a : Replay) (flags : List Bool) (codes : List (Option ℕ)) (values : Values) (w : WakeState) (changed : List ℕ)
    (due : IsDue d dump (suc t) flags codes values w) (known : KnowsDump d dump.bound a.kept (dump.values t)) (are : AreChangedSignals codes values changed) where
  abbrev old : CellValues Bit
  old = dump.values (suc t - 1)

  abbrev new : CellValues Bit
  new = dump.values (suc t)

  abbrev changes : ℕ → Cell → Bool
  changes s c = surely_differ (a.kept c) (Some (new c))

  before : old ≡ dump.values t
  before = let last : suc t - 1 ≡ t = omega arith in ap dump.values last

  was : (s j : ℕ) → dump.bound s ≡ true → j < (signal_at d s).width → a.kept (cell s j) ≡ Some (old (cell s j))
  was s j bound l =
      let inside : nat_lt j (signal_at d s).width ≡ true = grind (arith, nat_tests, l) in
      known (cell s j) (and_from (dump.bound s) _ bound inside) ∙ ap (λ v. Some (v (cell s j))) (sym before)

  to : (s : ℕ) → is_in changed s ≡ true → (dump.bound s && list_any (changes s) (signal_cells d s)) ≡ true
  to s i =
      let code = (are s).0 (is_in_gives changed s i) in
      let bound : dump.bound s ≡ true = due.bound s ∙ coded_by codes s code.0 code.1 in
      let bit = apart_at old new (cell s) 0 (signal_at d s).width (differ d dump (suc t) flags codes values w due s code.0 code.1 code.2) in
      let c = cell s (0 + bit.0) in
      let start : 0 + bit.0 ≡ bit.0 = omega arith in
      let l : 0 + bit.0 < (signal_at d s).width = let m = bit.1 in omega (arith, m) in
      let one : changes s c ≡ true = ap (λ o. surely_differ o (Some (new c))) (was s (0 + bit.0) bound l) ∙ differ_bits (old c) (new c) bit.2 in
      and_from (dump.bound s) _ bound (in_any (changes s) (signal_cells d s) c (in_signal d c l) one)

  from : (s : ℕ) → (dump.bound s && list_any (changes s) (signal_cells d s)) ≡ true → is_in changed s ≡ true
  from s h =
      let parts = and_parts (dump.bound s) _ h in
      let c = any_in (changes s) (signal_cells d s) parts.1 in
      let at = place_of s 0 (signal_at d s).width c.0 c.1 in
      let inside : at.0 < (signal_at d s).width = let l = at.1 in omega (arith, l) in
      let code = code_of codes s (sym (due.bound s) ∙ parts.0) in
      let e : changes s (cell s at.0) ≡ true = subst (λ b. changes s b ≡ true) at.2 c.2 in
      let apart : not (same_bit (old (cell s at.0)) (new (cell s at.0))) ≡ true = ap (λ o. surely_differ o (Some (new (cell s at.0)))) (sym (was s at.0 parts.0 inside)) ∙ e in
      let m = (are s).1 (
        code.0,
        code.1,
        λ same.
            same_bits (old (cell s at.0)) (new (cell s at.0)) apart (
            let start : 0 + at.0 ≡ at.0 = omega arith in
            subst (λ i. old (cell s i) ≡ new (cell s i)) start (same_at old new (cell s) 0 (signal_at d s).width (agree d dump (suc t) flags codes values w due s code.0 code.1 same) at.0 inside)),
      ) in
      is_in_from changed s m.0 m.1 m.2

  pub changed_is : (s : ℕ) → is_in changed s ≡ (dump.bound s && list_any (changes s) (signal_cells d s))
  changed_is s = both_tests _ _ (to s) (from s)

pub steps_are : StepsLaw
steps_are d h dump tables sets t a flags codes values w watched wakes changed due tabled are same rows known listed p settles = record {
  runs = refl;
  wakes = subst (λ xs. AreWakes d (blocking_target d (body_at d p)) (λ x. body_mentions x (body_at d p)) xs (row_at wakes p)) (sym (same p)) (rows.each p);
  watched = λ x m. (tabled.watched p x).1 (level_mentioned (process_at d p) x settles m);
  bound = due.bound;
  changed = λ s l. changed_is d dump t a flags codes values w changed due known listed s;
  time = refl;
  moves = targets_move d h dump (runs_of d) tables sets t a tabled are;
}
