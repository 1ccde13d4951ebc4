-- Whether a step is contradicted, by what was made of the signals that are checked.
use Rattle.std.proofs.Common.{◌≡◌, inl, inr, ℕ, ◌+◌, ◌<◌, true, false, not, ◌++◌, List, ◌∷◌, length, Option, Some, None, refl, sym, ap, ap₂, subst, ◌∙◌, arith}
use Rattle.std.specs.Prelude.{flat_map, nat_lt}
use Rattle.std.specs.List.{All}
use Rattle.std.proofs.lemmas.Bool.{and_from, and_parts, both_ways, cases_Bool, false_from_ne_true, false≢true}
use Rattle.std.proofs.lemmas.Bool.Decides.{nat_tests}
use Rattle.std.proofs.lemmas.List.{get_or_default}
use Rattle.event_machine.specs.Cell.{Cell}
use Rattle.four_state.specs.Vector.{Vector}
use Rattle.four_state.specs.declared.bit.Bit.{Bit}
use Rattle.known_state.specs.Partly.{Partly, allows_bit, allows_bits}
use Rattle.design_model.specs.Design.{In, body_at, cell, signal_at, signal_bits}
use Rattle.design_model.specs.Mentions.{blocking_target, body_assigns}
use Rattle.design_model.proofs.Lawful.{same_bit_self}
use Rattle.design_model.proofs.TargetCells.{target_cells_law}
use Rattle.step_changes.specs.body_store.declared.store.Store.{Store}
use Rattle.dump_check.specs.Checks.{AgreesAt, IsFirstDifference, last_of_each, made_of, no_value as nothing_made}
use Rattle.dump_check.specs.declared.order.Difference.{Difference}
use Rattle.index_sets.specs.Rows.{row_at}
use Rattle.clocked_laws.specs.Clocked.{IsInputOrWritten}
use Rattle.step_changes.proofs.process_order.Distinct.{in_right}
use Rattle.process_targets.specs.Targets.{row_has}
use Rattle.process_targets.specs.declared.bits.Bits.{Bits}
use Rattle.step_changes.proofs.replay_model.Targets.{is_target-from, target_assigns}
use Rattle.step_changes.specs.replay_model.Step.{Closing, all_run, contradicts, is_dumped, is_touched, known_bits, surely_differ}
use Rattle.step_changes.specs.step_values.Vectors.{StepVectors}
use Rattle.step_changes.proofs.step_values.Dumps.{bits_in}
use Rattle.still_check.proofs.Bits.{allowed, differ_of, differs}
use Rattle.step_changes.proofs.Found.{code_of}
use Rattle.step_changes.specs.value_store.Signals.{no_value}
use Rattle.step_check.specs.Laws.{AgreeLaw, DifferLaw, HasRun}
use Rattle.step_check.proofs.Lists.{all_in, checked_has, flat_in, has_checked, in_flat, in_last, last_in}

-- a bit that is allowed does not surely differ
allowed_same : (o : Option Bit) (b : Bit) → allows_bit o b ≡ true → surely_differ o (Some b) ≡ true → ⊥
allowed_same None b a e = false≢true e
allowed_same (Some x) b a e = both_ways _ (ap not a) e

module _ (st : Closing) (ran : List ℕ) (targets : List (List Bits)) (checks : List (List ℕ)) (codes : List (Option ℕ)) (last : List (Option Vector)) (x : Store) (v : StepVectors) (run : HasRun st ran targets checks codes last x v) where
  abbrev order : List ℕ
  order = last_of_each (flat_map (row_at checks) ran)

  -- a bound signal of which a process that ran may write a cell is checked
  is_listed : (p : ℕ) (c : Cell) → In p (st.tables.order ++ st.tables.last) → is_touched st p ≡ true → blocking_target st.design (body_at st.design p) c ≡ true → st.bound c.thing ≡ true → In c.thing order
  is_listed p c listed touched writes bound =
      let has : row_has (row_at targets p) c ≡ true = (run.rows.each p).bits.has c (run.signals c.thing bound) ∙ writes in
      let row = subst (In c.thing) (sym (run.checked.each p)) (has_checked codes (row_at targets p) c has (sym (run.bound c.thing) ∙ bound)) in
      in_last (flat_map (row_at checks) ran) c.thing (in_flat (row_at checks) ran p c.thing ((run.running p).1 (listed, touched)) row)

  -- what was made of a bound signal that may move
  made_bits : (s : ℕ) → st.sets.moves s ≡ true → st.bound s ≡ true → (made_of v.made s).bits ≡ known_bits st.design (all_run st).made s
  made_bits s moves bound =
      let l = run.signals s bound in
      let count = run.values.fits.made.count in
      ap (λ (q : Partly). q.bits) (get_or_default v.made s nothing_made no_value (omega (arith, l, count))) ∙ run.values.made s l moves bound

  module _ (all : All (AgreesAt codes last v.made) order) where
    agrees : (s : ℕ) → In s order → st.sets.moves s ≡ true → st.bound s ≡ true → allows_bits (known_bits st.design (all_run st).made s) (signal_bits st.design st.new s) ≡ true
    agrees s i moves bound =
        let code = code_of codes s (sym (run.bound s) ∙ bound) in
        let said = run.dumped s code.0 code.1 in
        ap₂ allows_bits (sym (made_bits s moves bound)) (sym said.2) ∙ all_in (AgreesAt codes last v.made) order s all i code.0 said.0 code.1 said.1

    pub agree : (c : Cell) → contradicts st c ≡ false
    agree c = false_from_ne_true _ (λ e.
        let has = and_parts (is_dumped st.design st.bound c) _ e in
        let driven = and_parts (not (signal_at st.design c.thing).input) _ has.1 in
        let bound = and_parts (st.bound c.thing) _ has.0 in
        elim (cases_Bool (st.sets.moves c.thing)) [
          | inl moves ↦ by_mover e bound.0 bound.1 driven.0 driven.1 moves (run.moved c.thing moves)
          | inr still ↦ both_ways _ (ap not (same_bit_self (st.new c))) (subst (λ o. surely_differ o (Some (st.new c)) ≡ true) (run.still.made c still ∙ run.dump c has.0 still) driven.1)
        ])
      where
        by_mover : contradicts st c ≡ true → st.bound c.thing ≡ true → nat_lt c.place (signal_at st.design c.thing).width ≡ true → not (signal_at st.design c.thing).input ≡ true → surely_differ ((all_run st).made c) (Some (st.new c)) ≡ true
            → st.sets.moves c.thing ≡ true → IsInputOrWritten st c.thing → ⊥
        by_mover is bound wide driven differ moves (inl input) = both_ways _ (ap not input) driven
        by_mover is bound wide driven differ moves (inr (inl (p, b, same, listed, touched, writes))) =
            let i = subst (λ s. In s order) same (is_listed p b listed touched writes (subst (λ s. st.bound s ≡ true) (sym same) bound)) in
            let inside : c.place < (signal_at st.design c.thing).width = grind (arith, nat_tests, wide) in
            let start : 0 + c.place ≡ c.place = omega arith in
            let fits = allowed (all_run st).made st.new (cell c.thing) 0 (signal_at st.design c.thing).width (agrees c.thing i moves bound) c.place inside in
            allowed_same ((all_run st).made c) (st.new c) (subst (λ i. allows_bit ((all_run st).made (cell c.thing i)) (st.new (cell c.thing i)) ≡ true) start fits) differ
        by_mover is bound wide driven differ moves (inr (inr (p, b, same, listed, running, writes))) =
            let assigns = subst (λ s. body_assigns s (body_at st.design p) ≡ true) same (target_assigns st.design run.lawful p b (is_target-from st.design p b writes)) in
            both_ways _ (run.agree c (p, ((run.tabled.clocked p).0 listed).1, assigns)) is

  pub differ : (found : Difference) → IsFirstDifference codes last v.made order found → (c : Cell) × (c.thing ≡ found.signal) × (contradicts st c ≡ true)
  differ found first =
      let s = found.signal in
      let d = first.differs in
      let i = last_in (flat_map (row_at checks) ran) s (subst (In s) (sym first.is) (in_right s first.before (s ∷ first.after) (inl refl))) in
      let p = flat_in (row_at checks) ran s i in
      let rows = (run.rows.each p.0).bits in
      let b = checked_has st.design codes (row_at targets p.0) s rows.inside (subst (In s) (run.checked.each p.0) p.2) in
      let bound : st.bound s ≡ true = run.bound s ∙ b.0 in
      let ran_p = (run.running p.0).0 p.1 in
      let c = b.1.0 in
      let writes : blocking_target st.design (body_at st.design p.0) c ≡ true = sym (rows.has c (subst (λ y. y < length st.design.signals) (sym b.1.1) (run.signals s bound))) ∙ b.1.2 in
      let moves : st.sets.moves s ≡ true = subst (λ y. st.sets.moves y ≡ true) b.1.1 (run.drives p.0 c ran_p.1 writes) in
      let no_input : (signal_at st.design s).input ≡ false = subst (λ y. (signal_at st.design y).input ≡ false) b.1.1 (run.lawful.no_input p.0 c.thing (target_cells_law st.design p.0 c (inl writes))) in
      let said = run.dumped s d.code d.coded in
      let computed : known_bits st.design (all_run st).made s ≡ found.computed.bits = sym (made_bits s moves bound) ∙ ap (λ (q : Partly). q.bits) d.computed in
      let dumped : signal_bits st.design st.new s ≡ found.dumped.bits = sym said.2 ∙ ap bits_in (sym said.1 ∙ d.dumped) in
      let apart : allows_bits (known_bits st.design (all_run st).made s) (signal_bits st.design st.new s) ≡ false = ap₂ allows_bits computed dumped ∙ d.differ in
      let bit = differs (all_run st).made st.new (cell s) 0 (signal_at st.design s).width apart in
      let e = cell s (0 + bit.0) in
      let inside : nat_lt (0 + bit.0) (signal_at st.design s).width ≡ true = let l = bit.1 in grind (arith, nat_tests, l) in
      (e, refl, and_from (is_dumped st.design st.bound e) _ (and_from (st.bound s) _ bound inside) (and_from (not (signal_at st.design s).input) _ (ap not no_input) (differ_of ((all_run st).made e) (st.new e) bit.2)))

pub agree_law : AgreeLaw
agree_law st ran targets checks codes last x v run all c = agree st ran targets checks codes last x v run all c

pub differ_law : DifferLaw
differ_law st ran targets checks codes last x v found run first = differ st ran targets checks codes last x v run found first
