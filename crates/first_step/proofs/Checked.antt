-- Whether the first step is contradicted, by what was made of the signals that are checked.
use Rattle.std.proofs.Common.{◌≡◌, inl, inr, ◌∙◌, ℕ, ◌+◌, ◌<◌, Bool, true, false, not, ◌&&◌, ◌++◌, List, ◌∷◌, length, Option, Some, None, refl, sym, ap, ap₂, subst, arith}
use Rattle.std.specs.Prelude.{IfNone, IfSome, flat_map, nat_lt}
use Rattle.std.specs.List.{All, Contains}
use Rattle.std.proofs.lemmas.Bool.{and_from, and_parts, both_ways, false_from_ne_true, false≢true}
use Rattle.std.proofs.lemmas.Bool.Decides.{nat_tests}
use Rattle.std.proofs.lemmas.List.{get_or_default}
use Rattle.event_machine.specs.Cell.{Cell, Values}
use Rattle.four_state.specs.Vector.{Vector}
use Rattle.four_state.specs.declared.bit.Bit.{Bit}
use Rattle.known_state.specs.Partly.{Partly, allows_bit, allows_bits}
use Rattle.design_model.specs.Design.{Design, In, body_at, cell, signal_at, signal_bits}
use Rattle.design_model.specs.Lawful.{IsLawfulDesign}
use Rattle.design_model.specs.Mentions.{blocking_target}
use Rattle.design_model.proofs.TargetCells.{target_cells_law}
use Rattle.body_replay.specs.Runs.{runs_of}
use Rattle.body_store.specs.declared.store.Store.{Store}
use Rattle.dump_check.specs.Checks.{AgreesAt, IsFirstDifference, last_of_each, made_of, no_value as nothing_made}
use Rattle.dump_check.specs.declared.order.Difference.{Difference}
use Rattle.index_sets.specs.Rows.{row_at}
use Rattle.process_order.proofs.Distinct.{contains_in, filter_in, in_right}
use Rattle.settling.specs.process_targets.Rows.{AreTargetRows}
use Rattle.settling.specs.process_targets.Targets.{row_has}
use Rattle.settling.specs.process_targets.declared.bits.Bits.{Bits}
use Rattle.process_order.specs.replay_model.Start.{Starting, all_first, contradicts_first}
use Rattle.process_order.specs.replay_model.Step.{Replay, is_dumped, known_bits, surely_differ}
use Rattle.process_order.specs.replay_model.Tables.{Tables}
use Rattle.settling.specs.First.{AtFirst}
use Rattle.settling.specs.step_values.Dumped.{AreDumped}
use Rattle.settling.specs.step_values.Loose.{has_code}
use Rattle.settling.specs.step_values.Vectors.{StepVectors}
use Rattle.settling.proofs.step_values.Dumps.{bits_in}
use Rattle.step_check.proofs.still_check.Bits.{allowed, differ_of, differs}
use Rattle.step_check.proofs.step_changes.Found.{code_of}
use Rattle.step_check.specs.Checks.{AreCheckRows}
use Rattle.step_check.proofs.Lists.{all_in, checked_has, flat_in, has_checked, in_flat, in_last, last_in}
use Rattle.value_store.specs.Signals.{no_value}
use Rattle.first_step.specs.Begun.{AreActed, all_left, is_left}
use Rattle.first_step.proofs.Left.{IsMadeBy, all_made, runs_as}

-- ---- what follows of what was found

pub found_map : {A : Type 0} (o : Option A) (P Q : A → Type 0) → ((x : A) → P x → Q x) → IfSome o P → IfSome o Q
found_map None P Q step h = tt
found_map (Some x) P Q step h = step x h

pub none_map : {A : Type 0} (o : Option A) (P Q : Type 0) → (P → Q) → IfNone o P → IfNone o Q
none_map None P Q step h = step h
none_map (Some x) P Q step h = tt

-- a signal that is checked is one of the design
pub checked_below : (d : Design) (targets : List (List Bits)) (checks : List (List ℕ)) (codes : List (Option ℕ)) → AreTargetRows d targets → AreCheckRows codes targets checks
    → ((s : ℕ) → has_code codes s ≡ true → s < length d.signals) → (p s : ℕ) → Contains (row_at checks p) s → s < length d.signals
checked_below d targets checks codes rows checked below p s has =
    below s (checked_has d codes (row_at targets p) s (rows.each p).bits.inside (subst (In s) (checked.each p) (contains_in s (row_at checks p) has))).0

-- ---- the check

-- a bit that is allowed does not surely differ
allowed_same : (o : Option Bit) (b : Bit) → allows_bit o b ≡ true → surely_differ o (Some b) ≡ true → ⊥
allowed_same None b a e = false≢true e
allowed_same (Some x) b a e = both_ways _ (ap not a) e

module _ (d : Design) (bound : ℕ → Bool) (tables : Tables) (new : Values Bit) (before : Replay) (acted : List Bool) (are : AreActed d acted before) (targets : List (List Bits)) (checks : List (List ℕ)) (codes : List (Option ℕ)) (last : List (Option Vector)) (x : Store) (v : StepVectors)
    (lawful : IsLawfulDesign d) (rows : AreTargetRows d targets) (checked : AreCheckRows codes targets checks) (same : (s : ℕ) → bound s ≡ has_code codes s) (below : (s : ℕ) → has_code codes s ≡ true → s < length d.signals)
    (dumped : AreDumped d codes last new) (at : AtFirst d bound (all_first d bound (runs_of d) tables new before) x v) where
  abbrev ran : List ℕ
  ran = all_left d acted (tables.order ++ tables.last)

  abbrev order : List ℕ
  order = last_of_each (flat_map (row_at checks) ran)

  abbrev end : Starting
  end = all_first d bound (runs_of d) tables new before

  inside : (s : ℕ) → bound s ≡ true → s < length d.signals
  inside s b = below s (sym (same s) ∙ b)

  -- a bound signal of which something that runs may write a cell is checked
  is_listed : (c : Cell) → IsMadeBy d bound (runs_of d) tables new before c (tables.order ++ tables.last) → bound c.thing ≡ true → In c.thing order
  is_listed c by b =
      let p = by.0 in
      let has : row_has (row_at targets p) c ≡ true = (rows.each p).bits.has c (inside c.thing b) ∙ by.3 in
      let row = subst (In c.thing) (sym (checked.each p)) (has_checked codes (row_at targets p) c has (sym (same c.thing) ∙ b)) in
      in_last (flat_map (row_at checks) ran) c.thing (in_flat (row_at checks) ran p c.thing (filter_in (is_left d acted) p (tables.order ++ tables.last) by.1 (sym (runs_as d bound (runs_of d) tables new before acted p are) ∙ by.2)) row)

  -- what was made of a bound signal
  made_bits : (s : ℕ) → bound s ≡ true → (made_of v.made s).bits ≡ known_bits d end.made s
  made_bits s b =
      let l = inside s b in
      let count = at.fits.made.count in
      ap (λ (q : Partly). q.bits) (get_or_default v.made s nothing_made no_value (omega (arith, l, count))) ∙ at.made s l b

  module _ (all : All (AgreesAt codes last v.made) order) where
    agrees : (s : ℕ) → In s order → bound s ≡ true → allows_bits (known_bits d end.made s) (signal_bits d new s) ≡ true
    agrees s i b =
        let code = code_of codes s (sym (same s) ∙ b) in
        let said = dumped s code.0 code.1 in
        ap₂ allows_bits (sym (made_bits s b)) (sym said.2) ∙ all_in (AgreesAt codes last v.made) order s all i code.0 said.0 code.1 said.1

    pub agree : (c : Cell) → contradicts_first d bound (runs_of d) tables new before c ≡ false
    agree c = false_from_ne_true _ (λ e.
        let has = and_parts (is_dumped d bound c) _ e in
        let driven = and_parts (not (signal_at d c.thing).input) _ has.1 in
        let parts = and_parts (bound c.thing) _ has.0 in
        elim (all_made d bound (runs_of d) tables new before c) [
          | inl none ↦ false≢true (ap (λ o. surely_differ o (Some (new c))) (sym none) ∙ driven.1)
          | inr by ↦ by_assign by parts.0 parts.1 driven.1
        ])
      where
        by_assign : IsMadeBy d bound (runs_of d) tables new before c (tables.order ++ tables.last) → bound c.thing ≡ true → nat_lt c.place (signal_at d c.thing).width ≡ true → surely_differ (end.made c) (Some (new c)) ≡ true → ⊥
        by_assign by b wide differ =
            let within : c.place < (signal_at d c.thing).width = grind (arith, nat_tests, wide) in
            let start : 0 + c.place ≡ c.place = omega arith in
            let fits = allowed end.made new (cell c.thing) 0 (signal_at d c.thing).width (agrees c.thing (is_listed c by b) b) c.place within in
            allowed_same (end.made c) (new c) (subst (λ i. allows_bit (end.made (cell c.thing i)) (new (cell c.thing i)) ≡ true) start fits) differ

  pub differ : (found : Difference) → IsFirstDifference codes last v.made order found → (c : Cell) × (c.thing ≡ found.signal) × (contradicts_first d bound (runs_of d) tables new before c ≡ true)
  differ found first =
      let s = found.signal in
      let r = first.differs in
      let i = last_in (flat_map (row_at checks) ran) s (subst (In s) (sym first.is) (in_right s first.before (s ∷ first.after) (inl refl))) in
      let p = flat_in (row_at checks) ran s i in
      let bits = (rows.each p.0).bits in
      let b = checked_has d codes (row_at targets p.0) s bits.inside (subst (In s) (checked.each p.0) p.2) in
      let is_bound : bound s ≡ true = same s ∙ b.0 in
      let c = b.1.0 in
      let writes : blocking_target d (body_at d p.0) c ≡ true = sym (bits.has c (subst (λ y. y < length d.signals) (sym b.1.1) (inside s is_bound))) ∙ b.1.2 in
      let no_input : (signal_at d s).input ≡ false = subst (λ y. (signal_at d y).input ≡ false) b.1.1 (lawful.no_input p.0 c.thing (target_cells_law d p.0 c (inl writes))) in
      let said = dumped s r.code r.coded in
      let computed : known_bits d end.made s ≡ found.computed.bits = sym (made_bits s is_bound) ∙ ap (λ (q : Partly). q.bits) r.computed in
      let told : signal_bits d new s ≡ found.dumped.bits = sym said.2 ∙ ap bits_in (sym said.1 ∙ r.dumped) in
      let apart : allows_bits (known_bits d end.made s) (signal_bits d new s) ≡ false = ap₂ allows_bits computed told ∙ r.differ in
      let bit = differs end.made new (cell s) 0 (signal_at d s).width apart in
      let e = cell s (0 + bit.0) in
      let within : nat_lt (0 + bit.0) (signal_at d s).width ≡ true = let l = bit.1 in grind (arith, nat_tests, l) in (
        e,
        refl,
        and_from (is_dumped d bound e) (not (signal_at d s).input && surely_differ (end.made e) (Some (new e))) (and_from (bound s) (nat_lt (0 + bit.0) (signal_at d s).width) is_bound within)
            (and_from (not (signal_at d s).input) (surely_differ (end.made e) (Some (new e))) (ap not no_input) (differ_of (end.made e) (new e) bit.2)),
      )
