-- What a run makes of the targets of an Assign or Comb, cell by cell.
use Rattle.std.proofs.Common.{◌≡◌, ℕ, ◌<◌, ◌≤◌, ◌==◌, ◌&&◌, Bool, true, false, not, if◌then◌else◌, List, [], ◌∷◌, length, Option, None, refl, sym, ap, ap₂, subst, ◌∙◌, arith, inl, inr}
use Rattle.std.specs.Prelude.{nat_lt}
use Rattle.std.specs.List.{All}
use Rattle.std.proofs.Math.Path.{fun_ext}
use Rattle.std.proofs.lemmas.Bool.{cases_lt, false_from_ne_true, false≢true, ltb-false, or_from, true≢false}
use Rattle.std.proofs.lemmas.Bool.Decides.{nat_tests}
use Rattle.std.proofs.lemmas.List.Elements.{All-head, All-tail}
use Rattle.event_machine.specs.Cell.{Cell}
use Rattle.four_state.specs.declared.bit.Bit.{Bit}
use Rattle.design_model.specs.Design.{Design, IsClocked, body_at, process_at, signal_at}
use Rattle.design_model.specs.Lawful.{IsLawfulDesign}
use Rattle.design_model.specs.Mentions.{blocking_target, body_assigns}
use Rattle.design_model.proofs.BodyLaws.{settled_signals_law}
use Rattle.body_replay.specs.Contract.{Certainty, Outcome}
use Rattle.body_replay.specs.Runs.{AreRuns, runs_of}
use Rattle.body_replay.specs.Store.{Kept}
use Rattle.settled_runs.specs.process_targets.Laws.{WritesSignals}
use Rattle.settled_runs.specs.process_targets.Rows.{AreTargets, IsInside}
use Rattle.settled_runs.specs.process_targets.Targets.{names, row_has}
use Rattle.settled_runs.specs.process_targets.declared.bits.Bits.{Bits}
use Rattle.settled_runs.proofs.process_targets.Settled.{settled_law}
use Rattle.step_parts.specs.replay_model.Step.{is_comb, is_dumped, plain_store, settled_kept}
use Rattle.settled_runs.proofs.replay_steps.Cells.{drives_cells}
use Rattle.settled_runs.proofs.store_knowledge.Cells.{out_of_cells}
use Rattle.settled_targets.specs.step_values.Loose.{has_code}
use Rattle.settled_targets.specs.Returned.{holding, remade, returned}
use Rattle.settled_targets.specs.Saved.{hiding}
use Rattle.settled_targets.proofs.Rows.{unnamed}

-- a row of bits of signals names nothing else
named_out : (d : Design) (row : List Bits) (s : ℕ) → All (IsInside d) row → length d.signals ≤ s → names row s ≡ false
named_out d [] s all past = refl
named_out d (b ∷ row) s all past =
    let first : IsInside d b = All-head (IsInside d) b row all in
    let inside : b.signal < length d.signals = first.0 in
    or_from (b.signal == s) (names row s) (grind (arith, nat_tests, inside, past)) (named_out d row s (All-tail (IsInside d) b row all) past)

module _ (d : Design) (p : ℕ) (row : List Bits) (lawful : IsLawfulDesign d) (settles : IsClocked (process_at d p) → ⊥) (targets : AreTargets d p row) where
  writes : WritesSignals d p
  writes = settled_law d lawful p settles

  -- the row names what the process assigns
  pub names_is : (s : ℕ) → names row s ≡ body_assigns s (body_at d p)
  names_is s = elim (cases_lt s (length d.signals)) [
    | inl l ↦ targets.named s l ∙ writes.named s
    | inr past ↦ named_out d row s targets.bits.inside past ∙ sym (false_from_ne_true _ (λ e. let l = settled_signals_law d lawful p s settles e in absurd (omega (arith, l, past))))
  ]

  -- and has what it may write
  pub has_is : (c : Cell) → row_has row c ≡ blocking_target d (body_at d p) c
  has_is c = elim (cases_lt c.thing (length d.signals)) [
    | inl l ↦ targets.bits.has c l
    | inr past ↦ unnamed row c (named_out d row c.thing targets.bits.inside past) ∙ sym (false_from_ne_true _ (λ e. let l = writes.signals c e in absurd (omega (arith, l, past))))
  ]

  -- a place that it may write is one of the signal
  target_inside : (c : Cell) → blocking_target d (body_at d p) c ≡ true → nat_lt c.place (signal_at d c.thing).width ≡ true
  target_inside c e = go (nat_lt c.place (signal_at d c.thing).width) refl
    where
      go : (t : Bool) → nat_lt c.place (signal_at d c.thing).width ≡ t → nat_lt c.place (signal_at d c.thing).width ≡ true
      go true is = is
      go false is = absurd (out_of_cells d c.thing (writes.signals c e) c.place (ltb-false c.place _ is) (drives_cells d p (λ x b. settled_signals_law d lawful p x settles (sym (writes.named x) ∙ b)) c e))

  -- ---- what the process meets

  pub hidden_is : (k : Kept) → is_comb (process_at d p) ≡ true → hiding (names row) k ≡ settled_kept d p k
  hidden_is k e = fun_ext (λ c. ap₂ (λ t u. if t && u then None else k c) (sym e) (names_is c.thing))

  pub shown_is : (k : Kept) → is_comb (process_at d p) ≡ false → k ≡ settled_kept d p k
  shown_is k e = fun_ext (λ c. ap (λ t. if t && body_assigns c.thing (body_at d p) then None else k c) (sym e))

  -- ---- what is kept of it

  module _ (runs : AreRuns d (runs_of d)) (k : Kept) (how : Certainty) where
    abbrev o : Outcome
    o = runs_of d p (plain_store (settled_kept d p k)) how

    no_and : (t : Bool) → (t && false) ≡ false
    no_and true = refl
    no_and false = refl

    -- what the row does not name is as it was
    as_before : (c : Cell) → names row c.thing ≡ false → o.kept c ≡ k c
    as_before c e =
        runs.frame p (plain_store (settled_kept d p k)) how c (sym (has_is c) ∙ unnamed row c e)
        ∙ ap (λ t. if t then None else k c) (ap (λ u. is_comb (process_at d p) && u) (sym (names_is c.thing) ∙ e) ∙ no_and (is_comb (process_at d p)))

    -- by whether the row names the thing, whether the process may write the cell, whether the dump has the signal, and whether the place
    -- is one of the signal
    kept_at : (n t b i : Bool) (run held before : Option Bit) → (n ≡ false → t ≡ false) → (t ≡ true → i ≡ true) → (n ≡ false → run ≡ before)
        → (if n then (if t && not b then held else before) else run) ≡ (if t && not (b && i) then held else before)
    kept_at true true true true run held before first second third = refl
    kept_at true true false i run held before first second third = refl
    kept_at true true true false run held before first second third = absurd (false≢true (second refl))
    kept_at true false b i run held before first second third = refl
    kept_at false true b i run held before first second third = absurd (true≢false (first refl))
    kept_at false false b i run held before first second third = third refl

    -- what is kept once the saved values are back
    pub kept_is : (codes : List (Option ℕ)) (bound : ℕ → Bool) → ((s : ℕ) → bound s ≡ has_code codes s) → (holds : Bool)
        → returned codes (names row) (row_has row) holds k o.kept ≡ (λ c. if blocking_target d (body_at d p) c && not (is_dumped d bound c) then (if holds then o.kept c else None) else k c)
    kept_is codes bound same holds = fun_ext (λ c.
        ap₂ (λ t b. if names row c.thing then (if t && not b then holding holds o.kept c else k c) else o.kept c) (has_is c) (sym (same c.thing))
        ∙ kept_at (names row c.thing) (blocking_target d (body_at d p) c) (bound c.thing) (nat_lt c.place (signal_at d c.thing).width) (o.kept c) (holding holds o.kept c) (k c) (λ e. sym (has_is c) ∙ unnamed row c e) (target_inside c) (as_before c))

  pub made_is : (holds : Bool) (r m : Kept) → remade (row_has row) holds r m ≡ (λ c. if blocking_target d (body_at d p) c then (if holds then r c else None) else m c)
  made_is holds r m = fun_ext (λ c. ap (λ t. if t then holding holds r c else m c) (has_is c))

-- ---- the same of the design that a store knows

module _ (c d : Design) (p : ℕ) (row : List Bits) (k : Kept) (same : c ≡ d) (lawful : IsLawfulDesign c) (settles : IsClocked (process_at c p) → ⊥) (targets : AreTargets c p row) where
  pub hidden_there : is_comb (process_at c p) ≡ true → hiding (names row) k ≡ settled_kept d p k
  hidden_there comb = subst (λ e. hiding (names row) k ≡ settled_kept e p k) same (hidden_is c p row lawful settles targets k comb)

  pub shown_there : is_comb (process_at c p) ≡ false → k ≡ settled_kept d p k
  shown_there plain = subst (λ e. k ≡ settled_kept e p k) same (shown_is c p row lawful settles targets k plain)
