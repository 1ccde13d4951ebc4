-- What is known of each cell once a signal has other bits.
use Rattle.std.proofs.Common.{◌≡◌, ℕ, zero, suc, ◌+◌, ◌<◌, ◌≤◌, ◌==◌, Bool, true, false, if◌then◌else◌, length, map, get_or, None, refl, sym, ap, subst, ◌∙◌, arith, inl, inr}
use Rattle.std.specs.Prelude.{nat_lt}
use Rattle.std.specs.List.{range_with_len}
use Rattle.std.proofs.Math.Path.{fun_ext}
use Rattle.std.proofs.lemmas.Bool.{eqb-true}
use Rattle.std.proofs.lemmas.Bool.Decides.{nat_tests}
use Rattle.std.proofs.lemmas.List.{get_or_past}
use Rattle.std.proofs.lemmas.Bool.{cases_lt}
use Rattle.body_store.specs.event_machine.Cell.{Cell}
use Rattle.body_store.specs.design_model.BodyLaws.{all_cells}
use Rattle.body_store.specs.design_model.Design.{Design, In, cell, signal_at, signal_cells}
use Rattle.body_store.specs.body_replay.KnownBits.{KnownBits}
use Rattle.body_store.specs.body_replay.Store.{Kept, keep_all, writes_of}
use Rattle.body_store.proofs.body_replay.BlamedTerms.{cell_of_signal}
use Rattle.body_store.proofs.body_replay.Frames.{missed}
use Rattle.body_store.proofs.body_replay.Stored.{signal_stored}
use Rattle.body_store.specs.Owned.{IsBlank}
use Rattle.body_store.proofs.Inside.{inside_misses, inside_whole, is_below}
use Rattle.body_store.proofs.Rows.{row_at}
use Rattle.store_knowledge.specs.Knows.{with_bits}

-- ---- the cells of a signal

in_row : (s n k j : ℕ) → j < k → In (cell s (n + j)) (map (cell s) (range_with_len n k))
in_row s n zero j l = absurd (omega (arith, l))
in_row s n (suc k) zero l = let start : n ≡ n + 0 = omega arith in inl (ap (cell s) start)
in_row s n (suc k) (suc j) l = let next : n + 1 + j ≡ n + suc j = omega arith in inr (subst (λ i. In (cell s i) (map (cell s) (range_with_len (n + 1) k))) next (in_row s (n + 1) k j (omega (arith, l))))

module _ (d : Design) (s : ℕ) (l : s < length d.signals) where
  abbrev width : ℕ
  width = (signal_at d s).width

  pub cells_are : all_cells d s ≡ signal_cells d s
  cells_are = let yes : nat_lt s (length d.signals) ≡ true = grind (arith, nat_tests, l) in rw yes refl

  -- a place of the signal is one of its cells, and no other place is
  pub in_cells : (j : ℕ) → j < width → In (cell s j) (all_cells d s)
  in_cells j b = let start : 0 + j ≡ j = omega arith in subst (In (cell s j)) (sym cells_are) (subst (λ i. In (cell s i) (signal_cells d s)) start (in_row s 0 width j b))

  pub out_of_cells : (j : ℕ) → width ≤ j → In (cell s j) (all_cells d s) → ⊥
  out_of_cells j b i = let below = (cell_of_signal s 0 width (cell s j) (subst (In (cell s j)) cells_are i)).2 in omega (arith, below, b)

  module _ (ps : KnownBits) (size : length ps ≡ width) (k : Kept) (blank : IsBlank d k) where
    past : (j : ℕ) → width ≤ j → get_or ps j None ≡ None
    past j b = get_or_past ps j None (omega (arith, size, b))

    -- ---- of other cells nothing is known

    blank_at : (c : Cell) (t : Bool) → (s == c.thing) ≡ t → (In c (all_cells d c.thing) → ⊥) → (if t then get_or ps c.place None else k c) ≡ None
    blank_at c false e out = blank c out
    blank_at c true e out = elim (cases_lt c.place width) [
      | inl b ↦ absurd (out (subst (λ x. In (cell x c.place) (all_cells d x)) (eqb-true s c.thing e) (in_cells c.place b)))
      | inr b ↦ past c.place b
    ]

    pub still_blank : IsBlank d (with_bits s ps k)
    still_blank c out = blank_at c (s == c.thing) refl out

    -- ---- the writes to the whole signal put its bits in

    here : (j : ℕ) (t : Bool) → nat_lt j width ≡ t → keep_all k (writes_of (signal_cells d s) ps) (cell s j) ≡ get_or ps j None
    here j true e =
        let start : 0 + j ≡ j = omega arith in
        let below : j < width = grind (arith, nat_tests, e) in
        ap (λ i. keep_all k (writes_of (signal_cells d s) ps) (cell s i)) (sym start) ∙ row_at (keep_all k (writes_of (signal_cells d s) ps)) (cell s) 0 width ps j (sym (signal_stored d s k ps size)) below
    here j false e =
        let above : width ≤ j = grind (arith, nat_tests, e) in
        missed (cell s j) (writes_of (signal_cells d s) ps) k (inside_misses s (is_below width) (writes_of (signal_cells d s) ps) (cell s j) (inside_whole d s ps) (inr e)) ∙ blank (cell s j) (out_of_cells j above) ∙ sym (past j above)

    at : (c : Cell) (t : Bool) → (s == c.thing) ≡ t → keep_all k (writes_of (signal_cells d s) ps) c ≡ (if t then get_or ps c.place None else k c)
    at c false e = missed c (writes_of (signal_cells d s) ps) k (inside_misses s (is_below width) (writes_of (signal_cells d s) ps) c (inside_whole d s ps) (inl e))
    at c true e = subst (λ x. keep_all k (writes_of (signal_cells d s) ps) (cell x c.place) ≡ get_or ps c.place None) (eqb-true s c.thing e) (here c.place (nat_lt c.place width) refl)

    pub written_is : keep_all k (writes_of (signal_cells d s) ps) ≡ with_bits s ps k
    written_is = fun_ext (λ c. at c (s == c.thing) refl)
