-- The bits of one signal after a run.
use Rattle.std.proofs.Common.{◌≡◌, ℕ, zero, suc, ◌+◌, ◌<◌, ◌≤◌, ◌==◌, ◌&&◌, ◌^◌, Bool, true, false, if◌then◌else◌, List, [], ◌∷◌, get_or, length, map, Option, None, refl, sym, ap, ap₂, subst, ◌∙◌, arith, eq-eqb, inl, inr}
use Rattle.std.specs.Prelude.{replicate, slice_set}
use Rattle.std.specs.List.{range_with_len}
use Rattle.std.proofs.Math.Path.{fun_ext}
use Rattle.std.proofs.lemmas.Bool.{cases_lt, eqb-true, false_from_ne_true, false≢true}
use Rattle.std.proofs.lemmas.List.{get_or_past, length-map}
use Rattle.std.proofs.lemmas.List.FromFn.{length-map-range_with_len}
use Rattle.event_machine.specs.Cell.{Cell}
use Rattle.four_state.specs.Masks.{is_set}
use Rattle.four_state.proofs.Places.{is_set-above}
use Rattle.four_state.specs.declared.bit.Bit.{Bit}
use Rattle.known_state.specs.Partly.{Partly}
use Rattle.design_model.specs.Design.{Design, cell, signal_at, signal_cells}
use Rattle.step_values.specs.body_replay.KnownBits.{KnownBits}
use Rattle.step_values.specs.body_replay.Store.{Kept}
use Rattle.step_values.specs.body_store.Owned.{IsBlank}
use Rattle.step_values.proofs.body_store.Rows.{row_at, row_is}
use Rattle.process_targets.specs.Targets.{has_bit}
use Rattle.process_targets.specs.declared.bits.Bits.{Bits}
use Rattle.step_values.specs.store_knowledge.Knows.{with_bits}
use Rattle.step_values.proofs.store_knowledge.Cells.{out_of_cells}
use Rattle.step_values.specs.Loose.{has_code, uncoded}
use Rattle.step_values.specs.Vectors.{FitsSignals, StepVectors, vector_at}
use Rattle.step_values.proofs.Aside.{set_there, set_wide}
use Rattle.step_values.proofs.Tests.{coded_bits, free_bits}
use Rattle.settled_targets.specs.Returned.{IsMadeOf, holding, remade, returned}
use Rattle.settled_targets.specs.Saved.{hiding}

-- a bit that is replaced by a mask, where the other one holds
abbrev pub replaced_bit : ℕ → Bool → KnownBits → KnownBits → ℕ → Option Bit
replaced_bit mask holds old ps i = if is_set mask i then (if holds then get_or ps i None else None) else get_or old i None

-- the bit at a place of a signal
pub bit_of : (d : Design) (k : Kept) (s j : ℕ) (ps : KnownBits) → ps ≡ map k (signal_cells d s) → j < (signal_at d s).width → k (cell s j) ≡ get_or ps j None
bit_of d k s j ps is l =
    let start : 0 + j ≡ j = omega arith in
    ap (λ i. k (cell s i)) (sym start) ∙ row_at k (cell s) 0 (signal_at d s).width ps j is l

-- bits of a signal are as many as it has
pub bits_width : (d : Design) (k : Kept) (s : ℕ) (ps : KnownBits) → ps ≡ map k (signal_cells d s) → length ps ≡ (signal_at d s).width
bits_width d k s ps is = ap length is ∙ length-map (signal_cells d s) k ∙ length-map-range_with_len (cell s) 0 (signal_at d s).width

-- ---- the bits of a signal are what is known of it

module _ (d : Design) (s : ℕ) (k f : Kept) (ps : KnownBits) (size : length ps ≡ (signal_at d s).width) (there : (j : ℕ) → j < (signal_at d s).width → get_or ps j None ≡ f (cell s j)) (past : (j : ℕ) → (signal_at d s).width ≤ j → f (cell s j) ≡ None) (other : (c : Cell) → (s == c.thing) ≡ false → f c ≡ k c) where
  here : (j : ℕ) → get_or ps j None ≡ f (cell s j)
  here j = elim (cases_lt j (signal_at d s).width) [
    | inl below ↦ there j below
    | inr above ↦ get_or_past ps j None (omega (arith, size, above)) ∙ sym (past j above)
  ]

  at : (c : Cell) (t : Bool) → (s == c.thing) ≡ t → (if t then get_or ps c.place None else k c) ≡ f c
  at c false e = sym (other c e)
  at c true e = subst (λ x. get_or ps c.place None ≡ f (cell x c.place)) (eqb-true s c.thing e) (here c.place)

  pub bits_put : with_bits s ps k ≡ f
  bits_put = fun_ext (λ c. at c (s == c.thing) refl)

-- ---- a signal that is hidden

nothing_at : (n j : ℕ) → get_or {A = Option Bit} (replicate n None) j None ≡ None
nothing_at zero j = refl
nothing_at (suc n) zero = refl
nothing_at (suc n) (suc j) = nothing_at n j

pub bits_hidden : (d : Design) (s n : ℕ) (k : Kept) → length {A = Option Bit} (replicate n None) ≡ (signal_at d s).width → with_bits s (replicate n None) k ≡ hiding (λ x. s == x) k
bits_hidden d s n k size = bits_put d s k (hiding (λ x. s == x) k) (replicate n None) size (λ j l. nothing_at n j ∙ sym (itself j)) (λ j l. itself j) (λ c e. ap (λ t. if t then None else k c) e)
  where
    itself : (j : ℕ) → (if s == s then None else k (cell s j)) ≡ None
    itself j = ap (λ t. if t then None else k (cell s j)) (eq-eqb s s refl)

-- ---- what is kept of a signal after a run

module _ (d : Design) (codes : List (Option ℕ)) (b : Bits) (h : Bool) (k r : Kept) (inside : b.signal < length d.signals) (small : b.mask < 2 ^ (signal_at d b.signal).width) (blank : IsBlank d k) where
  abbrev s : ℕ
  s = b.signal

  abbrev width : ℕ
  width = (signal_at d s).width

  abbrev after : Kept
  after = returned codes (λ x. b.signal == x) (has_bit b) h k r

  of_signal : (j : ℕ) → after (cell s j) ≡ (if uncoded codes (has_bit b) (cell s j) then holding h r (cell s j) else k (cell s j))
  of_signal j = ap (λ t. if t then (if uncoded codes (has_bit b) (cell s j) then holding h r (cell s j) else k (cell s j)) else r (cell s j)) (eq-eqb s s refl)

  of_others : (c : Cell) → (s == c.thing) ≡ false → after c ≡ r c
  of_others c e = ap (λ t. if t then (if uncoded codes (has_bit b) c then holding h r c else k c) else r c) e

  nothing_past : (j : ℕ) → width ≤ j → k (cell s j) ≡ None
  nothing_past j above = blank (cell s j) (out_of_cells d s inside j above)

  -- one that the dump has
  pub saved_back : (ps : KnownBits) → has_code codes s ≡ true → ps ≡ map k (signal_cells d s) → length ps ≡ width → with_bits s ps r ≡ after
  saved_back ps coded is size =
      bits_put d s r after ps size (λ j l. sym (bit_of d k s j ps is l) ∙ sym (kept j)) (λ j above. kept j ∙ nothing_past j above) of_others
    where
      kept : (j : ℕ) → after (cell s j) ≡ k (cell s j)
      kept j = of_signal j ∙ ap (λ t. if t then holding h r (cell s j) else k (cell s j)) (coded_bits codes b (cell s j) coded)

  -- one that it does not have
  pub result_back : (qs ps ls : KnownBits) → has_code codes s ≡ false → ps ≡ map k (signal_cells d s) → ls ≡ map r (signal_cells d s) → length qs ≡ width → ((j : ℕ) → j < width → get_or qs j None ≡ replaced_bit b.mask h ps ls j) → with_bits s qs r ≡ after
  result_back qs ps ls free is left size bits =
      bits_put d s r after qs size
      (λ j l. bits j l ∙ sym (made j ∙ ap₂ (λ p q. if is_set b.mask j then (if h then p else None) else q) (bit_of d r s j ls left l) (bit_of d k s j ps is l)))
      (λ j above. made j ∙ ap (λ t. if t then holding h r (cell s j) else k (cell s j)) (is_set-above b.mask width j small above) ∙ nothing_past j above)
      of_others
    where
      made : (j : ℕ) → after (cell s j) ≡ (if is_set b.mask j then holding h r (cell s j) else k (cell s j))
      made j = of_signal j ∙ ap (λ t. if t then holding h r (cell s j) else k (cell s j)) (free_bits codes b (cell s j) free ∙ ap (λ t. t && is_set b.mask j) (eq-eqb s s refl))

-- ---- what was made of a signal

-- two of the same on the cells of a signal
pub row_same : (f g : Kept) (s : ℕ) (js : List ℕ) → ((j : ℕ) → f (cell s j) ≡ g (cell s j)) → map f (map (cell s) js) ≡ map g (map (cell s) js)
row_same f g s [] same = refl
row_same f g s (j ∷ js) same = ap₂ (λ p ps. p ∷ ps) (same j) (row_same f g s js same)

pub made_of_others : (d : Design) (b : Bits) (h : Bool) (r m : Kept) (s : ℕ) → (b.signal == s) ≡ false → map m (signal_cells d s) ≡ map (remade (has_bit b) h r m) (signal_cells d s)
made_of_others d b h r m s e = row_same m (remade (has_bit b) h r m) s (range_with_len 0 (signal_at d s).width) (λ j. sym (ap (λ t. if t && is_set b.mask j then holding h r (cell s j) else m (cell s j)) e))

-- a signal that the dump has is not one that it does not have
pub coded_apart : (codes : List (Option ℕ)) (b : Bits) (s : ℕ) → has_code codes b.signal ≡ false → has_code codes s ≡ true → (b.signal == s) ≡ false
coded_apart codes b s free coded = false_from_ne_true _ (λ e. false≢true (sym free ∙ ap (has_code codes) (eqb-true b.signal s e) ∙ coded))

module _ (v : StepVectors) (b : Bits) (h : Bool) (q : Partly) (ls : KnownBits) (place : b.signal < length v.made) (width : length q.bits ≡ length (vector_at v.made b.signal).bits) (bits : (i : ℕ) → i < length (vector_at v.made b.signal).bits → get_or q.bits i None ≡ replaced_bit b.mask h (vector_at v.made b.signal).bits ls i) where
  abbrev x : ℕ
  x = b.signal

  made_fits : (d : Design) → FitsSignals d v → FitsSignals d (record v { made = slice_set v.made x q })
  made_fits d fits =
      let count = fits.made.count in
      let inside : x < length d.signals = omega (arith, place, count) in
      record { before = fits.before; made = set_wide d.signals v.made x q place (width ∙ fits.made.width x inside) fits.made }

  module _ (d : Design) (r m : Kept) (fits : FitsSignals d v) (left : ls ≡ map r (signal_cells d x)) where
    abbrev after_made : Kept
    after_made = remade (has_bit b) h r m

    itself : x < length d.signals → (vector_at v.made x).bits ≡ map m (signal_cells d x) → q.bits ≡ map after_made (signal_cells d x)
    itself inside old =
        let size : length (vector_at v.made x).bits ≡ (signal_at d x).width = fits.made.width x inside in
        row_is after_made (cell x) 0 (signal_at d x).width q.bits (width ∙ size) (λ i l.
        let start : i ≡ 0 + i = omega arith in
        let here : i < length (vector_at v.made x).bits = omega (arith, l, size) in
        subst (λ j. after_made (cell x j) ≡ get_or q.bits i None) start
        (ap (λ t. if t && is_set b.mask i then holding h r (cell x i) else m (cell x i)) (eq-eqb x x refl)
        ∙ ap₂ (λ o p. if is_set b.mask i then (if h then o else None) else p) (bit_of d r x i ls left l) (bit_of d m x i (vector_at v.made x).bits old l)
        ∙ sym (bits i here)))

    made_at : (s : ℕ) (t : Bool) → (x == s) ≡ t → s < length d.signals → (vector_at v.made s).bits ≡ map m (signal_cells d s) → (if t then q else vector_at v.made s).bits ≡ map after_made (signal_cells d s)
    made_at s false e l old = old ∙ made_of_others d b h r m s e
    made_at s true e l old =
        let is : s ≡ x = sym (eqb-true x s e) in
        subst (λ y. q.bits ≡ map after_made (signal_cells d y)) (sym is) (itself (subst (λ y. y < length d.signals) is l) (subst (λ y. (vector_at v.made y).bits ≡ map m (signal_cells d y)) is old))

    made_bits : (s : ℕ) → s < length d.signals → (vector_at v.made s).bits ≡ map m (signal_cells d s) → (vector_at (slice_set v.made x q) s).bits ≡ map after_made (signal_cells d s)
    made_bits s l old = ap (λ (p : Partly). p.bits) (set_there v.made x q s (x == s) place refl) ∙ made_at s (x == s) refl l old

  pub made_of : IsMadeOf b ls h v (record v { made = slice_set v.made x q })
  made_of = record { before = refl; fits = made_fits; made = λ d r m s fits l left old. made_bits d r m fits left s l old }
