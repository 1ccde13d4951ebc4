-- The laws of what a store keeps and what bodies read of it, where each signal and memory is to blame for itself.
use Rattle.std.proofs.Common.{◌≡◌, ◌⊎◌, ℕ, zero, suc, ◌+◌, ◌-◌, ◌*◌, ◌<◌, ◌≤◌, ◌==◌, ◌&&◌, Bool, true, false, if◌then◌else◌, List, [], ◌∷◌, ◌++◌, length, map, max, min, Option, None, refl, sym, ap, ap₂, subst, ◌∙◌, arith, eq-eqb, inl, inr, ⊎_elim}
use Rattle.std.specs.Prelude.{nat_le, nat_lt}
use Rattle.std.specs.List.{range_with_len}
use Rattle.std.proofs.Math.Path.{fun_ext}
use Rattle.std.proofs.lemmas.Bool.{cases_lt, eqb-true, false≢true}
use Rattle.std.proofs.lemmas.Bool.Decides.{nat_tests}
use Rattle.std.proofs.lemmas.List.{get_or_past, length-map}
use Rattle.std.proofs.lemmas.List.FromFn.{length-map-range_with_len}
use Rattle.std.proofs.lemmas.Nat.{div-mul-add, mod-mul-add}
use Rattle.design_model.specs.event_machine.Cell.{Cell}
use Rattle.design_model.specs.four_state.declared.bit.Bit.{Bit}
use Rattle.known_state.specs.Partly.{Partly, are_sure, blame_of}
use Rattle.design_model.specs.declared.design.Memory.{Memory}
use Rattle.design_model.specs.BodyLaws.{all_cells, word_indexes, words_cells}
use Rattle.design_model.specs.Design.{Design, In, cell, memory_at, no_memory, signal_at, signal_cells, word_cells}
use Rattle.design_model.specs.View.{design_view}
use Rattle.body_calls.specs.body_replay.KnownBits.{KnownBits, all_sure}
use Rattle.body_calls.specs.body_replay.Store.{Kept}
use Rattle.body_calls.proofs.body_replay.Answered.{same_sure}
use Rattle.word_log.specs.memory_rebuild.Words.{KnownWords}
use Rattle.body_calls.specs.term_replay.Stands.{Scene}
use Rattle.write_log.specs.value_store.Signals.{kept_at, read_at}
use Rattle.write_log.specs.value_store.Held.{IsSignal}
use Rattle.body_calls.specs.Own.{IsOwn}
use Rattle.body_store.specs.declared.store.Store.{Store}
use Rattle.body_store.specs.Fitting.{memory_in}
use Rattle.body_store.specs.Made.{unknown_memory}
use Rattle.body_store.specs.Owned.{HeldLaw, KeptOwnLaw, ReadOwnLaw, SameLaw, ShownOwnLaw, VeiledOwnLaw}
use Rattle.body_store.specs.Scenes.{bit_at, blames_by, kept_by, scene_of}
use Rattle.body_store.specs.Veils.{kept_words}
use Rattle.body_store.specs.Views.{showing, under_of}
use Rattle.body_store.proofs.BlocksCells.{has_bit, is_cell}
use Rattle.body_store.proofs.BlocksOwn.{scene_is}
use Rattle.body_store.proofs.Inside.{is_below}
use Rattle.body_store.proofs.Rows.{row_is, signal_row}
use Rattle.body_store.proofs.ViewLaws.{under_here}

-- ---- each is to blame for itself

module _ (d : Design) (k : Kept) (at : ℕ → Partly) (words : ℕ → KnownWords) (flags : ℕ → Bool) (each : (s : ℕ) → s < length d.signals → IsSignal d k (λ y. y) s (at s)) (none : (i : ℕ) → flags i ≡ false) where
  abbrev n : ℕ
  n = length d.signals

  abbrev v : Scene
  v = record { design = d; kept = kept_by n at words; blames = blames_by n at flags }

  blamed : (y : ℕ) (t : Bool) → nat_lt y n ≡ t → (t && all_sure (map v.kept (signal_cells d y))) ≡ false → (if t then (at y).blame else y) ≡ y
  blamed y true e u =
      let below : y < n = grind (arith, nat_tests, e) in
      let old : IsSignal d k (λ z. z) y (at y) = each y below in
      let size : length (at y).bits ≡ (signal_at d y).width = ap length old.bits ∙ length-map (signal_cells d y) k ∙ length-map-range_with_len (cell y) 0 (signal_at d y).width in
      old.blamed (sym (same_sure (at y).bits) ∙ ap all_sure (signal_row n at words d y below size) ∙ u)
  blamed y false e u = refl

  unflagged : (m : ℕ) (t : Bool) → (t && flags (m - n)) ≡ false
  unflagged m true = none (m - n)
  unflagged m false = refl

  pub own_by : IsOwn v
  own_by = record { design = refl; kept = refl; wrote = λ m. unflagged m (nat_le n m); blame = λ y u. blamed y (nat_lt y n) refl u }

no_flag : (x : Store) → ((i : ℕ) → i < length x.design.now.memories → (memory_in x.memories.items i).written ≡ false) → (i : ℕ) → (memory_in x.memories.items i).written ≡ false
no_flag x each i = ⊎_elim (each i) (λ l. let count = x.fits.memories in ap (λ r. r.written) (get_or_past x.memories.items i (unknown_memory no_memory 0) (omega (arith, l, count)))) (cases_lt i (length x.design.now.memories))

pub kept_own_law : KeptOwnLaw
kept_own_law x k h =
    own_by (design_view x.design.now) k (kept_at x.signals) (kept_words x.veils x.memories.items) (λ i. (memory_in x.memories.items i).written) h.signals.each (no_flag x (λ i l. (h.memories.each i l).wrote))

pub read_own_law : ReadOwnLaw
read_own_law x k h =
    own_by (design_view x.design.now) k (read_at x.signals) (λ i. (memory_in x.memories.items i).words) (λ i. (memory_in x.memories.items i).written) h.signals.each (no_flag x (λ i l. (h.memories.each i l).wrote))

-- ---- nothing is shown or veiled

pub same_law : SameLaw
same_law x none =
    sym (under_here x)
    ∙ ap₂ {C = Scene} (λ (k : Kept) (f : ℕ → ℕ). record { design = design_view x.design.now; kept = k; blames = record { blame = f; wrote = (scene_of x).blames.wrote } })
    (fun_ext (λ c. ap (λ t. if t then (under_of x).kept c else (scene_of x).kept c) (none c.thing)))
    (fun_ext (λ y. ap (λ t. if t then (under_of x).blame y else (scene_of x).blames.blame y) (none y)))

-- ---- the cells of the design, as a list

place_below : (x n k : ℕ) (c : Cell) → In c (map (cell x) (range_with_len n k)) → c.place < n + k
place_below x n zero c h = absurd h
place_below x n (suc k) c (inl e) = let at : n ≡ c.place = ap (λ z. z.place) e in omega (arith, at)
place_below x n (suc k) c (inr h) = let below = place_below x (n + 1) k c h in omega (arith, below)

halves : (c : Cell) (xs ys : List Cell) → In c (xs ++ ys) → In c xs ⊎ In c ys
halves c [] ys h = inr h
halves c (x ∷ xs) ys (inl e) = inl (inl e)
halves c (x ∷ xs) ys (inr h) = ⊎_elim (λ k. inl (inr k)) (λ k. inr k) (halves c xs ys h)

module _ (d : Design) (m : ℕ) (c : Cell) where
  abbrev x : Memory
  x = memory_at d m

  bit_there : (i j : ℕ) → min x.first x.last ≤ i → i ≤ max x.first x.last → j < x.width → has_bit x (i * x.width + j) ≡ true
  bit_there i j low high below =
      ap₂ (λ a b. nat_le (min x.first x.last) a && nat_le a (max x.first x.last) && nat_lt b x.width) (div-mul-add i x.width j below) (mod-mul-add i x.width j below) ∙ grind (arith, nat_tests, low, high, below)

  word_there : (i a k : ℕ) → min x.first x.last ≤ i → i ≤ max x.first x.last → a + k ≤ x.width → In c (map (λ j. cell m (i * x.width + j)) (range_with_len a k)) → has_bit x c.place ≡ true
  word_there i a zero low high l h = absurd h
  word_there i a (suc k) low high l (inl e) = subst (λ p. has_bit x p ≡ true) (ap (λ z. z.place) e) (bit_there i a low high (omega (arith, l)))
  word_there i a (suc k) low high l (inr h) = word_there i (a + 1) k low high (omega (arith, l)) h

  words_there : (a k : ℕ) → min x.first x.last ≤ a → a + k ≤ max x.first x.last + 1 → In c (words_cells d m (range_with_len a k)) → has_bit x c.place ≡ true
  words_there a zero low high h = absurd h
  words_there a (suc k) low high h =
      ⊎_elim (word_there a 0 x.width low (omega (arith, high)) (omega arith)) (words_there (a + 1) k (omega (arith, low)) (omega (arith, high))) (halves c (word_cells d m a) (words_cells d m (range_with_len (a + 1) k)) h)

  place_there : (t : Bool) → In c (if t then signal_cells d m else words_cells d m (word_indexes d m)) → (if t then is_below (signal_at d m).width c.place else has_bit x c.place) ≡ true
  place_there true h = let below = place_below m 0 (signal_at d m).width c h in grind (arith, nat_tests, below)
  place_there false h = words_there (min x.first x.last) (max x.first x.last - min x.first x.last + 1) (omega arith) (ordered x.first x.last) h
    where
      ordered : (a b : ℕ) → min a b + (max a b - min a b + 1) ≤ max a b + 1
      ordered a b = omega arith

not_listed : (d : Design) (c : Cell) → is_cell d c ≡ false → In c (all_cells d c.thing) → ⊥
not_listed d c out h = false≢true (sym out ∙ place_there d c.thing c (nat_lt c.thing (length d.signals)) h)

pub held_law : HeldLaw
held_law x k e h blank = scene_is x k e h (λ c out. blank c (not_listed (design_view x.design.now) c out))

-- ---- what is shown or veiled

module _ (v : Scene) (t : ℕ) (shown : ℕ → Option Bit) where
  abbrev instead : Kept
  instead c = if t == c.thing then shown c.place else v.kept c

  other_row : (y : ℕ) (ks : List ℕ) → (t == y) ≡ false → map instead (map (cell y) ks) ≡ map v.kept (map (cell y) ks)
  other_row y [] e = refl
  other_row y (k ∷ ks) e = ap₂ (λ a b. a ∷ b) (ap (λ b. if b then shown k else v.kept (cell y k)) e) (other_row y ks e)

  -- another signal or memory is to blame for itself as before
  other_own : (y : ℕ) → IsOwn v → (t == y) ≡ false → (nat_lt y (length v.design.signals) && all_sure (map instead (signal_cells v.design y))) ≡ false → v.blames.blame y ≡ y
  other_own y own e u = own.blame y (ap (λ qs. nat_lt y (length v.design.signals) && all_sure qs) (sym (other_row y (range_with_len 0 (signal_at v.design y).width) e)) ∙ u)

module _ (v : Scene) (s : ℕ) (ps : KnownBits) (l : s < length v.design.signals) (size : length ps ≡ (signal_at v.design s).width) (own : IsOwn v) where
  abbrev after : Kept
  after = instead v s (bit_at ps)

  own_row : ps ≡ map after (signal_cells v.design s)
  own_row = row_is after (cell s) 0 (signal_at v.design s).width ps size (λ i b. ap (λ t. if t then bit_at ps (0 + i) else v.kept (cell s (0 + i))) (eq-eqb s s refl) ∙ ap (bit_at ps) (start i))
    where
      start : (i : ℕ) → 0 + i ≡ i
      start i = omega arith

  shown_itself : (y : ℕ) → s ≡ y → (nat_lt y (length v.design.signals) && all_sure (map after (signal_cells v.design y))) ≡ false → blame_of ps s ≡ y
  shown_itself y same u =
      let yes : nat_lt s (length v.design.signals) ≡ true = grind (arith, nat_tests, l) in
      let here : (nat_lt s (length v.design.signals) && all_sure (map after (signal_cells v.design s))) ≡ false = subst (λ z. (nat_lt z (length v.design.signals) && all_sure (map after (signal_cells v.design z))) ≡ false) (sym same) u in
      let unsure : are_sure ps ≡ false = sym (same_sure ps) ∙ ap all_sure own_row ∙ sym (ap (λ t. t && all_sure (map after (signal_cells v.design s))) yes) ∙ here in
      ap (λ t. if t then 0 else s) unsure ∙ same

  shown_blame : (y : ℕ) (t : Bool) → (s == y) ≡ t → (nat_lt y (length v.design.signals) && all_sure (map after (signal_cells v.design y))) ≡ false → (if t then blame_of ps s else v.blames.blame y) ≡ y
  shown_blame y true e u = shown_itself y (eqb-true s y e) u
  shown_blame y false e u = other_own v s (bit_at ps) y own e u

  pub shown_own : IsOwn (showing s ps v)
  shown_own = record { design = refl; kept = refl; wrote = own.wrote; blame = λ y u. shown_blame y (s == y) refl u }

pub shown_own_law : ShownOwnLaw
shown_own_law v s ps l size own = shown_own v s ps l size own

veiled_blame : (v : Scene) (x y : ℕ) → IsOwn v → (t : Bool) → (x == y) ≡ t → (nat_lt y (length v.design.signals) && all_sure (map (instead v x (λ k. None)) (signal_cells v.design y))) ≡ false → (if t then x else v.blames.blame y) ≡ y
veiled_blame v x y own true e u = eqb-true x y e
veiled_blame v x y own false e u = other_own v x (λ k. None) y own e u

pub veiled_own_law : VeiledOwnLaw
veiled_own_law v x own = record { design = refl; kept = refl; wrote = own.wrote; blame = λ y u. veiled_blame v x y own (x == y) refl u }
