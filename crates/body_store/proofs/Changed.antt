-- What is known of each cell after a write to one signal.
use Rattle.std.proofs.Common.{◌≡◌, ℕ, ◌+◌, ◌-◌, ◌<◌, ◌==◌, Bool, true, false, if◌then◌else◌, List, length, map, None, refl, sym, ap, subst, ◌∙◌, arith, inl, inr}
use Rattle.std.specs.Prelude.{nat_lt}
use Rattle.std.proofs.Math.Path.{fun_ext}
use Rattle.std.proofs.lemmas.Bool.{eqb-true}
use Rattle.std.proofs.lemmas.Bool.Decides.{nat_tests}
use Rattle.std.proofs.lemmas.List.{get_or_past}
use Rattle.known_state.specs.Partly.{Partly}
use Rattle.design_model.specs.Design.{Design, cell, signal_at, signal_cells}
use Rattle.body_calls.specs.body_replay.Store.{Kept, KnownWrite, keep_all}
use Rattle.body_calls.proofs.body_replay.Frames.{missed}
use Rattle.word_log.specs.memory_rebuild.Words.{KnownWords}
use Rattle.body_store.specs.Scenes.{bit_at, kept_by, word_bit}
use Rattle.body_store.proofs.Inside.{Inside, inside_misses, is_below}
use Rattle.body_store.proofs.Rows.{row_at, signal_bit}

module _ (d : Design) (n s : ℕ) (old new : ℕ → Partly) (words : ℕ → KnownWords) (ws : List KnownWrite) (l : s < n) (size : length (old s).bits ≡ (signal_at d s).width) (same : length (new s).bits ≡ (signal_at d s).width) (others : (x : ℕ) → (s == x) ≡ false → new x ≡ old x) (inside : Inside s (is_below (signal_at d s).width) ws) (bits : (new s).bits ≡ map (keep_all (kept_by n old words) ws) (signal_cells d s)) where
  abbrev before : Kept
  before = kept_by n old words

  abbrev after : Kept
  after = kept_by n new words

  -- a cell of another thing
  elsewhere : (x k : ℕ) → (s == x) ≡ false → after (cell x k) ≡ keep_all before ws (cell x k)
  elsewhere x k e =
      ap (λ q. if nat_lt x n then bit_at q.bits k else word_bit (words (x - n)) k) (others x e)
      ∙ sym (missed (cell x k) ws before (inside_misses s (is_below (signal_at d s).width) ws (cell x k) inside (inl e)))

  past : (q : Partly) (k : ℕ) → length q.bits ≡ (signal_at d s).width → nat_lt k (signal_at d s).width ≡ false → bit_at q.bits k ≡ None
  past q k e out = get_or_past q.bits k None (grind (arith, nat_tests, e, out))

  -- a cell of the signal
  here : (k : ℕ) (t : Bool) → nat_lt k (signal_at d s).width ≡ t → after (cell s k) ≡ keep_all before ws (cell s k)
  here k true e =
      let below : k < (signal_at d s).width = grind (arith, nat_tests, e) in
      let start : 0 + k ≡ k = omega arith in
      signal_bit n new words s k l ∙ sym (ap (λ j. keep_all before ws (cell s j)) (sym start) ∙ row_at (keep_all before ws) (cell s) 0 (signal_at d s).width (new s).bits k bits below)
  here k false e =
      signal_bit n new words s k l ∙ past (new s) k same e ∙ sym (past (old s) k size e) ∙ sym (signal_bit n old words s k l)
      ∙ sym (missed (cell s k) ws before (inside_misses s (is_below (signal_at d s).width) ws (cell s k) inside (inr e)))

  each : (x k : ℕ) (t : Bool) → (s == x) ≡ t → after (cell x k) ≡ keep_all before ws (cell x k)
  each x k false e = elsewhere x k e
  each x k true e = let is : s ≡ x = eqb-true s x e in subst (λ y. after (cell y k) ≡ keep_all before ws (cell y k)) is (here k (nat_lt k (signal_at d s).width) refl)

  pub one_changed : kept_by n new words ≡ keep_all (kept_by n old words) ws
  one_changed = fun_ext (λ c. each c.thing c.place (s == c.thing) refl)
