-- What both branches of an undecided test leave, as what bodies read of a store.
use Rattle.std.proofs.Common.{◌≡◌, inl, inr, ℕ, zero, suc, ◌-◌, ◌/◌, ◌%◌, ◌<◌, ◌≤◌, ◌==◌, ◌&&◌, ◌||◌, Bool, true, false, if◌then◌else◌, [], ◌∷◌, length, map, Option, Some, None, refl, sym, ap, ap₂, ◌∙◌, arith, eq-eqb}
use Rattle.std.specs.Prelude.{nat_le, nat_lt}
use Rattle.std.specs.List.{list_all, range_with_len}
use Rattle.std.proofs.lemmas.List.{get_or_past}
use Rattle.std.proofs.Math.Path.{fun_ext}
use Rattle.std.proofs.lemmas.Bool.Decides.{nat_tests}
use Rattle.design_model.specs.event_machine.Cell.{Cell}
use Rattle.design_model.specs.four_state.declared.bit.Bit.{Bit}
use Rattle.known_state.specs.Partly.{Partly}
use Rattle.known_state.specs.Join.{join_bit, joined}
use Rattle.design_model.specs.Design.{Design, cell, no_signal, signal_at, signal_cells}
use Rattle.design_model.specs.declared.design.Signal.{Signal}
use Rattle.body_calls.specs.body_replay.KnownBits.{KnownBits, all_sure}
use Rattle.body_calls.specs.body_replay.Replay.{State, join_kept, same_kept}
use Rattle.body_calls.proofs.body_replay.Answered.{same_sure}
use Rattle.body_calls.proofs.body_replay.Frames.{join_self}
use Rattle.word_log.specs.memory_rebuild.Words.{KnownWords, word_at}
use Rattle.body_calls.specs.term_replay.Stands.{Scene}
use Rattle.write_log.specs.value_store.Held.{IsSignal}
use Rattle.write_log.specs.Common.{CommonLaw}
use Rattle.write_log.specs.Entries.{IsCommon}
use Rattle.body_calls.specs.Lvalues.{Like, is_sure_signal}
use Rattle.body_calls.specs.Ways.{blame_after, joined_scene}
use Rattle.body_store.specs.Scenes.{bit_at, blames_by, has_index, kept_by, word_bit}
use Rattle.body_store.proofs.Rows.{signal_row}

join_none : (o : Option Bit) → join_bit o None ≡ None
join_none None = refl
join_none (Some b) = refl

bit_joined : (ps qs : KnownBits) (k : ℕ) → bit_at (joined ps qs) k ≡ join_bit (bit_at ps k) (bit_at qs k)
bit_joined [] qs k = refl
bit_joined (p ∷ ps) [] k = sym (join_none (bit_at (p ∷ ps) k))
bit_joined (p ∷ ps) (q ∷ qs) zero = refl
bit_joined (p ∷ ps) (q ∷ qs) (suc k) = bit_joined ps qs k

joined_self : (ps : KnownBits) → joined ps ps ≡ ps
joined_self [] = refl
joined_self (p ∷ ps) = ap₂ (λ a b. a ∷ b) (join_self p) (joined_self ps)

common_bits : (test : ℕ) (a b q : Partly) → IsCommon test a b q → q.bits ≡ joined a.bits b.bits
common_bits test a b q (inl h) = h.2 ∙ sym (joined_self a.bits) ∙ ap (joined a.bits) h.0
common_bits test a b q (inr h) = h.1

-- what is no signal has no cells
no_cells : (d : Design) (x : ℕ) → length d.signals ≤ x → signal_cells d x ≡ []
no_cells d x l = ap (λ (y : Signal). map (cell x) (range_with_len 0 y.width)) (get_or_past d.signals x no_signal l)

-- what is known of the words of a memory, and of whether it is written, where both branches have run
pub record WordsJoined (f g h : ℕ → KnownWords) : Type 0 where
  pub left : (i : ℕ) → (h i).shape ≡ (f i).shape
  pub right : (i : ℕ) → (h i).shape ≡ (g i).shape
  pub bits : (i j : ℕ) → word_at (h i) j ≡ joined (word_at (f i) j) (word_at (g i) j)

word_bit_joined : (f g h : KnownWords) (k : ℕ) → h.shape ≡ f.shape → h.shape ≡ g.shape → ((j : ℕ) → word_at h j ≡ joined (word_at f j) (word_at g j)) → word_bit h k ≡ join_bit (word_bit f k) (word_bit g k)
word_bit_joined f g h k left right bits =
    by (has_index h.shape (k / h.shape.width))
    ∙ ap₂ join_bit (ap (λ s. if has_index s (k / s.width) then bit_at (word_at f (k / s.width)) (k % s.width) else None) left) (ap (λ s. if has_index s (k / s.width) then bit_at (word_at g (k / s.width)) (k % s.width) else None) right)
  where
    by : (t : Bool) → (if t then bit_at (word_at h (k / h.shape.width)) (k % h.shape.width) else None) ≡ join_bit (if t then bit_at (word_at f (k / h.shape.width)) (k % h.shape.width) else None) (if t then bit_at (word_at g (k / h.shape.width)) (k % h.shape.width) else None)
    by true = ap (λ ps. bit_at ps (k % h.shape.width)) (bits (k / h.shape.width)) ∙ bit_joined (word_at f (k / h.shape.width)) (word_at g (k / h.shape.width)) (k % h.shape.width)
    by false = refl

and_or : (t a b : Bool) → (t && (a || b)) ≡ ((t && a) || (t && b))
and_or true a b = refl
and_or false a b = refl

module _ (law : CommonLaw) (d : Design) (n test : ℕ) (f g h : ℕ → Partly) (words_f words_g words_h : ℕ → KnownWords) (wrote_f wrote_g wrote_h : ℕ → Bool) (count : length d.signals ≡ n) (common : (x : ℕ) → IsCommon test (f x) (g x) (h x)) (words : WordsJoined words_f words_g words_h) (wrote : (i : ℕ) → wrote_h i ≡ (wrote_f i || wrote_g i)) (f_fits : (x : ℕ) → x < n → length (f x).bits ≡ (signal_at d x).width) (g_fits : (x : ℕ) → x < n → length (g x).bits ≡ (signal_at d x).width) where
  abbrev scene : (ℕ → Partly) → (ℕ → KnownWords) → (ℕ → Bool) → Scene
  scene at words wrote = record { design = d; kept = kept_by n at words; blames = blames_by n at wrote }

  abbrev state : (ℕ → Partly) → (ℕ → KnownWords) → (ℕ → Bool) → State
  state at words wrote = record { kept = kept_by n at words; blames = blames_by n at wrote; first = None; queue = []; marks = [] }

  abbrev left : Scene
  left = scene f words_f wrote_f

  abbrev right : Scene
  right = scene g words_g wrote_g

  kept_joined : kept_by n h words_h ≡ join_kept (kept_by n f words_f) (kept_by n g words_g)
  kept_joined = fun_ext (λ c. by c (nat_lt c.thing n))
    where
      by : (c : Cell) (t : Bool) → (if t then bit_at (h c.thing).bits c.place else word_bit (words_h (c.thing - n)) c.place) ≡ join_bit (if t then bit_at (f c.thing).bits c.place else word_bit (words_f (c.thing - n)) c.place) (if t then bit_at (g c.thing).bits c.place else word_bit (words_g (c.thing - n)) c.place)
      by c true = ap (λ ps. bit_at ps c.place) (common_bits test (f c.thing) (g c.thing) (h c.thing) (common c.thing)) ∙ bit_joined (f c.thing).bits (g c.thing).bits c.place
      by c false =
          let i : ℕ = c.thing - n in
          word_bit_joined (words_f i) (words_g i) (words_h i) c.place (words.left i) (words.right i) (words.bits i)

  is_signal : (at : ℕ → Partly) (words : ℕ → KnownWords) (wrote : ℕ → Bool) (x : ℕ) → x < n → length (at x).bits ≡ (signal_at d x).width → IsSignal d (kept_by n at words) (blames_by n at wrote).blame x (at x)
  is_signal at words wrote x l fits =
      let inside : nat_lt x n ≡ true = grind (arith, nat_tests, l) in
      record { bits = signal_row n at words d x l fits; blamed = λ u. sym (ap (λ t. if t then (at x).blame else x) inside) }

  joined_signal : (x : ℕ) → x < n → IsSignal d (join_kept left.kept right.kept) (blame_after test left right) x (h x)
  joined_signal x l = law d test (state f words_f wrote_f) (state g words_g wrote_g) x (f x) (g x) (h x) (is_signal f words_f wrote_f x l (f_fits x l)) (is_signal g words_g wrote_g x l (g_fits x l)) (common x)

  blame_joined : (x : ℕ) → is_sure_signal (joined_scene test left right) x ≡ false → (blames_by n h wrote_h).blame x ≡ blame_after test left right x
  blame_joined x unsure = by (nat_lt x n) refl
    where
      by : (t : Bool) → nat_lt x n ≡ t → (if t then (h x).blame else x) ≡ blame_after test left right x
      by true e =
          let l : x < n = grind (arith, nat_tests, e) in
          let is = joined_signal x l in
          let inside : nat_lt x (length d.signals) ≡ true = ap (nat_lt x) count ∙ e in
          let cells : all_sure (map (join_kept left.kept right.kept) (signal_cells d x)) ≡ false = sym (ap (λ t. t && all_sure (map (join_kept left.kept right.kept) (signal_cells d x))) inside) ∙ unsure in
          is.blamed (sym (same_sure (h x).bits) ∙ ap all_sure is.bits ∙ cells)
      by false e =
          let l : n ≤ x = grind (arith, nat_tests, e) in
          let own : left.blames.blame x ≡ x = ap (λ t. if t then (f x).blame else x) e in
          let other : right.blames.blame x ≡ x = ap (λ t. if t then (g x).blame else x) e in
          let same : (left.blames.blame x == right.blames.blame x) ≡ true = eq-eqb _ _ (own ∙ sym other) in
          sym own ∙ sym (ap₂ (λ s cs. if s && list_all (λ c. same_kept (left.kept c) (right.kept c)) cs then left.blames.blame x else test) same (no_cells d x (omega (arith, l, count))))

  pub scene_joined : Like (joined_scene test left right) (scene h words_h wrote_h)
  scene_joined =
      record {
        design = refl;
        kept = kept_joined;
        wrote = λ m. ap (λ t. nat_le n m && t) (wrote (m - n)) ∙ and_or (nat_le n m) (wrote_f (m - n)) (wrote_g (m - n));
        blame = blame_joined;
      }
