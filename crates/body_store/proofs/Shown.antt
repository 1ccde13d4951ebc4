-- What bodies read of a store after a signal or memory is shown or veiled, and after nothing is any more.
use Rattle.std.proofs.Common.{◌≡◌, ℕ, zero, suc, ◌+◌, ◌-◌, ◌/◌, ◌%◌, ◌<◌, ◌≤◌, ◌==◌, ◌&&◌, Bool, true, false, if◌then◌else◌, List, length, get_or, replicate, Option, None, refl, sym, ap, ap₂, ◌∙◌, arith, ne_eqb}
use Rattle.std.specs.Prelude.{nat_le, nat_lt}
use Rattle.std.proofs.Math.Path.{fun_ext}
use Rattle.std.proofs.lemmas.Bool.{eqb-true, eqb-false}
use Rattle.std.proofs.lemmas.Bool.Decides.{nat_tests}
use Rattle.design_model.specs.event_machine.Cell.{Cell}
use Rattle.design_model.specs.four_state.declared.bit.Bit.{Bit}
use Rattle.known_state.specs.Partly.{Partly, blame_of}
use Rattle.design_model.specs.declared.design.Design as m
use Rattle.design_model.specs.View.{design_view}
use Rattle.body_calls.specs.body_replay.KnownBits.{KnownBits, unknown}
use Rattle.body_calls.specs.body_replay.Store.{Kept}
use Rattle.word_log.specs.memory_rebuild.declared.shape.Shape.{Shape}
use Rattle.word_log.specs.memory_rebuild.Words.{KnownWords, count, least, unwritten, word_at}
use Rattle.body_calls.specs.term_replay.Stands.{Scene}
use Rattle.write_log.specs.value_store.Signals as s
use Rattle.write_log.specs.value_store.Signals.{unknown_of}
use Rattle.word_log.specs.declared.memory.StoredMemory.{StoredMemory}
use Rattle.body_store.specs.Fitting.{memory_in}
use Rattle.body_store.specs.Scenes.{bit_at, blames_by, has_index, kept_by, scene_with, word_bit}
use Rattle.body_store.specs.Views.{showing, veiling}

-- ---- bits of which none is known

none_at : (n k : ℕ) → bit_at (replicate n None) k ≡ None
none_at zero k = refl
none_at (suc n) zero = refl
none_at (suc n) (suc k) = none_at n k

same_past : (n k : ℕ) (x : KnownBits) → get_or (replicate n x) k x ≡ x
same_past zero k x = refl
same_past (suc n) zero x = refl
same_past (suc n) (suc k) x = same_past n k x

pub none_written : (x : Shape) (k : ℕ) → word_bit (unwritten x) k ≡ None
none_written x k = go (has_index x (k / x.width))
  where
    go : (t : Bool) → (if t then bit_at (word_at (unwritten x) (k / x.width)) (k % x.width) else None) ≡ None
    go true = ap (λ ps. bit_at ps (k % x.width)) (same_past (count x) (k / x.width - least x) (unknown x.width)) ∙ none_at x.width (k % x.width)
    go false = refl

-- ---- a signal

module _ (d : m.Design) (rs : List StoredMemory) (f g : ℕ → Partly) (s : ℕ) (q : Partly) (h : ℕ → Option Bit) (b : ℕ) (l : s < length d.signals) (bits : (k : ℕ) → bit_at q.bits k ≡ h k) (blame : q.blame ≡ b) (reads : (x : ℕ) → g x ≡ (if s == x then q else f x)) where
  abbrev n : ℕ
  n = length d.signals

  abbrev words : ℕ → KnownWords
  words i = (memory_in rs i).words

  here : nat_lt s n ≡ true
  here = grind (arith, nat_tests, l)

  kept_is : (c : Cell) (t : Bool) → (s == c.thing) ≡ t → kept_by n g words c ≡ (if t then h c.place else kept_by n f words c)
  kept_is c true e =
      let is : s ≡ c.thing = eqb-true s c.thing e in
      ap₂ (λ u (p : Partly). if u then bit_at p.bits c.place else word_bit (words (c.thing - n)) c.place) (ap (λ x. nat_lt x n) (sym is) ∙ here) (reads c.thing ∙ ap (λ t. if t then q else f c.thing) e) ∙ bits c.place
  kept_is c false e =
      ap (λ (p : Partly). if nat_lt c.thing n then bit_at p.bits c.place else word_bit (words (c.thing - n)) c.place) (reads c.thing ∙ ap (λ t. if t then q else f c.thing) e)

  abbrev wrote : ℕ → Bool
  wrote i = (memory_in rs i).written

  blame_is : (x : ℕ) (t : Bool) → (s == x) ≡ t → (blames_by n g wrote).blame x ≡ (if t then b else (blames_by n f wrote).blame x)
  blame_is x true e =
      let is : s ≡ x = eqb-true s x e in
      ap₂ (λ u (p : Partly). if u then p.blame else x) (ap (λ y. nat_lt y n) (sym is) ∙ here) (reads x ∙ ap (λ t. if t then q else f x) e) ∙ blame
  blame_is x false e = ap (λ (p : Partly). if nat_lt x n then p.blame else x) (reads x ∙ ap (λ t. if t then q else f x) e)

  pub changed_scene : scene_with d rs g ≡ record (scene_with d rs f) { kept = λ c. if s == c.thing then h c.place else kept_by n f words c; blames = record { blame = λ x. if s == x then b else (blames_by n f wrote).blame x; wrote = (blames_by n f wrote).wrote } }
  changed_scene =
      ap₂ (λ (k : Kept) (y : ℕ → ℕ). record { design = design_view d; kept = k; blames = record { blame = y; wrote = (blames_by n f wrote).wrote } })
      (fun_ext (λ c. kept_is c (s == c.thing) refl)) (fun_ext (λ x. blame_is x (s == x) refl))

pub shown_scene : (d : m.Design) (rs : List StoredMemory) (f g : ℕ → Partly) (s : ℕ) (q : Partly) (ps : KnownBits) → s < length d.signals → q.bits ≡ ps → q.blame ≡ blame_of ps s → ((x : ℕ) → g x ≡ (if s == x then q else f x)) → scene_with d rs g ≡ showing s ps (scene_with d rs f)
shown_scene d rs f g s q ps l bits blame reads = changed_scene d rs f g s q (bit_at ps) (blame_of ps s) l (λ k. ap (λ z. bit_at z k) bits) blame reads

pub veiled_scene : (d : m.Design) (rs : List StoredMemory) (f g : ℕ → Partly) (t : ℕ) (r : s.Shape) → t < length d.signals → ((x : ℕ) → g x ≡ (if t == x then unknown_of r t else f x)) → scene_with d rs g ≡ veiling t (scene_with d rs f)
veiled_scene d rs f g t r l reads = changed_scene d rs f g t (unknown_of r t) (λ k. None) t l (λ k. none_at r.width k) refl reads

-- ---- a memory

module _ (d : m.Design) (rs rs' : List StoredMemory) (f : ℕ → Partly) (p : ℕ) (others : (i : ℕ) → (p == i) ≡ false → (memory_in rs' i).words ≡ (memory_in rs i).words) (unknown : (k : ℕ) → word_bit (memory_in rs' p).words k ≡ None) (flags : (i : ℕ) → (memory_in rs' i).written ≡ (memory_in rs i).written) where
  abbrev N : ℕ
  N = length d.signals

  abbrev before : ℕ → KnownWords
  before i = (memory_in rs i).words

  abbrev after : ℕ → KnownWords
  after i = (memory_in rs' i).words

  word_is : (c : Cell) (t : Bool) → (N + p == c.thing) ≡ t → kept_by N f after c ≡ (if t then None else kept_by N f before c)
  word_is c true e =
      let is : N + p ≡ c.thing = eqb-true (N + p) c.thing e in
      let past : nat_lt c.thing N ≡ false = grind (arith, nat_tests, is) in
      let place : c.thing - N ≡ p = omega (arith, is) in
      ap₂ (λ u i. if u then bit_at (f c.thing).bits c.place else word_bit (after i) c.place) past place ∙ unknown c.place
  word_is c false e = go (nat_lt c.thing N) refl
    where
      go : (t : Bool) → nat_lt c.thing N ≡ t → (if t then bit_at (f c.thing).bits c.place else word_bit (after (c.thing - N)) c.place) ≡ (if t then bit_at (f c.thing).bits c.place else word_bit (before (c.thing - N)) c.place)
      go true u = refl
      go false u =
          let away : (p == c.thing - N) ≡ false = ne_eqb p (c.thing - N) (λ q. eqb-false (N + p) c.thing e (omega (arith, q, (let from : N ≤ c.thing = grind (arith, nat_tests, u) in from)))) in
          ap (λ w. word_bit w c.place) (others (c.thing - N) away)

  number_is : (x : ℕ) (t : Bool) → (N + p == x) ≡ t → (if nat_lt x N then (f x).blame else x) ≡ (if t then N + p else (if nat_lt x N then (f x).blame else x))
  number_is x true e =
      let is : N + p ≡ x = eqb-true (N + p) x e in
      let past : nat_lt x N ≡ false = grind (arith, nat_tests, is) in
      ap (λ u. if u then (f x).blame else x) past ∙ sym is
  number_is x false e = refl

  pub veiled_words : scene_with d rs' f ≡ veiling (N + p) (scene_with d rs f)
  veiled_words =
      ap₂ (λ (k : Kept) (y : ℕ → ℕ). record { design = design_view d; kept = k; blames = record { blame = y; wrote = λ m. nat_le N m && (memory_in rs' (m - N)).written } })
      (fun_ext (λ c. word_is c (N + p == c.thing) refl)) (fun_ext (λ x. number_is x (N + p == x) refl))
      ∙ ap (λ (w : ℕ → Bool). record { design = design_view d; kept = (veiling (N + p) (scene_with d rs f)).kept; blames = record { blame = (veiling (N + p) (scene_with d rs f)).blames.blame; wrote = λ m. nat_le N m && w (m - N) } })
      (fun_ext flags)

-- ---- scenes of the same values

pub scene_by : (d d' : m.Design) (f g : ℕ → Partly) (ws vs : ℕ → KnownWords) (a b : ℕ → Bool) → d' ≡ d → ((x : ℕ) → g x ≡ f x) → ((i : ℕ) → vs i ≡ ws i) → ((i : ℕ) → b i ≡ a i)
    → ◌≡◌ {A = Scene} (record { design = design_view d'; kept = kept_by (length d'.signals) g vs; blames = blames_by (length d'.signals) g b }) (record { design = design_view d; kept = kept_by (length d.signals) f ws; blames = blames_by (length d.signals) f a })
scene_by d d' f g ws vs a b same_design same_values same_words same_flags =
    ap {B = Scene} (λ (y : m.Design). record { design = design_view y; kept = kept_by (length y.signals) g vs; blames = blames_by (length y.signals) g b }) same_design
    ∙ ap₂ {C = Scene} (λ (h : ℕ → Partly) (w : ℕ → KnownWords). record { design = design_view d; kept = kept_by (length d.signals) h w; blames = blames_by (length d.signals) h b }) (fun_ext same_values) (fun_ext same_words)
    ∙ ap {B = Scene} (λ (z : ℕ → Bool). record { design = design_view d; kept = kept_by (length d.signals) f ws; blames = blames_by (length d.signals) f z }) (fun_ext same_flags)
