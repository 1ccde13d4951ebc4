-- The innermost undecided test around a store.
use Rattle.std.proofs.Common.{◌≡◌, ℕ, suc, ◌<◌, ◌==◌, Bool, true, false, not, if◌then◌else◌, List, [], ◌∷◌, length, map, take, drop, get_or, is_some, Option, Some, None, refl, sym, ap, ap₂, subst, ◌∙◌, arith}
use Rattle.std.specs.List.{All}
use Rattle.std.specs.Option.{unwrap_or}
use Rattle.std.proofs.lemmas.Bool.{eqb-true, false≢true}
use Rattle.std.proofs.lemmas.List.Elements.{All-drop, All-head, All-nil, All-tail}
use Rattle.body_calls.specs.term_replay.Stands.{Scene}
use Rattle.write_log.specs.value_store.Signals.{HasShape, Signals, no_value, shape_at}
use Rattle.write_log.specs.Entries.{Fits, first_value}
use Rattle.write_log.specs.Logs as l
use Rattle.write_log.specs.Logs.{IsLogOf, LogState, Readings, around, innermost, is_first, is_second, left_of, reads_of, tests_of, undo}
use Rattle.write_log.specs.declared.entry.Overwritten.{Overwritten}
use Rattle.write_log.specs.declared.entry.Test.{Test}
use Rattle.body_calls.specs.Ways.{Around, in_first, in_second}
use Rattle.body_store.specs.Tests.{Reader, around_by, seconds, tests_by}
use Rattle.word_log.specs.declared.entry.OverwrittenWord.{OverwrittenWord}
use Rattle.word_log.specs.declared.memory.StoredMemory.{StoredMemory}
use Rattle.word_log.specs.Entries as words
use Rattle.word_log.specs.Logs as w
use Rattle.word_log.specs.Logs.{WordLogState}

-- the thing to blame, the scene of a test, and whether its first branch runs
abbrev test_in : Around → ℕ
test_in (in_first test before) = test
test_in (in_second test left) = test

abbrev scene_in : Around → Scene
scene_in (in_first test before) = before
scene_in (in_second test left) = left

abbrev is_in_first : Around → Bool
is_in_first (in_first test before) = true
is_in_first (in_second test left) = false

-- the innermost test runs its first branch
pub record First (scene : Reader) (ts : List Test) (tests : List l.Around) (us : List w.Around) (test : ℕ) (before : Scene) (outer : List Around) : Type 0 where
  pub first : is_first ts ≡ true
  pub test_is : (innermost tests).test ≡ test
  pub before_is : scene (w.innermost us).before (innermost tests).before ≡ before
  pub outer_is : tests_by scene (drop 1 tests) (drop 1 us) ≡ outer

-- the innermost test runs its second branch
pub record Second (scene : Reader) (ts : List Test) (tests : List l.Around) (us : List w.Around) (test : ℕ) (left : Scene) (outer : List Around) : Type 0 where
  pub second : is_second ts ≡ true
  pub test_is : (innermost tests).test ≡ test
  pub left_is : scene (w.left_of us) (left_of tests) ≡ left
  pub outer_is : tests_by scene (drop 1 tests) (drop 1 us) ≡ outer

-- both logs run the same branches
pub first_of_words : (ts ws : List Test) → seconds ts ≡ seconds ws → is_first ts ≡ true → is_first ws ≡ true
first_of_words [] ws e h = absurd (false≢true h)
first_of_words (t ∷ ts) [] e h = absurd (omega (arith, ap length e))
first_of_words (t ∷ ts) (x ∷ ws) e h = ap not (ap (λ xs. get_or xs 0 true) (sym e)) ∙ h

pub second_of_words : (ts ws : List Test) → seconds ts ≡ seconds ws → is_second ts ≡ true → is_second ws ≡ true
second_of_words [] ws e h = absurd (false≢true h)
second_of_words (t ∷ ts) [] e h = absurd (omega (arith, ap length e))
second_of_words (t ∷ ts) (x ∷ ws) e h = ap (λ xs. get_or xs 0 true) (sym e) ∙ h

module _ (scene : Reader) where
  first_by : (ts : List Test) (done undone : List Overwritten) (now : Readings) (us : List w.Around) (test : ℕ) (before : Scene) (outer : List Around) → tests_by scene (tests_of ts done undone now) us ≡ in_first test before ∷ outer → First scene ts (tests_of ts done undone now) us test before outer
  first_by [] done undone now us test before outer e = absurd (let none : 0 ≡ suc (length outer) = ap length e in omega (arith, none))
  first_by (t ∷ ts) done undone now us test before outer e =
      let here : around_by scene t.test (undo (drop t.done done) now) (if t.second then Some (undo (drop t.undone undone) (undo (drop t.done done) now)) else None) (w.innermost us).before (w.innermost us).left ≡ in_first test before = ap (λ xs. get_or xs 0 (in_first test before)) e in
      let parts = go t.second (w.innermost us).left here in
      record { first = parts.0; test_is = parts.1; before_is = parts.2; outer_is = ap (drop 1) e }
    where
      go : (b : Bool) (o : Option (List StoredMemory)) → around_by scene t.test (undo (drop t.done done) now) (if b then Some (undo (drop t.undone undone) (undo (drop t.done done) now)) else None) (w.innermost us).before o ≡ in_first test before → (not b ≡ true) × (t.test ≡ test) × (scene (w.innermost us).before (undo (drop t.done done) now) ≡ before)
      go false o h = (refl, ap test_in h, ap scene_in h)
      go true None h = absurd (false≢true (ap is_in_first h))
      go true (Some left) h = absurd (false≢true (ap is_in_first h))

  second_by : (ts : List Test) (done undone : List Overwritten) (now : Readings) (us : List w.Around) (test : ℕ) (left : Scene) (outer : List Around) → is_some (w.innermost us).left ≡ is_second ts → tests_by scene (tests_of ts done undone now) us ≡ in_second test left ∷ outer → Second scene ts (tests_of ts done undone now) us test left outer
  second_by [] done undone now us test left outer a e = absurd (let none : 0 ≡ suc (length outer) = ap length e in omega (arith, none))
  second_by (t ∷ ts) done undone now us test left outer a e =
      let here : around_by scene t.test (undo (drop t.done done) now) (if t.second then Some (undo (drop t.undone undone) (undo (drop t.done done) now)) else None) (w.innermost us).before (w.innermost us).left ≡ in_second test left = ap (λ xs. get_or xs 0 (in_second test left)) e in
      let parts = go t.second (w.innermost us).left a here in
      record { second = parts.0; test_is = parts.1; left_is = parts.2; outer_is = ap (drop 1) e }
    where
      go : (b : Bool) (o : Option (List StoredMemory)) → is_some o ≡ b → around_by scene t.test (undo (drop t.done done) now) (if b then Some (undo (drop t.undone undone) (undo (drop t.done done) now)) else None) (w.innermost us).before o ≡ in_second test left → (b ≡ true) × (t.test ≡ test) × (scene (unwrap_or o []) (unwrap_or (if b then Some (undo (drop t.undone undone) (undo (drop t.done done) now)) else None) (λ x. no_value)) ≡ left)
      go true (Some rs) i h = (refl, ap test_in h, ap scene_in h)
      go true None i h = absurd (false≢true i)
      go false o i h = absurd (false≢true (sym (ap is_in_first h)))

  pub first_here : (k : LogState) (now : Readings) (us : List w.Around) (test : ℕ) (before : Scene) (outer : List Around) → tests_by scene (around k now) us ≡ in_first test before ∷ outer → First scene k.tests (around k now) us test before outer
  first_here k now us test before outer e = first_by k.tests k.done k.undone now us test before outer e

  pub second_here : (k : LogState) (now : Readings) (q : WordLogState) (rs : List StoredMemory) (test : ℕ) (left : Scene) (outer : List Around) → seconds k.tests ≡ seconds q.tests → tests_by scene (around k now) (w.around q rs) ≡ in_second test left ∷ outer → Second scene k.tests (around k now) (w.around q rs) test left outer
  second_here k now q rs test left outer a e = second_by k.tests k.done k.undone now (w.around q rs) test left outer (has_left k.tests q.tests a) e
    where
      has_left : (ts ws : List Test) → seconds ts ≡ seconds ws → is_some (w.innermost (w.tests_of ws q.done q.undone rs)).left ≡ is_second ts
      has_left [] [] e = refl
      has_left [] (x ∷ ws) e = absurd (omega (arith, ap length e))
      has_left (t ∷ ts) [] e = absurd (omega (arith, ap length e))
      has_left (t ∷ ts) (x ∷ ws) e = go x.second ∙ ap (λ xs. get_or xs 0 true) (sym e)
        where
          go : (b : Bool) → is_some (if b then Some (words.undo (drop x.undone q.undone) (words.undo (drop x.done q.done) rs)) else None) ≡ b
          go true = refl
          go false = refl

-- which branches run, by the tests around
pub seconds_around : (k : LogState) (now : Readings) → map (λ a. is_some a.left) (around k now) ≡ seconds k.tests
seconds_around k now = go k.tests k.done k.undone now
  where
    go : (ts : List Test) (done undone : List Overwritten) (now : Readings) → map (λ a. is_some a.left) (tests_of ts done undone now) ≡ seconds ts
    go [] done undone now = refl
    go (t ∷ ts) done undone now = ap₂ (λ x xs. x ∷ xs) (by t.second) (go ts (take t.done done) (take t.undone undone) (undo (drop t.done done) now))
      where
        by : (b : Bool) → is_some (if b then Some (undo (drop t.undone undone) (undo (drop t.done done) now)) else None) ≡ b
        by true = refl
        by false = refl

pub seconds_of_words : (q : WordLogState) (rs : List StoredMemory) → map (λ a. is_some a.left) (w.around q rs) ≡ seconds q.tests
seconds_of_words q rs = go q.tests q.done q.undone rs
  where
    go : (ts : List Test) (done undone : List OverwrittenWord) (rs : List StoredMemory) → map (λ a. is_some a.left) (w.tests_of ts done undone rs) ≡ seconds ts
    go [] done undone rs = refl
    go (t ∷ ts) done undone rs = ap₂ (λ x xs. x ∷ xs) (by t.second) (go ts (take t.done done) (take t.undone undone) (words.undo (drop t.done done) rs))
      where
        by : (b : Bool) → is_some (if b then Some (words.undo (drop t.undone undone) (words.undo (drop t.done done) rs)) else None) ≡ b
        by true = refl
        by false = refl

-- ---- what the first branch left has the shapes of the signals

-- each reading has the shape of its signal
abbrev pub AreShaped : Signals → Readings → Type 0
AreShaped v f = (x : ℕ) → x < length v.kept → HasShape (shape_at v x) (f x)

undo_shaped : (v : Signals) (es : List Overwritten) (f : Readings) → All (Fits v) es → AreShaped v f → AreShaped v (undo es f)
undo_shaped v es f fit h x l = go es fit
  where
    go : (es : List Overwritten) → All (Fits v) es → HasShape (shape_at v x) (first_value es x (f x))
    go [] fit = h x l
    go (e ∷ es) fit = by (go es (All-tail (Fits v) e es fit)) (e.signal == x) refl
      where
        by : HasShape (shape_at v x) (first_value es x (f x)) → (t : Bool) → (e.signal == x) ≡ t → HasShape (shape_at v x) (if t then e.value else first_value es x (f x))
        by rest false q = rest
        by rest true q = let same : e.signal ≡ x = eqb-true e.signal x q in subst (λ y. HasShape (shape_at v y) e.value) same (All-head (Fits v) e es fit).shape

left_shaped_by : (v : Signals) (ts : List Test) (done undone : List Overwritten) (now : Readings) → is_second ts ≡ true → All (Fits v) done → All (Fits v) undone → AreShaped v now → AreShaped v (left_of (tests_of ts done undone now))
left_shaped_by v [] done undone now e a b h = absurd (false≢true e)
left_shaped_by v (t ∷ ts) done undone now e a b h =
    subst (λ b. AreShaped v (unwrap_or (if b then Some (undo (drop t.undone undone) (undo (drop t.done done) now)) else None) (λ x. no_value))) (sym e)
    (undo_shaped v (drop t.undone undone) (undo (drop t.done done) now) (All-drop (Fits v) t.undone undone b) (undo_shaped v (drop t.done done) now (All-drop (Fits v) t.done done a) h))

pub left_shaped : (v : Signals) (k : LogState) (now : Readings) → IsLogOf v k → is_second k.tests ≡ true → AreShaped v now → AreShaped v (left_of (around k now))
left_shaped v k now fits e h = left_shaped_by v k.tests k.done k.undone now e fits.done fits.undone h

-- ---- a new log

pub new_logged : (v : Signals) (k : LogState) (signals room : ℕ) → k ≡ record { done = []; undone = []; tests = []; room = room; depth = room; signals = signals } → signals ≡ length v.kept → IsLogOf v k
new_logged v k signals room e size =
    subst (IsLogOf v) (sym e) (record { signals = size; done = All-nil (Fits v); undone = All-nil (Fits v) })

pub new_words_logged : (rs : List StoredMemory) (q : WordLogState) (room : ℕ) → q ≡ record { done = []; undone = []; tests = []; room = room; depth = room; sizes = w.sizes_of rs } → w.IsWordLogOf rs q
new_words_logged rs q room e =
    subst (w.IsWordLogOf rs) (sym e) (record { sizes = refl; done = All-nil (words.Fits rs); undone = All-nil (words.Fits rs) })
