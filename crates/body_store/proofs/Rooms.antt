-- The undecided tests around a store, and its room.
use Rattle.std.proofs.Common.{◌≡◌, ℕ, ◌+◌, ◌-◌, ◌<◌, ◌≤◌, Bool, true, false, if◌then◌else◌, List, [], ◌∷◌, ◌++◌, length, min, refl, sym, ap, subst, ◌∙◌, arith}
use Rattle.std.proofs.Math.Nat.{add-min-add_right, le-min, min-le_left, min-le_right}
use Rattle.std.proofs.lemmas.Bool.{false≢true}
use Rattle.std.proofs.lemmas.List.{length-append}
use Rattle.write_log.specs.value_store.Signals.{Signals, read_at}
use Rattle.write_log.specs.Logs.{LogState, Readings, around, is_inside, kept_log}
use Rattle.write_log.specs.declared.entry.Overwritten.{Overwritten}
use Rattle.write_log.specs.declared.entry.Test.{Test}
use Rattle.word_log.specs.Logs as w
use Rattle.word_log.specs.Logs.{WordLogState}
use Rattle.body_calls.specs.Rooms.{Rooms, takes_in}
use Rattle.body_store.specs.Tests.{Reader, log_room, seconds, tests_by, word_room}

-- the log with the entry
logged : LogState → Signals → ℕ → LogState
logged l v s = record l { done = l.done ++ record { signal = s; value = read_at v s } ∷ [] }

-- both logs are inside of a test, or none is
pub same_inside : (ts ws : List Test) → seconds ws ≡ seconds ts → is_inside ws ≡ is_inside ts
same_inside [] [] e = refl
same_inside [] (x ∷ ws) e = absurd (omega (arith, ap length e))
same_inside (t ∷ ts) [] e = absurd (omega (arith, ap length e))
same_inside (t ∷ ts) (x ∷ ws) e = refl

module _ (scene : Reader) (now : Readings) (us : List w.Around) (r : Rooms) (x : ℕ) where
  -- outside of tests nothing is taken, and in one what a write takes
  pub takes_by : (ts : List Test) (l : LogState) → l.tests ≡ ts → takes_in (tests_by scene (around l now) us) r x ≡ (if is_inside ts then r.takes x else 0)
  takes_by [] l e = ap (λ y. takes_in (tests_by scene (around (record l { tests = y }) now) us) r x) e
  takes_by (t ∷ ts) l e = ap (λ y. takes_in (tests_by scene (around (record l { tests = y }) now) us) r x) e

  -- so there is room for an entry
  pub room_for : (l : LogState) → r.takes x ≡ 1 → r.log ≤ log_room l → takes_in (tests_by scene (around l now) us) r x ≤ r.log → is_inside l.tests ≡ true → length l.done + length l.undone < l.room
  room_for l one is fits inside =
      let taken : takes_in (tests_by scene (around l now) us) r x ≡ 1 = takes_by l.tests l refl ∙ ap (λ t. if t then r.takes x else 0) inside ∙ one in
      omega (arith, taken, is, fits)

  -- and for the entries of a memory
  pub room_for_words : (l : LogState) (q : WordLogState) (n : ℕ) → r.takes x ≡ n + 1 → r.log ≤ word_room q → seconds q.tests ≡ seconds l.tests → takes_in (tests_by scene (around l now) us) r x ≤ r.log → is_inside q.tests ≡ true → length q.done + length q.undone + n + 1 ≤ q.room
  room_for_words l q n many is same fits inside =
      let around_too : is_inside l.tests ≡ true = sym (same_inside l.tests q.tests same) ∙ inside in
      let taken : takes_in (tests_by scene (around l now) us) r x ≡ n + 1 = takes_by l.tests l refl ∙ ap (λ t. if t then r.takes x else 0) around_too ∙ many in
      omega (arith, taken, is, fits)

-- what a write leaves of the room of a log
module _ (l : LogState) (v : Signals) (s : ℕ) where
  abbrev one : Overwritten
  one = record { signal = s; value = read_at v s }

  pub log_left : (t : Bool) → is_inside l.tests ≡ t → log_room l ≤ log_room (kept_log l v s) + (if t then 1 else 0)
  log_left true e =
      let size : length (l.done ++ one ∷ []) ≡ length l.done + 1 = length-append l.done (one ∷ []) in
      let after : log_room (kept_log l v s) ≡ l.room - (length (l.done ++ one ∷ []) + length l.undone + length l.tests) = ap (λ t. log_room (if t then record l { done = l.done ++ one ∷ [] } else l)) e in
      omega (arith, size, after)
  log_left false e =
      let after : log_room (kept_log l v s) ≡ log_room l = ap (λ t. log_room (if t then record l { done = l.done ++ one ∷ [] } else l)) e in
      omega (arith, after)

  pub same_room : (kept_log l v s).room ≡ l.room
  same_room = go (is_inside l.tests)
    where
      go : (t : Bool) → (if t then record l { done = l.done ++ one ∷ [] } else l).room ≡ l.room
      go true = refl
      go false = refl

  pub same_depth : (kept_log l v s).depth ≡ l.depth
  same_depth = go (is_inside l.tests)
    where
      go : (t : Bool) → (if t then record l { done = l.done ++ one ∷ [] } else l).depth ≡ l.depth
      go true = refl
      go false = refl

-- ---- where no test is around

pub no_tests_by : (scene : Reader) (now : Readings) (us : List w.Around) (ts : List Test) (l : LogState) → l.tests ≡ ts → is_inside ts ≡ false → tests_by scene (around l now) us ≡ []
no_tests_by scene now us [] l e out = ap (λ y. tests_by scene (around (record l { tests = y }) now) us) e
no_tests_by scene now us (t ∷ ts) l e out = absurd (false≢true (sym out))

-- ---- the room of both logs

-- where each has at most so much less, both have
pub both_left : (a b a' b' k : ℕ) → a ≤ a' + k → b ≤ b' + k → min a b ≤ min a' b' + k
both_left a b a' b' k l r =
    let first : min a b ≤ a' + k = (let low = min-le_left a b in omega (arith, low, l)) in
    let second : min a b ≤ b' + k = (let low = min-le_right a b in omega (arith, low, r)) in
    let both : min a b ≤ min (a' + k) (b' + k) = le-min first second in
    subst (λ z. min a b ≤ z) (add-min-add_right a' b' k) both

-- what a write of a memory leaves of the room of the log of words
pub words_left : (q q' : WordLogState) (n : ℕ) (t : Bool) → is_inside q.tests ≡ t → q'.room ≡ q.room → q'.tests ≡ q.tests → q'.undone ≡ q.undone → (is_inside q.tests ≡ false → q'.done ≡ q.done) → length q'.done ≤ length q.done + n + 1 → word_room q ≤ word_room q' + (if t then n + 1 else 0)
words_left q q' n true e room tests undone outside few =
    let size : length q'.undone ≡ length q.undone = ap length undone in
    let count : length q'.tests ≡ length q.tests = ap length tests in
    omega (arith, size, count, room, few)
words_left q q' n false e room tests undone outside few =
    let size : length q'.undone ≡ length q.undone = ap length undone in
    let count : length q'.tests ≡ length q.tests = ap length tests in
    let same : length q'.done ≡ length q.done = ap length (outside e) in
    omega (arith, size, count, room, same)
