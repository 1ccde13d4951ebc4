-- The undecided tests around a log, as it changes.
use Rattle.std.proofs.Common.{◌≡◌, inl, ℕ, ◌+◌, ◌-◌, ◌≤◌, ◌==◌, Bool, true, false, not, if◌then◌else◌, List, [], ◌∷◌, ◌++◌, length, take, drop, append_assoc, Some, None, refl, sym, ap, ap₂, subst, ◌∙◌, arith}
use Rattle.std.proofs.Math.Path.{fun_ext}
use Rattle.std.proofs.Math.Seq.{take-length}
use Rattle.std.proofs.lemmas.Bool.{eqb-true, false≢true}
use Rattle.std.proofs.lemmas.List.{drop-append-le, drop_all, drop_at, length-drop, length-take-le, take-append-drop, take-append-le, take_all, take_at, take_rest}
use Rattle.known_state.specs.Partly.{Partly}
use Rattle.std.specs.Option.{unwrap_or}
use Rattle.value_store.specs.Signals.{Signals, no_value, read_at}
use Rattle.write_log.specs.Entries.{IsCommon, Joined, Moved, Seen, Undoes, first_value, names}
use Rattle.write_log.specs.Logs.{Around, Readings, around_of, is_first, is_inside, left_of, reads_of, tests_of, undo}
use Rattle.write_log.specs.Rooms.{AreTests}
use Rattle.write_log.specs.declared.entry.Overwritten.{Overwritten}
use Rattle.write_log.specs.declared.entry.Test.{Test}
use Rattle.write_log.proofs.Firsts.{first_append, first_named, first_unnamed}
use Rattle.write_log.proofs.Joins.{common_swap}

undo_append : (es fs : List Overwritten) (f : Readings) → undo (es ++ fs) f ≡ undo es (undo fs f)
undo_append es fs f = fun_ext (λ x. first_append es fs x (f x))

-- more entries, which lead back to what was read
pub tests_more : (ts : List Test) (done undone es : List Overwritten) (now before : Readings) → AreTests ts (length done) (length undone) → undo es now ≡ before → tests_of ts (done ++ es) undone now ≡ tests_of ts done undone before
tests_more [] done undone es now before h e = refl
tests_more (t ∷ ts) done undone es now before h e =
    let l : t.done ≤ length done = h.0 in
    let b : undo (drop t.done (done ++ es)) now ≡ undo (drop t.done done) before = ap (λ ds. undo ds now) (drop-append-le t.done done es l) ∙ undo_append (drop t.done done) es now ∙ ap (undo (drop t.done done)) e in
    ap₂ (λ (f : Readings) ds. around_of t undone f ∷ tests_of ts ds (take t.undone undone) f) b (take-append-le t.done done es l)

-- a test begins
pub tests_begun : (ts : List Test) (done undone : List Overwritten) (now : Readings) (test : ℕ) → tests_of (record { done = length done; undone = length undone; second = false; test = test } ∷ ts) done undone now ≡ record { test = test; before = now; left = None } ∷ tests_of ts done undone now
tests_begun ts done undone now test =
    let made : List Overwritten → List Overwritten → List Overwritten → List Around = λ gone ds us. record { test = test; before = undo gone now; left = None } ∷ tests_of ts ds us (undo gone now) in
    ap (λ gone. made gone (take (length done) done) (take (length undone) undone)) (drop_all (length done) done (omega arith)) ∙ ap₂ (made []) (take-length done) (take-length undone)

-- the second branch begins
module _ (t : Test) (ts : List Test) (d u d' u' : List Overwritten) (v w : Signals) (m : Moved d u v d' u' w) (size : length d' ≡ t.done) (all : length u ≡ t.undone) where
  began : drop t.done d ≡ m.gone
  began = ap (drop t.done) m.taken ∙ drop_at d' m.gone t.done size

  pub second_reads : undo (drop t.done d) (reads_of v) ≡ reads_of w
  second_reads = ap (λ gone. undo gone (reads_of v)) began ∙ fun_ext m.forth

  abbrev made : Readings → Readings → List Overwritten → List Overwritten → List Around
  made b l ds us = record { test = t.test; before = b; left = Some l } ∷ tests_of ts ds us b

  abbrev now_before : Readings
  now_before = undo (drop t.done d') (reads_of w)

  nothing : now_before ≡ reads_of w
  nothing = ap (λ gone. undo gone (reads_of w)) (drop_all t.done d' (omega (arith, size)))

  left_is : undo (drop t.undone u') now_before ≡ reads_of v
  left_is = ap₂ (λ es (f : Readings). undo es f) (ap (drop t.undone) m.added ∙ drop_at u m.came t.undone all) nothing ∙ fun_ext m.back

  done_same : take t.done d' ≡ take t.done d
  done_same = take_all t.done d' (omega (arith, size)) ∙ sym (ap (take t.done) m.taken ∙ take_at d' m.gone t.done size)

  undone_same : take t.undone u' ≡ take t.undone u
  undone_same = ap (take t.undone) m.added ∙ take-append-le t.undone u m.came (omega (arith, all))

  pub tests_switched : tests_of (record { done = t.done; undone = t.undone; second = true; test = t.test } ∷ ts) d' u' (reads_of w) ≡ record { test = t.test; before = undo (drop t.done d) (reads_of v); left = Some (reads_of v) } ∷ tests_of ts (take t.done d) (take t.undone u) (undo (drop t.done d) (reads_of v))
  tests_switched =
      ap₂ (λ b l. made b l (take t.done d') (take t.undone u')) (nothing ∙ sym second_reads) left_is ∙ ap₂ (made (undo (drop t.done d) (reads_of v)) (reads_of v)) done_same undone_same

-- the second branch has ended: s is what it overwrote, and came is what the first one wrote, over what the second one left
module _ (test : ℕ) (s gone came : List Overwritten) (seen : List ℕ) (v v3 v4 v5 : Signals) (forth : Undoes gone v v3) (back : Undoes came v3 v) (named : (x : ℕ) → names came x ≡ names gone x) (first : Joined test came [] v3 v4) (known : Seen came [] seen) (rest : Joined test s seen v4 v5) where
  -- what the first branch left
  abbrev left : ℕ → Partly
  left x = first_value gone x (first_value s x (read_at v x))

  -- what neither list of the first branch names
  unnamed_reads : (x : ℕ) → names came x ≡ false → read_at v4 x ≡ read_at v x
  unnamed_reads x e = first.unnamed x e ∙ sym (forth x) ∙ first_unnamed gone x (read_at v x) (sym (named x) ∙ e)

  pub common_left : (x : ℕ) → IsCommon test (left x) (read_at v x) (read_at v5 x)
  common_left x = by (names came x) refl
    where
      by : (t : Bool) → names came x ≡ t → IsCommon test (left x) (read_at v x) (read_at v5 x)
      by true e =
          let wrote : names gone x ≡ true = sym (named x) ∙ e in
          let reached : read_at v3 x ≡ left x = sym (forth x) ∙ first_named gone x (read_at v x) (first_value s x (read_at v x)) wrote in
          let here : IsCommon test (first_value came x (read_at v3 x)) (read_at v3 x) (read_at v4 x) = first.joined x refl e in
          let one : IsCommon test (read_at v x) (read_at v3 x) (read_at v4 x) = subst (λ q. IsCommon test q (read_at v3 x) (read_at v4 x)) (back x) here in
          let two : IsCommon test (read_at v x) (left x) (read_at v4 x) = subst (λ q. IsCommon test (read_at v x) q (read_at v4 x)) reached one in
          let three : IsCommon test (left x) (read_at v x) (read_at v4 x) = common_swap test (read_at v x) (left x) (read_at v4 x) two in
          subst (λ q. IsCommon test (left x) (read_at v x) q) (sym (rest.seen_before x (known x ∙ e))) three
      by false e =
          let none : names gone x ≡ false = sym (named x) ∙ e in
          let same : read_at v4 x ≡ read_at v x = unnamed_reads x e in
          let left_is : first_value s x (read_at v x) ≡ left x = sym (first_unnamed gone x (first_value s x (read_at v x)) none) in
          other (names s x) refl none same left_is
        where
          other : (t : Bool) → names s x ≡ t → names gone x ≡ false → read_at v4 x ≡ read_at v x → first_value s x (read_at v x) ≡ left x → IsCommon test (left x) (read_at v x) (read_at v5 x)
          other true i none same left_is =
              let here : IsCommon test (first_value s x (read_at v4 x)) (read_at v4 x) (read_at v5 x) = rest.joined x (known x ∙ e) i in
              let one : IsCommon test (first_value s x (read_at v x)) (read_at v x) (read_at v5 x) = subst (λ q. IsCommon test (first_value s x q) q (read_at v5 x)) same here in
              subst (λ q. IsCommon test q (read_at v x) (read_at v5 x)) left_is one
          other false i none same left_is =
              let alike : left x ≡ read_at v x = sym left_is ∙ first_unnamed s x (read_at v x) i in
              let stays : read_at v5 x ≡ read_at v x = rest.unnamed x i ∙ same in
              inl (ap (λ (q : Partly). q.bits) alike, ap (λ (q : Partly). q.blame) alike, ap (λ (q : Partly). q.bits) (stays ∙ sym alike), ap (λ (q : Partly). q.blame) (stays ∙ sym alike))

  -- both lists lead back to what was read when the test began
  pub ended_back : undo (s ++ came) (reads_of v5) ≡ undo s (reads_of v)
  ended_back = fun_ext (λ x. first_append s came x (read_at v5 x) ∙ by x (names came x) refl)
    where
      by : (x : ℕ) (t : Bool) → names came x ≡ t → first_value s x (first_value came x (read_at v5 x)) ≡ first_value s x (read_at v x)
      by x true e = ap (first_value s x) (first_named came x (read_at v5 x) (read_at v3 x) e ∙ back x)
      by x false e = ap (first_value s x) (first_unnamed came x (read_at v5 x) e) ∙ other (names s x) refl
        where
          other : (t : Bool) → names s x ≡ t → first_value s x (read_at v5 x) ≡ first_value s x (read_at v x)
          other true i = first_named s x (read_at v5 x) (read_at v x) i
          other false i = ap (first_value s x) (rest.unnamed x i ∙ unnamed_reads x e)

-- the tests around the one that has ended, where others are around
pub tests_ended : (t : Test) (ts : List Test) (d u u' came : List Overwritten) (now : Readings) (f : Readings) → AreTests (t ∷ ts) (length d) (length u) → u' ≡ take t.undone u → undo (drop t.done d ++ came) now ≡ undo (drop t.done d) f → tests_of ts (d ++ came) u' now ≡ tests_of ts (take t.done d) (take t.undone u) (undo (drop t.done d) f)
tests_ended t ts d u u' came now f h is e =
    let split : d ++ came ≡ take t.done d ++ (drop t.done d ++ came) = ap (λ l. l ++ came) (sym (take-append-drop t.done d)) ∙ append_assoc (take t.done d) (drop t.done d) came in
    let sizes : AreTests ts (length (take t.done d)) (length u') = subst (λ n. AreTests ts (length (take t.done d)) n) (sym (ap length is ∙ length-take-le t.undone u h.1)) (subst (λ n. AreTests ts n t.undone) (sym (length-take-le t.done d h.0)) h.3) in
    ap (λ l. tests_of ts l u' now) split ∙ tests_more ts (take t.done d) u' (drop t.done d ++ came) now (undo (drop t.done d) f) sizes e ∙ ap (λ l. tests_of ts (take t.done d) l (undo (drop t.done d) f)) is

-- the innermost test ends, whose second branch has run
module _ (t : Test) (ts : List Test) (d u u' d3 es : List Overwritten) (v v3 v4 v5 : Signals) (mid : ℕ) (seen0 seen1 : List ℕ) (m : Moved u d v u' d3 v3) (size : length u' ≡ t.undone) (known : AreTests (t ∷ ts) (length d) (length u)) (is : es ≡ d3) (middle : mid ≡ length d) (none : seen0 ≡ []) (second : t.second ≡ true) (j1 : Joined t.test (take (length es - mid) (drop mid es)) seen0 v3 v4) (s1 : Seen (take (length es - mid) (drop mid es)) seen0 seen1) (j2 : Joined t.test (take (mid - t.done) (drop t.done es)) seen1 v4 v5) where
  came_is : take (length es - mid) (drop mid es) ≡ m.came
  came_is = take_rest es mid ∙ ap (drop mid) (is ∙ m.added) ∙ drop_at d m.came mid (sym middle)

  gone_is : drop t.undone u ≡ m.gone
  gone_is = ap (drop t.undone) m.taken ∙ drop_at u' m.gone t.undone size

  undone_is : u' ≡ take t.undone u
  undone_is = sym (ap (take t.undone) m.taken ∙ take_at u' m.gone t.undone size)

  over_is : take (mid - t.done) (drop t.done es) ≡ drop t.done d
  over_is =
      let l : t.done ≤ length d = known.0 in
      let all : length (drop t.done d) ≡ mid - t.done = length-drop t.done d ∙ ap (λ n. n - t.done) (sym middle) in
      ap (λ xs. take (mid - t.done) (drop t.done xs)) (is ∙ m.added) ∙ ap (take (mid - t.done)) (drop-append-le t.done d m.came l) ∙ take_at (drop t.done d) m.came (mid - t.done) all

  first : Joined t.test m.came [] v3 v4
  first = subst (λ ds. Joined t.test ds [] v3 v4) came_is (subst (λ xs. Joined t.test (take (length es - mid) (drop mid es)) xs v3 v4) none j1)

  seen : Seen m.came [] seen1
  seen = subst (λ ds. Seen ds [] seen1) came_is (subst (λ xs. Seen (take (length es - mid) (drop mid es)) xs seen1) none s1)

  rest : Joined t.test (drop t.done d) seen1 v4 v5
  rest = subst (λ ds. Joined t.test ds seen1 v4 v5) over_is j2

  pub end_common : (x : ℕ) → IsCommon t.test (left_of (tests_of (t ∷ ts) d u (reads_of v)) x) (read_at v x) (read_at v5 x)
  end_common x =
      let before : Readings = undo (drop t.done d) (reads_of v) in
      let reached : left_of (tests_of (t ∷ ts) d u (reads_of v)) x ≡ first_value m.gone x (before x) = ap (λ b. unwrap_or (if b then Some (undo (drop t.undone u) before) else None) (λ y. no_value) x) second ∙ ap (λ g. first_value g x (before x)) gone_is in
      subst (λ q. IsCommon t.test q (read_at v x) (read_at v5 x)) (sym reached) (common_left t.test (drop t.done d) m.gone m.came seen1 v v3 v4 v5 m.forth m.back m.named first seen rest x)

  pub end_around : tests_of ts d3 u' (reads_of v5) ≡ tests_of ts (take t.done d) (take t.undone u) (undo (drop t.done d) (reads_of v))
  end_around =
      ap (λ l. tests_of ts l u' (reads_of v5)) m.added ∙ tests_ended t ts d u u' m.came (reads_of v5) (reads_of v) known undone_is (ended_back t.test (drop t.done d) m.gone m.came seen1 v v3 v4 v5 m.forth m.back m.named first seen rest)

-- what bodies read of a signal is added
pub kept_around : (ts : List Test) (done undone done' : List Overwritten) (v : Signals) (s : ℕ) (q : Partly) (now : Readings) → AreTests ts (length done) (length undone) → done' ≡ done ++ record { signal = s; value = q } ∷ [] → q ≡ read_at v s → ((x : ℕ) → (s == x) ≡ false → now x ≡ read_at v x) → tests_of ts done' undone now ≡ tests_of ts done undone (reads_of v)
kept_around ts done undone done' v s q now h added is same =
    ap (λ l. tests_of ts l undone now) added ∙ tests_more ts done undone (record { signal = s; value = q } ∷ []) now (reads_of v) h (fun_ext (λ x. by x (s == x) refl))
  where
    by : (x : ℕ) (t : Bool) → (s == x) ≡ t → (if t then q else now x) ≡ read_at v x
    by x true e = is ∙ ap (read_at v) (eqb-true s x e)
    by x false e = same x e

pub was_first : (t : Test) (ts : List Test) → is_first (t ∷ ts) ≡ true → t.second ≡ false
was_first t ts e = go t.second e
  where
    go : (b : Bool) → not b ≡ true → b ≡ false
    go false i = refl
    go true i = absurd (false≢true i)

-- a test is around where there are some
pub inside_some : (ts : List Test) → 1 ≤ length ts → is_inside ts ≡ true
inside_some [] l = absurd (omega (arith, l))
inside_some (t ∷ ts) l = refl

-- more entries that can be undone
pub tests_within : (ts : List Test) (n more m : ℕ) → is_inside ts ≡ true → n ≤ more → AreTests ts n m → AreTests ts more m
tests_within [] n more m e l h = absurd (false≢true e)
tests_within (t ∷ ts) n more m e l h =
    let here : t.done ≤ n = h.0 in
    (omega (arith, here, l), h.1, h.2, h.3)

-- ---- the room of a log

-- for what is put back
pub room_back : (from to left room capacity : ℕ) → from + to ≤ room → room ≤ capacity → (from - left) + to ≤ capacity
room_back from to left room capacity used within = omega arith

pub used_back : (from to left from' to' : ℕ) → from' ≡ left → to' + left ≡ to + from → from' + to' ≡ from + to
used_back from to left from' to' less more = omega arith

pub used_after : (done undone from to left : ℕ) → from ≡ left → to + left ≡ done + undone → to + from ≤ done + undone
used_after done undone from to left less more = omega arith

pub used_cleared : (done undone none from to left : ℕ) → none ≡ 0 → from ≡ left → to + left ≡ done + undone → none + from ≤ done + undone
used_cleared done undone none from to left is less more = omega arith

-- the test that began with so many entries is still around
pub still_begun : (begun now : ℕ) → now ≡ begun → begun ≤ now
still_begun begun now is = omega arith

pub still_undone : (begun undone from to to' : ℕ) → begun ≤ from → undone ≤ to → to' + begun ≡ to + from → undone ≤ to'
still_undone begun undone from to to' within below more = omega arith
