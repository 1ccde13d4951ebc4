-- The undecided tests around a log of words, as it changes.
use Rattle.std.proofs.Common.{◌≡◌, ℕ, ◌+◌, ◌-◌, ◌≤◌, Bool, true, false, if◌then◌else◌, List, [], ◌∷◌, ◌++◌, length, take, drop, append_assoc, Some, None, refl, sym, ap, ap₂, subst, ◌∙◌, arith}
use Rattle.std.specs.List.{All}
use Rattle.std.specs.Option.{unwrap_or}
use Rattle.std.proofs.Math.Seq.{take-length}
use Rattle.std.proofs.lemmas.List.{drop-append-le, drop_all, drop_at, length-drop, length-take-le, take-append-drop, take-append-le, take_all, take_at, take_rest}
use Rattle.std.proofs.lemmas.List.Elements.{All-drop}
use Rattle.memory_rebuild.specs.body_replay.KnownBits.{KnownBits}
use Rattle.write_log.specs.Rooms.{AreTests}
use Rattle.write_log.specs.declared.entry.Test.{Test}
use Rattle.word_log.specs.declared.entry.OverwrittenWord.{OverwrittenWord}
use Rattle.word_log.specs.declared.memory.StoredMemory.{StoredMemory}
use Rattle.word_log.specs.Entries.{Fits, IsCommon, Joined, Moved, Seen, flags, undo, words}
use Rattle.word_log.specs.Logs.{Around, around_of, left_of, tests_of}
use Rattle.word_log.specs.Memories.{SameShapes}
use Rattle.word_log.proofs.Merging.{common, led_back}
use Rattle.word_log.proofs.Shapes.{all_under, same_memories, shapes_back, shapes_both, undo_shapes}
use Rattle.word_log.proofs.Undone.{flags_read, undo_append, words_read}

-- more entries, which lead back to what was held
pub tests_more : (ts : List Test) (done undone es : List OverwrittenWord) (now before : List StoredMemory) → AreTests ts (length done) (length undone) → undo es now ≡ before → tests_of ts (done ++ es) undone now ≡ tests_of ts done undone before
tests_more [] done undone es now before h e = refl
tests_more (t ∷ ts) done undone es now before h e =
    let l : t.done ≤ length done = h.0 in
    let b : undo (drop t.done (done ++ es)) now ≡ undo (drop t.done done) before = ap (λ ds. undo ds now) (drop-append-le t.done done es l) ∙ undo_append (drop t.done done) es now ∙ ap (undo (drop t.done done)) e in
    ap₂ (λ (f : List StoredMemory) ds. around_of t undone f ∷ tests_of ts ds (take t.undone undone) f) b (take-append-le t.done done es l)

-- a test begins
pub tests_begun : (ts : List Test) (done undone : List OverwrittenWord) (now : List StoredMemory) (test : ℕ) → tests_of (record { done = length done; undone = length undone; second = false; test = test } ∷ ts) done undone now ≡ record { before = now; left = None } ∷ tests_of ts done undone now
tests_begun ts done undone now test =
    let made : List OverwrittenWord → List OverwrittenWord → List OverwrittenWord → List Around = λ gone ds us. record { before = undo gone now; left = None } ∷ tests_of ts ds us (undo gone now) in
    ap (λ gone. made gone (take (length done) done) (take (length undone) undone)) (drop_all (length done) done (omega arith)) ∙ ap₂ (made []) (take-length done) (take-length undone)

-- the second branch begins
module _ (t : Test) (ts : List Test) (d u d' u' : List OverwrittenWord) (v w : List StoredMemory) (m : Moved d u v d' u' w) (size : length d' ≡ t.done) (all : length u ≡ t.undone) where
  began : drop t.done d ≡ m.gone
  began = ap (drop t.done) m.taken ∙ drop_at d' m.gone t.done size

  pub second_holds : undo (drop t.done d) v ≡ w
  second_holds = ap (λ gone. undo gone v) began ∙ m.forth

  abbrev made : List StoredMemory → List StoredMemory → List OverwrittenWord → List OverwrittenWord → List Around
  made b l ds us = record { before = b; left = Some l } ∷ tests_of ts ds us b

  abbrev now_before : List StoredMemory
  now_before = undo (drop t.done d') w

  nothing : now_before ≡ w
  nothing = ap (λ gone. undo gone w) (drop_all t.done d' (omega (arith, size)))

  left_is : undo (drop t.undone u') now_before ≡ v
  left_is = ap₂ (λ es (f : List StoredMemory). undo es f) (ap (drop t.undone) m.added ∙ drop_at u m.came t.undone all) nothing ∙ m.back

  done_same : take t.done d' ≡ take t.done d
  done_same = take_all t.done d' (omega (arith, size)) ∙ sym (ap (take t.done) m.taken ∙ take_at d' m.gone t.done size)

  undone_same : take t.undone u' ≡ take t.undone u
  undone_same = ap (take t.undone) m.added ∙ take-append-le t.undone u m.came (omega (arith, all))

  pub tests_switched : (test : ℕ) → tests_of (record { done = t.done; undone = t.undone; second = true; test = test } ∷ ts) d' u' w ≡ record { before = undo (drop t.done d) v; left = Some v } ∷ tests_of ts (take t.done d) (take t.undone u) (undo (drop t.done d) v)
  tests_switched test =
      ap₂ (λ b l. made b l (take t.done d') (take t.undone u')) (nothing ∙ sym second_holds) left_is ∙ ap₂ (made (undo (drop t.done d) v) v) done_same undone_same

-- the tests around the one that has ended, where others are around
pub tests_ended : (t : Test) (ts : List Test) (d u u' came : List OverwrittenWord) (now f : List StoredMemory) → AreTests (t ∷ ts) (length d) (length u) → u' ≡ take t.undone u → undo (drop t.done d ++ came) now ≡ undo (drop t.done d) f → tests_of ts (d ++ came) u' now ≡ tests_of ts (take t.done d) (take t.undone u) (undo (drop t.done d) f)
tests_ended t ts d u u' came now f h is e =
    let split : d ++ came ≡ take t.done d ++ (drop t.done d ++ came) = ap (λ l. l ++ came) (sym (take-append-drop t.done d)) ∙ append_assoc (take t.done d) (drop t.done d) came in
    let sizes : AreTests ts (length (take t.done d)) (length u') = subst (λ n. AreTests ts (length (take t.done d)) n) (sym (ap length is ∙ length-take-le t.undone u h.1)) (subst (λ n. AreTests ts n t.undone) (sym (length-take-le t.done d h.0)) h.3) in
    ap (λ l. tests_of ts l u' now) split ∙ tests_more ts (take t.done d) u' (drop t.done d ++ came) now (undo (drop t.done d) f) sizes e ∙ ap (λ l. tests_of ts (take t.done d) l (undo (drop t.done d) f)) is

-- the innermost test ends, whose second branch has run
module _ (t : Test) (ts : List Test) (d u u' d3 es : List OverwrittenWord) (v v3 v4 v5 : List StoredMemory) (mid : ℕ) (words0 words1 : ℕ × ℕ → Bool) (memories0 memories1 : ℕ → Bool) (m : Moved u d v u' d3 v3) (size : length u' ≡ t.undone) (known : AreTests (t ∷ ts) (length d) (length u)) (is : es ≡ d3) (middle : mid ≡ length d) (no_word : (k : ℕ × ℕ) → words0 k ≡ false) (no_memory : (i : ℕ) → memories0 i ≡ false) (second : t.second ≡ true) (fit_d : All (Fits v) d) (fit_u : All (Fits v) u) (fit3 : All (Fits v3) d3) (shapes4 : SameShapes v3 v4) (shapes5 : SameShapes v4 v5) (j1 : Joined words (take (length es - mid) (drop mid es)) words0 v3 v4) (f1 : Joined flags (take (length es - mid) (drop mid es)) memories0 v3 v4) (s1 : Seen words (take (length es - mid) (drop mid es)) words0 words1) (g1 : Seen flags (take (length es - mid) (drop mid es)) memories0 memories1) (j2 : Joined words (take (mid - t.done) (drop t.done es)) words1 v4 v5) (f2 : Joined flags (take (mid - t.done) (drop t.done es)) memories1 v4 v5) where
  came_is : take (length es - mid) (drop mid es) ≡ m.came
  came_is = take_rest es mid ∙ ap (drop mid) (is ∙ m.added) ∙ drop_at d m.came mid (sym middle)

  gone_is : drop t.undone u ≡ m.gone
  gone_is = ap (drop t.undone) m.taken ∙ drop_at u' m.gone t.undone size

  undone_is : u' ≡ take t.undone u
  undone_is = sym (ap (take t.undone) m.taken ∙ take_at u' m.gone t.undone size)

  over_is : take (mid - t.done) (drop t.done es) ≡ drop t.done d
  over_is =
      let l : t.done ≤ length d = known.0 in
      let all : length (drop t.done d) ≡ mid - t.done = length-drop t.done d ∙ ap (λ n. n - t.done) (sym middle) in
      ap (λ xs. take (mid - t.done) (drop t.done xs)) (is ∙ m.added) ∙ ap (take (mid - t.done)) (drop-append-le t.done d m.came l) ∙ take_at (drop t.done d) m.came (mid - t.done) all

  abbrev s : List OverwrittenWord
  s = drop t.done d

  abbrev before : List StoredMemory
  before = undo s v

  fit_s : All (Fits v) s
  fit_s = All-drop (Fits v) t.done d fit_d

  fit_gone : All (Fits v) m.gone
  fit_gone = subst (All (Fits v)) gone_is (All-drop (Fits v) t.undone u fit_u)

  fit_came : All (Fits v3) m.came
  fit_came = subst (All (Fits v3)) (ap (drop (length d)) m.added ∙ drop_at d m.came (length d) refl) (All-drop (Fits v3) (length d) d3 fit3)

  pub shapes_ended : SameShapes v v5
  shapes_ended = shapes_both v v3 v5 m.shapes (shapes_both v3 v4 v5 shapes4 shapes5)

  word_common : (k : ℕ × ℕ) → words.read v5 k ≡ words.merge (words.read (undo m.gone before) k) (words.read v k)
  word_common =
      common (ℕ × ℕ) KnownBits words words_read s m.gone m.came v v3 v4 v5 words0 words1 fit_s fit_gone fit_came m.forth m.back m.words no_word
      (subst (λ ds. Joined words ds words0 v3 v4) came_is j1) (subst (λ ds. Seen words ds words0 words1) came_is s1) (subst (λ ds. Joined words ds words1 v4 v5) over_is j2)
      (shapes_both v v3 v4 m.shapes shapes4) (shapes_both v3 v4 v5 shapes4 shapes5) shapes_ended

  flag_common : (i : ℕ) → flags.read v5 i ≡ flags.merge (flags.read (undo m.gone before) i) (flags.read v i)
  flag_common =
      common ℕ Bool flags flags_read s m.gone m.came v v3 v4 v5 memories0 memories1 fit_s fit_gone fit_came m.forth m.back m.memories no_memory
      (subst (λ ds. Joined flags ds memories0 v3 v4) came_is f1) (subst (λ ds. Seen flags ds memories0 memories1) came_is g1) (subst (λ ds. Joined flags ds memories1 v4 v5) over_is f2)
      (shapes_both v v3 v4 m.shapes shapes4) (shapes_both v3 v4 v5 shapes4 shapes5) shapes_ended

  pub end_common : IsCommon (left_of (tests_of (t ∷ ts) d u v)) v v5
  end_common =
      let reached : left_of (tests_of (t ∷ ts) d u v) ≡ undo m.gone before = ap (λ b. unwrap_or (if b then Some (undo (drop t.undone u) before) else None) []) second ∙ ap (λ g. undo g before) gone_is in
      subst (λ l. IsCommon l v v5) (sym reached) (record { words = λ i q. word_common (i, q); written = flag_common })

  word_back : (k : ℕ × ℕ) → words.read (undo (s ++ m.came) v5) k ≡ words.read before k
  word_back =
      led_back (ℕ × ℕ) KnownBits words words_read s m.gone m.came v v3 v4 v5 words0 words1 fit_s fit_gone fit_came m.forth m.back m.words no_word
      (subst (λ ds. Joined words ds words0 v3 v4) came_is j1) (subst (λ ds. Seen words ds words0 words1) came_is s1) (subst (λ ds. Joined words ds words1 v4 v5) over_is j2)
      (shapes_both v v3 v4 m.shapes shapes4) (shapes_both v3 v4 v5 shapes4 shapes5) shapes_ended

  flag_back : (i : ℕ) → flags.read (undo (s ++ m.came) v5) i ≡ flags.read before i
  flag_back =
      led_back ℕ Bool flags flags_read s m.gone m.came v v3 v4 v5 memories0 memories1 fit_s fit_gone fit_came m.forth m.back m.memories no_memory
      (subst (λ ds. Joined flags ds memories0 v3 v4) came_is f1) (subst (λ ds. Seen flags ds memories0 memories1) came_is g1) (subst (λ ds. Joined flags ds memories1 v4 v5) over_is f2)
      (shapes_both v v3 v4 m.shapes shapes4) (shapes_both v3 v4 v5 shapes4 shapes5) shapes_ended

  memories_back : undo (s ++ m.came) v5 ≡ before
  memories_back =
      let fit5 : All (Fits v5) m.came = all_under v3 v5 m.came (shapes_both v3 v4 v5 shapes4 shapes5) fit_came in
      let after : SameShapes v5 (undo m.came v5) = undo_shapes m.came v5 fit5 in
      let over : SameShapes v (undo m.came v5) = shapes_both v v5 (undo m.came v5) shapes_ended after in
      let whole : SameShapes v (undo s (undo m.came v5)) = shapes_both v (undo m.came v5) (undo s (undo m.came v5)) over (undo_shapes s (undo m.came v5) (all_under v (undo m.came v5) s over fit_s)) in
      let ends : SameShapes v (undo (s ++ m.came) v5) = subst (SameShapes v) (sym (undo_append s m.came v5)) whole in
      same_memories before (undo (s ++ m.came) v5) (shapes_both before v (undo (s ++ m.came) v5) (shapes_back v before (undo_shapes s v fit_s)) ends) (λ i q. word_back (i, q)) flag_back

  pub end_around : tests_of ts d3 u' v5 ≡ tests_of ts (take t.done d) (take t.undone u) (undo (drop t.done d) v)
  end_around =
      ap (λ l. tests_of ts l u' v5) m.added ∙ tests_ended t ts d u u' m.came v5 v known undone_is memories_back

-- what may be written is added before it is
pub kept_around : (ts : List Test) (done undone done' es : List OverwrittenWord) (now before : List StoredMemory) → AreTests ts (length done) (length undone) → done' ≡ done ++ es → undo es now ≡ before → tests_of ts done' undone now ≡ tests_of ts done undone before
kept_around ts done undone done' es now before h added is = ap (λ l. tests_of ts l undone now) added ∙ tests_more ts done undone es now before h is

-- ---- the room of a log

-- of the entries of one write there are no more than this
pub within_more : (more done undone count room : ℕ) → more ≤ done + count + 1 → done + undone + count + 1 ≤ room → more + undone ≤ room
within_more more done undone count room few left = omega arith
