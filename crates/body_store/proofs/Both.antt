-- What the calls of both logs of a store leave.
use Rattle.std.proofs.Common.{◌≡◌, ℕ, ◌+◌, ◌-◌, ◌<◌, ◌≤◌, true, false, if◌then◌else◌, List, [], ◌∷◌, ◌++◌, length, map, get_or, take, drop, is_some, Some, None, refl, sym, ap, ap₂, subst, ◌∙◌, arith}
use Rattle.std.proofs.Math.Nat.{min-le_left, min-le_right}
use Rattle.std.proofs.lemmas.List.{append-nil, drop_all, take_all}
use Rattle.std.specs.Prelude.{min}
use Rattle.std.specs.List.{All}
use Rattle.std.specs.Option.{unwrap_or}
use Rattle.std.proofs.lemmas.Bool.{false≢true}
use Rattle.std.proofs.lemmas.List.Elements.{All-drop}
use Rattle.known_state.specs.Join.{joined}
use Rattle.std.specs.Prelude.{nat_lt}
use Rattle.std.proofs.lemmas.Bool.Decides.{nat_tests}
use Rattle.design_model.specs.declared.design.Design as m
use Rattle.design_model.specs.Design.{Design, is_memory, memory_at, no_memory}
use Rattle.design_model.specs.View.{design_view}
use Rattle.word_log.specs.memory_rebuild.Words.{count, least}
use Rattle.write_log.specs.value_store.Signals.{Signals}
use Rattle.body_calls.specs.term_replay.Stands.{Scene}
use Rattle.write_log.specs.Logs as signals
use Rattle.write_log.specs.Logs.{LogState, Readings, around, is_second}
use Rattle.write_log.specs.declared.entry.Test.{Test}
use Rattle.word_log.specs.declared.memory.StoredMemory.{StoredMemory}
use Rattle.word_log.specs.declared.entry.OverwrittenWord.{OverwrittenWord}
use Rattle.word_log.specs.Entries.{Fits, IsCommon, undo}
use Rattle.word_log.specs.Memories.{SameShapes, memory_in, shape_of, word_in}
use Rattle.word_log.proofs.Shapes.{all_under, shapes_both, undo_shapes}
use Rattle.word_log.specs.Logs as w
use Rattle.word_log.specs.Logs.{IsWordLogOf, WordLogState}
use Rattle.body_calls.specs.Lvalues.{Like}
use Rattle.body_store.specs.Tests.{SameTests, log_room, seconds, word_room}
use Rattle.body_store.specs.Bodies.{write_takes}
use Rattle.body_store.specs.Fitting.{FitsDesign, FitsWords}
use Rattle.body_store.proofs.Branches.{WordsJoined}
use Rattle.body_store.proofs.Fit.{among_memories, from_memories, in_memories}
use Rattle.body_store.proofs.Tests.{seconds_around, seconds_of_words}

-- all items of a vector were lent
pub all_lent : {A : Type 0} (xs ys : List A) (n : ℕ) → length xs ≡ n → length ys ≡ n → take n (xs ++ drop (length xs) ys) ≡ xs
all_lent xs ys n a b =
    ap (λ zs. take n (xs ++ zs)) (drop_all (length xs) ys (omega (arith, a, b))) ∙ ap (take n) (append-nil xs) ∙ take_all n xs (omega (arith, a))

pub like_same : (v v' : Scene) → v ≡ v' → Like v v'
like_same v v' e = subst (Like v) e (record { design = refl; kept = refl; wrote = λ m. refl; blame = λ x u. refl })

-- ---- a test begins

-- there is room for one test
pub test_room : (l : LogState) (q : WordLogState) → l.depth ≡ l.room → SameTests l q → 1 ≤ min (log_room l) (word_room q) → (length l.tests < l.depth) × (length q.tests < q.depth)
test_room l q depth s room =
    let first = min-le_left (log_room l) (word_room q) in
    let second = min-le_right (log_room l) (word_room q) in
    let words = s.word_depth in (
      omega (arith, depth, room, first),
      omega (arith, words, room, second),
    )

pub begun_same : (l l' : LogState) (q q' : WordLogState) (t u : Test) → u.second ≡ t.second → SameTests l q → l' ≡ record l { tests = t ∷ l.tests } → q' ≡ record q { tests = u ∷ q.tests } → SameTests l' q'
begun_same l l' q q' t u same s e f =
    record {
      word_depth = ap (λ y. y.depth) f ∙ s.word_depth ∙ sym (ap (λ y. y.room) f);
      room = ap (λ y. y.room) f ∙ s.room ∙ sym (ap (λ y. y.room) e);
      branches = ap (λ y. seconds y.tests) f ∙ ap₂ (λ b xs. b ∷ xs) same s.branches ∙ sym (ap (λ y. seconds y.tests) e);
    }

-- ---- the second branch begins, and a test ends

-- which branches run, by what both logs say of the tests around
pub changed_same : (l l' : LogState) (q q' : WordLogState) (now : Readings) (rs : List StoredMemory) → SameTests l q → l'.room ≡ l.room → q'.room ≡ q.room → q'.depth ≡ q.depth → map (λ a. is_some a.left) (w.around q' rs) ≡ map (λ a. is_some a.left) (around l' now) → SameTests l' q'
changed_same l l' q q' now rs s room words depth same =
    record {
      word_depth = depth ∙ s.word_depth ∙ sym words;
      room = words ∙ s.room ∙ sym room;
      branches = sym (seconds_of_words q' rs) ∙ same ∙ seconds_around l' now;
    }

-- those of the outer tests
pub same_outer : (l : LogState) (q : WordLogState) (now : Readings) (rs : List StoredMemory) → SameTests l q → map (λ a. is_some a.left) (drop 1 (w.around q rs)) ≡ map (λ a. is_some a.left) (drop 1 (around l now))
same_outer l q now rs s =
    map_drop (w.around q rs) ∙ ap (drop 1) (seconds_of_words q rs ∙ s.branches ∙ sym (seconds_around l now)) ∙ sym (signals_drop (around l now))
  where
    map_drop : (xs : List w.Around) → map (λ a. is_some a.left) (drop 1 xs) ≡ drop 1 (map (λ a. is_some a.left) xs)
    map_drop [] = refl
    map_drop (x ∷ xs) = refl

    signals_drop : (xs : List signals.Around) → map (λ a. is_some a.left) (drop 1 xs) ≡ drop 1 (map (λ a. is_some a.left) xs)
    signals_drop [] = refl
    signals_drop (x ∷ xs) = refl

-- what the first branch of the innermost test left has the shapes of the memories
pub left_shapes : (q : WordLogState) (rs : List StoredMemory) → IsWordLogOf rs q → is_second q.tests ≡ true → SameShapes rs (w.left_of (w.around q rs))
left_shapes q rs f e = go q.tests q.done q.undone e f.done f.undone
  where
    go : (ts : List Test) (done undone : List OverwrittenWord) → is_second ts ≡ true → All (Fits rs) done → All (Fits rs) undone → SameShapes rs (w.left_of (w.tests_of ts done undone rs))
    go [] done undone e a b = absurd (false≢true e)
    go (t ∷ ts) done undone e a b =
        let before : List StoredMemory = undo (drop t.done done) rs in
        let there : SameShapes rs before = undo_shapes (drop t.done done) rs (All-drop (Fits rs) t.done done a) in
        subst (λ s. SameShapes rs (unwrap_or (if s then Some (undo (drop t.undone undone) before) else None) [])) (sym e)
        (shapes_both rs before (undo (drop t.undone undone) before) there (undo_shapes (drop t.undone undone) before (all_under rs before (drop t.undone undone) there (All-drop (Fits rs) t.undone undone b))))

-- the words that both branches leave
pub words_joined : (left right after : List StoredMemory) → SameShapes right left → SameShapes right after → IsCommon left right after → WordsJoined (λ i. (memory_in left i).words) (λ i. (memory_in right i).words) (λ i. (memory_in after i).words)
words_joined left right after l a c =
    record {
      left = λ i. a.shape i ∙ sym (l.shape i);
      right = λ i. a.shape i;
      bits = λ i j.
          c.words i (j - least (memory_in after i).words.shape)
          ∙ ap₂ joined (ap (λ s. word_in (memory_in left i) (j - least s)) (a.shape i ∙ sym (l.shape i))) (ap (λ s. word_in (memory_in right i) (j - least s)) (a.shape i));
    }

-- ---- a write of a memory

-- what it takes is what the log of words asks for
pub takes_words : (D : m.Design) (v : Signals) (rs : List StoredMemory) (x : ℕ) → FitsDesign D.signals D.memories v rs → is_memory (design_view D) x ≡ true → write_takes D x ≡ count (memory_in rs (x - length D.signals)).words.shape + 1
takes_words D v rs x fits is =
    let d : Design = design_view D in
    let from : length D.signals ≤ x = from_memories d x is in
    let no_signal : nat_lt x (length D.signals) ≡ false = grind (arith, nat_tests, from) in
    let fit : FitsWords (get_or D.memories (x - length D.signals) no_memory) (length D.signals + (x - length D.signals)) (memory_in rs (x - length D.signals)).words = fits.each (x - length D.signals) (among_memories d x is) in
    ap (λ t. if t then 1 else count (shape_of (memory_at d x) x) + 1) no_signal
    ∙ ap (λ y. count (shape_of y x) + 1) (in_memories d x is)
    ∙ ap (λ y. count y + 1) (sym fit.shape)
