use Rattle.std.proofs.Common.{◌≡◌, ◌+◌, ◌≤◌, ◌-◌, add-one, vec_capacity, ◌∷◌, [], true, List, length, drop, reverse, vec_len, arith, ap, sym, subst, ◌∙◌, ◌≢◌}
use Rattle.std.specs.List.{All}
use Rattle.std.proofs.lemmas.Bool.{eqb-false, eqb-true}
use Rattle.std.proofs.lemmas.List.{length-reverse, nil_from_length, reverse-append}
use Rattle.std.proofs.lemmas.List.Elements.{All-drop, All-nil, All-take}
use Rattle.write_log.specs.Logs.{is_second}
use Rattle.write_log.specs.Rooms.{AreTests}
use Rattle.write_log.specs.declared.entry.Test.{Test}
use Rattle.write_log.proofs.Tests.{inside_some, room_back, tests_within, used_after, used_cleared}
use Rattle.word_log.specs.declared.entry.OverwrittenWord.{OverwrittenWord}
use Rattle.word_log.specs.declared.memory.StoredMemory.{StoredMemory}
use Rattle.word_log.specs.Entries.{Fits, IsCommon}
use Rattle.word_log.specs.Logs.{WordLogState, around, left_of, tests_of}
use Rattle.word_log.specs.Memories.{SameShapes}
use Rattle.word_log.specs.Seen.{sees_memory, sees_word}
use Rattle.word_log.proofs.Shapes.{all_under, shapes_both, sizes_same}
use Rattle.word_log.proofs.Tests.{end_around, end_common}
use Rattle.word_log.proofs.log.WordLog.end_test.Goals as goal

pub put_all_back-requires-clause-left : goal.put_all_back-requires-clause-left
put_all_back-requires-clause-left c =
    let t : Test = c.in-Some.ended in
    let ts : List Test = reverse c.pop.new.self.items in
    let d = c.self.inside.done.items in
    let u = c.self.inside.undone.items in
    let is : reverse c.self.inside.tests.items ≡ t ∷ ts = ap reverse c.in-Some.ensures.items ∙ reverse-append c.pop.new.self.items (t ∷ []) in
    let known : AreTests (t ∷ ts) (length d) (length u) = subst (λ zs. AreTests zs (length d) (length u)) is c.self.invariant.around in
    known.1

pub put_all_back-requires-clause-room : goal.put_all_back-requires-clause-room
put_all_back-requires-clause-room c =
    room_back (length c.self.inside.undone.items) (length c.self.inside.done.items) c.in-Some.ended.undone c.self.inside.room (vec_capacity c.self.inside.done) (omega (arith, c.self.invariant.used)) c.self.invariant.done_room

pub put_all_back-requires-clause-fit : goal.put_all_back-requires-clause-fit
put_all_back-requires-clause-fit c = subst (λ (l : WordLogState). All (Fits c.args.memories.now) l.undone) (sym c.self.view_is) c.requires.fits.undone

pub put_all_back-requires-clause-fit_to : goal.put_all_back-requires-clause-fit_to
put_all_back-requires-clause-fit_to c = subst (λ (l : WordLogState). All (Fits c.args.memories.now) l.done) (sym c.self.view_is) c.requires.fits.done

pub join_all-requires-clause-fit : goal.join_all-requires-clause-fit
join_all-requires-clause-fit c =
    let v3 : List StoredMemory = c.put_all_back.new.memories in
    let es : List OverwrittenWord = c.as_slice-entries.result.now in
    All-take (Fits v3) (length es - c.len-middle.result) (drop c.len-middle.result es) (All-drop (Fits v3) c.len-middle.result es (subst (All (Fits v3)) (sym c.as_slice-entries.ensures.value) c.put_all_back.ensures.fit_to))

pub join_all-requires-clause-sizes : goal.join_all-requires-clause-sizes
join_all-requires-clause-sizes c =
    ap (λ (l : WordLogState). l.sizes) c.self.view_is ∙ c.requires.fits.sizes ∙ sym (sizes_same c.args.memories.now c.put_all_back.new.memories c.put_all_back.ensures.moved.shapes)

pub join_all-requires-2-clause-fit : goal.join_all-requires-2-clause-fit
join_all-requires-2-clause-fit c =
    let v3 : List StoredMemory = c.put_all_back.new.memories in
    let v4 : List StoredMemory = c.join_all.new.memories in
    let es : List OverwrittenWord = c.as_slice-entries.result.now in
    let fit : All (Fits v4) es = all_under v3 v4 es c.join_all.ensures.shapes (subst (All (Fits v3)) (sym c.as_slice-entries.ensures.value) c.put_all_back.ensures.fit_to) in
    All-take (Fits v4) (c.len-middle.result - c.in-Some.ended.done) (drop c.in-Some.ended.done es) (All-drop (Fits v4) c.in-Some.ended.done es fit)

pub join_all-requires-2-clause-sizes : goal.join_all-requires-2-clause-sizes
join_all-requires-2-clause-sizes c =
    c.join_all.ensures.sizes ∙ ap (λ (l : WordLogState). l.sizes) c.self.view_is ∙ c.requires.fits.sizes
    ∙ sym (sizes_same c.put_all_back.new.memories c.join_all.new.memories c.join_all.ensures.shapes ∙ sizes_same c.args.memories.now c.put_all_back.new.memories c.put_all_back.ensures.moved.shapes)

pub invariant_of-self : goal.invariant_of-self
invariant_of-self c =
    let t : Test = c.in-Some.ended in
    let ts : List Test = reverse c.pop.new.self.items in
    let d = c.self.inside.done.items in
    let u = c.self.inside.undone.items in
    let is : reverse c.self.inside.tests.items ≡ t ∷ ts = ap reverse c.in-Some.ensures.items ∙ reverse-append c.pop.new.self.items (t ∷ []) in
    let known : AreTests (t ∷ ts) (length d) (length u) = subst (λ zs. AreTests zs (length d) (length u)) is c.self.invariant.around in
    let empty : vec_len c.pop.new.self ≡ 0 = eqb-true (vec_len c.pop.new.self) 0 (sym c.is_empty.ensures ∙ c.if-is_empty.true) in
    let none : ts ≡ [] = nil_from_length ts (omega (arith, length-reverse c.pop.new.self.items, empty)) in
    let first : AreTests [] t.done t.undone = subst (λ zs. AreTests zs t.done t.undone) none known.3 in
    record {
      done_room = omega arith;
      undone_room = omega arith;
      test_room = omega arith;
      used = omega (arith, ap length c.clear-then-is_empty.ensures.items);
      around = subst (λ zs. AreTests zs (length c.clear-then-is_empty.new.self.items) (length c.put_all_back.new.from.items)) (sym none) (ap length c.clear-then-is_empty.ensures.items, c.put_all_back.ensures.less ∙ first.1);
      no_word = c.clear.ensures.words;
      no_memory = c.clear.ensures.memories;
    }

pub invariant_of-self-else-is_empty : goal.invariant_of-self-else-is_empty
invariant_of-self-else-is_empty c =
    let t : Test = c.in-Some.ended in
    let ts : List Test = reverse c.pop.new.self.items in
    let d = c.self.inside.done.items in
    let u = c.self.inside.undone.items in
    let is : reverse c.self.inside.tests.items ≡ t ∷ ts = ap reverse c.in-Some.ensures.items ∙ reverse-append c.pop.new.self.items (t ∷ []) in
    let known : AreTests (t ∷ ts) (length d) (length u) = subst (λ zs. AreTests zs (length d) (length u)) is c.self.invariant.around in
    let left : vec_len c.pop.new.self ≢ 0 = eqb-false (vec_len c.pop.new.self) 0 (sym c.is_empty.ensures ∙ c.if-is_empty.false) in
    let some : 1 ≤ length ts = omega (arith, length-reverse c.pop.new.self.items, left) in
    let less : length c.put_all_back.new.from.items ≡ t.undone = c.put_all_back.ensures.less in
    let below : t.done ≤ length d = known.0 in
    let undone : t.undone ≤ length u = known.1 in
    record {
      done_room = omega arith;
      undone_room = omega arith;
      test_room = omega arith;
      used = omega arith;
      around = subst (λ n. AreTests ts (length c.put_all_back.new.to.items) n) (sym less) (tests_within ts t.done (length c.put_all_back.new.to.items) t.undone (inside_some ts some) (omega arith) known.3);
      no_word = c.clear.ensures.words;
      no_memory = c.clear.ensures.memories;
    }

pub returns-then-is_empty-clause-common : goal.returns-then-is_empty-clause-common
returns-then-is_empty-clause-common c =
    let f : List StoredMemory = c.args.memories.now in
    let t : Test = c.in-Some.ended in
    let ts : List Test = reverse c.pop.new.self.items in
    let d = c.self.inside.done.items in
    let u = c.self.inside.undone.items in
    let is : reverse c.self.inside.tests.items ≡ t ∷ ts = ap reverse c.in-Some.ensures.items ∙ reverse-append c.pop.new.self.items (t ∷ []) in
    let known : AreTests (t ∷ ts) (length d) (length u) = subst (λ zs. AreTests zs (length d) (length u)) is c.self.invariant.around in
    let middle : c.len-middle.result ≡ length d = omega arith in
    let second : t.second ≡ true = ap is_second (sym is ∙ ap (λ (l : WordLogState). l.tests) c.self.view_is) ∙ c.requires.second in
    let fit_d : All (Fits f) d = subst (λ (l : WordLogState). All (Fits f) l.done) (sym c.self.view_is) c.requires.fits.done in
    let fit_u : All (Fits f) u = subst (λ (l : WordLogState). All (Fits f) l.undone) (sym c.self.view_is) c.requires.fits.undone in
    let kept : IsCommon (left_of (tests_of (t ∷ ts) d u f)) f c.join_all-2.new.memories = end_common t ts d u c.put_all_back.new.from.items c.put_all_back.new.to.items c.as_slice-entries.result.now f c.put_all_back.new.memories c.join_all.new.memories c.join_all-2.new.memories c.len-middle.result (sees_word c.self.inside.seen) (sees_word c.join_all.new.seen) (sees_memory c.self.inside.seen) (sees_memory c.join_all.new.seen) c.put_all_back.ensures.moved c.put_all_back.ensures.less known c.as_slice-entries.ensures.value middle c.self.invariant.no_word c.self.invariant.no_memory second fit_d fit_u c.put_all_back.ensures.fit_to c.join_all.ensures.shapes c.join_all-2.ensures.shapes c.join_all.ensures.words c.join_all.ensures.flags c.join_all.ensures.seen_words c.join_all.ensures.seen_memories c.join_all-2.ensures.words c.join_all-2.ensures.flags in
    let inside : IsCommon (left_of (tests_of (reverse c.self.inside.tests.items) d u f)) f c.join_all-2.new.memories = subst (λ zs. IsCommon (left_of (tests_of zs d u f)) f c.join_all-2.new.memories) (sym is) kept in
    subst (λ (l : WordLogState). IsCommon (left_of (around l f)) f c.join_all-2.new.memories) c.self.view_is inside

pub returns-else-is_empty-clause-common : goal.returns-else-is_empty-clause-common
returns-else-is_empty-clause-common c =
    let f : List StoredMemory = c.args.memories.now in
    let t : Test = c.in-Some.ended in
    let ts : List Test = reverse c.pop.new.self.items in
    let d = c.self.inside.done.items in
    let u = c.self.inside.undone.items in
    let is : reverse c.self.inside.tests.items ≡ t ∷ ts = ap reverse c.in-Some.ensures.items ∙ reverse-append c.pop.new.self.items (t ∷ []) in
    let known : AreTests (t ∷ ts) (length d) (length u) = subst (λ zs. AreTests zs (length d) (length u)) is c.self.invariant.around in
    let middle : c.len-middle.result ≡ length d = omega arith in
    let second : t.second ≡ true = ap is_second (sym is ∙ ap (λ (l : WordLogState). l.tests) c.self.view_is) ∙ c.requires.second in
    let fit_d : All (Fits f) d = subst (λ (l : WordLogState). All (Fits f) l.done) (sym c.self.view_is) c.requires.fits.done in
    let fit_u : All (Fits f) u = subst (λ (l : WordLogState). All (Fits f) l.undone) (sym c.self.view_is) c.requires.fits.undone in
    let kept : IsCommon (left_of (tests_of (t ∷ ts) d u f)) f c.join_all-2.new.memories = end_common t ts d u c.put_all_back.new.from.items c.put_all_back.new.to.items c.as_slice-entries.result.now f c.put_all_back.new.memories c.join_all.new.memories c.join_all-2.new.memories c.len-middle.result (sees_word c.self.inside.seen) (sees_word c.join_all.new.seen) (sees_memory c.self.inside.seen) (sees_memory c.join_all.new.seen) c.put_all_back.ensures.moved c.put_all_back.ensures.less known c.as_slice-entries.ensures.value middle c.self.invariant.no_word c.self.invariant.no_memory second fit_d fit_u c.put_all_back.ensures.fit_to c.join_all.ensures.shapes c.join_all-2.ensures.shapes c.join_all.ensures.words c.join_all.ensures.flags c.join_all.ensures.seen_words c.join_all.ensures.seen_memories c.join_all-2.ensures.words c.join_all-2.ensures.flags in
    let inside : IsCommon (left_of (tests_of (reverse c.self.inside.tests.items) d u f)) f c.join_all-2.new.memories = subst (λ zs. IsCommon (left_of (tests_of zs d u f)) f c.join_all-2.new.memories) (sym is) kept in
    subst (λ (l : WordLogState). IsCommon (left_of (around l f)) f c.join_all-2.new.memories) c.self.view_is inside

pub returns-else-is_empty-clause-around : goal.returns-else-is_empty-clause-around
returns-else-is_empty-clause-around c =
    let f : List StoredMemory = c.args.memories.now in
    let t : Test = c.in-Some.ended in
    let ts : List Test = reverse c.pop.new.self.items in
    let d = c.self.inside.done.items in
    let u = c.self.inside.undone.items in
    let is : reverse c.self.inside.tests.items ≡ t ∷ ts = ap reverse c.in-Some.ensures.items ∙ reverse-append c.pop.new.self.items (t ∷ []) in
    let known : AreTests (t ∷ ts) (length d) (length u) = subst (λ zs. AreTests zs (length d) (length u)) is c.self.invariant.around in
    let middle : c.len-middle.result ≡ length d = omega arith in
    let second : t.second ≡ true = ap is_second (sym is ∙ ap (λ (l : WordLogState). l.tests) c.self.view_is) ∙ c.requires.second in
    let fit_d : All (Fits f) d = subst (λ (l : WordLogState). All (Fits f) l.done) (sym c.self.view_is) c.requires.fits.done in
    let fit_u : All (Fits f) u = subst (λ (l : WordLogState). All (Fits f) l.undone) (sym c.self.view_is) c.requires.fits.undone in
    end_around t ts d u c.put_all_back.new.from.items c.put_all_back.new.to.items c.as_slice-entries.result.now f c.put_all_back.new.memories c.join_all.new.memories c.join_all-2.new.memories c.len-middle.result (sees_word c.self.inside.seen) (sees_word c.join_all.new.seen) (sees_memory c.self.inside.seen) (sees_memory c.join_all.new.seen) c.put_all_back.ensures.moved c.put_all_back.ensures.less known c.as_slice-entries.ensures.value middle c.self.invariant.no_word c.self.invariant.no_memory second fit_d fit_u c.put_all_back.ensures.fit_to c.join_all.ensures.shapes c.join_all-2.ensures.shapes c.join_all.ensures.words c.join_all.ensures.flags c.join_all.ensures.seen_words c.join_all.ensures.seen_memories c.join_all-2.ensures.words c.join_all-2.ensures.flags
    ∙ sym (ap (λ zs. drop 1 (tests_of zs d u f)) is)
    ∙ ap (λ (l : WordLogState). drop 1 (around l f)) c.self.view_is

pub returns-then-is_empty-clause-fits : goal.returns-then-is_empty-clause-fits
returns-then-is_empty-clause-fits c =
    let v3 : List StoredMemory = c.put_all_back.new.memories in
    let v5 : List StoredMemory = c.join_all-2.new.memories in
    let late : SameShapes v3 v5 = shapes_both v3 c.join_all.new.memories v5 c.join_all.ensures.shapes c.join_all-2.ensures.shapes in
    let whole : SameShapes c.args.memories.now v5 = shapes_both c.args.memories.now v3 v5 c.put_all_back.ensures.moved.shapes late in
    record {
      sizes = c.clear.ensures.sizes ∙ c.join_all-2.ensures.sizes ∙ c.join_all.ensures.sizes ∙ ap (λ (l : WordLogState). l.sizes) c.self.view_is ∙ c.requires.fits.sizes ∙ sym (sizes_same c.args.memories.now v5 whole);
      done = subst (All (Fits v5)) (sym c.clear-then-is_empty.ensures.items) (All-nil (Fits v5));
      undone = all_under v3 v5 c.put_all_back.new.from.items late c.put_all_back.ensures.fit;
    }

pub returns-else-is_empty-clause-fits : goal.returns-else-is_empty-clause-fits
returns-else-is_empty-clause-fits c =
    let v3 : List StoredMemory = c.put_all_back.new.memories in
    let v5 : List StoredMemory = c.join_all-2.new.memories in
    let late : SameShapes v3 v5 = shapes_both v3 c.join_all.new.memories v5 c.join_all.ensures.shapes c.join_all-2.ensures.shapes in
    let whole : SameShapes c.args.memories.now v5 = shapes_both c.args.memories.now v3 v5 c.put_all_back.ensures.moved.shapes late in
    record {
      sizes = c.clear.ensures.sizes ∙ c.join_all-2.ensures.sizes ∙ c.join_all.ensures.sizes ∙ ap (λ (l : WordLogState). l.sizes) c.self.view_is ∙ c.requires.fits.sizes ∙ sym (sizes_same c.args.memories.now v5 whole);
      done = all_under v3 v5 c.put_all_back.new.to.items late c.put_all_back.ensures.fit_to;
      undone = all_under v3 v5 c.put_all_back.new.from.items late c.put_all_back.ensures.fit;
    }

pub returns-then-is_empty-clause-shapes : goal.returns-then-is_empty-clause-shapes
returns-then-is_empty-clause-shapes c =
    let v3 : List StoredMemory = c.put_all_back.new.memories in
    let v5 : List StoredMemory = c.join_all-2.new.memories in
    let late : SameShapes v3 v5 = shapes_both v3 c.join_all.new.memories v5 c.join_all.ensures.shapes c.join_all-2.ensures.shapes in
    shapes_both c.args.memories.now v3 v5 c.put_all_back.ensures.moved.shapes late

pub returns-then-is_empty-clause-room : goal.returns-then-is_empty-clause-room
returns-then-is_empty-clause-room c = ap (λ (l : WordLogState). l.room) c.self.view_is

pub returns-then-is_empty-clause-depth : goal.returns-then-is_empty-clause-depth
returns-then-is_empty-clause-depth c = ap (λ (l : WordLogState). l.depth) c.self.view_is

pub returns-then-is_empty-clause-tests : goal.returns-then-is_empty-clause-tests
returns-then-is_empty-clause-tests c =
    let t : Test = c.in-Some.ended in
    let ts : List Test = reverse c.pop.new.self.items in
    let is : reverse c.self.inside.tests.items ≡ t ∷ ts = ap reverse c.in-Some.ensures.items ∙ reverse-append c.pop.new.self.items (t ∷ []) in
    add-one (length ts) ∙ (sym (ap length is) ∙ ap (λ (l : WordLogState). length l.tests) c.self.view_is)

pub returns-else-is_empty-clause-shapes : goal.returns-else-is_empty-clause-shapes
returns-else-is_empty-clause-shapes c =
    let v3 : List StoredMemory = c.put_all_back.new.memories in
    let v5 : List StoredMemory = c.join_all-2.new.memories in
    let late : SameShapes v3 v5 = shapes_both v3 c.join_all.new.memories v5 c.join_all.ensures.shapes c.join_all-2.ensures.shapes in
    shapes_both c.args.memories.now v3 v5 c.put_all_back.ensures.moved.shapes late

pub returns-else-is_empty-clause-room : goal.returns-else-is_empty-clause-room
returns-else-is_empty-clause-room c = ap (λ (l : WordLogState). l.room) c.self.view_is

pub returns-else-is_empty-clause-depth : goal.returns-else-is_empty-clause-depth
returns-else-is_empty-clause-depth c = ap (λ (l : WordLogState). l.depth) c.self.view_is

pub returns-else-is_empty-clause-tests : goal.returns-else-is_empty-clause-tests
returns-else-is_empty-clause-tests c =
    let t : Test = c.in-Some.ended in
    let ts : List Test = reverse c.pop.new.self.items in
    let is : reverse c.self.inside.tests.items ≡ t ∷ ts = ap reverse c.in-Some.ensures.items ∙ reverse-append c.pop.new.self.items (t ∷ []) in
    add-one (length ts) ∙ (sym (ap length is) ∙ ap (λ (l : WordLogState). length l.tests) c.self.view_is)

pub returns-then-is_empty-clause-used : goal.returns-then-is_empty-clause-used
returns-then-is_empty-clause-used c =
    let none = c.clear-then-is_empty.new.self.items in
    let back = c.put_all_back in
    subst (λ (l : WordLogState). length none + length back.new.from.items ≤ length l.done + length l.undone) c.self.view_is
    (used_cleared (length c.self.inside.done.items) (length c.self.inside.undone.items) (length none) (length back.new.from.items) (length back.new.to.items) c.in-Some.ended.undone (ap length c.clear-then-is_empty.ensures.items) back.ensures.less back.ensures.more)

pub returns-else-is_empty-clause-used : goal.returns-else-is_empty-clause-used
returns-else-is_empty-clause-used c =
    let back = c.put_all_back in
    subst (λ (l : WordLogState). length back.new.to.items + length back.new.from.items ≤ length l.done + length l.undone) c.self.view_is
    (used_after (length c.self.inside.done.items) (length c.self.inside.undone.items) (length back.new.from.items) (length back.new.to.items) c.in-Some.ended.undone back.ensures.less back.ensures.more)

pub returns-then-is_empty-clause-around : goal.returns-then-is_empty-clause-around
returns-then-is_empty-clause-around c =
    let f : List StoredMemory = c.args.memories.now in
    let t : Test = c.in-Some.ended in
    let ts : List Test = reverse c.pop.new.self.items in
    let d = c.self.inside.done.items in
    let u = c.self.inside.undone.items in
    let is : reverse c.self.inside.tests.items ≡ t ∷ ts = ap reverse c.in-Some.ensures.items ∙ reverse-append c.pop.new.self.items (t ∷ []) in
    let empty : vec_len c.pop.new.self ≡ 0 = eqb-true (vec_len c.pop.new.self) 0 (sym c.is_empty.ensures ∙ c.if-is_empty.true) in
    let none : ts ≡ [] = nil_from_length ts (omega (arith, length-reverse c.pop.new.self.items, empty)) in
    ap (λ zs. tests_of zs c.clear-then-is_empty.new.self.items c.put_all_back.new.from.items c.join_all-2.new.memories) none
    ∙ sym (ap (λ zs. drop 1 (tests_of zs d u f)) (is ∙ ap (λ zs. t ∷ zs) none))
    ∙ ap (λ (l : WordLogState). drop 1 (around l f)) c.self.view_is
