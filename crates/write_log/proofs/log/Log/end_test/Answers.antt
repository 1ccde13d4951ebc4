use Rattle.std.proofs.Common.{◌≡◌, ◌+◌, ◌≤◌, add-one, vec_capacity, ◌∷◌, [], ℕ, true, List, length, drop, reverse, vec_len, arith, ap, sym, subst, ◌∙◌, ◌≢◌}
use Rattle.std.specs.List.{All}
use Rattle.std.proofs.lemmas.Bool.{eqb-false, eqb-true}
use Rattle.std.proofs.lemmas.List.{length-reverse, nil_from_length, reverse-append}
use Rattle.value_store.specs.Signals.{read_at}
use Rattle.write_log.specs.Entries.{Fits, IsCommon}
use Rattle.write_log.specs.Logs.{LogState, Readings, around, innermost, is_second, left_of, reads_of, tests_of}
use Rattle.write_log.specs.Rooms.{AreTests}
use Rattle.write_log.specs.declared.entry.Test.{Test}
use Rattle.write_log.proofs.Tests.{end_around, end_common, inside_some, room_back, tests_within, used_after, used_cleared}
use Rattle.write_log.proofs.log.Log.end_test.Goals as goal

pub put_all_back-requires-clause-left : goal.put_all_back-requires-clause-left
put_all_back-requires-clause-left c =
    let t : Test = c.in-Some.ended in
    let ts : List Test = reverse c.pop.new.self.items in
    let d = c.self.inside.done.items in
    let u = c.self.inside.undone.items in
    let is : reverse c.self.inside.tests.items ≡ t ∷ ts = ap reverse c.in-Some.ensures.items ∙ reverse-append c.pop.new.self.items (t ∷ []) in
    let known : AreTests (t ∷ ts) (length d) (length u) = subst (λ zs. AreTests zs (length d) (length u)) is c.self.invariant.around in
    known.1

pub put_all_back-requires-clause-room : goal.put_all_back-requires-clause-room
put_all_back-requires-clause-room c =
    room_back (length c.self.inside.undone.items) (length c.self.inside.done.items) c.in-Some.ended.undone c.self.inside.room (vec_capacity c.self.inside.done) (omega (arith, c.self.invariant.used)) c.self.invariant.done_room

pub put_all_back-requires-clause-fit : goal.put_all_back-requires-clause-fit
put_all_back-requires-clause-fit c = subst (λ (l : LogState). All (Fits c.args.signals.now) l.undone) (sym c.self.view_is) c.requires.fits.undone

pub put_all_back-requires-clause-fit_to : goal.put_all_back-requires-clause-fit_to
put_all_back-requires-clause-fit_to c = subst (λ (l : LogState). All (Fits c.args.signals.now) l.done) (sym c.self.view_is) c.requires.fits.done

pub invariant_of-self : goal.invariant_of-self
invariant_of-self c =
    let t : Test = c.in-Some.ended in
    let ts : List Test = reverse c.pop.new.self.items in
    let d = c.self.inside.done.items in
    let u = c.self.inside.undone.items in
    let is : reverse c.self.inside.tests.items ≡ t ∷ ts = ap reverse c.in-Some.ensures.items ∙ reverse-append c.pop.new.self.items (t ∷ []) in
    let known : AreTests (t ∷ ts) (length d) (length u) = subst (λ zs. AreTests zs (length d) (length u)) is c.self.invariant.around in
    let empty : vec_len c.pop.new.self ≡ 0 = eqb-true (vec_len c.pop.new.self) 0 (sym c.is_empty.ensures ∙ c.if-is_empty.true) in
    let none : ts ≡ [] = nil_from_length ts (omega (arith, length-reverse c.pop.new.self.items, empty)) in
    let first : AreTests [] t.done t.undone = subst (λ zs. AreTests zs t.done t.undone) none known.3 in
    record {
      done_room = omega arith;
      undone_room = omega arith;
      test_room = omega arith;
      used = omega (arith, ap length c.clear-then-is_empty.ensures.items);
      around = subst (λ zs. AreTests zs (length c.clear-then-is_empty.new.self.items) (length c.put_all_back.new.from.items)) (sym none) (ap length c.clear-then-is_empty.ensures.items, c.put_all_back.ensures.less ∙ first.1);
      unseen = c.clear.ensures.items;
    }

pub invariant_of-self-else-is_empty : goal.invariant_of-self-else-is_empty
invariant_of-self-else-is_empty c =
    let t : Test = c.in-Some.ended in
    let ts : List Test = reverse c.pop.new.self.items in
    let d = c.self.inside.done.items in
    let u = c.self.inside.undone.items in
    let is : reverse c.self.inside.tests.items ≡ t ∷ ts = ap reverse c.in-Some.ensures.items ∙ reverse-append c.pop.new.self.items (t ∷ []) in
    let known : AreTests (t ∷ ts) (length d) (length u) = subst (λ zs. AreTests zs (length d) (length u)) is c.self.invariant.around in
    let left : vec_len c.pop.new.self ≢ 0 = eqb-false (vec_len c.pop.new.self) 0 (sym c.is_empty.ensures ∙ c.if-is_empty.false) in
    let some : 1 ≤ length ts = omega (arith, length-reverse c.pop.new.self.items, left) in
    let less : length c.put_all_back.new.from.items ≡ t.undone = c.put_all_back.ensures.less in
    let below : t.done ≤ length d = known.0 in
    let undone : t.undone ≤ length u = known.1 in
    record {
      done_room = omega arith;
      undone_room = omega arith;
      test_room = omega arith;
      used = omega arith;
      around = subst (λ n. AreTests ts (length c.put_all_back.new.to.items) n) (sym less) (tests_within ts t.done (length c.put_all_back.new.to.items) t.undone (inside_some ts some) (omega arith) known.3);
      unseen = c.clear.ensures.items;
    }

pub returns-then-is_empty-clause-common : goal.returns-then-is_empty-clause-common
returns-then-is_empty-clause-common c =
    let f : Readings = reads_of c.args.signals.now in
    let t : Test = c.in-Some.ended in
    let ts : List Test = reverse c.pop.new.self.items in
    let d = c.self.inside.done.items in
    let u = c.self.inside.undone.items in
    let is : reverse c.self.inside.tests.items ≡ t ∷ ts = ap reverse c.in-Some.ensures.items ∙ reverse-append c.pop.new.self.items (t ∷ []) in
    let known : AreTests (t ∷ ts) (length d) (length u) = subst (λ zs. AreTests zs (length d) (length u)) is c.self.invariant.around in
    let middle : c.len-middle.result ≡ length d = omega arith in
    let second : t.second ≡ true = ap is_second (sym is ∙ ap (λ (l : LogState). l.tests) c.self.view_is) ∙ c.requires.second in
    let kept : (x : ℕ) → IsCommon (innermost (tests_of (t ∷ ts) d u f)).test (left_of (tests_of (t ∷ ts) d u f) x) (read_at c.args.signals.now x) (read_at c.join_all-2.new.signals x) = end_common t ts d u c.put_all_back.new.from.items c.put_all_back.new.to.items c.as_slice-entries.result.now c.args.signals.now c.put_all_back.new.signals c.join_all.new.signals c.join_all-2.new.signals c.len-middle.result c.self.inside.seen.items c.join_all.new.seen.items c.put_all_back.ensures.moved c.put_all_back.ensures.less known c.as_slice-entries.ensures.value middle c.self.invariant.unseen second c.join_all.ensures.joined c.join_all.ensures.seen c.join_all-2.ensures.joined in
    let inside : (x : ℕ) → IsCommon (innermost (tests_of (reverse c.self.inside.tests.items) d u f)).test (left_of (tests_of (reverse c.self.inside.tests.items) d u f) x) (read_at c.args.signals.now x) (read_at c.join_all-2.new.signals x) = subst (λ zs. (x : ℕ) → IsCommon (innermost (tests_of zs d u f)).test (left_of (tests_of zs d u f) x) (read_at c.args.signals.now x) (read_at c.join_all-2.new.signals x)) (sym is) kept in
    subst (λ (l : LogState). (x : ℕ) → IsCommon (innermost (around l f)).test (left_of (around l f) x) (read_at c.args.signals.now x) (read_at c.join_all-2.new.signals x)) c.self.view_is inside

pub returns-else-is_empty-clause-common : goal.returns-else-is_empty-clause-common
returns-else-is_empty-clause-common c =
    let f : Readings = reads_of c.args.signals.now in
    let t : Test = c.in-Some.ended in
    let ts : List Test = reverse c.pop.new.self.items in
    let d = c.self.inside.done.items in
    let u = c.self.inside.undone.items in
    let is : reverse c.self.inside.tests.items ≡ t ∷ ts = ap reverse c.in-Some.ensures.items ∙ reverse-append c.pop.new.self.items (t ∷ []) in
    let known : AreTests (t ∷ ts) (length d) (length u) = subst (λ zs. AreTests zs (length d) (length u)) is c.self.invariant.around in
    let middle : c.len-middle.result ≡ length d = omega arith in
    let second : t.second ≡ true = ap is_second (sym is ∙ ap (λ (l : LogState). l.tests) c.self.view_is) ∙ c.requires.second in
    let kept : (x : ℕ) → IsCommon (innermost (tests_of (t ∷ ts) d u f)).test (left_of (tests_of (t ∷ ts) d u f) x) (read_at c.args.signals.now x) (read_at c.join_all-2.new.signals x) = end_common t ts d u c.put_all_back.new.from.items c.put_all_back.new.to.items c.as_slice-entries.result.now c.args.signals.now c.put_all_back.new.signals c.join_all.new.signals c.join_all-2.new.signals c.len-middle.result c.self.inside.seen.items c.join_all.new.seen.items c.put_all_back.ensures.moved c.put_all_back.ensures.less known c.as_slice-entries.ensures.value middle c.self.invariant.unseen second c.join_all.ensures.joined c.join_all.ensures.seen c.join_all-2.ensures.joined in
    let inside : (x : ℕ) → IsCommon (innermost (tests_of (reverse c.self.inside.tests.items) d u f)).test (left_of (tests_of (reverse c.self.inside.tests.items) d u f) x) (read_at c.args.signals.now x) (read_at c.join_all-2.new.signals x) = subst (λ zs. (x : ℕ) → IsCommon (innermost (tests_of zs d u f)).test (left_of (tests_of zs d u f) x) (read_at c.args.signals.now x) (read_at c.join_all-2.new.signals x)) (sym is) kept in
    subst (λ (l : LogState). (x : ℕ) → IsCommon (innermost (around l f)).test (left_of (around l f) x) (read_at c.args.signals.now x) (read_at c.join_all-2.new.signals x)) c.self.view_is inside

pub returns-else-is_empty-clause-around : goal.returns-else-is_empty-clause-around
returns-else-is_empty-clause-around c =
    let f : Readings = reads_of c.args.signals.now in
    let t : Test = c.in-Some.ended in
    let ts : List Test = reverse c.pop.new.self.items in
    let d = c.self.inside.done.items in
    let u = c.self.inside.undone.items in
    let is : reverse c.self.inside.tests.items ≡ t ∷ ts = ap reverse c.in-Some.ensures.items ∙ reverse-append c.pop.new.self.items (t ∷ []) in
    let known : AreTests (t ∷ ts) (length d) (length u) = subst (λ zs. AreTests zs (length d) (length u)) is c.self.invariant.around in
    let middle : c.len-middle.result ≡ length d = omega arith in
    let second : t.second ≡ true = ap is_second (sym is ∙ ap (λ (l : LogState). l.tests) c.self.view_is) ∙ c.requires.second in
    end_around t ts d u c.put_all_back.new.from.items c.put_all_back.new.to.items c.as_slice-entries.result.now c.args.signals.now c.put_all_back.new.signals c.join_all.new.signals c.join_all-2.new.signals c.len-middle.result c.self.inside.seen.items c.join_all.new.seen.items c.put_all_back.ensures.moved c.put_all_back.ensures.less known c.as_slice-entries.ensures.value middle c.self.invariant.unseen second c.join_all.ensures.joined c.join_all.ensures.seen c.join_all-2.ensures.joined
    ∙ sym (ap (λ zs. drop 1 (tests_of zs d u f)) is)
    ∙ ap (λ (l : LogState). drop 1 (around l f)) c.self.view_is

pub returns-then-is_empty-clause-room : goal.returns-then-is_empty-clause-room
returns-then-is_empty-clause-room c = ap (λ (l : LogState). l.room) c.self.view_is

pub returns-then-is_empty-clause-depth : goal.returns-then-is_empty-clause-depth
returns-then-is_empty-clause-depth c = ap (λ (l : LogState). l.depth) c.self.view_is

pub returns-then-is_empty-clause-tests : goal.returns-then-is_empty-clause-tests
returns-then-is_empty-clause-tests c =
    let t : Test = c.in-Some.ended in
    let ts : List Test = reverse c.pop.new.self.items in
    let is : reverse c.self.inside.tests.items ≡ t ∷ ts = ap reverse c.in-Some.ensures.items ∙ reverse-append c.pop.new.self.items (t ∷ []) in
    add-one (length ts) ∙ (sym (ap length is) ∙ ap (λ (l : LogState). length l.tests) c.self.view_is)

pub returns-else-is_empty-clause-room : goal.returns-else-is_empty-clause-room
returns-else-is_empty-clause-room c = ap (λ (l : LogState). l.room) c.self.view_is

pub returns-else-is_empty-clause-depth : goal.returns-else-is_empty-clause-depth
returns-else-is_empty-clause-depth c = ap (λ (l : LogState). l.depth) c.self.view_is

pub returns-else-is_empty-clause-tests : goal.returns-else-is_empty-clause-tests
returns-else-is_empty-clause-tests c =
    let t : Test = c.in-Some.ended in
    let ts : List Test = reverse c.pop.new.self.items in
    let is : reverse c.self.inside.tests.items ≡ t ∷ ts = ap reverse c.in-Some.ensures.items ∙ reverse-append c.pop.new.self.items (t ∷ []) in
    add-one (length ts) ∙ (sym (ap length is) ∙ ap (λ (l : LogState). length l.tests) c.self.view_is)

pub returns-then-is_empty-clause-used : goal.returns-then-is_empty-clause-used
returns-then-is_empty-clause-used c =
    let none = c.clear-then-is_empty.new.self.items in
    let back = c.put_all_back in
    subst (λ (l : LogState). length none + length back.new.from.items ≤ length l.done + length l.undone) c.self.view_is
    (used_cleared (length c.self.inside.done.items) (length c.self.inside.undone.items) (length none) (length back.new.from.items) (length back.new.to.items) c.in-Some.ended.undone (ap length c.clear-then-is_empty.ensures.items) back.ensures.less back.ensures.more)

pub returns-else-is_empty-clause-used : goal.returns-else-is_empty-clause-used
returns-else-is_empty-clause-used c =
    let back = c.put_all_back in
    subst (λ (l : LogState). length back.new.to.items + length back.new.from.items ≤ length l.done + length l.undone) c.self.view_is
    (used_after (length c.self.inside.done.items) (length c.self.inside.undone.items) (length back.new.from.items) (length back.new.to.items) c.in-Some.ended.undone back.ensures.less back.ensures.more)

pub returns-then-is_empty-clause-around : goal.returns-then-is_empty-clause-around
returns-then-is_empty-clause-around c =
    let f : Readings = reads_of c.args.signals.now in
    let t : Test = c.in-Some.ended in
    let ts : List Test = reverse c.pop.new.self.items in
    let d = c.self.inside.done.items in
    let u = c.self.inside.undone.items in
    let is : reverse c.self.inside.tests.items ≡ t ∷ ts = ap reverse c.in-Some.ensures.items ∙ reverse-append c.pop.new.self.items (t ∷ []) in
    let empty : vec_len c.pop.new.self ≡ 0 = eqb-true (vec_len c.pop.new.self) 0 (sym c.is_empty.ensures ∙ c.if-is_empty.true) in
    let none : ts ≡ [] = nil_from_length ts (omega (arith, length-reverse c.pop.new.self.items, empty)) in
    ap (λ zs. tests_of zs c.clear-then-is_empty.new.self.items c.put_all_back.new.from.items (reads_of c.join_all-2.new.signals)) none
    ∙ sym (ap (λ zs. drop 1 (tests_of zs d u f)) (is ∙ ap (λ zs. t ∷ zs) none))
    ∙ ap (λ (l : LogState). drop 1 (around l f)) c.self.view_is
