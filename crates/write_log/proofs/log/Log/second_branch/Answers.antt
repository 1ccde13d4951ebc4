use Rattle.std.proofs.Common.{◌≡◌, ◌+◌, ◌≤◌, ◌∷◌, [], true, false, List, length, drop, reverse, Some, ap, arith, sym, subst, vec_capacity, ◌∙◌}
use Rattle.std.specs.List.{All}
use Rattle.std.proofs.lemmas.Bool.{false≢true}
use Rattle.std.proofs.lemmas.List.{reverse-append}
use Rattle.write_log.specs.Entries.{Fits}
use Rattle.write_log.specs.Logs.{Around, LogState, Readings, around, innermost, is_first, reads_of, tests_of}
use Rattle.write_log.specs.Rooms.{AreTests}
use Rattle.write_log.specs.declared.entry.Test.{Test}
use Rattle.write_log.proofs.Tests.{room_back, still_begun, still_undone, tests_switched, used_back, was_first}
use Rattle.write_log.proofs.log.Log.second_branch.Goals as goal

pub put_all_back-requires-clause-left : goal.put_all_back-requires-clause-left
put_all_back-requires-clause-left c =
    let t : Test = c.in-Some.test in
    let ts : List Test = reverse c.pop.new.self.items in
    let d = c.self.inside.done.items in
    let u = c.self.inside.undone.items in
    let is : reverse c.self.inside.tests.items ≡ t ∷ ts = ap reverse c.in-Some.ensures.items ∙ reverse-append c.pop.new.self.items (t ∷ []) in
    let known : AreTests (t ∷ ts) (length d) (length u) = subst (λ zs. AreTests zs (length d) (length u)) is c.self.invariant.around in
    known.0

pub put_all_back-requires-clause-room : goal.put_all_back-requires-clause-room
put_all_back-requires-clause-room c =
    room_back (length c.self.inside.done.items) (length c.self.inside.undone.items) c.in-Some.test.done c.self.inside.room (vec_capacity c.self.inside.undone) c.self.invariant.used c.self.invariant.undone_room

pub put_all_back-requires-clause-fit : goal.put_all_back-requires-clause-fit
put_all_back-requires-clause-fit c = subst (λ (l : LogState). All (Fits c.args.signals.now) l.done) (sym c.self.view_is) c.requires.fits.done

pub put_all_back-requires-clause-fit_to : goal.put_all_back-requires-clause-fit_to
put_all_back-requires-clause-fit_to c = subst (λ (l : LogState). All (Fits c.args.signals.now) l.undone) (sym c.self.view_is) c.requires.fits.undone

pub invariant_of-self : goal.invariant_of-self
invariant_of-self c =
    let t : Test = c.in-Some.test in
    let ts : List Test = reverse c.pop.new.self.items in
    let d = c.self.inside.done.items in
    let u = c.self.inside.undone.items in
    let is : reverse c.self.inside.tests.items ≡ t ∷ ts = ap reverse c.in-Some.ensures.items ∙ reverse-append c.pop.new.self.items (t ∷ []) in
    let known : AreTests (t ∷ ts) (length d) (length u) = subst (λ zs. AreTests zs (length d) (length u)) is c.self.invariant.around in
    let back = c.put_all_back in
    let second : Test = record { done = t.done; undone = t.undone; second = true; test = t.test } in
    let after : reverse c.push_reserved.new.self.items ≡ second ∷ ts = ap reverse c.push_reserved.ensures.items ∙ reverse-append c.pop.new.self.items (second ∷ []) in
    let now : AreTests (second ∷ ts) (length back.new.from.items) (length back.new.to.items) = (
      still_begun t.done (length back.new.from.items) back.ensures.less,
      still_undone t.done t.undone (length d) (length u) (length back.new.to.items) known.0 known.1 back.ensures.more,
      λ first. absurd (false≢true (sym first)),
      known.3,
    ) in
    record {
      done_room = subst (λ n. c.self.inside.room ≤ n) (sym back.ensures.capacity_from) c.self.invariant.done_room;
      undone_room = subst (λ n. c.self.inside.room ≤ n) (sym back.ensures.capacity) c.self.invariant.undone_room;
      test_room = omega arith;
      used = subst (λ n. n ≤ c.self.inside.room) (sym (used_back (length d) (length u) t.done (length back.new.from.items) (length back.new.to.items) back.ensures.less back.ensures.more)) c.self.invariant.used;
      around = subst (λ zs. AreTests zs (length back.new.from.items) (length back.new.to.items)) (sym after) now;
      unseen = c.self.invariant.unseen;
    }

pub returns-clause-room : goal.returns-clause-room
returns-clause-room c = ap (λ (l : LogState). l.room) c.self.view_is

pub returns-clause-depth : goal.returns-clause-depth
returns-clause-depth c = ap (λ (l : LogState). l.depth) c.self.view_is

pub returns-clause-tests : goal.returns-clause-tests
returns-clause-tests c =
    let t : Test = c.in-Some.test in
    let ts : List Test = reverse c.pop.new.self.items in
    let d = c.self.inside.done.items in
    let u = c.self.inside.undone.items in
    let is : reverse c.self.inside.tests.items ≡ t ∷ ts = ap reverse c.in-Some.ensures.items ∙ reverse-append c.pop.new.self.items (t ∷ []) in
    let second : Test = record { done = t.done; undone = t.undone; second = true; test = t.test } in
    let after : reverse c.push_reserved.new.self.items ≡ second ∷ ts = ap reverse c.push_reserved.ensures.items ∙ reverse-append c.pop.new.self.items (second ∷ []) in
    ap length after ∙ (sym (ap length is) ∙ ap (λ (l : LogState). length l.tests) c.self.view_is)

pub returns-clause-used : goal.returns-clause-used
returns-clause-used c =
    let back = c.put_all_back in
    used_back (length c.self.inside.done.items) (length c.self.inside.undone.items) c.in-Some.test.done (length back.new.from.items) (length back.new.to.items) back.ensures.less back.ensures.more
    ∙ ap (λ (l : LogState). length l.done + length l.undone) c.self.view_is

pub returns-clause-around : goal.returns-clause-around
returns-clause-around c =
    let f : Readings = reads_of c.args.signals.now in
    let t : Test = c.in-Some.test in
    let ts : List Test = reverse c.pop.new.self.items in
    let d = c.self.inside.done.items in
    let u = c.self.inside.undone.items in
    let is : reverse c.self.inside.tests.items ≡ t ∷ ts = ap reverse c.in-Some.ensures.items ∙ reverse-append c.pop.new.self.items (t ∷ []) in
    let after : reverse c.push_reserved.new.self.items ≡ record { done = t.done; undone = t.undone; second = true; test = t.test } ∷ ts = ap reverse c.push_reserved.ensures.items ∙ reverse-append c.pop.new.self.items (record { done = t.done; undone = t.undone; second = true; test = t.test } ∷ []) in
    let known : AreTests (t ∷ ts) (length d) (length u) = subst (λ zs. AreTests zs (length d) (length u)) is c.self.invariant.around in
    let first : t.second ≡ false = was_first t ts (ap is_first (sym is ∙ ap (λ (l : LogState). l.tests) c.self.view_is) ∙ c.requires.first) in
    let switched : List Around → List Around = λ all. record { test = (innermost all).test; before = (innermost all).before; left = Some f } ∷ drop 1 all in
    ap (λ zs. tests_of zs c.put_all_back.new.from.items c.put_all_back.new.to.items (reads_of c.put_all_back.new.signals)) after
    ∙ tests_switched t ts d u c.put_all_back.new.from.items c.put_all_back.new.to.items c.args.signals.now c.put_all_back.new.signals c.put_all_back.ensures.moved c.put_all_back.ensures.less (known.2 first)
    ∙ sym (ap (λ zs. switched (tests_of zs d u f)) is)
    ∙ ap (λ (l : LogState). switched (around l f)) c.self.view_is
