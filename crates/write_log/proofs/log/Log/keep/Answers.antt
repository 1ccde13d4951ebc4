use Rattle.std.proofs.Common.{◌≡◌, ◌≢◌, ◌+◌, ◌<◌, true, ap, arith, length, reverse, subst, sym, vec_len, ◌∙◌}
use Rattle.std.proofs.lemmas.Bool.{eqb-false}
use Rattle.std.proofs.lemmas.List.{length-reverse, length_push}
use Rattle.write_log.specs.Logs.{LogState, around, is_inside, reads_of}
use Rattle.write_log.proofs.Tests.{inside_some, kept_around, tests_within}
use Rattle.write_log.proofs.log.Log.keep.Goals as goal

pub push_reserved-requires : goal.push_reserved-requires
push_reserved-requires c =
    let some : vec_len c.self.inside.tests ≢ 0 = eqb-false (vec_len c.self.inside.tests) 0 (sym c.is_empty.ensures ∙ c.if-not-is_empty.true) in
    let inside : is_inside (reverse c.self.inside.tests.items) ≡ true = inside_some (reverse c.self.inside.tests.items) (omega (arith, length-reverse c.self.inside.tests.items, some)) in
    let left : length c.self.inside.done.items + length c.self.inside.undone.items < c.self.inside.room =
    subst (λ (l : LogState). length l.done + length l.undone < l.room) (sym c.self.view_is) (c.requires.room (ap (λ (l : LogState). is_inside l.tests) (sym c.self.view_is) ∙ inside)) in
    omega (arith, c.self.invariant.done_room)

pub invariant_of-self : goal.invariant_of-self
invariant_of-self c =
    let some : vec_len c.self.inside.tests ≢ 0 = eqb-false (vec_len c.self.inside.tests) 0 (sym c.is_empty.ensures ∙ c.if-not-is_empty.true) in
    let inside : is_inside (reverse c.self.inside.tests.items) ≡ true = inside_some (reverse c.self.inside.tests.items) (omega (arith, length-reverse c.self.inside.tests.items, some)) in
    let left : length c.self.inside.done.items + length c.self.inside.undone.items < c.self.inside.room =
    subst (λ (l : LogState). length l.done + length l.undone < l.room) (sym c.self.view_is) (c.requires.room (ap (λ (l : LogState). is_inside l.tests) (sym c.self.view_is) ∙ inside)) in
    let before = c.self.invariant in
    let one : length c.push_reserved.new.self.items ≡ length c.self.inside.done.items + 1 = ap length c.push_reserved.ensures.items ∙ length_push c.self.inside.done.items _ in
    record {
      done_room = omega arith;
      undone_room = before.undone_room;
      test_room = before.test_room;
      used = omega arith;
      around = tests_within (reverse c.self.inside.tests.items) (length c.self.inside.done.items) (length c.push_reserved.new.self.items) (length c.self.inside.undone.items) inside (omega arith) before.around;
      unseen = before.unseen;
    }

pub returns-then-not-is_empty-clause-around : goal.returns-then-not-is_empty-clause-around
returns-then-not-is_empty-clause-around c =
    λ now same.
    kept_around (reverse c.self.inside.tests.items) c.self.inside.done.items c.self.inside.undone.items c.push_reserved.new.self.items c.args.signals.now c.args.signal c.read-value.result now c.self.invariant.around c.push_reserved.ensures.items c.read-value.ensures.value same
    ∙ ap (λ (l : LogState). around l (reads_of c.args.signals.now)) c.self.view_is
