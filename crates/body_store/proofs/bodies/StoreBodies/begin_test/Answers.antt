use Rattle.std.proofs.Common.{false, length, ◌+◌, ◌≤◌, ap, ap₂, refl, subst, sym, arith, ◌∙◌}
use Rattle.write_log.specs.Logs.{IsLogOf, reads_of}
use Rattle.word_log.specs.Logs as w
use Rattle.body_store.specs.Scenes.{scene_with}
use Rattle.body_store.specs.Tests.{log_room, tests_by, word_room}
use Rattle.body_store.proofs.Both.{begun_same, test_room}
use Rattle.body_store.proofs.Rooms.{both_left}
use Rattle.body_store.proofs.bodies.StoreBodies.begin_test.Goals as goal

pub begin_test-requires : goal.begin_test-requires
begin_test-requires c = let x = c.args.self.now in (test_room x.log x.words x.sized x.tests c.requires).0

pub begin_test-requires-2 : goal.begin_test-requires-2
begin_test-requires-2 c = let x = c.args.self.now in (test_room x.log x.words x.sized x.tests c.requires).1

pub invariant_of-self : goal.invariant_of-self
invariant_of-self c =
    let x = c.args.self.now in
    let e = c.begin_test.ensures.log in
    let f = c.begin_test-2.ensures.log in
    record {
      fits = x.fits;
      logged = subst (IsLogOf x.signals) (sym e) (record { signals = x.logged.signals; done = x.logged.done; undone = x.logged.undone });
      sized = ap (λ l. l.depth) e ∙ x.sized ∙ sym (ap (λ l. l.room) e);
      words_logged = subst (w.IsWordLogOf x.memories.items) (sym f) (record { sizes = x.words_logged.sizes; done = x.words_logged.done; undone = x.words_logged.undone });
      tests = begun_same x.log c.begin_test.new.self x.words c.begin_test-2.new.self (record { done = length x.log.done; undone = length x.log.undone; second = false; test = c.args.test }) (record { done = length x.words.done; undone = length x.words.undone; second = false; test = c.args.test }) refl x.tests e f;
      counted = record { log_is = ap (λ l. l.room) e ∙ x.counted.log_is; queue_is = x.counted.queue_is };
      taken = x.taken;
      veiled = x.veiled;
    }

pub returns-clause-around : goal.returns-clause-around
returns-clause-around c =
    let x = c.args.self.now in
    ap₂ (tests_by (scene_with x.design.now)) (c.begin_test.ensures.around (reads_of x.signals)) (c.begin_test-2.ensures.around x.memories.items)

pub returns-clause-rooms : goal.returns-clause-rooms
returns-clause-rooms c =
    let x = c.args.self.now in
    let y = c.begin_test.new.self in
    let q = c.begin_test-2.new.self in
    let first : log_room x.log ≤ log_room y + 1 = (let room = ap log_room c.begin_test.ensures.log in omega (arith, room)) in
    let second : word_room x.words ≤ word_room q + 1 = (let room = ap word_room c.begin_test-2.ensures.log in omega (arith, room)) in
    record { log = both_left (log_room x.log) (word_room x.words) (log_room y) (word_room q) 1 first second; takes = refl; queue = omega arith }
