use Rattle.std.proofs.Common.{◌≡◌, ◌+◌, ◌≤◌, ◌++◌, ◌∷◌, Some, true, List, ap, ap₂, drop, is_some, length, map, refl, subst, sym, take, arith, ◌∙◌}
use Rattle.std.proofs.Math.Path.{fun_ext}
use Rattle.write_log.specs.value_store.Signals.{read_at}
use Rattle.write_log.specs.Logs.{around, innermost, reads_of}
use Rattle.word_log.specs.declared.memory.StoredMemory.{StoredMemory}
use Rattle.word_log.specs.Logs as w
use Rattle.word_log.specs.Memories.{SameShapes}
use Rattle.body_calls.specs.Lvalues.{Like}
use Rattle.body_calls.specs.Ways.{in_second}
use Rattle.body_store.specs.Fitting.{FitsDesign}
use Rattle.body_store.specs.Scenes.{scene_of, scene_with}
use Rattle.body_store.specs.Tests.{log_room, tests_by, word_room}
use Rattle.body_store.proofs.Both.{all_lent, changed_same, like_same, same_outer}
use Rattle.body_store.proofs.Fit.{both_fit}
use Rattle.body_store.proofs.Rooms.{both_left}
use Rattle.body_store.proofs.Tests.{first_here, first_of_words}
use Rattle.body_store.proofs.bodies.StoreBodies.second_branch.Goals as goal
use Rattle.body_store.proofs.bodies.StoreBodies.second_branch.Goals.{After-second_branch-2}

-- all memories were lent
whole : (c : After-second_branch-2) → take c.args.self.now.memories.len (c.second_branch-2.new.memories ++ drop (length c.second_branch-2.new.memories) c.args.self.now.memories.items) ≡ c.second_branch-2.new.memories
whole c =
    let size : length c.as_mut_slice.result.now ≡ c.args.self.now.memories.len = c.as_mut_slice.ensures.len in
    all_lent c.second_branch-2.new.memories c.args.self.now.memories.items c.args.self.now.memories.len (c.second_branch-2.ensures.shapes.count ∙ size) (ap length (sym c.as_mut_slice.ensures.value) ∙ size)

pub second_branch-requires-clause-first : goal.second_branch-requires-clause-first
second_branch-requires-clause-first c =
    let x = c.args.self.now in
    let r = c.requires in
    (first_here (scene_with x.design.now) x.log (reads_of x.signals) (w.around x.words x.memories.items) r.0 r.1 r.2 r.3).first

pub second_branch-requires-2-clause-first : goal.second_branch-requires-2-clause-first
second_branch-requires-2-clause-first c =
    let x = c.args.self.now in
    let r = c.requires in
    first_of_words x.log.tests x.words.tests (sym x.tests.branches) (first_here (scene_with x.design.now) x.log (reads_of x.signals) (w.around x.words x.memories.items) r.0 r.1 r.2 r.3).first

-- the memories that were lent
lent : (c : After-second_branch-2) → c.as_mut_slice.result.now ≡ c.args.self.now.memories.items
lent c = c.as_mut_slice.ensures.value

shapes : (c : After-second_branch-2) → SameShapes c.args.self.now.memories.items c.second_branch-2.new.memories
shapes c = subst (λ rs. SameShapes rs c.second_branch-2.new.memories) (lent c) c.second_branch-2.ensures.shapes

words_around : (c : After-second_branch-2) → w.around c.second_branch-2.new.self c.second_branch-2.new.memories ≡ record { before = (w.innermost (w.around c.args.self.now.words c.args.self.now.memories.items)).before; left = Some c.args.self.now.memories.items } ∷ drop 1 (w.around c.args.self.now.words c.args.self.now.memories.items)
words_around c =
    let after : List StoredMemory → List w.Around = λ rs. record { before = (w.innermost (w.around c.args.self.now.words rs)).before; left = Some rs } ∷ drop 1 (w.around c.args.self.now.words rs) in
    c.second_branch-2.ensures.around ∙ ap after (lent c)

pub invariant_of-self : goal.invariant_of-self
invariant_of-self c =
    let a : After-second_branch-2 = (goal.at.invariant_of-self c).After-second_branch-2 in
    let x = c.args.self.now in
    let s = c.second_branch.ensures in
    let t = c.second_branch-2.ensures in
    let rs : List StoredMemory = x.memories.items in
    let new : List StoredMemory = c.second_branch-2.new.memories in
    let fits : FitsDesign x.design.now.signals x.design.now.memories c.second_branch.new.signals new = both_fit x.design.now.signals x.design.now.memories x.signals c.second_branch.new.signals rs new s.under (shapes a) x.fits in
    let branches : map (λ a. is_some a.left) (w.around c.second_branch-2.new.self new) ≡ map (λ a. is_some a.left) (around c.second_branch.new.self (reads_of c.second_branch.new.signals)) =
    ap (map (λ a. is_some a.left)) (words_around a) ∙ ap (λ xs. true ∷ xs) (same_outer x.log x.words (reads_of x.signals) rs x.tests) ∙ sym (ap (map (λ a. is_some a.left)) s.around) in
    record {
      fits = subst (λ ys. FitsDesign x.design.now.signals x.design.now.memories c.second_branch.new.signals ys) (sym (whole a)) fits;
      logged = s.fits;
      sized = s.depth ∙ x.sized ∙ sym s.room;
      words_logged = subst (λ ys. w.IsWordLogOf ys c.second_branch-2.new.self) (sym (whole a)) t.fits;
      tests = changed_same x.log c.second_branch.new.self x.words c.second_branch-2.new.self (reads_of c.second_branch.new.signals) new x.tests s.room t.room t.depth branches;
      counted = record { log_is = s.room ∙ x.counted.log_is; queue_is = x.counted.queue_is };
      taken = x.taken;
      veiled = x.veiled;
    }

pub returns-clause-scene : goal.returns-clause-scene
returns-clause-scene c = λ test before outer e.
    let a : After-second_branch-2 = (goal.at.returns-clause-scene c).After-second_branch-2 in
    let x = c.args.self.now in
    let f = first_here (scene_with x.design.now) x.log (reads_of x.signals) (w.around x.words x.memories.items) test before outer e in
    let memories : c.second_branch-2.new.memories ≡ (w.innermost (w.around x.words x.memories.items)).before = c.second_branch-2.ensures.before ∙ ap (λ rs. (w.innermost (w.around x.words rs)).before) (lent a) in
    let now : scene_with x.design.now c.second_branch-2.new.memories (read_at c.second_branch.new.signals) ≡ before = ap₂ (scene_with x.design.now) memories (fun_ext c.second_branch.ensures.reads) ∙ f.before_is in
    subst (λ ys. Like before (scene_with x.design.now ys (read_at c.second_branch.new.signals))) (sym (whole a)) (like_same before (scene_with x.design.now c.second_branch-2.new.memories (read_at c.second_branch.new.signals)) (sym now))

pub returns-clause-around : goal.returns-clause-around
returns-clause-around c = λ test before outer e.
    let a : After-second_branch-2 = (goal.at.returns-clause-around c).After-second_branch-2 in
    let x = c.args.self.now in
    let scene = scene_with x.design.now in
    let ts = around x.log (reads_of x.signals) in
    let us = w.around x.words x.memories.items in
    let f = first_here scene x.log (reads_of x.signals) us test before outer e in
    let now : tests_by scene (around c.second_branch.new.self (reads_of c.second_branch.new.signals)) (w.around c.second_branch-2.new.self c.second_branch-2.new.memories) ≡ in_second (innermost ts).test (scene_of x) ∷ tests_by scene (drop 1 ts) (drop 1 us) = ap₂ (tests_by scene) c.second_branch.ensures.around (words_around a) in
    subst (λ ys. tests_by scene (around c.second_branch.new.self (reads_of c.second_branch.new.signals)) (w.around c.second_branch-2.new.self ys) ≡ in_second test (scene_of x) ∷ outer) (sym (whole a))
    (now ∙ ap₂ (λ t xs. in_second t (scene_of x) ∷ xs) f.test_is f.outer_is)

pub returns-clause-rooms : goal.returns-clause-rooms
returns-clause-rooms c =
    let x = c.args.self.now in
    let s = c.second_branch.ensures in
    let t = c.second_branch-2.ensures in
    let y = c.second_branch.new.self in
    let q = c.second_branch-2.new.self in
    let first : log_room x.log ≤ log_room y + 0 = (let r = s.room in let u = s.used in let n = s.tests in omega (arith, r, u, n)) in
    let second : word_room x.words ≤ word_room q + 0 = (let r = t.room in let u = t.used in let n = t.tests in omega (arith, r, u, n)) in
    record { log = both_left (log_room x.log) (word_room x.words) (log_room y) (word_room q) 0 first second; takes = refl; queue = omega arith }
