use Rattle.std.proofs.Common.{◌≡◌, ◌+◌, ◌<◌, ◌≤◌, ◌++◌, ℕ, List, ap, ap₂, drop, is_some, length, map, refl, subst, sym, take, arith, ◌∙◌}
use Rattle.design_model.specs.Design.{signal_at}
use Rattle.design_model.specs.View.{design_view}
use Rattle.write_log.specs.value_store.Signals.{read_at}
use Rattle.write_log.specs.Logs.{around, innermost, left_of, reads_of}
use Rattle.word_log.specs.declared.memory.StoredMemory.{StoredMemory}
use Rattle.word_log.specs.Entries.{IsCommon}
use Rattle.word_log.specs.Logs as w
use Rattle.word_log.specs.Memories.{SameShapes}
use Rattle.body_calls.specs.Lvalues.{Like}
use Rattle.body_calls.specs.Ways.{joined_scene}
use Rattle.body_store.specs.Fitting.{FitsDesign, memory_in}
use Rattle.body_store.specs.Scenes.{scene_with}
use Rattle.body_store.specs.Tests.{log_room, tests_by, word_room}
use Rattle.body_store.proofs.Both.{all_lent, changed_same, left_shapes, same_outer, words_joined}
use Rattle.body_store.proofs.Branches.{scene_joined}
use Rattle.body_store.proofs.Fit.{both_fit, width_is}
use Rattle.body_store.proofs.Rooms.{both_left}
use Rattle.body_store.proofs.Tests.{left_shaped, second_here, second_of_words}
use Rattle.body_store.proofs.bodies.StoreBodies.end_test.Goals as goal
use Rattle.body_store.proofs.bodies.StoreBodies.end_test.Goals.{After-end_test-2}

pub end_test-requires-clause-second : goal.end_test-requires-clause-second
end_test-requires-clause-second c =
    let x = c.args.self.now in
    let r = c.requires in
    (second_here (scene_with x.design.now) x.log (reads_of x.signals) x.words x.memories.items r.0 r.1 r.2 (sym x.tests.branches) r.3).second

pub end_test-requires-2-clause-second : goal.end_test-requires-2-clause-second
end_test-requires-2-clause-second c =
    let x = c.args.self.now in
    let r = c.requires in
    second_of_words x.log.tests x.words.tests (sym x.tests.branches) (second_here (scene_with x.design.now) x.log (reads_of x.signals) x.words x.memories.items r.0 r.1 r.2 (sym x.tests.branches) r.3).second

-- all memories were lent
whole : (c : After-end_test-2) → take c.args.self.now.memories.len (c.end_test-2.new.memories ++ drop (length c.end_test-2.new.memories) c.args.self.now.memories.items) ≡ c.end_test-2.new.memories
whole c =
    let size : length c.as_mut_slice.result.now ≡ c.args.self.now.memories.len = c.as_mut_slice.ensures.len in
    all_lent c.end_test-2.new.memories c.args.self.now.memories.items c.args.self.now.memories.len (c.end_test-2.ensures.shapes.count ∙ size) (ap length (sym c.as_mut_slice.ensures.value) ∙ size)

-- the memories that were lent
lent : (c : After-end_test-2) → c.as_mut_slice.result.now ≡ c.args.self.now.memories.items
lent c = c.as_mut_slice.ensures.value

shapes : (c : After-end_test-2) → SameShapes c.args.self.now.memories.items c.end_test-2.new.memories
shapes c = subst (λ rs. SameShapes rs c.end_test-2.new.memories) (lent c) c.end_test-2.ensures.shapes

common : (c : After-end_test-2) → IsCommon (w.left_of (w.around c.args.self.now.words c.args.self.now.memories.items)) c.args.self.now.memories.items c.end_test-2.new.memories
common c = subst (λ rs. IsCommon (w.left_of (w.around c.args.self.now.words rs)) rs c.end_test-2.new.memories) (lent c) c.end_test-2.ensures.common

words_around : (c : After-end_test-2) → w.around c.end_test-2.new.self c.end_test-2.new.memories ≡ drop 1 (w.around c.args.self.now.words c.args.self.now.memories.items)
words_around c = c.end_test-2.ensures.around ∙ ap (λ rs. drop 1 (w.around c.args.self.now.words rs)) (lent c)

pub invariant_of-self : goal.invariant_of-self
invariant_of-self c =
    let a : After-end_test-2 = (goal.at.invariant_of-self c).After-end_test-2 in
    let x = c.args.self.now in
    let s = c.end_test.ensures in
    let t = c.end_test-2.ensures in
    let rs : List StoredMemory = x.memories.items in
    let new : List StoredMemory = c.end_test-2.new.memories in
    let fits : FitsDesign x.design.now.signals x.design.now.memories c.end_test.new.signals new = both_fit x.design.now.signals x.design.now.memories x.signals c.end_test.new.signals rs new s.under (shapes a) x.fits in
    let branches : map (λ a. is_some a.left) (w.around c.end_test-2.new.self new) ≡ map (λ a. is_some a.left) (around c.end_test.new.self (reads_of c.end_test.new.signals)) =
    ap (map (λ a. is_some a.left)) (words_around a) ∙ same_outer x.log x.words (reads_of x.signals) rs x.tests ∙ sym (ap (map (λ a. is_some a.left)) s.around) in
    record {
      fits = subst (λ ys. FitsDesign x.design.now.signals x.design.now.memories c.end_test.new.signals ys) (sym (whole a)) fits;
      logged = s.fits;
      sized = s.depth ∙ x.sized ∙ sym s.room;
      words_logged = subst (λ ys. w.IsWordLogOf ys c.end_test-2.new.self) (sym (whole a)) t.fits;
      tests = changed_same x.log c.end_test.new.self x.words c.end_test-2.new.self (reads_of c.end_test.new.signals) new x.tests s.room t.room t.depth branches;
      counted = record { log_is = s.room ∙ x.counted.log_is; queue_is = x.counted.queue_is };
      taken = x.taken;
      veiled = x.veiled;
    }

pub returns-clause-scene : goal.returns-clause-scene
returns-clause-scene c = λ test left outer e.
    let a : After-end_test-2 = (goal.at.returns-clause-scene c).After-end_test-2 in
    let x = c.args.self.now in
    let d = design_view x.design.now in
    let n = length x.design.now.signals in
    let scene = scene_with x.design.now in
    let g = reads_of x.signals in
    let f = left_of (around x.log g) in
    let h = read_at c.end_test.new.signals in
    let rs = x.memories.items in
    let was = w.left_of (w.around x.words rs) in
    let new = c.end_test-2.new.memories in
    let second = second_here scene x.log g x.words rs test left outer (sym x.tests.branches) e in
    let of_words = second_of_words x.log.tests x.words.tests (sym x.tests.branches) second.second in
    let here : (y : ℕ) → y < n → y < length x.signals.kept = λ y l. subst (λ k. y < k) (sym x.fits.signals) l in
    let f_fits : (y : ℕ) → y < n → length (f y).bits ≡ (signal_at d y).width = λ y l. width_is d x.signals y (f y) x.fits.shapes l (left_shaped x.signals x.log g x.logged second.second c.fitting.ensures.read y (here y l)).0 in
    let g_fits : (y : ℕ) → y < n → length (g y).bits ≡ (signal_at d y).width = λ y l. width_is d x.signals y (g y) x.fits.shapes l (c.fitting.ensures.read y (here y l)).0 in
    let like = scene_joined c.common_law.ensures d n (innermost (around x.log g)).test f g h (λ i. (memory_in was i).words) (λ i. (memory_in rs i).words) (λ i. (memory_in new i).words) (λ i. (memory_in was i).written) (λ i. (memory_in rs i).written) (λ i. (memory_in new i).written) refl c.end_test.ensures.common (words_joined was rs new (left_shapes x.words rs x.words_logged of_words) (shapes a) (common a)) (common a).written f_fits g_fits in
    subst (λ ys. Like (joined_scene test left (scene rs g)) (scene ys h)) (sym (whole a))
    (subst (λ s. Like (joined_scene test s (scene rs g)) (scene new h)) second.left_is (subst (λ t. Like (joined_scene t (scene was f) (scene rs g)) (scene new h)) second.test_is like))

pub returns-clause-around : goal.returns-clause-around
returns-clause-around c = λ test left outer e.
    let a : After-end_test-2 = (goal.at.returns-clause-around c).After-end_test-2 in
    let x = c.args.self.now in
    let scene = scene_with x.design.now in
    let second = second_here scene x.log (reads_of x.signals) x.words x.memories.items test left outer (sym x.tests.branches) e in
    subst (λ ys. tests_by scene (around c.end_test.new.self (reads_of c.end_test.new.signals)) (w.around c.end_test-2.new.self ys) ≡ outer) (sym (whole a))
    (ap₂ (tests_by scene) c.end_test.ensures.around (words_around a) ∙ second.outer_is)

pub returns-clause-rooms : goal.returns-clause-rooms
returns-clause-rooms c =
    let x = c.args.self.now in
    let s = c.end_test.ensures in
    let t = c.end_test-2.ensures in
    let y = c.end_test.new.self in
    let q = c.end_test-2.new.self in
    let first : log_room x.log ≤ log_room y + 0 = (let r = s.room in let u = s.used in let n = s.tests in omega (arith, r, u, n)) in
    let second : word_room x.words ≤ word_room q + 0 = (let r = t.room in let u = t.used in let n = t.tests in omega (arith, r, u, n)) in
    record { log = both_left (log_room x.log) (word_room x.words) (log_room y) (word_room q) 0 first second; takes = refl; queue = omega arith }
