use Rattle.std.proofs.Common.{◌≡◌, ◌+◌, ◌-◌, ◌<◌, ◌≤◌, ◌++◌, ℕ, None, ap, drop, if◌then◌else◌, length, refl, set, subst, sym, take, true, arith, ◌∙◌}
use Rattle.known_state.specs.Partly.{Partly}
use Rattle.std.proofs.Math.Nat.{min-le_right}
use Rattle.std.proofs.lemmas.List.{get_or_default}
use Rattle.design_model.specs.Design.{Design, memory_at}
use Rattle.design_model.specs.View.{design_view}
use Rattle.body_calls.specs.body_replay.KnownBits.{KnownBits}
use Rattle.body_calls.specs.body_replay.Store.{Kept, keep_all, write_word}
use Rattle.word_log.specs.memory_rebuild.Words.{StandsFor, count}
use Rattle.write_log.specs.value_store.Signals.{read_at}
use Rattle.write_log.proofs.PutBack.{under_self}
use Rattle.write_log.specs.Logs.{around, is_inside, reads_of}
use Rattle.word_log.specs.declared.memory.StoredMemory.{StoredMemory}
use Rattle.word_log.specs.Logs as w
use Rattle.word_log.specs.Memories.{SameShapes}
use Rattle.body_calls.specs.Lvalues.{Like, written}
use Rattle.body_calls.specs.declared.lvalue.Lvalue.TheVariants.{Word}
use Rattle.body_calls.specs.Rooms.{takes_in}
use Rattle.body_store.specs.Bodies.{around_of, rooms_of, write_takes}
use Rattle.body_store.specs.Fitting.{FitsDesign, memory_in}
use Rattle.body_store.specs.Scenes.{kept_by, scene_of, scene_with}
use Rattle.body_store.specs.Tests.{log_room, seconds, tests_by, word_room}
use Rattle.body_store.proofs.Both.{all_lent, takes_words}
use Rattle.body_store.proofs.Fit.{among_memories, both_fit, memory_stands}
use Rattle.body_store.proofs.Memories.{no_stored, word_like}
use Rattle.body_store.proofs.Rooms.{both_left, room_for_words, same_inside, takes_by, words_left}
use Rattle.body_store.proofs.store.Store.write_word.Goals as goal
use Rattle.body_store.proofs.store.Store.write_word.Goals.{After-write}

-- all memories were lent
whole : (c : After-write) → take c.args.self.now.memories.len (c.write.new.memories ++ drop (length c.write.new.memories) c.args.self.now.memories.items) ≡ c.write.new.memories
whole c =
    let size : length c.as_mut_slice.result.now ≡ c.args.self.now.memories.len = c.as_mut_slice.ensures.len in
    all_lent c.write.new.memories c.args.self.now.memories.items c.args.self.now.memories.len (c.write.ensures.shapes.count ∙ size) (ap length (sym c.as_mut_slice.ensures.value) ∙ size)

-- the memories that were lent
lent : (c : After-write) → c.as_mut_slice.result.now ≡ c.args.self.now.memories.items
lent c = c.as_mut_slice.ensures.value

shapes : (c : After-write) → SameShapes c.args.self.now.memories.items c.write.new.memories
shapes c = subst (λ rs. SameShapes rs c.write.new.memories) (lent c) c.write.ensures.shapes

-- the memory that is written, and its place
abbrev place : After-write → ℕ
place c = c.args.memory - c.len.result

place_same : (c : After-write) → c.args.memory - length c.args.self.now.design.now.signals ≡ place c
place_same c = ap (λ z. c.args.memory - z) (sym (c.len.ensures ∙ c.args.self.now.fits.signals))

new : After-write → StoredMemory
new c = memory_in c.write.new.memories (place c)

set_new : (c : After-write) → set c.args.self.now.memories.items (c.args.memory - length c.args.self.now.design.now.signals) (new c) ≡ c.write.new.memories
unfolding new
set_new c =
    ap (λ i. set c.args.self.now.memories.items i (new c)) (place_same c) ∙ ap (λ rs. set rs (place c) (new c)) (sym (lent c)) ∙ sym c.write.ensures.others

new_written : (c : After-write) → (new c).written ≡ true
unfolding new
new_written c = c.write.ensures.written

new_stands : (c : After-write) (d : Design) (k : Kept) (m : ℕ) → StandsFor d k m (memory_in c.as_mut_slice.result.now (place c)).words → StandsFor d (keep_all k (write_word d m c.args.index.now.signed c.args.index.now.bits c.signed_as-value.result.bits)) m (new c).words
unfolding new
new_stands c d k m h = c.write.ensures.stands d k m h

-- words have bits
held_some : (c : After-write) → 1 ≤ (memory_in c.args.self.now.memories.items (c.args.memory - length c.args.self.now.design.now.signals)).words.shape.width
held_some c =
    let s = c.args.self.now in
    let size : place c < length s.memories.items = (let l = among_memories (design_view s.design.now) c.args.memory c.requires.place.0 in let count = s.fits.memories in let here = place_same c in omega (arith, l, count, here)) in
    let found : c.index.result.now ≡ memory_in s.memories.items (place c) = c.index.ensures ∙ get_or_default s.memories.items (place c) c.index.result.now no_stored size in
    subst (λ i. 1 ≤ (memory_in s.memories.items i).words.shape.width) (sym (place_same c)) (subst (λ r. 1 ≤ r.words.shape.width) found c.shape-signed.ensures.at_least)

pub invariant_of-self : goal.invariant_of-self
invariant_of-self c =
    let a : After-write = (goal.at.invariant_of-self c).After-write in
    let s = c.args.self.now in
    let ss = s.design.now.signals in
    let ms = s.design.now.memories in
    let e = c.write.ensures in
    let fits : FitsDesign ss ms s.signals c.write.new.memories = both_fit ss ms s.signals s.signals s.memories.items c.write.new.memories (under_self s.signals) (shapes a) s.fits in
    record {
      fits = subst (λ ys. FitsDesign ss ms s.signals ys) (sym (whole a)) fits;
      logged = s.logged;
      sized = s.sized;
      words_logged = subst (λ ys. w.IsWordLogOf ys c.write.new.self) (sym (whole a)) e.fits;
      tests = record { word_depth = e.depth ∙ s.tests.word_depth ∙ sym e.room; room = e.room ∙ s.tests.room; branches = ap seconds e.tests ∙ s.tests.branches };
      counted = s.counted;
      taken = s.taken;
      veiled = s.veiled;
    }

pub returns-clause-around : goal.returns-clause-around
returns-clause-around c =
    let a : After-write = (goal.at.returns-clause-around c).After-write in
    let s = c.args.self.now in
    let ts = around s.log (reads_of s.signals) in
    let scene = scene_with s.design.now in
    subst (λ ys. tests_by scene ts (w.around c.write.new.self ys) ≡ tests_by scene ts (w.around s.words s.memories.items)) (sym (whole a))
    (ap (tests_by scene ts) (c.write.ensures.around ∙ ap (w.around s.words) (lent a)))

pub returns-clause-rooms : goal.returns-clause-rooms
returns-clause-rooms c =
    let a : After-write = (goal.at.returns-clause-rooms c).After-write in
    let s = c.args.self.now in
    let scene = scene_with s.design.now in
    let x = c.args.memory in
    let now = reads_of s.signals in
    let us = w.around s.words s.memories.items in
    let n : ℕ = count (memory_in s.memories.items (x - length s.design.now.signals)).words.shape in
    let e = c.write.ensures in
    let takes = takes_words s.design.now s.signals s.memories.items x s.fits c.requires.place.0 in
    let k = takes_in (around_of s) (rooms_of s) x in
    let taken : k ≡ (if is_inside s.words.tests then n + 1 else 0) = takes_by scene now us (rooms_of s) x s.log.tests s.log refl ∙ ap (λ t. if t then write_takes s.design.now x else 0) (sym (same_inside s.log.tests s.words.tests s.tests.branches)) ∙ ap (λ m. if is_inside s.words.tests then m else 0) takes in
    let few : length c.write.new.self.done ≤ length s.words.done + n + 1 = subst (λ rs. length c.write.new.self.done ≤ length s.words.done + count (memory_in rs (x - length s.design.now.signals)).words.shape + 1) (lent a) (subst (λ i. length c.write.new.self.done ≤ length s.words.done + count (memory_in c.as_mut_slice.result.now i).words.shape + 1) (sym (place_same a)) e.few) in
    let second : word_room s.words ≤ word_room c.write.new.self + (if is_inside s.words.tests then n + 1 else 0) = words_left s.words c.write.new.self n (is_inside s.words.tests) refl e.room e.tests e.undone e.outside few in
    record {
      log = both_left (log_room s.log) (word_room s.words) (log_room s.log) (word_room c.write.new.self) k (omega arith) (subst (λ j. word_room s.words ≤ word_room c.write.new.self + j) (sym taken) second);
      takes = refl;
      queue = omega arith;
    }

pub write-requires-clause-room : goal.write-requires-clause-room
write-requires-clause-room c = λ inside.
    let s = c.args.self.now in
    let D = s.design.now in
    let x = c.args.memory in
    let n : ℕ = count (memory_in s.memories.items (x - length D.signals)).words.shape in
    let r = rooms_of s in
    let low = min-le_right (log_room s.log) (word_room s.words) in
    let room : length s.words.done + length s.words.undone + n + 1 ≤ s.words.room = room_for_words (scene_with D) (reads_of s.signals) (w.around s.words s.memories.items) r x s.log s.words n (takes_words D s.signals s.memories.items x s.fits c.requires.place.0) low s.tests.branches c.requires.room inside in
    let here : x - length D.signals ≡ x - c.len.result = ap (λ z. x - z) (sym (c.len.ensures ∙ s.fits.signals)) in
    subst (λ rs. length s.words.done + length s.words.undone + count (memory_in rs (x - c.len.result)).words.shape + 1 ≤ s.words.room) (sym c.as_mut_slice.ensures.value)
    (subst (λ i. length s.words.done + length s.words.undone + count (memory_in s.memories.items i).words.shape + 1 ≤ s.words.room) here room)

pub returns-clause-scene : goal.returns-clause-scene
returns-clause-scene c =
    let a : After-write = (goal.at.returns-clause-scene c).After-write in
    let s = c.args.self.now in
    let D = s.design.now in
    let d = design_view D in
    let x = c.args.memory in
    let at = read_at s.signals in
    let rs = s.memories.items in
    let k = kept_by (length D.signals) at (λ i. (memory_in rs i).words) in
    let before : StandsFor d k x (memory_in rs (x - length D.signals)).words = memory_stands d s.signals rs at x s.fits c.requires.place.0 in
    let found : memory_in rs (x - length D.signals) ≡ memory_in c.as_mut_slice.result.now (place a) = ap (memory_in rs) (place_same a) ∙ ap (λ ys. memory_in ys (place a)) (sym (lent a)) in
    let after : StandsFor d (keep_all k (write_word d x c.args.index.now.signed c.args.index.now.bits c.signed_as-value.result.bits)) x (new a).words = new_stands a d k x (subst (λ r. StandsFor d k x r.words) found before) in
    let stands : StandsFor d (keep_all k (write_word d x c.args.index.now.signed c.args.index.now.bits c.args.part.now.bits)) x (new a).words = subst (λ (ps : KnownBits). StandsFor d (keep_all k (write_word d x c.args.index.now.signed c.args.index.now.bits ps)) x (new a).words) (ap (λ (q : Partly). q.bits) c.signed_as-value.ensures) after in
    let some : 1 ≤ (memory_at d x).width = subst (λ n. 1 ≤ n) before.width (held_some a) in
    let like = word_like D s.signals rs x (new a) s.fits c.requires.place.0 at c.args.index.now c.args.part.now.bits some (new_written a) stands in
    subst (λ ys. Like (written (Word x c.args.index.now) c.args.part.now.bits None (scene_of s)) (scene_with D ys at)) (set_new a ∙ sym (whole a)) like
