use Rattle.std.proofs.Common.{◌≡◌, ◌≢◌, ◌+◌, ◌≤◌, [], true, List, ap, arith, length, length-append, reverse, sym, subst, vec_len, ◌∙◌}
use Rattle.std.proofs.lemmas.Bool.{eqb-false, eqb-true, false≢true}
use Rattle.std.proofs.lemmas.List.{get_or_default, length-reverse, nil_from_length}
use Rattle.std.specs.List.{All}
use Rattle.memory_rebuild.specs.Words.{count}
use Rattle.write_log.specs.Logs.{is_inside}
use Rattle.write_log.proofs.Tests.{inside_some, tests_within}
use Rattle.word_log.specs.declared.memory.StoredMemory.{StoredMemory}
use Rattle.word_log.specs.Entries.{Fits}
use Rattle.word_log.specs.Keeps.{Kept}
use Rattle.word_log.specs.Logs.{WordLogState, around, tests_of}
use Rattle.word_log.specs.Memories.{memory_in}
use Rattle.word_log.proofs.Keeping.{all_kept_fit, kept_undone}
use Rattle.word_log.proofs.Shapes.{no_stored}
use Rattle.word_log.proofs.Tests.{kept_around, within_more}
use Rattle.word_log.proofs.log.WordLog.keep.Goals as goal
use Rattle.word_log.proofs.log.WordLog.keep.Goals.{After-keep}

kept : (c : After-keep) → Kept (memory_in c.args.memories.now c.args.memory) c.args.memory c.args.index.now c.self.inside.done.items c.keep.new.done.items
kept c =
    let was : c.index-memories-memory.result ≡ memory_in c.args.memories.now c.args.memory = c.index-memories-memory.is ∙ get_or_default c.args.memories.now c.args.memory c.index-memories-memory.result no_stored c.requires.place in
    subst (λ r. Kept r c.args.memory c.args.index.now c.self.inside.done.items c.keep.new.done.items) was c.keep.ensures.kept

few : (c : After-keep) → length c.keep.new.done.items ≤ length c.self.inside.done.items + count (memory_in c.args.memories.now c.args.memory).words.shape + 1
few c =
    let was : c.index-memories-memory.result ≡ memory_in c.args.memories.now c.args.memory = c.index-memories-memory.is ∙ get_or_default c.args.memories.now c.args.memory c.index-memories-memory.result no_stored c.requires.place in
    subst (λ r. length c.keep.new.done.items ≤ length c.self.inside.done.items + count r.words.shape + 1) was c.keep.ensures.few

-- a test is around
inside : (c : After-keep) → is_inside (reverse c.self.inside.tests.items) ≡ true
inside c =
    let some : vec_len c.self.inside.tests ≢ 0 = eqb-false (vec_len c.self.inside.tests) 0 (sym c.is_empty.ensures ∙ c.if-not-is_empty.true) in
    inside_some (reverse c.self.inside.tests.items) (omega (arith, length-reverse c.self.inside.tests.items, some))

-- what there is room for
room : (c : After-keep) → length c.self.inside.done.items + length c.self.inside.undone.items + count (memory_in c.args.memories.now c.args.memory).words.shape + 1 ≤ c.self.inside.room
room c =
    subst (λ (l : WordLogState). length l.done + length l.undone + count (memory_in c.args.memories.now c.args.memory).words.shape + 1 ≤ l.room) (sym c.self.view_is)
    (c.requires.room (ap (λ (l : WordLogState). is_inside l.tests) (sym c.self.view_is) ∙ inside c))

pub keep-requires : goal.keep-requires
keep-requires c =
    let some : vec_len c.self.inside.tests ≢ 0 = eqb-false (vec_len c.self.inside.tests) 0 (sym c.is_empty.ensures ∙ c.if-not-is_empty.true) in
    let is_in : is_inside (reverse c.self.inside.tests.items) ≡ true = inside_some (reverse c.self.inside.tests.items) (omega (arith, length-reverse c.self.inside.tests.items, some)) in
    let was : c.index-memories-memory.result ≡ memory_in c.args.memories.now c.args.memory = c.index-memories-memory.is ∙ get_or_default c.args.memories.now c.args.memory c.index-memories-memory.result no_stored c.requires.place in
    let left : length c.self.inside.done.items + length c.self.inside.undone.items + count (memory_in c.args.memories.now c.args.memory).words.shape + 1 ≤ c.self.inside.room =
    subst (λ (l : WordLogState). length l.done + length l.undone + count (memory_in c.args.memories.now c.args.memory).words.shape + 1 ≤ l.room) (sym c.self.view_is) (c.requires.room (ap (λ (l : WordLogState). is_inside l.tests) (sym c.self.view_is) ∙ is_in)) in
    omega (arith, ap (λ r. count r.words.shape) was)

pub invariant_of-self : goal.invariant_of-self
invariant_of-self c =
    let before = c.self.invariant in
    let more : length c.self.inside.done.items ≤ length c.keep.new.done.items = omega (arith, ap length (kept c).are.added, length-append c.self.inside.done.items (kept c).entries) in
    record {
      done_room = subst (λ n. c.self.inside.room ≤ n) (sym c.keep.ensures.capacity) before.done_room;
      undone_room = before.undone_room;
      test_room = before.test_room;
      used = within_more (length c.keep.new.done.items) (length c.self.inside.done.items) (length c.self.inside.undone.items) (count (memory_in c.args.memories.now c.args.memory).words.shape) c.self.inside.room (few c) (room c);
      around = tests_within (reverse c.self.inside.tests.items) (length c.self.inside.done.items) (length c.keep.new.done.items) (length c.self.inside.undone.items) (inside c) more before.around;
      no_word = before.no_word;
      no_memory = before.no_memory;
    }

pub returns-then-not-is_empty-clause-fits : goal.returns-then-not-is_empty-clause-fits
returns-then-not-is_empty-clause-fits c =
    let f : List StoredMemory = c.args.memories.now in
    record {
      sizes = ap (λ (l : WordLogState). l.sizes) c.self.view_is ∙ c.requires.fits.sizes;
      done = all_kept_fit f c.args.memory c.self.inside.done.items c.keep.new.done.items (kept c).entries c.requires.place (kept c).are (subst (λ (l : WordLogState). All (Fits f) l.done) (sym c.self.view_is) c.requires.fits.done);
      undone = subst (λ (l : WordLogState). All (Fits f) l.undone) (sym c.self.view_is) c.requires.fits.undone;
    }

pub returns-then-not-is_empty-clause-room : goal.returns-then-not-is_empty-clause-room
returns-then-not-is_empty-clause-room c = ap (λ (l : WordLogState). l.room) c.self.view_is

pub returns-then-not-is_empty-clause-depth : goal.returns-then-not-is_empty-clause-depth
returns-then-not-is_empty-clause-depth c = ap (λ (l : WordLogState). l.depth) c.self.view_is

pub returns-then-not-is_empty-clause-tests : goal.returns-then-not-is_empty-clause-tests
returns-then-not-is_empty-clause-tests c = ap (λ (l : WordLogState). l.tests) c.self.view_is

pub returns-then-not-is_empty-clause-undone : goal.returns-then-not-is_empty-clause-undone
returns-then-not-is_empty-clause-undone c = ap (λ (l : WordLogState). l.undone) c.self.view_is

pub returns-then-not-is_empty-clause-outside : goal.returns-then-not-is_empty-clause-outside
returns-then-not-is_empty-clause-outside c = λ out. absurd (false≢true (sym out ∙ (ap (λ (l : WordLogState). is_inside l.tests) (sym c.self.view_is) ∙ inside c)))

pub returns-then-not-is_empty-clause-few : goal.returns-then-not-is_empty-clause-few
returns-then-not-is_empty-clause-few c =
    subst (λ (l : WordLogState). length c.keep.new.done.items ≤ length l.done + count (memory_in c.args.memories.now c.args.memory).words.shape + 1) c.self.view_is (few c)

pub returns-then-not-is_empty-clause-around : goal.returns-then-not-is_empty-clause-around
returns-then-not-is_empty-clause-around c =
    λ now a.
    let f : List StoredMemory = c.args.memories.now in
    let d = c.self.inside.done.items in
    kept_around (reverse c.self.inside.tests.items) d c.self.inside.undone.items c.keep.new.done.items (kept c).entries now f c.self.invariant.around (kept c).are.added (kept_undone f now c.args.memory c.args.index.now c.requires.place a d c.keep.new.done.items (kept c))
    ∙ ap (λ (l : WordLogState). around l f) c.self.view_is

pub returns-else-not-is_empty-clause-fits : goal.returns-else-not-is_empty-clause-fits
returns-else-not-is_empty-clause-fits c = c.requires.fits

pub returns-else-not-is_empty-clause-around : goal.returns-else-not-is_empty-clause-around
returns-else-not-is_empty-clause-around c =
    λ now a.
    let f : List StoredMemory = c.args.memories.now in
    let d = c.self.inside.done.items in
    let u = c.self.inside.undone.items in
    let empty : vec_len c.self.inside.tests ≡ 0 = eqb-true (vec_len c.self.inside.tests) 0 (sym c.is_empty.ensures ∙ c.if-not-is_empty.false) in
    let none : reverse c.self.inside.tests.items ≡ [] = nil_from_length (reverse c.self.inside.tests.items) (omega (arith, length-reverse c.self.inside.tests.items, empty)) in
    sym (ap (λ (l : WordLogState). around l now) c.self.view_is) ∙ ap (λ zs. tests_of zs d u now) none ∙ sym (ap (λ zs. tests_of zs d u f) none) ∙ ap (λ (l : WordLogState). around l f) c.self.view_is
