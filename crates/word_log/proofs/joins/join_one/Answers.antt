use Rattle.std.proofs.Common.{◌≡◌, ◌==◌, ◌&&◌, ◌||◌, Bool, true, false, if◌then◌else◌, List, ℕ, ap, get_or, length, refl, set, subst, sym, ◌∙◌}
use Rattle.std.proofs.lemmas.List.{get_or_default}
use Rattle.known_state.specs.Join.{joined}
use Rattle.memory_rebuild.specs.body_replay.KnownBits.{KnownBits}
use Rattle.memory_rebuild.proofs.Joins.{length-joined}
use Rattle.word_log.specs.declared.entry.OverwrittenWord.{OverwrittenWord}
use Rattle.word_log.specs.declared.memory.StoredMemory.{StoredMemory}
use Rattle.word_log.specs.Entries.{Fits, flags, put, words}
use Rattle.word_log.specs.Memories.{SameShapes, memory_in, with_word, word_in}
use Rattle.word_log.specs.Seen.{sees_memory, sees_word}
use Rattle.word_log.proofs.Merging.{flag_left, joined_one, word_left}
use Rattle.word_log.proofs.Shapes.{no_stored, put_shapes}
use Rattle.word_log.proofs.SeenSets.{or_false}
use Rattle.word_log.proofs.Undone.{flags_read, words_read}
use Rattle.word_log.proofs.joins.join_one.Goals as goal
use Rattle.word_log.proofs.joins.join_one.Goals.{After-join}

was : (c : After-join) → get_or c.args.memories.now c.args.entry.now.memory c.index-memories-entry.result ≡ memory_in c.args.memories.now c.args.entry.now.memory
was c = get_or_default c.args.memories.now c.args.entry.now.memory c.index-memories-entry.result no_stored c.requires.fit.inside

-- the bits that are left, and the flag
abbrev left_bits : After-join → KnownBits
left_bits c =
    let old : KnownBits = word_in (memory_in c.args.memories.now c.args.entry.now.memory) c.args.entry.now.place in
    if c.see-first.result.word then joined c.args.entry.now.value.bits old else old

abbrev left_flag : After-join → Bool
left_flag c = (memory_in c.args.memories.now c.args.entry.now.memory).written || (c.see-first.result.memory && c.args.entry.now.written)

abbrev left : After-join → OverwrittenWord
left c =
    record { memory = c.args.entry.now.memory; place = c.args.entry.now.place; value = record { bits = left_bits c; signed = c.args.entry.now.value.signed; blame = 0 }; written = left_flag c }

wide : (c : After-join) → length (left_bits c) ≡ (memory_in c.args.memories.now c.args.entry.now.memory).words.shape.width
wide c = go c.see-first.result.word
  where
    old : length (word_in (memory_in c.args.memories.now c.args.entry.now.memory) c.args.entry.now.place) ≡ (memory_in c.args.memories.now c.args.entry.now.memory).words.shape.width
    old = subst (λ y. length (word_in y c.args.entry.now.place) ≡ y.words.shape.width) (was c) c.join.ensures.width

    go : (t : Bool) → length (if t then joined c.args.entry.now.value.bits (word_in (memory_in c.args.memories.now c.args.entry.now.memory) c.args.entry.now.place) else word_in (memory_in c.args.memories.now c.args.entry.now.memory) c.args.entry.now.place) ≡ (memory_in c.args.memories.now c.args.entry.now.memory).words.shape.width
    go true = length-joined c.args.entry.now.value.bits (word_in (memory_in c.args.memories.now c.args.entry.now.memory) c.args.entry.now.place) (memory_in c.args.memories.now c.args.entry.now.memory).words.shape.width c.requires.fit.width old
    go false = old

is : (c : After-join) → set c.args.memories.now c.args.entry.now.memory c.join.new.self ≡ put (left c) c.args.memories.now
is c =
    let e : OverwrittenWord = c.args.entry.now in
    ap (set c.args.memories.now e.memory)
    (c.join.ensures.stored ∙ ap (λ r. with_word r e.place (if c.see-first.result.word then joined e.value.bits (word_in r e.place) else word_in r e.place) (r.written || (c.see-first.result.memory && e.written))) (was c))

fits : (c : After-join) → Fits c.args.memories.now (left c)
fits c = record { inside = c.requires.fit.inside; place = c.requires.fit.place; listed = c.requires.fit.listed; held = c.requires.fit.held; width = wide c; sign_is = c.requires.fit.sign_is }

pub returns-clause-words : goal.returns-clause-words
returns-clause-words c =
    let rs : List StoredMemory = c.args.memories.now in
    let e : OverwrittenWord = c.args.entry.now in
    joined_one (ℕ × ℕ) KnownBits words words_read e (left c) (sees_word c.args.seen.now) rs (set rs e.memory c.join.new.self) c.requires.fit (fits c) (λ k. refl) (word_left rs e (sees_word c.args.seen.now) c.see-first.result.word (left_bits c) c.see-first.ensures.of_word refl) (is c)

pub returns-clause-flags : goal.returns-clause-flags
returns-clause-flags c =
    let rs : List StoredMemory = c.args.memories.now in
    let e : OverwrittenWord = c.args.entry.now in
    joined_one ℕ Bool flags flags_read e (left c) (sees_memory c.args.seen.now) rs (set rs e.memory c.join.new.self) c.requires.fit (fits c) (λ k. refl) (flag_left rs e (sees_memory c.args.seen.now) c.see-first.result.memory (left_flag c) c.see-first.ensures.of_memory refl) (is c)

pub returns-clause-seen_words : goal.returns-clause-seen_words
returns-clause-seen_words c = λ k.
    c.see-first.ensures.words k ∙ ap (λ t. sees_word c.args.seen.now k || t) (sym (or_false ((c.args.entry.now.memory == k.0) && (c.args.entry.now.place == k.1))))

pub returns-clause-seen_memories : goal.returns-clause-seen_memories
returns-clause-seen_memories c = λ i.
    c.see-first.ensures.memories i ∙ ap (λ t. sees_memory c.args.seen.now i || t) (sym (or_false (c.args.entry.now.memory == i)))

pub returns-clause-shapes : goal.returns-clause-shapes
returns-clause-shapes c = subst (SameShapes c.args.memories.now) (sym (is c)) (put_shapes c.args.memories.now (left c) (fits c))
