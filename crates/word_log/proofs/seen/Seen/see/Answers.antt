use Rattle.std.proofs.Common.{◌≡◌, ◌<◌, ◌==◌, ◌&&◌, ◌||◌, not, ℕ, ap, length, set, sym, arith, ◌∙◌}
use Rattle.std.proofs.lemmas.List.{get_or_default, length-map}
use Rattle.index_sets.specs.Members.{Members}
use Rattle.word_log.specs.Seen.{SeenWords, seen_sizes, sees_memory, sees_word, words_seen}
use Rattle.word_log.proofs.SeenSets.{has_new, no_set, same_sizes, seen_kept, was_new, word_seen, word_was_new}
use Rattle.word_log.proofs.seen.Seen.see.Goals as goal
use Rattle.word_log.proofs.seen.Seen.see.Goals.{After-self-1}

inside : (c : After-self-1) → c.args.memory < length c.self.inside.words.items
inside c =
    let size : length (seen_sizes c.args.self.now) ≡ length c.self.inside.words.items = ap (λ (s : SeenWords). length (seen_sizes s)) (sym c.self.view_is) ∙ length-map c.self.inside.words.items (λ (w : Members). w.size) in
    let below = c.requires.memory in
    omega (arith, size, below)

was : (c : After-self-1) → c.index_mut.result.now.items ≡ words_seen c.self.inside.words.items c.args.memory
was c = ap (λ (w : Members). w.items) (c.index_mut.ensures.value ∙ get_or_default c.self.inside.words.items c.args.memory c.index_mut.result.now no_set (inside c))

memories : (c : After-self-1) → (i : ℕ) → sees_memory (record { memories = c.insert.new.self; words = set c.self.inside.words.items c.args.memory c.insert-2.new.self }) i ≡ (sees_memory c.args.self.now i || (c.args.memory == i))
memories c i =
    has_new c.self.inside.memories.items c.insert.new.self.items c.args.memory c.insert.result c.insert.ensures.there c.insert.ensures.items i
    ∙ ap (λ (s : SeenWords). sees_memory s i || (c.args.memory == i)) c.self.view_is

pub invariant_of-self : goal.invariant_of-self
invariant_of-self c =
    seen_kept c.self.inside.memories c.insert.new.self c.self.inside.words.items c.args.memory c.insert-2.new.self c.self.invariant c.insert.ensures.size (has_new c.self.inside.memories.items c.insert.new.self.items c.args.memory c.insert.result c.insert.ensures.there c.insert.ensures.items) (inside c)

pub returns-clause-of_memory : goal.returns-clause-of_memory
returns-clause-of_memory c =
    was_new c.self.inside.memories.items c.insert.new.self.items c.args.memory c.insert.result c.insert.ensures.there c.insert.ensures.items
    ∙ ap (λ (s : SeenWords). not (sees_memory s c.args.memory)) c.self.view_is

pub returns-clause-of_word : goal.returns-clause-of_word
returns-clause-of_word c =
    word_was_new c.self.inside.words.items c.args.memory c.args.place c.index_mut.result.now c.insert-2.new.self c.insert-2.result (inside c) (was c) c.insert-2.ensures.there c.insert-2.ensures.items
    ∙ ap (λ (s : SeenWords). not (sees_word s (c.args.memory, c.args.place))) c.self.view_is

pub returns-clause-memories : goal.returns-clause-memories
returns-clause-memories c = memories c

pub returns-clause-words : goal.returns-clause-words
returns-clause-words c = λ k.
    word_seen c.self.inside.words.items c.args.memory c.args.place c.index_mut.result.now c.insert-2.new.self c.insert-2.result (inside c) (was c) c.insert-2.ensures.there c.insert-2.ensures.items k
    ∙ ap (λ (s : SeenWords). sees_word s k || ((c.args.memory == k.0) && (c.args.place == k.1))) c.self.view_is

pub returns-clause-sizes : goal.returns-clause-sizes
returns-clause-sizes c =
    same_sizes c.self.inside.words.items c.args.memory c.index_mut.result.now c.insert-2.new.self (inside c) c.index_mut.ensures.value c.insert-2.ensures.size
    ∙ ap seen_sizes c.self.view_is
