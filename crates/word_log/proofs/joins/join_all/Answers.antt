use Rattle.std.proofs.Common.{◌≡◌, ◌+◌, ◌<◌, ◌++◌, ◌∷◌, [], Bool, List, ℕ, length, take, arith, ap, refl, subst, sym, ◌∙◌}
use Rattle.std.specs.List.{All}
use Rattle.std.proofs.lemmas.List.{take_more}
use Rattle.std.proofs.lemmas.List.Elements.{All-nil, All-push, All-take}
use Rattle.memory_rebuild.specs.body_replay.KnownBits.{KnownBits}
use Rattle.word_log.specs.declared.entry.OverwrittenWord.{OverwrittenWord}
use Rattle.word_log.specs.declared.memory.StoredMemory.{StoredMemory}
use Rattle.word_log.specs.Entries.{Fits, Joined, Seen, flags, words}
use Rattle.word_log.specs.Seen.{sees_memory, sees_word}
use Rattle.word_log.proofs.Merging.{joined_both, joined_nothing, seen_both, seen_nothing}
use Rattle.word_log.proofs.Shapes.{shapes_both, shapes_self, sizes_same}
use Rattle.word_log.proofs.Undone.{flags_read, words_read}
use Rattle.word_log.proofs.joins.join_all.Goals as goal

pub loop-entry-init : goal.loop-entry-init
loop-entry-init c =
    record {
      of_words = joined_nothing (ℕ × ℕ) KnownBits words words_read (sees_word c.args.seen.now) c.args.memories.now;
      of_flags = joined_nothing ℕ Bool flags flags_read (sees_memory c.args.seen.now) c.args.memories.now;
      seen_words = seen_nothing (ℕ × ℕ) KnownBits words words_read (sees_word c.args.seen.now);
      seen_memories = seen_nothing ℕ Bool flags flags_read (sees_memory c.args.seen.now);
      sizes = refl;
      shapes = shapes_self c.args.memories.now;
    }

pub loop-entry-preserved : goal.loop-entry-preserved
loop-entry-preserved c =
    let l = c.loop-entry in
    let es : List OverwrittenWord = c.args.entries.now in
    let u : List StoredMemory = c.args.memories.now in
    let v : List StoredMemory = l.memories in
    let w : List StoredMemory = c.join_one.new.memories in
    let i : ℕ = l.entry-index in
    let e : OverwrittenWord = c.entry-item.result in
    let first : List OverwrittenWord = take i es in
    let below : i < length es = omega arith in
    let more : take (i + 1) es ≡ first ++ e ∷ [] = take_more es i e below ∙ ap (λ x. first ++ x ∷ []) (sym c.entry-item.is) in
    let fit : All (Fits u) first = All-take (Fits u) i es c.requires.fit in
    let one : All (Fits u) (e ∷ []) = All-push (Fits u) [] e (All-nil (Fits u)) (subst (Fits u) (sym c.entry-item.is) (c.requires.fit i e below)) in
    record {
      of_words = subst (λ fs. Joined words fs (sees_word c.args.seen.now) u w) (sym more) (joined_both (ℕ × ℕ) KnownBits words words_read first (e ∷ []) (sees_word c.args.seen.now) (sees_word l.seen) u v w fit one l.invariant.shapes l.invariant.seen_words l.invariant.of_words c.join_one.ensures.words);
      of_flags = subst (λ fs. Joined flags fs (sees_memory c.args.seen.now) u w) (sym more) (joined_both ℕ Bool flags flags_read first (e ∷ []) (sees_memory c.args.seen.now) (sees_memory l.seen) u v w fit one l.invariant.shapes l.invariant.seen_memories l.invariant.of_flags c.join_one.ensures.flags);
      seen_words = subst (λ fs. Seen words fs (sees_word c.args.seen.now) (sees_word c.join_one.new.seen)) (sym more) (seen_both (ℕ × ℕ) KnownBits words words_read first (e ∷ []) (sees_word c.args.seen.now) (sees_word l.seen) (sees_word c.join_one.new.seen) l.invariant.seen_words c.join_one.ensures.seen_words);
      seen_memories = subst (λ fs. Seen flags fs (sees_memory c.args.seen.now) (sees_memory c.join_one.new.seen)) (sym more) (seen_both ℕ Bool flags flags_read first (e ∷ []) (sees_memory c.args.seen.now) (sees_memory l.seen) (sees_memory c.join_one.new.seen) l.invariant.seen_memories c.join_one.ensures.seen_memories);
      sizes = c.join_one.ensures.sizes ∙ l.invariant.sizes;
      shapes = shapes_both u v w l.invariant.shapes c.join_one.ensures.shapes;
    }

pub join_one-requires-clause-sizes : goal.join_one-requires-clause-sizes
join_one-requires-clause-sizes c =
    c.loop-entry.invariant.sizes ∙ c.requires.sizes ∙ sym (sizes_same c.args.memories.now c.loop-entry.memories c.loop-entry.invariant.shapes)
