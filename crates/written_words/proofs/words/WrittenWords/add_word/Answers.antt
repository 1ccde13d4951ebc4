use Rattle.std.proofs.Common.{◌≡◌, ◌+◌, ◌<◌, ◌==◌, ◌&&◌, ◌||◌, ap, get_or, length, List, set, subst, sym, arith, ◌∙◌}
use Rattle.std.proofs.lemmas.List.{get_or_default}
use Rattle.index_sets.specs.Members.{Members}
use Rattle.word_log.specs.Seen.{words_seen}
use Rattle.word_log.proofs.SeenSets.{has_new, no_set, same_sizes, seen_kept, word_seen}
use Rattle.written_words.specs.Written.{WrittenState, has_word, is_followed, no_range, range_at}
use Rattle.written_words.specs.declared.range.WordRange.{WordRange}
use Rattle.written_words.proofs.Adding.{now_inside, now_within, place_below, set_size, sets_length, word_added}
use Rattle.written_words.proofs.words.WrittenWords.add_word.Goals as goal

pub insert-requires : goal.insert-requires
insert-requires c =
    let words = c.self.inside.words.items in
    let ranges = c.self.inside.ranges.items in
    let m = c.args.memory in
    let r = c.in-Some.range.now in
    let sizes = c.self.invariant.sizes in
    let here : m < length ranges = subst (λ (xs : List WordRange). m < length xs) c.deref.ensures.value c.in-Some.ensures.lookup.3.0 in
    let inside : m < length words = let count = sets_length words ranges sizes in omega (arith, here, count) in
    let is : range_at ranges m ≡ r = ap (λ (xs : List WordRange). get_or xs m no_range) (sym c.deref.ensures.value) ∙ sym (c.in-Some.ensures.lookup.3.1 no_range) in
    let size : c.index_mut.result.now.size ≡ r.count = ap (λ (s : Members). s.size) (c.index_mut.ensures.value ∙ get_or_default words m c.index_mut.result.now no_set inside) ∙ set_size words ranges m sizes ∙ ap (λ (z : WordRange). z.count) is in
    let below = place_below r c.args.index c.in-Some-place_of.place c.in-Some-place_of.ensures.0 c.in-Some-place_of.ensures.1 in
    omega (arith, below, size)

pub invariant_of-self : goal.invariant_of-self
invariant_of-self c =
    let words = c.self.inside.words.items in
    let ranges = c.self.inside.ranges.items in
    let m = c.args.memory in
    let old = c.self.invariant in
    let here : m < length ranges = subst (λ (xs : List WordRange). m < length xs) c.deref.ensures.value c.in-Some.ensures.lookup.3.0 in
    let inside : m < length words = let count = sets_length words ranges old.sizes in omega (arith, here, count) in
    let listed = c.insert-in-Some-place_of in
    let kept = seen_kept c.self.inside.memories listed.new.self words m c.insert.new.self (record { count = old.count; unseen = old.unlisted }) listed.ensures.size (has_new c.self.inside.memories.items listed.new.self.items m listed.result listed.ensures.there listed.ensures.items) inside in
    record {
      count = kept.count;
      sizes = same_sizes words m c.index_mut.result.now c.insert.new.self inside c.index_mut.ensures.value c.insert.ensures.size ∙ old.sizes;
      unlisted = kept.unseen;
      within = λ k e. now_within ranges c.self.inside.memories.items listed.new.self.items m old.within here (has_new c.self.inside.memories.items listed.new.self.items m listed.result listed.ensures.there listed.ensures.items) k e;
      inside =
          let r = c.in-Some.range.now in
          let is : range_at ranges m ≡ r = ap (λ (xs : List WordRange). get_or xs m no_range) (sym c.deref.ensures.value) ∙ sym (c.in-Some.ensures.lookup.3.1 no_range) in
          let was : c.index_mut.result.now.items ≡ words_seen words m = ap (λ (w : Members). w.items) (c.index_mut.ensures.value ∙ get_or_default words m c.index_mut.result.now no_set inside) in
          λ k i e. now_inside ranges words (set words m c.insert.new.self) m c.in-Some-place_of.place old.inside
          (let below = place_below r c.args.index c.in-Some-place_of.place c.in-Some-place_of.ensures.0 c.in-Some-place_of.ensures.1 in let size = ap (λ (z : WordRange). z.count) is in omega (arith, below, size))
          (word_seen words m c.in-Some-place_of.place c.index_mut.result.now c.insert.new.self c.insert.result inside was c.insert.ensures.there c.insert.ensures.items) k i e;
      small = old.small;
    }

pub returns-in-Some-place_of-clause-words : goal.returns-in-Some-place_of-clause-words
returns-in-Some-place_of-clause-words c = λ k i.
    let words = c.self.inside.words.items in
    let ranges = c.self.inside.ranges.items in
    let m = c.args.memory in
    let r = c.in-Some.range.now in
    let here : m < length ranges = subst (λ (xs : List WordRange). m < length xs) c.deref.ensures.value c.in-Some.ensures.lookup.3.0 in
    let inside : m < length words = let count = sets_length words ranges c.self.invariant.sizes in omega (arith, here, count) in
    let is : range_at ranges m ≡ r = ap (λ (xs : List WordRange). get_or xs m no_range) (sym c.deref.ensures.value) ∙ sym (c.in-Some.ensures.lookup.3.1 no_range) in
    let was : c.index_mut.result.now.items ≡ words_seen words m = ap (λ (w : Members). w.items) (c.index_mut.ensures.value ∙ get_or_default words m c.index_mut.result.now no_set inside) in
    let w : WrittenState = record { first = c.self.inside.first; ranges = ranges; memories = c.self.inside.memories; words = words } in
    let q = c.in-Some-place_of.place in
    word_added w (set words m c.insert.new.self) m q c.args.index r is c.in-Some-place_of.ensures.1
    (word_seen words m q c.index_mut.result.now c.insert.new.self c.insert.result inside was c.insert.ensures.there c.insert.ensures.items) k i
    ∙ ap (λ (s : WrittenState). has_word s k i || (is_followed s k i && ((s.first + m == k) && (c.args.index == i)))) c.self.view_is
