use Rattle.std.proofs.Common.{◌≡◌, ◌<◌, ap, arith, length, ◌∙◌}
use Rattle.std.proofs.lemmas.List.{get_or_default}
use Rattle.index_sets.specs.Members.{Members}
use Rattle.word_log.proofs.SeenSets.{no_set}
use Rattle.written_words.specs.Written.{WrittenState, range_at}
use Rattle.written_words.proofs.Adding.{set_size, sets_length}
use Rattle.written_words.proofs.words.WrittenWords.place.Goals as goal

pub returns-clause-below : goal.returns-clause-below
returns-clause-below c =
    let words = c.self.inside.words.items in
    let ranges = c.self.inside.ranges.items in
    let m = c.args.memory in
    let sizes = c.self.invariant.sizes in
    let here : m < length ranges = let q = c.requires.memory in let same = ap (λ (w : WrittenState). length w.ranges) c.self.view_is in omega (arith, q, same) in
    let inside : m < length words = let count = sets_length words ranges sizes in omega (arith, here, count) in
    let size : c.index.result.now.size ≡ (range_at c.args.self.now.ranges m).count =
    ap (λ (s : Members). s.size) (c.index.ensures ∙ get_or_default words m c.index.result.now no_set inside) ∙ set_size words ranges m sizes ∙ ap (λ (w : WrittenState). (range_at w.ranges m).count) c.self.view_is in
    let below = c.get.ensures.below in
    omega (arith, below, size)

pub returns-clause-small : goal.returns-clause-small
returns-clause-small c =
    let m = c.args.memory in
    let here : m < length c.self.inside.ranges.items = let q = c.requires.memory in let same = ap (λ (w : WrittenState). length w.ranges) c.self.view_is in omega (arith, q, same) in
    let small = c.self.invariant.small m here in
    let least = ap (λ (w : WrittenState). (range_at w.ranges m).least) c.self.view_is in
    let count = ap (λ (w : WrittenState). (range_at w.ranges m).count) c.self.view_is in
    let below = returns-clause-below c in
    omega (arith, small, least, count, below)
