use Rattle.std.proofs.Common.{◌≡◌, ◌<◌, ap, sym, arith, ◌∙◌}
use Rattle.memory_rebuild.specs.Words.{count}
use Rattle.word_log.specs.Keeps.{IsTaken}
use Rattle.word_log.proofs.Keeping.{entry_taken, kept_sure, kept_unsure, named_is, named_which, named_word, place_inside}
use Rattle.word_log.proofs.kept.keep.Goals as goal

pub entry-requires : goal.entry-requires
entry-requires c =
    place_inside c.args.stored.now.words.shape c.args.index.now c.place_of.result c.unwrap_or-place.result (sym c.is_whole.ensures ∙ c.if-is_whole.true) c.place_of.ensures c.unwrap_or-place.ensures

pub returns-then-is_whole-clause-kept : goal.returns-then-is_whole-clause-kept
returns-then-is_whole-clause-kept c =
    let r = c.args.stored.now in
    let s = r.words.shape in
    let m = c.args.memory in
    let index = c.args.index.now in
    let place = c.unwrap_or-place.result in
    let e = c.entry.result in
    let sure = sym c.is_whole.ensures ∙ c.if-is_whole.true in
    let inside : place < count s = place_inside s index c.place_of.result place sure c.place_of.ensures c.unwrap_or-place.ensures in
    let taken : IsTaken r m e = entry_taken r m place e inside c.entry.ensures.value c.entry.ensures.width c.entry.ensures.size in
    let same : e.place ≡ place = ap (λ y. y.place) c.entry.ensures.value in
    kept_sure r m index c.args.done.now.items c.push_reserved.new.self.items e (named_word s index c.place_of.result place sure c.place_of.ensures c.unwrap_or-place.ensures) sure taken c.entry.ensures.size c.push_reserved.ensures.items
    (named_is s index c.place_of.result place sure c.place_of.ensures c.unwrap_or-place.ensures)
    (named_which s index c.place_of.result e.place sure c.place_of.ensures (same ∙ c.unwrap_or-place.ensures))

pub returns-else-is_whole-clause-kept : goal.returns-else-is_whole-clause-kept
returns-else-is_whole-clause-kept c =
    let r = c.args.stored.now in
    let m = c.args.memory in
    let e = c.entry-else-is_whole.result in
    let inside : 0 < count r.words.shape = omega arith in
    let taken : IsTaken r m e = entry_taken r m 0 e inside c.entry-else-is_whole.ensures.value c.entry-else-is_whole.ensures.width c.entry-else-is_whole.ensures.size in
    kept_unsure r m c.args.index.now c.args.done.now.items c.push_reserved-else-is_whole.new.self.items c.keep_named.new.done.items e (sym c.is_whole.ensures ∙ c.if-is_whole.false) taken c.entry-else-is_whole.ensures.size c.push_reserved-else-is_whole.ensures.items c.keep_named.ensures.kept
