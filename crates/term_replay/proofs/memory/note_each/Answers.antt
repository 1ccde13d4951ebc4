use Rattle.std.proofs.Common.{◌≡◌, ◌∙◌, ◌+◌, ◌-◌, ◌≤◌, ap, arith, max, min, subst}
use Rattle.std.specs.List.{range_with_len}
use Rattle.body_replay.specs.Store.{may_name}
use Rattle.body_replay.specs.Replay.{perhaps_marks}
use Rattle.term_replay.specs.Noted.{Adds, access_spot}
use Rattle.term_replay.proofs.NotedWords.{adds_word, words_from}
use Rattle.term_replay.proofs.memory.note_each.Goals as goal

pub loop-word-preserved : goal.loop-word-preserved
loop-word-preserved g c = λ m is.
    let low = c.min-low.result in
    let word = c.loop-word.word in
    let next : (word - low) + 1 ≡ word + 1 - low = omega arith in
    let at_least : min m.first m.last ≤ word = omega (arith, c.min-low.ensures, is.first, is.last) in
    let at_most : word ≤ max m.first m.last = omega (arith, c.max-high.ensures, is.first, is.last) in
    subst (λ k. Adds g.N.Notes.noted c.args.notes.now (perhaps_marks (access_spot c.args.access c.args.memory) (may_name m c.args.index.now.signed c.args.index.now.bits) (range_with_len low k) c.args.thing) c.note_if_named.new.notes) next
    (adds_word g.N.Notes.noted (access_spot c.args.access c.args.memory) (may_name m c.args.index.now.signed c.args.index.now.bits) low word c.args.thing _ _ _ (word - low) (omega arith) (c.loop-word.invariant m is) (c.note_if_named.ensures m at_least at_most))

pub returns : goal.returns
returns g c = λ m is.
    let low = c.min-low.result in
    let high = c.max-high.result in
    let last : c.loop-word.word - low ≡ high + 1 - low = omega (arith, c.min-low.ensures, c.max-high.ensures) in
    subst (λ ks. Adds g.N.Notes.noted c.args.notes.now (perhaps_marks (access_spot c.args.access c.args.memory) (may_name m c.args.index.now.signed c.args.index.now.bits) ks c.args.thing) c.loop-word.notes) (ap (range_with_len low) last ∙ words_from c.args.words m low high is c.min-low.ensures c.max-high.ensures) (c.loop-word.invariant m is)
