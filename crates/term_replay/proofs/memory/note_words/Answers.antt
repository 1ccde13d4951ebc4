use Rattle.std.proofs.Common.{◌∙◌, ap, sym}
use Rattle.std.specs.Option.{unwrap_or}
use Rattle.term_replay.specs.Noted.{access_spot, in_this}
use Rattle.term_replay.proofs.Marking.{adds_same}
use Rattle.term_replay.proofs.NotedWords.{words_whole, words_unsure}
use Rattle.term_replay.proofs.memory.note_words.Goals as goal

pub returns-then-is_whole : goal.returns-then-is_whole
returns-then-is_whole g c = λ m is.
    let at = access_spot c.args.access c.args.memory in
    adds_same g.N.Notes.noted _ _ _ _ (ap (in_this c.args.mode) (words_whole m at c.args.index.now c.value.result c.named.result (c.value.ensures.whole (sym c.is_whole.ensures ∙ c.if-is_whole.true)) (c.named.ensures m is))) c.note_named.ensures

pub returns : goal.returns
returns g c = λ m is.
    adds_same g.N.Notes.noted _ _ _ _ (words_unsure c.args.mode m (access_spot c.args.access c.args.memory) c.args.index.now c.unwrap_or-thing.result (sym c.is_whole.ensures ∙ c.if-is_whole.false) (c.unwrap_or-thing.ensures ∙ ap (unwrap_or c.args.mode) c.blame.ensures.value)) (c.note_each.ensures m is)
