use Rattle.std.proofs.Common.{sym, ◌∙◌, arith}
use Rattle.std.specs.Prelude.{bytes_eq}
use Rattle.point_words.specs.Words.{line_word_text, line_words}
use Rattle.point_words.proofs.Finding.{find_on}
use Rattle.point_words.proofs.line_word.LineWord.of_text.Goals as goal

pub loop-word-preserved : goal.loop-word-preserved
loop-word-preserved c =
    let other = rw (c.as_bytes.ensures.value ∙ c.text.ensures) at (sym c.eq.ensures ∙ c.if-eq.false) in
    sym (find_on (λ one. bytes_eq (line_word_text one) c.args.text.now) line_words c.loop-word.word-index _ (omega arith) other) ∙ c.loop-word.invariant
