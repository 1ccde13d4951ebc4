use Rattle.std.proofs.Common.{◌≡◌, drop}
use Rattle.std.specs.Prelude.{bytes_eq}
use Rattle.std.specs.List.{find}
use Rattle.point_words.specs.Words.{line_word_text, line_word_of, line_words}
use Rattle.point_words.proofs.line_word.LineWord.of_text.Given as goal

abbrev pub invariant-loop-word : goal.invariant-loop-word
invariant-loop-word l = find (λ one. bytes_eq (line_word_text one) l.text) (drop l.word-index line_words) ≡ line_word_of l.text
