-- The words that are left to be read.
use Rattle.std.specs.Prelude.{ℕ, List, drop}
use Rattle.command_line.specs.declared.words_left.WordsLeft.{WordsLeft}

-- the words from the place on
abbrev pub left_words : WordsLeft → List (List ℕ)
left_words left = drop left.place left.words.now
