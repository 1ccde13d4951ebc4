-- What is known of the words that are not written.
use Rattle.std.specs.Prelude.{◌≡◌, ℕ, true, false}
use Rattle.design_model.specs.event_machine.Cell.{Cell}
use Rattle.design_model.specs.BodyLaws.{word_indexes}
use Rattle.design_model.specs.Design.{Design, In, is_memory, word_cells}
use Rattle.body_replay.specs.Store.{Kept}
use Rattle.written_words.specs.Written.{WrittenState, has_word, is_followed}

-- of each followed word that is not written the same is known
abbrev pub SameUnwritten : Design → Kept → Kept → WrittenState → Type 0
SameUnwritten d old new w =
    (m i : ℕ) (c : Cell) → is_memory d m ≡ true → In i (word_indexes d m) → is_followed w m i ≡ true → has_word w m i ≡ false → In c (word_cells d m i) → new c ≡ old c

-- all words of the memory with this number are followed
abbrev pub FollowsAll : Design → WrittenState → ℕ → Type 0
FollowsAll d w m = (i : ℕ) → In i (word_indexes d m) → is_followed w m i ≡ true
