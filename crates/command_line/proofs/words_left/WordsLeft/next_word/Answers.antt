use Rattle.std.proofs.Common.{◌≡◌, ℕ, ◌+◌, List, [], ◌∷◌, drop, Option, Some, None, slice_get, IfSome, Bor, add-one, drop-cons}
use Rattle.std.proofs.lemmas.Option.{slice_get_within, get_or_from_slice_get}
use Rattle.std.specs.Option.{option_copied}
use Rattle.command_line.proofs.words_left.WordsLeft.next_word.Goals as goal

-- the word at a place is the first of the words from there on
drop_at : (words : List (List ℕ)) (place : ℕ) (word : List ℕ) → slice_get words place ≡ Some word → drop place words ≡ word ∷ drop (place + 1) words
drop_at words place word is_there =
    let within = slice_get_within words place word is_there in
    let is_word = get_or_from_slice_get words place word [] is_there in
    rw (add-one, drop-cons words place [], is_word)

first_left : (words : List (List ℕ)) (place : ℕ) (found : Option (Bor (List ℕ))) → option_copied found ≡ slice_get words place → IfSome found (λ word. drop place words ≡ word.now ∷ drop (place + 1) words)
first_left words place None is_there = tt
first_left words place (Some word) is_there = drop_at words place word.now (cc)

pub returns-clause-word : goal.returns-clause-word
returns-clause-word c = first_left c.args.self.now.words.now c.args.self.now.place c.get-word.result c.get-word.ensures.value
