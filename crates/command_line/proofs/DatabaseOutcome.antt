-- What the words of a command that reads databases come to, as a function of them: so they come to one thing only.
use Rattle.std.proofs.Common.{◌≡◌, ◌∙◌, ℕ, ◌==◌, ◌&&◌, Bool, cond, true, false, sym, ap, refl, inl, inr, List, [], ◌∷◌, ◌++◌, length, append_assoc, append-nil, Option, Some, None, Result, Ok, Err, codes}
use Rattle.std.proofs.lemmas.Bool.{and_from, and_left, and_right, cases_Bool}
use Rattle.command_line.specs.declared.database_command.DatabaseCommand.{DatabaseCommand}
use Rattle.command_line.specs.declared.database_option.DatabaseOption.{DatabaseOption}
use Rattle.command_line.specs.declared.usage_fault.UsageFault.{UsageFault}
use Rattle.command_line.specs.declared.usage_fault.UsageFault.TheVariants.{NoCommand, UnknownCommand, UnknownWord, GivenTwice, NeedsValue, BadValue, Missing}
use Rattle.command_line.specs.DatabaseFault.{missing_in, DatabaseFaultAfter, IsNoDatabase}
use Rattle.command_line.specs.DatabaseOption.{accepts, has_room, is_database_name, option_text, takes_value}
use Rattle.command_line.specs.DatabaseWords.{Item, file, given, value_words, spelled, files_in, may_follow, AreItems}
use Rattle.command_line.specs.UsageFault.{usage_text}
use Rattle.command_line.proofs.DatabaseOptions.{empty_value, named, named_none, named_option, no_option_text}

-- what words come to: items, or the text of a fault
abbrev pub Outcome : Type 0
Outcome = Result (List Item) (List ℕ)

-- a database can come after the items
abbrev pub has_place : DatabaseCommand → List Item → List ℕ → Bool
has_place command items word = is_database_name word && has_room command (length (files_in items) == 0)

-- at the end of the words
abbrev pub at_end : List Item → Option (List ℕ) → Outcome
at_end items None = Ok items
at_end items (Some word) = Err (codes "missing " ++ word)

-- at a word that is this option, if any: what comes next if it is a database, or an option that may follow
abbrev pub at_word : DatabaseCommand → List Item → List ℕ → Option DatabaseOption → Outcome → (DatabaseOption → Outcome) → Outcome
at_word command items word None next_file next_option = cond (has_place command items word) next_file (Err (codes "unknown word " ++ word))
at_word command items word (Some option) next_file next_option = cond (may_follow items option) (next_option option) (Err (word ++ codes " given twice"))

-- after items
abbrev pub outcome : DatabaseCommand → List Item → List (List ℕ) → Outcome
outcome command items [] = at_end items (missing_in command items)
outcome command items (word ∷ []) =
    at_word command items word (named command word) (outcome command (items ++ file word ∷ []) [])
    (λ option. cond (takes_value option) (Err (word ++ codes " needs a value")) (outcome command (items ++ given option [] ∷ []) []))
outcome command items (word ∷ value ∷ left) =
    at_word command items word (named command word) (outcome command (items ++ file word ∷ []) (value ∷ left))
    (λ option. cond (takes_value option) (cond (accepts option value) (outcome command (items ++ given option value ∷ []) left) (Err (codes "bad value " ++ value))) (outcome command (items ++ given option [] ∷ []) (value ∷ left)))

-- a database is read
outcome-file : (command : DatabaseCommand) (items : List Item) (word : List ℕ) (rest : List (List ℕ)) → named command word ≡ None → has_place command items word ≡ true → outcome command items (word ∷ rest) ≡ outcome command (items ++ file word ∷ []) rest
outcome-file command items word [] none has = rw (none, has)
outcome-file command items word (value ∷ left) none has = rw (none, has)

-- an option without a value is read
outcome-flag : (command : DatabaseCommand) (items : List Item) (word : List ℕ) (option : DatabaseOption) (rest : List (List ℕ)) → named command word ≡ Some option → may_follow items option ≡ true → takes_value option ≡ false → outcome command items (word ∷ rest) ≡ outcome command (items ++ given option [] ∷ []) rest
outcome-flag command items word option [] is may none = rw (is, may, none)
outcome-flag command items word option (value ∷ left) is may none = rw (is, may, none)

-- an option is read with its value
outcome-given : (command : DatabaseCommand) (items : List Item) (word : List ℕ) (option : DatabaseOption) (value : List ℕ) (rest : List (List ℕ)) → named command word ≡ Some option → may_follow items option ≡ true → accepts option value ≡ true → outcome command items (word ∷ value_words option value ++ rest) ≡ outcome command (items ++ given option value ∷ []) rest
outcome-given command items word option value rest is may form =
    elim (cases_Bool (takes_value option)) [ inl takes ↦ with_value takes | inr none ↦ without none ]
  where
    with_value : takes_value option ≡ true → outcome command items (word ∷ value_words option value ++ rest) ≡ outcome command (items ++ given option value ∷ []) rest
    with_value takes = ap (λ b. outcome command items (word ∷ cond b (value ∷ []) [] ++ rest)) takes ∙ rw (is, may, takes, form)

    without : takes_value option ≡ false → outcome command items (word ∷ value_words option value ++ rest) ≡ outcome command (items ++ given option value ∷ []) rest
    without none =
        ap (λ b. outcome command items (word ∷ cond b (value ∷ []) [] ++ rest)) none ∙ outcome-flag command items word option rest is may none
        ∙ ap (λ v. outcome command (items ++ given option v ∷ []) rest) (sym (empty_value option value none form))

-- items are read one by one
outcome-spelled : (command : DatabaseCommand) (front more : List Item) (left : List (List ℕ)) → AreItems command front more → outcome command front (spelled more ++ left) ≡ outcome command (front ++ more) left
outcome-spelled command front [] left are = ap (λ items. outcome command items left) (sym (append-nil front))
outcome-spelled command front (file word ∷ more) left are =
    outcome-file command front word (spelled more ++ left) (named_none command word (λ option is. no_option_text word are.0.0 option is.1)) (and_from (is_database_name word) (has_room command (length (files_in front) == 0)) are.0.0 are.0.1)
    ∙ outcome-spelled command (front ++ file word ∷ []) more left are.1
    ∙ ap (λ items. outcome command items left) (append_assoc front (file word ∷ []) more)
outcome-spelled command front (given option value ∷ more) left are =
    ap (λ words. outcome command front (option_text option ∷ words)) (append_assoc (value_words option value) (spelled more) left)
    ∙ outcome-given command front (option_text option) option value (spelled more ++ left) (named_option command option (option_text option) (are.0.0, refl)) are.0.1 are.0.2
    ∙ outcome-spelled command (front ++ given option value ∷ []) more left are.1
    ∙ ap (λ items. outcome command items left) (append_assoc front (given option value ∷ []) more)

pub outcome-up_to : (command : DatabaseCommand) (items : List Item) (left : List (List ℕ)) → AreItems command [] items → outcome command [] (spelled items ++ left) ≡ outcome command items left
outcome-up_to command items left are = outcome-spelled command [] items left are

-- ---- faults

no_place : (command : DatabaseCommand) (items : List Item) (word : List ℕ) → IsNoDatabase command items word → has_place command items word ≡ false
no_place command items word (inl none) = and_left (is_database_name word) (has_room command (length (files_in items) == 0)) none
no_place command items word (inr full) = and_right (is_database_name word) (has_room command (length (files_in items) == 0)) full

outcome-unknown : (command : DatabaseCommand) (items : List Item) (word : List ℕ) (rest : List (List ℕ)) → named command word ≡ None → has_place command items word ≡ false → outcome command items (word ∷ rest) ≡ Err (codes "unknown word " ++ word)
outcome-unknown command items word [] none full = rw (none, full)
outcome-unknown command items word (value ∷ left) none full = rw (none, full)

outcome-twice : (command : DatabaseCommand) (items : List Item) (word : List ℕ) (option : DatabaseOption) (rest : List (List ℕ)) → named command word ≡ Some option → may_follow items option ≡ false → outcome command items (word ∷ rest) ≡ Err (word ++ codes " given twice")
outcome-twice command items word option [] is has = rw (is, has)
outcome-twice command items word option (value ∷ left) is has = rw (is, has)

pub outcome-fault : (command : DatabaseCommand) (items : List Item) (left : List (List ℕ)) (fault : UsageFault) → DatabaseFaultAfter command items left fault → outcome command items left ≡ Err (usage_text fault)
outcome-fault command items left NoCommand h = absurd h
outcome-fault command items left (UnknownCommand word) h = absurd h
outcome-fault command items left (UnknownWord word) h = ap (outcome command items) h.1 ∙ outcome-unknown command items word.now h.0 (named_none command word.now h.2) (no_place command items word.now h.3)
outcome-fault command items left (GivenTwice word) h = ap (outcome command items) h.2 ∙ outcome-twice command items word.now h.0 h.1 (named_option command h.0 word.now h.3) h.4
outcome-fault command items left (NeedsValue word) h = ap (outcome command items) h.1 ∙ rw (named_option command h.0 word.now h.2.0, h.2.1, h.2.2)
outcome-fault command items left (BadValue value) h = ap (outcome command items) h.3 ∙ rw (named_option command h.0 h.1 h.4.0, h.4.1, h.4.2, h.5)
outcome-fault command items left (Missing word) h = ap (outcome command items) h.0 ∙ ap (at_end items) h.1
