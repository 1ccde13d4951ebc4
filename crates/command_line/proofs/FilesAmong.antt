-- The databases among words, item by item.
use Rattle.std.proofs.Common.{◌≡◌, ◌∙◌, ℕ, Bool, true, false, cond, sym, ap, refl, Bor, inl, inr, List, [], ◌∷◌, ◌++◌, Option, Some, None}
use Rattle.std.proofs.lemmas.Bool.{cases_Bool}
use Rattle.std.specs.Prelude.{IfNone, IfSome}
use Rattle.command_line.specs.declared.database_option.DatabaseOption.{DatabaseOption}
use Rattle.command_line.specs.DatabaseFiles.{file_or_option, files_among}
use Rattle.command_line.specs.DatabaseOption.{option_named, option_text, takes_value}
use Rattle.command_line.specs.DatabaseWords.{value_words}
use Rattle.command_line.proofs.DatabaseOptions.{option_named_text}

-- a word that is no option is a database
pub files_among-file : (word : List ℕ) (rest : List (List ℕ)) → option_named word ≡ None → files_among (word ∷ rest) ≡ word ∷ files_among rest
files_among-file word [] none = ap (λ o. file_or_option word o [] []) none
files_among-file word (next ∷ rest) none = ap (λ o. file_or_option word o (files_among (next ∷ rest)) (files_among rest)) none

-- an option that takes no value is left out
pub files_among-flag : (word : List ℕ) (option : DatabaseOption) (rest : List (List ℕ)) → option_named word ≡ Some option → takes_value option ≡ false → files_among (word ∷ rest) ≡ files_among rest
files_among-flag word option [] is none = ap (λ o. file_or_option word o [] []) is ∙ rw none
files_among-flag word option (next ∷ rest) is none = ap (λ o. file_or_option word o (files_among (next ∷ rest)) (files_among rest)) is ∙ rw none

-- an option is left out with its value
pub files_among-value : (word value : List ℕ) (option : DatabaseOption) (rest : List (List ℕ)) → option_named word ≡ Some option → takes_value option ≡ true → files_among (word ∷ value ∷ rest) ≡ files_among rest
files_among-value word value option rest is takes = ap (λ o. file_or_option word o (files_among (value ∷ rest)) (files_among rest)) is ∙ rw takes

-- there is no database after an option that lacks its value
pub files_among-end : (word : List ℕ) (option : DatabaseOption) → option_named word ≡ Some option → files_among (word ∷ []) ≡ []
files_among-end word option is = ap (λ o. file_or_option word o [] []) is ∙ none_left (takes_value option)
  where
    none_left : (b : Bool) → cond {A = List (List ℕ)} b [] [] ≡ []
    none_left true = refl
    none_left false = refl

-- an option with its value holds no database
pub files_among-given : (option : DatabaseOption) (value : List ℕ) (rest : List (List ℕ)) → files_among (option_text option ∷ value_words option value ++ rest) ≡ files_among rest
files_among-given option value rest =
    elim (cases_Bool (takes_value option)) [
      | inl takes ↦ rw takes (files_among-value (option_text option) value option rest (option_named_text option) takes)
      | inr none ↦ rw none (files_among-flag (option_text option) option rest (option_named_text option) none)
    ]

-- after an option that takes a value, the value is passed over where there is one
pub files_among-skip : (word : List ℕ) (option : DatabaseOption) (before after : List (List ℕ)) (found : Option (Bor (List ℕ)))
    → option_named word ≡ Some option
    → takes_value option ≡ true
    → IfSome found (λ value. before ≡ value.now ∷ after)
    → IfNone found ((before ≡ []) × (after ≡ []))
    → files_among (word ∷ before) ≡ files_among after
files_among-skip word option before after None is takes some none = ap (λ words. files_among (word ∷ words)) none.0 ∙ files_among-end word option is ∙ sym (ap files_among none.1)
files_among-skip word option before after (Some value) is takes some none = ap (λ words. files_among (word ∷ words)) some ∙ files_among-value word value.now option after is takes
