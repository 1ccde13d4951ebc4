-- The addresses of points among words, item by item.
use Rattle.std.proofs.Common.{◌≡◌, ◌∙◌, ℕ, true, false, cond, sym, ap, refl, Bor, List, [], ◌∷◌, ◌++◌, Option, Some, None}
use Rattle.std.specs.Prelude.{IfNone, IfSome}
use Rattle.std.proofs.lemmas.Bool.{false≢true}
use Rattle.command_line.specs.declared.database_command.DatabaseCommand.{DatabaseCommand}
use Rattle.command_line.specs.declared.database_option.DatabaseOption.{DatabaseOption}
use Rattle.command_line.specs.declared.database_option.DatabaseOption.TheVariants.{Level, Metrics, ByInstance, Covered, Output, Point}
use Rattle.command_line.specs.DatabaseOption.{is_same, option_named, option_text, takes_value}
use Rattle.command_line.specs.DatabaseWords.{Item, file, given, spelled, values_in, AreItems}
use Rattle.command_line.specs.PointAddresses.{address_or_other, addresses_among}
use Rattle.command_line.proofs.DatabaseOptions.{no_option_named}

-- a word that is no option is left out
pub addresses_among-file : (word : List ℕ) (rest : List (List ℕ)) → option_named word ≡ None → addresses_among (word ∷ rest) ≡ addresses_among rest
addresses_among-file word [] none = refl
addresses_among-file word (next ∷ rest) none = ap (λ o. address_or_other o next (addresses_among (next ∷ rest)) (addresses_among rest)) none

-- an option that takes no value is left out
other_flag : (option : DatabaseOption) (next : List ℕ) (others behind : List (List ℕ)) → takes_value option ≡ false → address_or_other (Some option) next others behind ≡ others
other_flag ByInstance next others behind none = refl
other_flag Covered next others behind none = refl
other_flag Level next others behind none = absurd (false≢true (sym none))
other_flag Metrics next others behind none = absurd (false≢true (sym none))
other_flag Output next others behind none = absurd (false≢true (sym none))
other_flag Point next others behind none = absurd (false≢true (sym none))

pub addresses_among-flag : (word : List ℕ) (option : DatabaseOption) (rest : List (List ℕ)) → option_named word ≡ Some option → takes_value option ≡ false → addresses_among (word ∷ rest) ≡ addresses_among rest
addresses_among-flag word option [] is none = refl
addresses_among-flag word option (next ∷ rest) is none =
    ap (λ o. address_or_other o next (addresses_among (next ∷ rest)) (addresses_among rest)) is ∙ other_flag option next (addresses_among (next ∷ rest)) (addresses_among rest) none

-- the word after `-point` is an address
pub addresses_among-point : (word value : List ℕ) (rest : List (List ℕ)) → option_named word ≡ Some Point → addresses_among (word ∷ value ∷ rest) ≡ value ∷ addresses_among rest
addresses_among-point word value rest is = ap (λ o. address_or_other o value (addresses_among (value ∷ rest)) (addresses_among rest)) is

-- any other option is left out with its value
other_value : (option : DatabaseOption) (next : List ℕ) (others behind : List (List ℕ)) → takes_value option ≡ true → (option ≡ Point → ⊥) → address_or_other (Some option) next others behind ≡ behind
other_value Level next others behind takes other = refl
other_value Metrics next others behind takes other = refl
other_value Output next others behind takes other = refl
other_value ByInstance next others behind takes other = absurd (false≢true takes)
other_value Covered next others behind takes other = absurd (false≢true takes)
other_value Point next others behind takes other = absurd (other refl)

-- after an option that takes a value and is not `-point`, the value is passed over where there is one
pub addresses_among-skip : (word : List ℕ) (option : DatabaseOption) (before after : List (List ℕ)) (found : Option (Bor (List ℕ)))
    → option_named word ≡ Some option
    → takes_value option ≡ true
    → (option ≡ Point → ⊥)
    → IfSome found (λ value. before ≡ value.now ∷ after)
    → IfNone found ((before ≡ []) × (after ≡ []))
    → addresses_among (word ∷ before) ≡ addresses_among after
addresses_among-skip word option before after None is takes other some none = ap (λ words. addresses_among (word ∷ words)) none.0 ∙ sym (ap addresses_among none.1)
addresses_among-skip word option before after (Some value) is takes other some none =
    ap (λ words. addresses_among (word ∷ words)) some
    ∙ ap (λ o. address_or_other o value.now (addresses_among (value.now ∷ after)) (addresses_among after)) is
    ∙ other_value option value.now (addresses_among (value.now ∷ after)) (addresses_among after) takes other

-- after `-point` its value is an address where there is one
pub addresses_among-take : (word : List ℕ) (all before after : List (List ℕ)) (found : Option (Bor (List ℕ)))
    → option_named word ≡ Some Point
    → all ≡ addresses_among (word ∷ before)
    → IfSome found (λ value. before ≡ value.now ∷ after)
    → IfSome found (λ value. all ≡ value.now ∷ addresses_among after)
addresses_among-take word all before after None is same some = tt
addresses_among-take word all before after (Some value) is same some = same ∙ ap (λ words. addresses_among (word ∷ words)) some ∙ addresses_among-point word value.now after is

pub addresses_among-end : (word : List ℕ) (all before after : List (List ℕ)) (found : Option (Bor (List ℕ)))
    → all ≡ addresses_among (word ∷ before)
    → IfNone found ((before ≡ []) × (after ≡ []))
    → IfNone found ((all ≡ []) × (addresses_among after ≡ []))
addresses_among-end word all before after None same none = (same ∙ ap (λ words. addresses_among (word ∷ words)) none.0, ap addresses_among none.1)
addresses_among-end word all before after (Some value) same none = tt

-- the addresses among the words of items are the values of `-point`
of_option : (option : DatabaseOption) (value : List ℕ) (rest more : List (List ℕ))
    → addresses_among rest ≡ more
    → addresses_among (option_text option ∷ cond (takes_value option) (value ∷ []) [] ++ rest) ≡ cond (is_same option Point) (value ∷ more) more
of_option Level value rest more same = same
of_option Metrics value rest more same = same
of_option ByInstance value rest more same = addresses_among-flag (option_text ByInstance) ByInstance rest refl refl ∙ same
of_option Covered value rest more same = addresses_among-flag (option_text Covered) Covered rest refl refl ∙ same
of_option Output value rest more same = same
of_option Point value rest more same = ap (λ values. value ∷ values) same

pub addresses_among-spelled : (command : DatabaseCommand) (before items : List Item) → AreItems command before items → addresses_among (spelled items) ≡ values_in items Point
addresses_among-spelled command before [] are = refl
addresses_among-spelled command before (file name ∷ items) are =
    addresses_among-file name (spelled items) (no_option_named name are.0.0) ∙ addresses_among-spelled command (before ++ file name ∷ []) items are.1
addresses_among-spelled command before (given option value ∷ items) are =
    of_option option value (spelled items) (values_in items Point) (addresses_among-spelled command (before ++ given option value ∷ []) items are.1)
