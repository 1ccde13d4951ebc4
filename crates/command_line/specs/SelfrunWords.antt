-- The words of the command `selfrun`.
use Rattle.std.specs.Prelude.{◌≡◌, ◌⊎◌, ◌≤◌, ℕ, List, [], ◌∷◌, codes}
use Rattle.cov_host.specs.Decimal.{IsDecimal, decimal_value}
use Rattle.command_line.specs.declared.selfrun_words.SelfrunWords.{SelfrunWords}
use Rattle.command_line.specs.declared.usage_fault.UsageFault.{UsageFault}
use Rattle.command_line.specs.declared.usage_fault.UsageFault.TheVariants.{UnknownWord, BadValue, Missing}

-- the word writes this number, leading zeros allowed, which is at most 4,294,967,295
pub record HasNumber (word : List ℕ) (number : ℕ) : Type 0 where
  pub is_decimal : IsDecimal word
  pub value : decimal_value word ≡ number
  pub within : number ≤ 4294967295

-- the word writes this number of steps, leading zeros allowed, from 1 to a million
pub record HasSteps (word : List ℕ) (steps : ℕ) : Type 0 where
  pub is_decimal : IsDecimal word
  pub value : decimal_value word ≡ steps
  pub some : 1 ≤ steps
  pub within : steps ≤ 1000000

abbrev pub IsNoNumber : List ℕ → Type 0
IsNoNumber word = (number : ℕ) → HasNumber word number → ⊥

abbrev pub IsNoSteps : List ℕ → Type 0
IsNoSteps word = (steps : ℕ) → HasSteps word steps → ⊥

-- the words are `selfrun`, a number and a number of steps
pub record IsSelfrun (words : List (List ℕ)) (values : SelfrunWords) : Type 0 where
  pub first : List ℕ
  pub second : List ℕ
  pub spells : words ≡ codes "selfrun" ∷ first ∷ second ∷ []
  pub number : HasNumber first values.number
  pub steps : HasSteps second values.steps

-- the words are `selfrun` alone, or with a number alone, and this word is what is missing
abbrev pub IsSelfrunMissing : List (List ℕ) → List ℕ → Type 0
IsSelfrunMissing words name =
    ((words ≡ codes "selfrun" ∷ []) × (name ≡ codes "NUMBER"))
    ⊎ ((first : List ℕ) × (number : ℕ) × (words ≡ codes "selfrun" ∷ first ∷ []) × HasNumber first number × (name ≡ codes "STEPS"))

-- the first word is no number; or the second one is no number of steps, after a number
abbrev pub HasBadWord : List (List ℕ) → List ℕ → Type 0
HasBadWord words bad =
    ((rest : List (List ℕ)) × (words ≡ codes "selfrun" ∷ bad ∷ rest) × IsNoNumber bad)
    ⊎ ((first : List ℕ) × (number : ℕ) × (rest : List (List ℕ)) × (words ≡ codes "selfrun" ∷ first ∷ bad ∷ rest) × HasNumber first number × IsNoSteps bad)

-- a word follows both
abbrev pub HasThirdWord : List (List ℕ) → List ℕ → Type 0
HasThirdWord words third =
    (first : List ℕ) × (second : List ℕ) × (number : ℕ) × (steps : ℕ) × (rest : List (List ℕ))
    × (words ≡ codes "selfrun" ∷ first ∷ second ∷ third ∷ rest) × HasNumber first number × HasSteps second steps

-- the words begin as `selfrun`, and this is their first fault from the left
abbrev pub HasSelfrunFault : List (List ℕ) → UsageFault → Type 0
HasSelfrunFault words (Missing word) = IsSelfrunMissing words word.now
HasSelfrunFault words (BadValue word) = HasBadWord words word.now
HasSelfrunFault words (UnknownWord word) = HasThirdWord words word.now
HasSelfrunFault words other = ⊥
