-- Options of the commands that read databases are distinguished by how they are written.
use Rattle.std.proofs.Common.{◌≡◌, ◌∙◌, ℕ, ◌&&◌, Bool, true, false, sym, ap, refl, arith, List, [], ◌∷◌, length, Option, Some, None}
use Rattle.std.specs.List.{find}
use Rattle.std.specs.Str.{bytes_eq}
use Rattle.std.proofs.lemmas.Bool.{false≢true, eqb-true, false_from_ne_true}
use Rattle.std.proofs.lemmas.Slice.Eq.{bytes_eq-Decides}
use Rattle.command_line.specs.declared.database_command.DatabaseCommand.{DatabaseCommand}
use Rattle.command_line.specs.declared.database_command.DatabaseCommand.TheVariants.{Merge, Report, Lcov, Rank, Exclude, Restore}
use Rattle.command_line.specs.declared.database_option.DatabaseOption.{DatabaseOption}
use Rattle.command_line.specs.declared.database_option.DatabaseOption.TheVariants.{Level, Metrics, ByInstance, Covered, Output, Point}
use Rattle.command_line.specs.DatabaseOption.{accepts, has_option, is_database_name, is_same, option_named, option_text, options, takes_value, IsNoOptionOf, IsOptionOf}

-- options that are written alike are one
pub same_option : (a b : DatabaseOption) → is_same a b ≡ true → a ≡ b
same_option Level Level h = refl
same_option Metrics Metrics h = refl
same_option ByInstance ByInstance h = refl
same_option Covered Covered h = refl
same_option Output Output h = refl
same_option Point Point h = refl
same_option a b h = absurd (false≢true h)

pub is_same-self : (option : DatabaseOption) → is_same option option ≡ true
is_same-self Level = refl
is_same-self Metrics = refl
is_same-self ByInstance = refl
is_same-self Covered = refl
is_same-self Output = refl
is_same-self Point = refl

-- the text of an option names it
pub option_named_text : (option : DatabaseOption) → option_named (option_text option) ≡ Some option
option_named_text Level = refl
option_named_text Metrics = refl
option_named_text ByInstance = refl
option_named_text Covered = refl
option_named_text Output = refl
option_named_text Point = refl

other_text : (word : List ℕ) (option : DatabaseOption) → (word ≡ option_text option → ⊥) → bytes_eq word (option_text option) ≡ false
other_text word option other = false_from_ne_true (bytes_eq word (option_text option)) (λ e. other ((bytes_eq-Decides word (option_text option)).0 e))

-- a word that is no option's text names none
pub option_named_none : (word : List ℕ) → ((option : DatabaseOption) → word ≡ option_text option → ⊥) → option_named word ≡ None
option_named_none word other =
    rw (other_text word Level (other Level), other_text word Metrics (other Metrics), other_text word ByInstance (other ByInstance), other_text word Covered (other Covered), other_text word Output (other Output), other_text word Point (other Point))

no_database_text : (option : DatabaseOption) → is_database_name (option_text option) ≡ false
no_database_text Level = refl
no_database_text Metrics = refl
no_database_text ByInstance = refl
no_database_text Covered = refl
no_database_text Output = refl
no_database_text Point = refl

-- a word that can name a database is no option's text
pub no_option_text : (word : List ℕ) → is_database_name word ≡ true → (option : DatabaseOption) → word ≡ option_text option → ⊥
no_option_text word is option same = false≢true (sym (no_database_text option) ∙ ap is_database_name (sym same) ∙ is)

pub no_option_named : (word : List ℕ) → is_database_name word ≡ true → option_named word ≡ None
no_option_named word is = option_named_none word (no_option_text word is)

-- an option that takes no value has the empty one
pub empty_value : (option : DatabaseOption) (value : List ℕ) → takes_value option ≡ false → accepts option value ≡ true → value ≡ []
empty_value Level value none form = absurd (false≢true (sym none))
empty_value Metrics value none form = absurd (false≢true (sym none))
empty_value Output value none form = absurd (false≢true (sym none))
empty_value Point value none form = absurd (false≢true (sym none))
empty_value option [] none form = refl
empty_value ByInstance (byte ∷ bytes) none form = absurd (omega (arith, eqb-true (length (byte ∷ bytes)) 0 form))
empty_value Covered (byte ∷ bytes) none form = absurd (omega (arith, eqb-true (length (byte ∷ bytes)) 0 form))

-- and the empty one has its form
pub empty_accepted : (option : DatabaseOption) → takes_value option ≡ false → accepts option [] ≡ true
empty_accepted Level none = absurd (false≢true (sym none))
empty_accepted Metrics none = absurd (false≢true (sym none))
empty_accepted Output none = absurd (false≢true (sym none))
empty_accepted Point none = absurd (false≢true (sym none))
empty_accepted ByInstance none = refl
empty_accepted Covered none = refl

-- ---- the options of a command

-- the option of the command that a word is
pub named : DatabaseCommand → List ℕ → Option DatabaseOption
named command word = find (λ option. has_option command option && bytes_eq word (option_text option)) options

named_text : (command : DatabaseCommand) (option : DatabaseOption) → has_option command option ≡ true → named command (option_text option) ≡ Some option
unfolding named
named_text Merge Output has = refl
named_text Merge option has = absurd (false≢true has)
named_text Report Level has = refl
named_text Report Metrics has = refl
named_text Report ByInstance has = refl
named_text Report Covered has = refl
named_text Report Output has = refl
named_text Report Point has = absurd (false≢true has)
named_text Lcov Output has = refl
named_text Lcov option has = absurd (false≢true has)
named_text Rank option has = absurd (false≢true has)
named_text Exclude Output has = refl
named_text Exclude Point has = refl
named_text Exclude option has = absurd (false≢true has)
named_text Restore Output has = refl
named_text Restore Point has = refl
named_text Restore option has = absurd (false≢true has)

pub named_option : (command : DatabaseCommand) (option : DatabaseOption) (word : List ℕ) → IsOptionOf command option word → named command word ≡ Some option
named_option command option word is = ap (named command) is.1 ∙ named_text command option is.0

not_both : (a b : Bool) → (a ≡ true → b ≡ true → ⊥) → (a && b) ≡ false
not_both true b h = false_from_ne_true b (λ e. h refl e)
not_both false b h = refl

pub named_none : (command : DatabaseCommand) (word : List ℕ) → IsNoOptionOf command word → named command word ≡ None
unfolding named
named_none command word none =
    let other = λ (option : DatabaseOption). not_both (has_option command option) (bytes_eq word (option_text option)) (λ has e. none option (has, (bytes_eq-Decides word (option_text option)).0 e)) in
    rw (other Level, other Metrics, other ByInstance, other Covered, other Output, other Point)
