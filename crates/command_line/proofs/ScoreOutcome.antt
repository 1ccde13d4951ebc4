-- What words come to, as a function of them: so they come to one thing only.
use Rattle.std.proofs.Common.{◌≡◌, ◌∙◌, ℕ, Bool, cond, true, false, ap, refl, sym, subst, List, [], ◌∷◌, ◌++◌, append_assoc, Option, Some, None, Result, Ok, Err, codes}
use Rattle.std.specs.List.{find}
use Rattle.std.specs.Str.{bytes_eq}
use Rattle.std.proofs.lemmas.Bool.{false_from_ne_true}
use Rattle.std.proofs.lemmas.List.{append-nil}
use Rattle.std.proofs.lemmas.Slice.Eq.{bytes_eq-Decides}
use Rattle.command_line.specs.declared.score_option.ScoreOption.{ScoreOption}
use Rattle.command_line.specs.declared.score_option.ScoreOption.TheVariants.{Top, Instance, Source, Define, Folder, Dump, Output, States, Arcs, Late}
use Rattle.command_line.specs.declared.usage_fault.UsageFault.{UsageFault}
use Rattle.command_line.specs.declared.usage_fault.UsageFault.TheVariants.{NoCommand, UnknownCommand, UnknownWord, GivenTwice, NeedsValue, BadValue, Missing}
use Rattle.command_line.specs.ScoreOption.{option_text, accepts, takes_value}
use Rattle.command_line.specs.CommandWords.{GivenOption, spelled, is_absent, may_follow, AreGiven}
use Rattle.command_line.specs.UsageFault.{usage_text, first_missing, IsNoOption, FaultAfter}
use Rattle.command_line.proofs.GivenLemmas.{form-at, may_follow-at}
use Rattle.command_line.proofs.OptionLemmas.{flag_value}

-- what words come to: options with their values, or the text of a fault
abbrev pub Outcome : Type 0
Outcome = Result (List GivenOption) (List ℕ)

abbrev pub options : List ScoreOption
options = Top ∷ Instance ∷ Source ∷ Define ∷ Folder ∷ Dump ∷ Output ∷ States ∷ Arcs ∷ Late ∷ []

-- the option that a word is
pub named : List ℕ → Option ScoreOption
named word = find (λ option. bytes_eq word (option_text option)) options

-- at the end of the words
abbrev pub at_end : List GivenOption → Option ScoreOption → Outcome
at_end given None = Ok given
at_end given (Some option) = Err (codes "missing " ++ option_text option)

-- at a word that is this option, if any, and comes to next if it may be there
abbrev pub at_option : List GivenOption → List ℕ → Option ScoreOption → (ScoreOption → Outcome) → Outcome
at_option given word None next = Err (codes "unknown word " ++ word)
at_option given word (Some option) next = cond (may_follow given option) (next option) (Err (word ++ codes " given twice"))

-- an option that takes no value
abbrev pub flag : ScoreOption → GivenOption
flag option = record { option = option; value = [] }

-- after options with their values
abbrev pub outcome : List GivenOption → List (List ℕ) → Outcome
outcome given [] = at_end given (first_missing (is_absent given))
outcome given (word ∷ []) = at_option given word (named word) (λ option. cond (takes_value option) (Err (word ++ codes " needs a value")) (at_end (given ++ flag option ∷ []) (first_missing (is_absent (given ++ flag option ∷ [])))))
outcome given (word ∷ value ∷ left) =
    at_option given word (named word) (λ option. cond (takes_value option)
    (cond (accepts option value) (outcome (given ++ record { option = option; value = value } ∷ []) left) (Err (codes "bad value " ++ value)))
    (outcome (given ++ flag option ∷ []) (value ∷ left)))

named_text : (option : ScoreOption) → named (option_text option) ≡ Some option
unfolding named
named_text Top = refl
named_text Instance = refl
named_text Source = refl
named_text Define = refl
named_text Folder = refl
named_text Dump = refl
named_text Output = refl
named_text States = refl
named_text Arcs = refl
named_text Late = refl

named_word : (word : List ℕ) (option : ScoreOption) → word ≡ option_text option → named word ≡ Some option
named_word word option h = ap named h ∙ named_text option

named_none : (word : List ℕ) → IsNoOption word → named word ≡ None
unfolding named
named_none word h =
    let other = λ (option : ScoreOption). false_from_ne_true (bytes_eq word (option_text option)) (λ e. h option ((bytes_eq-Decides word (option_text option)).0 e)) in
    rw (other Top, other Instance, other Source, other Define, other Folder, other Dump, other Output, other States, other Arcs, other Late)

-- an option that takes no value is read by itself
outcome-flag : (given : List GivenOption) (option : ScoreOption) (rest : List (List ℕ)) → may_follow given option ≡ true → takes_value option ≡ false → outcome given (option_text option ∷ rest) ≡ outcome (given ++ flag option ∷ []) rest
outcome-flag given option [] may none = rw (named_text option, may, none)
outcome-flag given option (value ∷ rest) may none = rw (named_text option, may, none)

-- and another one with its value
outcome-value : (given : List GivenOption) (option : ScoreOption) (value : List ℕ) (rest : List (List ℕ)) → may_follow given option ≡ true → takes_value option ≡ true → accepts option value ≡ true
    → outcome given (option_text option ∷ value ∷ rest) ≡ outcome (given ++ record { option = option; value = value } ∷ []) rest
outcome-value given option value rest may takes form = rw (named_text option, may, takes, form)

-- an option with a value
abbrev given_of : ScoreOption → List ℕ → GivenOption
given_of option value = record { option = option; value = value }

-- options with their values are read one by one
outcome-spelled : (front more : List GivenOption) (left : List (List ℕ)) → AreGiven (front ++ more) → outcome front (spelled more ++ left) ≡ outcome (front ++ more) left
outcome-spelled front [] left h = rw append-nil
outcome-spelled front (x ∷ more) left h =
    go (takes_value x.option) refl (outcome-spelled (front ++ x ∷ []) more left (subst AreGiven (sym (append_assoc front (x ∷ []) more)) h) ∙ ap (λ given. outcome given left) (append_assoc front (x ∷ []) more))
  where
    may : may_follow front x.option ≡ true
    may = may_follow-at front x more h

    form : accepts x.option x.value ≡ true
    form = form-at front x more h.forms

    go : (b : Bool) → takes_value x.option ≡ b → outcome (front ++ x ∷ []) (spelled more ++ left) ≡ outcome (front ++ x ∷ more) left → outcome front (spelled (x ∷ more) ++ left) ≡ outcome (front ++ x ∷ more) left
    go true e next =
        ap (λ words. outcome front (words ++ left)) (ap (λ b. option_text x.option ∷ cond b (x.value ∷ []) [] ++ spelled more) e)
        ∙ outcome-value front x.option x.value (spelled more ++ left) may e form
        ∙ next
    go false e next =
        let empty : flag x.option ≡ x = ap (λ v. given_of x.option v) (sym (flag_value x.option x.value e form)) in
        ap (λ words. outcome front (words ++ left)) (ap (λ b. option_text x.option ∷ cond b (x.value ∷ []) [] ++ spelled more) e)
        ∙ outcome-flag front x.option (spelled more ++ left) may e
        ∙ ap (λ y. outcome (front ++ y ∷ []) (spelled more ++ left)) empty
        ∙ next

pub outcome-up_to : (given : List GivenOption) (left : List (List ℕ)) → AreGiven given → outcome [] (spelled given ++ left) ≡ outcome given left
outcome-up_to given left are = outcome-spelled [] given left are

-- a word that is no option
outcome-unknown : (given : List GivenOption) (word : List ℕ) (rest : List (List ℕ)) → named word ≡ None → outcome given (word ∷ rest) ≡ Err (codes "unknown word " ++ word)
outcome-unknown given word [] h = rw h
outcome-unknown given word (value ∷ rest) h = rw h

-- a word that is an option which may not be there
outcome-twice : (given : List GivenOption) (word : List ℕ) (rest : List (List ℕ)) (option : ScoreOption) → named word ≡ Some option → may_follow given option ≡ false → outcome given (word ∷ rest) ≡ Err (word ++ codes " given twice")
outcome-twice given word [] option h twice = rw (h, twice)
outcome-twice given word (value ∷ rest) option h twice = rw (h, twice)

pub outcome-fault : (given : List GivenOption) (left : List (List ℕ)) (fault : UsageFault) → FaultAfter given left fault → outcome given left ≡ Err (usage_text fault)
outcome-fault given left NoCommand h = absurd h
outcome-fault given left (UnknownCommand word) h = absurd h
outcome-fault given left (UnknownWord word) h = ap (outcome given) h.0.1 ∙ outcome-unknown given word.now h.0.0 (named_none word.now h.1)
outcome-fault given left (GivenTwice word) h = ap (outcome given) h.0.1 ∙ outcome-twice given word.now h.0.0 h.1.0 (named_word word.now h.1.0 h.1.1) h.1.2
outcome-fault given left (NeedsValue word) h = ap (outcome given) h.0 ∙ rw (named_word word.now h.1.0 h.1.1, h.1.2, h.1.3)
outcome-fault given left (BadValue word) h = ap (outcome given) h.2 ∙ rw (named_text h.0, h.3, h.4, h.5)
outcome-fault given left (Missing word) h = ap (outcome given) h.0 ∙ rw (h.1.1, h.1.2)
