-- Options with their values, and one more of them.
use Rattle.std.proofs.Common.{◌≡◌, ◌∙◌, ◌+◌, ◌≤◌, ◌==◌, ◌||◌, ℕ, suc, Bool, true, false, cond, sym, ap, refl, arith, List, [], ◌∷◌, ◌++◌, length, length-append, append_assoc, append-nil, Option, Some, None, IsTrue, is_none, subst}
use Rattle.std.specs.List.{AllByRecursion, last_or}
use Rattle.std.proofs.lemmas.Bool.{eqb-true, false≢true, ne_eqb}
use Rattle.command_line.specs.declared.score_option.ScoreOption.{ScoreOption}
use Rattle.command_line.specs.declared.score_option.ScoreOption.TheVariants.{Top, Instance, Source, Define, Folder, Dump, Output, States, Arcs, Late}
use Rattle.command_line.specs.CommandWords.{GivenOption, spelled, value_words, values_in, is_absent, may_follow, at_most_one, AreGiven}
use Rattle.command_line.specs.OptionValues.{values_among}
use Rattle.command_line.specs.ScoreOption.{option_text, is_same, accepts, repeats, takes_value}
use Rattle.command_line.proofs.OptionLemmas.{same_option, is_same-self, the_flag}

pub spelled-append : (given more : List GivenOption) → spelled (given ++ more) ≡ spelled given ++ spelled more
spelled-append [] more = refl
spelled-append (x ∷ given) more =
    ap (λ words. option_text x.option ∷ words) (ap (λ words. value_words x.option x.value ++ words) (spelled-append given more) ∙ sym (append_assoc (value_words x.option x.value) (spelled given) (spelled more)))

-- the words of one more option
pub spelled-push : (given : List GivenOption) (x : GivenOption) (all left : List (List ℕ)) → all ≡ option_text x.option ∷ value_words x.option x.value ++ left → spelled given ++ all ≡ spelled (given ++ x ∷ []) ++ left
spelled-push given x all left is =
    ap (λ rest. spelled given ++ rest) is
    ∙ sym (append_assoc (spelled given) (option_text x.option ∷ value_words x.option x.value) left)
    ∙ ap (λ words. (spelled given ++ option_text x.option ∷ words) ++ left) (sym (append-nil (value_words x.option x.value)))
    ∙ ap (λ words. words ++ left) (sym (spelled-append given (x ∷ [])))

-- a flag is left out among words
among-flag : (option : ScoreOption) (rest : List (List ℕ)) → values_among option (option_text Late ∷ rest) ≡ values_among option rest
among-flag option [] = refl
among-flag option (value ∷ rest) = refl

-- and of another option its value is taken where it is of this one
among-value : (option other : ScoreOption) (value : List ℕ) (rest : List (List ℕ)) → takes_value other ≡ true → values_among option (option_text other ∷ value ∷ rest) ≡ cond (is_same other option) (value ∷ values_among option rest) (values_among option rest)
among-value option Top value rest takes = refl
among-value option Instance value rest takes = refl
among-value option Source value rest takes = refl
among-value option Define value rest takes = refl
among-value option Folder value rest takes = refl
among-value option Dump value rest takes = refl
among-value option Output value rest takes = refl
among-value option States value rest takes = refl
among-value option Arcs value rest takes = refl
among-value option Late value rest takes = absurd (false≢true takes)

-- an option that takes a value is no flag
no_flag : (option : ScoreOption) → takes_value option ≡ true → is_same Late option ≡ false
no_flag Late takes = absurd (false≢true takes)
no_flag Top takes = refl
no_flag Instance takes = refl
no_flag Source takes = refl
no_flag Define takes = refl
no_flag Folder takes = refl
no_flag Dump takes = refl
no_flag Output takes = refl
no_flag States takes = refl
no_flag Arcs takes = refl

-- the values of an option that takes one, among the words of options, are those that it was given
pub values_among-spelled : (given : List GivenOption) (option : ScoreOption) → takes_value option ≡ true → values_among option (spelled given) ≡ values_in given option
values_among-spelled [] option takes = refl
values_among-spelled (x ∷ given) option takes = go (takes_value x.option) refl (values_among-spelled given option takes)
  where
    go : (b : Bool) → takes_value x.option ≡ b → values_among option (spelled given) ≡ values_in given option → values_among option (option_text x.option ∷ value_words x.option x.value ++ spelled given) ≡ cond (is_same x.option option) (x.value ∷ values_in given option) (values_in given option)
    go true e further =
        ap (λ b. values_among option (option_text x.option ∷ cond b (x.value ∷ []) [] ++ spelled given)) e
        ∙ among-value option x.option x.value (spelled given) e
        ∙ ap (λ values. cond (is_same x.option option) (x.value ∷ values) values) further
    go false e further =
        ap (λ b. values_among option (option_text x.option ∷ cond b (x.value ∷ []) [] ++ spelled given)) e
        ∙ ap (λ o. values_among option (option_text o ∷ spelled given)) (the_flag x.option e)
        ∙ among-flag option (spelled given)
        ∙ further
        ∙ ap (λ b. cond b (x.value ∷ values_in given option) (values_in given option)) (sym (ap (λ o. is_same o option) (the_flag x.option e) ∙ no_flag option takes))

values_in-append : (given more : List GivenOption) (option : ScoreOption) → values_in (given ++ more) option ≡ values_in given option ++ values_in more option
values_in-append [] more option = refl
values_in-append (x ∷ given) more option =
    let rest = values_in-append given more option in
    elim (is_same x.option option) as (λ b. cond b (x.value ∷ values_in (given ++ more) option) (values_in (given ++ more) option) ≡ cond b (x.value ∷ values_in given option) (values_in given option) ++ values_in more option) [
      | true ↦ ap (λ values. x.value ∷ values) rest
      | false ↦ rest
    ]

values_in-length : (given more : List GivenOption) (option : ScoreOption) → length (values_in (given ++ more) option) ≡ length (values_in given option) + length (values_in more option)
values_in-length given more option = ap length (values_in-append given more option) ∙ length-append (values_in given option) (values_in more option)

pub last_or-push : (before : Option (List ℕ)) (values : List (List ℕ)) (value : List ℕ) → last_or before (values ++ value ∷ []) ≡ Some value
last_or-push before [] value = refl
last_or-push before (first ∷ values) value = last_or-push (Some first) values value

-- after one more option its value is the last
pub last_value-push : (given : List GivenOption) (x : GivenOption) (option : ScoreOption) → last_or None (values_in (given ++ x ∷ []) option) ≡ cond (is_same x.option option) (Some x.value) (last_or None (values_in given option))
last_value-push given x option =
    ap (last_or None) (values_in-append given (x ∷ []) option)
    ∙ elim (is_same x.option option) as (λ b. last_or None (values_in given option ++ cond b (x.value ∷ []) []) ≡ cond b (Some x.value) (last_or None (values_in given option))) [
      | true ↦ last_or-push None (values_in given option) x.value
      | false ↦ ap (last_or None) (append-nil (values_in given option))
    ]

last_or-some : (before : List ℕ) (values : List (List ℕ)) → is_none (last_or (Some before) values) ≡ false
last_or-some before [] = refl
last_or-some before (value ∷ values) = last_or-some value values

-- a list with a first element is not empty
pub not_empty : (first : List ℕ) (others : List (List ℕ)) → (length (first ∷ others) == 0) ≡ false
not_empty first others = ne_eqb (length (first ∷ others)) 0 (λ e. omega (arith, e))

-- a list is empty where it has no last value
pub absent_last : (values : List (List ℕ)) → (length values == 0) ≡ is_none (last_or None values)
absent_last [] = refl
absent_last (value ∷ values) = not_empty value values ∙ sym (last_or-some value values)

-- of at most one value the last is all
pub few_values : (values : List (List ℕ)) → length values ≤ 1 → values ≡ at_most_one (last_or None values)
few_values [] few = refl
few_values (value ∷ []) few = refl
few_values (value ∷ second ∷ values) few = absurd (omega (arith, few))

-- an option that does not repeat follows only where it has no value
no_value : (given : List GivenOption) (option : ScoreOption) → repeats option ≡ false → may_follow given option ≡ true → length (values_in given option) ≡ 0
no_value given option single may = eqb-true (length (values_in given option)) 0 (sym (ap (λ b. b || is_absent given option) single) ∙ may)

once-push : (given : List GivenOption) (x : GivenOption) → AreGiven given → may_follow given x.option ≡ true → (option : ScoreOption) → repeats option ≡ false → length (values_in (given ++ x ∷ []) option) ≤ 1
once-push given x are may option single = go (is_same x.option option) refl
  where
    go : (t : Bool) → is_same x.option option ≡ t → length (values_in (given ++ x ∷ []) option) ≤ 1
    go true e =
        let one : length (values_in (x ∷ []) option) ≡ 1 = ap (λ b. length (cond b (x.value ∷ []) [])) e in
        let none = no_value given option single (sym (ap (may_follow given) (same_option x.option option e)) ∙ may) in
        omega (arith, values_in-length given (x ∷ []) option, one, none)
    go false e =
        let none : length (values_in (x ∷ []) option) ≡ 0 = ap (λ b. length (cond b (x.value ∷ []) [])) e in
        omega (arith, values_in-length given (x ∷ []) option, none, are.once option single)

forms-push : (given : List GivenOption) (x : GivenOption) → AllByRecursion (λ one. IsTrue (accepts one.option one.value)) given → IsTrue (accepts x.option x.value) → AllByRecursion (λ one. IsTrue (accepts one.option one.value)) (given ++ x ∷ [])
forms-push [] x forms form = (form, tt)
forms-push (first ∷ given) x forms form = (forms.0, forms-push given x forms.1 form)

-- options with their values stay so with one more, which may follow them
pub AreGiven-push : (given : List GivenOption) (x : GivenOption) → AreGiven given → IsTrue (accepts x.option x.value) → may_follow given x.option ≡ true → AreGiven (given ++ x ∷ [])
AreGiven-push given x are form may = record { forms = forms-push given x are.forms form; once = once-push given x are may }

-- each of options with their values may follow those before it
pub may_follow-at : (front : List GivenOption) (x : GivenOption) (more : List GivenOption) → AreGiven (front ++ x ∷ more) → may_follow front x.option ≡ true
may_follow-at front x more are = go (repeats x.option) refl
  where
    go : (t : Bool) → repeats x.option ≡ t → may_follow front x.option ≡ true
    go true e = ap (λ b. b || is_absent front x.option) e
    go false e =
        let first : length (values_in (x ∷ more) x.option) ≡ suc (length (values_in more x.option)) = ap (λ b. length (cond b (x.value ∷ values_in more x.option) (values_in more x.option))) (is_same-self x.option) in
        let none : length (values_in front x.option) ≡ 0 = omega (arith, values_in-length front (x ∷ more) x.option, first, are.once x.option e) in
        ap (λ b. b || is_absent front x.option) e ∙ ap (λ n. n == 0) none

-- and has a value of its form
pub form-at : (front : List GivenOption) (x : GivenOption) (more : List GivenOption) → AllByRecursion (λ one. IsTrue (accepts one.option one.value)) (front ++ x ∷ more) → accepts x.option x.value ≡ true
form-at [] x more forms = forms.0
form-at (first ∷ front) x more forms = form-at front x more forms.1

-- so has each value that an option was given
pub values_accepted : (given : List GivenOption) (option : ScoreOption) → AllByRecursion (λ one. IsTrue (accepts one.option one.value)) given → AllByRecursion (λ value. IsTrue (accepts option value)) (values_in given option)
values_accepted [] option forms = tt
values_accepted (x ∷ given) option forms = go (is_same x.option option) refl (values_accepted given option forms.1)
  where
    here : is_same x.option option ≡ true → IsTrue (accepts option x.value)
    here same = subst (λ o. IsTrue (accepts o x.value)) (same_option x.option option same) forms.0

    go : (t : Bool) → is_same x.option option ≡ t → AllByRecursion (λ value. IsTrue (accepts option value)) (values_in given option) → AllByRecursion (λ value. IsTrue (accepts option value)) (cond t (x.value ∷ values_in given option) (values_in given option))
    go true same others = (here same, others)
    go false same others = others
