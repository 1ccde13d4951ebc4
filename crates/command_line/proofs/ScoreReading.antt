-- What was read of a `score` command so far, and what one more word says.
use Rattle.std.proofs.Common.{◌≡◌, ◌∙◌, ◌||◌, ℕ, Bool, false, true, cond, sym, ap, refl, subst, List, [], ◌∷◌, ◌++◌, append-nil, drop, map, Option, Some, None, IsTrue, arith, is_none, is_some, codes}
use Rattle.std.specs.List.{AllByRecursion, last_or}
use Rattle.std.proofs.lemmas.Bool.{false≢true}
use Rattle.command_line.specs.declared.score_option.ScoreOption.{ScoreOption}
use Rattle.command_line.specs.declared.score_option.ScoreOption.TheVariants.{Top, Instance, Source, Define, Folder, Dump, Output, States, Arcs, Late}
use Rattle.command_line.specs.declared.given_values.GivenValues.{GivenValues}
use Rattle.command_line.specs.declared.score_words.ScoreWords.{ScoreWords}
use Rattle.command_line.specs.CommandWords.{GivenOption, spelled, value_words, values_in, is_absent, may_follow, at_most_one, flag_values, score_values, IsScore, IsScoreUpTo}
use Rattle.command_line.specs.Define.{define_of}
use Rattle.command_line.specs.DrawingWords.{drawing_of}
use Rattle.command_line.specs.MachineWords.{machine_of}
use Rattle.command_line.specs.GivenValues.{all_words, has_room, value_of, GivesScore}
use Rattle.command_line.specs.OptionValues.{sources_of, values_among}
use Rattle.command_line.specs.ScoreOption.{option_text, is_same, accepts, repeats, takes_value}
use Rattle.command_line.specs.UsageFault.{first_missing, BeginsWithBadValue, IsMissing, NeedsOne}
use Rattle.command_line.proofs.GivenLemmas.{absent_last, few_values, last_value-push, spelled-push, values_accepted, values_among-spelled, AreGiven-push}
use Rattle.command_line.proofs.OptionLemmas.{flag_accepted, flag_value}

-- the words were read up to what is left, and these are the last values of the options in them
pub record HasRead (words left : List (List ℕ)) (values : GivenValues) : Type 0 where
  pub given : List GivenOption
  pub up_to : IsScoreUpTo words given left
  pub all : words ≡ codes "score" ∷ all_words values
  pub same : (option : ScoreOption) → last_or None (values_in given option) ≡ value_of values option

-- nothing was read after `score`
pub HasRead-start : (left : List (List ℕ)) (values : GivenValues) → all_words values ≡ left → ((option : ScoreOption) → value_of values option ≡ None) → HasRead (codes "score" ∷ left) left values
HasRead-start left values all none = record {
  given = [];
  up_to = record { spells = refl; are_given = record { forms = tt; once = λ option single. omega arith } };
  all = ap (λ words. codes "score" ∷ words) (sym all);
  same = λ option. sym (none option);
}

absent_read : (words left : List (List ℕ)) (values : GivenValues) (read : HasRead words left values) (option : ScoreOption) → is_absent read.given option ≡ is_none (value_of values option)
absent_read words left values read option = absent_last (values_in read.given option) ∙ ap is_none (read.same option)

-- an option may follow where its values have room
pub may_follow_read : (words left : List (List ℕ)) (values : GivenValues) (read : HasRead words left values) (option : ScoreOption) → may_follow read.given option ≡ has_room values option
may_follow_read words left values read option = ap (λ b. repeats option || b) (absent_read words left values read option)

-- the option that is missing in what was read
missing_read : (words left : List (List ℕ)) (values : GivenValues) (read : HasRead words left values) → first_missing (is_absent read.given) ≡ first_missing (λ needed. is_none (value_of values needed))
missing_read words left values read =
    let at = absent_read words left values read in
    rw (at Top, at Instance, at Source, at Dump, at Output)

-- ---- faults of an option

module _ (words all rest : List (List ℕ)) (values : GivenValues) (option : ScoreOption) (word : List ℕ) (read : HasRead words all values) (first : all ≡ word ∷ rest) (is_word : word ≡ option_text option) (room : has_room values option ≡ true) where
  may : may_follow read.given option ≡ true
  may = may_follow_read words all values read option ∙ room

  -- it is the last word
  pub needs_value : takes_value option ≡ true → rest ≡ [] → (all ≡ word ∷ []) × NeedsOne read.given word
  needs_value takes end = (first ∙ ap (λ rest. word ∷ rest) end, (option, is_word, may, takes))

  -- its value is not of its form
  pub has_bad_value : (left : List (List ℕ)) (value : List ℕ) → rest ≡ value_words option value ++ left → (takes_value option ≡ false → value ≡ []) → accepts option value ≡ false → BeginsWithBadValue read.given value all
  has_bad_value left value second empty form = go (takes_value option) refl
    where
      go : (b : Bool) → takes_value option ≡ b → BeginsWithBadValue read.given value all
      go true e = (option, left, first ∙ ap (λ r. word ∷ r) (second ∙ ap (λ b. cond b (value ∷ []) [] ++ left) e) ∙ ap (λ u. u ∷ value ∷ left) is_word, may, e, form)
      go false e = absurd (false≢true (sym form ∙ ap (accepts option) (empty e) ∙ flag_accepted option e))

-- ---- one more option

-- one more option with its value was read
pub HasRead-more : (words all rest left : List (List ℕ)) (before after : GivenValues) (option : ScoreOption) (word value : List ℕ)
    → HasRead words all before
    → all ≡ word ∷ rest
    → rest ≡ value_words option value ++ left
    → word ≡ option_text option
    → has_room before option ≡ true
    → accepts option value ≡ true
    → all_words after ≡ all_words before
    → ((other : ScoreOption) → value_of after other ≡ cond (is_same option other) (Some value) (value_of before other))
    → HasRead words left after
HasRead-more words all rest left before after option word value read first second is_word room form kept set =
    let x : GivenOption = record { option = option; value = value } in
    let regrouped = spelled-push read.given x all left (first ∙ ap (λ r. word ∷ r) second ∙ ap (λ u. u ∷ value_words option value ++ left) is_word) in
    record {
      given = read.given ++ x ∷ [];
      up_to = record {
        spells = read.up_to.spells ∙ ap (λ rest. codes "score" ∷ rest) regrouped;
        are_given = AreGiven-push read.given x read.up_to.are_given form (may_follow_read words all before read option ∙ room);
      };
      all = read.all ∙ ap (λ words. codes "score" ∷ words) (sym kept);
      same = λ other. last_value-push read.given x other ∙ ap (cond (is_same option other) (Some value)) (read.same other) ∙ sym (set other);
    }

-- ---- the end of the words

module _ (words left : List (List ℕ)) (values : GivenValues) (read : HasRead words left values) (end : left ≡ []) where
  up_to_end : IsScoreUpTo words read.given []
  up_to_end = subst (IsScoreUpTo words read.given) end read.up_to

  values_read : (option : ScoreOption) → takes_value option ≡ true → values_among option (all_words values) ≡ values_in read.given option
  values_read option takes = ap (λ all. values_among option (drop 1 all)) (sym read.all ∙ up_to_end.spells) ∙ ap (values_among option) (append-nil (spelled read.given)) ∙ values_among-spelled read.given option takes

  one_read : (option : ScoreOption) → repeats option ≡ false → values_in read.given option ≡ at_most_one (value_of values option)
  one_read option single = few_values (values_in read.given option) (read.up_to.are_given.once option single) ∙ ap at_most_one (read.same option)

  -- what was given for the habit is the empty value, if anything
  late_read : (o : Option (List ℕ)) → value_of values Late ≡ o → values_in read.given Late ≡ flag_values (is_some o)
  late_read None e = one_read Late refl ∙ ap at_most_one e
  late_read (Some value) e =
      let one : values_in read.given Late ≡ value ∷ [] = one_read Late refl ∙ ap at_most_one e in
      let form : accepts Late value ≡ true = (subst (AllByRecursion (λ v. IsTrue (accepts Late v))) one (values_accepted read.given Late read.up_to.are_given.forms)).0 in
      one ∙ ap (λ v. v ∷ []) (flag_value Late value refl form)

  -- the first option that is missing is reported
  pub missing_stands : (option : ScoreOption) (word : List ℕ) → first_missing (λ needed. is_none (value_of values needed)) ≡ Some option → word ≡ option_text option → IsMissing read.given word
  missing_stands option word missing is_word = (option, missing_read words left values read ∙ missing, is_word)

  -- what was read is a command, where no value is missing
  pub score_stands : (score : ScoreWords) → GivesScore values score → IsScore words (score_values score)
  score_stands score gives =
      let sources : values_in read.given Source ≡ sources_of score.sources = sym (values_read Source refl) ∙ sym gives.sources in
      let none = λ (e : sources_of score.sources ≡ []). sym (read.same Source) ∙ ap (last_or None) (sources ∙ e) in (
        read.given,
        up_to_end,
        record {
          top = one_read Top refl ∙ ap at_most_one gives.top;
          instance = one_read Instance refl ∙ ap at_most_one gives.instance;
          sources = sources;
          some = λ e. false≢true (sym (ap is_some (none e)) ∙ gives.some);
          defines = ap (map define_of) (sym (values_read Define refl)) ∙ sym gives.defines;
          folder = one_read Folder refl ∙ ap at_most_one (sym gives.folder);
          dump = one_read Dump refl ∙ ap at_most_one gives.dump;
          output = one_read Output refl ∙ ap at_most_one gives.output;
          machines = ap (map machine_of) (sym (values_read States refl)) ∙ sym gives.machines;
          drawings = ap (map drawing_of) (sym (values_read Arcs refl)) ∙ sym gives.drawings;
          late = late_read (value_of values Late) refl ∙ ap flag_values (sym gives.late);
        },
      )
