-- The steps of the dump are the samples, and its changes up to a time.
use Rattle.std.proofs.Common.{◌≡◌, ℕ, zero, suc, ◌+◌, ◌*◌, ◌<◌, ◌≤◌, Bool, cond, nat_le, List, [], ◌∷◌, ◌++◌, length, map, refl, sym, ap, ◌∙◌, arith, append_assoc, append-nil, ⊎_elim}
use Rattle.std.specs.List.{filter, flat_map}
use Rattle.std.proofs.lemmas.Bool.{cases_lt, le-leb, lt-leb}
use Rattle.vcd_reader.specs.Dump.{Change, DumpStep, leading, steps_of, timed, with_leading}
use Rattle.vcd_reader.specs.declared.entry.Entry.{Entry}
use Rattle.selfrun_files.specs.Moments.{moment}
use Rattle.selfrun_files.specs.Samples.{Given, Sample, high, last, low, samples, start}
use Rattle.selfrun_files.proofs.Times.{times_count}
use Rattle.selfrun_runs.proofs.Registers.{steps_counted}
use Rattle.selfrun_dump.specs.Entries.{code_given, entry_of, sample_entries, value_given}
use Rattle.selfrun_dump.specs.Laws.{TimesLaw}

-- what is given, as a change
abbrev pub change_of : Given → Change
change_of given = record { code = code_given given; value = value_given given }

-- a sample, as a step of the dump
abbrev pub step_of : Sample → DumpStep
step_of sample = record { time = sample.time; changes = map change_of sample.given }

no_leading : (ss : List Sample) → leading (flat_map sample_entries ss) ≡ []
no_leading [] = refl
no_leading (s ∷ ss) = refl

leading_given : (gs : List Given) (later : List Entry) → leading later ≡ [] → leading (map entry_of gs ++ later) ≡ map change_of gs
leading_given [] later none = none
leading_given (g ∷ gs) later none = ap (λ cs. change_of g ∷ cs) (leading_given gs later none)

timed_given : (gs : List Given) (later : List Entry) → timed (map entry_of gs ++ later) ≡ timed later
timed_given [] later = refl
timed_given (g ∷ gs) later = timed_given gs later

timed_are : (ss : List Sample) → timed (flat_map sample_entries ss) ≡ map step_of ss
timed_are [] = refl
timed_are (s ∷ ss) =
    ap (λ cs. record { time = s.time; changes = cs } ∷ timed (map entry_of s.given ++ flat_map sample_entries ss)) (leading_given s.given (flat_map sample_entries ss) (no_leading ss))
    ∙ ap (λ steps. step_of s ∷ steps) (timed_given s.given (flat_map sample_entries ss) ∙ timed_are ss)

nothing_leads : (steps : List DumpStep) → with_leading [] steps ≡ steps
nothing_leads [] = refl
nothing_leads (step ∷ steps) = refl

pub steps_are : (ss : List Sample) → steps_of (flat_map sample_entries ss) ≡ map step_of ss
steps_are ss = ap (λ cs. with_leading cs (timed (flat_map sample_entries ss))) (no_leading ss) ∙ nothing_leads (timed (flat_map sample_entries ss)) ∙ timed_are ss

as_many : (ss : List Sample) → length (map step_of ss) ≡ length (map (λ (s : Sample). s.time) ss)
as_many [] = refl
as_many (s ∷ ss) = ap suc (as_many ss)

pub times_law : TimesLaw
times_law number steps = ap (λ n. n ∷ []) (ap length (steps_are (samples steps (start number))) ∙ as_many (samples steps (start number)) ∙ times_count steps (start number))

-- ---- the changes up to a time

abbrev pub is_up_to : ℕ → DumpStep → Bool
is_up_to t step = nat_le step.time t

abbrev pub changes_of : DumpStep → List Change
changes_of step = step.changes

passed_over : (t : ℕ) (x : DumpStep) (xs : List DumpStep) → t < x.time → filter (is_up_to t) (x ∷ xs) ≡ filter (is_up_to t) xs
passed_over t x xs later = ap (λ b. cond b (x ∷ filter (is_up_to t) xs) (filter (is_up_to t) xs)) (lt-leb x.time t later)

taken : (t : ℕ) (x : DumpStep) (xs : List DumpStep) → x.time ≤ t → filter (is_up_to t) (x ∷ xs) ≡ x ∷ filter (is_up_to t) xs
taken t x xs now = ap (λ b. cond b (x ∷ filter (is_up_to t) xs) (filter (is_up_to t) xs)) (le-leb x.time t now)

module _ (number : ℕ) where
  -- the steps of so many samples from step k on
  abbrev pub steps_from : ℕ → ℕ → List DumpStep
  steps_from n k = map step_of (samples n (moment number k))

  -- the changes of them up to a time
  abbrev pub changes_until : ℕ → ℕ → ℕ → List Change
  changes_until n k t = flat_map changes_of (filter (is_up_to t) (steps_from n k))

  -- the changes at the two times of step k
  abbrev pub low_changes : ℕ → List Change
  low_changes k = map change_of (low (moment number k)).given

  abbrev pub high_changes : ℕ → List Change
  high_changes k = map change_of (high (moment number k)).given

  -- the changes of the first k steps
  abbrev pub past : ℕ → List Change
  past zero = []
  past (suc k) = past k ++ (low_changes k ++ high_changes k)

  low_time : (k : ℕ) → (low (moment number k)).time ≡ 10 * k
  low_time k = ap (λ x. 10 * x) (steps_counted number k)

  high_time : (k : ℕ) → (high (moment number k)).time ≡ 10 * k + 5
  high_time k = ap (λ x. 10 * x + 5) (steps_counted number k)

  none_yet : (n k t : ℕ) → t < 10 * k → filter (is_up_to t) (steps_from n k) ≡ []
  none_yet zero k t before = passed_over t (step_of (last (moment number k))) [] (omega (arith, before, low_time k))
  none_yet (suc n) k t before =
      passed_over t (step_of (low (moment number k))) (step_of (high (moment number k)) ∷ steps_from n (suc k)) (omega (arith, before, low_time k))
      ∙ passed_over t (step_of (high (moment number k))) (steps_from n (suc k)) (omega (arith, before, high_time k))
      ∙ none_yet n (suc k) t (omega (arith, before))

  at_low : (n k t : ℕ) → 10 * k ≤ t → t < 10 * k + 5 → changes_until (suc n) k t ≡ low_changes k
  at_low n k t from until =
      ap (flat_map changes_of)
      (taken t (step_of (low (moment number k))) (step_of (high (moment number k)) ∷ steps_from n (suc k)) (omega (arith, from, low_time k))
      ∙ ap (λ ss. step_of (low (moment number k)) ∷ ss)
      (passed_over t (step_of (high (moment number k))) (steps_from n (suc k)) (omega (arith, until, high_time k)) ∙ none_yet n (suc k) t (omega (arith, until))))
      ∙ append-nil (low_changes k)

  from_high : (n k t : ℕ) → 10 * k + 5 ≤ t → changes_until (suc n) k t ≡ low_changes k ++ (high_changes k ++ changes_until n (suc k) t)
  from_high n k t from =
      ap (flat_map changes_of)
      (taken t (step_of (low (moment number k))) (step_of (high (moment number k)) ∷ steps_from n (suc k)) (omega (arith, from, low_time k))
      ∙ ap (λ ss. step_of (low (moment number k)) ∷ ss) (taken t (step_of (high (moment number k))) (steps_from n (suc k)) (omega (arith, from, high_time k))))

  none_changed : (n k t : ℕ) → t < 10 * k → changes_until n k t ≡ []
  none_changed n k t before = ap (flat_map changes_of) (none_yet n k t before)

  regroup : (n k t : ℕ) → past k ++ (low_changes k ++ (high_changes k ++ changes_until n (suc k) t)) ≡ past (suc k) ++ changes_until n (suc k) t
  regroup n k t =
      sym (append_assoc (past k) (low_changes k ++ high_changes k) (changes_until n (suc k) t) ∙ ap (λ cs. past k ++ cs) (append_assoc (low_changes k) (high_changes k) (changes_until n (suc k) t)))

  -- with those of the steps before they are those of the steps up to i
  pub past_low : (n k i t : ℕ) → k ≤ i → i < k + n → 10 * i ≤ t → t < 10 * i + 5 → past k ++ changes_until n k t ≡ past i ++ low_changes i
  past_low zero k i t first last from until = absurd (omega (arith, first, last))
  past_low (suc n) k i t first last from until =
      ⊎_elim
      (λ more. ap (λ cs. past k ++ cs) (from_high n k t (omega (arith, more, from))) ∙ regroup n k t ∙ past_low n (suc k) i t (omega (arith, more)) (omega (arith, last)) from until)
      (λ less.
      let same : k ≡ i = omega (arith, first, less) in
      ap (λ cs. past k ++ cs) (at_low n k t (omega (arith, same, from)) (omega (arith, same, until))) ∙ ap (λ x. past x ++ low_changes x) same)
      (cases_lt k i)

  pub past_high : (n k i t : ℕ) → k ≤ i → i < k + n → 10 * i + 5 ≤ t → t < 10 * suc i → past k ++ changes_until n k t ≡ past (suc i)
  past_high zero k i t first last from until = absurd (omega (arith, first, last))
  past_high (suc n) k i t first last from until =
      ⊎_elim
      (λ more. ap (λ cs. past k ++ cs) (from_high n k t (omega (arith, more, from))) ∙ regroup n k t ∙ past_high n (suc k) i t (omega (arith, more)) (omega (arith, last)) from until)
      (λ less.
      let same : k ≡ i = omega (arith, first, less) in
      ap (λ cs. past k ++ cs) (from_high n k t (omega (arith, same, from))) ∙ regroup n k t
      ∙ ap (λ cs. past (suc k) ++ cs) (none_changed n (suc k) t (omega (arith, same, until))) ∙ append-nil (past (suc k)) ∙ ap (λ x. past (suc x)) same)
      (cases_lt k i)
