-- The values of codes by what is said of one stretch.
use Rattle.std.proofs.Common.{◌≡◌, ℕ, ◌<◌, ◌≤◌, Bool, true, false, cond, nat_le, List, [], ◌∷◌, ◌++◌, Option, None, Some, refl, sym, ap, subst, ◌∙◌, arith, append_assoc, append-nil}
use Rattle.std.specs.List.{All, filter, flat_map}
use Rattle.std.proofs.lemmas.Bool.{false≢true}
use Rattle.std.proofs.lemmas.Bool.Decides.{nat_tests}
use Rattle.std.proofs.lemmas.List.Elements.{All-cons, All-head, All-nil, All-tail, All-weaker, filter-append}
use Rattle.vcd_reader.specs.Dump.{Change, DumpStep, last_value, later_stretches, leading, steps_of, timed, value_at, with_leading}
use Rattle.vcd_reader.specs.Times.{IsLater, Rises, last_time}
use Rattle.vcd_reader.specs.declared.entry.Entry.{Entry}
use Rattle.vcd_reader.specs.declared.entry.Entry.TheVariants.{Off, On, Time, Value}
use Rattle.vcd_reader.specs.Order.{is_on}
use Rattle.vcd_reader.proofs.Turns.{rises_apart}
use Rattle.shown_dumps.specs.Bound.{first_value}
use Rattle.shown_dumps.specs.Said.{changes_in, has_ended, last_of, open_stretch, times_in, value_after}
use Rattle.shown_dumps.proofs.Split.{open_is}

-- a time ends the changes before it
pub leading_until : (entries more : List Entry) (next : ℕ) → leading (entries ++ Time next ∷ more) ≡ leading entries
leading_until [] more next = refl
leading_until (Time time ∷ entries) more next = refl
leading_until (Value code value ∷ entries) more next = ap (λ changes. record { code = code; value = value } ∷ changes) (leading_until entries more next)
leading_until (Off ∷ entries) more next = refl
leading_until (On time ∷ entries) more next = refl

pub timed_until : (entries more : List Entry) (next : ℕ) → has_ended entries ≡ false → timed (entries ++ Time next ∷ more) ≡ timed entries ++ timed (Time next ∷ more)
timed_until [] more next going = refl
timed_until (Time time ∷ entries) more next going =
    ap (λ changes. record { time = time; changes = changes } ∷ timed (entries ++ Time next ∷ more)) (leading_until entries more next)
    ∙ ap (λ steps. record { time = time; changes = leading entries } ∷ steps) (timed_until entries more next going)
timed_until (Value code value ∷ entries) more next going = timed_until entries more next going
timed_until (Off ∷ entries) more next going = absurd (false≢true (sym going))
timed_until (On time ∷ entries) more next going = absurd (false≢true (sym going))

abbrev pub changes_of : DumpStep → List Change
changes_of step = step.changes

all_changes : (entries : List Entry) → leading entries ++ flat_map changes_of (timed entries) ≡ changes_in entries
all_changes [] = refl
all_changes (Time time ∷ entries) = all_changes entries
all_changes (Value code value ∷ entries) = ap (λ changes. record { code = code; value = value } ∷ changes) (all_changes entries)
all_changes (Off ∷ entries) = refl
all_changes (On time ∷ entries) = refl

-- ---- which steps are up to a time

-- each of the steps is later than this time
abbrev pub AllLater : Option ℕ → List DumpStep → Type 0
AllLater last steps = All (λ step. IsLater last step.time) steps

later_still : (last : Option ℕ) (time : ℕ) (step : DumpStep) → IsLater last time → IsLater (Some time) step.time → IsLater last step.time
later_still None time step l m = tt
later_still (Some t) time step l m = omega (arith, l, m)

pub timed_later : (last : Option ℕ) (entries : List Entry) → Rises last entries → AllLater last (timed entries)
timed_later last [] rises = All-nil (λ (step : DumpStep). IsLater last step.time)
timed_later last (Time time ∷ entries) rises =
    All-cons (λ (step : DumpStep). IsLater last step.time) (record { time = time; changes = leading entries }) (timed entries) rises.0
    (All-weaker (λ (step : DumpStep). IsLater (Some time) step.time) (λ step. IsLater last step.time) (λ step m. later_still last time step rises.0 m) (timed entries) (timed_later (Some time) entries rises.1))
timed_later last (Value code value ∷ entries) rises = timed_later last entries rises
timed_later last (Off ∷ entries) rises = All-nil (λ (step : DumpStep). IsLater last step.time)
timed_later last (On time ∷ entries) rises = All-nil (λ (step : DumpStep). IsLater last step.time)

-- the last time is not before this one
abbrev pub IsUpTo : Option ℕ → ℕ → Type 0
IsUpTo None t = Unit {0}
IsUpTo (Some last) t = last ≤ t

timed_up_to : (last : Option ℕ) (entries : List Entry) (t : ℕ) → has_ended entries ≡ false → Rises last entries → IsUpTo (last_time last entries) t → All (λ step. step.time ≤ t) (timed entries) × IsUpTo last t
timed_up_to last [] t going rises up = (All-nil (λ (step : DumpStep). step.time ≤ t), up)
timed_up_to last (Time time ∷ entries) t going rises up =
    let rest = timed_up_to (Some time) entries t going rises.1 up in
    (All-cons (λ (step : DumpStep). step.time ≤ t) (record { time = time; changes = leading entries }) (timed entries) rest.1 rest.0, before last rises.0 rest.1)
  where
    before : (o : Option ℕ) → IsLater o time → time ≤ t → IsUpTo o t
    before None l m = tt
    before (Some u) l m = omega (arith, l, m)
timed_up_to last (Value code value ∷ entries) t going rises up = timed_up_to last entries t going rises up
timed_up_to last (Off ∷ entries) t going rises up = absurd (false≢true (sym going))
timed_up_to last (On time ∷ entries) t going rises up = absurd (false≢true (sym going))

abbrev pub is_up_to : ℕ → DumpStep → Bool
is_up_to t step = nat_le step.time t

keeps_all : (t : ℕ) (steps : List DumpStep) → All (λ step. step.time ≤ t) steps → filter (is_up_to t) steps ≡ steps
keeps_all t [] h = refl
keeps_all t (step ∷ steps) h =
    let l = All-head (λ (s : DumpStep). s.time ≤ t) step steps h in
    let e : nat_le step.time t ≡ true = grind (arith, nat_tests) in
    ap (λ b. cond b (step ∷ filter (is_up_to t) steps) (filter (is_up_to t) steps)) e ∙ ap (λ ss. step ∷ ss) (keeps_all t steps (All-tail (λ (s : DumpStep). s.time ≤ t) step steps h))

pub keeps_none : (t : ℕ) (steps : List DumpStep) → All (λ step. t < step.time) steps → filter (is_up_to t) steps ≡ []
keeps_none t [] h = refl
keeps_none t (step ∷ steps) h =
    let l = All-head (λ (s : DumpStep). t < s.time) step steps h in
    let e : nat_le step.time t ≡ false = grind (arith, nat_tests) in
    ap (λ b. cond b (step ∷ filter (is_up_to t) steps) (filter (is_up_to t) steps)) e ∙ keeps_none t steps (All-tail (λ (s : DumpStep). t < s.time) step steps h)

pub leading_apart : (changes : List Change) (steps others : List DumpStep) → (steps ≡ [] → ⊥) → with_leading changes (steps ++ others) ≡ with_leading changes steps ++ others
leading_apart changes [] others some = absurd (some refl)
leading_apart changes (step ∷ steps) others some = refl

leading_up_to : (t : ℕ) (changes : List Change) (steps : List DumpStep) → All (λ step. step.time ≤ t) steps → All (λ step. step.time ≤ t) (with_leading changes steps)
leading_up_to t changes [] h = h
leading_up_to t changes (step ∷ steps) h =
    All-cons (λ (s : DumpStep). s.time ≤ t) (record step { changes = changes ++ step.changes }) steps (All-head (λ (s : DumpStep). s.time ≤ t) step steps h) (All-tail (λ (s : DumpStep). s.time ≤ t) step steps h)

some_timed : (entries : List Entry) (t : ℕ) → has_ended entries ≡ false → last_time None entries ≡ Some t → timed entries ≡ [] → ⊥
some_timed [] t going e none = cc
some_timed (Time time ∷ entries) t going e none = cc
some_timed (Value code value ∷ entries) t going e none = some_timed entries t going e none
some_timed (Off ∷ entries) t going e none = false≢true (sym going)
some_timed (On time ∷ entries) t going e none = false≢true (sym going)

changes_leading : (changes : List Change) (steps : List DumpStep) → (steps ≡ [] → ⊥) → flat_map changes_of (with_leading changes steps) ≡ changes ++ flat_map changes_of steps
changes_leading changes [] some = absurd (some refl)
changes_leading changes (step ∷ steps) some = append_assoc changes step.changes (flat_map changes_of steps)

-- ---- the values

module _ (entries more : List Entry) (last next : ℕ) (going : has_ended entries ≡ false) (rises : Rises None (entries ++ Time next ∷ more)) (is_last : last_time None entries ≡ Some last) where
  abbrev whole : List Entry
  whole = entries ++ Time next ∷ more

  abbrev behind : List DumpStep
  behind = timed (Time next ∷ more)

  parts : Rises None entries × Rises (last_time None entries) (Time next ∷ more)
  parts = rises_apart None entries (Time next ∷ more) rises

  steps_are : steps_of whole ≡ with_leading (leading entries) (timed entries) ++ behind
  steps_are =
      ap (λ changes. with_leading changes (timed whole)) (leading_until entries more next) ∙ ap (with_leading (leading entries)) (timed_until entries more next going)
      ∙ leading_apart (leading entries) (timed entries) behind (some_timed entries last going is_last)

  before_next : (t : ℕ) → last ≤ t → t < next → filter (is_up_to t) (steps_of whole) ≡ with_leading (leading entries) (timed entries)
  before_next t from until =
      let front = with_leading (leading entries) (timed entries) in
      let up : IsUpTo (last_time None entries) t = subst (λ o. IsUpTo o t) (sym is_last) from in
      let here = keeps_all t front (leading_up_to t (leading entries) (timed entries) (timed_up_to None entries t going parts.0 up).0) in
      let there = keeps_none t behind
      (All-cons (λ (s : DumpStep). t < s.time) (record { time = next; changes = leading more }) (timed more) until
      (All-weaker (λ (s : DumpStep). IsLater (Some next) s.time) (λ s. t < s.time) (λ s l. omega (arith, until, l)) (timed more) (timed_later (Some next) more parts.1.1))) in
      ap (filter (is_up_to t)) steps_are ∙ filter-append (is_up_to t) front behind ∙ ap (λ ss. ss ++ filter (is_up_to t) behind) here ∙ ap (λ ss. front ++ ss) there ∙ append-nil front

  pub value_until : (code t : ℕ) → last ≤ t → t < next → value_at (steps_of whole) code t ≡ value_after entries code
  value_until code t from until =
      ap (λ ss. last_value code (flat_map changes_of ss)) (before_next t from until)
      ∙ ap (last_value code) (changes_leading (leading entries) (timed entries) (some_timed entries last going is_last) ∙ all_changes entries)

one_step : (entries : List Entry) (first : ℕ) → times_in entries ≡ first ∷ [] → (changes : List Change) × (timed entries ≡ record { time = first; changes = changes } ∷ [])
one_step [] first e = absurd cc
one_step (Value code value ∷ entries) first e = one_step entries first e
one_step (Off ∷ entries) first e = absurd cc
one_step (On time ∷ entries) first e = absurd cc
one_step (Time time ∷ entries) first e =
    let same : time ≡ first = cc in
    let none : times_in entries ≡ [] = cc in
    (leading entries, ap (λ t. record { time = t; changes = leading entries } ∷ timed entries) same ∙ ap (λ ss. record { time = first; changes = leading entries } ∷ ss) (no_steps entries none))
  where
    no_steps : (es : List Entry) → times_in es ≡ [] → timed es ≡ []
    no_steps [] f = refl
    no_steps (Time other ∷ es) f = absurd cc
    no_steps (Value code value ∷ es) f = no_steps es f
    no_steps (Off ∷ es) f = refl
    no_steps (On t ∷ es) f = refl

-- before the second time of a stretch that has not ended it is the first value
pub first_until : (entries more : List Entry) (first next code : ℕ) → has_ended entries ≡ false → times_in entries ≡ first ∷ [] → first_value (steps_of (entries ++ Time next ∷ more)) code ≡ value_after entries code
first_until entries more first next code going e =
    let one = one_step entries first e in
    let behind = timed (Time next ∷ more) in
    let steps : steps_of (entries ++ Time next ∷ more) ≡ record { time = first; changes = leading entries ++ one.0 } ∷ behind =
    ap (λ changes. with_leading changes (timed (entries ++ Time next ∷ more))) (leading_until entries more next)
    ∙ ap (with_leading (leading entries)) (timed_until entries more next going ∙ ap (λ ss. ss ++ behind) one.1) in
    let all : leading entries ++ one.0 ≡ changes_in entries =
    ap (λ cs. leading entries ++ cs) (sym (append-nil one.0) ∙ sym (ap (flat_map changes_of) one.1)) ∙ all_changes entries in
    ap (λ ss. first_value ss code) steps ∙ ap (last_value code) all

-- ---- the times of the last stretch rise as those of the whole do

rises_weaker : (last : Option ℕ) (entries : List Entry) → Rises last entries → Rises None entries
rises_weaker last [] r = tt
rises_weaker last (Time time ∷ entries) r = (tt, r.1)
rises_weaker last (Value code value ∷ entries) r = rises_weaker last entries r
rises_weaker last (Off ∷ entries) r = rises_weaker last entries r
rises_weaker last (On None ∷ entries) r = rises_weaker last entries r
rises_weaker last (On (Some time) ∷ entries) r = (tt, r.1)

rises_last : (last : Option ℕ) (entries s more : List Entry) → Rises None (s ++ more) → Rises last (entries ++ more) → Rises None (last_of s (later_stretches entries) ++ more)
rises_last last [] s more own r = own
rises_last last (Time time ∷ entries) s more own r = rises_last (Some time) entries s more own r.1
rises_last last (Value code value ∷ entries) s more own r = rises_last last entries s more own r
rises_last last (Off ∷ entries) s more own r = rises_last last entries s more own r
rises_last last (On None ∷ entries) s more own r = rises_last last entries entries more (rises_weaker last (entries ++ more) r) r
rises_last last (On (Some time) ∷ entries) s more own r = rises_last (Some time) entries (Time time ∷ entries) more (tt, r.1) r.1

pub rises_open : (entries more : List Entry) → is_on entries ≡ true → Rises None (entries ++ more) → Rises None (open_stretch entries ++ more)
rises_open entries more on r = subst (λ s. Rises None (s ++ more)) (sym (open_is entries on)) (rises_last None entries entries more r r)
