-- What is read of a dump is shown by each run that shows the whole.
use Rattle.std.proofs.Common.{◌≡◌, ⊎_elim, ℕ, ◌<◌, Bool, true, false, cond, nat_le, List, [], ◌∷◌, ◌++◌, map, Option, None, Some, refl, sym, ap, subst, ◌∙◌, arith, append-nil, append_assoc}
use Rattle.std.specs.List.{All, filter, flat_map}
use Rattle.std.proofs.lemmas.List.Elements.{All-cons, All-weaker, filter-append}
use Rattle.design_model.specs.Design.{Design, signal_bits}
use Rattle.design_model.specs.Run.{Run}
use Rattle.design_model.specs.Shows.{AreRising, InSome, IsShownOf, ShowsUpTo, StartsAt}
use Rattle.vcd_reader.specs.Dump.{DumpStep, last_value, later_stretches, leading, steps_of, stretches_of, timed, times_of, with_leading}
use Rattle.vcd_reader.specs.Order.{is_on}
use Rattle.vcd_reader.specs.Times.{IsLater, Rises, last_time}
use Rattle.vcd_reader.specs.declared.entry.Entry.{Entry}
use Rattle.vcd_reader.specs.declared.entry.Entry.TheVariants.{Time}
use Rattle.vcd_reader.proofs.Turns.{rises_apart}
use Rattle.shown_dumps.specs.Laws.{dump_with}
use Rattle.shown_dumps.specs.Said.{ended_stretches, has_ended, open_stretch, times_in}
use Rattle.shown_dumps.specs.Shown.{bit_at, code_at, has_begun, stretch_at, stretch_from, value_of_code}
use Rattle.shown_dumps.proofs.Order.{some_apart, some_front, some_here}
use Rattle.shown_dumps.proofs.Split.{open_going}
use Rattle.shown_dumps.proofs.Stretches.{NoneBegun, from_append, here_rises, here_times, none_after, parts, time_parts}
use Rattle.shown_dumps.proofs.Times.{last_of_more}
use Rattle.shown_dumps.proofs.Values.{changes_of, is_up_to, keeps_none, leading_apart, leading_until, rises_open, timed_later, timed_until}

-- the steps of a stretch before a time are the same, whatever is said after it
module _ (entries more : List Entry) (next t : ℕ) (going : has_ended entries ≡ false) (rises : Rises None (entries ++ Time next ∷ more)) (before : t < next) where
  later_steps : Rises (last_time None entries) (Time next ∷ more) → All (λ step. t < step.time) (timed (Time next ∷ more))
  later_steps r =
      All-cons (λ (s : DumpStep). t < s.time) (record { time = next; changes = leading more }) (timed more) before
      (All-weaker (λ (s : DumpStep). IsLater (Some next) s.time) (λ s. t < s.time) (λ s l. omega (arith, before, l)) (timed more) (timed_later (Some next) more r.1))

  none_later : filter (is_up_to t) (timed (Time next ∷ more)) ≡ []
  none_later = keeps_none t (timed (Time next ∷ more)) (later_steps (rises_apart None entries (Time next ∷ more) rises).1)

  go : (first : List DumpStep) → timed entries ≡ first → filter (is_up_to t) (steps_of (entries ++ Time next ∷ more)) ≡ filter (is_up_to t) (with_leading (leading entries) (timed entries))
  go [] e =
      let steps : steps_of (entries ++ Time next ∷ more) ≡ with_leading (leading entries) (timed (Time next ∷ more)) =
      ap (λ changes. with_leading changes (timed (entries ++ Time next ∷ more))) (leading_until entries more next) ∙ ap (with_leading (leading entries)) (timed_until entries more next going ∙ ap (λ ss. ss ++ timed (Time next ∷ more)) e) in
      let late : All (λ step. t < step.time) (with_leading (leading entries) (timed (Time next ∷ more))) =
      All-cons (λ (s : DumpStep). t < s.time) (record { time = next; changes = leading entries ++ leading more }) (timed more) before
      (All-weaker (λ (s : DumpStep). IsLater (Some next) s.time) (λ s. t < s.time) (λ s l. omega (arith, before, l)) (timed more) (timed_later (Some next) more (rises_apart None entries (Time next ∷ more) rises).1.1)) in
      ap (filter (is_up_to t)) steps ∙ keeps_none t (with_leading (leading entries) (timed (Time next ∷ more))) late ∙ sym (ap (λ ss. filter (is_up_to t) (with_leading (leading entries) ss)) e)
  go (step ∷ steps) e =
      let front = with_leading (leading entries) (timed entries) in
      let behind = timed (Time next ∷ more) in
      let are : steps_of (entries ++ Time next ∷ more) ≡ front ++ behind =
      ap (λ changes. with_leading changes (timed (entries ++ Time next ∷ more))) (leading_until entries more next) ∙ ap (with_leading (leading entries)) (timed_until entries more next going)
      ∙ leading_apart (leading entries) (timed entries) behind (λ none. absurd (let no : [] ≡ step ∷ steps = sym none ∙ e in cc)) in
      ap (filter (is_up_to t)) are ∙ filter-append (is_up_to t) front behind ∙ ap (λ ss. filter (is_up_to t) front ++ ss) none_later ∙ append-nil (filter (is_up_to t) front)

  steps_before : filter (is_up_to t) (steps_of (entries ++ Time next ∷ more)) ≡ filter (is_up_to t) (with_leading (leading entries) (timed entries))
  steps_before = go (timed entries) refl

-- a time before one that is said is shown
shown_more : (front : List ℕ) (next : ℕ) (back : List ℕ) (t : ℕ) → AreRising (front ++ next ∷ back) → t < next → IsShownOf (front ++ next ∷ []) t → IsShownOf (front ++ next ∷ back) t
shown_more [] next back t up before shown = absurd (omega (arith, shown.0, before))
shown_more (x ∷ front) next back t up before shown = (shown.0, omega (arith, before, last_of_more x front next back up))

-- the first time is not changed by what is said after it
starts_same : (fronts : List (List ℕ)) (front : List ℕ) (next : ℕ) (back : List ℕ) (backs : List (List ℕ)) (t : ℕ) → StartsAt (fronts ++ (front ++ next ∷ back) ∷ backs) t → StartsAt (fronts ++ (front ++ next ∷ []) ∷ []) t
starts_same [] [] next back backs t s = s
starts_same [] (x ∷ front) next back backs t s = s
starts_same ([] ∷ fronts) front next back backs t s = starts_same fronts front next back backs t s
starts_same ((u ∷ us) ∷ fronts) front next back backs t s = s

-- stretches that begin at one time and have the same value at a time are interchangeable there
same_from : (one other : List DumpStep) (t : ℕ) (o : Option ℕ) → has_begun one t ≡ has_begun other t → value_of_code one t o ≡ value_of_code other t o → (steps : List DumpStep) (front : List (List DumpStep))
    → value_of_code (stretch_from steps (front ++ one ∷ []) t) t o ≡ value_of_code (stretch_from steps (front ++ other ∷ []) t) t o
same_from one other t o begun same steps [] = ap (λ b. value_of_code (cond b one steps) t o) begun ∙ go (has_begun other t)
  where
    go : (b : Bool) → value_of_code (cond b one steps) t o ≡ value_of_code (cond b other steps) t o
    go true = same
    go false = refl
same_from one other t o begun same steps (next ∷ front) = same_from one other t o begun same (cond (has_begun next t) next steps) front

same_at : (one other : List DumpStep) (t : ℕ) (o : Option ℕ) → has_begun one t ≡ has_begun other t → value_of_code one t o ≡ value_of_code other t o → (front later : List (List DumpStep)) → NoneBegun t later
    → value_of_code (stretch_at (front ++ one ∷ later) t) t o ≡ value_of_code (stretch_at (front ++ other ∷ []) t) t o
same_at one other t o begun same [] later none = ap (λ ss. value_of_code ss t o) (from_append one [] later t none) ∙ same
same_at one other t o begun same (steps ∷ front) later none =
    ap (λ xs. value_of_code (stretch_from steps xs t) t o) (sym (append_assoc front (one ∷ []) later)) ∙ ap (λ ss. value_of_code ss t o) (from_append steps (front ++ one ∷ []) later t none)
    ∙ same_from one other t o begun same steps front

first_test : (steps : List DumpStep) (t time : ℕ) (times : List ℕ) → times_of steps ≡ time ∷ times → has_begun steps t ≡ nat_le time t
first_test [] t time times h = absurd cc
first_test (step ∷ steps) t time times h = let same : step.time ≡ time = cc in ap (λ u. nat_le u t) same

begun_same : (one other : List DumpStep) (front : List ℕ) (next : ℕ) (back : List ℕ) (t : ℕ) → times_of one ≡ front ++ next ∷ back → times_of other ≡ front ++ next ∷ [] → has_begun one t ≡ has_begun other t
begun_same one other [] next back t e f = first_test one t next back e ∙ sym (first_test other t next [] f)
begun_same one other (x ∷ front) next back t e f = first_test one t x (front ++ next ∷ back) e ∙ sym (first_test other t x (front ++ next ∷ []) f)

module _ (d : Design) (codes : List (Option ℕ)) (entries more : List Entry) (next : ℕ) (on : is_on entries ≡ true) (rises : Rises None (entries ++ Time next ∷ more)) where
  -- what ends with the next time rises too
  ends_rising : Rises None (entries ++ Time next ∷ [])
  ends_rising = (rises_apart None (entries ++ Time next ∷ []) more (subst (Rises None) (sym (append_assoc entries (Time next ∷ []) more)) rises)).0

  abbrev now : List Entry
  now = open_stretch entries

  abbrev one : List DumpStep
  one = steps_of (now ++ Time next ∷ more)

  abbrev other : List DumpStep
  other = steps_of (now ++ Time next ∷ [])

  own_same : (t : ℕ) → t < next → (o : Option ℕ) → value_of_code one t o ≡ value_of_code other t o
  own_same t before None = refl
  own_same t before (Some code) =
      ap (λ ss. last_value code (flat_map changes_of ss))
      (steps_before now more next t (open_going entries) (rises_open entries (Time next ∷ more) on rises) before ∙ sym (steps_before now [] next t (open_going entries) (rises_open entries (Time next ∷ []) on ends_rising) before))

  value_same : (t : ℕ) → t < next → (o : Option ℕ)
      → value_of_code (stretch_at (stretches_of (entries ++ Time next ∷ more)) t) t o ≡ value_of_code (stretch_at (stretches_of (entries ++ Time next ∷ [])) t) t o
  value_same t before o =
      let front = map steps_of (ended_stretches entries) in
      let begun = begun_same one other (times_in now) next (times_in more) t (here_times entries more next on rises) (here_times entries [] next on ends_rising) in
      ap (λ ss. value_of_code (stretch_at ss t) t o) (parts entries more next on rises)
      ∙ same_at one other t o begun (own_same t before o) front (map steps_of (later_stretches more)) (none_after entries more next on rises t before)
      ∙ sym (ap (λ ss. value_of_code (stretch_at ss t) t o) (parts entries [] next on ends_rising))

  values_same : (t : ℕ) → t < next → (dump_with codes entries next more).values t ≡ (dump_with codes entries next []).values t
  values_same t before = λ i c. bit_at (value_same t before (code_at codes c.thing) i) c.place

  abbrev fronts : List (List ℕ)
  fronts = map times_of (map steps_of (ended_stretches entries))

  abbrev backs : List (List ℕ)
  backs = map times_of (map steps_of (later_stretches more))

  whole_times : map times_of (stretches_of (entries ++ Time next ∷ more)) ≡ fronts ++ (times_in now ++ next ∷ times_in more) ∷ backs
  whole_times = time_parts entries more next on rises ∙ ap (λ ts. fronts ++ ts ∷ backs) (here_times entries more next on rises)

  front_times : map times_of (stretches_of (entries ++ Time next ∷ [])) ≡ fronts ++ (times_in now ++ next ∷ []) ∷ []
  front_times = time_parts entries [] next on ends_rising ∙ ap (λ ts. fronts ++ ts ∷ []) (here_times entries [] next on ends_rising)

  -- what the first part shows, the whole shows
  shown_whole : (t : ℕ) → t < next → InSome (λ ts. IsShownOf ts t) (fronts ++ (times_in now ++ next ∷ []) ∷ []) → InSome (λ ts. IsShownOf ts t) (fronts ++ (times_in now ++ next ∷ times_in more) ∷ backs)
  shown_whole t before shown =
      let shows = λ (ts : List ℕ). IsShownOf ts t in
      let up : AreRising (times_in now ++ next ∷ times_in more) = subst AreRising (here_times entries more next on rises) (here_rises entries more next on rises) in
      ⊎_elim (λ earlier. some_front shows fronts ((times_in now ++ next ∷ times_in more) ∷ backs) earlier)
      (λ here. some_here shows fronts (times_in now ++ next ∷ times_in more) backs (shown_more (times_in now) next (times_in more) t up before here))
      (some_apart shows fronts ((times_in now ++ next ∷ []) ∷ []) shown)

  pub front : (r : Run) (t : ℕ) → t < next → ShowsUpTo d (dump_with codes entries next more) r t → ShowsUpTo d (dump_with codes entries next []) r t
  front r t before shows = record {
    starts =
        subst (λ tss. StartsAt tss r.begins) (sym front_times)
        (starts_same fronts (times_in now) next (times_in more) backs r.begins (subst (λ tss. StartsAt tss r.begins) whole_times shows.starts));
    shows = λ u shown until s bound.
        let early : u < next = omega (arith, until, before) in
        let there = shown_whole u early (subst (InSome (λ ts. IsShownOf ts u)) front_times shown) in
        let same = shows.shows u (subst (InSome (λ ts. IsShownOf ts u)) (sym whole_times) there) until s bound in
        same ∙ ap (λ v. signal_bits d v s) (values_same u early);
  }
