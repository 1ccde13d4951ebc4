-- What was taken, with one entry more.
use Rattle.std.proofs.Common.{◌≡◌, ◌⊎◌, ℕ, ◌<◌, ◌≤◌, ◌+◌, ◌-◌, true, false, List, [], ◌∷◌, ◌++◌, length, Option, None, Some, is_some, refl, sym, ap, subst, ◌∙◌, inl, inr, arith, append-nil, append_assoc, length-append}
use Rattle.std.specs.Prelude.{IfSome, IsSome}
use Rattle.std.proofs.lemmas.List.{length-map}
use Rattle.four_state.specs.Vector.{Vector}
use Rattle.design_model.specs.Shows.{AreRising, BoundDump, NoneShown}
use Rattle.vcd_reader.specs.Dump.{DumpStep, begun_at, steps_of, stretches_of}
use Rattle.vcd_reader.specs.Order.{is_on}
use Rattle.vcd_reader.specs.Times.{Rises, last_time}
use Rattle.vcd_reader.specs.declared.entry.Entry.{Entry}
use Rattle.vcd_reader.specs.declared.entry.Entry.TheVariants.{Off, On, Time, Value}
use Rattle.shown_dumps.specs.Bound.{HasFirstValue, HaveFirstValues, first_value}
use Rattle.shown_dumps.specs.Laws.{dump_with}
use Rattle.shown_dumps.specs.Ongoing.{AreGiven, HoldsOn, HoldsPaused, IsPauseUntil, bits_of}
use Rattle.shown_dumps.specs.Said.{EndsIn, open_stretch, times_in, value_after}
use Rattle.shown_dumps.specs.Shown.{code_at, dump_of}
use Rattle.dump_replay.specs.Taken.{HasTaken}
use Rattle.dump_replay.proofs.More.{given_time, last_cases, no_times, two_times}
use Rattle.shown_dumps.proofs.Gap.{end_short, end_two}
use Rattle.shown_dumps.proofs.Ongoing.{change_more, ended_at_on, ended_at_said, first_stays, paused_more, time_more, times_time, times_value, values_off, values_on, values_open, values_said}
use Rattle.shown_dumps.proofs.Split.{on_of_last, open_going, open_none, open_off, open_on, open_said}
use Rattle.shown_dumps.proofs.Times.{tail_rises, times_are, times_rise}
use Rattle.shown_dumps.proofs.Values.{first_until, rises_open}

holds_map : (P Q : BoundDump → ℕ → Type 0) (codes : List (Option ℕ)) (entries : List Entry) → ((dump : BoundDump) (t : ℕ) → P dump t → Q dump t) → HoldsOn P codes entries → HoldsOn Q codes entries
holds_map P Q codes entries step holds before last ends more rises = step _ (last - 1) (holds before last ends more rises)

paused_map : (P Q : BoundDump → ℕ → Type 0) (codes : List (Option ℕ)) (entries : List Entry) → ((dump : BoundDump) (t : ℕ) → P dump t → Q dump t) → HoldsPaused P codes entries → HoldsPaused Q codes entries
paused_map P Q codes entries step holds more t rises until = step _ t (holds more t rises until)

pub steps_long : (entries : List Entry) → length (steps_of entries) ≡ length (times_in entries)
steps_long entries = sym (length-map (steps_of entries) (λ (step : DumpStep). step.time)) ∙ ap length (times_are entries)

-- ---- first values

-- first values of a stretch stay
based_more : (codes : List (Option ℕ)) (stretch more : List Entry) → 2 ≤ length (times_in stretch) → (s : ℕ) → HasFirstValue codes (steps_of stretch) s → HasFirstValue codes (steps_of (stretch ++ more)) s
based_more codes stretch more two s based = go (code_at codes s) based
  where
    go : (o : Option ℕ) → IfSome o (λ code. IsSome (first_value (steps_of stretch) code)) → IfSome o (λ code. IsSome (first_value (steps_of (stretch ++ more)) code))
    go None h = h
    go (Some code) h = ap is_some (first_stays stretch more code two) ∙ h

-- those of the stretch that is on
pub own_values : (codes : List (Option ℕ)) (entries : List Entry) → is_on entries ≡ true → HaveFirstValues codes (stretches_of entries) → 2 ≤ length (times_in (open_stretch entries)) → (s : ℕ) → HasFirstValue codes (steps_of (open_stretch entries)) s
own_values codes entries on have two =
    let all : HaveFirstValues codes (stretches_of (entries ++ [])) = subst (λ es. HaveFirstValues codes (stretches_of es)) (sym (append-nil entries)) have in
    let own : 2 ≤ length (steps_of (open_stretch entries)) → (s : ℕ) → HasFirstValue codes (steps_of (open_stretch entries)) s =
    subst (λ es. 2 ≤ length (steps_of es) → (s : ℕ) → HasFirstValue codes (steps_of es) s) (append-nil (open_stretch entries)) (values_open codes entries [] on all) in
    own (omega (arith, two, steps_long (open_stretch entries)))

-- ---- entries more

-- nothing was given yet
pub taken_none : (P Q : BoundDump → ℕ → Type 0) (New : Type 0) (codes : List (Option ℕ)) (values : ℕ → Option Vector) → ((code : ℕ) → values code ≡ None) → New → HoldsPaused Q codes [] → HasTaken P Q New codes values []
taken_none P Q New codes values none new holds = record {
  given = λ s code bound. ap bits_of (none code);
  waits = λ l. record { is_new = new; holds = holds };
  based = ((λ l. absurd (omega (arith, l))), tt);
  follows = λ before last ends more rises. absurd (omega (arith, two_times [] before last ends));
}

-- a change
pub taken_value : (P Q R S : BoundDump → ℕ → Type 0) (Old New : Type 0) (codes : List (Option ℕ)) (old new : ℕ → Option Vector) (entries : List Entry) (code : ℕ) (value : Vector) → AreGiven codes new (entries ++ Value code value ∷ [])
    → ((dump : BoundDump) (t : ℕ) → P dump t → Q dump t) → ((dump : BoundDump) (t : ℕ) → R dump t → S dump t) → (Old → New) → HasTaken P R Old codes old entries
    → HasTaken Q S New codes new (entries ++ Value code value ∷ [])
taken_value P Q R S Old New codes old new entries code value given step pause stays t =
    let times = times_value entries code value in
    record {
      given = given;
      waits = λ l.
          let waited = t.waits (omega (arith, l, ap length times)) in
          record { is_new = stays waited.is_new; holds = paused_more S codes entries (Value code value ∷ []) (ended_at_said entries (Value code value ∷ []) refl) (paused_map R S codes entries pause waited.holds) };
      based = values_said codes entries (Value code value ∷ []) refl t.based own;
      follows = change_more Q codes entries code value (holds_map P Q codes entries step t.follows);
    }
  where
    own : is_on entries ≡ true → 2 ≤ length (steps_of (open_stretch entries ++ Value code value ∷ [])) → (s : ℕ) → HasFirstValue codes (steps_of (open_stretch entries ++ Value code value ∷ [])) s
    own is l s =
        let said = open_said entries (Value code value ∷ []) is refl in
        let two : 2 ≤ length (times_in (open_stretch entries)) =
        omega (arith, l, steps_long (open_stretch entries ++ Value code value ∷ []), ap (λ es. length (times_in es)) said, ap length (times_value entries code value)) in
        based_more codes (open_stretch entries) (Value code value ∷ []) two s (own_values codes entries is t.based two s)

-- the first time of a stretch
pub taken_first : (P Q : BoundDump → ℕ → Type 0) (New : Type 0) (codes : List (Option ℕ)) (values : ℕ → Option Vector) (entries : List Entry) (time : ℕ) → is_on entries ≡ true → last_time None (open_stretch entries) ≡ None → HasTaken P Q New codes values entries
    → HasTaken P Q New codes values (entries ++ Time time ∷ [])
taken_first P Q New codes values entries time on none t =
    let empty = no_times entries none in
    let times : times_in (open_stretch (entries ++ Time time ∷ [])) ≡ time ∷ [] = times_time entries time on ∙ ap (λ ts. ts ++ time ∷ []) empty in
    record {
      given = given_time codes values entries time on t.given;
      waits = λ l.
          let waited = t.waits (omega (arith, ap length empty)) in
          record { is_new = waited.is_new; holds = paused_more Q codes entries (Time time ∷ []) (ended_at_said entries (Time time ∷ []) refl) waited.holds };
      based = values_said codes entries (Time time ∷ []) refl t.based (λ is l. absurd (one l times));
      follows = λ before last ends more rises. absurd (omega (arith, two_times _ before last ends, ap length times));
    }
  where
    one : 2 ≤ length (steps_of (open_stretch entries ++ Time time ∷ [])) → times_in (open_stretch (entries ++ Time time ∷ [])) ≡ time ∷ [] → ⊥
    one l times = omega (arith, l, steps_long (open_stretch entries ++ Time time ∷ []), ap (λ es. length (times_in es)) (open_said entries (Time time ∷ []) on refl), ap length times)

-- a later time, at which what holds of the last one before it is known
pub taken_time : (P Q R S : BoundDump → ℕ → Type 0) (Old New : Type 0) (codes : List (Option ℕ)) (values : ℕ → Option Vector) (entries : List Entry) (last next : ℕ) → last_time None (open_stretch entries) ≡ Some last
    → ((s code : ℕ) → code_at codes s ≡ Some code → IsSome (values code)) → ((more : List Entry) → Rises None (entries ++ Time next ∷ more) → Q (dump_with codes entries next more) (next - 1)) → HasTaken P R Old codes values entries
    → HasTaken Q S New codes values (entries ++ Time next ∷ [])
taken_time P Q R S Old New codes values entries last next is_last some holds t =
    record {
      given = given_time codes values entries next on t.given;
      waits = λ l. absurd (two l (last_cases entries last is_last));
      based = values_said codes entries (Time next ∷ []) refl t.based (λ is l s. first s (last_cases entries last is_last));
      follows = time_more Q codes entries next on holds;
    }
  where
    on : is_on entries ≡ true
    on = on_of_last entries last is_last

    long : length (times_in (open_stretch (entries ++ Time next ∷ []))) ≡ length (times_in (open_stretch entries)) + 1
    long = ap length (times_time entries next on) ∙ length-append (times_in (open_stretch entries)) (next ∷ [])

    two : length (times_in (open_stretch (entries ++ Time next ∷ []))) ≤ 1 → (times_in (open_stretch entries) ≡ last ∷ []) ⊎ ((before : ℕ) × EndsIn (times_in (open_stretch entries)) before last) → ⊥
    two l (inl one) = omega (arith, l, long, ap length one)
    two l (inr more) = omega (arith, l, long, two_times _ more.0 last more.1)

    has_bits : (o p : Option Vector) → bits_of o ≡ bits_of p → IsSome o → IsSome p
    has_bits None p e is = absurd (let no_value : false ≡ true = is in cc)
    has_bits (Some v) None e is = absurd cc
    has_bits (Some v) (Some w) e is = refl

    first : (s : ℕ) → (times_in (open_stretch entries) ≡ last ∷ []) ⊎ ((before : ℕ) × EndsIn (times_in (open_stretch entries)) before last) → HasFirstValue codes (steps_of (open_stretch entries ++ Time next ∷ [])) s
    first s (inr more) = let l = two_times _ more.0 last more.1 in based_more codes (open_stretch entries) (Time next ∷ []) l s (own_values codes entries on t.based l s)
    first s (inl one) = go (code_at codes s) refl
      where
        go : (o : Option ℕ) → code_at codes s ≡ o → IfSome o (λ code. IsSome (first_value (steps_of (open_stretch entries ++ Time next ∷ [])) code))
        go None e = tt
        go (Some code) e = ap is_some (first_until (open_stretch entries) [] last next code (open_going entries) one) ∙ has_bits (values code) (value_after (open_stretch entries) code) (t.given s code e) (some s code e)

-- ---- where the dump goes off or on

-- no time is shown between the last step of a stretch and where more is shown
none_after : (dump : BoundDump) (last t : ℕ) → IsPauseUntil dump last t → NoneShown dump (last - 1) t
none_after dump last t until v after before shown = until.none v (omega (arith, after)) before shown

-- the last of two times is not zero
last_positive : (times : List ℕ) (before last : ℕ) → AreRising times → EndsIn times before last → 0 < last
last_positive times before last up ends =
    let less : AreRising (before ∷ last ∷ []) = tail_rises ends.earlier (before ∷ last ∷ []) (subst AreRising ends.are up) in
    omega (arith, less.0)

-- where the dump goes off
pub taken_off : (P R S Q : BoundDump → ℕ → Type 0) (Old New : Type 0) (codes : List (Option ℕ)) (old new : ℕ → Option Vector) (entries : List Entry) → is_on entries ≡ true → Rises None entries
    → ((code : ℕ) → new code ≡ None) → New → ((dump : BoundDump) (t u : ℕ) → P dump t → t < u → NoneShown dump t u → S dump u) → ((dump : BoundDump) (u : ℕ) → R dump u → S dump u)
    → HasTaken P R Old codes old entries → HasTaken Q S New codes new (entries ++ Off ∷ [])
taken_off P R S Q Old New codes old new entries on rises none is_new ends_stretch stays t =
    let closed : open_stretch (entries ++ Off ∷ []) ≡ [] = open_off entries in
    record {
      given = λ s code bound. ap bits_of (none code) ∙ ap (λ es. bits_of (value_after es code)) (sym closed);
      waits = λ l. record { is_new = is_new; holds = by_last (last_time None (open_stretch entries)) refl };
      based = values_off codes entries t.based;
      follows = λ before last ends more r. absurd (omega (arith, two_times _ before last ends, ap (λ es. length (times_in es)) closed));
    }
  where
    positive : (before last : ℕ) → EndsIn (times_in (open_stretch entries)) before last → 0 < last
    positive before last ends =
        let own : Rises None (open_stretch entries ++ []) = rises_open entries [] on (subst (Rises None) (sym (append-nil entries)) rises) in
        last_positive (times_in (open_stretch entries)) before last (times_rise (open_stretch entries) (subst (Rises None) (append-nil (open_stretch entries)) own)) ends

    few : length (times_in (open_stretch entries)) ≤ 1 → HoldsPaused S codes (entries ++ Off ∷ [])
    few l = paused_more S codes entries (Off ∷ []) (end_short entries l) (paused_map R S codes entries stays (t.waits l).holds)

    two : (before last : ℕ) → EndsIn (times_in (open_stretch entries)) before last → HoldsPaused S codes (entries ++ Off ∷ [])
    two before last ends more u r until =
        let parts : (entries ++ Off ∷ []) ++ more ≡ entries ++ Off ∷ more = append_assoc entries (Off ∷ []) more in
        let here = subst (λ es. IsPauseUntil (dump_of codes (stretches_of es)) last u) parts (subst (λ e. IsPauseUntil (dump_of codes (stretches_of ((entries ++ Off ∷ []) ++ more))) e u) (end_two entries before last ends) until) in
        subst (λ es. S (dump_of codes (stretches_of es)) u) (sym parts)
        (ends_stretch (dump_of codes (stretches_of (entries ++ Off ∷ more))) (last - 1) u (t.follows before last ends (Off ∷ more) (subst (Rises None) parts r)) (omega (arith, positive before last ends, here.later))
        (none_after (dump_of codes (stretches_of (entries ++ Off ∷ more))) last u here))

    by_last : (o : Option ℕ) → last_time None (open_stretch entries) ≡ o → HoldsPaused S codes (entries ++ Off ∷ [])
    by_last None e = few (omega (arith, ap length (no_times entries e)))
    by_last (Some last) e = elim (last_cases entries last e) [ inl one ↦ few (omega (arith, ap length one)) | inr (before, ends) ↦ two before last ends ]

-- and where it goes on
pub taken_on : (P R : BoundDump → ℕ → Type 0) (New : Type 0) (codes : List (Option ℕ)) (values : ℕ → Option Vector) (entries : List Entry) (time : Option ℕ) → is_on entries ≡ false → HasTaken P R New codes values entries
    → HasTaken P R New codes values (entries ++ On time ∷ [])
taken_on P R New codes values entries time off t =
    let closed : open_stretch entries ≡ [] = open_none entries off in
    let opened = open_on entries time in
    let waited = t.waits (omega (arith, ap (λ es. length (times_in es)) closed)) in
    record {
      given = λ s code bound. t.given s code bound ∙ ap (λ es. bits_of (value_after es code)) closed ∙ none_begun time code ∙ ap (λ es. bits_of (value_after es code)) (sym opened);
      waits = λ l. record { is_new = waited.is_new; holds = paused_more R codes entries (On time ∷ []) (ended_at_on entries time off) waited.holds };
      based = values_on codes entries time off t.based;
      follows = λ before last ends more r. absurd (omega (arith, two_times _ before last ends, ap (λ es. length (times_in es)) opened, one_begun time));
    }
  where
    none_begun : (o : Option ℕ) (code : ℕ) → bits_of (value_after [] code) ≡ bits_of (value_after (begun_at o []) code)
    none_begun None code = refl
    none_begun (Some u) code = refl

    one_begun : (o : Option ℕ) → length (times_in (begun_at o [])) ≤ 1
    one_begun None = omega arith
    one_begun (Some u) = omega arith
