-- What was said with one entry more.
use Rattle.std.proofs.Common.{◌≡◌, ◌⊎◌, ⊎_elim, ℕ, ◌<◌, ◌≤◌, ◌==◌, true, false, cond, List, [], ◌∷◌, ◌++◌, length, Option, None, Some, refl, sym, ap, subst, ◌∙◌, inl, inr, arith, append-nil, append_assoc, length-append}
use Rattle.std.specs.Option.{option_or}
use Rattle.std.proofs.lemmas.Bool.{cases_Bool, eqb-true, false≢true}
use Rattle.std.proofs.lemmas.Bool.Decides.{nat_tests}
use Rattle.four_state.specs.Vector.{Vector}
use Rattle.vcd_reader.specs.Dump.{Change, last_value}
use Rattle.vcd_reader.specs.Order.{is_on}
use Rattle.vcd_reader.specs.Times.{Rises, last_time}
use Rattle.vcd_reader.specs.declared.entry.Entry.{Entry}
use Rattle.vcd_reader.specs.declared.entry.Entry.TheVariants.{Off, On, Time, Value}
use Rattle.shown_dumps.specs.Ongoing.{AreGiven, bits_of}
use Rattle.shown_dumps.specs.Said.{EndsIn, changes_in, has_ended, open_stretch, times_in, value_after}
use Rattle.shown_dumps.specs.Shown.{code_at}
use Rattle.shown_dumps.proofs.Split.{on_of_last, open_dropped, open_going, open_said}
use Rattle.shown_dumps.proofs.Times.{last_front}
use Rattle.shown_dumps.proofs.Values.{rises_open}
use Rattle.vcd_reader.proofs.Turns.{rises_apart}

-- ---- the value of a code

or_nothing : {X : Type 0} (o : Option X) → option_or o None ≡ o
or_nothing None = refl
or_nothing (Some x) = refl

changes_append : (entries others : List Entry) → has_ended entries ≡ false → changes_in (entries ++ others) ≡ changes_in entries ++ changes_in others
changes_append [] others going = refl
changes_append (Time time ∷ entries) others going = changes_append entries others going
changes_append (Value code value ∷ entries) others going = ap (λ cs. record { code = code; value = value } ∷ cs) (changes_append entries others going)
changes_append (Off ∷ entries) others going = absurd (false≢true (sym going))
changes_append (On time ∷ entries) others going = absurd (false≢true (sym going))

-- the last change of a list with one change more
last_more : (code : ℕ) (changes : List Change) (change : Change) → last_value code (changes ++ change ∷ []) ≡ option_or (cond (change.code == code) (Some change.value) None) (last_value code changes)
last_more code [] change = go (cond (change.code == code) (Some change.value) None)
  where
    go : (o : Option Vector) → option_or None o ≡ option_or o None
    go None = refl
    go (Some v) = refl
last_more code (first ∷ changes) change =
    ap (λ o. option_or o (cond (first.code == code) (Some first.value) None)) (last_more code changes change)
    ∙ assoc (cond (change.code == code) (Some change.value) None) (last_value code changes) (cond (first.code == code) (Some first.value) None)
  where
    assoc : (a b c : Option Vector) → option_or (option_or a b) c ≡ option_or a (option_or b c)
    assoc None b c = refl
    assoc (Some v) b c = refl

value_more : (entries : List Entry) (code other : ℕ) (value : Vector) → has_ended entries ≡ false → value_after (entries ++ Value code value ∷ []) other ≡ option_or (cond (code == other) (Some value) None) (value_after entries other)
value_more entries code other value going = ap (last_value other) (changes_append entries (Value code value ∷ []) going) ∙ last_more other (changes_in entries) (record { code = code; value = value })

value_same : (entries : List Entry) (code : ℕ) (value : Vector) → has_ended entries ≡ false → value_after (entries ++ Value code value ∷ []) code ≡ Some value
value_same entries code value going =
    let same : (code == code) ≡ true = grind (arith, nat_tests) in
    value_more entries code code value going ∙ ap (λ b. option_or (cond b (Some value) None) (value_after entries code)) same

value_other : (entries : List Entry) (code other : ℕ) (value : Vector) → has_ended entries ≡ false → (code == other) ≡ false → value_after (entries ++ Value code value ∷ []) other ≡ value_after entries other
value_other entries code other value going apart = value_more entries code other value going ∙ ap (λ b. option_or (cond b (Some value) None) (value_after entries other)) apart

value_time : (entries : List Entry) (time code : ℕ) → has_ended entries ≡ false → value_after (entries ++ Time time ∷ []) code ≡ value_after entries code
value_time entries time code going = ap (last_value code) (changes_append entries (Time time ∷ []) going ∙ append-nil (changes_in entries))

-- ---- the values that were given

-- a change of a code that a signal may have
pub given_value : (codes : List (Option ℕ)) (old new : ℕ → Option Vector) (entries : List Entry) (code : ℕ) (value : Vector) → is_on entries ≡ true → ((s : ℕ) → code_at codes s ≡ Some code → bits_of (new code) ≡ bits_of (Some value))
    → ((other : ℕ) → (code == other) ≡ false → new other ≡ old other) → AreGiven codes old entries → AreGiven codes new (entries ++ Value code value ∷ [])
given_value codes old new entries code value on here others given s other bound =
    go (cases_Bool (code == other)) ∙ ap (λ es. bits_of (value_after es other)) (sym (open_said entries (Value code value ∷ []) on refl))
  where
    go : ((code == other) ≡ true) ⊎ ((code == other) ≡ false) → bits_of (new other) ≡ bits_of (value_after (open_stretch entries ++ Value code value ∷ []) other)
    go (inl same) =
        let is : code ≡ other = eqb-true code other same in
        subst (λ c. bits_of (new c) ≡ bits_of (value_after (open_stretch entries ++ Value code value ∷ []) c)) is
        (here s (bound ∙ ap Some (sym is)) ∙ ap bits_of (sym (value_same (open_stretch entries) code value (open_going entries))))
    go (inr apart) = ap bits_of (others other apart) ∙ given s other bound ∙ ap bits_of (sym (value_other (open_stretch entries) code other value (open_going entries) apart))

-- a change of a code that no signal has changes nothing
pub given_passed : (codes : List (Option ℕ)) (values : ℕ → Option Vector) (entries : List Entry) (code : ℕ) (value : Vector) → ((s : ℕ) → code_at codes s ≡ Some code → ⊥) → AreGiven codes values entries
    → AreGiven codes values (entries ++ Value code value ∷ [])
given_passed codes values entries code value none given =
    ⊎_elim
    (λ on. given_value codes values values entries code value on (λ s bound. absurd (none s bound)) (λ other apart. refl) given)
    (λ off s other bound. given s other bound ∙ ap (λ es. bits_of (value_after es other)) (sym (open_dropped entries (Value code value ∷ []) off refl)))
    (cases_Bool (is_on entries))

-- a time changes no value
pub given_time : (codes : List (Option ℕ)) (values : ℕ → Option Vector) (entries : List Entry) (time : ℕ) → is_on entries ≡ true → AreGiven codes values entries → AreGiven codes values (entries ++ Time time ∷ [])
given_time codes values entries time on given s code bound =
    given s code bound ∙ ap bits_of (sym (value_time (open_stretch entries) time code (open_going entries))) ∙ ap (λ es. bits_of (value_after es code)) (sym (open_said entries (Time time ∷ []) on refl))

-- ---- the last times

-- a list has a last item or none
snoc_view : (xs : List ℕ) → (xs ≡ []) ⊎ ((front : List ℕ) × (x : ℕ) × (xs ≡ front ++ x ∷ []))
snoc_view [] = inl refl
snoc_view (x ∷ xs) = elim (snoc_view xs) [ inl none ↦ inr ([], x, ap (λ ys. x ∷ ys) none) | inr more ↦ inr (x ∷ more.0, more.1, ap (λ ys. x ∷ ys) more.2) ]

-- the last time of the stretch that is on is its only one, or there is one before it
pub last_cases : (entries : List Entry) (last : ℕ) → last_time None (open_stretch entries) ≡ Some last
    → (times_in (open_stretch entries) ≡ last ∷ []) ⊎ ((before : ℕ) × EndsIn (times_in (open_stretch entries)) before last)
last_cases entries last e = let some = last_front (open_stretch entries) last (open_going entries) e in by_front some.0 some.1 (snoc_view some.0)
  where
    by_front : (front : List ℕ) → times_in (open_stretch entries) ≡ front ++ last ∷ [] → (front ≡ []) ⊎ ((f : List ℕ) × (x : ℕ) × (front ≡ f ++ x ∷ []))
        → (times_in (open_stretch entries) ≡ last ∷ []) ⊎ ((before : ℕ) × EndsIn (times_in (open_stretch entries)) before last)
    by_front front is (inl none) = inl (is ∙ ap (λ f. f ++ last ∷ []) none)
    by_front front is (inr more) = inr (more.1, record { earlier = more.0; are = is ∙ ap (λ f. f ++ last ∷ []) more.2 ∙ append_assoc more.0 (more.1 ∷ []) (last ∷ []) })

no_times_in : (entries : List Entry) → has_ended entries ≡ false → last_time None entries ≡ None → times_in entries ≡ []
no_times_in [] going e = refl
no_times_in (Value code value ∷ entries) going e = no_times_in entries going e
no_times_in (Off ∷ entries) going e = refl
no_times_in (On time ∷ entries) going e = refl
no_times_in (Time time ∷ entries) going e = absurd (stays time entries going e)
  where
    stays : (t : ℕ) (es : List Entry) → has_ended es ≡ false → last_time (Some t) es ≡ None → ⊥
    stays t [] going f = cc
    stays t (Time u ∷ es) going f = stays u es going f
    stays t (Value code value ∷ es) going f = stays t es going f
    stays t (Off ∷ es) going f = false≢true (sym going)
    stays t (On u ∷ es) going f = false≢true (sym going)

-- where it has no last time it has no time
pub no_times : (entries : List Entry) → last_time None (open_stretch entries) ≡ None → times_in (open_stretch entries) ≡ []
no_times entries e = no_times_in (open_stretch entries) (open_going entries) e

-- times that end so are two or more
pub two_times : (times : List ℕ) (before last : ℕ) → EndsIn times before last → 2 ≤ length times
two_times times before last ends = omega (arith, ap length ends.are, length-append ends.earlier (before ∷ last ∷ []))

-- a time that is said next is later
pub later_next : (entries more : List Entry) (last next : ℕ) → Rises None (entries ++ Time next ∷ more) → last_time None (open_stretch entries) ≡ Some last → last < next
later_next entries more last next rises is_last =
    let own : Rises None (open_stretch entries ++ Time next ∷ more) = rises_open entries (Time next ∷ more) (on_of_last entries last is_last) rises in
    (subst (λ o. Rises o (Time next ∷ more)) is_last (rises_apart None (open_stretch entries) (Time next ∷ more) own).1).0
