-- Which stretches a body says, and what more entries make of them.
use Rattle.std.proofs.Common.{◌≡◌, ⊎_elim, ℕ, Bool, true, false, not, cond, List, [], ◌∷◌, ◌++◌, map, Option, None, Some, refl, sym, ap, ◌∙◌, append_assoc, append-nil}
use Rattle.std.specs.List.{filter}
use Rattle.std.proofs.lemmas.Bool.{cases_Bool, false≢true}
use Rattle.std.proofs.lemmas.List.{map-append}
use Rattle.vcd_reader.specs.Dump.{DumpStep, begun_at, later_stretches, leading, steps_of, stretches_of, timed, with_leading}
use Rattle.vcd_reader.specs.Order.{is_on, is_on_after}
use Rattle.vcd_reader.specs.Times.{last_time}
use Rattle.vcd_reader.specs.declared.entry.Entry.{Entry}
use Rattle.vcd_reader.specs.declared.entry.Entry.TheVariants.{Off, On, Time, Value}
use Rattle.vcd_reader.proofs.Turns.{on_append}
use Rattle.shown_dumps.specs.Said.{ended_stretches, has_ended, last_of, open_stretch, times_in}

-- ---- what is said after a stretch that has ended changes nothing of it

leading_ended : (entries more : List Entry) → has_ended entries ≡ true → leading (entries ++ more) ≡ leading entries
leading_ended [] more e = absurd (false≢true e)
leading_ended (Time time ∷ entries) more e = refl
leading_ended (Value code value ∷ entries) more e = ap (λ changes. record { code = code; value = value } ∷ changes) (leading_ended entries more e)
leading_ended (Off ∷ entries) more e = refl
leading_ended (On time ∷ entries) more e = refl

timed_ended : (entries more : List Entry) → has_ended entries ≡ true → timed (entries ++ more) ≡ timed entries
timed_ended [] more e = absurd (false≢true e)
timed_ended (Time time ∷ entries) more e =
    ap (λ changes. record { time = time; changes = changes } ∷ timed (entries ++ more)) (leading_ended entries more e) ∙ ap (λ steps. record { time = time; changes = leading entries } ∷ steps) (timed_ended entries more e)
timed_ended (Value code value ∷ entries) more e = timed_ended entries more e
timed_ended (Off ∷ entries) more e = refl
timed_ended (On time ∷ entries) more e = refl

steps_ended : (entries more : List Entry) → has_ended entries ≡ true → steps_of (entries ++ more) ≡ steps_of entries
steps_ended entries more e = ap (λ changes. with_leading changes (timed (entries ++ more))) (leading_ended entries more e) ∙ ap (with_leading (leading entries)) (timed_ended entries more e)

times_ended : (entries more : List Entry) → has_ended entries ≡ true → times_in (entries ++ more) ≡ times_in entries
times_ended [] more e = absurd (false≢true e)
times_ended (Time time ∷ entries) more e = ap (λ ts. time ∷ ts) (times_ended entries more e)
times_ended (Value code value ∷ entries) more e = times_ended entries more e
times_ended (Off ∷ entries) more e = refl
times_ended (On time ∷ entries) more e = refl

ended_append : (entries more : List Entry) → has_ended (entries ++ more) ≡ cond (has_ended entries) true (has_ended more)
ended_append [] more = refl
ended_append (Time time ∷ entries) more = ended_append entries more
ended_append (Value code value ∷ entries) more = ended_append entries more
ended_append (Off ∷ entries) more = refl
ended_append (On time ∷ entries) more = refl

-- ---- the stretches followed_by more said after them

begun_append : (time : Option ℕ) (entries more : List Entry) → begun_at time (entries ++ more) ≡ begun_at time entries ++ more
begun_append None entries more = refl
begun_append (Some t) entries more = refl

begun_ended : (time : Option ℕ) (entries : List Entry) → has_ended (begun_at time entries) ≡ has_ended entries
begun_ended None entries = refl
begun_ended (Some t) entries = refl

abbrev followed_by : List Entry → List Entry → List Entry
followed_by more entries = entries ++ more

later_append : (entries more : List Entry) → later_stretches (entries ++ more) ≡ map (followed_by more) (later_stretches entries) ++ later_stretches more
later_append [] more = refl
later_append (Time time ∷ entries) more = later_append entries more
later_append (Value code value ∷ entries) more = later_append entries more
later_append (Off ∷ entries) more = later_append entries more
later_append (On time ∷ entries) more =
    ap (λ s. s ∷ later_stretches (entries ++ more)) (begun_append time entries more) ∙ ap (λ ss. (begun_at time entries ++ more) ∷ ss) (later_append entries more)

pub none_later : (entries : List Entry) → has_ended entries ≡ false → later_stretches entries ≡ []
none_later [] e = refl
none_later (Time time ∷ entries) e = none_later entries e
none_later (Value code value ∷ entries) e = none_later entries e
none_later (Off ∷ entries) e = absurd (false≢true (sym e))
none_later (On time ∷ entries) e = absurd (false≢true (sym e))

-- all of these but the last have ended
abbrev AllButLast : List Entry → List (List Entry) → Type 0
AllButLast s [] = Unit {0}
AllButLast s (t ∷ ts) = (has_ended s ≡ true) × AllButLast t ts

buts : (entries s : List Entry) → (has_ended entries ≡ true → has_ended s ≡ true) → AllButLast s (later_stretches entries)
buts [] s h = tt
buts (Time time ∷ entries) s h = buts entries s h
buts (Value code value ∷ entries) s h = buts entries s h
buts (Off ∷ entries) s h = buts entries s (λ e. h refl)
buts (On time ∷ entries) s h = (h refl, buts entries (begun_at time entries) (λ e. begun_ended time entries ∙ e))

all_but_last : (entries : List Entry) → AllButLast entries (later_stretches entries)
all_but_last entries = buts entries entries (λ e. e)

-- ---- the last stretch has ended where the dump is off

off_still : (on : Bool) → cond on true true ≡ true
off_still true = refl
off_still false = refl

on_is : (on : Bool) (entries s : List Entry) → has_ended s ≡ cond on (has_ended entries) true → is_on_after on entries ≡ not (has_ended (last_of s (later_stretches entries)))
on_is true [] s e = ap not (sym e)
on_is false [] s e = ap not (sym e)
on_is on (Time time ∷ entries) s e = on_is on entries s e
on_is on (Value code value ∷ entries) s e = on_is on entries s e
on_is on (Off ∷ entries) s e = on_is false entries s (e ∙ off_still on)
on_is on (On time ∷ entries) s e = on_is true entries (begun_at time entries) (begun_ended time entries)

abbrev last_stretch : List Entry → List Entry
last_stretch entries = last_of entries (later_stretches entries)

on_last : (entries : List Entry) → is_on entries ≡ not (has_ended (last_stretch entries))
on_last entries = on_is true entries entries refl

not_false : (b : Bool) → true ≡ not b → b ≡ false
not_false true e = absurd (false≢true (sym e))
not_false false e = refl

not_true : (b : Bool) → false ≡ not b → b ≡ true
not_true true e = refl
not_true false e = absurd (false≢true e)

last_open : (entries : List Entry) → is_on entries ≡ true → has_ended (last_stretch entries) ≡ false
last_open entries on = not_false (has_ended (last_stretch entries)) (sym on ∙ on_last entries)

last_ended : (entries : List Entry) → is_on entries ≡ false → has_ended (last_stretch entries) ≡ true
last_ended entries off = not_true (has_ended (last_stretch entries)) (sym off ∙ on_last entries)

pub open_is : (entries : List Entry) → is_on entries ≡ true → open_stretch entries ≡ last_stretch entries
open_is entries on = ap (λ b. cond b (last_stretch entries) []) on

pub open_none : (entries : List Entry) → is_on entries ≡ false → open_stretch entries ≡ []
open_none entries off = ap (λ b. cond b (last_stretch entries) []) off

-- the stretch that is on has not ended
pub open_going : (entries : List Entry) → has_ended (open_stretch entries) ≡ false
open_going entries = ⊎_elim (λ on. ap has_ended (open_is entries on) ∙ last_open entries on) (λ off. ap has_ended (open_none entries off)) (cases_Bool (is_on entries))

-- where it has a last time, the dump is on
pub on_of_last : (entries : List Entry) (last : ℕ) → last_time None (open_stretch entries) ≡ Some last → is_on entries ≡ true
on_of_last entries last e = ⊎_elim (λ on. on) (λ off. absurd (let no_time : None ≡ Some last = sym (ap (last_time None) (open_none entries off)) ∙ e in cc)) (cases_Bool (is_on entries))

-- and where it has times
pub on_of_times : (entries : List Entry) (t : ℕ) (ts : List ℕ) → times_in (open_stretch entries) ≡ t ∷ ts → is_on entries ≡ true
on_of_times entries t ts e = ⊎_elim (λ on. on) (λ off. absurd (let no_times : [] ≡ t ∷ ts = sym (ap times_in (open_none entries off)) ∙ e in cc)) (cases_Bool (is_on entries))

-- ---- the steps of all stretches

map_twice : {A B C : Type 0} (f : A → B) (g : B → C) (xs : List A) → map g (map f xs) ≡ map (λ x. g (f x)) xs
map_twice f g [] = refl
map_twice f g (x ∷ xs) = ap (λ ys. g (f x) ∷ ys) (map_twice f g xs)

-- the steps of a stretch that has not ended, followed_by more said after it
abbrev open_steps : Bool → List Entry → List (List DumpStep)
open_steps ended entries = cond ended [] (steps_of entries ∷ [])

one_apart : (s more : List Entry) (b : Bool) → has_ended s ≡ b → steps_of (s ++ more) ∷ [] ≡ map steps_of (cond b (s ∷ []) []) ++ open_steps b (s ++ more)
one_apart s more true e = ap (λ x. x ∷ []) (steps_ended s more e)
one_apart s more false e = refl

steps_apart : (s : List Entry) (ss : List (List Entry)) (more : List Entry) → AllButLast s ss
    → map (λ x. steps_of (x ++ more)) (s ∷ ss) ≡ map steps_of (filter has_ended (s ∷ ss)) ++ open_steps (has_ended (last_of s ss)) (last_of s ss ++ more)
steps_apart s [] more h = one_apart s more (has_ended s) refl
steps_apart s (t ∷ ts) more h =
    let kept = filter has_ended (t ∷ ts) in
    ap (λ x. x ∷ map (λ y. steps_of (y ++ more)) (t ∷ ts)) (steps_ended s more h.0) ∙ ap (λ xs. steps_of s ∷ xs) (steps_apart t ts more h.1)
    ∙ sym (ap (λ b. map steps_of (cond b (s ∷ kept) kept) ++ open_steps (has_ended (last_of t ts)) (last_of t ts ++ more)) h.0)

all_steps : (entries more : List Entry)
    → stretches_of (entries ++ more) ≡ (map steps_of (ended_stretches entries) ++ open_steps (has_ended (last_stretch entries)) (last_stretch entries ++ more)) ++ map steps_of (later_stretches more)
all_steps entries more =
    ap (λ ss. steps_of (entries ++ more) ∷ map steps_of ss) (later_append entries more) ∙ map-append steps_of (map (followed_by more) (entries ∷ later_stretches entries)) (later_stretches more)
    ∙ ap (λ xs. xs ++ map steps_of (later_stretches more)) (map_twice (followed_by more) steps_of (entries ∷ later_stretches entries) ∙ steps_apart entries (later_stretches entries) more (all_but_last entries))

pub split_on : (entries more : List Entry) → is_on entries ≡ true
    → stretches_of (entries ++ more) ≡ map steps_of (ended_stretches entries) ++ steps_of (open_stretch entries ++ more) ∷ map steps_of (later_stretches more)
split_on entries more on =
    let ended = map steps_of (ended_stretches entries) in
    let later = map steps_of (later_stretches more) in
    all_steps entries more ∙ ap (λ b. (ended ++ open_steps b (last_stretch entries ++ more)) ++ later) (last_open entries on)
    ∙ append_assoc ended (steps_of (last_stretch entries ++ more) ∷ []) later ∙ ap (λ s. ended ++ steps_of (s ++ more) ∷ later) (sym (open_is entries on))

pub split_off : (entries more : List Entry) → is_on entries ≡ false → stretches_of (entries ++ more) ≡ map steps_of (ended_stretches entries) ++ map steps_of (later_stretches more)
split_off entries more off =
    let ended = map steps_of (ended_stretches entries) in
    let later = map steps_of (later_stretches more) in
    all_steps entries more ∙ ap (λ b. (ended ++ open_steps b (last_stretch entries ++ more)) ++ later) (last_ended entries off) ∙ ap (λ xs. xs ++ later) (append-nil ended)

-- ---- the times of the stretches that have ended, with one entry more

one_ended : (s more : List Entry) (b : Bool) → has_ended s ≡ b
    → map times_in (filter has_ended ((s ++ more) ∷ [])) ≡ map times_in (cond b (s ∷ []) []) ++ cond b [] (cond (has_ended more) (times_in (s ++ more) ∷ []) [])
one_ended s more true e = ap (λ c. map times_in (cond c ((s ++ more) ∷ []) [])) (ended_append s more ∙ ap (λ c. cond c true (has_ended more)) e) ∙ ap (λ ts. ts ∷ []) (times_ended s more e)
one_ended s more false e = ap (λ c. map times_in (cond c ((s ++ more) ∷ []) [])) (ended_append s more ∙ ap (λ c. cond c true (has_ended more)) e) ∙ kept (has_ended more)
  where
    kept : (c : Bool) → map times_in (cond c ((s ++ more) ∷ []) []) ≡ cond c (times_in (s ++ more) ∷ []) []
    kept true = refl
    kept false = refl

ended_apart : (s : List Entry) (ss : List (List Entry)) (more : List Entry) → AllButLast s ss
    → map times_in (filter has_ended (map (followed_by more) (s ∷ ss)))
    ≡ map times_in (filter has_ended (s ∷ ss)) ++ cond (has_ended (last_of s ss)) [] (cond (has_ended more) (times_in (last_of s ss ++ more) ∷ []) [])
ended_apart s [] more h = one_ended s more (has_ended s) refl
ended_apart s (t ∷ ts) more h =
    let kept = filter has_ended (t ∷ ts) in
    let longer = filter has_ended (map (followed_by more) (t ∷ ts)) in
    let rest = cond (has_ended (last_of t ts)) [] (cond (has_ended more) (times_in (last_of t ts ++ more) ∷ []) []) in
    ap (λ c. map times_in (cond c ((s ++ more) ∷ longer) longer)) (ended_append s more ∙ ap (λ c. cond c true (has_ended more)) h.0) ∙ ap (λ x. x ∷ map times_in longer) (times_ended s more h.0)
    ∙ ap (λ xs. times_in s ∷ xs) (ended_apart t ts more h.1) ∙ sym (ap (λ b. map times_in (cond b (s ∷ kept) kept) ++ rest) h.0)

filter_append : {A : Type 0} (p : A → Bool) (xs ys : List A) → filter p (xs ++ ys) ≡ filter p xs ++ filter p ys
filter_append p [] ys = refl
filter_append p (x ∷ xs) ys = go (p x) (filter_append p xs ys)
  where
    go : (b : Bool) → filter p (xs ++ ys) ≡ filter p xs ++ filter p ys → cond b (x ∷ filter p (xs ++ ys)) (filter p (xs ++ ys)) ≡ cond b (x ∷ filter p xs) (filter p xs) ++ filter p ys
    go true e = ap (λ zs. x ∷ zs) e
    go false e = e

all_ended : (entries more : List Entry)
    → map times_in (ended_stretches (entries ++ more))
    ≡ (map times_in (ended_stretches entries) ++ cond (has_ended (last_stretch entries)) [] (cond (has_ended more) (times_in (last_stretch entries ++ more) ∷ []) [])) ++ map times_in (filter has_ended (later_stretches more))
all_ended entries more =
    ap (λ ss. map times_in (filter has_ended ((entries ++ more) ∷ ss))) (later_append entries more)
    ∙ ap (map times_in) (filter_append has_ended (map (followed_by more) (entries ∷ later_stretches entries)) (later_stretches more))
    ∙ map-append times_in (filter has_ended (map (followed_by more) (entries ∷ later_stretches entries))) (filter has_ended (later_stretches more))
    ∙ ap (λ xs. xs ++ map times_in (filter has_ended (later_stretches more))) (ended_apart entries (later_stretches entries) more (all_but_last entries))

-- times and changes end no stretch
pub ended_said : (entries more : List Entry) → has_ended more ≡ false → map times_in (ended_stretches (entries ++ more)) ≡ map times_in (ended_stretches entries)
ended_said entries more going =
    let ended = map times_in (ended_stretches entries) in
    all_ended entries more ∙ ap (λ ss. (ended ++ cond (has_ended (last_stretch entries)) [] (cond (has_ended more) (times_in (last_stretch entries ++ more) ∷ []) [])) ++ map times_in (filter has_ended ss)) (none_later more going)
    ∙ append-nil _ ∙ ap (λ b. ended ++ cond (has_ended (last_stretch entries)) [] (cond b (times_in (last_stretch entries ++ more) ∷ []) [])) going ∙ ap (λ xs. ended ++ xs) (no_more (has_ended (last_stretch entries)))
    ∙ append-nil ended
  where
    no_more : (b : Bool) → cond b [] (cond false (times_in (last_stretch entries ++ more) ∷ []) []) ≡ []
    no_more true = refl
    no_more false = refl

-- the dump goes off: the stretch that was on is the last one that has ended
pub ended_off : (entries : List Entry) → is_on entries ≡ true → map times_in (ended_stretches (entries ++ Off ∷ [])) ≡ map times_in (ended_stretches entries) ++ times_in (open_stretch entries) ∷ []
ended_off entries on =
    let ended = map times_in (ended_stretches entries) in
    all_ended entries (Off ∷ []) ∙ append-nil _ ∙ ap (λ b. ended ++ cond b [] (times_in (last_stretch entries ++ Off ∷ []) ∷ [])) (last_open entries on)
    ∙ ap (λ ts. ended ++ ts ∷ []) (times_off (last_stretch entries) ∙ ap times_in (sym (open_is entries on)))
  where
    times_off : (s : List Entry) → times_in (s ++ Off ∷ []) ≡ times_in s
    times_off [] = refl
    times_off (Time time ∷ s) = ap (λ ts. time ∷ ts) (times_off s)
    times_off (Value code value ∷ s) = times_off s
    times_off (Off ∷ s) = refl
    times_off (On time ∷ s) = refl

-- where it is off, that it goes off or on ends none
pub ended_again : (entries : List Entry) (e : Entry) → is_on entries ≡ false → filter has_ended (later_stretches (e ∷ [])) ≡ [] → map times_in (ended_stretches (entries ++ e ∷ [])) ≡ map times_in (ended_stretches entries)
ended_again entries e off none =
    let ended = map times_in (ended_stretches entries) in
    all_ended entries (e ∷ []) ∙ ap (λ ss. (ended ++ cond (has_ended (last_stretch entries)) [] (cond (has_ended (e ∷ [])) (times_in (last_stretch entries ++ e ∷ []) ∷ []) [])) ++ map times_in ss) none
    ∙ append-nil _ ∙ ap (λ b. ended ++ cond b [] (cond (has_ended (e ∷ [])) (times_in (last_stretch entries ++ e ∷ []) ∷ []) [])) (last_ended entries off) ∙ append-nil ended

pub ended_on : (entries : List Entry) (time : Option ℕ) → is_on entries ≡ false → map times_in (ended_stretches (entries ++ On time ∷ [])) ≡ map times_in (ended_stretches entries)
ended_on entries time off = ended_again entries (On time) off (new time)
  where
    new : (o : Option ℕ) → filter has_ended (later_stretches (On o ∷ [])) ≡ []
    new None = refl
    new (Some t) = refl

-- ---- the stretch that is on, followed_by more said of it

last_more : (s : List Entry) (ss : List (List Entry)) (more : List Entry) → last_of (s ++ more) (map (followed_by more) ss) ≡ last_of s ss ++ more
last_more s [] more = refl
last_more s (t ∷ ts) more = last_more t ts more

on_still : (on : Bool) (more : List Entry) → has_ended more ≡ false → is_on_after on more ≡ on
on_still on [] e = refl
on_still on (Time time ∷ more) e = on_still on more e
on_still on (Value code value ∷ more) e = on_still on more e
on_still on (Off ∷ more) e = absurd (false≢true (sym e))
on_still on (On time ∷ more) e = absurd (false≢true (sym e))

-- whether the dump is on is not changed by times and changes
pub on_said : (entries more : List Entry) → has_ended more ≡ false → is_on (entries ++ more) ≡ is_on entries
on_said entries more going = on_append true entries more ∙ on_still (is_on entries) more going

pub open_said : (entries more : List Entry) → is_on entries ≡ true → has_ended more ≡ false → open_stretch (entries ++ more) ≡ open_stretch entries ++ more
open_said entries more on going =
    open_is (entries ++ more) (on_said entries more going ∙ on)
    ∙ ap (λ ss. last_of (entries ++ more) ss) (later_append entries more ∙ ap (λ ss. map (followed_by more) (later_stretches entries) ++ ss) (none_later more going) ∙ append-nil (map (followed_by more) (later_stretches entries)))
    ∙ last_more entries (later_stretches entries) more ∙ ap (followed_by more) (sym (open_is entries on))

-- times and changes are dropped where it is off
pub open_dropped : (entries more : List Entry) → is_on entries ≡ false → has_ended more ≡ false → open_stretch (entries ++ more) ≡ open_stretch entries
open_dropped entries more off going = open_none (entries ++ more) (on_said entries more going ∙ off) ∙ sym (open_none entries off)

pub open_off : (entries : List Entry) → open_stretch (entries ++ Off ∷ []) ≡ []
open_off entries = open_none (entries ++ Off ∷ []) (on_append true entries (Off ∷ []))

last_begun : (s : List Entry) (ss : List (List Entry)) (t : List Entry) → last_of s (ss ++ t ∷ []) ≡ t
last_begun s [] t = refl
last_begun s (u ∷ us) t = last_begun u us t

pub open_on : (entries : List Entry) (time : Option ℕ) → open_stretch (entries ++ On time ∷ []) ≡ begun_at time []
open_on entries time =
    open_is (entries ++ On time ∷ []) (on_append true entries (On time ∷ [])) ∙ ap (λ ss. last_of (entries ++ On time ∷ []) ss) (later_append entries (On time ∷ []))
    ∙ last_begun (entries ++ On time ∷ []) (map (followed_by (On time ∷ [])) (later_stretches entries)) (begun_at time [])
