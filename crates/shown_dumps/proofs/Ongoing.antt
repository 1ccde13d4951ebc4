-- What holds of each dump that goes on from what was read.
use Rattle.std.proofs.Common.{◌≡◌, ⊎_elim, ℕ, ◌<◌, ◌≤◌, ◌-◌, List, [], ◌∷◌, ◌++◌, length, map, Option, None, Some, refl, sym, ap, subst, ◌∙◌, arith, append_assoc, append-nil, false, true}
use Rattle.std.specs.Prelude.{IsSome}
use Rattle.std.proofs.lemmas.Bool.{cases_Bool}
use Rattle.four_state.specs.Vector.{Vector}
use Rattle.design_model.specs.Design.{signal_bits}
use Rattle.design_model.specs.Shows.{BoundDump}
use Rattle.design_model.specs.View.{design_view}
use Rattle.design_model.specs.declared.design.Design.{Design}
use Rattle.vcd_reader.specs.Dump.{Change, DumpStep, last_value, later_stretches, leading, steps_of, stretches_of, timed, with_leading}
use Rattle.vcd_reader.specs.Order.{is_on}
use Rattle.vcd_reader.specs.Times.{Rises, last_time}
use Rattle.vcd_reader.specs.declared.entry.Entry.{Entry}
use Rattle.vcd_reader.specs.declared.entry.Entry.TheVariants.{Off, On, Time, Value}
use Rattle.vcd_reader.specs.declared.vars.Var.{Var}
use Rattle.entry_laws.specs.Entries.{AreEntries}
use Rattle.signal_binding.specs.Binding.{codes_of}
use Rattle.shown_dumps.specs.Bound.{HasFirstValue, HaveFirstValues, first_value}
use Rattle.shown_dumps.specs.Laws.{dump_with}
use Rattle.shown_dumps.specs.Ongoing.{AreGiven, AreValues, HoldsOn, HoldsPaused, IsPauseUntil, bits_of}
use Rattle.shown_dumps.specs.Said.{end_from, ended_at, ended_stretches, has_ended, open_stretch, times_in, value_after}
use Rattle.shown_dumps.specs.Shown.{code_at, dump_of}
use Rattle.shown_dumps.proofs.Bits.{bits_are}
use Rattle.shown_dumps.proofs.Split.{ended_on, ended_said, none_later, open_dropped, open_going, open_said, split_off, split_on}
use Rattle.shown_dumps.proofs.Times.{times_in_append}

-- ---- entries more

-- the times of the stretch that is on, with a change more
pub times_value : (entries : List Entry) (code : ℕ) (value : Vector) → times_in (open_stretch (entries ++ Value code value ∷ [])) ≡ times_in (open_stretch entries)
times_value entries code value =
    ⊎_elim
    (λ on. ap times_in (open_said entries (Value code value ∷ []) on refl) ∙ times_in_append (open_stretch entries) (Value code value ∷ []) (open_going entries) ∙ append-nil (times_in (open_stretch entries)))
    (λ off. ap times_in (open_dropped entries (Value code value ∷ []) off refl)) (cases_Bool (is_on entries))

-- with a time more
pub times_time : (entries : List Entry) (time : ℕ) → is_on entries ≡ true → times_in (open_stretch (entries ++ Time time ∷ [])) ≡ times_in (open_stretch entries) ++ time ∷ []
times_time entries time on = ap times_in (open_said entries (Time time ∷ []) on refl) ∙ times_in_append (open_stretch entries) (Time time ∷ []) (open_going entries)

pub change_more : (P : BoundDump → ℕ → Type 0) (codes : List (Option ℕ)) (entries : List Entry) (code : ℕ) (value : Vector) → HoldsOn P codes entries → HoldsOn P codes (entries ++ Value code value ∷ [])
change_more P codes entries code value holds before last ends more rises =
    let parts : (entries ++ Value code value ∷ []) ++ more ≡ entries ++ Value code value ∷ more = append_assoc entries (Value code value ∷ []) more in
    subst (λ es. P (dump_of codes (stretches_of es)) (last - 1)) (sym parts)
    (holds before last (record { earlier = ends.earlier; are = sym (times_value entries code value) ∙ ends.are }) (Value code value ∷ more) (subst (Rises None) parts rises))

-- while the replay is paused, entries more that end no stretch with two times
pub paused_more : (P : BoundDump → ℕ → Type 0) (codes : List (Option ℕ)) (entries more : List Entry) → ended_at (entries ++ more) ≡ ended_at entries → HoldsPaused P codes entries → HoldsPaused P codes (entries ++ more)
paused_more P codes entries more same holds others t rises until =
    let parts : (entries ++ more) ++ others ≡ entries ++ (more ++ others) = append_assoc entries more others in
    subst (λ es. P (dump_of codes (stretches_of es)) t) (sym parts)
    (holds (more ++ others) t (subst (Rises None) parts rises) (subst (λ es. IsPauseUntil (dump_of codes (stretches_of es)) (ended_at entries) t) parts (subst (λ e. IsPauseUntil (dump_of codes (stretches_of ((entries ++ more) ++ others))) e t) same until)))

-- times and changes end none
pub ended_at_said : (entries more : List Entry) → has_ended more ≡ false → ended_at (entries ++ more) ≡ ended_at entries
ended_at_said entries more going = ap (end_from 0) (ended_said entries more going)

-- nor does it that the dump goes on
pub ended_at_on : (entries : List Entry) (time : Option ℕ) → is_on entries ≡ false → ended_at (entries ++ On time ∷ []) ≡ ended_at entries
ended_at_on entries time off = ap (end_from 0) (ended_on entries time off)

-- lists with one item more at the end
snoc_last : (xs ys : List ℕ) (x y : ℕ) → xs ++ x ∷ [] ≡ ys ++ y ∷ [] → x ≡ y
snoc_last [] [] x y e = cc
snoc_last [] (b ∷ []) x y e = absurd cc
snoc_last [] (b ∷ c ∷ ys) x y e = absurd cc
snoc_last (a ∷ []) [] x y e = absurd cc
snoc_last (a ∷ c ∷ xs) [] x y e = absurd cc
snoc_last (a ∷ xs) (b ∷ ys) x y e =
    let tails : xs ++ x ∷ [] ≡ ys ++ y ∷ [] = cc in
    snoc_last xs ys x y tails

pub time_more : (P : BoundDump → ℕ → Type 0) (codes : List (Option ℕ)) (entries : List Entry) (next : ℕ) → is_on entries ≡ true
    → ((more : List Entry) → Rises None (entries ++ Time next ∷ more) → P (dump_with codes entries next more) (next - 1))
    → HoldsOn P codes (entries ++ Time next ∷ [])
time_more P codes entries next on holds before after ends more rises =
    let parts : (entries ++ Time next ∷ []) ++ more ≡ entries ++ Time next ∷ more = append_assoc entries (Time next ∷ []) more in
    let times : times_in (open_stretch entries) ++ next ∷ [] ≡ (ends.earlier ++ before ∷ []) ++ after ∷ [] = sym (times_time entries next on) ∙ ends.are ∙ sym (append_assoc ends.earlier (before ∷ []) (after ∷ [])) in
    let same : next ≡ after = snoc_last (times_in (open_stretch entries)) (ends.earlier ++ before ∷ []) next after times in
    subst (λ es. P (dump_of codes (stretches_of es)) (after - 1)) (sym parts) (subst (λ t. P (dump_with codes entries next more) (t - 1)) same (holds more (subst (Rises None) parts rises)))

-- ---- values

some_bits : (o : Option Vector) (v : Vector) → bits_of (Some v) ≡ bits_of o → (w : Vector) × (o ≡ Some w) × (v.bits ≡ w.bits)
some_bits None v e = absurd cc
some_bits (Some w) v e = (w, refl, (let same : v.bits ≡ w.bits = cc in same))

pub values_given : (design : Design) (vars : List Var) (instance : List ℕ) (values : ℕ → Option Vector) (entries more : List Entry) (last next t : ℕ) → AreEntries vars entries
    → Rises None (entries ++ Time next ∷ more) → last_time None (open_stretch entries) ≡ Some last → last ≤ t → t < next → AreGiven (codes_of design vars instance) values entries
    → ((s code : ℕ) → code_at (codes_of design vars instance) s ≡ Some code → IsSome (values code))
    → AreValues design (codes_of design vars instance) values (dump_with (codes_of design vars instance) entries next more) t
values_given design vars instance values entries more last next t are rises is_last from until given some s code bound = go (values code) refl (some s code bound)
  where
    go : (o : Option Vector) → values code ≡ o → IsSome o → (v : Vector) × (values code ≡ Some v) × (v.bits ≡ signal_bits (design_view design) ((dump_with (codes_of design vars instance) entries next more).values t) s)
    go None e is = absurd (let no : false ≡ true = is in cc)
    go (Some v) e is =
        let said = some_bits (value_after (open_stretch entries) code) v (sym (ap bits_of e) ∙ given s code bound) in
        (v, e, said.2 ∙ (bits_are design vars instance entries more last next s code t said.0 are rises is_last from until bound said.1).0)

-- ---- first values

leading_stays : (entries more : List Entry) → 1 ≤ length (times_in entries) → leading (entries ++ more) ≡ leading entries
leading_stays [] more l = absurd (omega (arith, l))
leading_stays (Time time ∷ entries) more l = refl
leading_stays (Off ∷ entries) more l = refl
leading_stays (On time ∷ entries) more l = refl
leading_stays (Value code value ∷ entries) more l = ap (λ changes. record { code = code; value = value } ∷ changes) (leading_stays entries more l)

first_of_timed : (entries more : List Entry) (changes : List Change) (code : ℕ) → 2 ≤ length (times_in entries) → first_value (with_leading changes (timed (entries ++ more))) code ≡ first_value (with_leading changes (timed entries)) code
first_of_timed [] more changes code l = absurd (omega (arith, l))
first_of_timed (Time time ∷ entries) more changes code l = ap (λ first. last_value code (changes ++ first)) (leading_stays entries more (omega (arith, l)))
first_of_timed (Off ∷ entries) more changes code l = refl
first_of_timed (On time ∷ entries) more changes code l = refl
first_of_timed (Value other value ∷ entries) more changes code l = first_of_timed entries more changes code l

pub first_stays : (entries more : List Entry) (code : ℕ) → 2 ≤ length (times_in entries) → first_value (steps_of (entries ++ more)) code ≡ first_value (steps_of entries) code
first_stays entries more code l =
    ap (λ changes. first_value (with_leading changes (timed (entries ++ more))) code) (leading_stays entries more (omega (arith, l))) ∙ first_of_timed entries more (leading entries) code l

-- first values of the stretches of two lists
pub values_both : (codes : List (Option ℕ)) (some others : List (List DumpStep)) → HaveFirstValues codes some → HaveFirstValues codes others → HaveFirstValues codes (some ++ others)
values_both codes [] others h k = k
values_both codes (steps ∷ some) others h k = (h.0, values_both codes some others h.1 k)

pub values_apart : (codes : List (Option ℕ)) (some others : List (List DumpStep)) → HaveFirstValues codes (some ++ others) → HaveFirstValues codes some × HaveFirstValues codes others
values_apart codes [] others h = (tt, h)
values_apart codes (steps ∷ some) others h = let rest = values_apart codes some others h.1 in ((h.0, rest.0), rest.1)

-- those of the stretch that is on are among those of all, whatever is said next
pub values_open : (codes : List (Option ℕ)) (entries more : List Entry) → is_on entries ≡ true → HaveFirstValues codes (stretches_of (entries ++ more))
    → 2 ≤ length (steps_of (open_stretch entries ++ more)) → (s : ℕ) → HasFirstValue codes (steps_of (open_stretch entries ++ more)) s
values_open codes entries more on have =
    (values_apart codes (map steps_of (ended_stretches entries)) (steps_of (open_stretch entries ++ more) ∷ map steps_of (later_stretches more)) (subst (HaveFirstValues codes) (split_on entries more on) have)).1.0

-- those of the stretches that have ended are, too
values_ended : (codes : List (Option ℕ)) (entries : List Entry) → HaveFirstValues codes (stretches_of entries) → HaveFirstValues codes (map steps_of (ended_stretches entries))
values_ended codes entries have =
    let all : HaveFirstValues codes (stretches_of (entries ++ [])) = subst (λ es. HaveFirstValues codes (stretches_of es)) (sym (append-nil entries)) have in
    ⊎_elim (λ on. (values_apart codes (map steps_of (ended_stretches entries)) (steps_of (open_stretch entries ++ []) ∷ []) (subst (HaveFirstValues codes) (split_on entries [] on) all)).0)
    (λ off. (values_apart codes (map steps_of (ended_stretches entries)) [] (subst (HaveFirstValues codes) (split_off entries [] off) all)).0) (cases_Bool (is_on entries))

-- with times and changes more, where those of the stretch that is on are known
pub values_said : (codes : List (Option ℕ)) (entries more : List Entry) → has_ended more ≡ false → HaveFirstValues codes (stretches_of entries)
    → (is_on entries ≡ true → 2 ≤ length (steps_of (open_stretch entries ++ more)) → (s : ℕ) → HasFirstValue codes (steps_of (open_stretch entries ++ more)) s) → HaveFirstValues codes (stretches_of (entries ++ more))
values_said codes entries more going have own =
    let ended = values_ended codes entries have in
    let none : map steps_of (later_stretches more) ≡ [] = ap (map steps_of) (none_later more going) in
    ⊎_elim
    (λ on. subst (HaveFirstValues codes) (sym (split_on entries more on))
    (values_both codes (map steps_of (ended_stretches entries)) (steps_of (open_stretch entries ++ more) ∷ map steps_of (later_stretches more)) ended (own on, subst (HaveFirstValues codes) (sym none) tt)))
    (λ off. subst (HaveFirstValues codes) (sym (split_off entries more off)) (values_both codes (map steps_of (ended_stretches entries)) (map steps_of (later_stretches more)) ended (subst (HaveFirstValues codes) (sym none) tt)))
    (cases_Bool (is_on entries))

-- where the dump goes off or on
pub values_off : (codes : List (Option ℕ)) (entries : List Entry) → HaveFirstValues codes (stretches_of entries) → HaveFirstValues codes (stretches_of (entries ++ Off ∷ []))
values_off codes entries have =
    let ended = values_ended codes entries have in
    ⊎_elim
    (λ on. subst (HaveFirstValues codes) (sym (split_on entries (Off ∷ []) on))
    (values_both codes (map steps_of (ended_stretches entries)) (steps_of (open_stretch entries ++ Off ∷ []) ∷ []) ended (subst (λ steps. 2 ≤ length steps → (s : ℕ) → HasFirstValue codes steps s) (sym (steps_off (open_stretch entries))) (own on), tt)))
    (λ off. subst (HaveFirstValues codes) (sym (split_off entries (Off ∷ []) off)) (values_both codes (map steps_of (ended_stretches entries)) [] ended tt)) (cases_Bool (is_on entries))
  where
    own : is_on entries ≡ true → 2 ≤ length (steps_of (open_stretch entries)) → (s : ℕ) → HasFirstValue codes (steps_of (open_stretch entries)) s
    own on =
        let all : HaveFirstValues codes (stretches_of (entries ++ [])) = subst (λ es. HaveFirstValues codes (stretches_of es)) (sym (append-nil entries)) have in
        subst (λ es. 2 ≤ length (steps_of es) → (s : ℕ) → HasFirstValue codes (steps_of es) s) (append-nil (open_stretch entries)) (values_open codes entries [] on all)

    leading_off : (s : List Entry) → leading (s ++ Off ∷ []) ≡ leading s
    leading_off [] = refl
    leading_off (Time time ∷ s) = refl
    leading_off (Value code value ∷ s) = ap (λ changes. record { code = code; value = value } ∷ changes) (leading_off s)
    leading_off (Off ∷ s) = refl
    leading_off (On time ∷ s) = refl

    timed_off : (s : List Entry) → timed (s ++ Off ∷ []) ≡ timed s
    timed_off [] = refl
    timed_off (Time time ∷ s) = ap (λ changes. record { time = time; changes = changes } ∷ timed (s ++ Off ∷ [])) (leading_off s) ∙ ap (λ steps. record { time = time; changes = leading s } ∷ steps) (timed_off s)
    timed_off (Value code value ∷ s) = timed_off s
    timed_off (Off ∷ s) = refl
    timed_off (On time ∷ s) = refl

    steps_off : (s : List Entry) → steps_of (s ++ Off ∷ []) ≡ steps_of s
    steps_off s = ap (λ changes. with_leading changes (timed (s ++ Off ∷ []))) (leading_off s) ∙ ap (with_leading (leading s)) (timed_off s)

pub values_on : (codes : List (Option ℕ)) (entries : List Entry) (time : Option ℕ) → is_on entries ≡ false → HaveFirstValues codes (stretches_of entries) → HaveFirstValues codes (stretches_of (entries ++ On time ∷ []))
values_on codes entries time off have =
    subst (HaveFirstValues codes) (sym (split_off entries (On time ∷ []) off)) (values_both codes (map steps_of (ended_stretches entries)) (map steps_of (later_stretches (On time ∷ []))) (values_ended codes entries have) (new time))
  where
    new : (o : Option ℕ) → HaveFirstValues codes (map steps_of (later_stretches (On o ∷ [])))
    new None = ((λ l. absurd (omega (arith, l))), tt)
    new (Some t) = ((λ l. absurd (omega (arith, l))), tt)
