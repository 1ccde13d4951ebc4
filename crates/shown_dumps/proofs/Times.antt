-- The times of what is said of one stretch.
use Rattle.std.proofs.Common.{◌≡◌, ◌⊎◌, ℕ, ◌<◌, ◌≤◌, false, List, [], ◌∷◌, ◌++◌, Option, None, Some, refl, sym, ap, subst, ◌∙◌, inl, inr, arith, append_assoc}
use Rattle.std.proofs.lemmas.Bool.{false≢true}
use Rattle.design_model.specs.Design.{In}
use Rattle.design_model.specs.Shows.{AreRising, IsWindowOf, last_time as last_of}
use Rattle.vcd_reader.specs.Dump.{Change, DumpStep, leading, steps_of, timed, times_of, with_leading}
use Rattle.vcd_reader.specs.Times.{IsLater, Rises, last_time}
use Rattle.vcd_reader.specs.declared.entry.Entry.{Entry}
use Rattle.vcd_reader.specs.declared.entry.Entry.TheVariants.{Off, On, Time, Value}
use Rattle.shown_dumps.specs.Said.{has_ended, times_in}

times_of_leading : (changes : List Change) (steps : List DumpStep) → times_of (with_leading changes steps) ≡ times_of steps
times_of_leading changes [] = refl
times_of_leading changes (step ∷ steps) = refl

times_of_timed : (entries : List Entry) → times_of (timed entries) ≡ times_in entries
times_of_timed [] = refl
times_of_timed (Time time ∷ entries) = ap (λ ts. time ∷ ts) (times_of_timed entries)
times_of_timed (Value code value ∷ entries) = times_of_timed entries
times_of_timed (Off ∷ entries) = refl
times_of_timed (On time ∷ entries) = refl

pub times_are : (entries : List Entry) → times_of (steps_of entries) ≡ times_in entries
times_are entries = times_of_leading (leading entries) (timed entries) ∙ times_of_timed entries

-- the first time is later than this one
abbrev pub FirstLater : Option ℕ → List ℕ → Type 0
FirstLater last [] = Unit {0}
FirstLater last (time ∷ times) = IsLater last time

pub rising_cons : (time : ℕ) (times : List ℕ) → FirstLater (Some time) times → AreRising times → AreRising (time ∷ times)
rising_cons time [] later up = tt
rising_cons time (next ∷ times) later up = (later, up)

pub times_rise_from : (last : Option ℕ) (entries : List Entry) → Rises last entries → FirstLater last (times_in entries) × AreRising (times_in entries)
times_rise_from last [] rises = (tt, tt)
times_rise_from last (Time time ∷ entries) rises = let rest = times_rise_from (Some time) entries rises.1 in (rises.0, rising_cons time (times_in entries) rest.0 rest.1)
times_rise_from last (Value code value ∷ entries) rises = times_rise_from last entries rises
times_rise_from last (Off ∷ entries) rises = (tt, tt)
times_rise_from last (On time ∷ entries) rises = (tt, tt)

pub times_rise : (entries : List Entry) → Rises None entries → AreRising (times_in entries)
times_rise entries rises = (times_rise_from None entries rises).1

pub steps_rise : (entries : List Entry) → Rises None entries → AreRising (times_of (steps_of entries))
steps_rise entries rises = subst AreRising (sym (times_are entries)) (times_rise entries rises)

-- what is said next adds its times, where the stretch has not ended
pub times_in_append : (entries others : List Entry) → has_ended entries ≡ false → times_in (entries ++ others) ≡ times_in entries ++ times_in others
times_in_append [] others going = refl
times_in_append (Time time ∷ entries) others going = ap (λ ts. time ∷ ts) (times_in_append entries others going)
times_in_append (Value code value ∷ entries) others going = times_in_append entries others going
times_in_append (Off ∷ entries) others going = absurd (false≢true (sym going))
times_in_append (On time ∷ entries) others going = absurd (false≢true (sym going))

-- its times end with the last one
last_cases : (o : Option ℕ) (entries : List Entry) (last : ℕ) → has_ended entries ≡ false → last_time o entries ≡ Some last → ((times_in entries ≡ []) × (o ≡ Some last)) ⊎ ((front : List ℕ) × (times_in entries ≡ front ++ last ∷ []))
last_cases o [] last going e = inl (refl, e)
last_cases o (Value code value ∷ entries) last going e = last_cases o entries last going e
last_cases o (Time time ∷ entries) last going e =
    elim (last_cases (Some time) entries last going e) [
      | inl none ↦ inr ([], (let same : time ≡ last = (let some : Some time ≡ Some last = none.1 in cc) in ap (λ t. t ∷ times_in entries) same ∙ ap (λ ts. last ∷ ts) none.0))
      | inr more ↦ inr (time ∷ more.0, ap (λ ts. time ∷ ts) more.1)
    ]
last_cases o (Off ∷ entries) last going e = absurd (false≢true (sym going))
last_cases o (On time ∷ entries) last going e = absurd (false≢true (sym going))

pub last_front : (entries : List Entry) (last : ℕ) → has_ended entries ≡ false → last_time None entries ≡ Some last → (front : List ℕ) × (times_in entries ≡ front ++ last ∷ [])
last_front entries last going e = elim (last_cases None entries last going e) [ inl none ↦ absurd (let no_time : None ≡ Some last = none.1 in cc) | inr some ↦ some ]

-- ---- lists of times that rise

pub rest_rises : (t : ℕ) (ts : List ℕ) → AreRising (t ∷ ts) → AreRising ts
rest_rises t [] up = tt
rest_rises t (u ∷ us) up = up.1

-- a later time is greater
pub later : (t : ℕ) (ts : List ℕ) (u : ℕ) → AreRising (t ∷ ts) → In u ts → t < u
later t [] u up h = absurd h
later t (x ∷ xs) u up (inl e) = omega (arith, up.0, e)
later t (x ∷ xs) u up (inr h) = omega (arith, up.0, later x xs u up.1 h)

-- the last time is one of them, or the first
pub last_among : (t : ℕ) (ts : List ℕ) → (last_of t ts ≡ t) ⊎ In (last_of t ts) ts
last_among t [] = inl refl
last_among t (u ∷ us) = elim (last_among u us) [ inl e ↦ inr (inl (sym e)) | inr h ↦ inr (inr h) ]

pub last_later : (t : ℕ) (ts : List ℕ) → AreRising (t ∷ ts) → t ≤ last_of t ts
last_later t ts up = elim (last_among t ts) [ inl e ↦ omega (arith, e) | inr h ↦ omega (arith, later t ts (last_of t ts) up h) ]

-- the last of a list that goes on is later than those before
pub last_of_more : (t : ℕ) (front : List ℕ) (u : ℕ) (back : List ℕ) → AreRising (t ∷ front ++ u ∷ back) → u ≤ last_of t (front ++ u ∷ back)
last_of_more t [] u back up = last_later u back up.1
last_of_more t (x ∷ front) u back up = last_of_more x front u back up.1

pub in_middle : (front : List ℕ) (t : ℕ) (back : List ℕ) → In t (front ++ t ∷ back)
in_middle [] t back = inl refl
in_middle (x ∷ front) t back = inr (in_middle front t back)

pub tail_rises : (front back : List ℕ) → AreRising (front ++ back) → AreRising back
tail_rises [] back up = up
tail_rises (x ∷ front) back up = tail_rises front back (rest_rises x (front ++ back) up)

-- no time is between neighbours
pub none_between : (front : List ℕ) (p t : ℕ) (back : List ℕ) → AreRising (front ++ p ∷ t ∷ back) → (u : ℕ) → p < u → u < t → In u (front ++ p ∷ t ∷ back) → ⊥
none_between [] p t back up u after before (inl e) = omega (arith, after, e)
none_between [] p t back up u after before (inr (inl e)) = omega (arith, before, e)
none_between [] p t back up u after before (inr (inr h)) = omega (arith, before, later t back u up.1 h)
none_between (x ∷ front) p t back up u after before (inl e) =
    let less = later x (front ++ p ∷ t ∷ back) p up (in_middle front p (t ∷ back)) in
    omega (arith, less, after, e)
none_between (x ∷ front) p t back up u after before (inr h) = none_between front p t back (rest_rises x (front ++ p ∷ t ∷ back) up) u after before h

-- a time that is neither the first nor the last is of the window
pub in_window : (front : List ℕ) (p t u : ℕ) (back : List ℕ) → AreRising (front ++ p ∷ t ∷ u ∷ back) → IsWindowOf (front ++ p ∷ t ∷ u ∷ back) t
in_window [] p t u back up = (up.0, omega (arith, up.1.0, last_later u back up.1.1))
in_window (x ∷ front) p t u back up =
    let down : AreRising (t ∷ u ∷ back) = tail_rises (front ++ p ∷ []) (t ∷ u ∷ back) (subst AreRising (sym (append_assoc front (p ∷ []) (t ∷ u ∷ back))) (rest_rises x (front ++ p ∷ t ∷ u ∷ back) up)) in
    let parts : front ++ p ∷ t ∷ u ∷ back ≡ (front ++ p ∷ t ∷ []) ++ u ∷ back = sym (append_assoc front (p ∷ t ∷ []) (u ∷ back)) in (
      later x (front ++ p ∷ t ∷ u ∷ back) t up (subst (In t) (append_assoc front (p ∷ []) (t ∷ u ∷ back)) (in_middle (front ++ p ∷ []) t (u ∷ back))),
      let last = last_of_more x (front ++ p ∷ t ∷ []) u back (subst (λ ts. AreRising (x ∷ ts)) parts up) in
          let same : last_of x (front ++ p ∷ t ∷ u ∷ back) ≡ last_of x ((front ++ p ∷ t ∷ []) ++ u ∷ back) = ap (last_of x) parts in
          omega (arith, down.0, last, same),
    )

-- a time between neighbours is of the window
pub between_window : (front : List ℕ) (p t : ℕ) (back : List ℕ) → AreRising (front ++ p ∷ t ∷ back) → (u : ℕ) → p < u → u < t → IsWindowOf (front ++ p ∷ t ∷ back) u
between_window [] p t back up u after before = (after, omega (arith, before, last_later t back up.1))
between_window (x ∷ front) p t back up u after before =
    let parts : front ++ p ∷ t ∷ back ≡ (front ++ p ∷ []) ++ t ∷ back = sym (append_assoc front (p ∷ []) (t ∷ back)) in
    let first = later x (front ++ p ∷ t ∷ back) p up (in_middle front p (t ∷ back)) in
    let last = last_of_more x (front ++ p ∷ []) t back (subst (λ ts. AreRising (x ∷ ts)) parts up) in
    let same : last_of x (front ++ p ∷ t ∷ back) ≡ last_of x ((front ++ p ∷ []) ++ t ∷ back) = ap (last_of x) parts in (
      omega (arith, first, after),
      omega (arith, before, last, same),
    )
