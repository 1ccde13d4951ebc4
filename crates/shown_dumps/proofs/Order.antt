-- The stretches of a body are in order of time, and what holds of some of several stretches.
use Rattle.std.proofs.Common.{◌≡◌, ◌⊎◌, ⊎_elim, ℕ, ◌<◌, ◌≤◌, List, [], ◌∷◌, ◌++◌, map, Option, None, Some, refl, sym, ap, subst, ◌∙◌, inl, inr, arith}
use Rattle.design_model.specs.Design.{In}
use Rattle.design_model.specs.Shows.{AreBeforeAll, AreRising, AreStretches, InSome, IsShownOf, last_time as last_of}
use Rattle.vcd_reader.specs.Dump.{later_stretches, steps_of, stretches_of, times_of}
use Rattle.vcd_reader.specs.Times.{IsLater, IsNotBefore, Rises}
use Rattle.vcd_reader.specs.declared.entry.Entry.{Entry}
use Rattle.vcd_reader.specs.declared.entry.Entry.TheVariants.{Off, On, Time, Value}
use Rattle.shown_dumps.specs.Said.{end_from, end_of, times_in}
use Rattle.shown_dumps.proofs.Times.{last_among, rising_cons, times_are, times_rise_from}

-- ---- some of several stretches

pub some_cons : (P : List ℕ → Type 0) (ts : List ℕ) (tss : List (List ℕ)) → P ts ⊎ InSome P tss → InSome P (ts ∷ tss)
some_cons P ts [] (inl h) = h
some_cons P ts [] (inr h) = absurd h
some_cons P ts (us ∷ tss) h = h

pub some_cases : (P : List ℕ → Type 0) (ts : List ℕ) (tss : List (List ℕ)) → InSome P (ts ∷ tss) → P ts ⊎ InSome P tss
some_cases P ts [] h = inl h
some_cases P ts (us ∷ tss) h = h

pub some_front : (P : List ℕ → Type 0) (front back : List (List ℕ)) → InSome P front → InSome P (front ++ back)
some_front P [] back h = absurd h
some_front P (ts ∷ front) back h =
    ⊎_elim (λ here. some_cons P ts (front ++ back) (inl here)) (λ there. some_cons P ts (front ++ back) (inr (some_front P front back there))) (some_cases P ts front h)

pub some_back : (P : List ℕ → Type 0) (front back : List (List ℕ)) → InSome P back → InSome P (front ++ back)
some_back P [] back h = h
some_back P (ts ∷ front) back h = some_cons P ts (front ++ back) (inr (some_back P front back h))

pub some_here : (P : List ℕ → Type 0) (front : List (List ℕ)) (ts : List ℕ) (back : List (List ℕ)) → P ts → InSome P (front ++ ts ∷ back)
some_here P front ts back h = some_back P front (ts ∷ back) (some_cons P ts back (inl h))

pub some_apart : (P : List ℕ → Type 0) (front back : List (List ℕ)) → InSome P (front ++ back) → InSome P front ⊎ InSome P back
some_apart P [] back h = inr h
some_apart P (ts ∷ front) back h =
    ⊎_elim (λ here. inl (some_cons P ts front (inl here)))
    (λ there. ⊎_elim (λ f. inl (some_cons P ts front (inr f))) (λ b. inr b) (some_apart P front back there))
    (some_cases P ts (front ++ back) h)

-- ---- stretches in order

-- each rises, and is before all later ones
abbrev pub InOrder : List (List ℕ) → Type 0
InOrder [] = Unit {0}
InOrder (ts ∷ tss) = AreRising ts × AreBeforeAll ts tss × InOrder tss

pub order_of : (tss : List (List ℕ)) → InOrder tss → AreStretches tss
order_of [] o = tt
order_of (ts ∷ []) o = o.0
order_of (ts ∷ us ∷ tss) o = (o.0, o.1, order_of (us ∷ tss) o.2)

pub in_order : (tss : List (List ℕ)) → AreStretches tss → InOrder tss
in_order [] o = tt
in_order (ts ∷ []) o = (o, tt, tt)
in_order (ts ∷ us ∷ tss) o = (o.0, o.1, in_order (us ∷ tss) o.2)

pub order_back : (front back : List (List ℕ)) → InOrder (front ++ back) → InOrder back
order_back [] back o = o
order_back (ts ∷ front) back o = order_back front back o.2

pub before_all : (ts : List ℕ) (tss : List (List ℕ)) (t u : ℕ) → AreBeforeAll ts tss → In t ts → InSome (In u) tss → t ≤ u
before_all ts [] t u before h k = absurd k
before_all ts (us ∷ tss) t u before h k = ⊎_elim (λ here. before.0 t u h here) (λ there. before_all ts tss t u before.1 h there) (some_cases (In u) us tss k)

-- a time of the first ones is not after a time of the others
pub front_before : (front back : List (List ℕ)) (t u : ℕ) → InOrder (front ++ back) → InSome (In t) front → InSome (In u) back → t ≤ u
front_before [] back t u o h k = absurd h
front_before (ts ∷ front) back t u o h k =
    ⊎_elim (λ here. before_all ts (front ++ back) t u o.1 here (some_back (In u) front back k)) (λ there. front_before front back t u o.2 there k) (some_cases (In t) ts front h)

-- ---- the order of what is said

-- no time of these is before this one, if there is one
abbrev pub AreFrom : Option ℕ → List ℕ → Type 0
AreFrom None ts = Unit {0}
AreFrom (Some t) ts = (u : ℕ) → In u ts → t ≤ u

abbrev pub AllFrom : Option ℕ → List (List ℕ) → Type 0
AllFrom last [] = Unit {0}
AllFrom last (ts ∷ tss) = AreFrom last ts × AllFrom last tss

from_earlier : (last : Option ℕ) (t : ℕ) (ts : List ℕ) → IsNotBefore last t → AreFrom (Some t) ts → AreFrom last ts
from_earlier None t ts l h = tt
from_earlier (Some s) t ts l h = λ u i. let from = h u i in omega (arith, from, l)

all_earlier : (last : Option ℕ) (t : ℕ) (tss : List (List ℕ)) → IsNotBefore last t → AllFrom (Some t) tss → AllFrom last tss
all_earlier last t [] l h = tt
all_earlier last t (ts ∷ tss) l h = (from_earlier last t ts l h.0, all_earlier last t tss l h.1)

from_cons : (last : Option ℕ) (t : ℕ) (ts : List ℕ) → IsNotBefore last t → AreFrom (Some t) ts → AreFrom last (t ∷ ts)
from_cons None t ts l h = tt
from_cons (Some s) t ts l h = λ u i. ⊎_elim (λ e. omega (arith, e, l)) (λ k. let from = h u k in omega (arith, from, l)) i

from_none : (last : Option ℕ) → AreFrom last []
from_none None = tt
from_none (Some t) = λ u i. absurd i

not_before : (last : Option ℕ) (t : ℕ) → IsLater last t → IsNotBefore last t
not_before None t l = tt
not_before (Some s) t l = omega (arith, l)

before_of : (t : ℕ) (ts : List ℕ) (tss : List (List ℕ)) → AllFrom (Some t) tss → AreBeforeAll ts tss → AreBeforeAll (t ∷ ts) tss
before_of t ts [] h k = tt
before_of t ts (us ∷ tss) h k = ((λ s u i j. ⊎_elim (λ e. let from = h.0 u j in omega (arith, from, e)) (λ more. k.0 s u more j) i), before_of t ts tss h.1 k.1)

before_none : (tss : List (List ℕ)) → AreBeforeAll [] tss
before_none [] = tt
before_none (us ∷ tss) = ((λ t u i j. absurd i), before_none tss)

abbrev laters : List Entry → List (List ℕ)
laters entries = map times_in (later_stretches entries)

abbrev IsSaidFrom : Option ℕ → List (List ℕ) → Type 0
IsSaidFrom last tss = AllFrom last tss × InOrder tss

with_time : (last : Option ℕ) (time : ℕ) (entries : List Entry) → IsNotBefore last time → Rises (Some time) entries → IsSaidFrom (Some time) (times_in entries ∷ laters entries) → IsSaidFrom last ((time ∷ times_in entries) ∷ laters entries)
with_time last time entries l rises h =
    let up = times_rise_from (Some time) entries rises in (
      (from_cons last time (times_in entries) l h.0.0, all_earlier last time (laters entries) l h.0.1),
      (rising_cons time (times_in entries) up.0 up.1, before_of time (times_in entries) (laters entries) h.0.1 h.1.1, h.1.2),
    )

said_from : (last : Option ℕ) (entries : List Entry) → Rises last entries → IsSaidFrom last (times_in entries ∷ laters entries)
said_from last [] rises = ((from_none last, tt), (tt, tt, tt))
said_from last (Time time ∷ entries) rises = with_time last time entries (not_before last time rises.0) rises.1 (said_from (Some time) entries rises.1)
said_from last (Value code value ∷ entries) rises = said_from last entries rises
said_from last (Off ∷ entries) rises = let rest = said_from last entries rises in ((from_none last, rest.0.1), (tt, before_none (laters entries), rest.1.2))
said_from last (On None ∷ entries) rises = let rest = said_from last entries rises in ((from_none last, rest.0), (tt, before_none (times_in entries ∷ laters entries), rest.1))
said_from last (On (Some time) ∷ entries) rises =
    let rest = with_time last time entries rises.0 rises.1 (said_from (Some time) entries rises.1) in
    ((from_none last, rest.0), (tt, before_none ((time ∷ times_in entries) ∷ laters entries), rest.1))

map_times : (ss : List (List Entry)) → map times_of (map steps_of ss) ≡ map times_in ss
map_times [] = refl
map_times (s ∷ ss) = ap (λ ts. ts ∷ map times_of (map steps_of ss)) (times_are s) ∙ ap (λ tss. times_in s ∷ tss) (map_times ss)

-- the times of stretches are those that are said of them
pub stretch_times : (ss : List (List Entry)) → map times_of (map steps_of ss) ≡ map times_in ss
stretch_times ss = map_times ss

pub times_order : (entries : List Entry) → Rises None entries → InOrder (map times_in (entries ∷ later_stretches entries))
times_order entries rises = (said_from None entries rises).1

pub steps_order : (entries : List Entry) → Rises None entries → InOrder (map times_of (stretches_of entries))
steps_order entries rises = subst InOrder (sym (map_times (entries ∷ later_stretches entries))) (times_order entries rises)

pub are_stretches : (entries : List Entry) → Rises None entries → AreStretches (map times_of (stretches_of entries))
are_stretches entries rises = order_of (map times_of (stretches_of entries)) (steps_order entries rises)

-- ---- where stretches end

-- the end is this one, or a time of one of the stretches
pub end_among : (end : ℕ) (tss : List (List ℕ)) → (end_from end tss ≡ end) ⊎ InSome (In (end_from end tss)) tss
end_among end [] = inl refl
end_among end (ts ∷ tss) =
    ⊎_elim (λ same. ⊎_elim (λ e. inl (same ∙ e)) (λ h. inr (some_cons (In (end_from end (ts ∷ tss))) ts tss (inl (subst (λ t. In t ts) (sym same) h)))) (own_end ts))
    (λ later. inr (some_cons (In (end_from end (ts ∷ tss))) ts tss (inr later))) (end_among (end_of end ts) tss)
  where
    own_end : (us : List ℕ) → (end_of end us ≡ end) ⊎ In (end_of end us) us
    own_end [] = inl refl
    own_end (t ∷ []) = inl refl
    own_end (t ∷ u ∷ us) = inr (⊎_elim (λ e. inr (inl (sym e))) (λ h. inr (inr h)) (last_among u us))

-- all that the stretches show is before it
pub shown_before_end : (end t : ℕ) (tss : List (List ℕ)) → InOrder tss → InSome (λ ts. IsShownOf ts t) tss → t < end_from end tss
shown_before_end end t [] o h = absurd h
shown_before_end end t (ts ∷ tss) o h =
    ⊎_elim (λ here. own ts o.1 here) (λ there. shown_before_end (end_of end ts) t tss o.2 there) (some_cases (λ us. IsShownOf us t) ts tss h)
  where
    grows : (us : List ℕ) (e : ℕ) → AreBeforeAll us tss → In e us → e ≤ end_from e tss
    grows us e before i = ⊎_elim (λ same. omega (arith, same)) (λ later. before_all us tss e (end_from e tss) before i later) (end_among e tss)

    own : (us : List ℕ) → AreBeforeAll us tss → IsShownOf us t → t < end_from (end_of end us) tss
    own [] before shown = absurd shown
    own (u ∷ []) before shown = absurd (omega (arith, shown.0, shown.1))
    own (u ∷ v ∷ vs) before shown =
        let more = grows (u ∷ v ∷ vs) (last_of v vs) before (⊎_elim (λ e. inr (inl (sym e))) (λ h. inr (inr h)) (last_among v vs)) in
        let less : t < last_of v vs = shown.1 in
        omega (arith, less, more)
