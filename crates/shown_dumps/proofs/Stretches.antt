-- Which stretch a time is of, and the times and values of the stretch that is on.
use Rattle.std.proofs.Common.{◌≡◌, ℕ, ◌<◌, ◌≤◌, true, false, cond, nat_le, List, [], ◌∷◌, ◌++◌, map, None, Some, refl, sym, ap, subst, ◌∙◌, inl, inr, arith, append_assoc}
use Rattle.std.proofs.lemmas.Bool.Decides.{nat_tests}
use Rattle.std.proofs.lemmas.List.{map-append}
use Rattle.design_model.specs.Design.{In}
use Rattle.design_model.specs.Shows.{AreRising, InSome}
use Rattle.vcd_reader.specs.Dump.{DumpStep, later_stretches, steps_of, stretches_of, times_of, value_at}
use Rattle.vcd_reader.specs.Order.{is_on}
use Rattle.vcd_reader.specs.Times.{Rises, last_time}
use Rattle.vcd_reader.specs.declared.entry.Entry.{Entry}
use Rattle.vcd_reader.specs.declared.entry.Entry.TheVariants.{Time}
use Rattle.shown_dumps.specs.Said.{ended_stretches, open_stretch, times_in, value_after}
use Rattle.shown_dumps.specs.Shown.{has_begun, stretch_at, stretch_from}
use Rattle.shown_dumps.proofs.Order.{InOrder, front_before, order_back, some_cons, some_here, steps_order}
use Rattle.shown_dumps.proofs.Split.{on_of_last, open_going, split_on}
use Rattle.shown_dumps.proofs.Times.{in_middle, last_front, later, times_are, times_in_append}
use Rattle.shown_dumps.proofs.Values.{rises_open, value_until}

-- ---- which stretch a time is of

-- none of these has begun
abbrev pub NoneBegun : ℕ → List (List DumpStep) → Type 0
NoneBegun t [] = Unit {0}
NoneBegun t (steps ∷ later) = (has_begun steps t ≡ false) × NoneBegun t later

pub none_begun : (later : List (List DumpStep)) (next t : ℕ) → ((u : ℕ) → InSome (In u) (map times_of later) → next ≤ u) → t < next → NoneBegun t later
none_begun [] next t from before = tt
none_begun (steps ∷ later) next t from before = (
  own steps (λ u i. from u (some_cons (In u) (times_of steps) (map times_of later) (inl i))),
  none_begun later next t (λ u i. from u (some_cons (In u) (times_of steps) (map times_of later) (inr i))) before,
)
  where
    own : (ss : List DumpStep) → ((u : ℕ) → In u (times_of ss) → next ≤ u) → has_begun ss t ≡ false
    own [] f = refl
    own (s ∷ ss) f = let late : next ≤ s.time = f s.time (inl refl) in let none : nat_le s.time t ≡ false = grind (arith, nat_tests, late, before) in none

from_none : (steps : List DumpStep) (later : List (List DumpStep)) (t : ℕ) → NoneBegun t later → stretch_from steps later t ≡ steps
from_none steps [] t none = refl
from_none steps (next ∷ later) t none = ap (λ b. stretch_from (cond b next steps) later t) none.0 ∙ from_none steps later t none.1

pub from_append : (steps : List DumpStep) (front later : List (List DumpStep)) (t : ℕ) → NoneBegun t later → stretch_from steps (front ++ later) t ≡ stretch_from steps front t
from_append steps [] later t none = from_none steps later t none
from_append steps (next ∷ front) later t none = from_append (cond (has_begun next t) next steps) front later t none

from_here : (steps here : List DumpStep) (front later : List (List DumpStep)) (t : ℕ) → has_begun here t ≡ true → stretch_from steps (front ++ here ∷ later) t ≡ stretch_from here later t
from_here steps here [] later t begun = ap (λ b. stretch_from (cond b here steps) later t) begun
from_here steps here (next ∷ front) later t begun = from_here (cond (has_begun next t) next steps) here front later t begun

pub at_here : (here : List DumpStep) (front later : List (List DumpStep)) (t : ℕ) → has_begun here t ≡ true → NoneBegun t later → stretch_at (front ++ here ∷ later) t ≡ here
at_here here [] later t begun none = from_none here later t none
at_here here (steps ∷ front) later t begun none = from_here steps here front later t begun ∙ from_none here later t none

pub begun_by : (steps : List DumpStep) (first t : ℕ) (times : List ℕ) → times_of steps ≡ first ∷ times → first ≤ t → has_begun steps t ≡ true
begun_by [] first t times e before = absurd cc
begun_by (step ∷ steps) first t times e before = let same : step.time ≡ first = cc in let yes : nat_le step.time t ≡ true = grind (arith, nat_tests, same, before) in yes

-- ---- the stretch that is on, where a time is said next

module _ (entries more : List Entry) (next : ℕ) (on : is_on entries ≡ true) (rises : Rises None (entries ++ Time next ∷ more)) where
  abbrev pub now : List Entry
  now = open_stretch entries

  -- its steps, those of the stretches before it and of those after it
  abbrev pub own_steps : List DumpStep
  own_steps = steps_of (now ++ Time next ∷ more)

  abbrev pub front_steps : List (List DumpStep)
  front_steps = map steps_of (ended_stretches entries)

  abbrev pub back_steps : List (List DumpStep)
  back_steps = map steps_of (later_stretches more)

  pub parts : stretches_of (entries ++ Time next ∷ more) ≡ front_steps ++ own_steps ∷ back_steps
  parts = split_on entries (Time next ∷ more) on

  pub time_parts : map times_of (stretches_of (entries ++ Time next ∷ more)) ≡ map times_of front_steps ++ times_of own_steps ∷ map times_of back_steps
  time_parts = ap (map times_of) parts ∙ map-append times_of front_steps (own_steps ∷ back_steps)

  pub ordered : InOrder (map times_of front_steps ++ times_of own_steps ∷ map times_of back_steps)
  ordered = subst InOrder time_parts (steps_order (entries ++ Time next ∷ more) rises)

  pub here_rises : AreRising (times_of own_steps)
  here_rises = (order_back (map times_of front_steps) (times_of own_steps ∷ map times_of back_steps) ordered).0

  pub here_times : times_of own_steps ≡ times_in now ++ next ∷ times_in more
  here_times = times_are (now ++ Time next ∷ more) ∙ times_in_append now (Time next ∷ more) (open_going entries)

  -- the next time is one of it
  pub next_in : In next (times_of own_steps)
  next_in = subst (In next) (sym here_times) (in_middle (times_in now) next (times_in more))

  -- the times before are not after its times, and the times after are not before them
  pub front_first : (t u : ℕ) → InSome (In t) (map times_of front_steps) → In u (times_of own_steps) → t ≤ u
  front_first t u h k = front_before (map times_of front_steps) (times_of own_steps ∷ map times_of back_steps) t u ordered h (some_cons (In u) (times_of own_steps) (map times_of back_steps) (inl k))

  pub back_last : (t u : ℕ) → In t (times_of own_steps) → InSome (In u) (map times_of back_steps) → t ≤ u
  back_last t u h k =
      front_before (times_of own_steps ∷ []) (map times_of back_steps) t u (order_back (map times_of front_steps) (times_of own_steps ∷ map times_of back_steps) ordered) h k

  -- before the next time none of the later ones has begun
  pub none_after : (t : ℕ) → t < next → NoneBegun t back_steps
  none_after t less = none_begun back_steps next t (λ u i. back_last next u next_in i) less

  -- what holds of it holds of some stretch
  pub some_here_of : (P : List ℕ → Type 0) → P (times_of own_steps) → InSome P (map times_of (stretches_of (entries ++ Time next ∷ more)))
  some_here_of P h = subst (InSome P) (sym time_parts) (some_here P (map times_of front_steps) (times_of own_steps) (map times_of back_steps) h)

-- between its last time and the next one the stretch of a time is this one
pub stretch_is : (entries more : List Entry) (last next : ℕ) (rises : Rises None (entries ++ Time next ∷ more)) → (is_last : last_time None (open_stretch entries) ≡ Some last) → (t : ℕ) → last ≤ t → t < next
    → stretch_at (stretches_of (entries ++ Time next ∷ more)) t ≡ steps_of (open_stretch entries ++ Time next ∷ more)
stretch_is entries more last next rises is_last t from until =
    let on = on_of_last entries last is_last in
    let front = last_front (open_stretch entries) last (open_going entries) is_last in
    let times : times_of (own_steps entries more next on rises) ≡ front.0 ++ last ∷ next ∷ times_in more =
    here_times entries more next on rises ∙ ap (λ ts. ts ++ next ∷ times_in more) front.1 ∙ append_assoc front.0 (last ∷ []) (next ∷ times_in more) in
    ap (λ ss. stretch_at ss t) (parts entries more next on rises)
    ∙ at_here (own_steps entries more next on rises) (front_steps entries more next on rises) (back_steps entries more next on rises) t (begun front.0 times) (none_after entries more next on rises t until)
  where
    begun : (fs : List ℕ) → times_of (steps_of (open_stretch entries ++ Time next ∷ more)) ≡ fs ++ last ∷ next ∷ times_in more → has_begun (steps_of (open_stretch entries ++ Time next ∷ more)) t ≡ true
    begun [] e = begun_by (steps_of (open_stretch entries ++ Time next ∷ more)) last t (next ∷ times_in more) e from
    begun (f ∷ fs) e =
        let on = on_of_last entries last is_last in
        let up : AreRising (f ∷ fs ++ last ∷ next ∷ times_in more) = subst AreRising e (here_rises entries more next on rises) in
        let less = later f (fs ++ last ∷ next ∷ times_in more) last up (in_middle fs last (next ∷ times_in more)) in
        begun_by (steps_of (open_stretch entries ++ Time next ∷ more)) f t (fs ++ last ∷ next ∷ times_in more) e (omega (arith, less, from))

pub value_open : (entries more : List Entry) (last next : ℕ) → Rises None (entries ++ Time next ∷ more) → last_time None (open_stretch entries) ≡ Some last → (code t : ℕ) → last ≤ t → t < next
    → value_at (stretch_at (stretches_of (entries ++ Time next ∷ more)) t) code t ≡ value_after (open_stretch entries) code
value_open entries more last next rises is_last code t from until =
    ap (λ ss. value_at ss code t) (stretch_is entries more last next rises is_last t from until)
    ∙ value_until (open_stretch entries) more last next (open_going entries) (rises_open entries (Time next ∷ more) (on_of_last entries last is_last) rises) is_last code t from until
