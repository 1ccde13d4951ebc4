-- A dump toggles a bit at a time of the window exactly where it does over a step of the window.
use Rattle.std.proofs.Common.{◌≡◌, ◌⊎◌, ⊎_elim, ◌↔◌, inl, inr, ℕ, zero, suc, ◌-◌, ◌<◌, ◌≤◌, Bool, true, false, List, [], ◌∷◌, length, refl, sym, ap, subst, ◌∙◌, arith, add-one}
use Rattle.std.specs.Prelude.{slice_index}
use Rattle.std.proofs.lemmas.Bool.{cases_lt}
use Rattle.event_machine.specs.Cell.{Cell}
use Rattle.design_model.specs.Design.{Design, In}
use Rattle.design_model.specs.Shows.{AreRising, AreStretches, BoundDump, InSome, IsDumpOf, IsListed, IsWindow, IsWindowOf, last_time}
use Rattle.design_model.specs.ToggleLaw.{TogglesAt}
use Rattle.shown_dumps.proofs.Order.{InOrder, before_all, in_order, some_cases, some_cons}
use Rattle.input_laws.specs.Toggled.{TogglesIn, TogglesOver, dumped_bit, new_bit, old_bit}

-- ---- times that rise

rest_rises : (t : ℕ) (ts : List ℕ) → AreRising (t ∷ ts) → AreRising ts
rest_rises t [] up = tt
rest_rises t (u ∷ us) up = up.1

first_less : (t : ℕ) (ts : List ℕ) (k : ℕ) → AreRising (t ∷ ts) → k < length ts → t < slice_index ts k
first_less t [] k up within = absurd (omega arith)
first_less t (u ∷ us) zero up within = up.0
first_less t (u ∷ us) (suc k) up within = omega (arith, up.0, first_less u us k up.1 (omega arith))

less_in : (t : ℕ) (ts : List ℕ) (u : ℕ) → AreRising (t ∷ ts) → In u ts → t < u
less_in t [] u up h = absurd h
less_in t (v ∷ vs) u up (inl e) = omega (arith, up.0, e)
less_in t (v ∷ vs) u up (inr h) = omega (arith, up.0, less_in v vs u up.1 h)

next_rises : (ts : List ℕ) (k : ℕ) → AreRising ts → suc k < length ts → slice_index ts k < slice_index ts (suc k)
next_rises [] k up within = absurd (omega arith)
next_rises (t ∷ ts) zero up within = first_less t ts 0 up (omega arith)
next_rises (t ∷ ts) (suc k) up within = next_rises ts k (rest_rises t ts up) (omega arith)

-- no listed time is between neighbours
none_between : (ts : List ℕ) (k u : ℕ) → AreRising ts → suc k < length ts → slice_index ts k < u → u < slice_index ts (suc k) → In u ts → ⊥
none_between [] k u up within after before h = h
none_between (t ∷ ts) zero u up within after before (inl e) = omega (arith, after, e)
none_between (t ∷ []) zero u up within after before (inr h) = h
none_between (t ∷ v ∷ vs) zero u up within after before (inr (inl e)) = omega (arith, before, e)
none_between (t ∷ v ∷ vs) zero u up within after before (inr (inr h)) = omega (arith, before, less_in v vs u up.1 h)
none_between (t ∷ ts) (suc k) u up within after before (inl e) = omega (arith, after, e, first_less t ts k up (omega arith))
none_between (t ∷ ts) (suc k) u up within after before (inr h) = none_between ts k u (rest_rises t ts up) (omega arith) after before h

last_later : (t : ℕ) (ts : List ℕ) → AreRising (t ∷ ts) → t ≤ last_time t ts
last_later t [] up = omega arith
last_later t (u ∷ us) up = omega (arith, up.0, last_later u us up.1)

before_last : (t : ℕ) (ts : List ℕ) (k : ℕ) → AreRising (t ∷ ts) → suc k < length ts → slice_index ts k < last_time t ts
before_last t [] k up within = absurd (omega arith)
before_last t (u ∷ []) k up within = absurd (omega arith)
before_last t (u ∷ v ∷ vs) zero up within = omega (arith, up.1.0, last_later v vs up.1.1)
before_last t (u ∷ v ∷ vs) (suc k) up within = before_last u (v ∷ vs) k up.1 (omega arith)

-- a listed time that is neither the first nor the last is of the window
window_of : (ts : List ℕ) (k : ℕ) → AreRising ts → suc (suc k) < length ts → IsWindowOf ts (slice_index ts (suc k))
window_of [] k up within = absurd (omega arith)
window_of (t ∷ ts) k up within = (first_less t ts k up (omega arith), before_last t ts k up (omega arith))

-- a time from one listed time on and before the next
record IsBetween (ts : List ℕ) (k t : ℕ) : Type 0 where
  inside : suc k < length ts
  from : slice_index ts k ≤ t
  until : t < slice_index ts (suc k)

find : (first : ℕ) (ts : List ℕ) (t : ℕ) → first ≤ t → t < last_time first ts → (k : ℕ) × IsBetween (first ∷ ts) k t
find first [] t from until = absurd (omega (arith, from, until))
find first (second ∷ ts) t from until = go (cases_lt t second) (λ after. find second ts t after until)
  where
    go : (t < second) ⊎ (second ≤ t) → (second ≤ t → (k : ℕ) × IsBetween (second ∷ ts) k t) → (k : ℕ) × IsBetween (first ∷ second ∷ ts) k t
    go (inl before) others = (0, record { inside = omega arith; from = from; until = before })
    go (inr after) others = let rest = others after in (suc rest.0, record { inside = omega (arith, rest.1.inside); from = rest.1.from; until = rest.1.until })

-- a time of the window is between two listed times, and later than the first
between_of : (ts : List ℕ) (t : ℕ) → IsWindowOf ts t → (k : ℕ) × IsBetween ts k t × (slice_index ts 0 < t)
between_of [] t window = absurd window
between_of (first ∷ ts) t window = let found = find first ts t (omega (arith, window.0)) window.1 in (found.0, found.1, window.0)

index_in : (ts : List ℕ) (k : ℕ) → k < length ts → In (slice_index ts k) ts
index_in [] k within = absurd (omega arith)
index_in (t ∷ ts) zero within = inl refl
index_in (t ∷ ts) (suc k) within = inr (index_in ts k (omega arith))

-- ---- a stretch among others

-- each listed time is of the stretch, or not after its times, or not before them
record IsPlaced (all : List (List ℕ)) (ts : List ℕ) : Type 0 where
  rising : AreRising ts
  place : (u : ℕ) → InSome (In u) all → In u ts ⊎ (((v : ℕ) → In v ts → u ≤ v) ⊎ ((v : ℕ) → In v ts → v ≤ u))

-- what follows of each stretch in its place follows of some
placed_from : (P Q : List ℕ → Type 0) (all tss : List (List ℕ)) → InOrder tss → ((u : ℕ) → InSome (In u) all → InSome (In u) tss ⊎ ((v : ℕ) → InSome (In v) tss → u ≤ v))
    → ((ts : List ℕ) → IsPlaced all ts → P ts → Q ts) → InSome P tss → InSome Q tss
placed_from P Q all [] order cover step some = absurd some
placed_from P Q all (ts ∷ tss) order cover step some =
    ⊎_elim (λ here. some_cons Q ts tss (inl (step ts (record { rising = order.0; place = place }) here)))
    (λ later. some_cons Q ts tss (inr (placed_from P Q all tss order.2 rest step later))) (some_cases P ts tss some)
  where
    place : (u : ℕ) → InSome (In u) all → In u ts ⊎ (((v : ℕ) → In v ts → u ≤ v) ⊎ ((v : ℕ) → In v ts → v ≤ u))
    place u listed =
        ⊎_elim (λ among. ⊎_elim (λ here. inl here) (λ later. inr (inr (λ v there. before_all ts tss v u order.1 there later))) (some_cases (In u) ts tss among))
        (λ before. inr (inl (λ v there. before v (some_cons (In v) ts tss (inl there))))) (cover u listed)

    rest : (u : ℕ) → InSome (In u) all → InSome (In u) tss ⊎ ((v : ℕ) → InSome (In v) tss → u ≤ v)
    rest u listed =
        ⊎_elim (λ among. ⊎_elim (λ here. inr (λ v there. before_all ts tss u v order.1 here there)) (λ later. inl later) (some_cases (In u) ts tss among))
        (λ before. inr (λ v there. before v (some_cons (In v) ts tss (inr there)))) (cover u listed)

placed : (P Q : List ℕ → Type 0) (tss : List (List ℕ)) → AreStretches tss → ((ts : List ℕ) → IsPlaced tss ts → P ts → Q ts) → InSome P tss → InSome Q tss
placed P Q tss order step some = placed_from P Q tss tss (in_order tss order) (λ u listed. inl listed) step some

-- a time of a window of which this holds
windowed : (X : ℕ → Type 0) (tss : List (List ℕ)) → InSome (λ ts. (t : ℕ) × IsWindowOf ts t × X t) tss → (t : ℕ) × InSome (λ ts. IsWindowOf ts t) tss × X t
windowed X [] some = absurd some
windowed X (ts ∷ tss) some =
    ⊎_elim (λ here. (here.0, some_cons (λ us. IsWindowOf us here.0) ts tss (inl here.1), here.2))
    (λ later. further (windowed X tss later)) (some_cases (λ us. (t : ℕ) × IsWindowOf us t × X t) ts tss some)
  where
    further : (t : ℕ) × InSome (λ us. IsWindowOf us t) tss × X t → (t : ℕ) × InSome (λ us. IsWindowOf us t) (ts ∷ tss) × X t
    further (t, window, x) = (t, some_cons (λ us. IsWindowOf us t) ts tss (inr window), x)

-- ---- the toggles

bits_differ : (rise : Bool) → old_bit rise ≡ new_bit rise → ⊥
bits_differ true same = cc
bits_differ false same = cc

module _ (d : Design) (dump : BoundDump) (is : IsDumpOf d dump) where
  -- no time between neighbours of a stretch is listed
  unlisted : (ts : List ℕ) → IsPlaced dump.stretches ts → (k u : ℕ) → suc k < length ts → slice_index ts k < u → u < slice_index ts (suc k) → IsListed dump u → ⊥
  unlisted ts at k u inside after before listed =
      ⊎_elim (λ here. none_between ts k u at.rising inside after before here)
      (λ apart. ⊎_elim (λ earlier. let less = earlier (slice_index ts k) (index_in ts k (omega (arith, inside))) in omega (arith, less, after))
      (λ later. let less = later (slice_index ts (suc k)) (index_in ts (suc k) inside) in omega (arith, less, before)) apart) (at.place u listed)

  module _ (ts : List ℕ) (at : IsPlaced dump.stretches ts) where
    -- between listed times the values are those of the time before
    values_between : (k t : ℕ) → IsBetween ts k t → dump.values t ≡ dump.values (slice_index ts k)
    values_between k zero b = let e : 0 ≡ slice_index ts k = omega (arith, b.from) in ap dump.values e
    values_between k (suc t) b = go (cases_lt (slice_index ts k) (suc t)) (λ after. values_between k t (record { inside = b.inside; from = omega (arith, after); until = omega (arith, b.until) }))
      where
        go : (slice_index ts k < suc t) ⊎ (suc t ≤ slice_index ts k) → (slice_index ts k < suc t → dump.values t ≡ dump.values (slice_index ts k)) → dump.values (suc t) ≡ dump.values (slice_index ts k)
        go (inl after) earlier = is.stays t (unlisted ts at k (suc t) b.inside after b.until) ∙ earlier after
        go (inr before) earlier = let e : suc t ≡ slice_index ts k = omega (arith, before, b.from) in ap dump.values e

    -- so they are just before the next listed time
    values_before : (k : ℕ) → suc k < length ts → dump.values (slice_index ts (suc k) - 1) ≡ dump.values (slice_index ts k)
    values_before k inside =
        let rises = next_rises ts k at.rising inside in
        values_between k (slice_index ts (suc k) - 1) (record { inside = inside; from = omega (arith, rises); until = omega (arith, rises) })

  module _ (c : Cell) where
    at_is : (t : ℕ) (rise : Bool) → TogglesAt dump c t rise ↔ ((dump.values (t - 1) c ≡ old_bit rise) × (dump.values t c ≡ new_bit rise))
    at_is t true = (λ h. h, λ h. h)
    at_is t false = (λ h. h, λ h. h)

    one_from_over : (rise : Bool) (ts : List ℕ) → IsPlaced dump.stretches ts → TogglesIn dump ts c rise → (t : ℕ) × IsWindowOf ts t × TogglesAt dump c t rise
    one_from_over rise ts at over =
        let k = over.number in
        let inside : suc (suc k) < length ts = omega (arith, over.inside) in (
          slice_index ts (suc k),
          window_of ts k at.rising inside,
          (at_is (slice_index ts (suc k)) rise).1 (ap (λ v. v c) (values_before ts at k (omega (arith, inside))) ∙ over.before, subst (λ n. dumped_bit dump ts c n ≡ new_bit rise) (add-one k) over.after),
        )

    pub at_from_over : (rise : Bool) → TogglesOver dump c rise → (t : ℕ) × IsWindow dump t × TogglesAt dump c t rise
    at_from_over rise over =
        windowed (λ t. TogglesAt dump c t rise) dump.stretches
        (placed (λ ts. TogglesIn dump ts c rise) (λ ts. (t : ℕ) × IsWindowOf ts t × TogglesAt dump c t rise) dump.stretches is.rising (one_from_over rise) over)

    one_from_at : (rise : Bool) (t : ℕ) → TogglesAt dump c t rise → (ts : List ℕ) → IsPlaced dump.stretches ts → IsWindowOf ts t → TogglesIn dump ts c rise
    one_from_at rise t toggled ts at window = go found.0 (found.1, found.2) (cases_lt (slice_index ts found.0) t)
      where
        found : (k : ℕ) × IsBetween ts k t × (slice_index ts 0 < t)
        found = between_of ts t window

        toggles : (dump.values (t - 1) c ≡ old_bit rise) × (dump.values t c ≡ new_bit rise)
        toggles = (at_is t rise).0 toggled

        go : (k : ℕ) → IsBetween ts k t × (slice_index ts 0 < t) → (slice_index ts k < t) ⊎ (t ≤ slice_index ts k) → TogglesIn dump ts c rise
        go k b (inl after) =
            let earlier : IsBetween ts k (t - 1) = record { inside = b.0.inside; from = omega (arith, after); until = omega (arith, b.0.until) } in
            let same = values_between ts at k (t - 1) earlier ∙ sym (values_between ts at k t b.0) in
            absurd (bits_differ rise (sym toggles.0 ∙ ap (λ v. v c) same ∙ toggles.1))
        go zero b (inr here) = absurd (omega (arith, b.1, here))
        go (suc k) b (inr here) =
            let same : t ≡ slice_index ts (suc k) = omega (arith, here, b.0.from) in
            let before = subst (λ n. dump.values (n - 1) c ≡ old_bit rise) same toggles.0 in
            let now = subst (λ n. dump.values n c ≡ new_bit rise) same toggles.1 in
            record {
              number = k;
              inside = omega (arith, b.0.inside);
              before = ap (λ v. v c) (sym (values_before ts at k (omega (arith, b.0.inside)))) ∙ before;
              after = subst (λ n. dumped_bit dump ts c n ≡ new_bit rise) (sym (add-one k)) now;
            }

    pub over_from_at : (rise : Bool) (t : ℕ) → IsWindow dump t → TogglesAt dump c t rise → TogglesOver dump c rise
    over_from_at rise t window toggled = placed (λ ts. IsWindowOf ts t) (λ ts. TogglesIn dump ts c rise) dump.stretches is.rising (one_from_at rise t toggled) window
