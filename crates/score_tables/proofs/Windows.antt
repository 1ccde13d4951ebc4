-- The windows of stretches in order can be written.
use Rattle.std.proofs.Common.{◌≡◌, ℕ, ◌<◌, ◌≤◌, ◌^◌, ◌==◌, cond, List, [], ◌∷◌, length, ap, refl, inl, inr, lt-ltb, arith}
use Rattle.std.specs.Prelude.{⊤}
use Rattle.std.specs.List.{All}
use Rattle.std.specs.declared.cmp.Ordering.TheVariants.{Less, Equal, Greater}
use Rattle.std.specs.Ordering.{nat_cmp, ordering_then}
use Rattle.std.proofs.lemmas.List.Elements.{All-nil, All-append, All-cons}
use Rattle.coverage_db.specs.Table.{AreWindows, IsSpan, Rises}
use Rattle.coverage_db.specs.Windows.{window_cmp}
use Rattle.coverage_db.specs.declared.window.Window.{Window}
use Rattle.design_model.specs.Design.{In}
use Rattle.design_model.specs.Shows.{AreBeforeAll, AreRising, AreStretches, InSome, last_time}
use Rattle.score_tables.specs.Windows.{window_of, windows_of}

-- ---- stretches

last_listed : (t : ℕ) (ts : List ℕ) → In (last_time t ts) (t ∷ ts)
last_listed t [] = inl refl
last_listed t (u ∷ us) = inr (last_listed u us)

last_beyond : (t : ℕ) (ts : List ℕ) → AreRising (t ∷ ts) → t ≤ last_time t ts
last_beyond t [] up = omega arith
last_beyond t (u ∷ us) up = omega (arith, up.0, last_beyond u us up.1)

order_rising : (ts : List ℕ) (tss : List (List ℕ)) → AreStretches (ts ∷ tss) → AreRising ts
order_rising ts [] order = order
order_rising ts (us ∷ tss) order = order.0

order_before : (ts : List ℕ) (tss : List (List ℕ)) → AreStretches (ts ∷ tss) → AreBeforeAll ts tss
order_before ts [] order = tt
order_before ts (us ∷ tss) order = order.1

order_rest : (ts : List ℕ) (tss : List (List ℕ)) → AreStretches (ts ∷ tss) → AreStretches tss
order_rest ts [] order = tt
order_rest ts (us ∷ tss) order = order.2

some_first : (P : List ℕ → Type 0) (ts : List ℕ) (tss : List (List ℕ)) → P ts → InSome P (ts ∷ tss)
some_first P ts [] p = p
some_first P ts (us ∷ tss) p = inl p

some_later : (P : List ℕ → Type 0) (ts : List ℕ) (tss : List (List ℕ)) → InSome P tss → InSome P (ts ∷ tss)
some_later P ts [] p = absurd p
some_later P ts (us ∷ tss) p = inr p

-- ---- each is a span

one_span : (ts : List ℕ) → AreRising ts → ((t : ℕ) → In t ts → t < 2 ^ 63) → All IsSpan (window_of ts)
one_span [] up small = All-nil IsSpan
one_span (t ∷ []) up small = All-nil IsSpan
one_span (t ∷ u ∷ us) up small =
    let window : Window = record { first = t; last = last_time u us } in
    let span : IsSpan window = (omega (arith, up.0, last_beyond u us up.1), small (last_time u us) (inr (last_listed u us))) in
    All-cons IsSpan window [] span (All-nil IsSpan)

all_spans : (tss : List (List ℕ)) → AreStretches tss → ((t : ℕ) → InSome (In t) tss → t < 2 ^ 63) → All IsSpan (windows_of tss)
all_spans [] order small = All-nil IsSpan
all_spans (ts ∷ tss) order small =
    All-append IsSpan (window_of ts) (windows_of tss)
    (one_span ts (order_rising ts tss order) (λ t k. small t (some_first (In t) ts tss k)))
    (all_spans tss (order_rest ts tss order) (λ t k. small t (some_later (In t) ts tss k)))

-- ---- they rise

-- the first of these windows begins after the time
abbrev BeginAfter : ℕ → List Window → Type 0
BeginAfter t [] = ⊤
BeginAfter t (w ∷ ws) = t < w.first

-- a window of a later stretch begins after each time before the last of this one
later_begin : (ts : List ℕ) (t l : ℕ) → In l ts → t < l → (tss : List (List ℕ)) → AreBeforeAll ts tss → BeginAfter t (windows_of tss)
later_begin ts t l listed less [] before = tt
later_begin ts t l listed less ([] ∷ tss) before = later_begin ts t l listed less tss before.1
later_begin ts t l listed less ((u ∷ []) ∷ tss) before = later_begin ts t l listed less tss before.1
later_begin ts t l listed less ((u ∷ v ∷ vs) ∷ tss) before =
    let apart : l ≤ u = before.0 l u listed (inl refl) in
    omega (arith, apart, less)

earlier_less : (v w : Window) → v.first < w.first → window_cmp v w ≡ Less
earlier_less v w l = ap (λ t. ordering_then (cond t Less (cond (v.first == w.first) Equal Greater)) (nat_cmp v.last w.last)) (lt-ltb v.first w.first l)

rise_before : (w : Window) (ws : List Window) → BeginAfter w.first ws → Rises window_cmp ws → Rises window_cmp (w ∷ ws)
rise_before w [] after rise = tt
rise_before w (v ∷ vs) after rise = (earlier_less w v after, rise)

all_rise : (tss : List (List ℕ)) → AreStretches tss → Rises window_cmp (windows_of tss)
all_rise [] order = tt
all_rise ([] ∷ tss) order = all_rise tss (order_rest [] tss order)
all_rise ((t ∷ []) ∷ tss) order = all_rise tss (order_rest (t ∷ []) tss order)
all_rise ((t ∷ u ∷ us) ∷ tss) order =
    let up = order_rising (t ∷ u ∷ us) tss order in
    let less : t < last_time u us = omega (arith, up.0, last_beyond u us up.1) in
    let window : Window = record { first = t; last = last_time u us } in
    rise_before window (windows_of tss)
    (later_begin (t ∷ u ∷ us) t (last_time u us) (inr (last_listed u us)) less tss (order_before (t ∷ u ∷ us) tss order))
    (all_rise tss (order_rest (t ∷ u ∷ us) tss order))

-- ---- one of each stretch at most

pub few_windows : (tss : List (List ℕ)) → length (windows_of tss) ≤ length tss
few_windows [] = omega arith
few_windows ([] ∷ tss) = let rest : length (windows_of tss) ≤ length tss = few_windows tss in omega (arith, rest)
few_windows ((t ∷ []) ∷ tss) = let rest : length (windows_of tss) ≤ length tss = few_windows tss in omega (arith, rest)
few_windows ((t ∷ u ∷ us) ∷ tss) = let rest : length (windows_of tss) ≤ length tss = few_windows tss in omega (arith, rest)

pub windows_fit : (tss : List (List ℕ)) → AreStretches tss → ((t : ℕ) → InSome (In t) tss → t < 2 ^ 63) → length tss < 2 ^ 64 → AreWindows (windows_of tss)
windows_fit tss order small few =
    let most = few_windows tss in
    record { spans = all_spans tss order small; rise = all_rise tss order; few = omega (arith, most, few) }
