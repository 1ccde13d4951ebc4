-- Times of a dump, by the stretch that they are of.
use Rattle.std.proofs.Common.{◌≡◌, ⊎_elim, inl, inr, ℕ, suc, ◌+◌, ◌-◌, ◌<◌, ◌≤◌, List, [], ◌∷◌, refl, sym, subst, arith}
use Rattle.std.proofs.lemmas.Bool.{cases_lt}
use Rattle.design_model.specs.Design.{In}
use Rattle.design_model.specs.Shows.{AreBefore, AreBeforeAll, AreStretches, InSome, IsFirstOf, IsShownOf, IsWindowOf, last_time}

-- what follows of one stretch follows of some stretch
pub some_map : (P Q : List ℕ → Type 0) → ((ts : List ℕ) → P ts → Q ts) → (tss : List (List ℕ)) → InSome P tss → InSome Q tss
some_map P Q step [] h = absurd h
some_map P Q step (ts ∷ []) h = step ts h
some_map P Q step (ts ∷ us ∷ tss) (inl h) = inl (step ts h)
some_map P Q step (ts ∷ us ∷ tss) (inr h) = inr (some_map P Q step (us ∷ tss) h)

-- where it follows of each stretch, it does
pub some_gives : (P : List ℕ → Type 0) (A : Type 0) → ((ts : List ℕ) → P ts → A) → (tss : List (List ℕ)) → InSome P tss → A
some_gives P A step [] h = absurd h
some_gives P A step (ts ∷ []) h = step ts h
some_gives P A step (ts ∷ us ∷ tss) (inl h) = step ts h
some_gives P A step (ts ∷ us ∷ tss) (inr h) = some_gives P A step (us ∷ tss) h

-- ---- one stretch

-- a window time of a stretch and the time before it are shown
shown_back : (ts : List ℕ) (t : ℕ) → IsWindowOf ts (suc t) → IsShownOf ts t
shown_back [] t window = absurd window
shown_back (u ∷ us) t window = (omega (arith, window.0), omega (arith, window.1))

shown_here : (ts : List ℕ) (t : ℕ) → IsWindowOf ts t → IsShownOf ts t
shown_here [] t window = window
shown_here (u ∷ us) t window = (omega (arith, window.0), window.1)

-- the moment before a window time is shown
shown_moment : (ts : List ℕ) (t : ℕ) → IsWindowOf ts t → IsShownOf ts (t - 1)
shown_moment [] t window = window
shown_moment (u ∷ us) t window = (omega (arith, window.0), omega (arith, window.1))

none_at_zero : (ts : List ℕ) → IsWindowOf ts 0 → ⊥
none_at_zero [] window = window
none_at_zero (u ∷ us) window = omega (arith, window.0)

-- ---- all

-- a window time and the time before it are shown
pub window_shown_at : (tss : List (List ℕ)) (t : ℕ) → InSome (λ ts. IsWindowOf ts (suc t)) tss → InSome (λ ts. IsShownOf ts t) tss × InSome (λ ts. IsShownOf ts (suc t)) tss
window_shown_at tss t window = (
  some_map (λ ts. IsWindowOf ts (suc t)) (λ ts. IsShownOf ts t) (λ ts w. shown_back ts t w) tss window,
  some_map (λ ts. IsWindowOf ts (suc t)) (λ ts. IsShownOf ts (suc t)) (λ ts w. shown_here ts (suc t) w) tss window,
)

-- no window begins at time 0
pub no_window_at : (tss : List (List ℕ)) → InSome (λ ts. IsWindowOf ts 0) tss → ⊥
no_window_at tss window = some_gives (λ ts. IsWindowOf ts 0) ⊥ none_at_zero tss window

-- the moment before a window time is shown
pub shown_before : (tss : List (List ℕ)) (t : ℕ) → InSome (λ ts. IsWindowOf ts t) tss → InSome (λ ts. IsShownOf ts (t - 1)) tss
shown_before tss t window = some_map (λ ts. IsWindowOf ts t) (λ ts. IsShownOf ts (t - 1)) (λ ts w. shown_moment ts t w) tss window

-- a window time is shown
pub shown_then : (tss : List (List ℕ)) (t : ℕ) → InSome (λ ts. IsWindowOf ts t) tss → InSome (λ ts. IsShownOf ts t) tss
shown_then tss t window = some_map (λ ts. IsWindowOf ts t) (λ ts. IsShownOf ts t) (λ ts w. shown_here ts t w) tss window

-- ---- stretches in order

last_in : (u : ℕ) (us : List ℕ) → In (last_time u us) (u ∷ us)
last_in u [] = inl refl
last_in u (v ∷ vs) = inr (last_in v vs)

-- the first time of a stretch is listed
first_in : (ts : List ℕ) (t : ℕ) → IsFirstOf ts t → In t ts
first_in [] t first = first
first_in (u ∷ us) t first = inl (sym first)

-- a time that is shown is not after the last of its stretch, which is listed, nor before its first
shown_last : (ts : List ℕ) (t : ℕ) → IsShownOf ts t → (l : ℕ) × In l ts × (t < l)
shown_last [] t shown = absurd shown
shown_last (u ∷ us) t shown = (last_time u us, last_in u us, shown.1)

shown_first : (ts : List ℕ) (t : ℕ) → IsShownOf ts t → (f : ℕ) × In f ts × (f ≤ t)
shown_first [] t shown = absurd shown
shown_first (u ∷ us) t shown = (u, inl refl, shown.0)

window_first : (ts : List ℕ) (t : ℕ) → IsWindowOf ts t → (f : ℕ) × In f ts × (f < t)
window_first [] t window = absurd window
window_first (u ∷ us) t window = (u, inl refl, window.0)

-- no time of the window of a stretch is its first
first_not_window : (ts : List ℕ) (t : ℕ) → IsFirstOf ts t → IsWindowOf ts t → ⊥
first_not_window [] t first window = first
first_not_window (u ∷ us) t first window = omega (arith, first, window.0)

-- the last time of a window's stretch is listed and after it
window_last : (ts : List ℕ) (t : ℕ) → IsWindowOf ts t → (l : ℕ) × In l ts × (t < l)
window_last ts t window = shown_last ts t (shown_here ts t window)

-- what holds of a stretch that is not before this one
some_after : (P : List ℕ → Type 0) (A : Type 0) (ts : List ℕ) → ((us : List ℕ) → AreBefore ts us → P us → A) → (uss : List (List ℕ)) → AreBeforeAll ts uss → InSome P uss → A
some_after P A ts step [] before h = absurd h
some_after P A ts step (us ∷ []) before h = step us before.0 h
some_after P A ts step (us ∷ vs ∷ uss) before (inl h) = step us before.0 h
some_after P A ts step (us ∷ vs ∷ uss) before (inr h) = some_after P A ts step (vs ∷ uss) before.1 h

-- two facts that hold of no two different stretches hold of one
some_both : (P Q : List ℕ → Type 0) → ((ts us : List ℕ) → AreBefore ts us → P ts → Q us → ⊥) → ((ts us : List ℕ) → AreBefore ts us → Q ts → P us → ⊥)
    → (tss : List (List ℕ)) → AreStretches tss → InSome P tss → InSome Q tss → InSome (λ ts. P ts × Q ts) tss
some_both P Q earlier later [] order p q = absurd p
some_both P Q earlier later (ts ∷ []) order p q = (p, q)
some_both P Q earlier later (ts ∷ us ∷ tss) order (inl p) (inl q) = inl (p, q)
some_both P Q earlier later (ts ∷ us ∷ tss) order (inl p) (inr q) = absurd (some_after Q ⊥ ts (λ vs before h. earlier ts vs before p h) (us ∷ tss) order.1 q)
some_both P Q earlier later (ts ∷ us ∷ tss) order (inr p) (inl q) = absurd (some_after P ⊥ ts (λ vs before h. later ts vs before q h) (us ∷ tss) order.1 p)
some_both P Q earlier later (ts ∷ us ∷ tss) order (inr p) (inr q) = inr (some_both P Q earlier later (us ∷ tss) order.2 p q)

-- no first time of a stretch is one of the window
pub window_not_first : (tss : List (List ℕ)) (t : ℕ) → AreStretches tss → InSome (λ ts. IsFirstOf ts t) tss → InSome (λ ts. IsWindowOf ts t) tss → ⊥
window_not_first tss t order first window =
    some_gives (λ ts. IsFirstOf ts t × IsWindowOf ts t) ⊥ (λ ts both. first_not_window ts t both.0 both.1) tss
    (some_both (λ ts. IsFirstOf ts t) (λ ts. IsWindowOf ts t) first_before window_before tss order first window)
  where
    first_before : (ts us : List ℕ) → AreBefore ts us → IsFirstOf ts t → IsWindowOf us t → ⊥
    first_before ts us before f w =
        let start = window_first us t w in
        let order : t ≤ start.0 = before t start.0 (first_in ts t f) start.1 in
        let less = start.2 in
        omega (arith, order, less)

    window_before : (ts us : List ℕ) → AreBefore ts us → IsWindowOf ts t → IsFirstOf us t → ⊥
    window_before ts us before w f =
        let end = window_last ts t w in
        let order : end.0 ≤ t = before end.0 t end.1 (first_in us t f) in
        let less = end.2 in
        omega (arith, order, less)

one_between : (ts : List ℕ) (t u time : ℕ) → IsShownOf ts t → IsWindowOf ts time → t < u → u ≤ time → IsWindowOf ts u
one_between [] t u time shown window after within = shown
one_between (w ∷ ws) t u time shown window after within = (omega (arith, shown.0, after), omega (arith, window.1, within))

-- what is after a time that is shown, and not after one of the window, with none between them that is listed, is of the window
pub between : (tss : List (List ℕ)) (t u time : ℕ) → AreStretches tss → t < u → u ≤ time → ((v : ℕ) → t < v → v < time → InSome (In v) tss → ⊥)
    → InSome (λ ts. IsShownOf ts t) tss → InSome (λ ts. IsWindowOf ts time) tss → InSome (λ ts. IsWindowOf ts u) tss
between [] t u time order after within gap shown window = absurd shown
between (ts ∷ []) t u time order after within gap shown window = one_between ts t u time shown window after within
between (ts ∷ us ∷ tss) t u time order after within gap (inl shown) (inl window) = inl (one_between ts t u time shown window after within)
between (ts ∷ us ∷ tss) t u time order after within gap (inl shown) (inr window) =
    let end = shown_last ts t shown in
    let later = end.2 in
    absurd (some_after (λ vs. IsWindowOf vs time) ⊥ ts (λ vs before w.
    let start = window_first vs time w in
    let apart : end.0 ≤ start.0 = before end.0 start.0 end.1 start.1 in
    let less = start.2 in
    gap end.0 later (omega (arith, apart, less)) (inl end.1)) (us ∷ tss) order.1 window)
between (ts ∷ us ∷ tss) t u time order after within gap (inr shown) (inl window) =
    let end = window_last ts time window in
    let later = end.2 in
    absurd (some_after (λ vs. IsShownOf vs t) ⊥ ts (λ vs before s.
    let start = shown_first vs t s in
    let apart : end.0 ≤ start.0 = before end.0 start.0 end.1 start.1 in
    let from = start.2 in
    omega (arith, apart, from, later, after, within)) (us ∷ tss) order.1 shown)
between (ts ∷ us ∷ tss) t u time order after within gap (inr shown) (inr window) =
    inr (between (us ∷ tss) t u time order.2 after within (λ v after_t before_time listed. gap v after_t before_time (inr listed)) shown window)

-- a window time that is not after the first time of a stretch is before it
pub window_before_first : (tss : List (List ℕ)) (t u : ℕ) → AreStretches tss → InSome (λ ts. IsFirstOf ts t) tss → InSome (λ ts. IsWindowOf ts u) tss → u ≤ t → u < t
window_before_first tss t u order first window le = ⊎_elim (λ less. less) same (cases_lt u t)
  where
    same : t ≤ u → u < t
    same most =
        let e : u ≡ t = omega (arith, le, most) in
        absurd (window_not_first tss t order first (subst (λ v. InSome (λ ts. IsWindowOf ts v) tss) e window))

-- the same with the way back: what holds of that stretch holds of some of these
some_after_in : (P : List ℕ → Type 0) (A : Type 0) (ts : List ℕ) (uss : List (List ℕ)) → ((us : List ℕ) → AreBefore ts us → ((Q : List ℕ → Type 0) → Q us → InSome Q uss) → P us → A) → AreBeforeAll ts uss → InSome P uss → A
some_after_in P A ts [] step before h = absurd h
some_after_in P A ts (us ∷ []) step before h = step us before.0 (λ Q q. q) h
some_after_in P A ts (us ∷ vs ∷ uss) step before (inl h) = step us before.0 (λ Q q. inl q) h
some_after_in P A ts (us ∷ vs ∷ uss) step before (inr h) = some_after_in P A ts (vs ∷ uss) (λ ws earlier back p. step ws earlier (λ Q q. inr (back Q q)) p) before.1 h

-- so many times are after a time that is shown and before the last one that is
pub record AreLeft (tss : List (List ℕ)) (t n : ℕ) : Type 0 where
  pub window : (u : ℕ) → t < u → u ≤ t + n → InSome (λ ts. IsWindowOf ts u) tss
  pub last : (u : ℕ) → InSome (λ ts. IsShownOf ts u) tss → u ≤ t + n

one_left : (ts : List ℕ) (t : ℕ) → IsShownOf ts t → (n : ℕ) × AreLeft (ts ∷ []) t n
one_left [] t shown = absurd shown
one_left (u ∷ us) t shown = (
  last_time u us - suc t,
  record {
    window = λ w after within. (omega (arith, shown.0, after), omega (arith, shown.1, within));
    last = λ w before. omega (arith, shown.1, before.1);
  },
)

-- the first time of a stretch of which a time is shown is shown
first_shown : (ts : List ℕ) (u f : ℕ) → IsFirstOf ts f → IsShownOf ts u → IsShownOf ts f
first_shown [] u f first shown = shown
first_shown (v ∷ vs) u f first shown = (omega (arith, first), omega (arith, first, shown.0, shown.1))

shown_begins : (ts : List ℕ) (u : ℕ) → IsShownOf ts u → (f : ℕ) × IsFirstOf ts f × In f ts
shown_begins [] u shown = absurd shown
shown_begins (v ∷ vs) u shown = (v, refl, inl refl)

-- where no later time is both listed and shown, these are all that are left
pub left_after : (tss : List (List ℕ)) (t : ℕ) → AreStretches tss → ((u : ℕ) → t < u → InSome (λ ts. IsShownOf ts u) tss → InSome (In u) tss → ⊥) → InSome (λ ts. IsShownOf ts t) tss → (n : ℕ) × AreLeft tss t n
left_after [] t order none shown = absurd shown
left_after (ts ∷ []) t order none shown = one_left ts t shown
left_after (ts ∷ us ∷ tss) t order none (inl shown) =
    let one = one_left ts t shown in
    let end = shown_last ts t shown in
    let later = end.2 in (
      one.0,
      record {
        window = λ u after within. inl (one.1.window u after within);
        last = λ u seen. ⊎_elim (λ here. one.1.last u here)
            (λ there. absurd (some_after_in (λ vs. IsShownOf vs u) ⊥ ts (us ∷ tss) (λ vs before back s.
            let start = shown_begins vs u s in
            let apart : end.0 ≤ start.0 = before end.0 start.0 end.1 start.2 in
            none start.0 (omega (arith, apart, later)) (inr (back (λ ws. IsShownOf ws start.0) (first_shown vs u start.0 start.1 s))) (inr (back (In start.0) start.2))) order.1 there)) seen;
      },
    )
left_after (ts ∷ us ∷ tss) t order none (inr shown) =
    let rest = left_after (us ∷ tss) t order.2 (λ u after seen listed. none u after (inr seen) (inr listed)) shown in (
      rest.0,
      record {
        window = λ u after within. inr (rest.1.window u after within);
        last = λ u seen. ⊎_elim
            (λ here.
            let end = shown_last ts u here in
            let less = end.2 in
            some_after (λ vs. IsShownOf vs t) (u ≤ t + rest.0) ts (λ vs before s.
            let start = shown_first vs t s in
            let from = start.2 in
            let apart : end.0 ≤ start.0 = before end.0 start.0 end.1 start.1 in
            omega (arith, apart, less, from)) (us ∷ tss) order.1 shown)
            (λ there. rest.1.last u there) seen;
      },
    )
