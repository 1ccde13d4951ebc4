-- Windows in order, each once.
use Rattle.std.proofs.Common.{◌≡◌, ℕ, Bool, true, false, List, [], ◌∷◌, ◌++◌, length, All, refl, sym, ap, subst, ◌∙◌, inl, inr, arith}
use Rattle.std.specs.Prelude.{◌&&◌, ◌||◌, ◌==◌}
use Rattle.std.specs.List.{IsFirstAndRest}
use Rattle.std.specs.declared.cmp.Ordering.{Ordering}
use Rattle.std.specs.declared.cmp.Ordering.TheVariants.{Less, Equal, Greater}
use Rattle.std.specs.Cmp.{IsTotalOrder}
use Rattle.std.specs.Ordering.{nat_cmp, ordering_reverse}
use Rattle.std.proofs.lemmas.Bool.{cases_Bool, and_parts, eqb-true, eq-eqb}
use Rattle.std.proofs.lemmas.Cmp.{nat_cmp_total, on_total, then_total}
use Rattle.std.proofs.lemmas.Map.Lookups.{exact_pairs, exact_unsigned}
use Rattle.std.proofs.lemmas.List.Elements.{All-nil, All-append, All-cons, All-head, All-tail}
use Rattle.coverage_db.specs.declared.window.Window.{Window}
use Rattle.coverage_db.specs.Joining.{IsTaken}
use Rattle.coverage_db.specs.Table.{Rises, IsSpan}
use Rattle.coverage_db.specs.Windows.{window_cmp, is_among, put_beside, put_window, rising_windows, joined_windows}
use Rattle.coverage_db.proofs.PathSearch.{rises_tail}

-- ---- the order

windows_total : IsTotalOrder window_cmp
windows_total = then_total (on_total (λ (w : Window). w.first) nat_cmp_total) (on_total (λ (w : Window). w.last) nat_cmp_total)

abbrev made : ℕ → ℕ → Window
made first last = record { first = first; last = last }

equal_is : (x y : Window) → window_cmp x y ≡ Equal → x ≡ y
equal_is x y e =
    let pairs : ◌≡◌ {A = ℕ × ℕ} (x.first, x.last) (y.first, y.last) = exact_pairs nat_cmp nat_cmp exact_unsigned exact_unsigned (x.first, x.last) (y.first, y.last) e in
    ap (λ (p : ℕ × ℕ). made p.0 p.1) pairs

less_from : (x y : Window) → window_cmp y x ≡ Greater → window_cmp x y ≡ Less
less_from x y e = windows_total.antisymm x y ∙ ap ordering_reverse e

not_below_itself : (x : Window) → window_cmp x x ≡ Less → ⊥
not_below_itself x e = let bad : Less ≡ Greater = sym e ∙ windows_total.antisymm x x ∙ ap ordering_reverse e in cc

-- ---- the same window

abbrev is_same : Window → Window → Bool
is_same w v = w.first == v.first && w.last == v.last

self_same : (w : Window) → is_same w w ≡ true
self_same w = rw (eq-eqb w.first w.first refl, eq-eqb w.last w.last refl) refl

same_is : (w v : Window) → is_same w v ≡ true → w ≡ v
same_is w v e =
    let p = and_parts (w.first == v.first) (w.last == v.last) e in
    ap (λ (n : ℕ). made n w.last) (eqb-true w.first v.first p.0) ∙ ap (λ (n : ℕ). made v.first n) (eqb-true w.last v.last p.1)

-- ---- truths

or_comm : (a b : Bool) → (a || b) ≡ (b || a)
or_comm true true = refl
or_comm true false = refl
or_comm false true = refl
or_comm false false = refl

or_assoc : (a b c : Bool) → ((a || b) || c) ≡ (a || (b || c))
or_assoc true b c = refl
or_assoc false b c = refl

or_itself : (a : Bool) → (a || a) ≡ a
or_itself true = refl
or_itself false = refl

or_twice : (a r : Bool) → (a || r) ≡ (a || (a || r))
or_twice true r = refl
or_twice false r = refl

or_swap : (a b r : Bool) → (a || (b || r)) ≡ (b || (a || r))
or_swap true true r = refl
or_swap true false r = refl
or_swap false true r = refl
or_swap false false r = refl

or_inner : (a b s : Bool) → (s || (a || (s || b))) ≡ (s || (a || b))
or_inner a b true = refl
or_inner a b false = refl

-- ---- what is among them

put_among_by : (x w v : Window) (vs more : List Window) (o : Ordering) → window_cmp w v ≡ o → is_among x more ≡ (is_same x w || is_among x vs) → is_among x (put_beside o w v vs more) ≡ (is_same x w || (is_same x v || is_among x vs))
put_among_by x w v vs more Less o-is e = refl
put_among_by x w v vs more Equal o-is e = subst (λ (u : Window). is_among x (u ∷ vs) ≡ (is_same x w || (is_same x u || is_among x vs))) (equal_is w v o-is) (or_twice (is_same x w) (is_among x vs))
put_among_by x w v vs more Greater o-is e = ap (λ (b : Bool). is_same x v || b) e ∙ or_swap (is_same x v) (is_same x w) (is_among x vs)

put_among : (x w : Window) (ws : List Window) → is_among x (put_window w ws) ≡ (is_same x w || is_among x ws)
put_among x w [] = refl
put_among x w (v ∷ vs) = put_among_by x w v vs (put_window w vs) (window_cmp w v) refl (put_among x w vs)

rising_among : (x : Window) (ws : List Window) → is_among x (rising_windows ws) ≡ is_among x ws
rising_among x [] = refl
rising_among x (w ∷ ws) = put_among x w (rising_windows ws) ∙ ap (λ (b : Bool). is_same x w || b) (rising_among x ws)

append_among : (x : Window) (a b : List Window) → is_among x (a ++ b) ≡ (is_among x a || is_among x b)
append_among x [] b = refl
append_among x (w ∷ a) b = ap (λ (c : Bool). is_same x w || c) (append_among x a b) ∙ sym (or_assoc (is_same x w) (is_among x a) (is_among x b))

pub joined_among : (x : Window) (a b : List Window) → is_among x (joined_windows a b) ≡ (is_among x a || is_among x b)
joined_among x a b = rising_among x (a ++ b) ∙ append_among x a b

-- ---- they rise

-- the window comes before the first of these
abbrev Above : Window → List Window → Type 0
Above w [] = Unit {0}
Above w (v ∷ vs) = window_cmp w v ≡ Less

front_rises : (w : Window) (ws : List Window) → Above w ws → Rises window_cmp ws → Rises window_cmp (w ∷ ws)
front_rises w [] a r = tt
front_rises w (v ∷ vs) a r = (a, r)

rises_front : (w : Window) (ws : List Window) → Rises window_cmp (w ∷ ws) → Above w ws
rises_front w [] r = tt
rises_front w (v ∷ vs) r = r.0

above_beside : (v w u : Window) (us more : List Window) (o : Ordering) → window_cmp v w ≡ Less → window_cmp v u ≡ Less → Above v (put_beside o w u us more)
above_beside v w u us more Less p q = p
above_beside v w u us more Equal p q = q
above_beside v w u us more Greater p q = q

put_above : (v w : Window) (ws : List Window) → window_cmp v w ≡ Less → Above v ws → Above v (put_window w ws)
put_above v w [] p a = p
put_above v w (u ∷ us) p a = above_beside v w u us (put_window w us) (window_cmp w u) p a

put_rises_by : (w v : Window) (vs : List Window) (o : Ordering) → window_cmp w v ≡ o → Rises window_cmp (v ∷ vs) → Rises window_cmp (put_window w vs) → Rises window_cmp (put_beside o w v vs (put_window w vs))
put_rises_by w v vs Less e r more = (e, r)
put_rises_by w v vs Equal e r more = r
put_rises_by w v vs Greater e r more = front_rises v (put_window w vs) (put_above v w vs (less_from v w e) (rises_front v vs r)) more

put_rises : (w : Window) (ws : List Window) → Rises window_cmp ws → Rises window_cmp (put_window w ws)
put_rises w [] r = tt
put_rises w (v ∷ vs) r = put_rises_by w v vs (window_cmp w v) refl r (put_rises w vs (rises_tail window_cmp v vs r))

rising_rises : (ws : List Window) → Rises window_cmp (rising_windows ws)
rising_rises [] = tt
rising_rises (w ∷ ws) = put_rises w (rising_windows ws) (rising_rises ws)

pub joined_rises : (a b : List Window) → Rises window_cmp (joined_windows a b)
joined_rises a b = rising_rises (a ++ b)

-- the window comes before each of these
abbrev AllAbove : Window → List Window → Type 0
AllAbove w [] = Unit {0}
AllAbove w (v ∷ vs) = (window_cmp w v ≡ Less) × AllAbove w vs

all_later : (w v : Window) (vs : List Window) → window_cmp w v ≡ Less → AllAbove v vs → AllAbove w vs
all_later w v [] p a = tt
all_later w v (u ∷ us) p a = (windows_total.trans w v u p a.0, all_later w v us p a.1)

rises_all : (w : Window) (ws : List Window) → Rises window_cmp (w ∷ ws) → AllAbove w ws
rises_all w [] r = tt
rises_all w (v ∷ vs) r = (r.0, all_later w v vs r.0 (rises_all v vs r.1))

all_append : (w : Window) (a b : List Window) → AllAbove w a → AllAbove w b → AllAbove w (a ++ b)
all_append w [] b p q = q
all_append w (v ∷ a) b p q = (p.0, all_append w a b p.1 q)

all_rising : (w : Window) (ws : List Window) → AllAbove w ws → Above w (rising_windows ws)
all_rising w [] a = tt
all_rising w (v ∷ vs) a = put_above w v (rising_windows vs) a.0 (all_rising w vs a.1)

not_among : (w : Window) (ws : List Window) → AllAbove w ws → is_among w ws ≡ false
not_among w [] a = refl
not_among w (v ∷ vs) a =
    elim (cases_Bool (is_same w v)) [
      | inl same ↦ absurd (not_below_itself w (subst (λ (u : Window). window_cmp w u ≡ Less) (sym (same_is w v same)) a.0))
      | inr other ↦ ap (λ (b : Bool). b || is_among w vs) other ∙ not_among w vs a.1
    ]

-- ---- windows that rise are those that are among them

cons_window : {x y : Window} {xs ys : List Window} → x ≡ y → xs ≡ ys → x ∷ xs ≡ y ∷ ys
cons_window p q = cc

first_among : (x : Window) (xs : List Window) → is_among x (x ∷ xs) ≡ true
first_among x xs = ap (λ (b : Bool). b || is_among x xs) (self_same x)

-- the first of one is not before the first of the other
not_before : (x y : Window) (xs ys : List Window) → Rises window_cmp (y ∷ ys) → is_among x (x ∷ xs) ≡ is_among x (y ∷ ys) → window_cmp x y ≡ Less → ⊥
not_before x y xs ys r e less =
    let none : is_among x (y ∷ ys) ≡ false = not_among x (y ∷ ys) (less, all_later x y ys less (rises_all y ys r)) in
    let bad : true ≡ false = sym (first_among x xs) ∙ e ∙ none in
    cc

same_first : (x y : Window) (xs ys : List Window) (o : Ordering) → window_cmp x y ≡ o → Rises window_cmp (x ∷ xs) → Rises window_cmp (y ∷ ys) → ((z : Window) → is_among z (x ∷ xs) ≡ is_among z (y ∷ ys)) → x ≡ y
same_first x y xs ys Less e p q each = absurd (not_before x y xs ys q (each x) e)
same_first x y xs ys Equal e p q each = equal_is x y e
same_first x y xs ys Greater e p q each = absurd (not_before y x ys xs p (sym (each y)) (less_from y x e))

same_later : (x z : Window) (xs ys : List Window) → AllAbove x xs → AllAbove x ys → is_among z (x ∷ xs) ≡ is_among z (x ∷ ys) → is_among z xs ≡ is_among z ys
same_later x z xs ys p q e =
    elim (cases_Bool (is_same z x)) [
      | inl same ↦ subst (λ (u : Window). is_among u xs ≡ is_among u ys) (sym (same_is z x same)) (not_among x xs p ∙ sym (not_among x ys q))
      | inr other ↦ sym (ap (λ (b : Bool). b || is_among z xs) other) ∙ e ∙ ap (λ (b : Bool). b || is_among z ys) other
    ]

same_windows : (a b : List Window) → Rises window_cmp a → Rises window_cmp b → ((z : Window) → is_among z a ≡ is_among z b) → a ≡ b
same_windows [] [] p q each = refl
same_windows [] (y ∷ ys) p q each = absurd (let bad : false ≡ true = each y ∙ first_among y ys in cc)
same_windows (x ∷ xs) [] p q each = absurd (let bad : true ≡ false = sym (first_among x xs) ∙ each x in cc)
same_windows (x ∷ xs) (y ∷ ys) p q each =
    let first : x ≡ y = same_first x y xs ys (window_cmp x y) refl p q each in
    let others : Rises window_cmp (x ∷ ys) = subst (λ (u : Window). Rises window_cmp (u ∷ ys)) (sym first) q in
    let rest : (z : Window) → is_among z xs ≡ is_among z ys =
    λ z. same_later x z xs ys (rises_all x xs p) (rises_all x ys others) (each z ∙ ap (λ (u : Window). is_among z (u ∷ ys)) (sym first)) in
    cons_window first (same_windows xs ys (rises_tail window_cmp x xs p) (rises_tail window_cmp y ys q) rest)

-- ---- the laws of joining

pub windows_comm : (a b : List Window) → joined_windows a b ≡ joined_windows b a
windows_comm a b = same_windows (joined_windows a b) (joined_windows b a) (joined_rises a b) (joined_rises b a) (λ x. joined_among x a b ∙ or_comm (is_among x a) (is_among x b) ∙ sym (joined_among x b a))

pub windows_assoc : (a b c : List Window) → joined_windows (joined_windows a b) c ≡ joined_windows a (joined_windows b c)
windows_assoc a b c =
    same_windows (joined_windows (joined_windows a b) c) (joined_windows a (joined_windows b c)) (joined_rises (joined_windows a b) c) (joined_rises a (joined_windows b c))
    (λ x. joined_among x (joined_windows a b) c ∙ ap (λ (t : Bool). t || is_among x c) (joined_among x a b) ∙ or_assoc (is_among x a) (is_among x b) (is_among x c)
    ∙ sym (joined_among x a (joined_windows b c) ∙ ap (λ (t : Bool). is_among x a || t) (joined_among x b c)))

pub windows_itself : (a : List Window) → Rises window_cmp a → joined_windows a a ≡ a
windows_itself a r = same_windows (joined_windows a a) a (joined_rises a a) r (λ x. joined_among x a a ∙ or_itself (is_among x a))

-- ---- joining one by one

first_rising : (w : Window) (ws : List Window) → AllAbove w ws → rising_windows (w ∷ ws) ≡ w ∷ rising_windows ws
first_rising w ws a = same_windows (rising_windows (w ∷ ws)) (w ∷ rising_windows ws) (rising_rises (w ∷ ws)) (front_rises w (rising_windows ws) (all_rising w ws a) (rising_rises ws)) (λ x. rising_among x (w ∷ ws) ∙ ap (λ (b : Bool). is_same x w || b) (sym (rising_among x ws)))

-- only one list has windows
pub taken_left : (x : Window) (xs : List Window) → Rises window_cmp (x ∷ xs) → IsTaken (x ∷ xs) [] x xs []
taken_left x xs r = record {
  joined = first_rising x (xs ++ []) (all_append x xs [] (rises_all x xs r) tt);
  left_rises = rises_tail window_cmp x xs r;
  right_rises = tt;
  shorter = omega arith;
}

pub taken_right : (y : Window) (ys : List Window) → Rises window_cmp (y ∷ ys) → IsTaken [] (y ∷ ys) y [] ys
taken_right y ys r = record { joined = first_rising y ys (rises_all y ys r); left_rises = tt; right_rises = rises_tail window_cmp y ys r; shorter = omega arith }

-- both have, and the first of the left list comes first
pub taken_less : (x y : Window) (xs ys : List Window) → window_cmp x y ≡ Less → Rises window_cmp (x ∷ xs) → Rises window_cmp (y ∷ ys) → IsTaken (x ∷ xs) (y ∷ ys) x xs (y ∷ ys)
taken_less x y xs ys e p q = record {
  joined = first_rising x (xs ++ y ∷ ys) (all_append x xs (y ∷ ys) (rises_all x xs p) (e, all_later x y ys e (rises_all y ys q)));
  left_rises = rises_tail window_cmp x xs p;
  right_rises = q;
  shorter = omega arith;
}

-- the first of the right list comes first
pub taken_greater : (x y : Window) (xs ys : List Window) → window_cmp x y ≡ Greater → Rises window_cmp (x ∷ xs) → Rises window_cmp (y ∷ ys) → IsTaken (x ∷ xs) (y ∷ ys) y (x ∷ xs) ys
taken_greater x y xs ys e p q =
    let back = taken_less y x ys xs (less_from y x e) q p in
    record {
      joined = windows_comm (x ∷ xs) (y ∷ ys) ∙ back.joined ∙ ap (λ (ws : List Window). y ∷ ws) (windows_comm ys (x ∷ xs));
      left_rises = p;
      right_rises = back.left_rises;
      shorter = omega arith;
    }

equal_among : (x z : Window) (xs ys : List Window) → is_among z (joined_windows (x ∷ xs) (x ∷ ys)) ≡ is_among z (x ∷ joined_windows xs ys)
equal_among x z xs ys =
    joined_among z (x ∷ xs) (x ∷ ys) ∙ or_assoc (is_same z x) (is_among z xs) (is_same z x || is_among z ys) ∙ or_inner (is_among z xs) (is_among z ys) (is_same z x) ∙ ap (λ (b : Bool). is_same z x || b) (sym (joined_among z xs ys))

-- both begin with one window
pub taken_equal : (x y : Window) (xs ys : List Window) → window_cmp x y ≡ Equal → Rises window_cmp (x ∷ xs) → Rises window_cmp (y ∷ ys) → IsTaken (x ∷ xs) (y ∷ ys) x xs ys
taken_equal x y xs ys e p q =
    let same : x ≡ y = equal_is x y e in
    let others : Rises window_cmp (x ∷ ys) = subst (λ (u : Window). Rises window_cmp (u ∷ ys)) (sym same) q in
    let above : AllAbove x (xs ++ ys) = all_append x xs ys (rises_all x xs p) (rises_all x ys others) in
    let whole : joined_windows (x ∷ xs) (x ∷ ys) ≡ x ∷ joined_windows xs ys =
    same_windows (joined_windows (x ∷ xs) (x ∷ ys)) (x ∷ joined_windows xs ys) (joined_rises (x ∷ xs) (x ∷ ys)) (front_rises x (joined_windows xs ys) (all_rising x (xs ++ ys) above) (joined_rises xs ys)) (λ z. equal_among x z xs ys) in
    record {
      joined = ap (λ (u : Window). joined_windows (x ∷ xs) (u ∷ ys)) (sym same) ∙ whole;
      left_rises = rises_tail window_cmp x xs p;
      right_rises = rises_tail window_cmp y ys q;
      shorter = omega arith;
    }

-- ---- what holds of the windows of both holds of all

put_valid_by : (P : Window → Type 0) (w v : Window) (vs more : List Window) (o : Ordering) → P w → All P (v ∷ vs) → All P more → All P (put_beside o w v vs more)
put_valid_by P w v vs more Less p q r = All-cons P w (v ∷ vs) p q
put_valid_by P w v vs more Equal p q r = q
put_valid_by P w v vs more Greater p q r = All-cons P v more (All-head P v vs q) r

put_valid : (P : Window → Type 0) (w : Window) (ws : List Window) → P w → All P ws → All P (put_window w ws)
put_valid P w [] p q = All-cons P w [] p q
put_valid P w (v ∷ vs) p q = put_valid_by P w v vs (put_window w vs) (window_cmp w v) p q (put_valid P w vs p (All-tail P v vs q))

rising_valid : (P : Window → Type 0) (ws : List Window) → All P ws → All P (rising_windows ws)
rising_valid P [] p = All-nil P
rising_valid P (w ∷ ws) p = put_valid P w (rising_windows ws) (All-head P w ws p) (rising_valid P ws (All-tail P w ws p))

pub joined_valid : (a b : List Window) → All IsSpan a → All IsSpan b → All IsSpan (joined_windows a b)
joined_valid a b p q = rising_valid IsSpan (a ++ b) (All-append IsSpan a b p q)

-- ---- the first of two lists, as slices give it

pub step_none : (left right : List Window) → length left ≡ 0 → length right ≡ 0 → joined_windows left right ≡ []
step_none [] [] p q = refl
step_none [] (y ∷ ys) p q = absurd (omega (arith, q))
step_none (x ∷ xs) right p q = absurd (omega (arith, p))

pub step_left : (left right : List Window) (x : Window) (xs : List Window) → IsFirstAndRest left x xs → length right ≡ 0 → Rises window_cmp left → IsTaken left right x xs right
step_left left [] x xs a none p =
    let one : IsTaken (x ∷ xs) [] x xs [] = taken_left x xs (subst (Rises window_cmp) a.0 p) in
    subst (λ (ws : List Window). IsTaken ws [] x xs []) (sym a.0) one
step_left left (y ∷ ys) x xs a none p = absurd (omega (arith, none))

pub step_right : (left right : List Window) (y : Window) (ys : List Window) → length left ≡ 0 → IsFirstAndRest right y ys → Rises window_cmp right → IsTaken left right y left ys
step_right [] right y ys none b q =
    let one : IsTaken [] (y ∷ ys) y [] ys = taken_right y ys (subst (Rises window_cmp) b.0 q) in
    subst (λ (ws : List Window). IsTaken [] ws y [] ys) (sym b.0) one
step_right (x ∷ xs) right y ys none b q = absurd (omega (arith, none))

pub step_less : (left right : List Window) (x y : Window) (xs ys : List Window) → IsFirstAndRest left x xs → IsFirstAndRest right y ys → window_cmp x y ≡ Less → Rises window_cmp left → Rises window_cmp right → IsTaken left right x xs right
step_less left right x y xs ys a b e p q =
    let one : IsTaken (x ∷ xs) (y ∷ ys) x xs (y ∷ ys) = taken_less x y xs ys e (subst (Rises window_cmp) a.0 p) (subst (Rises window_cmp) b.0 q) in
    subst (λ (ws : List Window). IsTaken ws right x xs right) (sym a.0) (subst (λ (ws : List Window). IsTaken (x ∷ xs) ws x xs ws) (sym b.0) one)

pub step_equal : (left right : List Window) (x y : Window) (xs ys : List Window) → IsFirstAndRest left x xs → IsFirstAndRest right y ys → window_cmp x y ≡ Equal → Rises window_cmp left → Rises window_cmp right → IsTaken left right x xs ys
step_equal left right x y xs ys a b e p q =
    let one : IsTaken (x ∷ xs) (y ∷ ys) x xs ys = taken_equal x y xs ys e (subst (Rises window_cmp) a.0 p) (subst (Rises window_cmp) b.0 q) in
    subst (λ (ws : List Window). IsTaken ws right x xs ys) (sym a.0) (subst (λ (ws : List Window). IsTaken (x ∷ xs) ws x xs ys) (sym b.0) one)

pub step_greater : (left right : List Window) (x y : Window) (xs ys : List Window) → IsFirstAndRest left x xs → IsFirstAndRest right y ys → window_cmp x y ≡ Greater → Rises window_cmp left → Rises window_cmp right → IsTaken left right y left ys
step_greater left right x y xs ys a b e p q =
    let one : IsTaken (x ∷ xs) (y ∷ ys) y (x ∷ xs) ys = taken_greater x y xs ys e (subst (Rises window_cmp) a.0 p) (subst (Rises window_cmp) b.0 q) in
    subst (λ (ws : List Window). IsTaken ws right y ws ys) (sym a.0) (subst (λ (ws : List Window). IsTaken (x ∷ xs) ws y (x ∷ xs) ys) (sym b.0) one)
