-- What changes of one slot leave of the whole.
use Rattle.std.proofs.Common.{◌≡◌, ◌⊎◌, inl, inr, ℕ, suc, ◌+◌, ◌-◌, ◌<◌, ◌≤◌, ◌==◌, Bool, true, false, if◌then◌else◌, List, [], ◌∷◌, ◌++◌, length, map, get_or, set, take, drop, append_assoc, length-take, Option, Some, None, refl, sym, ap, ap₂, subst, ◌∙◌, arith, eq-eqb}
use Rattle.std.specs.List.{All}
use Rattle.std.proofs.lemmas.List.{drop_more, get_or-append_right, length-map, length-replicate, map-append, map-set, set-get_or, set_at, take_all, take_more}
use Rattle.std.proofs.lemmas.List.Elements.{All-cons, All-head, All-map, All-push, All-tail, All-weaker}
use Rattle.std.proofs.lemmas.Bool.{eqb-true}
use Rattle.body_replay.specs.known_state.Partly.{Partly}
use Rattle.value_store.specs.Signals.{Signals, Shape, shape_of, unknown_from, unknown_of, unknown_signals}
use Rattle.value_store.specs.Slots.{IsSlot, blank_of, forgotten, hidden_in, rewound, shape_in, signals_in}
use Rattle.design_model.specs.declared.design.Signal.{Signal}
use Rattle.value_store.specs.declared.slot.Slot.{Slot}

-- a change that a view of a slot does not see
pub map_same : {A : Type 0} (f : Slot → A) (xs : List Slot) (i : ℕ) (d x : Slot) → f x ≡ f (get_or xs i d) → map f (set xs i x) ≡ map f xs
map_same f xs i d x e = map-set f xs i x ∙ ap (set (map f xs) i) e ∙ sym (map-set f xs i (get_or xs i d)) ∙ ap (map f) (set-get_or xs i d)

abbrev made : List Shape → List Partly → List (Option Partly) → Signals
made xs ks hs = record { shapes = xs; kept = ks; hidden = hs }

three : {a b : List Shape} {c d : List Partly} {e f : List (Option Partly)} → a ≡ b → c ≡ d → e ≡ f → made a c e ≡ made b d f
three {a} {b} {c} {d} {e} {f} p q r = ap₂ (λ x y. made x y e) p q ∙ ap (made b d) r

-- another kept value
pub kept_set : (epoch : ℕ) (xs : List Slot) (i : ℕ) (d : Slot) (v : Partly) → signals_in epoch (set xs i (record (get_or xs i d) { kept = v })) ≡ record (signals_in epoch xs) { kept = set (map (λ x. x.kept) xs) i v }
kept_set epoch xs i d v =
    three (map_same shape_in xs i d (record (get_or xs i d) { kept = v }) refl) (map-set (λ x. x.kept) xs i (record (get_or xs i d) { kept = v })) (map_same (hidden_in epoch) xs i d (record (get_or xs i d) { kept = v }) refl)

-- another value in its place
pub shown_set : (epoch : ℕ) (xs : List Slot) (i : ℕ) (d : Slot) (v : Partly) → signals_in epoch (set xs i (record (get_or xs i d) { shown = v; epoch = epoch })) ≡ record (signals_in epoch xs) { hidden = set (map (hidden_in epoch) xs) i (Some v) }
shown_set epoch xs i d v =
    let x : Slot = record (get_or xs i d) { shown = v; epoch = epoch } in
    three (map_same shape_in xs i d x refl) (map_same (λ x. x.kept) xs i d x refl) (map-set (hidden_in epoch) xs i x ∙ ap (λ t. set (map (hidden_in epoch) xs) i (if t then Some v else None)) (eq-eqb epoch epoch refl))

not_here : (a b : ℕ) → a < b → (a == b) ≡ false
not_here a b l = go (a == b) refl
  where
    go : (t : Bool) → (a == b) ≡ t → t ≡ false
    go false e = refl
    go true e = let same = eqb-true a b e in absurd (omega (arith, same, l))

-- nothing is shown in a later epoch
pub none_shown : (epoch later : ℕ) (xs : List Slot) → epoch < later → All (IsSlot epoch) xs → {A : Type 0} (f : Slot → A) → map (hidden_in later) xs ≡ map (λ x. None) (map f xs)
none_shown epoch later [] l h f = refl
none_shown epoch later (x ∷ xs) l h f =
    let here = All-head (IsSlot epoch) x xs h in
    let past = here.past in
    ap₂ (λ a b. a ∷ b) (ap (λ t. if t then Some x.shown else None) (not_here x.epoch later (omega (arith, past, l)))) (none_shown epoch later xs l (All-tail (IsSlot epoch) x xs h) f)

-- one signal more
pub unknown_push : (s : ℕ) (xs : List Shape) (x : Shape) → unknown_from s (xs ++ x ∷ []) ≡ unknown_from s xs ++ unknown_of x (s + length xs) ∷ []
unknown_push s [] x = ap (λ n. unknown_of x n ∷ []) (omega arith)
unknown_push s (y ∷ ys) x =
    ap (λ l. unknown_of y s ∷ l) (unknown_push (s + 1) ys x ∙ ap (λ n. unknown_from (s + 1) ys ++ unknown_of x n ∷ []) (omega arith))

-- ---- slots into which nothing was put since epoch 0

map_twice : {A : Type 0} (f g : Slot → A) (h : Slot → Slot) → ((x : Slot) → f (h x) ≡ g x) → (xs : List Slot) → map f (map h xs) ≡ map g xs
map_twice f g h e [] = refl
map_twice f g h e (x ∷ xs) = ap₂ (λ a b. a ∷ b) (e x) (map_twice f g h e xs)

none_left : (epoch : ℕ) (xs : List Slot) → map (hidden_in 1) (map rewound xs) ≡ map (λ x. None) (map (hidden_in epoch) xs)
none_left epoch [] = refl
none_left epoch (x ∷ xs) = ap (λ r. None ∷ r) (none_left epoch xs)

pub all_rewound : (epoch : ℕ) (xs : List Slot) → signals_in 1 (map rewound xs) ≡ record (signals_in epoch xs) { hidden = map (λ x. None) (map (hidden_in epoch) xs) }
all_rewound epoch xs = three (map_twice shape_in shape_in rewound (λ x. refl) xs) (map_twice (λ x. x.kept) (λ x. x.kept) rewound (λ x. refl) xs) (none_left epoch xs)

pub rewound_slots : (epoch later : ℕ) (xs : List Slot) → All (IsSlot epoch) xs → All (IsSlot later) (map rewound xs)
rewound_slots epoch later xs h =
    All-map (IsSlot later) rewound xs (All-weaker (IsSlot epoch) (λ x. IsSlot later (rewound x)) (λ x s. record { past = omega arith; kept = s.kept; shown = s.shown }) xs h)

-- a later epoch
pub later_slots : (epoch later : ℕ) (xs : List Slot) → epoch ≤ later → All (IsSlot epoch) xs → All (IsSlot later) xs
later_slots epoch later xs l h =
    All-weaker (IsSlot epoch) (IsSlot later) (λ x s. let past = s.past in record { past = omega (arith, past, l); kept = s.kept; shown = s.shown }) xs h

pub all_later : (epoch : ℕ) (xs : List Slot) → All (IsSlot epoch) xs → signals_in (epoch + 1) xs ≡ record (signals_in epoch xs) { hidden = map (λ x. None) (map (hidden_in epoch) xs) }
all_later epoch xs h = ap (made (map shape_in xs) (map (λ x. x.kept) xs)) (none_shown epoch (epoch + 1) xs (omega arith) h (hidden_in epoch))

-- ---- one signal, as contracts see it

module _ (epoch : ℕ) (xs : List Slot) (i : ℕ) (x : Slot) (v : Signals) (is : x ≡ get_or xs i x) (view : signals_in epoch xs ≡ v) where
  pub kept_written : (q : Partly) → signals_in epoch (set xs i (record x { kept = q })) ≡ record v { kept = set v.kept i q }
  kept_written q = ap {A = Slot} (λ y. signals_in epoch (set xs i (record y { kept = q }))) is ∙ kept_set epoch xs i x q ∙ ap {A = Signals} (λ w. record w { kept = set w.kept i q }) view

  pub shown_written : (q : Partly) → signals_in epoch (set xs i (record x { shown = q; epoch = epoch })) ≡ record v { hidden = set v.hidden i (Some q) }
  shown_written q = ap {A = Slot} (λ y. signals_in epoch (set xs i (record y { shown = q; epoch = epoch }))) is ∙ shown_set epoch xs i x q ∙ ap {A = Signals} (λ w. record w { hidden = set w.hidden i (Some q) }) view

-- one slot more is without anything put into it
pub rewound_more : (xs ys : List Slot) (i : ℕ) (d : Slot) → i < length xs → ys ≡ map rewound (take i xs) ++ drop i xs → set ys i (rewound (get_or ys i d)) ≡ map rewound (take (i + 1) xs) ++ drop (i + 1) xs
rewound_more xs ys i d l e =
    let y : Slot = get_or xs i d in
    let before : List Slot = map rewound (take i xs) in
    let later : List Slot = drop (i + 1) xs in
    let size : length before ≡ i = omega (arith, l, length-map (take i xs) rewound, length-take i xs) in
    let split : ys ≡ before ++ y ∷ later = e ∙ ap (λ zs. before ++ zs) (drop_more xs i d l) in
    let first : i - i ≡ 0 = omega arith in
    let here : get_or ys i d ≡ y = ap (λ zs. get_or zs i d) split ∙ get_or-append_right before (y ∷ later) i i d size (omega arith) ∙ ap (λ k. get_or (y ∷ later) k d) first in
    let left : set ys i (rewound (get_or ys i d)) ≡ before ++ rewound y ∷ later = ap₂ (λ zs v. set zs i (rewound v)) split here ∙ set_at before y later (rewound y) i size in
    let right : map rewound (take (i + 1) xs) ++ later ≡ before ++ rewound y ∷ later = ap (λ zs. map rewound zs ++ later) (take_more xs i d l) ∙ ap (λ zs. zs ++ later) (map-append rewound (take i xs) (y ∷ [])) ∙ append_assoc before (rewound y ∷ []) later in
    left ∙ sym right

-- ---- the slots of the first signals

pub record Made (i : ℕ) (xs : List Signal) (ys : List Slot) : Type 0 where
  pub shapes : map shape_in ys ≡ map shape_of (take i xs)
  pub kept : map (λ y. y.kept) ys ≡ unknown_from 0 (map shape_of (take i xs))
  pub slots : All (IsSlot 0) ys

pub one_made : (i : ℕ) (xs : List Signal) (ys zs : List Slot) (s : Signal) (x : Slot) → i < length xs → s ≡ get_or xs i s → zs ≡ ys ++ x ∷ [] → shape_in x ≡ shape_of s → x.kept ≡ unknown_of (shape_of s) i → IsSlot 0 x → Made i xs ys → Made (i + 1) xs zs
one_made i xs ys zs s x l is pushed shape unknown slot m =
    let more : take (i + 1) xs ≡ take i xs ++ s ∷ [] = take_more xs i s l ∙ ap (λ y. take i xs ++ y ∷ []) (sym is) in
    let shapes_more : map shape_of (take (i + 1) xs) ≡ map shape_of (take i xs) ++ shape_of s ∷ [] = ap (map shape_of) more ∙ map-append shape_of (take i xs) (s ∷ []) in
    let size : 0 + length (map shape_of (take i xs)) ≡ i = omega (arith, l, length-map (take i xs) shape_of, length-take i xs) in
    record {
      shapes = ap (map shape_in) pushed ∙ map-append shape_in ys (x ∷ []) ∙ ap₂ (λ a b. a ++ b ∷ []) m.shapes shape ∙ sym shapes_more;
      kept = ap (map (λ y. y.kept)) pushed ∙ map-append (λ y. y.kept) ys (x ∷ []) ∙ ap₂ (λ a b. a ++ b ∷ []) m.kept (unknown ∙ ap (unknown_of (shape_of s)) (sym size)) ∙ sym (unknown_push 0 (map shape_of (take i xs)) (shape_of s)) ∙ ap (unknown_from 0) (sym shapes_more);
      slots = let h = All-push (IsSlot 0) ys x m.slots slot in subst (All (IsSlot 0)) (sym pushed) h;
    }

pub all_made : (i : ℕ) (xs : List Signal) (ys : List Slot) → length xs ≤ i → Made i xs ys → signals_in 1 ys ≡ unknown_signals (map shape_of xs)
all_made i xs ys l m =
    let whole : map shape_of (take i xs) ≡ map shape_of xs = ap (map shape_of) (take_all i xs l) in
    let shapes : map shape_in ys ≡ map shape_of xs = m.shapes ∙ whole in
    three shapes (m.kept ∙ ap (unknown_from 0) whole) (none_shown 0 1 ys (omega arith) m.slots shape_in ∙ ap (map (λ x. None)) shapes)

-- ---- the end of what is shown and veiled

-- either nothing was put into the slots since epoch 0, or slots and epoch are as before
abbrev pub IsEnding : ℕ → ℕ → List Slot → List Slot → Type 0
IsEnding epoch later xs ys = ((ys ≡ map rewound xs) × (later ≡ 0)) ⊎ ((ys ≡ xs) × (later ≡ epoch))

pub ended_slots : (epoch later : ℕ) (xs ys : List Slot) → IsEnding epoch later xs ys → All (IsSlot epoch) xs → All (IsSlot (later + 1)) ys
ended_slots epoch later xs ys (inl w) h = subst (All (IsSlot (later + 1))) (sym w.0) (rewound_slots epoch (later + 1) xs h)
ended_slots epoch later xs ys (inr w) h =
    let same = w.1 in
    subst (All (IsSlot (later + 1))) (sym w.0) (later_slots epoch (later + 1) xs (omega (arith, same)) h)

pub ended_view : (epoch later : ℕ) (xs ys : List Slot) (v : Signals) → IsEnding epoch later xs ys → All (IsSlot epoch) xs → signals_in epoch xs ≡ v → signals_in (later + 1) ys ≡ record v { hidden = map (λ x. None) v.hidden }
ended_view epoch later xs ys v (inl w) h view =
    ap₂ (λ n zs. signals_in (n + 1) zs) w.1 w.0 ∙ all_rewound epoch xs ∙ ap {A = Signals} (λ u. record u { hidden = map (λ x. None) u.hidden }) view
ended_view epoch later xs ys v (inr w) h view =
    ap₂ (λ n zs. signals_in (n + 1) zs) w.1 w.0 ∙ all_later epoch xs h ∙ ap {A = Signals} (λ u. record u { hidden = map (λ x. None) u.hidden }) view

-- ---- slots of which nothing is known

forgotten_push : (s : ℕ) (xs : List Slot) (x : Slot) → forgotten s (xs ++ x ∷ []) ≡ forgotten s xs ++ record x { kept = blank_of x.kept (s + length xs) } ∷ []
forgotten_push s [] x = ap (λ n. record x { kept = blank_of x.kept n } ∷ []) (omega arith)
forgotten_push s (y ∷ ys) x =
    ap (λ l. record y { kept = blank_of y.kept s } ∷ l) (forgotten_push (s + 1) ys x ∙ ap (λ n. forgotten (s + 1) ys ++ record x { kept = blank_of x.kept n } ∷ []) (omega arith))

length-forgotten : (s : ℕ) (xs : List Slot) → length (forgotten s xs) ≡ length xs
length-forgotten s [] = refl
length-forgotten s (x ∷ xs) = ap suc (length-forgotten (s + 1) xs)

-- one slot more
pub forgotten_more : (xs ys : List Slot) (i : ℕ) (d : Slot) → i < length xs → ys ≡ forgotten 0 (take i xs) ++ drop i xs → set ys i (record (get_or ys i d) { kept = blank_of (get_or ys i d).kept i }) ≡ forgotten 0 (take (i + 1) xs) ++ drop (i + 1) xs
forgotten_more xs ys i d l e =
    let y : Slot = get_or xs i d in
    let before : List Slot = forgotten 0 (take i xs) in
    let later : List Slot = drop (i + 1) xs in
    let taken : 0 + length (take i xs) ≡ i = omega (arith, l, length-take i xs) in
    let size : length before ≡ i = omega (arith, l, length-forgotten 0 (take i xs), length-take i xs) in
    let split : ys ≡ before ++ y ∷ later = e ∙ ap (λ zs. before ++ zs) (drop_more xs i d l) in
    let first : i - i ≡ 0 = omega arith in
    let here : get_or ys i d ≡ y = ap (λ zs. get_or zs i d) split ∙ get_or-append_right before (y ∷ later) i i d size (omega arith) ∙ ap (λ k. get_or (y ∷ later) k d) first in
    let blank : Slot = record y { kept = blank_of y.kept i } in
    let put : List Slot → Slot → List Slot = λ zs v. set zs i (record v { kept = blank_of v.kept i }) in
    let left : set ys i (record (get_or ys i d) { kept = blank_of (get_or ys i d).kept i }) ≡ before ++ blank ∷ later = ap₂ put split here ∙ set_at before y later blank i size in
    let right : forgotten 0 (take (i + 1) xs) ++ later ≡ before ++ blank ∷ later = ap (λ zs. forgotten 0 zs ++ later) (take_more xs i d l) ∙ ap (λ zs. zs ++ later) (forgotten_push 0 (take i xs) y ∙ ap (λ n. before ++ record y { kept = blank_of y.kept n } ∷ []) taken) ∙ append_assoc before (blank ∷ []) later in
    left ∙ sym right

-- what the forgotten slots hold
forgotten_view : (epoch s : ℕ) (xs : List Slot) → All (IsSlot epoch) xs → signals_in epoch (forgotten s xs) ≡ made (map shape_in xs) (unknown_from s (map shape_in xs)) (map (hidden_in epoch) xs)
forgotten_view epoch s [] h = refl
forgotten_view epoch s (x ∷ xs) h =
    let here = All-head (IsSlot epoch) x xs h in
    let rest = forgotten_view epoch (s + 1) xs (All-tail (IsSlot epoch) x xs h) in
    let blank : blank_of x.kept s ≡ unknown_of (shape_in x) s = ap₂ (λ n t. unknown_of (record { range = x.range; width = n; signed = t }) s) here.kept.0 here.kept.1 in
    three (ap (λ ss. shape_in x ∷ ss) (ap (λ v. v.shapes) rest)) (ap₂ (λ a b. a ∷ b) blank (ap (λ v. v.kept) rest)) (ap (λ hs. hidden_in epoch x ∷ hs) (ap (λ v. v.hidden) rest))

pub all_forgotten : (epoch : ℕ) (xs ys : List Slot) (v : Signals) → ys ≡ forgotten 0 xs → All (IsSlot epoch) xs → signals_in epoch xs ≡ v → signals_in epoch ys ≡ record v { kept = unknown_from 0 v.shapes }
all_forgotten epoch xs ys v e h view =
    ap (signals_in epoch) e ∙ forgotten_view epoch 0 xs h ∙ ap {A = Signals} (λ u. record u { kept = unknown_from 0 u.shapes }) view

blank_slots : (epoch s : ℕ) (xs : List Slot) → All (IsSlot epoch) xs → All (IsSlot epoch) (forgotten s xs)
blank_slots epoch s [] h = h
blank_slots epoch s (x ∷ xs) h =
    let here = All-head (IsSlot epoch) x xs h in
    All-cons (IsSlot epoch) (record x { kept = blank_of x.kept s }) (forgotten (s + 1) xs)
    (record { past = here.past; kept = (length-replicate (length x.kept.bits) None ∙ here.kept.0, here.kept.1); shown = here.shown })
    (blank_slots epoch (s + 1) xs (All-tail (IsSlot epoch) x xs h))

pub forgotten_slots : (epoch : ℕ) (xs ys : List Slot) → ys ≡ forgotten 0 xs → All (IsSlot epoch) xs → All (IsSlot epoch) ys
forgotten_slots epoch xs ys e h = let g = blank_slots epoch 0 xs h in subst (All (IsSlot epoch)) (sym e) g
