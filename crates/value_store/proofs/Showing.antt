-- What bodies read of the signals of a store after one is shown, and after nothing is shown any more.
use Rattle.std.proofs.Common.{◌≡◌, ℕ, zero, suc, ◌+◌, ◌<◌, ◌==◌, ◌||◌, Bool, true, false, if◌then◌else◌, List, [], ◌∷◌, length, map, get_or, set, is_some, Option, Some, None, refl, sym, ap, subst, ◌∙◌, ◌≢◌, arith, get_or-set_same, get_or-set_other}
use Rattle.std.specs.Option.{unwrap_or}
use Rattle.std.proofs.lemmas.Bool.{eqb-true, eqb-false}
use Rattle.std.proofs.lemmas.List.{length-map}
use Rattle.body_replay.specs.known_state.Partly.{Partly}
use Rattle.value_store.specs.Signals.{Shape, Signals, hidden_at, kept_at, no_shape, no_value, read_at, shape_at, unknown_from, unknown_of}
use Rattle.value_store.specs.Slots.{hidden_in, shape_in, signals_in}
use Rattle.value_store.specs.declared.slot.Slot.{Slot}

-- each signal has a place for what bodies read in the place of what is kept
pub as_many : (epoch : ℕ) (xs : List Slot) (v : Signals) → signals_in epoch xs ≡ v → length v.hidden ≡ length v.kept
as_many epoch xs v e =
    subst (λ (u : Signals). length u.hidden ≡ length u.kept) e (length-map xs (hidden_in epoch) ∙ sym (length-map xs (λ x. x.kept)))

module _ (v w : Signals) (s : ℕ) (q : Partly) (inside : s < length v.hidden) (is : w ≡ record v { hidden = set v.hidden s (Some q) }) where
  hidden_here : hidden_at w s ≡ Some q
  hidden_here = ap (λ (u : Signals). hidden_at u s) is ∙ get_or-set_same v.hidden s (Some q) None inside

  hidden_there : (x : ℕ) → (s == x) ≡ false → hidden_at w x ≡ hidden_at v x
  hidden_there x e =
      let differ : x ≢ s = λ same. eqb-false s x e (sym same) in
      ap (λ (u : Signals). hidden_at u x) is ∙ get_or-set_other v.hidden s x (Some q) None differ

  pub reads_shown : (x : ℕ) → read_at w x ≡ (if s == x then q else read_at v x)
  reads_shown x = go (s == x) refl
    where
      go : (t : Bool) → (s == x) ≡ t → read_at w x ≡ (if t then q else read_at v x)
      go true e = ap (read_at w) (sym (eqb-true s x e)) ∙ ap (λ o. unwrap_or o (kept_at w s)) hidden_here
      go false e = ap (λ o. unwrap_or o (kept_at w x)) (hidden_there x e) ∙ ap (λ (u : Signals). unwrap_or (hidden_at v x) (kept_at u x)) is

  pub hides_shown : (x : ℕ) → is_some (hidden_at w x) ≡ ((s == x) || is_some (hidden_at v x))
  hides_shown x = go (s == x) refl
    where
      go : (t : Bool) → (s == x) ≡ t → is_some (hidden_at w x) ≡ (t || is_some (hidden_at v x))
      go true e = ap (λ y. is_some (hidden_at w y)) (sym (eqb-true s x e)) ∙ ap is_some hidden_here
      go false e = ap is_some (hidden_there x e)

-- ---- nothing is shown or veiled

none_at : (hs : List (Option Partly)) (x : ℕ) → hidden_at (record { shapes = []; kept = []; hidden = map (λ h. None) hs }) x ≡ None
none_at [] x = refl
none_at (h ∷ hs) zero = refl
none_at (h ∷ hs) (suc x) = none_at hs x

pub reads_plain : (v w : Signals) → w ≡ record v { hidden = map (λ x. None) v.hidden } → (x : ℕ) → read_at w x ≡ kept_at v x
reads_plain v w is x = ap (λ (u : Signals). read_at u x) is ∙ ap (λ o. unwrap_or o (kept_at v x)) (none_at v.hidden x)

pub hides_plain : (v w : Signals) → w ≡ record v { hidden = map (λ x. None) v.hidden } → (x : ℕ) → is_some (hidden_at w x) ≡ false
hides_plain v w is x = ap (λ (u : Signals). is_some (hidden_at u x)) is ∙ ap is_some (none_at v.hidden x)

-- ---- nothing is known

length-unknown : (n : ℕ) (xs : List Shape) → length (unknown_from n xs) ≡ length xs
length-unknown n [] = refl
length-unknown n (x ∷ xs) = ap suc (length-unknown (n + 1) xs)

get-unknown : (n s : ℕ) (xs : List Shape) → s < length xs → get_or (unknown_from n xs) s no_value ≡ unknown_of (get_or xs s no_shape) (n + s)
get-unknown n s [] l = absurd (omega (arith, l))
get-unknown n zero (x ∷ xs) l = ap (unknown_of x) (omega arith)
get-unknown n (suc s) (x ∷ xs) l = get-unknown (n + 1) s xs (omega (arith, l)) ∙ ap (unknown_of (get_or xs s no_shape)) (omega arith)

-- each signal has a shape
pub as_shaped : (epoch : ℕ) (xs : List Slot) (v : Signals) → signals_in epoch xs ≡ v → length v.shapes ≡ length v.kept
as_shaped epoch xs v e =
    subst (λ (u : Signals). length u.shapes ≡ length u.kept) e (length-map xs shape_in ∙ sym (length-map xs (λ x. x.kept)))

module _ (v w : Signals) (size : length v.shapes ≡ length v.kept) (is : w ≡ record v { kept = unknown_from 0 v.shapes }) where
  pub each_forgotten : (x : ℕ) → x < length v.kept → kept_at w x ≡ unknown_of (shape_at v x) x
  each_forgotten x l =
      let start : 0 + x ≡ x = omega arith in
      ap (λ (u : Signals). kept_at u x) is ∙ get-unknown 0 x v.shapes (omega (arith, l, size)) ∙ ap (unknown_of (shape_at v x)) start

  pub count_forgotten : length w.kept ≡ length v.kept
  count_forgotten = ap (λ (u : Signals). length u.kept) is ∙ length-unknown 0 v.shapes ∙ size
