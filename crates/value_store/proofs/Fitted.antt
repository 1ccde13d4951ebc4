-- What is kept of each signal, and what bodies read of it, has the shape of the signal.
use Rattle.std.proofs.Common.{◌≡◌, ℕ, ◌<◌, ◌==◌, Bool, true, false, if◌then◌else◌, List, length, get_or, Some, None, sym, ap, ap₂, subst, ◌∙◌, arith}
use Rattle.std.specs.List.{All}
use Rattle.std.specs.Option.{unwrap_or}
use Rattle.std.proofs.lemmas.List.{get_or-map, length-map}
use Rattle.value_store.specs.Signals.{HasShape, Signals, hidden_at, kept_at, no_shape, no_value, read_at, shape_at}
use Rattle.value_store.specs.Slots.{IsSlot, hidden_in, shape_in, signals_in}
use Rattle.value_store.specs.declared.slot.Slot.{Slot}

no_slot : Slot
no_slot = record { range = no_shape.range; width = 0; signed = false; kept = no_value; shown = no_value; epoch = 0 }

-- what is kept of each signal, and what is read of it
abbrev pub IsFitting : Signals → ℕ → Type 0
IsFitting v x = HasShape (shape_at v x) (kept_at v x) × HasShape (shape_at v x) (read_at v x)

one_fits : (epoch : ℕ) (xs : List Slot) → All (IsSlot epoch) xs → (x : ℕ) → x < length xs → IsFitting (signals_in epoch xs) x
one_fits epoch xs h x l =
    let a : Slot = get_or xs x no_slot in
    let fits : IsSlot epoch a = h x no_slot l in
    let shape : shape_at (signals_in epoch xs) x ≡ shape_in a = get_or-map shape_in xs x no_slot no_shape l in
    let kept : kept_at (signals_in epoch xs) x ≡ a.kept = get_or-map (λ y. y.kept) xs x no_slot no_value l in
    let hidden : hidden_at (signals_in epoch xs) x ≡ hidden_in epoch a = get_or-map (hidden_in epoch) xs x no_slot None l in
    let read : HasShape (shape_in a) (unwrap_or (hidden_in epoch a) a.kept) = go a fits (a.epoch == epoch) in (
      subst (λ y. HasShape y (kept_at (signals_in epoch xs) x)) (sym shape) (subst (HasShape (shape_in a)) (sym kept) fits.kept),
      subst (λ y. HasShape y (read_at (signals_in epoch xs) x)) (sym shape) (subst (HasShape (shape_in a)) (sym (ap₂ unwrap_or hidden kept)) read),
    )
  where
    go : (a : Slot) → IsSlot epoch a → (t : Bool) → HasShape (shape_in a) (unwrap_or (if t then Some a.shown else None) a.kept)
    go a fits true = fits.shown
    go a fits false = fits.kept

pub all_fit : (epoch : ℕ) (xs : List Slot) (v : Signals) → signals_in epoch xs ≡ v → All (IsSlot epoch) xs → (x : ℕ) → x < length v.kept → IsFitting v x
all_fit epoch xs v view h x l =
    let size : length v.kept ≡ length xs = ap (λ w. length w.kept) (sym view) ∙ length-map xs (λ y. y.kept) in
    subst (λ w. IsFitting w x) view (one_fits epoch xs h x (omega (arith, l, size)))
