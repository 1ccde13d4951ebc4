-- Rows that bits are added to.
use Rattle.std.proofs.Common.{◌≡◌, ◌∙◌, ℕ, zero, suc, ◌<◌, ◌==◌, ◌&&◌, ◌||◌, Bool, true, false, bit_or, List, [], ◌∷◌, length, get_or, slice_set, refl, ap, arith}
use Rattle.design_model.specs.event_machine.Cell.{Cell}
use Rattle.four_state.specs.Masks.{is_set}
use Rattle.four_state.proofs.Places.{is_set-or}
use Rattle.process_targets.specs.Targets.{has_bit, names, row_has}
use Rattle.process_targets.specs.declared.bits.Bits.{Bits}

-- the bits with more places
abbrev pub with_mask : Bits → ℕ → Bits
with_mask b m = record { signal = b.signal; mask = bit_or b.mask m }

joined : (a p q r : Bool) → ((a && (p || q)) || r) ≡ (((a && p) || r) || (a && q))
joined false p q false = refl
joined false p q true = refl
joined true false false false = refl
joined true false false true = refl
joined true false true false = refl
joined true false true true = refl
joined true true false false = refl
joined true true false true = refl
joined true true true false = refl
joined true true true true = refl

or_or : (a b c : Bool) → (a || (b || c)) ≡ ((a || b) || c)
or_or false b c = refl
or_or true b c = refl

or_again : (a b : Bool) → (a || b) ≡ ((a || b) || a)
or_again false false = refl
or_again false true = refl
or_again true b = refl

-- a row where more places are put to the bits at a place
pub put_has : (xs : List Bits) (k s m : ℕ) (d : Bits) (c : Cell) → k < length xs → (get_or xs k d).signal ≡ s
    → row_has (slice_set xs k (with_mask (get_or xs k d) m)) c ≡ (row_has xs c || has_bit (record { signal = s; mask = m }) c)
put_has [] k s m d c l e = absurd (omega arith)
put_has (x ∷ xs) zero s m d c l e =
    ap (λ b. ((x.signal == c.thing) && b) || row_has xs c) (is_set-or x.mask m c.place)
    ∙ joined (x.signal == c.thing) (is_set x.mask c.place) (is_set m c.place) (row_has xs c)
    ∙ ap (λ n. (has_bit x c || row_has xs c) || ((n == c.thing) && is_set m c.place)) e
put_has (x ∷ xs) (suc k) s m d c l e =
    ap (λ b. has_bit x c || b) (put_has xs k s m d c (omega arith) e) ∙ or_or (has_bit x c) (row_has xs c) _

pub put_names : (xs : List Bits) (k s m n : ℕ) (d : Bits) → k < length xs → (get_or xs k d).signal ≡ s
    → names (slice_set xs k (with_mask (get_or xs k d) m)) n ≡ (names xs n || (s == n))
put_names [] k s m n d l e = absurd (omega arith)
put_names (x ∷ xs) zero s m n d l e = or_again (x.signal == n) (names xs n) ∙ ap (λ y. ((x.signal == n) || names xs n) || (y == n)) e
put_names (x ∷ xs) (suc k) s m n d l e =
    ap (λ b. (x.signal == n) || b) (put_names xs k s m n d (omega arith) e) ∙ or_or (x.signal == n) (names xs n) _
