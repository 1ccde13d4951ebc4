-- Places after bytes.
use Rattle.std.proofs.Common.{◌≡◌, ◌<◌, ◌≤◌, ◌+◌, arith, Bool, true, false, ℕ, suc, List, [], ◌∷◌, zero, cond, ◌==◌, ◌^◌, length, get_or, take, drop, drop-cons, add-one, refl, inl, inr, ◌∙◌, ◌⊎◌}
use Rattle.cov_host.specs.declared.place.Place.{Place}
use Rattle.verilog_lexer.specs.Spot.{next_place, after, after_all, IsInRange, IsBefore}
use Rattle.verilog_lexer.specs.declared.spot.Spot.{Spot}

-- one byte more
pub after_all-drop : (spot : Spot) (bytes : List ℕ) (i : ℕ) → i < length bytes → after_all spot (drop i bytes) ≡ after_all (after spot (get_or bytes i 0)) (drop (i + 1) bytes)
after_all-drop spot bytes i within = rw (drop-cons bytes i 0 within, add-one i) refl

-- within a macro everything is at the place where the macro is used
pub after_all-inside : (place : Place) (bytes : List ℕ) → after_all (record { place = place; inside = true }) bytes ≡ record { place = place; inside = true }
after_all-inside place [] = refl
after_all-inside place (byte ∷ bytes) = after_all-inside place bytes

pub ruleset spots = (after_all-drop, after_all-inside)

-- fewer bytes stay in range too
pub IsInRange-less : (spot : Spot) (less bytes : ℕ) → IsInRange spot bytes → less ≤ bytes → IsInRange spot less
IsInRange-less spot less bytes range fewer = record {
  line = λ outside. omega (arith, range.line outside);
  column = λ outside. omega (arith, range.column outside);
}

-- a byte takes at most one line or column
next_in_range : (place : Place) (byte n : ℕ) → place.line + suc n < 2 ^ 32 → place.column + suc n < 2 ^ 32 → ((next_place place byte).line + n < 2 ^ 32) × ((next_place place byte).column + n < 2 ^ 32)
next_in_range place byte n line column = by_end (byte == 10) where
  by_end : (ends : Bool) → ((cond ends (record place { line = place.line + 1; column = 1 }) (record place { column = place.column + 1 })).line + n < 2 ^ 32) × ((cond ends (record place { line = place.line + 1; column = 1 }) (record place { column = place.column + 1 })).column + n < 2 ^ 32)
  by_end true = (omega arith, omega arith)
  by_end false = (omega arith, omega arith)

after_in_range : (place : Place) (inside : Bool) (byte n : ℕ) → IsInRange (record { place = place; inside = inside }) (suc n) → IsInRange (after (record { place = place; inside = inside }) byte) n
after_in_range place true byte n range = record { line = λ outside. absurd (cc); column = λ outside. absurd (cc) }
after_in_range place false byte n range =
    let next = next_in_range place byte n (range.line refl) (range.column refl) in
    record { line = λ outside. next.0; column = λ outside. next.1 }

-- what is left of a text stays in range
pub after_all_in_range : (text : List ℕ) (bytes : ℕ) (spot : Spot) → IsInRange spot (length text) → IsInRange (after_all spot (take bytes text)) (length (drop bytes text))
after_all_in_range text zero spot range = range
after_all_in_range [] (suc bytes) spot range = range
after_all_in_range (byte ∷ others) (suc bytes) spot range = after_all_in_range others bytes (after spot byte) (after_in_range spot.place spot.inside byte (length others) range)

-- a byte is before what comes after it
next_is_behind : (place : Place) (byte : ℕ) → IsBefore place (next_place place byte)
next_is_behind place byte = by_end (byte == 10) where
  by_end : (ends : Bool) → IsBefore place (cond ends (record place { line = place.line + 1; column = 1 }) (record place { column = place.column + 1 }))
  by_end true = record { source = refl; order = inl (omega arith) }
  by_end false = record { source = refl; order = inr (refl, omega arith) }

IsBefore-trans : (first second third : Place) → IsBefore first second → IsBefore second third → IsBefore first third
IsBefore-trans first second third before after_ = record { source = before.source ∙ after_.source; order = later before.order after_.order } where
  later : ((first.line < second.line) ⊎ ((first.line ≡ second.line) × (first.column < second.column))) → ((second.line < third.line) ⊎ ((second.line ≡ third.line) × (second.column < third.column))) → (first.line < third.line) ⊎ ((first.line ≡ third.line) × (first.column < third.column))
  later (inl line) (inl next) = inl (omega arith)
  later (inl line) (inr next) = inl (omega (arith, next.0))
  later (inr column) (inl next) = inl (omega (arith, column.0))
  later (inr column) (inr next) = inr (column.0 ∙ next.0, omega (arith, column.1, next.1))

-- outside of macros places rise
pub places_rise : (bytes : List ℕ) (place : Place) → 0 < length bytes → IsBefore place (after_all (record { place = place; inside = false }) bytes).place
places_rise [] place some = absurd (omega arith)
places_rise (byte ∷ []) place some = next_is_behind place byte
places_rise (byte ∷ next ∷ others) place some = IsBefore-trans place (next_place place byte) _ (next_is_behind place byte) (places_rise (next ∷ others) (next_place place byte) (omega arith))
