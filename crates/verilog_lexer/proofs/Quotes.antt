-- Quotes that are not closed on their line.
use Rattle.std.proofs.Common.{◌≡◌, ◌+◌, ◌-◌, arith, ℕ, zero, suc, Bool, true, false, true≢false, cond, not, ◌&&◌, ◌==◌, None, Some, is_some, List, [], ◌∷◌, get_or, drop, one-add, refl, ap, ◌∙◌}
use Rattle.std.proofs.lemmas.Bool.{and_parts}
use Rattle.verilog_lexer.specs.Run.{is_within_line, run, closes, takes_next, through_quote, none_closes}

-- whether there is a quote does not turn on how many bytes are passed before
same_found : (passed other : ℕ) (taken : Bool) (text : List ℕ) → is_some (through_quote passed taken text) ≡ is_some (through_quote other taken text)
same_found passed other taken [] = refl
same_found passed other taken (byte ∷ others) = by_byte (byte == 10) (closes byte taken) (same_found (passed + 1) (other + 1) (takes_next byte taken) others) where
  by_byte : (ends closed : Bool) → is_some (through_quote (passed + 1) (takes_next byte taken) others) ≡ is_some (through_quote (other + 1) (takes_next byte taken) others)
      → is_some (cond ends None (cond closed (Some (passed + 1)) (through_quote (passed + 1) (takes_next byte taken) others))) ≡ is_some (cond ends None (cond closed (Some (other + 1)) (through_quote (other + 1) (takes_next byte taken) others)))
  by_byte true closed later = refl
  by_byte false true later = refl
  by_byte false false later = later

-- where a search finds no quote, a backslash takes each that is on the line, so that the search from there finds none either
open_line : (passed : ℕ) (taken : Bool) (text : List ℕ) → is_some (through_quote passed taken text) ≡ false → none_closes (run is_within_line text) text ≡ true
open_line passed taken [] none = refl
open_line passed taken (byte ∷ others) none = by_end (byte == 10) (λ p t. open_line p t others) none where
  by_quote : (quote slash taken : Bool) → ((p : ℕ) (t : Bool) → is_some (through_quote p t others) ≡ false → none_closes (run is_within_line others) others ≡ true)
      → is_some (cond (quote && not taken) (Some (passed + 1)) (through_quote (passed + 1) (slash && not taken) others)) ≡ false
      → (not (quote && is_some (through_quote 0 false others)) && none_closes (run is_within_line others) others) ≡ true
  by_quote false slash taken later none = later (passed + 1) (slash && not taken) none
  by_quote true slash false later none = absurd (true≢false none)
  by_quote true true true later none = rw (same_found 0 (passed + 1) false others ∙ none) (later (passed + 1) false none)
  by_quote true false true later none = rw (same_found 0 (passed + 1) false others ∙ none) (later (passed + 1) false none)

  by_end : (ends : Bool) → ((p : ℕ) (t : Bool) → is_some (through_quote p t others) ≡ false → none_closes (run is_within_line others) others ≡ true)
      → is_some (cond ends None (cond (closes byte taken) (Some (passed + 1)) (through_quote (passed + 1) (takes_next byte taken) others))) ≡ false
      → none_closes (cond (not ends) (1 + run is_within_line others) 0) (byte ∷ others) ≡ true
  by_end true later none = refl
  by_end false later none = rw (one-add (run is_within_line others)) (by_quote (byte == 34) (byte == 92) taken later none)

-- where the quote at the front is not closed on its line, no quote on it is
pub none_closes-line : (text : List ℕ) → get_or text 0 0 ≡ 34 → through_quote 0 false (drop 1 text) ≡ None → none_closes (run is_within_line text) text ≡ true
none_closes-line [] is none = refl
none_closes-line (byte ∷ others) is none = open_line 0 true (byte ∷ others) (rw is (same_found 1 0 false others ∙ ap is_some none))

none_closes-empty : (bytes : ℕ) → none_closes bytes [] ≡ true
none_closes-empty zero = refl
none_closes-empty (suc bytes) = refl

-- the same is known of what is left after the first bytes
pub none_closes-drop : (passed bytes : ℕ) (text : List ℕ) → none_closes bytes text ≡ true → none_closes (bytes - passed) (drop passed text) ≡ true
none_closes-drop zero bytes text none =
    let same : bytes - 0 ≡ bytes = omega arith in
    rw same none
none_closes-drop (suc passed) bytes [] none = none_closes-empty (bytes - suc passed)
none_closes-drop (suc passed) zero (byte ∷ others) none =
    let same : 0 - suc passed ≡ 0 = omega arith in
    rw same refl
none_closes-drop (suc passed) (suc bytes) (byte ∷ others) none =
    let same : suc bytes - suc passed ≡ bytes - passed = omega arith in
    rw same (none_closes-drop passed bytes others (and_parts (not (byte == 34 && is_some (through_quote 0 false others))) (none_closes bytes others) none).1)
