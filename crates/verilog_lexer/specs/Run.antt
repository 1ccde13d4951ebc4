-- Runs of bytes at the front of a text (IEEE 1364-2001 clause 2).
-- Bytes are written as numbers: 10 line feed, 32 space, 34 double quote, 92 backslash; 9 to 13 are white space too.
use Rattle.std.specs.Prelude.{ℕ, zero, suc, ◌+◌, nat_le, Bool, true, false, not, ◌&&◌, ◌||◌, ◌==◌, List, [], ◌∷◌, Option, None, Some, is_some, if◌then◌else◌, slice_index}
use Rattle.std.specs.List.{prefix_len}

-- space, tab, line feed, vertical tab, form feed, carriage return
abbrev pub is_white : ℕ → Bool
is_white byte = byte == 32 || (nat_le 9 byte && nat_le byte 13)

-- white space within a line
abbrev pub is_blank : ℕ → Bool
is_blank byte = is_white byte && not (byte == 10)

-- no line feed
abbrev pub is_within_line : ℕ → Bool
is_within_line byte = not (byte == 10)

-- how many bytes at the front pass, up to the first that does not
abbrev pub run : (ℕ → Bool) → List ℕ → ℕ
run passes text = prefix_len passes text

-- how many bytes end with the first such pair of bytes, after those that are passed
abbrev pub through_pair : (first second passed : ℕ) → List ℕ → Option ℕ
through_pair first second passed [] = None
through_pair first second passed (byte ∷ others) =
    if byte == first && slice_index others 0 == second then Some (passed + 2) else through_pair first second (passed + 1) others

-- the byte is a quote that no backslash takes with it
abbrev pub closes : (byte : ℕ) (taken : Bool) → Bool
closes byte taken = byte == 34 && not taken

-- the byte is a backslash that takes the next byte with it
abbrev pub takes_next : (byte : ℕ) (taken : Bool) → Bool
takes_next byte taken = byte == 92 && not taken

-- how many bytes end with the first quote on the line, after those that are passed
abbrev pub through_quote : (passed : ℕ) (taken : Bool) → List ℕ → Option ℕ
through_quote passed taken [] = None
through_quote passed taken (byte ∷ others) =
    if byte == 10 then None
    else if closes byte taken then Some (passed + 1)
    else through_quote (passed + 1) (takes_next byte taken) others

-- no quote among so many bytes at the front is closed on its line
abbrev pub none_closes : (bytes : ℕ) → List ℕ → Bool
none_closes zero text = true
none_closes (suc bytes) [] = true
none_closes (suc bytes) (byte ∷ others) = not (byte == 34 && is_some (through_quote 0 false others)) && none_closes bytes others
