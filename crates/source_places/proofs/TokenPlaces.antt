-- Each token of sources is on a line of one of them.
use Rattle.std.proofs.Common.{◌≡◌, ◌<◌, ◌≤◌, ◌+◌, ◌^◌, ◌==◌, ◌++◌, ◌∙◌, ℕ, zero, suc, Bool, true, false, if◌then◌else◌, List, [], ◌∷◌, length, get_or, Some, refl, sym, ap, subst, arith}
use Rattle.std.specs.List.{All}
use Rattle.std.proofs.lemmas.List.{length-append}
use Rattle.std.proofs.lemmas.Option.{slice_get-get_or, slice_get_within}
use Rattle.cov_host.specs.declared.place.Place.{Place}
use Rattle.verilog_lexer.specs.Sources.{SourceText}
use Rattle.verilog_lexer.specs.Spot.{next_place}
use Rattle.verilog_lexer.specs.TokenPlaces.{AreRead, AreReadInTurn, StandsAt, file_start, place_behind, nothing, blank_bytes, one_token, macro_use, inclusion, no_source, include_passed, root_read}
use Rattle.verilog_lexer.specs.Tokens.{Lexeme}
use Rattle.source_places.specs.Lines.{AreCounted, AreOnLines, IsOnLine}

-- the place is in the same source as another one, and at most so many lines after it
record IsBelow (first : Place) (lines : ℕ) (place : Place) : Type 0 where
  source : place.source ≡ first.source
  from : first.line ≤ place.line
  to : place.line ≤ first.line + lines

next_below : (place : Place) (byte : ℕ) → IsBelow place 1 (next_place place byte)
next_below place byte = by_feed (byte == 10)
  where
    by_feed : (feed : Bool) → IsBelow place 1 (if feed then record place { line = place.line + 1; column = 1 } else record place { column = place.column + 1 })
    by_feed true = record { source = refl; from = omega arith; to = omega arith }
    by_feed false = record { source = refl; from = omega arith; to = omega arith }

behind_below : (bytes : List ℕ) (place : Place) → IsBelow place (length bytes) (place_behind place bytes)
behind_below [] place = record { source = refl; from = omega arith; to = omega arith }
behind_below (byte ∷ others) place =
    let one = next_below place byte in
    let rest = behind_below others (next_place place byte) in
    record { source = rest.source ∙ one.source; from = omega (arith, one.from, rest.from); to = omega (arith, one.to, rest.to) }

same_source : (a b : SourceText) → Some a ≡ Some b → a ≡ b
same_source a b e = cc

module _ (sources : List SourceText) (counted : AreCounted sources) where
  abbrev Good : Place → Type 0
  Good place = IsOnLine (length sources) place

  -- where a source has some bytes
  standing : (bytes : List ℕ) (place : Place) → StandsAt sources bytes place → Good place
  standing bytes place at =
      let inside : at.number < length sources = slice_get_within sources at.number at.source at.numbered in
      let here : get_or sources at.number at.source ≡ at.source = same_source _ at.source (sym (slice_get-get_or sources at.number at.source inside) ∙ at.numbered) in
      let long : suc (length at.source.bytes) < 2 ^ 32 = subst (λ s. suc (length s.bytes) < 2 ^ 32) here (counted at.number at.source inside) in
      let whole : length at.source.bytes ≡ length (at.before ++ bytes ++ at.behind) = ap length at.text in
      let parts = length-append (at.before ++ bytes) at.behind in
      let front = length-append at.before bytes in
      let shorter : length at.before ≤ length at.source.bytes = omega (arith, whole, parts, front) in
      let few : length at.before + 1 < 2 ^ 32 = omega (arith, shorter, long) in
      let below = behind_below at.before (file_start (at.number + 1)) in
      subst Good (sym at.counted) (record {
        source = (omega (arith, below.source), omega (arith, below.source, inside));
        line = (omega (arith, below.from), omega (arith, below.to, few));
      })

  none_on : AreOnLines (length sources) []
  none_on k d l = absurd (omega (arith, l))

  one_more : (token : Lexeme) (others : List Lexeme) → Good token.place → AreOnLines (length sources) others → AreOnLines (length sources) (token ∷ others)
  one_more token others g h zero d l = g
  one_more token others g h (suc k) d l = h k d (omega (arith, l))

  both_on : (xs ys : List Lexeme) → AreOnLines (length sources) xs → AreOnLines (length sources) ys → AreOnLines (length sources) (xs ++ ys)
  both_on [] ys h k = k
  both_on (x ∷ xs) ys h k = one_more x (xs ++ ys) (h zero x (omega arith)) (both_on xs ys (λ j d l. h (suc j) d (omega (arith, l))) k)

  all_at : (place : Place) → Good place → (xs : List Lexeme) → All (λ (token : Lexeme). token.place ≡ place) xs → AreOnLines (length sources) xs
  all_at place g [] h = none_on
  all_at place g (x ∷ xs) h = one_more x xs (subst Good (sym (h zero x (omega arith))) g) (all_at place g xs (λ j d l. h (suc j) d (omega (arith, l))))

  read_on : (place : Place) (tokens : List Lexeme) → AreRead sources place tokens → AreOnLines (length sources) tokens
  read_on place [] nothing = none_on
  read_on place tokens (blank_bytes {bytes = bytes} at read) = read_on (place_behind place bytes) tokens read
  read_on place (token ∷ others) (one_token at some read) = one_more token others (standing token.text token.place at) (read_on _ others read)
  read_on place tokens (macro_use {name = name} {others = others} inside is_name at here read) =
      both_on inside others (all_at place (standing (96 ∷ name) place at) inside here) (read_on _ others read)
  read_on place tokens (inclusion {number = number} {inside = inside} {others = others} at within read) =
      both_on inside others (read_on (file_start number) inside within) (read_on _ others read)

  pub turns_on : (number : ℕ) (tokens : List Lexeme) → AreReadInTurn sources number tokens → AreOnLines (length sources) tokens
  turns_on number [] no_source = none_on
  turns_on number tokens (include_passed read) = turns_on (number + 1) tokens read
  turns_on number tokens (root_read {inside = inside} {others = others} within read) =
      both_on inside others (read_on (file_start number) inside within) (turns_on (number + 1) others read)
