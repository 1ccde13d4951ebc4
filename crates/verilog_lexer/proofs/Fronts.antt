-- What a piece shows is at the front of its text.
use Rattle.std.proofs.Common.{◌≡◌, ◌<◌, ◌+◌, ℕ, zero, suc, Bool, true, false, cond, ◌==◌, get_or, List, [], ◌∷◌, ◌++◌, Option, None, Some, length, take, drop, refl, sym, ap, subst, arith, length-take}
use Rattle.std.proofs.lemmas.List.{take-append-drop}
use Rattle.std.proofs.lemmas.Bool.{eqb-true}
use Rattle.std.specs.List.{prefix_len, list_all}
use Rattle.std.specs.Prelude.{slice_index, ◌&&◌, ◌-◌}
use Rattle.std.specs.Char.{is_ascii_digit}
use Rattle.cov_host.specs.Identifier.{begins_name, continues_name, has_name_form, is_reserved}
use Rattle.verilog_lexer.specs.Run.{run, through_quote, is_white, is_blank, is_within_line}
use Rattle.verilog_lexer.specs.Conditions.{is_left_out}
use Rattle.verilog_lexer.specs.Operator.{operator_length}
use Rattle.verilog_lexer.specs.Based.{base_of, letter_at, digits_at, based_length, is_decimal_part}
use Rattle.verilog_lexer.specs.DefineText.{define_text_length}
use Rattle.verilog_lexer.specs.Directive.{directive_of}
use Rattle.verilog_lexer.specs.Piece.{Piece, blank, token, define, undefine, condition, inclusion, expansion, fault, up_to, token_of, word_piece, quoted_piece, based_as, system_piece, operator_piece, comment_piece, slash_piece, parenthesis_piece, name_in, name_behind, name_end, define_piece, is_file_name, is_plain, file_piece, include_piece, condition_piece, other_piece, or_piece, directive_word, accent_piece, mark_piece, read_piece, left_out_slash, left_out_quote, left_out_piece}
use Rattle.verilog_lexer.specs.Reading.{front_piece, is_continuation}
use Rattle.verilog_lexer.specs.TokenPlaces.{IsMacroName}
use Rattle.verilog_lexer.specs.TokenTexts.{IsPartOf}
use Rattle.verilog_lexer.specs.declared.based.Base.{Base}
use Rattle.verilog_lexer.specs.declared.condition.Condition.{Condition}
use Rattle.verilog_lexer.specs.declared.directive.Directive.{Directive}
use Rattle.verilog_lexer.specs.declared.directive.Directive.TheVariants.{Define, Undef, Ifdef, Ifndef, Elsif, Else, Endif, Include, PassedOver, Refused, Use}
use Rattle.verilog_lexer.specs.declared.fault.LexKind.{LexKind}
use Rattle.verilog_lexer.specs.declared.fault.LexKind.TheVariants.{BadByte, UnknownDirective}
use Rattle.verilog_lexer.specs.declared.token.TokenKind.{TokenKind}
use Rattle.verilog_lexer.specs.declared.token.TokenKind.TheVariants as kind
use Rattle.verilog_lexer.proofs.Parts.{IsPartOf-trans, IsPartOf-take, IsPartOf-drop}

-- the text begins with these bytes, of which there are some
pub record Begins (text front : List ℕ) : Type 0 where
  pub behind : List ℕ
  pub is : text ≡ front ++ behind
  pub some : 0 < length front

-- names and keywords have the form of a name, and the word says which they are
abbrev pub HasForm : TokenKind → List ℕ → Type 0
HasForm kind.Identifier word = (has_name_form word ≡ true) × (is_reserved word ≡ false)
HasForm kind.Keyword word = is_reserved word ≡ true
HasForm kind.System word = Unit {0}
HasForm kind.Decimal word = Unit {0}
HasForm kind.Based word = Unit {0}
HasForm kind.Quoted word = Unit {0}
HasForm kind.Operator word = Unit {0}

-- the text begins with the word of a token, or with the accent and the name of a macro
unfoldable pub IsFrontOf : List ℕ → Piece → Type 0
IsFrontOf text (blank n) = Unit {0}
IsFrontOf text (token kind word) = Begins text word × HasForm kind word
IsFrontOf text (define name body n) = IsPartOf text body
IsFrontOf text (undefine name n) = Unit {0}
IsFrontOf text (condition test n) = Unit {0}
IsFrontOf text (inclusion name n) = Unit {0}
IsFrontOf text (expansion name n) = Begins text (96 ∷ name) × (n ≡ length name + 1) × IsMacroName name
IsFrontOf text (fault kind before) = Unit {0}

-- what shows nothing
blank_front : (text : List ℕ) (n : ℕ) → IsFrontOf text (blank n)
unfolding IsFrontOf
blank_front text n = tt

define_front : (text : List ℕ) (name body : List ℕ) (n : ℕ) → IsPartOf text body → IsFrontOf text (define name body n)
unfolding IsFrontOf
define_front text name body n part = part

inclusion_front : (text : List ℕ) (name : List ℕ) (n : ℕ) → IsFrontOf text (inclusion name n)
unfolding IsFrontOf
inclusion_front text name n = tt

fault_front : (text : List ℕ) (why : LexKind) (n : ℕ) → IsFrontOf text (fault why n)
unfolding IsFrontOf
fault_front text why n = tt

-- one of two pieces, by a test
either : (text : List ℕ) (c : Bool) (a b : Piece) → (c ≡ true → IsFrontOf text a) → (c ≡ false → IsFrontOf text b) → IsFrontOf text (cond c a b)
either text true a b left right = left refl
either text false a b left right = right refl

-- a piece up to where something ends, or another one
through : (text : List ℕ) (made : ℕ → Piece) (other : Piece) (n : Option ℕ) → ((n : ℕ) → IsFrontOf text (made n)) → IsFrontOf text other → IsFrontOf text (up_to made other n)
through text made other None each none = none
through text made other (Some n) each none = each n

-- the token of the first bytes
first_bytes : (byte : ℕ) (others : List ℕ) (kind : TokenKind) (n : ℕ) → 0 < n → HasForm kind (take n (byte ∷ others)) → IsFrontOf (byte ∷ others) (token_of kind (byte ∷ others) n)
unfolding IsFrontOf
first_bytes byte others kind n some form = (
  record {
    behind = drop n (byte ∷ others);
    is = sym (take-append-drop n (byte ∷ others));
    some = omega (arith, length-take n (byte ∷ others));
  },
  form,
)

one_more : (n : ℕ) → 1 + n ≡ suc n
one_more n = omega arith

run_some : (passes : ℕ → Bool) (byte : ℕ) (others : List ℕ) → passes byte ≡ true → 0 < prefix_len passes (byte ∷ others)
run_some passes byte others is = rw is (omega arith)

name_continues : (byte : ℕ) → begins_name byte ≡ true → continues_name byte ≡ true
name_continues byte is = rw is refl

number_continues : (byte : ℕ) → is_ascii_digit byte ≡ true → is_decimal_part byte ≡ true
number_continues byte is = rw is refl

-- all bytes of the first run pass
run_passes : (passes : ℕ → Bool) (text : List ℕ) → list_all passes (take (run passes text) text) ≡ true
run_passes passes [] = refl
run_passes passes (byte ∷ others) = by_byte (passes byte) refl (run_passes passes others) where
  by_byte : (pass : Bool) → passes byte ≡ pass → list_all passes (take (run passes others) others) ≡ true → list_all passes (take (cond pass (1 + run passes others) 0) (byte ∷ others)) ≡ true
  by_byte true is each = rw (one_more (run passes others), is) each
  by_byte false is each = refl

name_form : (byte : ℕ) (others : List ℕ) → begins_name byte ≡ true → has_name_form (take (run continues_name (byte ∷ others)) (byte ∷ others)) ≡ true
name_form byte others is = rw (name_continues byte is, one_more (run continues_name others), is) (run_passes continues_name others)

some_from : (n : ℕ) → (n == 0) ≡ false → 0 < n
some_from zero is = absurd (let apart : true ≡ false = is in cc)
some_from (suc n) is = omega arith

module _ (byte : ℕ) (others : List ℕ) where
  word_front : begins_name byte ≡ true → IsFrontOf (byte ∷ others) (word_piece (byte ∷ others))
  word_front is = by_word (is_reserved (take (run continues_name (byte ∷ others)) (byte ∷ others))) refl where
    some : 0 < run continues_name (byte ∷ others)
    some = run_some continues_name byte others (name_continues byte is)

    by_word : (reserved : Bool) → is_reserved (take (run continues_name (byte ∷ others)) (byte ∷ others)) ≡ reserved
        → IsFrontOf (byte ∷ others) (token_of (cond reserved kind.Keyword kind.Identifier) (byte ∷ others) (run continues_name (byte ∷ others)))
    by_word true reserved = first_bytes byte others kind.Keyword (run continues_name (byte ∷ others)) some reserved
    by_word false reserved = first_bytes byte others kind.Identifier (run continues_name (byte ∷ others)) some (name_form byte others is, reserved)

  decimal_front : is_ascii_digit byte ≡ true → IsFrontOf (byte ∷ others) (token_of kind.Decimal (byte ∷ others) (run is_decimal_part (byte ∷ others)))
  decimal_front is = first_bytes byte others kind.Decimal (run is_decimal_part (byte ∷ others)) (run_some is_decimal_part byte others (number_continues byte is)) tt

  quoted_front : IsFrontOf (byte ∷ others) (quoted_piece (byte ∷ others))
  quoted_front = through (byte ∷ others) _ _ (through_quote 0 false others) (λ n. first_bytes byte others kind.Quoted (n + 1) (omega arith) tt) (fault_front _ _ _)

  based_front : (base : Option Base) → IsFrontOf (byte ∷ others) (based_as base (byte ∷ others))
  unfolding based_length digits_at
  based_front None = fault_front (byte ∷ others) _ 0
  based_front (Some base) = first_bytes byte others kind.Based (based_length base (byte ∷ others)) (omega arith) tt

  system_front : IsFrontOf (byte ∷ others) (system_piece (byte ∷ others))
  system_front = either (byte ∷ others) (run continues_name others == 0) _ _ (λ is. fault_front _ _ _) (λ is. first_bytes byte others kind.System (run continues_name others + 1) (omega arith) tt)

  operator_front : IsFrontOf (byte ∷ others) (operator_piece (byte ∷ others))
  operator_front = either (byte ∷ others) (operator_length (byte ∷ others) == 0) _ _ (λ is. fault_front _ _ _) (λ is. first_bytes byte others kind.Operator (operator_length (byte ∷ others)) (some_from (operator_length (byte ∷ others)) is) tt)

  comment_front : (first second : ℕ) → IsFrontOf (byte ∷ others) (comment_piece first second (byte ∷ others))
  comment_front first second = through (byte ∷ others) _ _ _ (λ n. blank_front _ _) (fault_front _ _ _)

  slash_front : IsFrontOf (byte ∷ others) (slash_piece (byte ∷ others))
  slash_front = either (byte ∷ others) (slice_index (byte ∷ others) 1 == 47) _ _ (λ is. blank_front _ (run is_within_line (byte ∷ others))) (λ is. either (byte ∷ others) (slice_index (byte ∷ others) 1 == 42) _ _ (λ is. comment_front 42 47) (λ is. operator_front))

  parenthesis_front : IsFrontOf (byte ∷ others) (parenthesis_piece (byte ∷ others))
  parenthesis_front = either (byte ∷ others) _ _ _ (λ is. comment_front 42 41) (λ is. operator_front)

-- a name is at the front of the text that it is read in
name_begins : (text : List ℕ) → (behind : List ℕ) × (text ≡ name_in text ++ behind)
name_begins text = by_first (begins_name (get_or text 0 0)) where
  by_first : (begins : Bool) → (behind : List ℕ) × (text ≡ cond begins (take (run continues_name text) text) [] ++ behind)
  by_first true = (drop (run continues_name text) text, sym (take-append-drop (run continues_name text) text))
  by_first false = (text, refl)

definition_front : (text : List ℕ) (start : ℕ) (behind : List ℕ) → IsPartOf text behind → IsFrontOf text (define_piece start behind)
definition_front text start behind part =
    let body : List ℕ = take (define_text_length (drop (name_end behind) behind)) (drop (name_end behind) behind) in
    let within : IsPartOf behind body = IsPartOf-trans behind (drop (name_end behind) behind) body (IsPartOf-drop (name_end behind) behind) (IsPartOf-take (define_text_length (drop (name_end behind) behind)) (drop (name_end behind) behind)) in
    either text _ _ _ (λ is. define_front text (name_behind behind) body (start + name_end behind + define_text_length (drop (name_end behind) behind)) (IsPartOf-trans text behind body part within)) (λ is. fault_front _ _ _)

file_front : (text : List ℕ) (before : ℕ) (name : List ℕ) → IsFrontOf text (file_piece before name)
file_front text before name = either text (is_file_name name) _ _ (λ is. inclusion_front _ name _) (λ is. fault_front _ _ _)

include_front : (text : List ℕ) (start : ℕ) (behind : List ℕ) → IsFrontOf text (include_piece start behind)
include_front text start behind =
    either text (slice_index behind (run is_blank behind) == 34) _ _
    (λ is. through text (λ n. file_piece (start + run is_blank behind + 1) (take (n - 1) (drop (run is_blank behind + 1) behind))) _ (through_quote 0 false (drop (run is_blank behind + 1) behind))
    (λ n. file_front text (start + run is_blank behind + 1) (take (n - 1) (drop (run is_blank behind + 1) behind))) (fault_front _ BadByte (start + run is_blank behind)))
    (λ is. fault_front _ UnknownDirective 0)

-- where a name is read, it has the form of one
name_in_form : (text : List ℕ) → (length (name_in text) == 0) ≡ false → has_name_form (name_in text) ≡ true
name_in_form [] some = absurd (let apart : true ≡ false = some in cc)
name_in_form (byte ∷ others) some = by_first (begins_name byte) refl some where
  by_first : (begins : Bool) → begins_name byte ≡ begins → (length (cond begins (take (run continues_name (byte ∷ others)) (byte ∷ others)) []) == 0) ≡ false
      → has_name_form (cond begins (take (run continues_name (byte ∷ others)) (byte ∷ others)) []) ≡ true
  by_first true is some = name_form byte others is
  by_first false is some = absurd (let apart : true ≡ false = some in cc)

-- a directive that is read, by its kind
directive_front : (others : List ℕ) (directive : Directive) (start : ℕ) (behind : List ℕ) → IsPartOf (96 ∷ others) behind → start ≡ length (name_in others) + 1 → has_name_form (name_in others) ≡ true → directive_of (name_in others) ≡ directive →
    IsFrontOf (96 ∷ others) (or_piece (condition_piece directive start behind) (other_piece directive (name_in others) start behind))
unfolding IsFrontOf
directive_front others Define start behind part is named kind_is = definition_front (96 ∷ others) start behind part
directive_front others Undef start behind part is named kind_is = tt
directive_front others Ifdef start behind part is named kind_is = tt
directive_front others Ifndef start behind part is named kind_is = tt
directive_front others Elsif start behind part is named kind_is = tt
directive_front others Else start behind part is named kind_is = tt
directive_front others Endif start behind part is named kind_is = tt
directive_front others Include start behind part is named kind_is = include_front (96 ∷ others) start behind
directive_front others PassedOver start behind part is named kind_is = tt
directive_front others Refused start behind part is named kind_is = tt
directive_front others Use start behind part is named kind_is =
    let begins = name_begins others in
    (record { behind = begins.0; is = ap (λ bytes. 96 ∷ bytes) begins.1; some = omega arith }, is, record { form = named; used = kind_is })

-- a directive of conditions, or another one that is left out
left_out_directive : (text : List ℕ) (directive : Directive) (start : ℕ) (behind : List ℕ) → IsFrontOf text (or_piece (condition_piece directive start behind) (blank 1))
unfolding IsFrontOf
left_out_directive text Define start behind = tt
left_out_directive text Undef start behind = tt
left_out_directive text Ifdef start behind = tt
left_out_directive text Ifndef start behind = tt
left_out_directive text Elsif start behind = tt
left_out_directive text Else start behind = tt
left_out_directive text Endif start behind = tt
left_out_directive text Include start behind = tt
left_out_directive text PassedOver start behind = tt
left_out_directive text Refused start behind = tt
left_out_directive text Use start behind = tt

accent_front : (others : List ℕ) → IsFrontOf (96 ∷ others) (accent_piece (96 ∷ others))
unfolding accent_piece
accent_front others = either (96 ∷ others) (length (name_in others) == 0) _ _ (λ is. fault_front _ BadByte 0) (λ is. directive_front others (directive_of (name_in others)) (length (name_in others) + 1) (drop (length (name_in others) + 1) (96 ∷ others)) (IsPartOf-drop (length (name_in others) + 1) (96 ∷ others)) refl (name_in_form others is) refl)

module _ (byte : ℕ) (others : List ℕ) where
  accent_at : (byte == 96) ≡ true → IsFrontOf (byte ∷ others) (accent_piece (byte ∷ others))
  accent_at is = subst (λ first. IsFrontOf (first ∷ others) (accent_piece (first ∷ others))) (sym (eqb-true byte 96 is)) (accent_front others)

  mark_front : IsFrontOf (byte ∷ others) (mark_piece (byte ∷ others))
  mark_front =
      either (byte ∷ others) (byte == 47) _ _ (λ is. slash_front byte others)
      (λ is. either (byte ∷ others) (byte == 40) _ _ (λ is. parenthesis_front byte others)
      (λ is. either (byte ∷ others) (byte == 34) _ _ (λ is. quoted_front byte others)
      (λ is. either (byte ∷ others) (byte == 96) _ _ (λ is. accent_at is)
      (λ is. either (byte ∷ others) (byte == 39) _ _ (λ is. based_front byte others (base_of (slice_index (byte ∷ others) (letter_at (byte ∷ others)))))
      (λ is. either (byte ∷ others) (byte == 36) _ _ (λ is. system_front byte others) (λ is. operator_front byte others))))))

  read_front : IsFrontOf (byte ∷ others) (read_piece (byte ∷ others))
  unfolding read_piece
  read_front =
      either (byte ∷ others) (is_white byte) _ _ (λ is. blank_front _ (run is_white (byte ∷ others)))
      (λ is. either (byte ∷ others) (begins_name byte) _ _ (λ is. word_front byte others is)
      (λ is. either (byte ∷ others) (is_ascii_digit byte) _ _ (λ is. decimal_front byte others is) (λ is. mark_front)))

  left_out_slash_front : IsFrontOf (byte ∷ others) (left_out_slash (byte ∷ others))
  left_out_slash_front =
      either (byte ∷ others) (slice_index (byte ∷ others) 1 == 47) _ _ (λ is. blank_front _ (run is_within_line (byte ∷ others)))
      (λ is. either (byte ∷ others) (slice_index (byte ∷ others) 1 == 42) _ _ (λ is. comment_front byte others 42 47) (λ is. blank_front _ 1))

  left_out_quote_front : IsFrontOf (byte ∷ others) (left_out_quote (byte ∷ others))
  left_out_quote_front = through (byte ∷ others) _ _ (through_quote 0 false others) (λ n. blank_front _ (n + 1)) (blank_front _ 1)

  left_out_front : IsFrontOf (byte ∷ others) (left_out_piece (byte ∷ others))
  unfolding left_out_piece
  left_out_front =
      let word : List ℕ = directive_word (byte ∷ others) in
      either (byte ∷ others) (byte == 47) _ _ (λ is. left_out_slash_front)
      (λ is. either (byte ∷ others) (byte == 34) _ _ (λ is. left_out_quote_front)
      (λ is. either (byte ∷ others) (byte == 96) _ _ (λ is. left_out_directive (byte ∷ others) (directive_of word) (length word + 1) (drop (length word + 1) (byte ∷ others)))
      (λ is. blank_front _ (run is_plain others + 1))))

  -- the piece at the front shows what is there
  pub piece_front : (in_macro : Bool) (conditions : List Condition) → IsFrontOf (byte ∷ others) (front_piece in_macro conditions (byte ∷ others))
  piece_front in_macro conditions =
      either (byte ∷ others) (in_macro && is_continuation (byte ∷ others)) _ _ (λ is. blank_front _ 2)
      (λ is. either (byte ∷ others) (is_left_out conditions) _ _ (λ is. left_out_front) (λ is. read_front))
