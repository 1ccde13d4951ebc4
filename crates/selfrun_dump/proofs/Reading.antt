-- What is read of each line of the text.
use Rattle.std.proofs.Common.{◌≡◌, ℕ, ◌+◌, ◌-◌, ◌^◌, ◌<◌, ◌≤◌, ◌==◌, ◌&&◌, Bool, true, false, not, nat_le, nat_lt, List, [], ◌∷◌, ◌++◌, length, Option, None, Some, Ok, refl, ap, subst, ◌∙◌, arith, append_assoc, append-nil, length-append, if◌then◌else◌}
use Rattle.std.specs.Fmt.{decimal}
use Rattle.std.specs.List.{list_all}
use Rattle.std.specs.Option.{option_to_list}
use Rattle.std.specs.Prelude.{codes}
use Rattle.std.proofs.lemmas.Bool.{and_from, eqb-true, false_from_ne_true, le-leb, le-ltb, lt-leb, lt-ltb}
use Rattle.four_state.specs.Arithmetic.{low_bits}
use Rattle.four_state.specs.Vector.{bit_of}
use Rattle.cov_host.specs.Decimal.{decimal_value}
use Rattle.vcd_reader.specs.Answer.{Answer, fault_if, unless}
use Rattle.vcd_reader.specs.Body.{Begun, BodyReading, Said, are_digits, begins, change_of, digits, is_back, new_time, next_word, nothing, saying, value_of}
use Rattle.vcd_reader.specs.Codes.{Code, code_of}
use Rattle.vcd_reader.specs.Reading.{Body, after_body_word, body}
use Rattle.vcd_reader.specs.Text.{Stands, after}
use Rattle.vcd_reader.specs.Times.{IsLater}
use Rattle.vcd_reader.specs.Values.{is_digit, value_bits}
use Rattle.vcd_reader.specs.Words.{IsBlack, Word, is_white_space}
use Rattle.vcd_reader.specs.declared.entry.Entry.{Entry}
use Rattle.vcd_reader.specs.declared.entry.Entry.TheVariants.{Time, Value}
use Rattle.vcd_reader.specs.declared.fault.DumpKind.TheVariants.{BadChange, TimeBack, TimeTooLarge, VectorTooLong}
use Rattle.vcd_reader.specs.declared.fault.DumpFault.TheVariants.{At}
use Rattle.vcd_reader.specs.declared.past.Past.{Past}
use Rattle.vcd_reader.proofs.BodyStanding.{after_body}
use Rattle.vcd_reader.proofs.TextLemmas.{stands_behind}
use Rattle.vcd_reader.proofs.WholeWords.{stands_word}
use Rattle.selfrun_files.specs.Text.{bit_digits, bit_line, digit_of, time_line, vector_line}
use Rattle.selfrun_dump.specs.Entries.{variables}
use Rattle.selfrun_dump.proofs.Digits.{all_bits, bits_black, count_bits, time_written, value_digits}

-- the codes of the header
abbrev pub table : List Code
table =
    record { text = codes "c"; number = 0; size = 1; is_read = true } ∷ record { text = codes "w"; number = 1; size = 1; is_read = true }
    ∷ record { text = codes "a"; number = 2; size = 4; is_read = true } ∷ record { text = codes "d"; number = 3; size = 8; is_read = true }
    ∷ record { text = codes "p"; number = 4; size = 8; is_read = true } ∷ record { text = codes "q"; number = 5; size = 8; is_read = true } ∷ []

-- the dump is on, in its only stretch, after this time
abbrev past_after : Option ℕ → Past
past_after last = record { last = last; is_on = true; stretches = 1 }

-- reading goes on after this time, with what has begun
abbrev pub reading_after : Option ℕ → Begun → BodyReading
reading_after last begun = record { past = past_after last; begun = begun }

-- the body that has said this
abbrev pub body_saying : List Entry → Option ℕ → Begun → Body
body_saying items last begun = record { vars = variables; codes = table; items = items; reading = reading_after last begun }

-- the text is whole words, which say this
abbrev pub Reads : List ℕ → List Entry → Option ℕ → Begun → Type 0
Reads text items last begun = Stands text (body (body_saying items last begun)) []

-- what a word says at its time, and what one says that is not a time
abbrev saying_time : ℕ → Answer (Option Entry) → Answer Said
saying_time t says = saying (past_after (Some t)) says

abbrev saying_last : Option ℕ → Answer (Option Entry) → Answer Said
saying_last last says = saying (past_after last) says

-- the change of a code to these digits
abbrev change_to : Option Code → List ℕ → ℕ → ℕ → Answer (Option Entry)
change_to code word first at = change_of code word first at

-- what the digits of a word say, which are some or not
abbrev digits_answer : Option ℕ → Word → Bool → Answer Said
digits_answer last first whole = unless (fault_if (not whole) BadChange first.at) (begins (past_after last) (digits first))

-- how many bytes a text can have
abbrev pub most : ℕ
most = 1099511627776

-- one word more, with white space after it
word_read : (text : List ℕ) (items : List Entry) (last : Option ℕ) (begun : Begun) (byte : ℕ) (bytes : List ℕ) (space : ℕ) (says : Option Entry) (next : Option ℕ) (now_begun : ℕ → Begun)
    → Reads text items last begun → IsBlack (byte ∷ bytes) → is_white_space space ≡ true → length text + length (byte ∷ bytes) + 1 ≤ most
    → ((at : ℕ) → next_word table (reading_after last begun) (record { at = at; bytes = byte ∷ bytes }) ≡ Ok (says, reading_after next (now_begun at)))
    → Reads ((text ++ byte ∷ bytes) ++ space ∷ []) (items ++ option_to_list says) next (now_begun (length (text ++ byte ∷ bytes) - length (byte ∷ bytes)))
word_read text items last begun byte bytes space says next now_begun reads black white room is =
    let word : List ℕ = byte ∷ bytes in
    let b : Body = body_saying items last begun in
    let place : ℕ = length (text ++ word) - length word in
    let on : Stands (text ++ word) (body b) word = stands_word text [] word (body b) reads black (omega (arith, room)) in
    let means : after (body b) (length (text ++ word)) word ≡ body (body_saying (items ++ option_to_list says) next (now_begun place)) = after_body (text ++ word) word b on ∙ ap (after_body_word b) (is place) in
    stands_behind (text ++ word) word (body b) (body (body_saying (items ++ option_to_list says) next (now_begun place))) space on white means (omega (arith, room, length-append text word))

-- ---- a time

-- the time is after the last one, so it is said
time_later : (last : Option ℕ) (t : ℕ) → IsLater last t → (is_back last t ≡ false) × (new_time last t ≡ Some (Time t))
time_later None t later = (refl, refl)
time_later (Some u) t later =
    (le-ltb t u (omega (arith, later)), ap (λ b. if b then None else Some (Time t)) (false_from_ne_true (t == u) (λ e. omega (arith, later, eqb-true t u e))))

time_said : (last : Option ℕ) (t at : ℕ) → IsLater last t → t < 2 ^ 63 → next_word table (reading_after last nothing) (record { at = at; bytes = 35 ∷ decimal t }) ≡ Ok (Some (Time t), reading_after (Some t) nothing)
time_said last t at later below =
    let is = time_written t below in
    let new = time_later last t later in
    let answer = λ (whole : Bool) (value : ℕ) (large back : Bool) (says : Option Entry).
    saying_time value (unless (if not whole then Some (At BadChange at) else if large then Some (At TimeTooLarge at) else fault_if back TimeBack at) says) in
    ap (λ d. answer d (decimal_value (decimal t)) (nat_le (2 ^ 63) (decimal_value (decimal t))) (is_back last (decimal_value (decimal t))) (new_time last (decimal_value (decimal t)))) is.is_decimal
    ∙ ap (λ v. answer true v (nat_le (2 ^ 63) v) (is_back last v) (new_time last v)) is.value
    ∙ ap (λ b. answer true t b (is_back last t) (new_time last t)) (lt-leb (2 ^ 63) t below)
    ∙ ap (λ b. answer true t false b (new_time last t)) new.0
    ∙ ap (λ o. answer true t false false o) new.1

pub time_read : (text : List ℕ) (items : List Entry) (last : Option ℕ) (t : ℕ) → Reads text items last nothing → IsLater last t → t < 2 ^ 63 → length text + 24 ≤ most
    → Reads (text ++ time_line t) (items ++ Time t ∷ []) (Some t) nothing
time_read text items last t reads later below room =
    let is = time_written t below in
    subst (λ x. Reads x (items ++ Time t ∷ []) (Some t) nothing) (append_assoc text (35 ∷ decimal t) (10 ∷ []))
    (word_read text items last nothing 35 (decimal t) 10 (Some (Time t)) (Some t) (λ at. nothing) reads is.black refl (omega (arith, room, is.short)) (λ at. time_said last t at later below))

-- ---- a bit

bit_said : (last : Option ℕ) (code number : ℕ) (b : Bool) (at : ℕ) → code_of table (code ∷ []) ≡ Some (record { text = code ∷ []; number = number; size = 1; is_read = true })
    → next_word table (reading_after last nothing) (record { at = at; bytes = digit_of b ∷ code ∷ [] }) ≡ Ok (Some (Value number (record { bits = bit_of b ∷ []; signed = false })), reading_after last nothing)
bit_said last code number true at known = ap (λ c. saying_last last (change_to c (49 ∷ []) at at)) known
bit_said last code number false at known = ap (λ c. saying_last last (change_to c (48 ∷ []) at at)) known

pub bit_read : (text : List ℕ) (items : List Entry) (last : Option ℕ) (code number : ℕ) (b : Bool) → Reads text items last nothing → length text + 24 ≤ most
    → code_of table (code ∷ []) ≡ Some (record { text = code ∷ []; number = number; size = 1; is_read = true }) → is_white_space code ≡ false
    → Reads (text ++ bit_line code b) (items ++ Value number (record { bits = bit_of b ∷ []; signed = false }) ∷ []) last nothing
bit_read text items last code number b reads room known black =
    subst (λ x. Reads x (items ++ Value number (record { bits = bit_of b ∷ []; signed = false }) ∷ []) last nothing) (append_assoc text (digit_of b ∷ code ∷ []) (10 ∷ []))
    (word_read text items last nothing (digit_of b) (code ∷ []) 10 (Some (Value number (record { bits = bit_of b ∷ []; signed = false }))) last (λ at. nothing) reads (blacks b) refl (omega (arith, room)) (λ at. bit_said last code number b at known))
  where
    blacks : (x : Bool) → IsBlack (digit_of x ∷ code ∷ [])
    blacks true = ap (λ y. not y && true) black
    blacks false = ap (λ y. not y && true) black

-- ---- several bits

digits_said : (last : Option ℕ) (n value at : ℕ) → 0 < n
    → next_word table (reading_after last nothing) (record { at = at; bytes = 98 ∷ bit_digits n value }) ≡ Ok (None, reading_after last (digits (record { at = at; bytes = 98 ∷ bit_digits n value })))
digits_said last n value at some =
    let are : are_digits (bit_digits n value) ≡ true =
    and_from (nat_lt 0 (length (bit_digits n value))) (list_all is_digit (bit_digits n value)) (lt-ltb 0 (length (bit_digits n value)) (omega (arith, some, count_bits n value))) (all_bits n value) in
    ap (digits_answer last (record { at = at; bytes = 98 ∷ bit_digits n value })) are

vector_said : (last : Option ℕ) (code number n value first at : ℕ) → n ≤ 128 → code_of table (code ∷ []) ≡ Some (record { text = code ∷ []; number = number; size = n; is_read = true })
    → next_word table (reading_after last (digits (record { at = first; bytes = 98 ∷ bit_digits n value }))) (record { at = at; bytes = code ∷ [] })
    ≡ Ok (Some (Value number (record { bits = low_bits n value; signed = false })), reading_after last nothing)
vector_said last code number n value first at within known =
    let short : nat_lt n (length (bit_digits n value)) ≡ false = le-ltb n (length (bit_digits n value)) (omega (arith, count_bits n value)) in
    let narrow : nat_le n 128 ≡ true = le-leb n 128 within in
    ap (λ c. saying_last last (change_to c (bit_digits n value) first at)) known
    ∙ ap (λ b. saying_last last (unless (fault_if b VectorTooLong first) (value_of true number n (bit_digits n value)))) short
    ∙ ap (λ b. saying_last last (Ok (if b then Some (Value number (record { bits = value_bits n (bit_digits n value); signed = false })) else None))) narrow
    ∙ ap (λ bs. saying_last last (Ok (Some (Value number (record { bits = bs; signed = false }))))) (value_digits n value)

pub vector_read : (text : List ℕ) (items : List Entry) (last : Option ℕ) (code number n value : ℕ) → Reads text items last nothing → length text + 24 ≤ most → 0 < n → n ≤ 8
    → code_of table (code ∷ []) ≡ Some (record { text = code ∷ []; number = number; size = n; is_read = true }) → is_white_space code ≡ false
    → Reads (text ++ vector_line code n value) (items ++ Value number (record { bits = low_bits n value; signed = false }) ∷ []) last nothing
vector_read text items last code number n value reads room some few known black =
    let first : List ℕ = 98 ∷ bit_digits n value in
    let entry : Entry = Value number (record { bits = low_bits n value; signed = false }) in
    let place : ℕ = length (text ++ first) - length first in
    let begun : Reads ((text ++ first) ++ 32 ∷ []) (items ++ []) last (digits (record { at = place; bytes = first })) =
    word_read text items last nothing 98 (bit_digits n value) 32 None last (λ at. digits (record { at = at; bytes = first })) reads (bits_black n value) refl (omega (arith, room, few, count_bits n value)) (λ at. digits_said last n value at some) in
    let long : length ((text ++ first) ++ 32 ∷ []) ≡ length text + (n + 2) = omega (arith, length-append (text ++ first) (32 ∷ []), length-append text first, count_bits n value) in
    let ends : Reads ((((text ++ first) ++ 32 ∷ []) ++ code ∷ []) ++ 10 ∷ []) ((items ++ []) ++ entry ∷ []) last nothing =
    word_read ((text ++ first) ++ 32 ∷ []) (items ++ []) last (digits (record { at = place; bytes = first })) code [] 10 (Some entry) last (λ at. nothing) begun (ap (λ y. not y && true) black) refl
    (omega (arith, room, few, long)) (λ at. vector_said last code number n value place at (omega (arith, few)) known) in
    let bytes : (((text ++ first) ++ 32 ∷ []) ++ code ∷ []) ++ 10 ∷ [] ≡ text ++ vector_line code n value =
    append_assoc ((text ++ first) ++ 32 ∷ []) (code ∷ []) (10 ∷ []) ∙ append_assoc (text ++ first) (32 ∷ []) (code ∷ 10 ∷ []) ∙ append_assoc text first (32 ∷ code ∷ 10 ∷ []) in
    subst (λ x. Reads x (items ++ entry ∷ []) last nothing) bytes (subst (λ es. Reads ((((text ++ first) ++ 32 ∷ []) ++ code ∷ []) ++ 10 ∷ []) (es ++ entry ∷ []) last nothing) (append-nil items) ends)
