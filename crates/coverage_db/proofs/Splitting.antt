-- Bytes that are split, and the fields of a line.
use Rattle.std.proofs.Common.{◌≡◌, ◌≢◌, ◌==◌, ℕ, suc, ◌+◌, ◌<◌, Bool, true, false, not, cond, eqb, List, [], ◌∷◌, ◌++◌, length, take, drop, drop-drop, get_or, Option, Some, None, refl, sym, ap, ◌∙◌, append_assoc, inl, inr, arith}
use Rattle.std.specs.Prelude.{option_map, MatchOption, ◌&&◌}
use Rattle.std.specs.Borrow.{Bor}
use Rattle.std.specs.List.{prefix_len, slice_split, onto_first, list_all, join_with_byte, AllByRecursion}
use Rattle.std.specs.Cmp.Lexicographic.{pointwise}
use Rattle.std.proofs.lemmas.Bool.{cases_Bool}
use Rattle.std.proofs.lemmas.Option.{some_pair_parts}
use Rattle.std.proofs.lemmas.List.{nil_from_length, append-nil, take_more, at_drop_more, length-append}
use Rattle.std.proofs.lemmas.Bool.Decides.{nat_tests}
use Rattle.std.proofs.lemmas.List.Splits.{join_with_byte-slice_split}
use Rattle.std.specs.Option.{is_some}
use Rattle.coverage_db.specs.Views.{fields_left}
use Rattle.coverage_db.specs.Fields.{split_first, split_last, or_here, behind, fields_of, field_at, end_at}

-- no byte has the value
abbrev pub lacks : ℕ → List ℕ → Bool
lacks value bytes = list_all (λ byte. not (byte == value)) bytes

abbrev pub len_before : ℕ → List ℕ → ℕ
len_before value bytes = prefix_len (λ byte. not (byte == value)) bytes

drop_one_more : (n byte : ℕ) (bytes : List ℕ) → drop (1 + n) (byte ∷ bytes) ≡ drop n bytes
drop_one_more n byte bytes = let one : 1 + n ≡ suc n = omega arith in rw one refl

take_one_more : (n byte : ℕ) (bytes : List ℕ) → take (1 + n) (byte ∷ bytes) ≡ byte ∷ take n bytes
take_one_more n byte bytes = let one : 1 + n ≡ suc n = omega arith in rw one refl

len_more : (value byte : ℕ) (bytes : List ℕ) → eqb byte value ≡ false → len_before value (byte ∷ bytes) ≡ 1 + len_before value bytes
len_more value byte bytes other = rw other refl

-- ---- the first byte of a value

pub split_none : (value : ℕ) (bytes : List ℕ) → drop (len_before value bytes) bytes ≡ [] → split_first value bytes ≡ None
split_none value [] e = refl
split_none value (byte ∷ bytes) e =
    elim (cases_Bool (eqb byte value)) [
      | inl here ↦ absurd (let some : byte ∷ bytes ≡ [] = rw here at e in cc)
      | inr other ↦
          let rest : drop (len_before value bytes) bytes ≡ [] = sym (ap (λ n. drop n (byte ∷ bytes)) (len_more value byte bytes other) ∙ drop_one_more (len_before value bytes) byte bytes) ∙ e in
          rw (other, split_none value bytes rest) refl
    ]

pub split_some : (value : ℕ) (bytes : List ℕ) (here : ℕ) (back : List ℕ) → drop (len_before value bytes) bytes ≡ here ∷ back → split_first value bytes ≡ Some (take (len_before value bytes) bytes, back)
split_some value [] here back e = absurd cc
split_some value (byte ∷ bytes) here back e =
    elim (cases_Bool (eqb byte value)) [
      | inl is ↦ let whole : byte ∷ bytes ≡ here ∷ back = rw is at e in let same : bytes ≡ back = cc in rw (is, same) refl
      | inr other ↦
          let rest : drop (len_before value bytes) bytes ≡ here ∷ back = sym (ap (λ n. drop n (byte ∷ bytes)) (len_more value byte bytes other) ∙ drop_one_more (len_before value bytes) byte bytes) ∙ e in
          let front : take (len_before value (byte ∷ bytes)) (byte ∷ bytes) ≡ byte ∷ take (len_before value bytes) bytes = ap (λ n. take n (byte ∷ bytes)) (len_more value byte bytes other) ∙ take_one_more (len_before value bytes) byte bytes in
          rw front (rw (other, split_some value bytes here back rest) refl)
    ]

found_by : (value : ℕ) (bytes rest : List ℕ) → drop (len_before value bytes) bytes ≡ rest → 0 < length rest → split_first value bytes ≡ Some (take (len_before value bytes) bytes, drop 1 rest)
found_by value bytes [] e some = absurd (omega arith)
found_by value bytes (here ∷ back) e some = split_some value bytes here back e

pub split_found : (value : ℕ) (bytes front rest : List ℕ) (n : ℕ) → n ≡ len_before value bytes → front ≡ take n bytes → rest ≡ drop n bytes → 0 < length rest → split_first value bytes ≡ Some (front, drop 1 rest)
split_found value bytes front rest n n-is front-is rest-is some =
    let found = found_by value bytes rest (ap (λ k. drop k bytes) (sym n-is) ∙ sym rest-is) some in
    rw (front-is, n-is) found

pub split_lost : (value : ℕ) (bytes rest : List ℕ) (n : ℕ) → n ≡ len_before value bytes → rest ≡ drop n bytes → length rest ≡ 0 → split_first value bytes ≡ None
split_lost value bytes rest n n-is rest-is none = split_none value bytes (ap (λ k. drop k bytes) (sym n-is) ∙ sym rest-is ∙ nil_from_length rest none)

-- where the front lacks the value, it ends at the value
pub split_again : (value : ℕ) (front back : List ℕ) → lacks value front ≡ true → split_first value (front ++ value ∷ back) ≡ Some (front, back)
split_again value [] back free = let is : eqb value value ≡ true = grind (arith, nat_tests) in rw is refl
split_again value (byte ∷ front) back free =
    elim (cases_Bool (eqb byte value)) [
      | inl is ↦ absurd (let bad : false ≡ true = rw is at free in cc)
      | inr other ↦ rw (other, split_again value front back (rw other at free)) refl
    ]

pub split_lacking : (value : ℕ) (bytes : List ℕ) → lacks value bytes ≡ true → split_first value bytes ≡ None
split_lacking value [] free = refl
split_lacking value (byte ∷ bytes) free =
    elim (cases_Bool (eqb byte value)) [
      | inl is ↦ absurd (let bad : false ≡ true = rw is at free in cc)
      | inr other ↦ rw (other, split_lacking value bytes (rw other at free)) refl
    ]

-- the parts of what was split
pub record Parts (value : ℕ) (bytes front back : List ℕ) : Type 0 where
  pub whole : bytes ≡ front ++ value ∷ back
  pub lacking : lacks value front ≡ true

parts_later : (value byte : ℕ) (bytes : List ℕ) (rest : Option (List ℕ × List ℕ)) (front back : List ℕ) → eqb byte value ≡ false → ((f k : List ℕ) → rest ≡ Some (f, k) → Parts value bytes f k)
    → option_map {U = List ℕ × List ℕ} (λ (p : List ℕ × List ℕ). (byte ∷ p.0, p.1)) rest ≡ Some (front, back) → Parts value (byte ∷ bytes) front back
parts_later value byte bytes None front back other more e = absurd cc
parts_later value byte bytes (Some p) front back other more e =
    let m = more p.0 p.1 refl in
    let parts = some_pair_parts (byte ∷ p.0) front p.1 back e in
    rw (← parts.0, ← parts.1) (record { whole = ap (λ bs. byte ∷ bs) m.whole; lacking = rw (other, m.lacking) refl })

pub split_takes : (value : ℕ) (bytes front back : List ℕ) → split_first value bytes ≡ Some (front, back) → Parts value bytes front back
split_takes value [] front back e = absurd cc
split_takes value (byte ∷ bytes) front back e =
    elim (cases_Bool (eqb byte value)) [
      | inl is ↦
          let same : ◌≡◌ {A = Option (List ℕ × List ℕ)} (Some ([], bytes)) (Some (front, back)) = rw is at e in
          let parts = some_pair_parts [] front bytes back same in
          let here : byte ≡ value = grind (arith, nat_tests) in
          rw (← parts.0, ← parts.1, here) (record { whole = refl; lacking = refl })
      | inr other ↦ parts_later value byte bytes (split_first value bytes) front back other (λ f k h. split_takes value bytes f k h) (rw other at e)
    ]

lacks_later : (value byte : ℕ) (bytes : List ℕ) (rest : Option (List ℕ × List ℕ)) → eqb byte value ≡ false → (rest ≡ None → lacks value bytes ≡ true)
    → option_map {U = List ℕ × List ℕ} (λ (p : List ℕ × List ℕ). (byte ∷ p.0, p.1)) rest ≡ None → lacks value (byte ∷ bytes) ≡ true
lacks_later value byte bytes None other more e = rw (other, more refl) refl
lacks_later value byte bytes (Some p) other more e = absurd cc

pub split_refuses : (value : ℕ) (bytes : List ℕ) → split_first value bytes ≡ None → lacks value bytes ≡ true
split_refuses value [] e = refl
split_refuses value (byte ∷ bytes) e =
    elim (cases_Bool (eqb byte value)) [
      | inl is ↦ absurd (let same : ◌≡◌ {A = Option (List ℕ × List ℕ)} (Some ([], bytes)) None = rw is at e in cc)
      | inr other ↦ lacks_later value byte bytes (split_first value bytes) other (λ h. split_refuses value bytes h) (rw other at e)
    ]

-- ---- the last byte of a value

pub last_none : (value : ℕ) (bytes : List ℕ) → lacks value bytes ≡ true → split_last value bytes ≡ None
last_none value [] free = refl
last_none value (byte ∷ bytes) free =
    elim (cases_Bool (eqb byte value)) [
      | inl is ↦ absurd (let bad : false ≡ true = rw is at free in cc)
      | inr other ↦ rw (last_none value bytes (rw other at free), other) refl
    ]

pub last_again : (value : ℕ) (front back : List ℕ) → lacks value back ≡ true → split_last value (front ++ value ∷ back) ≡ Some (front, back)
last_again value [] back free = let is : eqb value value ≡ true = grind (arith, nat_tests) in rw (last_none value back free, is) refl
last_again value (byte ∷ front) back free = rw (last_again value front back free) refl

here_takes : (value byte : ℕ) (bytes : List ℕ) (rest : Option (List ℕ × List ℕ)) (front back : List ℕ) → ((f k : List ℕ) → rest ≡ Some (f, k) → bytes ≡ f ++ value ∷ k)
    → or_here value byte bytes rest ≡ Some (front, back) → byte ∷ bytes ≡ front ++ value ∷ back
here_takes value byte bytes None front back more e =
    elim (cases_Bool (eqb byte value)) [
      | inl is ↦
          let same : ◌≡◌ {A = Option (List ℕ × List ℕ)} (Some ([], bytes)) (Some (front, back)) = rw is at e in
          let parts = some_pair_parts [] front bytes back same in
          let here : byte ≡ value = grind (arith, nat_tests) in
          rw (← parts.0, ← parts.1, here) refl
      | inr other ↦ absurd (let none : ◌≡◌ {A = Option (List ℕ × List ℕ)} None (Some (front, back)) = rw other at e in cc)
    ]
here_takes value byte bytes (Some p) front back more e =
    let m = more p.0 p.1 refl in
    let parts = some_pair_parts (byte ∷ p.0) front p.1 back e in
    rw (← parts.0, ← parts.1) (ap (λ bs. byte ∷ bs) m)

pub last_takes : (value : ℕ) (bytes front back : List ℕ) → split_last value bytes ≡ Some (front, back) → bytes ≡ front ++ value ∷ back
last_takes value [] front back e = absurd cc
last_takes value (byte ∷ bytes) front back e = here_takes value byte bytes (split_last value bytes) front back (λ f k h. last_takes value bytes f k h) e

-- what the last byte of the value leaves, where these bytes are before the rest, and this is what it leaves of them
abbrev pub or_before : List ℕ → Option (List ℕ × List ℕ) → Option (List ℕ × List ℕ) → Option (List ℕ × List ℕ)
or_before front before None = before
or_before front before (Some parts) = Some (front ++ parts.0, parts.1)

pub before_none : (rest : Option (List ℕ × List ℕ)) → or_before [] None rest ≡ rest
before_none None = refl
before_none (Some parts) = refl

before_one : (value : ℕ) (front : List ℕ) (byte : ℕ) (bytes : List ℕ) (before after rest : Option (List ℕ × List ℕ)) → after ≡ cond (eqb byte value) (Some (front, bytes)) before
    → or_before (front ++ byte ∷ []) after rest ≡ or_before front before (or_here value byte bytes rest)
before_one value front byte bytes before after None e = elim (cases_Bool (eqb byte value)) [ inl is ↦ rw (e, is, append-nil) refl | inr other ↦ rw (e, other) refl ]
before_one value front byte bytes before after (Some parts) e = ap (λ (f : List ℕ). Some (f, parts.1)) (append_assoc front (byte ∷ []) parts.0)

pub before_more : (value : ℕ) (bytes : List ℕ) (i d : ℕ) (before after : Option (List ℕ × List ℕ)) → i < length bytes → after ≡ cond (eqb (get_or bytes i d) value) (Some (take i bytes, drop (i + 1) bytes)) before
    → or_before (take (i + 1) bytes) after (split_last value (drop (i + 1) bytes)) ≡ or_before (take i bytes) before (split_last value (drop i bytes))
before_more value bytes i d before after within e =
    rw (take_more bytes i d within) (before_one value (take i bytes) (get_or bytes i d) (drop (i + 1) bytes) before after (split_last value (drop (i + 1) bytes)) e
    ∙ sym (at_drop_more (λ bs. or_before (take i bytes) before (split_last value bs)) bytes i d within))

pub after_here : (value : ℕ) (bytes : List ℕ) (i byte : ℕ) (before : Option (List ℕ × List ℕ)) (front rest back : List ℕ) → byte ≡ value → front ≡ take i bytes → rest ≡ drop i bytes → back ≡ drop 1 rest
    → Some (front, back) ≡ cond (eqb byte value) (Some (take i bytes, drop (i + 1) bytes)) before
after_here value bytes i byte before front rest back is a b c =
    let here : eqb byte value ≡ true = grind (arith, nat_tests) in
    let behind-is : drop 1 (drop i bytes) ≡ drop (i + 1) bytes = drop-drop 1 i bytes in
    rw (here, a, c, b, behind-is) refl

pub after_other : (value byte : ℕ) (here before : Option (List ℕ × List ℕ)) → byte ≢ value → before ≡ cond (eqb byte value) here before
after_other value byte here before other = let there : eqb byte value ≡ false = grind (arith, nat_tests) in rw there refl

-- ---- a front

pub behind_again : (front back : List ℕ) → behind front (front ++ back) ≡ Some back
behind_again [] back = refl
behind_again (byte ∷ front) back = let same : eqb byte byte ≡ true = grind (arith, nat_tests) in rw (same, behind_again front back) refl

pub behind_takes : (front text back : List ℕ) → behind front text ≡ Some back → text ≡ front ++ back
behind_takes [] text back e = cc
behind_takes (byte ∷ front) [] back e = absurd cc
behind_takes (byte ∷ front) (first ∷ text) back e =
    elim (cases_Bool (eqb first byte)) [
      | inl is ↦ let same : first ≡ byte = grind (arith, nat_tests) in rw (same, behind_takes front text back (rw is at e)) refl
      | inr other ↦ absurd (let none : ◌≡◌ {A = Option (List ℕ)} None (Some back) = rw other at e in cc)
    ]

pub behind_some : (front text : List ℕ) → pointwise eqb (take (length front) text) front ≡ true → behind front text ≡ Some (drop (length front) text)
behind_some [] text e = refl
behind_some (byte ∷ front) [] e = absurd cc
behind_some (byte ∷ front) (first ∷ text) e =
    elim (cases_Bool (eqb first byte)) [
      | inl is ↦ rw (is, behind_some front text (rw is at e)) refl
      | inr other ↦ absurd (let bad : false ≡ true = rw other at e in cc)
    ]

pub behind_none : (front text : List ℕ) → pointwise eqb (take (length front) text) front ≡ false → behind front text ≡ None
behind_none [] text e = absurd (let empty : take 0 text ≡ [] = refl in cc)
behind_none (byte ∷ front) [] e = refl
behind_none (byte ∷ front) (first ∷ text) e =
    elim (cases_Bool (eqb first byte)) [
      | inl is ↦ rw (is, behind_none front text (rw is at e)) refl
      | inr other ↦ rw other refl
    ]

pub stripped : (front bytes : List ℕ) (o : Option (Bor (List ℕ))) → MatchOption o (pointwise eqb (take (length front) bytes) front ≡ false) (λ x. (pointwise eqb (take (length front) bytes) front ≡ true) × (x.now ≡ drop (length front) bytes) × (length x.now + length front ≡ length bytes))
    → option_map {U = List ℕ} (λ (x : Bor (List ℕ)). x.now) o ≡ behind front bytes
stripped front bytes None e = sym (behind_none front bytes e)
stripped front bytes (Some x) e = rw e.1 (sym (behind_some front bytes e.0))

-- ---- the fields of a line

pub pieces_one : (value : ℕ) (piece : List ℕ) → lacks value piece ≡ true → slice_split (λ byte. byte == value) piece ≡ piece ∷ []
pieces_one value [] free = refl
pieces_one value (byte ∷ piece) free =
    elim (cases_Bool (eqb byte value)) [
      | inl is ↦ absurd (let bad : false ≡ true = rw is at free in cc)
      | inr other ↦ rw (other, pieces_one value piece (rw other at free)) refl
    ]

pub pieces_more : (value : ℕ) (piece others : List ℕ) → lacks value piece ≡ true → slice_split (λ byte. byte == value) (piece ++ value ∷ others) ≡ piece ∷ slice_split (λ byte. byte == value) others
pieces_more value [] others free = let is : eqb value value ≡ true = grind (arith, nat_tests) in rw is refl
pieces_more value (byte ∷ piece) others free =
    elim (cases_Bool (eqb byte value)) [
      | inl is ↦ absurd (let bad : false ≡ true = rw is at free in cc)
      | inr other ↦ rw (other, pieces_more value piece others (rw other at free)) refl
    ]

-- the pieces of what was split
pub pieces_split : (value : ℕ) (bytes front back : List ℕ) → split_first value bytes ≡ Some (front, back) → slice_split (λ byte. byte == value) bytes ≡ front ∷ slice_split (λ byte. byte == value) back
pieces_split value bytes front back e = let p = split_takes value bytes front back e in ap (slice_split (λ byte. byte == value)) p.whole ∙ pieces_more value front back p.lacking

pub pieces_whole : (value : ℕ) (bytes : List ℕ) → split_first value bytes ≡ None → slice_split (λ byte. byte == value) bytes ≡ bytes ∷ []
pieces_whole value bytes e = pieces_one value bytes (split_refuses value bytes e)

pub fields_one : (field : List ℕ) → lacks 32 field ≡ true → fields_of field ≡ field ∷ []
fields_one field free = pieces_one 32 field free

pub fields_more : (field others : List ℕ) → lacks 32 field ≡ true → fields_of (field ++ 32 ∷ others) ≡ field ∷ fields_of others
fields_more field others free = pieces_more 32 field others free

-- what is left is shorter
pub split_shorter : (value : ℕ) (bytes front back : List ℕ) → split_first value bytes ≡ Some (front, back) → length back < length bytes
split_shorter value bytes front back e = let p = split_takes value bytes front back e in rw p.whole (simp length-append (omega arith))

pub fields_joined : (line : List ℕ) → join_with_byte 32 (fields_of line) ≡ line
fields_joined line = join_with_byte-slice_split 32 line

pub first_field : (rest field others : List ℕ) → split_first 32 rest ≡ Some (field, others) → field_at (fields_of rest) ≡ Some (field, fields_of others)
first_field rest field others e = let p = split_takes 32 rest field others e in rw (p.whole, fields_more field others p.lacking) refl

pub last_field : (rest : List ℕ) → split_first 32 rest ≡ None → field_at (fields_of rest) ≡ Some (rest, [])
last_field rest e = rw (fields_one rest (split_refuses 32 rest e)) refl

end_onto : (byte : ℕ) (fields : List (List ℕ)) → end_at (onto_first byte fields) ≡ None
end_onto byte [] = refl
end_onto byte (field ∷ fields) = refl

pub end_some : (rest : List ℕ) → end_at (fields_of rest) ≡ None
end_some [] = refl
end_some (byte ∷ rest) = elim (cases_Bool (eqb byte 32)) [ inl is ↦ rw is refl | inr other ↦ rw other (end_onto byte (fields_of rest)) ]

pub end_of_none : (rest : Option (Bor (List ℕ))) (left : List (List ℕ)) → fields_left rest ≡ left → is_some rest ≡ false → end_at left ≡ Some (tt, left)
end_of_none None left e is = rw (← e) refl
end_of_none (Some r) left e is = absurd cc

pub end_of_some : (rest : Option (Bor (List ℕ))) (left : List (List ℕ)) → fields_left rest ≡ left → is_some rest ≡ true → end_at left ≡ None
end_of_some None left e is = absurd cc
end_of_some (Some r) left e is = ap end_at (sym e) ∙ end_some r.now

-- ---- a test of all pieces

and_true : (b : Bool) → (b && true) ≡ b
and_true true = refl
and_true false = refl

pub all_first : (test : List ℕ → Bool) (value : ℕ) (bytes front back : List ℕ) → split_first value bytes ≡ Some (front, back) → test front ≡ true
    → list_all test (slice_split (λ byte. byte == value) bytes) ≡ list_all test (slice_split (λ byte. byte == value) back)
all_first test value bytes front back e passes = ap (list_all test) (pieces_split value bytes front back e) ∙ ap (λ (b : Bool). b && list_all test (slice_split (λ byte. byte == value) back)) passes

pub all_fails : (test : List ℕ → Bool) (value : ℕ) (bytes front back : List ℕ) → split_first value bytes ≡ Some (front, back) → test front ≡ false → list_all test (slice_split (λ byte. byte == value) bytes) ≡ false
all_fails test value bytes front back e fails = ap (list_all test) (pieces_split value bytes front back e) ∙ ap (λ (b : Bool). b && list_all test (slice_split (λ byte. byte == value) back)) fails

pub all_only : (test : List ℕ → Bool) (value : ℕ) (bytes : List ℕ) → split_first value bytes ≡ None → list_all test (slice_split (λ byte. byte == value) bytes) ≡ test bytes
all_only test value bytes e = ap (list_all test) (pieces_whole value bytes e) ∙ and_true (test bytes)

-- ---- the pieces themselves

onto_lacks : (value byte : ℕ) (pieces : List (List ℕ)) → eqb byte value ≡ false → AllByRecursion (λ piece. lacks value piece ≡ true) pieces → AllByRecursion (λ piece. lacks value piece ≡ true) (onto_first byte pieces)
onto_lacks value byte [] other each = (rw other refl, tt)
onto_lacks value byte (piece ∷ pieces) other each = (rw (other, each.0) refl, each.1)

-- no piece has the value
pub pieces_lack : (value : ℕ) (bytes : List ℕ) → AllByRecursion (λ piece. lacks value piece ≡ true) (slice_split (λ byte. byte == value) bytes)
pieces_lack value [] = (refl, tt)
pieces_lack value (byte ∷ bytes) =
    elim (cases_Bool (eqb byte value)) [
      | inl is ↦ rw is (refl, pieces_lack value bytes)
      | inr other ↦ rw other (onto_lacks value byte (slice_split (λ b. b == value) bytes) other (pieces_lack value bytes))
    ]
