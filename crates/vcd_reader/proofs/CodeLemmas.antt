-- Where codes are in a list, also after one was put in.
use Rattle.std.proofs.Common.{◌≡◌, ◌∙◌, ap, refl, inl, inr, ℕ, suc, ◌<◌, Bool, true, false, arith, List, [], ◌∷◌, ◌++◌, length, if◌then◌else◌, cond, bytes_eq, Option, Some, None, slice_index_or, slice_set}
use Rattle.std.proofs.lemmas.Bool.{cases_Bool}
use Rattle.std.proofs.lemmas.Slice.Eq.{bytes_eq-Decides}
use Rattle.std.specs.Prelude.{option_map}
use Rattle.std.specs.Global.{Vec}
use Rattle.vcd_reader.specs.Codes.{Code, code_of, entered}
use Rattle.vcd_reader.specs.CodeViews.{codes_in, with_text, without_text}
use Rattle.vcd_reader.specs.Places.{place_of}
use Rattle.vcd_reader.specs.declared.codes.Code.{Code as CodeRow}

-- what is there is itself
some_is : (a b : ℕ) → Some a ≡ Some b → a ≡ b
some_is a b e = cc

-- where a code is after another
behind : (place : Option ℕ) → option_map suc place ≡ None → place ≡ None
behind None e = refl
behind (Some place) e = cc

pub record StandsBehind (found : Option ℕ) (place : ℕ) : Type 0 where
  pub earlier : ℕ
  pub found_is : found ≡ Some earlier
  pub place_is : place ≡ suc earlier

stands_behind : (found : Option ℕ) (place : ℕ) → option_map suc found ≡ Some place → StandsBehind found place
stands_behind None place e = cc
stands_behind (Some earlier) place e = record { earlier = earlier; found_is = refl; place_is = cc }

-- a code without a place is not there
pub code_of-none : (codes : List Code) (text : List ℕ) → place_of codes text ≡ None → code_of codes text ≡ None
code_of-none [] text none = refl
code_of-none (code ∷ codes) text none =
    elim (cases_Bool (bytes_eq text code.text)) [
      | inl same ↦ let there = rw same at none in cc
      | inr other ↦ rw other (code_of-none codes text (behind (place_of codes text) (rw other at none)))
    ]

-- the code at a place
pub code_of-at : (texts : List (Vec ℕ)) (codes : List CodeRow) (text : List ℕ) (place : ℕ) (d : CodeRow) → place_of (codes_in texts codes) text ≡ Some place
    → option_map without_text (code_of (codes_in texts codes) text) ≡ Some (slice_index_or codes place d)
code_of-at [] codes text place d is = cc
code_of-at (first ∷ texts) [] text place d is = cc
code_of-at (first ∷ texts) (code ∷ codes) text place d is =
    elim (cases_Bool (bytes_eq text first.items)) [
      | inl same ↦ let zero : 0 ≡ place = some_is _ _ (rw same at is) in rw same (rw (← zero) refl)
      | inr other ↦
          let b : StandsBehind (place_of (codes_in texts codes) text) place = stands_behind _ _ (rw other at is) in
          rw other (rw b.place_is (code_of-at texts codes text b.earlier d b.found_is))
    ]

-- a place lies within the codes
pub place_of-within : (texts : List (Vec ℕ)) (codes : List CodeRow) (text : List ℕ) (place : ℕ) → place_of (codes_in texts codes) text ≡ Some place → place < length codes
place_of-within [] codes text place is = cc
place_of-within (first ∷ texts) [] text place is = cc
place_of-within (first ∷ texts) (code ∷ codes) text place is =
    elim (cases_Bool (bytes_eq text first.items)) [
      | inl same ↦ let zero : 0 ≡ place = some_is _ _ (rw same at is) in omega arith
      | inr other ↦
          let b : StandsBehind (place_of (codes_in texts codes) text) place = stands_behind _ _ (rw other at is) in
          let within : b.earlier < length codes = place_of-within texts codes text b.earlier b.found_is in
          rw b.place_is (omega arith)
    ]

-- a new code comes last
pub entered-new : (codes : List Code) (new : Code) → place_of codes new.text ≡ None → entered codes new ≡ codes ++ new ∷ []
entered-new [] new none = refl
entered-new (code ∷ codes) new none =
    elim (cases_Bool (bytes_eq new.text code.text)) [
      | inl same ↦ let there = rw same at none in cc
      | inr other ↦ rw other (ap (λ (others : List Code). code ∷ others) (entered-new codes new (behind (place_of codes new.text) (rw other at none))))
    ]

-- a known code takes the place of that of the same bytes
pub entered-at : (texts : List (Vec ℕ)) (codes : List CodeRow) (text : List ℕ) (new : CodeRow) (place : ℕ) → place_of (codes_in texts codes) text ≡ Some place
    → codes_in texts (slice_set codes place new) ≡ entered (codes_in texts codes) (with_text text new)
entered-at [] codes text new place is = cc
entered-at (first ∷ texts) [] text new place is = cc
entered-at (first ∷ texts) (code ∷ codes) text new place is =
    elim (cases_Bool (bytes_eq text first.items)) [
      | inl same ↦ let zero : 0 ≡ place = some_is _ _ (rw same at is) in rw same (rw (← zero) refl)
      | inr other ↦
          let b : StandsBehind (place_of (codes_in texts codes) text) place = stands_behind _ _ (rw other at is) in
          rw other (rw b.place_is (ap (λ (others : List Code). with_text first.items code ∷ others) (entered-at texts codes text new b.earlier b.found_is)))
    ]

-- a known code leaves all places
pub place_of-entered : (codes : List Code) (new : Code) (place : ℕ) → place_of codes new.text ≡ Some place → (text : List ℕ) → place_of (entered codes new) text ≡ place_of codes text
place_of-entered [] new place is text = cc
place_of-entered (code ∷ codes) new place is text =
    elim (cases_Bool (bytes_eq new.text code.text)) [
      | inl same ↦ rw same refl
      | inr other ↦
          let b : StandsBehind (place_of codes new.text) place = stands_behind _ _ (rw other at is) in
          rw other (ap (λ (found : Option ℕ). cond (bytes_eq text code.text) (Some 0) (option_map suc found)) (place_of-entered codes new b.earlier b.found_is text))
    ]

-- a place in a list that goes on
joined_place : (a b : Bool) (found : Option ℕ) (count : ℕ) → (b ≡ true → a ≡ false)
    → cond a (Some 0) (option_map suc (cond b (Some count) found)) ≡ cond b (Some (suc count)) (cond a (Some 0) (option_map suc found))
joined_place true true found count apart = cc (apart refl)
joined_place true false found count apart = refl
joined_place false true found count apart = refl
joined_place false false found count apart = refl

-- a new code is after all others
pub place_of-push : (codes : List Code) (new : Code) → place_of codes new.text ≡ None → (text : List ℕ)
    → place_of (codes ++ new ∷ []) text ≡ (if bytes_eq text new.text then Some (length codes) else place_of codes text)
place_of-push [] new none text = refl
place_of-push (code ∷ codes) new none text =
    elim (cases_Bool (bytes_eq new.text code.text)) [
      | inl same ↦ let there = rw same at none in cc
      | inr other ↦
          ap (λ (found : Option ℕ). cond (bytes_eq text code.text) (Some 0) (option_map suc found)) (place_of-push codes new (behind (place_of codes new.text) (rw other at none)) text)
          ∙ joined_place (bytes_eq text code.text) (bytes_eq text new.text) (place_of codes text) (length codes)
          (λ same. let text_is : text ≡ new.text = (bytes_eq-Decides text new.text).0 same in rw text_is other)
    ]

-- codes with one more
pub codes_in-push : (texts : List (Vec ℕ)) (codes : List CodeRow) (text : Vec ℕ) (code : CodeRow) → length texts ≡ length codes
    → codes_in (texts ++ text ∷ []) (codes ++ code ∷ []) ≡ codes_in texts codes ++ with_text text.items code ∷ []
codes_in-push [] [] text code same = refl
codes_in-push [] (other ∷ codes) text code same = absurd (let no : 0 ≡ suc (length codes) = same in omega (arith, no))
codes_in-push (first ∷ texts) [] text code same = absurd (let no : suc (length texts) ≡ 0 = same in omega (arith, no))
codes_in-push (first ∷ texts) (other ∷ codes) text code same = ap (λ (cs : List Code). with_text first.items other ∷ cs) (codes_in-push texts codes text code (let s : suc (length texts) ≡ suc (length codes) = same in omega (arith, s)))

-- how many codes there are
pub length-codes_in : (texts : List (Vec ℕ)) (codes : List CodeRow) → length texts ≡ length codes → length (codes_in texts codes) ≡ length codes
length-codes_in [] [] same = refl
length-codes_in [] (other ∷ codes) same = same
length-codes_in (first ∷ texts) [] same = refl
length-codes_in (first ∷ texts) (other ∷ codes) same = ap suc (length-codes_in texts codes (let s : suc (length texts) ≡ suc (length codes) = same in omega (arith, s)))
