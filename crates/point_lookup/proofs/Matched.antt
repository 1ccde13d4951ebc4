-- What is left of a text after bytes that it begins with.
use Rattle.std.proofs.Common.{◌≡◌, ℕ, Bool, true, false, eqb, List, [], ◌∷◌, ◌++◌, length, Option, Some, None, refl, sym, ◌∙◌, inl, inr, arith}
use Rattle.std.specs.Prelude.{bytes_eq}
use Rattle.std.proofs.lemmas.Bool.{cases_Bool}
use Rattle.std.proofs.lemmas.Bool.Decides.{nat_tests}
use Rattle.coverage_db.specs.Fields.{◌>>=◌, behind}
use Rattle.point_lookup.specs.Matching.{after, is_at_end}

behind_two : (a b text : List ℕ) → behind (a ++ b) text ≡ (behind a text >>= λ rest. behind b rest)
behind_two [] b text = refl
behind_two (x ∷ a) b [] = refl
behind_two (x ∷ a) b (y ∷ text) =
    elim (cases_Bool (eqb y x)) [
      | inl same ↦ rw same (behind_two a b text)
      | inr other ↦ rw other refl
    ]

pub after_none : (left : Option (List ℕ)) → left ≡ after [] left
after_none None = refl
after_none (Some text) = refl

after_both : (a b : List ℕ) (left : Option (List ℕ)) → after b (after a left) ≡ after (a ++ b) left
after_both a b None = refl
after_both a b (Some text) = sym (behind_two a b text)

pub after_two : (a b : List ℕ) (one two three : Option (List ℕ)) → two ≡ after a one → three ≡ after b two → three ≡ after (a ++ b) one
after_two a b one two three first second = rw (second, first) (after_both a b one)

pub at_end : (front text : List ℕ) → is_at_end (behind front text) ≡ bytes_eq front text
at_end [] [] = refl
at_end [] (y ∷ text) = let more : eqb (length (y ∷ text)) 0 ≡ false = grind (arith, nat_tests) in more
at_end (x ∷ front) [] = refl
at_end (x ∷ front) (y ∷ text) =
    elim (cases_Bool (eqb y x)) [
      | inl same ↦ let turned : eqb x y ≡ true = grind (arith, nat_tests) in rw (same, turned) (at_end front text)
      | inr other ↦ let turned : eqb x y ≡ false = grind (arith, nat_tests) in rw (other, turned) refl
    ]

pub ended_there : (front text : List ℕ) (left : Option (List ℕ)) (result : Bool) → left ≡ after front (Some text) → result ≡ is_at_end left → result ≡ bytes_eq front text
ended_there front text left result came is = rw (is, came) (at_end front text)

pub after_field : (field text : List ℕ) (one two : Option (List ℕ)) → field ≡ text → two ≡ after (32 ∷ field) one → two ≡ after (32 ∷ text) one
after_field field text one two same came = rw (← same) came

pub after_named : (name text : List ℕ) (one two : Option (List ℕ)) → name ≡ text → two ≡ after name one → two ≡ after text one
after_named name text one two same came = rw (← same) came
