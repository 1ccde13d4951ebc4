-- The tables by which codes are found, and what they find after a change.
use Rattle.std.proofs.Common.{◌≡◌, ◌∙◌, sym, ap, refl, inl, inr, ℕ, ◌+◌, ◌-◌, ◌*◌, Bool, true, false, ◌&&◌, ◌==◌, true≢false, eq-eqb, arith, List, [], ◌∷◌, if◌then◌else◌, bytes_eq, cond, Option, Some, None}
use Rattle.std.proofs.lemmas.Bool.{cases_Bool, eqb-true, false_from_ne_true}
use Rattle.std.proofs.lemmas.Bool.Decides.{nat_tests}
use Rattle.std.proofs.lemmas.Map.Lookups.{exact_bytes}
use Rattle.std.proofs.lemmas.Slice.Eq.{bytes_eq-Decides}
use Rattle.std.proofs.lemmas.Map.Text.{is_eq-slice_cmp}
use Rattle.std.specs.Global.{Vec}
use Rattle.std.specs.List.{list_all}
use Rattle.std.specs.Ordering.{is_eq, match_ordering, nat_cmp}
use Rattle.std.specs.Cmp.Lexicographic.{slice_cmp}
use Rattle.std.specs.declared.cmp.Ordering.{Ordering}
use Rattle.std.specs.declared.cmp.Ordering.TheVariants.{Less, Equal, Greater}
use Rattle.std.specs.BTreeMap.{insert_entry}
use Rattle.vcd_reader.specs.Header.{is_printable}
use Rattle.vcd_reader.specs.Places.{is_short, code_number, place_at, place_under, place_in}
use Rattle.vcd_reader.specs.declared.places.Places.{Places}

-- the comparison of a key with another
abbrev pub key_cmp : Vec ℕ → Vec ℕ → Ordering
key_cmp a b = slice_cmp nat_cmp a.items b.items

-- a second test says nothing more
cond_twice : (b : Bool) (x y z : Option ℕ) → cond b x z ≡ cond b x (cond b y z)
cond_twice true x y z = refl
cond_twice false x y z = refl

-- two tests that do not hold together, in either order
cond_apart : (a b : Bool) (x y z : Option ℕ) → (b ≡ true → a ≡ false) → cond a x (cond b y z) ≡ cond b y (cond a x z)
cond_apart true true x y z apart = cc (apart refl)
cond_apart true false x y z apart = refl
cond_apart false true x y z apart = refl
cond_apart false false x y z apart = refl

-- the first entry of a sorted table, and one that is put in
insert_step : (e : Vec ℕ × ℕ) (es : List (Vec ℕ × ℕ)) (key : Vec ℕ) (place : ℕ) (text : List ℕ) (order : Ordering) → slice_cmp nat_cmp key.items e.0.items ≡ order
    → place_under (insert_entry key_cmp es key place) text ≡ (if bytes_eq text key.items then Some place else place_under es text)
    → place_under (match_ordering order ((key, place) ∷ e ∷ es) ((e.0, place) ∷ es) (e ∷ insert_entry key_cmp es key place)) text
    ≡ (if bytes_eq text key.items then Some place else place_under (e ∷ es) text)
insert_step e es key place text Less is later = rw (is_eq-slice_cmp text key.items) refl
insert_step e es key place text Equal is later =
    let same : key.items ≡ e.0.items = exact_bytes key.items e.0.items is in
    rw (is_eq-slice_cmp text e.0.items) (rw same (cond_twice (bytes_eq text e.0.items) (Some place) (Some e.1) (place_under es text)))
insert_step e es key place text Greater is later =
    ap (λ (found : Option ℕ). cond (is_eq (slice_cmp nat_cmp text e.0.items)) (Some e.1) found) later
    ∙ cond_apart (is_eq (slice_cmp nat_cmp text e.0.items)) (bytes_eq text key.items) (Some e.1) (Some place) (place_under es text)
    (λ same. let text_is : text ≡ key.items = (bytes_eq-Decides text key.items).0 same in rw text_is (rw is refl))

-- what a sorted table has after an entry is put in
pub place_under-insert : (entries : List (Vec ℕ × ℕ)) (key : Vec ℕ) (place : ℕ) (text : List ℕ)
    → place_under (insert_entry key_cmp entries key place) text ≡ (if bytes_eq text key.items then Some place else place_under entries text)
place_under-insert [] key place text = rw is_eq-slice_cmp refl
place_under-insert (e ∷ es) key place text = insert_step e es key place text (slice_cmp nat_cmp key.items e.0.items) refl (place_under-insert es key place text)

-- both sides of a test that holds
and_left : (a b : Bool) → (a && b) ≡ true → a ≡ true
and_left true b p = refl
and_left false b p = cc

and_right : (a b : Bool) → (a && b) ≡ true → b ≡ true
and_right true b p = p
and_right false b p = cc

-- a byte of a short code and the bytes after it are known by its number
byte_of_number : (a b m n : ℕ) → is_printable a ≡ true → is_printable b ≡ true → (a - 32) + 94 * m ≡ (b - 32) + 94 * n → (a ≡ b) × (m ≡ n)
byte_of_number a b m n p q e = (grind (arith, nat_tests), grind (arith, nat_tests))

-- a byte of a short code counts something
some_number : (a m : ℕ) → is_printable a ≡ true → (a - 32) + 94 * m ≡ 0 → ⊥
some_number a m p e = grind (arith, nat_tests)

-- printable codes of one number are equal
pub code_number-inj : (a b : List ℕ) → list_all is_printable a ≡ true → list_all is_printable b ≡ true → code_number a ≡ code_number b → a ≡ b
code_number-inj [] [] p q e = refl
code_number-inj [] (b ∷ bs) p q e = absurd (some_number b (code_number bs) (and_left _ _ q) (sym e))
code_number-inj (a ∷ more) [] p q e = absurd (some_number a (code_number more) (and_left _ _ p) e)
code_number-inj (a ∷ more) (b ∷ bs) p q e =
    let both : (a ≡ b) × (code_number more ≡ code_number bs) = byte_of_number a b (code_number more) (code_number bs) (and_left _ _ p) (and_left _ _ q) e in
    ap (λ (byte : ℕ). byte ∷ more) both.0 ∙ ap (λ (bytes : List ℕ). b ∷ bytes) (code_number-inj more bs (and_right _ _ p) (and_right _ _ q) both.1)

-- all bytes of a short code are printable
short_printable : (text : List ℕ) → is_short text ≡ true → list_all is_printable text ≡ true
short_printable [] short = refl
short_printable (a ∷ []) short = short
short_printable (a ∷ b ∷ []) short = short
short_printable (a ∷ b ∷ c ∷ []) short = short
short_printable (a ∷ b ∷ c ∷ d ∷ others) short = cc

-- short codes are known by their numbers
short_told : (text bytes : List ℕ) → is_short text ≡ true → is_short bytes ≡ true → (code_number text == code_number bytes) ≡ bytes_eq text bytes
short_told text bytes p q =
    elim (cases_Bool (bytes_eq text bytes)) [
      | inl same ↦ rw same (eq-eqb _ _ (ap code_number ((bytes_eq-Decides text bytes).0 same)))
      | inr other ↦ rw other (false_from_ne_true _ (λ e. true≢false (sym ((bytes_eq-Decides text bytes).1 (code_number-inj text bytes (short_printable text p) (short_printable bytes q) (eqb-true _ _ e))) ∙ other)))
    ]

-- a short code and another one are not the same
short_apart : (text bytes : List ℕ) → is_short text ≡ false → is_short bytes ≡ true → bytes_eq text bytes ≡ false
short_apart text bytes p q = false_from_ne_true _ (λ e. true≢false (sym q ∙ ap is_short (sym ((bytes_eq-Decides text bytes).0 e)) ∙ p))

-- what is there is itself, and something
some_is : (a b : ℕ) → Some a ≡ Some b → a ≡ b
some_is a b e = cc

some_none : (a : ℕ) (found : Option ℕ) → found ≡ None → Some a ≡ found → ⊥
some_none a found none e = cc

-- the number of a short code
short_number_is : (bytes : List ℕ) (number : ℕ) → Some number ≡ (if is_short bytes then Some (code_number bytes) else None) → (is_short bytes ≡ true) × (code_number bytes ≡ number)
short_number_is bytes number is =
    elim (cases_Bool (is_short bytes)) [
      | inl short ↦ (short, sym (some_is _ _ (rw short at is)))
      | inr long ↦ absurd (some_none number _ (rw long refl) is)
    ]

-- where codes are after the place of a short one is set
pub place_in-set : (before after : Places) (bytes : List ℕ) (number place : ℕ) → Some number ≡ (if is_short bytes then Some (code_number bytes) else None) → after.long ≡ before.long
    → ((other : ℕ) → place_at after.short.items other ≡ (if other == number then Some place else place_at before.short.items other))
    → (text : List ℕ) → place_in after text ≡ (if bytes_eq text bytes then Some place else place_in before text)
place_in-set before after bytes number place is long set text =
    let short : (is_short bytes ≡ true) × (code_number bytes ≡ number) = short_number_is bytes number is in
    elim (cases_Bool (is_short text)) [
      | inl p ↦ rw p (set (code_number text) ∙ rw (← short.1) (rw (short_told text bytes p short.0) refl))
      | inr p ↦ rw p (rw (short_apart text bytes p short.0) (ap (λ (m : _). place_under m.entries text) long))
    ]
