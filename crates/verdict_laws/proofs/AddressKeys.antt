-- The order of addresses is total, so that rows that rise are apart.
use Rattle.std.proofs.Common.{◌≡◌, ◌≢◌, ◌<◌, ◌∙◌, ℕ, zero, suc, Bool, true, false, List, [], ◌∷◌, length, get_or, Option, Some, None, inl, inr, refl, sym, ap, arith}
use Rattle.std.specs.declared.cmp.Ordering.{Ordering}
use Rattle.std.specs.declared.cmp.Ordering.TheVariants.{Less, Equal, Greater}
use Rattle.std.specs.Cmp.{IsTotalOrder}
use Rattle.std.specs.Cmp.Lexicographic.{slice_cmp}
use Rattle.std.specs.Ordering.{nat_cmp, ordering_then, ordering_reverse}
use Rattle.std.proofs.lemmas.Bool.{cases_order}
use Rattle.std.proofs.lemmas.Cmp.{nat_list_cmp_total, lists_total, on_total, tied_itself}
use Rattle.coverage_db.specs.declared.address.Address.{Address}
use Rattle.coverage_db.specs.declared.address.Subject.{Subject}
use Rattle.coverage_db.specs.declared.address.Subject.TheVariants.{Line, Logic, Toggle, State, Arc, Word}
use Rattle.coverage_db.specs.declared.db.DbPoint.{DbPoint}
use Rattle.coverage_db.specs.Order.{address_cmp, bytes_cmp, index_cmp, letter_rank, rise_cmp, rule_cmp, write_cmp}
use Rattle.coverage_db.specs.Table.{Rises}
use Rattle.table_laws.specs.point_table.Verdicts.{no_row}
use Rattle.point_words.specs.Words.{node_case_rank}

abbrev index_key : Option ℕ → List ℕ
index_key None = []
index_key (Some index) = index ∷ []

abbrev rise_key : Bool → ℕ
rise_key true = 0
rise_key false = 1

abbrev write_key : Bool → ℕ
write_key false = 0
write_key true = 1

-- what a point is sorted by after its letter and its instance, part after part
abbrev subject_key : Subject → List (List ℕ)
subject_key (Line number at word) = (number ∷ []) ∷ []
subject_key (Logic number at operator case) = (number ∷ node_case_rank case ∷ []) ∷ []
subject_key (Toggle name index rise) = name ∷ index_key index ∷ (rise_key rise ∷ []) ∷ []
subject_key (State name state) = name ∷ (0 ∷ []) ∷ state ∷ []
subject_key (Arc name from to) = name ∷ (1 ∷ []) ∷ from ∷ to ∷ []
subject_key (Word name index write) = name ∷ (index ∷ write_key write ∷ []) ∷ []

abbrev address_key : Address → List (List ℕ)
address_key a = (letter_rank a.subject ∷ a.instance ∷ []) ∷ subject_key a.subject

abbrev key_cmp : Address → Address → Ordering
key_cmp a b = slice_cmp bytes_cmp (address_key a) (address_key b)

then_end : (a : Ordering) → ordering_then a Equal ≡ a
then_end Less = refl
then_end Equal = refl
then_end Greater = refl

then_assoc : (a b c : Ordering) → ordering_then (ordering_then a b) c ≡ ordering_then a (ordering_then b c)
then_assoc Less b c = refl
then_assoc Equal b c = refl
then_assoc Greater b c = refl

index_is : (i j : Option ℕ) → index_cmp i j ≡ bytes_cmp (index_key i) (index_key j)
index_is None None = refl
index_is None (Some j) = refl
index_is (Some i) None = refl
index_is (Some i) (Some j) = sym (then_end (nat_cmp i j))

rise_is : (r s : Bool) → rise_cmp r s ≡ nat_cmp (rise_key r) (rise_key s)
rise_is true true = refl
rise_is true false = refl
rise_is false true = refl
rise_is false false = refl

write_is : (r s : Bool) → write_cmp r s ≡ nat_cmp (write_key r) (write_key s)
write_is true true = refl
write_is true false = refl
write_is false true = refl
write_is false false = refl

-- two points of instances i and j, by their letters, their instances and their own parts
subject_is : (i j : ℕ) (s t : Subject) → ordering_then (nat_cmp (letter_rank s) (letter_rank t)) (ordering_then (nat_cmp i j) (rule_cmp s t)) ≡ slice_cmp bytes_cmp ((letter_rank s ∷ i ∷ []) ∷ subject_key s) ((letter_rank t ∷ j ∷ []) ∷ subject_key t)
subject_is i j (Line m a v) (Line n b w) = simp (then_end)
subject_is i j (Logic m a o c) (Logic n b p d) = simp (then_assoc, then_end)
subject_is i j (Toggle x u r) (Toggle y v s) = simp (then_end, index_is u v, rise_is r s)
subject_is i j (State x s) (State y t) = simp (then_assoc, then_end)
subject_is i j (State x s) (Arc y b c) = simp (then_assoc, then_end)
subject_is i j (Arc x a b) (State y t) = simp (then_assoc, then_end)
subject_is i j (Arc x a b) (Arc y c d) = simp (then_end)
subject_is i j (Word x u w) (Word y v z) = simp (then_assoc, then_end, write_is w z)
subject_is i j s t = refl

key_is : (a b : Address) → address_cmp a b ≡ key_cmp a b
key_is a b = subject_is a.instance b.instance a.subject b.subject

keys_total : IsTotalOrder key_cmp
keys_total = on_total address_key (lists_total nat_list_cmp_total)

pub address_total : IsTotalOrder address_cmp
address_total = record {
  antisymm = λ x y. key_is x y ∙ keys_total.antisymm x y ∙ ap ordering_reverse (sym (key_is y x));
  trans = λ x y z p q. key_is x z ∙ keys_total.trans x y z (sym (key_is x y) ∙ p) (sym (key_is y z) ∙ q);
  congr = λ x y z p. key_is x z ∙ keys_total.congr x y z (sym (key_is x y) ∙ p) ∙ sym (key_is y z);
}

-- ---- rows that rise

abbrev by_address : DbPoint → DbPoint → Ordering
by_address a b = address_cmp a.address b.address

first_less : (x : DbPoint) (xs : List DbPoint) (j : ℕ) → Rises by_address (x ∷ xs) → j < length xs → by_address x (get_or xs j no_row) ≡ Less
first_less x [] j h l = let no : ⊥ = omega (arith, l) in absurd no
first_less x (y ∷ ys) zero h l = h.0
first_less x (y ∷ ys) (suc j) h l =
    address_total.trans x.address y.address (get_or ys j no_row).address h.0 (first_less y ys j h.1 (omega (arith, l)))

rises_tail : (x : DbPoint) (xs : List DbPoint) → Rises by_address (x ∷ xs) → Rises by_address xs
rises_tail x [] h = tt
rises_tail x (y ∷ ys) h = h.1

later_less : (xs : List DbPoint) (i j : ℕ) → Rises by_address xs → i < j → j < length xs → by_address (get_or xs i no_row) (get_or xs j no_row) ≡ Less
later_less [] i j h a b = let no : ⊥ = omega (arith, b) in absurd no
later_less (x ∷ xs) i zero h a b = let no : ⊥ = omega (arith, a) in absurd no
later_less (x ∷ xs) zero (suc j) h a b = first_less x xs j h (omega (arith, b))
later_less (x ∷ xs) (suc i) (suc j) h a b = later_less xs i j (rises_tail x xs h) (omega (arith, a)) (omega (arith, b))

-- a later row has another address
apart : (xs : List DbPoint) (i j : ℕ) → Rises by_address xs → i < j → j < length xs → (get_or xs i no_row).address ≢ (get_or xs j no_row).address
apart xs i j h a b e =
    let less = later_less xs i j h a b in
    let same = ap (address_cmp (get_or xs i no_row).address) (sym e) in
    let tied = tied_itself address_total (get_or xs i no_row).address in
    absurd (cc (less, same, tied))

-- rows with one address are one row
pub one_row : (xs : List DbPoint) (i j : ℕ) → Rises by_address xs → i < length xs → j < length xs → (get_or xs i no_row).address ≡ (get_or xs j no_row).address → i ≡ j
one_row xs i j h a b e =
    elim (cases_order i j) [
      | inl equal ↦ equal
      | inr (inl less) ↦ absurd (apart xs i j h less b e)
      | inr (inr more) ↦ absurd (apart xs j i h more a (sym e))
    ]
