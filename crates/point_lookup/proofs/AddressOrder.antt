-- The order of addresses is total, so that points that rise are apart.
use Rattle.std.proofs.Common.{◌≡◌, ◌<◌, ◌≤◌, ◌∙◌, ℕ, zero, suc, Bool, true, false, List, [], ◌∷◌, length, get_or, Option, Some, None, inl, inr, refl, sym, ap, arith}
use Rattle.std.specs.declared.cmp.Ordering.{Ordering}
use Rattle.std.specs.declared.cmp.Ordering.TheVariants.{Less, Equal, Greater}
use Rattle.std.specs.Cmp.{IsTotalOrder}
use Rattle.std.specs.Cmp.Lexicographic.{slice_cmp}
use Rattle.std.specs.Ordering.{nat_cmp, ordering_index, ordering_then, ordering_reverse}
use Rattle.std.specs.List.Sorted.{IsNonDecreasingBy}
use Rattle.std.proofs.lemmas.Bool.{cases_order}
use Rattle.std.proofs.lemmas.Cmp.{nat_list_cmp_total, lists_total, on_total}
use Rattle.coverage_db.specs.declared.address.Address.{Address}
use Rattle.coverage_db.specs.declared.address.Subject.{Subject}
use Rattle.coverage_db.specs.declared.address.Subject.TheVariants.{Line, Logic, Toggle, State, Arc, Word}
use Rattle.coverage_db.specs.declared.db.DbPoint.{DbPoint}
use Rattle.coverage_db.specs.Order.{address_cmp, bytes_cmp, index_cmp, letter_rank, rise_cmp, rule_cmp, write_cmp}
use Rattle.coverage_db.specs.Table.{Rises}
use Rattle.point_words.specs.Words.{node_case_rank}

abbrev index_key : Option ℕ → List ℕ
index_key None = []
index_key (Some index) = index ∷ []

abbrev rise_key : Bool → ℕ
rise_key true = 0
rise_key false = 1

abbrev write_key : Bool → ℕ
write_key false = 0
write_key true = 1

-- what a point is sorted by after its letter and its instance, part after part
abbrev subject_key : Subject → List (List ℕ)
subject_key (Line number at word) = (number ∷ []) ∷ []
subject_key (Logic number at operator case) = (number ∷ node_case_rank case ∷ []) ∷ []
subject_key (Toggle name index rise) = name ∷ index_key index ∷ (rise_key rise ∷ []) ∷ []
subject_key (State name state) = name ∷ (0 ∷ []) ∷ state ∷ []
subject_key (Arc name from to) = name ∷ (1 ∷ []) ∷ from ∷ to ∷ []
subject_key (Word name index write) = name ∷ (index ∷ write_key write ∷ []) ∷ []

abbrev address_key : Address → List (List ℕ)
address_key a = (letter_rank a.subject ∷ a.instance ∷ []) ∷ subject_key a.subject

abbrev key_cmp : Address → Address → Ordering
key_cmp a b = slice_cmp bytes_cmp (address_key a) (address_key b)

then_end : (a : Ordering) → ordering_then a Equal ≡ a
then_end Less = refl
then_end Equal = refl
then_end Greater = refl

then_assoc : (a b c : Ordering) → ordering_then (ordering_then a b) c ≡ ordering_then a (ordering_then b c)
then_assoc Less b c = refl
then_assoc Equal b c = refl
then_assoc Greater b c = refl

index_is : (i j : Option ℕ) → index_cmp i j ≡ bytes_cmp (index_key i) (index_key j)
index_is None None = refl
index_is None (Some j) = refl
index_is (Some i) None = refl
index_is (Some i) (Some j) = sym (then_end (nat_cmp i j))

rise_is : (r s : Bool) → rise_cmp r s ≡ nat_cmp (rise_key r) (rise_key s)
rise_is true true = refl
rise_is true false = refl
rise_is false true = refl
rise_is false false = refl

write_is : (r s : Bool) → write_cmp r s ≡ nat_cmp (write_key r) (write_key s)
write_is true true = refl
write_is true false = refl
write_is false true = refl
write_is false false = refl

-- two points of instances i and j, by their letters, their instances and their own parts
subject_is : (i j : ℕ) (s t : Subject) → ordering_then (nat_cmp (letter_rank s) (letter_rank t)) (ordering_then (nat_cmp i j) (rule_cmp s t)) ≡ slice_cmp bytes_cmp ((letter_rank s ∷ i ∷ []) ∷ subject_key s) ((letter_rank t ∷ j ∷ []) ∷ subject_key t)
subject_is i j (Line m a v) (Line n b w) = simp (then_end)
subject_is i j (Logic m a o c) (Logic n b p d) = simp (then_assoc, then_end)
subject_is i j (Toggle x u r) (Toggle y v s) = simp (then_end, index_is u v, rise_is r s)
subject_is i j (State x s) (State y t) = simp (then_assoc, then_end)
subject_is i j (State x s) (Arc y b c) = simp (then_assoc, then_end)
subject_is i j (Arc x a b) (State y t) = simp (then_assoc, then_end)
subject_is i j (Arc x a b) (Arc y c d) = simp (then_end)
subject_is i j (Word x u w) (Word y v z) = simp (then_assoc, then_end, write_is w z)
subject_is i j s t = refl

key_is : (a b : Address) → address_cmp a b ≡ key_cmp a b
key_is a b = subject_is a.instance b.instance a.subject b.subject

keys_total : IsTotalOrder key_cmp
keys_total = on_total address_key (lists_total nat_list_cmp_total)

pub address_total : IsTotalOrder address_cmp
address_total = record {
  antisymm = λ x y. key_is x y ∙ keys_total.antisymm x y ∙ ap ordering_reverse (sym (key_is y x));
  trans = λ x y z p q. key_is x z ∙ keys_total.trans x y z (sym (key_is x y) ∙ p) (sym (key_is y z) ∙ q);
  congr = λ x y z p. key_is x z ∙ keys_total.congr x y z (sym (key_is x y) ∙ p) ∙ sym (key_is y z);
}

-- ---- points that rise

abbrev pub by_address : DbPoint → DbPoint → Ordering
by_address a b = address_cmp a.address b.address

pub rises_tail : (x : DbPoint) (xs : List DbPoint) → Rises by_address (x ∷ xs) → Rises by_address xs
rises_tail x [] h = tt
rises_tail x (y ∷ ys) h = h.1

first_less : (x : DbPoint) (xs : List DbPoint) (j : ℕ) (d : DbPoint) → Rises by_address (x ∷ xs) → j < length xs → by_address x (get_or xs j d) ≡ Less
first_less x [] j d h l = absurd (omega (arith, l))
first_less x (y ∷ ys) zero d h l = h.0
first_less x (y ∷ ys) (suc j) d h l =
    address_total.trans x.address y.address (get_or ys j d).address h.0 (first_less y ys j d h.1 (omega (arith, l)))

pub later_less : (xs : List DbPoint) (i j : ℕ) (d : DbPoint) → Rises by_address xs → i < j → j < length xs → by_address (get_or xs i d) (get_or xs j d) ≡ Less
later_less [] i j d h a b = absurd (omega (arith, b))
later_less (x ∷ xs) i zero d h a b = absurd (omega (arith, a))
later_less (x ∷ xs) zero (suc j) d h a b = first_less x xs j d h (omega (arith, b))
later_less (x ∷ xs) (suc i) (suc j) d h a b = later_less xs i j d (rises_tail x xs h) (omega (arith, a)) (omega (arith, b))

-- points with tied addresses are one point
pub one_place : (xs : List DbPoint) (i j : ℕ) (d : DbPoint) → Rises by_address xs → i < length xs → j < length xs → by_address (get_or xs i d) (get_or xs j d) ≡ Equal → i ≡ j
one_place xs i j d h a b e =
    elim (cases_order i j) [
      | inl equal ↦ equal
      | inr (inl less) ↦ absurd (let apart = later_less xs i j d h less b in let no : Less ≡ Equal = sym apart ∙ e in cc)
      | inr (inr more) ↦ absurd (
          let apart = later_less xs j i d h more a in
          let turned : by_address (get_or xs i d) (get_or xs j d) ≡ Greater = address_total.antisymm (get_or xs i d).address (get_or xs j d).address ∙ ap ordering_reverse apart in
          let no : Greater ≡ Equal = sym turned ∙ e in cc)
    ]

-- what comes after a point that is not before this address is after it
after_is_greater : (x y p : Address) (o : Ordering) → address_cmp x y ≡ Less → address_cmp x p ≡ o → ordering_index o ≤ ordering_index (address_cmp y p)
after_is_greater x y p Less less e = omega arith
after_is_greater x y p Equal less e =
    let before : address_cmp p y ≡ Less = sym (address_total.congr x p y e) ∙ less in
    let after : address_cmp y p ≡ Greater = address_total.antisymm y p ∙ ap ordering_reverse before in
    rw after (omega arith)
after_is_greater x y p Greater less e =
    let first : address_cmp p x ≡ Less = address_total.antisymm p x ∙ ap ordering_reverse e in
    let before : address_cmp p y ≡ Less = address_total.trans p x y first less in
    let after : address_cmp y p ≡ Greater = address_total.antisymm y p ∙ ap ordering_reverse before in
    rw after (omega arith)

pub points_rise : (xs : List DbPoint) (p : Address) → Rises by_address xs → IsNonDecreasingBy (λ x. ordering_index (address_cmp x.address p)) xs
points_rise xs p r i j d up within =
    elim (cases_order i j) [
      | inl equal ↦ rw equal (omega arith)
      | inr (inl less) ↦ after_is_greater (get_or xs i d).address (get_or xs j d).address p (address_cmp (get_or xs i d).address p) (later_less xs i j d r less within) refl
      | inr (inr more) ↦ absurd (omega (arith, more, up))
    ]
