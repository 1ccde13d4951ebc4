-- The search for the point with an address.
use Rattle.std.proofs.Common.{◌≡◌, ◌<◌, ◌≤◌, ◌∙◌, ℕ, Bool, true, false, List, [], ◌∷◌, length, get_or, Option, Some, None, Result, Ok, Err, inl, inr, sym, ap, arith}
use Rattle.std.specs.Prelude.{MatchResult}
use Rattle.std.specs.List.{position}
use Rattle.std.specs.List.Sorted.{IsBinarySearchResult}
use Rattle.std.specs.Result.{result_ok}
use Rattle.std.specs.declared.cmp.Ordering.TheVariants.{Less, Equal, Greater}
use Rattle.std.proofs.lemmas.Bool.{cases_Bool, cases_lt}
use Rattle.std.proofs.lemmas.Bool.Decides.{nat_tests}
use Rattle.std.proofs.lemmas.Cmp.{tied_itself}
use Rattle.std.proofs.lemmas.List.Sums.{position_or_len_is}
use Rattle.std.proofs.lemmas.Option.{same_Some}
use Rattle.std.proofs.lemmas.Slice.Eq.{bytes_eq-Decides}
use Rattle.coverage_db.specs.declared.address.Address.{Address}
use Rattle.coverage_db.specs.declared.address.Subject.TheVariants.{State}
use Rattle.coverage_db.specs.declared.db.Db.{Db}
use Rattle.coverage_db.specs.declared.db.DbPoint.{DbPoint}
use Rattle.coverage_db.specs.declared.verdict.DbVerdict.TheVariants.{Missed}
use Rattle.coverage_db.specs.Fields.{fields_of}
use Rattle.coverage_db.specs.Order.{address_cmp}
use Rattle.coverage_db.specs.Table.{IsTable, Rises}
use Rattle.coverage_db.specs.Text.{address_text}
use Rattle.point_lookup.specs.Keys.{address_key}
use Rattle.point_lookup.specs.Lookup.{HasAddressAt, IsSearch, has_address, place_of}
use Rattle.point_lookup.proofs.AddressFields.{IsAddress}
use Rattle.point_lookup.proofs.AddressOrder.{address_total, one_place, points_rise}
use Rattle.point_lookup.proofs.KeyLaws.{Alike, HasKey, address_key_again}

-- a point that represents no point
pub no_point : DbPoint
no_point =
    let address : Address = record { instance = 0; subject = State [] [] } in
    record { address = address; verdict = Missed }

pub point_is : (db : Db) (i : ℕ) (d : DbPoint) → IsTable db → i < length db.points → IsAddress (length db.sources) db.instances (get_or db.points i d).address
point_is db i d t within =
    let p = t.points i d within in
    record { few = omega (arith, t.lines); each = t.instances; instance = p.instance; subject = p.subject }

-- the key of the address of a point
pub point_key : (db : Db) (i : ℕ) (d : DbPoint) → IsTable db → i < length db.points → HasKey (address_key db.instances (fields_of (address_text db.instances (get_or db.points i d).address))) (get_or db.points i d).address
point_key db i d t within = address_key_again (length db.sources) db.instances (get_or db.points i d).address t.instances_rise (point_is db i d t within)

-- no two points have one address
pub one_address : (db : Db) (i j : ℕ) (d : DbPoint) → IsTable db → i < length db.points → j < length db.points → address_text db.instances (get_or db.points i d).address ≡ address_text db.instances (get_or db.points j d).address → i ≡ j
one_address db i j d t a b same =
    let p = (get_or db.points i d).address in
    let q = (get_or db.points j d).address in
    let k = point_key db i d t a in
    let l = point_key db j d t b in
    let keys : k.key ≡ l.key = same_Some k.key l.key (sym k.is ∙ ap (λ text. address_key db.instances (fields_of text)) same ∙ l.is) in
    let tied : address_cmp p q ≡ Equal = sym (l.alike p) ∙ ap (address_cmp p) (sym keys) ∙ k.alike p ∙ tied_itself address_total p in
    one_place db.points i j d t.points_rise a b tied

-- the key and a point with the address are the same in the order
alike_there : (db : Db) (address : List ℕ) (key : Address) (i : ℕ) (d : DbPoint) → IsTable db → address_key db.instances (fields_of address) ≡ Some key → i < length db.points → has_address db.instances address (get_or db.points i d) ≡ true
    → Alike key (get_or db.points i d).address
alike_there db address key i d t read within has =
    let same : address_text db.instances (get_or db.points i d).address ≡ address = (bytes_eq-Decides (address_text db.instances (get_or db.points i d).address) address).0 has in
    let k = point_key db i d t within in
    let keys : k.key ≡ key = same_Some k.key key (sym k.is ∙ ap (λ text. address_key db.instances (fields_of text)) same ∙ read) in
    λ x. ap (address_cmp x) (sym keys) ∙ k.alike x

tied_there : (db : Db) (address : List ℕ) (key : Address) (i j : ℕ) (d : DbPoint) → IsTable db → address_key db.instances (fields_of address) ≡ Some key → i < length db.points → j < length db.points
    → address_cmp (get_or db.points i d).address key ≡ Equal → has_address db.instances address (get_or db.points j d) ≡ true → i ≡ j
tied_there db address key i j d t read a b tied has =
    let alike = alike_there db address key j d t read b has in
    one_place db.points i j d t.points_rise a b (sym (alike (get_or db.points i d).address) ∙ tied)

none_at : {X : Type 0} (test : X → Bool) (xs : List X) (d : X) → ((k : ℕ) → k < length xs → test (get_or xs k d) ≡ false) → position test xs ≡ None
none_at test xs d fails =
    let whole = position_or_len_is test xs (length xs) d (omega arith) fails (λ h. absurd (omega (arith, h))) in
    rw whole (grind (arith, nat_tests))

first_at : {X : Type 0} (test : X → Bool) (xs : List X) (i : ℕ) (d : X) → i < length xs → ((k : ℕ) → k < i → test (get_or xs k d) ≡ false) → test (get_or xs i d) ≡ true → position test xs ≡ Some i
first_at test xs i d within fails passes =
    let there = position_or_len_is test xs i d (omega (arith, within)) fails (λ h. passes) in
    rw there (grind (arith, nat_tests))

pub found_there : (db : Db) (address : List ℕ) (key : Address) (i : ℕ) → IsTable db → address_key db.instances (fields_of address) ≡ Some key → IsSearch db.points key (Some i) → HasAddressAt db i address true → place_of db address ≡ Some i
found_there db address key i t read (within, each) has_at =
    let d = no_point in
    let tied = each d in
    let has = has_at d in
    first_at (has_address db.instances address) db.points i d within (λ k below.
    elim (cases_Bool (has_address db.instances address (get_or db.points k d))) [
      | inl has_too ↦ absurd (let same = tied_there db address key i k d t read within (omega (arith, below, within)) tied has_too in omega (arith, same, below))
      | inr other ↦ other
    ]) has

pub other_there : (db : Db) (address : List ℕ) (key : Address) (i : ℕ) → IsTable db → address_key db.instances (fields_of address) ≡ Some key → IsSearch db.points key (Some i) → HasAddressAt db i address false → place_of db address ≡ None
other_there db address key i t read (within, each) lacks_at =
    let d = no_point in
    let tied = each d in
    let lacks = lacks_at d in
    none_at (has_address db.instances address) db.points d (λ k inside.
    elim (cases_Bool (has_address db.instances address (get_or db.points k d))) [
      | inl has ↦ absurd (
          let same = tied_there db address key i k d t read within inside tied has in
          let bad : false ≡ true = sym lacks ∙ ap (λ n. has_address db.instances address (get_or db.points n d)) same ∙ has in
          cc)
      | inr other ↦ other
    ])

pub none_there : (db : Db) (address : List ℕ) (key : Address) → IsTable db → address_key db.instances (fields_of address) ≡ Some key → IsSearch db.points key None → place_of db address ≡ None
none_there db address key t read none =
    let d = no_point in
    none_at (has_address db.instances address) db.points d (λ k inside.
    elim (cases_Bool (has_address db.instances address (get_or db.points k d))) [
      | inl has ↦ absurd (none k d inside (alike_there db address key k d t read inside has (get_or db.points k d).address ∙ tied_itself address_total (get_or db.points k d).address))
      | inr other ↦ other
    ])

-- what a binary search answers
pub is_search : (points : List DbPoint) (key : Address) (r : Result ℕ ℕ) → Rises (λ a b. address_cmp a.address b.address) points → MatchResult r (λ i. i < length points) (λ i. i ≤ length points) → IsBinarySearchResult (λ p. address_cmp p.address key) points r
    → IsSearch points key (result_ok r)
is_search points key (Ok i) rises within found = (within, λ d. found d)
is_search points key (Err i) rises within parts =
    let both = parts (points_rise points key rises) in
    λ k d inside tied.
    elim (cases_lt k i) [
      | inl low ↦ let bad : Less ≡ Equal = sym (both.0 k d (omega arith) low) ∙ tied in cc
      | inr high ↦ let bad : Greater ≡ Equal = sym (both.1 k d high inside) ∙ tied in cc
    ]

pub no_key : (db : Db) (address : List ℕ) → IsTable db → address_key db.instances (fields_of address) ≡ None → place_of db address ≡ None
no_key db address t read =
    let d = no_point in
    none_at (has_address db.instances address) db.points d (λ k inside.
    elim (cases_Bool (has_address db.instances address (get_or db.points k d))) [
      | inl has ↦ absurd (
          let same : address_text db.instances (get_or db.points k d).address ≡ address = (bytes_eq-Decides (address_text db.instances (get_or db.points k d).address) address).0 has in
          let p = point_key db k d t inside in
          let bad : ◌≡◌ {A = Option Address} None (Some p.key) = sym read ∙ ap (λ text. address_key db.instances (fields_of text)) (sym same) ∙ p.is in
          cc)
      | inr other ↦ other
    ])
