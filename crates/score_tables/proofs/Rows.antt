-- The instances of a table in the order of their paths, of which the top's is the first.
use Rattle.std.proofs.Common.{◌≡◌, ℕ, zero, suc, ◌<◌, List, [], ◌∷◌, ◌++◌, length, map, get_or, refl, sym, ap, subst, ◌∙◌, inl, inr, arith}
use Rattle.std.specs.declared.cmp.Ordering.{Ordering}
use Rattle.std.specs.declared.cmp.Ordering.TheVariants.{Less}
use Rattle.std.specs.List.{All, Contains, range_with_len}
use Rattle.std.specs.List.Sorted.{IsPermutation}
use Rattle.std.specs.Ordering.{ordering_reverse, ordering_then}
use Rattle.std.proofs.lemmas.List.{ext_get_or, get_or-map, length-map}
use Rattle.std.proofs.lemmas.List.FromFn.{get_or-map-range_with_len, length-map-range_with_len}
use Rattle.std.proofs.lemmas.List.Elements.{All-nil, All-cons, All-head, All-map, All-weaker, Contains-get_or}
use Rattle.std.proofs.lemmas.List.Sorted.{All-permutation, Contains-permutation, IsPermutation-map}
use Rattle.std.proofs.lemmas.Cmp.{nat_cmp_total, nat_list_cmp_total, tied_itself}
use Rattle.coverage_db.specs.Order.{bytes_cmp}
use Rattle.coverage_db.specs.Table.{Rises}
use Rattle.coverage_db.specs.declared.db.Db.{Db}
use Rattle.coverage_db.specs.declared.db.DbInstance.{DbInstance}
use Rattle.cover_points.specs.declared.listing.Points.{Points}
use Rattle.design_model.specs.Design.{Design, In, no_instance}
use Rattle.design_model.specs.declared.design.Instance.{Instance}
use Rattle.instance_paths.specs.Rooted.{IsRooted, IsUnder}
use Rattle.verdict_laws.specs.point_table.Collected.{IsCollected}
use Rattle.verdict_laws.specs.point_table.Rows.{row_at}
use Rattle.score_tables.specs.Head.{HasHead, no_instance_row, row_of}

Contains-map : {X Y : Type 0} (f : X → Y) (xs : List X) (x : X) → Contains xs x → Contains (map f xs) (f x)
Contains-map f xs x (k, l, e) = (k, rw length-map l, get_or-map f xs k x (f x) l ∙ ap f e)

-- an item that is at a place is in the list
nth_in : {A : Type 0} (xs : List A) (n : ℕ) (d : A) → n < length xs → In (get_or xs n d) xs
nth_in [] n d h = absurd (omega arith)
nth_in (x ∷ xs) zero d h = inl refl
nth_in (x ∷ xs) (suc n) d h = inr (nth_in xs n d (omega arith))

-- the paths rise by their bytes
abbrev PathsRise : List DbInstance → Type 0
PathsRise rows = Rises (λ a b. bytes_cmp a.path b.path) rows

-- a path comes before a longer one that begins with it
longer : (outer rest : List ℕ) (byte : ℕ) → bytes_cmp outer (outer ++ byte ∷ rest) ≡ Less
longer [] rest byte = refl
longer (o ∷ os) rest byte = ap (λ c. ordering_then c (bytes_cmp os (os ++ byte ∷ rest))) (tied_itself nat_cmp_total o) ∙ longer os rest byte

-- the first of a list that rises comes before each of the others
Rises-head : {X : Type 0} (cmp : X → X → Ordering) → ((x y z : X) → cmp x y ≡ Less → cmp y z ≡ Less → cmp x z ≡ Less) → (x : X) (xs : List X) → Rises cmp (x ∷ xs) → All (λ y. cmp x y ≡ Less) xs
Rises-head cmp trans x [] r = All-nil (λ y. cmp x y ≡ Less)
Rises-head cmp trans x (y ∷ ys) r =
    All-cons (λ z. cmp x z ≡ Less) y ys r.0 (All-weaker (λ z. cmp y z ≡ Less) (λ z. cmp x z ≡ Less) (λ z l. trans x y z r.0 l) ys (Rises-head cmp trans y ys r.1))

not_both : (xs ys : List ℕ) → bytes_cmp xs ys ≡ Less → bytes_cmp ys xs ≡ Less → ⊥
not_both xs ys p q =
    let back = nat_list_cmp_total.antisymm xs ys in
    let e : bytes_cmp xs ys ≡ ordering_reverse Less = back ∙ ap ordering_reverse q in
    absurd (cc)

-- among the top and instances below it, the top is the first
top_first : (top : List ℕ) (rows : List DbInstance) → PathsRise rows → All (λ row. IsUnder top row.path) rows → (k : ℕ) (d : DbInstance) → k < length rows → (get_or rows k d).path ≡ top → (get_or rows 0 no_instance_row).path ≡ top
top_first top [] up under k d l e = absurd (omega (arith, l))
top_first top (row ∷ rows) up under zero d l e = e
top_first top (row ∷ rows) up under (suc k) d l e = the_first (All-head (λ (r : DbInstance). IsUnder top r.path) row rows under)
  where
    before : bytes_cmp row.path top ≡ Less
    before =
        ap (bytes_cmp row.path) (sym e) ∙ Rises-head (λ (a b : DbInstance). bytes_cmp a.path b.path) (λ x y z p q. nat_list_cmp_total.trans x.path y.path z.path p q) row rows up k d (omega (arith, l))

    the_first : IsUnder top row.path → row.path ≡ top
    the_first (inl same) = same
    the_first (inr (rest, below)) = absurd (not_both row.path top before (ap (bytes_cmp top) below ∙ longer top rest 46))

-- the instances of the design in the order of their numbers
rows_again : (instances : List Instance) → map (row_at instances) (range_with_len 0 (length instances)) ≡ map row_of instances
rows_again instances =
    ext_get_or no_instance_row (map (row_at instances) (range_with_len 0 (length instances))) (map row_of instances) (length-map-range_with_len (row_at instances) 0 (length instances) ∙ sym (length-map instances row_of))
    (λ i l.
    let within : i < length instances = omega (arith, l, length-map-range_with_len (row_at instances) 0 (length instances)) in
    get_or-map-range_with_len (row_at instances) 0 (length instances) i i no_instance_row within (omega arith) ∙ sym (get_or-map row_of instances i no_instance no_instance_row within))

module _ (d : Design) (names : List (List ℕ)) (ps : Points) (db : Db) (rooted : IsRooted d) (is : IsCollected d names ps db) (up : PathsRise db.instances) where
  rows_are : IsPermutation (map row_of d.instances) db.instances
  rows_are =
      subst (λ rows. IsPermutation rows db.instances) (rows_again d.instances)
      (subst (IsPermutation (map (row_at d.instances) (range_with_len 0 (length d.instances)))) (sym is.instances) (IsPermutation-map (row_at d.instances) (range_with_len 0 (length d.instances)) is.order is.path_order.permutation))

  first_row : (get_or db.instances 0 no_instance_row).path ≡ d.top
  first_row =
      let top = get_or d.instances 0 no_instance in
      let listed : Contains d.instances top = Contains-get_or d.instances 0 no_instance (omega (arith, rooted.some)) in
      let there : Contains db.instances (row_of top) = Contains-permutation (map row_of d.instances) db.instances (row_of top) rows_are (Contains-map row_of d.instances top listed) in
      let all : All (λ (i : Instance). IsUnder d.top i.path) d.instances = λ k i l. rooted.under (get_or d.instances k i) (nth_in d.instances k i l) in
      let under : All (λ (r : DbInstance). IsUnder d.top r.path) db.instances = All-permutation (λ (r : DbInstance). IsUnder d.top r.path) (map row_of d.instances) db.instances rows_are (All-map (λ (r : DbInstance). IsUnder d.top r.path) row_of d.instances all) in
      top_first d.top db.instances up under there.0 (row_of top) there.1 (ap (λ (r : DbInstance). r.path) there.2 ∙ rooted.first)

  pub head_is : HasHead d names db
  head_is = record { top = is.top; sources = is.names; instances = rows_are; first = first_row }
