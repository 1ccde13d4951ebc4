-- The order of names in the text.
use Rattle.std.proofs.Common.{◌≡◌, ℕ, ◌==◌, nat_lt, true, false, cond, ◌||◌, ◌&&◌, refl, sym, ap, ◌∙◌, subst}
use Rattle.std.specs.Cmp.{IsTotalOrder, IsStrictWeakOrder, then_total, on_total, nat_cmp_total}
use Rattle.std.specs.Cmp.Lexicographic.{slice_cmp, nat_list_cmp_total}
use Rattle.std.specs.Ordering.{is_lt, nat_cmp, ordering_then, ordering_reverse}
use Rattle.std.specs.declared.cmp.Ordering.{Ordering}
use Rattle.std.specs.declared.cmp.Ordering.TheVariants.{Less, Equal, Greater}
use Rattle.std.proofs.lemmas.Bool.{false≢true}
use Rattle.std.proofs.lemmas.Map.Lookups.{exact_bytes, exact_unsigned}
use Rattle.std.proofs.lemmas.List.Sorted.{ranks_by}
use Rattle.verilog_tree.specs.declared.item.Named.{Named}
use Rattle.elab_const.specs.Scope.{below_or}
use Rattle.flat_design.specs.Processes.{is_named_before}
use Rattle.elab_conflicts.specs.Conflicts.{name_order}

pub name_order-total : IsTotalOrder name_order
name_order-total = then_total (on_total (λ (x : Named). x.place.source) nat_cmp_total) (then_total (on_total (λ (x : Named). x.place.line) nat_cmp_total) (then_total (on_total (λ (x : Named). x.place.column) nat_cmp_total) (on_total (λ (x : Named). x.name) nat_list_cmp_total)))

below_or-is_lt : (a b : ℕ) (o : Ordering) → below_or a b (is_lt o) ≡ is_lt (ordering_then (nat_cmp a b) o)
below_or-is_lt a b o = elim (nat_lt a b) as (λ t. (t || ((a == b) && is_lt o)) ≡ is_lt (ordering_then (cond t Less (cond (a == b) Equal Greater)) o)) [
  | true ↦ refl
  | false ↦ elim (a == b) as (λ t. (t && is_lt o) ≡ is_lt (ordering_then (cond t Equal Greater) o)) [ true ↦ refl | false ↦ refl ]
]

pub is_named_before-is_lt : (x y : Named) → is_named_before x y ≡ is_lt (name_order x y)
is_named_before-is_lt x y =
    ap (λ t. below_or x.place.source y.place.source (below_or x.place.line y.place.line t)) (below_or-is_lt x.place.column y.place.column (slice_cmp nat_cmp x.name y.name))
    ∙ ap (below_or x.place.source y.place.source) (below_or-is_lt x.place.line y.place.line _)
    ∙ below_or-is_lt x.place.source y.place.source _

-- the order of names, as `is_named_before` tests it
pub names-order : IsStrictWeakOrder is_named_before
names-order = subst IsStrictWeakOrder (λ i x y. sym (is_named_before-is_lt x y) i) (ranks_by name_order-total (λ x. x))

neither_before : (r s : Ordering) → r ≡ ordering_reverse s → is_lt r ≡ false → is_lt s ≡ false → r ≡ Equal
neither_before r Less e f g = absurd (false≢true (sym g))
neither_before r Equal e f g = e
neither_before r Greater e f g = absurd (false≢true (sym f ∙ ap is_lt e))

first_equal : (r s : Ordering) → ordering_then r s ≡ Equal → r ≡ Equal
first_equal Less s e = e
first_equal Equal s e = refl
first_equal Greater s e = e

second_equal : (r s : Ordering) → ordering_then r s ≡ Equal → s ≡ Equal
second_equal Less s e = absurd (false≢true (sym (ap is_lt e)))
second_equal Equal s e = e
second_equal Greater s e = absurd (cc)

-- two names of which neither comes before the other are one
pub same_name : (x y : Named) → is_named_before x y ≡ false → is_named_before y x ≡ false → x ≡ y
same_name x y f g =
    let level = neither_before (name_order x y) (name_order y x) (name_order-total.antisymm x y) (sym (is_named_before-is_lt x y) ∙ f) (sym (is_named_before-is_lt y x) ∙ g) in
    let lines = second_equal (nat_cmp x.place.source y.place.source) _ level in
    let columns = second_equal (nat_cmp x.place.line y.place.line) _ lines in
    let source = exact_unsigned x.place.source y.place.source (first_equal _ _ level) in
    let line = exact_unsigned x.place.line y.place.line (first_equal _ _ lines) in
    let column = exact_unsigned x.place.column y.place.column (first_equal _ _ columns) in
    let name = exact_bytes x.name y.name (second_equal (nat_cmp x.place.column y.place.column) _ columns) in
    λ i. record { name = name i; place = record { source = source i; line = line i; column = column i } }
