-- The orders of points and of lines.
use Rattle.std.proofs.Common.{◌≡◌, ◌≢◌, ℕ, Bool, true, false, ◌&&◌, ◌==◌, refl, sym, ap, ◌∙◌, inl, inr}
use Rattle.std.specs.declared.cmp.Ordering.{Ordering}
use Rattle.std.specs.declared.cmp.Ordering.TheVariants.{Less, Equal, Greater}
use Rattle.std.specs.Cmp.{IsTotalOrder}
use Rattle.std.specs.Ordering.{nat_cmp, ordering_then, is_eq, is_gt}
use Rattle.std.proofs.lemmas.Bool.{cases_Bool, eq-eqb, eqb-true, false≢true}
use Rattle.std.proofs.lemmas.Cmp.{nat_cmp_total, nat_list_cmp_total, lists_total, on_total, then_total, tied_itself}
use Rattle.std.proofs.lemmas.Map.Lookups.{exact_unsigned}
use Rattle.coverage_db.specs.declared.address.SourceLine.{SourceLine}
use Rattle.coverage_db.specs.Order.{bytes_cmp}
use Rattle.coverage_db.specs.Same.{same_place}
use Rattle.cov_report.specs.Order.{place_cmp}
use Rattle.lcov_text.specs.declared.traced.Traced.{Traced}
use Rattle.lcov_text.specs.Points.{key, section}
use Rattle.lcov_text.specs.Views.{trace_view, traced_cmp, joined_traced}

-- ---- they are orders

pub traced_total : IsTotalOrder traced_cmp
traced_total = on_total (λ (point : Traced). key (trace_view point)) (lists_total nat_list_cmp_total)

pub joined_stays : (a b c : Traced) → traced_cmp (joined_traced a b) c ≡ traced_cmp a c
joined_stays a b c = refl

pub place_total : IsTotalOrder place_cmp
place_total = then_total (on_total (λ (at : SourceLine). at.source) nat_cmp_total) (on_total (λ (at : SourceLine). at.line) nat_cmp_total)

-- ---- equal places

then_equal : (u v : Ordering) → is_eq (ordering_then u v) ≡ (is_eq u && is_eq v)
then_equal Less v = refl
then_equal Equal v = refl
then_equal Greater v = refl

not_equal : (w : Ordering) → w ≢ Equal → is_eq w ≡ false
not_equal Less ne = refl
not_equal Equal ne = absurd (ne refl)
not_equal Greater ne = refl

numbers_equal : (x y : ℕ) → is_eq (nat_cmp x y) ≡ (x == y)
numbers_equal x y =
    elim (cases_Bool (x == y)) [
      | inl same ↦ ap is_eq (ap (nat_cmp x) (sym (eqb-true x y same)) ∙ tied_itself nat_cmp_total x) ∙ sym same
      | inr other ↦ not_equal (nat_cmp x y) (λ tied. false≢true (sym other ∙ eq-eqb x y (exact_unsigned x y tied))) ∙ sym other
    ]

pub places_equal : (a b : SourceLine) → is_eq (place_cmp a b) ≡ same_place a b
places_equal a b =
    then_equal (nat_cmp a.source b.source) (nat_cmp a.line b.line) ∙ ap (λ (t : Bool). t && is_eq (nat_cmp a.line b.line)) (numbers_equal a.source b.source) ∙ ap (λ (t : Bool). (a.source == b.source) && t) (numbers_equal a.line b.line)

pub other_place : (a b : SourceLine) → place_cmp a b ≢ Equal → same_place a b ≡ false
other_place a b ne = sym (places_equal a b) ∙ not_equal (place_cmp a b) ne

pub same_place_is : (a b : SourceLine) → place_cmp a b ≡ Equal → same_place a b ≡ true
same_place_is a b e = sym (places_equal a b) ∙ ap is_eq e

-- ---- the section decides first

first_part : (w v : Ordering) → ordering_then w v ≡ Less → is_gt w ≡ false
first_part Less v e = refl
first_part Equal v e = refl
first_part Greater v e = absurd cc

pub sections_rise : (a b : Traced) → traced_cmp a b ≡ Less → is_gt (bytes_cmp (section (trace_view a)) (section (trace_view b))) ≡ false
sections_rise a b e = first_part (bytes_cmp (section (trace_view a)) (section (trace_view b))) _ e
