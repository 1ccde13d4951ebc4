-- The laws of the merge.
use Rattle.std.proofs.Common.{◌≡◌, ℕ, zero, suc, Bool, true, false, cond, List, [], ◌∷◌, map, length, All, Option, Some, refl, sym, ap, subst, ◌∙◌, ◌⊎◌, inl, inr, arith}
use Rattle.std.specs.Prelude.{slice_get, option_map}
use Rattle.std.specs.declared.cmp.Ordering.{Ordering}
use Rattle.std.specs.declared.cmp.Ordering.TheVariants.{Less, Equal, Greater}
use Rattle.std.specs.Cmp.{IsTotalOrder}
use Rattle.std.specs.Ordering.{nat_cmp, ordering_then, ordering_reverse, is_gt}
use Rattle.std.proofs.lemmas.Bool.{cases_Bool}
use Rattle.std.proofs.lemmas.Cmp.{upto, nat_cmp_total, nat_list_cmp_total, on_total, then_total}
use Rattle.std.proofs.lemmas.List.Elements.{All-head, All-tail}
use Rattle.std.proofs.lemmas.Map.Lookups.{exact_pairs, exact_unsigned, exact_bytes}
use Rattle.std.proofs.lemmas.Option.{same_Some}
use Rattle.coverage_db.specs.declared.address.Address.{Address}
use Rattle.coverage_db.specs.declared.db.Db.{Db}
use Rattle.coverage_db.specs.declared.db.DbInstance.{DbInstance}
use Rattle.coverage_db.specs.declared.db.DbPoint.{DbPoint}
use Rattle.coverage_db.specs.declared.verdict.DbVerdict.{DbVerdict}
use Rattle.coverage_db.specs.declared.verdict.DbVerdict.TheVariants.{Hit, Missed, Undetermined}
use Rattle.coverage_db.specs.declared.window.Window.{Window}
use Rattle.coverage_db.specs.Merge.{bare_lines, doubt_cmp, lesser, joined, merged_points, merged, merged_all, verdict_at, HitInOne}
use Rattle.coverage_db.specs.Order.{bytes_cmp}
use Rattle.coverage_db.specs.Table.{IsTable}
use Rattle.coverage_db.specs.Windows.{joined_windows}
use Rattle.coverage_db.proofs.MergeLaws.{same_alike}
use Rattle.coverage_db.proofs.WindowLaws.{windows_comm, windows_assoc, windows_itself}

-- ---- doubts

abbrev Doubt : Type 0
Doubt = ℕ × List ℕ

abbrev by_doubt : Doubt → Doubt → Ordering
by_doubt x y = ordering_then (nat_cmp x.0 y.0) (bytes_cmp x.1 y.1)

doubts_total : IsTotalOrder by_doubt
doubts_total = then_total (on_total (λ (x : Doubt). x.0) nat_cmp_total) (on_total (λ (x : Doubt). x.1) nat_list_cmp_total)

same_doubt : (x y : Doubt) → by_doubt x y ≡ Equal → x ≡ y
same_doubt x y e = exact_pairs nat_cmp bytes_cmp exact_unsigned exact_bytes x y e

abbrev least : Doubt → Doubt → Doubt
least x y = cond (is_gt (by_doubt x y)) y x

abbrev doubted : Doubt → DbVerdict
doubted x = Undetermined x.0 x.1

lesser_is : (x y : Doubt) → lesser x.0 x.1 y.0 y.1 ≡ doubted (least x y)
lesser_is x y =
    elim (cases_Bool (is_gt (by_doubt x y))) [
      | inl greater ↦ rw greater refl
      | inr other ↦ rw other refl
    ]

least_comm_by : (x y : Doubt) (o : Ordering) → by_doubt x y ≡ o → least x y ≡ least y x
least_comm_by x y Less e =
    let back : by_doubt y x ≡ Greater = doubts_total.antisymm y x ∙ ap ordering_reverse e in
    ap (λ (o : Ordering). cond (is_gt o) y x) e ∙ sym (ap (λ (o : Ordering). cond (is_gt o) x y) back)
least_comm_by x y Equal e = let same = same_doubt x y e in subst (λ (z : Doubt). least x z ≡ least z x) same refl
least_comm_by x y Greater e =
    let back : by_doubt y x ≡ Less = doubts_total.antisymm y x ∙ ap ordering_reverse e in
    ap (λ (o : Ordering). cond (is_gt o) y x) e ∙ sym (ap (λ (o : Ordering). cond (is_gt o) x y) back)

greater_is : (o : Ordering) → is_gt o ≡ true → o ≡ Greater
greater_is Less e = absurd cc
greater_is Equal e = absurd cc
greater_is Greater e = refl

least_first : (x y : Doubt) → is_gt (by_doubt x y) ≡ false → least x y ≡ x
least_first x y e = ap (λ (b : Bool). cond b y x) e

least_second : (x y : Doubt) → is_gt (by_doubt x y) ≡ true → least x y ≡ y
least_second x y e = ap (λ (b : Bool). cond b y x) e

beyond : (x y z : Doubt) → is_gt (by_doubt x y) ≡ true → is_gt (by_doubt y z) ≡ true → is_gt (by_doubt x z) ≡ true
beyond x y z p q =
    let one : by_doubt y x ≡ Less = doubts_total.antisymm y x ∙ ap ordering_reverse (greater_is (by_doubt x y) p) in
    let two : by_doubt z y ≡ Less = doubts_total.antisymm z y ∙ ap ordering_reverse (greater_is (by_doubt y z) q) in
    let three : by_doubt z x ≡ Less = doubts_total.trans z y x two one in
    let back : by_doubt x z ≡ Greater = doubts_total.antisymm x z ∙ ap ordering_reverse three in
    ap is_gt back

least_assoc : (x y z : Doubt) → least (least x y) z ≡ least x (least y z)
least_assoc x y z =
    elim (cases_Bool (is_gt (by_doubt x y))) [
      | inl a ↦ elim (cases_Bool (is_gt (by_doubt y z))) [
        | inl b ↦ ap (λ (w : Doubt). least w z) (least_second x y a) ∙ least_second y z b ∙ sym (ap (least x) (least_second y z b) ∙ least_second x z (beyond x y z a b))
        | inr b ↦ ap (λ (w : Doubt). least w z) (least_second x y a) ∙ least_first y z b ∙ sym (ap (least x) (least_first y z b) ∙ least_second x y a)
      ]
      | inr a ↦ elim (cases_Bool (is_gt (by_doubt y z))) [
        | inl b ↦ ap (λ (w : Doubt). least w z) (least_first x y a) ∙ sym (ap (least x) (least_second y z b))
        | inr b ↦ ap (λ (w : Doubt). least w z) (least_first x y a) ∙ least_first x z (upto doubts_total x y z a b) ∙ sym (ap (least x) (least_first y z b) ∙ least_first x y a)
      ]
    ]

-- ---- verdicts

joined_comm : (u v : DbVerdict) → joined u v ≡ joined v u
joined_comm Hit Hit = refl
joined_comm Hit Missed = refl
joined_comm Hit (Undetermined t a) = refl
joined_comm Missed Hit = refl
joined_comm Missed Missed = refl
joined_comm Missed (Undetermined t a) = refl
joined_comm (Undetermined t a) Hit = refl
joined_comm (Undetermined t a) Missed = refl
joined_comm (Undetermined t a) (Undetermined s b) = lesser_is (t, a) (s, b) ∙ ap doubted (least_comm_by (t, a) (s, b) (by_doubt (t, a) (s, b)) refl) ∙ sym (lesser_is (s, b) (t, a))

joined_assoc : (u v w : DbVerdict) → joined (joined u v) w ≡ joined u (joined v w)
joined_assoc Hit v w = refl
joined_assoc Missed v w = refl
joined_assoc (Undetermined t a) Hit w = refl
joined_assoc (Undetermined t a) Missed w = refl
joined_assoc (Undetermined t a) (Undetermined s b) Hit = ap (λ (v : DbVerdict). joined v Hit) (lesser_is (t, a) (s, b))
joined_assoc (Undetermined t a) (Undetermined s b) Missed = ap (λ (v : DbVerdict). joined v Missed) (lesser_is (t, a) (s, b)) ∙ sym (lesser_is (t, a) (s, b))
joined_assoc (Undetermined t a) (Undetermined s b) (Undetermined r c) =
    ap (λ (v : DbVerdict). joined v (Undetermined r c)) (lesser_is (t, a) (s, b)) ∙ lesser_is (least (t, a) (s, b)) (r, c) ∙ ap doubted (least_assoc (t, a) (s, b) (r, c))
    ∙ sym (ap (joined (Undetermined t a)) (lesser_is (s, b) (r, c)) ∙ lesser_is (t, a) (least (s, b) (r, c)))

joined_itself : (u : DbVerdict) → joined u u ≡ u
joined_itself Hit = refl
joined_itself Missed = refl
joined_itself (Undetermined t a) = elim (cases_Bool (is_gt (doubt_cmp t a t a))) [ inl greater ↦ rw greater refl | inr other ↦ rw other refl ]

-- ---- points and tables

abbrev made : Address → DbVerdict → DbPoint
made address verdict = record { address = address; verdict = verdict }

cons_point : {x y : DbPoint} {xs ys : List DbPoint} → x ≡ y → xs ≡ ys → x ∷ xs ≡ y ∷ ys
cons_point p q = cc

points_comm : (ps qs : List DbPoint) → map (λ p. p.address) ps ≡ map (λ p. p.address) qs → merged_points ps qs ≡ merged_points qs ps
points_comm [] [] e = refl
points_comm [] (q ∷ qs) e = refl
points_comm (p ∷ ps) [] e = refl
points_comm (p ∷ ps) (q ∷ qs) e =
    let first : p.address ≡ q.address = cc in
    let rest : map (λ (x : DbPoint). x.address) ps ≡ map (λ (x : DbPoint). x.address) qs = cc in
    cons_point (ap (λ (a : Address). made a (joined p.verdict q.verdict)) first ∙ ap (made q.address) (joined_comm p.verdict q.verdict)) (points_comm ps qs rest)

points_assoc : (ps qs rs : List DbPoint) → merged_points (merged_points ps qs) rs ≡ merged_points ps (merged_points qs rs)
points_assoc [] qs rs = refl
points_assoc (p ∷ ps) [] rs = refl
points_assoc (p ∷ ps) (q ∷ qs) [] = refl
points_assoc (p ∷ ps) (q ∷ qs) (r ∷ rs) = cons_point (ap (made p.address) (joined_assoc p.verdict q.verdict r.verdict)) (points_assoc ps qs rs)

points_itself : (ps : List DbPoint) → merged_points ps ps ≡ ps
points_itself [] = refl
points_itself (p ∷ ps) = cons_point (ap (made p.address) (joined_itself p.verdict)) (points_itself ps)

abbrev db_of : List ℕ → List (List ℕ) → List DbInstance → List DbPoint → List Window → Db
db_of top sources instances points windows = record { top = top; sources = sources; instances = instances; points = points; windows = windows }

pub merged_comm : (a b : Db) → IsTable a → IsTable b → bare_lines a ≡ bare_lines b → merged a b ≡ merged b a
merged_comm a b p q same =
    let k = same_alike a b p q same in
    let windows : List Window = joined_windows a.windows b.windows in
    ap (λ (t : List ℕ). db_of t a.sources a.instances (merged_points a.points b.points) windows) k.top
    ∙ ap (λ (s : List (List ℕ)). db_of b.top s a.instances (merged_points a.points b.points) windows) k.sources
    ∙ ap (λ (i : List DbInstance). db_of b.top b.sources i (merged_points a.points b.points) windows) k.instances
    ∙ ap (λ (ps : List DbPoint). db_of b.top b.sources b.instances ps windows) (points_comm a.points b.points k.addresses)
    ∙ ap (db_of b.top b.sources b.instances (merged_points b.points a.points)) (windows_comm a.windows b.windows)

pub merged_assoc : (a b c : Db) → merged (merged a b) c ≡ merged a (merged b c)
merged_assoc a b c =
    ap (λ (ps : List DbPoint). db_of a.top a.sources a.instances ps (joined_windows (joined_windows a.windows b.windows) c.windows)) (points_assoc a.points b.points c.points)
    ∙ ap (db_of a.top a.sources a.instances (merged_points a.points (merged_points b.points c.points))) (windows_assoc a.windows b.windows c.windows)

pub merged_itself : (a : Db) → IsTable a → merged a a ≡ a
merged_itself a table =
    ap (λ (ps : List DbPoint). db_of a.top a.sources a.instances ps (joined_windows a.windows a.windows)) (points_itself a.points)
    ∙ ap (db_of a.top a.sources a.instances a.points) (windows_itself a.windows table.windows.rise)

-- ---- a point is hit where one table has it hit

joined_hit : (u v : DbVerdict) → joined u v ≡ Hit → (u ≡ Hit) ⊎ (v ≡ Hit)
joined_hit Hit v e = inl refl
joined_hit Missed v e = inr e
joined_hit (Undetermined t a) Hit e = inr refl
joined_hit (Undetermined t a) Missed e = absurd cc
joined_hit (Undetermined t a) (Undetermined s b) e = absurd (let bad : doubted (least (t, a) (s, b)) ≡ Hit = sym (lesser_is (t, a) (s, b)) ∙ e in cc)

hit_joined : (u v : DbVerdict) → (u ≡ Hit) ⊎ (v ≡ Hit) → joined u v ≡ Hit
hit_joined u v (inl e) = rw e refl
hit_joined u v (inr e) = joined_comm u v ∙ rw e refl

abbrev at_place : ℕ → List DbPoint → Option DbVerdict
at_place place points = option_map (λ p. p.verdict) (slice_get points place)

points_hit : (ps qs : List DbPoint) (place : ℕ) → length ps ≡ length qs → at_place place (merged_points ps qs) ≡ Some Hit → (at_place place ps ≡ Some Hit) ⊎ (at_place place qs ≡ Some Hit)
points_hit [] qs place long e = absurd cc
points_hit (p ∷ ps) [] place long e = absurd cc
points_hit (p ∷ ps) (q ∷ qs) zero long e =
    elim (joined_hit p.verdict q.verdict (same_Some (joined p.verdict q.verdict) Hit e)) [
      | inl a ↦ inl (ap (λ (v : DbVerdict). Some v) a)
      | inr b ↦ inr (ap (λ (v : DbVerdict). Some v) b)
    ]
points_hit (p ∷ ps) (q ∷ qs) (suc place) long e = points_hit ps qs place (omega arith) e

hit_points : (ps qs : List DbPoint) (place : ℕ) → length ps ≡ length qs → (at_place place ps ≡ Some Hit) ⊎ (at_place place qs ≡ Some Hit) → at_place place (merged_points ps qs) ≡ Some Hit
hit_points [] [] place long (inl e) = e
hit_points [] [] place long (inr e) = e
hit_points [] (q ∷ qs) place long e = absurd (omega arith)
hit_points (p ∷ ps) [] place long e = absurd (omega arith)
hit_points (p ∷ ps) (q ∷ qs) zero long (inl e) = ap (λ (v : DbVerdict). Some v) (hit_joined p.verdict q.verdict (inl (same_Some p.verdict Hit e)))
hit_points (p ∷ ps) (q ∷ qs) zero long (inr e) = ap (λ (v : DbVerdict). Some v) (hit_joined p.verdict q.verdict (inr (same_Some q.verdict Hit e)))
hit_points (p ∷ ps) (q ∷ qs) (suc place) long (inl e) = hit_points ps qs place (omega arith) (inl e)
hit_points (p ∷ ps) (q ∷ qs) (suc place) long (inr e) = hit_points ps qs place (omega arith) (inr e)

merged_long : (ps qs : List DbPoint) → length ps ≡ length qs → length (merged_points ps qs) ≡ length ps
merged_long [] qs long = refl
merged_long (p ∷ ps) [] long = absurd (omega arith)
merged_long (p ∷ ps) (q ∷ qs) long = ap (λ (n : ℕ). suc n) (merged_long ps qs (omega arith))

abbrev SameLength : Db → List Db → Type 0
SameLength first others = All (λ db. length first.points ≡ length db.points) others

later_long : (first db : Db) (others : List Db) → SameLength first (db ∷ others) → SameLength (merged first db) others
later_long first db others each =
    let one = All-head (λ (x : Db). length first.points ≡ length x.points) db others each in
    λ k d within. merged_long first.points db.points one ∙ All-tail (λ (x : Db). length first.points ≡ length x.points) db others each k d within

pub all_hit : (first : Db) (others : List Db) (place : ℕ) → SameLength first others → verdict_at place (merged_all first others) ≡ Some Hit → HitInOne place (first ∷ others)
all_hit first [] place each e = inl e
all_hit first (db ∷ others) place each e =
    let one = All-head (λ (x : Db). length first.points ≡ length x.points) db others each in
    elim (all_hit (merged first db) others place (later_long first db others each) e) [
      | inl here ↦ elim (points_hit first.points db.points place one here) [ inl a ↦ inl a | inr b ↦ inr (inl b) ]
      | inr later ↦ inr (inr later)
    ]

pub hit_all : (first : Db) (others : List Db) (place : ℕ) → SameLength first others → HitInOne place (first ∷ others) → verdict_at place (merged_all first others) ≡ Some Hit
hit_all first [] place each (inl e) = e
hit_all first [] place each (inr e) = absurd e
hit_all first (db ∷ others) place each (inl e) =
    let one = All-head (λ (x : Db). length first.points ≡ length x.points) db others each in
    hit_all (merged first db) others place (later_long first db others each) (inl (hit_points first.points db.points place one (inl e)))
hit_all first (db ∷ others) place each (inr (inl e)) =
    let one = All-head (λ (x : Db). length first.points ≡ length x.points) db others each in
    hit_all (merged first db) others place (later_long first db others each) (inl (hit_points first.points db.points place one (inr e)))
hit_all first (db ∷ others) place each (inr (inr e)) = hit_all (merged first db) others place (later_long first db others each) (inr e)
