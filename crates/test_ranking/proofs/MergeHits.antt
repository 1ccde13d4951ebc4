-- The points that a merge has hit.
use Rattle.std.proofs.Common.{◌≡◌, ℕ, zero, suc, ◌<◌, Bool, true, false, List, [], ◌∷◌, length, get_or, map, Some, refl, sym, ap, ◌∙◌, inl, inr, arith}
use Rattle.std.specs.Prelude.{All, option_map, slice_get}
use Rattle.std.proofs.lemmas.Bool.{false≢true}
use Rattle.std.proofs.lemmas.List.{length-map, length-replicate}
use Rattle.std.proofs.lemmas.Option.{same_Some}
use Rattle.coverage_db.specs.Merge.{HitInOne, merged, merged_all, merged_points}
use Rattle.coverage_db.specs.declared.db.Db.{Db}
use Rattle.coverage_db.specs.declared.db.DbPoint.{DbPoint}
use Rattle.coverage_db.specs.declared.verdict.DbVerdict.{DbVerdict}
use Rattle.coverage_db.specs.declared.verdict.DbVerdict.TheVariants.{Hit, Missed, Undetermined}
use Rattle.coverage_db.proofs.JoinLaws.{all_hit, hit_all}
use Rattle.test_ranking.specs.Hits.{hits_among, hits_of, is_hit}
use Rattle.test_ranking.specs.PointSet.{has, no_points}
use Rattle.test_ranking.specs.Ranking.{AreUsed, hit_after, set_at}
use Rattle.test_ranking.specs.declared.ranking.Use.{Use}
use Rattle.test_ranking.proofs.SetLaws.{same_sets}
use Rattle.test_ranking.proofs.Uses.{IsInSome, hit_is_in_some, length-hit_after, some_is_hit}

hit_verdict : (verdict : DbVerdict) → is_hit verdict ≡ true → verdict ≡ Hit
hit_verdict Hit is = refl
hit_verdict Missed is = absurd (false≢true is)
hit_verdict (Undetermined time path) is = absurd (false≢true is)

hit_there : (points : List DbPoint) (place : ℕ) → has (hits_among points) place ≡ true → option_map (λ p. p.verdict) (slice_get points place) ≡ Some Hit
hit_there [] place is = absurd (false≢true is)
hit_there (p ∷ points) zero is = ap (λ (v : DbVerdict). Some v) (hit_verdict p.verdict is)
hit_there (p ∷ points) (suc place) is = hit_there points place is

there_hit : (points : List DbPoint) (place : ℕ) → option_map (λ p. p.verdict) (slice_get points place) ≡ Some Hit → has (hits_among points) place ≡ true
there_hit [] place is = absurd (cc)
there_hit (p ∷ points) zero is = ap is_hit (same_Some p.verdict Hit is)
there_hit (p ∷ points) (suc place) is = there_hit points place is

one_has : (tables : List Db) (place : ℕ) → HitInOne place tables → IsInSome (map hits_of tables) place
one_has [] place hit = absurd hit
one_has (db ∷ tables) place (inl hit) = (0, omega arith, there_hit db.points place hit)
one_has (db ∷ tables) place (inr hit) = let other = one_has tables place hit in (suc other.0, (let less : other.0 < length (map hits_of tables) = other.1 in omega arith), other.2)

has_one : (tables : List Db) (table place : ℕ) → table < length (map hits_of tables) → has (set_at (map hits_of tables) table) place ≡ true → HitInOne place tables
has_one [] table place listed is = absurd (omega (arith, listed))
has_one (db ∷ tables) zero place listed is = inl (hit_there db.points place is)
has_one (db ∷ tables) (suc table) place listed is = inr (has_one tables table place (omega (arith, listed)) is)

merged_long : (ps qs : List DbPoint) → length ps ≡ length qs → length (merged_points ps qs) ≡ length ps
merged_long [] qs long = refl
merged_long (p ∷ ps) [] long = absurd (omega (arith, long))
merged_long (p ∷ ps) (q ∷ qs) long = ap suc (merged_long ps qs (omega (arith, long)))

-- a merge has as many points as its tables
long_merge : (first : Db) (others : List Db) → All (λ db. length first.points ≡ length db.points) others → length (merged_all first others).points ≡ length first.points
long_merge first [] each = refl
long_merge first (db ∷ others) each =
    let same : length first.points ≡ length db.points = each 0 db (omega arith) in
    let long = merged_long first.points db.points same in
    long_merge (merged first db) others (λ k d listed. long ∙ each (suc k) d (omega (arith, listed))) ∙ long

sets_long : (first : Db) (others : List Db) → All (λ db. length first.points ≡ length db.points) others → All (λ set. length set ≡ length first.points) (map hits_of (first ∷ others))
sets_long first others each = λ table d listed. go (first ∷ others) table d listed (λ k e l. own k e l)
  where
    own : (k : ℕ) (e : Db) → k < length (first ∷ others) → length first.points ≡ length (get_or (first ∷ others) k e).points
    own zero e l = refl
    own (suc k) e l = each k e (omega (arith, l))

    go : (tables : List Db) (table : ℕ) (d : List Bool) → table < length (map hits_of tables) → ((k : ℕ) (e : Db) → k < length tables → length first.points ≡ length (get_or tables k e).points) → length (get_or (map hits_of tables) table d) ≡ length first.points
    go [] table d listed all = absurd (omega (arith, listed))
    go (db ∷ tables) zero d listed all = length-map db.points (λ p. is_hit p.verdict) ∙ sym (all 0 db (omega arith))
    go (db ∷ tables) (suc table) d listed all = go tables table d (omega (arith, listed)) (λ k e l. all (suc k) e (omega (arith, l)))

-- the points that the used tables have hit are those of the merge of all
pub used_hits : (first : Db) (others : List Db) (uses : List Use) → All (λ db. length first.points ≡ length db.points) others → AreUsed (map hits_of (first ∷ others)) (no_points (length first.points)) uses
    → hit_after (map hits_of (first ∷ others)) (no_points (length first.points)) uses ≡ hits_of (merged_all first others)
used_hits first others uses each are =
    let tables = map hits_of (first ∷ others) in
    let points = length first.points in
    let whole = merged_all first others in
    let long : length (hit_after tables (no_points points) uses) ≡ points = length-hit_after points tables (no_points points) uses (sets_long first others each) (length-replicate points false) are in
    let as_long : length (hits_of whole) ≡ points = length-map whole.points (λ p. is_hit p.verdict) ∙ long_merge first others each in
    same_sets (hit_after tables (no_points points) uses) (hits_of whole) (long ∙ sym as_long)
    (λ place is. let some = hit_is_in_some points tables uses place are is in there_hit whole.points place (hit_all first others place each (has_one (first ∷ others) some.0 place some.1 some.2)))
    (λ place is. some_is_hit tables (no_points points) uses place are (one_has (first ∷ others) place (all_hit first others place each (hit_there whole.points place is))))
