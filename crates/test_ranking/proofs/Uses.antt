-- Laws of the tables that are used.
use Rattle.std.proofs.Common.{◌≡◌, ◌≢◌, ℕ, zero, suc, ◌<◌, ◌≤◌, ◌⊎◌, Bool, true, false, List, [], ◌∷◌, ◌++◌, length, refl, sym, ap, subst, ◌∙◌, inl, inr, arith, append-nil, append_assoc}
use Rattle.std.specs.Prelude.{All}
use Rattle.std.proofs.lemmas.Bool.{cases_order, false≢true, or_cases}
use Rattle.std.proofs.lemmas.List.Elements.{All-cons, All-nil, All-push}
use Rattle.std.proofs.lemmas.List.Sums.{fold_push}
use Rattle.test_ranking.specs.PointSet.{has, no_points, size, union}
use Rattle.test_ranking.specs.Ranking.{AreUsed, IsNext, IsRanking, NoneAdds, gain, hit_after, set_at, skipped_of}
use Rattle.test_ranking.specs.declared.ranking.Ranking.{Ranking}
use Rattle.test_ranking.specs.declared.ranking.Use.{Use}
use Rattle.test_ranking.proofs.SetLaws.{has-union, has-without, length-union, without-itself, without-union}

-- a table adds no more where more points are hit
pub gain_less : (tables : List (List Bool)) (hit set : List Bool) (place : ℕ) → gain tables (union hit set) place ≤ gain tables hit place
gain_less tables hit set place = without-union (set_at tables place) hit set

still_none : (tables : List (List Bool)) (hit set : List Bool) (place : ℕ) → gain tables hit place ≡ 0 → gain tables (union hit set) place ≡ 0
still_none tables hit set place none = omega (arith, none, gain_less tables hit set place)

not_next : (tables : List (List Bool)) (hit : List Bool) (next : Use) (table : ℕ) → IsNext tables hit next → gain tables hit table ≡ 0 → next.table ≢ table
not_next tables hit next table is none same =
    let added : next.added ≡ 0 = is.added ∙ ap (gain tables hit) same ∙ none in
    omega (arith, is.some, added)

-- a table that adds nothing is not used
none_used : (tables : List (List Bool)) (hit : List Bool) (table : ℕ) (uses : List Use) → gain tables hit table ≡ 0 → AreUsed tables hit uses → All (λ used. used.table ≢ table) uses
none_used tables hit table [] none are = All-nil (λ (used : Use). used.table ≢ table)
none_used tables hit table (next ∷ uses) none are =
    All-cons (λ (used : Use). used.table ≢ table) next uses (not_next tables hit next table are.0 none)
    (none_used tables (union hit (set_at tables next.table)) table uses (still_none tables hit (set_at tables next.table) table none) are.1)

-- a table is used once
pub used_once : (tables : List (List Bool)) (hit : List Bool) (before after : List Use) (used : Use) → AreUsed tables hit (before ++ used ∷ after) → All (λ later. later.table ≢ used.table) after
used_once tables hit [] after used are = none_used tables (union hit (set_at tables used.table)) used.table after (without-itself hit (set_at tables used.table)) are.1
used_once tables hit (next ∷ before) after used are = used_once tables (union hit (set_at tables next.table)) before after used are.1

-- each adds a point
pub each_adds : (tables : List (List Bool)) (hit : List Bool) (uses : List Use) → AreUsed tables hit uses → All (λ used. 1 ≤ used.added) uses
each_adds tables hit [] are = All-nil (λ (used : Use). 1 ≤ used.added)
each_adds tables hit (next ∷ uses) are = All-cons (λ (used : Use). 1 ≤ used.added) next uses are.0.some (each_adds tables (union hit (set_at tables next.table)) uses are.1)

-- ---- one ranking

same_use : (a b c x y z : ℕ) → a ≡ x → b ≡ y → c ≡ z → (◌≡◌ {A = Use}) (record { table = a; added = b; total = c }) (record { table = x; added = y; total = z })
same_use a b c x y z p q r = cc

one_next : (tables : List (List Bool)) (hit : List Bool) (a b : Use) → IsNext tables hit a → IsNext tables hit b → a.table ≡ b.table
one_next tables hit a b p q =
    elim (cases_order a.table b.table) [
      | inl same ↦ same
      | inr apart ↦ elim apart [
        | inl less ↦ absurd (omega (arith, q.first a.table less, p.most b.table q.listed, p.added, q.added))
        | inr less ↦ absurd (omega (arith, p.first b.table less, q.most a.table p.listed, p.added, q.added))
      ]
    ]

same_next : (tables : List (List Bool)) (hit : List Bool) (a b : Use) → IsNext tables hit a → IsNext tables hit b → a ≡ b
same_next tables hit a b p q =
    let table = one_next tables hit a b p q in
    same_use a.table a.added a.total b.table b.added b.total table (p.added ∙ ap (gain tables hit) table ∙ sym q.added)
    (p.total ∙ ap (λ (place : ℕ). size (union hit (set_at tables place))) table ∙ sym q.total)

none_next : (tables : List (List Bool)) (hit : List Bool) (next : Use) → NoneAdds tables hit → IsNext tables hit next → ⊥
none_next tables hit next none is = omega (arith, is.some, is.added, none next.table is.listed)

pub same_uses : (tables : List (List Bool)) (hit : List Bool) (a b : List Use) → AreUsed tables hit a → AreUsed tables hit b → a ≡ b
same_uses tables hit [] [] p q = refl
same_uses tables hit [] (v ∷ vs) p q = absurd (none_next tables hit v p q.0)
same_uses tables hit (u ∷ us) [] p q = absurd (none_next tables hit u q p.0)
same_uses tables hit (u ∷ us) (v ∷ vs) p q =
    let first : u ≡ v = same_next tables hit u v p.0 q.0 in
    let moved : AreUsed tables (union hit (set_at tables u.table)) vs = subst (λ (w : Use). AreUsed tables (union hit (set_at tables w.table)) vs) (sym first) q.1 in
    let rest : us ≡ vs = same_uses tables (union hit (set_at tables u.table)) us vs p.1 moved in
    cc

same_parts : (us vs : List Use) (ss ts : List ℕ) (a b m n : ℕ) → us ≡ vs → ss ≡ ts → a ≡ b → m ≡ n → (◌≡◌ {A = Ranking}) (record { used = us; skipped = ss; hit = a; points = m }) (record { used = vs; skipped = ts; hit = b; points = n })
same_parts us vs ss ts a b m n p q r s = cc

pub one_ranking : (points : ℕ) (tables : List (List Bool)) (a b : Ranking) → IsRanking points tables a → IsRanking points tables b → a ≡ b
one_ranking points tables a b p q =
    let used = same_uses tables (no_points points) a.used b.used p.used q.used in
    same_parts a.used b.used a.skipped b.skipped a.hit b.hit a.points b.points used
    (p.skipped ∙ ap (skipped_of (length tables)) used ∙ sym q.skipped)
    (p.hit ∙ ap (λ (uses : List Use). size (hit_after tables (no_points points) uses)) used ∙ sym q.hit)
    (p.points_are ∙ sym q.points_are)

-- ---- what is hit in the end

pub none_adds_after : (tables : List (List Bool)) (hit : List Bool) (uses : List Use) → AreUsed tables hit uses → NoneAdds tables (hit_after tables hit uses)
none_adds_after tables hit [] are = are
none_adds_after tables hit (next ∷ uses) are = none_adds_after tables (union hit (set_at tables next.table)) uses are.1

-- a table has the point at a place
abbrev pub IsInSome : List (List Bool) → ℕ → Type 0
IsInSome tables place = (table : ℕ) × (table < length tables) × (has (set_at tables table) place ≡ true)

-- each point that a table has is hit in the end
pub some_is_hit : (tables : List (List Bool)) (hit : List Bool) (uses : List Use) (place : ℕ) → AreUsed tables hit uses → IsInSome tables place → has (hit_after tables hit uses) place ≡ true
some_is_hit tables hit uses place are is = has-without (set_at tables is.0) (hit_after tables hit uses) place (none_adds_after tables hit uses are is.0 is.1) is.2

-- and each point that is hit in the end was hit at first, or a table has it
pub hit_is_some : (tables : List (List Bool)) (hit : List Bool) (uses : List Use) (place : ℕ) → AreUsed tables hit uses → has (hit_after tables hit uses) place ≡ true → (has hit place ≡ true) ⊎ IsInSome tables place
hit_is_some tables hit [] place are is = inl is
hit_is_some tables hit (next ∷ uses) place are is =
    elim (hit_is_some tables (union hit (set_at tables next.table)) uses place are.1 is) [
      | inl before ↦ elim (or_cases (has hit place) (has (set_at tables next.table) place) (sym (has-union hit (set_at tables next.table) place) ∙ before)) [
        | inl first ↦ inl first
        | inr own ↦ inr (next.table, are.0.listed, own)
      ]
      | inr some ↦ inr some
    ]

has_none : (points place : ℕ) → has (no_points points) place ≡ false
has_none zero place = refl
has_none (suc points) zero = refl
has_none (suc points) (suc place) = has_none points place

pub hit_is_in_some : (points : ℕ) (tables : List (List Bool)) (uses : List Use) (place : ℕ) → AreUsed tables (no_points points) uses → has (hit_after tables (no_points points) uses) place ≡ true → IsInSome tables place
hit_is_in_some points tables uses place are is =
    elim (hit_is_some tables (no_points points) uses place are is) [
      | inl first ↦ absurd (false≢true (sym (has_none points place) ∙ first))
      | inr some ↦ some
    ]

pub length-hit_after : (points : ℕ) (tables : List (List Bool)) (hit : List Bool) (uses : List Use) → All (λ set. length set ≡ points) tables → length hit ≡ points → AreUsed tables hit uses → length (hit_after tables hit uses) ≡ points
length-hit_after points tables hit [] sets long are = long
length-hit_after points tables hit (next ∷ uses) sets long are =
    let own : length (set_at tables next.table) ≡ points = sets next.table [] are.0.listed in
    length-hit_after points tables (union hit (set_at tables next.table)) uses sets (length-union hit (set_at tables next.table) (long ∙ sym own) ∙ long) are.1

-- ---- one more use

-- the uses so far, and then those that follow
pub record HasUsed (points : ℕ) (tables : List (List Bool)) (hit : List Bool) (uses : List Use) : Type 0 where
  pub goes_on : (later : List Use) → AreUsed tables hit later → AreUsed tables (no_points points) (uses ++ later)
  pub hit_is : hit ≡ hit_after tables (no_points points) uses
  pub listed : All (λ used. used.table < length tables) uses

-- at first nothing is used
pub HasUsed-none : (points : ℕ) (tables : List (List Bool)) (hit : List Bool) → hit ≡ no_points points → HasUsed points tables hit []
HasUsed-none points tables hit is = record {
  goes_on = λ later are. subst (λ (set : List Bool). AreUsed tables set later) is are;
  hit_is = is;
  listed = All-nil (λ (used : Use). used.table < length tables);
}

-- and then one more
pub HasUsed-more : (points : ℕ) (tables : List (List Bool)) (hit new : List Bool) (uses more : List Use) (next : Use) → HasUsed points tables hit uses → IsNext tables hit next → new ≡ union hit (set_at tables next.table) → more ≡ uses ++ next ∷ [] → HasUsed points tables new more
HasUsed-more points tables hit new uses more next so_far is joined pushed = record {
  goes_on = λ later are.
      subst (AreUsed tables (no_points points)) (sym (ap (λ (us : List Use). us ++ later) pushed ∙ append_assoc uses (next ∷ []) later))
      (so_far.goes_on (next ∷ later) (is, subst (λ (set : List Bool). AreUsed tables set later) joined are));
  hit_is = joined ∙ ap (λ (set : List Bool). union set (set_at tables next.table)) so_far.hit_is
      ∙ sym (ap (hit_after tables (no_points points)) pushed ∙ fold_push (λ (set : List Bool) (used : Use). union set (set_at tables used.table)) (no_points points) uses next);
  listed = subst (All (λ (used : Use). used.table < length tables)) (sym pushed) (All-push (λ (used : Use). used.table < length tables) uses next so_far.listed is.listed);
}

-- where no table adds a point, these are all
pub all_used : (points : ℕ) (tables : List (List Bool)) (hit : List Bool) (uses : List Use) → HasUsed points tables hit uses → NoneAdds tables hit → AreUsed tables (no_points points) uses
all_used points tables hit uses so_far none = subst (AreUsed tables (no_points points)) (append-nil uses) (so_far.goes_on [] none)
