-- Excluding and restoring points, one after another.
use Rattle.std.proofs.Common.{◌≡◌, ◌≢◌, ℕ, ◌<◌, ◌∙◌, Bool, true, false, List, [], ◌∷◌, length, get_or, set, Option, Some, None, inl, inr, refl, sym, ap, subst}
use Rattle.std.proofs.lemmas.Bool.{cases_lt}
use Rattle.std.proofs.lemmas.List.{get_or-set_other, get_or-set_same, get_or_default, get_or_past, set-get_or, set-set, set_comm}
use Rattle.std.proofs.lemmas.Option.{same_Some}
use Rattle.point_lookup.specs.Lookup.{place_of}
use Rattle.db_tools.specs.Changes.{ExcludesAll, IsReordered, RestoresAll, nothing, after, swapped, and_then}
use Rattle.db_tools.specs.Excluded.{ExcludeRefuses, Excludes, Exclusion, Remarks, RestoreRefuses, Restores}
use Rattle.db_tools.specs.declared.fault.ToolFault.{ToolFault}
use Rattle.db_tools.specs.declared.fault.ToolFault.TheVariants.{NoPoint, AlreadyOut, NotOut}

-- a mark other than the default is there
there : (marks : List Bool) (place : ℕ) (default mark : Bool) → get_or marks place default ≡ mark → default ≢ mark → place < length marks
there marks place default mark is other =
    elim (cases_lt place (length marks)) [
      | inl within ↦ within
      | inr past ↦ absurd (other (sym (get_or_past marks place default past) ∙ is))
    ]

true_other : true ≢ false
true_other same = cc

false_other : false ≢ true
false_other same = cc

-- marks with one of them set otherwise and back
marks_back : (marks : List Bool) (place : ℕ) → get_or marks place true ≡ false → set (set marks place true) place false ≡ marks
marks_back marks place was =
    let kept : set marks place false ≡ marks = ap (set marks place) (sym was) ∙ set-get_or marks place true in
    set-set marks place true false ∙ kept

same_table : (address : List ℕ) (before later : Bool) (old new : Exclusion) → Remarks address before later old new → new.table ≡ old.table
same_table address before later old new r = ap (λ (e : Exclusion). e.table) r.now

same_marks : (address : List ℕ) (before later : Bool) (old new : Exclusion) (r : Remarks address before later old new) → new.marks ≡ set old.marks r.place later
same_marks address before later old new r = ap (λ (e : Exclusion). e.marks) r.now

with_marks : (e other : Exclusion) → e.table ≡ other.table → e.marks ≡ other.marks → e ≡ other
with_marks e other tables marks =
    let first : e ≡ record e { marks = other.marks } = ap (λ (m : List Bool). record e { marks = m }) marks in
    first ∙ ap (λ t. record other { table = t }) tables

-- a point that was excluded is restored
pub undo : (address : List ℕ) (old new : Exclusion) → Excludes address old new → Restores address new old
undo address old new r =
    let marks = same_marks address false true old new r in
    let within = there old.marks r.place true false r.was true_other in
    record {
      place = r.place;
      found = ap (λ t. place_of t address) (same_table address false true old new r) ∙ r.found;
      was = ap (λ (m : List Bool). get_or m r.place false) marks ∙ get_or-set_same old.marks r.place true false within;
      now = with_marks old (record new { marks = set new.marks r.place false }) (sym (same_table address false true old new r)) (sym (ap (λ (m : List Bool). set m r.place false) marks ∙ marks_back old.marks r.place r.was));
    }

-- restoring a point gives one value
one_restored : (address : List ℕ) (old new other : Exclusion) → Restores address old new → Restores address old other → other ≡ new
one_restored address old new other r s =
    let places : s.place ≡ r.place = same_Some s.place r.place (sym s.found ∙ r.found) in
    s.now ∙ ap (λ (n : ℕ). record old { marks = set old.marks n false }) places ∙ sym r.now

-- two points excluded in the other order
record Exchanged (a b : List ℕ) (old new : Exclusion) : Type 0 where
  pub middle : Exclusion
  pub first : Excludes b old middle
  pub second : Excludes a middle new

exchange : (a b : List ℕ) (old middle new : Exclusion) → Excludes a old middle → Excludes b middle new → Exchanged a b old new
exchange a b old middle new r s =
    let p = r.place in
    let q = s.place in
    let marks = same_marks a false true old middle r in
    let within = there old.marks p true false r.was true_other in
    let was : get_or (set old.marks p true) q true ≡ false = ap (λ (m : List Bool). get_or m q true) (sym marks) ∙ s.was in
    let apart : q ≢ p = λ same.
    let bad : true ≡ false = sym (get_or-set_same old.marks p true true within) ∙ ap (λ (n : ℕ). get_or (set old.marks p true) n true) (sym same) ∙ was in
    cc in
    let other : p ≢ q = λ same. apart (sym same) in
    let new_middle : Exclusion = record old { marks = set old.marks q true } in
    let final : new.marks ≡ set (set old.marks q true) p true = same_marks b false true middle new s ∙ ap (λ (m : List Bool). set m q true) marks ∙ set_comm old.marks p q true true other in
    let tables : new.table ≡ old.table = same_table b false true middle new s ∙ same_table a false true old middle r in
    record {
      middle = new_middle;
      first = record {
        place = q;
        found = sym (ap (λ t. place_of t b) (same_table a false true old middle r)) ∙ s.found;
        was = sym (get_or-set_other old.marks p q true true apart) ∙ was;
        now = refl;
      };
      second = record {
        place = p;
        found = r.found;
        was = get_or-set_other old.marks q p true true other ∙ r.was;
        now = with_marks new (record new_middle { marks = set new_middle.marks p true }) tables final;
      };
    }

pub reordered : (old new : Exclusion) {addresses others : List (List ℕ)} → IsReordered addresses others → ExcludesAll addresses old new → ExcludesAll others old new
reordered old new nothing all = all
reordered old new (after x {xs} {ys} same) all = (all.0, all.1, reordered all.0 new same all.2)
reordered old new (swapped x y xs) all =
    let s = exchange x y old all.0 all.2.0 all.1 all.2.1 in
    (s.middle, s.first, (all.2.0, s.second, all.2.2))
reordered old new (and_then one two) all = reordered old new two (reordered old new one all)

-- the first point excluded last
record Postponed (address : List ℕ) (more : List (List ℕ)) (old new : Exclusion) : Type 0 where
  pub last : Exclusion
  pub others : ExcludesAll more old last
  pub excludes : Excludes address last new

postpone : (address : List ℕ) (more : List (List ℕ)) (old next new : Exclusion) → Excludes address old next → ExcludesAll more next new → Postponed address more old new
postpone address [] old next new r all = record { last = old; others = refl; excludes = subst (λ e. Excludes address old e) (sym all) r }
postpone address (other ∷ more) old next new r all =
    let s = exchange address other old next all.0 r all.1 in
    let later = postpone address more s.middle all.0 new s.second all.2 in
    record { last = later.last; others = (s.middle, s.first, later.others); excludes = later.excludes }

-- points that were excluded are restored, in the same order
pub all_restored : (addresses : List (List ℕ)) (old new : Exclusion) → ExcludesAll addresses old new → RestoresAll addresses new old
all_restored [] old new all = sym all
all_restored (address ∷ more) old new all =
    let s = postpone address more old all.0 new all.1 all.2 in
    (s.last, undo address s.last new s.excludes, all_restored more old s.last s.others)

-- restoring points gives one value
pub one_all : (addresses : List (List ℕ)) (old new other : Exclusion) → RestoresAll addresses old new → RestoresAll addresses old other → other ≡ new
one_all [] old new other all every = every ∙ sym all
one_all (address ∷ more) old new other all every =
    let same = one_restored address old all.0 every.0 all.1 every.1 in
    one_all more all.0 new other all.2 (subst (λ e. RestoresAll more e other) same every.2)

-- ---- refusals

not_there : (o : Option ℕ) (place : ℕ) → o ≡ Some place → o ≡ None → ⊥
not_there o place some none = let bad : ◌≡◌ {A = Option ℕ} (Some place) None = sym some ∙ none in cc

-- a point that can be excluded is not refused
pub no_exclude_refusal : (address : List ℕ) (old new : Exclusion) (fault : ToolFault) → Excludes address old new → ExcludeRefuses address old fault → ⊥
no_exclude_refusal address old new NoPoint r refused = not_there (place_of old.table address) r.place r.found refused
no_exclude_refusal address old new AlreadyOut r refused =
    let places : refused.place ≡ r.place = same_Some refused.place r.place (sym refused.found ∙ r.found) in
    let within = there old.marks r.place true false r.was true_other in
    let is : get_or old.marks r.place false ≡ true = ap (λ (n : ℕ). get_or old.marks n false) (sym places) ∙ refused.is in
    let bad : true ≡ false = sym is ∙ get_or_default old.marks r.place false true within ∙ r.was in
    cc
no_exclude_refusal address old new NotOut r refused = refused

-- a point that can be restored is not refused
pub no_restore_refusal : (address : List ℕ) (old new : Exclusion) (fault : ToolFault) → Restores address old new → RestoreRefuses address old fault → ⊥
no_restore_refusal address old new NoPoint r refused = not_there (place_of old.table address) r.place r.found refused
no_restore_refusal address old new AlreadyOut r refused = refused
no_restore_refusal address old new NotOut r refused =
    let places : refused.place ≡ r.place = same_Some refused.place r.place (sym refused.found ∙ r.found) in
    let within = there old.marks r.place false true r.was false_other in
    let is : get_or old.marks r.place true ≡ false = ap (λ (n : ℕ). get_or old.marks n true) (sym places) ∙ refused.is in
    let bad : false ≡ true = sym is ∙ get_or_default old.marks r.place true false within ∙ r.was in
    cc
