-- The points that are not excluded are those of a table.
use Rattle.std.proofs.Common.{◌≤◌, Bool, true, false, List, [], ◌∷◌, length, All, arith}
use Rattle.std.proofs.lemmas.List.Elements.{All-cons, All-head, All-nil, All-tail}
use Rattle.coverage_db.specs.declared.db.Db.{Db}
use Rattle.coverage_db.specs.declared.db.DbPoint.{DbPoint}
use Rattle.coverage_db.specs.Table.{IsPoint, IsTable, Rises}
use Rattle.point_lookup.proofs.AddressOrder.{address_total, by_address, rises_tail}
use Rattle.db_tools.specs.Excluded.{unmarked, without}

kept_all : {X : Type 0} (P : X → Type 0) (xs : List X) (marks : List Bool) → All P xs → All P (unmarked xs marks)
kept_all P [] marks all = All-nil P
kept_all P (x ∷ xs) [] all = All-nil P
kept_all P (x ∷ xs) (true ∷ marks) all = kept_all P xs marks (All-tail P x xs all)
kept_all P (x ∷ xs) (false ∷ marks) all = All-cons P x (unmarked xs marks) (All-head P x xs all) (kept_all P xs marks (All-tail P x xs all))

kept_few : {X : Type 0} (xs : List X) (marks : List Bool) → length (unmarked xs marks) ≤ length xs
kept_few [] marks = omega arith
kept_few (x ∷ xs) [] = omega arith
kept_few (x ∷ xs) (true ∷ marks) = let more = kept_few xs marks in omega (arith, more)
kept_few (x ∷ xs) (false ∷ marks) = let more = kept_few xs marks in omega (arith, more)

-- the second of points that rise may be left out
without_second : (x y : DbPoint) (ys : List DbPoint) → Rises by_address (x ∷ y ∷ ys) → Rises by_address (x ∷ ys)
without_second x y [] rises = tt
without_second x y (z ∷ zs) rises = (address_total.trans x.address y.address z.address rises.0 rises.1.0, rises.1.1)

kept_after : (x : DbPoint) (xs : List DbPoint) (marks : List Bool) → Rises by_address (x ∷ xs) → Rises by_address (x ∷ unmarked xs marks)
kept_after x [] marks rises = tt
kept_after x (y ∷ ys) [] rises = tt
kept_after x (y ∷ ys) (true ∷ marks) rises = kept_after x ys marks (without_second x y ys rises)
kept_after x (y ∷ ys) (false ∷ marks) rises = (rises.0, kept_after y ys marks rises.1)

kept_rise : (xs : List DbPoint) (marks : List Bool) → Rises by_address xs → Rises by_address (unmarked xs marks)
kept_rise [] marks rises = tt
kept_rise (x ∷ xs) [] rises = tt
kept_rise (x ∷ xs) (true ∷ marks) rises = kept_rise xs marks (rises_tail x xs rises)
kept_rise (x ∷ xs) (false ∷ marks) rises = kept_after x xs marks rises

pub visible_table : (db : Db) (marks : List Bool) → IsTable db → IsTable (without db marks)
visible_table db marks t =
    let few = kept_few db.points marks in
    record {
      top = t.top;
      sources = t.sources;
      instances = t.instances;
      points = kept_all (IsPoint (length db.sources) db.instances) db.points marks t.points;
      some_source = t.some_source;
      some_instance = t.some_instance;
      instances_rise = t.instances_rise;
      points_rise = kept_rise db.points marks t.points_rise;
      lines = omega (arith, few, t.lines);
      windows = t.windows;
    }
