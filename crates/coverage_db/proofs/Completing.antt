-- What the lines of a table make of a draft.
use Rattle.std.proofs.Common.{◌≡◌, ◌≢◌, ℕ, ◌+◌, ◌^◌, ◌<◌, true, false, eqb, List, [], ◌∷◌, ◌++◌, map, length, All, Some, None, Result, Ok, Err, refl, sym, ap, subst, ◌∙◌, append_assoc, ◌⊎◌, inl, inr, arith}
use Rattle.std.specs.Prelude.{bytes_eq, decimal, codes, IsTrue}
use Rattle.std.specs.Global.{Global}
use Rattle.std.proofs.lemmas.Bool.{cases_Bool}
use Rattle.std.proofs.lemmas.Bool.Decides.{nat_tests}
use Rattle.std.proofs.lemmas.List.{append-nil, length-append}
use Rattle.std.proofs.lemmas.List.Elements.{All-head, All-tail}
use Rattle.std.proofs.lemmas.Slice.Eq.{bytes_eq-Decides}
use Rattle.cov_host.specs.Identifier.{is_identifier}
use Rattle.coverage_db.specs.declared.address.Subject.{Subject}
use Rattle.coverage_db.specs.declared.address.Subject.TheVariants.{Line, Logic, Toggle, State, Arc, Word}
use Rattle.coverage_db.specs.declared.db.Db.{Db}
use Rattle.coverage_db.specs.declared.db.DbInstance.{DbInstance}
use Rattle.coverage_db.specs.declared.db.DbPoint.{DbPoint}
use Rattle.coverage_db.specs.declared.draft.Draft.{Draft}
use Rattle.coverage_db.specs.declared.draft.Stage.{Stage}
use Rattle.coverage_db.specs.declared.draft.Stage.TheVariants as stage
use Rattle.coverage_db.specs.declared.fault.DbFault.{DbFault}
use Rattle.coverage_db.specs.declared.fault.DbFault.TheVariants.{At}
use Rattle.coverage_db.specs.declared.fault.DbKind.TheVariants.{WrongCount}
use Rattle.coverage_db.specs.declared.version.Version.{Version}
use Rattle.coverage_db.specs.declared.version.Version.TheVariants as version
use Rattle.coverage_db.specs.declared.window.Window.{Window}
use Rattle.coverage_db.specs.Drafting.{source_of, count_of, with_source, with_instance, with_point, with_window, next_version, next_top, next_source, next_instance, next_count, next_point, next_counted, next_window_count, next_window, next_windows_counted, next_end, next, start}
use Rattle.coverage_db.specs.Fields.{is_plain}
use Rattle.coverage_db.specs.Table.{Rises, IsInstance, IsPoint, IsSpan, IsTable, is_file_name}
use Rattle.coverage_db.specs.Text.{begins_point, begins_window, version_line, top_line, source_line, source_lines, instance_line, count_line, point_line, window_count_line, window_line, lines_to_points, lines_to_windows, lines_with_counts}
use Rattle.coverage_db.specs.Windows.{window_cmp}
use Rattle.coverage_db.proofs.DraftLaws.{by_address, known_again, top_again, source_again, instance_line_again, count_again, window_count_again, window_again, follows_in}
use Rattle.coverage_db.proofs.PathSearch.{by_path, same_path}
use Rattle.coverage_db.proofs.PointLaws.{point_again}

-- what the lines from this number on make of a draft
abbrev pub bind : {X : Type 0} → Result Draft DbFault → (Draft → Result X DbFault) → Result X DbFault
bind (Ok d) f = f d
bind (Err fault) f = Err fault

abbrev pub steps : ℕ → Draft → List (List ℕ) → Result Draft DbFault
steps n d [] = Ok d
steps n d (line ∷ lines) = bind (next n d line) (λ new. steps (n + 1) new lines)

-- the lines lead from one draft to the other, whatever lines follow
abbrev pub Leads : Draft → List (List ℕ) → Draft → Type 0
Leads d lines new = (n : ℕ) (others : List (List ℕ)) → steps n d (lines ++ others) ≡ steps (length lines + n) new others

none_leads : (d : Draft) → Leads d [] d
none_leads d n others = let same : length {A = List ℕ} [] + n ≡ n = omega arith in rw same refl

one_leads : (d : Draft) (line : List ℕ) (new : Draft) → ((n : ℕ) → next n d line ≡ Ok new) → Leads d (line ∷ []) new
one_leads d line new each n others =
    let same : length (line ∷ []) + n ≡ n + 1 = omega arith in
    rw same (ap (λ (r : Result Draft DbFault). bind r (λ x. steps (n + 1) x others)) (each n))

pub both_lead : (d : Draft) (a : List (List ℕ)) (m : Draft) (b : List (List ℕ)) (new : Draft) → Leads d a m → Leads m b new → Leads d (a ++ b) new
both_lead d a m b new p q n others =
    let same : length b + (length a + n) ≡ length (a ++ b) + n = omega (arith, length-append a b) in
    ap (steps n d) (append_assoc a b others) ∙ p n (b ++ others) ∙ q (length a + n) others ∙ ap (λ (k : ℕ). steps k new others) same

-- ---- the lines before the points

sources_lead : (d : Draft) (k : ℕ) (names : List (List ℕ)) → d.stage ≡ stage.Sources → k ≡ length d.db.sources + 1 → All (λ name. IsTrue (is_file_name name)) names
    → Leads d (source_lines k names) (record d { db = record d.db { sources = d.db.sources ++ names } })
unfolding next_source
sources_lead d k [] at k-is files = subst (λ (ss : List (List ℕ)). Leads d [] (record d { db = record d.db { sources = ss } })) (sym (append-nil d.db.sources)) (none_leads d)
sources_lead d k (name ∷ names) at k-is files =
    let new : Draft = with_source d name in
    let read : (n : ℕ) → next n d (source_line k name) ≡ Ok new = λ n. rw at (rw k-is (rw (source_again (length d.db.sources + 1) name (All-head (λ (x : List ℕ). IsTrue (is_file_name x)) name names files)) refl)) in
    let longer : k + 1 ≡ length new.db.sources + 1 = omega (arith, k-is, length-append d.db.sources (name ∷ [])) in
    let rest = sources_lead new (k + 1) names at longer (All-tail (λ (x : List ℕ). IsTrue (is_file_name x)) name names files) in
    let whole = both_lead d (source_line k name ∷ []) new (source_lines (k + 1) names) _ (one_leads d (source_line k name) new read) rest in
    subst (λ (ss : List (List ℕ)). Leads d (source_lines k (name ∷ names)) (record d { db = record d.db { sources = ss } })) (append_assoc d.db.sources (name ∷ []) names) whole

no_source : (k : ℕ) (i : DbInstance) → source_of k (instance_line i) ≡ None
unfolding source_of
no_source k i = refl

no_count : (i : DbInstance) → count_of (instance_line i) ≡ None
unfolding count_of
no_count i = refl

not_zero : {X : Type 0} (xs : List X) → xs ≢ [] → eqb (length xs) 0 ≡ false
not_zero [] some = absurd (some refl)
not_zero (x ∷ xs) some = grind (arith, nat_tests)

-- the next line is that of an instance
next_instance_is : (n : ℕ) (d : Draft) (i : DbInstance) (others : List DbInstance) → IsInstance i → Rises by_path (d.db.instances ++ i ∷ others) → next_instance n d (instance_line i) ≡ Ok (with_instance d i)
unfolding next_instance
next_instance_is n d i others is rise = rw (instance_line_again i is, follows_in by_path d.db.instances i others rise) refl

first_instance_is : (n : ℕ) (d : Draft) (i : DbInstance) (others : List DbInstance) → d.stage ≡ stage.Sources → d.db.sources ≢ [] → IsInstance i → Rises by_path (d.db.instances ++ i ∷ others) → next n d (instance_line i) ≡ Ok (with_instance d i)
unfolding next_source next_instance
first_instance_is n d i others at some is rise = rw at (rw (no_source (length d.db.sources + 1) i, not_zero d.db.sources some) (next_instance_is n d i others is rise))

more_instance_is : (n : ℕ) (d : Draft) (i : DbInstance) (others : List DbInstance) → d.stage ≡ stage.Instances → IsInstance i → Rises by_path (d.db.instances ++ i ∷ others) → next n d (instance_line i) ≡ Ok (with_instance d i)
unfolding next_count next_instance
more_instance_is n d i others at is rise = rw at (rw (no_count i) (next_instance_is n d i others is rise))

instances_lead : (d : Draft) (instances : List DbInstance) → d.stage ≡ stage.Instances → All IsInstance instances → Rises by_path (d.db.instances ++ instances)
    → Leads d (map instance_line instances) (record d { db = record d.db { instances = d.db.instances ++ instances } })
instances_lead d [] at each rise = subst (λ (is : List DbInstance). Leads d [] (record d { db = record d.db { instances = is } })) (sym (append-nil d.db.instances)) (none_leads d)
instances_lead d (i ∷ instances) at each rise =
    let new : Draft = record d { db = record d.db { instances = d.db.instances ++ i ∷ [] } } in
    let same : with_instance d i ≡ new = ap (λ (s : Stage). record new { stage = s }) (sym at) in
    let read : (n : ℕ) → next n d (instance_line i) ≡ Ok new = λ n. more_instance_is n d i instances at (All-head IsInstance i instances each) rise ∙ ap (λ (x : Draft). Ok x) same in
    let rest = instances_lead new instances at (All-tail IsInstance i instances each) (subst (Rises by_path) (sym (append_assoc d.db.instances (i ∷ []) instances)) rise) in
    let whole = both_lead d (instance_line i ∷ []) new (map instance_line instances) _ (one_leads d (instance_line i) new read) rest in
    subst (λ (is : List DbInstance). Leads d (map instance_line (i ∷ instances)) (record d { db = record d.db { instances = is } })) (append_assoc d.db.instances (i ∷ []) instances) whole

-- ---- points

begins : (instances : List DbInstance) (p : DbPoint) (s : Subject) → p.address.subject ≡ s → begins_point (point_line instances p) ≡ true
begins instances p (Line n at word) e = rw e refl
begins instances p (Logic n at op c) e = rw e refl
begins instances p (Toggle name index rise) e = rw e refl
begins instances p (State name state) e = rw e refl
begins instances p (Arc name from target) e = rw e refl
begins instances p (Word name index write) e = rw e refl

-- what the points of a draft rely on
pub record Stands (d : Draft) : Type 0 where
  pub at : d.stage ≡ stage.Points
  pub few : length d.db.sources < 2 ^ 32
  pub instances : All IsInstance d.db.instances
  pub rise : Rises by_path d.db.instances

points_lead : (d : Draft) (points : List DbPoint) → Stands d → All (IsPoint (length d.db.sources) d.db.instances) points → Rises by_address (d.db.points ++ points)
    → Leads d (map (point_line d.db.instances) points) (record d { db = record d.db { points = d.db.points ++ points } })
unfolding next_point
points_lead d [] stands each rise = subst (λ (ps : List DbPoint). Leads d [] (record d { db = record d.db { points = ps } })) (sym (append-nil d.db.points)) (none_leads d)
points_lead d (p ∷ points) stands each rise =
    let new : Draft = with_point d p in
    let is = All-head (IsPoint (length d.db.sources) d.db.instances) p points each in
    let read : (n : ℕ) → next n d (point_line d.db.instances p) ≡ Ok new =
    λ n. rw stands.at (rw (begins d.db.instances p p.address.subject refl, point_again (length d.db.sources) d.db.instances p stands.few stands.rise stands.instances is, follows_in by_address d.db.points p points rise) refl) in
    let rest = points_lead new points (record { at = stands.at; few = stands.few; instances = stands.instances; rise = stands.rise }) (All-tail (IsPoint (length d.db.sources) d.db.instances) p points each) (subst (Rises by_address) (sym (append_assoc d.db.points (p ∷ []) points)) rise) in
    let whole = both_lead d (point_line d.db.instances p ∷ []) new (map (point_line d.db.instances) points) _ (one_leads d (point_line d.db.instances p) new read) rest in
    subst (λ (ps : List DbPoint). Leads d (map (point_line d.db.instances) (p ∷ points)) (record d { db = record d.db { points = ps } })) (append_assoc d.db.points (p ∷ []) points) whole

-- ---- windows

windows_lead : (d : Draft) (windows : List Window) → d.stage ≡ stage.Windows → All IsSpan windows → Rises window_cmp (d.db.windows ++ windows) → Leads d (map window_line windows) (record d { db = record d.db { windows = d.db.windows ++ windows } })
unfolding next_window
windows_lead d [] at each rise = subst (λ (ws : List Window). Leads d [] (record d { db = record d.db { windows = ws } })) (sym (append-nil d.db.windows)) (none_leads d)
windows_lead d (w ∷ windows) at each rise =
    let new : Draft = with_window d w in
    let read : (n : ℕ) → next n d (window_line w) ≡ Ok new = λ n. rw at (rw (window_again w (All-head IsSpan w windows each), follows_in window_cmp d.db.windows w windows rise) refl) in
    let rest = windows_lead new windows at (All-tail IsSpan w windows each) (subst (Rises window_cmp) (sym (append_assoc d.db.windows (w ∷ []) windows)) rise) in
    let whole = both_lead d (window_line w ∷ []) new (map window_line windows) _ (one_leads d (window_line w) new read) rest in
    subst (λ (ws : List Window). Leads d (map window_line (w ∷ windows)) (record d { db = record d.db { windows = ws } })) (append_assoc d.db.windows (w ∷ []) windows) whole

-- ---- a whole table

-- the draft of a table in this version whose first instance is this
abbrev pub headed : Global → Version → List ℕ → List (List ℕ) → List DbInstance → Draft
headed alloc v top sources instances =
    record { alloc = alloc; stage = stage.Instances; version = v; count = []; window_count = []; db = record { top = top; sources = sources; instances = instances; points = []; windows = [] } }

version_is : (n : ℕ) (alloc : Global) (v : Version) → next n (start alloc) (version_line v) ≡ Ok (record (start alloc) { stage = stage.Top; version = v })
unfolding next_version
version_is n alloc v = rw (known_again v) refl

top_is : (n : ℕ) (alloc : Global) (v : Version) (top : List ℕ) → is_identifier top ≡ true
    → next n (record (start alloc) { stage = stage.Top; version = v }) (top_line top) ≡ Ok (record { alloc = alloc; stage = stage.Sources; version = v; count = []; window_count = []; db = record { top = top; sources = []; instances = []; points = []; windows = [] } })
unfolding next_top
top_is n alloc v top is = rw (top_again top is) refl

head_lead : (alloc : Global) (v : Version) (top : List ℕ) (sources : List (List ℕ)) (i : DbInstance) (instances : List DbInstance) → is_identifier top ≡ true → All (λ name. IsTrue (is_file_name name)) sources → sources ≢ [] → All IsInstance (i ∷ instances) → Rises by_path (i ∷ instances)
    → Leads (start alloc) (version_line v ∷ top_line top ∷ source_lines 1 sources ++ map instance_line (i ∷ instances)) (headed alloc v top sources (i ∷ instances))
head_lead alloc v top sources i instances named files some each rise =
    let d0 : Draft = start alloc in
    let d1 : Draft = record d0 { stage = stage.Top; version = v } in
    let d2 : Draft = record { alloc = alloc; stage = stage.Sources; version = v; count = []; window_count = []; db = record { top = top; sources = []; instances = []; points = []; windows = [] } } in
    let d3 : Draft = record d2 { db = record d2.db { sources = sources } } in
    let d4 : Draft = headed alloc v top sources (i ∷ []) in
    let a = one_leads d0 (version_line v) d1 (λ n. version_is n alloc v) in
    let b = one_leads d1 (top_line top) d2 (λ n. top_is n alloc v top named) in
    let c : Leads d2 (source_lines 1 sources) d3 = sources_lead d2 1 sources refl refl files in
    let d : Leads d3 (instance_line i ∷ []) d4 = one_leads d3 (instance_line i) d4 (λ n. first_instance_is n d3 i instances refl some (All-head IsInstance i instances each) rise) in
    let e : Leads d4 (map instance_line instances) (headed alloc v top sources (i ∷ instances)) = instances_lead d4 instances refl (All-tail IsInstance i instances each) rise in
    let ab = both_lead d0 (version_line v ∷ []) d1 (top_line top ∷ []) d2 a b in
    let abc = both_lead d0 (version_line v ∷ top_line top ∷ []) d2 (source_lines 1 sources) d3 ab c in
    let de = both_lead d3 (instance_line i ∷ []) d4 (map instance_line instances) (headed alloc v top sources (i ∷ instances)) d e in
    both_lead d0 (version_line v ∷ top_line top ∷ source_lines 1 sources) d3 (map instance_line (i ∷ instances)) (headed alloc v top sources (i ∷ instances)) abc de

-- the table before its windows are read
abbrev pub bare : Db → Db
bare db = record db { windows = [] }

-- the draft of a table with these digits for the number of points
abbrev pub counted : Global → Version → List ℕ → Db → Draft
counted alloc v digits db = record { alloc = alloc; stage = stage.Points; version = v; count = digits; window_count = []; db = bare db }

count_is : (n : ℕ) (alloc : Global) (v : Version) (digits top : List ℕ) (sources : List (List ℕ)) (instances : List DbInstance) → is_plain digits ≡ true
    → next n (headed alloc v top sources instances) (count_line digits) ≡ Ok (counted alloc v digits (record { top = top; sources = sources; instances = instances; points = []; windows = [] }))
unfolding next_count
count_is n alloc v digits top sources instances plain = rw (count_again digits plain) refl

table_by : (alloc : Global) (v : Version) (digits top : List ℕ) (sources : List (List ℕ)) (instances : List DbInstance) (points : List DbPoint) (windows : List Window)
    → let db : Db = record { top = top; sources = sources; instances = instances; points = points; windows = windows } in
    is_plain digits ≡ true → IsTable db → Leads (start alloc) (lines_to_points v digits db) (counted alloc v digits db)
table_by alloc v digits top sources [] points windows plain table = absurd (table.some_instance refl)
table_by alloc v digits top sources (i ∷ instances) points windows plain table =
    let db : Db = record { top = top; sources = sources; instances = i ∷ instances; points = []; windows = [] } in
    let d5 = headed alloc v top sources (i ∷ instances) in
    let d6 = counted alloc v digits db in
    let a = head_lead alloc v top sources i instances table.top table.sources table.some_source table.instances table.instances_rise in
    let b = one_leads d5 (count_line digits) d6 (λ n. count_is n alloc v digits top sources (i ∷ instances) plain) in
    let few : length sources < 2 ^ 32 = omega (arith, table.lines) in
    let c : Leads d6 (map (point_line (i ∷ instances)) points) (counted alloc v digits (record db { points = points })) = points_lead d6 points (record { at = refl; few = few; instances = table.instances; rise = table.instances_rise }) table.points table.points_rise in
    let bc = both_lead d5 (count_line digits ∷ []) d6 (map (point_line (i ∷ instances)) points) _ b c in
    both_lead (start alloc) (version_line v ∷ top_line top ∷ source_lines 1 sources ++ map instance_line (i ∷ instances)) d5 (count_line digits ∷ map (point_line (i ∷ instances)) points) _ a bc

-- the lines of a table up to its last point lead to it
pub table_leads : (alloc : Global) (v : Version) (digits : List ℕ) (db : Db) → is_plain digits ≡ true → IsTable db → Leads (start alloc) (lines_to_points v digits db) (counted alloc v digits db)
table_leads alloc v digits db plain table = table_by alloc v digits db.top db.sources db.instances db.points db.windows plain table

not_same : (a b : List ℕ) → a ≢ b → bytes_eq a b ≡ false
not_same a b differs =
    elim (cases_Bool (bytes_eq a b)) [
      | inl same ↦ absurd (differs ((bytes_eq-Decides a b).0 same))
      | inr other ↦ other
    ]

-- a line that is not of a point, where the number of points is another
pub wrong_count_is : (n : ℕ) (alloc : Global) (v : Version) (digits line : List ℕ) (db : Db) → begins_point line ≡ false → digits ≢ decimal (length db.points)
    → next n (counted alloc v digits db) line ≡ Err (At WrongCount (Some (3 + length db.sources + length db.instances)))
unfolding next_point next_counted
wrong_count_is n alloc v digits line db other differs = rw (other, not_same digits (decimal (length db.points)) differs) refl

-- the draft of a table with these digits for the numbers of points and of windows
abbrev pub windowed : Global → List ℕ → List ℕ → Db → Draft
windowed alloc digits windows db = record { alloc = alloc; stage = stage.Windows; version = version.Two; count = digits; window_count = windows; db = db }

window_count_is : (n : ℕ) (alloc : Global) (digits windows : List ℕ) (db : Db) → bytes_eq digits (decimal (length db.points)) ≡ true → is_plain windows ≡ true → next n (counted alloc version.Two digits db) (window_count_line windows) ≡ Ok (windowed alloc digits windows (bare db))
unfolding next_point next_counted next_window_count
window_count_is n alloc digits windows db right plain = rw (right, window_count_again windows plain) refl

-- the lines of a table up to its last window lead to it, where the number of points is right
pub windows_lead_to : (alloc : Global) (digits windows : List ℕ) (db : Db) → is_plain digits ≡ true → is_plain windows ≡ true → IsTable db → bytes_eq digits (decimal (length db.points)) ≡ true
    → Leads (start alloc) (lines_to_windows version.Two digits windows db) (windowed alloc digits windows db)
windows_lead_to alloc digits windows db plain windows_plain table right =
    let d7 = counted alloc version.Two digits db in
    let d8 = windowed alloc digits windows (bare db) in
    let a = table_leads alloc version.Two digits db plain table in
    let b = one_leads d7 (window_count_line windows) d8 (λ n. window_count_is n alloc digits windows db right windows_plain) in
    let c : Leads d8 (map window_line db.windows) (windowed alloc digits windows db) = windows_lead d8 db.windows refl table.windows.spans table.windows.rise in
    let bc = both_lead d7 (window_count_line windows ∷ []) d8 (map window_line db.windows) _ b c in
    both_lead (start alloc) (lines_to_points version.Two digits db) d7 (window_count_line windows ∷ map window_line db.windows) _ a bc

-- a line that is not of a window, where the number of windows is another
pub wrong_window_count_is : (n : ℕ) (alloc : Global) (digits windows line : List ℕ) (db : Db) → begins_window line ≡ false → windows ≢ decimal (length db.windows)
    → next n (windowed alloc digits windows db) line ≡ Err (At WrongCount (Some (4 + length db.sources + length db.instances + length db.points)))
unfolding next_window next_windows_counted
wrong_window_count_is n alloc digits windows line db other differs = rw (other, not_same windows (decimal (length db.windows)) differs) refl

-- the draft of a whole table in this version
abbrev pub whole_draft : Global → Version → List ℕ → List ℕ → Db → Draft
whole_draft alloc version.One digits windows db = record (counted alloc version.One digits db) { stage = stage.End }
whole_draft alloc version.Two digits windows db = record (windowed alloc digits windows db) { stage = stage.End }

-- the last line, where the numbers are right
end_of_points : (n : ℕ) (alloc : Global) (digits : List ℕ) (db : Db) → bytes_eq digits (decimal (length db.points)) ≡ true → next n (counted alloc version.One digits db) (codes "end") ≡ Ok (record (counted alloc version.One digits db) { stage = stage.End })
unfolding next_point next_counted next_end
end_of_points n alloc digits db right = rw right refl

end_of_windows : (n : ℕ) (alloc : Global) (digits windows : List ℕ) (db : Db) → bytes_eq windows (decimal (length db.windows)) ≡ true → next n (windowed alloc digits windows db) (codes "end") ≡ Ok (record (windowed alloc digits windows db) { stage = stage.End })
unfolding next_window next_windows_counted next_end
end_of_windows n alloc digits windows db right = rw right refl

-- the steps came to this draft, or to a wrong number
abbrev Comes : Draft → Result Draft DbFault → Type 0
Comes d r = (r ≡ Ok d) ⊎ ((k : ℕ) × (r ≡ Err (At WrongCount (Some k))))

differs_by : (a b : List ℕ) → bytes_eq a b ≡ false → a ≢ b
differs_by a b wrong same = let bad : true ≡ false = sym (same_path a b same) ∙ wrong in cc

points_end : (alloc : Global) (digits windows : List ℕ) (db : Db) → is_plain digits ≡ true → IsTable db → Comes (whole_draft alloc version.One digits windows db) (steps 1 (start alloc) (lines_with_counts version.One digits windows db))
points_end alloc digits windows db plain table =
    let n = length (lines_to_points version.One digits db) + 1 in
    let to_points : steps 1 (start alloc) (lines_with_counts version.One digits windows db) ≡ steps n (counted alloc version.One digits db) (codes "end" ∷ []) = table_leads alloc version.One digits db plain table 1 (codes "end" ∷ []) in
    elim (cases_Bool (bytes_eq digits (decimal (length db.points)))) [
      | inl right ↦ inl (to_points ∙ ap (λ (r : Result Draft DbFault). bind r (λ x. steps (n + 1) x [])) (end_of_points n alloc digits db right))
      | inr wrong ↦ inr (3 + length db.sources + length db.instances, to_points ∙ ap (λ (r : Result Draft DbFault). bind r (λ x. steps (n + 1) x [])) (wrong_count_is n alloc version.One digits (codes "end") db refl (differs_by digits (decimal (length db.points)) wrong)))
    ]

windows_end : (alloc : Global) (digits windows : List ℕ) (db : Db) → is_plain digits ≡ true → is_plain windows ≡ true → IsTable db → bytes_eq digits (decimal (length db.points)) ≡ true
    → Comes (whole_draft alloc version.Two digits windows db) (steps 1 (start alloc) (lines_with_counts version.Two digits windows db))
windows_end alloc digits windows db plain windows_plain table right =
    let n = length (lines_to_windows version.Two digits windows db) + 1 in
    let to_windows : steps 1 (start alloc) (lines_with_counts version.Two digits windows db) ≡ steps n (windowed alloc digits windows db) (codes "end" ∷ []) = windows_lead_to alloc digits windows db plain windows_plain table right 1 (codes "end" ∷ []) in
    elim (cases_Bool (bytes_eq windows (decimal (length db.windows)))) [
      | inl counts ↦ inl (to_windows ∙ ap (λ (r : Result Draft DbFault). bind r (λ x. steps (n + 1) x [])) (end_of_windows n alloc digits windows db counts))
      | inr wrong ↦
          inr (4 + length db.sources + length db.instances + length db.points, to_windows ∙ ap (λ (r : Result Draft DbFault). bind r (λ x. steps (n + 1) x [])) (wrong_window_count_is n alloc digits windows (codes "end") db refl (differs_by windows (decimal (length db.windows)) wrong)))
    ]

-- the line of the number of windows is of no point
no_point_line : (windows : List ℕ) → begins_point (window_count_line windows) ≡ false
no_point_line windows = refl

miscounted_end : (alloc : Global) (digits windows : List ℕ) (db : Db) → is_plain digits ≡ true → IsTable db → bytes_eq digits (decimal (length db.points)) ≡ false
    → Comes (whole_draft alloc version.Two digits windows db) (steps 1 (start alloc) (lines_with_counts version.Two digits windows db))
miscounted_end alloc digits windows db plain table wrong =
    let n = length (lines_to_points version.Two digits db) + 1 in
    let others : List (List ℕ) = map window_line db.windows ++ codes "end" ∷ [] in
    let split : lines_with_counts version.Two digits windows db ≡ lines_to_points version.Two digits db ++ window_count_line windows ∷ others = append_assoc (lines_to_points version.Two digits db) (window_count_line windows ∷ map window_line db.windows) (codes "end" ∷ []) in
    let stuck = wrong_count_is n alloc version.Two digits (window_count_line windows) db (no_point_line windows) (differs_by digits (decimal (length db.points)) wrong) in
    inr (3 + length db.sources + length db.instances, ap (steps 1 (start alloc)) split ∙ table_leads alloc version.Two digits db plain table 1 (window_count_line windows ∷ others) ∙ ap (λ (r : Result Draft DbFault). bind r (λ x. steps (n + 1) x others)) stuck)

-- all lines of a table, with these digits for the numbers of points and of windows, are read up to their end, or a number is wrong
pub all_lines : (alloc : Global) (v : Version) (digits windows : List ℕ) (db : Db) → is_plain digits ≡ true → is_plain windows ≡ true → IsTable db → Comes (whole_draft alloc v digits windows db) (steps 1 (start alloc) (lines_with_counts v digits windows db))
all_lines alloc version.One digits windows db plain windows_plain table = points_end alloc digits windows db plain table
all_lines alloc version.Two digits windows db plain windows_plain table =
    elim (cases_Bool (bytes_eq digits (decimal (length db.points)))) [
      | inl right ↦ windows_end alloc digits windows db plain windows_plain table right
      | inr wrong ↦ miscounted_end alloc digits windows db plain table wrong
    ]

-- the lines of a table in this version, with its own numbers
pub table_steps : (alloc : Global) (v : Version) (digits windows : List ℕ) (db : Db) → is_plain digits ≡ true → is_plain windows ≡ true → IsTable db → bytes_eq digits (decimal (length db.points)) ≡ true → bytes_eq windows (decimal (length db.windows)) ≡ true
    → steps 1 (start alloc) (lines_with_counts v digits windows db) ≡ Ok (whole_draft alloc v digits windows db)
table_steps alloc version.One digits windows db plain windows_plain table right counts =
    let n = length (lines_to_points version.One digits db) + 1 in
    table_leads alloc version.One digits db plain table 1 (codes "end" ∷ []) ∙ ap (λ (r : Result Draft DbFault). bind r (λ x. steps (n + 1) x [])) (end_of_points n alloc digits db right)
table_steps alloc version.Two digits windows db plain windows_plain table right counts =
    let n = length (lines_to_windows version.Two digits windows db) + 1 in
    windows_lead_to alloc digits windows db plain windows_plain table right 1 (codes "end" ∷ []) ∙ ap (λ (r : Result Draft DbFault). bind r (λ x. steps (n + 1) x [])) (end_of_windows n alloc digits windows db counts)
