-- Reading a whole text: a table has one text, and a text that is no table's has its first fault.
use Rattle.std.proofs.Common.{◌≡◌, ◌≢◌, ◌==◌, ℕ, suc, ◌+◌, ◌^◌, ◌<◌, ◌≤◌, Bool, true, false, cond, eqb, List, [], ◌∷◌, ◌++◌, map, length, All, Option, Some, None, Result, Ok, Err, refl, sym, ap, subst, ◌∙◌, append_assoc, ◌⊎◌, inl, inr, arith}
use Rattle.std.specs.Prelude.{bytes_eq, decimal, codes, IsTrue, IfOk, IfErr, nat_le, ◌&&◌}
use Rattle.std.specs.Global.{Global}
use Rattle.std.specs.List.{join_with_byte, onto_first, list_all, AllByRecursion}
use Rattle.std.proofs.lemmas.Bool.{cases_Bool, and_parts}
use Rattle.std.proofs.lemmas.List.{append-nil, length-append}
use Rattle.std.proofs.lemmas.List.Elements.{All-nil, All-push, All-head, All-tail, All-cons}
use Rattle.std.proofs.lemmas.List.Splits.{join_with_byte-slice_split, length-slice_split}
use Rattle.std.proofs.lemmas.List.Sums.{count_by-le-length}
use Rattle.std.proofs.lemmas.Slice.Eq.{bytes_eq-Decides}
use Rattle.cov_host.specs.Identifier.{is_identifier, is_reserved}
use Rattle.coverage_db.specs.declared.db.Db.{Db}
use Rattle.coverage_db.specs.declared.db.DbInstance.{DbInstance}
use Rattle.coverage_db.specs.declared.db.DbPoint.{DbPoint}
use Rattle.coverage_db.specs.declared.draft.Draft.{Draft}
use Rattle.coverage_db.specs.declared.draft.Stage.{Stage}
use Rattle.coverage_db.specs.declared.draft.Stage.TheVariants as stage
use Rattle.coverage_db.specs.declared.fault.DbFault.{DbFault}
use Rattle.coverage_db.specs.declared.fault.DbFault.TheVariants.{At, NoMemory}
use Rattle.coverage_db.specs.declared.fault.DbKind.TheVariants.{BadLine, WrongVersion, WrongCount}
use Rattle.coverage_db.specs.declared.version.Version.{Version}
use Rattle.coverage_db.specs.declared.version.Version.TheVariants as version
use Rattle.coverage_db.specs.declared.window.Window.{Window}
use Rattle.coverage_db.specs.Drafting.{Returns, StepsTo, IsDraft, bad, or_else, follows, is_version, version_of, top_of, source_of, instance_at, count_of, window_count_of, window_of, with_source, with_instance, with_point, with_window, next, next_at, next_version, next_top, next_source, next_instance, next_count, next_point, next_counted, next_behind, next_window_count, next_window, next_windows_counted, next_end, start, finish_at, and_then, read_lines, reading}
use Rattle.coverage_db.specs.Faults.{Begins, IsBadLine, IsWrongCount, IsWrongWindowCount, IsWrongVersion, IsFault, IsTheTable}
use Rattle.coverage_db.specs.Fields.{◌>>=◌, behind, split_first, is_plain}
use Rattle.coverage_db.specs.Reading.{point_of}
use Rattle.std.specs.Option.{is_some}
use Rattle.coverage_db.specs.Table.{Rises, IsIdentifier, IsInstance, IsPoint, IsSpan, IsTable, is_file_name}
use Rattle.coverage_db.specs.Text.{begins_point, begins_window, lines_of, text_of_lines, text_in, IsTextOf, version_line, top_line, source_line, source_lines, instance_line, count_line, point_line, window_count_line, window_line, head_lines, lines_to_points, lines_to_windows, lines_with_counts}
use Rattle.coverage_db.specs.Windows.{window_cmp}
use Rattle.coverage_db.proofs.Completing.{bind, steps, counted, windowed, whole_draft, table_leads, windows_lead_to, wrong_count_is, wrong_window_count_is, all_lines, table_steps}
use Rattle.coverage_db.proofs.DraftLaws.{by_address, known_again, IsPart, IsHead, ArePoints, AreSpans, AreCounted, no_windows, HasRead, lines_read, next_part, sources_push}
use Rattle.coverage_db.proofs.Lacking.{lacks_append, lacks_more, lacks_by, decimal_lacks, name_lacks, path_lacks}
use Rattle.coverage_db.proofs.Numbers.{decimal_plain, plain_all}
use Rattle.coverage_db.proofs.PathSearch.{by_path, same_path}
use Rattle.coverage_db.proofs.PointLaws.{point_line_whole}
use Rattle.coverage_db.proofs.Splitting.{lacks, pieces_more, behind_takes, behind_again, pieces_split, pieces_whole}

ok_err : {X : Type 0} (x : X) (f : DbFault) → ◌≡◌ {A = Result X DbFault} (Ok x) (Err f) → ⊥
ok_err x f e = cc

same_ok : {X : Type 0} (x y : X) → ◌≡◌ {A = Result X DbFault} (Ok x) (Ok y) → x ≡ y
same_ok x y e = cc

-- ---- texts and their lines

-- no line has a line feed
abbrev pub AreLines : List (List ℕ) → Type 0
AreLines lines = AllByRecursion (λ line. lacks 10 line ≡ true) lines

lines_append : (a b : List (List ℕ)) → AreLines a → AreLines b → AreLines (a ++ b)
lines_append [] b p q = q
lines_append (line ∷ a) b p q = (p.0, lines_append a b p.1 q)

-- the lines of a text whose lines end in line feeds
lines_again : (lines : List (List ℕ)) → AreLines lines → lines_of (text_of_lines lines) ≡ lines ++ [] ∷ []
lines_again [] each = refl
lines_again (line ∷ lines) each = ap lines_of (append_assoc line (10 ∷ []) (text_of_lines lines)) ∙ pieces_more 10 line (text_of_lines lines) each.0 ∙ ap (λ (ls : List (List ℕ)). line ∷ ls) (lines_again lines each.1)

joined_lines : (lines : List (List ℕ)) → join_with_byte 10 (lines ++ [] ∷ []) ≡ text_of_lines lines
joined_lines [] = refl
joined_lines (line ∷ []) = sym (append-nil (line ++ 10 ∷ []))
joined_lines (line ∷ other ∷ lines) = ap (λ (t : List ℕ). line ++ 10 ∷ t) (joined_lines (other ∷ lines)) ∙ sym (append_assoc line (10 ∷ []) (text_of_lines (other ∷ lines)))

text_again : (text : List ℕ) (lines : List (List ℕ)) → lines_of text ≡ lines ++ [] ∷ [] → text ≡ text_of_lines lines
text_again text lines e = sym (join_with_byte-slice_split 10 text) ∙ ap (join_with_byte 10) e ∙ joined_lines lines

number_of_lines : (text : List ℕ) → length (lines_of text) ≤ length text + 1
number_of_lines text = omega (arith, length-slice_split (λ byte. byte == 10) text, count_by-le-length (λ byte. byte == 10) text)

-- ---- the lines of a table have no line feed

source_whole : (k : ℕ) (name : List ℕ) → k < 2 ^ 64 → is_file_name name ≡ true → lacks 10 (source_line k name) ≡ true
source_whole k name small file =
    let printable = and_parts (nat_le 1 (length name)) (list_all (λ byte. nat_le 32 byte) name) file in
    lacks_append 10 (codes "source " ++ decimal k) (32 ∷ name) (lacks_append 10 (codes "source ") (decimal k) refl (decimal_lacks 10 k refl small)) (lacks_more 10 32 name refl (lacks_by (λ byte. nat_le 32 byte) 10 name refl printable.1))

sources_whole : (k : ℕ) (names : List (List ℕ)) → k + length names < 2 ^ 64 → All (λ name. IsTrue (is_file_name name)) names → AreLines (source_lines k names)
sources_whole k [] small files = tt
sources_whole k (name ∷ names) small files =
    (source_whole k name (omega arith) (All-head (λ (x : List ℕ). IsTrue (is_file_name x)) name names files), sources_whole (k + 1) names (omega arith) (All-tail (λ (x : List ℕ). IsTrue (is_file_name x)) name names files))

instances_whole : (instances : List DbInstance) → All IsInstance instances → AreLines (map instance_line instances)
instances_whole [] each = tt
instances_whole (i ∷ instances) each =
    let is = All-head IsInstance i instances each in
    let line : lacks 10 (instance_line i) ≡ true = lacks_append 10 (codes "instance " ++ i.path) (32 ∷ i.«module») (lacks_append 10 (codes "instance ") i.path refl (path_lacks 10 i.path refl refl is.path)) (lacks_more 10 32 i.«module» refl (name_lacks 10 i.«module» refl is.module_name)) in
    (line, instances_whole instances (All-tail IsInstance i instances each))

points_whole : (sources : ℕ) (instances : List DbInstance) (points : List DbPoint) → sources < 2 ^ 32 → All IsInstance instances → All (IsPoint sources instances) points → AreLines (map (point_line instances) points)
points_whole sources instances [] few inst each = tt
points_whole sources instances (p ∷ points) few inst each =
    (point_line_whole sources instances p few inst (All-head (IsPoint sources instances) p points each), points_whole sources instances points few inst (All-tail (IsPoint sources instances) p points each))

window_whole : (w : Window) → IsSpan w → lacks 10 (window_line w) ≡ true
window_whole w is =
    lacks_append 10 (codes "window " ++ decimal w.first) (32 ∷ decimal w.last) (lacks_append 10 (codes "window ") (decimal w.first) refl (decimal_lacks 10 w.first refl (omega (arith, is.0, is.1)))) (lacks_more 10 32 (decimal w.last) refl (decimal_lacks 10 w.last refl (omega (arith, is.1))))

windows_whole : (windows : List Window) → All IsSpan windows → AreLines (map window_line windows)
windows_whole [] each = tt
windows_whole (w ∷ windows) each = (window_whole w (All-head IsSpan w windows each), windows_whole windows (All-tail IsSpan w windows each))

version_whole : (v : Version) → lacks 10 (version_line v) ≡ true
version_whole version.One = refl
version_whole version.Two = refl

points_part_whole : (v : Version) (digits : List ℕ) (db : Db) → is_plain digits ≡ true → IsTable db → AreLines (lines_to_points v digits db)
points_part_whole v digits db plain table =
    let few : length db.sources < 2 ^ 32 = omega (arith, table.lines) in
    let top : lacks 10 (top_line db.top) ≡ true = lacks_append 10 (codes "top ") db.top refl (name_lacks 10 db.top refl table.top) in
    let head : AreLines (head_lines v db) = (version_whole v, (top, lines_append (source_lines 1 db.sources) (map instance_line db.instances) (sources_whole 1 db.sources (omega arith) table.sources) (instances_whole db.instances table.instances))) in
    let count : lacks 10 (count_line digits) ≡ true = lacks_append 10 (codes "points ") digits refl (lacks_by _ 10 digits refl (plain_all digits plain)) in
    lines_append (head_lines v db) (count_line digits ∷ map (point_line db.instances) db.points) head (count, points_whole (length db.sources) db.instances db.points few table.instances table.points)

end_whole : AreLines (codes "end" ∷ [])
end_whole = (refl, tt)

table_whole : (v : Version) (digits windows : List ℕ) (db : Db) → is_plain digits ≡ true → is_plain windows ≡ true → IsTable db → AreLines (lines_with_counts v digits windows db)
table_whole version.One digits windows db plain windows_plain table = lines_append (lines_to_points version.One digits db) (codes "end" ∷ []) (points_part_whole version.One digits db plain table) end_whole
table_whole version.Two digits windows db plain windows_plain table =
    let count : lacks 10 (window_count_line windows) ≡ true = lacks_append 10 (codes "windows ") windows refl (lacks_by _ 10 windows refl (plain_all windows windows_plain)) in
    lines_append (lines_to_windows version.Two digits windows db) (codes "end" ∷ [])
    (lines_append (lines_to_points version.Two digits db) (window_count_line windows ∷ map window_line db.windows) (points_part_whole version.Two digits db plain table) (count, windows_whole db.windows table.windows.spans)) end_whole

-- ---- reading and steps

reads_first : (n : ℕ) (d : Draft) (line : List ℕ) (rest : List (List ℕ)) → rest ≢ [] → read_lines n d (line ∷ rest) ≡ and_then (next n d line) (λ new. read_lines (n + 1) new rest)
reads_first n d line [] some = absurd (some refl)
reads_first n d line (other ∷ rest) some = refl

not_nil : (lines : List (List ℕ)) (p : List ℕ) (ps : List (List ℕ)) → lines ++ p ∷ ps ≢ []
not_nil [] p ps e = cc
not_nil (line ∷ lines) p ps e = cc

reads_later : (r : Result Draft DbFault) (f : Draft → Result Db DbFault) (g : Draft → Result Draft DbFault) (h : Draft → Result Db DbFault) → ((d : Draft) → f d ≡ and_then (g d) h) → and_then r f ≡ and_then (bind r g) h
reads_later (Ok d) f g h each = each d
reads_later (Err fault) f g h each = refl

reads_on : (n : ℕ) (d : Draft) (lines : List (List ℕ)) (p : List ℕ) (ps : List (List ℕ)) → read_lines n d (lines ++ p ∷ ps) ≡ and_then (steps n d lines) (λ new. read_lines (length lines + n) new (p ∷ ps))
reads_on n d [] p ps = let same : length {A = List ℕ} [] + n ≡ n = omega arith in rw same refl
reads_on n d (line ∷ lines) p ps =
    let same : length lines + (n + 1) ≡ length (line ∷ lines) + n = omega arith in
    reads_first n d line (lines ++ p ∷ ps) (not_nil lines p ps)
    ∙ reads_later (next n d line) (λ new. read_lines (n + 1) new (lines ++ p ∷ ps)) (λ new. steps (n + 1) new lines) (λ new. read_lines (length (line ∷ lines) + n) new (p ∷ ps)) (λ new. reads_on (n + 1) new lines p ps ∙ ap (λ (k : ℕ). and_then (steps (n + 1) new lines) (λ x. read_lines k x (p ∷ ps))) same)

steps_later : (r : Result Draft DbFault) (f g h : Draft → Result Draft DbFault) → ((d : Draft) → f d ≡ bind (g d) h) → bind r f ≡ bind (bind r g) h
steps_later (Ok d) f g h each = each d
steps_later (Err fault) f g h each = refl

steps_append : (n : ℕ) (d : Draft) (a b : List (List ℕ)) → steps n d (a ++ b) ≡ bind (steps n d a) (λ new. steps (length a + n) new b)
steps_append n d [] b = let same : length {A = List ℕ} [] + n ≡ n = omega arith in rw same refl
steps_append n d (line ∷ a) b =
    let same : length a + (n + 1) ≡ length (line ∷ a) + n = omega arith in
    steps_later (next n d line) (λ new. steps (n + 1) new (a ++ b)) (λ new. steps (n + 1) new a) (λ new. steps (length (line ∷ a) + n) new b) (λ new. steps_append (n + 1) new a b ∙ ap (λ (k : ℕ). bind (steps (n + 1) new a) (λ x. steps k x b)) same)

-- how reading ends, where these lines are left
abbrev pub Halts : ℕ → Draft → List (List ℕ) → Result Db DbFault → Type 0
Halts n d [] r = r ≡ bad n
Halts n d (last ∷ []) r = r ≡ finish_at d.stage n d last
Halts n d (line ∷ other ∷ lines) r = (fault : DbFault) × (next n d line ≡ Err fault) × (r ≡ Err fault)

-- the lines that were read before reading ended
pub record Halted (n : ℕ) (d : Draft) (lines : List (List ℕ)) (r : Result Db DbFault) : Type 0 where
  pub before : List (List ℕ)
  pub draft : Draft
  pub rest : List (List ℕ)
  pub split : lines ≡ before ++ rest
  pub read : steps n d before ≡ Ok draft
  pub halts : Halts (length before + n) draft rest r

here : (n : ℕ) (d : Draft) (lines : List (List ℕ)) (r : Result Db DbFault) → Halts n d lines r → Halted n d lines r
here n d lines r h = let same : length {A = List ℕ} [] + n ≡ n = omega arith in record { before = []; draft = d; rest = lines; split = refl; read = refl; halts = rw same h }

later : (n : ℕ) (d new : Draft) (line : List ℕ) (lines : List (List ℕ)) (r : Result Db DbFault) → next n d line ≡ Ok new → Halted (n + 1) new lines r → Halted n d (line ∷ lines) r
later n d new line lines r e h =
    let same : length h.before + (n + 1) ≡ length (line ∷ h.before) + n = omega arith in
    record {
      before = line ∷ h.before;
      draft = h.draft;
      rest = h.rest;
      split = ap (λ (ls : List (List ℕ)). line ∷ ls) h.split;
      read = ap (λ (x : Result Draft DbFault). bind x (λ y. steps (n + 1) y h.before)) e ∙ h.read;
      halts = subst (λ (k : ℕ). Halts k h.draft h.rest r) same h.halts;
    }

next_halted : (n : ℕ) (d : Draft) (line other : List ℕ) (lines : List (List ℕ)) (r : Result Draft DbFault) → next n d line ≡ r → ((new : Draft) → Halted (n + 1) new (other ∷ lines) (read_lines (n + 1) new (other ∷ lines)))
    → Halted n d (line ∷ other ∷ lines) (and_then r (λ new. read_lines (n + 1) new (other ∷ lines)))
next_halted n d line other lines (Ok new) e more = later n d new line (other ∷ lines) (read_lines (n + 1) new (other ∷ lines)) e (more new)
next_halted n d line other lines (Err fault) e more = here n d (line ∷ other ∷ lines) (Err fault) (fault, e, refl)

halted : (n : ℕ) (d : Draft) (lines : List (List ℕ)) → Halted n d lines (read_lines n d lines)
halted n d [] = here n d [] (bad n) refl
halted n d (last ∷ []) = here n d (last ∷ []) (finish_at d.stage n d last) refl
halted n d (line ∷ other ∷ lines) = next_halted n d line other lines (next n d line) refl (λ new. halted (n + 1) new (other ∷ lines))

-- ---- what has been read

length_sources : (k : ℕ) (names : List (List ℕ)) → length (source_lines k names) ≡ length names
length_sources k [] = refl
length_sources k (name ∷ names) = ap (λ (n : ℕ). suc n) (length_sources (k + 1) names)

map_long : {X : Type 0} (f : X → List ℕ) (xs : List X) → length (map f xs) ≡ length xs
map_long f [] = refl
map_long f (x ∷ xs) = ap (λ (n : ℕ). suc n) (map_long f xs)

length_head : (v : Version) (db : Db) → length (head_lines v db) ≡ 2 + length db.sources + length db.instances
length_head v db = omega (arith, length-append (version_line v ∷ top_line db.top ∷ source_lines 1 db.sources) (map instance_line db.instances), length_sources 1 db.sources, map_long instance_line db.instances)

length_to_points : (v : Version) (digits : List ℕ) (db : Db) → length (lines_to_points v digits db) ≡ 3 + length db.sources + length db.instances + length db.points
length_to_points v digits db = omega (arith, length-append (head_lines v db) (count_line digits ∷ map (point_line db.instances) db.points), length_head v db, map_long (point_line db.instances) db.points)

length_to_windows : (digits windows : List ℕ) (db : Db) → length (lines_to_windows version.Two digits windows db) ≡ 4 + length db.sources + length db.instances + length db.points + length db.windows
length_to_windows digits windows db = omega (arith, length-append (lines_to_points version.Two digits db) (window_count_line windows ∷ map window_line db.windows), length_to_points version.Two digits db, map_long window_line db.windows)

-- all lines are more than those up to the last point
length_all : (v : Version) (digits windows : List ℕ) (db : Db) → 3 + length db.sources + length db.instances + length db.points < length (lines_with_counts v digits windows db)
length_all version.One digits windows db = omega (arith, length-append (lines_to_points version.One digits db) (codes "end" ∷ []), length_to_points version.One digits db)
length_all version.Two digits windows db = omega (arith, length-append (lines_to_windows version.Two digits windows db) (codes "end" ∷ []), length_to_windows digits windows db)

none_long : {X : Type 0} (xs : List X) → xs ≡ [] → length xs ≡ 0
none_long [] e = refl
none_long (x ∷ xs) e = absurd cc

-- no windows are more than the lines
windows_few : (v : Version) (digits windows : List ℕ) (db : Db) → AreCounted v windows db → length db.windows ≤ length (lines_with_counts v digits windows db)
windows_few version.One digits windows db none = omega (arith, none_long db.windows none)
windows_few version.Two digits windows db counts = omega (arith, length-append (lines_to_windows version.Two digits windows db) (codes "end" ∷ []), length_to_windows digits windows db)

-- as many lines as sources, instances and points
sources_few : (s : Stage) (d : Draft) → HasRead s d → length d.db.sources + length d.db.instances + length d.db.points ≤ length (lines_read s d)
sources_few stage.Version d has = omega (arith, none_long d.db.sources (ap (λ (db : Db). db.sources) has), none_long d.db.instances (ap (λ (db : Db). db.instances) has), none_long d.db.points (ap (λ (db : Db). db.points) has))
sources_few stage.Top d has = omega (arith, none_long d.db.sources (ap (λ (db : Db). db.sources) has), none_long d.db.instances (ap (λ (db : Db). db.instances) has), none_long d.db.points (ap (λ (db : Db). db.points) has))
sources_few stage.Sources d has = omega (arith, length_sources 1 d.db.sources, none_long d.db.instances has.no_instance, none_long d.db.points has.no_point)
sources_few stage.Instances d has = omega (arith, length_head d.version d.db, none_long d.db.points has.1)
sources_few stage.Points d has = omega (arith, length_to_points d.version d.count d.db)
sources_few stage.Windows d has = omega (arith, length_to_windows d.count d.window_count d.db)
sources_few stage.End d has = omega (arith, length_all d.version d.count d.window_count d.db)

pub part_few : (d : Draft) (lines : List (List ℕ)) → IsPart d lines → length d.db.sources + length d.db.instances + length d.db.points ≤ length lines
part_few d lines p = subst (λ (ls : List (List ℕ)). length d.db.sources + length d.db.instances + length d.db.points ≤ length ls) p.lines_are (sources_few d.stage d p.has)

bind_ok : (r : Result Draft DbFault) (f : Draft → Result Draft DbFault) (new : Draft) → bind r f ≡ Ok new → (m : Draft) × (r ≡ Ok m) × (f m ≡ Ok new)
bind_ok (Ok m) f new e = (m, refl, e)
bind_ok (Err fault) f new e = absurd (ok_err new fault (sym e))

steps_part : (n : ℕ) (d : Draft) (so_far lines : List (List ℕ)) (new : Draft) → IsPart d so_far → length so_far + length lines < 2 ^ 32 → steps n d lines ≡ Ok new → IsPart new (so_far ++ lines)
steps_part n d so_far [] new p few e = subst (λ (x : Draft). IsPart x (so_far ++ [])) (same_ok d new e) (subst (IsPart d) (sym (append-nil so_far)) p)
steps_part n d so_far (line ∷ lines) new p few e =
    let b = bind_ok (next n d line) (λ x. steps (n + 1) x lines) new e in
    let one = next_part n d so_far line b.0 (omega (arith, part_few d so_far p)) p b.1 in
    subst (IsPart new) (append_assoc so_far (line ∷ []) lines) (steps_part (n + 1) b.0 (so_far ++ line ∷ []) lines new one (omega (arith, length-append so_far (line ∷ []))) b.2)

pub start_part : (alloc : Global) → IsPart (start alloc) []
start_part alloc = record { has = refl; lines_are = refl }

-- ---- what has been read begins a table

a_name : is_identifier (codes "a") ≡ true
unfolding is_reserved
a_name = refl

an_instance : DbInstance
an_instance = record { path = codes "a"; «module» = codes "a" }

is_an_instance : IsInstance an_instance
unfolding an_instance
is_an_instance = record { path = ap (λ (b : Bool). b && true) a_name; module_name = a_name }

table_of : (db : Db) → IsHead db → ArePoints db → AreSpans db → 3 + length db.sources + length db.instances + length db.points < 2 ^ 32 → length db.windows < 2 ^ 64 → IsTable db
table_of db head points windows few few_windows = record {
  top = head.top;
  sources = head.sources;
  instances = head.instances;
  points = points.points;
  some_source = head.some_source;
  some_instance = head.some_instance;
  instances_rise = head.rise;
  points_rise = points.rise;
  lines = few;
  windows = record { spans = windows.spans; rise = windows.rise; few = few_windows };
}

-- a table without windows
bare_table : (db : Db) → IsHead db → ArePoints db → db.windows ≡ [] → 3 + length db.sources + length db.instances + length db.points < 2 ^ 32 → IsTable db
bare_table db head points none few = table_of db head points (no_windows db none) few (omega (arith, none_long db.windows none))

-- the lines after the last point
abbrev tail_lines : Version → List ℕ → Db → List (List ℕ)
tail_lines version.One windows db = codes "end" ∷ []
tail_lines version.Two windows db = (window_count_line windows ∷ map window_line db.windows) ++ codes "end" ∷ []

tail_is : (v : Version) (digits windows : List ℕ) (db : Db) → lines_with_counts v digits windows db ≡ lines_to_points v digits db ++ tail_lines v windows db
tail_is version.One digits windows db = refl
tail_is version.Two digits windows db = append_assoc (lines_to_points version.Two digits db) (window_count_line windows ∷ map window_line db.windows) (codes "end" ∷ [])

-- the table with one source more, an instance and no point
abbrev finished : List ℕ → List (List ℕ) → Db
finished top sources = record { top = top; sources = sources ++ codes "a" ∷ []; instances = an_instance ∷ []; points = []; windows = [] }

not_empty : (xs : List (List ℕ)) (x : List ℕ) → xs ++ x ∷ [] ≢ []
not_empty [] x e = cc
not_empty (y ∷ xs) x e = cc

finished_table : (top : List ℕ) (sources : List (List ℕ)) → IsIdentifier top → All (λ name. IsTrue (is_file_name name)) sources → length sources + 5 < 2 ^ 32 → IsTable (finished top sources)
finished_table top sources named files few = record {
  top = named;
  sources = All-push (λ (name : List ℕ). IsTrue (is_file_name name)) sources (codes "a") files refl;
  instances = All-cons IsInstance an_instance [] is_an_instance (All-nil IsInstance);
  points = All-nil (IsPoint (length (sources ++ codes "a" ∷ [])) (an_instance ∷ []));
  some_source = not_empty sources (codes "a");
  some_instance = λ e. cc;
  instances_rise = tt;
  points_rise = tt;
  lines = omega (arith, length-append sources (codes "a" ∷ []));
  windows = record { spans = All-nil IsSpan; rise = tt; few = omega arith };
}

five : {X : Type 0} (a b c d e : List X) → (((a ++ b) ++ c) ++ d) ++ e ≡ a ++ (b ++ (c ++ (d ++ e)))
five a b c d e = simp append_assoc

finished_lines : (v : Version) (top : List ℕ) (sources tail : List (List ℕ)) → lines_to_points v (codes "0") (finished top sources) ++ tail
    ≡ (version_line v ∷ top_line top ∷ source_lines 1 sources) ++ (source_line (length sources + 1) (codes "a") ∷ instance_line an_instance ∷ count_line (codes "0") ∷ tail)
finished_lines v top sources tail =
    let head : List (List ℕ) = version_line v ∷ top_line top ∷ source_lines 1 sources in
    let one : List (List ℕ) = source_line (length sources + 1) (codes "a") ∷ [] in
    ap (λ (ls : List (List ℕ)). ((version_line v ∷ top_line top ∷ ls ++ instance_line an_instance ∷ []) ++ count_line (codes "0") ∷ []) ++ tail) (sources_push 1 sources (codes "a"))
    ∙ five head one (instance_line an_instance ∷ []) (count_line (codes "0") ∷ []) tail

a_table : IsTable (finished (codes "a") [])
a_table = finished_table (codes "a") [] a_name (All-nil (λ (name : List ℕ). IsTrue (is_file_name name))) (omega arith)

-- the lines of a whole table
end_begins : (v : Version) (d : Draft) → d.version ≡ v → HasRead stage.End d → IsTable d.db → is_plain d.count ≡ true → Begins (lines_read stage.End d)
end_begins version.One d at has table plain =
    record {
      version = version.One;
      db = d.db;
      digits = d.count;
      window_digits = codes "0";
      others = [];
      table = table;
      plain = plain;
      windows_plain = refl;
      same = ap (λ (w : Version). lines_with_counts w d.count d.window_count d.db) (sym at) ∙ sym (append-nil (lines_with_counts d.version d.count d.window_count d.db));
    }
end_begins version.Two d at has table plain =
    let counts : d.window_count ≡ decimal (length d.db.windows) = subst (λ (w : Version). AreCounted w d.window_count d.db) at has.4 in
    record {
      version = version.Two;
      db = d.db;
      digits = d.count;
      window_digits = d.window_count;
      others = [];
      table = table;
      plain = plain;
      windows_plain = rw counts (decimal_plain (length d.db.windows) table.windows.few);
      same = ap (λ (w : Version). lines_with_counts w d.count d.window_count d.db) (sym at) ∙ sym (append-nil (lines_with_counts d.version d.count d.window_count d.db));
    }

-- the table of a draft that has read all lines
end_table : (d : Draft) → HasRead stage.End d → length (lines_read stage.End d) < 2 ^ 32 → IsTable d.db
end_table d has few = table_of d.db has.0 has.1 has.2 (omega (arith, length_all d.version d.count d.window_count d.db)) (omega (arith, windows_few d.version d.count d.window_count d.db has.4))

-- the lines of a draft begin those of a table
begins_at : (s : Stage) (d : Draft) → HasRead s d → length (lines_read s d) + 4 < 2 ^ 32 → Begins (lines_read s d)
begins_at stage.Version d has few =
    let db : Db = finished (codes "a") [] in
    record { version = version.Two; db = db; digits = codes "0"; window_digits = codes "0"; others = lines_with_counts version.Two (codes "0") (codes "0") db; table = a_table; plain = refl; windows_plain = refl; same = refl }
begins_at stage.Top d has few =
    let db : Db = finished (codes "a") [] in
    record {
      version = d.version;
      db = db;
      digits = codes "0";
      window_digits = codes "0";
      others = top_line (codes "a") ∷ source_line 1 (codes "a") ∷ instance_line an_instance ∷ count_line (codes "0") ∷ tail_lines d.version (codes "0") db;
      table = a_table;
      plain = refl;
      windows_plain = refl;
      same = tail_is d.version (codes "0") (codes "0") db;
    }
begins_at stage.Sources d has few =
    let db : Db = finished d.db.top d.db.sources in
    record {
      version = d.version;
      db = db;
      digits = codes "0";
      window_digits = codes "0";
      others = source_line (length d.db.sources + 1) (codes "a") ∷ instance_line an_instance ∷ count_line (codes "0") ∷ tail_lines d.version (codes "0") db;
      table = finished_table d.db.top d.db.sources has.top has.sources (omega (arith, length_sources 1 d.db.sources));
      plain = refl;
      windows_plain = refl;
      same = tail_is d.version (codes "0") (codes "0") db ∙ finished_lines d.version d.db.top d.db.sources (tail_lines d.version (codes "0") db);
    }
begins_at stage.Instances d has few =
    let db : Db = record d.db { points = [] } in
    let head : IsHead db = record { top = has.0.top; sources = has.0.sources; instances = has.0.instances; some_source = has.0.some_source; some_instance = has.0.some_instance; rise = has.0.rise } in
    let points : ArePoints db = record { points = All-nil (IsPoint (length db.sources) db.instances); rise = tt } in
    record {
      version = d.version;
      db = db;
      digits = codes "0";
      window_digits = codes "0";
      others = count_line (codes "0") ∷ tail_lines d.version (codes "0") db;
      table = bare_table db head points has.2 (omega (arith, length_head d.version d.db));
      plain = refl;
      windows_plain = refl;
      same = tail_is d.version (codes "0") (codes "0") db ∙ append_assoc (head_lines d.version d.db) (count_line (codes "0") ∷ []) (tail_lines d.version (codes "0") db);
    }
begins_at stage.Points d has few =
    record {
      version = d.version;
      db = d.db;
      digits = d.count;
      window_digits = codes "0";
      others = tail_lines d.version (codes "0") d.db;
      table = bare_table d.db has.0 has.1 has.3 (omega (arith, length_to_points d.version d.count d.db));
      plain = has.2;
      windows_plain = refl;
      same = tail_is d.version d.count (codes "0") d.db;
    }
begins_at stage.Windows d has few =
    let small : length d.db.points < 2 ^ 64 = omega (arith, length_to_windows d.count d.window_count d.db) in
    record {
      version = version.Two;
      db = d.db;
      digits = d.count;
      window_digits = d.window_count;
      others = codes "end" ∷ [];
      table = table_of d.db has.0 has.1 has.2 (omega (arith, length_to_windows d.count d.window_count d.db)) (omega (arith, length_to_windows d.count d.window_count d.db));
      plain = rw has.4 (decimal_plain (length d.db.points) small);
      windows_plain = has.3;
      same = refl;
    }
begins_at stage.End d has few =
    let small : length d.db.points < 2 ^ 64 = omega (arith, length_all d.version d.count d.window_count d.db) in
    end_begins d.version d refl has (end_table d has (omega (arith, few))) (rw has.3 (decimal_plain (length d.db.points) small))

pub part_begins : (d : Draft) (lines : List (List ℕ)) → IsPart d lines → length lines + 4 < 2 ^ 32 → Begins lines
part_begins d lines p few = subst Begins p.lines_are (begins_at d.stage d p.has (rw p.lines_are few))

-- ---- a table has one text, and is read from it

-- the text of a table in this version, where version 1 has no windows
abbrev Keeps : Version → Db → Type 0
Keeps version.One db = db.windows ≡ []
Keeps version.Two db = Unit {0}

-- the table of a draft of all lines
ends_in : (alloc : Global) (v : Version) (digits windows : List ℕ) (db : Db) (n : ℕ) → Keeps v db → finish_at (whole_draft alloc v digits windows db).stage n (whole_draft alloc v digits windows db) [] ≡ Ok db
ends_in alloc version.One digits windows db n none = ap (λ (ws : List Window). Ok (record db { windows = ws })) (sym none)
ends_in alloc version.Two digits windows db n kept = refl

read_in : (alloc : Global) (text : List ℕ) (v : Version) (db : Db) → IsTable db → Keeps v db → text ≡ text_in v db → reading alloc text ≡ Ok db
read_in alloc text v db table kept e =
    let digits = decimal (length db.points) in
    let windows = decimal (length db.windows) in
    let plain = decimal_plain (length db.points) (omega (arith, table.lines)) in
    let windows_plain = decimal_plain (length db.windows) table.windows.few in
    let lines = lines_with_counts v digits windows db in
    let split : lines_of text ≡ lines ++ [] ∷ [] = ap lines_of e ∙ lines_again lines (table_whole v digits windows db plain windows_plain table) in
    ap (read_lines 1 (start alloc)) split ∙ reads_on 1 (start alloc) lines [] []
    ∙ ap (λ (r : Result Draft DbFault). and_then r (λ new. read_lines (length lines + 1) new ([] ∷ []))) (table_steps alloc v digits windows db plain windows_plain table (same_path digits digits refl) (same_path windows windows refl))
    ∙ ends_in alloc v digits windows db (length lines + 1) kept

pub only_table : (alloc : Global) (text : List ℕ) (db : Db) → IsTable db → IsTextOf db text → reading alloc text ≡ Ok db
only_table alloc text db table (inl e) = read_in alloc text version.Two db table tt e
only_table alloc text db table (inr e) = read_in alloc text version.One db table e.0 e.1

finish_ok : (s : Stage) (n : ℕ) (d : Draft) (rest : List ℕ) (db : Db) → finish_at s n d rest ≡ Ok db → (s ≡ stage.End) × (rest ≡ []) × (d.db ≡ db)
finish_ok stage.Version n d rest db e = absurd (ok_err db _ (sym e))
finish_ok stage.Top n d rest db e = absurd (ok_err db _ (sym e))
finish_ok stage.Sources n d rest db e = absurd (ok_err db _ (sym e))
finish_ok stage.Instances n d rest db e = absurd (ok_err db _ (sym e))
finish_ok stage.Points n d rest db e = absurd (ok_err db _ (sym e))
finish_ok stage.Windows n d rest db e = absurd (ok_err db _ (sym e))
finish_ok stage.End n d [] db e = (refl, refl, same_ok d.db db e)
finish_ok stage.End n d (byte ∷ rest) db e = absurd (ok_err db _ (sym e))

-- what was read whole
pub record IsWhole (text : List ℕ) (db : Db) : Type 0 where
  pub table : IsTable db
  pub spelled : IsTextOf db text

-- the lines spell the text, with the numbers of points and of windows that the table has
spelled_by : (v : Version) (text : List ℕ) (d : Draft) → d.version ≡ v → text ≡ text_of_lines (lines_with_counts d.version d.count d.window_count d.db) → d.count ≡ decimal (length d.db.points) → AreCounted d.version d.window_count d.db → IsTextOf d.db text
spelled_by version.One text d at e points counts =
    let none : d.db.windows ≡ [] = subst (λ (w : Version). AreCounted w d.window_count d.db) at counts in
    inr (none, e ∙ ap (λ (w : Version). text_of_lines (lines_with_counts w d.count d.window_count d.db)) at ∙ ap (λ (ds : List ℕ). text_of_lines (lines_with_counts version.One ds d.window_count d.db)) points)
spelled_by version.Two text d at e points counts =
    let right : d.window_count ≡ decimal (length d.db.windows) = subst (λ (w : Version). AreCounted w d.window_count d.db) at counts in
    inl (e ∙ ap (λ (w : Version). text_of_lines (lines_with_counts w d.count d.window_count d.db)) at ∙ ap (λ (ds : List ℕ). text_of_lines (lines_with_counts version.Two ds d.window_count d.db)) points
    ∙ ap (λ (ws : List ℕ). text_of_lines (lines_with_counts version.Two (decimal (length d.db.points)) ws d.db)) right)

whole_by : (text : List ℕ) (before : List (List ℕ)) (draft : Draft) (db : Db) → IsPart draft before → draft.stage ≡ stage.End → draft.db ≡ db → lines_of text ≡ before ++ [] ∷ [] → length before < 2 ^ 32 → IsWhole text db
whole_by text before draft db p at same split few =
    let has : HasRead stage.End draft = subst (λ (s : Stage). HasRead s draft) at p.has in
    let lines : lines_with_counts draft.version draft.count draft.window_count draft.db ≡ before = subst (λ (s : Stage). lines_read s draft ≡ before) at p.lines_are in
    let table : IsTable draft.db = end_table draft has (subst (λ (ls : List (List ℕ)). length ls < 2 ^ 32) (sym lines) few) in
    let spelled : IsTextOf draft.db text = spelled_by draft.version text draft refl (text_again text before split ∙ ap text_of_lines (sym lines)) has.3 has.4 in
    subst (IsWhole text) same (record { table = table; spelled = spelled })

found_by : (text : List ℕ) (n : ℕ) (before : List (List ℕ)) (draft : Draft) (rest : List (List ℕ)) (r : Result Db DbFault) (db : Db) → IsPart draft before → length before < 2 ^ 32 → lines_of text ≡ before ++ rest → Halts n draft rest r → r ≡ Ok db → IsWhole text db
found_by text n before draft [] r db p few split h e = absurd (ok_err db _ (sym e ∙ h))
found_by text n before draft (last ∷ []) r db p few split h e =
    let f = finish_ok draft.stage n draft last db (sym h ∙ e) in
    whole_by text before draft db p f.0 f.2 (split ∙ ap (λ (l : List ℕ). before ++ l ∷ []) f.1) few
found_by text n before draft (line ∷ other ∷ lines) r db p few split (fault, g, h) e = absurd (ok_err db fault (sym e ∙ h))

before_few : (text : List ℕ) (before rest : List (List ℕ)) → length text ≤ 2147483648 → lines_of text ≡ before ++ rest → length before + 5 < 2 ^ 32
before_few text before rest small split =
    let long : length (lines_of text) ≡ length (before ++ rest) = ap (λ (ls : List (List ℕ)). length ls) split in
    omega (arith, number_of_lines text, long, length-append before rest)

pub found_table : (alloc : Global) (text : List ℕ) (db : Db) → length text ≤ 2147483648 → reading alloc text ≡ Ok db → IsWhole text db
found_table alloc text db small e =
    let h = halted 1 (start alloc) (lines_of text) in
    let few = before_few text h.before h.rest small h.split in
    let p = steps_part 1 (start alloc) [] h.before h.draft (start_part alloc) (omega arith) h.read in
    found_by text (length h.before + 1) h.before h.draft h.rest (reading alloc text) db p (omega arith) h.split h.halts e

-- ---- a text that is no table's has its first fault

-- the version is another number
record IsOther (s : Stage) (n : ℕ) (line : List ℕ) (f : DbFault) : Type 0 where
  at : s ≡ stage.Version
  fault : f ≡ At WrongVersion (Some n)
  version : is_version line ≡ true
  other : version_of line ≡ None

-- the number of points is another
record IsMiscounted (s : Stage) (d : Draft) (line : List ℕ) (f : DbFault) : Type 0 where
  at : s ≡ stage.Points
  fault : f ≡ At WrongCount (Some (3 + length d.db.sources + length d.db.instances))
  last : begins_point line ≡ false
  wrong : bytes_eq d.count (decimal (length d.db.points)) ≡ false

-- the number of windows is another
record IsMiscountedWindows (s : Stage) (d : Draft) (line : List ℕ) (f : DbFault) : Type 0 where
  at : s ≡ stage.Windows
  fault : f ≡ At WrongCount (Some (4 + length d.db.sources + length d.db.instances + length d.db.points))
  last : begins_window line ≡ false
  wrong : bytes_eq d.window_count (decimal (length d.db.windows)) ≡ false

FaultAt : Stage → ℕ → Draft → List ℕ → DbFault → Type 0
FaultAt s n d line f = (f ≡ At BadLine (Some n)) ⊎ (IsOther s n line f ⊎ (IsMiscounted s d line f ⊎ IsMiscountedWindows s d line f))

same_err : {X : Type 0} (f g : DbFault) → ◌≡◌ {A = Result X DbFault} (Err f) (Err g) → f ≡ g
same_err f g e = cc

bad_is : (n : ℕ) (f : DbFault) → ◌≡◌ {A = Result Draft DbFault} (bad n) (Err f) → f ≡ At BadLine (Some n)
bad_is n f e = sym (same_err (At BadLine (Some n)) f e)

or_else_err : {X : Type 0} (o : Option X) (g : X → Draft) (other : Result Draft DbFault) (f : DbFault) → or_else o (λ x. Ok (g x)) other ≡ Err f → other ≡ Err f
or_else_err None g other f e = e
or_else_err (Some x) g other f e = absurd (ok_err (g x) f e)

or_else_none : {X : Type 0} (o : Option X) (g : X → Draft) (other : Result Draft DbFault) (f : DbFault) → or_else o (λ x. Ok (g x)) other ≡ Err f → (o ≡ None) × (other ≡ Err f)
or_else_none None g other f e = (refl, e)
or_else_none (Some x) g other f e = absurd (ok_err (g x) f e)

instance_fault : (n : ℕ) (d : Draft) (line : List ℕ) (f : DbFault) → next_instance n d line ≡ Err f → f ≡ At BadLine (Some n)
unfolding next_instance
instance_fault n d line f e = bad_is n f (or_else_err (instance_at line >>= λ i. cond (follows by_path d.db.instances i) (Some i) None) (λ i. with_instance d i) (bad n) f e)

version_fault : (n : ℕ) (d : Draft) (line : List ℕ) (f : DbFault) → next_version n d line ≡ Err f → FaultAt stage.Version n d line f
unfolding FaultAt next_version
version_fault n d line f e =
    let other = or_else_none (version_of line) (λ v. record d { stage = stage.Top; version = v }) (cond (is_version line) (Err (At WrongVersion (Some n))) (bad n)) f e in
    elim (cases_Bool (is_version line)) [
      | inl is ↦ let same : ◌≡◌ {A = Result Draft DbFault} (Err (At WrongVersion (Some n))) (Err f) = rw is at other.1 in inr (inl (record { at = refl; fault = sym (same_err (At WrongVersion (Some n)) f same); version = is; other = other.0 }))
      | inr unknown ↦ inl (bad_is n f (rw unknown at other.1))
    ]

top_fault : (n : ℕ) (d : Draft) (line : List ℕ) (f : DbFault) → next_top n d line ≡ Err f → f ≡ At BadLine (Some n)
unfolding next_top
top_fault n d line f e = bad_is n f (or_else_err (top_of line) (λ top. record d { stage = stage.Sources; db = record d.db { top = top } }) (bad n) f e)

source_fault : (n : ℕ) (d : Draft) (line : List ℕ) (f : DbFault) → next_source n d line ≡ Err f → f ≡ At BadLine (Some n)
unfolding next_source
source_fault n d line f e =
    let other = or_else_err (source_of (length d.db.sources + 1) line) (λ name. with_source d name) (cond (eqb (length d.db.sources) 0) (bad n) (next_instance n d line)) f e in
    elim (cases_Bool (eqb (length d.db.sources) 0)) [
      | inl empty ↦ bad_is n f (rw empty at other)
      | inr some ↦ instance_fault n d line f (rw some at other)
    ]

count_fault : (n : ℕ) (d : Draft) (line : List ℕ) (f : DbFault) → next_count n d line ≡ Err f → f ≡ At BadLine (Some n)
unfolding next_count
count_fault n d line f e = instance_fault n d line f (or_else_err (count_of line) (λ digits. record d { stage = stage.Points; count = digits }) (next_instance n d line) f e)

end_fault : (n : ℕ) (d : Draft) (line : List ℕ) (f : DbFault) → next_end n d line ≡ Err f → f ≡ At BadLine (Some n)
unfolding next_end
end_fault n d line f e =
    elim (cases_Bool (bytes_eq line (codes "end"))) [
      | inl is ↦ absurd (ok_err (record d { stage = stage.End }) f (rw is at e))
      | inr other ↦ bad_is n f (rw other at e)
    ]

behind_fault : (v : Version) (n : ℕ) (d : Draft) (line : List ℕ) (f : DbFault) → next_behind v n d line ≡ Err f → f ≡ At BadLine (Some n)
unfolding next_window_count
behind_fault version.One n d line f e = end_fault n d line f e
behind_fault version.Two n d line f e = bad_is n f (or_else_err (window_count_of line) (λ digits. record d { stage = stage.Windows; window_count = digits }) (bad n) f e)

counted_fault : (n : ℕ) (d : Draft) (line : List ℕ) (f : DbFault) → begins_point line ≡ false → next_counted n d line ≡ Err f → FaultAt stage.Points n d line f
unfolding FaultAt next_counted
counted_fault n d line f last e =
    elim (cases_Bool (bytes_eq d.count (decimal (length d.db.points)))) [
      | inl right ↦ inl (behind_fault d.version n d line f (rw right at e))
      | inr wrong ↦
          let count : DbFault = At WrongCount (Some (3 + length d.db.sources + length d.db.instances)) in
          let same : ◌≡◌ {A = Result Draft DbFault} (Err count) (Err f) = rw wrong at e in
          inr (inr (inl (record { at = refl; fault = sym (same_err count f same); last = last; wrong = wrong })))
    ]

point_fault : (n : ℕ) (d : Draft) (line : List ℕ) (f : DbFault) → next_point n d line ≡ Err f → FaultAt stage.Points n d line f
unfolding FaultAt next_point
point_fault n d line f e =
    elim (cases_Bool (begins_point line)) [
      | inl begins ↦ inl (bad_is n f (or_else_err (point_of (length d.db.sources) d.db.instances line >>= λ p. cond (follows by_address d.db.points p) (Some p) None) (λ p. with_point d p) (bad n) f (rw begins at e)))
      | inr last ↦ counted_fault n d line f last (rw last at e)
    ]

windows_counted_fault : (n : ℕ) (d : Draft) (line : List ℕ) (f : DbFault) → begins_window line ≡ false → next_windows_counted n d line ≡ Err f → FaultAt stage.Windows n d line f
unfolding FaultAt next_windows_counted
windows_counted_fault n d line f last e =
    elim (cases_Bool (bytes_eq d.window_count (decimal (length d.db.windows)))) [
      | inl right ↦ inl (end_fault n d line f (rw right at e))
      | inr wrong ↦
          let count : DbFault = At WrongCount (Some (4 + length d.db.sources + length d.db.instances + length d.db.points)) in
          let same : ◌≡◌ {A = Result Draft DbFault} (Err count) (Err f) = rw wrong at e in
          inr (inr (inr (record { at = refl; fault = sym (same_err count f same); last = last; wrong = wrong })))
    ]

window_fault : (n : ℕ) (d : Draft) (line : List ℕ) (f : DbFault) → next_window n d line ≡ Err f → FaultAt stage.Windows n d line f
unfolding FaultAt next_window
window_fault n d line f e =
    elim (cases_Bool (begins_window line)) [
      | inl begins ↦ inl (bad_is n f (or_else_err (window_of line >>= λ w. cond (follows window_cmp d.db.windows w) (Some w) None) (λ w. with_window d w) (bad n) f (rw begins at e)))
      | inr last ↦ windows_counted_fault n d line f last (rw last at e)
    ]

next_fault : (s : Stage) (n : ℕ) (d : Draft) (line : List ℕ) (f : DbFault) → next_at s n d line ≡ Err f → FaultAt s n d line f
unfolding FaultAt
next_fault stage.Version n d line f e = version_fault n d line f e
next_fault stage.Top n d line f e = inl (top_fault n d line f e)
next_fault stage.Sources n d line f e = inl (source_fault n d line f e)
next_fault stage.Instances n d line f e = inl (count_fault n d line f e)
next_fault stage.Points n d line f e = point_fault n d line f e
next_fault stage.Windows n d line f e = window_fault n d line f e
next_fault stage.End n d line f e = inl (bad_is n f e)

-- ---- wrong versions and wrong counts are read as such

version_takes : (line : List ℕ) (o : Option (List ℕ)) → behind (codes "covered-db ") line ≡ o → is_some (o >>= λ digits. cond (is_plain digits) (Some digits) None) ≡ true → version_of line ≡ None
    → (digits : List ℕ) × (line ≡ codes "covered-db " ++ digits) × (is_plain digits ≡ true) × (digits ≢ codes "1") × (digits ≢ codes "2")
version_takes line None e some other = absurd cc
version_takes line (Some digits) e some other =
    elim (cases_Bool (is_plain digits)) [
      | inl plain ↦
          let spelled = behind_takes (codes "covered-db ") line digits e in
          let none : version_of (codes "covered-db " ++ digits) ≡ None = ap version_of (sym spelled) ∙ other in
          let unlike : (v : Version) (ds : List ℕ) → version_line v ≡ codes "covered-db " ++ ds → digits ≢ ds =
          λ v ds is same. let bad : ◌≡◌ {A = Option Version} None (Some v) = sym none ∙ ap (λ (x : List ℕ). version_of (codes "covered-db " ++ x)) same ∙ ap version_of (sym is) ∙ known_again v in cc in
          (digits, spelled, plain, unlike version.One (codes "1") refl, unlike version.Two (codes "2") refl)
      | inr none ↦ absurd (let bad : false ≡ true = rw none at some in cc)
    ]

unlike_digits : (digits other : List ℕ) → digits ≢ other → bytes_eq digits other ≡ false
unlike_digits digits other differs =
    elim (cases_Bool (bytes_eq digits other)) [
      | inl same ↦ absurd (differs ((bytes_eq-Decides digits other).0 same))
      | inr unlike ↦ unlike
    ]

no_version : (digits : List ℕ) → digits ≢ codes "1" → digits ≢ codes "2" → version_of (codes "covered-db " ++ digits) ≡ None
unfolding version_of
no_version digits one two =
    let no_one : bytes_eq (codes "covered-db " ++ digits) (codes "covered-db 1") ≡ false = unlike_digits digits (codes "1") one in
    let no_two : bytes_eq (codes "covered-db " ++ digits) (codes "covered-db 2") ≡ false = unlike_digits digits (codes "2") two in
    rw (no_two, no_one) refl

version_again : (alloc : Global) (text : List ℕ) → IsWrongVersion text → reading alloc text ≡ Err (At WrongVersion (Some 1))
unfolding next_version
version_again alloc text w =
    let line : List ℕ = codes "covered-db " ++ w.digits in
    let other : version_of line ≡ None = no_version w.digits w.other w.newer in
    let is : is_version line ≡ true = rw (behind_again (codes "covered-db ") w.digits, w.plain) refl in
    let read : next_version 1 (start alloc) line ≡ Err (At WrongVersion (Some 1)) = rw (other, is) refl in
    ap (read_lines 1 (start alloc)) w.split ∙ ap (λ (r : Result Draft DbFault). and_then r (λ new. read_lines 2 new (w.next ∷ w.others))) read

count_again : (alloc : Global) (text : List ℕ) (number : ℕ) → IsWrongCount text number → reading alloc text ≡ Err (At WrongCount (Some number))
count_again alloc text number w =
    let lines = lines_to_points w.version w.digits w.db in
    let n = length lines + 1 in
    let led : steps 1 (start alloc) lines ≡ Ok (counted alloc w.version w.digits w.db) = ap (steps 1 (start alloc)) (sym (append-nil lines)) ∙ table_leads alloc w.version w.digits w.db w.plain w.table 1 [] in
    let number_is : 3 + length w.db.sources + length w.db.instances ≡ number = omega (arith, w.number_is, length_head w.version w.db) in
    ap (read_lines 1 (start alloc)) w.split ∙ reads_on 1 (start alloc) lines w.line (w.next ∷ w.others)
    ∙ ap (λ (r : Result Draft DbFault). and_then r (λ new. read_lines n new (w.line ∷ w.next ∷ w.others))) led
    ∙ ap (λ (r : Result Draft DbFault). and_then r (λ new. read_lines (n + 1) new (w.next ∷ w.others))) (wrong_count_is n alloc w.version w.digits w.line w.db w.last w.differs)
    ∙ ap (λ (k : ℕ). Err (At WrongCount (Some k))) number_is

window_count_again : (alloc : Global) (text : List ℕ) (number : ℕ) → IsWrongWindowCount text number → reading alloc text ≡ Err (At WrongCount (Some number))
window_count_again alloc text number w =
    let points = decimal (length w.db.points) in
    let lines = lines_to_windows version.Two points w.digits w.db in
    let n = length lines + 1 in
    let plain = decimal_plain (length w.db.points) (omega (arith, w.table.lines)) in
    let led : steps 1 (start alloc) lines ≡ Ok (windowed alloc points w.digits w.db) = ap (steps 1 (start alloc)) (sym (append-nil lines)) ∙ windows_lead_to alloc points w.digits w.db plain w.plain w.table (same_path points points refl) 1 [] in
    let number_is : 4 + length w.db.sources + length w.db.instances + length w.db.points ≡ number = omega (arith, w.number_is, length_to_points version.Two points w.db) in
    ap (read_lines 1 (start alloc)) w.split ∙ reads_on 1 (start alloc) lines w.line (w.next ∷ w.others)
    ∙ ap (λ (r : Result Draft DbFault). and_then r (λ new. read_lines n new (w.line ∷ w.next ∷ w.others))) led
    ∙ ap (λ (r : Result Draft DbFault). and_then r (λ new. read_lines (n + 1) new (w.next ∷ w.others))) (wrong_window_count_is n alloc points w.digits w.line w.db w.last w.differs)
    ∙ ap (λ (k : ℕ). Err (At WrongCount (Some k))) number_is

-- ---- which fault it is

-- what reading came to, where these lines were read and these are left
record Came (alloc : Global) (text : List ℕ) (n : ℕ) (before : List (List ℕ)) (draft : Draft) (rest : List (List ℕ)) : Type 0 where
  part : IsPart draft before
  split : lines_of text ≡ before ++ rest
  number_is : n ≡ length before + 1
  read : steps 1 (start alloc) before ≡ Ok draft
  few : length before + 4 < 2 ^ 32

-- the line cannot go on
abbrev Stuck : ℕ → Draft → List (List ℕ) → Type 0
Stuck n draft rest = (line next_line : List ℕ) (others : List (List ℕ)) → rest ≡ line ∷ next_line ∷ others → next n draft line ≡ Err (At BadLine (Some n))

kinds_apart : (k n : ℕ) → At WrongCount (Some k) ≡ At BadLine (Some n) → ⊥
kinds_apart k n e = cc

versions_apart : (n : ℕ) → At WrongVersion (Some 1) ≡ At BadLine (Some n) → ⊥
versions_apart n e = cc

no_begin : (alloc : Global) (n : ℕ) (before : List (List ℕ)) (draft : Draft) (line : List ℕ) → steps 1 (start alloc) before ≡ Ok draft → n ≡ length before + 1 → next n draft line ≡ Err (At BadLine (Some n)) → Begins (before ++ line ∷ []) → ⊥
no_begin alloc n before draft line read number_is e b =
    let stuck : steps 1 (start alloc) (lines_with_counts b.version b.digits b.window_digits b.db) ≡ Err (At BadLine (Some n)) =
    ap (steps 1 (start alloc)) (b.same ∙ append_assoc before (line ∷ []) b.others) ∙ steps_append 1 (start alloc) before (line ∷ b.others)
    ∙ ap (λ (r : Result Draft DbFault). bind r (λ new. steps (length before + 1) new (line ∷ b.others))) read
    ∙ ap (λ (k : ℕ). steps k draft (line ∷ b.others)) (sym number_is)
    ∙ ap (λ (r : Result Draft DbFault). bind r (λ new. steps (n + 1) new b.others)) e in
    elim (all_lines alloc b.version b.digits b.window_digits b.db b.plain b.windows_plain b.table) [
      | inl ok ↦ ok_err _ _ (sym ok ∙ stuck)
      | inr wrong ↦ kinds_apart wrong.0 n (same_err _ _ (sym wrong.1 ∙ stuck))
    ]

bad_line : (alloc : Global) (text : List ℕ) (n : ℕ) (before : List (List ℕ)) (draft : Draft) (rest : List (List ℕ)) → Came alloc text n before draft rest → Stuck n draft rest → reading alloc text ≡ Err (At BadLine (Some n)) → IsBadLine text n
bad_line alloc text n before draft rest c stuck e = record {
  before = before;
  rest = rest;
  split = c.split;
  number_is = c.number_is;
  begins = part_begins draft before c.part c.few;
  ends = λ line next_line others is b. no_begin alloc n before draft line c.read c.number_is (stuck line next_line others is) b;
  no_table = λ db table spelled. ok_err db (At BadLine (Some n)) (sym (only_table alloc text db table spelled) ∙ e);
  same_version = λ w. versions_apart n (same_err (At WrongVersion (Some 1)) (At BadLine (Some n)) (sym (version_again alloc text w) ∙ e));
  counted = λ k w. kinds_apart k n (same_err (At WrongCount (Some k)) (At BadLine (Some n)) (sym (count_again alloc text k w) ∙ e));
  windows_counted = λ k w. kinds_apart k n (same_err (At WrongCount (Some k)) (At BadLine (Some n)) (sym (window_count_again alloc text k w) ∙ e));
}

finish_err : (s : Stage) (n : ℕ) (d : Draft) (rest : List ℕ) (f : DbFault) → finish_at s n d rest ≡ Err f → f ≡ At BadLine (Some n)
finish_err stage.Version n d rest f e = sym (same_err (At BadLine (Some n)) f e)
finish_err stage.Top n d rest f e = sym (same_err (At BadLine (Some n)) f e)
finish_err stage.Sources n d rest f e = sym (same_err (At BadLine (Some n)) f e)
finish_err stage.Instances n d rest f e = sym (same_err (At BadLine (Some n)) f e)
finish_err stage.Points n d rest f e = sym (same_err (At BadLine (Some n)) f e)
finish_err stage.Windows n d rest f e = sym (same_err (At BadLine (Some n)) f e)
finish_err stage.End n d [] f e = absurd (ok_err d.db f e)
finish_err stage.End n d (byte ∷ rest) f e = sym (same_err (At BadLine (Some n)) f e)

-- a bad line, whatever fault is its name
bad_fault : (alloc : Global) (text : List ℕ) (n : ℕ) (before : List (List ℕ)) (draft : Draft) (rest : List (List ℕ)) (f : DbFault) → Came alloc text n before draft rest → Stuck n draft rest → f ≡ At BadLine (Some n) → reading alloc text ≡ Err f → IsFault text f
bad_fault alloc text n before draft rest f c stuck is e = subst (IsFault text) (sym is) (bad_line alloc text n before draft rest c stuck (e ∙ ap (λ (g : DbFault). Err g) is))

other_fault : (alloc : Global) (text : List ℕ) (n : ℕ) (before : List (List ℕ)) (draft : Draft) (line next_line : List ℕ) (others : List (List ℕ)) (f : DbFault) → Came alloc text n before draft (line ∷ next_line ∷ others) → IsOther draft.stage n line f → IsFault text f
other_fault alloc text n before draft line next_line others f c o =
    let none : [] ≡ before = subst (λ (s : Stage). lines_read s draft ≡ before) o.at c.part.lines_are in
    let first : n ≡ 1 = c.number_is ∙ ap (λ (ls : List (List ℕ)). length ls + 1) (sym none) in
    let split : lines_of text ≡ line ∷ next_line ∷ others = c.split ∙ ap (λ (ls : List (List ℕ)). ls ++ line ∷ next_line ∷ others) (sym none) in
    let v = version_takes line (behind (codes "covered-db ") line) refl o.version o.other in
    subst (IsFault text) (sym o.fault) (record { digits = v.0; next = next_line; others = others; plain = v.2; other = v.3; newer = v.4; split = split ∙ ap (λ (l : List ℕ). l ∷ next_line ∷ others) v.1 }, first)

count_fault_is : (alloc : Global) (text : List ℕ) (n : ℕ) (before : List (List ℕ)) (draft : Draft) (line next_line : List ℕ) (others : List (List ℕ)) (f : DbFault) → Came alloc text n before draft (line ∷ next_line ∷ others) → IsMiscounted draft.stage draft line f → IsFault text f
count_fault_is alloc text n before draft line next_line others f c m =
    let has : HasRead stage.Points draft = subst (λ (s : Stage). HasRead s draft) m.at c.part.has in
    let lines : lines_to_points draft.version draft.count draft.db ≡ before = subst (λ (s : Stage). lines_read s draft ≡ before) m.at c.part.lines_are in
    let long : length (lines_to_points draft.version draft.count draft.db) ≡ length before = ap (λ (ls : List (List ℕ)). length ls) lines in
    let table : IsTable draft.db = bare_table draft.db has.0 has.1 has.3 (omega (arith, length_to_points draft.version draft.count draft.db, long, c.few)) in
    let differs : draft.count ≢ decimal (length draft.db.points) = λ same. let bad : true ≡ false = sym (same_path draft.count (decimal (length draft.db.points)) same) ∙ m.wrong in cc in
    let wrong : IsWrongCount text (3 + length draft.db.sources + length draft.db.instances) = record {
      version = draft.version;
      db = draft.db;
      digits = draft.count;
      line = line;
      next = next_line;
      others = others;
      table = table;
      plain = has.2;
      last = m.last;
      differs = differs;
      number_is = omega (arith, length_head draft.version draft.db);
      split = c.split ∙ ap (λ (ls : List (List ℕ)). ls ++ line ∷ next_line ∷ others) (sym lines);
    } in
    subst (IsFault text) (sym m.fault) (inl wrong)

window_count_fault_is : (alloc : Global) (text : List ℕ) (n : ℕ) (before : List (List ℕ)) (draft : Draft) (line next_line : List ℕ) (others : List (List ℕ)) (f : DbFault) → Came alloc text n before draft (line ∷ next_line ∷ others) → IsMiscountedWindows draft.stage draft line f → IsFault text f
window_count_fault_is alloc text n before draft line next_line others f c m =
    let has : HasRead stage.Windows draft = subst (λ (s : Stage). HasRead s draft) m.at c.part.has in
    let lines : lines_to_windows version.Two draft.count draft.window_count draft.db ≡ before = subst (λ (s : Stage). lines_read s draft ≡ before) m.at c.part.lines_are in
    let long : length (lines_to_windows version.Two draft.count draft.window_count draft.db) ≡ length before = ap (λ (ls : List (List ℕ)). length ls) lines in
    let all = length_to_windows draft.count draft.window_count draft.db in
    let table : IsTable draft.db = table_of draft.db has.0 has.1 has.2 (omega (arith, all, long, c.few)) (omega (arith, all, long, c.few)) in
    let differs : draft.window_count ≢ decimal (length draft.db.windows) = λ same. let bad : true ≡ false = sym (same_path draft.window_count (decimal (length draft.db.windows)) same) ∙ m.wrong in cc in
    let right : lines_to_windows version.Two (decimal (length draft.db.points)) draft.window_count draft.db ≡ before = ap (λ (ds : List ℕ). lines_to_windows version.Two ds draft.window_count draft.db) (sym has.4) ∙ lines in
    let wrong : IsWrongWindowCount text (4 + length draft.db.sources + length draft.db.instances + length draft.db.points) = record {
      db = draft.db;
      digits = draft.window_count;
      line = line;
      next = next_line;
      others = others;
      table = table;
      plain = has.3;
      last = m.last;
      differs = differs;
      number_is = omega (arith, length_to_points version.Two (decimal (length draft.db.points)) draft.db);
      split = c.split ∙ ap (λ (ls : List (List ℕ)). ls ++ line ∷ next_line ∷ others) (sym right);
    } in
    subst (IsFault text) (sym m.fault) (inr wrong)

fault_by : (alloc : Global) (text : List ℕ) (n : ℕ) (before : List (List ℕ)) (draft : Draft) (rest : List (List ℕ)) (r : Result Db DbFault) (f : DbFault) → Came alloc text n before draft rest → Halts n draft rest r → r ≡ Err f → reading alloc text ≡ Err f → IsFault text f
unfolding FaultAt
fault_by alloc text n before draft [] r f c h e whole = bad_fault alloc text n before draft [] f c (λ line next_line others is. absurd cc) (sym (same_err (At BadLine (Some n)) f (sym h ∙ e))) whole
fault_by alloc text n before draft (last ∷ []) r f c h e whole = bad_fault alloc text n before draft (last ∷ []) f c (λ line next_line others is. absurd cc) (finish_err draft.stage n draft last f (sym h ∙ e)) whole
fault_by alloc text n before draft (line ∷ next_line ∷ lines) r f c (fault, g, h) e whole =
    let same : fault ≡ f = same_err fault f (sym h ∙ e) in
    let stops : next n draft line ≡ Err f = g ∙ ap (λ (x : DbFault). Err x) same in
    elim (next_fault draft.stage n draft line f stops) [
      | inl is_bad ↦ bad_fault alloc text n before draft (line ∷ next_line ∷ lines) f c (λ l k others is. let one : l ≡ line = cc in rw one (stops ∙ ap (λ (x : DbFault). Err x) is_bad)) is_bad whole
      | inr others ↦ elim others [
        | inl o ↦ other_fault alloc text n before draft line next_line lines f c o
        | inr counts ↦ elim counts [
          | inl m ↦ count_fault_is alloc text n before draft line next_line lines f c m
          | inr m ↦ window_count_fault_is alloc text n before draft line next_line lines f c m
        ]
      ]
    ]

pub fault_is : (alloc : Global) (text : List ℕ) (f : DbFault) → length text ≤ 2147483648 → reading alloc text ≡ Err f → IsFault text f
fault_is alloc text f small e =
    let h = halted 1 (start alloc) (lines_of text) in
    let few = before_few text h.before h.rest small h.split in
    let p = steps_part 1 (start alloc) [] h.before h.draft (start_part alloc) (omega arith) h.read in
    fault_by alloc text (length h.before + 1) h.before h.draft h.rest (reading alloc text) f (record { part = p; split = h.split; number_is = refl; read = h.read; few = omega arith }) h.halts e e

-- no two tables have one text
pub one_table : (alloc : Global) (a b : Db) (text : List ℕ) → IsTable a → IsTable b → IsTextOf a text → IsTextOf b text → a ≡ b
one_table alloc a b text p q spelled same = same_ok a b (sym (only_table alloc text a p spelled) ∙ only_table alloc text b q same)

-- ---- the loop

-- the draft has the lines up to this number
pub record IsRead (d : Draft) (number : ℕ) : Type 0 where
  pub lines : List (List ℕ)
  pub part : IsPart d lines
  pub number_is : number ≡ length lines + 1

pub read_start : (alloc : Global) → IsRead (start alloc) 1
read_start alloc = record { lines = []; part = start_part alloc; number_is = refl }

pub read_few : (d : Draft) (number : ℕ) → IsRead d number → length d.db.sources + length d.db.instances + length d.db.points < number
read_few d number r = omega (arith, part_few d r.lines r.part, r.number_is)

rising_at : (s : Stage) (d : Draft) → HasRead s d → Rises by_path d.db.instances
rising_at stage.Version d has = subst (Rises by_path) (sym (ap (λ (db : Db). db.instances) has)) tt
rising_at stage.Top d has = subst (Rises by_path) (sym (ap (λ (db : Db). db.instances) has)) tt
rising_at stage.Sources d has = subst (Rises by_path) (sym has.no_instance) tt
rising_at stage.Instances d has = has.0.rise
rising_at stage.Points d has = has.0.rise
rising_at stage.Windows d has = has.0.rise
rising_at stage.End d has = has.0.rise

pub read_draft : (d : Draft) (number : ℕ) → IsRead d number → number ≤ 2147483649 → IsDraft d
read_draft d number r small = record { few = omega (arith, read_few d number r); rising = rising_at d.stage d r.part.has }

pub read_next : (d : Draft) (number : ℕ) (line : List ℕ) (new : Draft) → IsRead d number → number ≤ 2147483649 → next number d line ≡ Ok new → IsRead new (number + 1)
read_next d number line new r small e = record { lines = r.lines ++ line ∷ []; part = next_part number d r.lines line new (omega (arith, read_few d number r)) r.part e; number_is = omega (arith, r.number_is, length-append r.lines (line ∷ [])) }

onto_some : (byte : ℕ) (pieces : List (List ℕ)) → onto_first byte pieces ≢ []
onto_some byte [] e = cc
onto_some byte (piece ∷ pieces) e = cc

some_pieces : (text : List ℕ) → lines_of text ≢ []
some_pieces [] e = cc
some_pieces (byte ∷ text) e =
    elim (cases_Bool (eqb byte 10)) [
      | inl is ↦ let bad : [] ∷ lines_of text ≡ [] = rw is at e in cc
      | inr other ↦ onto_some byte (lines_of text) (rw other at e)
    ]

pub goes_on : (number : ℕ) (d : Draft) (rest line after : List ℕ) (new : Draft) → split_first 10 rest ≡ Some (line, after) → next number d line ≡ Ok new → read_lines number d (lines_of rest) ≡ read_lines (number + 1) new (lines_of after)
goes_on number d rest line after new split e =
    ap (read_lines number d) (pieces_split 10 rest line after split) ∙ reads_first number d line (lines_of after) (some_pieces after) ∙ ap (λ (r : Result Draft DbFault). and_then r (λ x. read_lines (number + 1) x (lines_of after))) e

pub stops_at : (number : ℕ) (d : Draft) (rest line after : List ℕ) (fault : DbFault) → split_first 10 rest ≡ Some (line, after) → next number d line ≡ Err fault → read_lines number d (lines_of rest) ≡ Err fault
stops_at number d rest line after fault split e =
    ap (read_lines number d) (pieces_split 10 rest line after split) ∙ reads_first number d line (lines_of after) (some_pieces after) ∙ ap (λ (r : Result Draft DbFault). and_then r (λ x. read_lines (number + 1) x (lines_of after))) e

pub ends_at : (number : ℕ) (d : Draft) (rest : List ℕ) → split_first 10 rest ≡ None → read_lines number d (lines_of rest) ≡ finish_at d.stage number d rest
ends_at number d rest split = ap (read_lines number d) (pieces_whole 10 rest split)

-- ---- what was returned

pub returned_whole : (alloc : Global) (text : List ℕ) (r : Result Db DbFault) → length text ≤ 2147483648 → Returns r (reading alloc text) → IfOk r (λ db. IsWhole text db)
returned_whole alloc text (Ok db) small e = found_table alloc text db small e
returned_whole alloc text (Err NoMemory) small e = tt
returned_whole alloc text (Err (At kind line)) small e = tt

pub returned_only : (alloc : Global) (text : List ℕ) (r : Result Db DbFault) → Returns r (reading alloc text) → (db : Db) → IsTable db → IsTextOf db text → IsTheTable db r
returned_only alloc text (Ok read) e db table spelled = same_ok read db (sym e ∙ only_table alloc text db table spelled)
returned_only alloc text (Err NoMemory) e db table spelled = refl
returned_only alloc text (Err (At kind line)) e db table spelled = absurd (ok_err db (At kind line) (sym (only_table alloc text db table spelled) ∙ e))

pub returned_fault : (alloc : Global) (text : List ℕ) (r : Result Db DbFault) → length text ≤ 2147483648 → Returns r (reading alloc text) → IfErr r (λ fault. IsFault text fault)
returned_fault alloc text (Ok db) small e = tt
returned_fault alloc text (Err NoMemory) small e = tt
returned_fault alloc text (Err (At kind line)) small e = fault_is alloc text (At kind line) small e

-- the loop ends with a fault
pub returned_err : (fault : DbFault) (d new : Draft) (number : ℕ) (rest line after : List ℕ) (total : Result Db DbFault) → split_first 10 rest ≡ Some (line, after) → StepsTo {X = Unit {0}} (Err fault) new (next number d line) → read_lines number d (lines_of rest) ≡ total → Returns {X = Db} (Err fault) total
returned_err NoMemory d new number rest line after total split e so_far = tt
returned_err (At kind at) d new number rest line after total split e so_far = sym so_far ∙ stops_at number d rest line after (At kind at) split e

pub returned_end : (r : Result Db DbFault) (d : Draft) (number : ℕ) (rest : List ℕ) (total : Result Db DbFault) → split_first 10 rest ≡ None → Returns r (finish_at d.stage number d rest) → read_lines number d (lines_of rest) ≡ total → Returns r total
returned_end r d number rest total split e so_far = subst (Returns r) (sym (ends_at number d rest split) ∙ so_far) e
