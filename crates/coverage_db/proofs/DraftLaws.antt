-- Reading line by line: what one more line makes of a draft.
use Rattle.std.proofs.Common.{◌≡◌, ◌≢◌, ℕ, suc, ◌+◌, ◌-◌, ◌^◌, ◌<◌, true, false, cond, eqb, List, [], ◌∷◌, ◌++◌, map, length, All, Option, Some, None, Result, Ok, Err, refl, sym, ap, subst, ◌∙◌, append_assoc, ◌⊎◌, inl, inr, arith}
use Rattle.std.specs.Prelude.{bytes_eq, decimal, codes, IsTrue, slice_get, ◌&&◌}
use Rattle.std.specs.declared.cmp.Ordering.{Ordering}
use Rattle.std.specs.declared.cmp.Ordering.TheVariants.{Less, Equal, Greater}
use Rattle.std.specs.Ordering.{is_lt}
use Rattle.std.proofs.lemmas.Bool.{cases_Bool, and_parts}
use Rattle.std.proofs.lemmas.List.{append-nil}
use Rattle.std.proofs.lemmas.List.Elements.{All-nil, All-push}
use Rattle.std.proofs.lemmas.Option.{cond_some, same_Some}
use Rattle.std.proofs.lemmas.Slice.Eq.{bytes_eq-Decides}
use Rattle.cov_host.specs.Identifier.{is_identifier}
use Rattle.coverage_db.specs.declared.db.Db.{Db}
use Rattle.coverage_db.specs.declared.db.DbInstance.{DbInstance}
use Rattle.coverage_db.specs.declared.db.DbPoint.{DbPoint}
use Rattle.coverage_db.specs.declared.draft.Draft.{Draft}
use Rattle.coverage_db.specs.declared.draft.Stage.{Stage}
use Rattle.coverage_db.specs.declared.draft.Stage.TheVariants as stage
use Rattle.coverage_db.specs.declared.fault.DbFault.{DbFault}
use Rattle.coverage_db.specs.declared.fault.DbFault.TheVariants.{At}
use Rattle.coverage_db.specs.declared.fault.DbKind.TheVariants.{WrongVersion}
use Rattle.coverage_db.specs.declared.version.Version.{Version}
use Rattle.coverage_db.specs.declared.version.Version.TheVariants as version
use Rattle.coverage_db.specs.declared.window.Window.{Window}
use Rattle.coverage_db.specs.Drafting.{version_of, top_of, source_of, instance_at, count_of, window_count_of, window_of, after_last, follows, bad, or_else, with_source, with_instance, with_point, with_window, next_version, next_top, next_source, next_instance, next_count, next_point, next_counted, next_behind, next_window_count, next_window, next_windows_counted, next_end, next_at, next, is_version}
use Rattle.coverage_db.specs.Fields.{◌>>=◌, split_first, behind, is_plain, number_of}
use Rattle.coverage_db.specs.Order.{address_cmp}
use Rattle.coverage_db.specs.Reading.{point_of}
use Rattle.coverage_db.specs.Table.{Rises, IsIdentifier, IsInstance, IsPoint, IsSpan, is_path, is_file_name}
use Rattle.coverage_db.specs.Text.{begins_point, begins_window, version_line, top_line, source_line, source_lines, instance_line, count_line, point_line, window_count_line, window_line, head_lines, lines_to_points, lines_to_windows, lines_with_counts}
use Rattle.coverage_db.specs.Windows.{window_cmp}
use Rattle.coverage_db.proofs.Lacking.{decimal_lacks, path_lacks}
use Rattle.coverage_db.proofs.Numbers.{number_takes, number_again}
use Rattle.coverage_db.proofs.PathSearch.{by_path}
use Rattle.coverage_db.proofs.PointLaws.{point_takes}
use Rattle.coverage_db.proofs.Splitting.{behind_takes, behind_again, split_takes, split_again}
use Rattle.coverage_db.proofs.WordLaws.{bind_some}

-- ---- lines

pub known_takes : (line : List ℕ) (v : Version) → version_of line ≡ Some v → line ≡ version_line v
unfolding version_of
known_takes line v e =
    elim (cases_Bool (bytes_eq line (codes "covered-db 2"))) [
      | inl two ↦
          let same : line ≡ codes "covered-db 2" = (bytes_eq-Decides line (codes "covered-db 2")).0 two in
          let is : ◌≡◌ {A = Option Version} (Some version.Two) (Some v) = rw two at e in
          subst (λ (w : Version). line ≡ version_line w) (same_Some version.Two v is) same
      | inr no_two ↦ elim (cases_Bool (bytes_eq line (codes "covered-db 1"))) [
        | inl one ↦
            let same : line ≡ codes "covered-db 1" = (bytes_eq-Decides line (codes "covered-db 1")).0 one in
            let is : ◌≡◌ {A = Option Version} (Some version.One) (Some v) = rw (no_two, one) at e in
            subst (λ (w : Version). line ≡ version_line w) (same_Some version.One v is) same
        | inr no_one ↦ absurd (let bad : ◌≡◌ {A = Option Version} None (Some v) = rw (no_two, no_one) at e in cc)
      ]
    ]

pub known_again : (v : Version) → version_of (version_line v) ≡ Some v
unfolding version_of
known_again version.One = refl
known_again version.Two = refl

pub top_takes : (line top : List ℕ) → top_of line ≡ Some top → (line ≡ top_line top) × IsIdentifier top
unfolding top_of
top_takes line top e =
    let x0 = bind_some (behind (codes "top ") line) (λ name. cond (is_identifier name) (Some name) None) top (e) in
    let taken = cond_some (is_identifier x0.0) x0.0 top x0.2 in
    subst (λ (t : List ℕ). (line ≡ top_line t) × IsIdentifier t) taken.1 (behind_takes (codes "top ") line x0.0 x0.1, taken.0)

pub top_again : (top : List ℕ) → IsIdentifier top → top_of (top_line top) ≡ Some top
unfolding top_of
top_again top is = rw (behind_again (codes "top ") top, is) refl

source_whole : (number : ℕ) (line a b name : List ℕ) → line ≡ codes "source " ++ a → a ≡ decimal number ++ b → b ≡ codes " " ++ name → line ≡ source_line number name
source_whole number line a b name p q r = rw (p, q, r) (sym (append_assoc (codes "source ") (decimal number) (codes " " ++ name)))

pub source_takes : (number : ℕ) (line name : List ℕ) → source_of number line ≡ Some name → (line ≡ source_line number name) × IsTrue (is_file_name name)
unfolding source_of
source_takes number line name e =
    let x0 = bind_some (behind (codes "source ") line) (λ numbered. behind (decimal number) numbered >>= λ spaced. behind (codes " ") spaced >>= λ file. cond (is_file_name file) (Some file) None) name (e) in
    let x1 = bind_some (behind (decimal number) x0.0) (λ spaced. behind (codes " ") spaced >>= λ file. cond (is_file_name file) (Some file) None) name (x0.2) in
    let x2 = bind_some (behind (codes " ") x1.0) (λ file. cond (is_file_name file) (Some file) None) name (x1.2) in
    let taken = cond_some (is_file_name x2.0) x2.0 name x2.2 in
    let whole = source_whole number line x0.0 x1.0 x2.0 (behind_takes (codes "source ") line x0.0 x0.1) (behind_takes (decimal number) x0.0 x1.0 x1.1) (behind_takes (codes " ") x1.0 x2.0 x2.1) in
    subst (λ (n : List ℕ). (line ≡ source_line number n) × IsTrue (is_file_name n)) taken.1 (whole, taken.0)

pub source_again : (number : ℕ) (name : List ℕ) → IsTrue (is_file_name name) → source_of number (source_line number name) ≡ Some name
unfolding source_of
source_again number name is =
    let two : behind (decimal number) (decimal number ++ 32 ∷ name) ≡ Some (32 ∷ name) = behind_again (decimal number) (32 ∷ name) in
    rw (two, is) refl

pub instance_line_takes : (line : List ℕ) (i : DbInstance) → instance_at line ≡ Some i → (line ≡ instance_line i) × IsInstance i
unfolding instance_at
instance_line_takes line i e =
    let x0 = bind_some (behind (codes "instance ") line) (λ fields. split_first 32 fields >>= λ parts. cond (is_path parts.0 && is_identifier parts.1) (Some (record { path = parts.0; «module» = parts.1 })) None) i (e) in
    let x1 = bind_some (split_first 32 x0.0) (λ parts. cond (is_path parts.0 && is_identifier parts.1) (Some (record { path = parts.0; «module» = parts.1 })) None) i (x0.2) in
    let made : DbInstance = record { path = x1.0.0; «module» = x1.0.1 } in
    let taken = cond_some (is_path x1.0.0 && is_identifier x1.0.1) made i x1.2 in
    let both = and_parts (is_path x1.0.0) (is_identifier x1.0.1) taken.0 in
    let parts = split_takes 32 x0.0 x1.0.0 x1.0.1 x1.1 in
    let whole : line ≡ instance_line made = behind_takes (codes "instance ") line x0.0 x0.1 ∙ ap (λ (t : List ℕ). codes "instance " ++ t) parts.whole ∙ sym (append_assoc (codes "instance ") x1.0.0 (32 ∷ x1.0.1)) in
    subst (λ (j : DbInstance). (line ≡ instance_line j) × IsInstance j) taken.1 (whole, record { path = both.0; module_name = both.1 })

pub instance_line_again : (i : DbInstance) → IsInstance i → instance_at (instance_line i) ≡ Some i
unfolding instance_at
instance_line_again i is =
    let two : split_first 32 (i.path ++ 32 ∷ i.«module») ≡ Some (i.path, i.«module») = split_again 32 i.path i.«module» (path_lacks 32 i.path refl refl is.path) in
    rw (two, is.path, is.module_name) refl

pub count_takes : (line digits : List ℕ) → count_of line ≡ Some digits → (line ≡ count_line digits) × IsTrue (is_plain digits)
unfolding count_of
count_takes line digits e =
    let x0 = bind_some (behind (codes "points ") line) (λ word. cond (is_plain word) (Some word) None) digits (e) in
    let taken = cond_some (is_plain x0.0) x0.0 digits x0.2 in
    subst (λ (t : List ℕ). (line ≡ count_line t) × IsTrue (is_plain t)) taken.1 (behind_takes (codes "points ") line x0.0 x0.1, taken.0)

pub count_again : (digits : List ℕ) → IsTrue (is_plain digits) → count_of (count_line digits) ≡ Some digits
unfolding count_of
count_again digits is = rw (behind_again (codes "points ") digits, is) refl

pub window_count_takes : (line digits : List ℕ) → window_count_of line ≡ Some digits → (line ≡ window_count_line digits) × IsTrue (is_plain digits)
unfolding window_count_of
window_count_takes line digits e =
    let x0 = bind_some (behind (codes "windows ") line) (λ word. cond (is_plain word) (Some word) None) digits (e) in
    let taken = cond_some (is_plain x0.0) x0.0 digits x0.2 in
    subst (λ (t : List ℕ). (line ≡ window_count_line t) × IsTrue (is_plain t)) taken.1 (behind_takes (codes "windows ") line x0.0 x0.1, taken.0)

pub window_count_again : (digits : List ℕ) → IsTrue (is_plain digits) → window_count_of (window_count_line digits) ≡ Some digits
unfolding window_count_of
window_count_again digits is = rw (behind_again (codes "windows ") digits, is) refl

abbrev made_window : ℕ → ℕ → Window
made_window first last = record { first = first; last = last }

pub window_takes : (line : List ℕ) (w : Window) → window_of line ≡ Some w → (line ≡ window_line w) × IsSpan w
unfolding window_of
window_takes line w e =
    let x0 = bind_some (behind (codes "window ") line) (λ times. split_first 32 times >>= λ parts. number_of 0 9223372036854775807 parts.0 >>= λ first. number_of (first + 1) 9223372036854775807 parts.1 >>= λ last. Some (made_window first last)) w (e) in
    let x1 = bind_some (split_first 32 x0.0) (λ parts. number_of 0 9223372036854775807 parts.0 >>= λ first. number_of (first + 1) 9223372036854775807 parts.1 >>= λ last. Some (made_window first last)) w (x0.2) in
    let x2 = bind_some (number_of 0 9223372036854775807 x1.0.0) (λ first. number_of (first + 1) 9223372036854775807 x1.0.1 >>= λ last. Some (made_window first last)) w (x1.2) in
    let x3 = bind_some (number_of (x2.0 + 1) 9223372036854775807 x1.0.1) (λ last. Some (made_window x2.0 last)) w (x2.2) in
    let a = number_takes 0 9223372036854775807 x2.0 x1.0.0 (omega arith) x2.1 in
    let b = number_takes (x2.0 + 1) 9223372036854775807 x3.0 x1.0.1 (omega arith) x3.1 in
    let parts = split_takes 32 x0.0 x1.0.0 x1.0.1 x1.1 in
    let times : x0.0 ≡ decimal x2.0 ++ 32 ∷ decimal x3.0 = parts.whole ∙ ap (λ (t : List ℕ). t ++ 32 ∷ x1.0.1) a.spelled ∙ ap (λ (t : List ℕ). decimal x2.0 ++ 32 ∷ t) b.spelled in
    let whole : line ≡ window_line (made_window x2.0 x3.0) = behind_takes (codes "window ") line x0.0 x0.1 ∙ ap (λ (t : List ℕ). codes "window " ++ t) times ∙ sym (append_assoc (codes "window ") (decimal x2.0) (32 ∷ decimal x3.0)) in
    let low : x2.0 < x3.0 = omega (arith, b.low) in
    let high : x3.0 < 2 ^ 63 = omega (arith, b.high) in
    subst (λ (v : Window). (line ≡ window_line v) × IsSpan v) (same_Some (made_window x2.0 x3.0) w x3.2) (whole, (low, high))

pub window_again : (w : Window) → IsSpan w → window_of (window_line w) ≡ Some w
unfolding window_of
window_again w is =
    let free = decimal_lacks 32 w.first refl (omega (arith, is.0, is.1)) in
    let one : split_first 32 (decimal w.first ++ 32 ∷ decimal w.last) ≡ Some (decimal w.first, decimal w.last) = split_again 32 (decimal w.first) (decimal w.last) free in
    let two = number_again 0 9223372036854775807 w.first (omega arith) (omega arith) (omega (arith, is.0, is.1)) in
    let three = number_again (w.first + 1) 9223372036854775807 w.last (omega arith) (omega (arith, is.0)) (omega (arith, is.1)) in
    rw (one, two, three) refl

-- ---- the order

last_of : {X : Type 0} → List X → Option X
last_of [] = None
last_of (x ∷ []) = Some x
last_of (x ∷ y ∷ xs) = last_of (y ∷ xs)

last_is : {X : Type 0} (xs : List X) → slice_get xs (length xs - 1) ≡ last_of xs
unfolding last_of
last_is [] = refl
last_is (x ∷ []) = refl
last_is (x ∷ y ∷ xs) =
    let more : length (x ∷ y ∷ xs) - 1 ≡ suc (length (y ∷ xs) - 1) = omega arith in
    rw more (last_is (y ∷ xs))

less_is : (o : Ordering) → is_lt o ≡ true → o ≡ Less
less_is Less e = refl
less_is Equal e = absurd cc
less_is Greater e = absurd cc

rises_last : {X : Type 0} (cmp : X → X → Ordering) (xs : List X) (x : X) → Rises cmp xs → after_last cmp (last_of xs) x ≡ true → Rises cmp (xs ++ x ∷ [])
unfolding last_of
rises_last cmp [] x r e = tt
rises_last cmp (y ∷ []) x r e = (less_is (cmp y x) e, tt)
rises_last cmp (y ∷ z ∷ xs) x r e = (r.0, rises_last cmp (z ∷ xs) x r.1 e)

-- what may follow a list that rises makes one that rises
pub rises_push : {X : Type 0} (cmp : X → X → Ordering) (xs : List X) (x : X) → Rises cmp xs → follows cmp xs x ≡ true → Rises cmp (xs ++ x ∷ [])
rises_push cmp xs x r e = rises_last cmp xs x r (ap (λ o. after_last cmp o x) (sym (last_is xs)) ∙ e)

follows_last : {X : Type 0} (cmp : X → X → Ordering) (xs : List X) (x : X) (others : List X) → Rises cmp (xs ++ x ∷ others) → after_last cmp (last_of xs) x ≡ true
unfolding last_of
follows_last cmp [] x others r = refl
follows_last cmp (y ∷ []) x others r = rw r.0 refl
follows_last cmp (y ∷ z ∷ xs) x others r = follows_last cmp (z ∷ xs) x others r.1

-- and what comes next in such a list may follow what is before it
pub follows_in : {X : Type 0} (cmp : X → X → Ordering) (xs : List X) (x : X) (others : List X) → Rises cmp (xs ++ x ∷ others) → follows cmp xs x ≡ true
follows_in cmp xs x others r = ap (λ o. after_last cmp o x) (last_is xs) ∙ follows_last cmp xs x others r

-- ---- what a draft has

abbrev pub by_address : DbPoint → DbPoint → Ordering
by_address a b = address_cmp a.address b.address

-- what is before the points
pub record IsHead (db : Db) : Type 0 where
  pub top : IsIdentifier db.top
  pub sources : All (λ name. IsTrue (is_file_name name)) db.sources
  pub instances : All IsInstance db.instances
  pub some_source : db.sources ≢ []
  pub some_instance : db.instances ≢ []
  pub rise : Rises by_path db.instances

-- the points so far
pub record ArePoints (db : Db) : Type 0 where
  pub points : All (IsPoint (length db.sources) db.instances) db.points
  pub rise : Rises by_address db.points

-- the windows so far
pub record AreSpans (db : Db) : Type 0 where
  pub spans : All IsSpan db.windows
  pub rise : Rises window_cmp db.windows

pub no_windows : (db : Db) → db.windows ≡ [] → AreSpans db
no_windows db none = record { spans = rw none (All-nil IsSpan); rise = rw none tt }

-- a text of version 1 has no windows, and another says how many there are
abbrev pub AreCounted : Version → List ℕ → Db → Type 0
AreCounted version.One count db = db.windows ≡ []
AreCounted version.Two count db = count ≡ decimal (length db.windows)

-- sources so far
pub record AreSources (db : Db) : Type 0 where
  pub top : IsIdentifier db.top
  pub sources : All (λ name. IsTrue (is_file_name name)) db.sources
  pub no_instance : db.instances ≡ []
  pub no_point : db.points ≡ []
  pub no_window : db.windows ≡ []

abbrev pub nothing : Db
nothing = record { top = []; sources = []; instances = []; points = []; windows = [] }

-- what a draft of this stage has
abbrev pub HasRead : Stage → Draft → Type 0
HasRead stage.Version d = d.db ≡ nothing
HasRead stage.Top d = d.db ≡ nothing
HasRead stage.Sources d = AreSources d.db
HasRead stage.Instances d = IsHead d.db × (d.db.points ≡ []) × (d.db.windows ≡ [])
HasRead stage.Points d = IsHead d.db × ArePoints d.db × IsTrue (is_plain d.count) × (d.db.windows ≡ [])
HasRead stage.Windows d = IsHead d.db × ArePoints d.db × AreSpans d.db × IsTrue (is_plain d.window_count) × (d.count ≡ decimal (length d.db.points)) × (d.version ≡ version.Two)
HasRead stage.End d = IsHead d.db × ArePoints d.db × AreSpans d.db × (d.count ≡ decimal (length d.db.points)) × AreCounted d.version d.window_count d.db

-- the lines that a draft of this stage has read
abbrev pub lines_read : Stage → Draft → List (List ℕ)
lines_read stage.Version d = []
lines_read stage.Top d = version_line d.version ∷ []
lines_read stage.Sources d = version_line d.version ∷ top_line d.db.top ∷ source_lines 1 d.db.sources
lines_read stage.Instances d = head_lines d.version d.db
lines_read stage.Points d = lines_to_points d.version d.count d.db
lines_read stage.Windows d = lines_to_windows version.Two d.count d.window_count d.db
lines_read stage.End d = lines_with_counts d.version d.count d.window_count d.db

-- the draft has these lines
pub record IsPart (d : Draft) (lines : List (List ℕ)) : Type 0 where
  pub has : HasRead d.stage d
  pub lines_are : lines_read d.stage d ≡ lines

ok_is : {X E : Type 0} (x y : X) → ◌≡◌ {A = Result X E} (Ok x) (Ok y) → x ≡ y
ok_is x y e = cc

-- a choice that did not fail
or_else_ok : {X : Type 0} (o : Option X) (f : X → Result Draft DbFault) (other : Result Draft DbFault) (d : Draft) → or_else o f other ≡ Ok d → ((x : X) × (o ≡ Some x) × (f x ≡ Ok d)) ⊎ ((o ≡ None) × (other ≡ Ok d))
or_else_ok None f other d e = inr (refl, e)
or_else_ok (Some x) f other d e = inl (x, refl, e)

-- the draft that was made has these lines and one more
abbrev Adds : List (List ℕ) → List ℕ → Draft → Type 0
Adds lines line d = IsPart d (lines ++ line ∷ [])

made_is : (lines : List (List ℕ)) (line : List ℕ) (made d : Draft) → ◌≡◌ {A = Result Draft DbFault} (Ok made) (Ok d) → IsPart made (lines ++ line ∷ []) → Adds lines line d
made_is lines line made d e p = subst (λ (x : Draft). IsPart x (lines ++ line ∷ [])) (ok_is made d e) p

part_of : (s : Stage) (d : Draft) (lines : List (List ℕ)) → d.stage ≡ s → HasRead s d → lines_read s d ≡ lines → IsPart d lines
part_of s d lines at has are = record { has = subst (λ (t : Stage). HasRead t d) (sym at) has; lines_are = ap (λ (t : Stage). lines_read t d) at ∙ are }

no_fault : {X : Type 0} (f : DbFault) (x : X) → ◌≡◌ {A = Result X DbFault} (Err f) (Ok x) → ⊥
no_fault f x e = cc

version_part : (n : ℕ) (d : Draft) (line : List ℕ) (new : Draft) → HasRead stage.Version d → next_version n d line ≡ Ok new → Adds (lines_read stage.Version d) line new
unfolding next_version
version_part n d line new has e =
    elim (or_else_ok (version_of line) (λ v. Ok (record d { stage = stage.Top; version = v })) (cond (is_version line) (Err (At WrongVersion (Some n))) (bad n)) new e) [
      | inl (v, found, made) ↦ made_is [] line (record d { stage = stage.Top; version = v }) new made (record { has = has; lines_are = ap (λ (l : List ℕ). l ∷ []) (sym (known_takes line v found)) })
      | inr (none, other) ↦ elim (cases_Bool (is_version line)) [
        | inl known ↦ absurd (no_fault _ new (rw known at other))
        | inr unknown ↦ absurd (no_fault _ new (rw unknown at other))
      ]
    ]

top_part : (n : ℕ) (d : Draft) (line : List ℕ) (new : Draft) → HasRead stage.Top d → next_top n d line ≡ Ok new → Adds (lines_read stage.Top d) line new
unfolding next_top
top_part n d line new has e =
    elim (or_else_ok (top_of line) (λ top. Ok (record d { stage = stage.Sources; db = record d.db { top = top } })) (bad n) new e) [
      | inl (top, found, made) ↦
          let t = top_takes line top found in
          let no_sources : d.db.sources ≡ [] = ap (λ (db : Db). db.sources) has in
          let no_instances : d.db.instances ≡ [] = ap (λ (db : Db). db.instances) has in
          let no_points : d.db.points ≡ [] = ap (λ (db : Db). db.points) has in
          let none_yet : d.db.windows ≡ [] = ap (λ (db : Db). db.windows) has in
          let files : All (λ name. IsTrue (is_file_name name)) d.db.sources = rw no_sources (All-nil (λ (name : List ℕ). IsTrue (is_file_name name))) in
          let lines : version_line d.version ∷ top_line top ∷ source_lines 1 d.db.sources ≡ version_line d.version ∷ line ∷ [] = rw (no_sources, t.0) refl in
          made_is (version_line d.version ∷ []) line (record d { stage = stage.Sources; db = record d.db { top = top } }) new made (record { has = record { top = t.1; sources = files; no_instance = no_instances; no_point = no_points; no_window = none_yet }; lines_are = lines })
      | inr (none, other) ↦ absurd (no_fault _ new other)
    ]

pub sources_push : (k : ℕ) (names : List (List ℕ)) (name : List ℕ) → source_lines k (names ++ name ∷ []) ≡ source_lines k names ++ source_line (length names + k) name ∷ []
sources_push k [] name = let same : length {A = List ℕ} [] + k ≡ k = omega arith in rw same refl
sources_push k (first ∷ names) name =
    let same : length names + (k + 1) ≡ length (first ∷ names) + k = omega arith in
    ap (λ (ls : List (List ℕ)). source_line k first ∷ ls) (sources_push (k + 1) names name ∙ ap (λ (m : ℕ). source_lines (k + 1) names ++ source_line m name ∷ []) same)

not_empty : {X : Type 0} (xs : List X) (x : X) → xs ++ x ∷ [] ≢ []
not_empty [] x e = cc
not_empty (y ∷ xs) x e = cc

map_push_line : {X : Type 0} (f : X → List ℕ) (xs : List X) (x : X) → map f (xs ++ x ∷ []) ≡ map f xs ++ f x ∷ []
map_push_line f [] x = refl
map_push_line f (y ∷ xs) x = ap (λ (ls : List (List ℕ)). f y ∷ ls) (map_push_line f xs x)

-- the lines before the points, with one more instance
head_push : (v : Version) (d : Db) (i : DbInstance) → head_lines v (record d { instances = d.instances ++ i ∷ [] }) ≡ head_lines v d ++ instance_line i ∷ []
head_push v d i = ap (λ (ls : List (List ℕ)). version_line v ∷ top_line d.top ∷ source_lines 1 d.sources ++ ls) (map_push_line instance_line d.instances i) ∙ sym (append_assoc (version_line v ∷ top_line d.top ∷ source_lines 1 d.sources) (map instance_line d.instances) (instance_line i ∷ []))

head_only_sources : (v : Version) (d : Db) → d.instances ≡ [] → head_lines v d ≡ version_line v ∷ top_line d.top ∷ source_lines 1 d.sources
head_only_sources v d none = ap (λ (is : List DbInstance). version_line v ∷ top_line d.top ∷ source_lines 1 d.sources ++ map instance_line is) none ∙ append-nil (version_line v ∷ top_line d.top ∷ source_lines 1 d.sources)

-- an instance that comes after those so far
abbrev following : List DbInstance → DbInstance → Option DbInstance
following instances i = cond (follows by_path instances i) (Some i) None

instance_part : (n : ℕ) (d : Draft) (line : List ℕ) (new : Draft) → IsIdentifier d.db.top → All (λ name. IsTrue (is_file_name name)) d.db.sources → d.db.sources ≢ [] → All IsInstance d.db.instances → Rises by_path d.db.instances → d.db.points ≡ [] → d.db.windows ≡ []
    → next_instance n d line ≡ Ok new → Adds (head_lines d.version d.db) line new
unfolding next_instance
instance_part n d line new top files some instances rise no_points none_yet e =
    elim (or_else_ok (instance_at line >>= following d.db.instances) (λ i. Ok (with_instance d i)) (bad n) new e) [
      | inl (i, found, made) ↦
          let b = bind_some (instance_at line) (following d.db.instances) i found in
          let taken = cond_some (follows by_path d.db.instances b.0) b.0 i b.2 in
          let t = instance_line_takes line b.0 b.1 in
          let follows_is : follows by_path d.db.instances i ≡ true = subst (λ (j : DbInstance). follows by_path d.db.instances j ≡ true) taken.1 taken.0 in
          let is : IsInstance i = subst IsInstance taken.1 t.1 in
          let line_is : line ≡ instance_line i = t.0 ∙ ap instance_line taken.1 in
          made_is (head_lines d.version d.db) line (with_instance d i) new made (record {
            has = (record { top = top; sources = files; instances = All-push IsInstance d.db.instances i instances is; some_source = some; some_instance = not_empty d.db.instances i; rise = rises_push by_path d.db.instances i rise follows_is }, no_points, none_yet);
            lines_are = head_push d.version d.db i ∙ ap (λ (l : List ℕ). head_lines d.version d.db ++ l ∷ []) (sym line_is);
          })
      | inr (none, other) ↦ absurd (no_fault _ new other)
    ]

some_length : {X : Type 0} (xs : List X) → eqb (length xs) 0 ≡ false → xs ≢ []
some_length xs e none = let bad : true ≡ false = rw none at e in cc

source_part : (n : ℕ) (d : Draft) (line : List ℕ) (new : Draft) → HasRead stage.Sources d → d.stage ≡ stage.Sources → next_source n d line ≡ Ok new → Adds (lines_read stage.Sources d) line new
unfolding next_source
source_part n d line new has at e =
    elim (or_else_ok (source_of (length d.db.sources + 1) line) (λ name. Ok (with_source d name)) (cond (eqb (length d.db.sources) 0) (bad n) (next_instance n d line)) new e) [
      | inl (name, found, made) ↦
          let t = source_takes (length d.db.sources + 1) line name found in
          let part : HasRead stage.Sources (with_source d name) = record { top = has.top; sources = All-push (λ (x : List ℕ). IsTrue (is_file_name x)) d.db.sources name has.sources t.1; no_instance = has.no_instance; no_point = has.no_point; no_window = has.no_window } in
          let lines : lines_read stage.Sources (with_source d name) ≡ lines_read stage.Sources d ++ line ∷ [] = ap (λ (ls : List (List ℕ)). version_line d.version ∷ top_line d.db.top ∷ ls) (sources_push 1 d.db.sources name ∙ ap (λ (l : List ℕ). source_lines 1 d.db.sources ++ l ∷ []) (sym t.0)) in
          made_is (lines_read stage.Sources d) line (with_source d name) new made (part_of stage.Sources (with_source d name) (lines_read stage.Sources d ++ line ∷ []) at part lines)
      | inr (none, other) ↦ elim (cases_Bool (eqb (length d.db.sources) 0)) [
        | inl empty ↦ absurd (no_fault _ new (rw empty at other))
        | inr some ↦
            let p = instance_part n d line new has.top has.sources (some_length d.db.sources some) (rw has.no_instance (All-nil IsInstance)) (rw has.no_instance tt) has.no_point has.no_window (rw some at other) in
            subst (λ (ls : List (List ℕ)). Adds ls line new) (head_only_sources d.version d.db has.no_instance) p
      ]
    ]

count_part : (n : ℕ) (d : Draft) (line : List ℕ) (new : Draft) → HasRead stage.Instances d → next_count n d line ≡ Ok new → Adds (lines_read stage.Instances d) line new
unfolding next_count
count_part n d line new has e =
    elim (or_else_ok (count_of line) (λ digits. Ok (record d { stage = stage.Points; count = digits })) (next_instance n d line) new e) [
      | inl (digits, found, made) ↦
          let t = count_takes line digits found in
          let points : ArePoints d.db = record { points = rw has.1 (All-nil (IsPoint (length d.db.sources) d.db.instances)); rise = rw has.1 tt } in
          let lines : head_lines d.version d.db ++ count_line digits ∷ map (point_line d.db.instances) d.db.points ≡ head_lines d.version d.db ++ line ∷ [] = rw (has.1, t.0) refl in
          made_is (head_lines d.version d.db) line (record d { stage = stage.Points; count = digits }) new made (record { has = (has.0, points, t.1, has.2); lines_are = lines })
      | inr (none, other) ↦ instance_part n d line new has.0.top has.0.sources has.0.some_source has.0.instances has.0.rise has.1 has.2 other
    ]

-- the end of a text of version 1, or the number of windows
behind_part : (v : Version) (n : ℕ) (d : Draft) (line : List ℕ) (new : Draft) → d.version ≡ v → HasRead stage.Points d → d.count ≡ decimal (length d.db.points) → next_behind v n d line ≡ Ok new → Adds (lines_read stage.Points d) line new
unfolding next_end next_window_count
behind_part version.One n d line new at has counted e =
    elim (cases_Bool (bytes_eq line (codes "end"))) [
      | inl is ↦
          let same : line ≡ codes "end" = (bytes_eq-Decides line (codes "end")).0 is in
          let all : AreCounted d.version d.window_count d.db = subst (λ (w : Version). AreCounted w d.window_count d.db) (sym at) has.3 in
          let lines : lines_with_counts d.version d.count d.window_count d.db ≡ lines_read stage.Points d ++ line ∷ [] =
          ap (λ (w : Version). lines_with_counts w d.count d.window_count d.db) at ∙ ap (λ (l : List ℕ). lines_to_points version.One d.count d.db ++ l ∷ []) (sym same) ∙ ap (λ (w : Version). lines_to_points w d.count d.db ++ line ∷ []) (sym at) in
          made_is (lines_read stage.Points d) line (record d { stage = stage.End }) new (rw is at e) (record { has = (has.0, has.1, no_windows d.db has.3, counted, all); lines_are = lines })
      | inr other ↦ absurd (no_fault _ new (rw other at e))
    ]
behind_part version.Two n d line new at has counted e =
    elim (or_else_ok (window_count_of line) (λ digits. Ok (record d { stage = stage.Windows; window_count = digits })) (bad n) new e) [
      | inl (digits, found, made) ↦
          let t = window_count_takes line digits found in
          let lines : lines_to_windows version.Two d.count digits d.db ≡ lines_read stage.Points d ++ line ∷ [] =
          ap (λ (ws : List Window). lines_to_points version.Two d.count d.db ++ window_count_line digits ∷ map window_line ws) has.3 ∙ ap (λ (l : List ℕ). lines_to_points version.Two d.count d.db ++ l ∷ []) (sym t.0) ∙ ap (λ (w : Version). lines_to_points w d.count d.db ++ line ∷ []) (sym at) in
          made_is (lines_read stage.Points d) line (record d { stage = stage.Windows; window_count = digits }) new made (record { has = (has.0, has.1, no_windows d.db has.3, t.1, counted, at); lines_are = lines })
      | inr (none, other) ↦ absurd (no_fault _ new other)
    ]

counted_part : (n : ℕ) (d : Draft) (line : List ℕ) (new : Draft) → HasRead stage.Points d → next_counted n d line ≡ Ok new → Adds (lines_read stage.Points d) line new
unfolding next_counted
counted_part n d line new has e =
    elim (cases_Bool (bytes_eq d.count (decimal (length d.db.points)))) [
      | inl right ↦ behind_part d.version n d line new refl has ((bytes_eq-Decides d.count (decimal (length d.db.points))).0 right) (rw right at e)
      | inr wrong ↦ absurd (no_fault _ new (rw wrong at e))
    ]

-- a point that comes after those so far
abbrev following_point : List DbPoint → DbPoint → Option DbPoint
following_point points p = cond (follows by_address points p) (Some p) None

point_part : (n : ℕ) (d : Draft) (line : List ℕ) (new : Draft) → length d.db.sources < 2 ^ 32 → HasRead stage.Points d → d.stage ≡ stage.Points → next_point n d line ≡ Ok new → Adds (lines_read stage.Points d) line new
unfolding next_point
point_part n d line new few has at e =
    elim (cases_Bool (begins_point line)) [
      | inl begins ↦ elim (or_else_ok (point_of (length d.db.sources) d.db.instances line >>= following_point d.db.points) (λ p. Ok (with_point d p)) (bad n) new (rw begins at e)) [
        | inl (p, found, made) ↦
            let b = bind_some (point_of (length d.db.sources) d.db.instances line) (following_point d.db.points) p found in
            let taken = cond_some (follows by_address d.db.points b.0) b.0 p b.2 in
            let t = point_takes (length d.db.sources) d.db.instances line b.0 few b.1 in
            let follows_is : follows by_address d.db.points p ≡ true = subst (λ (j : DbPoint). follows by_address d.db.points j ≡ true) taken.1 taken.0 in
            let is : IsPoint (length d.db.sources) d.db.instances p = subst (IsPoint (length d.db.sources) d.db.instances) taken.1 t.is in
            let line_is : line ≡ point_line d.db.instances p = t.spelled ∙ ap (point_line d.db.instances) taken.1 in
            let points : ArePoints (with_point d p).db = record { points = All-push (IsPoint (length d.db.sources) d.db.instances) d.db.points p has.1.points is; rise = rises_push by_address d.db.points p has.1.rise follows_is } in
            let head : IsHead (with_point d p).db = record { top = has.0.top; sources = has.0.sources; instances = has.0.instances; some_source = has.0.some_source; some_instance = has.0.some_instance; rise = has.0.rise } in
            let lines : lines_read stage.Points (with_point d p) ≡ lines_read stage.Points d ++ line ∷ [] =
            ap (λ (ls : List (List ℕ)). head_lines d.version d.db ++ count_line d.count ∷ ls) (map_push_line (point_line d.db.instances) d.db.points p ∙ ap (λ (l : List ℕ). map (point_line d.db.instances) d.db.points ++ l ∷ []) (sym line_is))
            ∙ sym (append_assoc (head_lines d.version d.db) (count_line d.count ∷ map (point_line d.db.instances) d.db.points) (line ∷ [])) in
            made_is (lines_read stage.Points d) line (with_point d p) new made (part_of stage.Points (with_point d p) (lines_read stage.Points d ++ line ∷ []) at (head, points, has.2, has.3) lines)
        | inr (none, other) ↦ absurd (no_fault _ new other)
      ]
      | inr other ↦ counted_part n d line new has (rw other at e)
    ]

end_part : (n : ℕ) (d : Draft) (line : List ℕ) (new : Draft) → HasRead stage.Windows d → d.window_count ≡ decimal (length d.db.windows) → next_end n d line ≡ Ok new → Adds (lines_read stage.Windows d) line new
unfolding next_end
end_part n d line new has counted e =
    elim (cases_Bool (bytes_eq line (codes "end"))) [
      | inl is ↦
          let same : line ≡ codes "end" = (bytes_eq-Decides line (codes "end")).0 is in
          let all : AreCounted d.version d.window_count d.db = subst (λ (w : Version). AreCounted w d.window_count d.db) (sym has.5) counted in
          let lines : lines_with_counts d.version d.count d.window_count d.db ≡ lines_read stage.Windows d ++ line ∷ [] =
          ap (λ (w : Version). lines_with_counts w d.count d.window_count d.db) has.5 ∙ ap (λ (l : List ℕ). lines_to_windows version.Two d.count d.window_count d.db ++ l ∷ []) (sym same) in
          made_is (lines_read stage.Windows d) line (record d { stage = stage.End }) new (rw is at e) (record { has = (has.0, has.1, has.2, has.4, all); lines_are = lines })
      | inr other ↦ absurd (no_fault _ new (rw other at e))
    ]

windows_counted_part : (n : ℕ) (d : Draft) (line : List ℕ) (new : Draft) → HasRead stage.Windows d → next_windows_counted n d line ≡ Ok new → Adds (lines_read stage.Windows d) line new
unfolding next_windows_counted
windows_counted_part n d line new has e =
    elim (cases_Bool (bytes_eq d.window_count (decimal (length d.db.windows)))) [
      | inl right ↦ end_part n d line new has ((bytes_eq-Decides d.window_count (decimal (length d.db.windows))).0 right) (rw right at e)
      | inr wrong ↦ absurd (no_fault _ new (rw wrong at e))
    ]

-- a window that comes after those so far
abbrev following_window : List Window → Window → Option Window
following_window windows w = cond (follows window_cmp windows w) (Some w) None

window_part : (n : ℕ) (d : Draft) (line : List ℕ) (new : Draft) → HasRead stage.Windows d → d.stage ≡ stage.Windows → next_window n d line ≡ Ok new → Adds (lines_read stage.Windows d) line new
unfolding next_window
window_part n d line new has at e =
    elim (cases_Bool (begins_window line)) [
      | inl begins ↦ elim (or_else_ok (window_of line >>= following_window d.db.windows) (λ w. Ok (with_window d w)) (bad n) new (rw begins at e)) [
        | inl (w, found, made) ↦
            let b = bind_some (window_of line) (following_window d.db.windows) w found in
            let taken = cond_some (follows window_cmp d.db.windows b.0) b.0 w b.2 in
            let t = window_takes line b.0 b.1 in
            let follows_is : follows window_cmp d.db.windows w ≡ true = subst (λ (j : Window). follows window_cmp d.db.windows j ≡ true) taken.1 taken.0 in
            let is : IsSpan w = subst IsSpan taken.1 t.1 in
            let line_is : line ≡ window_line w = t.0 ∙ ap window_line taken.1 in
            let windows : AreSpans (with_window d w).db = record { spans = All-push IsSpan d.db.windows w has.2.spans is; rise = rises_push window_cmp d.db.windows w has.2.rise follows_is } in
            let points : ArePoints (with_window d w).db = record { points = has.1.points; rise = has.1.rise } in
            let head : IsHead (with_window d w).db = record { top = has.0.top; sources = has.0.sources; instances = has.0.instances; some_source = has.0.some_source; some_instance = has.0.some_instance; rise = has.0.rise } in
            let lines : lines_read stage.Windows (with_window d w) ≡ lines_read stage.Windows d ++ line ∷ [] =
            ap (λ (ls : List (List ℕ)). lines_to_points version.Two d.count d.db ++ window_count_line d.window_count ∷ ls) (map_push_line window_line d.db.windows w ∙ ap (λ (l : List ℕ). map window_line d.db.windows ++ l ∷ []) (sym line_is))
            ∙ sym (append_assoc (lines_to_points version.Two d.count d.db) (window_count_line d.window_count ∷ map window_line d.db.windows) (line ∷ [])) in
            made_is (lines_read stage.Windows d) line (with_window d w) new made (part_of stage.Windows (with_window d w) (lines_read stage.Windows d ++ line ∷ []) at (head, points, windows, has.3, has.4, has.5) lines)
        | inr (none, other) ↦ absurd (no_fault _ new other)
      ]
      | inr other ↦ windows_counted_part n d line new has (rw other at e)
    ]

part_at : (s : Stage) (n : ℕ) (d : Draft) (line : List ℕ) (new : Draft) → d.stage ≡ s → length d.db.sources < 2 ^ 32 → HasRead s d → next_at s n d line ≡ Ok new → Adds (lines_read s d) line new
part_at stage.Version n d line new at few has e = version_part n d line new has e
part_at stage.Top n d line new at few has e = top_part n d line new has e
part_at stage.Sources n d line new at few has e = source_part n d line new has at e
part_at stage.Instances n d line new at few has e = count_part n d line new has e
part_at stage.Points n d line new at few has e = point_part n d line new few has at e
part_at stage.Windows n d line new at few has e = window_part n d line new has at e
part_at stage.End n d line new at few has e = absurd (no_fault _ new e)

-- one more line
pub next_part : (n : ℕ) (d : Draft) (lines : List (List ℕ)) (line : List ℕ) (new : Draft) → length d.db.sources < 2 ^ 32 → IsPart d lines → next n d line ≡ Ok new → IsPart new (lines ++ line ∷ [])
next_part n d lines line new few p e = subst (λ (ls : List (List ℕ)). Adds ls line new) p.lines_are (part_at d.stage n d line new refl few p.has e)
