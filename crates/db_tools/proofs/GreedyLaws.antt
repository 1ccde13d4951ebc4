-- The points that a list of addresses names.
use Rattle.std.proofs.Common.{◌≡◌, ℕ, suc, ◌+◌, ◌<◌, ◌≤◌, ◌∙◌, Bool, true, false, cond, Bor, List, [], ◌∷◌, ◌++◌, length, get_or, map, drop, inl, inr, refl, sym, ap, append_assoc, length-append, length-drop, arith}
use Rattle.std.specs.Prelude.{bytes_eq}
use Rattle.std.proofs.lemmas.Bool.{cases_Bool}
use Rattle.std.proofs.lemmas.List.{append-nil, drop-drop, drop-map, drop_all, drop_more}
use Rattle.std.proofs.lemmas.Slice.Eq.{bytes_eq-Decides}
use Rattle.coverage_db.specs.declared.db.Db.{Db}
use Rattle.coverage_db.specs.declared.db.DbInstance.{DbInstance}
use Rattle.coverage_db.specs.declared.db.DbPoint.{DbPoint}
use Rattle.coverage_db.specs.Table.{IsTable}
use Rattle.coverage_db.specs.Text.{address_text}
use Rattle.point_lookup.proofs.Searching.{one_address}
use Rattle.db_tools.specs.Excluded.{marked, marked_addresses}
use Rattle.db_tools.specs.Faults.{IsNoAddress}
use Rattle.db_tools.specs.Greedy.{is_first, matched_marks, unmatched}
use Rattle.db_tools.specs.Views.{texts}

-- the addresses of points
abbrev named : List DbInstance → List DbPoint → List (List ℕ)
named instances ps = map (λ p. address_text instances p.address) ps

pub long_marks : (instances : List DbInstance) (ps : List DbPoint) (lines : List (List ℕ)) → length (matched_marks instances ps lines) ≡ length ps
long_marks instances [] lines = refl
long_marks instances (p ∷ ps) [] = let more = long_marks instances ps [] in omega (arith, more)
long_marks instances (p ∷ ps) (line ∷ lines) =
    elim (cases_Bool (bytes_eq (address_text instances p.address) line)) [
      | inl same ↦ let more = long_marks instances ps lines in rw same (omega (arith, more))
      | inr other ↦ let more = long_marks instances ps (line ∷ lines) in rw other (omega (arith, more))
    ]

-- the points that were matched have the addresses, and then come the lines that are left
pub named_then_left : (instances : List DbInstance) (ps : List DbPoint) (lines : List (List ℕ)) → named instances (marked ps (matched_marks instances ps lines)) ++ unmatched instances ps lines ≡ lines
named_then_left instances [] lines = refl
named_then_left instances (p ∷ ps) [] = named_then_left instances ps []
named_then_left instances (p ∷ ps) (line ∷ lines) =
    elim (cases_Bool (bytes_eq (address_text instances p.address) line)) [
      | inl same ↦
          let is : address_text instances p.address ≡ line = (bytes_eq-Decides (address_text instances p.address) line).0 same in
          let more = named_then_left instances ps lines in
          rw same (ap (λ (l : List ℕ). l ∷ (named instances (marked ps (matched_marks instances ps lines)) ++ unmatched instances ps lines)) is ∙ ap (λ (ls : List (List ℕ)). line ∷ ls) more)
      | inr other ↦ rw other (named_then_left instances ps (line ∷ lines))
    ]

left_no_longer : (instances : List DbInstance) (ps : List DbPoint) (lines : List (List ℕ)) → length (unmatched instances ps lines) ≤ length lines
left_no_longer instances ps lines =
    let whole = ap length (named_then_left instances ps lines) in
    let parts = length-append (named instances (marked ps (matched_marks instances ps lines))) (unmatched instances ps lines) in
    omega (arith, whole, parts)

-- none of the points has this address
abbrev pub OthersThan : List DbInstance → List ℕ → List DbPoint → Type 0
OthersThan instances text [] = Unit {0}
OthersThan instances text (q ∷ qs) = (bytes_eq text (address_text instances q.address) ≡ false) × OthersThan instances text qs

-- no two of the points have one address
abbrev pub AreApart : List DbInstance → List DbPoint → Type 0
AreApart instances [] = Unit {0}
AreApart instances (p ∷ ps) = OthersThan instances (address_text instances p.address) ps × AreApart instances ps

-- the first of the lines, if there is one, is another
abbrev FirstOther : List ℕ → List (List ℕ) → Type 0
FirstOther text [] = Unit {0}
FirstOther text (line ∷ lines) = bytes_eq text line ≡ false

first_other : (instances : List DbInstance) (text : List ℕ) (ps : List DbPoint) (marks : List Bool) → OthersThan instances text ps → FirstOther text (named instances (marked ps marks))
first_other instances text [] marks others = tt
first_other instances text (q ∷ qs) [] others = tt
first_other instances text (q ∷ qs) (true ∷ marks) others = others.0
first_other instances text (q ∷ qs) (false ∷ marks) others = first_other instances text qs marks others.1

itself : (text : List ℕ) → bytes_eq text text ≡ true
itself text = (bytes_eq-Decides text text).1 refl

left_over : (instances : List DbInstance) (p : DbPoint) (ps : List DbPoint) (lines more : List (List ℕ)) → FirstOther (address_text instances p.address) lines → length (unmatched instances ps (lines ++ more)) ≤ length more → length (unmatched instances (p ∷ ps) (lines ++ more)) ≤ length more
left_over instances p ps [] more other less = left_no_longer instances (p ∷ ps) more
left_over instances p ps (line ∷ lines) more other less = rw other less

-- the addresses of marked points, and more lines: at most those lines are left
pub follows : (instances : List DbInstance) (ps : List DbPoint) (marks : List Bool) (more : List (List ℕ)) → AreApart instances ps → length (unmatched instances ps (named instances (marked ps marks) ++ more)) ≤ length more
follows instances [] marks more apart = omega arith
follows instances (p ∷ ps) [] more apart = left_no_longer instances (p ∷ ps) more
follows instances (p ∷ ps) (true ∷ marks) more apart = rw (itself (address_text instances p.address)) (follows instances ps marks more apart.1)
follows instances (p ∷ ps) (false ∷ marks) more apart =
    left_over instances p ps (named instances (marked ps marks)) more (first_other instances (address_text instances p.address) ps marks apart.0) (follows instances ps marks more apart.1)

passed_over : (instances : List DbInstance) (p : DbPoint) (ps : List DbPoint) (lines : List (List ℕ)) (marks : List Bool) → FirstOther (address_text instances p.address) lines → matched_marks instances ps lines ≡ marks → matched_marks instances (p ∷ ps) lines ≡ false ∷ marks
passed_over instances p ps [] marks other same = ap (λ (ms : List Bool). false ∷ ms) same
passed_over instances p ps (line ∷ lines) marks other same = rw other (ap (λ (ms : List Bool). false ∷ ms) same)

-- the addresses of marked points give the marks back
pub marks_again : (instances : List DbInstance) (ps : List DbPoint) (marks : List Bool) → AreApart instances ps → length marks ≡ length ps → matched_marks instances ps (named instances (marked ps marks)) ≡ marks
marks_again instances [] [] apart long = refl
marks_again instances [] (mark ∷ marks) apart long = absurd (omega (arith, long))
marks_again instances (p ∷ ps) [] apart long = absurd (omega (arith, long))
marks_again instances (p ∷ ps) (true ∷ marks) apart long = rw (itself (address_text instances p.address)) (ap (λ (ms : List Bool). true ∷ ms) (marks_again instances ps marks apart.1 (omega (arith, long))))
marks_again instances (p ∷ ps) (false ∷ marks) apart long =
    passed_over instances p ps (named instances (marked ps marks)) marks (first_other instances (address_text instances p.address) ps marks apart.0) (marks_again instances ps marks apart.1 (omega (arith, long)))

-- ---- the points of a table are apart

-- points of which two with one address are one
abbrev OneEach : List DbInstance → List DbPoint → Type 0
OneEach instances ps = (i j : ℕ) (d : DbPoint) → i < length ps → j < length ps → address_text instances (get_or ps i d).address ≡ address_text instances (get_or ps j d).address → i ≡ j

others_by : (instances : List DbInstance) (text : List ℕ) (ps : List DbPoint) → ((k : ℕ) (d : DbPoint) → k < length ps → bytes_eq text (address_text instances (get_or ps k d).address) ≡ false) → OthersThan instances text ps
others_by instances text [] each = tt
others_by instances text (q ∷ qs) each = (each 0 q (omega arith), others_by instances text qs (λ k d within. each (suc k) d (omega (arith, within))))

apart_by : (instances : List DbInstance) (ps : List DbPoint) → OneEach instances ps → AreApart instances ps
apart_by instances [] one = tt
apart_by instances (p ∷ ps) one =
    let others : OthersThan instances (address_text instances p.address) ps = others_by instances (address_text instances p.address) ps (λ k d within.
    elim (cases_Bool (bytes_eq (address_text instances p.address) (address_text instances (get_or ps k d).address))) [
      | inl same ↦ absurd (
          let is : address_text instances p.address ≡ address_text instances (get_or ps k d).address = (bytes_eq-Decides (address_text instances p.address) (address_text instances (get_or ps k d).address)).0 same in
          let zero_is = one 0 (suc k) d (omega arith) (omega (arith, within)) is in
          omega (arith, zero_is))
      | inr other ↦ other
    ]) in
    (others, apart_by instances ps (λ i j d a b same. let next = one (suc i) (suc j) d (omega (arith, a)) (omega (arith, b)) same in omega (arith, next)))

pub points_apart : (db : Db) → IsTable db → AreApart db.instances db.points
points_apart db t = apart_by db.instances db.points (λ i j d a b same. one_address db i j d t a b same)

-- the marks of a table are those of its addresses
pub marks_of_addresses : (db : Db) (marks : List Bool) (lines : List (List ℕ)) → IsTable db → length marks ≡ length db.points → marked_addresses db marks ≡ lines → matched_marks db.instances db.points lines ≡ marks
marks_of_addresses db marks lines t long is = ap (matched_marks db.instances db.points) (sym is) ∙ marks_again db.instances db.points marks (points_apart db t) long

none_left : (lines : List (List ℕ)) → length lines ≤ 0 → lines ≡ []
none_left [] none = refl
none_left (line ∷ lines) none = absurd (omega (arith, none))

-- the addresses of a table leave no line
pub none_unmatched : (db : Db) (marks : List Bool) (lines : List (List ℕ)) → IsTable db → marked_addresses db marks ≡ lines → unmatched db.instances db.points lines ≡ []
none_unmatched db marks lines t is =
    let less = follows db.instances db.points marks [] (points_apart db t) in
    let same : unmatched db.instances db.points lines ≡ unmatched db.instances db.points (marked_addresses db marks ++ []) = ap (unmatched db.instances db.points) (sym is ∙ sym (append-nil (marked_addresses db marks))) in
    same ∙ none_left (unmatched db.instances db.points (marked_addresses db marks ++ [])) less

-- lines that are all matched are the addresses
pub named_all : (db : Db) (lines : List (List ℕ)) → unmatched db.instances db.points lines ≡ [] → marked_addresses db (matched_marks db.instances db.points lines) ≡ lines
named_all db lines none =
    let whole = named_then_left db.instances db.points lines in
    sym (append-nil (marked_addresses db (matched_marks db.instances db.points lines))) ∙ ap (λ (ls : List (List ℕ)). marked_addresses db (matched_marks db.instances db.points lines) ++ ls) (sym none) ∙ whole

regrouped : (before : List (List ℕ)) (line : List ℕ) (others : List (List ℕ)) → before ++ line ∷ others ≡ (before ++ line ∷ []) ++ others
regrouped before line others = sym (append_assoc before (line ∷ []) others)

no_address_by : (db : Db) (lines left : List (List ℕ)) (matched : ℕ) → IsTable db → unmatched db.instances db.points lines ≡ left → matched + length left ≡ length lines → 0 < length left → IsNoAddress db lines matched
no_address_by db lines [] matched t is counted some = absurd (omega (arith, some))
no_address_by db lines (line ∷ others) matched t is counted some =
    let marks = matched_marks db.instances db.points lines in
    let before = marked_addresses db marks in
    let whole : lines ≡ before ++ line ∷ others = sym (named_then_left db.instances db.points lines) ∙ ap (λ (ls : List (List ℕ)). before ++ ls) is in
    let parts = ap length whole ∙ length-append before (line ∷ others) in
    record {
      before = before;
      line = line;
      others = others;
      marks = marks;
      split = whole;
      place_is = omega (arith, parts, counted);
      long = long_marks db.instances db.points lines;
      named = refl;
      other = λ other_marks long names.
          let less = follows db.instances db.points other_marks others (points_apart db t) in
          let same : marked_addresses db other_marks ++ others ≡ lines = ap (λ (ls : List (List ℕ)). ls ++ others) names ∙ sym (regrouped before line others) ∙ sym whole in
          let left = ap (λ (ls : List (List ℕ)). length (unmatched db.instances db.points ls)) same ∙ ap length is in
          absurd (omega (arith, less, left));
    }

-- the lines after the matched ones are left
pub no_address : (db : Db) (lines : List (List ℕ)) (matched : ℕ) → IsTable db → drop matched lines ≡ unmatched db.instances db.points lines → matched < length lines → IsNoAddress db lines matched
no_address db lines matched t is less =
    let long : length (drop matched lines) + matched ≡ length lines = (let cut = length-drop matched lines in omega (arith, cut, less)) in
    no_address_by db lines (drop matched lines) matched t (sym is) (omega (arith, long)) (omega (arith, long, less))

pub all_matched : (db : Db) (lines : List (List ℕ)) (matched : ℕ) → drop matched lines ≡ unmatched db.instances db.points lines → length lines ≤ matched → unmatched db.instances db.points lines ≡ []
all_matched db lines matched is all = sym is ∙ drop_all matched lines all

-- the addresses of a table leave no line to be one
pub no_address_or_named : (db : Db) (lines : List (List ℕ)) (matched : ℕ) (marks : List Bool) → IsTable db → drop matched lines ≡ unmatched db.instances db.points lines → matched < length lines → marked_addresses db marks ≡ lines → ⊥
no_address_or_named db lines matched marks t is less named =
    let none = ap length (is ∙ none_unmatched db marks lines t named) in
    let cut = length-drop matched lines in
    omega (arith, none, cut, less)

-- ---- point after point

step_marks : (instances : List DbInstance) (p : DbPoint) (ps : List DbPoint) (lines : List (List ℕ)) (mark : Bool) → is_first (address_text instances p.address) lines ≡ mark → matched_marks instances (p ∷ ps) lines ≡ mark ∷ matched_marks instances ps (drop (cond mark 1 0) lines)
step_marks instances p ps [] true is = absurd cc
step_marks instances p ps [] false is = refl
step_marks instances p ps (line ∷ lines) true is = rw is refl
step_marks instances p ps (line ∷ lines) false is = rw is refl

step_left : (instances : List DbInstance) (p : DbPoint) (ps : List DbPoint) (lines : List (List ℕ)) (mark : Bool) → is_first (address_text instances p.address) lines ≡ mark → unmatched instances (p ∷ ps) lines ≡ unmatched instances ps (drop (cond mark 1 0) lines)
step_left instances p ps [] true is = absurd cc
step_left instances p ps [] false is = refl
step_left instances p ps (line ∷ lines) true is = rw is refl
step_left instances p ps (line ∷ lines) false is = rw is refl

first_within : (text : List ℕ) (lines : List (List ℕ)) → is_first text lines ≡ true → 0 < length lines
first_within text [] is = absurd cc
first_within text (line ∷ lines) is = omega arith

-- the line at a place is the first of those from there on
pub first_at : (text : List ℕ) (lines : List (Bor (List ℕ))) (place : ℕ) (d : Bor (List ℕ)) → place < length lines → is_first text (drop place (texts lines)) ≡ bytes_eq text (get_or lines place d).now
first_at text lines place d within =
    ap (is_first text) (drop-map (λ (line : Bor (List ℕ)). line.now) place lines) ∙ ap (λ (ls : List (Bor (List ℕ))). is_first text (texts ls)) (drop_more lines place d within)

-- the points up to a place were matched
pub record Matches (instances : List DbInstance) (points : List DbPoint) (lines : List (List ℕ)) (place matched : ℕ) (marks : List Bool) : Type 0 where
  pub marks_are : marks ++ matched_marks instances (drop place points) (drop matched lines) ≡ matched_marks instances points lines
  pub left_are : unmatched instances (drop place points) (drop matched lines) ≡ unmatched instances points lines
  pub within : matched ≤ length lines

pub Matches-none : (instances : List DbInstance) (points : List DbPoint) (lines : List (List ℕ)) → Matches instances points lines 0 0 []
Matches-none instances points lines = record { marks_are = refl; left_are = refl; within = omega arith }

pub Matches-more : (instances : List DbInstance) (points : List DbPoint) (lines : List (List ℕ)) (place matched : ℕ) (marks : List Bool) (mark : Bool) (d : DbPoint)
    → Matches instances points lines place matched marks → place < length points → is_first (address_text instances (get_or points place d).address) (drop matched lines) ≡ mark → Matches instances points lines (place + 1) (matched + cond mark 1 0) (marks ++ mark ∷ [])
Matches-more instances points lines place matched marks mark d m inside is =
    let p = get_or points place d in
    let here : drop place points ≡ p ∷ drop (place + 1) points = drop_more points place d inside in
    let rest : drop (cond mark 1 0) (drop matched lines) ≡ drop (matched + cond mark 1 0) lines = drop-drop (cond mark 1 0) matched lines in
    let next : matched_marks instances (drop place points) (drop matched lines) ≡ mark ∷ matched_marks instances (drop (place + 1) points) (drop (matched + cond mark 1 0) lines) =
    ap (λ ps. matched_marks instances ps (drop matched lines)) here ∙ step_marks instances p (drop (place + 1) points) (drop matched lines) mark is ∙ ap (λ ls. mark ∷ matched_marks instances (drop (place + 1) points) ls) rest in
    let left : unmatched instances (drop place points) (drop matched lines) ≡ unmatched instances (drop (place + 1) points) (drop (matched + cond mark 1 0) lines) =
    ap (λ ps. unmatched instances ps (drop matched lines)) here ∙ step_left instances p (drop (place + 1) points) (drop matched lines) mark is ∙ ap (unmatched instances (drop (place + 1) points)) rest in
    record {
      marks_are = append_assoc marks (mark ∷ []) (matched_marks instances (drop (place + 1) points) (drop (matched + cond mark 1 0) lines)) ∙ ap (λ ms. marks ++ ms) (sym next) ∙ m.marks_are;
      left_are = sym left ∙ m.left_are;
      within = bound mark is;
    }
  where
    bound : (b : Bool) → is_first (address_text instances (get_or points place d).address) (drop matched lines) ≡ b → matched + cond b 1 0 ≤ length lines
    bound true is =
        let some = first_within (address_text instances (get_or points place d).address) (drop matched lines) is in
        let cut = length-drop matched lines in
        omega (arith, some, cut)
    bound false is = omega (arith, m.within)

-- all points were matched
pub Matches-marks : (instances : List DbInstance) (points : List DbPoint) (lines : List (List ℕ)) (place matched : ℕ) (marks : List Bool) → Matches instances points lines place matched marks → length points ≤ place → marks ≡ matched_marks instances points lines
Matches-marks instances points lines place matched marks m past =
    let none : matched_marks instances (drop place points) (drop matched lines) ≡ [] = ap (λ ps. matched_marks instances ps (drop matched lines)) (drop_all place points past) in
    sym (append-nil marks) ∙ ap (λ ms. marks ++ ms) (sym none) ∙ m.marks_are

pub Matches-left : (instances : List DbInstance) (points : List DbPoint) (lines : List (List ℕ)) (place matched : ℕ) (marks : List Bool) → Matches instances points lines place matched marks → length points ≤ place → drop matched lines ≡ unmatched instances points lines
Matches-left instances points lines place matched marks m past =
    let none : unmatched instances (drop place points) (drop matched lines) ≡ drop matched lines = ap (λ ps. unmatched instances ps (drop matched lines)) (drop_all place points past) in
    sym none ∙ m.left_are
