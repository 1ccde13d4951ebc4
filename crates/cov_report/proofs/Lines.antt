-- Lines that are written one after the other.
use Rattle.std.proofs.Common.{◌≡◌, ℕ, ◌+◌, ◌<◌, ◌≤◌, Bool, true, false, cond, List, [], ◌∷◌, ◌++◌, map, length, get_or, drop, refl, sym, ap, ◌∙◌, append_assoc}
use Rattle.std.specs.Prelude.{codes}
use Rattle.std.specs.List.{filter, flat_map}
use Rattle.std.proofs.lemmas.List.{drop_more}
use Rattle.std.proofs.lemmas.List.Concat.{flat_map-append}
use Rattle.coverage_db.specs.Text.{ended, text_of_lines}
use Rattle.coverage_db.specs.declared.db.Db.{Db}
use Rattle.coverage_db.specs.declared.db.DbInstance.{DbInstance}
use Rattle.cov_report.specs.declared.options.Options.{Options}
use Rattle.cov_report.specs.Points.{ReportPoint, blocks, report_points, points_in}
use Rattle.cov_report.specs.Report.{counts_line, summary_line, block_lines, report_head, report_text}
use Rattle.cov_report.proofs.Viewing.{nothing_behind}

pub lines_joined : (xs ys : List (List ℕ)) → text_of_lines (xs ++ ys) ≡ text_of_lines xs ++ text_of_lines ys
lines_joined xs ys = flat_map-append ended xs ys

nothing_more : (xs : List ℕ) → xs ≡ xs ++ []
nothing_more [] = refl
nothing_more (x ∷ xs) = ap (λ (t : List ℕ). x ∷ t) (nothing_more xs)

no_more_lines : (xs : List (List ℕ)) → xs ≡ xs ++ []
no_more_lines [] = refl
no_more_lines (x ∷ xs) = ap (λ (t : List (List ℕ)). x ∷ t) (no_more_lines xs)

-- ---- the head

regrouped_head : (old title top rest : List ℕ) → ((((old ++ (title ++ 10 ∷ codes "top ")) ++ top) ++ 10 ∷ []) ++ rest) ≡ old ++ ((title ++ 10 ∷ []) ++ (((codes "top " ++ top) ++ 10 ∷ []) ++ rest))
regrouped_head old title top rest = simp append_assoc

pub head_with : (top : List ℕ) (sources : List (List ℕ)) (old one two three : List ℕ) → one ≡ old ++ (codes "covered report 1" ++ 10 ∷ codes "top ") → two ≡ one ++ top → three ≡ two ++ 10 ∷ []
    → three ++ text_of_lines sources ≡ old ++ text_of_lines (codes "covered report 1" ∷ (codes "top " ++ top) ∷ sources)
head_with top sources old one two three a b c = rw (c, b, a) (regrouped_head old (codes "covered report 1") top (text_of_lines sources))

pub head_alone : (top : List ℕ) (old one two three : List ℕ) → one ≡ old ++ (codes "covered report 1" ++ 10 ∷ codes "top ") → two ≡ one ++ top → three ≡ two ++ 10 ∷ []
    → three ≡ old ++ text_of_lines (codes "covered report 1" ∷ (codes "top " ++ top) ∷ [])
head_alone top old one two three a b c = nothing_more three ∙ head_with top [] old one two three a b c

-- ---- a block

regrouped_block : (old heading columns metrics points : List ℕ) → (((old ++ heading) ++ (10 ∷ columns ++ 10 ∷ [])) ++ metrics) ++ points ≡ old ++ (((heading ++ 10 ∷ []) ++ ((columns ++ 10 ∷ []) ++ metrics)) ++ points)
regrouped_block old heading columns metrics points = simp append_assoc

pub block_with : (heading columns : List ℕ) (metrics points : List (List ℕ)) (old one two three : List ℕ) → one ≡ old ++ heading → two ≡ one ++ (10 ∷ columns ++ 10 ∷ []) → three ≡ two ++ text_of_lines metrics
    → three ++ text_of_lines points ≡ old ++ text_of_lines (heading ∷ columns ∷ metrics ++ points)
block_with heading columns metrics points old one two three a b c =
    rw (c, b, a) (regrouped_block old heading columns (text_of_lines metrics) (text_of_lines points) ∙ ap (λ (t : List ℕ). old ++ t) (sym (lines_joined (heading ∷ columns ∷ metrics) points)))

pub block_alone : (heading columns : List ℕ) (metrics : List (List ℕ)) (old one two three : List ℕ) → one ≡ old ++ heading → two ≡ one ++ (10 ∷ columns ++ 10 ∷ []) → three ≡ two ++ text_of_lines metrics
    → three ≡ old ++ text_of_lines (heading ∷ columns ∷ metrics ++ [])
block_alone heading columns metrics old one two three a b c = nothing_more three ∙ block_with heading columns metrics [] old one two three a b c

-- ---- the report

regrouped_report : (head blocks line : List ℕ) → ((head ++ blocks) ++ line) ++ 10 ∷ [] ≡ (head ++ blocks) ++ ((line ++ 10 ∷ []) ++ [])
regrouped_report head blocks line = append_assoc (head ++ blocks) line (10 ∷ []) ∙ ap (λ (t : List ℕ). (head ++ blocks) ++ t) (nothing_more (line ++ 10 ∷ []))

pub report_written : (head blocks : List (List ℕ)) (line one two three four : List ℕ) → one ≡ text_of_lines head → two ≡ one ++ text_of_lines blocks → three ≡ two ++ line → four ≡ three ++ 10 ∷ []
    → four ≡ text_of_lines (head ++ blocks ++ line ∷ [])
report_written head blocks line one two three four a b c d =
    rw (d, c, b, a) (regrouped_report (text_of_lines head) (text_of_lines blocks) line ∙ ap (λ (t : List ℕ). t ++ ((line ++ 10 ∷ []) ++ [])) (sym (lines_joined head blocks)) ∙ sym (lines_joined (head ++ blocks) (line ∷ [])))

-- ---- the line of a point in doubt

regrouped_doubt : (old word address doubt : List ℕ) → (((old ++ word) ++ address) ++ doubt) ++ 10 ∷ [] ≡ old ++ (((word ++ address) ++ doubt) ++ 10 ∷ [])
regrouped_doubt old word address doubt = simp append_assoc

pub doubt_written : (word address doubt old one two three four : List ℕ) → one ≡ old ++ word → two ≡ one ++ address → three ≡ two ++ doubt → four ≡ three ++ 10 ∷ [] → four ≡ old ++ text_of_lines ((word ++ address ++ doubt) ∷ [])
doubt_written word address doubt old one two three four a b c d =
    rw (d, c, b, a) (regrouped_doubt old word address doubt ∙ ap (λ (t : List ℕ). old ++ t) (nothing_more (((word ++ address) ++ doubt) ++ 10 ∷ [])))

-- ---- loops

step_is : {X : Type 0} (xs : List X) (k : ℕ) (x : X) → k < length xs → x ≡ get_or xs k x → drop k xs ≡ x ∷ drop (k + 1) xs
step_is {X} xs k x within is = drop_more xs k x within ∙ ap (λ (y : X). y ∷ drop (k + 1) xs) (sym is)

-- one more item, which is some lines
pub lines_more : {X : Type 0} (lines : X → List (List ℕ)) (text new whole : List ℕ) (xs : List X) (k : ℕ) (x : X) → k < length xs → x ≡ get_or xs k x → new ≡ text ++ text_of_lines (lines x)
    → text ++ text_of_lines (flat_map lines (drop k xs)) ≡ whole → new ++ text_of_lines (flat_map lines (drop (k + 1) xs)) ≡ whole
lines_more {X} lines text new whole xs k x within is more same =
    let rest : List (List ℕ) = flat_map lines (drop (k + 1) xs) in
    ap (λ (t : List ℕ). t ++ text_of_lines rest) more ∙ append_assoc text (text_of_lines (lines x)) (text_of_lines rest) ∙ ap (λ (t : List ℕ). text ++ t) (sym (lines_joined (lines x) rest))
    ∙ ap (λ (t : List X). text ++ text_of_lines (flat_map lines t)) (sym (step_is xs k x within is)) ∙ same

-- one more item that is shown on a line of its own
pub shown_more : {X : Type 0} (line : X → List ℕ) (shown : X → Bool) (text one new whole : List ℕ) (xs : List X) (k : ℕ) (x : X) → k < length xs → x ≡ get_or xs k x → shown x ≡ true → one ≡ text ++ line x → new ≡ one ++ 10 ∷ []
    → text ++ text_of_lines (map line (filter shown (drop k xs))) ≡ whole → new ++ text_of_lines (map line (filter shown (drop (k + 1) xs))) ≡ whole
shown_more {X} line shown text one new whole xs k x within is here first more same =
    let rest : List X = filter shown (drop (k + 1) xs) in
    let tail : List ℕ = text_of_lines (map line rest) in
    ap (λ (t : List ℕ). t ++ tail) (more ∙ ap (λ (t : List ℕ). t ++ 10 ∷ []) first ∙ append_assoc text (line x) (10 ∷ [])) ∙ append_assoc text (line x ++ 10 ∷ []) tail
    ∙ ap (λ (b : Bool). text ++ text_of_lines (map line (cond b (x ∷ rest) rest))) (sym here) ∙ ap (λ (t : List X). text ++ text_of_lines (map line (filter shown t))) (sym (step_is xs k x within is)) ∙ same

-- one more item that is not shown
pub hidden_more : {X : Type 0} (line : X → List ℕ) (shown : X → Bool) (text whole : List ℕ) (xs : List X) (k : ℕ) (x : X) → k < length xs → x ≡ get_or xs k x → shown x ≡ false
    → text ++ text_of_lines (map line (filter shown (drop k xs))) ≡ whole → text ++ text_of_lines (map line (filter shown (drop (k + 1) xs))) ≡ whole
hidden_more {X} line shown text whole xs k x within is gone same =
    let rest : List X = filter shown (drop (k + 1) xs) in
    ap (λ (b : Bool). text ++ text_of_lines (map line (cond b (x ∷ rest) rest))) (sym gone) ∙ ap (λ (t : List X). text ++ text_of_lines (map line (filter shown t))) (sym (step_is xs k x within is)) ∙ same

seen_lines : {X Y : Type 0} (lines : X → List (List ℕ)) (f : Y → X) (ys : List Y) → flat_map (λ y. lines (f y)) ys ≡ flat_map lines (map f ys)
seen_lines lines f [] = refl
seen_lines lines f (y ∷ ys) = ap (λ (t : List (List ℕ)). lines (f y) ++ t) (seen_lines lines f ys)

-- no item is left
pub lines_done : {X Y : Type 0} (lines : X → List (List ℕ)) (f : Y → X) (text old : List ℕ) (ys : List Y) (k : ℕ) → length ys ≤ k → text ++ text_of_lines (flat_map (λ y. lines (f y)) (drop k ys)) ≡ old ++ text_of_lines (flat_map (λ y. lines (f y)) ys)
    → text ≡ old ++ text_of_lines (flat_map lines (map f ys))
lines_done {X} {Y} lines f text old ys k past same =
    nothing_more text ∙ ap (λ (t : List Y). text ++ text_of_lines (flat_map (λ y. lines (f y)) t)) (sym (nothing_behind ys k past)) ∙ same ∙ ap (λ (t : List (List ℕ)). old ++ text_of_lines t) (seen_lines lines f ys)

-- ---- a line of counts

pub counts_same : (m n : List ℕ) (a b c d e f : ℕ) → m ≡ n → a ≡ b → c ≡ d → e ≡ f → counts_line m a c e ≡ counts_line n b d f
counts_same m n a b c d e f p q r s =
    ap (λ (x : List ℕ). counts_line x a c e) p ∙ ap (λ (x : ℕ). counts_line n x c e) q ∙ ap (λ (x : ℕ). counts_line n b x e) r ∙ ap (λ (x : ℕ). counts_line n b d x) s

-- ---- the whole report

pub whole_written : (db : Db) (options : Options) (points : List ReportPoint) (heads : List DbInstance) (one two three four : List ℕ) → points ≡ report_points options db → heads ≡ blocks options db.instances → one ≡ text_of_lines (report_head options db)
    → two ≡ one ++ text_of_lines (flat_map (λ block. block_lines options block (points_in options block points)) heads) → three ≡ two ++ summary_line (codes "all") points → four ≡ three ++ 10 ∷ [] → four ≡ report_text db options
whole_written db options points heads one two three four p q a b c d =
    report_written (report_head options db) (flat_map (λ block. block_lines options block (points_in options block points)) heads) (summary_line (codes "all") points) one two three four a b c d
    ∙ ap (λ (t : List ReportPoint). text_of_lines (report_head options db ++ flat_map (λ block. block_lines options block (points_in options block t)) heads ++ summary_line (codes "all") t ∷ [])) p
    ∙ ap (λ (t : List DbInstance). text_of_lines (report_head options db ++ flat_map (λ block. block_lines options block (points_in options block (report_points options db))) t ++ summary_line (codes "all") (report_points options db) ∷ [])) q
