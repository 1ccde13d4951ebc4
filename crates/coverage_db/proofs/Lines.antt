-- The lines of a table, as they are written one after the other.
use Rattle.std.proofs.Common.{◌≡◌, ℕ, List, [], ◌∷◌, ◌++◌, map, length, sym, ap, ◌∙◌, append_assoc}
use Rattle.std.specs.Prelude.{codes, decimal}
use Rattle.std.proofs.lemmas.List.Concat.{flat_map-append}
use Rattle.coverage_db.specs.declared.db.Db.{Db}
use Rattle.coverage_db.specs.declared.version.Version.TheVariants.{Two}
use Rattle.coverage_db.specs.Text.{ended, text_of_lines, text_of, source_lines, instance_line, count_line, point_line, window_count_line, window_line, head_lines, lines_to_points, lines_to_windows}

regrouped : (old version feed word top sources instances : List ℕ) →
    ((((old ++ (version ++ (feed ++ word))) ++ top) ++ feed) ++ sources) ++ instances ≡ old ++ ((version ++ feed) ++ (((word ++ top) ++ feed) ++ (sources ++ instances)))
regrouped old version feed word top sources instances = simp append_assoc

-- the lines before the count
pub head_written : (db : Db) (old one two three four : List ℕ) → one ≡ old ++ (codes "covered-db 2" ++ 10 ∷ codes "top ") → two ≡ one ++ db.top → three ≡ two ++ 10 ∷ [] → four ≡ three ++ text_of_lines (source_lines 1 db.sources) →
    four ++ text_of_lines (map instance_line db.instances) ≡ old ++ text_of_lines (head_lines Two db)
head_written db old one two three four a b c d =
    let sources : List ℕ = text_of_lines (source_lines 1 db.sources) in
    let instances : List ℕ = text_of_lines (map instance_line db.instances) in
    rw (d, c, b, a) (regrouped old (codes "covered-db 2") (10 ∷ []) (codes "top ") db.top sources instances
    ∙ ap (λ (rest : List ℕ). old ++ ((codes "covered-db 2" ++ 10 ∷ []) ++ (((codes "top " ++ db.top) ++ 10 ∷ []) ++ rest))) (sym (flat_map-append ended (source_lines 1 db.sources) (map instance_line db.instances))))

parts_regrouped : (head count feed points number windows last : List ℕ) → (((((head ++ count) ++ feed) ++ points) ++ number) ++ windows) ++ last ≡ ((head ++ ((count ++ feed) ++ points)) ++ (number ++ windows)) ++ last
parts_regrouped head count feed points number windows last = simp append_assoc

-- the lines of a table
pub table_written : (db : Db) (one two three four five six : List ℕ) → one ≡ text_of_lines (head_lines Two db) → two ≡ one ++ count_line (decimal (length db.points)) → three ≡ two ++ 10 ∷ [] → four ≡ three ++ text_of_lines (map (point_line db.instances) db.points)
    → five ≡ four ++ ended (window_count_line (decimal (length db.windows))) → six ≡ five ++ text_of_lines (map window_line db.windows) → six ++ (codes "end" ++ 10 ∷ []) ≡ text_of db
table_written db one two three four five six a b c d e f =
    let count : List ℕ = count_line (decimal (length db.points)) in
    let number : List ℕ = window_count_line (decimal (length db.windows)) in
    let points : List (List ℕ) = map (point_line db.instances) db.points in
    let windows : List (List ℕ) = map window_line db.windows in
    let to_points : List (List ℕ) = lines_to_points Two (decimal (length db.points)) db in
    let to_windows : List (List ℕ) = lines_to_windows Two (decimal (length db.points)) (decimal (length db.windows)) db in
    let last : List ℕ = codes "end" ++ 10 ∷ [] in
    let head : text_of_lines to_points ≡ text_of_lines (head_lines Two db) ++ (ended count ++ text_of_lines points) = flat_map-append ended (head_lines Two db) (count ∷ points) in
    let body : text_of_lines to_windows ≡ text_of_lines to_points ++ (ended number ++ text_of_lines windows) = flat_map-append ended to_points (number ∷ windows) in
    let whole : text_of db ≡ text_of_lines to_windows ++ last = flat_map-append ended to_windows (codes "end" ∷ []) in
    rw (f, e, d, c, b, a) (parts_regrouped (text_of_lines (head_lines Two db)) count (10 ∷ []) (text_of_lines points) (ended number) (text_of_lines windows) last
    ∙ ap (λ (t : List ℕ). (t ++ (ended number ++ text_of_lines windows)) ++ last) (sym head) ∙ ap (λ (t : List ℕ). t ++ last) (sym body) ∙ sym whole)
