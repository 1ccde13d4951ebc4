-- Lines that are written one after the other.
use Rattle.std.proofs.Common.{◌≡◌, ℕ, Bool, List, [], ◌∷◌, ◌++◌, map, length, refl, sym, ap, ◌∙◌, append_assoc}
use Rattle.std.specs.Prelude.{codes, count_by}
use Rattle.std.specs.List.{filter}
use Rattle.std.proofs.lemmas.List.{length-map}
use Rattle.std.proofs.lemmas.List.Sums.{length-filter}
use Rattle.coverage_db.specs.declared.address.SourceLine.{SourceLine}
use Rattle.coverage_db.specs.declared.db.Db.{Db}
use Rattle.coverage_db.specs.Text.{ended, text_of_lines}
use Rattle.cov_report.proofs.Lines.{lines_joined}
use Rattle.cov_report.proofs.Names.{filter_view}
use Rattle.lcov_text.specs.declared.traced.Traced.{Traced}
use Rattle.lcov_text.specs.Points.{TracePoint, trace_points, is_reached}
use Rattle.lcov_text.specs.Tracefile.{hit_count, line_line, source_records, tracefile_text}
use Rattle.lcov_text.specs.Views.{trace_view}

nothing_more : (xs : List ℕ) → xs ≡ xs ++ []
nothing_more [] = refl
nothing_more (x ∷ xs) = ap (λ (t : List ℕ). x ∷ t) (nothing_more xs)

-- ---- parts of a record

regrouped_part : (old lines a b : List ℕ) → ((old ++ lines) ++ a) ++ b ≡ old ++ (lines ++ (a ++ (b ++ [])))
regrouped_part old lines a b = ap (λ (t : List ℕ). ((old ++ lines) ++ a) ++ t) (nothing_more b) ∙ append_assoc (old ++ lines) a (b ++ []) ∙ append_assoc old lines (a ++ (b ++ []))

-- lines, and two more
pub part_written : (lines : List (List ℕ)) (a b old one two three : List ℕ) → one ≡ old ++ text_of_lines lines → two ≡ one ++ ended a → three ≡ two ++ ended b → three ≡ old ++ text_of_lines (lines ++ a ∷ b ∷ [])
part_written lines a b old one two three p q r =
    rw (r, q, p) (regrouped_part old (text_of_lines lines) (ended a) (ended b) ∙ ap (λ (t : List ℕ). old ++ t) (sym (lines_joined lines (a ∷ b ∷ []))))

regrouped_record : (old name branches lines end : List ℕ) → (((old ++ name) ++ branches) ++ lines) ++ end ≡ old ++ (((name ++ branches) ++ lines) ++ (end ++ []))
regrouped_record old name branches lines end =
    ap (λ (t : List ℕ). (((old ++ name) ++ branches) ++ lines) ++ t) (nothing_more end) ∙ append_assoc ((old ++ name) ++ branches) lines (end ++ []) ∙ append_assoc (old ++ name) branches (lines ++ (end ++ []))
    ∙ append_assoc old name (branches ++ (lines ++ (end ++ []))) ∙ ap (λ (t : List ℕ). old ++ t) (sym (append_assoc (name ++ branches) lines (end ++ []) ∙ append_assoc name branches (lines ++ (end ++ []))))

-- the name, the branches, the lines, and the end
pub record_written : (name : List ℕ) (branches lines : List (List ℕ)) (end old one two three four : List ℕ) → one ≡ old ++ ended name → two ≡ one ++ text_of_lines branches → three ≡ two ++ text_of_lines lines → four ≡ three ++ ended end
    → four ≡ old ++ text_of_lines (name ∷ branches ++ lines ++ end ∷ [])
record_written name branches lines end old one two three four p q r s =
    rw (s, r, q, p) (regrouped_record old (ended name) (text_of_lines branches) (text_of_lines lines) (ended end)
    ∙ ap (λ (t : List ℕ). old ++ (t ++ (ended end ++ []))) (sym (lines_joined (name ∷ branches) lines)) ∙ ap (λ (t : List ℕ). old ++ t) (sym (lines_joined (name ∷ branches ++ lines) (end ∷ []))))

-- ---- what a view shows

pub lines_view : (xs : List Traced) → map (λ (line : Traced). line_line (trace_view line)) xs ≡ map line_line (map trace_view xs)
lines_view [] = refl
lines_view (x ∷ xs) = ap (λ (t : List (List ℕ)). line_line (trace_view x) ∷ t) (lines_view xs)

pub length_view : (xs : List Traced) → length (map trace_view xs) ≡ length xs
length_view xs = length-map xs trace_view

pub hits_view : (xs : List Traced) → hit_count (map trace_view xs) ≡ count_by (λ (p : Traced). p.is_hit) xs
hits_view xs =
    sym (length-filter (λ (p : TracePoint). p.hit) (map trace_view xs)) ∙ ap (λ (t : List TracePoint). length t) (sym (filter_view trace_view (λ (p : TracePoint). p.hit) xs))
    ∙ length-map (filter (λ (p : Traced). p.is_hit) xs) trace_view ∙ length-filter (λ (p : Traced). p.is_hit) xs

-- ---- the whole text

-- the records hold for any test that answers as another one does
pub whole_written : (db : Db) (points : List TracePoint) (reached : SourceLine → Bool) (one two : List ℕ) → points ≡ trace_points db → ((at : SourceLine) → reached at ≡ is_reached points at) → one ≡ [] ++ ended (codes "TN:" ++ db.top)
    → two ≡ one ++ text_of_lines (source_records reached points 1 db.sources) → two ≡ tracefile_text db
whole_written db points reached one two same reach a b =
    b ∙ ap (λ (t : List ℕ). t ++ text_of_lines (source_records reached points 1 db.sources)) a
    ∙ ap (λ (r : SourceLine → Bool). ended (codes "TN:" ++ db.top) ++ text_of_lines (source_records r points 1 db.sources)) (λ i at. reach at i)
    ∙ ap (λ (ps : List TracePoint). ended (codes "TN:" ++ db.top) ++ text_of_lines (source_records (is_reached ps) ps 1 db.sources)) same
