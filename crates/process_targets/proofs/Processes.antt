-- The rows of the processes of a design.
use Rattle.std.proofs.Common.{◌≡◌, ◌∙◌, ⊎_elim, ◌+◌, ◌<◌, ◌≤◌, ◌++◌, ◌∷◌, [], ℕ, List, true, length, get_or, map, refl, sym, ap, subst, arith}
use Rattle.std.proofs.Math.ListN.{get_or-append, get_or-map}
use Rattle.std.proofs.lemmas.Bool.{cases_lt}
use Rattle.std.proofs.lemmas.List.{get_or_default, get_or_past, length-map}
use Rattle.design_model.specs.Design as plain
use Rattle.design_model.specs.Design.{body, body_at, no_process, process_at}
use Rattle.design_model.specs.Lawful.{IsLawfulDesign}
use Rattle.design_model.specs.View.{design_view, process_view}
use Rattle.design_model.specs.declared.design.Design.{Design}
use Rattle.design_model.specs.declared.tree.Process.{Process}
use Rattle.design_targets.specs.Leaves.{leaves}
use Rattle.index_sets.specs.Rows.{row_at}
use Rattle.process_targets.specs.Rows.{AreTargetRows, AreTargets, HasLeaves}
use Rattle.process_targets.specs.declared.bits.Bits.{Bits}
use Rattle.process_targets.proofs.Named.{no_leaves, targets_of_leaves}

-- a process of the code's design
pub process_is : (d : Design) (p : ℕ) (q : Process) → p < length d.processes → q ≡ get_or d.processes p q → process_at (design_view d) p ≡ process_view q
process_is d p q l e =
    get_or_default (map process_view d.processes) p no_process (process_view q) (subst (λ n. p < n) (sym (length-map d.processes process_view)) l) ∙ get_or-map process_view d.processes p q ∙ ap process_view (sym e)

-- and its body
pub body_is : (d : Design) (p : ℕ) (q : Process) → p < length d.processes → q ≡ get_or d.processes p q → body_at (design_view d) p ≡ body (process_view q)
body_is d p q l e = ap body (process_is d p q l e)

row_last : {T : Type 0} (rows : List (List T)) (row : List T) → row_at (rows ++ row ∷ []) (length rows) ≡ row
row_last [] row = refl
row_last (r ∷ rows) row = row_last rows row

-- one row more
pub rows_more : {T : Type 0} (P : ℕ → List T → Type 0) (rows : List (List T)) (row : List T) (n : ℕ) → length rows ≡ n → P n row → ((k : ℕ) → k < n → P k (row_at rows k)) → (k : ℕ) → k < n + 1 → P k (row_at (rows ++ row ∷ []) k)
rows_more P rows row n e is h k l =
    ⊎_elim
    (λ m. subst (P k) (sym (get_or-append rows (row ∷ []) [] k (subst (λ j. k < j) (sym e) m))) (h k m))
    (λ m. let same : k ≡ n = omega (arith, l, m) in
    subst (λ j. P j (row_at (rows ++ row ∷ []) j)) (sym same) (subst (P n) (sym (ap (row_at (rows ++ row ∷ [])) (sym e) ∙ row_last rows row)) is))
    (cases_lt k n)

-- the rows of all processes
pub all_rows : (d : plain.Design) (rows : List (List Bits)) → IsLawfulDesign d → length rows ≡ length d.processes → ((k : ℕ) → k < length d.processes → AreTargets d k (row_at rows k)) → AreTargetRows d rows
all_rows d rows lawful e h = record { count = e; each = λ p. ⊎_elim (λ l. h p l) (λ past. past_row p past) (cases_lt p (length d.processes)) }
  where
    past_row : (p : ℕ) → length d.processes ≤ p → AreTargets d p (row_at rows p)
    past_row p past =
        let none : row_at rows p ≡ [] = get_or_past rows p [] (omega (arith, past, e)) in
        let idle : body_at d p ≡ body no_process = ap body (get_or_past d.processes p no_process past) in
        subst (AreTargets d p) (sym none) (targets_of_leaves d p [] lawful tt (subst (λ b. HasLeaves d (leaves true b) []) (sym idle) (no_leaves d)))
