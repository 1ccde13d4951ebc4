-- The tables that are not used.
use Rattle.std.proofs.Common.{◌≡◌, ℕ, zero, suc, ◌+◌, ◌<◌, Bool, true, false, cond, not, ◌||◌, ◌==◌, List, [], ◌∷◌, ◌++◌, length, get_or, set, take, refl, sym, ap, ◌∙◌, inl, inr, arith, add-one, append-nil, get_or-set_same, get_or-set_other}
use Rattle.std.specs.List.{filter}
use Rattle.std.specs.Prelude.{replicate}
use Rattle.std.proofs.lemmas.Bool.{cases_eq, eq-eqb, ne_eqb, or_right}
use Rattle.std.proofs.lemmas.List.{length-replicate, length-set}
use Rattle.std.proofs.lemmas.List.Elements.{filter-append}
use Rattle.std.proofs.lemmas.List.Folds.{list_any_more}
use Rattle.test_ranking.specs.Ranking.{AreMarked, is_used, places, skipped_of}
use Rattle.test_ranking.specs.declared.ranking.Use.{Use}

-- one place more
pub skipped_more : (uses : List Use) (place : ℕ) → skipped_of (place + 1) uses ≡ skipped_of place uses ++ cond (not (is_used uses place)) (place ∷ []) []
skipped_more uses place =
    let test : ℕ → Bool = λ table. not (is_used uses table) in
    ap (λ (count : ℕ). filter test (places count)) (add-one place) ∙ filter-append test (places place) (place ∷ [])

pub skipped_here : (uses : List Use) (place : ℕ) (old new : List ℕ) → is_used uses place ≡ false → old ≡ skipped_of place uses → new ≡ old ++ place ∷ [] → new ≡ skipped_of (place + 1) uses
skipped_here uses place old new unused so_far pushed =
    pushed ∙ ap (λ (tables : List ℕ). tables ++ place ∷ []) so_far ∙ ap (λ (mark : Bool). skipped_of place uses ++ cond (not mark) (place ∷ []) []) (sym unused) ∙ sym (skipped_more uses place)

pub used_here : (uses : List Use) (place : ℕ) (old : List ℕ) → is_used uses place ≡ true → old ≡ skipped_of place uses → old ≡ skipped_of (place + 1) uses
used_here uses place old used so_far =
    so_far ∙ sym (append-nil (skipped_of place uses)) ∙ ap (λ (mark : Bool). skipped_of place uses ++ cond (not mark) (place ∷ []) []) (sym used) ∙ sym (skipped_more uses place)

get_or-none : (count place : ℕ) → get_or (replicate count false) place false ≡ false
get_or-none zero place = refl
get_or-none (suc count) zero = refl
get_or-none (suc count) (suc place) = get_or-none count place

-- at first no table is marked
pub none_marked : (count : ℕ) (marks : List Bool) → marks ≡ replicate count false → AreMarked count [] marks
none_marked count marks is = record {
  long = ap (λ (ms : List Bool). length ms) is ∙ length-replicate count false;
  marked = λ table listed. ap (λ (ms : List Bool). get_or ms table false) is ∙ get_or-none count table;
}

or-false : (x : Bool) → (x || false) ≡ x
or-false true = refl
or-false false = refl

-- and then one more
pub one_marked : (count : ℕ) (uses : List Use) (place : ℕ) (used : Use) (marks : List Bool) → place < length uses → used ≡ get_or uses place used → used.table < count → AreMarked count (take place uses) marks → AreMarked count (take (place + 1) uses) (set marks used.table true)
one_marked count uses place used marks inside is listed are = record {
  long = length-set marks used.table true ∙ are.long;
  marked = λ table below.
      let more : is_used (take (place + 1) uses) table ≡ (is_used (take place uses) table || (used.table == table)) =
      list_any_more (λ (u : Use). u.table == table) uses place used inside ∙ ap (λ (u : Use). is_used (take place uses) table || (u.table == table)) (sym is) in
      elim (cases_eq table used.table) [
        | inl same ↦
            let here : get_or (set marks used.table true) table false ≡ true = ap (λ (t : ℕ). get_or (set marks used.table true) t false) same ∙ get_or-set_same marks used.table true false (omega (arith, are.long, listed)) in
            here ∙ sym (more ∙ or_right (is_used (take place uses) table) (used.table == table) (eq-eqb used.table table (sym same)))
        | inr apart ↦
            let there : get_or (set marks used.table true) table false ≡ get_or marks table false = get_or-set_other marks used.table table true false apart in
            there ∙ are.marked table below ∙ sym (more ∙ ap (λ (b : Bool). is_used (take place uses) table || b) (ne_eqb used.table table (λ e. apart (sym e))) ∙ or-false (is_used (take place uses) table))
      ];
}
