-- The line at a place.
use Rattle.std.proofs.Common.{◌≡◌, ◌≢◌, ℕ, zero, suc, ◌+◌, ◌-◌, List, [], ◌∷◌, ◌++◌, map, length, Some, None, refl, sym, ap, ◌∙◌, arith}
use Rattle.std.specs.Prelude.{codes, slice_get}
use Rattle.std.proofs.lemmas.Option.{same_Some}
use Rattle.coverage_db.specs.Merge.{line_at}
use Rattle.coverage_db.specs.Text.{source_line, source_lines}

pub source_at : (k : ℕ) (names lines : List (List ℕ)) (place : ℕ) (name : List ℕ) → Some name ≡ slice_get names place → line_at (source_lines k names ++ lines) place ≡ source_line (place + k) name
source_at k [] lines place name e = absurd cc
source_at k (first ∷ names) lines zero name e =
    let same : name ≡ first = same_Some name first e in
    let number : 0 + k ≡ k = omega arith in
    rw (same, number) refl
source_at k (first ∷ names) lines (suc place) name e =
    let number : place + (k + 1) ≡ suc place + k = omega arith in
    source_at (k + 1) names lines place name e ∙ ap (λ (n : ℕ). source_line n name) number

pub source_past : (k : ℕ) (names lines : List (List ℕ)) (place : ℕ) → None ≡ slice_get names place → line_at (source_lines k names ++ lines) place ≡ line_at lines (place - length names)
source_past k [] lines place e = let same : place ≡ place - 0 = omega arith in ap (line_at lines) same
source_past k (first ∷ names) lines zero e = absurd cc
source_past k (first ∷ names) lines (suc place) e =
    let same : place - length names ≡ suc place - length (first ∷ names) = omega arith in
    source_past (k + 1) names lines place e ∙ ap (line_at lines) same

pub item_at : {X : Type 0} (f : X → List ℕ) (items : List X) (lines : List (List ℕ)) (place : ℕ) (item : X) → Some item ≡ slice_get items place → line_at (map f items ++ lines) place ≡ f item
item_at f [] lines place item e = absurd cc
item_at f (first ∷ items) lines zero item e = ap f (sym (same_Some item first e))
item_at f (first ∷ items) lines (suc place) item e = item_at f items lines place item e

pub item_past : {X : Type 0} (f : X → List ℕ) (items : List X) (lines : List (List ℕ)) (place : ℕ) → None ≡ slice_get items place → line_at (map f items ++ lines) place ≡ line_at lines (place - length items)
item_past f [] lines place e = let same : place ≡ place - 0 = omega arith in ap (line_at lines) same
item_past f (first ∷ items) lines zero e = absurd cc
item_past f (first ∷ items) lines (suc place) e =
    let same : place - length items ≡ suc place - length (first ∷ items) = omega arith in
    item_past f items lines place e ∙ ap (line_at lines) same

pub behind_one : (first : List ℕ) (lines : List (List ℕ)) (place : ℕ) → place ≢ 0 → line_at (first ∷ lines) place ≡ line_at lines (place - 1)
behind_one first lines zero some = absurd (some refl)
behind_one first lines (suc place) some = let same : place ≡ suc place - 1 = omega arith in ap (line_at lines) same

pub behind_two : (first second : List ℕ) (lines : List (List ℕ)) (place : ℕ) → place ≢ 0 → place ≢ 1 → line_at (first ∷ second ∷ lines) place ≡ line_at lines (place - 2)
behind_two first second lines zero a b = absurd (a refl)
behind_two first second lines (suc zero) a b = absurd (b refl)
behind_two first second lines (suc (suc place)) a b = let same : place ≡ suc (suc place) - 2 = omega arith in ap (line_at lines) same

pub last_line : (place : ℕ) → line_at (codes "end" ∷ []) place ≡ codes "end"
last_line zero = refl
last_line (suc place) = refl
