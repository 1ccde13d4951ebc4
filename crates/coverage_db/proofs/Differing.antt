-- Where two lists differ first.
use Rattle.std.proofs.Common.{◌≡◌, ◌≢◌, ℕ, ◌+◌, ◌<◌, ◌≤◌, Bool, true, false, cond, List, [], ◌∷◌, ◌++◌, map, length, drop, get_or, All, Option, Some, None, refl, sym, ap, subst, ◌∙◌, append_assoc, inl, inr, arith}
use Rattle.std.specs.Prelude.{option_map, slice_get}
use Rattle.std.proofs.lemmas.Bool.{cases_Bool}
use Rattle.std.proofs.lemmas.List.{at_drop_more, at_drop_all, length-append}
use Rattle.std.proofs.lemmas.List.Elements.{All-head, All-tail}
use Rattle.std.proofs.lemmas.Option.{same_Some, slice_get_within, get_or_from_slice_get}
use Rattle.coverage_db.specs.Merge.{first_other}

-- so many places further
abbrev pub moved : ℕ → Option ℕ → Option ℕ
moved n None = None
moved n (Some place) = Some (place + n)

pub moved_start : (o : Option ℕ) → moved 0 o ≡ o
moved_start None = refl
moved_start (Some place) = let same : place + 0 ≡ place = omega arith in ap (λ (p : ℕ). Some p) same

moved_more : (n : ℕ) (o : Option ℕ) → moved n (option_map (λ p. p + 1) o) ≡ moved (n + 1) o
moved_more n None = refl
moved_more n (Some place) = let same : place + 1 + n ≡ place + (n + 1) = omega arith in ap (λ (p : ℕ). Some p) same

pub other_more : {X : Type 0} (same : X → X → Bool) (xs ys : List X) (i : ℕ) (y : X) → i < length xs → Some y ≡ slice_get ys i → (d : X) → same (get_or xs i d) y ≡ true
    → moved i (first_other same (drop i xs) (drop i ys)) ≡ moved (i + 1) (first_other same (drop (i + 1) xs) (drop (i + 1) ys))
other_more same xs ys i y within there d alike =
    let inside : i < length ys = slice_get_within ys i y (sym there) in
    let second : get_or ys i y ≡ y = get_or_from_slice_get ys i y y (sym there) in
    let first = at_drop_more (λ zs. moved i (first_other same zs (drop i ys))) xs i d within in
    let both = at_drop_more (λ zs. moved i (first_other same (get_or xs i d ∷ drop (i + 1) xs) zs)) ys i y inside in
    let passes : same (get_or xs i d) (get_or ys i y) ≡ true = ap (same (get_or xs i d)) second ∙ alike in
    first ∙ both ∙ ap (λ (b : Bool). moved i (cond b (option_map (λ p. p + 1) (first_other same (drop (i + 1) xs) (drop (i + 1) ys))) (Some 0))) passes ∙ moved_more i (first_other same (drop (i + 1) xs) (drop (i + 1) ys))

pub other_here : {X : Type 0} (same : X → X → Bool) (xs ys : List X) (i : ℕ) (y : X) → i < length xs → Some y ≡ slice_get ys i → (d : X) → same (get_or xs i d) y ≡ false → moved i (first_other same (drop i xs) (drop i ys)) ≡ Some i
other_here same xs ys i y within there d unlike =
    let inside : i < length ys = slice_get_within ys i y (sym there) in
    let second : get_or ys i y ≡ y = get_or_from_slice_get ys i y y (sym there) in
    let first = at_drop_more (λ zs. moved i (first_other same zs (drop i ys))) xs i d within in
    let both = at_drop_more (λ zs. moved i (first_other same (get_or xs i d ∷ drop (i + 1) xs) zs)) ys i y inside in
    let fails : same (get_or xs i d) (get_or ys i y) ≡ false = ap (same (get_or xs i d)) second ∙ unlike in
    let zero_more : 0 + i ≡ i = omega arith in
    first ∙ both ∙ ap (λ (b : Bool). moved i (cond b (option_map (λ p. p + 1) (first_other same (drop (i + 1) xs) (drop (i + 1) ys))) (Some 0))) fails ∙ ap (λ (p : ℕ). Some p) zero_more

pub other_ended : {X : Type 0} (same : X → X → Bool) (xs ys : List X) (i : ℕ) (d : X) → i < length xs → length ys ≤ i → moved i (first_other same (drop i xs) (drop i ys)) ≡ Some i
other_ended same xs ys i d within past =
    let zero_more : 0 + i ≡ i = omega arith in
    at_drop_more (λ zs. moved i (first_other same zs (drop i ys))) xs i d within ∙ at_drop_all (λ zs. moved i (first_other same (get_or xs i d ∷ drop (i + 1) xs) zs)) ys i past ∙ ap (λ (p : ℕ). Some p) zero_more

pub other_both_ended : {X : Type 0} (same : X → X → Bool) (xs ys : List X) (i : ℕ) → length xs ≤ i → length ys ≤ i → moved i (first_other same (drop i xs) (drop i ys)) ≡ None
other_both_ended same xs ys i a b = at_drop_all (λ zs. moved i (first_other same zs (drop i ys))) xs i a ∙ at_drop_all (λ zs. moved i (first_other same [] zs)) ys i b

pub other_longer : {X : Type 0} (same : X → X → Bool) (xs ys : List X) (i : ℕ) → length xs ≤ i → i < length ys → moved i (first_other same (drop i xs) (drop i ys)) ≡ Some i
other_longer same xs [] i a b = absurd (omega arith)
other_longer same xs (y ∷ ys) i a b =
    let zero_more : 0 + i ≡ i = omega arith in
    at_drop_all (λ zs. moved i (first_other same zs (drop i (y ∷ ys)))) xs i a ∙ at_drop_more (λ zs. moved i (first_other same [] zs)) (y ∷ ys) i y b ∙ ap (λ (p : ℕ). Some p) zero_more

-- ---- lines

-- where two lists of lines differ first
pub record IsFirstOther (left right : List (List ℕ)) (place : ℕ) : Type 0 where
  pub before : List (List ℕ)
  pub left_line : List ℕ
  pub right_line : List ℕ
  pub left_others : List (List ℕ)
  pub right_others : List (List ℕ)
  pub left_is : left ≡ before ++ left_line ∷ left_others
  pub right_is : right ≡ before ++ right_line ∷ right_others
  pub differ : left_line ≢ right_line
  pub place_is : place ≡ length before

pub heads_differ : (a b : List ℕ) (left right : List (List ℕ)) → a ≢ b → IsFirstOther (a ∷ left) (b ∷ right) 0
heads_differ a b left right differ = record { before = []; left_line = a; right_line = b; left_others = left; right_others = right; left_is = refl; right_is = refl; differ = differ; place_is = refl }

pub front_same : (front left right : List (List ℕ)) (place : ℕ) → IsFirstOther left right place → IsFirstOther (front ++ left) (front ++ right) (length front + place)
front_same front left right place d = record {
  before = front ++ d.before;
  left_line = d.left_line;
  right_line = d.right_line;
  left_others = d.left_others;
  right_others = d.right_others;
  left_is = ap (λ (ls : List (List ℕ)). front ++ ls) d.left_is ∙ sym (append_assoc front d.before (d.left_line ∷ d.left_others));
  right_is = ap (λ (ls : List (List ℕ)). front ++ ls) d.right_is ∙ sym (append_assoc front d.before (d.right_line ∷ d.right_others));
  differ = d.differ;
  place_is = omega (arith, d.place_is, length-append front d.before);
}

later_place : (line : List ℕ) (left right : List (List ℕ)) (place : ℕ) → IsFirstOther left right place → IsFirstOther (line ∷ left) (line ∷ right) (place + 1)
later_place line left right place d = let same : 1 + place ≡ place + 1 = omega arith in subst (IsFirstOther (line ∷ left) (line ∷ right)) same (front_same (line ∷ []) left right place d)

-- the lines of items, of which each has its number
abbrev pub numbered : {X : Type 0} → (ℕ → X → List ℕ) → ℕ → List X → List (List ℕ)
numbered f k [] = []
numbered f k (x ∷ xs) = f k x ∷ numbered f (k + 1) xs

pub numbered_map : {X : Type 0} (f : X → List ℕ) (k : ℕ) (xs : List X) → map f xs ≡ numbered (λ n. f) k xs
numbered_map f k [] = refl
numbered_map f k (x ∷ xs) = ap (λ (ls : List (List ℕ)). f x ∷ ls) (numbered_map f (k + 1) xs)

-- items that differ have different lines, and the line after the items is not one of theirs
pub record AreLines {X : Type 0} (same : X → X → Bool) (P : X → Type 0) (f : ℕ → X → List ℕ) (a b : List ℕ) : Type 0 where
  pub unlike : (k : ℕ) (x y : X) → P x → P y → same x y ≡ false → f k x ≢ f k y
  pub alike : (x y : X) → same x y ≡ true → (k : ℕ) → f k x ≡ f k y
  pub left_end : (k : ℕ) (x : X) → a ≢ f k x
  pub right_end : (k : ℕ) (x : X) → b ≢ f k x

items_later : (line other : List ℕ) (left right : List (List ℕ)) (place : ℕ) (o : Option ℕ) → line ≡ other → ((p : ℕ) → o ≡ Some p → IsFirstOther left right p) → option_map {U = ℕ} (λ p. p + 1) o ≡ Some place → IsFirstOther (line ∷ left) (other ∷ right) place
items_later line other left right place None same more e = absurd cc
items_later line other left right place (Some p) same more e =
    subst (λ (l : List ℕ). IsFirstOther (line ∷ left) (l ∷ right) place) same (subst (IsFirstOther (line ∷ left) (line ∷ right)) (same_Some (p + 1) place e) (later_place line left right p (more p refl)))

pub items_differ : {X : Type 0} (same : X → X → Bool) (P : X → Type 0) (f : ℕ → X → List ℕ) (a b : List ℕ) (k : ℕ) (xs ys : List X) (left right : List (List ℕ)) (place : ℕ) → AreLines same P f a b → All P xs → All P ys → first_other same xs ys ≡ Some place
    → IsFirstOther (numbered f k xs ++ a ∷ left) (numbered f k ys ++ b ∷ right) place
items_differ same P f a b k [] [] left right place lines p q e = absurd cc
items_differ same P f a b k [] (y ∷ ys) left right place lines p q e = subst (IsFirstOther (a ∷ left) (f k y ∷ numbered f (k + 1) ys ++ b ∷ right)) (same_Some 0 place e) (heads_differ a (f k y) left (numbered f (k + 1) ys ++ b ∷ right) (lines.left_end k y))
items_differ same P f a b k (x ∷ xs) [] left right place lines p q e =
    subst (IsFirstOther (f k x ∷ numbered f (k + 1) xs ++ a ∷ left) (b ∷ right)) (same_Some 0 place e) (heads_differ (f k x) b (numbered f (k + 1) xs ++ a ∷ left) right (λ s. lines.right_end k x (sym s)))
items_differ same P f a b k (x ∷ xs) (y ∷ ys) left right place lines p q e =
    elim (cases_Bool (same x y)) [
      | inl is ↦
          items_later (f k x) (f k y) (numbered f (k + 1) xs ++ a ∷ left) (numbered f (k + 1) ys ++ b ∷ right) place (first_other same xs ys) (lines.alike x y is k)
          (λ m h. items_differ same P f a b (k + 1) xs ys left right m lines (All-tail P x xs p) (All-tail P y ys q) h) (rw is at e)
      | inr other ↦
          let here : ◌≡◌ {A = Option ℕ} (Some 0) (Some place) = rw other at e in
          subst (IsFirstOther (f k x ∷ numbered f (k + 1) xs ++ a ∷ left) (f k y ∷ numbered f (k + 1) ys ++ b ∷ right)) (same_Some 0 place here)
          (heads_differ (f k x) (f k y) (numbered f (k + 1) xs ++ a ∷ left) (numbered f (k + 1) ys ++ b ∷ right) (lines.unlike k x y (All-head P x xs p) (All-head P y ys q) other))
    ]

cons_same : {X : Type 0} {x y : X} {xs ys : List X} → x ≡ y → xs ≡ ys → x ∷ xs ≡ y ∷ ys
cons_same p q = cc

no_later : (o : Option ℕ) → option_map {U = ℕ} (λ p. p + 1) o ≡ None → o ≡ None
no_later None e = refl
no_later (Some p) e = absurd cc

-- lists without a difference have the same of what does not differ
pub mapped_same : {X Y : Type 0} (same : X → X → Bool) (f : X → Y) (xs ys : List X) → ((x y : X) → same x y ≡ true → f x ≡ f y) → first_other same xs ys ≡ None → map f xs ≡ map f ys
mapped_same same f [] [] alike e = refl
mapped_same same f [] (y ∷ ys) alike e = absurd cc
mapped_same same f (x ∷ xs) [] alike e = absurd cc
mapped_same same f (x ∷ xs) (y ∷ ys) alike e =
    elim (cases_Bool (same x y)) [
      | inl is ↦ cons_same (alike x y is) (mapped_same same f xs ys alike (no_later (first_other same xs ys) (rw is at e)))
      | inr other ↦ absurd (let bad : ◌≡◌ {A = Option ℕ} (Some 0) None = rw other at e in cc)
    ]

pub list_same : {X : Type 0} (same : X → X → Bool) (xs ys : List X) → ((x y : X) → same x y ≡ true → x ≡ y) → first_other same xs ys ≡ None → xs ≡ ys
list_same same [] [] exact e = refl
list_same same [] (y ∷ ys) exact e = absurd cc
list_same same (x ∷ xs) [] exact e = absurd cc
list_same same (x ∷ xs) (y ∷ ys) exact e =
    elim (cases_Bool (same x y)) [
      | inl is ↦ cons_same (exact x y is) (list_same same xs ys exact (no_later (first_other same xs ys) (rw is at e)))
      | inr other ↦ absurd (let bad : ◌≡◌ {A = Option ℕ} (Some 0) None = rw other at e in cc)
    ]
