-- The cells of words, and tests of them.
use Rattle.std.proofs.Common.{◌≡◌, ◌⊎◌, inl, inr, ⊎_elim, ℕ, zero, suc, ◌+◌, ◌&&◌, ◌||◌, Bool, true, List, [], ◌∷◌, ◌++◌, map, length, get_or, Option, Some, None, refl, sym, ap, ap₂, subst, ◌∙◌, arith}
use Rattle.std.specs.List.{list_all, list_any, range_with_len}
use Rattle.std.proofs.lemmas.Bool.{and_from, and_parts, false≢true, or_cases, or_left, or_right}
use Rattle.event_machine.specs.Cell.{Cell}
use Rattle.four_state.specs.declared.bit.Bit.{Bit}
use Rattle.bit_changes.specs.Changes as b
use Rattle.design_model.specs.BodyLaws.{words_cells}
use Rattle.design_model.specs.Design.{Design, In, word_cells}
use Rattle.replay_steps.specs.replay_model.Step as model
use Rattle.store_knowledge.specs.body_replay.Store.{Kept}
use Rattle.step_words.specs.Changes.{words_agree, words_differ}

-- ---- places and members

any_shifted : (f : ℕ → Bool) (n w : ℕ) → list_any f (range_with_len (n + 1) w) ≡ list_any (λ j. f (j + 1)) (range_with_len n w)
any_shifted f n zero = refl
any_shifted f n (suc w) = ap (λ t. f (n + 1) || t) (any_shifted f (n + 1) w)

all_shifted : (f : ℕ → Bool) (n w : ℕ) → list_all f (range_with_len (n + 1) w) ≡ list_all (λ j. f (j + 1)) (range_with_len n w)
all_shifted f n zero = refl
all_shifted f n (suc w) = ap (λ t. f (n + 1) && t) (all_shifted f (n + 1) w)

next_at : (p : Option Bit) (ps : List (Option Bit)) (j : ℕ) → get_or (p ∷ ps) (j + 1) None ≡ get_or ps j None
next_at p ps j = let next : j + 1 ≡ suc j = omega arith in ap (λ k. get_or (p ∷ ps) k None) next

any_equal : (f g : ℕ → Bool) (js : List ℕ) → ((j : ℕ) → f j ≡ g j) → list_any f js ≡ list_any g js
any_equal f g [] same = refl
any_equal f g (j ∷ js) same = ap₂ (λ a b. a || b) (same j) (any_equal f g js same)

all_equal : (f g : ℕ → Bool) (js : List ℕ) → ((j : ℕ) → f j ≡ g j) → list_all f js ≡ list_all g js
all_equal f g [] same = refl
all_equal f g (j ∷ js) same = ap₂ (λ a b. a && b) (same j) (all_equal f g js same)

differ_same : (p q : Option Bit) → b.surely_differ p q ≡ model.surely_differ p q
differ_same None None = refl
differ_same None (Some y) = refl
differ_same (Some x) None = refl
differ_same (Some x) (Some y) = refl

same_same : (p q : Option Bit) → b.surely_same p q ≡ model.surely_same p q
same_same None None = refl
same_same None (Some y) = refl
same_same (Some x) None = refl
same_same (Some x) (Some y) = refl

-- words differ where some cell does, and agree where each does
pub differ_cells : (old new : Kept) (cs : List Cell) → words_differ (map old cs) (map new cs) ≡ list_any (λ c. model.surely_differ (old c) (new c)) cs
differ_cells old new [] = refl
differ_cells old new (c ∷ cs) =
    ap₂ (λ s t. s || t) (differ_same (old c) (new c))
    (any_shifted (λ j. b.surely_differ (get_or (map old (c ∷ cs)) j None) (get_or (map new (c ∷ cs)) j None)) 0 (length (map old cs))
    ∙ any_equal _ _ (range_with_len 0 (length (map old cs))) (λ j. ap₂ b.surely_differ (next_at (old c) (map old cs) j) (next_at (new c) (map new cs) j)) ∙ differ_cells old new cs)

pub agree_cells : (old new : Kept) (cs : List Cell) → words_agree (map old cs) (map new cs) ≡ list_all (λ c. model.surely_same (old c) (new c)) cs
agree_cells old new [] = refl
agree_cells old new (c ∷ cs) =
    ap₂ (λ s t. s && t) (same_same (old c) (new c))
    (all_shifted (λ j. b.surely_same (get_or (map old (c ∷ cs)) j None) (get_or (map new (c ∷ cs)) j None)) 0 (length (map old cs))
    ∙ all_equal _ _ (range_with_len 0 (length (map old cs))) (λ j. ap₂ b.surely_same (next_at (old c) (map old cs) j) (next_at (new c) (map new cs) j)) ∙ agree_cells old new cs)

-- ---- lists of cells

pub record Found (f : Cell → Bool) (cs : List Cell) : Type 0 where
  pub cell : Cell
  pub member : In cell cs
  pub passes : f cell ≡ true

pub found_in : (f : Cell → Bool) (cs : List Cell) → list_any f cs ≡ true → Found f cs
found_in f [] e = absurd (false≢true e)
found_in f (c ∷ cs) e =
    ⊎_elim (λ h. record { cell = c; member = inl refl; passes = h }) (λ h. let r = found_in f cs h in record { cell = r.cell; member = inr r.member; passes = r.passes }) (or_cases (f c) (list_any f cs) e)

pub any_from : (f : Cell → Bool) (cs : List Cell) (c : Cell) → In c cs → f c ≡ true → list_any f cs ≡ true
any_from f (x ∷ cs) c (inl e) h = or_left (f x) (list_any f cs) (ap f e ∙ h)
any_from f (x ∷ cs) c (inr i) h = or_right (f x) (list_any f cs) (any_from f cs c i h)
any_from f [] c i h = absurd i

pub all_from : (f : Cell → Bool) (cs : List Cell) → ((c : Cell) → In c cs → f c ≡ true) → list_all f cs ≡ true
all_from f [] h = refl
all_from f (c ∷ cs) h = and_from (f c) (list_all f cs) (h c (inl refl)) (all_from f cs (λ x i. h x (inr i)))

pub all_gives : (f : Cell → Bool) (cs : List Cell) → list_all f cs ≡ true → (c : Cell) → In c cs → f c ≡ true
all_gives f (x ∷ cs) e c (inl is) = ap f (sym is) ∙ (and_parts (f x) (list_all f cs) e).0
all_gives f (x ∷ cs) e c (inr i) = all_gives f cs (and_parts (f x) (list_all f cs) e).1 c i
all_gives f [] e c i = absurd i

-- ---- the cells of a memory

in_front : (c : Cell) (xs ys : List Cell) → In c xs → In c (xs ++ ys)
in_front c [] ys h = absurd h
in_front c (x ∷ xs) ys (inl e) = inl e
in_front c (x ∷ xs) ys (inr h) = inr (in_front c xs ys h)

in_rest : (c : Cell) (xs ys : List Cell) → In c ys → In c (xs ++ ys)
in_rest c [] ys h = h
in_rest c (x ∷ xs) ys h = inr (in_rest c xs ys h)

in_either : (c : Cell) (xs ys : List Cell) → In c (xs ++ ys) → In c xs ⊎ In c ys
in_either c [] ys h = inr h
in_either c (x ∷ xs) ys (inl e) = inl (inl e)
in_either c (x ∷ xs) ys (inr h) = ⊎_elim (λ g. inl (inr g)) (λ g. inr g) (in_either c xs ys h)

pub word_in_words : (d : Design) (m i : ℕ) (is : List ℕ) (c : Cell) → In i is → In c (word_cells d m i) → In c (words_cells d m is)
word_in_words d m i [] c h at = absurd h
word_in_words d m i (j ∷ is) c (inl e) at = in_front c (word_cells d m j) (words_cells d m is) (subst (λ k. In c (word_cells d m k)) (sym e) at)
word_in_words d m i (j ∷ is) c (inr h) at = in_rest c (word_cells d m j) (words_cells d m is) (word_in_words d m i is c h at)

-- the word of a cell
pub record WordOf (d : Design) (m : ℕ) (is : List ℕ) (c : Cell) : Type 0 where
  pub index : ℕ
  pub listed : In index is
  pub member : In c (word_cells d m index)

pub word_of_cell : (d : Design) (m : ℕ) (is : List ℕ) (c : Cell) → In c (words_cells d m is) → WordOf d m is c
word_of_cell d m [] c h = absurd h
word_of_cell d m (i ∷ is) c h =
    ⊎_elim (λ g. record { index = i; listed = inl refl; member = g }) (λ g. let r = word_of_cell d m is c g in record { index = r.index; listed = inr r.listed; member = r.member }) (in_either c (word_cells d m i) (words_cells d m is) h)
