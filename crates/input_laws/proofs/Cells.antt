-- The input cells of a design, as a list.
use Rattle.std.proofs.Common.{◌≡◌, ◌⊎◌, inl, inr, ⊎_elim, ℕ, zero, suc, ◌<◌, Bool, true, false, ◌&&◌, List, [], ◌∷◌, ◌++◌, refl, sym, ap, subst, ◌∙◌, arith, nat_lt, if◌then◌else◌}
use Rattle.std.proofs.lemmas.Bool.{cases_eq, false≢true, ltb-true, lt-ltb}
use Rattle.event_machine.specs.Cell.{Cell}
use Rattle.design_model.specs.Design.{Design, In, cell, signal_at}
use Rattle.design_model.specs.Machine.{is_input_cell}

In-left : {A : Type 0} (x : A) (xs ys : List A) → In x xs → In x (xs ++ ys)
In-left x [] ys h = absurd h
In-left x (y ∷ xs) ys (inl e) = inl e
In-left x (y ∷ xs) ys (inr h) = inr (In-left x xs ys h)

In-right : {A : Type 0} (x : A) (xs ys : List A) → In x ys → In x (xs ++ ys)
In-right x [] ys h = h
In-right x (y ∷ xs) ys h = inr (In-right x xs ys h)

In-append : {A : Type 0} (x : A) (xs ys : List A) → In x (xs ++ ys) → In x xs ⊎ In x ys
In-append x [] ys h = inr h
In-append x (y ∷ xs) ys (inl e) = inl (inl e)
In-append x (y ∷ xs) ys (inr h) = ⊎_elim (λ a. inl (inr a)) (λ b. inr b) (In-append x xs ys h)

-- the cells of a thing below a place
abbrev cells_below : ℕ → ℕ → List Cell
cells_below s zero = []
cells_below s (suc k) = cell s k ∷ cells_below s k

below_there : (s place k : ℕ) → place < k → In (cell s place) (cells_below s k)
below_there s place zero within = absurd (omega arith)
below_there s place (suc k) within = ⊎_elim (λ same. inl (ap (cell s) (sym same))) (λ apart. inr (below_there s place k (omega (arith, apart)))) (cases_eq place k)

below_is : (s k : ℕ) (c : Cell) → In c (cells_below s k) → (c.thing ≡ s) × (c.place < k)
below_is s zero c h = absurd h
below_is s (suc k) c (inl e) = (ap (λ (x : Cell). x.thing) (sym e), omega (arith, ap (λ (x : Cell). x.place) e))
below_is s (suc k) c (inr h) = let rest = below_is s k c h in (rest.0, omega (arith, rest.1))

-- the cells of the inputs among the first signals
abbrev pub input_cells : Design → ℕ → List Cell
input_cells d zero = []
input_cells d (suc n) = (if (signal_at d n).input then cells_below n (signal_at d n).width else []) ++ input_cells d n

-- a cell by its parts
of_parts : (c : Cell) (s place : ℕ) → c.thing ≡ s → c.place ≡ place → cell s place ≡ c
of_parts c s place things places = λ i. record { thing = sym things i; place = sym places i }

pub cells_are_inputs : (d : Design) (n : ℕ) (c : Cell) → In c (input_cells d n) → is_input_cell d c ≡ true
cells_are_inputs d zero c h = absurd h
cells_are_inputs d (suc n) c h = ⊎_elim (go (signal_at d n).input refl) (cells_are_inputs d n c) (In-append c _ (input_cells d n) h)
  where
    go : (b : Bool) → (signal_at d n).input ≡ b → In c (if b then cells_below n (signal_at d n).width else []) → is_input_cell d c ≡ true
    go true is there =
        let at = below_is n (signal_at d n).width c there in
        let input : (signal_at d c.thing).input ≡ true = subst (λ x. (signal_at d x).input ≡ true) (sym at.0) is in
        let within : nat_lt c.place (signal_at d c.thing).width ≡ true = lt-ltb c.place (signal_at d c.thing).width (subst (λ x. c.place < (signal_at d x).width) (sym at.0) at.1) in
        ap (λ b. b && nat_lt c.place (signal_at d c.thing).width) input ∙ within
    go false is there = absurd there

first_of : (a b : Bool) → (a && b) ≡ true → a ≡ true
first_of true b e = refl
first_of false b e = e

second_of : (a b : Bool) → (a && b) ≡ true → b ≡ true
second_of true b e = e
second_of false b e = absurd (false≢true e)

pub inputs_are_cells : (d : Design) (n : ℕ) (c : Cell) → c.thing < n → is_input_cell d c ≡ true → In c (input_cells d n)
inputs_are_cells d zero c below is = absurd (omega arith)
inputs_are_cells d (suc n) c below is = ⊎_elim here (λ apart. In-right c _ (input_cells d n) (inputs_are_cells d n c (omega (arith, apart)) is)) (cases_eq c.thing n)
  where
    here : c.thing ≡ n → In c ((if (signal_at d n).input then cells_below n (signal_at d n).width else []) ++ input_cells d n)
    here same =
        let input : (signal_at d n).input ≡ true = subst (λ x. (signal_at d x).input ≡ true) same (first_of (signal_at d c.thing).input _ is) in
        let within : c.place < (signal_at d n).width = subst (λ x. c.place < (signal_at d x).width) same (ltb-true c.place (signal_at d c.thing).width (second_of (signal_at d c.thing).input _ is)) in
        let member : In c (cells_below n (signal_at d n).width) = subst (λ x. In x (cells_below n (signal_at d n).width)) (of_parts c n c.place same refl) (below_there n c.place (signal_at d n).width within) in
        In-left c _ (input_cells d n) (subst (λ b. In c (if b then cells_below n (signal_at d n).width else [])) (sym input) member)
