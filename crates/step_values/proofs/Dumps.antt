-- The dump's values of signals are put in one after the other.
use Rattle.std.proofs.Common.{◌≡◌, ℕ, ◌+◌, ◌<◌, ◌≤◌, ◌==◌, ◌&&◌, ◌||◌, Bool, true, false, if◌then◌else◌, List, [], ◌∷◌, length, map, take, get_or, Option, Some, None, refl, sym, ap, subst, ◌∙◌, arith}
use Rattle.std.specs.Prelude.{nat_lt, is_some, slice_index_or}
use Rattle.std.specs.List.{range_with_len}
use Rattle.std.proofs.Math.Path.{fun_ext}
use Rattle.std.proofs.lemmas.Bool.{eqb-true, false≢true}
use Rattle.std.proofs.lemmas.Bool.Decides.{nat_tests}
use Rattle.std.proofs.lemmas.List.{get_or_past, length-map}
use Rattle.std.proofs.lemmas.List.FromFn.{length-map-range_with_len}
use Rattle.std.proofs.lemmas.List.Folds.{list_any_more}
use Rattle.event_machine.specs.Cell.{Cell, Values}
use Rattle.four_state.specs.Vector.{Vector}
use Rattle.four_state.specs.declared.bit.Bit.{Bit}
use Rattle.design_model.specs.Design.{Design, cell, signal_at, signal_bits, signal_cells}
use Rattle.store_knowledge.specs.body_replay.Store.{Kept}
use Rattle.store_knowledge.specs.body_calls.Own.{is_in}
use Rattle.store_knowledge.specs.body_store.Owned.{IsBlank}
use Rattle.store_knowledge.proofs.body_store.Rows.{row_at}
use Rattle.store_knowledge.specs.Knows.{with_bits}
use Rattle.store_knowledge.proofs.Cells.{out_of_cells}
use Rattle.step_values.specs.Dumped.{AreDumped, coded_value, dumped_of, putting}
use Rattle.step_values.specs.Loose.{has_code}

-- ---- what the dump says of a signal with a code

-- the bits of the signal, and that is what the dump says
pub record IsSaid (d : Design) (codes : List (Option ℕ)) (values : List (Option Vector)) (new : Values Bit) (s : ℕ) : Type 0 where
  pub value : Vector
  pub is : dumped_of codes values s ≡ Some value
  pub bits : value.bits ≡ signal_bits d new s

pub said : (d : Design) (codes : List (Option ℕ)) (values : List (Option Vector)) (new : Values Bit) (s : ℕ) → AreDumped d codes values new → has_code codes s ≡ true → IsSaid d codes values new s
said d codes values new s dumped coded = go (slice_index_or codes s None) refl coded
  where
    go : (o : Option ℕ) → slice_index_or codes s None ≡ o → is_some o ≡ true → IsSaid d codes values new s
    go None e none = absurd (false≢true none)
    go (Some code) e some = let v = dumped s code e in record { value = v.0; is = ap (coded_value values) e ∙ v.1; bits = v.2 }

-- the bits of a value, if there is one
abbrev pub bits_in : Option Vector → List Bit
bits_in None = []
bits_in (Some v) = v.bits

pub value_bits : (d : Design) (codes : List (Option ℕ)) (values : List (Option Vector)) (new : Values Bit) (s : ℕ) (v : Vector) → AreDumped d codes values new → has_code codes s ≡ true → dumped_of codes values s ≡ Some v → v.bits ≡ signal_bits d new s
value_bits d codes values new s v dumped coded e = let x = said d codes values new s dumped coded in ap bits_in (sym e ∙ x.is) ∙ x.bits

pub said_width : (d : Design) (new : Values Bit) (s : ℕ) (ps : List Bit) → ps ≡ signal_bits d new s → length ps ≡ (signal_at d s).width
said_width d new s ps e = ap length e ∙ length-map (signal_cells d s) new ∙ length-map-range_with_len (cell s) 0 (signal_at d s).width

-- ---- one signal

pub map_twice : (new : Values Bit) (f : ℕ → Cell) (js : List ℕ) → map Some (map new (map f js)) ≡ map (λ c. Some (new c)) (map f js)
map_twice new f [] = refl
map_twice new f (j ∷ js) = ap (λ ps. Some (new (f j)) ∷ ps) (map_twice new f js)

module _ (d : Design) (new : Values Bit) (k : Kept) (blank : IsBlank d k) (s : ℕ) (l : s < length d.signals) (ps : List Bit) (is : ps ≡ signal_bits d new s) where
  abbrev width : ℕ
  width = (signal_at d s).width

  size : length (map Some ps) ≡ width
  size = length-map ps Some ∙ said_width d new s ps is

  here : (j : ℕ) (t : Bool) → nat_lt j width ≡ t → get_or (map Some ps) j None ≡ (if t then Some (new (cell s j)) else k (cell s j))
  here j true e =
      let below : j < width = grind (arith, nat_tests, e) in
      let start : 0 + j ≡ j = omega arith in
      sym (row_at (λ c. Some (new c)) (cell s) 0 width (map Some ps) j (ap (map Some) is ∙ map_twice new (cell s) (range_with_len 0 width)) below) ∙ ap (λ i. Some (new (cell s i))) start
  here j false e =
      let above : width ≤ j = grind (arith, nat_tests, e) in
      get_or_past (map Some ps) j None (omega (arith, size, above)) ∙ sym (blank (cell s j) (out_of_cells d s l j above))

  at : (c : Cell) (t : Bool) → (s == c.thing) ≡ t → (if t then get_or (map Some ps) c.place None else k c) ≡ (if (t || false) && nat_lt c.place (signal_at d c.thing).width then Some (new c) else k c)
  at c false e = refl
  at c true e = subst (λ x. get_or (map Some ps) c.place None ≡ (if nat_lt c.place (signal_at d x).width then Some (new (cell x c.place)) else k (cell x c.place))) (eqb-true s c.thing e) (here c.place (nat_lt c.place width) refl)

  pub one_put : with_bits s (map Some ps) k ≡ putting d (s ∷ []) new k
  one_put = fun_ext (λ c. at c (s == c.thing) refl)

-- ---- one more signal

module _ (d : Design) (new : Values Bit) (k : Kept) (ss : List ℕ) (i e : ℕ) (l : i < length ss) where
  abbrev s : ℕ
  s = get_or ss i e

  more_at : (c : Cell) (a b t : Bool) → (if (a || false) && t then Some (new c) else (if b && t then Some (new c) else k c)) ≡ (if (b || a) && t then Some (new c) else k c)
  more_at c true true true = refl
  more_at c true true false = refl
  more_at c true false true = refl
  more_at c true false false = refl
  more_at c false true t = refl
  more_at c false false t = refl

  pub put_more : putting d (s ∷ []) new (putting d (take i ss) new k) ≡ putting d (take (i + 1) ss) new k
  put_more = fun_ext (λ c.
      let more : is_in (take (i + 1) ss) c.thing ≡ (is_in (take i ss) c.thing || s == c.thing) = list_any_more (λ y. y == c.thing) ss i e l in
      more_at c (s == c.thing) (is_in (take i ss) c.thing) (nat_lt c.place (signal_at d c.thing).width)
      ∙ ap (λ b. if b && nat_lt c.place (signal_at d c.thing).width then Some (new c) else k c) (sym more))
