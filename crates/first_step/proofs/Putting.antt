-- The dump's values are put in one signal after the other.
use Rattle.std.proofs.Common.{◌≡◌, ◌∙◌, ℕ, zero, suc, ◌+◌, ◌<◌, ◌==◌, ◌&&◌, ◌||◌, Bool, true, false, if◌then◌else◌, List, [], ◌∷◌, length, map, replicate, Option, Some, None, refl, sym, ap, subst, arith, inl, inr}
use Rattle.std.specs.Prelude.{nat_lt}
use Rattle.std.specs.List.{range_with_len}
use Rattle.std.proofs.Math.Path.{fun_ext}
use Rattle.std.proofs.lemmas.Bool.{eqb-true, false≢true, or_cases}
use Rattle.std.proofs.lemmas.Bool.Decides.{nat_tests}
use Rattle.std.proofs.lemmas.List.{length-replicate}
use Rattle.event_machine.specs.Cell.{Cell, Values}
use Rattle.four_state.specs.Vector.{Vector}
use Rattle.four_state.specs.declared.bit.Bit.{Bit}
use Rattle.known_state.specs.Partly.{Partly}
use Rattle.design_model.specs.Design.{Design, cell, signal_at, signal_cells}
use Rattle.body_replay.specs.Store.{Kept}
use Rattle.body_store.specs.Made.{nothing}
use Rattle.body_store.specs.declared.store.Store.{Store}
use Rattle.settling.specs.store_knowledge.Knows.{Knows}
use Rattle.settling.specs.step_values.Dumped.{AreDumped, putting}
use Rattle.settling.specs.step_values.Loose.{has_code}
use Rattle.settling.specs.step_values.Vectors.{FitsSignals, StepVectors, vector_at}
use Rattle.settling.proofs.step_values.Aside.{set_there, set_wide}
use Rattle.first_step.specs.Begun.{MakesNothing, Puts, putting_all}

-- ---- by which signals

-- no signal passes the test
pub none_put : (codes : List (Option ℕ)) (given : List (Option Vector)) (test : ℕ → Bool) (x : Store) (v : StepVectors) → ((s : ℕ) → test s ≡ false) → Puts codes given test x x v v
none_put codes given test x v none = record {
  fits = λ d h. h;
  knows = λ d new k dumped h. subst (λ j. Knows d j x) (fun_ext (λ c. ap (λ t. if t && nat_lt c.place (signal_at d c.thing).width then Some (new c) else k c) (sym (none c.thing)))) h;
  made = λ d s fits l e. absurd (false≢true (sym (none s) ∙ e));
  others = λ s e. refl;
}

-- two tests that are the same
pub same_put : (codes : List (Option ℕ)) (given : List (Option Vector)) (test all : ℕ → Bool) (x y : Store) (v w : StepVectors) → ((s : ℕ) → test s ≡ all s) → Puts codes given test x y v w → Puts codes given all x y v w
same_put codes given test all x y v w same h = subst (λ t. Puts codes given t x y v w) (fun_ext same) h

-- the signals of one test and then those of another
module _ (codes : List (Option ℕ)) (given : List (Option Vector)) (one other : ℕ → Bool) (x y z : Store) (v w u : StepVectors) (first : Puts codes given one x y v w) (second : Puts codes given other y z w u) where
  abbrev both : ℕ → Bool
  both s = one s || other s

  both_at : (d : Design) (new : Values Bit) (k : Kept) (c : Cell) (a b t : Bool) → (if b && t then Some (new c) else (if a && t then Some (new c) else k c)) ≡ (if (a || b) && t then Some (new c) else k c)
  both_at d new k c true true true = refl
  both_at d new k c true true false = refl
  both_at d new k c true false true = refl
  both_at d new k c true false false = refl
  both_at d new k c false true t = refl
  both_at d new k c false false t = refl

  both_made : (d : Design) (s : ℕ) → FitsSignals d v → s < length d.signals → (b : Bool) → other s ≡ b → both s ≡ true → (vector_at u.made s).bits ≡ map nothing (signal_cells d s)
  both_made d s fits l true e h = second.made d s (first.fits d fits) l e
  both_made d s fits l false e h = ap (λ (q : Partly). q.bits) (second.others s e) ∙ first.made d s fits l (elim (or_cases (one s) (other s) h) [ inl a ↦ a | inr b ↦ absurd (false≢true (sym e ∙ b)) ])

  both_others : (s : ℕ) → (a b : Bool) → one s ≡ a → other s ≡ b → (a || b) ≡ false → vector_at u.made s ≡ vector_at v.made s
  both_others s true b e f h = absurd (false≢true (sym h))
  both_others s false true e f h = absurd (false≢true (sym h))
  both_others s false false e f h = second.others s f ∙ first.others s e

  pub both_put : Puts codes given both x z v u
  both_put = record {
    fits = λ d h. second.fits d (first.fits d h);
    knows = λ d new k dumped h. subst (λ j. Knows d j z) (fun_ext (λ c. both_at d new k c (one c.thing) (other c.thing) (nat_lt c.place (signal_at d c.thing).width))) (second.knows d new (putting_all d one new k) dumped (first.knows d new k dumped h));
    made = λ d s fits l e. both_made d s fits l (other s) refl e;
    others = λ s e. both_others s (one s) (other s) refl refl e;
  }

-- ---- the signals up to one

pub none_below : (codes : List (Option ℕ)) (s : ℕ) → (has_code codes s && nat_lt s 0) ≡ false
none_below codes s = go (has_code codes s)
  where
    below : nat_lt s 0 ≡ false
    below = grind (arith, nat_tests)

    go : (b : Bool) → (b && nat_lt s 0) ≡ false
    go true = below
    go false = refl

pub more_below : (codes : List (Option ℕ)) (n s : ℕ) → ((has_code codes s && nat_lt s n) || (has_code codes s && n == s)) ≡ (has_code codes s && nat_lt s (n + 1))
more_below codes n s = go (has_code codes s)
  where
    below : (nat_lt s n || n == s) ≡ nat_lt s (n + 1)
    below = grind (arith, nat_tests)

    go : (b : Bool) → ((b && nat_lt s n) || (b && n == s)) ≡ (b && nat_lt s (n + 1))
    go true = below
    go false = refl

-- ---- one signal

module _ (codes : List (Option ℕ)) (s : ℕ) (coded : has_code codes s ≡ true) where
  -- a signal with a code is the one that is put in
  one_test : (t : ℕ) → ((s == t) || false) ≡ (has_code codes t && s == t)
  one_test t = go (s == t) refl (has_code codes t) refl
    where
      go : (a : Bool) → (s == t) ≡ a → (b : Bool) → has_code codes t ≡ b → (a || false) ≡ (b && a)
      go true e true f = refl
      go true e false f = absurd (false≢true (sym f ∙ ap (has_code codes) (sym (eqb-true s t e)) ∙ coded))
      go false e true f = refl
      go false e false f = refl

  pub one_knows : (d : Design) (new : Values Bit) (k : Kept) → putting d (s ∷ []) new k ≡ putting_all d (λ t. has_code codes t && s == t) new k
  one_knows d new k = fun_ext (λ c. ap (λ t. if t && nat_lt c.place (signal_at d c.thing).width then Some (new c) else k c) (one_test c.thing))

-- where it has no code there is no such test
pub no_test : (codes : List (Option ℕ)) (s : ℕ) → has_code codes s ≡ false → (t : ℕ) → (has_code codes t && s == t) ≡ false
no_test codes s none t = go (has_code codes t) refl (s == t) refl
  where
    go : (b : Bool) → has_code codes t ≡ b → (a : Bool) → (s == t) ≡ a → (b && a) ≡ false
    go true f true e = absurd (false≢true (sym none ∙ ap (has_code codes) (eqb-true s t e) ∙ f))
    go true f false e = refl
    go false f a e = refl

nothing_row : (s a w : ℕ) → replicate w None ≡ map nothing (map (cell s) (range_with_len a w))
nothing_row s a zero = refl
nothing_row s a (suc w) = ap (λ ps. None ∷ ps) (nothing_row s (a + 1) w)

module _ (codes : List (Option ℕ)) (given : List (Option Vector)) (s : ℕ) (coded : has_code codes s ≡ true) (x y : Store) (v w : StepVectors)
    (knows : (d : Design) (new : Values Bit) (k : Kept) → AreDumped d codes given new → Knows d k x → Knows d (putting d (s ∷ []) new k) y) (place : s < length v.made) (made : MakesNothing s v w) where
  abbrev q : Partly
  q = made.0

  there : (t : ℕ) (b : Bool) → (s == t) ≡ b → vector_at w.made t ≡ (if b then q else vector_at v.made t)
  there t b e = ap (λ (u : StepVectors). vector_at u.made t) made.1 ∙ set_there v.made s q t b place e

  width : length q.bits ≡ length (vector_at v.made s).bits
  width = ap length made.2 ∙ length-replicate (length (vector_at v.made s).bits) None

  fits : (d : Design) → FitsSignals d v → FitsSignals d w
  fits d h = subst (FitsSignals d) (sym made.1) (record { before = h.before; made = set_wide d.signals v.made s q place (width ∙ h.made.width s (let count = h.made.count in omega (arith, count, place))) h.made })

  made_at : (d : Design) (t : ℕ) → FitsSignals d v → t < length d.signals → (b : Bool) → (s == t) ≡ b → (has_code codes t && b) ≡ true → (vector_at w.made t).bits ≡ map nothing (signal_cells d t)
  made_at d t h l false e f = absurd (false≢true (sym (no_and (has_code codes t)) ∙ f))
    where
      no_and : (a : Bool) → (a && false) ≡ false
      no_and true = refl
      no_and false = refl
  made_at d t h l true e f =
      ap (λ (u : Partly). u.bits) (there t true e) ∙ made.2
      ∙ ap (λ n. replicate n None) (h.made.width s (let count = h.made.count in omega (arith, count, place)) ∙ ap (λ i. (signal_at d i).width) (eqb-true s t e))
      ∙ nothing_row t 0 (signal_at d t).width

  others_at : (t : ℕ) (b : Bool) → (s == t) ≡ b → (has_code codes t && b) ≡ false → vector_at w.made t ≡ vector_at v.made t
  others_at t true e f = absurd (false≢true (sym f ∙ ap (λ a. a && true) (ap (has_code codes) (sym (eqb-true s t e)) ∙ coded)))
  others_at t false e f = there t false e

  pub one_put : Puts codes given (λ t. has_code codes t && s == t) x y v w
  one_put = record {
    fits = fits;
    knows = λ d new k dumped h. subst (λ j. Knows d j y) (one_knows codes s coded d new k) (knows d new k dumped h);
    made = λ d t h l e. made_at d t h l (s == t) refl e;
    others = λ t e. others_at t (s == t) refl e;
  }
