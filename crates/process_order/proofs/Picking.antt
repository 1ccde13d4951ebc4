-- Processes that are picked out in order of their numbers.
use Rattle.std.proofs.Common.{◌≡◌, ◌↔◌, ◌⊎◌, inl, inr, ⊎_elim, ◌∙◌, ℕ, ◌+◌, ◌<◌, ◌≤◌, ◌&&◌, Bool, true, false, not, cond, List, [], ◌∷◌, ◌++◌, length, get_or, refl, sym, ap, subst, arith}
use Rattle.std.specs.List.{Contains}
use Rattle.std.proofs.lemmas.Bool.{cases_Bool, cases_eq, cond-false, cond-true, le-ltb, lt-ltb}
use Rattle.std.proofs.lemmas.List.{get_or-map}
use Rattle.design_model.specs.Design.{AreDistinct, In, no_process}
use Rattle.design_model.specs.View.{process_view}
use Rattle.design_model.specs.declared.tree.Process.{Process}
use Rattle.process_order.specs.Names.{is_clocked}
use Rattle.process_order.specs.Parts.{IsLeft, is_run, waits_at}
use Rattle.process_order.proofs.Distinct.{distinct_more, in_either, in_left, in_right}

-- of the numbers below n those with the property
pub record IsOf (P : ℕ → Type 0) (found : List ℕ) (n : ℕ) : Type 0 where
  pub has : (p : ℕ) → In p found ↔ ((p < n) × P p)
  pub once : AreDistinct found

pub of_none : (P : ℕ → Type 0) → IsOf P [] 0
of_none P = record { has = λ p. (λ i. absurd i, λ h. absurd (omega (arith, h.0))); once = tt }

module _ (P : ℕ → Type 0) (found : List ℕ) (n : ℕ) (h : IsOf P found n) where
  pub of_more : P n → IsOf P (found ++ n ∷ []) (n + 1)
  of_more here =
      record {
        has = λ p. (
          λ i. ⊎_elim (λ a. let k = (h.has p).0 a in (omega (arith, k.0), k.1)) (λ b. ⊎_elim (λ e. (omega arith, subst P e here)) (λ none. absurd none) b) (in_either p found (n ∷ []) i),
          λ q. ⊎_elim (λ e. in_right p found (n ∷ []) (inl (sym e))) (λ ne. in_left p found (n ∷ []) ((h.has p).1 (omega (arith, q.0), q.1))) (cases_eq p n),
        );
        once = distinct_more n found h.once (λ i. absurd (omega (arith, ((h.has n).0 i).0)));
      }

  pub of_less : (P n → ⊥) → IsOf P found (n + 1)
  of_less not = record {
    has = λ p. (
      λ i. let k = (h.has p).0 i in (omega (arith, k.0), k.1),
      λ q. ⊎_elim (λ e. absurd (not (subst P e q.1))) (λ ne. (h.has p).1 (omega (arith, q.0), q.1)) (cases_eq p n),
    );
    once = h.once;
  }

-- by a test
pub of_step : (P : ℕ → Type 0) (found after : List ℕ) (n : ℕ) (b : Bool) → IsOf P found n → after ≡ cond b (found ++ n ∷ []) found → (b ≡ true → P n) → (b ≡ false → P n → ⊥) → IsOf P after (n + 1)
of_step P found after n b h e given denied =
    ⊎_elim
    (λ t. subst (λ xs. IsOf P xs (n + 1)) (sym (e ∙ cond-true b (found ++ n ∷ []) found t)) (of_more P found n h (given t)))
    (λ f. subst (λ xs. IsOf P xs (n + 1)) (sym (e ∙ cond-false b (found ++ n ∷ []) found f)) (of_less P found n h (denied f)))
    (cases_Bool b)

-- those that pass the test
abbrev pub IsPicked : (ℕ → Bool) → List ℕ → ℕ → Type 0
IsPicked t found n = IsOf (λ p. t p ≡ true) found n

-- the rest with its parts side by side
pub rest_has : (ps : List Process) (order found : List ℕ) (n p : ℕ) → IsOf (IsLeft ps order) found n → In p found ↔ ((p < n) × (waits_at ps p ≡ false) × (Contains order p → ⊥))
rest_has ps order found n p h = (λ i. let k = (h.has p).0 i in (k.0, k.1.0, k.1.1), λ k. (h.has p).1 (k.0, (k.1, k.2)))

-- the process with a number
pub view_at : (ps : List Process) (i : ℕ) (p : Process) → i < length ps → p ≡ get_or ps i p → waits_at ps i ≡ is_clocked (process_view p)
view_at ps i p l e = ap is_clocked (get_or-map process_view ps i p no_process l ∙ ap process_view (sym e))

-- a number that is that of no process
pub past_run : (ps : List Process) (n : ℕ) → length ps ≤ n → false ≡ is_run ps n
past_run ps n l = sym (ap (λ b. b && not (waits_at ps n)) (le-ltb n (length ps) l))

pub is_run_at : (ps : List Process) (n : ℕ) (b : Bool) → n < length ps → b ≡ waits_at ps n → not b ≡ is_run ps n
is_run_at ps n b l e = ap not e ∙ sym (ap (λ c. c && not (waits_at ps n)) (lt-ltb n (length ps) l))
