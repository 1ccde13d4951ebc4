-- What is needed is added one after the other.
use Rattle.std.proofs.Common.{◌≡◌, ◌⊎◌, inl, inr, ⊎_elim, ◌∙◌, ℕ, ◌+◌, ◌-◌, ◌<◌, ◌≤◌, Bool, false, cond, ◌==◌, List, [], ◌∷◌, ◌++◌, length, get_or, take, refl, sym, ap, subst, arith}
use Rattle.std.specs.List.{Contains}
use Rattle.std.proofs.lemmas.Bool.{cases_eq, cond-false, cond-true, eq-eqb, ne_eqb}
use Rattle.std.proofs.lemmas.List.{length_push, take_all, take_more}
use Rattle.std.proofs.lemmas.List.Elements.{Contains-append_left, Contains-push, Contains-push_cases}
use Rattle.index_sets.specs.Rows.{row_at}
use Rattle.process_order.specs.Needs.{AddsNeeds, AddsOthers, AreNeeds, HasNeeds, IsNeed}
use Rattle.process_order.specs.Owners.{HasOther, IsAlone}
use Rattle.process_order.specs.declared.needs.Links.{Links}
use Rattle.process_order.proofs.Past.{row_before, row_last}
use Rattle.process_order.proofs.RowLemmas.{none_in}

pub others_none : (p : ℕ) (drivers before : List ℕ) → AddsOthers p (take 0 drivers) before before
others_none p drivers before = record { kept = λ w c. c; others = λ w c. absurd (none_in w c); from = λ w c. inl c }

module _ (p : ℕ) (drivers before after : List ℕ) (i : ℕ) (l : i < length drivers) (h : AddsOthers p (take i drivers) before after) where
  abbrev driver : ℕ
  driver = get_or drivers i 0

  more : take (i + 1) drivers ≡ take i drivers ++ driver ∷ []
  more = take_more drivers i 0 l

  wider : (w : ℕ) → Contains (take i drivers) w → Contains (take (i + 1) drivers) w
  wider w c = subst (λ ys. Contains ys w) (sym more) (Contains-append_left (take i drivers) (driver ∷ []) w c)

  newest : Contains (take (i + 1) drivers) driver
  newest = subst (λ ys. Contains ys driver) (sym more) (Contains-push (take i drivers) driver)

  pub others_more : (driver ≡ p → ⊥) → AddsOthers p (take (i + 1) drivers) before (after ++ driver ∷ [])
  others_more apart =
      record {
        kept = λ w c. Contains-append_left after (driver ∷ []) w (h.kept w c);
        others = λ w c ne. ⊎_elim (λ a. Contains-append_left after (driver ∷ []) w (h.others w a ne)) (λ e. subst (λ z. Contains (after ++ driver ∷ []) z) e (Contains-push after driver)) (Contains-push_cases (take i drivers) driver w (subst (λ ys. Contains ys w) more c));
        from = λ w c. ⊎_elim (λ a. ⊎_elim (λ b. inl b) (λ b. inr (wider w b.0, b.1)) (h.from w a)) (λ e. inr (subst (λ z. Contains (take (i + 1) drivers) z) e newest, λ same. apart (e ∙ same))) (Contains-push_cases after driver w c);
      }

  pub others_same : driver ≡ p → AddsOthers p (take (i + 1) drivers) before after
  others_same is =
      record {
        kept = h.kept;
        others = λ w c ne. ⊎_elim (λ a. h.others w a ne) (λ e. absurd (ne (sym e ∙ is))) (Contains-push_cases (take i drivers) driver w (subst (λ ys. Contains ys w) more c));
        from = λ w c. ⊎_elim (λ b. inl b) (λ b. inr (wider w b.0, b.1)) (h.from w c);
      }

pub others_step : (p : ℕ) (drivers before now after : List ℕ) (i : ℕ) → i < length drivers → AddsOthers p (take i drivers) before now → after ≡ cond (get_or drivers i 0 == p) now (now ++ get_or drivers i 0 ∷ []) → AddsOthers p (take (i + 1) drivers) before after
others_step p drivers before now after i l h e =
    ⊎_elim
    (λ same. subst (AddsOthers p (take (i + 1) drivers) before) (sym (e ∙ cond-true (get_or drivers i 0 == p) now (now ++ get_or drivers i 0 ∷ []) (eq-eqb (get_or drivers i 0) p same))) (others_same p drivers before now i l h same))
    (λ apart. subst (AddsOthers p (take (i + 1) drivers) before) (sym (e ∙ cond-false (get_or drivers i 0 == p) now (now ++ get_or drivers i 0 ∷ []) (ne_eqb (get_or drivers i 0) p apart))) (others_more p drivers before now i l h apart))
    (cases_eq (get_or drivers i 0) p)

pub others_all : (p : ℕ) (drivers before after : List ℕ) (i : ℕ) → length drivers ≤ i → AddsOthers p (take i drivers) before after → AddsOthers p drivers before after
others_all p drivers before after i l h = subst (λ ys. AddsOthers p ys before after) (take_all i drivers l) h

module _ (k : Links) (bound : ℕ → Bool) (gates p : ℕ) where
  -- nothing is needed for one that is bound
  pub adds_none : (x : ℕ) (before : List ℕ) → (bound x ≡ false → ⊥) → AddsNeeds k bound gates p x before before
  adds_none x before never = record { kept = λ w c. c; covers = λ q free. absurd (never free); from = λ w c. inl c }

  -- the other drivers
  pub adds_drivers : (x : ℕ) (before after : List ℕ) → bound x ≡ false → IsAlone p (row_at k.owners x) → AddsOthers p (row_at k.drivers x) before after → AddsNeeds k bound gates p x before after
  adds_drivers x before after free alone h =
      record {
        kept = h.kept;
        covers = λ q f c ne. inl (h.others q c ne);
        from = λ w c. ⊎_elim (λ a. inl a) (λ b. inr (free, inl (alone, b.0, b.1))) (h.from w c);
      }

  -- the gate
  pub adds_gate : (x : ℕ) (before : List ℕ) → bound x ≡ false → (Contains (row_at k.owners x) p → HasOther p (row_at k.owners x)) → AddsNeeds k bound gates p x before (before ++ (gates + x) ∷ [])
  adds_gate x before free other =
      record {
        kept = λ w c. Contains-append_left before ((gates + x) ∷ []) w c;
        covers = λ q f c ne. inr (Contains-push before (gates + x));
        from = λ w c. ⊎_elim (λ a. inl a) (λ e. inr (free, inr (other, sym e))) (Contains-push_cases before (gates + x) w c);
      }

  pub needs_none : (watched : List ℕ) → HasNeeds k bound gates p (take 0 watched) []
  needs_none watched = record { covers = λ x q w. absurd (none_in x w); from = λ w c. absurd (none_in w c) }

  -- the needs for one more
  pub needs_more : (watched list after : List ℕ) (i : ℕ) → i < length watched → HasNeeds k bound gates p (take i watched) list → AddsNeeds k bound gates p (get_or watched i 0) list after → HasNeeds k bound gates p (take (i + 1) watched) after
  needs_more watched list after i l h a =
      let y = get_or watched i 0 in
      let more : take (i + 1) watched ≡ take i watched ++ y ∷ [] = take_more watched i 0 l in
      record {
        covers = λ x q w free d ne.
            ⊎_elim
            (λ old. ⊎_elim (λ b. inl (a.kept q b)) (λ b. inr (a.kept (gates + x) b)) (h.covers x q old free d ne))
            (λ e. subst (λ z. Contains after q ⊎ Contains after (gates + z)) e (a.covers q (subst (λ z. bound z ≡ false) (sym e) free) (subst (λ z. Contains (row_at k.drivers z) q) (sym e) d) ne))
            (Contains-push_cases (take i watched) y x (subst (λ ys. Contains ys x) more w));
        from = λ w c.
            ⊎_elim
            (λ old. let f = h.from w old in (f.0, subst (λ ys. Contains ys f.0) (sym more) (Contains-append_left (take i watched) (y ∷ []) f.0 f.1), f.2, f.3))
            (λ new. (y, subst (λ ys. Contains ys y) (sym more) (Contains-push (take i watched) y), new.0, new.1))
            (a.from w c);
      }

  pub needs_all : (watched list : List ℕ) (i : ℕ) → length watched ≤ i → HasNeeds k bound gates p (take i watched) list → HasNeeds k bound gates p watched list
  needs_all watched list i l h = subst (λ ys. HasNeeds k bound gates p ys list) (take_all i watched l) h

-- the needs of so many processes
pub record HaveNeeds (k : Links) (bound : ℕ → Bool) (watched needs : List (List ℕ)) (n : ℕ) : Type 0 where
  pub count : length needs ≡ n
  pub each : (p : ℕ) → p < n → HasNeeds k bound (length watched) p (row_at watched p) (row_at needs p)

module _ (k : Links) (bound : ℕ → Bool) (watched : List (List ℕ)) where
  pub no_needs : HaveNeeds k bound watched [] 0
  no_needs = record { count = refl; each = λ p l. absurd (omega arith) }

  pub process_more : (needs : List (List ℕ)) (n : ℕ) (list : List ℕ) → HaveNeeds k bound watched needs n → HasNeeds k bound (length watched) n (row_at watched n) list → HaveNeeds k bound watched (needs ++ list ∷ []) (n + 1)
  process_more needs n list h a =
      record {
        count = length_push needs list ∙ ap (λ m. m + 1) h.count;
        each = λ p l.
            ⊎_elim
            (λ e. subst (λ m. HasNeeds k bound (length watched) m (row_at watched m) (row_at (needs ++ list ∷ []) m)) (sym e) (subst (HasNeeds k bound (length watched) n (row_at watched n)) (sym (row_last needs list n h.count)) a))
            (λ ne. subst (HasNeeds k bound (length watched) p (row_at watched p)) (sym (row_before needs list p (omega (arith, h.count)))) (h.each p (omega arith)))
            (cases_eq p n);
      }

-- the needs of all processes, and of so many gates
pub record HaveGates (k : Links) (bound : ℕ → Bool) (watched needs : List (List ℕ)) (n : ℕ) : Type 0 where
  pub count : length needs ≡ length watched + n
  pub processes : (p : ℕ) → p < length watched → HasNeeds k bound (length watched) p (row_at watched p) (row_at needs p)
  pub gates : (x : ℕ) → x < n → row_at needs (length watched + x) ≡ row_at k.drivers x

module _ (k : Links) (bound : ℕ → Bool) (watched needs : List (List ℕ)) where
  pub no_gates : HaveNeeds k bound watched needs (length watched) → HaveGates k bound watched needs 0
  no_gates h = record { count = omega (arith, h.count); processes = h.each; gates = λ x l. absurd (omega arith) }

  pub gate_more : (n : ℕ) (list : List ℕ) → HaveGates k bound watched needs n → list ≡ row_at k.drivers n → HaveGates k bound watched (needs ++ list ∷ []) (n + 1)
  gate_more n list h is =
      record {
        count = omega (arith, length_push needs list, h.count);
        processes = λ p l. subst (HasNeeds k bound (length watched) p (row_at watched p)) (sym (row_before needs list p (omega (arith, h.count)))) (h.processes p l);
        gates = λ x l.
            ⊎_elim
            (λ e. ap (λ m. row_at (needs ++ list ∷ []) (length watched + m)) e ∙ row_last needs list (length watched + n) h.count ∙ is ∙ ap (row_at k.drivers) (sym e))
            (λ ne. row_before needs list (length watched + x) (omega (arith, h.count)) ∙ h.gates x (omega arith))
            (cases_eq x n);
      }

  pub all_gates : (n : ℕ) → n ≡ length k.drivers → HaveGates k bound watched needs n → AreNeeds k bound watched needs
  all_gates n e h = record { count = h.count ∙ ap (λ m. length watched + m) e; processes = h.processes; gates = λ x l. h.gates x (omega arith) }
