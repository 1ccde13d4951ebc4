-- What a process assigns by name it may write by cell, and what it may write by cell it assigns by name.
use Rattle.std.proofs.Common.{◌≡◌, ◌⊎◌, inl, inr, ⊎_elim, ℕ, ◌≤◌, ◌==◌, ◌&&◌, ◌||◌, Bool, true, false, not, length, refl, sym, subst, arith, eq-eqb}
use Rattle.std.specs.Prelude.{nat_le, nat_lt}
use Rattle.std.proofs.lemmas.Bool.{and_from, and_parts, eqb-true, false≢true, leb-true, lt-ltb, ltb-true, or_cases, or_left, or_right}
use Rattle.event_machine.specs.Cell.{Cell}
use Rattle.event_machine.specs.Machine.{IsTarget}
use Rattle.four_state.specs.Parts.{index}
use Rattle.design_model.specs.Tree.{Arms, Stmt, Stmts, Target, Targets, Term, a_stmt, a_target, all_of, arm, bits_of, block, branch, empty, no_arms, no_stmts, no_targets, select, set, several, turns, word_of}
use Rattle.design_model.specs.Design.{Design, body_at, cell, is_memory, signal_at}
use Rattle.design_model.specs.Value.{head, offset_option, value}
use Rattle.design_model.specs.Assignment.{signal_range}
use Rattle.design_model.specs.Mentions.{any_set, any_set_in, any_set_of, blank, has_cell, is_constant, may_write, some_may_write, some_target_names, static_writes, target_names}
use Rattle.design_model.specs.Shape.{are_targets, is_alone, is_target}
use Rattle.design_model.specs.WellFormed.{are_among, are_well_formed_arms, are_well_formed_bodies, are_well_formed_targets, is_well_formed, is_well_formed_body, is_well_formed_target}
use Rattle.design_model.specs.Lawful.{IsLawfulDesign}
use Rattle.design_model.specs.Machine.{machine}
use Rattle.design_model.specs.BodyLaws.{TargetCellsLaw, TargetNamesLaw, are_unknown_targets, is_unknown_target}
use Rattle.design_model.proofs.AssignLaws.{among_written, has_bit, offset_none}
use Rattle.design_model.proofs.BodyLaws.{each_both, each_target}
use Rattle.design_model.proofs.Execution.{EachSet, EachSetIn, EachSetOf}
use Rattle.design_model.proofs.Lawful.{assigns_any}
use Rattle.design_model.proofs.OpenPath.{each_any}

-- each target of a body is well formed
mutual
  each_well : (d : Design) (s : Stmt) → is_well_formed_body d s ≡ true → EachSet (λ n b x t. is_well_formed_target d x ≡ true) s
  each_well d (block p ss) h = each_well_of d ss h
  each_well d (branch p n t s other) h = let q = and_parts (is_well_formed_body d s) _ (and_parts (is_well_formed d true t) _ h).1 in (each_well d s q.0, each_well_of d other q.1)
  each_well d (select p n kind t arms) h = each_well_in d arms (and_parts (is_well_formed d false t) _ h).1
  each_well d (turns p n ss) h = each_well_of d ss h
  each_well d (set p n b x t) h = (and_parts (is_well_formed_target d x) _ h).0
  each_well d (empty p) h = tt

  each_well_of : (d : Design) (ss : Stmts) → are_well_formed_bodies d ss ≡ true → EachSetOf (λ n b x t. is_well_formed_target d x ≡ true) ss
  each_well_of d no_stmts h = tt
  each_well_of d (a_stmt s ss) h = let q = and_parts (is_well_formed_body d s) _ h in (each_well d s q.0, each_well_of d ss q.1)

  each_well_in : (d : Design) (arms : Arms) → are_well_formed_arms d arms ≡ true → EachSetIn (λ n b x t. is_well_formed_target d x ≡ true) arms
  each_well_in d no_arms h = tt
  each_well_in d (arm labels s arms) h = let q = and_parts (is_well_formed_body d s) _ (and_parts _ (is_well_formed_body d s && are_well_formed_arms d arms) h).1 in (each_well d s q.0, each_well_in d arms q.1)

-- where some assignment passes a test, what follows from it and from a fact of each
mutual
  any_each : {S : ℕ → Bool → Target → Term → Type 0} (f : Bool → Target → Term → Bool) (P : Type 0) → ((n : ℕ) (b : Bool) (x : Target) (t : Term) → S n b x t → f b x t ≡ true → P) → (s : Stmt) → EachSet S s → any_set f s ≡ true → P
  any_each f P g (block p ss) a e = any_each_of f P g ss a e
  any_each f P g (branch p n t s other) a e = ⊎_elim (any_each f P g s a.0) (any_each_of f P g other a.1) (or_cases (any_set f s) _ e)
  any_each f P g (select p n kind t arms) a e = any_each_in f P g arms a e
  any_each f P g (turns p n ss) a e = any_each_of f P g ss a e
  any_each f P g (set p n b x t) a e = g n b x t a e
  any_each f P g (empty p) a e = absurd (false≢true e)

  any_each_of : {S : ℕ → Bool → Target → Term → Type 0} (f : Bool → Target → Term → Bool) (P : Type 0) → ((n : ℕ) (b : Bool) (x : Target) (t : Term) → S n b x t → f b x t ≡ true → P) → (ss : Stmts) → EachSetOf S ss → any_set_of f ss ≡ true → P
  any_each_of f P g no_stmts a e = absurd (false≢true e)
  any_each_of f P g (a_stmt s ss) a e = ⊎_elim (any_each f P g s a.0) (any_each_of f P g ss a.1) (or_cases (any_set f s) _ e)

  any_each_in : {S : ℕ → Bool → Target → Term → Type 0} (f : Bool → Target → Term → Bool) (P : Type 0) → ((n : ℕ) (b : Bool) (x : Target) (t : Term) → S n b x t → f b x t ≡ true → P) → (arms : Arms) → EachSetIn S arms → any_set_in f arms ≡ true → P
  any_each_in f P g no_arms a e = absurd (false≢true e)
  any_each_in f P g (arm labels s arms) a e = ⊎_elim (any_each f P g s a.0) (any_each_in f P g arms a.1) (or_cases (any_set f s) _ e)

module _ (d : Design) (lawful : IsLawfulDesign d) where
  abbrev HasCell : ℕ → Target → Type 0
  HasCell y x = (c : Cell) × (c.thing ≡ y) × (may_write d x c ≡ true)

  abbrev SomeHasCell : ℕ → Targets → Type 0
  SomeHasCell y ts = (c : Cell) × (c.thing ≡ y) × (some_may_write d ts c ≡ true)

  -- the lowest bit of a signal
  first_bit : (s : ℕ) → nat_lt s (length d.signals) ≡ true → nat_lt 0 (signal_at d s).width ≡ true
  first_bit s h = let one : 1 ≤ (signal_at d s).width = has_bit d lawful s (ltb-true s (length d.signals) h) in lt-ltb 0 (signal_at d s).width (omega arith)

  part_cell : (s : ℕ) (low : Term) (w : ℕ) → nat_lt s (length d.signals) ≡ true → nat_le 1 w ≡ true → (b : Bool) → is_constant low ≡ b → (not b || are_among (signal_at d s).width w (offset_option (signal_range d s) (index (head low).signed (value d blank low)))) ≡ true → HasCell s (bits_of s low w) ⊎ (is_unknown_target d s (bits_of s low w) ≡ true)
  part_cell s low w is one false fixed inside =
      inl (cell s 0, refl, and_from (s == s) _ (eq-eqb s s refl) (and_from (nat_lt 0 (signal_at d s).width) _ (first_bit s is) (subst (λ b. (not b || has_cell (static_writes d (bits_of s low w)) (cell s 0)) ≡ true) (sym fixed) refl)))
  part_cell s low w is one true fixed inside =
      ⊎_elim
      (λ none. inr (and_from (s == s) _ (eq-eqb s s refl) (and_from (is_constant low) _ fixed (offset_none (signal_range d s) _ none))))
      (λ k. inl (cell s k.0, refl, and_from (s == s) _ (eq-eqb s s refl) (and_from (nat_lt k.0 (signal_at d s).width) _ (lt-ltb k.0 (signal_at d s).width k.1) (or_right (not (is_constant low)) _ k.2))))
      (among_written s (signal_at d s).width w _ (leb-true 1 w one) inside)

  mutual
    target_cell : (y : ℕ) (x : Target) → is_target d x ≡ true → is_well_formed_target d x ≡ true → target_names y x ≡ true → HasCell y x ⊎ (is_unknown_target d y x ≡ true)
    target_cell y (all_of s) is well n = inl (cell s 0, eqb-true s y n, and_from (s == s) _ (eq-eqb s s refl) (first_bit s is))
    target_cell y (bits_of s low w) is well n =
        let p = and_parts _ (nat_le 1 w) is in
        let q = and_parts (nat_lt s (length d.signals)) (is_alone d low) p.0 in
        let same : s ≡ y = eqb-true s y n in
        subst (λ z. HasCell z (bits_of s low w) ⊎ (is_unknown_target d z (bits_of s low w) ≡ true)) same (part_cell s low w q.0 p.1 (is_constant low) refl (and_parts _ (is_well_formed d false low) well).0)
    target_cell y (word_of m i) is well n = inl (cell m 0, eqb-true m y n, and_from (m == m) (nat_le (length d.signals) m) (eq-eqb m m refl) (and_parts (nat_le (length d.signals) m) _ (and_parts (is_memory d m) _ is).0).0)
    target_cell y (several ts) is well n = targets_cell y ts is well n

    targets_cell : (y : ℕ) (ts : Targets) → are_targets d ts ≡ true → are_well_formed_targets d ts ≡ true → some_target_names y ts ≡ true → SomeHasCell y ts ⊎ (are_unknown_targets d y ts ≡ true)
    targets_cell y no_targets is well n = absurd (false≢true n)
    targets_cell y (a_target t ts) is well n =
        let p = and_parts (is_target d t) (are_targets d ts) is in
        let q = and_parts (is_well_formed_target d t) (are_well_formed_targets d ts) well in
        ⊎_elim (λ e. ⊎_elim (λ k. inl (k.0, k.1, or_left (may_write d t k.0) _ k.2)) (λ k. inr (or_left (is_unknown_target d y t) _ k)) (target_cell y t p.0 q.0 e))
        (λ e. ⊎_elim (λ k. inl (k.0, k.1, or_right (may_write d t k.0) _ k.2)) (λ k. inr (or_right (is_unknown_target d y t) _ k)) (targets_cell y ts p.1 q.1 e)) (or_cases (target_names y t) _ n)

  -- what an assignment of the body gives
  record IsSound (p : ℕ) (b : Bool) (x : Target) (t : Term) : Type 0 where
    is : is_target d x ≡ true
    well : is_well_formed_target d x ≡ true
    any : (f : Bool → Target → Term → Bool) → f b x t ≡ true → any_set f (body_at d p) ≡ true

  named_cell : (p y : ℕ) (b : Bool) (x : Target) (t : Term) → IsSound p b x t → target_names y x ≡ true → ((c : Cell) × (c.thing ≡ y) × IsTarget (machine d) p c) ⊎ (any_set (λ b z u. is_unknown_target d y z) (body_at d p) ≡ true)
  named_cell p y true x t h n = ⊎_elim (λ k. inl (k.0, k.1, inl (h.any (λ b z u. b && may_write d z k.0) k.2))) (λ k. inr (h.any (λ b z u. is_unknown_target d y z) k)) (target_cell y x h.is h.well n)
  named_cell p y false x t h n = ⊎_elim (λ k. inl (k.0, k.1, inr (h.any (λ b z u. not b && may_write d z k.0) k.2))) (λ k. inr (h.any (λ b z u. is_unknown_target d y z) k)) (target_cell y x h.is h.well n)

  sound_sets : (p : ℕ) → EachSet (λ n. IsSound p) (body_at d p)
  sound_sets p =
      each_both {S = λ n b x t. (is_target d x ≡ true) × (is_well_formed_target d x ≡ true)} (λ n b x t a any. record { is = a.0; well = a.1; any = any }) (body_at d p)
      (each_both {T = λ n b x t. (is_target d x ≡ true) × (is_well_formed_target d x ≡ true)} (λ n b x t a c. (a, c)) (body_at d p) (each_target d (body_at d p) (lawful.bodies p)) (each_well d (body_at d p) (lawful.well_formed p))) (each_any (body_at d p))

pub target_names_law : (d : Design) → IsLawfulDesign d → TargetNamesLaw d
target_names_law d lawful p x a = any_each (λ b y t. target_names x y) _ (λ n b y t h e. named_cell d lawful p x b y t h e) (body_at d p) (sound_sets d lawful p) a

pub target_cells_law : (d : Design) → TargetCellsLaw d
target_cells_law d p c h = assigns_any d (body_at d p) c h
