-- Each flat body is well formed.
use Rattle.std.proofs.Common.{◌≡◌, ℕ, ◌+◌, Bool, true, false, ◌&&◌, if◌then◌else◌, List, [], ◌∷◌, ◌++◌, length, Some, inl, inr, refl, ap}
use Rattle.std.specs.Prelude.{bytes_eq}
use Rattle.four_state.specs.Vector.{Vector}
use Rattle.design_model.specs.Design.{Design, In}
use Rattle.design_model.specs.Tree.{Stmt}
use Rattle.design_model.specs.WellFormed.{are_well_formed, are_well_formed_arms, are_well_formed_bodies, is_well_formed, is_well_formed_body, is_well_formed_target}
use Rattle.verilog_tree.specs.Tree.{Expr, Exprs, no_exprs, an_expr, Header, Statement, sequential_block, if_statement, case_statement, for_loop, assignment, system_task, null_statement, Statements, no_statements, a_statement, CaseItems, no_items, case_item}
use Rattle.elab_const.specs.declared.width.Shape.{Shape}
use Rattle.flat_design.specs.Bodies.{Met, met_faults, met_statement, met_text, met_turns, met_writings, in_turn, met, all_met, items_met, statement, statements, arms, turn_stmts, case_shape, label_terms}
use Rattle.flat_design.specs.Expressions.{all_faults, faults}
use Rattle.flat_design.specs.Fault.{none}
use Rattle.flat_design.specs.Identifiers.{base_name}
use Rattle.flat_design.specs.Loops as loops
use Rattle.flat_design.specs.Numbering.{nodes, all_nodes, condition_nodes, statement_nodes, lines}
use Rattle.flat_design.specs.Scope.{Scope, look_up, range_or, shape}
use Rattle.flat_design.specs.Targets.{target, target_faults}
use Rattle.flat_design.specs.Terms.{right_side}
use Rattle.flat_laws.specs.Literals.{all_literals, bodies_literals, body_literals, items_literals, literals}
use Rattle.flat_design.specs.declared.entry.Entry.TheVariants.{Turn as a_turn, Signal as a_signal}
use Rattle.flat_design.specs.declared.entry.Mode.{Mode}
use Rattle.flat_design.specs.declared.entry.SignalEntry.{SignalEntry}
use Rattle.flat_design.proofs.NoConstFaults.{both_none}
use Rattle.flat_laws.proofs.EntryWidths.{AreFit, HasWidths, fit_left, fit_right, fit_second, fit_third, turn_width, turn_widths}
use Rattle.flat_laws.proofs.Freedom.{IsFree, both_empty, free_faults, free_parts}
use Rattle.flat_laws.proofs.LawfulBounds.{HasBoundedSignals, IsBounded}
use Rattle.flat_laws.proofs.LawfulTargets.{IsGoodScope, good_turn}
use Rattle.flat_laws.proofs.Members.{both_true}
use Rattle.flat_laws.proofs.ShapedBodies.{behind, item_free, turn_free}
use Rattle.flat_laws.proofs.WellFormedTargets.{target_well}
use Rattle.flat_laws.proofs.WellFormedTerms.{condition_term_well, well}

-- the signals of a turn are those of the scope
turn_bounded : (g : Scope) (h : Header) (v : Vector) → HasBoundedSignals g → HasBoundedSignals (in_turn h v g)
turn_bounded g h v b = record { bounded = λ y e found. by_test (bytes_eq y (base_name h.name).name) y e found }
  where
    by_test : (t : Bool) (y : List ℕ) (e : SignalEntry) → (if t then Some (a_turn v) else look_up g y) ≡ Some (a_signal e) → IsBounded (range_or e.range)
    by_test false y e found = b.bounded y e found
    by_test true y e found = absurd cc

turns_well : (d : Design) (vs : List Vector) (f : Vector → Stmt) → ((v : Vector) → In v vs → is_well_formed_body d (f v) ≡ true) → are_well_formed_bodies d (turn_stmts vs f) ≡ true
turns_well d [] f h = refl
turns_well d (v ∷ vs) f h = both_true _ _ (h v (inl refl)) (turns_well d vs f (λ w k. h w (inr k)))

module _ (d : Design) (base : ℕ) (base_is : base ≡ length d.signals) where
  labels_well : (g : Scope) → IsGoodScope d.signals d.memories g → (es : Exprs) → none (all_faults g es) ≡ true → (c : Shape) (n : ℕ) → are_well_formed d (label_terms base g c es n) ≡ true
  labels_well g good no_exprs free c n = refl
  labels_well g good (an_expr e es) free c n =
      let parts = both_none (faults g e) (all_faults g es) free in
      both_true _ _ (well d base base_is g good e parts.0 n c) (labels_well g good es parts.1 c (n + nodes g e))

  -- an assignment without fault
  pub assignment_well : (g : Scope) → IsGoodScope d.signals d.memories g → HasWidths g → HasBoundedSignals g → (mode : Mode) (x v : Expr) → AreFit (literals x) → none (target_faults g mode x) ≡ true → none (faults g v) ≡ true → (n m : ℕ) →
      (is_well_formed_target d (target base g x n) && is_well_formed d false (right_side base g (shape g x).width v m)) ≡ true
  assignment_well g good wide bounded mode x v fit free_x free_v n m = both_true _ _ (target_well d base base_is g good wide bounded mode x fit free_x n) (well d base base_is g good v free_v m _)

  mutual
    pub body_well : (g : Scope) → IsGoodScope d.signals d.memories g → HasWidths g → HasBoundedSignals g → (mode : Mode) (k : ℕ) (s : Statement) → AreFit (body_literals s) → IsFree (met g mode k s) → (l n : ℕ) → is_well_formed_body d (statement base g s l n) ≡ true
    body_well g good wide bounded mode k (sequential_block p ss) fit free l n = bodies_well g good wide bounded mode k ss fit (behind (met_statement p) _ free) l n
    body_well g good wide bounded mode k (if_statement p c s other) fit free l n =
        let rest = behind _ (met_faults (faults g c) ++ met g mode k s ++ all_met g mode k other) (behind (met_statement p) _ free) in
        let a = free_parts (met_faults (faults g c) ++ met g mode k s) (all_met g mode k other) rest in
        let b = free_parts (met_faults (faults g c)) (met g mode k s) a.0 in
        both_true _ _ (condition_term_well d base base_is g good c (ap none (free_faults (faults g c) b.0)) n)
        (both_true _ _ (body_well g good wide bounded mode k s (fit_second (literals c) (body_literals s) (bodies_literals other) fit) b.1 (l + 1) (n + condition_nodes g c))
        (bodies_well g good wide bounded mode k other (fit_third (literals c) (body_literals s) (bodies_literals other) fit) a.1 (l + 1 + lines s) (n + condition_nodes g c + statement_nodes g s)))
    body_well g good wide bounded mode k (case_statement p kind e is) fit free l n =
        let rest = behind _ (met_faults (faults g e) ++ items_met g mode k is) (behind (met_statement p) _ free) in
        let a = free_parts (met_faults (faults g e)) (items_met g mode k is) rest in
        both_true _ _ (well d base base_is g good e (ap none (free_faults (faults g e) a.0)) n (case_shape g e is))
        (arms_well g good wide bounded mode k is (fit_right (literals e) (items_literals is) fit) a.1 (case_shape g e is) (l + 1) (n + nodes g e))
    body_well g good wide bounded mode k (for_loop p h s) fit free l n =
        let turns : List Met = met_turns (loops.turns g h) (λ v. met (in_turn h v g) mode k s) in
        let text : Met = met_text h.place (loops.turns_size g h) in
        let rest = behind (met_statement p) (met_faults (loops.turn_faults g h) ++ text ∷ turns) free in
        let a = free_parts (met_faults (loops.turn_faults g h)) (text ∷ turns) rest in
        turns_well d (loops.turns g h) (λ v. statement base (in_turn h v g) s (l + 1) n)
        (λ v v_in. body_well (in_turn h v g) (good_turn d.signals d.memories g h v good (free_faults (loops.turn_faults g h) a.0)) (turn_widths g h v wide (turn_width g h v v_in)) (turn_bounded g h v bounded) mode k s fit (turn_free (loops.turns g h) (λ w. met (in_turn h w g) mode k s) v v_in (behind text turns a.1)) (l + 1) n)
    body_well g good wide bounded mode k (assignment p x blocking v) fit free l n =
        let rest = behind _ (met_faults (target_faults g mode x ++ faults g v) ++ met_writings g mode blocking false k x) (behind (met_statement p) _ free) in
        let a = free_parts (met_faults (target_faults g mode x ++ faults g v)) (met_writings g mode blocking false k x) rest in
        let b = both_empty (target_faults g mode x) (faults g v) (free_faults (target_faults g mode x ++ faults g v) a.0) in
        assignment_well g good wide bounded mode x v (fit_left (literals x) (literals v) fit) (ap none b.0) (ap none b.1) n (n + nodes g x)
    body_well g good wide bounded mode k (system_task p) fit free l n = refl
    body_well g good wide bounded mode k (null_statement p) fit free l n = refl

    pub bodies_well : (g : Scope) → IsGoodScope d.signals d.memories g → HasWidths g → HasBoundedSignals g → (mode : Mode) (k : ℕ) (ss : Statements) → AreFit (bodies_literals ss) → IsFree (all_met g mode k ss) → (l n : ℕ) → are_well_formed_bodies d (statements base g ss l n) ≡ true
    bodies_well g good wide bounded mode k no_statements fit free l n = refl
    bodies_well g good wide bounded mode k (a_statement s ss) fit free l n =
        let a = free_parts (met g mode k s) (all_met g mode k ss) free in
        both_true _ _ (body_well g good wide bounded mode k s (fit_left (body_literals s) (bodies_literals ss) fit) a.0 l n) (bodies_well g good wide bounded mode k ss (fit_right (body_literals s) (bodies_literals ss) fit) a.1 (l + lines s) (n + statement_nodes g s))

    pub arms_well : (g : Scope) → IsGoodScope d.signals d.memories g → HasWidths g → HasBoundedSignals g → (mode : Mode) (k : ℕ) (is : CaseItems) → AreFit (items_literals is) → IsFree (items_met g mode k is) → (c : Shape) (l n : ℕ) → are_well_formed_arms d (arms base g c is l n) ≡ true
    arms_well g good wide bounded mode k no_items fit free c l n = refl
    arms_well g good wide bounded mode k (case_item labels s is) fit free c l n =
        let parts = item_free g mode k labels s is free in
        both_true _ _ (labels_well g good labels parts.labels c n)
        (both_true _ _ (body_well g good wide bounded mode k s (fit_second (all_literals labels) (body_literals s) (items_literals is) fit) parts.body l (n + all_nodes g labels))
        (arms_well g good wide bounded mode k is (fit_third (all_literals labels) (body_literals s) (items_literals is) fit) parts.rest c (l + lines s) (n + all_nodes g labels + statement_nodes g s)))
