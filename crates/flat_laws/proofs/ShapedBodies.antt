-- Each term of a flat body has its shape.
use Rattle.std.proofs.Common.{◌≡◌, ℕ, ◌+◌, max, Bool, true, false, ◌&&◌, List, [], ◌∷◌, ◌++◌, length, inl, inr, Ok, refl, sym, ap, ◌∙◌, subst}
use Rattle.four_state.specs.Vector.{Vector}
use Rattle.design_model.specs.Assignment.{target_width}
use Rattle.design_model.specs.Design.{Design, In}
use Rattle.design_model.specs.Shape.{are_bodies, are_shaped, all_signed, all_signed_of, is_arms, is_body, is_shaped, is_target, own_sign, own_width, widest, widest_of}
use Rattle.design_model.specs.Tree.{Arms, Stmt, Term}
use Rattle.verilog_tree.specs.Tree.{Expr, Exprs, no_exprs, an_expr, Statement, sequential_block, if_statement, case_statement, for_loop, assignment, system_task, null_statement, Statements, no_statements, a_statement, CaseItems, no_items, case_item}
use Rattle.elab_const.specs.Cases.{with_arms, with_labels}
use Rattle.elab_const.specs.Meaning.{common_shape, shape_as}
use Rattle.elab_const.specs.Scope.{IsWidth}
use Rattle.elab_const.specs.declared.width.Shape.{Shape}
use Rattle.flat_design.specs.Bodies.{Met, met_faults, met_statement, met_text, met_turns, met_writings, in_turn, met, all_met, items_met, statement, statements, arms, turn_stmts, case_shape, label_terms}
use Rattle.flat_design.specs.Expressions.{all_faults, faults}
use Rattle.flat_design.specs.Fault.{none}
use Rattle.flat_design.specs.Loops as loops
use Rattle.flat_design.specs.Numbering.{nodes, all_nodes, condition_nodes, statement_nodes, lines}
use Rattle.flat_design.specs.Scope.{Scope, names, shape}
use Rattle.flat_design.specs.Targets.{target, target_faults}
use Rattle.flat_design.specs.Terms.{right_side, term}
use Rattle.flat_laws.specs.Literals.{all_literals, bodies_literals, body_literals, items_literals, literals}
use Rattle.flat_design.specs.declared.entry.Mode.{Mode}
use Rattle.flat_design.proofs.NoConstFaults.{both_none, no_const_fault}
use Rattle.flat_laws.proofs.EntryWidths.{AreFit, HasWidths, expr_width, fit_first, fit_left, fit_right, fit_second, fit_third, max_width, turn_width, turn_widths}
use Rattle.flat_laws.proofs.Freedom.{IsFree, both_empty, free_faults, free_parts}
use Rattle.flat_laws.proofs.LawfulSound.{names_sound}
use Rattle.flat_laws.proofs.LawfulTargets.{IsGoodScope, good_turn}
use Rattle.flat_laws.proofs.Members.{both_true}
use Rattle.flat_laws.proofs.OwnShapes.{own_shape}
use Rattle.flat_laws.proofs.ShapedTargets.{same_width, target_clean, target_shaped}
use Rattle.flat_laws.proofs.ShapedTerms.{shaped, sound_condition, sound_width}

-- the shape with these labels
abbrev labels_shape : Scope → Shape → Exprs → Shape
labels_shape g s no_exprs = s
labels_shape g s (an_expr e es) = labels_shape g (common_shape s (shape g e)) es

-- and with the labels of all arms
abbrev arms_shape : Scope → Shape → CaseItems → Shape
arms_shape g s no_items = s
arms_shape g s (case_item es x is) = arms_shape g (labels_shape g s es) is

pub behind : (m : Met) (ms : List Met) → IsFree (m ∷ ms) → IsFree ms
behind m ms h = (free_parts (m ∷ []) ms h).1

-- what was met is free in parts
pub record ItemFree (g : Scope) (mode : Mode) (k : ℕ) (es : Exprs) (s : Statement) (is : CaseItems) : Type 0 where
  pub labels : none (all_faults g es) ≡ true
  pub body : IsFree (met g mode k s)
  pub rest : IsFree (items_met g mode k is)

pub item_free : (g : Scope) (mode : Mode) (k : ℕ) (labels : Exprs) (s : Statement) (is : CaseItems) → IsFree (items_met g mode k (case_item labels s is)) → ItemFree g mode k labels s is
item_free g mode k labels s is free =
    let a = free_parts (met_faults (all_faults g labels) ++ met g mode k s) (items_met g mode k is) free in
    let b = free_parts (met_faults (all_faults g labels)) (met g mode k s) a.0 in
    record { labels = ap none (free_faults (all_faults g labels) b.0); body = b.1; rest = a.1 }

-- the turn of a value is free where all are
pub turn_free : (vs : List Vector) (f : Vector → List Met) (v : Vector) → In v vs → IsFree (met_turns vs f) → IsFree (f v)
turn_free [] f v h free = absurd h
turn_free (w ∷ vs) f v (inl e) free = subst (λ z. IsFree (f z)) e (free_parts (f w) (met_turns vs f) free).0
turn_free (w ∷ vs) f v (inr h) free = turn_free vs f v h (free_parts (f w) (met_turns vs f) free).1

turns_shaped : (d : Design) (vs : List Vector) (f : Vector → Stmt) → ((v : Vector) → In v vs → is_body d (f v) ≡ true) → are_bodies d (turn_stmts vs f) ≡ true
turns_shaped d [] f h = refl
turns_shaped d (v ∷ vs) f h = both_true _ _ (h v (inl refl)) (turns_shaped d vs f (λ w k. h w (inr k)))

-- in an equal context
in_context : (d : Design) (w v : ℕ) (s r : Bool) (x : Term) (as' : Arms) → v ≡ w → r ≡ s → (is_shaped d w s x && is_arms d w s as') ≡ true → (is_shaped d v r x && is_arms d v r as') ≡ true
in_context d w v s r x as' a b h = subst (λ z. (is_shaped d z r x && is_arms d z r as') ≡ true) (sym a) (subst (λ z. (is_shaped d w z x && is_arms d w z as') ≡ true) (sym b) h)

module _ (d : Design) (base : ℕ) (base_is : base ≡ length d.signals) where
  -- the shape of a case without fault is answered
  labels_answer : (g : Scope) → IsGoodScope d.signals d.memories g → (es : Exprs) → none (all_faults g es) ≡ true → (s : Shape) → with_labels (names g) (Ok s) es ≡ Ok (labels_shape g s es)
  labels_answer g good no_exprs free s = refl
  labels_answer g good (an_expr e es) free s =
      let parts = both_none (faults g e) (all_faults g es) free in
      rw (no_const_fault g e parts.0 (names_sound g good.sound e)) (labels_answer g good es parts.1 (common_shape s (shape g e)))

  arms_answer : (g : Scope) → IsGoodScope d.signals d.memories g → (mode : Mode) (k : ℕ) (is : CaseItems) → IsFree (items_met g mode k is) → (s : Shape) → with_arms (names g) (Ok s) is ≡ Ok (arms_shape g s is)
  arms_answer g good mode k no_items free s = refl
  arms_answer g good mode k (case_item labels x is) free s =
      let parts = item_free g mode k labels x is free in
      rw (labels_answer g good labels parts.labels s) (arms_answer g good mode k is parts.rest (labels_shape g s labels))

  case_is : (g : Scope) → IsGoodScope d.signals d.memories g → (mode : Mode) (k : ℕ) (e : Expr) (is : CaseItems) → none (faults g e) ≡ true → IsFree (items_met g mode k is) → case_shape g e is ≡ arms_shape g (shape g e) is
  case_is g good mode k e is sound free = rw (no_const_fault g e sound (names_sound g good.sound e), arms_answer g good mode k is free (shape g e)) refl

  labels_width : (g : Scope) → IsGoodScope d.signals d.memories g → HasWidths g → (es : Exprs) → AreFit (all_literals es) → none (all_faults g es) ≡ true → (s : Shape) → IsWidth s.width → IsWidth (labels_shape g s es).width
  labels_width g good wide no_exprs fit free s h = h
  labels_width g good wide (an_expr e es) fit free s h =
      let parts = both_none (faults g e) (all_faults g es) free in
      labels_width g good wide es (fit_right (literals e) (all_literals es) fit) parts.1 (common_shape s (shape g e)) (max_width s.width (shape g e).width h (sound_width d base base_is g good wide e (fit_left (literals e) (all_literals es) fit) parts.0))

  arms_width : (g : Scope) → IsGoodScope d.signals d.memories g → HasWidths g → (mode : Mode) (k : ℕ) (is : CaseItems) → AreFit (items_literals is) → IsFree (items_met g mode k is) → (s : Shape) → IsWidth s.width → IsWidth (arms_shape g s is).width
  arms_width g good wide mode k no_items fit free s h = h
  arms_width g good wide mode k (case_item labels x is) fit free s h =
      let parts = item_free g mode k labels x is free in
      arms_width g good wide mode k is (fit_third (all_literals labels) (body_literals x) (items_literals is) fit) parts.rest (labels_shape g s labels) (labels_width g good wide labels (fit_first (all_literals labels) (body_literals x) (items_literals is) fit) parts.labels s h)

  -- the greatest width of flat labels is that of the labels
  labels_same : (g : Scope) → IsGoodScope d.signals d.memories g → (es : Exprs) → none (all_faults g es) ≡ true → (c : Shape) (n w : ℕ) (b : Bool) (s : Shape) → w ≡ s.width → b ≡ s.signed →
      (widest d w (label_terms base g c es n) ≡ (labels_shape g s es).width) × (all_signed d b (label_terms base g c es n) ≡ (labels_shape g s es).signed)
  labels_same g good no_exprs free c n w b s p q = (p, q)
  labels_same g good (an_expr e es) free c n w b s p q =
      let parts = both_none (faults g e) (all_faults g es) free in
      let own = own_shape d base base_is g good e parts.0 n c in
      labels_same g good es parts.1 c (n + nodes g e) (max w (own_width d (term base g e n c))) (b && own_sign d (term base g e n c)) (common_shape s (shape g e)) (rw (p, own.width) refl) (rw (q, own.signed) refl)

  arms_same : (g : Scope) → IsGoodScope d.signals d.memories g → (mode : Mode) (k : ℕ) (is : CaseItems) → IsFree (items_met g mode k is) → (c : Shape) (l n w : ℕ) (b : Bool) (s : Shape) → w ≡ s.width → b ≡ s.signed →
      (widest_of d w (arms base g c is l n) ≡ (arms_shape g s is).width) × (all_signed_of d b (arms base g c is l n) ≡ (arms_shape g s is).signed)
  arms_same g good mode k no_items free c l n w b s p q = (p, q)
  arms_same g good mode k (case_item labels x is) free c l n w b s p q =
      let parts = item_free g mode k labels x is free in
      let here = labels_same g good labels parts.labels c n w b s p q in
      arms_same g good mode k is parts.rest c (l + lines x) (n + all_nodes g labels + statement_nodes g x) _ _ (labels_shape g s labels) here.0 here.1

  labels_shaped : (g : Scope) → IsGoodScope d.signals d.memories g → HasWidths g → (es : Exprs) → AreFit (all_literals es) → none (all_faults g es) ≡ true → (c : Shape) → IsWidth c.width → (n : ℕ) → are_shaped d c.width c.signed (label_terms base g c es n) ≡ true
  labels_shaped g good wide no_exprs fit free c h n = refl
  labels_shaped g good wide (an_expr e es) fit free c h n =
      let parts = both_none (faults g e) (all_faults g es) free in
      both_true _ _ (shaped d base base_is g good wide e (fit_left (literals e) (all_literals es) fit) parts.0 n c h) (labels_shaped g good wide es (fit_right (literals e) (all_literals es) fit) parts.1 c h (n + nodes g e))

  -- an assignment without fault
  pub assignment_shaped : (g : Scope) → IsGoodScope d.signals d.memories g → HasWidths g → (mode : Mode) (x v : Expr) → AreFit (literals x) → AreFit (literals v) → none (target_faults g mode x) ≡ true → none (faults g v) ≡ true → (n m : ℕ) →
      (is_target d (target base g x n) && is_shaped d (max (target_width d (target base g x n)) (own_width d (right_side base g (shape g x).width v m))) (own_sign d (right_side base g (shape g x).width v m)) (right_side base g (shape g x).width v m)) ≡ true
  assignment_shaped g good wide mode x v fit_x fit_v free_x free_v n m =
      let c = shape_as (max (shape g x).width (shape g v).width) (shape g v).signed in
      let right : Term = right_side base g (shape g x).width v m in
      let own = own_shape d base base_is g good v free_v m c in
      let small : IsWidth c.width = max_width (shape g x).width (shape g v).width (expr_width g wide x fit_x (target_clean d base base_is g good wide mode x free_x)) (sound_width d base base_is g good wide v fit_v free_v) in
      let greater : max (target_width d (target base g x n)) (own_width d right) ≡ c.width = rw (same_width d base base_is g good wide mode x free_x n, own.width) refl in
      both_true _ _ (target_shaped d base base_is g good wide mode x fit_x free_x n)
      (subst (λ w. is_shaped d w (own_sign d right) right ≡ true) (sym greater) (subst (λ s. is_shaped d c.width s right ≡ true) (sym own.signed) (shaped d base base_is g good wide v fit_v free_v m c small)))

  mutual
    pub body_shaped : (g : Scope) → IsGoodScope d.signals d.memories g → HasWidths g → (mode : Mode) (k : ℕ) (s : Statement) → AreFit (body_literals s) → IsFree (met g mode k s) → (l n : ℕ) → is_body d (statement base g s l n) ≡ true
    body_shaped g good wide mode k (sequential_block p ss) fit free l n = bodies_shaped g good wide mode k ss fit (behind (met_statement p) _ free) l n
    body_shaped g good wide mode k (if_statement p c s other) fit free l n =
        let rest = behind _ (met_faults (faults g c) ++ met g mode k s ++ all_met g mode k other) (behind (met_statement p) _ free) in
        let a = free_parts (met_faults (faults g c) ++ met g mode k s) (all_met g mode k other) rest in
        let b = free_parts (met_faults (faults g c)) (met g mode k s) a.0 in
        both_true _ _ (both_true _ _ (sound_condition d base base_is g good wide c (fit_first (literals c) (body_literals s) (bodies_literals other) fit) (ap none (free_faults (faults g c) b.0)) n)
        (body_shaped g good wide mode k s (fit_second (literals c) (body_literals s) (bodies_literals other) fit) b.1 (l + 1) (n + condition_nodes g c)))
        (bodies_shaped g good wide mode k other (fit_third (literals c) (body_literals s) (bodies_literals other) fit) a.1 (l + 1 + lines s) (n + condition_nodes g c + statement_nodes g s))
    body_shaped g good wide mode k (case_statement p kind e is) fit free l n =
        let rest = behind _ (met_faults (faults g e) ++ items_met g mode k is) (behind (met_statement p) _ free) in
        let a = free_parts (met_faults (faults g e)) (items_met g mode k is) rest in
        let sound : none (faults g e) ≡ true = ap none (free_faults (faults g e) a.0) in
        let fit_e = fit_left (literals e) (items_literals is) fit in
        let fit_is = fit_right (literals e) (items_literals is) fit in
        let c = case_shape g e is in
        let own = own_shape d base base_is g good e sound n c in
        let same = case_is g good mode k e is sound a.1 in
        let widths = arms_same g good mode k is a.1 c (l + 1) (n + nodes g e) (own_width d (term base g e n c)) (own_sign d (term base g e n c)) (shape g e) own.width own.signed in
        let small : IsWidth c.width = subst (λ z. IsWidth z.width) (sym same) (arms_width g good wide mode k is fit_is a.1 (shape g e) (sound_width d base base_is g good wide e fit_e sound)) in
        in_context d c.width _ c.signed _ (term base g e n c) (arms base g c is (l + 1) (n + nodes g e)) (widths.0 ∙ sym (ap (λ z. z.width) same)) (widths.1 ∙ sym (ap (λ z. z.signed) same))
        (both_true _ _ (shaped d base base_is g good wide e fit_e sound n c small) (arms_shaped g good wide mode k is fit_is a.1 c small (l + 1) (n + nodes g e)))
    body_shaped g good wide mode k (for_loop p h s) fit free l n =
        let turns : List Met = met_turns (loops.turns g h) (λ v. met (in_turn h v g) mode k s) in
        let text : Met = met_text h.place (loops.turns_size g h) in
        let rest = behind (met_statement p) (met_faults (loops.turn_faults g h) ++ text ∷ turns) free in
        let a = free_parts (met_faults (loops.turn_faults g h)) (text ∷ turns) rest in
        turns_shaped d (loops.turns g h) (λ v. statement base (in_turn h v g) s (l + 1) n)
        (λ v v_in. body_shaped (in_turn h v g) (good_turn d.signals d.memories g h v good (free_faults (loops.turn_faults g h) a.0)) (turn_widths g h v wide (turn_width g h v v_in)) mode k s fit (turn_free (loops.turns g h) (λ w. met (in_turn h w g) mode k s) v v_in (behind text turns a.1)) (l + 1) n)
    body_shaped g good wide mode k (assignment p x blocking v) fit free l n =
        let rest = behind _ (met_faults (target_faults g mode x ++ faults g v) ++ met_writings g mode blocking false k x) (behind (met_statement p) _ free) in
        let a = free_parts (met_faults (target_faults g mode x ++ faults g v)) (met_writings g mode blocking false k x) rest in
        let b = both_empty (target_faults g mode x) (faults g v) (free_faults (target_faults g mode x ++ faults g v) a.0) in
        assignment_shaped g good wide mode x v (fit_left (literals x) (literals v) fit) (fit_right (literals x) (literals v) fit) (ap none b.0) (ap none b.1) n (n + nodes g x)
    body_shaped g good wide mode k (system_task p) fit free l n = refl
    body_shaped g good wide mode k (null_statement p) fit free l n = refl

    pub bodies_shaped : (g : Scope) → IsGoodScope d.signals d.memories g → HasWidths g → (mode : Mode) (k : ℕ) (ss : Statements) → AreFit (bodies_literals ss) → IsFree (all_met g mode k ss) → (l n : ℕ) → are_bodies d (statements base g ss l n) ≡ true
    bodies_shaped g good wide mode k no_statements fit free l n = refl
    bodies_shaped g good wide mode k (a_statement s ss) fit free l n =
        let a = free_parts (met g mode k s) (all_met g mode k ss) free in
        both_true _ _ (body_shaped g good wide mode k s (fit_left (body_literals s) (bodies_literals ss) fit) a.0 l n) (bodies_shaped g good wide mode k ss (fit_right (body_literals s) (bodies_literals ss) fit) a.1 (l + lines s) (n + statement_nodes g s))

    pub arms_shaped : (g : Scope) → IsGoodScope d.signals d.memories g → HasWidths g → (mode : Mode) (k : ℕ) (is : CaseItems) → AreFit (items_literals is) → IsFree (items_met g mode k is) → (c : Shape) → IsWidth c.width → (l n : ℕ) → is_arms d c.width c.signed (arms base g c is l n) ≡ true
    arms_shaped g good wide mode k no_items fit free c small l n = refl
    arms_shaped g good wide mode k (case_item labels s is) fit free c small l n =
        let parts = item_free g mode k labels s is free in
        both_true _ _ (both_true _ _ (labels_shaped g good wide labels (fit_first (all_literals labels) (body_literals s) (items_literals is) fit) parts.labels c small n)
        (body_shaped g good wide mode k s (fit_second (all_literals labels) (body_literals s) (items_literals is) fit) parts.body l (n + all_nodes g labels)))
        (arms_shaped g good wide mode k is (fit_third (all_literals labels) (body_literals s) (items_literals is) fit) parts.rest c small (l + lines s) (n + all_nodes g labels + statement_nodes g s))
