-- Each assignment of a flat body is one of the statement, in the scope of its turns, and has no fault where none was met.
use Rattle.std.proofs.Common.{◌≡◌, ◌⊎◌, inl, inr, ℕ, ◌+◌, Bool, true, false, ◌||◌, List, [], ◌∷◌, ◌++◌, refl}
use Rattle.std.proofs.lemmas.Bool.{false≢true}
use Rattle.four_state.specs.Vector.{Vector}
use Rattle.design_model.specs.Design.{In}
use Rattle.design_model.specs.Mentions.{any_set, any_set_of, any_set_in}
use Rattle.design_model.specs.Tree.{Stmt, Target, Term}
use Rattle.verilog_tree.specs.Tree.{Expr, Header, Statement, sequential_block, if_statement, case_statement, for_loop, assignment, system_task, null_statement, Statements, no_statements, a_statement, CaseItems, no_items, case_item}
use Rattle.elab_const.specs.declared.width.Shape.{Shape}
use Rattle.flat_design.specs.Bodies.{Met, met_faults, met_text, met_writings, met_turns, in_turn, met, all_met, items_met, statement, statements, arms, turn_stmts, case_shape}
use Rattle.flat_design.specs.Expressions.{faults, all_faults}
use Rattle.flat_design.specs.Loops as loops
use Rattle.flat_design.specs.Numbering.{nodes, all_nodes, condition_nodes, statement_nodes, lines}
use Rattle.flat_design.specs.Scope.{Scope, shape}
use Rattle.flat_design.specs.Targets.{target, target_faults}
use Rattle.flat_design.specs.declared.entry.Mode.{Mode}
use Rattle.flat_design.specs.Terms.{right_side}
use Rattle.flat_laws.proofs.Freedom.{IsFree, both_empty, free_parts, free_faults}
use Rattle.flat_laws.proofs.Members.{in_left, in_right}

-- an assignment that a test finds
pub record Found (P : Scope → Type 0) (base : ℕ) (mode : Mode) (k : ℕ) (ms : List Met) (f : Bool → Target → Term → Bool) : Type 0 where
  pub scope : Scope
  pub to : Expr
  pub blocking : Bool
  pub value : Expr
  pub node : ℕ
  pub known : P scope
  pub target_sound : target_faults scope mode to ≡ []
  pub value_sound : faults scope value ≡ []
  pub passes : f blocking (target base scope to node) (right_side base scope (shape scope to).width value (node + nodes scope to)) ≡ true
  pub writings : (w : Met) → In w (met_writings scope mode blocking false k to) → In w ms

-- of two tests of which one holds
pub one_of : (a b : Bool) → (a || b) ≡ true → (a ≡ true) ⊎ (b ≡ true)
one_of true b h = inl refl
one_of false b h = inr h

-- among more that was met
found_among : (P : Scope → Type 0) (base : ℕ) (mode : Mode) (k : ℕ) (ms more : List Met) (f : Bool → Target → Term → Bool) → ((w : Met) → In w ms → In w more) → Found P base mode k ms f → Found P base mode k more f
found_among P base mode k ms more f h x = record {
  scope = x.scope;
  to = x.to;
  blocking = x.blocking;
  value = x.value;
  node = x.node;
  known = x.known;
  target_sound = x.target_sound;
  value_sound = x.value_sound;
  passes = x.passes;
  writings = λ w i. h w (x.writings w i);
}

either_found : (P : Scope → Type 0) (base : ℕ) (mode : Mode) (k : ℕ) (ms ns more : List Met) (f : Bool → Target → Term → Bool) (a b : Bool) → ((w : Met) → In w ms → In w more) → ((w : Met) → In w ns → In w more) →
    (a ≡ true → Found P base mode k ms f) → (b ≡ true → Found P base mode k ns f) → (a || b) ≡ true → Found P base mode k more f
either_found P base mode k ms ns more f a b left right x y h = by_side (one_of a b h)
  where
    by_side : (a ≡ true) ⊎ (b ≡ true) → Found P base mode k more f
    by_side (inl e) = found_among P base mode k ms more f left (x e)
    by_side (inr e) = found_among P base mode k ns more f right (y e)

behind : (m : Met) (ms : List Met) → IsFree (m ∷ ms) → IsFree ms
behind m ms h = (free_parts (m ∷ []) ms h).1

found_turn : (P : Scope → Type 0) (base : ℕ) (mode : Mode) (k : ℕ) (f : Bool → Target → Term → Bool) (vs : List Vector) (m : Vector → List Met) (s : Vector → Stmt) →
    ((v : Vector) → IsFree (m v) → any_set f (s v) ≡ true → Found P base mode k (m v) f) → IsFree (met_turns vs m) → any_set_of f (turn_stmts vs s) ≡ true → Found P base mode k (met_turns vs m) f
found_turn P base mode k f [] m s each free h = absurd (false≢true h)
found_turn P base mode k f (v ∷ vs) m s each free h = by_turn (found_turn P base mode k f vs m s each) (one_of (any_set f (s v)) (any_set_of f (turn_stmts vs s)) h)
  where
    by_turn : (IsFree (met_turns vs m) → any_set_of f (turn_stmts vs s) ≡ true → Found P base mode k (met_turns vs m) f) → (any_set f (s v) ≡ true) ⊎ (any_set_of f (turn_stmts vs s) ≡ true) → Found P base mode k (m v ++ met_turns vs m) f
    by_turn rest (inl e) = found_among P base mode k (m v) _ f (λ w i. in_left w (m v) (met_turns vs m) i) (each v (free_parts (m v) (met_turns vs m) free).0 e)
    by_turn rest (inr e) = found_among P base mode k (met_turns vs m) _ f (λ w i. in_right w (m v) (met_turns vs m) i) (rest (free_parts (m v) (met_turns vs m) free).1 e)

mutual
  pub found_set : (P : Scope → Type 0) → ((g : Scope) (h : Header) (v : Vector) → P g → loops.turn_faults g h ≡ [] → P (in_turn h v g)) → (base : ℕ) (g : Scope) (mode : Mode) (k : ℕ) (f : Bool → Target → Term → Bool) (s : Statement) (l n : ℕ) → P g → IsFree (met g mode k s) → any_set f (statement base g s l n) ≡ true → Found P base mode k (met g mode k s) f
  found_set P stays base g mode k f (sequential_block p ss) l n known free h =
      found_among P base mode k (all_met g mode k ss) _ f (λ w i. inr i) (found_all P stays base g mode k f ss l n known (behind _ _ free) h)
  found_set P stays base g mode k f (if_statement p c s other) l n known free h =
      let rest = behind _ (met_faults (faults g c) ++ met g mode k s ++ all_met g mode k other) (behind _ _ free) in
      let a = free_parts (met_faults (faults g c) ++ met g mode k s) (all_met g mode k other) rest in
      let b = free_parts (met_faults (faults g c)) (met g mode k s) a.0 in
      either_found P base mode k (met g mode k s) (all_met g mode k other) _ f _ _
      (λ w i. inr (inr (in_left w (met_faults (faults g c) ++ met g mode k s) (all_met g mode k other) (in_right w (met_faults (faults g c)) (met g mode k s) i))))
      (λ w i. inr (inr (in_right w (met_faults (faults g c) ++ met g mode k s) (all_met g mode k other) i)))
      (found_set P stays base g mode k f s (l + 1) (n + condition_nodes g c) known b.1)
      (found_all P stays base g mode k f other (l + 1 + lines s) (n + condition_nodes g c + statement_nodes g s) known a.1) h
  found_set P stays base g mode k f (case_statement p kind e is) l n known free h =
      let rest = behind _ (met_faults (faults g e) ++ items_met g mode k is) (behind _ _ free) in
      let a = free_parts (met_faults (faults g e)) (items_met g mode k is) rest in
      found_among P base mode k (items_met g mode k is) _ f (λ w i. inr (inr (in_right w (met_faults (faults g e)) (items_met g mode k is) i))) (found_item P stays base g mode k f (case_shape g e is) is (l + 1) (n + nodes g e) known a.1 h)
  found_set P stays base g mode k f (for_loop p x s) l n known free h =
      let turns : List Met = met_turns (loops.turns g x) (λ v. met (in_turn x v g) mode k s) in
      let text : Met = met_text x.place (loops.turns_size g x) in
      let rest = behind _ (met_faults (loops.turn_faults g x) ++ text ∷ turns) free in
      let a = free_parts (met_faults (loops.turn_faults g x)) (text ∷ turns) rest in
      let sound : loops.turn_faults g x ≡ [] = free_faults (loops.turn_faults g x) a.0 in
      found_among P base mode k turns _ f (λ w i. inr (in_right w (met_faults (loops.turn_faults g x)) (text ∷ turns) (inr i)))
      (found_turn P base mode k f (loops.turns g x) (λ v. met (in_turn x v g) mode k s) (λ v. statement base (in_turn x v g) s (l + 1) n)
      (λ v free_turn e. found_set P stays base (in_turn x v g) mode k f s (l + 1) n (stays g x v known sound) free_turn e) (behind text turns a.1) h)
  found_set P stays base g mode k f (assignment p x blocking v) l n known free h =
      let rest = behind _ (met_faults (target_faults g mode x ++ faults g v) ++ met_writings g mode blocking false k x) (behind _ _ free) in
      let a = free_parts (met_faults (target_faults g mode x ++ faults g v)) (met_writings g mode blocking false k x) rest in
      let b = both_empty (target_faults g mode x) (faults g v) (free_faults (target_faults g mode x ++ faults g v) a.0) in
      record { scope = g; to = x; blocking = blocking; value = v; node = n; known = known; target_sound = b.0; value_sound = b.1; passes = h; writings = λ w i. inr (inr (in_right w (met_faults (target_faults g mode x ++ faults g v)) (met_writings g mode blocking false k x) i)) }
  found_set P stays base g mode k f (system_task p) l n known free h = absurd (false≢true h)
  found_set P stays base g mode k f (null_statement p) l n known free h = absurd (false≢true h)

  pub found_all : (P : Scope → Type 0) → ((g : Scope) (h : Header) (v : Vector) → P g → loops.turn_faults g h ≡ [] → P (in_turn h v g)) → (base : ℕ) (g : Scope) (mode : Mode) (k : ℕ) (f : Bool → Target → Term → Bool) (ss : Statements) (l n : ℕ) → P g → IsFree (all_met g mode k ss) → any_set_of f (statements base g ss l n) ≡ true → Found P base mode k (all_met g mode k ss) f
  found_all P stays base g mode k f no_statements l n known free h = absurd (false≢true h)
  found_all P stays base g mode k f (a_statement s ss) l n known free h =
      let a = free_parts (met g mode k s) (all_met g mode k ss) free in
      either_found P base mode k (met g mode k s) (all_met g mode k ss) _ f _ _ (λ w i. in_left w (met g mode k s) (all_met g mode k ss) i) (λ w i. in_right w (met g mode k s) (all_met g mode k ss) i)
      (found_set P stays base g mode k f s l n known a.0) (found_all P stays base g mode k f ss (l + lines s) (n + statement_nodes g s) known a.1) h

  pub found_item : (P : Scope → Type 0) → ((g : Scope) (h : Header) (v : Vector) → P g → loops.turn_faults g h ≡ [] → P (in_turn h v g)) → (base : ℕ) (g : Scope) (mode : Mode) (k : ℕ) (f : Bool → Target → Term → Bool) (w : Shape) (is : CaseItems) (l n : ℕ) → P g → IsFree (items_met g mode k is) → any_set_in f (arms base g w is l n) ≡ true → Found P base mode k (items_met g mode k is) f
  found_item P stays base g mode k f w no_items l n known free h = absurd (false≢true h)
  found_item P stays base g mode k f w (case_item labels s is) l n known free h =
      let a = free_parts (met_faults (all_faults g labels) ++ met g mode k s) (items_met g mode k is) free in
      let b = free_parts (met_faults (all_faults g labels)) (met g mode k s) a.0 in
      either_found P base mode k (met g mode k s) (items_met g mode k is) _ f _ _
      (λ x i. in_left x (met_faults (all_faults g labels) ++ met g mode k s) (items_met g mode k is) (in_right x (met_faults (all_faults g labels)) (met g mode k s) i))
      (λ x i. in_right x (met_faults (all_faults g labels) ++ met g mode k s) (items_met g mode k is) i)
      (found_set P stays base g mode k f s l (n + all_nodes g labels) known b.1)
      (found_item P stays base g mode k f w is (l + lines s) (n + all_nodes g labels + statement_nodes g s) known a.1) h
