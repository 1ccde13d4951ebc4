-- The line points and the counted nodes of one instance have different numbers.
use Rattle.std.proofs.Common.{◌≡◌, ◌⊎◌, inl, inr, ℕ, zero, suc, ◌+◌, ◌<◌, ◌≤◌, true, false, List, [], ◌∷◌, ◌++◌, Some, Ok, refl, sym, ap, ◌∙◌, subst, length, arith, length-append, slice_index_or}
use Rattle.design_model.specs.Design.{Design, In, no_process, process_at}
use Rattle.design_model.specs.Lawful.{instance_of}
use Rattle.design_model.specs.Mentions.{body_terms, index_terms, subterms}
use Rattle.design_model.specs.Numbered as law
use Rattle.design_model.specs.Numbered.{LineAt, NodeAt, lines_of, nodes_in, nodes_of}
use Rattle.design_model.specs.Tree.{Process, Stmt, Target, Term, assign}
use Rattle.verilog_tree.specs.declared.item.When.{When}
use Rattle.verilog_tree.specs.declared.item.When.TheVariants.{Star, Names, Edges}
use Rattle.verilog_tree.specs.Tree.{Expr, Module, Statement}
use Rattle.flat_design.specs.Bodies.{statement}
use Rattle.flat_design.specs.Faults.{answer}
use Rattle.flat_design.specs.Flat.{elaborated, module_of, start, top_instance}
use Rattle.flat_design.specs.Instances.{Instantiation, Sofar, context, add_process, opened}
use Rattle.flat_design.specs.Numbering.{lines, nodes, statement_nodes}
use Rattle.flat_design.specs.Processes.{Made, process_of}
use Rattle.flat_design.specs.Scope.{Scope, shape}
use Rattle.flat_design.specs.Targets.{target}
use Rattle.flat_design.specs.Terms.{right_side}
use Rattle.flat_laws.proofs.Freedom.{IsSound, answered_sound}
use Rattle.flat_laws.proofs.LawfulLimits.{base_of, answered_design}
use Rattle.flat_laws.proofs.LawfulLists.{instance_here, outer_here, process_instance}
use Rattle.flat_laws.proofs.Members.{in_append}
use Rattle.flat_laws.proofs.NodesInText.{among_nodes, nodes_in_text, target_in_text, statement_in_text}
use Rattle.flat_laws.proofs.Once.{Once, once_none, once_among}
use Rattle.flat_laws.proofs.Steps.{Walk, Progress, progress, Kept, whole_keeps, inner_of}
use Rattle.flat_laws.proofs.TextLines.{line_number, text_lines, lines_once, lines_in_text}
use Rattle.flat_laws.proofs.TextNodes.{node_number, text_nodes, nodes_once, two_once, statement_text, statement_once}

-- what each step keeps holds of the design that is answered
pub answered_walks : (ms : List Module) (top : List ℕ) (P : Sofar → Type 0) (Q : ℕ → Instantiation → Sofar → Type 0) (R : Instantiation → Sofar → Progress → Sofar → Type 0) → Walk (base_of ms top) ms P Q R →
    ((m : Module) → module_of ms top ≡ Some m → Q 64 (top_instance top m) (start top)) → P (start top) → IsSound ms top → P (elaborated ms top)
answered_walks ms top P Q R walk known kept sound = whole_keeps (base_of ms top) ms P Q R walk top known kept (module_of ms top) refl sound.told.free

-- the line points and the counted nodes of a process have numbers of their own in these ranges
record HasNumbers (l l2 n n2 : ℕ) (x : Process) : Type 0 where
  lines : Once line_number l l2 (lines_of x)
  nodes : Once node_number n n2 (nodes_of x)

uncounted_numbers : (l n i : ℕ) (x : Target) (t : Term) → HasNumbers l l n n (assign i x t false)
uncounted_numbers l n i x t = record { lines = once_none line_number l l; nodes = once_none node_number n n }

assign_numbers : (base : ℕ) (g : Scope) (i : ℕ) (x v : Expr) (l n : ℕ) → HasNumbers l l n (n + (nodes g x + nodes g v)) (assign i (target base g x n) (right_side base g (shape g x).width v (n + nodes g x)) true)
assign_numbers base g i x v l n =
    let right = right_side base g (shape g x).width v (n + nodes g x) in
    record {
      lines = once_none line_number l l;
      nodes = once_among node_number n (n + (nodes g x + nodes g v)) _ (text_nodes g x n ++ text_nodes g v (n + nodes g x))
          (among_nodes (index_terms (target base g x n)) (subterms right) (text_nodes g x n) (text_nodes g v (n + nodes g x)) (target_in_text base g x n) (nodes_in_text base g v (n + nodes g x) _))
          (two_once (text_nodes g x n) (text_nodes g v (n + nodes g x)) n (nodes g x) (nodes g v) (nodes_once g x n) (nodes_once g v (n + nodes g x)));
    }

-- an always block has the numbers of its body
body_lines : (g : Scope) (i : ℕ) (w : When) (text : Statement) (s : Stmt) → lines_of (process_of g i w text s) ≡ law.lines s
body_lines g i Star text s = refl
body_lines g i (Names xs) text s = refl
body_lines g i (Edges es) text s = refl

body_nodes : (g : Scope) (i : ℕ) (w : When) (text : Statement) (s : Stmt) → nodes_of (process_of g i w text s) ≡ nodes_in (body_terms s)
body_nodes g i Star text s = refl
body_nodes g i (Names xs) text s = refl
body_nodes g i (Edges es) text s = refl

always_numbers : (base : ℕ) (g : Scope) (i : ℕ) (w : When) (s : Statement) (l n : ℕ) → HasNumbers l (l + lines s) n (n + statement_nodes g s) (process_of g i w s (statement base g s l n))
always_numbers base g i w s l n =
    let flat : Stmt = statement base g s l n in
    record {
      lines = subst (Once line_number l (l + lines s)) (sym (body_lines g i w s flat)) (once_among line_number l (l + lines s) (law.lines flat) (text_lines s l) (lines_in_text base g s l n) (lines_once s l));
      nodes = subst (Once node_number n (n + statement_nodes g s)) (sym (body_nodes g i w s flat)) (once_among node_number n (n + statement_nodes g s) (nodes_in (body_terms flat)) (statement_text g s n) (statement_in_text base g s l n) (statement_once g s n));
    }

-- parts of two processes of one instance by one number are one
abbrev AreOnce : {A : Type 0} → (A → ℕ) → (Process → List A) → List Process → Type 0
AreOnce {A} number parts xs =
    (p q : ℕ) (x y : A) → In x (parts (slice_index_or xs p no_process)) → In y (parts (slice_index_or xs q no_process)) →
    instance_of (slice_index_or xs p no_process) ≡ instance_of (slice_index_or xs q no_process) → number x ≡ number y → (p ≡ q) × (x ≡ y)

-- where a process is in a list with one more
record IsBefore (xs : List Process) (m : Process) (p : ℕ) : Type 0 where
  same : slice_index_or (xs ++ m ∷ []) p no_process ≡ slice_index_or xs p no_process
  is_in : In (slice_index_or xs p no_process) xs

record IsLast (xs : List Process) (m : Process) (p : ℕ) : Type 0 where
  place : p ≡ length xs
  same : slice_index_or (xs ++ m ∷ []) p no_process ≡ m

record IsBehind (xs : List Process) (m : Process) (p : ℕ) : Type 0 where
  same : slice_index_or (xs ++ m ∷ []) p no_process ≡ no_process

place_of : (xs : List Process) (m : Process) (p : ℕ) → IsBefore xs m p ⊎ (IsLast xs m p ⊎ IsBehind xs m p)
place_of [] m zero = inr (inl (record { place = refl; same = refl }))
place_of [] m (suc p) = inr (inr (record { same = refl }))
place_of (x ∷ xs) m zero = inl (record { same = refl; is_in = inl refl })
place_of (x ∷ xs) m (suc p) = further (place_of xs m p)
  where
    further : IsBefore xs m p ⊎ (IsLast xs m p ⊎ IsBehind xs m p) → IsBefore (x ∷ xs) m (suc p) ⊎ (IsLast (x ∷ xs) m (suc p) ⊎ IsBehind (x ∷ xs) m (suc p))
    further (inl h) = inl (record { same = h.same; is_in = inr h.is_in })
    further (inr (inl h)) = inr (inl (record { place = ap suc h.place; same = h.same }))
    further (inr (inr h)) = inr (inr (record { same = h.same }))

-- one more process, whose parts have numbers above those of its instance so far
once_added : {A : Type 0} (number : A → ℕ) (parts : Process → List A) (xs : List Process) (m : Process) (low high : ℕ) → ((x : A) → In x (parts no_process) → ⊥) →
    AreOnce number parts xs → Once number low high (parts m) → ((x : Process) → In x xs → instance_of x ≡ instance_of m → (y : A) → In y (parts x) → number y < low) → AreOnce number parts (xs ++ m ∷ [])
once_added {A = A} number parts xs m low high nothing all here earlier p q x y h k e same = by_places (place_of xs m p) (place_of xs m q)
  where
    by_places : IsBefore xs m p ⊎ (IsLast xs m p ⊎ IsBehind xs m p) → IsBefore xs m q ⊎ (IsLast xs m q ⊎ IsBehind xs m q) → (p ≡ q) × (x ≡ y)
    by_places (inl a) (inl b) = all p q x y (subst (λ z. In x (parts z)) a.same h) (subst (λ z. In y (parts z)) b.same k) (ap instance_of (sym a.same) ∙ (e ∙ ap instance_of b.same)) same
    by_places (inr (inl a)) (inr (inl b)) = (a.place ∙ sym b.place, here.same x y (subst (λ z. In x (parts z)) a.same h) (subst (λ z. In y (parts z)) b.same k) same)
    by_places (inl a) (inr (inl b)) =
        let below : number x < low = earlier _ a.is_in (ap instance_of (sym a.same) ∙ (e ∙ ap instance_of b.same)) x (subst (λ z. In x (parts z)) a.same h) in
        let from : low ≤ number y = (here.within y (subst (λ z. In y (parts z)) b.same k)).0 in
        absurd (omega arith)
    by_places (inr (inl a)) (inl b) =
        let below : number y < low = earlier _ b.is_in (ap instance_of (sym b.same) ∙ (sym e ∙ ap instance_of a.same)) y (subst (λ z. In y (parts z)) b.same k) in
        let from : low ≤ number x = (here.within x (subst (λ z. In x (parts z)) a.same h)).0 in
        absurd (omega arith)
    by_places (inr (inr a)) b = absurd (nothing x (subst (λ z. In x (parts z)) a.same h))
    by_places (inl a) (inr (inr b)) = absurd (nothing y (subst (λ z. In y (parts z)) b.same k))
    by_places (inr (inl a)) (inr (inr b)) = absurd (nothing y (subst (λ z. In y (parts z)) b.same k))

-- each process is in an instance, and no number is twice in one instance
record AreNumbered (st : Sofar) : Type 0 where
  instances : (x : Process) → In x st.design.processes → instance_of x < length st.design.instances
  lines : AreOnce line_number lines_of st.design.processes
  nodes : AreOnce node_number nodes_of st.design.processes

-- a process that stood there before instance i was opened
record IsEarlier (before : Sofar) (x : Process) : Type 0 where
  is_in : In x before.design.processes
  instance : instance_of x < length before.design.instances

-- a process of instance i or of one below it, the first with numbers below these
record IsLater (before : Sofar) (l n : ℕ) (x : Process) : Type 0 where
  instance : length before.design.instances ≤ instance_of x
  lines : instance_of x ≡ length before.design.instances → (y : LineAt) → In y (lines_of x) → y.line < l
  nodes : instance_of x ≡ length before.design.instances → (y : NodeAt) → In y (nodes_of x) → y.node < n

-- what was added since an instance was opened has numbers below those that come next
abbrev AreBelow : Instantiation → Sofar → Progress → Sofar → Type 0
AreBelow i before r now = (x : Process) → In x now.design.processes → IsEarlier before x ⊎ IsLater before r.lines r.nodes x

abbrev Numbered : Instantiation → Sofar → Progress → Sofar → Type 0
Numbered = Kept AreNumbered AreBelow

numbered_process : (m : Made) (i : Instantiation) (before st : Sofar) (r : Progress) (l2 n2 : ℕ) → instance_of m.process ≡ length before.design.instances → length before.design.instances < length st.design.instances → r.lines ≤ l2 → r.nodes ≤ n2 →
    HasNumbers r.lines l2 r.nodes n2 m.process → Numbered i before r st → Numbered i before (progress l2 n2 r.ones) (add_process m st)
numbered_process m i before st r l2 n2 is less more_lines more_nodes here kept = record {
  holds = record {
    instances = λ x k. by_instance x (in_append x st.design.processes (m.process ∷ []) k);
    lines = once_added line_number lines_of st.design.processes m.process r.lines l2 (λ x k. k) kept.holds.lines here.lines (λ x x_in same. earlier_lines x (kept.added x x_in) (same ∙ is));
    nodes = once_added node_number nodes_of st.design.processes m.process r.nodes n2 (λ x k. k) kept.holds.nodes here.nodes (λ x x_in same. earlier_nodes x (kept.added x x_in) (same ∙ is));
  };
  added = λ x k. by_place x (in_append x st.design.processes (m.process ∷ []) k);
}
  where
    by_instance : (x : Process) → In x st.design.processes ⊎ In x (m.process ∷ []) → instance_of x < length st.design.instances
    by_instance x (inl k) = kept.holds.instances x k
    by_instance x (inr (inl e)) = subst (λ z. instance_of z < length st.design.instances) e (subst (λ z. z < length st.design.instances) (sym is) less)
    by_instance x (inr (inr k)) = absurd k

    earlier_lines : (x : Process) → IsEarlier before x ⊎ IsLater before r.lines r.nodes x → instance_of x ≡ length before.design.instances → (y : LineAt) → In y (lines_of x) → y.line < r.lines
    earlier_lines x (inl h) same y k = let first : instance_of x < length before.design.instances = h.instance in absurd (omega arith)
    earlier_lines x (inr h) same y k = h.lines same y k

    earlier_nodes : (x : Process) → IsEarlier before x ⊎ IsLater before r.lines r.nodes x → instance_of x ≡ length before.design.instances → (y : NodeAt) → In y (nodes_of x) → y.node < r.nodes
    earlier_nodes x (inl h) same y k = let first : instance_of x < length before.design.instances = h.instance in absurd (omega arith)
    earlier_nodes x (inr h) same y k = h.nodes same y k

    wider : (x : Process) → IsEarlier before x ⊎ IsLater before r.lines r.nodes x → IsEarlier before x ⊎ IsLater before l2 n2 x
    wider x (inl h) = inl h
    wider x (inr h) = inr (record {
      instance = h.instance;
      lines = λ same y k. let below : y.line < r.lines = h.lines same y k in omega arith;
      nodes = λ same y k. let below : y.node < r.nodes = h.nodes same y k in omega arith;
    })

    by_place : (x : Process) → In x st.design.processes ⊎ In x (m.process ∷ []) → IsEarlier before x ⊎ IsLater before l2 n2 x
    by_place x (inl k) = wider x (kept.added x k)
    by_place x (inr (inl e)) = inr (subst (IsLater before l2 n2) e (record { instance = omega (arith, is); lines = λ same y k. (here.lines.within y k).1; nodes = λ same y k. (here.nodes.within y k).1 }))
    by_place x (inr (inr k)) = absurd k

numbered_opened : (i : Instantiation) (st : Sofar) → AreNumbered st → Numbered i st (progress 1 1 []) (opened i st)
numbered_opened i st h = record {
  holds = record { instances = λ x k. let before : instance_of x < length st.design.instances = h.instances x k in omega (arith, length-append st.design.instances (record { path = i.path; «module» = i.of_module.name.name } ∷ [])); lines = h.lines; nodes = h.nodes };
  added = λ x k. inl (record { is_in = k; instance = h.instances x k });
}

-- what an instance below added is in later instances
numbered_inside : (i j : Instantiation) (before at now : Sofar) (r last : Progress) → length before.design.instances < length at.design.instances → AreBelow i before r at → AreBelow j at last now → AreBelow i before r now
numbered_inside i j before at now r last less outer inner x k = by_place (inner x k)
  where
    by_place : IsEarlier at x ⊎ IsLater at last.lines last.nodes x → IsEarlier before x ⊎ IsLater before r.lines r.nodes x
    by_place (inl h) = outer x h.is_in
    by_place (inr h) =
        let from : length at.design.instances ≤ instance_of x = h.instance in
        inr (record { instance = omega arith; lines = λ same y l. absurd (omega arith); nodes = λ same y l. absurd (omega arith) })

numbered_walk : (base : ℕ) (ms : List Module) → Walk base ms AreNumbered (λ depth i st. Unit {0}) AreBelow
numbered_walk base ms = record {
  meets = λ i before st r h. record { holds = record { instances = h.holds.instances; lines = h.holds.lines; nodes = h.holds.nodes }; added = h.added };
  opens = λ depth i st free known h. numbered_opened i st h;
  assigns = λ depth i before st here x x_in y v l n os assigned free h.
      let g = (context base i before).scope in
      numbered_process _ i before st (progress l n os) l (n + (nodes g y + nodes g v)) refl (instance_here i before st here.continues) (omega arith) (omega arith) (assign_numbers base g (length before.design.instances) y v l n) h;
  runs = λ depth i before st here x x_in w s l n os form free h.
      let g = (context base i before).scope in
      numbered_process _ i before st (progress l n os) (l + lines s) (n + statement_nodes g s) (process_instance g (length before.design.instances) w s (statement base g s l n)) (instance_here i before st here.continues) (omega arith) (omega arith) (always_numbers base g (length before.design.instances) w s l n) h;
  inputs = λ depth i before at st x k m o inside r j s joined way free h.
      numbered_process _ i before st r r.lines r.nodes refl (outer_here i (inner_of (context base i before) x.place k m o) before at st inside.outer.continues inside.continues) (omega arith) (omega arith) (uncounted_numbers r.lines r.nodes (length before.design.instances) _ _) h;
  outputs = λ depth i before at st x k m o inside r j s joined way free h.
      numbered_process _ i before st r r.lines r.nodes refl (outer_here i (inner_of (context base i before) x.place k m o) before at st inside.outer.continues inside.continues) (omega arith) (omega arith) (uncounted_numbers r.lines r.nodes (length before.design.instances) _ _) h;
  below = λ depth i before st here l n os h x k m o under later whole. tt;
  inside = λ depth i before at now x k m o within l n os outer last inner.
      numbered_inside i (inner_of (context base i before) x.place k m o) before at now (progress l n os) last (instance_here i before at within.outer.continues) outer inner;
  skips = λ i before st l n os more h. h;
}

answered_once : (ms : List Module) (top : List ℕ) → IsSound ms top → AreNumbered (elaborated ms top)
answered_once ms top sound =
    answered_walks ms top AreNumbered (λ depth i st. Unit {0}) AreBelow (numbered_walk (base_of ms top) ms) (λ m found. tt)
    (record { instances = λ x h. absurd h; lines = λ p q x y h k e same. absurd h; nodes = λ p q x y h k e same. absurd h }) sound

-- no number is twice in an instance of the design
pub record HasNumbersOnce (d : Design) : Type 0 where
  pub lines_once : (p q : ℕ) (x y : LineAt) → In x (lines_of (process_at d p)) → In y (lines_of (process_at d q)) → instance_of (process_at d p) ≡ instance_of (process_at d q) → x.line ≡ y.line → (p ≡ q) × (x ≡ y)
  pub nodes_once : (p q : ℕ) (x y : NodeAt) → In x (nodes_of (process_at d p)) → In y (nodes_of (process_at d q)) → instance_of (process_at d p) ≡ instance_of (process_at d q) → x.node ≡ y.node → (p ≡ q) × (x ≡ y)

pub answered_numbers : (ms : List Module) (top : List ℕ) (d : Design) → answer ms top ≡ Ok d → HasNumbersOnce d
answered_numbers ms top d e =
    let h = answered_once ms top (answered_sound ms top d e) in
    subst HasNumbersOnce (answered_design ms top d e) (record { lines_once = h.lines; nodes_once = h.nodes })
