-- The machine of a lawful design is lawful.
use Rattle.std.proofs.Common.{◌≡◌, ◌⊎◌, inl, inr, ⊎_elim, ℕ, ◌<◌, Bool, true, false, not, ◌&&◌, ◌==◌, List, [], ◌∷◌, ◌++◌, length, refl, sym, subst, arith, eq-eqb}
use Rattle.std.proofs.lemmas.Bool.{and_from, and_parts, or_cases, or_left, or_right, ltb-true, leb-true, eqb-true, false≢true, both_ways}
use Rattle.std.specs.Prelude.{nat_lt, nat_le}
use Rattle.std.specs.List.{list_all, list_any}
use Rattle.event_machine.specs.Machine.{Edge as MachineEdge}
use Rattle.event_machine.specs.Cell.{Cell, Update, UpdatesCell, Values, WritesCell}
use Rattle.event_machine.specs.Machine.{IsTarget, Negedge, Posedge}
use Rattle.four_state.specs.Vector.{extend, same_bit}
use Rattle.four_state.specs.declared.bit.Bit.{Bit}
use Rattle.four_state.specs.declared.bit.Bit.TheVariants.{One, X, Z, Zero}
use Rattle.four_state.specs.declared.edge.Edge.{Edge}
use Rattle.design_model.specs.Tree.{Arms, Process, Stmt, Stmts, Target, Targets, Term, a_stmt, a_target, all_of, arm, assign, bits_of, block, branch, clocked, comb, empty, no_arms, no_stmts, no_targets, select, set, several, turns, word_of}
use Rattle.design_model.specs.Design.{Design, IsAssign, body_at, process_at, signal_at}
use Rattle.design_model.specs.Value.{head, value}
use Rattle.design_model.specs.Assignment.{target_width, target_writes}
use Rattle.design_model.specs.Mentions.{any_set, any_set_in, any_set_of, blocking_target, body_assigns, may_write, nonblocking_target, some_may_write, some_target_names, target_names}
use Rattle.design_model.specs.Execution.{Execution, execute_assignment, execution, execution_start}
use Rattle.design_model.specs.Machine.{events_of, is_edge, lists_edge, machine, same_edge}
use Rattle.design_model.specs.Lawful.{IsLawfulDesign}
use Rattle.design_model.proofs.Execution.{each_fails, each_gives, execute_keeps}
use Rattle.design_model.proofs.Named.{WritesCell-halves, length-fit, writes_named}

pub same_bit_is : (x y : Bit) → same_bit x y ≡ true → x ≡ y
same_bit_is Zero Zero e = refl
same_bit_is One One e = refl
same_bit_is X X e = refl
same_bit_is Z Z e = refl
same_bit_is Zero One e = absurd (false≢true e)
same_bit_is Zero X e = absurd (false≢true e)
same_bit_is Zero Z e = absurd (false≢true e)
same_bit_is One Zero e = absurd (false≢true e)
same_bit_is One X e = absurd (false≢true e)
same_bit_is One Z e = absurd (false≢true e)
same_bit_is X Zero e = absurd (false≢true e)
same_bit_is X One e = absurd (false≢true e)
same_bit_is X Z e = absurd (false≢true e)
same_bit_is Z Zero e = absurd (false≢true e)
same_bit_is Z One e = absurd (false≢true e)
same_bit_is Z X e = absurd (false≢true e)

pub same_bit_self : (x : Bit) → same_bit x x ≡ true
same_bit_self Zero = refl
same_bit_self One = refl
same_bit_self X = refl
same_bit_self Z = refl

pub no_edge : (e : MachineEdge) (x : Bit) → is_edge e x x ≡ false
no_edge Posedge Zero = refl
no_edge Posedge One = refl
no_edge Posedge X = refl
no_edge Posedge Z = refl
no_edge Negedge Zero = refl
no_edge Negedge One = refl
no_edge Negedge X = refl
no_edge Negedge Z = refl

UpdatesCell-halves : (us ws : List (Update Bit)) (c : Cell) → UpdatesCell (us ++ ws) c → UpdatesCell us c ⊎ UpdatesCell ws c
UpdatesCell-halves [] ws c h = inr h
UpdatesCell-halves (u ∷ us) ws c (inl e) = inl (inl e)
UpdatesCell-halves (u ∷ us) ws c (inr h) = ⊎_elim (λ a. inl (inr a)) (λ b. inr b) (UpdatesCell-halves us ws c h)

flip : (a b : ℕ) → (a == b) ≡ true → (b == a) ≡ true
flip a b e = eq-eqb b a (sym (eqb-true a b e))

-- an assignment that may not write the cell does not write it
module _ (d : Design) (c : Cell) where
  abbrev LeavesBlocking : Execution → Type 0
  LeavesBlocking r = WritesCell r.blocking c → ⊥

  abbrev LeavesQueued : Execution → Type 0
  LeavesQueued r = UpdatesCell r.nonblocking c → ⊥

  set_blocking : (n : ℕ) (b : Bool) (x : Target) (t : Term) → (b && may_write d x c) ≡ false → (r : Execution) → LeavesBlocking r → LeavesBlocking (execute_assignment d n b x t r)
  set_blocking n false x t e r h has = h has
  set_blocking n true x t e r h has =
      let bs : List Bit = extend (target_width d x) (head t).signed (value d r.values t) in
      ⊎_elim h (λ new. both_ways (may_write d x c) e (writes_named d r.values x bs c (length-fit (target_width d x) _ (value d r.values t)) new)) (WritesCell-halves r.blocking (target_writes d r.values x bs) c has)

  set_queued : (n : ℕ) (b : Bool) (x : Target) (t : Term) → (not b && may_write d x c) ≡ false → (r : Execution) → LeavesQueued r → LeavesQueued (execute_assignment d n b x t r)
  set_queued n true x t e r h has = h has
  set_queued n false x t e r h has =
      let bs : List Bit = extend (target_width d x) (head t).signed (value d r.values t) in
      ⊎_elim h (λ new. ⊎_elim (λ w. both_ways (may_write d x c) e (writes_named d r.values x bs c (length-fit (target_width d x) _ (value d r.values t)) w)) (λ none. none) new) (UpdatesCell-halves r.nonblocking (target_writes d r.values x bs ∷ []) c has)

  pub blocking_kept : (s : Stmt) (v : Values Bit) → WritesCell (execution d s v).blocking c → blocking_target d s c ≡ true
  blocking_kept s v h = go (blocking_target d s c) refl
    where
      go : (t : Bool) → blocking_target d s c ≡ t → t ≡ true
      go true e = refl
      go false e =
          absurd (execute_keeps d LeavesBlocking (λ r vs k. k) s (each_gives set_blocking s (each_fails (λ b x t. b && may_write d x c) s e)) (execution_start v) (λ none. none) h)

  pub queued_kept : (s : Stmt) (v : Values Bit) → UpdatesCell (execution d s v).nonblocking c → nonblocking_target d s c ≡ true
  queued_kept s v h = go (nonblocking_target d s c) refl
    where
      go : (t : Bool) → nonblocking_target d s c ≡ t → t ≡ true
      go true e = refl
      go false e =
          absurd (execute_keeps d LeavesQueued (λ r vs k. k) s (each_gives set_queued s (each_fails (λ b x t. not b && may_write d x c) s e)) (execution_start v) (λ none. none) h)

-- a test that is weaker passes too
mutual
  pub any_weaker : (f g : Bool → Target → Term → Bool) → ((b : Bool) (x : Target) (t : Term) → f b x t ≡ true → g b x t ≡ true) → (s : Stmt) → any_set f s ≡ true → any_set g s ≡ true
  any_weaker f g w (block p ss) e = any_weaker_of f g w ss e
  any_weaker f g w (branch p n t s other) e =
      ⊎_elim (λ a. or_left (any_set g s) _ (any_weaker f g w s a)) (λ a. or_right (any_set g s) _ (any_weaker_of f g w other a)) (or_cases (any_set f s) (any_set_of f other) e)
  any_weaker f g w (select p n kind t arms) e = any_weaker_in f g w arms e
  any_weaker f g w (turns p n ss) e = any_weaker_of f g w ss e
  any_weaker f g w (set p n b x t) e = w b x t e
  any_weaker f g w (empty p) e = e

  any_weaker_of : (f g : Bool → Target → Term → Bool) → ((b : Bool) (x : Target) (t : Term) → f b x t ≡ true → g b x t ≡ true) → (ss : Stmts) → any_set_of f ss ≡ true → any_set_of g ss ≡ true
  any_weaker_of f g w no_stmts e = e
  any_weaker_of f g w (a_stmt s ss) e =
      ⊎_elim (λ a. or_left (any_set g s) _ (any_weaker f g w s a)) (λ a. or_right (any_set g s) _ (any_weaker_of f g w ss a)) (or_cases (any_set f s) (any_set_of f ss) e)

  any_weaker_in : (f g : Bool → Target → Term → Bool) → ((b : Bool) (x : Target) (t : Term) → f b x t ≡ true → g b x t ≡ true) → (arms : Arms) → any_set_in f arms ≡ true → any_set_in g arms ≡ true
  any_weaker_in f g w no_arms e = e
  any_weaker_in f g w (arm labels s arms) e =
      ⊎_elim (λ a. or_left (any_set g s) _ (any_weaker f g w s a)) (λ a. or_right (any_set g s) _ (any_weaker_in f g w arms a)) (or_cases (any_set f s) (any_set_in f arms) e)

-- a target that may write a cell names its thing
mutual
  pub names_from : (d : Design) (x : Target) (c : Cell) → may_write d x c ≡ true → target_names c.thing x ≡ true
  names_from d (all_of s) c e = flip c.thing s (and_parts (c.thing == s) _ e).0
  names_from d (bits_of s low w) c e = flip c.thing s (and_parts (c.thing == s) _ e).0
  names_from d (word_of m i) c e = flip c.thing m (and_parts (c.thing == m) _ e).0
  names_from d (several ts) c e = some_names_from d ts c e

  some_names_from : (d : Design) (ts : Targets) (c : Cell) → some_may_write d ts c ≡ true → some_target_names c.thing ts ≡ true
  some_names_from d no_targets c e = e
  some_names_from d (a_target t ts) c e =
      ⊎_elim (λ a. or_left (target_names c.thing t) _ (names_from d t c a)) (λ a. or_right (target_names c.thing t) _ (some_names_from d ts c a)) (or_cases (may_write d t c) (some_may_write d ts c) e)

-- a signal's cell that a target may write is one of its bits
mutual
  pub place_from : (d : Design) (x : Target) (c : Cell) → c.thing < length d.signals → may_write d x c ≡ true → c.place < (signal_at d c.thing).width
  place_from d (all_of s) c h e = let r = and_parts (c.thing == s) (nat_lt c.place (signal_at d s).width) e in subst (λ y. c.place < (signal_at d y).width) (sym (eqb-true c.thing s r.0)) (ltb-true _ _ r.1)
  place_from d (bits_of s low w) c h e =
      let r = and_parts (c.thing == s) _ e in
      subst (λ y. c.place < (signal_at d y).width) (sym (eqb-true c.thing s r.0)) (ltb-true _ _ (and_parts (nat_lt c.place (signal_at d s).width) _ r.1).0)
  place_from d (word_of m i) c h e =
      let r = and_parts (c.thing == m) (nat_le (length d.signals) m) e in
      absurd (omega (arith, h, eqb-true c.thing m r.0, leb-true (length d.signals) m r.1))
  place_from d (several ts) c h e = some_place_from d ts c h e

  some_place_from : (d : Design) (ts : Targets) (c : Cell) → c.thing < length d.signals → some_may_write d ts c ≡ true → c.place < (signal_at d c.thing).width
  some_place_from d no_targets c h e = absurd (false≢true e)
  some_place_from d (a_target t ts) c h e = ⊎_elim (place_from d t c h) (some_place_from d ts c h) (or_cases (may_write d t c) (some_may_write d ts c) e)

-- what an assignment of the body may write; from it the laws of lawful designs
pub may_any : (d : Design) (s : Stmt) (c : Cell) → (blocking_target d s c ≡ true) ⊎ (nonblocking_target d s c ≡ true) → any_set (λ b x t. may_write d x c) s ≡ true
may_any d s c (inl e) = any_weaker (λ b x t. b && may_write d x c) (λ b x t. may_write d x c) (λ b x t h. (and_parts b (may_write d x c) h).1) s e
may_any d s c (inr e) = any_weaker (λ b x t. not b && may_write d x c) (λ b x t. may_write d x c) (λ b x t h. (and_parts (not b) (may_write d x c) h).1) s e

pub assigns_any : (d : Design) (s : Stmt) (c : Cell) → (blocking_target d s c ≡ true) ⊎ (nonblocking_target d s c ≡ true) → body_assigns c.thing s ≡ true
assigns_any d s c e = any_weaker (λ b x t. may_write d x c) (λ b x t. target_names c.thing x) (λ b x t h. names_from d x c h) s (may_any d s c e)

-- where some assignment passes a test, what follows from each that does
mutual
  pub any_gives : (f : Bool → Target → Term → Bool) (P : Type 0) → ((b : Bool) (x : Target) (t : Term) → f b x t ≡ true → P) → (s : Stmt) → any_set f s ≡ true → P
  any_gives f P g (block p ss) e = any_gives_of f P g ss e
  any_gives f P g (branch p n t s other) e = ⊎_elim (any_gives f P g s) (any_gives_of f P g other) (or_cases (any_set f s) (any_set_of f other) e)
  any_gives f P g (select p n kind t arms) e = any_gives_in f P g arms e
  any_gives f P g (turns p n ss) e = any_gives_of f P g ss e
  any_gives f P g (set p n b x t) e = g b x t e
  any_gives f P g (empty p) e = absurd (false≢true e)

  any_gives_of : (f : Bool → Target → Term → Bool) (P : Type 0) → ((b : Bool) (x : Target) (t : Term) → f b x t ≡ true → P) → (ss : Stmts) → any_set_of f ss ≡ true → P
  any_gives_of f P g no_stmts e = absurd (false≢true e)
  any_gives_of f P g (a_stmt s ss) e = ⊎_elim (any_gives f P g s) (any_gives_of f P g ss) (or_cases (any_set f s) (any_set_of f ss) e)

  any_gives_in : (f : Bool → Target → Term → Bool) (P : Type 0) → ((b : Bool) (x : Target) (t : Term) → f b x t ≡ true → P) → (arms : Arms) → any_set_in f arms ≡ true → P
  any_gives_in f P g no_arms e = absurd (false≢true e)
  any_gives_in f P g (arm labels s arms) e = ⊎_elim (any_gives f P g s) (any_gives_in f P g arms) (or_cases (any_set f s) (any_set_in f arms) e)

pub assign_or : (x : Process) → IsAssign x ⊎ (IsAssign x → ⊥)
assign_or (assign i x t counted) = inl tt
assign_or (comb i wakes s) = inr (λ h. h)
assign_or (clocked i events s) = inr (λ h. h)

-- an event signal has one bit
pub event_one : (d : Design) (e : MachineEdge) (c : Cell) (events : List (Edge × ℕ)) → list_any (λ f. same_edge f.0 e && (f.1 == c.thing)) events ≡ true → list_all (λ f. nat_lt f.1 (length d.signals) && ((signal_at d f.1).width == 1)) events ≡ true → (c.thing < length d.signals) × ((signal_at d c.thing).width ≡ 1)
event_one d e c [] some all = absurd (false≢true some)
event_one d e c (f ∷ fs) some all =
    let here = and_parts (nat_lt f.1 (length d.signals) && ((signal_at d f.1).width == 1)) _ all in
    ⊎_elim
    (λ found.
    let same : f.1 ≡ c.thing = eqb-true f.1 c.thing (and_parts (same_edge f.0 e) (f.1 == c.thing) found).1 in
    let fits = and_parts (nat_lt f.1 (length d.signals)) ((signal_at d f.1).width == 1) here.0 in
    subst (λ y. (y < length d.signals) × ((signal_at d y).width ≡ 1)) same (ltb-true _ _ fits.0, eqb-true _ _ fits.1))
    (λ later. event_one d e c fs later here.1)
    (or_cases (same_edge f.0 e && (f.1 == c.thing)) _ some)

pub edge_one : (d : Design) (x : Process) (e : MachineEdge) (c : Cell) → lists_edge x e c ≡ true → list_all (λ f. nat_lt f.1 (length d.signals) && ((signal_at d f.1).width == 1)) (events_of x) ≡ true → (c.place ≡ 0) × (c.thing < length d.signals) × ((signal_at d c.thing).width ≡ 1)
edge_one d (assign i x t counted) e c h all = absurd (false≢true h)
edge_one d (comb i wakes s) e c h all = absurd (false≢true h)
edge_one d (clocked i events s) e c h all =
    let r = and_parts (c.place == 0) _ h in
    let one = event_one d e c events r.1 all in
    (eqb-true _ _ r.0, one.0, one.1)

same_cells : (b c : Cell) → b.thing ≡ c.thing → b.place ≡ c.place → b ≡ c
same_cells b c p q = λ i. record { thing = p i; place = q i }

-- the laws of a machine, except those of its Assigns
module _ (d : Design) (lawful : IsLawfulDesign d) where
  pub inputs_kept : (p : ℕ) (c : Cell) → (machine d).is_input c ≡ true → IsTarget (machine d) p c → ⊥
  inputs_kept p c input target = both_ways _ (lawful.no_input p c.thing (assigns_any d (body_at d p) c target)) (and_parts (signal_at d c.thing).input _ input).0

  pub not_both : (p : ℕ) (c : Cell) → (machine d).blocking p c ≡ true → (machine d).nonblocking p c ≡ true → ⊥
  not_both p c blocks queues =
      lawful.not_both p p c.thing
      (any_weaker (λ b x t. b && may_write d x c) (λ b x t. b && target_names c.thing x) (λ b x t h. let r = and_parts b _ h in and_from b _ r.0 (names_from d x c r.1)) (body_at d p) blocks)
      (any_weaker (λ b x t. not b && may_write d x c) (λ b x t. not b && target_names c.thing x) (λ b x t h. let r = and_parts (not b) _ h in and_from (not b) _ r.0 (names_from d x c r.1)) (body_at d p) queues)

  pub one_writer : (p q : ℕ) (c : Cell) → IsTarget (machine d) p c → IsTarget (machine d) q c → p ≡ q
  one_writer p q c tp tq = go (assign_or (process_at d p)) (assign_or (process_at d q))
    where
      go : IsAssign (process_at d p) ⊎ (IsAssign (process_at d p) → ⊥) → IsAssign (process_at d q) ⊎ (IsAssign (process_at d q) → ⊥) → p ≡ q
      go (inl ap') (inl aq) = lawful.one_driver p q c ap' aq (may_any d (body_at d p) c tp) (may_any d (body_at d q) c tq)
      go (inl ap') (inr nq) = absurd (nq (lawful.apart p q c.thing ap' (assigns_any d (body_at d p) c tp) (assigns_any d (body_at d q) c tq)))
      go (inr np) (inl aq) = absurd (np (lawful.apart q p c.thing aq (assigns_any d (body_at d q) c tq) (assigns_any d (body_at d p) c tp)))
      go (inr np) (inr nq) = lawful.one_writer p q c.thing np nq (assigns_any d (body_at d p) c tp) (assigns_any d (body_at d q) c tq)

  pub input_has_one_bit : (p : ℕ) (e : MachineEdge) (c b : Cell) → (machine d).edge p e c ≡ true → (machine d).is_input b ≡ true → b.thing ≡ c.thing → b ≡ c
  input_has_one_bit p e c b edge input same =
      let one = edge_one d (process_at d p) e c edge (lawful.events p) in
      let below : b.place < (signal_at d b.thing).width = ltb-true _ _ (and_parts (signal_at d b.thing).input _ input).1 in
      let below' : b.place < (signal_at d c.thing).width = subst (λ y. b.place < (signal_at d y).width) same below in
      same_cells b c same (omega (arith, below', one.0, one.2))

  pub target_has_one_bit : (p q : ℕ) (e : MachineEdge) (c b : Cell) → (machine d).edge p e c ≡ true → IsTarget (machine d) q b → b.thing ≡ c.thing → b ≡ c
  target_has_one_bit p q e c b edge target same =
      let one = edge_one d (process_at d p) e c edge (lawful.events p) in
      let is_signal : b.thing < length d.signals = subst (λ y. y < length d.signals) (sym same) one.1 in
      let below : b.place < (signal_at d b.thing).width = any_gives (λ x y t. may_write d y b) _ (λ x y t h. place_from d y b is_signal h) (body_at d q) (may_any d (body_at d q) b target) in
      let below' : b.place < (signal_at d c.thing).width = subst (λ y. b.place < (signal_at d y).width) same below in
      same_cells b c same (omega (arith, below', one.0, one.2))
