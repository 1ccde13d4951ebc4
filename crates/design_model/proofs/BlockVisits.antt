-- The points of a block and what it visits; and visits that are all inside a map, or else reach a thing outside it.
use Rattle.std.proofs.Common.{◌≡◌, ◌⊎◌, inl, inr, ⊎_elim, ℕ, Bool, true, false, ◌&&◌, ◌==◌, not, List, [], ◌∷◌, length, nat_le, refl, sym, subst, eq-eqb}
use Rattle.std.proofs.lemmas.Bool.{and_from, and_parts, or_left, or_right}
use Rattle.event_machine.specs.Cell.{Values}
use Rattle.four_state.specs.declared.bit.Bit.{Bit}
use Rattle.design_model.specs.Tree.{Stmt, Target, Targets, Term, a_target, all_of, bits_of, no_targets, several, word_of}
use Rattle.design_model.specs.Design.{Design, In, IsThing, Thing, a_word, body_at, cell, is_memory, owner}
use Rattle.design_model.specs.Mentions.{any_set, body_mentions, may_write, some_may_write}
use Rattle.design_model.specs.Execution.{Execution, Visit, at_line, at_node, execution, execution_start, reads, writes_word}
use Rattle.design_model.specs.Paths.{Action, Path, assigns, compares, reaches, selects, tests}
use Rattle.design_model.specs.Reads.{Agrees, AllInside, HasValue, PartialMap, UpToOutside}
use Rattle.design_model.specs.Run.{Run, StepOf}
use Rattle.design_model.specs.Scored.{VisitsIn}
use Rattle.design_model.specs.Points.{HitIn, IsBlock, Point, arc_point, line_point, logic_point, state_point, toggle_point, word_point}
use Rattle.design_model.specs.Open.{ActionWrites, IsVisitOf, SomeTargetWord, TargetWord}
use Rattle.design_model.specs.DecidedLaw.{IsBlockPoint}
use Rattle.design_model.proofs.Along.{ActionHas, AllActions, do_action, do_path, execute_along}
use Rattle.design_model.proofs.Mentions.{AllReads, IsReadOf, execute_reads}
use Rattle.design_model.proofs.OpenPath.{each_any}
use Rattle.design_model.proofs.ReadThings.{AllThings, IsThingRead}
use Rattle.design_model.proofs.WithinMap.{execution_same, inside_outer}
use Rattle.design_model.proofs.VisitedOpen.{action_seen}

-- it cannot be that neither the visits are inside nor a thing outside is read
pub all_inside : (K : PartialMap) (xs : List Visit) → ((y : Thing) → UpToOutside K (reads y false) xs → (HasValue K y → ⊥) → ⊥) → (AllInside K xs → ⊥) → ⊥
all_inside K [] out done = done tt
all_inside K (at_line n ∷ xs) out done = all_inside K xs (λ y u. out y (inr (tt, u))) (λ a. done (tt, a))
all_inside K (at_node n c ∷ xs) out done = all_inside K xs (λ y u. out y (inr (tt, u))) (λ a. done (tt, a))
all_inside K (writes_word m i ∷ xs) out done = all_inside K xs (λ y u. out y (inr (tt, u))) (λ a. done (tt, a))
all_inside K (reads x true ∷ xs) out done = all_inside K xs (λ y u. out y (inr (tt, u))) (λ a. done (tt, a))
all_inside K (reads x false ∷ xs) out done = out x (inl refl) (λ has. all_inside K xs (λ y u. out y (inr (has, u))) (λ a. done (has, a)))

pub upto_thing : (d : Design) (K : PartialMap) (y : Thing) (xs : List Visit) → AllThings d xs → UpToOutside K (reads y false) xs → IsThing d y
upto_thing d K y [] a u = absurd u
upto_thing d K y (x ∷ xs) a (inl e) = subst (IsThingRead d) e a.0
upto_thing d K y (x ∷ xs) a (inr u) = upto_thing d K y xs a.1 u.1

-- where the visits are inside, each state that agrees has them
pub same_visit : (d : Design) (K : PartialMap) (b : Stmt) (v w : Values Bit) → Agrees d K v → Agrees d K w → AllInside K (execution d b v).visits → (y : Visit) → In y (execution d b v).visits → In y (execution d b w).visits
same_visit d K b v w av aw inside y h = subst (In y) (execution_same d v w b (inside_outer d K v w av aw (execution d b v).visits inside)).visits h

read_mentioned : (Q : ℕ → Type 0) (x : Thing) (inner : Bool) (xs : List Visit) → AllReads Q xs → In (reads x inner) xs → Q (owner x)
read_mentioned Q x inner [] a h = absurd h
read_mentioned Q x inner (y ∷ xs) a (inl e) = subst (IsReadOf Q) e a.0
read_mentioned Q x inner (y ∷ xs) a (inr h) = read_mentioned Q x inner xs a.1 h

mutual
  word_may : (d : Design) (m : ℕ) (x : Target) (i : Term) → nat_le (length d.signals) m ≡ true → TargetWord m x i → may_write d x (cell m 0) ≡ true
  word_may d m (all_of s) i is h = absurd h
  word_may d m (bits_of s low w) i is h = absurd h
  word_may d m (word_of n j) i is h = and_from (m == n) (nat_le (length d.signals) n) (eq-eqb m n (sym h.0)) (subst (λ z. nat_le (length d.signals) z ≡ true) (sym h.0) is)
  word_may d m (several ts) i is h = some_word_may d m ts i is h

  some_word_may : (d : Design) (m : ℕ) (ts : Targets) (i : Term) → nat_le (length d.signals) m ≡ true → SomeTargetWord m ts i → some_may_write d ts (cell m 0) ≡ true
  some_word_may d m no_targets i is h = absurd h
  some_word_may d m (a_target t ts) i is (inl h) = or_left (may_write d t (cell m 0)) (some_may_write d ts (cell m 0)) (word_may d m t i is h)
  some_word_may d m (a_target t ts) i is (inr h) = or_right (may_write d t (cell m 0)) (some_may_write d ts (cell m 0)) (some_word_may d m ts i is h)

module _ (d : Design) (b : Stmt) (m k : ℕ) where
  -- an assignment of the body
  abbrev IsOne : Bool → Target → Term → Type 0
  IsOne blocking x t = (f : Bool → Target → Term → Bool) → f blocking x t ≡ true → any_set f b ≡ true

  abbrev Writes : Type 0
  Writes = (blocking : Bool) × (x : Target) × (t : Term) × (i : Term) × IsOne blocking x t × TargetWord m x i

  one_writes : (a : Action) → ActionHas IsOne a → (i : Term) → ActionWrites m a i → Writes
  one_writes (assigns blocking x t) s i h = (blocking, x, t, i, s, h)
  one_writes (reaches n) s i h = absurd h
  one_writes (tests t taken) s i h = absurd h
  one_writes (selects t) s i h = absurd h
  one_writes (compares kind on t taken) s i h = absurd h

  path_writes : (path : Path) (r : Execution) → AllActions IsOne path → In (writes_word m k) (do_path d path r).visits → In (writes_word m k) r.visits ⊎ Writes
  path_writes [] r s h = inl h
  path_writes (x ∷ xs) r s h =
      ⊎_elim
      (λ before. ⊎_elim inl (λ seen. inr (one_writes x.action s.0 seen.0 seen.1)) (action_seen d (writes_word m k) x.action r before))
      inr
      (path_writes xs (do_action d x.action r) s.1 h)

  -- a body that visits a written word has an assignment to the memory
  body_writes : (v : Values Bit) → In (writes_word m k) (execution d b v).visits → Writes
  body_writes v h =
      let a = execute_along d IsOne [] b (each_any b) (execution_start v) in
      ⊎_elim (λ none. absurd none) (λ w. w) (path_writes a.path (execution_start v) a.actions (subst (λ z. In (writes_word m k) z.visits) a.is h))

pub word_block : (d : Design) (m i p : ℕ) (v : Values Bit) → is_memory d m ≡ true → In (writes_word m i) (execution d (body_at d p) v).visits → IsBlock d (word_point m i true) p
word_block d m i p v is h = go (body_writes d (body_at d p) m i v h)
  where
    above : nat_le (length d.signals) m ≡ true
    above = (and_parts (nat_le (length d.signals) m) _ is).0

    go : Writes d (body_at d p) m i → IsBlock d (word_point m i true) p
    go (true, x, t, j, s, w) = (cell m 0, refl, inl (s (λ k y u. k && may_write d y (cell m 0)) (word_may d m x j above w)))
    go (false, x, t, j, s, w) = (cell m 0, refl, inr (s (λ k y u. not k && may_write d y (cell m 0)) (word_may d m x j above w)))

-- a hit in a step, as a visit of a block
pub record HitVisit (d : Design) (r : Run) (k : StepOf r) (x : Point) : Type 0 where
  pub process : ℕ
  pub is_block : IsBlock d x process
  pub visit : Visit
  pub is : IsVisitOf x visit
  pub visits : VisitsIn d r k process visit

pub hit_visit : (d : Design) (r : Run) (k : StepOf r) (x : Point) → IsBlockPoint d x → HitIn d r k x → HitVisit d r k x
hit_visit d r k (line_point p n at w) point hit = record { process = p; is_block = refl; visit = at_line n; is = refl; visits = hit }
hit_visit d r k (logic_point p n at op c) point hit = record { process = p; is_block = refl; visit = at_node n c; is = refl; visits = hit }
hit_visit d r k (word_point m i true) point hit = record { process = hit.0; is_block = word_block d m i hit.0 hit.1.0 point.0 hit.1.2; visit = writes_word m i; is = refl; visits = hit.1 }
hit_visit d r k (word_point m i false) point hit =
    record {
      process = hit.0;
      is_block = read_mentioned (λ y. body_mentions y (body_at d hit.0) ≡ true) (a_word m i) hit.1 (execution d (body_at d hit.0) hit.2.0).visits (execute_reads (λ y. body_mentions y (body_at d hit.0) ≡ true) d (body_at d hit.0) (λ y e. e) (execution_start hit.2.0) tt) hit.2.2;
      visit = reads (a_word m i) hit.1;
      is = (hit.1, refl);
      visits = hit.2;
    }
hit_visit d r k (toggle_point s i rise) point hit = absurd point
hit_visit d r k (state_point i name s state y) point hit = absurd point
hit_visit d r k (arc_point i name s from to y z) point hit = absurd point

pub visit_hit : (d : Design) (r : Run) (k : StepOf r) (x : Point) (p : ℕ) (y : Visit) → IsBlock d x p → IsVisitOf x y → VisitsIn d r k p y → HitIn d r k x
visit_hit d r k (line_point q n at w) p y is_block is visits = subst (λ z. VisitsIn d r k z (at_line n)) is_block (subst (VisitsIn d r k p) is visits)
visit_hit d r k (logic_point q n at op c) p y is_block is visits = subst (λ z. VisitsIn d r k z (at_node n c)) is_block (subst (VisitsIn d r k p) is visits)
visit_hit d r k (word_point m i true) p y is_block is visits = (p, subst (VisitsIn d r k p) is visits)
visit_hit d r k (word_point m i false) p y is_block is visits = (p, is.0, subst (VisitsIn d r k p) is.1 visits)
visit_hit d r k (toggle_point s i rise) p y is_block is visits = absurd is
visit_hit d r k (state_point i name s state bits) p y is_block is visits = absurd is
visit_hit d r k (arc_point i name s from to old new) p y is_block is visits = absurd is
