-- An execution on a state that agrees with a map goes along an open path; so a line point that is surely open is visited.
use Rattle.std.proofs.Common.{◌≡◌, inl, inr, ℕ, Bool, true, false, ◌&&◌, List, [], ◌∷◌, ◌++◌, refl, sym, ap, ap₂, subst, ◌∙◌}
use Rattle.std.proofs.lemmas.Bool.{and_from, or_left, or_right, false≢true, both_ways}
use Rattle.cov_host.specs.declared.place.Place.{Place}
use Rattle.event_machine.specs.Cell.{Cell, Values}
use Rattle.four_state.specs.Operators.{matches}
use Rattle.four_state.specs.Vector.{extend, truth}
use Rattle.four_state.specs.declared.bit.Bit.{Bit}
use Rattle.design_model.specs.Tree.{Arms, Stmt, Stmts, Target, Term, a_stmt, arm, block, branch, empty, no_arms, no_stmts, select, set, turns}
use Rattle.design_model.specs.Design.{Design, In}
use Rattle.design_model.specs.Value.{head, value}
use Rattle.design_model.specs.Assignment.{target_width}
use Rattle.design_model.specs.Mentions.{any_set, any_set_in, any_set_of, body_blocks, may_write, mentions, target_names}
use Rattle.design_model.specs.Execution.{Execution, Visit, assignment_writes, at_line, at_node, execution, execution_start, reads, writes_word}
use Rattle.design_model.specs.Numbered.{LineWord}
use Rattle.design_model.specs.Paths.{Action, Path, PlacedAction, assigns, compares, paths, reaches, selects, tests}
use Rattle.design_model.specs.Reads.{Agrees, PartialMap}
use Rattle.design_model.specs.Points.{line_point}
use Rattle.design_model.specs.Open.{FollowsAll, FollowsFixed, IsFixed, IsOpenPath, IsSurelyOpen, is_true, outer}
use Rattle.design_model.proofs.Agree.{AllOuter, value_same}
use Rattle.design_model.proofs.Along.{AllActions, Along, Decides, ActionDecides, ActionHas, assign_visits, do_action, do_path, execute_along}
use Rattle.design_model.proofs.Execution.{EachSet, EachSetIn, EachSetOf, each_gives, each_gives_in, each_gives_of}
use Rattle.design_model.proofs.Lawful.{names_from}
use Rattle.design_model.proofs.Mentions.{AllReads, term_reads}
use Rattle.design_model.proofs.Named.{length-fit, writes_named}
use Rattle.design_model.proofs.Sound.{cells_eq}
use Rattle.design_model.proofs.WithinMap.{inside_outer}
use Rattle.design_model.proofs.Untouched.{put_other}

-- where an assignment passes a test, the body has one that does
mutual
  pub each_any : (s : Stmt) → EachSet (λ n b x t. (f : Bool → Target → Term → Bool) → f b x t ≡ true → any_set f s ≡ true) s
  each_any (block p ss) = each_any_of ss
  each_any (branch p n t s other) = (each_gives (λ n b x t k f e. or_left (any_set f s) (any_set_of f other) (k f e)) s (each_any s), each_gives_of (λ n b x t k f e. or_right (any_set f s) (any_set_of f other) (k f e)) other (each_any_of other))
  each_any (select p n kind t arms) = each_any_in arms
  each_any (turns p n ss) = each_any_of ss
  each_any (set p n b x t) = λ f e. e
  each_any (empty p) = tt

  each_any_of : (ss : Stmts) → EachSetOf (λ n b x t. (f : Bool → Target → Term → Bool) → f b x t ≡ true → any_set_of f ss ≡ true) ss
  each_any_of no_stmts = tt
  each_any_of (a_stmt s ss) = (each_gives (λ n b x t k f e. or_left (any_set f s) (any_set_of f ss) (k f e)) s (each_any s), each_gives_of (λ n b x t k f e. or_right (any_set f s) (any_set_of f ss) (k f e)) ss (each_any_of ss))

  each_any_in : (arms : Arms) → EachSetIn (λ n b x t. (f : Bool → Target → Term → Bool) → f b x t ≡ true → any_set_in f arms ≡ true) arms
  each_any_in no_arms = tt
  each_any_in (arm labels s arms) = (each_gives (λ n b x t k f e. or_left (any_set f s) (any_set_in f arms) (k f e)) s (each_any s), each_gives_in (λ n b x t k f e. or_right (any_set f s) (any_set_in f arms) (k f e)) arms (each_any_in arms))

mentioned_outer : (d : Design) (u w : Values Bit) (t : Term) → ((c : Cell) → mentions c.thing t ≡ true → u c ≡ w c) → (xs : List Visit) → AllReads (λ y. mentions y t ≡ true) xs → AllOuter d u w xs
mentioned_outer d u w t same [] a = tt
mentioned_outer d u w t same (at_line n ∷ xs) a = (tt, mentioned_outer d u w t same xs a.1)
mentioned_outer d u w t same (at_node n c ∷ xs) a = (tt, mentioned_outer d u w t same xs a.1)
mentioned_outer d u w t same (writes_word m i ∷ xs) a = (tt, mentioned_outer d u w t same xs a.1)
mentioned_outer d u w t same (reads x true ∷ xs) a = (tt, mentioned_outer d u w t same xs a.1)
mentioned_outer d u w t same (reads x false ∷ xs) a = (cells_eq d u w x (λ c at. same c (subst (λ y. mentions y t ≡ true) (sym at) a.0)), mentioned_outer d u w t same xs a.1)

-- the value of a term depends on what it mentions
value_mentions : (d : Design) (u w : Values Bit) (t : Term) → ((c : Cell) → mentions c.thing t ≡ true → u c ≡ w c) → value d u t ≡ value d w t
value_mentions d u w t same = value_same d u w outer (λ x e. absurd (false≢true e)) t (mentioned_outer d u w t same _ (term_reads (λ y. mentions y t ≡ true) d u outer t (λ y e. e)))

module _ (d : Design) (K : PartialMap) (b : Stmt) (v : Values Bit) (av : Agrees d K v) where
  -- what the body does not write by blocking assignments is as on entry
  abbrev pub IsUnchanged : Execution → Type 0
  IsUnchanged r = (c : Cell) → body_blocks c.thing b ≡ false → r.values c ≡ v c

  -- a blocking assignment of the body
  abbrev pub IsOfBody : Bool → Target → Term → Type 0
  IsOfBody k x t = k ≡ true → (c : Cell) → may_write d x c ≡ true → body_blocks c.thing b ≡ true

  of_body : EachSet (λ n. IsOfBody) b
  of_body = each_gives (λ n k x t any on c w. any (λ k x t. k && target_names c.thing x) (and_from k (target_names c.thing x) on (names_from d x c w))) b (each_any b)

  pub unchanged_after : (x : Action) (r : Execution) → ActionHas IsOfBody x → IsUnchanged r → IsUnchanged (do_action d x r)
  unchanged_after (reaches n) r s u c away = u c away
  unchanged_after (tests t k) r s u c away = u c away
  unchanged_after (selects t) r s u c away = u c away
  unchanged_after (compares kind on t k) r s u c away = u c away
  unchanged_after (assigns false x t) r s u c away = u c away
  unchanged_after (assigns true x t) r s u c away =
      put_other r.values (assignment_writes d x t r) c (λ has. both_ways (body_blocks c.thing b) away (s refl c (writes_named d r.values x (extend (target_width d x) (head t).signed (value d r.values t)) c (length-fit (target_width d x) _ (value d r.values t)) has))) ∙ u c away

  -- a fixed term has on the way the value that it has on each state that agrees
  pub fixed_value : (t : Term) (r : Execution) → IsUnchanged r → IsFixed d K b t → (w : Values Bit) → Agrees d K w → value d r.values t ≡ value d w t
  fixed_value t r u fixed w aw =
      value_mentions d r.values v t (λ c m. u c (fixed.unwritten c.thing m)) ∙ value_same d v w outer (λ x e. absurd (false≢true e)) t (inside_outer d K v w av aw _ (fixed.within v av))

  follows_here : (x : Action) (r : Execution) → IsUnchanged r → ActionDecides d x r → FollowsFixed d K b x
  follows_here (reaches n) r u e = tt
  follows_here (tests t k) r u e = λ fixed w aw. ap (λ y. is_true (truth y)) (sym (fixed_value t r u fixed w aw)) ∙ e
  follows_here (selects t) r u e = tt
  follows_here (compares kind on t k) r u e = λ fixed_on fixed w aw. ap₂ (λ y z. matches kind y z) (sym (fixed_value on r u fixed_on w aw)) (sym (fixed_value t r u fixed w aw)) ∙ e
  follows_here (assigns k x t) r u e = tt

  follows_all : (path : Path) (r : Execution) → IsUnchanged r → AllActions IsOfBody path → Decides d path r → FollowsAll d K b path
  follows_all [] r u s e = tt
  follows_all (x ∷ xs) r u s e = (follows_here x.action r u e.0, follows_all xs (do_action d x.action r) (unchanged_after x.action r s.0 u) s.1 e.1)

  -- the execution goes along an open path
  pub open_path : (a : Along d IsOfBody (paths [] b) (execution_start v) (execution d b v)) → IsOpenPath d K b a.path
  open_path a = record { is_path = a.is_path; follows = follows_all a.path (execution_start v) (λ c e. refl) a.actions a.decides }

  pub the_path : Along d IsOfBody (paths [] b) (execution_start v) (execution d b v)
  the_path = execute_along d IsOfBody [] b of_body (execution_start v)

In-first : {A : Type 0} (x : A) (xs ys : List A) → In x xs → In x (xs ++ ys)
In-first x [] ys h = absurd h
In-first x (z ∷ xs) ys (inl e) = inl e
In-first x (z ∷ xs) ys (inr h) = inr (In-first x xs ys h)

In-last : {A : Type 0} (x : A) (xs : List A) → In x (xs ++ x ∷ [])
In-last x [] = inl refl
In-last x (z ∷ xs) = inr (In-last x xs)

-- what was visited stays visited
pub seen_stays : (d : Design) (y : Visit) (path : Path) (r : Execution) → In y r.visits → In y (do_path d path r).visits
seen_stays d y [] r h = h
seen_stays d y (x ∷ xs) r h = seen_stays d y xs (do_action d x.action r) (one x.action)
  where
    one : (x : Action) → In y (do_action d x r).visits
    one (reaches n) = In-first y r.visits _ h
    one (tests t k) = In-first y r.visits _ h
    one (selects t) = In-first y r.visits _ h
    one (compares kind on t k) = In-first y r.visits _ h
    one (assigns true x t) = In-first y r.visits (assign_visits d x t r) h
    one (assigns false x t) = In-first y r.visits (assign_visits d x t r) h

line_seen : (d : Design) (n : ℕ) (x : PlacedAction) (path : Path) (r : Execution) → In x path → x.action ≡ reaches n → In (at_line n) (do_path d path r).visits
line_seen d n x [] r h e = absurd h
line_seen d n x (z ∷ zs) r (inl is) e = seen_stays d (at_line n) zs (do_action d z.action r) (subst (λ y. In (at_line n) (do_action d y r).visits) (sym (ap (λ y. y.action) is ∙ e)) (In-last (at_line n) r.visits))
line_seen d n x (z ∷ zs) r (inr h) e = line_seen d n x zs (do_action d z.action r) h e

-- a line point that is surely open from K is visited on each state that agrees with K
pub line_visited : (d : Design) (K : PartialMap) (b : Stmt) (v : Values Bit) → Agrees d K v → (p n : ℕ) (at : Place) (w : LineWord) → IsSurelyOpen d K b (line_point p n at w) → In (at_line n) (execution d b v).visits
line_visited d K b v av p n at w sure =
    let a = the_path d K b v av in
    let here = sure.1 a.path (open_path d K b v av a) in
    subst (λ y. In (at_line n) y.visits) (sym a.is) (line_seen d n here.0 a.path (execution_start v) here.1 here.3)
