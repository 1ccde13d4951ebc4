-- Each execution goes along a path: it does the actions of the path in order.
use Rattle.std.proofs.Common.{◌≡◌, inl, inr, ℕ, suc, Bool, true, false, ◌||◌, List, [], ◌∷◌, ◌++◌, append_assoc, append-nil, refl, sym, ap, subst, ◌∙◌, if◌then◌else◌}
use Rattle.std.specs.Prelude.{⊤}
use Rattle.std.proofs.lemmas.Bool.{true≢false, false≢true}
use Rattle.four_state.specs.Operators.{matches}
use Rattle.four_state.specs.Vector.{truth}
use Rattle.four_state.specs.declared.bit.Bit.{Bit}
use Rattle.four_state.specs.declared.operator.CaseKind.{CaseKind}
use Rattle.four_state.specs.declared.truth.Truth.{Truth}
use Rattle.four_state.specs.declared.truth.Truth.TheVariants.{False, Strange, True}
use Rattle.design_model.specs.Tree.{Arms, Stmt, Stmts, Target, Term, Terms, a_stmt, a_term, arm, block, branch, empty, no_arms, no_stmts, no_terms, select, set, turns}
use Rattle.design_model.specs.Design.{Design, In}
use Rattle.design_model.specs.Value.{value}
use Rattle.design_model.specs.Execution.{Execution, Visit, assignment_writes, at_line, choose, evaluate, execute, execute_all, execute_arms, execute_assignment, execute_default, index_visits, is_default, is_inner, label_visits, queue_update, some_match, visits_of, with_visits, words_written, write_now}
use Rattle.design_model.specs.Paths.{Action, Path, PlacedAction, assigns, compares, followed_by, matching_ways, passing_actions, paths, paths_all, paths_default, paths_of, preceded_by, reaches, selects, action_at, tests}
use Rattle.design_model.specs.Open.{is_true}
use Rattle.design_model.proofs.Execution.{EachSet, EachSetIn, EachSetOf}

-- what an assignment visits after its line point
abbrev pub assign_visits : Design → Target → Term → Execution → List Visit
assign_visits d x t r = index_visits d r.values (is_inner d r) x ++ visits_of d r.values (is_inner d r) t ++ words_written d r.values x

abbrev pub do_action : Design → Action → Execution → Execution
do_action d (reaches n) r = with_visits r (at_line n ∷ [])
do_action d (tests t b) r = evaluate d t r
do_action d (selects t) r = evaluate d t r
do_action d (compares kind on t b) r = evaluate d t r
do_action d (assigns b x t) r =
    if b then write_now (assignment_writes d x t r) (with_visits r (assign_visits d x t r)) else queue_update (assignment_writes d x t r) (with_visits r (assign_visits d x t r))

abbrev pub do_path : Design → Path → Execution → Execution
do_path d [] r = r
do_path d (x ∷ xs) r = do_path d xs (do_action d x.action r)

do_append : (d : Design) (p q : Path) (r : Execution) → do_path d (p ++ q) r ≡ do_path d q (do_path d p r)
do_append d [] q r = refl
do_append d (x ∷ xs) q r = do_append d xs q (do_action d x.action r)

-- a fact of each assignment of a path
abbrev pub ActionHas : (Bool → Target → Term → Type 0) → Action → Type 0
ActionHas S (reaches n) = ⊤
ActionHas S (tests t b) = ⊤
ActionHas S (selects t) = ⊤
ActionHas S (compares kind on t b) = ⊤
ActionHas S (assigns b x t) = S b x t

abbrev pub AllActions : (Bool → Target → Term → Type 0) → Path → Type 0
AllActions S [] = ⊤
AllActions S (x ∷ xs) = ActionHas S x.action × AllActions S xs

-- the path decides as the values at each test do
abbrev pub ActionDecides : Design → Action → Execution → Type 0
ActionDecides d (reaches n) r = ⊤
ActionDecides d (tests t b) r = is_true (truth (value d r.values t)) ≡ b
ActionDecides d (selects t) r = ⊤
ActionDecides d (compares kind on t b) r = matches kind (value d r.values on) (value d r.values t) ≡ b
ActionDecides d (assigns b x t) r = ⊤

abbrev pub Decides : Design → Path → Execution → Type 0
Decides d [] r = ⊤
Decides d (x ∷ xs) r = ActionDecides d x.action r × Decides d xs (do_action d x.action r)

decides_append : (d : Design) (p q : Path) (r : Execution) → Decides d p r → Decides d q (do_path d p r) → Decides d (p ++ q) r
decides_append d [] q r a b = b
decides_append d (x ∷ xs) q r a b = (a.0, decides_append d xs q (do_action d x.action r) a.1 b)

actions_append : (S : Bool → Target → Term → Type 0) (p q : Path) → AllActions S p → AllActions S q → AllActions S (p ++ q)
actions_append S [] q a b = b
actions_append S (x ∷ xs) q a b = (a.0, actions_append S xs q a.1 b)

pub In-left : {A : Type 0} (x : A) (xs ys : List A) → In x xs → In x (xs ++ ys)
In-left x [] ys h = absurd h
In-left x (z ∷ xs) ys (inl e) = inl e
In-left x (z ∷ xs) ys (inr h) = inr (In-left x xs ys h)

pub In-right : {A : Type 0} (x : A) (xs ys : List A) → In x ys → In x (xs ++ ys)
In-right x [] ys h = h
In-right x (z ∷ xs) ys h = inr (In-right x xs ys h)

In-preceded : (xs : List PlacedAction) (p : Path) (ps : List Path) → In p ps → In (xs ++ p) (preceded_by xs ps)
In-preceded xs p [] h = absurd h
In-preceded xs p (q ∷ ps) (inl e) = inl (ap (λ y. xs ++ y) e)
In-preceded xs p (q ∷ ps) (inr h) = inr (In-preceded xs p ps h)

In-each : (p q : Path) (ps qs : List Path) → In p ps → In q qs → In (p ++ q) (followed_by ps qs)
In-each p q [] qs h k = absurd h
In-each p q (x ∷ ps) qs (inl e) k = In-left (p ++ q) (preceded_by x qs) (followed_by ps qs) (subst (λ y. In (y ++ q) (preceded_by x qs)) e (In-preceded x q qs k))
In-each p q (x ∷ ps) qs (inr h) k = In-right (p ++ q) (preceded_by x qs) (followed_by ps qs) (In-each p q ps qs h k)

-- the trace s is that of one of these paths from r
pub record Along (d : Design) (S : Bool → Target → Term → Type 0) (ps : List Path) (r s : Execution) : Type 0 where
  pub path : Path
  pub is_path : In path ps
  pub actions : AllActions S path
  pub is : s ≡ do_path d path r
  pub decides : Decides d path r

module _ (d : Design) (S : Bool → Target → Term → Type 0) where
  abbrev pub SetOf : ℕ → Bool → Target → Term → Type 0
  SetOf n b x t = S b x t

  along_left : (ps qs : List Path) (r s : Execution) → Along d S ps r s → Along d S (ps ++ qs) r s
  along_left ps qs r s a = record { path = a.path; is_path = In-left a.path ps qs a.is_path; actions = a.actions; is = a.is; decides = a.decides }

  along_right : (ps qs : List Path) (r s : Execution) → Along d S qs r s → Along d S (ps ++ qs) r s
  along_right ps qs r s a = record { path = a.path; is_path = In-right a.path ps qs a.is_path; actions = a.actions; is = a.is; decides = a.decides }

  along_preceded : (xs : List PlacedAction) (ps : List Path) (r s : Execution) → AllActions S xs → Decides d xs r → Along d S ps (do_path d xs r) s → Along d S (preceded_by xs ps) r s
  along_preceded xs ps r s h k a = record { path = xs ++ a.path; is_path = In-preceded xs a.path ps a.is_path; actions = actions_append S xs a.path h a.actions; is = a.is ∙ sym (do_append d xs a.path r); decides = decides_append d xs a.path r k a.decides }

  along_each : (ps qs : List Path) (r s t : Execution) → Along d S ps r s → Along d S qs s t → Along d S (followed_by ps qs) r t
  along_each ps qs r s t a b =
      record {
        path = a.path ++ b.path;
        is_path = In-each a.path b.path ps qs a.is_path b.is_path;
        actions = actions_append S a.path b.path a.actions b.actions;
        is = b.is ∙ ap (do_path d b.path) a.is ∙ sym (do_append d a.path b.path r);
        decides = decides_append d a.path b.path r a.decides (subst (Decides d b.path) a.is b.decides);
      }

  along_end : (r : Execution) → Along d S ([] ∷ []) r r
  along_end r = record { path = []; is_path = inl refl; actions = tt; is = refl; decides = tt }

  -- visits in two parts
  visit_parts : (r : Execution) (xs ys : List Visit) → with_visits r (xs ++ ys) ≡ with_visits (with_visits r xs) ys
  visit_parts r xs ys = λ i. record { values = r.values; blocking = r.blocking; nonblocking = r.nonblocking; visits = sym (append_assoc r.visits xs ys) i }

  set_along : (n : ℕ) (b : Bool) (x : Target) (t : Term) (r : Execution) → execute_assignment d n b x t r ≡ do_action d (assigns b x t) (with_visits r (at_line n ∷ []))
  set_along n true x t r = ap (write_now (assignment_writes d x t r)) (visit_parts r (at_line n ∷ []) (assign_visits d x t r))
  set_along n false x t r = ap (queue_update (assignment_writes d x t r)) (visit_parts r (at_line n ∷ []) (assign_visits d x t r))

  -- visits change neither what labels match nor what they visit
  labels_later : (kind : CaseKind) (on : List Bit) (r : Execution) (vs : List Visit) (ts : Terms) → label_visits d kind on (with_visits r vs) ts ≡ label_visits d kind on r ts
  labels_later kind on r vs no_terms = refl
  labels_later kind on r vs (a_term t ts) = ap (λ ys. visits_of d r.values (is_inner d r) t ++ (if matches kind on (value d r.values t) then [] else ys)) (labels_later kind on r vs ts)

  -- the labels of an arm: passed, or up to the one that matches
  passing_is : (kind : CaseKind) (on : Term) (bits : List Bit) (at : List ℕ) (k : ℕ) (r : Execution) (ts : Terms) → bits ≡ value d r.values on → some_match d kind bits r.values ts ≡ false → AllActions S (passing_actions at k kind on ts) × Decides d (passing_actions at k kind on ts) r × (with_visits r (label_visits d kind bits r ts) ≡ do_path d (passing_actions at k kind on ts) r)
  passing_is kind on bits at k r no_terms same e = (tt, tt, λ i. record { values = r.values; blocking = r.blocking; nonblocking = r.nonblocking; visits = append-nil r.visits i })
  passing_is kind on bits at k r (a_term t ts) same e = go (matches kind bits (value d r.values t)) refl e (λ f. passing_is kind on bits at (suc k) (evaluate d t r) ts same f)
    where
      vs : List Visit
      vs = visits_of d r.values (is_inner d r) t

      go : (b : Bool) → matches kind bits (value d r.values t) ≡ b → (b || some_match d kind bits r.values ts) ≡ false → (some_match d kind bits r.values ts ≡ false → AllActions S (passing_actions at (suc k) kind on ts) × Decides d (passing_actions at (suc k) kind on ts) (evaluate d t r) × (with_visits (evaluate d t r) (label_visits d kind bits (evaluate d t r) ts) ≡ do_path d (passing_actions at (suc k) kind on ts) (evaluate d t r))) → AllActions S (passing_actions at k kind on (a_term t ts)) × Decides d (passing_actions at k kind on (a_term t ts)) r × (with_visits r (vs ++ (if b then [] else label_visits d kind bits r ts)) ≡ do_path d (passing_actions at (suc k) kind on ts) (evaluate d t r))
      go true m e ih = absurd (true≢false e)
      go false m e ih =
          ((tt, (ih e).0), (ap (λ y. matches kind y (value d r.values t)) (sym same) ∙ m, (ih e).1), visit_parts r vs (label_visits d kind bits r ts) ∙ ap (with_visits (evaluate d t r)) (sym (labels_later kind bits r vs ts)) ∙ (ih e).2)

  matching_is : (kind : CaseKind) (on : Term) (bits : List Bit) (at : List ℕ) (k : ℕ) (r : Execution) (ts : Terms) → bits ≡ value d r.values on → some_match d kind bits r.values ts ≡ true → Along d S (matching_ways at k kind on ts) r (with_visits r (label_visits d kind bits r ts))
  matching_is kind on bits at k r no_terms same e = absurd (false≢true e)
  matching_is kind on bits at k r (a_term t ts) same e = go (matches kind bits (value d r.values t)) refl e (λ f. matching_is kind on bits at (suc k) (evaluate d t r) ts same f)
    where
      vs : List Visit
      vs = visits_of d r.values (is_inner d r) t

      decided : (b : Bool) → matches kind bits (value d r.values t) ≡ b → matches kind (value d r.values on) (value d r.values t) ≡ b
      decided b m = ap (λ y. matches kind y (value d r.values t)) (sym same) ∙ m

      go : (b : Bool) → matches kind bits (value d r.values t) ≡ b → (b || some_match d kind bits r.values ts) ≡ true → (some_match d kind bits r.values ts ≡ true → Along d S (matching_ways at (suc k) kind on ts) (evaluate d t r) (with_visits (evaluate d t r) (label_visits d kind bits (evaluate d t r) ts))) → Along d S (matching_ways at k kind on (a_term t ts)) r (with_visits r (vs ++ (if b then [] else label_visits d kind bits r ts)))
      go true m e ih = record { path = action_at (k ∷ at) (compares kind on t true) ∷ []; is_path = inl refl; actions = (tt, tt); is = ap (with_visits r) (append-nil vs); decides = (decided true m, tt) }
      go false m e ih =
          along_right ((action_at (k ∷ at) (compares kind on t true) ∷ []) ∷ []) (preceded_by (action_at (k ∷ at) (compares kind on t false) ∷ []) (matching_ways at (suc k) kind on ts)) r _
          (subst (Along d S (preceded_by (action_at (k ∷ at) (compares kind on t false) ∷ []) (matching_ways at (suc k) kind on ts)) r)
          (sym (visit_parts r vs (label_visits d kind bits r ts) ∙ ap (with_visits (evaluate d t r)) (sym (labels_later kind bits r vs ts))))
          (along_preceded (action_at (k ∷ at) (compares kind on t false) ∷ []) (matching_ways at (suc k) kind on ts) r _ (tt, tt) (decided false m, tt) (ih e)))

  choose_along : (x y : Truth) → y ≡ x → (ps qs : List Path) (r a b : Execution) → (is_true y ≡ true → Along d S ps r a) → (is_true y ≡ false → Along d S qs r b) → Along d S (ps ++ qs) r (choose x a b)
  choose_along True y e ps qs r a b f g = along_left ps qs r a (f (ap is_true e))
  choose_along False y e ps qs r a b f g = along_right ps qs r b (g (ap is_true e))
  choose_along Strange y e ps qs r a b f g = along_right ps qs r b (g (ap is_true e))

  mutual
    pub execute_along : (at : List ℕ) (b : Stmt) → EachSet SetOf b → (r : Execution) → Along d S (paths at b) r (execute d b r)
    execute_along at (block p ss) e r = all_along at 0 ss e r
    execute_along at (branch p n t b other) e r =
        let r1 : Execution = with_visits r (at_line n ∷ []) in
        let tested : Execution = evaluate d t r1 in
        choose_along (truth (value d r.values t)) (truth (value d r.values t)) refl (preceded_by (action_at at (reaches n) ∷ action_at at (tests t true) ∷ []) (paths (0 ∷ at) b)) (preceded_by (action_at at (reaches n) ∷ action_at at (tests t false) ∷ []) (paths_all at 1 other)) r (execute d b tested) (execute_all d other tested)
        (λ yes'. along_preceded (action_at at (reaches n) ∷ action_at at (tests t true) ∷ []) (paths (0 ∷ at) b) r (execute d b tested) (tt, (tt, tt)) (tt, (yes', tt)) (execute_along (0 ∷ at) b e.0 tested))
        (λ no'. along_preceded (action_at at (reaches n) ∷ action_at at (tests t false) ∷ []) (paths_all at 1 other) r (execute_all d other tested) (tt, (tt, tt)) (tt, (no', tt)) (all_along at 1 other e.1 tested))
    execute_along at (select p n kind t arms) e r =
        let r1 : Execution = with_visits r (at_line n ∷ []) in
        let tested : Execution = evaluate d t r1 in
        along_preceded (action_at at (reaches n) ∷ action_at at (selects t) ∷ []) (paths_of at 0 kind t arms (paths_default at 0 arms)) r _ (tt, (tt, tt)) (tt, (tt, tt)) (arms_along at 0 kind t (value d r.values t) arms e (paths_default at 0 arms) (execute_default d arms) (λ s. default_along at 0 arms e s) tested refl)
    execute_along at (turns p n ss) e r = along_preceded (action_at at (reaches n) ∷ []) (paths_all at 0 ss) r _ (tt, tt) (tt, tt) (all_along at 0 ss e (with_visits r (at_line n ∷ [])))
    execute_along at (set p n b x t) e r = record { path = action_at at (reaches n) ∷ action_at at (assigns b x t) ∷ []; is_path = inl refl; actions = (tt, (e, tt)); is = set_along n b x t r; decides = (tt, (tt, tt)) }
    execute_along at (empty p) e r = along_end r

    pub all_along : (at : List ℕ) (k : ℕ) (ss : Stmts) → EachSetOf SetOf ss → (r : Execution) → Along d S (paths_all at k ss) r (execute_all d ss r)
    all_along at k no_stmts e r = along_end r
    all_along at k (a_stmt b ss) e r = along_each (paths (k ∷ at) b) (paths_all at (suc k) ss) r (execute d b r) _ (execute_along (k ∷ at) b e.0 r) (all_along at (suc k) ss e.1 (execute d b r))

    pub arms_along : (at : List ℕ) (k : ℕ) (kind : CaseKind) (on : Term) (bits : List Bit) (arms : Arms) → EachSetIn SetOf arms → (ps : List Path) (otherwise : Execution → Execution) → ((r : Execution) → Along d S ps r (otherwise r)) → (r : Execution) → bits ≡ value d r.values on → Along d S (paths_of at k kind on arms ps) r (execute_arms d kind bits arms otherwise r)
    arms_along at k kind on bits no_arms e ps otherwise o r same = o r
    arms_along at k kind on bits (arm labels b arms) e ps otherwise o r same =
        either (some_match d kind bits r.values labels) refl (execute_along (0 ∷ k ∷ at) b e.0 (with_visits r (label_visits d kind bits r labels))) (arms_along at (suc k) kind on bits arms e.1 ps otherwise o (with_visits r (label_visits d kind bits r labels)) same)
      where
        either : (m : Bool) → some_match d kind bits r.values labels ≡ m → Along d S (paths (0 ∷ k ∷ at) b) (with_visits r (label_visits d kind bits r labels)) (execute d b (with_visits r (label_visits d kind bits r labels))) → Along d S (paths_of at (suc k) kind on arms ps) (with_visits r (label_visits d kind bits r labels)) (execute_arms d kind bits arms otherwise (with_visits r (label_visits d kind bits r labels))) → Along d S (followed_by (matching_ways (k ∷ at) 1 kind on labels) (paths (0 ∷ k ∷ at) b) ++ preceded_by (passing_actions (k ∷ at) 1 kind on labels) (paths_of at (suc k) kind on arms ps)) r (if m then execute d b (with_visits r (label_visits d kind bits r labels)) else execute_arms d kind bits arms otherwise (with_visits r (label_visits d kind bits r labels)))
        either true m yes' no' = along_left (followed_by (matching_ways (k ∷ at) 1 kind on labels) (paths (0 ∷ k ∷ at) b)) _ r _ (along_each (matching_ways (k ∷ at) 1 kind on labels) (paths (0 ∷ k ∷ at) b) r _ _ (matching_is kind on bits (k ∷ at) 1 r labels same m) yes')
        either false m yes' no' =
            let q = passing_is kind on bits (k ∷ at) 1 r labels same m in
            along_right (followed_by (matching_ways (k ∷ at) 1 kind on labels) (paths (0 ∷ k ∷ at) b)) (preceded_by (passing_actions (k ∷ at) 1 kind on labels) (paths_of at (suc k) kind on arms ps)) r _
            (along_preceded (passing_actions (k ∷ at) 1 kind on labels) (paths_of at (suc k) kind on arms ps) r _ q.0 q.1 (subst (λ s. Along d S (paths_of at (suc k) kind on arms ps) s (execute_arms d kind bits arms otherwise (with_visits r (label_visits d kind bits r labels)))) q.2 no'))

    pub default_along : (at : List ℕ) (k : ℕ) (arms : Arms) → EachSetIn SetOf arms → (r : Execution) → Along d S (paths_default at k arms) r (execute_default d arms r)
    default_along at k no_arms e r = along_end r
    default_along at k (arm labels b arms) e r = either (is_default labels) (execute_along (0 ∷ k ∷ at) b e.0 r) (default_along at (suc k) arms e.1 r)
      where
        either : (m : Bool) → Along d S (paths (0 ∷ k ∷ at) b) r (execute d b r) → Along d S (paths_default at (suc k) arms) r (execute_default d arms r) → Along d S (if m then paths (0 ∷ k ∷ at) b else paths_default at (suc k) arms) r (if m then execute d b r else execute_default d arms r)
        either true f g = f
        either false f g = g
