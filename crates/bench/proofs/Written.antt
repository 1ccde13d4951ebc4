-- What a body assigns is what it assigns by blocking and by nonblocking assignments.
use Rattle.std.proofs.Common.{Bool, List, ap, ap₂, false, not, refl, sym, true, ℕ, ◌++◌, ◌==◌, ◌∙◌, ◌&&◌, ◌||◌, ◌≡◌}
use Rattle.std.proofs.lemmas.Bool.{or_parts, true≢false}
use Rattle.std.proofs.lemmas.List.Folds.{list_any-append}
use Rattle.design_model.specs.Mentions.{any_set_in, any_set_of, body_assigns, body_blocks, body_queues, target_names}
use Rattle.design_model.specs.Tree.{Arms, Stmt, Stmts, Target, Term, a_stmt, arm, block, branch, empty, no_arms, no_stmts, select, set, turns}
use Rattle.body_calls.specs.Own.{is_in}
use Rattle.process_names.specs.Assigned.{assigned}
use Rattle.process_names.specs.Laws.{BlockingNamesLaw, NonblockingNamesLaw}

module _ (x : ℕ) where
  abbrev all : Bool → Target → Term → Bool
  all b y t = target_names x y

  abbrev now : Bool → Target → Term → Bool
  now b y t = b && target_names x y

  abbrev later : Bool → Target → Term → Bool
  later b y t = not b && target_names x y

  mutual
    none_assigned : (s : Stmt) → body_blocks x s ≡ false → body_queues x s ≡ false → body_assigns x s ≡ false
    none_assigned (block p ss) e f = none_of ss e f
    none_assigned (branch p n t s other) e f =
        let a = or_parts (body_blocks x s) (any_set_of now other) e in
        let b = or_parts (body_queues x s) (any_set_of later other) f in
        ap₂ (λ u v. u || v) (none_assigned s a.0 b.0) (none_of other a.1 b.1)
    none_assigned (select p n kind t arms) e f = none_in arms e f
    none_assigned (turns p n ss) e f = none_of ss e f
    none_assigned (set p n true y t) e f = e
    none_assigned (set p n false y t) e f = f
    none_assigned (empty p) e f = refl

    none_of : (ss : Stmts) → any_set_of now ss ≡ false → any_set_of later ss ≡ false → any_set_of all ss ≡ false
    none_of no_stmts e f = refl
    none_of (a_stmt s ss) e f =
        let a = or_parts (body_blocks x s) (any_set_of now ss) e in
        let b = or_parts (body_queues x s) (any_set_of later ss) f in
        ap₂ (λ u v. u || v) (none_assigned s a.0 b.0) (none_of ss a.1 b.1)

    none_in : (arms : Arms) → any_set_in now arms ≡ false → any_set_in later arms ≡ false → any_set_in all arms ≡ false
    none_in no_arms e f = refl
    none_in (arm labels s arms) e f =
        let a = or_parts (body_blocks x s) (any_set_in now arms) e in
        let b = or_parts (body_queues x s) (any_set_in later arms) f in
        ap₂ (λ u v. u || v) (none_assigned s a.0 b.0) (none_in arms a.1 b.1)

pub assigned_if : (x : ℕ) (s : Stmt) → body_assigns x s ≡ true → (body_blocks x s || body_queues x s) ≡ true
assigned_if x s h = go (body_blocks x s) (body_queues x s) refl refl
  where
    go : (b c : Bool) → body_blocks x s ≡ b → body_queues x s ≡ c → (b || c) ≡ true
    go true c e f = refl
    go false true e f = refl
    go false false e f = absurd (true≢false (sym h ∙ none_assigned x s e f))

either : (a b c : Bool) → (b || c) ≡ true → ((a || b) || c) ≡ true
either true b c h = refl
either false b c h = h

-- what a body assigns is in the list of its names, after any others
pub in_names : BlockingNamesLaw → NonblockingNamesLaw → (xs : List ℕ) (s : Stmt) (x : ℕ) → body_assigns x s ≡ true → is_in ((xs ++ assigned true s) ++ assigned false s) x ≡ true
in_names blocking nonblocking xs s x e =
    list_any-append (λ y. y == x) (xs ++ assigned true s) (assigned false s)
    ∙ ap₂ (λ a b. a || b) (list_any-append (λ y. y == x) xs (assigned true s) ∙ ap (λ b. is_in xs x || b) (blocking s x)) (nonblocking s x)
    ∙ either (is_in xs x) (body_blocks x s) (body_queues x s) (assigned_if x s e)
