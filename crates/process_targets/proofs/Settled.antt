-- What an Assign or Comb assigns it assigns by blocking assignments, and it is a signal.
use Rattle.std.proofs.Common.{◌≡◌, inl, ℕ, ◌&&◌, ◌||◌, Bool, true, false, not, refl, ap₂}
use Rattle.std.proofs.lemmas.Bool.{false≢true, true≢false}
use Rattle.design_model.specs.Design.{Design, IsClocked, body, process_at}
use Rattle.design_model.specs.Lawful.{IsLawfulDesign, target_once}
use Rattle.design_model.specs.Mentions.{any_set, any_set_in, any_set_of, body_assigns, body_blocks, target_names}
use Rattle.design_model.specs.Tree.{Arms, Process, Stmt, Stmts, Target, Term, a_stmt, arm, assign, block, branch, clocked, comb, empty, no_arms, no_stmts, select, set, turns}
use Rattle.design_model.proofs.BodyLaws.{settled_signals_law}
use Rattle.design_model.proofs.TargetCells.{target_cells_law}
use Rattle.process_targets.specs.Laws.{SettledLaw}

first_none : (a b : Bool) → (a || b) ≡ false → a ≡ false
first_none true b h = h
first_none false b h = refl

rest_none : (a b : Bool) → (a || b) ≡ false → b ≡ false
rest_none true b h = absurd (true≢false h)
rest_none false b h = h

module _ (named : Target → Bool) where
  abbrev queues : Bool → Target → Term → Bool
  queues k x t = not k

  abbrev blocks : Bool → Target → Term → Bool
  blocks k x t = k && named x

  abbrev sets : Bool → Target → Term → Bool
  sets k x t = named x

  one_set : (k b : Bool) → not k ≡ false → (k && b) ≡ b
  one_set true b h = refl
  one_set false b h = absurd (true≢false h)

  mutual
    body_blocking : (s : Stmt) → any_set queues s ≡ false → any_set blocks s ≡ any_set sets s
    body_blocking (block p ss) h = bodies_blocking ss h
    body_blocking (branch p n t s other) h =
        ap₂ (λ a b. a || b) (body_blocking s (first_none (any_set queues s) (any_set_of queues other) h)) (bodies_blocking other (rest_none (any_set queues s) (any_set_of queues other) h))
    body_blocking (select p n kind t arms) h = arms_blocking arms h
    body_blocking (turns p n ss) h = bodies_blocking ss h
    body_blocking (set p n k x t) h = one_set k (named x) h
    body_blocking (empty p) h = refl

    bodies_blocking : (ss : Stmts) → any_set_of queues ss ≡ false → any_set_of blocks ss ≡ any_set_of sets ss
    bodies_blocking no_stmts h = refl
    bodies_blocking (a_stmt s ss) h =
        ap₂ (λ a b. a || b) (body_blocking s (first_none (any_set queues s) (any_set_of queues ss) h)) (bodies_blocking ss (rest_none (any_set queues s) (any_set_of queues ss) h))

    arms_blocking : (arms : Arms) → any_set_in queues arms ≡ false → any_set_in blocks arms ≡ any_set_in sets arms
    arms_blocking no_arms h = refl
    arms_blocking (arm labels s arms) h =
        ap₂ (λ a b. a || b) (body_blocking s (first_none (any_set queues s) (any_set_in queues arms) h)) (arms_blocking arms (rest_none (any_set queues s) (any_set_in queues arms) h))

not_false : (b : Bool) → not b ≡ true → b ≡ false
not_false true h = absurd (false≢true h)
not_false false h = refl

process_blocks : (d : Design) (p : Process) (x : ℕ) → (IsClocked p → ⊥) → target_once p d ≡ true → body_blocks x (body p) ≡ body_assigns x (body p)
process_blocks d (assign i y t counted) x settles once = refl
process_blocks d (comb i wakes s) x settles once = body_blocking (target_names x) s (not_false (any_set (λ k y t. not k) s) once)
process_blocks d (clocked i events s) x settles once = absurd (settles tt)

pub settled_law : (d : Design) → IsLawfulDesign d → SettledLaw d
settled_law d lawful p settles = record {
  named = λ x. process_blocks d (process_at d p) x settles (lawful.targets p);
  signals = λ c h. settled_signals_law d lawful p c.thing settles (target_cells_law d p c (inl h));
}
