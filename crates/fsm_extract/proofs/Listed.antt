-- What is in a list, by places and one by one.
use Rattle.std.proofs.Common.{◌≡◌, ◌∙◌, ⊎_elim, inl, inr, ℕ, suc, ◌==◌, ◌&&◌, true, ap₂, List, [], ◌∷◌, ◌++◌, Option, None, Some, map, get_or, refl, sym, ap, subst}
use Rattle.std.specs.List.{Contains, list_all}
use Rattle.std.proofs.lemmas.Bool.{and_from, and_parts, eqb-true}
use Rattle.design_model.specs.Design.{Design, In, body, no_process}
use Rattle.design_model.specs.Shape.{is_body}
use Rattle.design_model.specs.Tree.{Process}
use Rattle.design_model.specs.View.{design_view, process_view}
use Rattle.design_model.specs.declared.design.Design.{Design as CodeDesign}
use Rattle.design_model.specs.declared.tree.Process.{Process as CodeProcess}
use Rattle.design_model.specs.Lawful.{IsLawfulDesign}
use Rattle.state_machines.proofs.Members.{in_at, place_of}
use Rattle.fsm_extract.specs.Arcs.{IsArc, IsState}
use Rattle.fsm_extract.specs.Walked.{arcs_to, process_arcs, process_states}
use Rattle.fsm_extract.proofs.Drawn.{arc_of, arcs_drawn, drawn_arcs, drawn_states, in_left, in_right, in_split, states_drawn}

contains_in : {A : Type 0} (xs : List A) (x : A) → Contains xs x → In x xs
contains_in xs x h = subst (λ y. In y xs) h.2 (in_at xs h.0 x h.1)

in_contains : {A : Type 0} (xs : List A) (x : A) → In x xs → Contains xs x
in_contains xs x i = let p = place_of x xs x i in (p.0, p.1, p.2)

-- where nothing is open, an assignment draws nothing
pub none_open : (o : Option ℕ) → arcs_to [] o ≡ []
none_open None = refl
none_open (Some w) = refl

ends_in : (x : ℕ) (arcs : List (ℕ × ℕ)) → In x (map (λ a. a.1) arcs) → (v : ℕ) × In {A = ℕ × ℕ} (v, x) arcs
ends_in x [] i = absurd i
ends_in x (a ∷ arcs) (inl e) = (a.0, inl (ap (λ w. arc_of a.0 w) e))
ends_in x (a ∷ arcs) (inr i) = let r = ends_in x arcs i in (r.0, inr r.1)

in_ends : (v x : ℕ) (arcs : List (ℕ × ℕ)) → In {A = ℕ × ℕ} (v, x) arcs → In x (map (λ a. a.1) arcs)
in_ends v x [] i = absurd i
in_ends v x (a ∷ arcs) (inl e) = inl (ap (λ b. b.1) e)
in_ends v x (a ∷ arcs) (inr i) = inr (in_ends v x arcs i)

module _ (d : Design) (lawful : IsLawfulDesign d) (c n : ℕ) (found sorted : List (ℕ × ℕ)) (all : found ≡ process_arcs d c n d.processes) (same : (a : ℕ × ℕ) → Contains sorted a → Contains found a) (kept : (a : ℕ × ℕ) → Contains found a → Contains sorted a) where
  pub listed_arc : (v w : ℕ) → Contains {X = ℕ × ℕ} sorted (v, w) → IsArc d c n v w
  listed_arc v w h = arcs_drawn d lawful c n v w (subst (λ arcs. In {A = ℕ × ℕ} (v, w) arcs) all (contains_in found (v, w) (same (v, w) h)))

  pub arc_listed : (v w : ℕ) → IsArc d c n v w → Contains {X = ℕ × ℕ} sorted (v, w)
  arc_listed v w a = kept (v, w) (in_contains found (v, w) (subst (λ arcs. In {A = ℕ × ℕ} (v, w) arcs) (sym all) (drawn_arcs d lawful c n v w a)))

  module _ (states values : List ℕ) (labels : values ≡ process_states d c d.processes ++ map (λ a. a.1) sorted) (same_values : (x : ℕ) → Contains states x → Contains values x) (kept_values : (x : ℕ) → Contains values x → Contains states x) where
    pub listed_state : (x : ℕ) → Contains states x → IsState d c n x
    listed_state x h =
        ⊎_elim (λ i. inl (states_drawn d lawful c n x i)) (λ i. let r = ends_in x sorted i in inr (r.0, listed_arc r.0 x (in_contains sorted (r.0, x) r.1)))
        (in_split x (process_states d c d.processes) (map (λ a. a.1) sorted) (subst (λ xs. In x xs) labels (contains_in values x (same_values x h))))

    in_values : (x : ℕ) → In x (process_states d c d.processes ++ map (λ a. a.1) sorted) → Contains states x
    in_values x i = kept_values x (in_contains values x (subst (λ xs. In x xs) (sym labels) i))

    pub state_listed : (x : ℕ) → IsState d c n x → Contains states x
    state_listed x (inl (p, s, r)) = in_values x (in_left x (process_states d c d.processes) (map (λ a. a.1) sorted) (drawn_states d lawful c n x p s r))
    state_listed x (inr (v, a)) =
        in_values x (in_right x (process_states d c d.processes) (map (λ a. a.1) sorted) (in_ends v x sorted (contains_in sorted (v, x) (arc_listed v x a))))

-- what a walk finds of a design, in the terms of the design
pub all_arcs : (found old : List (ℕ × ℕ)) (x y : CodeDesign) (b c m n : ℕ) (ps : List CodeProcess) → found ≡ old ++ process_arcs (design_view x) b m (map process_view ps) → old ≡ [] → x ≡ y → b ≡ c → m ≡ n → ps ≡ y.processes → found ≡ process_arcs (design_view y) c n (map process_view y.processes)
all_arcs found old x y b c m n ps e o dx db dm dp =
    e ∙ ap (λ xs. xs ++ process_arcs (design_view x) b m (map process_view ps)) o ∙ ap (λ z. process_arcs (design_view z) b m (map process_view ps)) dx ∙ ap (λ k. process_arcs (design_view y) k m (map process_view ps)) db ∙ ap (λ k. process_arcs (design_view y) c k (map process_view ps)) dm ∙ ap (λ qs. process_arcs (design_view y) c n (map process_view qs)) dp

pub all_states : (found old : List ℕ) (x y : CodeDesign) (b c : ℕ) (ps : List CodeProcess) → found ≡ old ++ process_states (design_view x) b (map process_view ps) → old ≡ [] → x ≡ y → b ≡ c → ps ≡ y.processes → found ≡ process_states (design_view y) c (map process_view y.processes)
all_states found old x y b c ps e o dx db dp =
    e ∙ ap (λ xs. xs ++ process_states (design_view x) b (map process_view ps)) o ∙ ap (λ z. process_states (design_view z) b (map process_view ps)) dx ∙ ap (λ k. process_states (design_view y) k (map process_view ps)) db ∙ ap (λ qs. process_states (design_view y) c (map process_view qs)) dp

-- the bodies of processes have their shapes, each and all
pub bodies_shaped : (d : Design) (ps : List Process) → ((p : ℕ) → is_body d (body (get_or ps p no_process)) ≡ true) → list_all (λ p. is_body d (body p)) ps ≡ true
bodies_shaped d [] h = refl
bodies_shaped d (p ∷ ps) h = and_from (is_body d (body p)) (list_all (λ q. is_body d (body q)) ps) (h 0) (bodies_shaped d ps (λ k. h (suc k)))

-- numbers, and pairs of numbers, that compare as equal are the same
pub same_pair : (a b : ℕ × ℕ) → (a.0 == b.0 && a.1 == b.1) ≡ true → a ≡ b
same_pair (v, w) (x, y) e =
    let p = and_parts (v == x) (w == y) e in
    ap₂ arc_of (eqb-true v x p.0) (eqb-true w y p.1)
