-- Bodies of one assignment, and blocks of one rising edge.
use Rattle.std.proofs.Common.{◌≡◌, ⊎_elim, sym, subst, inl, inr, ℕ, ◌==◌, ◌&&◌, Bool, true, false, [], ◌∷◌, refl, Some}
use Rattle.std.specs.List.{list_any}
use Rattle.std.proofs.lemmas.Bool.{and_parts, eqb-true, false≢true, or_cases}
use Rattle.cov_host.specs.declared.place.Place.{Place}
use Rattle.event_machine.specs.Cell.{Cell}
use Rattle.event_machine.specs.Machine.{Edge, Negedge, Posedge}
use Rattle.four_state.specs.declared.edge.Edge.{Edge as ListedEdge}
use Rattle.four_state.specs.declared.edge.Edge.TheVariants.{Pos}
use Rattle.design_model.specs.Tree.{Term, all_of, set}
use Rattle.design_model.specs.Design.{Design, In, cell}
use Rattle.design_model.specs.Value.{head}
use Rattle.design_model.specs.Mentions.{subterms}
use Rattle.design_model.specs.Machine.{same_edge}
use Rattle.design_model.specs.Paths.{Path, PlacedAction, assigns, reaches, action_at}
use Rattle.design_model.specs.Reads.{PartialMap}
use Rattle.design_model.specs.Open.{HasAction, IsNode, OnEachPath, OnSomePath}

-- a list of one rising edge has that cell alone
pub one_rise : (x : ℕ) (e : Edge) (c : Cell) → ((c.place == 0) && list_any (λ (f : ListedEdge × ℕ). same_edge f.0 e && (f.1 == c.thing)) ((Pos, x) ∷ [])) ≡ true → c ≡ cell x 0
one_rise x Posedge c h =
    let p = and_parts (c.place == 0) _ h in
    λ i. record { thing = ⊎_elim (λ e. sym (eqb-true x c.thing e)) (λ e. absurd (false≢true e)) (or_cases (x == c.thing) false p.1) i; place = eqb-true c.place 0 p.0 i }
one_rise x Negedge c h = absurd (false≢true (and_parts (c.place == 0) false h).1)

module _ (d : Design) (K : PartialMap) (at : Place) (l : ℕ) (k : Bool) (s : ℕ) (t : Term) where
  abbrev only_path : Path
  only_path = action_at [] (reaches l) ∷ action_at [] (assigns k (all_of s) t) ∷ []

  -- a node on some path is in the right side
  pub node_met : (n : ℕ) (P : Term → Type 0) → OnSomePath d K (set at l k (all_of s) t) (λ x. (u : Term) × IsNode n x u × P u) → (u : Term) × In u (subterms t) × ((head u).node ≡ Some n) × P u
  node_met n P h = by_path h.1.is_path
    where
      by_step : (x : PlacedAction) → In x only_path → ((u : Term) × IsNode n x.action u × P u) → (u : Term) × In u (subterms t) × ((head u).node ≡ Some n) × P u
      by_step x (inl e) has = absurd (subst (λ y. (u : Term) × IsNode n y.action u × P u) (sym e) has).1.0
      by_step x (inr (inl e)) has = let y = subst (λ z. (u : Term) × IsNode n z.action u × P u) (sym e) has in (y.0, y.1.0, y.1.1, y.2)
      by_step x (inr (inr none)) has = absurd none

      by_path : In h.0 (only_path ∷ []) → (u : Term) × In u (subterms t) × ((head u).node ≡ Some n) × P u
      by_path (inl e) = by_step h.2.1.0 (subst (In h.2.1.0) (sym e) h.2.1.1) h.2.1.3
      by_path (inr none) = absurd none

  -- the line is surely open
  pub line_sure : OnEachPath d K (set at l k (all_of s) t) (λ x. x ≡ reaches l)
  line_sure = ([], λ path o. go path o.is_path)
    where
      go : (path : Path) → In path (only_path ∷ []) → HasAction (λ x. x ≡ reaches l) [] path
      go path (inl e) = subst (HasAction (λ x. x ≡ reaches l) []) e (_, inl refl, refl, refl)
      go path (inr none) = absurd none

  -- so is each node of the right side
  pub node_sure : (n : ℕ) (u : Term) → In u (subterms t) → (head u).node ≡ Some n → OnEachPath d K (set at l k (all_of s) t) (λ x. IsNode n x u)
  node_sure n u inside node = ([], λ path o. go path o.is_path)
    where
      go : (path : Path) → In path (only_path ∷ []) → HasAction (λ x. IsNode n x u) [] path
      go path (inl e) = subst (HasAction (λ x. IsNode n x u) []) e (_, inr (inl refl), refl, (inside, node))
      go path (inr none) = absurd none
