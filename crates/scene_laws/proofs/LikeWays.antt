-- What both branches of an undecided test leave, on scenes that are alike.
use Rattle.std.proofs.Common.{Bool, List, None, Option, Some, [], ap, ap₂, false, if◌then◌else◌, length, map, nat_lt, refl, sym, true, ℕ, ◌&&◌, ◌||◌, ◌==◌, ◌∙◌, ◌∷◌, ◌≡◌}
use Rattle.std.proofs.lemmas.Bool.{and_parts, false≢true}
use Rattle.std.specs.List.{list_all}
use Rattle.body_calls.specs.event_machine.Cell.{Cell}
use Rattle.body_calls.specs.four_state.declared.bit.Bit.{Bit}
use Rattle.body_calls.proofs.known_state.Cases.{same_bit_eq}
use Rattle.body_calls.specs.known_state.Join.{join_bit}
use Rattle.body_calls.specs.design_model.Design.{Design, signal_cells}
use Rattle.body_calls.specs.body_replay.KnownBits.{all_sure}
use Rattle.body_calls.specs.body_replay.Store.{Kept}
use Rattle.body_calls.specs.body_replay.Replay.{State, join_blame, join_kept, joined_states, same_kept}
use Rattle.body_calls.proofs.body_replay.Frames.{join_self}
use Rattle.body_calls.specs.term_replay.Stands.{Scene}
use Rattle.body_calls.specs.Lvalues.{Like, is_sure_signal}
use Rattle.body_calls.specs.Ways.{joined_scene}
use Rattle.scene_laws.specs.At.{scene_of}

and_none : (b : Bool) → (b && false) ≡ false
and_none true = refl
and_none false = refl

same_kept_eq : (p q : Option Bit) → same_kept p q ≡ true → p ≡ q
same_kept_eq None None e = refl
same_kept_eq None (Some b) e = absurd (false≢true e)
same_kept_eq (Some a) None e = absurd (false≢true e)
same_kept_eq (Some a) (Some b) e = ap Some (same_bit_eq a b e)

-- cells of which both know the same are joined to that
joined_left : (k l : Kept) (cs : List Cell) → list_all (λ c. same_kept (k c) (l c)) cs ≡ true → map (join_kept k l) cs ≡ map k cs
joined_left k l [] e = refl
joined_left k l (c ∷ cs) e =
    let q = and_parts (same_kept (k c) (l c)) (list_all (λ c. same_kept (k c) (l c)) cs) e in
    ap₂ (λ x y. x ∷ y) (ap (join_bit (k c)) (sym (same_kept_eq (k c) (l c) q.0)) ∙ join_self (k c)) (joined_left k l cs q.1)

joined_right : (k l : Kept) (cs : List Cell) → list_all (λ c. same_kept (k c) (l c)) cs ≡ true → map (join_kept k l) cs ≡ map l cs
joined_right k l [] e = refl
joined_right k l (c ∷ cs) e =
    let q = and_parts (same_kept (k c) (l c)) (list_all (λ c. same_kept (k c) (l c)) cs) e in
    ap₂ (λ x y. x ∷ y) (ap (λ z. join_bit z (l c)) (same_kept_eq (k c) (l c) q.0) ∙ join_self (l c)) (joined_right k l cs q.1)

module _ (d : Design) (test : ℕ) (left right : State) (v w : Scene) (h : Like (scene_of d left) v) (k : Like (scene_of d right) w) where
  same_cells : (x : ℕ) → list_all (λ c. same_kept (v.kept c) (w.kept c)) (signal_cells v.design x) ≡ list_all (λ c. same_kept (left.kept c) (right.kept c)) (signal_cells d x)
  same_cells x = ap₂ (λ p q. list_all (λ c. same_kept (p c) (q c)) (signal_cells v.design x)) h.kept k.kept ∙ ap (λ e. list_all (λ c. same_kept (left.kept c) (right.kept c)) (signal_cells e x)) h.design

  blame_is : (x : ℕ) → is_sure_signal (scene_of d (joined_states d test left right)) x ≡ false → (joined_scene test v w).blames.blame x ≡ join_blame d test left right x
  blame_is x u = ap (λ t. if (v.blames.blame x == w.blames.blame x) && t then v.blames.blame x else test) (same_cells x) ∙ go (list_all (λ c. same_kept (left.kept c) (right.kept c)) (signal_cells d x)) refl
    where
      go : (t : Bool) → list_all (λ c. same_kept (left.kept c) (right.kept c)) (signal_cells d x) ≡ t → (if (v.blames.blame x == w.blames.blame x) && t then v.blames.blame x else test) ≡ (if (left.blames.blame x == right.blames.blame x) && list_all (λ c. same_kept (left.kept c) (right.kept c)) (signal_cells d x) then left.blames.blame x else test)
      go false e =
          ap (λ z. if z then v.blames.blame x else test) (and_none (v.blames.blame x == w.blames.blame x)) ∙ sym (ap (λ z. if z then left.blames.blame x else test) (and_none (left.blames.blame x == right.blames.blame x))) ∙ ap (λ t. if (left.blames.blame x == right.blames.blame x) && t then left.blames.blame x else test) (sym e)
      go true e =
          let l : v.blames.blame x ≡ left.blames.blame x = h.blame x (ap (λ ps. nat_lt x (length d.signals) && all_sure ps) (sym (joined_left left.kept right.kept (signal_cells d x) e)) ∙ u) in
          let r : w.blames.blame x ≡ right.blames.blame x = k.blame x (ap (λ ps. nat_lt x (length d.signals) && all_sure ps) (sym (joined_right left.kept right.kept (signal_cells d x) e)) ∙ u) in
          ap₂ (λ p q. if (p == q) && true then p else test) l r ∙ ap (λ t. if (left.blames.blame x == right.blames.blame x) && t then left.blames.blame x else test) (sym e)

  -- the join is that of the definition
  pub joined_like : Like (scene_of d (joined_states d test left right)) (joined_scene test v w)
  joined_like = record { design = h.design; kept = ap₂ join_kept h.kept k.kept; wrote = λ m. ap₂ (λ p q. p || q) (h.wrote m) (k.wrote m); blame = blame_is }
