-- The labels of an arm on scenes that are alike, and the state after they are evaluated.
use Rattle.std.proofs.Common.{Bool, List, None, Option, Some, ap, ap₂, false, if◌then◌else◌, refl, sym, true, ℕ, ◌++◌, ◌∙◌, ◌≡◌}
use Rattle.assignments.specs.four_state.declared.operator.CaseKind.{CaseKind}
use Rattle.assignments.specs.known_state.Partly.{Partly, is_whole}
use Rattle.assignments.specs.design_model.Design.{Design}
use Rattle.assignments.specs.design_model.Tree.{Terms, a_term, no_terms}
use Rattle.assignments.specs.body_replay.KnownBits.{KnownBits, all_sure, known_match}
use Rattle.assignments.specs.body_replay.Store.{Kept, KnownWrite, known_value}
use Rattle.assignments.specs.body_replay.Replay.{Blames, Mark, Mode, State, after_first, after_label, blame_of, first_read, label_first, label_marks, labels_blame, labels_match, see_labels, select_blame, term_marks, undecided}
use Rattle.assignments.proofs.body_replay.Answered.{same_sure}
use Rattle.assignments.proofs.body_replay.Unsure.{match_none}
use Rattle.assignments.specs.term_replay.Noted.{Adds, in_this}
use Rattle.assignments.specs.term_replay.Stands.{Scene}
use Rattle.assignments.proofs.term_replay.Marking.{adds_same}
use Rattle.assignments.specs.body_calls.Lvalues.{Like}
use Rattle.assignments.specs.scene_laws.At.{IsState, scene_of}
use Rattle.assignments.proofs.scene_laws.LikeScenes.{like_blames}
use Rattle.assignments.proofs.scene_laws.LikeTerms.{LikeBlames, term_like}

-- by two blames that make no difference to bodies, and two blames of the selector that are the same where it is not wholly sure
module _ (d : Design) (k : Kept) (e e' : Blames) (like : LikeBlames d k e e') (kind : CaseKind) (on : KnownBits) (b b' : ℕ) (same : all_sure on ≡ false → b' ≡ b) where
  pub record LabelsLike (ts : Terms) (f f' : Option ℕ) : Type 0 where
    pub first : label_first d kind on k e' ts f' ≡ label_first d kind on k e ts f
    pub marks : label_marks d kind on b' k e' ts f' ≡ label_marks d kind on b k e ts f
    pub blame : labels_blame d kind on b' k e' f' ts ≡ labels_blame d kind on b k e f ts

  select_like : (ps : KnownBits) (l l' : ℕ) → known_match kind on ps ≡ None → (all_sure ps ≡ false → l' ≡ l) → select_blame on b' l' ≡ select_blame on b l
  select_like ps l l' n h = go (all_sure on) refl
    where
      go : (z : Bool) → all_sure on ≡ z → (if all_sure on then l' else b') ≡ (if all_sure on then l else b)
      go true z = ap (λ x. if x then l' else b') z ∙ h (match_none kind on ps n z) ∙ sym (ap (λ x. if x then l else b) z)
      go false z = ap (λ x. if x then l' else b') z ∙ same z ∙ sym (ap (λ x. if x then l else b) z)

  pub labels_like : (ts : Terms) (f f' : Option ℕ) → f' ≡ f → LabelsLike ts f f'
  labels_like no_terms f f' q = record { first = q; marks = refl; blame = refl }
  labels_like (a_term t ts) f f' q =
      let g = term_like d k e e' like t f f' q in
      let r = labels_like ts (first_read d k e f t) (first_read d k e' f' t) g.first in
      go (known_match kind on (known_value d k t)) refl g.first g.blame g.marks r
    where
      go : (o : Option Bool) → known_match kind on (known_value d k t) ≡ o → first_read d k e' f' t ≡ first_read d k e f t → (all_sure (known_value d k t) ≡ false → blame_of d k e' f' t ≡ blame_of d k e f t) → term_marks d k e' f' t ≡ term_marks d k e f t → LabelsLike ts (first_read d k e f t) (first_read d k e' f' t) → LabelsLike (a_term t ts) f f'
      go (Some true) o first blame marks r =
          record {
            first = ap (λ z. after_first z (first_read d k e' f' t) (label_first d kind on k e' ts (first_read d k e' f' t))) o ∙ first ∙ sym (ap (λ z. after_first z (first_read d k e f t) (label_first d kind on k e ts (first_read d k e f t))) o);
            marks = ap (λ z. term_marks d k e' f' t ++ after_label z (select_blame on b' (blame_of d k e' f' t)) (label_marks d kind on b' k e' ts (first_read d k e' f' t))) o ∙ ap (λ z. z ++ after_label (Some true) 0 (label_marks d kind on b k e ts (first_read d k e f t))) marks ∙ sym (ap (λ z. term_marks d k e f t ++ after_label z (select_blame on b (blame_of d k e f t)) (label_marks d kind on b k e ts (first_read d k e f t))) o);
            blame = ap (λ z. if undecided z then select_blame on b' (blame_of d k e' f' t) else labels_blame d kind on b' k e' (first_read d k e' f' t) ts) o ∙ r.blame ∙ sym (ap (λ z. if undecided z then select_blame on b (blame_of d k e f t) else labels_blame d kind on b k e (first_read d k e f t) ts) o);
          }
      go (Some false) o first blame marks r =
          record {
            first = ap (λ z. after_first z (first_read d k e' f' t) (label_first d kind on k e' ts (first_read d k e' f' t))) o ∙ r.first ∙ sym (ap (λ z. after_first z (first_read d k e f t) (label_first d kind on k e ts (first_read d k e f t))) o);
            marks = ap (λ z. term_marks d k e' f' t ++ after_label z (select_blame on b' (blame_of d k e' f' t)) (label_marks d kind on b' k e' ts (first_read d k e' f' t))) o ∙ ap₂ (λ x y. x ++ y) marks r.marks ∙ sym (ap (λ z. term_marks d k e f t ++ after_label z (select_blame on b (blame_of d k e f t)) (label_marks d kind on b k e ts (first_read d k e f t))) o);
            blame = ap (λ z. if undecided z then select_blame on b' (blame_of d k e' f' t) else labels_blame d kind on b' k e' (first_read d k e' f' t) ts) o ∙ r.blame ∙ sym (ap (λ z. if undecided z then select_blame on b (blame_of d k e f t) else labels_blame d kind on b k e (first_read d k e f t) ts) o);
          }
      go None o first blame marks r =
          let own : select_blame on b' (blame_of d k e' f' t) ≡ select_blame on b (blame_of d k e f t) = select_like (known_value d k t) (blame_of d k e f t) (blame_of d k e' f' t) o blame in
          record {
            first = ap (λ z. after_first z (first_read d k e' f' t) (label_first d kind on k e' ts (first_read d k e' f' t))) o ∙ r.first ∙ sym (ap (λ z. after_first z (first_read d k e f t) (label_first d kind on k e ts (first_read d k e f t))) o);
            marks = ap (λ z. term_marks d k e' f' t ++ after_label z (select_blame on b' (blame_of d k e' f' t)) (label_marks d kind on b' k e' ts (first_read d k e' f' t))) o ∙ ap₂ (λ x y. x ++ y) marks (ap₂ (λ x y. after_label None x y) own r.marks) ∙ sym (ap (λ z. term_marks d k e f t ++ after_label z (select_blame on b (blame_of d k e f t)) (label_marks d kind on b k e ts (first_read d k e f t))) o);
            blame = ap (λ z. if undecided z then select_blame on b' (blame_of d k e' f' t) else labels_blame d kind on b' k e' (first_read d k e' f' t) ts) o ∙ own ∙ sym (ap (λ z. if undecided z then select_blame on b (blame_of d k e f t) else labels_blame d kind on b k e (first_read d k e f t) ts) o);
          }

-- what the labels give on the scene of the run, against the state of the definition
module _ (d : Design) (a : State) (v : Scene) (h : Like (scene_of d a) v) (kind : CaseKind) (on : Partly) (blame : ℕ) (same : is_whole on ≡ false → on.blame ≡ blame) (ts : Terms) where
  like : LabelsLike d a.kept a.blames v.blames (like_blames (scene_of d a) v h) kind on.bits blame on.blame (λ u. same (sym (same_sure on.bits) ∙ u)) ts a.first a.first
  like = labels_like d a.kept a.blames v.blames (like_blames (scene_of d a) v h) kind on.bits blame on.blame (λ u. same (sym (same_sure on.bits) ∙ u)) ts a.first a.first refl

  over : {A : Type 0} (f : Design → Kept → A) → f v.design v.kept ≡ f d a.kept
  over f = ap₂ f h.design h.kept

  pub labels_answer : labels_match v.design kind on.bits v.kept ts ≡ labels_match d kind on.bits a.kept ts
  labels_answer = over (λ e k. labels_match e kind on.bits k ts)

  pub labels_blamed : (first : Option ℕ) → first ≡ a.first → labels_blame v.design kind on.bits on.blame v.kept v.blames first ts ≡ labels_blame d kind on.bits blame a.kept a.blames a.first ts
  labels_blamed first q = ap (λ f. labels_blame v.design kind on.bits on.blame v.kept v.blames f ts) q ∙ over (λ e k. labels_blame e kind on.bits on.blame k v.blames a.first ts) ∙ like.blame

  -- the labels are evaluated
  pub labels_state : {T S : Type 0} (noted : T → List Mark → S → Type 0) (start : T) (mode : Mode) (queue : List KnownWrite) (first last : Option ℕ) (before after : S) → last ≡ label_first v.design kind on.bits v.kept v.blames ts first → Adds noted before (in_this mode (label_marks v.design kind on.bits on.blame v.kept v.blames ts first)) after → IsState d a first v queue (λ ms. noted start ms before) → IsState d (see_labels d mode kind on.bits blame ts a) last v queue (λ ms. noted start ms after)
  labels_state noted start mode queue first last before after e adds s =
      let marks : label_marks v.design kind on.bits on.blame v.kept v.blames ts first ≡ label_marks d kind on.bits blame a.kept a.blames ts a.first = ap (λ f. label_marks v.design kind on.bits on.blame v.kept v.blames ts f) s.first ∙ over (λ e k. label_marks e kind on.bits on.blame k v.blames ts a.first) ∙ like.marks in
      record {
        scene = s.scene;
        first = e ∙ ap (label_first v.design kind on.bits v.kept v.blames ts) s.first ∙ over (λ e k. label_first e kind on.bits k v.blames ts a.first) ∙ like.first;
        queue = s.queue;
        noted = (adds_same noted before after _ _ (ap (in_this mode) marks) adds).added start a.marks s.noted;
      }
