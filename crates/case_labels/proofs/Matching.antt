-- The labels of an arm, one label further.
use Rattle.std.proofs.Common.{Bool, List, None, Option, Some, [], add-one, ap, ap₂, arith, drop, drop-cons, false, get_or, if◌then◌else◌, length, map, max, refl, subst, sym, true, ℕ, ◌++◌, ◌+◌, ◌<◌, ◌≤◌, ◌∙◌, ◌∷◌, ◌≡◌}
use Rattle.four_state.specs.declared.operator.CaseKind.{CaseKind}
use Rattle.known_state.specs.Join.{first_blame}
use Rattle.known_state.specs.Maybe.{Matches}
use Rattle.known_state.specs.Partly.{Partly, is_whole}
use Rattle.known_state.specs.declared.maybe.Maybe.{Maybe}
use Rattle.known_state.specs.declared.maybe.Maybe.TheVariants.{Yes, No, Unsure}
use Rattle.design_model.specs.Tree as t
use Rattle.design_model.specs.View.{term_view, terms_of}
use Rattle.design_model.specs.declared.tree.Term.{Term}
use Rattle.scene_laws.specs.body_replay.KnownBits.{KnownBits, all_sure, known_match}
use Rattle.scene_laws.specs.body_replay.Store.{known_value}
use Rattle.scene_laws.specs.body_replay.Replay.{Mark, Mode, after_first, after_label, blame_of, deeper, doubted, either, first_read, in_mode, label_first, label_marks, labels_blame, labels_match, select_blame, term_marks, undecided}
use Rattle.scene_laws.proofs.body_replay.Answered as a
use Rattle.scene_laws.proofs.body_replay.Answered.{label_answer, same_sure}
use Rattle.scene_laws.proofs.body_replay.Unsure.{match_none}
use Rattle.scene_laws.specs.term_replay.Noted.{Adds, in_this, marks_of}
use Rattle.scene_laws.specs.term_replay.Questions.{IsAnswer, answer_of}
use Rattle.scene_laws.specs.term_replay.Stands.{Scene, Stands, first_after}
use Rattle.scene_laws.proofs.term_replay.Marking.{adds_more, adds_none, adds_same}
use Rattle.std.proofs.lemmas.Bool.{and_parts}
use Rattle.design_model.specs.Design.{Design}
use Rattle.design_model.specs.Shape.{are_shaped, is_shaped, own_width, widest}
use Rattle.design_model.specs.Value.{head}
use Rattle.scene_laws.proofs.term_replay.Contexts.{context_head}
use Rattle.scene_laws.specs.Contexts.{AreLabels}
use Rattle.scene_laws.proofs.BodyContexts.{widest_least}
use Rattle.case_labels.specs.Labels.{undecided_after}

-- the labels from the one at i on
pub labels_from : (xs : List Term) (i : ℕ) (x : Term) → i < length xs → x ≡ get_or xs i x → terms_of (map term_view (drop i xs)) ≡ t.a_term (term_view x) (terms_of (map term_view (drop (i + 1) xs)))
labels_from xs i x within is = rw (add-one, drop-cons xs i x within, ← is) refl

-- the answer of the labels so far, and of the rest
abbrev pub with_rest : Maybe → Option Bool → Option Bool
with_rest Yes rest = Some true
with_rest No rest = rest
with_rest (Unsure thing) rest = either None rest

same_answer : (m : Maybe) → answer_of m ≡ a.answer_of m
same_answer Yes = refl
same_answer No = refl
same_answer (Unsure thing) = refl

in_deeper : (mode : Mode) (b : ℕ) (ms : List Mark) → in_this mode (map (in_mode (Some b)) ms) ≡ in_this (deeper mode b) ms
in_deeper None b [] = refl
in_deeper (Some o) b [] = refl
in_deeper None b (m ∷ ms) = ap (λ z. doubted m.spot b ∷ z) (in_deeper None b ms)
in_deeper (Some o) b (m ∷ ms) = ap (λ z. doubted m.spot o ∷ z) (in_deeper (Some o) b ms)

module _ (v : Scene) (kind : CaseKind) (on : Partly) where
  abbrev matches : t.Terms → Option Bool
  matches ts = labels_match v.design kind on.bits v.kept ts

  abbrev blames : Option ℕ → t.Terms → ℕ
  blames f ts = labels_blame v.design kind on.bits on.blame v.kept v.blames f ts

  abbrev firsts : t.Terms → Option ℕ → Option ℕ
  firsts ts f = label_first v.design kind on.bits v.kept v.blames ts f

  abbrev all_marks : t.Terms → Option ℕ → List Mark
  all_marks ts f = label_marks v.design kind on.bits on.blame v.kept v.blames ts f

  -- what is to blame so far
  abbrev pub BlamedSoFar : Maybe → Option ℕ → t.Terms → Option ℕ → t.Terms → Type 0
  BlamedSoFar Yes first all now rest = Unit {0}
  BlamedSoFar No first all now rest = blames first all ≡ blames now rest
  BlamedSoFar (Unsure thing) first all now rest = thing ≡ blames first all

  module _ {T S : Type 0} (noted : T → List Mark → S → Type 0) (mode : Mode) (first : Option ℕ) (all : t.Terms) (before : S) where
    -- the labels so far, and the rest, are all
    pub record MatchesOn (inside : Mode) (so_far : Option ℕ) (m : Maybe) (rest : t.Terms) (now : S) : Type 0 where
      pub answer : matches all ≡ with_rest m (matches rest)
      pub blame : BlamedSoFar m first all so_far rest
      pub first_is : firsts all first ≡ firsts rest so_far
      pub notes : (after : S) → Adds noted now (in_this inside (all_marks rest so_far)) after → Adds noted before (in_this mode (all_marks all first)) after
      pub open_answer : m ≡ Yes → ⊥

    pub matches_start : MatchesOn mode first No all before
    matches_start = record { answer = refl; blame = refl; first_is = refl; notes = λ after h. h; open_answer = λ e. absurd (cc) }

    module _ (inside : Mode) (so_far next : Option ℕ) (m : Maybe) (x : t.Term) (rest : t.Terms) (now new : S) (r : Partly) (h : MatchesOn inside so_far m (t.a_term x rest) now) (value : Stands v so_far x r) (next_is : next ≡ first_after v so_far x) (noting : Adds noted now (in_this inside (marks_of v so_far x)) new) where
      abbrev known : Option Bool
      known = known_match kind on.bits (known_value v.design v.kept x)

      answered : (o : Maybe) → Matches kind on r o → known ≡ answer_of o
      answered o is = ap (known_match kind on.bits) (sym value.bits) ∙ sym (label_answer kind on r o is) ∙ sym (same_answer o)

      abbrev own_blame : ℕ
      own_blame = select_blame on.bits on.blame (blame_of v.design v.kept v.blames so_far x)

      -- the thing that an undecided label blames
      blamed : (thing : ℕ) → Matches kind on r (Unsure thing) → thing ≡ own_blame
      blamed thing is = is.blamed ∙ go (is_whole on) refl
        where
          go : (b : Bool) → is_whole on ≡ b → (if is_whole on then r.blame else on.blame) ≡ (if all_sure on.bits then blame_of v.design v.kept v.blames so_far x else on.blame)
          go true e =
              let sure_on : all_sure on.bits ≡ true = same_sure on.bits ∙ e in
              let unsure : all_sure (known_value v.design v.kept x) ≡ false = match_none kind on.bits (known_value v.design v.kept x) (answered (Unsure thing) is) sure_on in
              ap (λ z. if z then r.blame else on.blame) e ∙ value.blame (sym (same_sure r.bits) ∙ ap all_sure value.bits ∙ unsure) ∙ ap (λ z. if z then blame_of v.design v.kept v.blames so_far x else on.blame) (sym sure_on)
          go false e = ap (λ z. if z then r.blame else on.blame) e ∙ ap (λ z. if z then blame_of v.design v.kept v.blames so_far x else on.blame) (sym (same_sure on.bits ∙ e))

      -- the marks of this label and those of the others
      both : (after : S) (others : List Mark) (o : Option Bool) → known ≡ o → in_this inside (after_label o own_blame (all_marks rest (first_read v.design v.kept v.blames so_far x))) ≡ others → Adds noted new others after → Adds noted before (in_this mode (all_marks all first)) after
      both after others o e is k =
          h.notes after
          (subst (λ z. Adds noted now (in_this inside (term_marks v.design v.kept v.blames so_far x ++ after_label z own_blame (all_marks rest (first_read v.design v.kept v.blames so_far x)))) after) (sym e)
          (adds_more noted inside now new after (marks_of v so_far x) (after_label o own_blame (all_marks rest (first_read v.design v.kept v.blames so_far x))) noting (adds_same noted new after others _ (sym is) k)))

      combined : (o : Option Bool) → known ≡ o → matches all ≡ with_rest m (either o (matches rest))
      combined o e = h.answer ∙ ap (λ z. with_rest m (either z (matches rest))) e

      firsts_are : (o : Option Bool) → known ≡ o → firsts all first ≡ after_first o (first_read v.design v.kept v.blames so_far x) (firsts rest (first_read v.design v.kept v.blames so_far x))
      firsts_are o e = h.first_is ∙ ap (λ z. after_first z (first_read v.design v.kept v.blames so_far x) (firsts rest (first_read v.design v.kept v.blames so_far x))) e

      -- a label that is sure to match
      pub matches_yes : Matches kind on r Yes → IsAnswer (matches all) (blames first all) Yes × (next ≡ firsts all first) × Adds noted before (in_this mode (all_marks all first)) new
      matches_yes is =
          let e = answered Yes is in
          let yes : matches all ≡ Some true = combined (Some true) e ∙ go m in (
            record { is = sym yes; blame = λ u. absurd (let bad : Some true ≡ None = sym yes ∙ u in cc) },
            next_is ∙ sym (firsts_are (Some true) e),
            both new [] (Some true) e refl (adds_none noted new),
          )
        where
          go : (m : Maybe) → with_rest m (Some true) ≡ Some true
          go Yes = refl
          go No = refl
          go (Unsure thing) = refl

      -- a label that is sure not to match
      pub matches_no : Matches kind on r No → MatchesOn inside next m rest new
      matches_no is =
          let e = answered No is in
          record {
            answer = combined (Some false) e;
            blame = subst (λ f. BlamedSoFar m first all f rest) (sym next_is) (go m h.blame);
            first_is = firsts_are (Some false) e ∙ ap (firsts rest) (sym next_is);
            notes = λ after k. both after (in_this inside (all_marks rest next)) (Some false) e (ap (λ f. in_this inside (all_marks rest f)) (sym next_is)) k;
            open_answer = h.open_answer;
          }
        where
          go : (m : Maybe) → BlamedSoFar m first all so_far (t.a_term x rest) → BlamedSoFar m first all (first_after v so_far x) rest
          go Yes b = tt
          go No b = b ∙ ap (λ o. if undecided o then own_blame else blames (first_after v so_far x) rest) (answered No is)
          go (Unsure thing) b = b

      -- a label of which it is not decided
      pub matches_unsure : (thing : ℕ) → Matches kind on r (Unsure thing) → MatchesOn (deeper inside thing) next (undecided_after m thing) rest new
      matches_unsure thing is =
          let e = answered (Unsure thing) is in
          let b = blamed thing is in
          record {
            answer = combined None e ∙ go m h.open_answer;
            blame = subst (λ f. BlamedSoFar (undecided_after m thing) first all f rest) (sym next_is) (blame m h.blame h.open_answer);
            first_is = firsts_are None e ∙ ap (firsts rest) (sym next_is);
            notes = λ after k.
                both after (in_this (deeper inside thing) (all_marks rest next)) None e
                (in_deeper inside own_blame (all_marks rest (first_read v.design v.kept v.blames so_far x)) ∙ ap₂ (λ o f. in_this (deeper inside o) (all_marks rest f)) (sym b) (sym next_is)) k;
            open_answer = λ q. open_after m q;
          }
        where
          twice : (o : Option Bool) → either None (either None o) ≡ either None o
          twice None = refl
          twice (Some true) = refl
          twice (Some false) = refl

          go : (m : Maybe) → (m ≡ Yes → ⊥) → with_rest m (either None (matches rest)) ≡ with_rest (undecided_after m thing) (matches rest)
          go Yes o = absurd (o refl)
          go No o = refl
          go (Unsure other) o = twice (matches rest)

          open_after : (m : Maybe) → undecided_after m thing ≡ Yes → ⊥
          open_after Yes q = cc
          open_after No q = cc
          open_after (Unsure other) q = cc

          blame : (m : Maybe) → BlamedSoFar m first all so_far (t.a_term x rest) → (m ≡ Yes → ⊥) → BlamedSoFar (undecided_after m thing) first all (first_after v so_far x) rest
          blame Yes b o = absurd (o refl)
          blame No b o = blamed thing is ∙ sym (b ∙ ap (λ z. if undecided z then own_blame else blames (first_after v so_far x) rest) (answered (Unsure thing) is))
          blame (Unsure other) b o = b

    -- no label is left
    pub matches_end : (inside : Mode) (so_far : Option ℕ) (m : Maybe) (now : S) → MatchesOn inside so_far m t.no_terms now → IsAnswer (matches all) (blames first all) m × (so_far ≡ firsts all first) × Adds noted before (in_this mode (all_marks all first)) now
    matches_end inside so_far m now h = (go m h.answer h.blame h.open_answer, sym h.first_is, h.notes now (adds_none noted now))
      where
        go : (m : Maybe) → matches all ≡ with_rest m (Some false) → BlamedSoFar m first all so_far t.no_terms → (m ≡ Yes → ⊥) → IsAnswer (matches all) (blames first all) m
        go Yes e b o = absurd (o refl)
        go No e b o = record { is = sym e; blame = λ u. absurd (let bad : Some false ≡ None = sym e ∙ u in cc) }
        go (Unsure thing) e b o = record { is = sym e; blame = λ u. b }

-- a label is as wide as the selector
pub label_width : (d : Design) (w : ℕ) (s : Bool) (x : t.Term) (ts : t.Terms) → AreLabels d w s (t.a_term x ts) → (head x).width ≡ w
label_width d w s x ts h =
    let p = and_parts (is_shaped d w s x) (are_shaped d w s ts) h.shaped in
    let rest : max h.from (own_width d x) ≤ widest d (max h.from (own_width d x)) ts = widest_least d (max h.from (own_width d x)) ts in
    let all : widest d (max h.from (own_width d x)) ts ≤ w = h.narrow in
    (context_head d x (record { width = w; signed = s; shaped = p.0; narrow = omega (arith, rest, all) })).width
