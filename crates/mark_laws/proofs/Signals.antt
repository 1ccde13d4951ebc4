-- What a step reports of the points on signals, each verdict by what is reported of its own point.
use Rattle.std.proofs.Common.{◌≡◌, ◌≢◌, ◌<◌, ◌+◌, ◌++◌, ℕ, zero, suc, Bool, true, false, Option, Some, None, List, [], ◌∷◌, length, get_or, refl, sym, ap, subst, ◌∙◌, append_assoc, inl, inr, arith}
use Rattle.std.specs.Prelude.{if◌then◌else◌, not, ◌&&◌}
use Rattle.std.proofs.lemmas.Bool.{cases_eq}
use Rattle.std.proofs.lemmas.List.{append-nil}
use Rattle.replay_model.specs.four_state.declared.bit.Bit.{Bit}
use Rattle.replay_model.specs.body_replay.Contract.{Doubted}
use Rattle.cover_points.specs.Listed.{points_of}
use Rattle.cover_points.specs.Visits.{AreOnce, no_point, point_at}
use Rattle.cover_points.specs.declared.listing.Points.{Points}
use Rattle.replay_model.specs.design_model.Design.{Design}
use Rattle.replay_model.specs.design_model.declared.point.Point.{Point}
use Rattle.replay_model.specs.design_model.declared.point.Point.TheVariants as point
use Rattle.point_marks.specs.declared.verdict.Verdict.{Verdict}
use Rattle.point_marks.specs.declared.verdict.Verdict.TheVariants as marks
use Rattle.replay_model.specs.Marks.{IsKeyOf, IsVerdict, Marking, of_point}
use Rattle.replay_model.specs.Step.{Closing, all_point_notes, all_run, are_surely, before_of, known_bits, mark_had, mark_reached, may_be, point_notes, tell}
use Rattle.mark_laws.specs.Numbered.{verdict_view}
use Rattle.mark_laws.specs.Marked.{AreVerdicts, verdict_at}
use Rattle.mark_laws.specs.Signals.{FollowNotes, with_mark, with_notes}
use Rattle.mark_laws.proofs.Marked.{doubt_verdict, hit_more, other_verdict}

-- what is reported is of the point
abbrev pub AreOf : Point → List Marking → Type 0
AreOf x [] = Unit {0}
AreOf x (n ∷ ns) = (n.key ≡ of_point x) × AreOf x ns

tell_of : (st : Closing) (x : Point) (s : ℕ) (sure possible : Bool) → AreOf x (tell st x s sure possible)
tell_of st x s true possible = (refl, tt)
tell_of st x s false true = (refl, tt)
tell_of st x s false false = tt

moves_of : (x : Point) (b : Bool) (ns : List Marking) → AreOf x ns → AreOf x (if b then ns else [])
moves_of x true ns h = h
moves_of x false ns h = tt

state_of : (st : Closing) (x : Point) (s : ℕ) (bits : List Bit) (listed : Bool) → AreOf x (if listed then mark_had st x s bits else (if st.sets.moves s then mark_reached st x s bits else []))
state_of st x s bits true =
    let after = known_bits st.design (all_run st).kept s in
    tell_of st x s (are_surely after bits) (may_be after bits)
state_of st x s bits false =
    let before = known_bits st.design (before_of st) s in
    let after = known_bits st.design (all_run st).kept s in
    moves_of x (st.sets.moves s) (mark_reached st x s bits) (tell_of st x s false (may_be after bits && not (are_surely before bits)))

notes_of : (st : Closing) (x : Point) → AreOf x (point_notes st x)
notes_of st (point.Line p n at w) = tt
notes_of st (point.Logic p n at op c) = tt
notes_of st (point.Toggle s i rise) = moves_of (point.Toggle s i rise) (st.sets.moves s) _ (tell_of st (point.Toggle s i rise) s _ _)
notes_of st (point.State i name s state x) = state_of st (point.State i name s state x) s x.bits st.listed
notes_of st (point.Arc i name s from to x y) = moves_of (point.Arc i name s from to x y) (st.sets.moves s) _ (tell_of st (point.Arc i name s from to x y) s _ _)
notes_of st (point.Word m i write) = tt

module _ (d : Design) (x : Point) where
  -- what is reported of the point itself
  own_mark : (ns : List Marking) (n : Marking) (v : Verdict) → n.key ≡ of_point x → IsVerdict d x ns (verdict_view v) → IsVerdict d x (ns ++ n ∷ []) (verdict_view (with_mark n.doubt v))
  own_mark ns n v key h = go n.doubt refl
    where
      is_key : IsKeyOf d x n.key
      is_key = subst (λ k. IsKeyOf d x k) (sym key) refl

      go : (o : Option Doubted) → n.doubt ≡ o → IsVerdict d x (ns ++ n ∷ []) (verdict_view (with_mark o v))
      go None e = hit_more d x n ns is_key e
      go (Some y) e = doubt_verdict d x n ns v (record { thing = y.thing; time = y.time }) is_key e h

  own_notes : (ns more : List Marking) (v : Verdict) → AreOf x more → IsVerdict d x ns (verdict_view v) → IsVerdict d x (ns ++ more) (verdict_view (with_notes more v))
  own_notes ns [] v of h = subst (λ (ms : List Marking). IsVerdict d x ms (verdict_view v)) (sym (append-nil ns)) h
  own_notes ns (n ∷ more) v of h =
      let first = own_mark ns n v of.0 h in
      subst (λ (ms : List Marking). IsVerdict d x ms (verdict_view (with_notes more (with_mark n.doubt v)))) (append_assoc ns (n ∷ []) more) (own_notes (ns ++ n ∷ []) more (with_mark n.doubt v) of.1 first)

  -- what is reported of another point
  other_notes : (y : Point) (ns more : List Marking) (v : Verdict) → y ≢ x → AreOf y more → IsVerdict d x ns (verdict_view v) → IsVerdict d x (ns ++ more) (verdict_view v)
  other_notes y ns [] v apart of h = subst (λ (ms : List Marking). IsVerdict d x ms (verdict_view v)) (sym (append-nil ns)) h
  other_notes y ns (n ∷ more) v apart of h =
      let first = other_verdict d x n ns (verdict_view v) (λ key. apart (subst (λ k. IsKeyOf d x k) of.0 key)) h in
      subst (λ (ms : List Marking). IsVerdict d x ms (verdict_view v)) (append_assoc ns (n ∷ []) more) (other_notes y (ns ++ n ∷ []) more v apart of.1 first)

module _ (st : Closing) (x : Point) where
  -- the point is not in the list
  none_of : (xs : List Point) (ns : List Marking) (v : Verdict) → ((j : ℕ) → j < length xs → get_or xs j no_point ≢ x) → IsVerdict st.design x ns (verdict_view v) → IsVerdict st.design x (ns ++ all_point_notes st xs) (verdict_view v)
  none_of [] ns v apart h = subst (λ (ms : List Marking). IsVerdict st.design x ms (verdict_view v)) (sym (append-nil ns)) h
  none_of (y ∷ ys) ns v apart h =
      let first = other_notes st.design x y ns (point_notes st y) v (apart 0 (omega arith)) (notes_of st y) h in
      subst (λ (ms : List Marking). IsVerdict st.design x ms (verdict_view v)) (append_assoc ns (point_notes st y) (all_point_notes st ys)) (none_of ys (ns ++ point_notes st y) v (λ j l. apart (suc j) (omega (arith, l))) first)

  -- the point is in the list once, at this place
  one_of : (xs : List Point) (k : ℕ) (ns : List Marking) (v : Verdict) → k < length xs → get_or xs k no_point ≡ x → ((j : ℕ) → j < length xs → j ≢ k → get_or xs j no_point ≢ x)
      → IsVerdict st.design x ns (verdict_view v) → IsVerdict st.design x (ns ++ all_point_notes st xs) (verdict_view (with_notes (point_notes st x) v))
  one_of [] k ns v within is apart h = absurd (omega (arith, within))
  one_of (y ∷ ys) zero ns v within is apart h =
      let first : IsVerdict st.design x (ns ++ point_notes st y) (verdict_view (with_notes (point_notes st x) v)) = subst (λ (z : Point). IsVerdict st.design x (ns ++ point_notes st z) (verdict_view (with_notes (point_notes st x) v))) (sym is) (own_notes st.design x ns (point_notes st x) v (notes_of st x) h) in
      subst (λ (ms : List Marking). IsVerdict st.design x ms (verdict_view (with_notes (point_notes st x) v))) (append_assoc ns (point_notes st y) (all_point_notes st ys))
      (none_of ys (ns ++ point_notes st y) (with_notes (point_notes st x) v) (λ j l. apart (suc j) (omega (arith, l)) (λ e. absurd (let no : suc j ≡ 0 = e in omega (arith, no)))) first)
  one_of (y ∷ ys) (suc k) ns v within is apart h =
      let first = other_notes st.design x y ns (point_notes st y) v (apart 0 (omega arith) (λ e. absurd (let no : 0 ≡ suc k = e in omega (arith, no)))) (notes_of st y) h in
      subst (λ (ms : List Marking). IsVerdict st.design x ms (verdict_view (with_notes (point_notes st x) v))) (append_assoc ns (point_notes st y) (all_point_notes st ys))
      (one_of ys k (ns ++ point_notes st y) v (omega (arith, within)) is (λ j l other. apart (suc j) (omega (arith, l)) (λ e. other (omega (arith, e)))) first)

pub signals_marked : (st : Closing) (ps : Points) (ns : List Marking) (before after : List Verdict) → AreOnce ps → AreVerdicts st.design ps ns before → FollowNotes st ps before after → AreVerdicts st.design ps (ns ++ all_point_notes st (points_of ps)) after
signals_marked st ps ns before after once h follow = record {
  count = follow.count ∙ h.count;
  each = λ k l. subst (λ v. IsVerdict st.design (point_at ps k) (ns ++ all_point_notes st (points_of ps)) (verdict_view v)) (sym (follow.each k l))
      (one_of st (point_at ps k) (points_of ps) k ns (verdict_at before k) l refl (λ j m other same. other (once j k m l same)) (h.each k l));
}
