-- What a step reports of states.
use Rattle.std.proofs.Common.{◌≡◌, ◌<◌, ◌++◌, ℕ, zero, suc, Bool, true, false, List, [], ◌∷◌, length, get_or, inl, inr, refl, sym, subst, arith}
use Rattle.std.specs.Prelude.{if◌then◌else◌}
use Rattle.std.proofs.lemmas.Bool.{false≢true}
use Rattle.mark_laws.specs.cover_points.Listed.{points_of}
use Rattle.mark_laws.specs.cover_points.Visits.{no_point, point_at}
use Rattle.mark_laws.specs.replay_model.Marks.{IsHitMarked, IsUnmarked, Marking}
use Rattle.mark_laws.specs.replay_model.Step.{Closing, all_point_notes, all_run, are_surely, closed, known_bits, mark_had, mark_reached, may_be, point_notes, tell}
use Rattle.mark_laws.specs.replay_model.design_model.Design.{Design}
use Rattle.mark_laws.specs.replay_model.design_model.declared.point.Point.{Point}
use Rattle.mark_laws.specs.replay_model.design_model.declared.point.Point.TheVariants as point
use Rattle.machine_laws.specs.Followed.{ToldLaw}
use Rattle.machine_laws.specs.Told.{IsTold, IsToldOf}

module _ (d : Design) (x : Point) where
  hit_after : (ms ns : List Marking) → IsHitMarked d x ns → IsHitMarked d x (ms ++ ns)
  hit_after [] ns h = h
  hit_after (m ∷ ms) ns h = inr (hit_after ms ns h)

  hit_before : (ms ns : List Marking) → IsHitMarked d x ms → IsHitMarked d x (ms ++ ns)
  hit_before [] ns h = absurd h
  hit_before (m ∷ ms) ns (inl h) = inl h
  hit_before (m ∷ ms) ns (inr h) = inr (hit_before ms ns h)

  unmarked_after : (ms ns : List Marking) → IsUnmarked d x (ms ++ ns) → IsUnmarked d x ns
  unmarked_after [] ns h = h
  unmarked_after (m ∷ ms) ns h = unmarked_after ms ns h.1

  unmarked_before : (ms ns : List Marking) → IsUnmarked d x (ms ++ ns) → IsUnmarked d x ms
  unmarked_before [] ns h = tt
  unmarked_before (m ∷ ms) ns h = (h.0, unmarked_before ms ns h.1)

  -- what was reported stays so
  pub told_before : (ms ns : List Marking) (sure possible : Bool) → IsTold d x ms sure possible → IsTold d x (ms ++ ns) sure possible
  told_before ms ns sure possible h = record { hit = λ e. hit_before ms ns (h.hit e); some = λ e u. h.some e (unmarked_before ms ns u) }

  told_after : (ms ns : List Marking) (sure possible : Bool) → IsTold d x ns sure possible → IsTold d x (ms ++ ns) sure possible
  told_after ms ns sure possible h = record { hit = λ e. hit_after ms ns (h.hit e); some = λ e u. h.some e (unmarked_after ms ns u) }

module _ (st : Closing) where
  tells : (x : Point) (s : ℕ) (sure possible : Bool) → IsTold st.design x (tell st x s sure possible) sure possible
  tells x s true possible = record { hit = λ e. inl (refl, refl); some = λ e u. u.0 refl }
  tells x s false true = record { hit = λ e. absurd (false≢true e); some = λ e u. u.0 refl }
  tells x s false false = record { hit = λ e. absurd (false≢true e); some = λ e u. absurd (false≢true e) }

  -- it is among what is reported of all points
  told_among : (xs : List Point) (k : ℕ) (x : Point) (sure possible : Bool) → k < length xs → get_or xs k no_point ≡ x → IsTold st.design x (point_notes st x) sure possible → IsTold st.design x (all_point_notes st xs) sure possible
  told_among [] k x sure possible l is h = absurd (omega (arith, l))
  told_among (y ∷ ys) zero x sure possible l is h = told_before st.design x (point_notes st y) (all_point_notes st ys) sure possible (subst (λ z. IsTold st.design x (point_notes st z) sure possible) (sym is) h)
  told_among (y ∷ ys) (suc k) x sure possible l is h = told_after st.design x (point_notes st y) (all_point_notes st ys) sure possible (told_among ys k x sure possible (omega (arith, l)) is h)

pub tells_all : ToldLaw
tells_all st ps listed k l = go (point_at ps k) refl
  where
    go : (x : Point) → point_at ps k ≡ x → IsToldOf st.design (closed st (points_of ps)) x
    go (point.Line p n at w) e = tt
    go (point.Logic p n at op c) e = tt
    go (point.Toggle s i r) e = tt
    go (point.State i name s state x) e =
        let sure = are_surely (known_bits st.design (all_run st).kept s) x.bits in
        let possible = may_be (known_bits st.design (all_run st).kept s) x.bits in
        told_after st.design (point.State i name s state x) (all_run st).notes (all_point_notes st (points_of ps)) sure possible (told_among st (points_of ps) k (point.State i name s state x) sure possible l e
        (subst (λ b. IsTold st.design (point.State i name s state x) (if b then mark_had st (point.State i name s state x) s x.bits else (if st.sets.moves s then mark_reached st (point.State i name s state x) s x.bits else [])) sure possible) (sym listed)
        (tells st (point.State i name s state x) s sure possible)))
    go (point.Arc i name s from to x y) e = tt
    go (point.Word m i write) e = tt
