-- A replay before its first step.
use Rattle.std.proofs.Common.{◌≡◌, ◌∙◌, ◌<◌, ◌≤◌, ℕ, Bool, false, List, [], ◌∷◌, IfOk, Result, Ok, Err, inl, inr, refl, sym, ap, subst, arith, length}
use Rattle.std.specs.Prelude.{nat_lt, replicate, slice_index_or}
use Rattle.std.proofs.lemmas.Bool.{cases_Bool}
use Rattle.std.proofs.lemmas.Bool.Decides.{nat_tests}
use Rattle.std.proofs.lemmas.List.{ext_get_or, get_or-replicate, get_or_past, length-append, length-replicate}
use Rattle.body_rooms.specs.Rooms.{AmongLaw, PlacesLaw, ReadyLaw}
use Rattle.body_store.specs.Bodies.{around_of, queued_of, rooms_of}
use Rattle.body_store.specs.Held.{HoldsStore}
use Rattle.body_store.specs.Made.{nothing, unblamed}
use Rattle.body_store.specs.Views.{hides, under_of}
use Rattle.body_store.specs.declared.store.Store.{Store}
use Rattle.cover_points.specs.Listed.{points_of}
use Rattle.cover_points.specs.declared.listing.Points.{Points}
use Rattle.design_model.specs.declared.design.Design as m
use Rattle.design_model.specs.Design.{Design, body_at}
use Rattle.design_model.specs.Lawful.{IsLawfulDesign}
use Rattle.design_model.specs.View.{design_view}
use Rattle.first_step.specs.mark_laws.Marked.{AreVerdicts}
use Rattle.first_step.proofs.mark_laws.Marked.{nothing_marked}
use Rattle.body_rooms.specs.open_tests.Weights.{HasRoomFor}
use Rattle.point_marks.specs.Marking.{IsMarked, IsVerdict, doubt_of}
use Rattle.point_marks.specs.declared.verdict.Verdict.{Verdict}
use Rattle.point_marks.specs.declared.verdict.Verdict.TheVariants.{Hit, Missed, Undetermined}
use Rattle.first_step.specs.store_knowledge.Knows.{Knows}
use Rattle.first_step.specs.store_knowledge.Laws.{NewLaw}
use Rattle.value_store.specs.Rooms.{queued_parts}

-- ---- the marks

unmarked : (p : ℕ) (v : Verdict) → IsVerdict [] p v → v ≡ Missed
unmarked p Missed h = refl
unmarked p Hit (k, l, e) = absurd (omega (arith, l))
unmarked p (Undetermined y) h = let e = ap length h.1.is in absurd (omega (arith, e, length-append h.1.before (doubt_of p y ∷ h.1.after)))

pub no_verdicts : (d : Design) (ps : Points) (vs : List Verdict) → length vs ≡ length (points_of ps) → IsMarked [] vs → AreVerdicts d ps [] vs
no_verdicts d ps vs size none =
    let made = length-replicate (length vs) Missed in
    let are : vs ≡ replicate (length vs) Missed = ext_get_or Missed vs (replicate (length vs) Missed) (sym made) (λ i l. unmarked i _ (none i l) ∙ sym (get_or-replicate (length vs) i Missed Missed l)) in
    subst (AreVerdicts d ps []) (sym are) (nothing_marked d ps (length vs) size)

-- no flag is set
pub no_flags : (flags : List Bool) (n : ℕ) → flags ≡ replicate n false → (p : ℕ) → slice_index_or flags p false ≡ false
no_flags flags n are p = ap (λ fs. slice_index_or fs p false) are ∙ elim (cases_Bool (nat_lt p n)) [
  | inl e ↦
      let below : p < n = grind (arith, nat_tests, e) in
      get_or-replicate n p false false below
  | inr e ↦
      let size = length-replicate n false in
      let past : n ≤ p = grind (arith, nat_tests, e) in
      get_or_past (replicate n false) p false (omega (arith, size, past))
]

-- ---- the store

module _ (D : m.Design) (lawful : IsLawfulDesign (design_view D)) (places : PlacesLaw) (among : AmongLaw) (ready : ReadyLaw) (new : NewLaw) where
  knows_nothing : (x : Store) → HoldsStore (design_view D) nothing unblamed x → x.design.now ≡ D → queued_of x ≡ [] → around_of x ≡ [] → ((t : ℕ) → hides x t ≡ false) → (rooms_of x).log ≡ (under_of x).log → (rooms_of x).queue ≡ x.updates.room
      → Knows (design_view D) nothing x
  knows_nothing x holds design queued around plain log queue = new (design_view D) x (ap design_view design) holds plain queued around (λ p l.
      let d = design_view x.design.now in
      let own : IsLawfulDesign d = subst (λ b. IsLawfulDesign (design_view b)) (sym design) lawful in
      let inside : p < length d.processes = subst (λ b. p < length (design_view b).processes) (sym design) l in
      let all = places x own in
      let one = among d p inside in
      let fits : queued_parts (body_at d p) ≤ (rooms_of x).queue = omega (arith, all, one, queue) in
      subst (λ b. HasRoomFor (body_at (design_view b) p) [] (rooms_of x)) design (ready x p own inside log fits))

  pub new_knows : {E : Type 0} (r : Result Store E) → IfOk r (λ x. HoldsStore (design_view D) nothing unblamed x) → IfOk r (λ x. x.design.now ≡ D) → IfOk r (λ x. queued_of x ≡ []) → IfOk r (λ x. around_of x ≡ []) → IfOk r (λ x. (t : ℕ) → hides x t ≡ false)
      → IfOk r (λ x. (rooms_of x).log ≡ (under_of x).log) → IfOk r (λ x. (rooms_of x).queue ≡ x.updates.room) → IfOk r (Knows (design_view D) nothing)
  new_knows (Ok x) holds design queued around plain log queue = knows_nothing x holds design queued around plain log queue
  new_knows (Err e) holds design queued around plain log queue = tt
