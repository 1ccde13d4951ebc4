-- What is met of a process, in order.
use Rattle.std.proofs.Common.{◌≡◌, sym, ap, ◌∙◌, List, ◌∷◌, ◌++◌, Result, Ok, Err}
use Rattle.std.specs.Prelude.{OnOk}
use Rattle.flat_design.specs.Bodies.{Met, met_faults}
use Rattle.flat_design.specs.Fault.{Fault}
use Rattle.elab_scope.specs.Tally.{Tally, after, after_all, after_faults}
use Rattle.elab_scope.proofs.TallyLemmas.{after_all-append, after_faults-append}

-- an equal tally, where a call gives a value
met_along : {A E : Type 0} (r : Result A E) (x y z : Tally) → y ≡ z → OnOk r (x ≡ y) → OnOk r (x ≡ z)
met_along (Ok a) x y z e h = h ∙ e
met_along (Err a) x y z e h = h

-- one thing, faults, and then others
pub process_met : {A E : Type 0} (r : Result A E) (t u v w : Tally) (m : Met) (xs : List Fault) (ms : List Met) → u ≡ after t m → v ≡ after_faults u xs → OnOk r (w ≡ after_all v ms) → OnOk r (w ≡ after_all t (m ∷ met_faults xs ++ ms))
process_met r t u v w m xs ms p q h =
    let so_far : v ≡ after_all t (m ∷ met_faults xs) = q ∙ ap (λ s. after_faults s xs) p in
    met_along r w _ _ (ap (λ s. after_all s ms) so_far ∙ sym (after_all-append t (m ∷ met_faults xs) ms)) h

-- faults of two expressions, what is written, and faults again
pub assignment_met : {A E : Type 0} (r : Result A E) (t t1 t2 t3 t4 t5 : Tally) (m : Met) (xs ys zs : List Fault) (ws : List Met) →
    t1 ≡ after t m → t2 ≡ after_faults t1 xs → t3 ≡ after_faults t2 ys → t4 ≡ after_all t3 ws → OnOk r (t5 ≡ after_faults t4 zs) → OnOk r (t5 ≡ after_all t (m ∷ met_faults (xs ++ ys) ++ ws ++ met_faults zs))
assignment_met r t t1 t2 t3 t4 t5 m xs ys zs ws p q s w h =
    let told : t3 ≡ after_all t (m ∷ met_faults (xs ++ ys)) = s ∙ ap (λ u. after_faults u ys) (q ∙ ap (λ u. after_faults u xs) p) ∙ sym (after_faults-append (after t m) xs ys) in
    let written : t4 ≡ after_all t (m ∷ met_faults (xs ++ ys) ++ ws) = w ∙ ap (λ u. after_all u ws) told ∙ sym (after_all-append t (m ∷ met_faults (xs ++ ys)) ws) in
    met_along r t5 _ _ (ap (λ u. after_faults u zs) written ∙ sym (after_all-append t (m ∷ met_faults (xs ++ ys) ++ ws) (met_faults zs))) h
