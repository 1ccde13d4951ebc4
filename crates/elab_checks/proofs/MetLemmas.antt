-- What holds after things that are met in order.
use Rattle.std.proofs.Common.{◌≡◌, Bool, true, false, List, ◌++◌, ap, ◌∙◌, sym}
use Rattle.std.specs.Prelude.{◌&&◌, ◌||◌, not}
use Rattle.flat_design.specs.Fault.{Fault, none}
use Rattle.elab_scope.specs.Tally.{Tally, after_faults}
use Rattle.elab_checks.proofs.ExpressionLemmas.{none_append}
use Rattle.elab_scope.proofs.TallyLemmas.{after_faults-append}

-- whether there is no fault so far, and no fault in the rest
pub both_sound : (s r n a : Bool) → (s && (r && n)) ≡ a → ((r && s) && n) ≡ a
both_sound true true n a e = e
both_sound true false n a e = e
both_sound false true n a e = e
both_sound false false n a e = e

-- faults that two calls report, one after the other
pub after_two : {u v : Tally} (t : Tally) (fs gs : List Fault) → u ≡ after_faults t fs → v ≡ after_faults u gs → v ≡ after_faults t (fs ++ gs)
after_two t fs gs one two = two ∙ ap (λ s. after_faults s gs) one ∙ sym (after_faults-append t fs gs)

-- that neither reports any
pub none_two : {x y : Bool} (fs gs : List Fault) → x ≡ none fs → y ≡ none gs → (x && y) ≡ none (fs ++ gs)
none_two {x} fs gs one two = ap (λ b. x && b) two ∙ ap (λ b. b && none gs) one ∙ sym (none_append fs gs)

-- that neither reports any, and neither of two tests holds
pub sound_two : {x y a b m n : Bool} (fs gs : List Fault) → x ≡ none fs → y ≡ none gs → a ≡ m → b ≡ n → ((x && y) && not (a || b)) ≡ (none (fs ++ gs) && not (m || n))
sound_two {x} {y} {a} {b} {m} {n} fs gs one two first second = ap (λ s. s && not (a || b)) (none_two fs gs one two) ∙ ap (λ s. none (fs ++ gs) && not (s || b)) first ∙ ap (λ s. none (fs ++ gs) && not (m || s)) second
