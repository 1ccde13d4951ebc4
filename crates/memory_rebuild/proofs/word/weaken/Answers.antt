use Rattle.std.proofs.Common.{◌++◌, ◌∷◌, [], List, get_or, take, subst, sym, ◌∙◌, refl, ℕ}
use Rattle.std.proofs.lemmas.List.{take_more}
use Rattle.memory_rebuild.specs.declared.word.Word.{Word}
use Rattle.memory_rebuild.proofs.Weakening.{PartOf, part_joined, part_other}
use Rattle.memory_rebuild.proofs.word.weaken.Goals as goal
use Rattle.memory_rebuild.proofs.word.weaken.Goals.{then-may_name, else-may_name}

pub loop-place-preserved : goal.loop-place-preserved
loop-place-preserved c =
    subst (λ (ms : List ℕ). PartOf c.args.shape.now c.args.index.now c.args.value.now.bits c.args.words.now c.if-may_name.words ms) (sym (take_more c.args.written.now c.loop-place.place-index 0 c.loop-place-test.true))
    (elim c.if-may_name.branch [
      | then-may_name w ↦
          subst (λ (vs : List Word). PartOf c.args.shape.now c.args.index.now c.args.value.now.bits c.args.words.now vs (take c.loop-place.place-index c.args.written.now ++ get_or c.args.written.now c.loop-place.place-index 0 ∷ [])) (sym w.words-is)
          (part_joined c.args.shape.now c.args.index.now c.args.value.now.bits c.args.words.now c.loop-place.words (take c.loop-place.place-index c.args.written.now) (get_or c.args.written.now c.loop-place.place-index 0) c.loop-place.invariant (c.requires.inside c.loop-place.place-index 0 c.loop-place-test.true) c.args.value.now w.index-words-place.result w.after.result refl (sym c.may_name.ensures ∙ w.if-may_name.true) c.requires.width c.requires.sign w.index-words-place.is w.after.ensures.value w.after.ensures.epoch)
      | else-may_name w ↦
          subst (λ (vs : List Word). PartOf c.args.shape.now c.args.index.now c.args.value.now.bits c.args.words.now vs (take c.loop-place.place-index c.args.written.now ++ get_or c.args.written.now c.loop-place.place-index 0 ∷ [])) (sym w.words-is)
          (part_other c.args.shape.now c.args.index.now c.args.value.now.bits c.args.words.now c.loop-place.words (take c.loop-place.place-index c.args.written.now) (get_or c.args.written.now c.loop-place.place-index 0) c.loop-place.invariant (c.requires.inside c.loop-place.place-index 0 c.loop-place-test.true) (sym c.may_name.ensures ∙ w.if-may_name.false))
    ])
