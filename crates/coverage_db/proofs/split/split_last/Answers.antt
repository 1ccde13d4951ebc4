use Rattle.std.proofs.Common.{◌∙◌, arith}
use Rattle.coverage_db.specs.Fields.{split_last}
use Rattle.coverage_db.proofs.Splitting.{before_none, before_more, after_here, after_other}
use Rattle.coverage_db.proofs.split.split_last.Goals as goal
use Rattle.coverage_db.proofs.split.split_last.Goals.{then-byte-value, else-byte-value}

pub loop-place-init : goal.loop-place-init
loop-place-init c = before_none (split_last c.args.value c.args.bytes.now)

pub loop-place-preserved : goal.loop-place-preserved
loop-place-preserved c =
    elim c.if-byte-value.branch [
      | then-byte-value w ↦ rw w.parts-is (before_more c.args.value c.args.bytes.now c.loop-place.place 0 _ _ (omega arith) (after_here c.args.value c.args.bytes.now c.loop-place.place _ _ _ _ _ w.if-byte-value.true w.split_at.ensures.front w.split_at.ensures.back w.split_at-then-byte-value.ensures.back) ∙ c.loop-place.invariant)
      | else-byte-value w ↦ rw w.parts-is (before_more c.args.value c.args.bytes.now c.loop-place.place 0 _ _ (omega arith) (after_other c.args.value _ _ _ w.if-byte-value.false) ∙ c.loop-place.invariant)
    ]
