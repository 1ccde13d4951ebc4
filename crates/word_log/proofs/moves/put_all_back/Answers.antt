use Rattle.std.proofs.Common.{arith, refl, ◌∙◌}
use Rattle.word_log.proofs.Undone.{moved_both, moved_nothing}
use Rattle.word_log.proofs.moves.put_all_back.Goals as goal

pub loop-from-init : goal.loop-from-init
loop-from-init c =
    record {
      moved = moved_nothing c.args.from.now.items c.args.to.now.items c.args.memories.now;
      enough = c.requires.left;
      sum = refl;
      capacity = refl;
      capacity_from = refl;
      fit = c.requires.fit;
      fit_to = c.requires.fit_to;
    }

pub loop-from-preserved : goal.loop-from-preserved
loop-from-preserved c =
    record {
      moved = moved_both c.args.from.now.items c.args.to.now.items c.loop-from.from.items c.loop-from.to.items c.put_back.new.from.items c.put_back.new.to.items c.args.memories.now c.loop-from.memories c.put_back.new.memories c.loop-from.invariant.moved c.put_back.ensures.moved;
      enough = omega arith;
      sum = omega arith;
      capacity = c.put_back.ensures.capacity ∙ c.loop-from.invariant.capacity;
      capacity_from = c.put_back.ensures.capacity_from ∙ c.loop-from.invariant.capacity_from;
      fit = c.put_back.ensures.fit;
      fit_to = c.put_back.ensures.fit_to;
    }
