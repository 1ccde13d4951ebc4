use Rattle.std.proofs.Common.{◌∙◌, ◌<◌, get_or, length, sym, ap, subst, arith}
use Rattle.std.specs.Prelude.{nat_eq}
use Rattle.target_counts.proofs.Replacing.{last_replaced, next_replaced, replaced_size}
use Rattle.target_counts.proofs.counts.TargetCounts.replace.Goals as goal

pub loop-named-preserved : goal.loop-named-preserved
loop-named-preserved c =
    record {
      order = c.replace_at.ensures.order ∙ c.loop-named.invariant.order;
      size = replaced_size (nat_eq c.args.count) c.args.other c.loop-named.self.counts.items c.replace_at.new.self.counts.items c.index.result.now c.replace_at.ensures.counts ∙ c.loop-named.invariant.size;
      rest = λ end h. c.loop-named.invariant.rest end
          (next_replaced (nat_eq c.args.count) c.args.other c.args.self.now.order.items c.loop-named.self.counts.items c.replace_at.new.self.counts.items end c.loop-named.named c.index.result.now
          (omega (arith, c.loop-named-test.true, c.len-named-end.ensures))
          (c.index.ensures ∙ ap (λ xs. get_or xs c.loop-named.named c.index.result.now) c.loop-named.invariant.order)
          (subst (λ z. z < length c.loop-named.self.counts.items) (sym c.index.ensures) (c.loop-named.self.within c.loop-named.named c.index.result.now (omega (arith, c.loop-named-test.true, c.len-named-end.ensures, ap length c.loop-named.invariant.order))))
          c.replace_at.ensures.counts h);
    }

pub returns-clause-counts : goal.returns-clause-counts
returns-clause-counts c = c.loop-named.invariant.rest c.loop-named.self.counts.items (last_replaced (nat_eq c.args.count) c.args.other c.args.self.now.order.items c.loop-named.self.counts.items c.loop-named.named (omega (arith, c.loop-named-test.false, c.len-named-end.ensures)))
