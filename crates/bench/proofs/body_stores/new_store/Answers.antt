use Rattle.std.proofs.Common.{ap, subst, sym}
use Rattle.design_model.specs.View.{design_view}
use Rattle.body_store.specs.Held.{HoldsStore}
use Rattle.body_store.specs.Made.{nothing, unblamed}
use Rattle.bench.proofs.body_stores.new_store.Goals as goal

pub new-requires-clause-few_memories : goal.new-requires-clause-few_memories
new-requires-clause-few_memories c = (c.premises_law.ensures (design_view c.args.design.now) c.requires).few_memories

pub returns : goal.returns
returns c =
    let x = c.in_ok-store.store in
    let e = c.in_ok-store.ensures in
    record {
      design = ap design_view e.design;
      around = e.around;
      plain = e.hides;
      own = c.own_law.ensures.kept x nothing (subst (λ d. HoldsStore (design_view d) nothing unblamed x) (sym e.design) e.holds);
      log = e.log;
      queue = e.queue;
    }
