use Rattle.std.proofs.Common.{arith, rules, ◌∙◌}
use Rattle.source_design.proofs.Names.{name_more, name_none, name_pushed}
use Rattle.source_design.proofs.read.names_of.Goals as goal

pub each-preserved : goal.each-preserved
each-preserved c =
    let more = name_more c.args.sources.now c.each.count c.in-Some.name.now c.in-Some.ensures in
    record {
      names = name_pushed c.args.sources.now c.each.count _ _ _ c.in-Some.name.now c.each.invariant.names c.in_ok-push.ensures.ok (search rules) more.1;
      within = omega (arith, more.0);
    }

pub returns : goal.returns
returns c = c.each.invariant.names ∙ name_none _ _ c.in_default.ensures
