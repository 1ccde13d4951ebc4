use Rattle.std.proofs.Common.{subst, sym}
use Rattle.std.proofs.lemmas.Result.{err_from_is_err_and}
use Rattle.whole_files.proofs.EffectLemmas.{OnlyReads-trans}
use Rattle.source_files.specs.Files.{Lacks}
use Rattle.source_files.proofs.Contents.{joins_earlier}
use Rattle.source_files.proofs.MissingNames.{missing_name}
use Rattle.source_design.specs.Words.{source_values}
use Rattle.source_design.proofs.Gathering.{begun_first, begun_more, design_gathered, include_fault, root_fault, stand_for_same}
use Rattle.source_design.proofs.read.read_design.Goals as goal

pub returns-in-Err-clause-fault : goal.returns-in-Err-clause-fault
returns-in-Err-clause-fault g c =
    root_fault (source_values c.args.words.now) (g.H.Host.outside c.args.host.now) (g.H.Host.outside c.read_roots.new.host) c.in-Err.field-0 c.root_fault.result c.in-Err.ensures.fault c.root_fault.ensures

pub lacking-init : goal.lacking-init
lacking-init g c = record { begun = begun_first (source_values c.args.words.now) (g.H.Host.outside c.args.host.now) c.in-Ok.sources c.in-Ok.ensures.roots c.in-Ok.ensures.within; effects = c.in-Ok.ensures.effects }

pub returns-in-Design-clause-design : goal.returns-in-Design-clause-design
returns-in-Design-clause-design g c =
    let words = source_values c.args.words.now in
    let stands = rw c.in-Design.is at c.in_ok-design.ensures.found in
    record {
      sources = c.lacking.sources;
      gathered = design_gathered words (g.H.Host.outside c.args.host.now) c.lacking.sources c.in-Design.design c.lacking.invariant.begun stands;
      stands = stand_for_same c.lacking.sources words.defines words.top c.in-Design.design c.put_in_order.new.design c.in_ok-put_in_order-in-Design.ensures stands;
      names = c.in_ok-names_of-in-Design.ensures;
    }

pub join_lacking-requires : goal.join_lacking-requires
join_lacking-requires g c = rw c.as_slice.ensures (missing_name c.lacking.sources (source_values c.args.words.now).defines c.in-Lacking.name (rw c.in-Lacking.is at c.in_ok-design.ensures.found))

pub returns-in_err-join_lacking-in-Lacking-clause-fault : goal.returns-in_err-join_lacking-in-Lacking-clause-fault
returns-in_err-join_lacking-in-Lacking-clause-fault g c =
    let words = source_values c.args.words.now in
    let lacks = subst (Lacks c.lacking.sources words.defines) (sym c.as_slice.ensures) (rw c.in-Lacking.is at c.in_ok-design.ensures.found) in
    let p = err_from_is_err_and c.from_residual-in_err-join_lacking-in-Lacking.result c.from_residual-in_err-join_lacking-in-Lacking.ensures.1 in
    rw (p.1, p.2) (include_fault words (g.H.Host.outside c.args.host.now) (g.H.Host.outside c.lacking.host) (g.H.Host.outside c.join_lacking.new.host) c.lacking.sources c.as_slice.result.now c.lacking.invariant.effects
    c.in_err-join_lacking-in-Lacking.ensures.effects c.lacking.invariant.begun lacks _ c.in_err-join_lacking-in-Lacking.ensures.fault)

pub lacking-preserved : goal.lacking-preserved
lacking-preserved g c =
    let words = source_values c.args.words.now in
    let lacks = subst (Lacks c.lacking.sources words.defines) (sym c.as_slice.ensures) (rw c.in-Lacking.is at c.in_ok-design.ensures.found) in
    record {
      begun = begun_more words (g.H.Host.outside c.args.host.now) c.lacking.sources c.join_lacking.new.sources c.as_slice.result.now c.lacking.invariant.begun lacks
          (joins_earlier _ _ _ (g.H.Host.outside c.args.host.now) (g.H.Host.outside c.lacking.host) _ _ c.lacking.invariant.effects c.in_ok-join_lacking-in-Lacking.ensures.joined);
      effects = OnlyReads-trans _ _ _ c.lacking.invariant.effects c.in_ok-join_lacking-in-Lacking.ensures.effects;
    }
