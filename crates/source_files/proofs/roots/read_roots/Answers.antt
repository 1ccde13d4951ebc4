use Rattle.std.proofs.Common.{◌+◌, map, drop, take, sym, subst}
use Rattle.whole_files.proofs.EffectLemmas.{OnlyReads-trans}
use Rattle.source_files.specs.Files.{AreRoots}
use Rattle.source_files.proofs.Contents.{join_fault_earlier, joins_earlier, joins_within}
use Rattle.source_files.proofs.RootLists.{names_around, names_push, root_joins}
use Rattle.source_files.proofs.roots.read_roots.Goals as goal

pub returns-in-Err-clause-fault : goal.returns-in-Err-clause-fault
returns-in-Err-clause-fault g c =
    let turn = c.files.invariant in
    record {
      front = map (λ file. file.now) (take c.files.file-index c.args.files.now);
      others = map (λ file. file.now) (drop (c.files.file-index + 1) c.args.files.now);
      sources = c.files.sources;
      stands = names_around c.args.files.now c.files.file-index _ c.files-test.true;
      roots = turn.roots;
      within = turn.within;
      is = join_fault_earlier _ _ _ _ _ c.files.sources _ turn.effects c.in-Err.ensures.effects c.in-Err.ensures.fault;
    }

pub files-preserved : goal.files-preserved
files-preserved g c =
    let turn = c.files.invariant in
    record {
      roots = subst (λ names. AreRoots (g.H.Host.outside c.args.host.now) names c.join.new.sources) (sym (names_push c.args.files.now c.files.file-index _ c.files-test.true))
          (root_joins _ _ _ _ _ turn.roots (joins_earlier _ _ _ _ _ _ _ turn.effects c.in-Ok.ensures.joined));
      within = joins_within _ _ _ _ _ _ turn.within c.in-Ok.ensures.joined;
      effects = OnlyReads-trans _ _ _ turn.effects c.in-Ok.ensures.effects;
    }
