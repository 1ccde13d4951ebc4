use Rattle.std.proofs.Common.{◌∷◌, ◌++◌, [], ap, arith, sym, take, ◌∙◌}
use Rattle.std.proofs.lemmas.List.{take_all}
use Rattle.word_log.specs.Logs.{sizes_of}
use Rattle.word_log.proofs.SeenSets.{sizes_more}
use Rattle.word_log.proofs.seen.sets_of.Goals as goal

pub loop-memory-preserved : goal.loop-memory-preserved
loop-memory-preserved c =
    let i = c.loop-memory.memory-index in
    let all = c.args.memories.now in
    record {
      sizes =
          c.in_ok-add_set.ensures.sizes ∙ ap (λ ns. ns ++ c.len.result ∷ []) c.loop-memory.invariant.sizes ∙ ap (λ n. sizes_of (take i all) ++ n ∷ []) c.len.ensures
          ∙ sym (sizes_more all i c.memory-item.result c.loop-memory-test.true c.memory-item.is);
      empty = c.in_ok-add_set.ensures.empty c.loop-memory.invariant.empty;
    }

pub returns-clause-sizes : goal.returns-clause-sizes
returns-clause-sizes c = c.loop-memory.invariant.sizes ∙ ap sizes_of (take_all c.loop-memory.memory-index c.args.memories.now (omega arith))

pub returns-clause-empty : goal.returns-clause-empty
returns-clause-empty c = c.loop-memory.invariant.empty
