use Rattle.std.proofs.Common.{◌+◌, ◌∙◌, arith, length-drop}
use Rattle.whole_files.specs.Effects.{AppendsFront}
use Rattle.whole_files.proofs.EffectLemmas.{AppendsTo-more, CountsUp-faults, CountsUp-trans, KeepsOutput-trans, KeepsStreams-trans, Told-map}
use Rattle.whole_files.proofs.files.write_all.Goals as goal

pub loop-written-preserved : goal.loop-written-preserved
loop-written-preserved g c =
    let turn = c.loop-written.invariant in
    let wrote = rw c.split_at.ensures.back at c.in-Ok.ensures.written in
    record {
      within = omega (arith, wrote.within, length-drop c.loop-written.written c.args.text.now);
      writing = c.in-Ok.ensures.output.writing ∙ turn.writing;
      written = AppendsTo-more _ _ c.args.text.now c.loop-written.written c.in-Ok.count _ _ _ turn.output.target turn.written wrote.files;
      output = KeepsOutput-trans _ _ _ turn.output c.in-Ok.ensures.output;
      streams = KeepsStreams-trans _ _ _ turn.streams c.in-Ok.ensures.streams;
      counts = CountsUp-trans _ _ _ turn.counts (CountsUp-faults _ _ c.in-Ok.ensures.counts);
    }

pub returns-in-Err-clause-front : goal.returns-in-Err-clause-front
returns-in-Err-clause-front g c =
    let turn = c.loop-written.invariant in
    let partly = rw c.split_at.ensures.back at c.in-Err.ensures.refused in
    Told-map {S = AppendsFront (g.H.Host.outside c.args.host.now).target c.args.text.now} _ _ (λ old new appended. (c.loop-written.written + partly.0, appended)) (AppendsTo-more _ _ c.args.text.now c.loop-written.written partly.0 _ _ _ turn.output.target turn.written partly.1)
