use Rattle.selfrun_files.specs.Samples.{start}
use Rattle.selfrun_files.proofs.Times.{times_count}
use Rattle.selfrun_files.proofs.laws.written_times.Goals as goal

pub returns : goal.returns
returns c number steps = times_count steps (start number)
