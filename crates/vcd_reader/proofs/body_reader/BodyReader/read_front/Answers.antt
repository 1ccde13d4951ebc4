use Rattle.std.proofs.lemmas.Result.{IfErr-weaker}
use Rattle.vcd_reader.proofs.body_reader.BodyReader.read_front.Goals as goal

pub returns-in-Some-clause-fault : goal.returns-in-Some-clause-fault
returns-in-Some-clause-fault c = IfErr-weaker c.read_vector.result _ _ (λ fault refused text b s. refused text b c.in-Some.ensures.none c.in-Some.ensures.rest s) c.read_vector.ensures.fault
