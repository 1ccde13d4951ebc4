use Rattle.std.proofs.Common.{lit<, refl}
use Rattle.std.proofs.lemmas.Bool.{and_parts, false≢true}
use Rattle.worked_examples.proofs.arcs.label_example.Goals as goal

pub returns : goal.returns
returns c =
    record {
      one = record { constant = refl; known = refl; inside = lit< tt; equal = refl };
      none = λ v h. absurd (false≢true (and_parts _ _ (and_parts _ _ h.equal).1).1);
    }
