-- Where nothing was marked, no doubt is of another thing than one of the design.
use Rattle.std.proofs.Common.{ℕ, List, [], ◌∷◌, length, get_or, ap, arith, length-append}
use Rattle.std.specs.List.{All}
use Rattle.std.proofs.lemmas.List.Elements.{All-from_get_or}
use Rattle.design_model.specs.Design.{Design}
use Rattle.point_marks.specs.Marking.{IsMarked, IsVerdict, doubt_of}
use Rattle.point_marks.specs.declared.verdict.Verdict.{Verdict}
use Rattle.point_marks.specs.declared.verdict.Verdict.TheVariants.{Hit, Missed, Undetermined}
use Rattle.point_table.specs.Verdicts.{IsOfDesign}

not_marked : (d : Design) (k : ℕ) (v : Verdict) → IsVerdict [] k v → IsOfDesign d v
not_marked d k Hit h = tt
not_marked d k Missed h = tt
not_marked d k (Undetermined y) h = absurd (omega (arith, ap length h.1.is, length-append h.1.before (doubt_of k y ∷ h.1.after)))

pub none_marked : (d : Design) (verdicts : List Verdict) → IsMarked [] verdicts → All (IsOfDesign d) verdicts
none_marked d verdicts marked = All-from_get_or (IsOfDesign d) verdicts Missed (λ k l. not_marked d k (get_or verdicts k Missed) (marked k l))
