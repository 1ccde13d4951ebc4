use Rattle.std.proofs.Common.{◌≤◌, ap, length, refl, subst, sym, arith}
use Rattle.database_commands.proofs.ExclusionReading.{exclusion_fault}
use Rattle.database_commands.proofs.Reading.{AreBytesOf}
use Rattle.database_commands.proofs.exclusion.read_exclusion.Goals as goal

pub returns-in-Err-At-clause-fault : goal.returns-in-Err-At-clause-fault
returns-in-Err-At-clause-fault g c =
    let before = g.H.Host.outside c.args.host.now in
    let name = c.args.file.now in
    let bytes = c.as_slice.result.now in
    let read : AreBytesOf before name bytes = subst (AreBytesOf before name) (sym c.as_slice.ensures) c.in-Ok.ensures.content in
    let short : length bytes ≤ 2147483648 = omega (arith, c.len.ensures, ap length c.as_slice.ensures, c.if-len-gt-LONGEST.false) in
    (refl, exclusion_fault before name bytes c.in-Err-At.kind c.in-Err-At.line read short (rw c.in-Err-At.field-0-is at c.in-Err-At.ensures.only) (rw c.in-Err-At.field-0-is at c.in-Err-At.ensures.fault))
