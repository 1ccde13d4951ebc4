use Rattle.std.proofs.lemmas.Result.{err_from_is_err_and}
use Rattle.vcd_reader.proofs.HeaderStanding.{going_open, push_no_room}
use Rattle.vcd_reader.proofs.header_reader.HeaderReader.push.Goals as goal

pub returns-in_err-check_room-clause-fault : goal.returns-in_err-check_room-clause-fault
returns-in_err-check_room-clause-fault c =
    let fault = err_from_is_err_and c.from_residual.result c.from_residual.ensures.1 in
    rw (fault.1, fault.2) (λ text black stands. push_no_room c.args.self.now text c.args.byte _ c.requires stands black c.in_err-check_room.ensures.no_room.1 c.in_err-check_room.ensures.fault)

pub returns-clause-open : goal.returns-clause-open
returns-clause-open c = going_open c.args.self.now.progress c.requires
