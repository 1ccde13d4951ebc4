use Rattle.std.proofs.Common.{refl}
use Rattle.std.proofs.lemmas.Result.{err_from_is_err_and}
use Rattle.vcd_reader.proofs.BodyStanding.{space_said, space_fault, space_no_room}
use Rattle.vcd_reader.proofs.body_reader.BodyReader.read_space.Goals as goal

pub returns-in_err-says-clause-fault : goal.returns-in_err-says-clause-fault
returns-in_err-says-clause-fault c =
    let fault = err_from_is_err_and c.from_residual.result c.from_residual.ensures.1 in
    rw (fault.1, fault.2) (λ text space b white stands. space_fault c.args.filter c.args.self.now text space b c.read_kept.new.reading _ white stands c.in_err-says.ensures)

pub returns-in_err-check_room-clause-fault : goal.returns-in_err-check_room-clause-fault
returns-in_err-check_room-clause-fault c =
    let fault = err_from_is_err_and c.from_residual-in_err-check_room.result c.from_residual-in_err-check_room.ensures.1 in
    rw (fault.1, fault.2) (λ text space b white stands. space_no_room c.args.filter c.args.self.now text space b c.in_ok-says.says c.read_kept.new.reading _ white stands c.in_ok-says.ensures c.in_err-check_room.ensures.no_room c.in_err-check_room.ensures.fault)

pub returns-clause-ok : goal.returns-clause-ok
returns-clause-ok c = λ text space b white stands. space_said c.args.filter c.args.self.now _ text space b c.in_ok-says.says white stands c.in_ok-says.ensures c.in_ok-check_room.ensures.room refl refl refl refl
