-- The faults of a database in messages.
use Rattle.std.specs.Prelude.{ℕ, List, codes}
use Rattle.coverage_db.specs.declared.fault.DbKind.{DbKind}
use Rattle.coverage_db.specs.declared.fault.DbKind.TheVariants.{BadLine, WrongVersion, WrongCount, DbTooLong}

-- the number and the name of a fault
abbrev pub kind_text : DbKind → List ℕ
kind_text BadLine = codes "1 BadLine"
kind_text WrongVersion = codes "2 WrongVersion"
kind_text WrongCount = codes "3 WrongCount"
kind_text DbTooLong = codes "5 DbTooLong"
