-- What contracts see of the types of the code.
use Rattle.std.specs.Prelude.{ℕ, List, [], Option, Some, None}
use Rattle.std.specs.Borrow.{Bor}
use Rattle.coverage_db.specs.declared.db.DbInstance.{DbInstance}
use Rattle.coverage_db.specs.Fields.{fields_of}

-- the fields of what is left of a line
abbrev pub fields_left : Option (Bor (List ℕ)) → List (List ℕ)
fields_left None = []
fields_left (Some rest) = fields_of rest.now

-- a function that finds something out and returns nothing
abbrev pub unit : {A : Type 0} → A → Unit {0}
unit x = tt

-- an instance without where it lies in memory
abbrev pub instance_of_parts : Bor (List ℕ) × Bor (List ℕ) → DbInstance
instance_of_parts parts = record { path = parts.0.now; «module» = parts.1.now }
