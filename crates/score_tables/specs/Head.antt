-- The head of a table of a design.
use Rattle.std.specs.Prelude.{◌≡◌, ℕ, List, map, slice_index_or}
use Rattle.std.specs.List.Sorted.{IsPermutation}
use Rattle.coverage_db.specs.declared.db.Db.{Db}
use Rattle.coverage_db.specs.declared.db.DbInstance.{DbInstance}
use Rattle.design_model.specs.Design.{Design, no_instance}
use Rattle.design_model.specs.declared.design.Instance.{Instance}

-- an instance of a design, as a table has it
abbrev pub row_of : Instance → DbInstance
row_of i = record { path = i.path; «module» = i.«module» }

-- in place of an instance that a table does not have
abbrev pub no_instance_row : DbInstance
no_instance_row = row_of no_instance

-- the table is of the design's top module, of the sources of these names, and of the design's instances, the top's first
pub record HasHead (d : Design) (names : List (List ℕ)) (db : Db) : Type 0 where
  pub top : db.top ≡ d.top
  pub sources : db.sources ≡ names
  pub instances : IsPermutation (map row_of d.instances) db.instances
  pub first : (slice_index_or db.instances 0 no_instance_row).path ≡ d.top
