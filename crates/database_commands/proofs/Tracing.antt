-- A tracefile that was written, and why one was not.
use Rattle.std.proofs.Common.{◌≡◌, refl, sym, subst, inl, inr}
use Rattle.command_line.specs.LcovWords.{LcovValues}
use Rattle.cov_host.specs.Outside.{Outside}
use Rattle.database_commands.specs.Complete.{HasTable, NoFaults}
use Rattle.database_commands.specs.Faults.{IsNoTable, IsTableFault, IsWriteFault}
use Rattle.database_commands.specs.Files.{HoldsSome}
use Rattle.database_commands.specs.Tracing.{IsGoodLcov, IsLcovFault}
use Rattle.whole_files.specs.Refusals.{IsRefused}
use Rattle.database_commands.specs.declared.fault.CommandFault.{CommandFault}
use Rattle.database_commands.specs.declared.fault.CommandFault.TheVariants.{Files, Print, Memory, NoDatabase, DesignsDiffer, Point}
use Rattle.database_commands.proofs.Complete.{refused_there, refused_write, table_there}
use Rattle.database_commands.proofs.Reading.{refused_before}
use Rattle.whole_files.specs.Effects.{CountsUp, OnlyReads}

-- the file was not read
pub lcov_table_fault : (lcov : LcovValues) (before after : Outside) (fault : CommandFault) → IsTableFault lcov.file before after fault → IsLcovFault lcov before after fault
lcov_table_fault lcov before after (Files call file) is = inl (is.1, is.0, subst (λ name. IsRefused call name before after) (sym is.0) is.2)
lcov_table_fault lcov before after Print is = absurd is
lcov_table_fault lcov before after Memory is = tt
lcov_table_fault lcov before after (NoDatabase file kind line) is = (is.0, subst (λ name. IsNoTable name before kind line) (sym is.0) is.1)
lcov_table_fault lcov before after (DesignsDiffer file line first other) is = absurd is
lcov_table_fault lcov before after (Point file fault address) is = absurd is

-- the output was not written, of a file that holds a table
pub lcov_write_fault : (lcov : LcovValues) (before now after : Outside) → HoldsSome before lcov.file → OnlyReads before now → CountsUp now after → (fault : CommandFault) → IsWriteFault lcov.output now after fault → IsLcovFault lcov before after fault
lcov_write_fault lcov before now after holds effects later (Files call file) is = inr (is.1, is.0, refused_before before now after call file.now effects later is.2, holds)
lcov_write_fault lcov before now after holds effects later Print is = absurd is
lcov_write_fault lcov before now after holds effects later Memory is = tt
lcov_write_fault lcov before now after holds effects later (NoDatabase file kind line) is = absurd is
lcov_write_fault lcov before now after holds effects later (DesignsDiffer file line first other) is = absurd is
lcov_write_fault lcov before now after holds effects later (Point file fault address) is = absurd is

pub good_lcov : (lcov : LcovValues) (before after : Outside) → IsGoodLcov lcov before → NoFaults before after → (fault : CommandFault) → IsLcovFault lcov before after fault → fault ≡ Memory
good_lcov lcov before after good none (Files call file) (inl is) =
    absurd (none (refused_there before after call file.now good.0 (subst (λ name. HasTable before name good.0) (sym is.1) good.1) is.2))
good_lcov lcov before after good none (Files call file) (inr (writing, named, refused, holds)) = absurd (none (refused_write before after call file.now writing refused))
good_lcov lcov before after good none Print is = absurd is
good_lcov lcov before after good none Memory is = refl
good_lcov lcov before after good none (NoDatabase file kind line) is =
    absurd (table_there before file.now good.0 kind line (subst (λ name. HasTable before name good.0) (sym is.0) good.1) is.1)
good_lcov lcov before after good none (DesignsDiffer file line first other) is = absurd is
good_lcov lcov before after good none (Point file fault address) is = absurd is
