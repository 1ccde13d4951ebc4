-- What is true of a design that sources represent: it is lawful, its dumps can be replayed, and it can be written.
use Rattle.std.proofs.Common.{ℕ, ◌≤◌, List, length, sym, subst}
use Rattle.std.proofs.lemmas.List.{length-map}
use Rattle.std.specs.List.{All}
use Rattle.std.specs.Prelude.{IsTrue}
use Rattle.cov_host.specs.Outside.{Outside}
use Rattle.coverage_db.specs.Table.{is_file_name}
use Rattle.cover_points.specs.declared.listing.Points.{Points}
use Rattle.design_model.specs.Lawful.{IsLawfulDesign}
use Rattle.state_machines.specs.Machines.{StateMachines}
use Rattle.design_model.specs.View.{design_view}
use Rattle.design_model.specs.declared.design.Design.{Design}
use Rattle.design_points.specs.Counted.{AreAllPoints}
use Rattle.own_wakes.proofs.flat_laws.LawfulDesigns.{answered_lawful}
use Rattle.dump_score.proofs.instance_paths.Paths.{rooted}
use Rattle.dump_score.specs.instance_paths.Rooted.{IsRooted}
use Rattle.own_wakes.proofs.OwnWakes.{answered_wakes}
use Rattle.written_designs.proofs.parsed_modules.Modules.{modules_of_tokens}
use Rattle.dump_score.specs.replay_core.Fits.{IsReplayable}
use Rattle.source_design.specs.Accepted.{StandFor}
use Rattle.source_design.specs.Reading.{IsReadIn}
use Rattle.source_design.specs.Words.{SourceValues}
use Rattle.source_design.specs.declared.read.ReadDesign.{ReadDesign}
use Rattle.written_designs.specs.table_laws.Written.{IsWritten}
use Rattle.verilog_lexer.proofs.KeptTokens.{tokens_are_sound}
use Rattle.verilog_lexer.specs.Defines.{DefineText}
use Rattle.verilog_lexer.specs.Sources.{SourceText}
use Rattle.written_designs.proofs.Written.{design_written}

pub lawful_design : (sources : List SourceText) (defines : List DefineText) (top : List ℕ) (design : Design) → StandFor sources defines top design → IsLawfulDesign (design_view design)
lawful_design sources defines top design stands =
    let a = stands.accepted in
    let sound = tokens_are_sound sources defines a.tokens a.lexed in
    answered_lawful stands.modules top (design_view design) (modules_of_tokens a.tokens stands.modules sound a.spelled) stands.flat

-- its dumps can be replayed, with all its points
pub replayable_design : (sources : List SourceText) (defines : List DefineText) (top : List ℕ) (design : Design) (machines : StateMachines) (points : Points) → StandFor sources defines top design → AreAllPoints (design_view design) machines points → IsReplayable (design_view design) points
replayable_design sources defines top design machines points stands all =
    let a = stands.accepted in
    let sound = tokens_are_sound sources defines a.tokens a.lexed in
    record {
      lawful = lawful_design sources defines top design stands;
      own_wakes = answered_wakes stands.modules top (design_view design) (modules_of_tokens a.tokens stands.modules sound a.spelled) stands.flat;
      machines = machines;
      listed = all.listed;
      apart = all.apart;
      once = all.once;
    }

-- its first instance is the top
pub rooted_design : (sources : List SourceText) (defines : List DefineText) (top : List ℕ) (design : Design) → StandFor sources defines top design → IsRooted (design_view design)
rooted_design sources defines top design stands = rooted stands.modules top (design_view design) stands.flat

-- it can be written in a table with the names of its sources
pub written_design : (words : SourceValues) (before : Outside) (read : ReadDesign) → IsReadIn words before read → All (λ name. IsTrue (is_file_name name)) read.sources → 1 ≤ length read.sources → IsWritten read.sources (design_view read.design)
written_design words before read is names some =
    let a = is.stands.accepted in
    let here = subst (λ ns. All (λ name. IsTrue (is_file_name name)) ns) is.names names in
    let few = subst (λ n. 1 ≤ n) (length-map is.sources (λ source. source.name)) (subst (λ ns. 1 ≤ length ns) is.names some) in
    subst (λ ns. IsWritten ns (design_view read.design)) (sym is.names)
    (design_written is.sources words.defines a.tokens is.stands.modules words.top (design_view read.design) is.gathered.within here few a.lexed a.spelled is.stands.flat)
