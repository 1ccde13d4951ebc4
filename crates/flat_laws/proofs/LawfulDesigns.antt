-- An answered design is lawful.
use Rattle.std.proofs.Common.{◌≡◌, ℕ, List, Ok}
use Rattle.design_model.specs.Design.{Design}
use Rattle.design_model.specs.Lawful.{IsLawfulDesign}
use Rattle.verilog_tree.specs.Tree.{Module}
use Rattle.flat_design.specs.Faults.{answer}
use Rattle.flat_laws.specs.Tokens.{AreOfTokens}
use Rattle.flat_laws.proofs.LawfulBodies.{answered_bodies}
use Rattle.flat_laws.proofs.LawfulDistinct.{answered_names}
use Rattle.flat_laws.proofs.LawfulDrivenOnce.{answered_targets}
use Rattle.flat_laws.proofs.LawfulDrivers.{answered_drivers}
use Rattle.flat_laws.proofs.LawfulEvents.{answered_wakes}
use Rattle.flat_laws.proofs.LawfulInstances.{answered_instances}
use Rattle.flat_laws.proofs.LawfulLimits.{answered_small}
use Rattle.flat_laws.proofs.LawfulLists.{answered_in_range}
use Rattle.flat_laws.proofs.LawfulNumbers.{answered_numbers}
use Rattle.flat_laws.proofs.LawfulInputs.{answered_inputs}
use Rattle.flat_laws.proofs.LawfulMixed.{answered_mixed}
use Rattle.flat_laws.proofs.LawfulPaths.{answered_paths}
use Rattle.flat_laws.proofs.LawfulReads.{answered_reads}
use Rattle.flat_laws.proofs.LawfulWriters.{answered_writers}

-- by all its parts
pub answered_lawful : (ms : List Module) (top : List ℕ) (d : Design) → AreOfTokens ms → answer ms top ≡ Ok d → IsLawfulDesign d
answered_lawful ms top d tokens e = record {
  signals = (answered_in_range ms top d e).signals;
  memories = (answered_in_range ms top d e).memories;
  instances = (answered_in_range ms top d e).instances;
  bodies = λ p. (answered_bodies ms top d tokens e).bodies p;
  well_formed = λ p. (answered_bodies ms top d tokens e).well_formed p;
  constants = (answered_in_range ms top d e).constants;
  aliases = (answered_wakes ms top d e).aliases;
  lists = λ p. (answered_wakes ms top d e).lists p;
  instance_paths = (answered_instances ms top d tokens e).instance_paths;
  names = (answered_names ms top d e).names;
  short_instances = (answered_paths ms top d tokens e).short_instances;
  short_paths = λ x h. (answered_paths ms top d tokens e).short_paths x h;
  few_signals = (answered_small ms top d e).few_signals;
  few_processes = (answered_small ms top d e).few_processes;
  few_words = (answered_small ms top d e).few_words;
  few_instances = (answered_small ms top d e).few_instances;
  few_statements = (answered_small ms top d e).few_statements;
  lines_once = λ p q x y h k i same. (answered_numbers ms top d e).lines_once p q x y h k i same;
  nodes_once = λ p q x y h k i same. (answered_numbers ms top d e).nodes_once p q x y h k i same;
  one_writer = λ p q x a b h k. (answered_writers ms top d tokens e).one_writer p q x a b h k;
  one_driver = λ p q x a b h k. (answered_drivers ms top d tokens e).one_driver p q x a b h k;
  apart = λ p q x a h k. (answered_writers ms top d tokens e).apart p q x a h k;
  no_input = λ p s h. (answered_inputs ms top d tokens e).no_input p s h;
  not_both = λ p q x h k. (answered_mixed ms top d tokens e).not_both p q x h k;
  targets = λ p. (answered_targets ms top d tokens e).targets p;
  comb_writes = λ p x k h. (answered_writers ms top d tokens e).comb_writes p x k h;
  reads_no_own = λ p x a. (answered_reads ms top d tokens e).reads_no_own p x a;
  events = λ p. (answered_wakes ms top d e).events p;
}
