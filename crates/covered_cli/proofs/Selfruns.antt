-- How a selfrun ends, and what it prints.
use Rattle.std.proofs.Common.{◌≡◌, ℕ, List, inl, inr, refl, subst, arith}
use Rattle.command_line.proofs.OneCommand.{one_of_all, one_selfrun}
use Rattle.command_line.specs.Command.{AreWordsOf, CommandValues, score as of_score, merge as of_merge, report as of_report, lcov as of_lcov, rank as of_rank, exclude as of_exclude, restore as of_restore, selfrun as of_selfrun}
use Rattle.command_line.specs.CommandWords.{IsScore, ScoreValues}
use Rattle.command_line.specs.SelfrunWords.{IsSelfrun}
use Rattle.command_line.specs.declared.selfrun_words.SelfrunWords.{SelfrunWords}
use Rattle.cov_host.specs.Outside.{IsCounted, Outside}
use Rattle.database_commands.specs.declared.change.Change.TheVariants as change
use Rattle.database_commands.specs.declared.fault.CommandFault.{CommandFault}
use Rattle.whole_files.proofs.EffectLemmas.{IsCounted-later}
use Rattle.whole_files.specs.Effects.{CountsUp}
use Rattle.covered_cli.proofs.Causes.{command_or_fault, score_or_selfrun, stands_as_score}
use Rattle.covered_cli.proofs.Complete.{good_ends}
use Rattle.covered_cli.proofs.Untouched.{fault_not_done}
use Rattle.covered_cli.specs.Complete.{EndsWith, IsGoodScore, NoFaults}
use Rattle.covered_cli.specs.Covered.{IsSomeSelfrun, PrintsCounts}
use Rattle.covered_cli.specs.Fault.{Stands, StandsIn, StandsInDatabases, status_of}
use Rattle.covered_cli.specs.Scoring.{IsDone, IsDoneBy}
use Rattle.covered_cli.specs.Selfrun.{IsSelfrunIn}
use Rattle.covered_cli.specs.declared.fault.Fault.{Fault}
use Rattle.covered_cli.specs.declared.fault.Fault.TheVariants as fault
use Rattle.covered_cli.specs.declared.selfrun_fault.SelfrunFault.TheVariants.{NoMemory, Print}
use Rattle.covered_cli.specs.declared.status.Status.TheVariants.{Done, Memory}

-- the words of a selfrun are no command over databases
selfrun_or_databases : (words : List (List ℕ)) (values : SelfrunWords) (before after : Outside) (f : CommandFault) → IsSelfrun words values → StandsInDatabases words before after f → ⊥
selfrun_or_databases words values before after f is (inl stands) = let e = one_of_all words (of_selfrun values) (of_merge stands.0) is stands.1 in cc
selfrun_or_databases words values before after f is (inr (inl stands)) = let e = one_of_all words (of_selfrun values) (of_report stands.0) is stands.1 in cc
selfrun_or_databases words values before after f is (inr (inr (inl stands))) = let e = one_of_all words (of_selfrun values) (of_lcov stands.0) is stands.1 in cc
selfrun_or_databases words values before after f is (inr (inr (inr (inl stands)))) = let e = one_of_all words (of_selfrun values) (of_rank stands.0) is stands.1 in cc
selfrun_or_databases words values before after f is (inr (inr (inr (inr (change.Exclude, points, is_points, fault))))) = let e = one_of_all words (of_selfrun values) (of_exclude points) is is_points in cc
selfrun_or_databases words values before after f is (inr (inr (inr (inr (change.Restore, points, is_points, fault))))) = let e = one_of_all words (of_selfrun values) (of_restore points) is is_points in cc

-- where no call of the host failed, a selfrun ends with status 0, want of memory aside
pub selfrun_ends : (words : List (List ℕ)) (before middle after : Outside) → CountsUp before middle → CountsUp middle after → NoFaults before after → (f : Fault) → Stands words before middle f → IsSomeSelfrun words → EndsWith Done (status_of f)
selfrun_ends words before middle after first second none (fault.Usage usage) stands is = absurd (command_or_fault words (of_selfrun is.0, is.1) (usage, stands))
selfrun_ends words before middle after first second none (fault.Source f) stands is = absurd (score_or_selfrun words stands.0 is.0 stands.1 is.1)
selfrun_ends words before middle after first second none (fault.NoMachine name) stands is = absurd (score_or_selfrun words stands.0 is.0 stands.1 is.1)
selfrun_ends words before middle after first second none (fault.Points p) stands is = absurd (score_or_selfrun words stands.0 is.0 stands.1 is.1)
selfrun_ends words before middle after first second none (fault.Dump r) stands is = absurd (score_or_selfrun words stands.0 is.0 stands.1 is.1)
selfrun_ends words before middle after first second none (fault.Contradiction x) stands is = absurd (score_or_selfrun words stands.0 is.0 stands.1 is.1)
selfrun_ends words before middle after first second none (fault.Files call file) stands is = absurd (score_or_selfrun words stands.0 is.0 stands.1 is.1)
selfrun_ends words before middle after first second none fault.Memory stands is = inr refl
selfrun_ends words before middle after first second none (fault.Databases f) stands is = absurd (selfrun_or_databases words is.0 before middle f is.1 stands)
selfrun_ends words before middle after first second none (fault.Selfrun Print) stands is = absurd (none (IsCounted-later before.faults middle.faults after.faults first.faults second.faults stands.2))
selfrun_ends words before middle after first second none (fault.Selfrun NoMemory) stands is = inr refl

-- what was done by words of a selfrun is that its counts were printed
module _ (words : List (List ℕ)) (before after : Outside) (done : IsDone words before after) where
  pub counts_printed : PrintsCounts words before after
  counts_printed selfrun is = by_values done.0 done.1 done.2
    where
      by_values : (values : CommandValues) → AreWordsOf values words → IsDoneBy values before after → IsSelfrunIn selfrun before after
      by_values (of_score other) is_other by = absurd (score_or_selfrun words other selfrun is_other is)
      by_values (of_merge other) is_other by = let e = one_of_all words (of_merge other) (of_selfrun selfrun) is_other is in absurd (cc)
      by_values (of_report other) is_other by = let e = one_of_all words (of_report other) (of_selfrun selfrun) is_other is in absurd (cc)
      by_values (of_lcov other) is_other by = let e = one_of_all words (of_lcov other) (of_selfrun selfrun) is_other is in absurd (cc)
      by_values (of_rank other) is_other by = let e = one_of_all words (of_rank other) (of_selfrun selfrun) is_other is in absurd (cc)
      by_values (of_exclude other) is_other by = let e = one_of_all words (of_exclude other) (of_selfrun selfrun) is_other is in absurd (cc)
      by_values (of_restore other) is_other by = let e = one_of_all words (of_restore other) (of_selfrun selfrun) is_other is in absurd (cc)
      by_values (of_selfrun other) is_other by = subst (λ selfrun. IsSelfrunIn selfrun before after) (one_selfrun words other selfrun is_other is) by

no_count : (before after : ℕ) → before ≡ 0 → after ≡ 0 → IsCounted before after → ⊥
no_count before after start end (inl more) = omega (arith, start, end, more)
no_count before after start end (inr most) = omega (arith, end, most)

-- where a score is good and no call failed, its fault is want of memory
pub memory_alone : (words : List (List ℕ)) (score : ScoreValues) (before after : Outside) → IsScore words score → IsGoodScore score before → before.faults ≡ 0 → after.faults ≡ 0 → CountsUp before after → (f : Fault) → StandsIn score before after f → status_of f ≡ Memory
memory_alone words score before after is good start end counts f stands =
    let same : CountsUp after after = record { faults = omega arith; absences = omega arith; mute = omega arith } in
    elim (good_ends words before after after counts same (no_count before.faults after.faults start end) f (stands_as_score words score before after is f stands) (score, is, good)) [
      | inl done ↦ absurd (fault_not_done f done)
      | inr memory ↦ memory
    ]
