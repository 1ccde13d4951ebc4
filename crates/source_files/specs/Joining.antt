-- How a file joins the sources, and why it does not.
use Rattle.std.specs.Prelude.{◌≡◌, ℕ, Bool, List, [], ◌∷◌, ◌++◌, length, None, Some}
use Rattle.cov_host.specs.Outside.{Outside}
use Rattle.verilog_lexer.specs.Sources.{AreWithinLimits, SourceText, refusal_of}
use Rattle.verilog_lexer.specs.declared.fault.LexFault.TheVariants as lex_fault
use Rattle.whole_files.specs.Refusals.{IsRefused}
use Rattle.whole_files.specs.declared.call.Call.{Call}
use Rattle.whole_files.specs.declared.call.Call.TheVariants.{OpenRead, Read}
use Rattle.source_files.specs.Files.{AreRoots, IsFile}
use Rattle.source_files.specs.declared.fault.JoinFault.{JoinFault}
use Rattle.source_files.specs.declared.fault.JoinFault.TheVariants as join_fault
use Rattle.source_files.specs.declared.fault.RootFault.{RootFault}

-- the file at the path is at the end of the sources, under the name
pub record Joins (before : Outside) (path name : List ℕ) (root : Bool) (old new : List SourceText) : Type 0 where
  pub text : List ℕ
  pub is : IsFile before path text
  pub fits : refusal_of old name (length text) ≡ None
  pub joined : new ≡ old ++ record { name = name; bytes = text; root = root } ∷ []

-- a call that reads the file at the path gave nothing
abbrev pub IsRefusedCall : Outside → Outside → List ℕ → Call → Type 0
IsRefusedCall before after path OpenRead = IsRefused OpenRead path before after
IsRefusedCall before after path Read = IsRefused Read path before after
IsRefusedCall before after path call = ⊥

-- the file at the path does not fit after the sources, under the name
abbrev pub DoesNotFit : Outside → List ℕ → List ℕ → List SourceText → JoinFault → Type 0
DoesNotFit before path name sources (join_fault.Full kind detail) = (text : List ℕ) × IsFile before path text × (refusal_of sources name (length text) ≡ Some (lex_fault.At kind None detail))
DoesNotFit before path name sources other = ⊥

-- why the file at the path does not join the sources under the name
abbrev pub IsJoinFault : Outside → Outside → List ℕ → List ℕ → List SourceText → JoinFault → Type 0
IsJoinFault before after path name sources join_fault.NoMemory = Unit {0}
IsJoinFault before after path name sources (join_fault.Refused call) = IsRefusedCall before after path call
IsJoinFault before after path name sources (join_fault.Full kind detail) = DoesNotFit before path name sources (join_fault.Full kind detail)

-- the first file of the words that does not join: those before it are roots within the limits
pub record IsRootFault (before after : Outside) (names : List (List ℕ)) (fault : RootFault) : Type 0 where
  pub front : List (List ℕ)
  pub others : List (List ℕ)
  pub sources : List SourceText
  pub stands : names ≡ front ++ fault.file.now ∷ others
  pub roots : AreRoots before front sources
  pub within : AreWithinLimits sources
  pub is : IsJoinFault before after fault.file.now fault.file.now sources fault.fault
