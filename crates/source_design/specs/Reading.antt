-- What is read of the files of the words: a design, or why there is no design.
use Rattle.std.specs.Prelude.{◌≡◌, ◌⊎◌, ℕ, List, ◌∷◌, ◌++◌, length, map, None, Some}
use Rattle.cov_host.specs.Outside.{Outside}
use Rattle.verilog_lexer.specs.Sources.{AreWithinLimits, SourceText, refusal_of}
use Rattle.verilog_lexer.specs.declared.fault.LexFault.TheVariants as lex_fault
use Rattle.verilog_lexer.specs.declared.fault.LexKind.{LexKind}
use Rattle.whole_files.specs.declared.call.Call.{Call}
use Rattle.source_files.specs.Files.{AreRoots, AreSources, Grow, IsFile, Lacks, path_of}
use Rattle.source_files.specs.Joining.{IsRefusedCall}
use Rattle.source_design.specs.Accepted.{StandFor}
use Rattle.source_design.specs.Refusals.{AreRefused}
use Rattle.source_design.specs.Words.{SourceValues}
use Rattle.source_design.specs.declared.fault.SourceFault.{SourceFault}
use Rattle.source_design.specs.declared.fault.SourceFault.TheVariants as fault
use Rattle.source_design.specs.declared.fault.SourceKind.TheVariants as kind
use Rattle.source_design.specs.declared.fault.SourceRefusal.{SourceRefusal}
use Rattle.source_design.specs.declared.read.ReadDesign.{ReadDesign}

-- the files of the words, with those that they include, are these sources
abbrev pub HasSources : SourceValues → Outside → List SourceText → Type 0
HasSources words before sources = AreSources before words.files words.folder words.defines sources

-- the design of the files of the words, with the names of the sources
pub record IsReadIn (words : SourceValues) (before : Outside) (read : ReadDesign) : Type 0 where
  pub sources : List SourceText
  pub gathered : HasSources words before sources
  pub stands : StandFor sources words.defines words.top read.design
  pub names : read.sources ≡ map (λ source. source.name) sources

-- the sources on the way: the files of the words, and some of the files that these include
pub record HasBegun (words : SourceValues) (before : Outside) (sources : List SourceText) : Type 0 where
  pub roots : List SourceText
  pub are_roots : AreRoots before words.files roots
  pub grow : Grow before words.folder words.defines roots sources
  pub within : AreWithinLimits sources

-- the file at the path does not fit after the sources, under the name
pub record DoesNotFit (before : Outside) (path name : List ℕ) (sources : List SourceText) (refusal : SourceRefusal) : Type 0 where
  pub text : List ℕ
  pub is : IsFile before path text
  pub lex_kind : LexKind
  pub refused : refusal_of sources name (length text) ≡ Some (lex_fault.At lex_kind None refusal.detail)
  pub kind_is : refusal.kind ≡ kind.Lex lex_kind
  pub spot : refusal.spot ≡ None

-- a call gave nothing for a file of the words, after those before it, which joined
pub record HasRefusedRoot (words : SourceValues) (before after : Outside) (call : Call) (file : List ℕ) : Type 0 where
  pub front : List (List ℕ)
  pub others : List (List ℕ)
  pub sources : List SourceText
  pub stands : words.files ≡ front ++ file ∷ others
  pub roots : AreRoots before front sources
  pub within : AreWithinLimits sources
  pub refused : IsRefusedCall before after file call

-- a file of the words does not fit after those before it, which joined
pub record HasFullRoot (words : SourceValues) (before : Outside) (refusal : SourceRefusal) : Type 0 where
  pub front : List (List ℕ)
  pub file : List ℕ
  pub others : List (List ℕ)
  pub sources : List SourceText
  pub stands : words.files ≡ front ++ file ∷ others
  pub roots : AreRoots before front sources
  pub within : AreWithinLimits sources
  pub not_fit : DoesNotFit before file file sources refusal

-- an included file does not fit after the sources on the way, which lack it
pub record HasFullInclude (words : SourceValues) (before : Outside) (refusal : SourceRefusal) : Type 0 where
  pub sources : List SourceText
  pub name : List ℕ
  pub begun : HasBegun words before sources
  pub lacks : Lacks sources words.defines name
  pub not_fit : DoesNotFit before (path_of words.folder name) name sources refusal

-- the sources on the way have a fault of the lexer, of the parser or of elaboration
pub record HasRefused (words : SourceValues) (before : Outside) (refusal : SourceRefusal) : Type 0 where
  pub sources : List SourceText
  pub begun : HasBegun words before sources
  pub refused : AreRefused sources words.defines words.top refusal

-- the sources on the way lack a file that lies at the path
pub record LacksAt (words : SourceValues) (before : Outside) (path : List ℕ) : Type 0 where
  pub sources : List SourceText
  pub name : List ℕ
  pub begun : HasBegun words before sources
  pub lacks : Lacks sources words.defines name
  pub path_is : path ≡ path_of words.folder name

-- why the files of the words give no design
abbrev pub IsSourceFault : SourceValues → Outside → Outside → SourceFault → Type 0
IsSourceFault words before after fault.NoMemory = Unit {0}
IsSourceFault words before after (fault.File call file) = HasRefusedRoot words before after call file.now
IsSourceFault words before after (fault.Included call path) = LacksAt words before path × IsRefusedCall before after path call
IsSourceFault words before after (fault.Refused refusal) = HasRefused words before refusal ⊎ (HasFullRoot words before refusal ⊎ HasFullInclude words before refusal)

-- why an included file does not join the sources
abbrev pub IsIncludeFault : Outside → Outside → List ℕ → List ℕ → List SourceText → SourceFault → Type 0
IsIncludeFault before after path name sources fault.NoMemory = Unit {0}
IsIncludeFault before after path name sources (fault.Included call at) = (at ≡ path) × IsRefusedCall before after path call
IsIncludeFault before after path name sources (fault.Refused refusal) = DoesNotFit before path name sources refusal
IsIncludeFault before after path name sources other = ⊥
