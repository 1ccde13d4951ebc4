-- The files of a design: those that the words name, and those that they include.
use Rattle.std.specs.Prelude.{◌≡◌, ℕ, true, false, List, [], ◌∷◌, ◌++◌, codes, Option, None, Some, Err, IfSome}
use Rattle.cov_host.specs.Outside.{Outside}
use Rattle.cov_host.specs.declared.place.Place.{Place}
use Rattle.verilog_lexer.specs.Defines.{DefineText}
use Rattle.verilog_lexer.specs.Reading.{tokens_of}
use Rattle.verilog_lexer.specs.Sources.{AreWithinLimits, SourceText}
use Rattle.verilog_lexer.specs.declared.fault.LexFault.TheVariants as lex_fault
use Rattle.verilog_lexer.specs.declared.fault.LexKind.TheVariants.{IncludeMissing}

-- the file has this text, where the files of the host are known
abbrev pub IsFile : Outside → List ℕ → List ℕ → Type 0
IsFile outside name text = IfSome outside.files (λ files. files name ≡ Some text)

-- a file of this name that is read by itself, with its text
pub record IsRoot (before : Outside) (name : List ℕ) (source : SourceText) : Type 0 where
  pub name_is : source.name ≡ name
  pub root : source.root ≡ true
  pub text : IsFile before name source.bytes

-- a root for each name, in order
abbrev pub AreRoots : Outside → List (List ℕ) → List SourceText → Type 0
AreRoots before [] [] = Unit {0}
AreRoots before (name ∷ names) (source ∷ sources) = IsRoot before name source × AreRoots before names sources
AreRoots before [] (source ∷ sources) = ⊥
AreRoots before (name ∷ names) [] = ⊥

-- an included file lies in the folder, if there is one
abbrev pub path_of : Option (List ℕ) → List ℕ → List ℕ
path_of None name = name
path_of (Some folder) name = folder ++ codes "/" ++ name

-- a directive in the sources names a file that is not included among them
abbrev pub Lacks : List SourceText → List DefineText → List ℕ → Type 0
Lacks sources defines name = (place : Place) × (tokens_of sources defines ≡ Err (lex_fault.At IncludeMissing (Some place) (Some name)))

-- a file that is read where a directive names it
abbrev pub included : List ℕ → List ℕ → SourceText
included name text = record { name = name; bytes = text; root = false }

-- the sources lack a file of this name, and this is its text
pub record AreLacking (before : Outside) (folder : Option (List ℕ)) (defines : List DefineText) (sources : List SourceText) (name text : List ℕ) : Type 0 where
  pub lacks : Lacks sources defines name
  pub is : IsFile before (path_of folder name) text

-- included files that are lacking come to the sources one after the other
pub data Grow (before : Outside) (folder : Option (List ℕ)) (defines : List DefineText) : List SourceText → List SourceText → Type 0 where
  end : {sources : List SourceText} → Grow before folder defines sources sources
  more : {sources all : List SourceText} → (name text : List ℕ) → AreLacking before folder defines sources name text
      → Grow before folder defines (sources ++ included name text ∷ []) all → Grow before folder defines sources all

-- the files that the words name, and the files that these include and so on, within the limits; no file is lacking
pub record AreSources (before : Outside) (names : List (List ℕ)) (folder : Option (List ℕ)) (defines : List DefineText) (sources : List SourceText) : Type 0 where
  pub roots : List SourceText
  pub are_roots : AreRoots before names roots
  pub grow : Grow before folder defines roots sources
  pub within : AreWithinLimits sources
  pub whole : (name : List ℕ) → Lacks sources defines name → ⊥
