-- The files that words name have one list of sources.
use Rattle.std.proofs.Common.{◌≡◌, ℕ, Bool, List, [], ◌∷◌, ◌++◌, Option, None, Some, Err, refl, sym, subst, ◌∙◌}
use Rattle.std.specs.Prelude.{IfSome, IsSome}
use Rattle.cov_host.specs.Outside.{Files, Outside}
use Rattle.cov_host.specs.declared.place.Place.{Place}
use Rattle.verilog_lexer.specs.Answer.{Answer}
use Rattle.verilog_lexer.specs.Defines.{DefineText}
use Rattle.verilog_lexer.specs.Reading.{tokens_of}
use Rattle.verilog_lexer.specs.Sources.{SourceText}
use Rattle.verilog_lexer.specs.Tokens.{Lexeme}
use Rattle.verilog_lexer.specs.declared.fault.LexFault.TheVariants as lex_fault
use Rattle.verilog_lexer.specs.declared.fault.LexKind.TheVariants.{IncludeMissing}
use Rattle.source_files.specs.Files.{AreRoots, AreSources, Grow, IsFile, IsRoot, Lacks, end, included, more, path_of}

one_text_at : (told : Option Files) (path a b : List ℕ) → IsSome told → IfSome told (λ files. files path ≡ Some a) → IfSome told (λ files. files path ≡ Some b) → a ≡ b
one_text_at None path a b some is other = absurd cc
one_text_at (Some files) path a b some is other = let e : Some a ≡ Some b = sym is ∙ other in cc

-- a file has one text
pub one_text : (before : Outside) (path a b : List ℕ) → IsSome before.files → IsFile before path a → IsFile before path b → a ≡ b
one_text before path a b told is other = one_text_at before.files path a b told is other

one_root : (before : Outside) (name : List ℕ) (a b : SourceText) → IsSome before.files → IsRoot before name a → IsRoot before name b → a ≡ b
one_root before name a b told is other =
    let name_same : a.name ≡ b.name = is.name_is ∙ sym other.name_is in
    let root_same : a.root ≡ b.root = is.root ∙ sym other.root in
    source_same a.name b.name a.bytes b.bytes a.root b.root name_same (one_text before name a.bytes b.bytes told is.text other.text) root_same
  where
    source_same : (n m t u : List ℕ) (r s : Bool) → n ≡ m → t ≡ u → r ≡ s → (◌≡◌ {A = SourceText}) (record { name = n; bytes = t; root = r }) (record { name = m; bytes = u; root = s })
    source_same n m t u r s names texts roots = cc

-- words have one list of roots
pub one_list_of_roots : (before : Outside) (names : List (List ℕ)) (a b : List SourceText) → IsSome before.files → AreRoots before names a → AreRoots before names b → a ≡ b
one_list_of_roots before [] [] [] told is other = refl
one_list_of_roots before [] [] (t ∷ b) told is other = absurd other
one_list_of_roots before [] (s ∷ a) b told is other = absurd is
one_list_of_roots before (name ∷ names) [] b told is other = absurd is
one_list_of_roots before (name ∷ names) (s ∷ a) [] told is other = absurd other
one_list_of_roots before (name ∷ names) (s ∷ a) (t ∷ b) told is other =
    let first = one_root before name s t told is.0 other.0 in
    let rest = one_list_of_roots before names a b told is.1 other.1 in
    cc

-- sources lack one file first
pub one_name : (sources : List SourceText) (defines : List DefineText) (a b : List ℕ) → Lacks sources defines a → Lacks sources defines b → a ≡ b
one_name sources defines a b is other = same is.0 other.0 (tokens_of sources defines) is.1 other.1
  where
    same : (p q : Place) (r : Answer (List Lexeme)) → r ≡ Err (lex_fault.At IncludeMissing (Some p) (Some a)) → r ≡ Err (lex_fault.At IncludeMissing (Some q) (Some b)) → a ≡ b
    same p q r e f = cc

-- what the sources grow to that lack no file is where all growing ends
pub one_end : (before : Outside) (folder : Option (List ℕ)) (defines : List DefineText) (sources a b : List SourceText) → IsSome before.files → Grow before folder defines sources a → ((name : List ℕ) → Lacks a defines name → ⊥)
    → Grow before folder defines sources b → ((name : List ℕ) → Lacks b defines name → ⊥) → a ≡ b
one_end before folder defines sources a b told end whole end other = refl
one_end before folder defines sources a b told end whole (more name text lacking grow) other = absurd (whole name lacking.lacks)
one_end before folder defines sources a b told (more name text lacking grow) whole end other = absurd (other name lacking.lacks)
one_end before folder defines sources a b told (more name text lacking grow) whole (more name2 text2 lacking2 grow2) other =
    let names = one_name sources defines name name2 lacking.lacks lacking2.lacks in
    let texts = one_text before (path_of folder name) text text2 told lacking.is (subst (λ n. IsFile before (path_of folder n) text2) (sym names) lacking2.is) in
    one_end before folder defines (sources ++ included name text ∷ []) a b told grow whole
    (subst (λ n. Grow before folder defines (sources ++ included n text ∷ []) b) (sym names) (subst (λ t. Grow before folder defines (sources ++ included name2 t ∷ []) b) (sym texts) grow2)) other

pub one_list : (before : Outside) (names : List (List ℕ)) (folder : Option (List ℕ)) (defines : List DefineText) (sources others : List SourceText) → IsSome before.files
    → AreSources before names folder defines sources → AreSources before names folder defines others → sources ≡ others
one_list before names folder defines sources others told a b =
    one_end before folder defines a.roots sources others told a.grow a.whole
    (subst (λ roots. Grow before folder defines roots others) (sym (one_list_of_roots before names a.roots b.roots told a.are_roots b.are_roots)) b.grow) b.whole
