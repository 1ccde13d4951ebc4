-- Sources that grow by the files that they include.
use Rattle.std.proofs.Common.{◌≡◌, ℕ, ◌+◌, ◌<◌, ◌≤◌, nat_lt, false, List, [], ◌∷◌, ◌++◌, length, Option, None, refl, sym, ap, subst, arith}
use Rattle.std.specs.Prelude.{IsSome, ◌==◌}
use Rattle.std.proofs.lemmas.Bool.Decides.{nat_tests}
use Rattle.std.proofs.lemmas.List.{length-append}
use Rattle.std.proofs.lemmas.List.Sums.{sum_by-append, sum_by-cons}
use Rattle.cov_host.specs.Outside.{Outside}
use Rattle.verilog_lexer.specs.Defines.{DefineText}
use Rattle.verilog_lexer.specs.Sources.{AreWithinLimits, SourceText, refusal_of, total_length}
use Rattle.source_files.specs.Files.{AreRoots, Grow, IsFile, IsRoot, Lacks, end, included, more, path_of}
use Rattle.source_files.proofs.OneList.{one_list_of_roots, one_name, one_text}

-- what the sources grow to on the way grows to the end
pub grows_on : (before : Outside) (folder : Option (List ℕ)) (defines : List DefineText) (sources a b : List SourceText) → IsSome before.files → Grow before folder defines sources a → Grow before folder defines sources b
    → ((name : List ℕ) → Lacks b defines name → ⊥) → Grow before folder defines a b
grows_on before folder defines sources a b told end grow whole = grow
grows_on before folder defines sources a b told (more name text lacking grow) end whole = absurd (whole name lacking.lacks)
grows_on before folder defines sources a b told (more name text lacking grow) (more name2 text2 lacking2 grow2) whole =
    let names = one_name sources defines name name2 lacking.lacks lacking2.lacks in
    let texts = one_text before (path_of folder name) text text2 told lacking.is (subst (λ n. IsFile before (path_of folder n) text2) (sym names) lacking2.is) in
    grows_on before folder defines (sources ++ included name text ∷ []) a b told grow
    (subst (λ n. Grow before folder defines (sources ++ included n text ∷ []) b) (sym names) (subst (λ t. Grow before folder defines (sources ++ included name2 t ∷ []) b) (sym texts) grow2)) whole

-- the front of sources within the limits is within them
front_within : (sources others : List SourceText) → AreWithinLimits (sources ++ others) → AreWithinLimits sources
front_within sources others within =
    let count : length (sources ++ others) ≤ 256 = within.count in
    let bytes : total_length (sources ++ others) ≤ 67108864 = within.bytes in
    record {
      count = omega (arith, length-append sources others, count);
      bytes = omega (arith, sum_by-append (λ s. length s.bytes) sources others, bytes);
    }

-- a source that comes after others within the limits fits there
front_fits : (sources others : List SourceText) (source : SourceText) (name : List ℕ) → AreWithinLimits (sources ++ source ∷ others) → refusal_of sources name (length source.bytes) ≡ None
front_fits sources others source name within =
    let count : length (sources ++ source ∷ others) ≤ 256 = within.count in
    let bytes : total_length (sources ++ source ∷ others) ≤ 67108864 = within.bytes in
    let less : length sources < 256 = omega (arith, length-append sources (source ∷ others), count) in
    let short : total_length sources + length source.bytes ≤ 67108864 = omega (arith, sum_by-append (λ s. length s.bytes) sources (source ∷ others), sum_by-cons (λ s. length s.bytes) source others, bytes) in
    let one : nat_lt 67108864 (total_length sources + length source.bytes) ≡ false = grind (arith, nat_tests, short) in
    let two : (length sources == 256) ≡ false = grind (arith, nat_tests, less) in
    rw (one, two) refl

-- what grows to sources within the limits is within them
pub grow_within : (before : Outside) (folder : Option (List ℕ)) (defines : List DefineText) (a b : List SourceText) → Grow before folder defines a b → AreWithinLimits b → AreWithinLimits a
grow_within before folder defines a b end within = within
grow_within before folder defines a b (more name text lacking grow) within =
    front_within a (included name text ∷ []) (grow_within before folder defines (a ++ included name text ∷ []) b grow within)

-- sources that lack no file do not grow
pub settled : (before : Outside) (folder : Option (List ℕ)) (defines : List DefineText) (a b : List SourceText) → Grow before folder defines a b → ((name : List ℕ) → Lacks a defines name → ⊥) → a ≡ b
settled before folder defines a b end whole = refl
settled before folder defines a b (more name text lacking grow) whole = absurd (whole name lacking.lacks)

-- the file that is lacking on the way is there, and fits
pub lacking_there : (before : Outside) (folder : Option (List ℕ)) (defines : List DefineText) (a b : List SourceText) (name : List ℕ) → Grow before folder defines a b → ((other : List ℕ) → Lacks b defines other → ⊥) → AreWithinLimits b → Lacks a defines name
    → (text : List ℕ) × IsFile before (path_of folder name) text × (refusal_of a name (length text) ≡ None)
lacking_there before folder defines a b name end whole within lacks = absurd (whole name lacks)
lacking_there before folder defines a b name (more name2 text lacking grow) whole within lacks =
    let names = one_name a defines name2 name lacking.lacks lacks in
    let longer = grow_within before folder defines (a ++ included name2 text ∷ []) b grow within in
    (text, subst (λ n. IsFile before (path_of folder n) text) names lacking.is, front_fits a [] (included name2 text) name longer)

-- the root of one name among the roots, with the roots of the names before it
record RootAmong (before : Outside) (front : List (List ℕ)) (name : List ℕ) (roots : List SourceText) : Type 0 where
  sources : List SourceText
  source : SourceText
  others : List SourceText
  stands : roots ≡ sources ++ source ∷ others
  earlier : AreRoots before front sources
  is : IsRoot before name source

root_among : (before : Outside) (front others : List (List ℕ)) (name : List ℕ) (roots : List SourceText) → AreRoots before (front ++ name ∷ others) roots → RootAmong before front name roots
root_among before [] others name [] are = absurd are
root_among before [] others name (s ∷ roots) are = record { sources = []; source = s; others = roots; stands = refl; earlier = tt; is = are.0 }
root_among before (n ∷ front) others name [] are = absurd are
root_among before (n ∷ front) others name (s ∷ roots) are =
    let rest = root_among before front others name roots are.1 in
    record {
      sources = s ∷ rest.sources;
      source = rest.source;
      others = rest.others;
      stands = ap (λ (l : List SourceText). s ∷ l) rest.stands;
      earlier = (are.0, rest.earlier);
      is = rest.is;
    }

-- each file of the words is there
pub root_there : (before : Outside) (names front others : List (List ℕ)) (name : List ℕ) (roots : List SourceText) → names ≡ front ++ name ∷ others → AreRoots before names roots → (text : List ℕ) × IsFile before name text
root_there before names front others name roots stands are =
    let among = root_among before front others name roots (subst (λ l. AreRoots before l roots) stands are) in
    (among.source.bytes, among.is.text)

-- each file of the words fits after the roots of those before it
pub root_fits : (before : Outside) (names front others : List (List ℕ)) (name text : List ℕ) (roots sources : List SourceText) → IsSome before.files → names ≡ front ++ name ∷ others → AreRoots before names roots → AreRoots before front sources
    → AreWithinLimits roots → IsFile before name text → refusal_of sources name (length text) ≡ None
root_fits before names front others name text roots sources told stands are earlier within is =
    let among = root_among before front others name roots (subst (λ l. AreRoots before l roots) stands are) in
    let lists : among.sources ≡ sources = one_list_of_roots before front among.sources sources told among.earlier earlier in
    let texts : among.source.bytes ≡ text = one_text before name among.source.bytes text told among.is.text is in
    subst (λ l. refusal_of l name (length text) ≡ None) lists
    (subst (λ (t : List ℕ). refusal_of among.sources name (length t) ≡ None) texts (front_fits among.sources among.others among.source name (subst AreWithinLimits among.stands within)))
