-- The sources of a command have names that a database can have.
use Rattle.std.proofs.Common.{◌≡◌, ◌≢◌, ℕ, ◌≤◌, Bool, true, false, not, ◌&&◌, ◌||◌, ◌==◌, nat_le, nat_lt, List, [], ◌∷◌, ◌++◌, length, Option, refl, sym, ap, subst, ◌∙◌, ⊎_elim, arith}
use Rattle.std.proofs.lemmas.Bool.{cases_lt, false≢true, le-leb, lt-ltb}
use Rattle.std.proofs.lemmas.List.{length-append, length-map, map_push}
use Rattle.std.proofs.lemmas.List.Elements.{All-push, All-weaker}
use Rattle.std.specs.Prelude.{IsTrue}
use Rattle.std.specs.List.{All, list_all, list_any}
use Rattle.cov_host.specs.Outside.{Outside}
use Rattle.command_line.specs.Command.{IsCommand}
use Rattle.command_line.specs.CommandWords.{HaveForms, ScoreValues, score_values}
use Rattle.command_line.specs.declared.command.Command.{Command}
use Rattle.command_line.specs.declared.command.Command.TheVariants.{Score, Merge, Report, Lcov, Rank, Exclude, Restore, Selfrun}
use Rattle.command_line.specs.ValueForm.{is_file_name as is_file_word}
use Rattle.command_line.proofs.ScoreForms.{score_forms}
use Rattle.coverage_db.specs.Table.{is_file_name}
use Rattle.verilog_lexer.specs.Defines.{DefineText}
use Rattle.verilog_lexer.specs.Piece.{is_file_name as is_include_name}
use Rattle.verilog_lexer.specs.Sources.{SourceText}
use Rattle.source_files.specs.Files.{AreRoots, Grow, end, included, more}
use Rattle.source_files.proofs.MissingNames.{missing_name}
use Rattle.source_design.specs.Reading.{HasSources}
use Rattle.covered_cli.specs.Fault.{HasForms}
use Rattle.covered_cli.specs.ScoreSources.{sources_in}
use Rattle.covered_cli.specs.Scoring.{names_of}

neither : (a b : Bool) → (a || b) ≡ false → (a ≡ false) × (b ≡ false)
neither true b e = absurd (false≢true (sym e))
neither false b e = (refl, e)

both : (a b : Bool) → (a && b) ≡ true → (a ≡ true) × (b ≡ true)
both true b e = (refl, e)
both false b e = absurd (false≢true e)

not_true : (a : Bool) → not a ≡ true → a ≡ false
not_true true e = absurd (false≢true e)
not_true false e = refl

not_control : (byte : ℕ) → nat_lt byte 32 ≡ false → nat_le 32 byte ≡ true
not_control byte none = ⊎_elim (λ below. absurd (false≢true (sym none ∙ lt-ltb byte 32 below))) (λ above. le-leb 32 byte above) (cases_lt byte 32)

no_control : (name : List ℕ) → list_any (λ byte. nat_lt byte 32) name ≡ false → list_all (λ byte. nat_le 32 byte) name ≡ true
no_control [] none = refl
no_control (byte ∷ name) none =
    let parts = neither (nat_lt byte 32) (list_any (λ byte. nat_lt byte 32) name) none in
    ap (λ b. b && list_all (λ byte. nat_le 32 byte) name) (not_control byte parts.0) ∙ no_control name parts.1

-- the name of a file on the command line is one that a database can have
file_name_of_word : (name : List ℕ) → is_file_word name ≡ true → is_file_name name ≡ true
file_name_of_word [] is = absurd (false≢true is)
file_name_of_word (byte ∷ name) is =
    let parts = both (not (length (byte ∷ name) == 0)) (not (list_any (λ byte. nat_lt byte 32) (byte ∷ name))) is in
    ap (λ b. b && list_all (λ byte. nat_le 32 byte) (byte ∷ name)) (le-leb 1 (length (byte ∷ name)) (omega arith)) ∙ no_control (byte ∷ name) (not_true (list_any (λ byte. nat_lt byte 32) (byte ∷ name)) parts.1)

-- a name of an included file is one that a database can have
printable_visible : (name : List ℕ) → list_all (λ byte. nat_le 32 byte && nat_le byte 126) name ≡ true → list_all (λ byte. nat_le 32 byte) name ≡ true
printable_visible [] all = refl
printable_visible (byte ∷ name) all =
    let parts = both (nat_le 32 byte && nat_le byte 126) (list_all (λ byte. nat_le 32 byte && nat_le byte 126) name) all in
    let here = both (nat_le 32 byte) (nat_le byte 126) parts.0 in
    ap (λ b. b && list_all (λ byte. nat_le 32 byte) name) here.0 ∙ printable_visible name parts.1

include_named : (name : List ℕ) → is_include_name name ≡ true → is_file_name name ≡ true
include_named [] is = absurd (false≢true is)
include_named (byte ∷ name) is =
    let parts = both (not (length (byte ∷ name) == 0)) (list_all (λ byte. nat_le 32 byte && nat_le byte 126) (byte ∷ name)) is in
    ap (λ b. b && list_all (λ byte. nat_le 32 byte) (byte ∷ name)) (le-leb 1 (length (byte ∷ name)) (omega arith)) ∙ printable_visible (byte ∷ name) parts.1

abbrev IsNamed : List ℕ → Type 0
IsNamed name = IsTrue (is_file_name name)

-- roots have the names of the words
root_names : (before : Outside) (names : List (List ℕ)) (roots : List SourceText) → AreRoots before names roots → names_of roots ≡ names
root_names before [] [] are = refl
root_names before [] (root ∷ roots) are = absurd are
root_names before (name ∷ names) [] are = absurd are
root_names before (name ∷ names) (root ∷ roots) are =
    let first : root.name ≡ name = are.0.name_is in
    let others : names_of roots ≡ names = root_names before names roots are.1 in
    cc

grow_named : (before : Outside) (folder : Option (List ℕ)) (defines : List DefineText) (a b : List SourceText) → Grow before folder defines a b → All IsNamed (names_of a) → All IsNamed (names_of b)
grow_named before folder defines a b end named = named
grow_named before folder defines a b (more name text lacking grow) named =
    grow_named before folder defines (a ++ included name text ∷ []) b grow
    (subst (All IsNamed) (sym (map_push (λ (source : SourceText). source.name) a (included name text))) (All-push IsNamed (names_of a) name named (include_named name (missing_name a defines name lacking.lacks))))

grow_longer : (before : Outside) (folder : Option (List ℕ)) (defines : List DefineText) (a b : List SourceText) → Grow before folder defines a b → length a ≤ length b
grow_longer before folder defines a b end = omega arith
grow_longer before folder defines a b (more name text lacking grow) =
    let longer = grow_longer before folder defines (a ++ included name text ∷ []) b grow in
    omega (arith, rw (length-append a (included name text ∷ [])) at longer)

some_of : (names : List (List ℕ)) → names ≢ [] → 1 ≤ length names
some_of [] some = absurd (some refl)
some_of (name ∷ names) some = omega arith

-- names that a database can have, of one source at least
pub record AreGoodNames (names : List (List ℕ)) : Type 0 where
  pub named : All (λ name. IsTrue (is_file_name name)) names
  pub some : 1 ≤ length names

-- the sources of a command have such names
pub good_names : (score : ScoreValues) (before : Outside) (sources : List SourceText) → HaveForms score → HasSources (sources_in score) before sources → AreGoodNames (names_of sources)
good_names score before sources forms gathered =
    let names = root_names before score.sources gathered.roots gathered.are_roots in
    let words = All-weaker (λ name. IsTrue (is_file_word name)) IsNamed file_name_of_word score.sources forms.sources in
    let longer = grow_longer before score.folder (sources_in score).defines gathered.roots sources gathered.grow in
    let some : 1 ≤ length (names_of gathered.roots) = subst (λ ns. 1 ≤ length ns) (sym names) (some_of score.sources forms.some) in
    record {
      named = grow_named before score.folder (sources_in score).defines gathered.roots sources gathered.grow (subst (All IsNamed) (sym names) words);
      some = rw (length-map sources (λ source. source.name)) (omega (arith, longer, rw (length-map gathered.roots (λ source. source.name)) at some));
    }

-- the values of a command have their forms
pub forms_of_command : (words : List (List ℕ)) (command : Command) → IsCommand words command → HasForms command
forms_of_command words (Score score) is = score_forms words (score_values score) is
forms_of_command words (Merge merge) is = tt
forms_of_command words (Report report) is = tt
forms_of_command words (Lcov lcov) is = tt
forms_of_command words (Rank rank) is = tt
forms_of_command words (Exclude points) is = tt
forms_of_command words (Restore points) is = tt
forms_of_command words (Selfrun values) is = record { some = is.steps.some; within = is.steps.within }
