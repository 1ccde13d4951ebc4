-- Sources that are read on the way to a design.
use Rattle.std.proofs.Common.{◌≡◌, ◌∙◌, ℕ, false, List, [], ◌∷◌, ◌++◌, Option, None, Some, Ok, Err, refl, sym, ap, subst, inl, inr, arith}
use Rattle.std.specs.Prelude.{◌≢◌, Contains, IfErr, IfOk, Result}
use Rattle.std.proofs.lemmas.List.Elements.{Contains-append_right}
use Rattle.cov_host.specs.Outside.{Outside}
use Rattle.cov_host.specs.declared.place.Place.{Place}
use Rattle.design_model.specs.View.{design_view}
use Rattle.design_model.specs.declared.design.Design.{Design}
use Rattle.verilog_lexer.specs.Answer.{Answer, IsFault}
use Rattle.verilog_lexer.specs.Defines.{DefineText}
use Rattle.verilog_lexer.specs.Reading.{tokens_of}
use Rattle.verilog_lexer.specs.Sources.{AreWithinLimits, SourceText}
use Rattle.verilog_lexer.specs.Tokens.{Lexeme}
use Rattle.verilog_lexer.specs.declared.fault.LexFault.{LexFault}
use Rattle.verilog_lexer.specs.declared.fault.LexFault.TheVariants as lex_fault
use Rattle.verilog_lexer.specs.declared.fault.LexKind.{LexKind}
use Rattle.verilog_lexer.specs.declared.fault.LexKind.TheVariants.{IncludeMissing}
use Rattle.verilog_parser.specs.Parses.{StandsIn}
use Rattle.verilog_parser.specs.declared.fault.ParseFault.{ParseFault}
use Rattle.verilog_parser.specs.declared.fault.ParseFault.TheVariants as parse_fault
use Rattle.whole_files.specs.Effects.{OnlyReads}
use Rattle.whole_files.specs.declared.call.Call.{Call}
use Rattle.source_files.specs.Files.{AreLacking, AreRoots, Grow, Lacks, end, included, more, path_of}
use Rattle.source_files.specs.Joining.{IsJoinFault, IsRefusedCall, IsRootFault, Joins}
use Rattle.source_files.specs.declared.fault.JoinFault.{JoinFault}
use Rattle.source_files.specs.declared.fault.JoinFault.TheVariants as join_fault
use Rattle.source_files.specs.declared.fault.RootFault.{RootFault}
use Rattle.source_files.proofs.Contents.{call_earlier, file_as_before, joins_within}
use Rattle.source_files.proofs.MissingNames.{TellsFile, missing_tells}
use Rattle.elaborator.specs.Answered.{IsAnsweredFault}
use Rattle.flat_design.specs.Fault.{Fault, of_constant, of_modules, told}
use Rattle.flat_design.specs.Faults.{answer}
use Rattle.flat_design.specs.declared.fault.ElabFault.{ElabFault}
use Rattle.verilog_tree.specs.Tree as t
use Rattle.source_design.specs.Accepted.{AreAccepted, StandFor}
use Rattle.source_design.specs.Reading.{HasBegun, HasRefusedRoot, HasSources, IsIncludeFault, IsSourceFault}
use Rattle.source_design.specs.Refusals.{AreRefused, IsFoundAt}
use Rattle.source_design.specs.Staging.{IsElabFault, IsFileFault, IsFound, IsLackingFrom, IsLexFault, IsParseFault, IsRefusal, IsStageFault, LacksNoFile}
use Rattle.source_design.specs.Words.{SourceValues}
use Rattle.source_design.specs.declared.fault.SourceFault.{SourceFault}
use Rattle.source_design.specs.declared.fault.SourceFault.TheVariants as fault
use Rattle.source_design.specs.declared.fault.SourceKind.{SourceKind}
use Rattle.source_design.specs.declared.fault.SourceKind.TheVariants as kind
use Rattle.source_design.specs.declared.stage.Found.{Found}
use Rattle.source_design.specs.declared.stage.Found.TheVariants as found

-- sources represent each design that is plainly the same
pub stand_for_same : (sources : List SourceText) (defines : List DefineText) (top : List ℕ) (x y : Design) → design_view y ≡ design_view x → StandFor sources defines top x → StandFor sources defines top y
stand_for_same sources defines top x y same stands = record { modules = stands.modules; accepted = stands.accepted; flat = stands.flat ∙ ap Ok (sym same) }

-- what a fault of the lexer says to be lacking is lacking
pub lacking_found : (words : SourceValues) (sources : List SourceText) (f : LexFault) → IsFault (tokens_of sources words.defines) f → (what : Found) → IsLackingFrom f what → IsFound words sources what
lacking_found words sources (lex_fault.At IncludeMissing (Some place) (Some name)) is (found.Lacking other) same = subst (Lacks sources words.defines) same (place, is)
lacking_found words sources f is what none = absurd none

pub found_by : (words : SourceValues) (sources : List SourceText) (f : LexFault) → IsFault (tokens_of sources words.defines) f → (result : Result Found SourceFault) → IfOk result (IsLackingFrom f) → IfOk result (IsFound words sources)
found_by words sources f is (Ok what) lacking = lacking_found words sources f is what lacking
found_by words sources f is (Err other) lacking = tt

-- a fault of the lexer that says no file to be lacking is of another kind
other_kind : (sources : List SourceText) (defines : List DefineText) (k : LexKind) (place : Option Place) (detail : Option (List ℕ)) → tokens_of sources defines ≡ Err (lex_fault.At k place detail) → LacksNoFile k place detail → k ≢ IncludeMissing
other_kind sources defines k place detail is none same =
    go place detail (missing_tells sources defines place detail (subst (λ k. tokens_of sources defines ≡ Err (lex_fault.At k place detail)) same is)) (subst (λ k. LacksNoFile k place detail) same none)
  where
    go : (place : Option Place) (detail : Option (List ℕ)) → TellsFile IncludeMissing place detail → LacksNoFile IncludeMissing place detail → ⊥
    go (Some place) (Some name) tells none = none
    go (Some place) None tells none = tells
    go None detail tells none = tells

-- a refusal of the lexer
pub lex_refused : (words : SourceValues) (sources : List SourceText) (f : LexFault) → IsFault (tokens_of sources words.defines) f → (other : SourceFault) → IsLexFault sources f other → IsStageFault words sources other
lex_refused words sources lex_fault.NoMemory is other same = subst (IsStageFault words sources) (sym same) tt
lex_refused words sources (lex_fault.At k place detail) is fault.NoMemory (none, refusal_is) = tt
lex_refused words sources (lex_fault.At k place detail) is (fault.Refused refusal) (none, refusal_is) =
    subst (AreRefused sources words.defines words.top) (sym refusal_is)
    (record { place = place; found = is; no_file = λ same. other_kind sources words.defines k place detail is none (let e : kind.Lex k ≡ kind.Lex IncludeMissing = same in cc); spot = refl })
lex_refused words sources (lex_fault.At k place detail) is (fault.File call file) (none, refusal_is) = absurd refusal_is
lex_refused words sources (lex_fault.At k place detail) is (fault.Included call path) (none, refusal_is) = absurd refusal_is

pub refused_by : (words : SourceValues) (sources : List SourceText) (f : LexFault) → IsFault (tokens_of sources words.defines) f → (result : Result Found SourceFault) → IfErr result (IsLexFault sources f) → IfErr result (IsStageFault words sources)
refused_by words sources f is (Ok what) refused = tt
refused_by words sources f is (Err other) refused = lex_refused words sources f is other refused

-- a refusal of the parser
pub parse_refused : (words : SourceValues) (sources : List SourceText) (tokens : List Lexeme) (f : ParseFault) → tokens_of sources words.defines ≡ Ok tokens → StandsIn tokens f → (other : SourceFault) → IsParseFault sources f other → IsStageFault words sources other
parse_refused words sources tokens parse_fault.NoMemory lexed is other same = subst (IsStageFault words sources) (sym same) tt
parse_refused words sources tokens (parse_fault.At k place detail) lexed is fault.NoMemory refusal_is = tt
parse_refused words sources tokens (parse_fault.At k place detail) lexed is (fault.Refused refusal) refusal_is =
    subst (AreRefused sources words.defines words.top) (sym refusal_is) (record { place = place; found = (tokens, lexed, is); no_file = λ same. cc; spot = refl })
parse_refused words sources tokens (parse_fault.At k place detail) lexed is (fault.File call file) refusal_is = absurd refusal_is
parse_refused words sources tokens (parse_fault.At k place detail) lexed is (fault.Included call path) refusal_is = absurd refusal_is

-- a refusal of elaboration
elab_at : (words : SourceValues) (sources : List SourceText) (k : SourceKind) (place : Option Place) (detail : Option (List ℕ)) → IsFoundAt sources words.defines words.top k place detail → (k ≢ kind.Lex IncludeMissing) → (other : SourceFault) → IsRefusal sources k place detail other → IsStageFault words sources other
elab_at words sources k place detail found no_file fault.NoMemory is = tt
elab_at words sources k place detail found no_file (fault.Refused refusal) is =
    subst (AreRefused sources words.defines words.top) (sym is) (record { place = place; found = found; no_file = no_file; spot = refl })
elab_at words sources k place detail found no_file (fault.File call file) is = absurd is
elab_at words sources k place detail found no_file (fault.Included call path) is = absurd is

told_refused : (words : SourceValues) (sources : List SourceText) (modules : List t.Module) (f : Fault) → AreAccepted sources words.defines modules → answer modules words.top ≡ Err f → (other : SourceFault) → IsElabFault sources (told f) other → IsStageFault words sources other
told_refused words sources modules (of_constant k place) accepted first other is =
    elab_at words sources (kind.Const k) (Some place) None (record { modules = modules; accepted = accepted; first = first }) (λ same. cc) other is
told_refused words sources modules (of_modules k place name) accepted first other is =
    elab_at words sources (kind.Elab k) place (Some name) (record { modules = modules; accepted = accepted; first = first }) (λ same. cc) other is

pub elab_refused : (words : SourceValues) (sources : List SourceText) (modules : List t.Module) (f : ElabFault) → AreAccepted sources words.defines modules → IsAnsweredFault modules words.top f → (other : SourceFault) → IsElabFault sources f other → IsStageFault words sources other
elab_refused words sources modules f accepted (inl memory) other is =
    let same : other ≡ fault.NoMemory = subst (λ f. IsElabFault sources f other) memory is in
    subst (IsStageFault words sources) (sym same) tt
elab_refused words sources modules f accepted (inr (g, first, is_told)) other is =
    told_refused words sources modules g accepted first other (subst (λ f. IsElabFault sources f other) is_told is)

-- sources with tokens lack nothing
tokens_lack : (sources : List SourceText) (defines : List DefineText) (tokens : List Lexeme) → tokens_of sources defines ≡ Ok tokens → (name : List ℕ) → Lacks sources defines name → ⊥
tokens_lack sources defines tokens lexed name lacks = apart (tokens_of sources defines) lexed lacks.1
  where
    apart : (a : Answer (List Lexeme)) → a ≡ Ok tokens → a ≡ Err (lex_fault.At IncludeMissing (Some lacks.0) (Some name)) → ⊥
    apart a one two = cc

grow_push : (before : Outside) (folder : Option (List ℕ)) (defines : List DefineText) (a b : List SourceText) (name text : List ℕ) → Grow before folder defines a b → AreLacking before folder defines b name text → Grow before folder defines a (b ++ included name text ∷ [])
grow_push before folder defines a b name text end lacking = more name text lacking end
grow_push before folder defines a b name text (more n t l grow) lacking = more n t l (grow_push before folder defines (a ++ included n t ∷ []) b name text grow lacking)

module _ (words : SourceValues) (before : Outside) where
  pub begun_first : (sources : List SourceText) → AreRoots before words.files sources → AreWithinLimits sources → HasBegun words before sources
  begun_first sources roots within = record { roots = sources; are_roots = roots; grow = end; within = within }

  -- the file that is lacking joins
  pub begun_more : (old new : List SourceText) (name : List ℕ) → HasBegun words before old → Lacks old words.defines name → Joins before (path_of words.folder name) name false old new → HasBegun words before new
  begun_more old new name begun lacks j = record {
    roots = begun.roots;
    are_roots = begun.are_roots;
    grow = subst (Grow before words.folder words.defines begun.roots) (sym j.joined) (grow_push before words.folder words.defines begun.roots old name j.text begun.grow (record { lacks = lacks; is = j.is }));
    within = joins_within before (path_of words.folder name) name false old new begun.within j;
  }

  gathered : (sources : List SourceText) (tokens : List Lexeme) → HasBegun words before sources → tokens_of sources words.defines ≡ Ok tokens → HasSources words before sources
  gathered sources tokens begun lexed = record { roots = begun.roots; are_roots = begun.are_roots; grow = begun.grow; within = begun.within; whole = tokens_lack sources words.defines tokens lexed }

  -- the sources of a design are all that the words and they themselves name
  pub design_gathered : (sources : List SourceText) (design : _) → HasBegun words before sources → StandFor sources words.defines words.top design → HasSources words before sources
  design_gathered sources design begun stands = gathered sources stands.accepted.tokens begun stands.accepted.lexed

  -- why sources give no design
  pub stage_fault : (after : Outside) (sources : List SourceText) → HasBegun words before sources → (f : SourceFault) → IsStageFault words sources f → IsSourceFault words before after f
  stage_fault after sources begun fault.NoMemory is = tt
  stage_fault after sources begun (fault.File call file) is = absurd is
  stage_fault after sources begun (fault.Included call path) is = absurd is
  stage_fault after sources begun (fault.Refused refusal) is = inl (record { sources = sources; begun = begun; refused = is })

  -- why an included file did not join
  pub include_fault : (middle after : Outside) (sources : List SourceText) (name : List ℕ) → OnlyReads before middle → OnlyReads middle after → HasBegun words before sources → Lacks sources words.defines name
      → (f : SourceFault) → IsIncludeFault middle after (path_of words.folder name) name sources f → IsSourceFault words before after f
  include_fault middle after sources name first second begun lacks fault.NoMemory is = tt
  include_fault middle after sources name first second begun lacks (fault.File call file) is = absurd is
  include_fault middle after sources name first second begun lacks (fault.Included call path) is =
      (record { sources = sources; name = name; begun = begun; lacks = lacks; path_is = is.0 }, call_earlier path before middle after call first second (subst (λ p. IsRefusedCall middle after p call) (sym is.0) is.1))
  include_fault middle after sources name first second begun lacks (fault.Refused refusal) is =
      inr (inr (record { sources = sources; name = name; begun = begun; lacks = lacks; not_fit = record { text = is.text; is = file_as_before (path_of words.folder name) is.text before.files middle.files first.files is.is; lex_kind = is.lex_kind; refused = is.refused; kind_is = is.kind_is; spot = is.spot } }))

  -- why a file of the words did not join
  pub root_fault : (after : Outside) (r : RootFault) (f : SourceFault) → IsRootFault before after words.files r → IsFileFault r.file.now r.fault f → IsSourceFault words before after f
  root_fault after r f root is = go r.fault f root.is is
    where
      refused : (call : Call) → IsRefusedCall before after r.file.now call → HasRefusedRoot words before after call r.file.now
      refused call is = record { front = root.front; others = root.others; sources = root.sources; stands = root.stands; roots = root.roots; within = root.within; refused = is }

      go : (j : JoinFault) (f : SourceFault) → IsJoinFault before after r.file.now r.file.now root.sources j → IsFileFault r.file.now j f → IsSourceFault words before after f
      go join_fault.NoMemory f stands is = subst (IsSourceFault words before after) (sym is) tt
      go (join_fault.Refused call) (fault.File other named) stands is =
          subst (λ c. IsSourceFault words before after (fault.File c named)) is.0 (subst (HasRefusedRoot words before after call) (sym is.1) (refused call stands))
      go (join_fault.Refused call) fault.NoMemory stands is = absurd is
      go (join_fault.Refused call) (fault.Included other path) stands is = absurd is
      go (join_fault.Refused call) (fault.Refused refusal) stands is = absurd is
      go (join_fault.Full kind detail) f stands is =
          subst (IsSourceFault words before after) (sym is) (inr (inl (record {
            front = root.front;
            file = r.file.now;
            others = root.others;
            sources = root.sources;
            stands = root.stands;
            roots = root.roots;
            within = root.within;
            not_fit = record { text = stands.0; is = stands.1; lex_kind = kind; refused = stands.2; kind_is = refl; spot = refl };
          })))

-- a file of the words that was not read is one of them
pub root_named : (words : SourceValues) (before after : Outside) (call : Call) (file : List ℕ) → HasRefusedRoot words before after call file → Contains words.files file
root_named words before after call file root =
    subst (λ files. Contains files file) (sym root.stands) (Contains-append_right root.front (file ∷ root.others) file (0, omega arith, refl))
