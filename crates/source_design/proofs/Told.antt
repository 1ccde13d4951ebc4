-- Where the host gives its files, they decide what is read of the sources.
use Rattle.std.proofs.Common.{◌≡◌, ℕ, suc, List, length, take, drop, Option, None, Some, Ok, Err, refl, sym, ap, subst, ◌∙◌, inl, inr}
use Rattle.std.specs.Prelude.{IfSome, IsSome, MatchOption, Result}
use Rattle.std.proofs.lemmas.List.{take-append-drop}
use Rattle.cov_host.specs.Outside.{Files, Outside, IsCounted}
use Rattle.cov_host.specs.declared.place.Place.{Place}
use Rattle.design_model.specs.declared.design.Design.{Design}
use Rattle.design_model.specs.Design.{Design as FlatDesign}
use Rattle.design_model.specs.View.{design_view}
use Rattle.flat_design.specs.Fault.{Fault}
use Rattle.flat_design.specs.Faults.{answer}
use Rattle.verilog_lexer.specs.Answer.{Answer}
use Rattle.verilog_lexer.specs.Defines.{DefineText}
use Rattle.verilog_lexer.specs.Reading.{tokens_of}
use Rattle.verilog_lexer.specs.Sources.{SourceText, refusal_of}
use Rattle.verilog_lexer.specs.Tokens.{Lexeme}
use Rattle.verilog_lexer.specs.declared.fault.LexFault.{LexFault}
use Rattle.verilog_lexer.specs.declared.fault.LexFault.TheVariants as lex_fault
use Rattle.verilog_lexer.specs.declared.fault.LexKind.TheVariants.{IncludeMissing}
use Rattle.verilog_tree.specs.Tree as t
use Rattle.grammar_rules.specs.Grammar.{GoesOn, IsSpelled}
use Rattle.verilog_grammar.specs.Language.{verilog}
use Rattle.verilog_grammar.specs.Verilog.{grammar}
use Rattle.verilog_grammar.proofs.Verilog.{verilog_exact}
use Rattle.verilog_parser.specs.Parses.{AreModules, IsRefused, StandsIn}
use Rattle.verilog_parser.specs.declared.fault.ParseFault.TheVariants as parse_fault
use Rattle.verilog_parser.specs.declared.fault.ParseKind.TheVariants.{Unexpected, EarlyEnd, TooDeep, LeftOut}
use Rattle.whole_files.specs.declared.call.Call.{Call}
use Rattle.whole_files.specs.declared.call.Call.TheVariants.{OpenRead, Read, OpenWrite, Write, CloseWrite}
use Rattle.source_files.specs.Files.{Grow, IsFile, Lacks, path_of}
use Rattle.source_files.specs.Joining.{IsRefusedCall}
use Rattle.source_files.proofs.Growing.{grow_within, grows_on, lacking_there, root_fits, root_there, settled}
use Rattle.source_files.proofs.OneList.{one_list, one_list_of_roots, one_text}
use Rattle.source_design.specs.Accepted.{AreAccepted, AreFaulty, StandFor}
use Rattle.source_design.specs.Reading.{HasBegun, HasFullInclude, HasFullRoot, HasSources, IsSourceFault, LacksAt}
use Rattle.source_design.specs.Refusals.{AreRefused, IsFoundAt}
use Rattle.source_design.specs.Words.{SourceValues}
use Rattle.source_design.specs.declared.fault.SourceFault.{SourceFault}
use Rattle.source_design.specs.declared.fault.SourceFault.TheVariants as fault
use Rattle.source_design.specs.declared.fault.SourceKind.{SourceKind}
use Rattle.source_design.specs.declared.fault.SourceKind.TheVariants as kind
use Rattle.source_design.specs.declared.fault.SourceRefusal.{SourceRefusal}

-- ---- tokens that spell modules have no fault

one_ok : {A F : Type 0} (r : Result A F) (a b : A) → r ≡ Ok a → r ≡ Ok b → a ≡ b
one_ok r a b first second = cc

ok_or_err : {A F : Type 0} (r : Result A F) (a : A) (f : F) → r ≡ Ok a → r ≡ Err f → ⊥
ok_or_err r a f ok err = cc

front_goes_on : (tokens : List Lexeme) (modules : List t.Module) (n : ℕ) → AreModules tokens modules → GoesOn verilog grammar 256 (take n tokens)
front_goes_on tokens modules n spelled = (drop n tokens, modules, subst (λ ts. IsSpelled verilog grammar 256 ts modules) (sym (take-append-drop n tokens)) spelled)

refused_or_spelled : (tokens : List Lexeme) (modules : List t.Module) (place : Place) (form : Option (List ℕ)) → AreModules tokens modules → IsRefused tokens place form → ⊥
refused_or_spelled tokens modules place form spelled refused = refused.refused.with_it (256, front_goes_on tokens modules (suc refused.at) spelled)

spelled_or_stands : (tokens : List Lexeme) (modules : List t.Module) (k : _) (place : Option Place) (detail : Option (List ℕ)) → AreModules tokens modules → StandsIn tokens (parse_fault.At k place detail) → ⊥
spelled_or_stands tokens modules Unexpected (Some place) None spelled stands = refused_or_spelled tokens modules place None spelled stands
spelled_or_stands tokens modules LeftOut (Some place) (Some form) spelled stands = refused_or_spelled tokens modules place (Some form) spelled stands
spelled_or_stands tokens modules EarlyEnd None None spelled stands = stands.not_yet 256 modules spelled
spelled_or_stands tokens modules TooDeep (Some place) None spelled stands = stands.1.within (front_goes_on tokens modules (suc stands.0) spelled)
spelled_or_stands tokens modules k place detail spelled stands = absurd stands

-- sources spell one list of modules
one_list_of_modules : (sources : List SourceText) (defines : List DefineText) (ms others : List t.Module) → AreAccepted sources defines ms → AreAccepted sources defines others → ms ≡ others
one_list_of_modules sources defines ms others one other =
    let same = one_ok (tokens_of sources defines) other.tokens one.tokens other.lexed one.lexed in
    verilog_exact.one_reading one.tokens 256 256 ms others one.spelled (subst (λ ts. AreModules ts others) same other.spelled)

-- the modules of sources with a design have no fault
faulty_or_flat : (sources : List SourceText) (defines : List DefineText) (top : List ℕ) (modules : List t.Module) (design : FlatDesign) (f : Fault) → AreAccepted sources defines modules → answer modules top ≡ Ok design → AreFaulty sources defines top f → ⊥
faulty_or_flat sources defines top modules design f accepted flat faulty =
    let same = one_list_of_modules sources defines faulty.modules modules faulty.accepted accepted in
    ok_or_err (answer modules top) design f flat (subst (λ ms. answer ms top ≡ Err f) same faulty.first)

-- there is no fault of the lexer, of the parser or of elaboration in sources that represent a design
design_or_refused : (sources : List SourceText) (defines : List DefineText) (top : List ℕ) (design : Design) (refusal : SourceRefusal) → StandFor sources defines top design → AreRefused sources defines top refusal → ⊥
design_or_refused sources defines top design refusal stands refused = go refusal.kind refused.place refusal.detail refused.found
  where
    go : (k : SourceKind) (place : Option Place) (detail : Option (List ℕ)) → IsFoundAt sources defines top k place detail → ⊥
    go (kind.Lex k) place detail found = ok_or_err (tokens_of sources defines) stands.accepted.tokens _ stands.accepted.lexed found
    go (kind.Parse k) place detail found =
        let same : found.0 ≡ stands.accepted.tokens = one_ok (tokens_of sources defines) found.0 stands.accepted.tokens found.1 stands.accepted.lexed in
        spelled_or_stands stands.accepted.tokens stands.modules k place detail stands.accepted.spelled (subst (λ ts. StandsIn ts (parse_fault.At k place detail)) same found.2)
    go (kind.Const k) (Some place) None found = faulty_or_flat sources defines top stands.modules (design_view design) _ stands.accepted stands.flat found
    go (kind.Const k) (Some place) (Some name) found = found
    go (kind.Const k) None detail found = found
    go (kind.Elab k) place (Some name) found = faulty_or_flat sources defines top stands.modules (design_view design) _ stands.accepted stands.flat found
    go (kind.Elab k) place None found = found

-- sources represent one design
pub one_design : (sources : List SourceText) (defines : List DefineText) (top : List ℕ) (a b : Design) → StandFor sources defines top a → StandFor sources defines top b → design_view a ≡ design_view b
one_design sources defines top a b one other =
    let same = one_list_of_modules sources defines other.modules one.modules other.accepted one.accepted in
    let flat : answer one.modules top ≡ Ok (design_view b) = subst (λ ms. answer ms top ≡ Ok (design_view b)) same other.flat in
    one_ok (answer one.modules top) (design_view a) (design_view b) one.flat flat

-- sources in which there is a fault lack no file
refused_lack : (sources : List SourceText) (defines : List DefineText) (top : List ℕ) (refusal : SourceRefusal) → AreRefused sources defines top refusal → (name : List ℕ) → Lacks sources defines name → ⊥
refused_lack sources defines top refusal refused name lacks = go refusal.kind refused.place refusal.detail refl refused.found
  where
    same_kind : (k : _) (p q : Option Place) (d e : Option (List ℕ)) (a : Answer (List Lexeme)) → a ≡ Err (lex_fault.At k p d) → a ≡ Err (lex_fault.At IncludeMissing q e) → k ≡ IncludeMissing
    same_kind k p q d e a one other = cc

    faulty : (f : Fault) → AreFaulty sources defines top f → ⊥
    faulty f is = ok_or_err (tokens_of sources defines) is.accepted.tokens _ is.accepted.lexed lacks.1

    go : (k : SourceKind) (place : Option Place) (detail : Option (List ℕ)) → refusal.kind ≡ k → IsFoundAt sources defines top k place detail → ⊥
    go (kind.Lex k) place detail is found = refused.no_file (is ∙ ap kind.Lex (same_kind k place (Some lacks.0) detail (Some name) (tokens_of sources defines) found lacks.1))
    go (kind.Parse k) place detail is found = ok_or_err (tokens_of sources defines) found.0 _ found.1 lacks.1
    go (kind.Const k) (Some place) None is found = faulty _ found
    go (kind.Const k) (Some place) (Some name) is found = found
    go (kind.Const k) None detail is found = found
    go (kind.Elab k) place (Some name) is found = faulty _ found
    go (kind.Elab k) place None is found = found

none_or_some : (o : Option LexFault) (f : LexFault) → o ≡ None → o ≡ Some f → ⊥
none_or_some o f none some = cc

-- ---- files that are given are read

not_missing_at : (files : Option Files) (name text : List ℕ) (P : Type 0) → IsSome files → IfSome files (λ files. files name ≡ Some text) → MatchOption files P (λ files. files name ≡ None) → ⊥
not_missing_at None name text P told is missing = absurd cc
not_missing_at (Some files) name text P told is missing = let e : Some text ≡ None = sym is ∙ missing in cc

-- a call on a file that is there gave nothing only where a fault was counted
call_counted : (before after : Outside) (path text : List ℕ) (call : Call) → IsSome before.files → IsFile before path text → IsRefusedCall before after path call → IsCounted before.faults after.faults
call_counted before after path text OpenRead told is refused = elim refused.cause [ inl counted ↦ counted | inr missing ↦ absurd (not_missing_at before.files path text _ told is missing) ]
call_counted before after path text Read told is refused = refused.cause
call_counted before after path text OpenWrite told is counted = absurd counted
call_counted before after path text Write told is counted = absurd counted
call_counted before after path text CloseWrite told is counted = absurd counted

-- the fault is not that of a file that is not read
abbrev pub IsOfSources : SourceFault → Type 0
IsOfSources (fault.File call file) = ⊥
IsOfSources (fault.Included call path) = ⊥
IsOfSources other = Unit {0}

module _ (words : SourceValues) (before : Outside) (all : List SourceText) (told : IsSome before.files) (gathered : HasSources words before all) where
  -- sources on the way grow to all
  on_the_way : (sources : List SourceText) → HasBegun words before sources → Grow before words.folder words.defines sources all
  on_the_way sources begun =
      let roots = one_list_of_roots before words.files begun.roots gathered.roots told begun.are_roots gathered.are_roots in
      grows_on before words.folder words.defines begun.roots sources all told begun.grow
      (subst (λ rs. Grow before words.folder words.defines rs all) (sym roots) gathered.grow) gathered.whole

  pub one_sources : (other : List SourceText) → HasSources words before other → all ≡ other
  one_sources other has = one_list before words.files words.folder words.defines all other told gathered has

  roots_fit : (refusal : SourceRefusal) → HasFullRoot words before refusal → ⊥
  roots_fit refusal full =
      let within = grow_within before words.folder words.defines gathered.roots all gathered.grow gathered.within in
      let fits = root_fits before words.files full.front full.others full.file full.not_fit.text gathered.roots full.sources told full.stands gathered.are_roots full.roots within full.not_fit.is in
      none_or_some _ _ fits full.not_fit.refused

  includes_fit : (refusal : SourceRefusal) → HasFullInclude words before refusal → ⊥
  includes_fit refusal full =
      let there = lacking_there before words.folder words.defines full.sources all full.name (on_the_way full.sources full.begun) gathered.whole gathered.within full.lacks in
      let same = one_text before (path_of words.folder full.name) there.0 full.not_fit.text told there.1 full.not_fit.is in
      none_or_some _ _ (subst (λ t. refusal_of full.sources full.name (length t) ≡ None) same there.2) full.not_fit.refused

  include_reads : (path : List ℕ) → LacksAt words before path → (text : List ℕ) × IsFile before path text
  include_reads path lacks =
      let there = lacking_there before words.folder words.defines lacks.sources all lacks.name (on_the_way lacks.sources lacks.begun) gathered.whole gathered.within lacks.lacks in
      (there.0, subst (λ p. IsFile before p there.0) (sym lacks.path_is) there.1)

  -- every file is there
  pub files_read : (after : Outside) → (IsCounted before.faults after.faults → ⊥) → (f : SourceFault) → IsSourceFault words before after f → IsOfSources f
  files_read after none fault.NoMemory is = tt
  files_read after none (fault.File call file) is =
      let root = root_there before words.files is.front is.others file.now gathered.roots is.stands gathered.are_roots in
      none (call_counted before after file.now root.0 call told root.1 is.refused)
  files_read after none (fault.Included call path) is =
      let file = include_reads path is.0 in
      none (call_counted before after path file.0 call told file.1 is.1)
  files_read after none (fault.Refused refusal) is = tt

  -- sources with a design have no fault but want of memory
  pub design_or_fault : (design : Design) → StandFor all words.defines words.top design → (after : Outside) → (IsCounted before.faults after.faults → ⊥) → (f : SourceFault) → IsSourceFault words before after f → f ≡ fault.NoMemory
  design_or_fault design stands after none fault.NoMemory is = refl
  design_or_fault design stands after none (fault.File call file) is = absurd (files_read after none (fault.File call file) is)
  design_or_fault design stands after none (fault.Included call path) is = absurd (files_read after none (fault.Included call path) is)
  design_or_fault design stands after none (fault.Refused refusal) (inl refused) =
      let same = settled before words.folder words.defines refused.sources all (on_the_way refused.sources refused.begun) (refused_lack refused.sources words.defines words.top refusal refused.refused) in
      absurd (design_or_refused all words.defines words.top design refusal stands (subst (λ ss. AreRefused ss words.defines words.top refusal) same refused.refused))
  design_or_fault design stands after none (fault.Refused refusal) (inr (inl full)) = absurd (roots_fit refusal full)
  design_or_fault design stands after none (fault.Refused refusal) (inr (inr full)) = absurd (includes_fit refusal full)
