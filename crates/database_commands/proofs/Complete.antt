-- Where the files are good and no call of the host failed, only want of memory ends a command.
use Rattle.std.proofs.Common.{◌≡◌, ◌∙◌, ℕ, ◌≤◌, List, [], ◌∷◌, ◌++◌, length, Option, None, Some, refl, sym, ap, subst, inl, inr}
use Rattle.std.specs.Global.{Global}
use Rattle.std.specs.Prelude.{IfSome, IsSomeAnd, MatchOption}
use Rattle.command_line.specs.DatabaseWords.{MergeValues, ReportValues}
use Rattle.cov_host.specs.Outside.{Files as HostFiles, IsCounted, Outside}
use Rattle.coverage_db.proofs.ReadingLaws.{one_table}
use Rattle.coverage_db.specs.Merge.{SameDesign, bare_lines}
use Rattle.coverage_db.specs.Text.{IsTextOf}
use Rattle.coverage_db.specs.declared.db.Db.{Db}
use Rattle.coverage_db.specs.declared.fault.DbKind.{DbKind}
use Rattle.whole_files.specs.Refusals.{IsRefused}
use Rattle.whole_files.specs.declared.call.Call.{Call}
use Rattle.whole_files.specs.declared.call.Call.TheVariants.{OpenRead, Read, OpenWrite, Write, CloseWrite}
use Rattle.database_commands.specs.Complete.{HasTable, HaveTablesOf, IsGoodMerge, IsGoodReport, NoFaults}
use Rattle.database_commands.specs.Faults.{ComesTo, IsMergeFault, IsNoTable, IsOtherDesign, IsWriting, inputs_of}
use Rattle.database_commands.specs.Excluding.{HasExclusion, HoldsExclusion, IsNoExclusion}
use Rattle.database_commands.specs.Files.{HoldsTable}
use Rattle.db_tools.specs.Excluded.{Exclusion, IsExcludedText}
use Rattle.database_commands.proofs.OneExclusion.{one_exclusion}
use Rattle.database_commands.specs.Reporting.{IsReportFault}
use Rattle.database_commands.specs.declared.fault.CommandFault.{CommandFault}
use Rattle.database_commands.specs.declared.fault.CommandFault.TheVariants.{Files, Print, Memory, NoDatabase, DesignsDiffer, Point}

-- a known file has one text
one_text_at : (files : Option HostFiles) (name a b : List ℕ) → IsSomeAnd files (λ files. files name ≡ Some a) → IfSome files (λ files. files name ≡ Some b) → a ≡ b
one_text_at None name a b told is = absurd told
one_text_at (Some files) name a b told is = let e : Some a ≡ Some b = sym told ∙ is in cc

-- and is not missing
there_at : (files : Option HostFiles) (name text : List ℕ) (P : Type 0) → IsSomeAnd files (λ files. files name ≡ Some text) → MatchOption files P (λ files. files name ≡ None) → ⊥
there_at None name text P told missing = told
there_at (Some files) name text P told missing = let e : Some text ≡ None = sym told ∙ missing in cc

-- a call on a file that is there was counted as a fault
refused_text : (before after : Outside) (call : Call) (name text : List ℕ) → IsSomeAnd before.files (λ files. files name ≡ Some text) → IsRefused call name before after → IsCounted before.faults after.faults
refused_text before after OpenRead name text is refused = elim refused.cause [ inl counted ↦ counted | inr missing ↦ absurd (there_at before.files name text (IsCounted before.absences after.absences) is missing) ]
refused_text before after Read name text is refused = refused.cause
refused_text before after OpenWrite name text is refused = refused.cause
refused_text before after Write name text is refused = refused.cause
refused_text before after CloseWrite name text is refused = refused.cause

pub refused_there : (before after : Outside) (call : Call) (name : List ℕ) (db : Db) → HasTable before name db → IsRefused call name before after → IsCounted before.faults after.faults
refused_there before after call name db has refused = refused_text before after call name has.text has.is refused

pub refused_exclusion : (before after : Outside) (call : Call) (name : List ℕ) (e : Exclusion) → HasExclusion before name e → IsRefused call name before after → IsCounted before.faults after.faults
refused_exclusion before after call name e has refused = refused_text before after call name has.text has.is refused

pub refused_write : (before after : Outside) (call : Call) (name : List ℕ) → IsWriting call → IsRefused call name before after → IsCounted before.faults after.faults
refused_write before after OpenRead name writing refused = absurd writing
refused_write before after Read name writing refused = absurd writing
refused_write before after OpenWrite name writing refused = refused.cause
refused_write before after Write name writing refused = refused.cause
refused_write before after CloseWrite name writing refused = refused.cause

-- what has a table is no other text
pub table_there : (before : Outside) (name : List ℕ) (db : Db) (kind : DbKind) (line : Option ℕ) → HasTable before name db → IsNoTable name before kind line → ⊥
table_there before name db kind line has no_table =
    let same = one_text_at before.files name has.text no_table.text has.is no_table.is in
    no_table.none db has.table (subst (IsTextOf db) same has.is_text) (subst (λ text. length text ≤ 2147483648) same has.short)

-- what has a table with excluded points is no other text
pub exclusion_there : (before : Outside) (name : List ℕ) (e : Exclusion) (kind : DbKind) (line : Option ℕ) → HasExclusion before name e → IsNoExclusion name before kind line → ⊥
exclusion_there before name e kind line has none =
    let same = one_text_at before.files name has.text none.text has.is none.is in
    none.none e has.exclusion (subst (IsExcludedText e) same has.is_text) (subst (λ text. length text ≤ 2147483648) same has.short)

-- what a file holds with excluded points is what it has
pub same_exclusion : (alloc : Global) (before : Outside) (name : List ℕ) (e other : Exclusion) → HasExclusion before name e → HoldsExclusion before name other → e ≡ other
same_exclusion alloc before name e other has holds =
    let same = one_text_at before.files name has.text holds.text has.is holds.is in
    one_exclusion alloc e other holds.text has.exclusion holds.exclusion (subst (IsExcludedText e) same has.is_text) holds.is_text

-- what a file holds is the table that it has
pub same_table : (alloc : Global) (before : Outside) (name : List ℕ) (db other : Db) → HasTable before name db → HoldsTable before name other → db ≡ other
same_table alloc before name db other has holds =
    let same = one_text_at before.files name has.text holds.text has.is holds.is in
    one_table alloc db other holds.text has.table holds.table (subst (IsTextOf db) same has.is_text) holds.is_text

same_behind : (front xs ys : List (List ℕ)) → front ++ xs ≡ front ++ ys → xs ≡ ys
same_behind [] xs ys same = same
same_behind (line ∷ front) xs ys same = same_behind front xs ys (cc)

-- tables of one design differ nowhere
pub one_design : (first file : List ℕ) (before : Outside) (line : ℕ) (a b : List ℕ) (is : IsOtherDesign first file before line a b) → SameDesign is.first_table is.other_table → ⊥
one_design first file before line a b is same =
    let behind = same_behind is.differ.before (a ∷ is.differ.left_others) (b ∷ is.differ.right_others) (sym is.differ.left_is ∙ same ∙ is.differ.right_is) in
    is.differ.differ (cc)

-- the file to which a list comes has a table of the design
pub comes_at : (before : Outside) (first : Db) (earlier later : List (List ℕ)) (file : List ℕ) → HaveTablesOf before first (earlier ++ file ∷ later) → (db : Db) × HasTable before file db × SameDesign first db
comes_at before first [] later file have = have.0
comes_at before first (name ∷ earlier) later file have = comes_at before first earlier later file have.1

module _ (alloc : Global) (merge : MergeValues) (before after : Outside) (good : IsGoodMerge merge before) (none : NoFaults before after) where
  good_at : (file : List ℕ) → ComesTo (inputs_of merge) before file → (db : Db) × HasTable before file db × SameDesign good.0 db
  good_at file comes = comes_at before good.0 comes.earlier comes.later file (subst (HaveTablesOf before good.0) comes.files_are ((good.0, good.1, refl), good.2))

  pub good_merge : (fault : CommandFault) → IsMergeFault merge before after fault → fault ≡ Memory
  good_merge (Files call file) (inl is) = absurd (none (refused_there before after call file.now (good_at file.now is.1).0 (good_at file.now is.1).1 is.2))
  good_merge (Files call file) (inr (writing, named, refused, has)) = absurd (none (refused_write before after call file.now writing refused))
  good_merge Print is = absurd is
  good_merge Memory is = refl
  good_merge (NoDatabase file kind line) is = let at = good_at file.now is.0 in absurd (table_there before file.now at.0 kind line at.1 is.1)
  good_merge (DesignsDiffer file line first other) is =
      let at = good_at file.now is.0 in
      let first_is = same_table alloc before merge.first good.0 is.1.first_table good.1 is.1.first_holds in
      let other_is = same_table alloc before file.now at.0 is.1.other_table at.1 is.1.other_holds in
      absurd (one_design merge.first file.now before line first other is.1 (sym (ap bare_lines first_is) ∙ at.2 ∙ ap bare_lines other_is))
  good_merge (Point file fault address) is = absurd is

pub good_report : (report : ReportValues) (before after : Outside) → IsGoodReport report before → NoFaults before after → (fault : CommandFault) → IsReportFault report before after fault → fault ≡ Memory
good_report report before after good none (Files call file) (inl is) =
    absurd (none (refused_exclusion before after call file.now good.0 (subst (λ name. HasExclusion before name good.0) (sym is.1) good.1) is.2))
good_report report before after good none (Files call file) (inr (writing, named, refused, holds)) = absurd (none (refused_write before after call file.now writing refused))
good_report report before after good none Print (unnamed, counted, holds) = absurd (none counted)
good_report report before after good none Memory is = refl
good_report report before after good none (NoDatabase file kind line) is =
    absurd (exclusion_there before file.now good.0 kind line (subst (λ name. HasExclusion before name good.0) (sym is.0) good.1) is.1)
good_report report before after good none (DesignsDiffer file line first other) is = absurd is
good_report report before after good none (Point file fault address) is = absurd is
