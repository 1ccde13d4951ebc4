-- The files of a merge, one after the other.
use Rattle.std.proofs.Common.{◌≡◌, ◌∙◌, ℕ, List, [], ◌∷◌, ◌++◌, append_assoc, append-nil, refl, sym, ap, subst, inl, inr}
use Rattle.std.proofs.lemmas.List.Elements.{All-nil, All-append, All-cons}
use Rattle.std.specs.Prelude.{All}
use Rattle.command_line.specs.DatabaseWords.{MergeValues}
use Rattle.cov_host.specs.Outside.{Outside}
use Rattle.coverage_db.specs.Merge.{SameDesign, merged, merged_all}
use Rattle.coverage_db.specs.Table.{IsTable}
use Rattle.coverage_db.specs.declared.db.Db.{Db}
use Rattle.whole_files.specs.Effects.{CountsUp, OnlyReads}
use Rattle.whole_files.proofs.EffectLemmas.{OnlyReads-trans}
use Rattle.database_commands.specs.Faults.{ComesTo, HasMerge, IsJoinFault, IsMergeFault, IsNoTable, IsTableFault, IsWriteFault, inputs_of}
use Rattle.database_commands.specs.Files.{HoldTables, HoldsTable}
use Rattle.database_commands.specs.Merging.{IsMergeOf}
use Rattle.whole_files.specs.Refusals.{IsRefused}
use Rattle.database_commands.specs.declared.fault.CommandFault.{CommandFault}
use Rattle.database_commands.specs.declared.fault.CommandFault.TheVariants.{Files, Print, Memory, NoDatabase, DesignsDiffer, Point}
use Rattle.database_commands.proofs.MergedDesign.{differs_from_first, merged_all-push, merged_design}
use Rattle.database_commands.proofs.Reading.{HoldTables-push, holds_before, no_table_before, refused_before}

-- the files up to those that are left were read, and this is the merge of their tables
pub record HasMerged (merge : MergeValues) (before now : Outside) (left : List (List ℕ)) (table : Db) : Type 0 where
  pub read : List (List ℕ)
  pub first : Db
  pub tables : List Db
  pub files : merge.others ≡ read ++ left
  pub first_holds : HoldsTable before merge.first first
  pub hold : HoldTables before read tables
  pub of_one : All (SameDesign first) tables
  pub is : table ≡ merged_all first tables
  pub is_table : IsTable table
  pub same : SameDesign first table
  pub effects : OnlyReads before now

-- the first file was read
pub HasMerged-start : (merge : MergeValues) (before now : Outside) (table : Db) → HoldsTable before merge.first table → OnlyReads before now → HasMerged merge before now merge.others table
HasMerged-start merge before now table holds effects = record {
  read = [];
  first = table;
  tables = [];
  files = refl;
  first_holds = holds;
  hold = tt;
  of_one = All-nil (SameDesign table);
  is = refl;
  is_table = holds.table;
  same = refl;
  effects = effects;
}

-- the next file was read, and its table was joined with those before it
pub HasMerged-more : (merge : MergeValues) (before now after : Outside) (file : List ℕ) (left rest : List (List ℕ)) (table other joined : Db)
    → HasMerged merge before now left table
    → left ≡ file ∷ rest
    → HoldsTable now file other
    → OnlyReads now after
    → IsTable joined
    → SameDesign table other
    → joined ≡ merged table other
    → HasMerged merge before after rest joined
HasMerged-more merge before now after file left rest table other joined has next holds effects is_table same is = record {
  read = has.read ++ file ∷ [];
  first = has.first;
  tables = has.tables ++ other ∷ [];
  files = has.files ∙ ap (λ files. has.read ++ files) next ∙ sym (append_assoc has.read (file ∷ []) rest);
  first_holds = has.first_holds;
  hold = HoldTables-push before has.read has.tables file other has.hold (holds_before before now file other has.effects.files holds);
  of_one = All-append (SameDesign has.first) has.tables (other ∷ []) has.of_one (All-cons (SameDesign has.first) other [] (has.same ∙ same) (All-nil (SameDesign has.first)));
  is = is ∙ ap (λ table. merged table other) has.is ∙ sym (merged_all-push has.first has.tables other);
  is_table = is_table;
  same = subst (SameDesign has.first) (sym is) (has.same ∙ merged_design table other has.is_table holds.table same);
  effects = OnlyReads-trans before now after has.effects effects;
}

-- when none is left, this is the merge of all
pub merge_of_all : (merge : MergeValues) (before now : Outside) (left : List (List ℕ)) (table : Db) → HasMerged merge before now left table → left ≡ [] → IsMergeOf merge before table
merge_of_all merge before now left table has none = record {
  first = has.first;
  others = has.tables;
  first_holds = has.first_holds;
  others_hold = subst (λ names. HoldTables before names has.tables) (sym (has.files ∙ ap (λ files. has.read ++ files) none ∙ append-nil has.read)) has.hold;
  of_one = has.of_one;
  is = has.is;
}

-- ---- faults

-- the merge comes to its first file
comes_to_first : (merge : MergeValues) (before : Outside) → ComesTo (inputs_of merge) before merge.first
comes_to_first merge before = record { earlier = []; later = merge.others; tables = []; files_are = refl; hold = tt; of_one = tt }

-- and to the next, where those before it are of one design
comes_to_next : (merge : MergeValues) (before now : Outside) (file : List ℕ) (left rest : List (List ℕ)) (table : Db) → HasMerged merge before now left table → left ≡ file ∷ rest → ComesTo (inputs_of merge) before file
comes_to_next merge before now file left rest table has next = record {
  earlier = merge.first ∷ has.read;
  later = rest;
  tables = has.first ∷ has.tables;
  files_are = ap (λ files. merge.first ∷ files) (has.files ∙ ap (λ files. has.read ++ files) next);
  hold = (has.first_holds, has.hold);
  of_one = has.of_one;
}

-- a file to which the merge comes was not read
table_fault : (merge : MergeValues) (before now after : Outside) (name : List ℕ) → OnlyReads before now → OnlyReads now after → ComesTo (inputs_of merge) before name → (fault : CommandFault) → IsTableFault name now after fault → IsMergeFault merge before after fault
table_fault merge before now after name effects later comes (Files call file) is =
    let comes_to = subst (ComesTo (inputs_of merge) before) (sym is.0) comes in
    let refused = subst (λ name. IsRefused call name before after) (sym is.0) (refused_before before now after call name effects later.counts is.2) in
    inl (is.1, comes_to, refused)
table_fault merge before now after name effects later comes Print is = absurd is
table_fault merge before now after name effects later comes Memory is = tt
table_fault merge before now after name effects later comes (NoDatabase file kind line) is =
    (subst (ComesTo (inputs_of merge) before) (sym is.0) comes, subst (λ name. IsNoTable name before kind line) (sym is.0) (no_table_before before now name kind line effects.files is.1))
table_fault merge before now after name effects later comes (DesignsDiffer file line first other) is = absurd is
table_fault merge before now after name effects later comes (Point file fault address) is = absurd is

pub first_fault : (merge : MergeValues) (before after : Outside) → OnlyReads before before → OnlyReads before after → (fault : CommandFault) → IsTableFault merge.first before after fault → IsMergeFault merge before after fault
first_fault merge before after same effects fault is = table_fault merge before before after merge.first same effects (comes_to_first merge before) fault is

pub next_fault : (merge : MergeValues) (before now after : Outside) (file : List ℕ) (left rest : List (List ℕ)) (table : Db) → HasMerged merge before now left table → left ≡ file ∷ rest → OnlyReads now after → (fault : CommandFault) → IsTableFault file now after fault → IsMergeFault merge before after fault
next_fault merge before now after file left rest table has next later fault is =
    table_fault merge before now after file has.effects later (comes_to_next merge before now file left rest table has next) fault is

-- a file's table is of another design
pub join_fault : (merge : MergeValues) (before now after : Outside) (file : List ℕ) (left rest : List (List ℕ)) (table other : Db) → HasMerged merge before now left table → left ≡ file ∷ rest → HoldsTable now file other → (fault : CommandFault) → IsJoinFault table other file fault → IsMergeFault merge before after fault
join_fault merge before now after file left rest table other has next holds (Files call name) is = absurd is
join_fault merge before now after file left rest table other has next holds Print is = absurd is
join_fault merge before now after file left rest table other has next holds Memory is = tt
join_fault merge before now after file left rest table other has next holds (NoDatabase name kind line) is = absurd is
join_fault merge before now after file left rest table other has next holds (Point name fault address) is = absurd is
join_fault merge before now after file left rest table other has next holds (DesignsDiffer name line first_line other_line) is = (
  subst (ComesTo (inputs_of merge) before) (sym is.0) (comes_to_next merge before now file left rest table has next),
  record {
    first_table = has.first;
    other_table = other;
    first_holds = has.first_holds;
    other_holds = subst (λ name. HoldsTable before name other) (sym is.0) (holds_before before now file other has.effects.files holds);
    differ = differs_from_first has.first table other line first_line other_line has.same is.1;
  },
)

-- the output was not written
pub write_fault : (merge : MergeValues) (before now after : Outside) → HasMerge merge before → OnlyReads before now → CountsUp now after → (fault : CommandFault) → IsWriteFault merge.output now after fault → IsMergeFault merge before after fault
write_fault merge before now after has effects later (Files call file) is =
    inr (is.1, is.0, refused_before before now after call file.now effects later is.2, has)
write_fault merge before now after has effects later Print is = absurd is
write_fault merge before now after has effects later Memory is = tt
write_fault merge before now after has effects later (NoDatabase file kind line) is = absurd is
write_fault merge before now after has effects later (DesignsDiffer file line first other) is = absurd is
write_fault merge before now after has effects later (Point file fault address) is = absurd is
