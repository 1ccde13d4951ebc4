-- The files of a ranking, one after the other.
use Rattle.std.proofs.Common.{◌≡◌, ◌∙◌, ℕ, suc, ◌<◌, Bool, List, [], ◌∷◌, ◌++◌, length, map, get_or, append_assoc, append-nil, Result, Ok, Err, refl, sym, ap, subst, arith}
use Rattle.std.proofs.lemmas.List.{length-map, map-append}
use Rattle.std.proofs.lemmas.List.Elements.{All-append, All-cons, All-nil}
use Rattle.std.specs.Global.{Global}
use Rattle.std.specs.Prelude.{All, IfErr, IfOk, OnOk}
use Rattle.command_line.specs.RankWords.{RankValues}
use Rattle.cov_host.specs.Outside.{Outside}
use Rattle.coverage_db.proofs.MergeLaws.{long_same, same_alike}
use Rattle.coverage_db.specs.Merge.{SameDesign, bare_lines, merged}
use Rattle.coverage_db.specs.Table.{IsTable}
use Rattle.coverage_db.specs.declared.db.Db.{Db}
use Rattle.test_ranking.specs.Hits.{hits_of, is_hit}
use Rattle.test_ranking.specs.Ranking.{IsRanking}
use Rattle.test_ranking.specs.declared.ranking.Ranking.{Ranking}
use Rattle.whole_files.specs.Effects.{CountsUp, OnlyReads}
use Rattle.whole_files.proofs.EffectLemmas.{IsCounted-earlier, OnlyReads-trans}
use Rattle.database_commands.specs.Complete.{HasTable, HaveTablesOf, NoFaults}
use Rattle.whole_files.specs.Refusals.{IsRefused}
use Rattle.database_commands.specs.Faults.{ComesTo, IsJoinFault, IsNoTable, IsOtherDesign, IsPrintFault, IsTableFault}
use Rattle.database_commands.specs.Files.{HoldTables, HoldsTable}
use Rattle.database_commands.specs.Ranking.{AreHitsOf, HasRanking, IsGoodRank, IsJoined, IsRankFault, IsRankedText, IsRankingOf, IsReached, IsTextOfRanking, ranked_files}
use Rattle.database_commands.specs.declared.fault.CommandFault.{CommandFault}
use Rattle.database_commands.specs.declared.fault.CommandFault.TheVariants.{Files, Print, Memory, NoDatabase, DesignsDiffer, Point}
use Rattle.database_commands.proofs.Complete.{comes_at, one_design, refused_there, same_table, table_there}
use Rattle.database_commands.proofs.MergedDesign.{differs_from_first, merged_design}
use Rattle.database_commands.proofs.Reading.{HoldTables-push, holds_before, no_table_before, refused_before}

-- ---- tables of one design have as many points

same_points : (left right : Db) → IsTable left → IsTable right → SameDesign left right → length left.points ≡ length right.points
same_points left right is_left is_right same = long_same left.points right.points (same_alike left right is_left is_right same).addresses

-- the set of a table has a mark for each point
hits_long : (db : Db) → length (hits_of db) ≡ length db.points
hits_long db = length-map db.points (λ p. is_hit p.verdict)

all_long : (before : Outside) (first : Db) (names : List (List ℕ)) (others : List Db) → IsTable first → HoldTables before names others → All (SameDesign first) others → All (λ set. length set ≡ length first.points) (map hits_of others)
all_long before first [] [] is hold same = All-nil (λ (set : List Bool). length set ≡ length first.points)
all_long before first [] (db ∷ others) is hold same = absurd hold
all_long before first (name ∷ names) [] is hold same = absurd hold
all_long before first (name ∷ names) (db ∷ others) is hold same =
    All-cons (λ (set : List Bool). length set ≡ length first.points) (hits_of db) (map hits_of others)
    (hits_long db ∙ sym (same_points first db is hold.0.table (same 0 db (omega arith))))
    (all_long before first names others is hold.1 (λ k d listed. same (suc k) d (omega (arith, listed))))

module _ (rank : RankValues) (before : Outside) (sets : List (List Bool)) (hits : AreHitsOf rank before sets) where
  -- there is a set
  pub some_set : 0 < length sets
  some_set = subst (λ (sets : List (List Bool)). 0 < length sets) (sym hits.are) (omega arith)

  first_long : (d : List Bool) → length (get_or sets 0 d) ≡ length hits.first.points
  first_long d = ap (λ (sets : List (List Bool)). length (get_or sets 0 d)) hits.are ∙ hits_long hits.first

  -- each set is as long as the first
  pub sets_long : (d : List Bool) → All (λ set. length set ≡ length (get_or sets 0 d)) sets
  sets_long d =
      let long = All-cons (λ (set : List Bool). length set ≡ length hits.first.points) (hits_of hits.first) (map hits_of hits.others) (hits_long hits.first)
      (all_long before hits.first rank.others hits.others hits.hold.0.table hits.hold.1 hits.of_one) in
      subst (λ (points : ℕ). All (λ set. length set ≡ points) sets) (sym (first_long d))
      (subst (λ (sets : List (List Bool)). All (λ set. length set ≡ length hits.first.points) sets) (sym hits.are) long)

  -- the ranking of the sets is that of the files
  pub ranking_of_sets : (d : List Bool) (ranking : Ranking) → IsRanking (length (get_or sets 0 d)) sets ranking → IsRankingOf rank before ranking
  ranking_of_sets d ranking is = record {
    first = hits.first;
    others = hits.others;
    hold = hits.hold;
    of_one = hits.of_one;
    is = subst (λ (points : ℕ). IsRanking points (map hits_of (hits.first ∷ hits.others)) ranking) (first_long d)
        (subst (λ (tables : List (List Bool)). IsRanking (length (get_or sets 0 d)) tables ranking) hits.are is);
  }

-- a text of the ranking of the sets of the files is that of their ranking
pub ranking_of_text : (rank : RankValues) (before : Outside) (sets : List (List Bool)) (hits : AreHitsOf rank before sets) (d : List Bool) (points : ℕ) (tables : List (List Bool)) (text : List ℕ)
    → length (get_or sets 0 d) ≡ points
    → tables ≡ sets
    → IsTextOfRanking (ranked_files rank) points tables text
    → IsRankedText rank before text
ranking_of_text rank before sets hits d points tables text long same is =
    let of_sets = subst (λ (tables : List (List Bool)). IsRanking points tables is.0) same is.1 in
    (is.0, ranking_of_sets rank before sets hits d is.0 (subst (λ n. IsRanking n sets is.0) (sym long) of_sets), is.2)

-- ---- files that were read

-- the table is a merge of tables of the design of the first
pub record AreMerged (first : Db) (tables : List Db) (table : Db) : Type 0 where
  pub of_one : All (SameDesign first) tables
  pub is_table : IsTable table
  pub same : SameDesign first table

-- why tables were not merged
abbrev pub IsUnmerged : RankValues → Outside → CommandFault → Type 0
IsUnmerged rank before (Files call file) = ⊥
IsUnmerged rank before Print = ⊥
IsUnmerged rank before Memory = Unit {0}
IsUnmerged rank before (NoDatabase file kind line) = ⊥
IsUnmerged rank before (Point file fault address) = ⊥
IsUnmerged rank before (DesignsDiffer file line first other) = ComesTo (ranked_files rank) before file.now × IsOtherDesign rank.first file.now before line first other

abbrev pub IsMergeOfAll : RankValues → Outside → Db → List Db → Result Db CommandFault → Type 0
IsMergeOfAll rank before first tables (Ok table) = AreMerged first tables table
IsMergeOfAll rank before first tables (Err fault) = IsUnmerged rank before fault

-- the files up to those that are left were read: these are the sets of their tables, and the merge or the first difference
pub record HasReadSets (rank : RankValues) (before now : Outside) (left : List (List ℕ)) (sets : List (List Bool)) (joined : Result Db CommandFault) : Type 0 where
  pub read : List (List ℕ)
  pub first : Db
  pub tables : List Db
  pub files : rank.others ≡ read ++ left
  pub first_holds : HoldsTable before rank.first first
  pub hold : HoldTables before read tables
  pub are : sets ≡ map hits_of (first ∷ tables)
  pub merge : IsMergeOfAll rank before first tables joined
  pub effects : OnlyReads before now

-- the first file was read
pub HasReadSets-start : (rank : RankValues) (before now : Outside) (table : Db) (sets : List (List Bool)) → HoldsTable before rank.first table → sets ≡ hits_of table ∷ [] → OnlyReads before now → HasReadSets rank before now rank.others sets (Ok table)
HasReadSets-start rank before now table sets holds are effects = record {
  read = [];
  first = table;
  tables = [];
  files = refl;
  first_holds = holds;
  hold = tt;
  are = are;
  merge = record { of_one = All-nil (SameDesign table); is_table = holds.table; same = refl };
  effects = effects;
}

-- a ranking comes to the next file, where the files before it are of one design
comes_to_next : (rank : RankValues) (before : Outside) (file : List ℕ) (read rest left : List (List ℕ)) (first : Db) (tables : List Db) → rank.others ≡ read ++ left → left ≡ file ∷ rest → HoldsTable before rank.first first → HoldTables before read tables → All (SameDesign first) tables → ComesTo (ranked_files rank) before file
comes_to_next rank before file read rest left first tables files next holds hold of_one = record {
  earlier = rank.first ∷ read;
  later = rest;
  tables = first ∷ tables;
  files_are = ap (λ files. rank.first ∷ files) (files ∙ ap (λ files. read ++ files) next);
  hold = (holds, hold);
  of_one = of_one;
}

-- one more table and the merge with it
merge_more : (rank : RankValues) (before now : Outside) (file : List ℕ) (left rest : List (List ℕ)) (sets : List (List Bool)) (joined next : Result Db CommandFault) (other : Db)
    → (has : HasReadSets rank before now left sets joined)
    → left ≡ file ∷ rest
    → HoldsTable before file other
    → IfOk joined (λ table. IsJoined table other file next)
    → IfErr joined (λ fault. next ≡ joined)
    → IsMergeOfAll rank before has.first (has.tables ++ other ∷ []) next
merge_more rank before now file left rest sets (Ok table) (Ok both) other has is_next holds is kept = record {
  of_one = All-append (SameDesign has.first) has.tables (other ∷ []) has.merge.of_one (All-cons (SameDesign has.first) other [] (has.merge.same ∙ is.1) (All-nil (SameDesign has.first)));
  is_table = is.0;
  same = subst (SameDesign has.first) (sym is.2) (has.merge.same ∙ merged_design table other has.merge.is_table holds.table is.1);
}
merge_more rank before now file left rest sets (Ok table) (Err (Files call name)) other has is_next holds is kept = absurd is
merge_more rank before now file left rest sets (Ok table) (Err Print) other has is_next holds is kept = absurd is
merge_more rank before now file left rest sets (Ok table) (Err Memory) other has is_next holds is kept = tt
merge_more rank before now file left rest sets (Ok table) (Err (NoDatabase name kind line)) other has is_next holds is kept = absurd is
merge_more rank before now file left rest sets (Ok table) (Err (Point name fault address)) other has is_next holds is kept = absurd is
merge_more rank before now file left rest sets (Ok table) (Err (DesignsDiffer name line first_line other_line)) other has is_next holds is kept = (
  subst (ComesTo (ranked_files rank) before) (sym is.0) (comes_to_next rank before file has.read rest left has.first has.tables has.files is_next has.first_holds has.hold has.merge.of_one),
  record {
    first_table = has.first;
    other_table = other;
    first_holds = has.first_holds;
    other_holds = subst (λ name. HoldsTable before name other) (sym is.0) holds;
    differ = differs_from_first has.first table other line first_line other_line has.merge.same is.1;
  },
)
merge_more rank before now file left rest sets (Err fault) next other has is_next holds is kept =
    subst (IsMergeOfAll rank before has.first (has.tables ++ other ∷ [])) (sym kept) has.merge

-- what was merged is a table
pub joined_is_table : (rank : RankValues) (before now : Outside) (left : List (List ℕ)) (sets : List (List Bool)) (joined : Result Db CommandFault) → HasReadSets rank before now left sets joined → IfOk joined IsTable
joined_is_table rank before now left sets (Ok table) has = has.merge.is_table
joined_is_table rank before now left sets (Err fault) has = tt

-- what a merge gives
pub is_joined : (table other : Db) (name : List ℕ) (joined : Result Db CommandFault) → IfOk joined IsTable → OnOk joined (SameDesign table other) → IfOk joined (λ both. both ≡ merged table other) → IfErr joined (IsJoinFault table other name) → IsJoined table other name joined
is_joined table other name (Ok both) table_is same is fault = (table_is, same, is)
is_joined table other name (Err f) table_is same is fault = fault

pub HasReadSets-more : (rank : RankValues) (before now after : Outside) (file : List ℕ) (left rest : List (List ℕ)) (sets more : List (List Bool)) (joined next : Result Db CommandFault) (other : Db)
    → HasReadSets rank before now left sets joined
    → left ≡ file ∷ rest
    → HoldsTable now file other
    → OnlyReads now after
    → more ≡ sets ++ hits_of other ∷ []
    → IfOk joined (λ table. IsJoined table other file next)
    → IfErr joined (λ fault. next ≡ joined)
    → HasReadSets rank before after rest more next
HasReadSets-more rank before now after file left rest sets more joined next other has is_next holds effects added is kept =
    let held = holds_before before now file other has.effects.files holds in
    record {
      read = has.read ++ file ∷ [];
      first = has.first;
      tables = has.tables ++ other ∷ [];
      files = has.files ∙ ap (λ files. has.read ++ files) is_next ∙ sym (append_assoc has.read (file ∷ []) rest);
      first_holds = has.first_holds;
      hold = HoldTables-push before has.read has.tables file other has.hold held;
      are = added ∙ ap (λ sets. sets ++ hits_of other ∷ []) has.are ∙ sym (map-append hits_of (has.first ∷ has.tables) (other ∷ []));
      merge = merge_more rank before now file left rest sets joined next other has is_next held is kept;
      effects = OnlyReads-trans before now after has.effects effects;
    }

-- when no file is left, all hold tables
module _ (rank : RankValues) (before now : Outside) (left : List (List ℕ)) (sets : List (List Bool)) (joined : Result Db CommandFault) (has : HasReadSets rank before now left sets joined) (none : left ≡ []) where
  all_hold : HoldTables before rank.others has.tables
  all_hold = subst (λ names. HoldTables before names has.tables) (sym (has.files ∙ ap (λ files. has.read ++ files) none ∙ append-nil has.read)) has.hold

  -- and where they are of one design, the sets are those of all
  pub hits_of_all : (table : Db) → joined ≡ Ok table → AreHitsOf rank before sets
  hits_of_all table is = record {
    first = has.first;
    others = has.tables;
    hold = (has.first_holds, all_hold);
    of_one = (subst (IsMergeOfAll rank before has.first has.tables) is has.merge).of_one;
    are = has.are;
  }

  pub unmerged_fault : (after : Outside) (fault : CommandFault) → joined ≡ Err fault → IsRankFault rank before after fault
  unmerged_fault after (Files call file) is = absurd (subst (IsMergeOfAll rank before has.first has.tables) is has.merge)
  unmerged_fault after Print is = absurd (subst (IsMergeOfAll rank before has.first has.tables) is has.merge)
  unmerged_fault after Memory is = tt
  unmerged_fault after (NoDatabase file kind line) is = absurd (subst (IsMergeOfAll rank before has.first has.tables) is has.merge)
  unmerged_fault after (Point file fault address) is = absurd (subst (IsMergeOfAll rank before has.first has.tables) is has.merge)
  unmerged_fault after (DesignsDiffer file line first other) is =
      let differs = subst (IsMergeOfAll rank before has.first has.tables) is has.merge in
      ((has.first ∷ has.tables, (has.first_holds, all_hold)), differs.0, differs.1)

-- ---- files that were not read

-- a file that was reached was not read
table_fault : (rank : RankValues) (before now after : Outside) (name : List ℕ) → OnlyReads before now → OnlyReads now after → IsReached (ranked_files rank) before name → (fault : CommandFault) → IsTableFault name now after fault → IsRankFault rank before after fault
table_fault rank before now after name effects later reached (Files call file) is =
    (is.1, subst (IsReached (ranked_files rank) before) (sym is.0) reached, subst (λ name. IsRefused call name before after) (sym is.0) (refused_before before now after call name effects later.counts is.2))
table_fault rank before now after name effects later reached Print is = absurd is
table_fault rank before now after name effects later reached Memory is = tt
table_fault rank before now after name effects later reached (NoDatabase file kind line) is =
    (subst (IsReached (ranked_files rank) before) (sym is.0) reached, subst (λ name. IsNoTable name before kind line) (sym is.0) (no_table_before before now name kind line effects.files is.1))
table_fault rank before now after name effects later reached (DesignsDiffer file line first other) is = absurd is
table_fault rank before now after name effects later reached (Point file fault address) is = absurd is

pub first_rank_fault : (rank : RankValues) (before after : Outside) → OnlyReads before before → OnlyReads before after → (fault : CommandFault) → IsTableFault rank.first before after fault → IsRankFault rank before after fault
first_rank_fault rank before after same effects fault is =
    table_fault rank before before after rank.first same effects (record { earlier = []; later = rank.others; tables = []; files_are = refl; hold = tt }) fault is

pub next_rank_fault : (rank : RankValues) (before now after : Outside) (file : List ℕ) (left rest : List (List ℕ)) (sets : List (List Bool)) (joined : Result Db CommandFault)
    → HasReadSets rank before now left sets joined → left ≡ file ∷ rest → OnlyReads now after → (fault : CommandFault) → IsTableFault file now after fault → IsRankFault rank before after fault
next_rank_fault rank before now after file left rest sets joined has next later fault is =
    table_fault rank before now after file has.effects later
    (record {
      earlier = rank.first ∷ has.read;
      later = rest;
      tables = has.first ∷ has.tables;
      files_are = ap (λ files. rank.first ∷ files) (has.files ∙ ap (λ files. has.read ++ files) next);
      hold = (has.first_holds, has.hold);
    })
    fault is

-- the text of the ranking was not printed
pub print_fault : (rank : RankValues) (before now after : Outside) → HasRanking rank before → OnlyReads before now → CountsUp now after → (fault : CommandFault) → IsPrintFault now after fault → IsRankFault rank before after fault
print_fault rank before now after has effects later (Files call file) is = absurd is
print_fault rank before now after has effects later Print is = (IsCounted-earlier before.faults now.faults after.faults effects.counts.faults later.faults is, has)
print_fault rank before now after has effects later Memory is = tt
print_fault rank before now after has effects later (NoDatabase file kind line) is = absurd is
print_fault rank before now after has effects later (DesignsDiffer file line first other) is = absurd is
print_fault rank before now after has effects later (Point file fault address) is = absurd is

-- ---- good files

module _ (alloc : Global) (rank : RankValues) (before after : Outside) (good : IsGoodRank rank before) (none : NoFaults before after) where
  good_at : (file : List ℕ) (earlier later : List (List ℕ)) → ranked_files rank ≡ earlier ++ file ∷ later → (db : Db) × HasTable before file db × SameDesign good.0 db
  good_at file earlier later are = comes_at before good.0 earlier later file (subst (HaveTablesOf before good.0) are ((good.0, good.1, refl), good.2))

  -- where the files are good and no call failed, only want of memory ends a ranking
  pub good_rank : (fault : CommandFault) → IsRankFault rank before after fault → fault ≡ Memory
  good_rank (Files call file) is = let at = good_at file.now is.1.earlier is.1.later is.1.files_are in absurd (none (refused_there before after call file.now at.0 at.1 is.2))
  good_rank Print is = absurd (none is.0)
  good_rank Memory is = refl
  good_rank (NoDatabase file kind line) is = let at = good_at file.now is.0.earlier is.0.later is.0.files_are in absurd (table_there before file.now at.0 kind line at.1 is.1)
  good_rank (Point file fault address) is = absurd is
  good_rank (DesignsDiffer file line first other) is =
      let at = good_at file.now is.1.earlier is.1.later is.1.files_are in
      let first_is = same_table alloc before rank.first good.0 is.2.first_table good.1 is.2.first_holds in
      let other_is = same_table alloc before file.now at.0 is.2.other_table at.1 is.2.other_holds in
      absurd (one_design rank.first file.now before line first other is.2 (sym (ap bare_lines first_is) ∙ at.2 ∙ ap bare_lines other_is))
