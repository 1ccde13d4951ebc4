-- What was read of files that have not changed since.
use Rattle.std.proofs.Common.{◌≡◌, ℕ, ◌<◌, ◌≤◌, List, [], ◌∷◌, ◌++◌, length, Option, None, Some, Err, refl, sym, subst, ◌∙◌, inl, inr, arith}
use Rattle.std.specs.Prelude.{IfSome, IsSomeAnd}
use Rattle.std.proofs.lemmas.Bool.{cases_lt}
use Rattle.cov_host.specs.Outside.{Files, KeepsFiles, Outside, SameFiles, Told}
use Rattle.coverage_db.specs.Faults.{IsFault, IsTheTable}
use Rattle.coverage_db.specs.Table.{IsTable}
use Rattle.coverage_db.specs.Text.{IsTextOf}
use Rattle.coverage_db.specs.declared.db.Db.{Db}
use Rattle.coverage_db.specs.declared.fault.DbFault.TheVariants.{At}
use Rattle.coverage_db.specs.declared.fault.DbKind.{DbKind}
use Rattle.coverage_db.specs.declared.fault.DbKind.TheVariants.{DbTooLong}
use Rattle.whole_files.specs.Effects.{CountsUp, OnlyReads}
use Rattle.whole_files.specs.Files.{IsContent}
use Rattle.whole_files.specs.declared.call.Call.{Call}
use Rattle.whole_files.specs.Refusals.{IsRefused}
use Rattle.whole_files.proofs.Refusals.{refused_earlier}
use Rattle.database_commands.specs.Faults.{IsNoTable}
use Rattle.database_commands.specs.Files.{HoldTables, HoldsTable, IsFile}

-- what a call of reading says of the bytes
abbrev pub AreBytesOf : Outside → List ℕ → List ℕ → Type 0
AreBytesOf outside name bytes = IfSome outside.files (λ files. IsSomeAnd (files name) (IsContent 2147483648 bytes))

-- the text of a file of which these bytes were read
pub text_at : (name bytes : List ℕ) (told : Option Files) → IfSome told (λ files. IsSomeAnd (files name) (IsContent 2147483648 bytes)) → (text : List ℕ) × IfSome told (λ files. files name ≡ Some text) × IsContent 2147483648 bytes text
text_at name bytes None read = let content : IsContent 2147483648 bytes bytes = record { whole = λ short. refl; longer = λ long. long } in (bytes, tt, content)
text_at name bytes (Some files) read = go (files name) refl read
  where
    go : (found : Option (List ℕ)) → files name ≡ found → IsSomeAnd found (IsContent 2147483648 bytes) → (text : List ℕ) × (files name ≡ Some text) × IsContent 2147483648 bytes text
    go None none content = absurd content
    go (Some text) some content = (text, some, content)

pub text_of_bytes : (before : Outside) (name bytes : List ℕ) → AreBytesOf before name bytes → length bytes ≤ 2147483648 → IsFile before name bytes
text_of_bytes before name bytes read short =
    let t = text_at name bytes before.files read in
    let same : bytes ≡ t.0 = elim (cases_lt 2147483648 (length t.0)) [ inl long ↦ absurd (omega (arith, t.2.longer long, short)) | inr within ↦ t.2.whole (omega (arith, within)) ] in
    subst (IsFile before name) (sym same) t.1

-- a table was read of the file
pub table_read : (before : Outside) (name bytes : List ℕ) (db : Db) → AreBytesOf before name bytes → length bytes ≤ 2147483648 → IsTable db → IsTextOf db bytes → HoldsTable before name db
table_read before name bytes db read short table is_text = record { table = table; text = bytes; is_text = is_text; is = text_of_bytes before name bytes read short; short = short }

-- the text of the file has a fault
pub fault_read : (before : Outside) (name bytes : List ℕ) (kind : DbKind) (line : Option ℕ) → AreBytesOf before name bytes → length bytes ≤ 2147483648
    → ((db : Db) → IsTable db → IsTextOf db bytes → length bytes ≤ 2147483648 → IsTheTable db (Err (At kind line))) → IsFault bytes (At kind line) → IsNoTable name before kind line
fault_read before name bytes kind line read short only fault = record {
  text = bytes;
  is = text_of_bytes before name bytes read short;
  none = λ db table is_text within. absurd (let bad = only db table is_text within in cc);
  fault = fault;
}

-- the text of the file is too long
pub too_long : (before : Outside) (name bytes : List ℕ) → AreBytesOf before name bytes → 2147483648 < length bytes → IsNoTable name before DbTooLong None
too_long before name bytes read long =
    let t = text_at name bytes before.files read in
    let longer : 2147483648 < length t.0 = elim (cases_lt 2147483648 (length t.0)) [ inl more ↦ more | inr within ↦ subst (λ (b : List ℕ). 2147483648 < length b) (t.2.whole (omega (arith, within))) long ] in
    record { text = t.0; is = t.1; none = λ db table is_text short. absurd (omega (arith, longer, short)); fault = longer }

file_as_before : (name text : List ℕ) (before after : Option Files) → Told SameFiles before after → IfSome after (λ files. files name ≡ Some text) → IfSome before (λ files. files name ≡ Some text)
file_as_before name text None None same is = tt
file_as_before name text None (Some after) same is = absurd same
file_as_before name text (Some before) None same is = absurd same
file_as_before name text (Some before) (Some after) same is = sym (same name) ∙ is

-- a file holds the table that it held before
pub holds_before : (before after : Outside) (name : List ℕ) (db : Db) → KeepsFiles before after → HoldsTable after name db → HoldsTable before name db
holds_before before after name db kept holds = record { table = holds.table; text = holds.text; is_text = holds.is_text; is = file_as_before name holds.text before.files after.files kept holds.is; short = holds.short }

-- and what is no table's was none before
pub no_table_before : (before after : Outside) (name : List ℕ) (kind : DbKind) (line : Option ℕ) → KeepsFiles before after → IsNoTable name after kind line → IsNoTable name before kind line
no_table_before before after name kind line kept none = record { text = none.text; is = file_as_before name none.text before.files after.files kept none.is; none = none.none; fault = none.fault }

pub HoldTables-push : (before : Outside) (names : List (List ℕ)) (tables : List Db) (name : List ℕ) (db : Db) → HoldTables before names tables → HoldsTable before name db → HoldTables before (names ++ name ∷ []) (tables ++ db ∷ [])
HoldTables-push before [] [] name db hold holds = (holds, tt)
HoldTables-push before [] (other ∷ tables) name db hold holds = absurd hold
HoldTables-push before (other ∷ names) [] name db hold holds = absurd hold
HoldTables-push before (other ∷ names) (first ∷ tables) name db hold holds = (hold.0, HoldTables-push before names tables name db hold.1 holds)

-- a call that gave nothing later gave nothing since before
pub refused_before : (before middle after : Outside) (call : Call) (name : List ℕ) → OnlyReads before middle → CountsUp middle after → IsRefused call name middle after → IsRefused call name before after
refused_before before middle after call name effects counts is = refused_earlier before middle after effects.counts counts effects.files call name is
