-- A table with excluded points that was read of a file, and why none was.
use Rattle.std.proofs.Common.{ℕ, ◌<◌, ◌≤◌, List, length, Option, None, Err, refl, subst, inl, inr, arith}
use Rattle.std.proofs.lemmas.Bool.{cases_lt}
use Rattle.cov_host.specs.Outside.{Outside}
use Rattle.coverage_db.specs.declared.fault.DbFault.TheVariants.{At}
use Rattle.coverage_db.specs.declared.fault.DbKind.{DbKind}
use Rattle.coverage_db.specs.declared.fault.DbKind.TheVariants.{DbTooLong}
use Rattle.db_tools.specs.Excluded.{Exclusion, IsExcludedText, IsExclusion, IsTheExclusion}
use Rattle.db_tools.specs.Faults.{IsReadFault}
use Rattle.database_commands.specs.Excluding.{HoldsExclusion, IsNoExclusion}
use Rattle.database_commands.proofs.Reading.{AreBytesOf, text_at, text_of_bytes}

-- a table with excluded points was read of the file
pub exclusion_read : (before : Outside) (name bytes : List ℕ) (e : Exclusion) → AreBytesOf before name bytes → length bytes ≤ 2147483648 → IsExclusion e → IsExcludedText e bytes → HoldsExclusion before name e
exclusion_read before name bytes e read short is is_text = record { exclusion = is; text = bytes; is_text = is_text; is = text_of_bytes before name bytes read short; short = short }

-- the text of the file has a fault
pub exclusion_fault : (before : Outside) (name bytes : List ℕ) (kind : DbKind) (line : Option ℕ) → AreBytesOf before name bytes → length bytes ≤ 2147483648
    → ((e : Exclusion) → IsExclusion e → IsExcludedText e bytes → length bytes ≤ 2147483648 → IsTheExclusion e (Err (At kind line))) → IsReadFault bytes (At kind line) → IsNoExclusion name before kind line
exclusion_fault before name bytes kind line read short only fault = record {
  text = bytes;
  is = text_of_bytes before name bytes read short;
  none = λ e is text within. absurd (let bad = only e is text within in cc);
  fault = fault;
}

-- the text of the file is too long
pub exclusion_long : (before : Outside) (name bytes : List ℕ) → AreBytesOf before name bytes → 2147483648 < length bytes → IsNoExclusion name before DbTooLong None
exclusion_long before name bytes read long =
    let t = text_at name bytes before.files read in
    let longer : 2147483648 < length t.0 = elim (cases_lt 2147483648 (length t.0)) [ inl more ↦ more | inr within ↦ subst (λ (b : List ℕ). 2147483648 < length b) (t.2.whole (omega (arith, within))) long ] in
    record { text = t.0; is = t.1; none = λ e is text short. absurd (omega (arith, longer, short)); fault = inl (longer, refl) }
