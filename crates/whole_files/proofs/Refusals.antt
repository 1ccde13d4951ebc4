-- A call that gave nothing, seen from earlier and from later.
use Rattle.std.proofs.Common.{◌≡◌, ℕ, ◌≤◌, true, List, ◌++◌, Option, None, Some, sym, subst, ◌∙◌, inl, inr}
use Rattle.std.specs.Prelude.{IfSome, IsSomeAnd, MatchOption}
use Rattle.cov_host.specs.Outside.{Files, IsCounted, KeepsFiles, KeepsInput, KeepsOutput, Outside, SameFiles, Told}
use Rattle.whole_files.specs.Effects.{CountsUp}
use Rattle.whole_files.specs.Refusals.{HasCause, IsAfter, IsBeingRead, IsBeingWritten, IsRefused}
use Rattle.whole_files.specs.declared.call.Call.{Call}
use Rattle.whole_files.specs.declared.call.Call.TheVariants.{OpenRead, Read, OpenWrite, Write, CloseWrite}
use Rattle.whole_files.proofs.EffectLemmas.{IsCounted-earlier, IsCounted-later}

missing_earlier : (name : List ℕ) (before middle : Option Files) (absences now after : ℕ) → absences ≤ now → now ≤ after → Told SameFiles before middle → MatchOption middle (IsCounted now after) (λ files. files name ≡ None) → MatchOption before (IsCounted absences after) (λ files. files name ≡ None)
missing_earlier name None None absences now after first second same missing = IsCounted-earlier absences now after first second missing
missing_earlier name None (Some middle) absences now after first second same missing = absurd same
missing_earlier name (Some before) None absences now after first second same missing = absurd same
missing_earlier name (Some before) (Some middle) absences now after first second same missing = sym (same name) ∙ missing

missing_later : (name : List ℕ) (files : Option Files) (a b c : ℕ) → a ≤ b → b ≤ c → MatchOption files (IsCounted a b) (λ files. files name ≡ None) → MatchOption files (IsCounted a c) (λ files. files name ≡ None)
missing_later name None a b c first second missing = IsCounted-later a b c first second missing
missing_later name (Some files) a b c first second missing = missing

module _ (before middle after : Outside) (first : CountsUp before middle) (second : CountsUp middle after) where
  cause_earlier : KeepsFiles before middle → (call : Call) (name : List ℕ) → HasCause call name middle after → HasCause call name before after
  cause_earlier kept OpenRead name (inl counted) = inl (IsCounted-earlier before.faults middle.faults after.faults first.faults second.faults counted)
  cause_earlier kept OpenRead name (inr missing) = inr (missing_earlier name before.files middle.files before.absences middle.absences after.absences first.absences second.absences kept missing)
  cause_earlier kept Read name counted = IsCounted-earlier before.faults middle.faults after.faults first.faults second.faults counted
  cause_earlier kept OpenWrite name counted = IsCounted-earlier before.faults middle.faults after.faults first.faults second.faults counted
  cause_earlier kept Write name counted = IsCounted-earlier before.faults middle.faults after.faults first.faults second.faults counted
  cause_earlier kept CloseWrite name counted = IsCounted-earlier before.faults middle.faults after.faults first.faults second.faults counted

  -- a call that gave nothing later gave nothing since before
  pub refused_earlier : KeepsFiles before middle → (call : Call) (name : List ℕ) → IsRefused call name middle after → IsRefused call name before after
  refused_earlier kept call name is = record { cause = cause_earlier kept call name is.cause; then = is.then }

  pub cause_later : (call : Call) (name : List ℕ) → HasCause call name before middle → HasCause call name before after
  cause_later OpenRead name (inl counted) = inl (IsCounted-later before.faults middle.faults after.faults first.faults second.faults counted)
  cause_later OpenRead name (inr missing) = inr (missing_later name before.files before.absences middle.absences after.absences first.absences second.absences missing)
  cause_later Read name counted = IsCounted-later before.faults middle.faults after.faults first.faults second.faults counted
  cause_later OpenWrite name counted = IsCounted-later before.faults middle.faults after.faults first.faults second.faults counted
  cause_later Write name counted = IsCounted-later before.faults middle.faults after.faults first.faults second.faults counted
  cause_later CloseWrite name counted = IsCounted-later before.faults middle.faults after.faults first.faults second.faults counted

-- the end of a file's content is one where the files are the same
rest_as_before : (name : List ℕ) (rest : Option (List ℕ)) (old new : Option Files) → Told SameFiles old new → IfSome old (λ files. IsSomeAnd (files name) (λ content. IsSomeAnd rest (λ rest. (front : List ℕ) × (content ≡ front ++ rest))))
    → IfSome new (λ files. IsSomeAnd (files name) (λ content. IsSomeAnd rest (λ rest. (front : List ℕ) × (content ≡ front ++ rest))))
rest_as_before name rest None None same holds = tt
rest_as_before name rest None (Some new) same holds = absurd same
rest_as_before name rest (Some old) None same holds = absurd same
rest_as_before name rest (Some old) (Some new) same holds = subst (λ found. IsSomeAnd found (λ content. IsSomeAnd rest (λ rest. (front : List ℕ) × (content ≡ front ++ rest)))) (sym (same name)) holds

target_as_before : (name : List ℕ) (target : Option (List ℕ)) (old new : Option Files) → Told SameFiles old new → IfSome old (λ files. target ≡ Some name) → IfSome new (λ files. target ≡ Some name)
target_as_before name target None None same holds = tt
target_as_before name target None (Some new) same holds = absurd same
target_as_before name target (Some old) None same holds = absurd same
target_as_before name target (Some old) (Some new) same holds = holds

being_read_later : (name : List ℕ) (old new : Outside) → KeepsFiles old new → KeepsInput old new → IsBeingRead name old → IsBeingRead name new
being_read_later name old new files input is = record {
  reading = input.reading ∙ is.reading;
  rest = subst (λ rest. IfSome new.files (λ files. IsSomeAnd (files name) (λ content. IsSomeAnd rest (λ rest. (front : List ℕ) × (content ≡ front ++ rest))))) (sym input.rest) (rest_as_before name old.rest old.files new.files files is.rest);
}

being_written_later : (name : List ℕ) (old new : Outside) → KeepsFiles old new → KeepsOutput old new → IsBeingWritten name old → IsBeingWritten name new
being_written_later name old new files output is = record {
  writing = output.writing ∙ is.writing;
  target = subst (λ target. IfSome new.files (λ files. target ≡ Some name)) (sym output.target) (target_as_before name old.target old.files new.files files is.target);
}

after_later : (old new : Outside) → KeepsFiles old new → KeepsInput old new → KeepsOutput old new → (call : Call) (name : List ℕ) → IsAfter call name old → IsAfter call name new
after_later old new files input output OpenRead name is = input.reading ∙ is
after_later old new files input output Read name is = being_read_later name old new files input is
after_later old new files input output OpenWrite name is = output.writing ∙ is
after_later old new files input output Write name is = being_written_later name old new files output is
after_later old new files input output CloseWrite name is = output.writing ∙ is

-- a call that gave nothing did so also where only counts have changed since
pub refused_later : (before middle after : Outside) → CountsUp before middle → CountsUp middle after → KeepsFiles middle after → KeepsInput middle after → KeepsOutput middle after → (call : Call) (name : List ℕ) → IsRefused call name before middle → IsRefused call name before after
refused_later before middle after first second files input output call name is = record { cause = cause_later before middle after first second call name is.cause; then = after_later middle after files input output call name is.then }

front_left : (content text : List ℕ) (now then : Option (List ℕ)) → then ≡ now → IsSomeAnd now (λ rest. content ≡ text ++ rest) → IsSomeAnd then (λ rest. (front : List ℕ) × (content ≡ front ++ rest))
front_left content text None then same holds = absurd holds
front_left content text (Some rest) then same holds = subst (λ found. IsSomeAnd found (λ rest. (front : List ℕ) × (content ≡ front ++ rest))) (sym same) (text, holds)

content_left : (name text : List ℕ) (now then : Option (List ℕ)) (before after : Option Files) → Told SameFiles before after → then ≡ now → IfSome before (λ files. IsSomeAnd (files name) (λ content. IsSomeAnd now (λ rest. content ≡ text ++ rest)))
    → IfSome after (λ files. IsSomeAnd (files name) (λ content. IsSomeAnd then (λ rest. (front : List ℕ) × (content ≡ front ++ rest))))
content_left name text now then None None same rest holds = tt
content_left name text now then None (Some new) same rest holds = absurd same
content_left name text now then (Some old) None same rest holds = absurd same
content_left name text now then (Some old) (Some new) same rest holds =
    subst (λ found. IsSomeAnd found (λ content. IsSomeAnd then (λ rest. (front : List ℕ) × (content ≡ front ++ rest)))) (sym (same name)) (found_left (old name) holds)
  where
    found_left : (found : Option (List ℕ)) → IsSomeAnd found (λ content. IsSomeAnd now (λ rest. content ≡ text ++ rest)) → IsSomeAnd found (λ content. IsSomeAnd then (λ rest. (front : List ℕ) × (content ≡ front ++ rest)))
    found_left None holds = absurd holds
    found_left (Some content) holds = front_left content text now then rest holds

-- the file of which a text was read is being read still after a read that failed
pub read_failed : (name text : List ℕ) (before now after : Outside) → IfSome before.files (λ files. IsSomeAnd (files name) (λ content. IsSomeAnd now.rest (λ rest. content ≡ text ++ rest))) → KeepsFiles before after → after.reading ≡ true → after.rest ≡ now.rest → IsCounted before.faults after.faults
    → IsRefused Read name before after
read_failed name text before now after content files reading rest counted = record { cause = counted; then = record { reading = reading; rest = content_left name text now.rest after.rest before.files after.files files rest content } }
