-- Points that were changed in a database, and why they were not.
use Rattle.std.proofs.Common.{◌≡◌, ℕ, ◌∙◌, Bool, List, [], ◌∷◌, ◌++◌, set, refl, sym, ap, subst, inl, inr, append_assoc}
use Rattle.std.specs.Global.{Global}
use Rattle.std.proofs.lemmas.List.{append-nil}
use Rattle.std.proofs.lemmas.Option.{same_Some}
use Rattle.command_line.specs.PointWords.{PointValues}
use Rattle.cov_host.specs.Outside.{Outside}
use Rattle.db_tools.specs.Changes.{ExcludesAll, RestoresAll}
use Rattle.db_tools.specs.Excluded.{Exclusion, Remarks}
use Rattle.db_tools.specs.declared.fault.ToolFault.{ToolFault}
use Rattle.db_tools.proofs.RemarkLaws.{no_exclude_refusal, no_restore_refusal}
use Rattle.database_commands.specs.Complete.{NoFaults}
use Rattle.database_commands.specs.Excluding.{ChangeRefuses, Changes, ChangesAll, HasChange, HasExclusion, HoldsExclusion, IsChangeFault, IsExclusionFault, IsGoodChange, IsNoExclusion, IsPointsFault, StopsAt}
use Rattle.database_commands.specs.Faults.{IsWriteFault}
use Rattle.database_commands.specs.declared.change.Change.{Change}
use Rattle.database_commands.specs.declared.change.Change.TheVariants.{Exclude, Restore}
use Rattle.database_commands.specs.declared.fault.CommandFault.{CommandFault}
use Rattle.database_commands.specs.declared.fault.CommandFault.TheVariants.{Files, Print, Memory, NoDatabase, DesignsDiffer, Point}
use Rattle.database_commands.proofs.Complete.{exclusion_there, refused_exclusion, refused_write, same_exclusion}
use Rattle.database_commands.proofs.Reading.{refused_before}
use Rattle.whole_files.specs.Effects.{CountsUp, OnlyReads}
use Rattle.whole_files.specs.Refusals.{IsRefused}

-- ---- points changed one after another

-- no point is changed yet
pub change_none : (change : Change) (e : Exclusion) → ChangesAll change [] e e
change_none Exclude e = refl
change_none Restore e = refl

exclude_more : (addresses : List (List ℕ)) (address : List ℕ) (old middle new : Exclusion) → ExcludesAll addresses old middle → Changes Exclude address middle new → ExcludesAll (addresses ++ address ∷ []) old new
exclude_more [] address old middle new all one = (new, subst (λ e. Changes Exclude address e new) all one, refl)
exclude_more (first ∷ addresses) address old middle new all one = (all.0, all.1, exclude_more addresses address all.0 middle new all.2 one)

restore_more : (addresses : List (List ℕ)) (address : List ℕ) (old middle new : Exclusion) → RestoresAll addresses old middle → Changes Restore address middle new → RestoresAll (addresses ++ address ∷ []) old new
restore_more [] address old middle new all one = (new, subst (λ e. Changes Restore address e new) all one, refl)
restore_more (first ∷ addresses) address old middle new all one = (all.0, all.1, restore_more addresses address all.0 middle new all.2 one)

pub change_more : (change : Change) (addresses : List (List ℕ)) (address : List ℕ) (old middle new : Exclusion) → ChangesAll change addresses old middle → Changes change address middle new → ChangesAll change (addresses ++ address ∷ []) old new
change_more Exclude addresses address old middle new all one = exclude_more addresses address old middle new all one
change_more Restore addresses address old middle new all one = restore_more addresses address old middle new all one

-- the points that are not left were changed
pub record HasChanged (change : Change) (addresses left : List (List ℕ)) (old new : Exclusion) : Type 0 where
  pub done : List (List ℕ)
  pub are : addresses ≡ done ++ left
  pub changed : ChangesAll change done old new

pub HasChanged-start : (change : Change) (addresses : List (List ℕ)) (e : Exclusion) → HasChanged change addresses addresses e e
HasChanged-start change addresses e = record { done = []; are = refl; changed = change_none change e }

pub HasChanged-more : (change : Change) (addresses left rest : List (List ℕ)) (address : List ℕ) (old middle new : Exclusion) → HasChanged change addresses left old middle → left ≡ address ∷ rest → Changes change address middle new → HasChanged change addresses rest old new
HasChanged-more change addresses left rest address old middle new has next one = record {
  done = has.done ++ address ∷ [];
  are = has.are ∙ ap (λ more. has.done ++ more) next ∙ sym (append_assoc has.done (address ∷ []) rest);
  changed = change_more change has.done address old middle new has.changed one;
}

pub HasChanged-all : (change : Change) (addresses left : List (List ℕ)) (old new : Exclusion) → HasChanged change addresses left old new → left ≡ [] → ChangesAll change addresses old new
HasChanged-all change addresses left old new has none = subst (λ names. ChangesAll change names old new) (sym (has.are ∙ ap (λ more. has.done ++ more) none ∙ append-nil has.done)) has.changed

-- the next point is refused
pub stops_at : (change : Change) (addresses left rest : List (List ℕ)) (address : List ℕ) (old middle : Exclusion) (fault : ToolFault) → HasChanged change addresses left old middle → left ≡ address ∷ rest → ChangeRefuses change address middle fault → StopsAt change addresses old address fault
stops_at change addresses left rest address old middle fault has next refused =
    record { earlier = has.done; later = rest; middle = middle; addresses_are = has.are ∙ ap (λ more. has.done ++ more) next; changed = has.changed; refused = refused }

-- ---- a change that can be made is not refused

one_remark : (address : List ℕ) (before later : Bool) (old new other : Exclusion) → Remarks address before later old new → Remarks address before later old other → new ≡ other
one_remark address before later old new other r s =
    let places : r.place ≡ s.place = same_Some r.place s.place (sym r.found ∙ s.found) in
    r.now ∙ ap (λ n. record old { marks = set old.marks n later }) places ∙ sym s.now

excludes_through : (earlier later : List (List ℕ)) (address : List ℕ) (old middle last : Exclusion) → ExcludesAll earlier old middle → ExcludesAll (earlier ++ address ∷ later) old last → (next : Exclusion) × Changes Exclude address middle next
excludes_through [] later address old middle last all every = (every.0, subst (λ e. Changes Exclude address e every.0) (sym all) every.1)
excludes_through (first ∷ earlier) later address old middle last all every =
    let same = one_remark first _ _ old every.0 all.0 every.1 all.1 in
    excludes_through earlier later address all.0 middle last all.2 (subst (λ e. ExcludesAll (earlier ++ address ∷ later) e last) same every.2)

restores_through : (earlier later : List (List ℕ)) (address : List ℕ) (old middle last : Exclusion) → RestoresAll earlier old middle → RestoresAll (earlier ++ address ∷ later) old last → (next : Exclusion) × Changes Restore address middle next
restores_through [] later address old middle last all every = (every.0, subst (λ e. Changes Restore address e every.0) (sym all) every.1)
restores_through (first ∷ earlier) later address old middle last all every =
    let same = one_remark first _ _ old every.0 all.0 every.1 all.1 in
    restores_through earlier later address all.0 middle last all.2 (subst (λ e. RestoresAll (earlier ++ address ∷ later) e last) same every.2)

changes_or_stops : (change : Change) (addresses : List (List ℕ)) (first last : Exclusion) (address : List ℕ) (fault : ToolFault) → ChangesAll change addresses first last → StopsAt change addresses first address fault → ⊥
changes_or_stops Exclude addresses first last address fault all stops =
    let through = excludes_through stops.earlier stops.later address first stops.middle last stops.changed (subst (λ names. ExcludesAll names first last) stops.addresses_are all) in
    no_exclude_refusal address stops.middle through.0 fault through.1 stops.refused
changes_or_stops Restore addresses first last address fault all stops =
    let through = restores_through stops.earlier stops.later address first stops.middle last stops.changed (subst (λ names. RestoresAll names first last) stops.addresses_are all) in
    no_restore_refusal address stops.middle through.0 fault through.1 stops.refused

-- ---- faults

-- the file was not read
pub points_read_fault : (change : Change) (points : PointValues) (before after : Outside) (fault : CommandFault) → IsExclusionFault points.file before after fault → IsPointsFault change points before after fault
points_read_fault change points before after (Files call file) is = inl (is.1, is.0, subst (λ name. IsRefused call name before after) (sym is.0) is.2)
points_read_fault change points before after Print is = absurd is
points_read_fault change points before after Memory is = tt
points_read_fault change points before after (NoDatabase file kind line) is = (is.0, subst (λ name. IsNoExclusion name before kind line) (sym is.0) is.1)
points_read_fault change points before after (DesignsDiffer file line first other) is = absurd is
points_read_fault change points before after (Point file fault address) is = absurd is

-- a point of the file was refused
pub points_change_fault : (change : Change) (points : PointValues) (before after : Outside) (first : Exclusion) → HoldsExclusion before points.file first → (fault : CommandFault) → IsChangeFault change points.file points.addresses first fault → IsPointsFault change points before after fault
points_change_fault change points before after first holds (Files call file) is = absurd is
points_change_fault change points before after first holds Print is = absurd is
points_change_fault change points before after first holds Memory is = absurd is
points_change_fault change points before after first holds (NoDatabase file kind line) is = absurd is
points_change_fault change points before after first holds (DesignsDiffer file line one other) is = absurd is
points_change_fault change points before after first holds (Point file fault address) is = (is.0, record { first = first; holds = holds; stops = is.1 })

-- the output was not written
pub points_write_fault : (change : Change) (points : PointValues) (before now after : Outside) → HasChange change points before → OnlyReads before now → CountsUp now after → (fault : CommandFault) → IsWriteFault points.output now after fault → IsPointsFault change points before after fault
points_write_fault change points before now after has effects later (Files call file) is = inr (is.1, is.0, refused_before before now after call file.now effects later is.2, has)
points_write_fault change points before now after has effects later Print is = absurd is
points_write_fault change points before now after has effects later Memory is = tt
points_write_fault change points before now after has effects later (NoDatabase file kind line) is = absurd is
points_write_fault change points before now after has effects later (DesignsDiffer file line first other) is = absurd is
points_write_fault change points before now after has effects later (Point file fault address) is = absurd is

-- where the file is good and no call failed, only want of memory ends the command
pub good_points : (alloc : Global) (change : Change) (points : PointValues) (before after : Outside) → IsGoodChange change points before → NoFaults before after → (fault : CommandFault) → IsPointsFault change points before after fault → fault ≡ Memory
good_points alloc change points before after good none (Files call file) (inl is) =
    absurd (none (refused_exclusion before after call file.now good.0 (subst (λ name. HasExclusion before name good.0) (sym is.1) good.2) is.2))
good_points alloc change points before after good none (Files call file) (inr (writing, named, refused, has)) = absurd (none (refused_write before after call file.now writing refused))
good_points alloc change points before after good none Print is = absurd is
good_points alloc change points before after good none Memory is = refl
good_points alloc change points before after good none (NoDatabase file kind line) is =
    absurd (exclusion_there before file.now good.0 kind line (subst (λ name. HasExclusion before name good.0) (sym is.0) good.2) is.1)
good_points alloc change points before after good none (DesignsDiffer file line first other) is = absurd is
good_points alloc change points before after good none (Point file fault address) is =
    let same = same_exclusion alloc before points.file good.0 is.1.first good.2 is.1.holds in
    absurd (changes_or_stops change points.addresses good.0 good.1 address.now fault good.3 (subst (λ e. StopsAt change points.addresses e address.now fault) (sym same) is.1.stops))
