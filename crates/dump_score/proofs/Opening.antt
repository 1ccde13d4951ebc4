-- From the header of a dump to its end.
use Rattle.std.proofs.Common.{◌≡◌, ◌⊎◌, ℕ, zero, suc, ◌+◌, ◌-◌, ◌<◌, ◌≤◌, Bool, true, false, List, [], ◌∷◌, ◌++◌, length, take, drop, refl, sym, ap, subst, ◌∙◌, append_assoc, append-nil, inl, inr, arith}
use Rattle.std.proofs.lemmas.List.{length-append, length-take, take_all}
use Rattle.cov_host.specs.Outside.{Outside}
use Rattle.design_model.specs.declared.design.Design.{Design}
use Rattle.event_machine.specs.Habit.{Habit}
use Rattle.vcd_reader.proofs.OneHeader.{none_stays}
use Rattle.vcd_reader.proofs.TextLemmas.{fault_stays}
use Rattle.vcd_reader.specs.Dump.{BeginsAs, SaysBody}
use Rattle.vcd_reader.specs.Pieces.{BodyHasEnded, BodyHasRead, BodyIs, HasRead, Splits, body_at_end, header_at_end}
use Rattle.vcd_reader.specs.Reading.{Body}
use Rattle.vcd_reader.specs.Standing.{IsFaultOf}
use Rattle.vcd_reader.specs.Text.{EndsAs, EndsWithFault, HasFault}
use Rattle.vcd_reader.specs.declared.body.Body.{Body as BodyRow}
use Rattle.vcd_reader.specs.declared.fault.DumpFault.{DumpFault}
use Rattle.vcd_reader.specs.declared.fault.DumpFault.TheVariants as dump_fault
use Rattle.vcd_reader.specs.declared.header.Header.{Header}
use Rattle.vcd_reader.specs.declared.vars.Var.{Var}
use Rattle.cover_points.specs.declared.listing.Points.{Points}
use Rattle.dump_replay.specs.Followed.{HasFollowed}
use Rattle.dump_replay.specs.declared.replay.DumpReplay.{DumpReplay}
use Rattle.signal_binding.specs.Binding.{HasInstance, IsBindFault}
use Rattle.whole_files.specs.Effects.{OnlyReads}
use Rattle.dump_score.specs.Faults.{Binds, IsDumpFault, IsEndFault, IsFaultOfHeader, IsFileFault, IsFoundFault, IsScoreFault, LacksNone}
use Rattle.dump_score.specs.Reading.{HasReadFile, IsFile}
use Rattle.dump_score.specs.Scoring.{CanEnd, HasOpened, IsOpen, IsScoring, IsScoringSome, behind}
use Rattle.dump_score.specs.declared.fault.ScoreFault.{ScoreFault}
use Rattle.dump_score.specs.declared.fault.ScoreFault.TheVariants as fault
use Rattle.dump_score.specs.declared.header.Opened.{Opened}
use Rattle.dump_score.specs.declared.header.Span.{Span}
use Rattle.dump_score.proofs.FileLemmas.{file_of}
use Rattle.dump_score.proofs.Stepping.{all_of}

-- what the loop over the pieces of a header keeps
pub record ReadsHeader (header : Header) (at : ℕ) (start now : Outside) : Type 0 where
  pub text : List ℕ
  pub read : HasRead header text
  pub at_is : at ≡ length text
  pub reading : now.reading ≡ true
  pub file : (name : List ℕ) (before : Outside) → HasReadFile name before start [] → HasReadFile name before now text
  pub effects : OnlyReads start now

pub count_is : (count : ℕ) (piece : List ℕ) → count ≤ length piece → length (take count piece) ≡ count
count_is count piece l = omega (arith, length-take count piece, l)

open_end : (ends header : Bool) (P : Type 0) → ends ≡ header → (header ≡ true → P) → (P → ⊥) → ends ≡ false
open_end true header P e to not = absurd (not (to (sym e)))
open_end false header P e to not = refl

take_nil : (n : ℕ) → take {A = ℕ} n [] ≡ []
take_nil zero = refl
take_nil (suc n) = refl

drop_take : (used count : ℕ) (piece : List ℕ) → used ≤ count → drop used (take count piece) ≡ take (count - used) (drop used piece)
drop_take zero count piece l = let same : count ≡ count - 0 = omega arith in ap (λ n. take n piece) same
drop_take (suc used) zero piece l = absurd (omega (arith, l))
drop_take (suc used) (suc count) [] l = sym (take_nil (suc count - suc used))
drop_take (suc used) (suc count) (byte ∷ piece) l =
    let same : count - used ≡ suc count - suc used = omega arith in
    drop_take used count piece (omega (arith, l)) ∙ ap (λ n. take n (drop used piece)) same

-- a header that is done
pub header_opened : (name : List ℕ) (before now : Outside) (text piece : List ℕ) (opened : Opened) (h : Header) → opened.span.count ≤ length piece → HasReadFile name before now (text ++ take opened.span.count piece)
    → opened.span.at ≡ length text + opened.span.count → opened.span.used ≤ length (take opened.span.count piece) → (header_at_end h ≡ true → take opened.span.count piece ≡ []) → Splits opened.vars opened.body (text ++ take opened.span.used (take opened.span.count piece))
    → body_at_end opened.body ≡ header_at_end h → (opened.span.count ≡ 0 → IsFile before name text) → HasOpened name before now piece opened
header_opened name before now text piece opened h within file at used ends splits at_end ended =
    let p = take opened.span.count piece in
    let count = count_is opened.span.count piece within in
    let within_used : opened.span.used ≤ opened.span.count = omega (arith, used, count) in
    let all = ap (λ t. (text ++ take opened.span.used p) ++ t) (sym (drop_take opened.span.used opened.span.count piece within_used)) ∙ all_of text p opened.span.used in
    record {
      front = text ++ take opened.span.used p;
      used_within = within_used;
      count_within = within;
      file = subst (λ t. HasReadFile name before now t) (sym all) file;
      at_is = at ∙ omega (arith, ap length all, length-append text p, count);
      splits = splits;
      goes_on = λ some. open_end (body_at_end opened.body) (header_at_end h) (p ≡ []) at_end ends (λ none. absurd (omega (arith, some, count, ap length none)));
      ended = λ none.
          let empty : p ≡ [] = ap (λ n. take n piece) none in
          let front : text ++ take opened.span.used p ≡ text = ap (λ t. text ++ take opened.span.used t) empty ∙ take_none opened.span.used in
          subst (IsFile before name) (sym front) (ended none);
    }
  where
    take_none : (n : ℕ) → text ++ take n [] ≡ text
    take_none zero = append-nil text
    take_none (suc n) = append-nil text

-- a fault of the header
pub header_fault : (name : List ℕ) (before now : Outside) (text piece : List ℕ) (f : DumpFault) → HasReadFile name before now (text ++ piece) → (length piece ≡ 0 → IsFile before name text) → IsFaultOf text piece f → (whole : List ℕ) × IsFile before name whole × IsFaultOfHeader whole f
header_fault name before now text [] (dump_fault.At kind byte) file ended is = (text, ended refl, (inr is.0, is.1))
header_fault name before now text [] dump_fault.NoMemory file ended is = (text, ended refl, tt)
header_fault name before now text (byte ∷ piece) dump_fault.NoMemory file ended is = let whole = file_of name (text ++ byte ∷ piece) before now file in ((text ++ byte ∷ piece) ++ whole.0, whole.1, tt)
header_fault name before now text (first ∷ piece) (dump_fault.At kind byte) file ended is =
    let whole = file_of name (text ++ first ∷ piece) before now file in
    ((text ++ first ∷ piece) ++ whole.0, whole.1, (inl (fault_stays (text ++ first ∷ piece) whole.0 (dump_fault.At kind byte) is.0), none_stays (text ++ first ∷ piece) whole.0 (dump_fault.At kind byte) is.0 is.1))

begins_more : (text rest : List ℕ) (b : Body) → BeginsAs text b → BeginsAs (text ++ rest) b
begins_more text rest b begun = record {
  front = begun.front;
  rest = begun.rest ++ rest;
  word = begun.word;
  split = ap (λ t. t ++ rest) begun.split ∙ append_assoc begun.front begun.rest rest;
  stands = begun.stands;
}

named_fault : (design : Design) (instance text : List ℕ) (f : DumpFault) → HasFault text f → Binds instance text → LacksNone design instance text → IsDumpFault design instance text f
named_fault design instance text dump_fault.NoMemory is binds none = tt
named_fault design instance text (dump_fault.At kind byte) is binds none = (inl is, inr (binds, none))

named_end : (design : Design) (instance text : List ℕ) (f : DumpFault) → EndsWithFault text f → Binds instance text → LacksNone design instance text → IsDumpFault design instance text f
named_end design instance text dump_fault.NoMemory is binds none = tt
named_end design instance text (dump_fault.At kind byte) is binds none = (inr is, inr (binds, none))

-- a design that is scored is bound, whatever comes after
scoring_binds : (body : BodyRow) (replay : DumpReplay) (habit : Habit) (design : Design) (points : Points) (vars : List Var) (instance text rest : List ℕ) → IsScoring body replay habit design points vars instance text → Binds instance (text ++ rest)
scoring_binds body replay habit design points vars instance text rest is = (
  is.b,
  inl (record { front = text; rest = rest; word = is.stands.stands.word; split = refl; stands = is.stands.stands.stands }),
  subst (λ vs. HasInstance vs instance) (sym is.vars_are) is.followed.of.there,
)

pub scoring_binds_on : (body : BodyRow) (replay : DumpReplay) (habit : Habit) (design : Design) (points : Points) (vars : List Var) (instance text piece rest : List ℕ) → IsScoring body replay habit design points vars instance text → Binds instance ((text ++ piece) ++ rest)
scoring_binds_on body replay habit design points vars instance text piece rest is = subst (Binds instance) (sym (append_assoc text piece rest)) (scoring_binds body replay habit design points vars instance text (piece ++ rest) is)

pub can_end_binds : (body : BodyRow) (replay : DumpReplay) (habit : Habit) (design : Design) (points : Points) (vars : List Var) (instance text : List ℕ) → CanEnd body replay habit design points vars instance text → Binds instance text
can_end_binds body replay habit design points vars instance text can = (
  can.b,
  elim can.stands [
    | inl read ↦ inl (record { front = text; rest = []; word = read.stands.word; split = sym (append-nil text); stands = read.stands.stands })
    | inr ended ↦ inr ended.ended.ends
  ],
  subst (λ vs. HasInstance vs instance) (sym can.vars_are) can.followed.of.there,
)

-- a fault that was found is a fault of the whole file
pub found_in_file : (name : List ℕ) (before after now : Outside) (habit : Habit) (design : Design) (instance text : List ℕ) (f : ScoreFault) → HasReadFile name before now text → ((rest : List ℕ) → Binds instance (text ++ rest)) → IsFoundFault habit design instance text f → IsScoreFault name before after habit design instance f
found_in_file name before after now habit design instance text (fault.Dump f) file binds is =
    let whole = file_of name text before now file in
    (text ++ whole.0, whole.1, named_fault design instance (text ++ whole.0) f (fault_stays text whole.0 f is.0) (binds whole.0) (is.1 whole.0))
found_in_file name before after now habit design instance text (fault.Replay f) file binds is =
    let whole = file_of name text before now file in
    (text ++ whole.0, whole.1, (is.0, inl (begins_more text whole.0 is.0 is.1), is.2))
found_in_file name before after now habit design instance text fault.NoMemory file binds is = absurd is
found_in_file name before after now habit design instance text (fault.Refused call) file binds is = absurd is
found_in_file name before after now habit design instance text (fault.Bind f) file binds is = absurd is

-- so does one at its end
pub end_in_file : (name : List ℕ) (before after : Outside) (habit : Habit) (design : Design) (instance text : List ℕ) (f : ScoreFault) → IsFile before name text → Binds instance text → IsEndFault habit design instance text f → IsScoreFault name before after habit design instance f
end_in_file name before after habit design instance text (fault.Dump f) file binds is = (text, file, named_end design instance text f is.0 binds is.1)
end_in_file name before after habit design instance text (fault.Replay f) file binds is = (text, file, (is.0, inr is.1, is.2))
end_in_file name before after habit design instance text fault.NoMemory file binds is = absurd is
end_in_file name before after habit design instance text (fault.Refused call) file binds is = absurd is
end_in_file name before after habit design instance text (fault.Bind f) file binds is = absurd is

-- where the header ended the text says a body without entries
header_says : (ends : Bool) (body : BodyRow) (front rest : List ℕ) (b : Body) → (ends ≡ true → rest ≡ []) → BodyIs ends body front b → SaysBody (front ++ rest) b
header_says false body front rest b none stands = inl (record { front = front; rest = rest; word = stands.stands.word; split = refl; stands = stands.stands.stands })
header_says true body front rest b none stands = inr (subst (λ t. EndsAs t b) (sym (ap (λ r. front ++ r) (none refl) ∙ append-nil front)) stands.ended.ends)

false_is_true : (b : Bool) → b ≡ false → b ≡ true → ⊥
false_is_true b e f = let no : false ≡ true = sym e ∙ f in cc

is_none : (n : ℕ) → (0 < n → ⊥) → n ≡ 0
is_none zero none = refl
is_none (suc n) none = absurd (none (omega arith))

-- a fault of the binding is a fault of the whole file
pub bind_in_file : (name : List ℕ) (before after now : Outside) (habit : Habit) (design : Design) (instance piece : List ℕ) (opened : Opened) (f : _) → HasOpened name before now piece opened → IsBindFault design opened.vars instance f → IsScoreFault name before after habit design instance (fault.Bind f)
bind_in_file name before after now habit design instance piece opened f o is = go (body_at_end opened.body) refl o.splits.stands
  where
    bound : IsBindFault design o.splits.b.vars instance f
    bound = subst (λ vars. IsBindFault design vars instance f) o.splits.vars_are is

    go : (ends : Bool) → body_at_end opened.body ≡ ends → BodyIs ends opened.body o.front o.splits.b → IsFileFault name before habit design instance (fault.Bind f)
    go false e stands =
        let whole = file_of name (o.front ++ behind opened.span piece) before now o.file in
        let more = behind opened.span piece ++ whole.0 in
        let same : (o.front ++ behind opened.span piece) ++ whole.0 ≡ o.front ++ more = append_assoc o.front (behind opened.span piece) whole.0 in
        (o.front ++ more, subst (IsFile before name) same whole.1, (o.splits.b, header_says false opened.body o.front more o.splits.b (λ no. absurd (let wrong : false ≡ true = no in cc)) stands, bound))
    go true e stands =
        let none = is_none opened.span.count (λ some. false_is_true (body_at_end opened.body) (o.goes_on some) e) in
        (o.front, o.ended none, (o.splits.b, inr stands.ended.ends, bound))

either_ends : (ends : Bool) (body : BodyRow) (text : List ℕ) (b : Body) → BodyIs ends body text b → BodyHasRead body text b ⊎ BodyHasEnded body text b
either_ends false body text b stands = inl stands
either_ends true body text b stands = inr stands

-- the design was bound
pub opened_bound : (name : List ℕ) (before now : Outside) (piece : List ℕ) (opened : Opened) (replay : DumpReplay) (habit : Habit) (design : Design) (points : Points) (instance : List ℕ) → HasOpened name before now piece opened → HasFollowed replay habit design points opened.vars instance [] → IsOpen name before now piece opened.span opened.body replay habit design points opened.vars instance
opened_bound name before now piece opened replay habit design points instance o followed =
    let said = subst (λ entries. HasFollowed replay habit design points opened.vars instance entries) (sym o.splits.none) followed in
    record {
      front = o.front;
      file = o.file;
      at_is = o.at_is;
      goes_on = λ some. record { b = o.splits.b; stands = subst (λ ends. BodyIs ends opened.body o.front o.splits.b) (o.goes_on some) o.splits.stands; vars_are = sym o.splits.vars_are; followed = said };
      ended = λ none. (o.ended none, record { b = o.splits.b; stands = either_ends (body_at_end opened.body) opened.body o.front o.splits.b o.splits.stands; vars_are = sym o.splits.vars_are; followed = said });
    }

-- so the body goes on where some of the piece is left
pub open_scoring : (name : List ℕ) (before now : Outside) (piece : List ℕ) (span : Span) (body : BodyRow) (replay : DumpReplay) (habit : Habit) (design : Design) (points : Points) (vars : List Var) (instance : List ℕ) → IsOpen name before now piece span body replay habit design points vars instance → 0 < span.count → IsScoringSome body replay
open_scoring name before now piece span body replay habit design points vars instance o some = (habit, design, points, vars, instance, o.front, o.goes_on some)

-- what the loop over the pieces of a body keeps
pub record ReadsBody (start_body body : BodyRow) (start_replay replay : DumpReplay) (start_at at : ℕ) (start now : Outside) : Type 0 where
  pub reads : IsScoringSome body replay
  pub reading : now.reading ≡ true
  pub effects : OnlyReads start now
  pub scores : (name : List ℕ) (before : Outside) (habit : Habit) (design : Design) (points : Points) (vars : List Var) (instance text : List ℕ) → HasReadFile name before start text → start_at ≡ length text → IsScoring start_body start_replay habit design points vars instance text
      → (more : List ℕ) × HasReadFile name before now more × (at ≡ length more) × IsScoring body replay habit design points vars instance more

pub can_end : (body : BodyRow) (replay : DumpReplay) (habit : Habit) (design : Design) (points : Points) (vars : List Var) (instance text : List ℕ) → IsScoring body replay habit design points vars instance text → CanEnd body replay habit design points vars instance text
can_end body replay habit design points vars instance text is = record { b = is.b; stands = inl is.stands; vars_are = is.vars_are; followed = is.followed }

-- a dump that was read is not too long
pub not_too_long : (body : BodyRow) (replay : DumpReplay) (habit : Habit) (design : Design) (points : Points) (vars : List Var) (instance text : List ℕ) → IsScoring body replay habit design points vars instance text → length text ≤ 1099511627776
not_too_long body replay habit design points vars instance text is = is.stands.stands.stands.within

pub more_length : (text piece : List ℕ) (at count : ℕ) → at ≡ length text → count ≤ length piece → at + count ≡ length (text ++ take count piece)
more_length text piece at count e within = omega (arith, e, length-append text (take count piece), count_is count piece within)

-- a piece that was used up
pub whole_piece : (body : BodyRow) (replay : DumpReplay) (habit : Habit) (design : Design) (points : Points) (vars : List Var) (instance text piece : List ℕ) (used : ℕ) → length piece ≤ used → IsScoring body replay habit design points vars instance (text ++ take used piece) → IsScoring body replay habit design points vars instance (text ++ piece)
whole_piece body replay habit design points vars instance text piece used all is = subst (λ t. IsScoring body replay habit design points vars instance (text ++ t)) (take_all used piece all) is

pub positive : (n : ℕ) → (n ≡ 0 → ⊥) → 0 < n
positive zero none = absurd (none refl)
positive (suc n) none = omega arith
