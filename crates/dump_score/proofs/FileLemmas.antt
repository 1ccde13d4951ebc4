-- What was read of a file so far.
use Rattle.std.proofs.Common.{◌≡◌, ◌≢◌, ◌<◌, ℕ, true, List, [], ◌∷◌, ◌++◌, length, take, Option, None, Some, IfSome, refl, sym, ap, subst, ◌∙◌, append_assoc, append-nil, inl, arith}
use Rattle.std.specs.Prelude.{IsSomeAnd}
use Rattle.cov_host.specs.Outside.{Files, Outside, IsOpened, IsRead, Told}
use Rattle.whole_files.specs.Effects.{OnlyReads}
use Rattle.whole_files.proofs.EffectLemmas.{IsCounted-earlier, KeepsFiles-trans, OnlyReads-trans}
use Rattle.whole_files.proofs.Refusals.{read_failed}
use Rattle.whole_files.specs.declared.call.Call.TheVariants.{OpenRead, Read, OpenWrite, Write, CloseWrite}
use Rattle.design_model.specs.declared.design.Design.{Design}
use Rattle.event_machine.specs.Habit.{Habit}
use Rattle.vcd_reader.specs.declared.fault.DumpFault.{DumpFault}
use Rattle.vcd_reader.specs.declared.fault.DumpFault.TheVariants as dump_fault
use Rattle.dump_score.specs.Faults.{IsDumpFault, IsFaultOfHeader, IsHeaderFault, IsScoreFault}
use Rattle.dump_score.specs.Reading.{HasReadFile, IsCallFault, IsFile, IsPieceFault}
use Rattle.dump_score.specs.declared.fault.ScoreFault.{ScoreFault}
use Rattle.dump_score.specs.declared.fault.ScoreFault.TheVariants as fault

-- the text of the file goes on from what was read
pub file_of : (name text : List ℕ) (before now : Outside) → HasReadFile name before now text → (rest : List ℕ) × IsFile before name (text ++ rest)
file_of name text before now read = go before.files read.content
  where
    left : (files : Files) (content : List ℕ) (rest : Option (List ℕ)) → files name ≡ Some content → IsSomeAnd rest (λ rest. content ≡ text ++ rest) → (rest : List ℕ) × (files name ≡ Some (text ++ rest))
    left files content None is h = absurd h
    left files content (Some rest) is h = (rest, is ∙ ap Some h)

    found : (files : Files) (o : Option (List ℕ)) → files name ≡ o → IsSomeAnd o (λ content. IsSomeAnd now.rest (λ rest. content ≡ text ++ rest)) → (rest : List ℕ) × (files name ≡ Some (text ++ rest))
    found files None is h = absurd h
    found files (Some content) is h = left files content now.rest is h

    go : (files : Option Files) → IfSome files (λ files. IsSomeAnd (files name) (λ content. IsSomeAnd now.rest (λ rest. content ≡ text ++ rest))) → (rest : List ℕ) × IfSome files (λ files. files name ≡ Some (text ++ rest))
    go None h = ([], tt)
    go (Some files) h = found files (files name) refl h

IsSomeAnd-map : {A : Type 0} (o : Option A) (P Q : A → Type 0) → ((x : A) → P x → Q x) → IsSomeAnd o P → IsSomeAnd o Q
IsSomeAnd-map None P Q step p = p
IsSomeAnd-map (Some x) P Q step p = step x p

IfSome-map : {A : Type 0} (o : Option A) (P Q : A → Type 0) → ((x : A) → P x → Q x) → IfSome o P → IfSome o Q
IfSome-map None P Q step p = tt
IfSome-map (Some x) P Q step p = step x p

rest_more : (text piece content : List ℕ) (old new : Option (List ℕ)) → Told (λ rest left. rest ≡ piece ++ left) old new → IsSomeAnd old (λ rest. content ≡ text ++ rest) → IsSomeAnd new (λ rest. content ≡ (text ++ piece) ++ rest)
rest_more text piece content None new told h = absurd h
rest_more text piece content (Some rest) None told h = absurd told
rest_more text piece content (Some rest) (Some left) told h = h ∙ ap (λ r. text ++ r) told ∙ sym (append_assoc text piece left)

-- the next bytes of the file
pub read_more : (name text piece : List ℕ) (count : ℕ) (before old new : Outside) → HasReadFile name before old text → IsRead count piece old new → OnlyReads old new → new.reading ≡ true → HasReadFile name before new (text ++ take count piece)
read_more name text piece count before old new read is effects reading = record {
  reading = reading;
  content = IfSome-map before.files _ _ (λ files h. IsSomeAnd-map (files name) _ _ (λ content h. rest_more text (take count piece) content old.rest new.rest is.bytes h) h) read.content;
  effects = OnlyReads-trans before old new read.effects effects;
}

rest_none : (text content : List ℕ) (rest : Option (List ℕ)) → IfSome rest (λ rest. rest ≡ []) → IsSomeAnd rest (λ rest. content ≡ text ++ rest) → content ≡ text
rest_none text content None none h = absurd h
rest_none text content (Some rest) none h = h ∙ ap (λ r. text ++ r) none ∙ append-nil text

-- the end of the file
pub read_all : (name text : List ℕ) (before old : Outside) → HasReadFile name before old text → IfSome old.rest (λ rest. rest ≡ []) → IsFile before name text
read_all name text before old read none = IfSome-map before.files _ _ (λ files h. found files (files name) refl h) read.content
  where
    found : (files : Files) (o : Option (List ℕ)) → files name ≡ o → IsSomeAnd o (λ content. IsSomeAnd old.rest (λ rest. content ≡ text ++ rest)) → files name ≡ Some text
    found files None is h = absurd h
    found files (Some content) is h = is ∙ ap Some (rest_none text content old.rest none h)

-- nothing was read of a file that was opened
pub nothing_read : (name : List ℕ) (before after : Outside) → IsOpened name before after → OnlyReads before after → HasReadFile name before after []
nothing_read name before after opened effects = record {
  reading = opened.reading;
  content = IfSome-map before.files _ _ (λ files h. IsSomeAnd-map (files name) _ _ (λ bytes is. subst (λ o. IsSomeAnd o (λ rest. bytes ≡ [] ++ rest)) (sym is) refl) h) opened.rest;
  effects = effects;
}

-- a read of the file that failed after a text was read of it
call_fault_read : (name text : List ℕ) (before middle after : Outside) (f : ScoreFault) → HasReadFile name before middle text → OnlyReads middle after → after.reading ≡ true → IsPieceFault middle after f → IsCallFault name before after f
call_fault_read name text before middle after (fault.Refused Read) file effects reading is =
    read_failed name text before middle after file.content (KeepsFiles-trans before middle after file.effects.files effects.files) reading is.1
    (IsCounted-earlier before.faults middle.faults after.faults file.effects.counts.faults effects.counts.faults is.0)
call_fault_read name text before middle after (fault.Refused OpenRead) file effects reading is = absurd is
call_fault_read name text before middle after (fault.Refused OpenWrite) file effects reading is = absurd is
call_fault_read name text before middle after (fault.Refused Write) file effects reading is = absurd is
call_fault_read name text before middle after (fault.Refused CloseWrite) file effects reading is = absurd is
call_fault_read name text before middle after fault.NoMemory file effects reading is = absurd is
call_fault_read name text before middle after (fault.Dump f) file effects reading is = absurd is
call_fault_read name text before middle after (fault.Bind f) file effects reading is = absurd is
call_fault_read name text before middle after (fault.Replay f) file effects reading is = absurd is

-- so it is where a header was read, and a body
pub header_call_fault : (name text : List ℕ) (before middle after : Outside) (f : ScoreFault) → HasReadFile name before middle text → OnlyReads middle after → after.reading ≡ true → IsPieceFault middle after f → IsHeaderFault name before after f
header_call_fault name text before middle after (fault.Refused call) file effects reading is = call_fault_read name text before middle after (fault.Refused call) file effects reading is
header_call_fault name text before middle after fault.NoMemory file effects reading is = tt
header_call_fault name text before middle after (fault.Dump f) file effects reading is = absurd is
header_call_fault name text before middle after (fault.Bind f) file effects reading is = absurd is
header_call_fault name text before middle after (fault.Replay f) file effects reading is = absurd is

pub body_call_fault : (name text : List ℕ) (before middle after : Outside) (habit : Habit) (design : Design) (instance : List ℕ) (f : ScoreFault) → HasReadFile name before middle text → OnlyReads middle after → after.reading ≡ true → IsPieceFault middle after f
    → IsScoreFault name before after habit design instance f
body_call_fault name text before middle after habit design instance (fault.Refused call) file effects reading is = call_fault_read name text before middle after (fault.Refused call) file effects reading is
body_call_fault name text before middle after habit design instance fault.NoMemory file effects reading is = tt
body_call_fault name text before middle after habit design instance (fault.Dump f) file effects reading is = absurd is
body_call_fault name text before middle after habit design instance (fault.Bind f) file effects reading is = absurd is
body_call_fault name text before middle after habit design instance (fault.Replay f) file effects reading is = absurd is

-- what refuses a header refuses the dump
of_header : (design : Design) (instance text : List ℕ) (f : DumpFault) → IsFaultOfHeader text f → IsDumpFault design instance text f
of_header design instance text dump_fault.NoMemory is = tt
of_header design instance text (dump_fault.At kind byte) is = (is.0, inl is.1)

pub header_refuses : (name : List ℕ) (before after : Outside) (habit : Habit) (design : Design) (instance : List ℕ) (f : ScoreFault) → IsHeaderFault name before after f → IsScoreFault name before after habit design instance f
header_refuses name before after habit design instance (fault.Refused call) is = is
header_refuses name before after habit design instance fault.NoMemory is = tt
header_refuses name before after habit design instance (fault.Dump f) is = (is.0, is.1, of_header design instance is.0 f is.2)
header_refuses name before after habit design instance (fault.Bind f) is = absurd is
header_refuses name before after habit design instance (fault.Replay f) is = absurd is

pub call_refuses : (name : List ℕ) (before after : Outside) (habit : Habit) (design : Design) (instance : List ℕ) (f : ScoreFault) → IsCallFault name before after f → IsScoreFault name before after habit design instance f
call_refuses name before after habit design instance (fault.Refused call) is = is
call_refuses name before after habit design instance fault.NoMemory is = tt
call_refuses name before after habit design instance (fault.Dump f) is = absurd is
call_refuses name before after habit design instance (fault.Bind f) is = absurd is
call_refuses name before after habit design instance (fault.Replay f) is = absurd is

some_piece : (piece : List ℕ) → 0 < length piece → piece ≢ []
some_piece [] some = absurd (omega (arith, some))
some_piece (byte ∷ piece) some = λ none. cc

-- where no bytes were read the file was read whole
pub read_all_of : (name text piece : List ℕ) (count : ℕ) (before old new : Outside) → HasReadFile name before old text → IsRead count piece old new → count ≡ 0 → 0 < length piece → IsFile before name text
read_all_of name text piece count before old new read is none some = read_all name text before old read (is.none_at_end none (some_piece piece some))
