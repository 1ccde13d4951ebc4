-- What a text says before its first fault.
use Rattle.std.proofs.Common.{◌≡◌, ℕ, true, List, [], ◌∷◌, ◌++◌, length, sym, ap, subst, ◌∙◌, append_assoc, append-nil, inl, inr}
use Rattle.vcd_reader.specs.BodyStanding.{IsBehind, SaysNow}
use Rattle.vcd_reader.specs.Dump.{BeginsAs, GoesOn, SaysBody}
use Rattle.vcd_reader.specs.Reading.{Body, Meaning, body, meaning_after, meaning_of}
use Rattle.vcd_reader.specs.Text.{Stands, HasFault, EndsWithFault}
use Rattle.vcd_reader.specs.Words.{words_from, words_of}
use Rattle.vcd_reader.specs.declared.fault.DumpFault.{DumpFault}
use Rattle.vcd_reader.proofs.BodyStanding.{fault_behind}
use Rattle.vcd_reader.proofs.FaultLaws.{dump_excludes, fault_excludes, goes_on, meaning-further}
use Rattle.vcd_reader.proofs.Growing.{grows}
use Rattle.vcd_reader.proofs.OneHeader.{begins_in, shorter, two_fronts}
use Rattle.vcd_reader.proofs.TextLemmas.{fault_stays}

-- what a front of a text says goes on to what the text says
begun_grows : (text : List ℕ) (b whole : Body) → BeginsAs text b → (word : List ℕ) → Stands text (body whole) word → GoesOn b whole
begun_grows text b whole begun word t =
    let s = begun.stands in
    let more : List ℕ = begun.word ++ begun.rest in
    let parts : text ≡ s.front ++ more = begun.split ∙ ap (λ (u : List ℕ). u ++ begun.rest) s.split ∙ append_assoc s.front begun.word begun.rest in
    let goes = goes_on true s.front more t.front word s.whole t.black (sym parts ∙ t.split) in
    let meant : meaning_after (body b) (words_from (length s.front) goes.more) ≡ body whole =
    ap (λ (m : Meaning). meaning_after m (words_from (length s.front) goes.more)) (sym s.meaning) ∙ sym (meaning-further s.front goes.more s.whole) ∙ ap (λ (u : List ℕ). meaning_of (words_of u)) (sym goes.is) ∙ t.meaning in
    grows whole b (words_from (length s.front) goes.more) meant

-- and so it does to a body that has said the same
goes_on_as : (other last b : Body) → last.items ≡ b.items → last.vars ≡ b.vars → GoesOn other last → GoesOn other b
goes_on_as other last b items vars g = record { vars = sym vars ∙ g.vars; more = g.more; items = sym items ∙ g.items }

-- all that a text says before its fault goes on to what it says directly before that
pub behind_goes_on : (text rest : List ℕ) (b : Body) (f : DumpFault) → IsBehind text b f → (other : Body) → SaysBody (text ++ rest) other → GoesOn other b
behind_goes_on text rest b f is other (inr ended) = absurd (fault_excludes (text ++ rest) f (fault_stays text rest f (fault_behind text b f is)) ended.means ended.word ended.stands)
behind_goes_on text rest b f is other (inl begun) =
    let head : List ℕ = is.before ++ is.byte ∷ [] in
    let whole : head ++ (is.rest ++ rest) ≡ begun.front ++ begun.rest =
    append_assoc is.before (is.byte ∷ []) (is.rest ++ rest) ∙ sym (append_assoc is.before (is.byte ∷ is.rest) rest) ∙ ap (λ (u : List ℕ). u ++ rest) (sym is.split) ∙ begun.split in
    elim (two_fronts head (is.rest ++ rest) begun.front begun.rest whole) [
      | inl part ↦ absurd (fault_excludes begun.front f (subst (λ (u : List ℕ). HasFault u f) (sym part.1) (fault_stays head part.0 f is.fault)) (body other) begun.word begun.stands)
      | inr part ↦ elim (shorter is.before begun.front part.0 is.byte part.1) [
        | inl none ↦ absurd (fault_excludes begun.front f (subst (λ (u : List ℕ). HasFault u f) (part.1 ∙ ap (λ (u : List ℕ). begun.front ++ u) none ∙ append-nil begun.front) is.fault) (body other) begun.word begun.stands)
        | inr less ↦ goes_on_as other is.now.last b is.now.items is.now.vars (begun_grows is.before other is.now.last (begins_in (text ++ rest) less.0 other begun is.before less.1) is.now.word is.now.stands)
      ]
    ]

-- the same where the text ends with a fault
pub end_goes_on : (text : List ℕ) (b : Body) (f : DumpFault) → SaysNow text b → EndsWithFault text f → (other : Body) → SaysBody text other → GoesOn other b
end_goes_on text b f now ends other (inr ended) = absurd (dump_excludes text other f ended ends)
end_goes_on text b f now ends other (inl begun) = goes_on_as other now.last b now.items now.vars (begun_grows text other now.last begun now.word now.stands)
