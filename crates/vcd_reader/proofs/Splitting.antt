-- The body after a header.
use Rattle.std.proofs.Common.{◌≡◌, ℕ, false, List, [], length, Option, None, refl, sym, subst}
use Rattle.vcd_reader.specs.Body.{start_body}
use Rattle.vcd_reader.specs.Reading.{Body, body, body_after}
use Rattle.vcd_reader.specs.Text.{Stands}
use Rattle.vcd_reader.specs.Views.{declared_of}
use Rattle.vcd_reader.specs.Progress.{is_going, is_at_end}
use Rattle.vcd_reader.specs.Standing.{HeaderMeans}
use Rattle.vcd_reader.specs.BodyStanding.{BodyStands}
use Rattle.vcd_reader.specs.Pieces.{BodyIs, Splits}
use Rattle.vcd_reader.specs.declared.fault.DumpFault.{DumpFault}
use Rattle.vcd_reader.specs.declared.header_reader.HeaderReader.{HeaderReader}
use Rattle.vcd_reader.specs.declared.body_reader.BodyReader.{BodyReader}
use Rattle.vcd_reader.specs.declared.progress.Progress.{Progress}
use Rattle.vcd_reader.specs.declared.progress.Progress.TheVariants.{Going, Done, AtEnd}

pub split_body : (progress : Progress) (h : HeaderReader) (r : BodyReader) (fault : Option DumpFault) (text : List ℕ) → is_going progress ≡ false → HeaderMeans progress h text → h.at ≡ length text → fault ≡ None → r.is_at_end ≡ is_at_end progress
    → ((b : Body) → Stands text (body b) [] → h.at ≡ length text → h.sections.declared.codes ≡ b.codes → b.reading ≡ start_body → is_at_end progress ≡ false → BodyStands r text b)
    → Splits h.sections.declared.vars (record { reader = r; fault = fault }) text
split_body Going h r fault text done means at sound at_end stands = absurd cc
split_body Done h r fault text done means at sound at_end stands =
    let b = body_after (declared_of h.sections.declared) in
    record { b = b; vars_are = refl; none = refl; stands = subst (λ v. BodyIs v (record { reader = r; fault = fault }) text b) (sym at_end) (record { sound = sound; stands = stands b means at refl refl refl }) }
split_body AtEnd h r fault text done means at sound at_end stands =
    let b = body_after (declared_of h.sections.declared) in
    record { b = b; vars_are = refl; none = refl; stands = subst (λ v. BodyIs v (record { reader = r; fault = fault }) text b) (sym at_end) (record { sound = sound; ended = record { at_end = at_end; ends = means } }) }
