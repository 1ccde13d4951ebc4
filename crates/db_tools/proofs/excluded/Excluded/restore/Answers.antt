use Rattle.std.proofs.Common.{◌≡◌, ◌∙◌, ◌<◌, false, true, ap, length, refl, sym, arith}
use Rattle.std.proofs.lemmas.List.{get_or_read}
use Rattle.point_lookup.specs.Lookup.{place_of}
use Rattle.db_tools.specs.Excluded.{Exclusion}
use Rattle.db_tools.proofs.excluded.Excluded.restore.Goals as goal

pub returns-in_default-clause-err : goal.returns-in_default-clause-err
returns-in_default-clause-err c = ap (λ (e : Exclusion). place_of e.table c.args.address.now) (sym c.self.view_is) ∙ (ap (place_of c.self.inside.db) (sym c.as_bytes.ensures.value) ∙ sym c.find_point.ensures.place ∙ c.in_default.is)

pub returns-then-not-index-clause-err : goal.returns-then-not-index-clause-err
returns-then-not-index-clause-err c =
    let marks = c.self.inside.marks.items in
    let within : c.in-Some.place < length marks = omega (arith, c.in-Some.ensures.within, c.self.invariant.long) in
    let out : c.index.result.now ≡ false = grind (arith, c.if-not-index.true) in
    rw (← c.self.view_is) (record {
      place = c.in-Some.place;
      found = ap (place_of c.self.inside.db) (sym c.as_bytes.ensures.value) ∙ sym c.find_point.ensures.place ∙ c.in-Some.is;
      is = sym (get_or_read marks c.in-Some.place c.index.result.now within c.index.ensures true) ∙ out;
    })

pub returns-clause-ok : goal.returns-clause-ok
returns-clause-ok c =
    let marks = c.self.inside.marks.items in
    let within : c.in-Some.place < length marks = omega (arith, c.in-Some.ensures.within, c.self.invariant.long) in
    let out : c.index.result.now ≡ true = grind (arith, c.if-not-index.false) in
    rw (← c.self.view_is) (record {
      place = c.in-Some.place;
      found = ap (place_of c.self.inside.db) (sym c.as_bytes.ensures.value) ∙ sym c.find_point.ensures.place ∙ c.in-Some.is;
      was = sym (get_or_read marks c.in-Some.place c.index.result.now within c.index.ensures false) ∙ out;
      now = refl;
    })
