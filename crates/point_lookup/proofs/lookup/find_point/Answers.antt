use Rattle.std.proofs.Common.{◌≡◌, ◌∙◌, Some, None, ap, subst, sym}
use Rattle.std.specs.Prelude.{option_map}
use Rattle.coverage_db.specs.Fields.{fields_of}
use Rattle.point_lookup.specs.Keys.{address_key, seen}
use Rattle.point_lookup.specs.Lookup.{HasAddressAt, IsSearch}
use Rattle.point_lookup.proofs.Searching.{found_there, no_key, none_there, other_there}
use Rattle.point_lookup.proofs.lookup.find_point.Goals as goal

pub returns-in_default-clause-place : goal.returns-in_default-clause-place
returns-in_default-clause-place c =
    let read = rw c.as_slice.ensures at c.read_key.ensures in
    sym (no_key c.args.db.now c.args.address.now c.requires (sym read ∙ ap (option_map seen) c.in_default.is))

pub returns-in_default-search_points-clause-place : goal.returns-in_default-search_points-clause-place
returns-in_default-search_points-clause-place c =
    let db = c.args.db.now in
    let key = seen c.in-Some.key in
    let read : address_key db.instances (fields_of c.args.address.now) ≡ Some key = sym (rw c.as_slice.ensures at c.read_key.ensures) ∙ ap (option_map seen) c.in-Some.is in
    let none : IsSearch db.points key None = rw (c.as_slice-2.ensures, c.in_default-search_points.is) at c.search_points.ensures in
    sym (none_there db c.args.address.now key c.requires read none)

pub returns-then-has_address-clause-place : goal.returns-then-has_address-clause-place
returns-then-has_address-clause-place c =
    let db = c.args.db.now in
    let key = seen c.in-Some.key in
    let read : address_key db.instances (fields_of c.args.address.now) ≡ Some key = sym (rw c.as_slice.ensures at c.read_key.ensures) ∙ ap (option_map seen) c.in-Some.is in
    let there : IsSearch db.points key (Some c.in-Some-search_points.place) = rw (c.as_slice-2.ensures, c.in-Some-search_points.is) at c.search_points.ensures in
    sym (found_there db c.args.address.now key c.in-Some-search_points.place c.requires read there (subst (HasAddressAt db c.in-Some-search_points.place c.args.address.now) c.if-has_address.true c.has_address.ensures))

pub returns-else-has_address-clause-place : goal.returns-else-has_address-clause-place
returns-else-has_address-clause-place c =
    let db = c.args.db.now in
    let key = seen c.in-Some.key in
    let read : address_key db.instances (fields_of c.args.address.now) ≡ Some key = sym (rw c.as_slice.ensures at c.read_key.ensures) ∙ ap (option_map seen) c.in-Some.is in
    let there : IsSearch db.points key (Some c.in-Some-search_points.place) = rw (c.as_slice-2.ensures, c.in-Some-search_points.is) at c.search_points.ensures in
    sym (other_there db c.args.address.now key c.in-Some-search_points.place c.requires read there (subst (HasAddressAt db c.in-Some-search_points.place c.args.address.now) c.if-has_address.false c.has_address.ensures))
