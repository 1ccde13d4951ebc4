use Rattle.std.proofs.Common.{◌≡◌, ◌∙◌, ◌↔◌, length, sym, ap, subst, arith}
use Rattle.std.specs.List.{Contains}
use Rattle.std.proofs.lemmas.List.{length-map}
use Rattle.design_wakes.specs.Transpose.{IsTranspose}
use Rattle.index_sets.specs.Rows.{row_at}
use Rattle.process_order.specs.Names.{lists_of}
use Rattle.process_order.specs.Order.{AreLinks}
use Rattle.process_order.proofs.order.links_of.Goals as goal

pub transpose-requires-2 : goal.transpose-requires-2
transpose-requires-2 c = omega (arith, c.requires.few, c.in_ok-shared.ensures.size, ap length c.as_slice.ensures.value)

pub returns : goal.returns
returns c =
    let owners : IsTranspose (lists_of c.in_ok-shared.shared.items) c.args.count c.in_ok-owners.owners = subst (λ ls. IsTranspose (lists_of ls) c.args.count c.in_ok-owners.owners) c.as_slice.ensures.value c.in_ok-owners.ensures in
    record {
      drivers_size = c.in_ok-drivers.ensures.count_is;
      owners_size = owners.count_is;
      drives = λ x q l. c.in_ok-drivers.ensures.has x q l;
      owns = λ x q l. (λ k. (c.in_ok-shared.ensures.both q x).0 ((owners.has x q l).0 k), λ k. (owners.has x q l).1 ((c.in_ok-shared.ensures.both q x).1 k));
    }
