-- The orders of points are total.
use Rattle.std.proofs.Common.{List}
use Rattle.std.specs.Cmp.{IsTotalOrder}
use Rattle.std.proofs.lemmas.Cmp.{nat_cmp_total, nat_list_cmp_total, on_total, then_total}
use Rattle.design_model.specs.declared.design.Instance.{Instance}
use Rattle.design_model.specs.Design.{Design}
use Rattle.cover_points.specs.Order.{case_rank, index_cmp, line_cmp, node_cmp, path_at, second_rank, thing_instance, thing_name}
use Rattle.cover_points.specs.MachinePoints.{first_name, machine_cmp, machine_path, machine_rank, machine_variable, second_name}
use Rattle.cover_points.specs.declared.machine_point.MachinePoint.{MachinePoint}
use Rattle.cover_points.specs.declared.points.IndexPoint.{IndexPoint}
use Rattle.design_machines.specs.declared.machine.Machine.{Machine}
use Rattle.text_points.specs.declared.points.LinePoint.{LinePoint}
use Rattle.text_points.specs.declared.points.NodePoint.{NodePoint}

pub line_total : (is : List Instance) → IsTotalOrder (line_cmp is)
line_total is = then_total (on_total (λ (x : LinePoint). path_at is x.instance) nat_list_cmp_total) (on_total (λ (x : LinePoint). x.line) nat_cmp_total)

pub node_total : (is : List Instance) → IsTotalOrder (node_cmp is)
node_total is = then_total (then_total (on_total (λ (x : NodePoint). path_at is x.instance) nat_list_cmp_total) (on_total (λ (x : NodePoint). x.node) nat_cmp_total)) (on_total (λ (x : NodePoint). case_rank x.case) nat_cmp_total)

pub index_total : (d : Design) → IsTotalOrder (index_cmp d)
index_total d =
    then_total (then_total (then_total (on_total (λ (x : IndexPoint). path_at d.instances (thing_instance d x.thing)) nat_list_cmp_total) (on_total (λ (x : IndexPoint). thing_name d x.thing) nat_list_cmp_total)) (on_total (λ (x : IndexPoint). x.index) nat_cmp_total)) (on_total (λ (x : IndexPoint). second_rank x.second) nat_cmp_total)

pub machine_total : (is : List Instance) (xs : List Machine) → IsTotalOrder (machine_cmp is xs)
machine_total is xs =
    then_total (then_total (then_total (then_total (on_total (λ (p : MachinePoint). machine_path is xs p) nat_list_cmp_total) (on_total (λ (p : MachinePoint). machine_variable xs p) nat_list_cmp_total)) (on_total (λ (p : MachinePoint). machine_rank p) nat_cmp_total)) (on_total (λ (p : MachinePoint). first_name xs p) nat_list_cmp_total)) (on_total (λ (p : MachinePoint). second_name xs p) nat_list_cmp_total)
