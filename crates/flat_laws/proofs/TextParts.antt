-- Short forms for the modules of the examples.
use Rattle.std.specs.Prelude.{Bool, List, Option}
use Rattle.cov_host.specs.declared.place.Place.{Place}
use Rattle.verilog_tree.specs.declared.item.Named.{Named}
use Rattle.verilog_tree.specs.Tree.{Declared, Expr, Given, Header, InstanceItem, Item, ItemForm, Module, One, Param, PortItem, RangeExpr, VectorItem}

abbrev pub module_as : Named → List Param → List Named → List Item → Module
module_as x ps ports is = record { name = x; params = ps; ports = ports; items = is }

abbrev pub item_as : Place → ItemForm → Item
item_as p f = record { place = p; form = f }

abbrev pub port_as : Bool → Bool → Bool → Option RangeExpr → List Named → PortItem
port_as input reg signed r xs = record { input = input; reg = reg; signed = signed; range = r; names = xs }

abbrev pub vector_as : Bool → Option RangeExpr → List Declared → VectorItem
vector_as signed r ds = record { signed = signed; range = r; names = ds }

abbrev pub declared_as : Named → Option Expr → Option RangeExpr → Declared
declared_as x value words = record { name = x; value = value; words = words }

abbrev pub one_as : Named → List Given → One
one_as x cs = record { name = x; given = cs }

abbrev pub given_as : Option Named → Option Expr → Given
given_as x value = record { name = x; value = value }

abbrev pub instance_as : Named → List Given → List One → InstanceItem
instance_as x overrides ones = record { of_module = x; overrides = overrides; ones = ones }

abbrev pub param_as : Named → Bool → Bool → Bool → Option RangeExpr → Expr → Param
param_as x is_local signed integer r value = record { name = x; local = is_local; signed = signed; integer = integer; range = r; value = value }

abbrev pub range_as : Expr → Expr → Place → RangeExpr
range_as high low bracket = record { high = high; low = low; bracket = bracket }

abbrev pub header_as : Place → Expr → Expr → Expr → Expr → Expr → Header
header_as p name first test target step = record { place = p; name = name; first = first; test = test; target = target; step = step }
