use Rattle.std.proofs.Common.{◌≡◌, map, drop}
use Rattle.std.specs.Prelude.{flat_map}
use Rattle.cell_machine.specs.Delay.{lesser, least}
use Rattle.cell_attributes.specs.Declarations.{bad_name_in}
use Rattle.cell_attributes.specs.Shown.{shown_name}
use Rattle.cell_attributes.proofs.declarations.first_bad_name.Given as goal

-- the least so far, with that of the other names, is the least of all
abbrev pub invariant-loop-one : goal.invariant-loop-one
invariant-loop-one l = lesser l.found (least (flat_map bad_name_in (map shown_name (drop l.one-index l.declared)))) ≡ least (flat_map bad_name_in (map shown_name l.declared))
