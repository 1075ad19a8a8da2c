use Rattle.std.proofs.Common.{◌≡◌, [], map, take, drop}
use Rattle.cell_machine.specs.Delay.{lesser, least}
use Rattle.cell_attributes.specs.Declarations.{clashes_after}
use Rattle.cell_attributes.specs.KnownNames.{IsKnown}
use Rattle.cell_attributes.specs.Shown.{shown_name}
use Rattle.cell_attributes.proofs.declarations.clash_among.Given as goal

-- the least so far, with that of the names from here on, is the least of all
abbrev pub invariant-loop-later : goal.invariant-loop-later
invariant-loop-later l = record {
  least : lesser l.found (least (clashes_after (map shown_name (take l.later-index l.declared)) (map shown_name (drop l.later-index l.declared)))) ≡ least (clashes_after [] (map shown_name l.declared));
  known : IsKnown (map shown_name (take l.later-index l.declared)) l.known;
}
