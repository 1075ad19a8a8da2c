use Rattle.std.proofs.Common.{◌≡◌, take, length}
use Rattle.run_parts.specs.PortNumbers.{input_count}
use Rattle.run_parts.specs.NumberedLists.{AreLists}
use Rattle.run_parts.specs.FedParts.{places_fed}
use Rattle.run_parts.proofs.fed_parts.fed_by_inputs.Given as goal

-- the places among the parts so far
abbrev pub invariant-loop-i : goal.invariant-loop-i
invariant-loop-i g l = record {
  lists : AreLists (places_fed g.F.FedPart.nets (g.F.FedPart.input l.ports.list.now) (take l.i l.parts)) l.all.items;
  len : length l.all.items ≡ input_count l.ports.list.now;
}
