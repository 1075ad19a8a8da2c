use Rattle.std.proofs.Common.{◌≡◌, take}
use Rattle.std.specs.List.{flat_map}
use Rattle.text_io.specs.Line.{Gathers}
use Rattle.text_io.proofs.lists.EachPart.put.Given as goal

abbrev pub invariant-loop-item : goal.invariant-loop-item
invariant-loop-item g l = record {
  gathered : Gathers (g.D.Desk.state l.initial.desk) (g.D.Desk.state l.desk) l.slot l.initial.line (flat_map (g.M.ItemText.text l.self.0) (take l.item-index l.self.1.now)) l.line;
  kept : g.D.Desk.faults l.desk ≡ g.D.Desk.faults l.initial.desk;
}
