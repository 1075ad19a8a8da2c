use Rattle.std.proofs.Common.{◌≡◌, ◌≤◌, drop}
use Rattle.std.specs.List.{flat_map}
use Rattle.driver_texts.specs.NumberedPorts.{numbered_ports}
use Rattle.driver_texts.proofs.NumberedPorts.{PutBefore}
use Rattle.driver_texts.proofs.numbered_ports.EachPortPart.put.Given as goal

abbrev pub invariant-loop-port : goal.invariant-loop-port
invariant-loop-port g l = record {
  put : PutBefore (g.M.PortText.text l.self.texts) l.self.drives.now (flat_map (g.M.PortText.text l.self.texts) (numbered_ports l.self.drives.now 0 0 l.self.ports.now)) (g.D.Desk.state l.initial.desk) (g.D.Desk.state l.desk) l.slot l.initial.line l.line l.before.outputs l.before.driven (drop l.port-index l.self.ports.now);
  outputs : l.before.outputs ≤ l.port-index;
  kept : g.D.Desk.faults l.desk ≡ g.D.Desk.faults l.initial.desk;
}
