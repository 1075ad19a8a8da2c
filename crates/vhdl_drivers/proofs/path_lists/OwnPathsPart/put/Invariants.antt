use Rattle.std.proofs.Common.{◌≡◌, ◌≤◌, ◌+◌, drop}
use Rattle.vhdl_writer.specs.Joined.{numbered_texts}
use Rattle.vhdl_drivers.specs.DriverText.{paths_to, drive_path_text}
use Rattle.vhdl_drivers.proofs.DrivenPaths.{PutBefore}
use Rattle.vhdl_drivers.proofs.path_lists.OwnPathsPart.put.Given as goal

abbrev pub invariant-loop-path : goal.invariant-loop-path
invariant-loop-path g l = record {
  put : PutBefore (drive_path_text l.self.ports.now) l.self.drive (numbered_texts (drive_path_text l.self.ports.now) 1 (paths_to l.self.drive l.self.paths.now)) (g.D.Desk.state l.initial.desk) (g.D.Desk.state l.desk) l.slot l.initial.line l.line l.number (drop l.path-index l.self.paths.now);
  number : l.number ≤ l.path-index + 1;
  kept : g.D.Desk.faults l.desk ≡ g.D.Desk.faults l.initial.desk;
}
