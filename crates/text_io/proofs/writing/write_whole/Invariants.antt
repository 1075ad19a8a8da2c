use Rattle.std.proofs.Common.{length, take, ◌-◌, ◌≡◌, ◌≤◌}
use Rattle.text_io.specs.Desk.{wrote}
use Rattle.text_io.proofs.writing.write_whole.Given as goal

abbrev pub invariant-loop-done : goal.invariant-loop-done
invariant-loop-done g l = record {
  in_range : l.done ≤ length l.bytes;
  written : g.D.Desk.state l.desk ≡ wrote (g.D.Desk.state l.initial.desk) l.slot (take l.done l.bytes);
  kept : g.D.Desk.faults l.desk ≡ g.D.Desk.faults l.initial.desk;
}

abbrev pub decreases-loop-done : goal.decreases-loop-done
decreases-loop-done g l = length l.bytes - l.done
