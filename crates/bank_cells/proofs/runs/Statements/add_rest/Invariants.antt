use Rattle.std.proofs.Common.{◌≡◌, drop, map}
use Rattle.std.specs.List.{fold}
use Rattle.bank_cells.specs.Runs.{shown_member, shown_run, pins_from, IsPlaced}
use Rattle.bank_cells.proofs.runs.Statements.add_rest.Given as goal

abbrev pub invariant-loop-member : goal.invariant-loop-member
invariant-loop-member g l =
    (fold g.S.ItemSink.after l.found
    (pins_from l.self.vectors.now l.self.group.now (shown_run l.run) (map shown_member (drop l.member-index l.rest)))
    ≡ fold g.S.ItemSink.after l.initial.found
    (pins_from l.self.vectors.now l.self.group.now (shown_run l.initial.run) (map shown_member l.rest)))
    × IsPlaced l.self.group.now l.run.first
