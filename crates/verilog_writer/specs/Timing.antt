-- The text of a specify block, by the syntax of IEEE 1364-2005, clauses 14 and 15. The layout is this project's: one path or
-- check a line, four spaces before it.
use Rattle.std.specs.Prelude.{ℕ, Bool, ◌||◌, nat_lt, List, [], ◌++◌, Option, Some, None, length, codes, decimal, if◌then◌else◌}
use Rattle.std.specs.List.{flat_map}
use Rattle.cell_machine.specs.declared.checks.CheckKind.{CheckKind}
use Rattle.cell_machine.specs.declared.checks.CheckKind.TheVariants as check_kind
use Rattle.cell_machine.specs.declared.checks.Edge.{Edge}
use Rattle.cell_machine.specs.declared.checks.Edge.TheVariants as edge
use Rattle.specify_blocks.specs.declared.model.Gate.{Gate}
use Rattle.specify_blocks.specs.declared.model.Gate.TheVariants as gate
use Rattle.specify_blocks.specs.declared.model.VPath.{VPath}
use Rattle.udp_tables.specs.declared.timing_checks.TimingCheck.{TimingCheck}
use Rattle.specify_blocks.specs.declared.model.VModule.{VModule}
use Rattle.verilog_writer.specs.Nets.{port_at, wire_at, notifier_in}

-- what stands before a path: nothing, the condition of an `if` path, or `ifnone`
unfoldable pub gate_text : VModule → Gate → List ℕ
gate_text m gate.Always = codes "    "
gate_text m (gate.If w) = codes "    if (" ++ (wire_at m w ++ codes ") ")
gate_text m gate.IfNone = codes "    ifnone "

-- a path between ports of these names, and its delays of a rise and of a fall
abbrev pub path_line : List ℕ → List ℕ → ℕ → ℕ → List ℕ
path_line from to rise fall =
    codes "("
    ++ (from ++ (codes " => " ++ (to ++ (codes ") = (" ++ (decimal rise ++ (codes ", " ++ (decimal fall ++ codes ");\n")))))))

-- the ports of a path, and its delays
unfoldable pub delays_text : VModule → VPath → List ℕ
delays_text m path = path_line (port_at m path.from) (port_at m path.to) path.rise path.fall

-- a path's line
unfoldable pub path_text : VModule → VPath → List ℕ
path_text m path = gate_text m path.gate ++ delays_text m path

-- the word before the port of an event
abbrev pub edge_text : Edge → List ℕ
edge_text edge.Any = []
edge_text edge.Rise = codes "posedge "
edge_text edge.Fall = codes "negedge "

-- what joins a condition to its event, where there is one
abbrev pub joint_text : Option ℕ → List ℕ
joint_text None = []
joint_text (Some w) = codes " &&& "

-- the wire of a condition, where there is one
abbrev pub condition_text : VModule → Option ℕ → List ℕ
condition_text m None = []
condition_text m (Some w) = wire_at m w

-- the limit of a check and the end of its line, with these bytes between the limit and the register of the checks
abbrev pub limit_text : List ℕ → VModule → TimingCheck → List ℕ
limit_text between m k = decimal k.limit ++ (between ++ (notifier_in m ++ codes ");\n"))

-- the condition of a check, its limit and the end of its line
abbrev pub conditional_text : List ℕ → VModule → TimingCheck → List ℕ
conditional_text between m k = joint_text k.condition ++ (condition_text m k.condition ++ (codes ", " ++ limit_text between m k))

-- a check with the first event and then the second one, where its condition is
unfoldable pub ordered_text : List ℕ → VModule → TimingCheck → List ℕ
ordered_text word m k =
    word
    ++ (edge_text k.first.edge
    ++ (port_at m k.first.pin
    ++ (codes ", " ++ (edge_text k.second.edge ++ (port_at m k.second.pin ++ conditional_text (codes ", ") m k)))))

-- a check with the second event, where its condition is, and then the first one
unfoldable pub turned_text : List ℕ → VModule → TimingCheck → List ℕ
turned_text word m k =
    word
    ++ (edge_text k.second.edge
    ++ (port_at m k.second.pin
    ++ (joint_text k.condition
    ++ (condition_text m k.condition
    ++ (codes ", " ++ (edge_text k.first.edge ++ (port_at m k.first.pin ++ (codes ", " ++ limit_text (codes ", ") m k))))))))

-- a check of its first event alone, with a threshold of 0
unfoldable pub width_text : List ℕ → VModule → TimingCheck → List ℕ
width_text word m k = word ++ (edge_text k.first.edge ++ (port_at m k.first.pin ++ conditional_text (codes ", 0, ") m k))

-- a period of one kind of event
unfoldable pub period_line : List ℕ → VModule → TimingCheck → List ℕ
period_line word m k = word ++ (port_at m k.first.pin ++ conditional_text (codes ", ") m k)

-- a period: of its rises, and of its falls
unfoldable pub period_text : VModule → TimingCheck → List ℕ
period_text m k = period_line (codes "    $period(posedge ") m k ++ period_line (codes "    $period(negedge ") m k

-- The lines of a check of this kind. Of a removal the reference event, the second one, is the first argument (IEEE 1364-2005,
-- 15.2.4).
abbrev pub kind_text : VModule → TimingCheck → CheckKind → List ℕ
kind_text m k check_kind.Setup = ordered_text (codes "    $setup(") m k
kind_text m k check_kind.Hold = ordered_text (codes "    $hold(") m k
kind_text m k check_kind.Recovery = ordered_text (codes "    $recovery(") m k
kind_text m k check_kind.Removal = turned_text (codes "    $removal(") m k
kind_text m k check_kind.Width = width_text (codes "    $width(") m k
kind_text m k check_kind.Period = period_text m k

-- the lines of a check
unfoldable pub check_text : VModule → TimingCheck → List ℕ
check_text m k = kind_text m k k.kind

-- whether the module has a specify block: it has a path or a check
abbrev pub has_block : VModule → Bool
has_block m = nat_lt 0 (length m.paths) || nat_lt 0 (length m.checks)

-- the paths, and then the checks
unfoldable pub lines_text : VModule → List ℕ
lines_text m =
    codes "  specify\n" ++ (flat_map (path_text m) m.paths ++ (flat_map (check_text m) m.checks ++ codes "  endspecify\n"))

-- the specify block, where there is one
unfoldable pub block_text : VModule → List ℕ
block_text m = if has_block m then lines_text m else []
