-- The grammar of specify blocks in Verilog text: paths and timing checks. (IEEE 1364-2005, 14.1 to 14.3, 15.2 and 15.3, and A.7.)
use Rattle.std.specs.Prelude.{ℕ, Bool, true, false, ◌||◌, ◌==◌, if◌then◌else◌, List, [], ◌∷◌, ◌++◌, slice_get, Option, Some, None}
use Rattle.std.specs.Prelude.{codes}
use Rattle.std.specs.List.{position}
use Rattle.std.specs.Option.{option_map}
use Rattle.std.specs.Str.{bytes_eq}
use Rattle.verilog_tokens.specs.Numbers.{number_of}
use Rattle.grammar_rules.specs.Rule.{Verdict, Fits, Foul, Misfit}
use Rattle.grammar_rules.specs.Rule as r
use Rattle.cell_machine.specs.declared.checks.CheckKind.{CheckKind}
use Rattle.cell_machine.specs.declared.checks.CheckKind.TheVariants as check_kind
use Rattle.cell_machine.specs.declared.checks.Edge.{Edge}
use Rattle.cell_machine.specs.declared.checks.Edge.TheVariants as edge
use Rattle.cell_machine.specs.declared.checks.Event.{Event}
use Rattle.udp_tables.specs.declared.models.VPort.{VPort}
use Rattle.specify_blocks.specs.declared.model.Gate.{Gate}
use Rattle.specify_blocks.specs.declared.model.Gate.TheVariants as gate
use Rattle.specify_blocks.specs.declared.model.VPath.{VPath}
use Rattle.udp_tables.specs.declared.timing_checks.TimingCheck.{TimingCheck}
use Rattle.specify_blocks.specs.declared.model.VModule.{VModule}
use Rattle.specify_blocks.specs.Nets.{is_output_port, is_value}
use Rattle.udp_tables.specs.Ports.{is_input_port}
use Rattle.grammar_reader.specs.declared.refusal.Refusal.{Refusal}
use Rattle.grammar_reader.specs.declared.refusal.Refusal.TheVariants.{Syntax, Unequal}
use Rattle.grammar_reader.specs.Words.{Grammar, ◌>>=◌, begins_by, begins_as, valued}
use Rattle.udp_tables.specs.VerilogRules.{expect, begins, known, this_name}
use Rattle.verilog_grammar.specs.VerilogModules.{port_name}

-- a number (3.5.1)
unfoldable pub a_number : Grammar ℕ
a_number = valued number_of

-- keeps what the test allows
abbrev pub kept : (ℕ → Bool) → Option ℕ → Option ℕ
kept test None = None
kept test (Some n) = if test n then Some n else None

abbrev pub port_of : VModule → List ℕ → Option ℕ
port_of m x = position (λ (port : VPort). bytes_eq x port.name) m.ports

-- the name of an input
unfoldable pub an_input : VModule → Grammar ℕ
an_input m = known (λ x. kept (is_input_port m.ports) (port_of m x))

-- the name of an output
unfoldable pub an_output : VModule → Grammar ℕ
an_output m = known (λ x. kept (is_output_port m.ports) (port_of m x))

-- the name of a condition: a wire that an instance without a state drives
unfoldable pub a_condition : VModule → Grammar ℕ
a_condition m = known (λ x. kept (is_value m m.instances) (position (bytes_eq x) m.wires))

-- the first token of a path: "if", "ifnone" or "("
abbrev pub is_path_start : List ℕ → Bool
is_path_start x = bytes_eq x (codes "if") || bytes_eq x (codes "ifnone") || bytes_eq x (codes "(")

-- "(" NAME ")" "(" behind "if" (14.2.4.1)
unfoldable pub if_gate : VModule → Grammar Gate
if_gate m = do
  _ ← expect (codes "(")
  w ← a_condition m
  _ ← expect (codes ")")
  _ ← expect (codes "(")
  r.Gives (gate.If w)

-- "(" behind "ifnone" (14.2.4.4)
unfoldable pub ifnone_gate : Grammar Gate
ifnone_gate = do
  _ ← expect (codes "(")
  r.Gives gate.IfNone

-- what stands before the ports of a path, by whether its first token is "if", and whether it is "ifnone"
abbrev pub gate_by : VModule → Bool → Bool → Grammar Gate
gate_by m true is_ifnone = if_gate m
gate_by m false true = ifnone_gate
gate_by m false false = r.Gives gate.Always

unfoldable pub path_gate : VModule → List ℕ → Grammar Gate
path_gate m x = gate_by m (bytes_eq x (codes "if")) (bytes_eq x (codes "ifnone"))

-- NUM "," NUM ")" ";" behind the bracket: the path between these ports with its delays
abbrev pub delays : ℕ → ℕ → Gate → Grammar VPath
delays from to when = do
  rise ← a_number
  _ ← expect (codes ",")
  fall ← a_number
  _ ← expect (codes ")")
  _ ← expect (codes ";")
  r.Gives (record { from = from; to = to; rise = rise; fall = fall; gate = when })

-- [ "if" "(" NAME ")" | "ifnone" ] "(" NAME "=>" NAME ")" "=" "(" NUM "," NUM ")" ";" behind its first token: a parallel path
-- from an input to an output, with the delays of a rise and of a fall (14.2.1, 14.3.1)
unfoldable pub path : VModule → List ℕ → Grammar VPath
path m x = do
  when ← path_gate m x
  from ← an_input m
  _ ← expect (codes "=>")
  to ← an_output m
  _ ← expect (codes ")")
  _ ← expect (codes "=")
  _ ← expect (codes "(")
  delays from to when

unfoldable pub next_path : VModule → List VPath → List ℕ → Grammar (List VPath)
next_path m paths x = path m x >>= λ another. r.Gives (paths ++ another ∷ [])

-- { path }
unfoldable pub paths : VModule → Grammar (List VPath)
paths m = r.Many (λ _. begins_by is_path_start) (next_path m) []

-- the events that a word before a port allows
abbrev pub edge_of : List ℕ → Option Edge
edge_of x =
    if bytes_eq x (codes "posedge") then Some edge.Rise else (if bytes_eq x (codes "negedge") then Some edge.Fall else None)

-- [ "posedge" | "negedge" ]
unfoldable pub any_edge : Grammar Edge
any_edge = r.Choice (begins_as edge_of) (λ e. r.Gives e) (r.Gives edge.Any)

-- [ "posedge" | "negedge" ] NAME (15.3.1)
unfoldable pub an_event : VModule → Grammar Event
an_event m = do
  e ← any_edge
  p ← an_input m
  r.Gives (record { pin = p; edge = e })

-- ( "posedge" | "negedge" ) NAME (15.3.1, a controlled event)
unfoldable pub an_edge_event : VModule → Grammar Event
an_edge_event m = do
  e ← valued edge_of
  p ← an_input m
  r.Gives (record { pin = p; edge = e })

-- NAME behind "&&&"
unfoldable pub condition_name : VModule → Grammar (Option ℕ)
condition_name m = do
  w ← a_condition m
  r.Gives (Some w)

-- [ "&&&" NAME ] (15.5)
unfoldable pub condition : VModule → Grammar (Option ℕ)
condition m = r.Choice (begins (codes "&&&")) (λ _. condition_name m) (r.Gives None)

-- "," NAME ")" ";": the register of the module
unfoldable pub check_end : VModule → Grammar (Unit {0})
check_end m = do
  _ ← expect (codes ",")
  _ ← this_name m.notifier
  _ ← expect (codes ")")
  expect (codes ";")

-- EVENT "," EVENT [ "&&&" NAME ] "," NUM "," NAME ")" ";" behind "(": first the earlier event, then the later one (15.2.1,
-- 15.2.2, 15.2.5)
unfoldable pub ordered_check : CheckKind → VModule → Grammar TimingCheck
ordered_check kind m = do
  first ← an_event m
  _ ← expect (codes ",")
  second ← an_event m
  when ← condition m
  _ ← expect (codes ",")
  limit ← a_number
  _ ← check_end m
  r.Gives (record { kind = kind; first = first; second = second; limit = limit; condition = when })

-- EVENT [ "&&&" NAME ] "," EVENT "," NUM "," NAME ")" ";" behind "(": first the later event, then the earlier one (15.2.4)
unfoldable pub turned_check : CheckKind → VModule → Grammar TimingCheck
turned_check kind m = do
  second ← an_event m
  when ← condition m
  _ ← expect (codes ",")
  first ← an_event m
  _ ← expect (codes ",")
  limit ← a_number
  _ ← check_end m
  r.Gives (record { kind = kind; first = first; second = second; limit = limit; condition = when })

-- the other edge
abbrev pub opposite : Edge → Edge
opposite edge.Any = edge.Any
opposite edge.Rise = edge.Fall
opposite edge.Fall = edge.Rise

-- EVENT [ "&&&" NAME ] "," NUM "," "0" "," NAME ")" ";" behind "(": the event with which a pulse begins; its threshold is 0
-- (15.3.4)
unfoldable pub width_check : VModule → Grammar TimingCheck
width_check m = do
  first ← an_edge_event m
  when ← condition m
  _ ← expect (codes ",")
  limit ← a_number
  _ ← expect (codes ",")
  _ ← expect (codes "0")
  _ ← check_end m
  r.Gives (record {
    kind = check_kind.Width;
    first = first;
    second = record { pin = first.pin; edge = opposite first.edge };
    limit = limit;
    condition = when;
  })

-- the same condition as before, where there was one
unfoldable pub same_condition : VModule → Option ℕ → Grammar (Unit {0})
same_condition m None = r.Gives tt
same_condition m (Some w) = expect (codes "&&&") >>= λ _. this_name (slice_get m.wires w)

abbrev pub equal_to : ℕ → Option ℕ → Verdict (Unit {0}) Refusal
equal_to limit None = Misfit Syntax
equal_to limit (Some n) = if n == limit then Fits tt else Foul Unequal tt

-- the same number as before
unfoldable pub same_number : ℕ → Grammar (Unit {0})
same_number limit = r.Token (λ x. equal_to limit (number_of x)) Syntax

-- the second line of a period: of the falls of the same port, with the same condition and the same limit
unfoldable pub second_period : VModule → ℕ → Option ℕ → ℕ → Grammar (Unit {0})
second_period m p when limit = do
  _ ← expect (codes "$period")
  _ ← expect (codes "(")
  _ ← expect (codes "negedge")
  _ ← this_name (option_map port_name (slice_get m.ports p))
  _ ← same_condition m when
  _ ← expect (codes ",")
  _ ← same_number limit
  check_end m

-- "posedge" NAME [ "&&&" NAME ] "," NUM "," NAME ")" ";" behind "(", and the line of the falls (15.3.5): one check
unfoldable pub period_check : VModule → Grammar TimingCheck
period_check m = do
  _ ← expect (codes "posedge")
  p ← an_input m
  when ← condition m
  _ ← expect (codes ",")
  limit ← a_number
  _ ← check_end m
  _ ← second_period m p when limit
  r.Gives (record {
    kind = check_kind.Period;
    first = record { pin = p; edge = edge.Any };
    second = record { pin = p; edge = edge.Any };
    limit = limit;
    condition = when;
  })

-- the check that a word begins
abbrev pub check_of : List ℕ → Option CheckKind
check_of x =
    if bytes_eq x (codes "$setup") then Some check_kind.Setup
    else (if bytes_eq x (codes "$hold") then Some check_kind.Hold
    else (if bytes_eq x (codes "$recovery") then Some check_kind.Recovery
    else (if bytes_eq x (codes "$removal") then Some check_kind.Removal
    else (if bytes_eq x (codes "$width") then Some check_kind.Width
    else (if bytes_eq x (codes "$period") then Some check_kind.Period
    else None)))))

-- what stands behind the word of a check and "("
unfoldable pub check_of_kind : VModule → CheckKind → Grammar TimingCheck
check_of_kind m check_kind.Setup = ordered_check check_kind.Setup m
check_of_kind m check_kind.Hold = ordered_check check_kind.Hold m
check_of_kind m check_kind.Recovery = ordered_check check_kind.Recovery m
check_of_kind m check_kind.Removal = turned_check check_kind.Removal m
check_of_kind m check_kind.Width = width_check m
check_of_kind m check_kind.Period = period_check m

-- a check behind its word
unfoldable pub check : VModule → CheckKind → Grammar TimingCheck
check m kind = do
  _ ← expect (codes "(")
  check_of_kind m kind

unfoldable pub next_check : VModule → List TimingCheck → CheckKind → Grammar (List TimingCheck)
next_check m checks kind = check m kind >>= λ another. r.Gives (checks ++ another ∷ [])

-- { check }
unfoldable pub checks : VModule → Grammar (List TimingCheck)
checks m = r.Many (λ _. begins_as check_of) (next_check m) []

-- the module with these paths and checks
abbrev pub with_block : VModule → List VPath → List TimingCheck → VModule
with_block m some_paths some_checks = record m { paths = some_paths; checks = some_checks }

-- { path } { check } "endspecify" behind "specify" (14.1)
unfoldable pub block : VModule → Grammar VModule
block m = do
  some_paths ← paths m
  some_checks ← checks m
  _ ← expect (codes "endspecify")
  r.Gives (with_block m some_paths some_checks)

-- [ "specify" { path } { check } "endspecify" ]
unfoldable pub specify : VModule → Grammar VModule
specify m = r.Choice (begins (codes "specify")) (λ _. block m) (r.Gives m)
