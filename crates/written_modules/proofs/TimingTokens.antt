-- The tokens of a written specify block.
use Rattle.std.proofs.Common.{ℕ, Bool, true, false, if◌then◌else◌, List, [], ◌∷◌, ◌++◌, Option, Some, None, refl, codes, decimal}
use Rattle.std.specs.List.{AllByRecursion}
use Rattle.cell_machine.specs.declared.checks.CheckKind.{CheckKind}
use Rattle.cell_machine.specs.declared.checks.CheckKind.TheVariants as check_kind
use Rattle.cell_machine.specs.declared.checks.Edge.{Edge}
use Rattle.cell_machine.specs.declared.checks.Edge.TheVariants as edge
use Rattle.cell_machine.specs.declared.checks.Event.{Event}
use Rattle.verilog_grammar.specs.specify_blocks.declared.model.Gate.{Gate}
use Rattle.verilog_grammar.specs.specify_blocks.declared.model.Gate.TheVariants as gate
use Rattle.verilog_grammar.specs.specify_blocks.declared.model.VPath.{VPath}
use Rattle.udp_tables.specs.declared.timing_checks.TimingCheck.{TimingCheck}
use Rattle.verilog_grammar.specs.specify_blocks.declared.model.VModule.{VModule}
use Rattle.verilog_grammar.specs.WellFormed.{IsName, IsNumber}
use Rattle.verilog_writer.specs.Nets.{port_at, wire_at, notifier_in}
use Rattle.verilog_writer.specs.Timing.{gate_text, path_line, delays_text, path_text, edge_text, joint_text, condition_text}
use Rattle.verilog_writer.specs.Timing.{ordered_text, turned_text, width_text, period_line, period_text, kind_text, check_text}
use Rattle.verilog_writer.specs.Timing.{has_block, lines_text, block_text}
use Rattle.grammar_reader.proofs.Spelling.{literal, joins, behind, nothing, each_spelled}
use Rattle.written_modules.proofs.Spelling.{Spells, Ends}
use Rattle.grammar_reader.proofs.Fronts.{Front, Anything, each}
use Rattle.written_modules.proofs.Words.{name, number}
use Rattle.written_modules.proofs.PrimitiveTokens.{comma, closed}

-- Paths.

abbrev pub IsNamedGate : VModule → Gate → Type 0
IsNamedGate m gate.Always = Unit {0}
IsNamedGate m (gate.If w) = IsName (wire_at m w)
IsNamedGate m gate.IfNone = Unit {0}

-- the names and the numbers of a path
pub record IsNamedPath (m : VModule) (path : VPath) : Type 0 where
  pub from : IsName (port_at m path.from)
  pub to : IsName (port_at m path.to)
  pub gate : IsNamedGate m path.gate
  pub rise : IsNumber path.rise
  pub fall : IsNumber path.fall

-- a path between ports of these names and its delays, behind its bracket
abbrev pub path_line_tokens : List ℕ → List ℕ → ℕ → ℕ → Front
path_line_tokens from to rise fall s =
    from ∷ codes "=>" ∷ to ∷ codes ")" ∷ codes "=" ∷ codes "(" ∷ decimal rise ∷ codes "," ∷ decimal fall ∷ codes ")" ∷ codes ";"
    ∷ s

abbrev pub delay_tokens : VModule → VPath → Front
delay_tokens m path s = path_line_tokens (port_at m path.from) (port_at m path.to) path.rise path.fall s

-- the first token of a path, and those up to its ports
abbrev pub gate_start : Gate → List ℕ
gate_start gate.Always = codes "("
gate_start (gate.If w) = codes "if"
gate_start gate.IfNone = codes "ifnone"

abbrev pub gate_more : VModule → Gate → Front
gate_more m gate.Always s = s
gate_more m (gate.If w) s = codes "(" ∷ wire_at m w ∷ codes ")" ∷ codes "(" ∷ s
gate_more m gate.IfNone s = codes "(" ∷ s

abbrev pub path_tokens : VModule → VPath → Front
path_tokens m path s = gate_start path.gate ∷ gate_more m path.gate (delay_tokens m path s)

pub indented : Spells Anything false (codes "    ") (λ s. s) false
indented = literal (λ r. refl) refl

if_word : Spells Anything false (codes "    if (") (λ s. codes "if" ∷ codes "(" ∷ s) false
if_word = literal (λ r. refl) refl

if_end : Spells Anything false (codes ") ") (λ s. codes ")" ∷ s) false
if_end = literal (λ r. refl) refl

ifnone_word : Spells Anything false (codes "    ifnone ") (λ s. codes "ifnone" ∷ s) false
ifnone_word = literal (λ r. refl) refl

bracket : Spells Anything false (codes "(") (λ s. codes "(" ∷ s) false
bracket = literal (λ r. refl) refl

arrow : Spells Anything false (codes " => ") (λ s. codes "=>" ∷ s) false
arrow = literal (λ r. refl) refl

equals : Spells Anything false (codes ") = (") (λ s. codes ")" ∷ codes "=" ∷ codes "(" ∷ s) false
equals = literal (λ r. refl) refl

pub path_line_spelled : (from to : List ℕ) (rise fall : ℕ) → IsName from → IsName to → IsNumber rise → IsNumber fall
    → Spells Anything false (path_line from to rise fall) (λ s. codes "(" ∷ path_line_tokens from to rise fall s) false
path_line_spelled from to rise fall f t r d =
    behind bracket (joins (name from f) (λ r q. refl) (behind arrow (joins (name to t) (λ r q. refl)
    (behind equals (joins (number rise r) (λ r q. refl) (behind comma (joins (number fall d) (λ r q. refl) closed)))))))

delays : (m : VModule) (path : VPath) → IsNamedPath m path
    → Spells Anything false (delays_text m path) (λ s. codes "(" ∷ delay_tokens m path s) false
unfolding delays_text
delays m path h = path_line_spelled (port_at m path.from) (port_at m path.to) path.rise path.fall h.from h.to h.rise h.fall

path_by : (m : VModule) (path : VPath) (g : Gate) → IsNamedGate m g → IsNamedPath m path
    → Spells Anything false (gate_text m g ++ delays_text m path) (λ s. gate_start g ∷ gate_more m g (delay_tokens m path s))
    false
unfolding gate_text
path_by m path gate.Always g h = behind indented (delays m path h)
path_by m path (gate.If w) g h = behind (behind if_word (joins (name (wire_at m w) g) (λ r q. refl) if_end)) (delays m path h)
path_by m path gate.IfNone g h = behind ifnone_word (delays m path h)

path : (m : VModule) (one : VPath) → IsNamedPath m one → Spells Anything false (path_text m one) (path_tokens m one) false
unfolding path_text
path m one h = path_by m one one.gate h.gate h

-- Checks.

abbrev pub IsNamedCondition : VModule → Option ℕ → Type 0
IsNamedCondition m None = Unit {0}
IsNamedCondition m (Some w) = IsName (wire_at m w)

-- the names and the number of a check
pub record IsNamedCheck (m : VModule) (k : TimingCheck) : Type 0 where
  pub first : IsName (port_at m k.first.pin)
  pub second : IsName (port_at m k.second.pin)
  pub condition : IsNamedCondition m k.condition
  pub notifier : IsName (notifier_in m)
  pub limit : IsNumber k.limit

abbrev pub edge_tokens : Edge → Front
edge_tokens edge.Any s = s
edge_tokens edge.Rise s = codes "posedge" ∷ s
edge_tokens edge.Fall s = codes "negedge" ∷ s

abbrev pub event_tokens : VModule → Event → Front
event_tokens m e s = edge_tokens e.edge (port_at m e.pin ∷ s)

abbrev pub condition_tokens : VModule → Option ℕ → Front
condition_tokens m None s = s
condition_tokens m (Some w) s = codes "&&&" ∷ wire_at m w ∷ s

abbrev pub end_tokens : VModule → Front
end_tokens m s = codes "," ∷ notifier_in m ∷ codes ")" ∷ codes ";" ∷ s

abbrev pub ordered_tokens : VModule → TimingCheck → Front
ordered_tokens m k s = event_tokens m k.first
    (codes "," ∷ event_tokens m k.second (condition_tokens m k.condition (codes "," ∷ decimal k.limit ∷ end_tokens m s)))

abbrev pub turned_tokens : VModule → TimingCheck → Front
turned_tokens m k s = event_tokens m k.second
    (condition_tokens m k.condition (codes "," ∷ event_tokens m k.first (codes "," ∷ decimal k.limit ∷ end_tokens m s)))

abbrev pub width_tokens : VModule → TimingCheck → Front
width_tokens m k s = event_tokens m k.first
    (condition_tokens m k.condition (codes "," ∷ decimal k.limit ∷ codes "," ∷ codes "0" ∷ end_tokens m s))

abbrev pub period_tokens : List ℕ → VModule → TimingCheck → Front
period_tokens word m k s = word ∷ port_at m k.first.pin ∷ condition_tokens m k.condition
    (codes "," ∷ decimal k.limit ∷ end_tokens m s)

-- the word of a check, and what stands behind it and its bracket
abbrev pub check_word : CheckKind → List ℕ
check_word kind =
    elim kind [
      | check_kind.Setup ↦ codes "$setup"
      | check_kind.Hold ↦ codes "$hold"
      | check_kind.Recovery ↦ codes "$recovery"
      | check_kind.Removal ↦ codes "$removal"
      | check_kind.Width ↦ codes "$width"
      | check_kind.Period ↦ codes "$period"
    ]

abbrev pub check_more : VModule → TimingCheck → CheckKind → Front
check_more m k check_kind.Setup s = ordered_tokens m k s
check_more m k check_kind.Hold s = ordered_tokens m k s
check_more m k check_kind.Recovery s = ordered_tokens m k s
check_more m k check_kind.Removal s = turned_tokens m k s
check_more m k check_kind.Width s = width_tokens m k s
check_more m k check_kind.Period s =
    period_tokens (codes "posedge") m k (codes "$period" ∷ codes "(" ∷ period_tokens (codes "negedge") m k s)

abbrev pub check_tokens : VModule → TimingCheck → Front
check_tokens m k s = check_word k.kind ∷ codes "(" ∷ check_more m k k.kind s

an_edge : (e : Edge) → Spells Anything false (edge_text e) (edge_tokens e) false
an_edge edge.Any = nothing
an_edge edge.Rise = literal (λ r. refl) refl
an_edge edge.Fall = literal (λ r. refl) refl

joint : Spells Anything false (codes " &&& ") (λ s. codes "&&&" ∷ s) false
joint = literal (λ r. refl) refl

zero_threshold : Spells Anything false (codes ", 0, ") (λ s. codes "," ∷ codes "0" ∷ codes "," ∷ s) false
zero_threshold = literal (λ r. refl) refl

-- a condition, where there is one, before a comma
conditioned : (m : VModule) {v : Bool} {rest : List ℕ} {f : Front} (c : Option ℕ) → IsNamedCondition m c
    → Spells Anything false rest f v
    → Spells Anything false (joint_text c ++ (condition_text m c ++ (codes ", " ++ rest)))
    (λ s. condition_tokens m c (codes "," ∷ f s)) v
conditioned m None n h = behind comma h
conditioned m (Some w) n h = behind joint (joins (name (wire_at m w) n) (λ r q. refl) (behind comma h))

condition_begins : (m : VModule) (c : Option ℕ) (rest r : List ℕ)
    → Ends ((joint_text c ++ (condition_text m c ++ (codes ", " ++ rest))) ++ r)
condition_begins m None rest r = refl
condition_begins m (Some w) rest r = refl

limited : (m : VModule) (k : TimingCheck) → IsNamedCheck m k
    → Spells Anything false (decimal k.limit ++ (codes ", " ++ (notifier_in m ++ codes ");\n")))
    (λ s. decimal k.limit ∷ end_tokens m s) false
limited m k h = joins (number k.limit h.limit) (λ r q. refl)
    (behind comma (joins (name (notifier_in m) h.notifier) (λ r q. refl) closed))

-- the lines of a check by the word that they begin with
module _ {word : List ℕ} {start : List (List ℕ) → List (List ℕ)} (m : VModule) (k : TimingCheck) (h : IsNamedCheck m k)
    (w : Spells Anything false word start false) where
  ordered : Spells Anything false (ordered_text word m k) (λ s. start (ordered_tokens m k s)) false
  unfolding ordered_text
  ordered =
      behind w (behind (an_edge k.first.edge)
      (joins (name (port_at m k.first.pin) h.first) (λ r q. refl) (behind comma (behind (an_edge k.second.edge)
      (joins (name (port_at m k.second.pin) h.second)
      (λ r q. condition_begins m k.condition (decimal k.limit ++ (codes ", " ++ (notifier_in m ++ codes ");\n"))) r)
      (conditioned m k.condition h.condition (limited m k h)))))))

  back_turned : Spells Anything false (turned_text word m k) (λ s. start (turned_tokens m k s)) false
  unfolding turned_text
  back_turned =
      behind w (behind (an_edge k.second.edge)
      (joins (name (port_at m k.second.pin) h.second)
      (λ r q. condition_begins m k.condition
      (edge_text k.first.edge ++ (port_at m k.first.pin
      ++ (codes ", " ++ (decimal k.limit ++ (codes ", " ++ (notifier_in m ++ codes ");\n")))))) r)
      (conditioned m k.condition h.condition
      (behind (an_edge k.first.edge) (joins (name (port_at m k.first.pin) h.first) (λ r q. refl)
      (behind comma (limited m k h)))))))

  wide : Spells Anything false (width_text word m k) (λ s. start (width_tokens m k s)) false
  unfolding width_text
  wide =
      behind w (behind (an_edge k.first.edge)
      (joins (name (port_at m k.first.pin) h.first)
      (λ r q. condition_begins m k.condition (decimal k.limit ++ (codes ", 0, " ++ (notifier_in m ++ codes ");\n"))) r)
      (conditioned m k.condition h.condition
      (joins (number k.limit h.limit) (λ r q. refl)
      (behind zero_threshold (joins (name (notifier_in m) h.notifier) (λ r q. refl) closed))))))

  period : Spells Anything false (period_line word m k)
      (λ s. start (port_at m k.first.pin ∷ condition_tokens m k.condition (codes "," ∷ decimal k.limit ∷ end_tokens m s))) false
  unfolding period_line
  period =
      behind w (joins (name (port_at m k.first.pin) h.first)
      (λ r q. condition_begins m k.condition (decimal k.limit ++ (codes ", " ++ (notifier_in m ++ codes ");\n"))) r)
      (conditioned m k.condition h.condition (limited m k h)))

setup_word : Spells Anything false (codes "    $setup(") (λ s. codes "$setup" ∷ codes "(" ∷ s) false
setup_word = literal (λ r. refl) refl

hold_word : Spells Anything false (codes "    $hold(") (λ s. codes "$hold" ∷ codes "(" ∷ s) false
hold_word = literal (λ r. refl) refl

recovery_word : Spells Anything false (codes "    $recovery(") (λ s. codes "$recovery" ∷ codes "(" ∷ s) false
recovery_word = literal (λ r. refl) refl

removal_word : Spells Anything false (codes "    $removal(") (λ s. codes "$removal" ∷ codes "(" ∷ s) false
removal_word = literal (λ r. refl) refl

width_word : Spells Anything false (codes "    $width(") (λ s. codes "$width" ∷ codes "(" ∷ s) false
width_word = literal (λ r. refl) refl

rise_word : Spells Anything false (codes "    $period(posedge ") (λ s. codes "$period" ∷ codes "(" ∷ codes "posedge" ∷ s) false
rise_word = literal (λ r. refl) refl

fall_word : Spells Anything false (codes "    $period(negedge ") (λ s. codes "$period" ∷ codes "(" ∷ codes "negedge" ∷ s) false
fall_word = literal (λ r. refl) refl

kind_spelled : (m : VModule) (k : TimingCheck) (kind : CheckKind) → IsNamedCheck m k
    → Spells Anything false (kind_text m k kind) (λ s. check_word kind ∷ codes "(" ∷ check_more m k kind s) false
unfolding period_text
kind_spelled m k check_kind.Setup h = ordered m k h setup_word
kind_spelled m k check_kind.Hold h = ordered m k h hold_word
kind_spelled m k check_kind.Recovery h = ordered m k h recovery_word
kind_spelled m k check_kind.Removal h = back_turned m k h removal_word
kind_spelled m k check_kind.Width h = wide m k h width_word
kind_spelled m k check_kind.Period h = behind (period m k h rise_word) (period m k h fall_word)

check : (m : VModule) (k : TimingCheck) → IsNamedCheck m k → Spells Anything false (check_text m k) (check_tokens m k) false
unfolding check_text
check m k h = kind_spelled m k k.kind h

-- The block.

abbrev pub line_tokens : VModule → Front
line_tokens m s = each (path_tokens m) m.paths (each (check_tokens m) m.checks (codes "endspecify" ∷ s))

abbrev pub block_by : Bool → VModule → Front
block_by true m s = codes "specify" ∷ line_tokens m s
block_by false m s = s

abbrev pub block_tokens : VModule → Front
block_tokens m s = block_by (has_block m) m s

pub block_word : Spells Anything false (codes "  specify\n") (λ s. codes "specify" ∷ s) false
block_word = literal (λ r. refl) refl

pub block_end : Spells Anything false (codes "  endspecify\n") (λ s. codes "endspecify" ∷ s) false
block_end = literal (λ r. refl) refl

by_need : (b : Bool) (m : VModule) → AllByRecursion (IsNamedPath m) m.paths → AllByRecursion (IsNamedCheck m) m.checks
    → Spells Anything false (if b then lines_text m else []) (block_by b m) false
unfolding lines_text
by_need true m p k = behind block_word
    (behind (each_spelled (IsNamedPath m) (path m) (λ x r q. tt) m.paths p)
    (behind (each_spelled (IsNamedCheck m) (check m) (λ x r q. tt) m.checks k) block_end))
by_need false m p k = nothing

pub block_spelled : (m : VModule) → AllByRecursion (IsNamedPath m) m.paths → AllByRecursion (IsNamedCheck m) m.checks
    → Spells Anything false (block_text m) (block_tokens m) false
unfolding block_text
block_spelled m p k = by_need (has_block m) m p k
