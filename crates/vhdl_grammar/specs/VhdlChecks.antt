-- The grammar of the calls of timing checks in VHDL text, and of the calls of state tables behind them. (IEEE 1076.4-2000,
-- VitalSetupHoldCheck, VitalRecoveryRemovalCheck, VitalPeriodPulseCheck and VitalStateTable.)
use Rattle.std.specs.Prelude.{ℕ, zero, suc, ◌+◌, Bool, true, false, not, nat_eq, nat_lt, if◌then◌else◌, List, [], ◌∷◌, ◌++◌}
use Rattle.std.specs.Prelude.{length, slice_get, Option, Some, None, codes}
use Rattle.std.specs.Option.{option_map_or}
use Rattle.grammar_rules.specs.Rule as r
use Rattle.cell_machine.specs.declared.checks.CheckKind.{CheckKind}
use Rattle.cell_machine.specs.declared.checks.CheckKind.TheVariants as check_kind
use Rattle.cell_machine.specs.declared.checks.Edge.{Edge}
use Rattle.cell_machine.specs.declared.checks.Edge.TheVariants as edge
use Rattle.cell_machine.specs.declared.checks.Event.{Event}
use Rattle.udp_tables.specs.declared.timing_checks.TimingCheck.{TimingCheck}
use Rattle.grammar_reader.specs.declared.refusal.Refusal.TheVariants.{Syntax}
use Rattle.grammar_reader.specs.Words.{Grammar, ◌>>=◌, go_on_where, begins_as, valued}
pub use Rattle.grammar_reader.specs.Words.{equal_to}
use Rattle.vhdl_tokens.specs.Numbers.{number_of}
use Rattle.vhdl_tokens.specs.Spelling.{is_same}
use Rattle.vhdl_grammar.specs.declared.scope.Columns.{Columns}
use Rattle.vhdl_grammar.specs.declared.scope.Scope.{Scope}
use Rattle.vhdl_grammar.specs.VhdlRules.{expect, expect_all, begins, this_name, numbered_where, a_time}
use Rattle.vhdl_grammar.specs.VhdlNames.{Uses, an_input, condition, columns_of}

-- the procedures of checks: of setup and hold, of recovery and removal, of pulses and periods
pub data Procedure : Type 0 where
  SetupHold : Procedure
  RecoveryRemoval : Procedure
  PeriodPulse : Procedure

-- the procedure that a word calls
abbrev pub procedure_of : List ℕ → Option Procedure
procedure_of x =
    if is_same x (codes "VitalSetupHoldCheck") then Some SetupHold
    else (if is_same x (codes "VitalRecoveryRemovalCheck") then Some RecoveryRemoval
    else (if is_same x (codes "VitalPeriodPulseCheck") then Some PeriodPulse
    else None))

-- the checks so far, and the lists of the conditions that were looked up
pub record Checks : Type 0 where
  pub checks : List TimingCheck
  pub uses : Uses

abbrev pub no_checks : Checks
no_checks = record { checks = []; uses = [] }

-- the data of the check with this number, from 0, are of this type
abbrev pub has_data : Scope → Bool → ℕ → Bool
has_data scope is_period j =
    option_map_or (λ (b : Bool). if is_period then b else not b) (slice_get scope.variables.periods j) false

-- "(" "Violation" "=>" NAME "," WORD "=>" NAME "," "TestSignal" "=>" NAME ",": the variables of the next check, behind so many,
-- of which the data are of the procedure's type, and the input that is tested
unfoldable pub tested : Scope → Bool → List ℕ → ℕ → Grammar ℕ
tested scope is_period word j = do
  _ ← expect_all (codes "(" ∷ codes "Violation" ∷ codes "=>" ∷ [])
  _ ← this_name (numbered_where (nat_lt j (length scope.variables.periods)) (codes "x_") (j + 1))
  _ ← expect_all (codes "," ∷ word ∷ codes "=>" ∷ [])
  _ ← this_name (numbered_where (has_data scope is_period j) (codes "d_") (j + 1))
  _ ← expect_all (codes "," ∷ codes "TestSignal" ∷ codes "=>" ∷ [])
  p ← an_input scope.ports
  _ ← expect (codes ",")
  r.Gives p

-- "RefSignal" "=>" NAME ","
unfoldable pub referred : Scope → Grammar ℕ
referred scope = do
  _ ← expect_all (codes "RefSignal" ∷ codes "=>" ∷ [])
  p ← an_input scope.ports
  _ ← expect (codes ",")
  r.Gives p

-- what is looked up behind "VitalTruthTable", and has to be 1
unfoldable pub enabling_condition : Scope → Uses → Grammar (Option ℕ × Uses)
enabling_condition scope uses = do
  found ← condition scope uses
  _ ← expect_all (codes "=" ∷ codes "'1'" ∷ [])
  r.Gives (Some found.0, found.1)

-- "true" where a check counts always
unfoldable pub always_enabled : Uses → Grammar (Option ℕ × Uses)
always_enabled uses = do
  _ ← expect (codes "true")
  r.Gives (None, uses)

-- "CheckEnabled" "=>" ( "true" | T "=" "'1'" ): when a check counts, and the lists
unfoldable pub enabled : Scope → Uses → Grammar (Option ℕ × Uses)
enabled scope uses = do
  _ ← expect_all (codes "CheckEnabled" ∷ codes "=>" ∷ [])
  r.Choice (begins (codes "VitalTruthTable")) (λ _. enabling_condition scope uses) (always_enabled uses)

-- the edge of the reference
abbrev pub reference_edge : List ℕ → Option Edge
reference_edge x = if is_same x (codes "'R'") then Some edge.Rise else (if is_same x (codes "'F'") then Some edge.Fall else None)

-- "," "RefTransition" "=>" ( "'R'" | "'F'" ) ")" ";"
unfoldable pub transition : Grammar Edge
transition = do
  _ ← expect_all (codes "," ∷ codes "RefTransition" ∷ codes "=>" ∷ [])
  e ← valued reference_edge
  _ ← expect_all (codes ")" ∷ codes ";" ∷ [])
  r.Gives e

-- The kind of a check of setup or hold, by its first limit, and the word of its second one. The test signal is the data.
abbrev pub setup_or_hold : List ℕ → Option CheckKind
setup_or_hold x =
    if is_same x (codes "SetupHigh") then Some check_kind.Setup
    else (if is_same x (codes "HoldHigh") then Some check_kind.Hold else None)

abbrev pub low_word : CheckKind → List ℕ
low_word check_kind.Hold = codes "HoldLow"
low_word _ = codes "SetupLow"

-- the same number as before
unfoldable pub same_number : ℕ → Grammar (Unit {0})
same_number limit = r.Token (λ x. equal_to limit (number_of x)) Syntax

-- "=>" NUM "ps" "," WORD "=>" NUM "ps" ",": the limit for a high and for a low signal, which are one
unfoldable pub both_limits : CheckKind → Grammar ℕ
both_limits kind = do
  _ ← expect (codes "=>")
  limit ← a_time
  _ ← expect_all (codes "," ∷ low_word kind ∷ codes "=>" ∷ [])
  _ ← same_number limit
  _ ← expect_all (codes "ps" ∷ codes "," ∷ [])
  r.Gives limit

-- the event of the test signal and that of the reference, by the order in which a kind of check has them
abbrev pub check_with : CheckKind → Event → Event → ℕ → Option ℕ → TimingCheck
check_with check_kind.Hold test reference limit when =
    record { kind = check_kind.Hold; first = reference; second = test; limit = limit; condition = when }
check_with check_kind.Removal test reference limit when =
    record { kind = check_kind.Removal; first = reference; second = test; limit = limit; condition = when }
check_with kind test reference limit when =
    record { kind = kind; first = test; second = reference; limit = limit; condition = when }

abbrev pub with_check : Checks → TimingCheck → Uses → Checks
with_check before k uses = record { checks = before.checks ++ k ∷ []; uses = uses }

-- a call of VitalSetupHoldCheck behind its word
unfoldable pub setup_hold : Scope → Checks → Grammar Checks
setup_hold scope before = do
  test ← tested scope false (codes "TimingData") (length before.checks)
  reference ← referred scope
  kind ← valued setup_or_hold
  limit ← both_limits kind
  when ← enabled scope before.uses
  e ← transition
  r.Gives (with_check before (check_with kind (record { pin = test; edge = edge.Any }) (record { pin = reference; edge = e })
      limit when.0) when.1)

-- The kind of a check of recovery or removal, by its limit. The test signal is the control.
abbrev pub recovery_or_removal : List ℕ → Option CheckKind
recovery_or_removal x =
    if is_same x (codes "Recovery") then Some check_kind.Recovery
    else (if is_same x (codes "Removal") then Some check_kind.Removal else None)

-- the edge with which the control ends: a rise, where it is active low
abbrev pub control_edge : List ℕ → Option Edge
control_edge x = if is_same x (codes "true") then Some edge.Rise else (if is_same x (codes "false") then Some edge.Fall else None)

-- "=>" NUM "ps" ",": one limit
unfoldable pub one_limit : Grammar ℕ
one_limit = do
  _ ← expect (codes "=>")
  limit ← a_time
  _ ← expect (codes ",")
  r.Gives limit

-- "ActiveLow" "=>" ( "true" | "false" ) ","
unfoldable pub active_low : Grammar Edge
active_low = do
  _ ← expect_all (codes "ActiveLow" ∷ codes "=>" ∷ [])
  e ← valued control_edge
  _ ← expect (codes ",")
  r.Gives e

-- a call of VitalRecoveryRemovalCheck, which tells the level at which the control is active, behind its word
unfoldable pub recovery_removal : Scope → Checks → Grammar Checks
recovery_removal scope before = do
  test ← tested scope false (codes "TimingData") (length before.checks)
  reference ← referred scope
  kind ← valued recovery_or_removal
  limit ← one_limit
  control ← active_low
  when ← enabled scope before.uses
  e ← transition
  r.Gives (with_check before (check_with kind (record { pin = test; edge = control }) (record { pin = reference; edge = e }) limit
      when.0) when.1)

-- what is checked of one signal, by the word of the limit: the kind, and the edges of the earlier and of the later event
pub record Pulse : Type 0 where
  pub kind : CheckKind
  pub first : Edge
  pub second : Edge

abbrev pub pulse_of : List ℕ → Option Pulse
pulse_of x =
    if is_same x (codes "PulseWidthHigh") then Some (record { kind = check_kind.Width; first = edge.Rise; second = edge.Fall })
    else (if is_same x (codes "PulseWidthLow")
    then Some (record { kind = check_kind.Width; first = edge.Fall; second = edge.Rise })
    else (if is_same x (codes "Period") then Some (record { kind = check_kind.Period; first = edge.Any; second = edge.Any })
    else None))

abbrev pub pulse_check : Pulse → ℕ → ℕ → Option ℕ → TimingCheck
pulse_check pulse p limit when =
    record {
      kind = pulse.kind;
      first = record { pin = p; edge = pulse.first };
      second = record { pin = p; edge = pulse.second };
      limit = limit;
      condition = when;
    }

-- a call of VitalPeriodPulseCheck behind its word
unfoldable pub period_pulse : Scope → Checks → Grammar Checks
period_pulse scope before = do
  test ← tested scope true (codes "PeriodData") (length before.checks)
  pulse ← valued pulse_of
  limit ← one_limit
  when ← enabled scope before.uses
  _ ← expect_all (codes ")" ∷ codes ";" ∷ [])
  r.Gives (with_check before (pulse_check pulse test limit when.0) when.1)

-- a call of a check behind its word
abbrev pub check : Scope → Checks → Procedure → Grammar Checks
check scope before SetupHold = setup_hold scope before
check scope before RecoveryRemoval = recovery_removal scope before
check scope before PeriodPulse = period_pulse scope before

-- { check }, one for each of the variables
unfoldable pub checks : Scope → Grammar Checks
checks scope = do
  all ← r.Many (λ _. begins_as procedure_of) (check scope) no_checks
  _ ← go_on_where (nat_eq (length all.checks) (length scope.variables.periods))
  r.Gives all

-- NAME behind so many: the next report of so many checks
unfoldable pub next_report : ℕ → ℕ → Grammar ℕ
next_report n j = do
  _ ← this_name (numbered_where (nat_lt j n) (codes "x_") (j + 1))
  r.Gives (j + 1)

-- "viol" ":=" NAME { "or" NAME } ";": the reports of all checks in order
unfoldable pub any_report : ℕ → Grammar (Unit {0})
any_report n = do
  _ ← expect_all (codes "viol" ∷ codes ":=" ∷ [])
  one ← next_report n 0
  j ← r.Many (λ _. begins (codes "or")) (λ j _. next_report n j) one
  _ ← go_on_where (nat_eq j n)
  expect (codes ";")

-- what the violation is, where there are checks
abbrev pub violation : ℕ → Grammar (Unit {0})
violation zero = r.Gives tt
violation (suc n) = any_report (suc n)

-- "(" "Result" "=>" NAME "," "PreviousDataIn" "=>" NAME "," "StateTable" "=>" NAME "," "DataIn" "=>" "(" behind
-- "VitalStateTable", where so many calls stand before: the variables and the table of the next state
unfoldable pub state_call_start : Scope → ℕ → Grammar (Unit {0})
state_call_start scope g = do
  _ ← expect_all (codes "(" ∷ codes "Result" ∷ codes "=>" ∷ [])
  _ ← this_name (numbered_where (nat_lt g (length scope.tables.states)) (codes "s_") (g + 1))
  _ ← expect_all (codes "," ∷ codes "PreviousDataIn" ∷ codes "=>" ∷ [])
  _ ← this_name (numbered_where (nat_lt g (length scope.tables.states)) (codes "p_") (g + 1))
  _ ← expect_all (codes "," ∷ codes "StateTable" ∷ codes "=>" ∷ [])
  _ ← this_name (numbered_where (nat_lt g (length scope.tables.states)) (codes "k_") (g + 1))
  expect_all (codes "," ∷ codes "DataIn" ∷ codes "=>" ∷ codes "(" ∷ [])

-- a call of VitalStateTable behind its word, and behind others: the columns of the next state
unfoldable pub state_call : Scope → List Columns → Grammar (List Columns)
state_call scope states = do
  _ ← state_call_start scope (length states)
  columns ← columns_of scope (length states)
  _ ← expect_all (codes ")" ∷ codes ";" ∷ [])
  r.Gives (states ++ columns ∷ [])

-- { state call }, one for each state
unfoldable pub state_calls : Scope → Grammar (List Columns)
state_calls scope = do
  states ← r.Many (λ _. begins (codes "VitalStateTable")) (λ found _. state_call scope found) []
  _ ← go_on_where (nat_eq (length states) (length scope.tables.states))
  r.Gives states
