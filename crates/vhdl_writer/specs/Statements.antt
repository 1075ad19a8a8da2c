-- The text of the calls of timing checks and of state tables. (IEEE 1076.4-2000, VitalSetupHoldCheck, VitalRecoveryRemovalCheck,
-- VitalPeriodPulseCheck and VitalStateTable.) Of setup and hold the test signal is the data, of recovery and removal the control.
use Rattle.std.specs.Prelude.{ℕ, nat_lt, if◌then◌else◌, List, [], ◌++◌, length, Option, Some, None, codes, decimal}
use Rattle.cell_machine.specs.declared.checks.CheckKind.{CheckKind}
use Rattle.cell_machine.specs.declared.checks.CheckKind.TheVariants as check_kind
use Rattle.cell_machine.specs.declared.checks.Edge.{Edge}
use Rattle.cell_machine.specs.declared.checks.Edge.TheVariants as edge
use Rattle.cell_machine.specs.declared.checks.Event.{Event}
use Rattle.vital_models.specs.declared.model.VState.{VState}
use Rattle.udp_tables.specs.declared.timing_checks.TimingCheck.{TimingCheck}
use Rattle.vital_models.specs.declared.model.VEntity.{VEntity}
use Rattle.vhdl_writer.specs.Joined.{numbered_texts, apart_text}
use Rattle.vhdl_writer.specs.Names.{port_at, columns_text, condition_text}

-- a condition that has to be 1
unfoldable pub one_text : VEntity → ℕ → List ℕ
one_text e i = condition_text e i ++ codes " = '1'"

-- when a check counts
abbrev pub enabled_text : VEntity → Option ℕ → List ℕ
enabled_text e None = codes "true"
enabled_text e (Some i) = one_text e i

-- the event of the test signal, and that of the reference, by the order in which a kind of check has them
abbrev pub test_at : TimingCheck → CheckKind → Event
test_at k check_kind.Hold = k.second
test_at k check_kind.Removal = k.second
test_at k _ = k.first

abbrev pub reference_at : TimingCheck → CheckKind → Event
reference_at k check_kind.Hold = k.first
reference_at k check_kind.Removal = k.first
reference_at k _ = k.second

-- one of two texts, for a rise and for a fall. An event that is written so has one edge in a sound check.
abbrev pub by_edge : List ℕ → List ℕ → Edge → List ℕ
by_edge rise fall edge.Fall = fall
by_edge rise fall _ = rise

-- the edge of the reference, and the end of the call
abbrev pub transition_text : Edge → List ℕ
transition_text g = by_edge (codes ", RefTransition => 'R');\n") (codes ", RefTransition => 'F');\n") g

-- the words before the two limits of setup and of hold
abbrev pub high_word : CheckKind → List ℕ
high_word check_kind.Hold = codes ", HoldHigh => "
high_word _ = codes ", SetupHigh => "

abbrev pub low_word : CheckKind → List ℕ
low_word check_kind.Hold = codes " ps, HoldLow => "
low_word _ = codes " ps, SetupLow => "

-- a call, of which the first two arguments end with the same number
abbrev pub twice_numbered_text : List ℕ → List ℕ → ℕ → List ℕ → List ℕ
twice_numbered_text start next n rest = start ++ (decimal n ++ (next ++ (decimal n ++ rest)))

-- the limit of a check behind a word
abbrev pub limited_text : List ℕ → TimingCheck → List ℕ → List ℕ
limited_text word k rest = word ++ (decimal k.limit ++ rest)

-- the call of a check that has a reference: what it begins with, and what stands behind the reference
abbrev pub referring_text : List ℕ → VEntity → ℕ → TimingCheck → List ℕ → List ℕ
referring_text start e n k rest =
    twice_numbered_text start (codes ", TimingData => d_") n
    (codes ", TestSignal => "
    ++ (port_at e (test_at k k.kind).pin ++ (codes ", RefSignal => " ++ (port_at e (reference_at k k.kind).pin ++ rest))))

-- when such a check counts, and the edge of its reference
abbrev pub referred_text : VEntity → TimingCheck → List ℕ
referred_text e k = enabled_text e k.condition ++ transition_text (reference_at k k.kind).edge

-- the call of VitalSetupHoldCheck for a check with this number
unfoldable pub setup_hold_text : VEntity → ℕ → TimingCheck → List ℕ
setup_hold_text e n k =
    referring_text (codes "    VitalSetupHoldCheck (Violation => x_") e n k
    (limited_text (high_word k.kind) k
    (limited_text (low_word k.kind) k (codes " ps, CheckEnabled => " ++ referred_text e k)))

-- the word before the limit of recovery and of removal
abbrev pub recovery_word : CheckKind → List ℕ
recovery_word check_kind.Removal = codes ", Removal => "
recovery_word _ = codes ", Recovery => "

-- whether the control is active low: it ends with a rise
abbrev pub active_text : Edge → List ℕ
active_text g = by_edge (codes " ps, ActiveLow => true, CheckEnabled => ") (codes " ps, ActiveLow => false, CheckEnabled => ") g

-- the call of VitalRecoveryRemovalCheck for a check with this number
unfoldable pub recovery_removal_text : VEntity → ℕ → TimingCheck → List ℕ
recovery_removal_text e n k =
    referring_text (codes "    VitalRecoveryRemovalCheck (Violation => x_") e n k
    (limited_text (recovery_word k.kind) k (active_text (test_at k k.kind).edge ++ referred_text e k))

-- the word before the least width of a pulse that begins with this edge
abbrev pub width_word : Edge → List ℕ
width_word g = by_edge (codes ", PulseWidthHigh => ") (codes ", PulseWidthLow => ") g

-- the word before the limit of a width and of a period
abbrev pub pulse_word : TimingCheck → CheckKind → List ℕ
pulse_word k check_kind.Period = codes ", Period => "
pulse_word k _ = width_word k.first.edge

-- the call of VitalPeriodPulseCheck for a check with this number
unfoldable pub period_pulse_text : VEntity → ℕ → TimingCheck → List ℕ
period_pulse_text e n k =
    twice_numbered_text (codes "    VitalPeriodPulseCheck (Violation => x_") (codes ", PeriodData => d_") n
    (codes ", TestSignal => "
    ++ (port_at e k.first.pin
    ++ limited_text (pulse_word k k.kind) k (codes " ps, CheckEnabled => " ++ (enabled_text e k.condition ++ codes ");\n"))))

-- the call for a check of this kind with this number
abbrev pub kind_text : VEntity → ℕ → TimingCheck → CheckKind → List ℕ
kind_text e n k check_kind.Setup = setup_hold_text e n k
kind_text e n k check_kind.Hold = setup_hold_text e n k
kind_text e n k check_kind.Recovery = recovery_removal_text e n k
kind_text e n k check_kind.Removal = recovery_removal_text e n k
kind_text e n k check_kind.Width = period_pulse_text e n k
kind_text e n k check_kind.Period = period_pulse_text e n k

unfoldable pub check_text : VEntity → ℕ → TimingCheck → List ℕ
check_text e n k = kind_text e n k k.kind

-- the report of a check among all of them
abbrev pub report_text : ℕ → TimingCheck → List ℕ
report_text n k = apart_text (codes " or ") n ++ (codes "x_" ++ decimal n)

-- what the violation is: whether a check reported
unfoldable pub reports_text : List TimingCheck → List ℕ
reports_text checks = codes "    viol := " ++ (numbered_texts report_text 1 checks ++ codes ";\n")

abbrev pub violation_text : List TimingCheck → List ℕ
violation_text checks = if nat_lt 0 (length checks) then reports_text checks else []

-- the call of the table of the state with this number
unfoldable pub state_text : VEntity → ℕ → VState → List ℕ
state_text e n state =
    twice_numbered_text (codes "    VitalStateTable (Result => s_") (codes ", PreviousDataIn => p_") n
    (codes ", StateTable => k_" ++ (decimal n ++ (codes ", DataIn => " ++ (columns_text e state ++ codes ");\n"))))
