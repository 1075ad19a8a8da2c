-- The texts of checks, of gates of paths and of short lists, by computing. Those of whole entities are compared with what is
-- written.
use Rattle.std.proofs.Common.{◌≡◌, ℕ, Bool, true, List, [], ◌∷◌, None, codes, refl}
use Rattle.std.specs.Fmt.{digits}
use Rattle.trit_cubes.specs.declared.trits.Trit.TheVariants as trit
use Rattle.cell_machine.specs.declared.checks.CheckKind.{CheckKind}
use Rattle.cell_machine.specs.declared.checks.CheckKind.TheVariants as check_kind
use Rattle.cell_machine.specs.declared.checks.Edge.{Edge}
use Rattle.cell_machine.specs.declared.checks.Edge.TheVariants as edge
use Rattle.vital_models.specs.declared.table.Trits.TheVariants as trits
use Rattle.vital_models.specs.declared.model.HGate.TheVariants as gate
use Rattle.udp_tables.specs.declared.models.VPort.{VPort}
use Rattle.udp_tables.specs.declared.timing_checks.TimingCheck.{TimingCheck}
use Rattle.vital_models.specs.declared.model.VEntity.{VEntity}
use Rattle.vhdl_writer.specs.Names.{input_text, inputs_text, next_input_text, violated_text, condition_text}
use Rattle.vhdl_writer.specs.Tables.{symbol_apart_text, level_apart_text, state_row_text, truth_row_text, truth_rows_text}
use Rattle.vhdl_writer.specs.Tables.{state_rows_text, state_constant_text, condition_constant_text, is_looked_up}
use Rattle.vhdl_writer.specs.Tables.{output_table_text, constants_text}
use Rattle.vhdl_writer.specs.Statements.{one_text, setup_hold_text, recovery_removal_text, period_pulse_text, check_text}
use Rattle.vhdl_writer.specs.Outputs.{not_zero_text, all_zero_text, path_text}

abbrev port : List ℕ → Bool → VPort
port name input = record { name = name; input = input }

check : CheckKind → ℕ → ℕ → Edge → ℕ → Edge → TimingCheck
check kind limit p e q f =
    record {
      kind = kind;
      first = record { pin = p; edge = e };
      second = record { pin = q; edge = f };
      limit = limit;
      condition =
          None;
    }

-- The calls of checks of the pins R and CK, the second in a condition.
control : VEntity
control =
    record {
      name = codes "C";
      ports = port (codes "RN") true ∷ port (codes "CK") true ∷ [];
      states = [];
      conditions =
          record {
            table = record { rows = record { inputs = trits.Any ∷ []; result = trit.Unknown } ∷ [] };
            inputs = 0 ∷ [];
          } ∷ [];
      outputs = [];
      checks = [];
    }

checks-text :
    (check_text control 1 (check check_kind.Hold 7 1 edge.Fall 0 edge.Any)
    ≡ codes "    VitalSetupHoldCheck (Violation => x_1, TimingData => d_1, TestSignal => RN, RefSignal => CK, HoldHigh => 7 ps, HoldLow => 7 ps, CheckEnabled => true, RefTransition => 'F');\n")
    × (check_text control 1 (check check_kind.Recovery 7 0 edge.Rise 1 edge.Rise)
    ≡ codes "    VitalRecoveryRemovalCheck (Violation => x_1, TimingData => d_1, TestSignal => RN, RefSignal => CK, Recovery => 7 ps, ActiveLow => true, CheckEnabled => true, RefTransition => 'R');\n")
    × (check_text control 2 (check check_kind.Removal 7 1 edge.Rise 0 edge.Fall)
    ≡ codes "    VitalRecoveryRemovalCheck (Violation => x_2, TimingData => d_2, TestSignal => RN, RefSignal => CK, Removal => 7 ps, ActiveLow => false, CheckEnabled => true, RefTransition => 'R');\n")
    × (check_text control 1 (check check_kind.Width 7 1 edge.Rise 1 edge.Fall)
    ≡ codes "    VitalPeriodPulseCheck (Violation => x_1, PeriodData => d_1, TestSignal => CK, PulseWidthHigh => 7 ps, CheckEnabled => true);\n")
    × (check_text control 1 (check check_kind.Period 7 1 edge.Any 1 edge.Any)
    ≡ codes "    VitalPeriodPulseCheck (Violation => x_1, PeriodData => d_1, TestSignal => CK, Period => 7 ps, CheckEnabled => true);\n")
unfolding control check digits input_text inputs_text condition_text one_text setup_hold_text recovery_removal_text
    period_pulse_text check_text
checks-text = (refl, refl, refl, refl, refl)

-- Gates of paths, a list of two names, and a table of one row.
gates-text :
    (path_text control 1 (record { from = 1; rise = 3; fall = 4; gate = gate.NotZero 0 })
    ≡ codes "0 => (CK'last_event, (3 ps, 4 ps), VitalTruthTable (TruthTable => c_1, DataIn => (0 => RN)) /= '0')")
    × (path_text control 2 (record { from = 1; rise = 3; fall = 4; gate = gate.AllZero (0 ∷ 0 ∷ []) })
    ≡ codes ", 1 => (CK'last_event, (3 ps, 4 ps), VitalTruthTable (TruthTable => c_1, DataIn => (0 => RN)) = '0' and VitalTruthTable (TruthTable => c_1, DataIn => (0 => RN)) = '0')")
    × (violated_text control (0 ∷ 1 ∷ []) ≡ codes "(viol, RN, CK)")
    × (inputs_text control (0 ∷ 1 ∷ []) ≡ codes "(RN, CK)")
    × (constants_text control ≡ codes "  constant c_1 : VitalTruthTableType := (\n    0 => ('-', 'X'));\n")
unfolding control digits input_text inputs_text next_input_text violated_text condition_text symbol_apart_text level_apart_text
    state_row_text truth_row_text truth_rows_text state_rows_text state_constant_text condition_constant_text is_looked_up
    output_table_text constants_text not_zero_text all_zero_text path_text
gates-text = (refl, refl, refl, refl, refl)
