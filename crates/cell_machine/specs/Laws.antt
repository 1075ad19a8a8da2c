-- Laws of the machine.
use Rattle.std.specs.Prelude.{◌≡◌, ◌≢◌, ℕ, ◌+◌, ◌<◌, ◌↔◌, IsTrue, false, ⊤, None, map, List, [], ◌∷◌, length, reverse, suc, take}
use Rattle.trit_cubes.specs.declared.trits.Trit.{Trit}
use Rattle.trit_cubes.specs.declared.trits.Trit.TheVariants.{Zero, One, Unknown}
use Rattle.cell_machine.specs.declared.outputs.OutputPin.{OutputPin}
use Rattle.cell_machine.specs.CellData.{CellData}
use Rattle.cell_machine.specs.CellTrace.{inputs_of, states_after, output_value, cell_line}
use Rattle.cell_machine.specs.declared.changes.Change.{Change}
use Rattle.cell_machine.specs.Report.{InputCheck, report, Reports, before}
use Rattle.cell_machine.specs.History.{inputs_after, value_before, is_event}
use Rattle.cell_machine.specs.Times.{times_after, report_by}
use Rattle.cell_machine.specs.Machine.{Step, insert, last, machine_step, forced}
use Rattle.cell_machine.specs.Lines.{Line, trace}

-- The last line of a trace is the line of the history of all its changes.
abbrev pub LastLineIsOfHistory : Type 0
LastLineIsOfHistory =
    (line : List Change → Line) (cs : List Change) (d : Line) → last d (trace line cs) ≡ line (reverse cs)

-- The trace of a front of some changes is the front of their trace.
abbrev pub FrontsHaveFronts : Type 0
FrontsHaveFronts =
    (line : List Change → Line) (cs : List Change) (n : ℕ) → trace line (take n cs) ≡ take (suc n) (trace line cs)

-- A check reports at a place of a list exactly where the history up to this place says so.
abbrev pub ReportIsWholeList : Type 0
ReportIsWholeList =
    (n : ℕ) (k : InputCheck) (cs : List Change) (place : ℕ)
    → place < length cs → IsTrue (report n k (before cs (place + 1))) ↔ Reports n k cs place

-- The kept times of each input's last change, last possible rise and last possible fall decide every report.
abbrev pub TimesDecideReports : Type 0
TimesDecideReports =
    (n : ℕ) (k : InputCheck) (h : List Change) (c : Change)
    → k.first.pin < n → k.second.pin < n
    → report n k (c ∷ h)
    ≡ report_by k (value_before (inputs_after n h) c) (inputs_after n (c ∷ h)) (times_after n h) c

-- Where inputs force a state, each change of one input to them gives the forced value, from every state.
abbrev pub ForcedIsStep : Type 0
ForcedIsStep =
    (step : Step) (p : ℕ) (a b : Trit) (others : List Trit) (s v : Trit)
    → forced step (insert p b others) ≡ v → v ≢ Unknown → machine_step step p a b others s ≡ v

-- A change of an input to the value that it has keeps the states and the outputs. No output has a delay, and no check
-- reports.
abbrev pub SameValueChangesNothing : Type 0
SameValueChangesNothing =
    (cell : CellData) (h : List Change) (c : Change)
    → is_event (inputs_after (inputs_of cell) h) c ≡ false
    → (states_after cell (c ∷ h) ≡ states_after cell h)
    × (cell_line cell (c ∷ h)
    ≡ record {
      values = (cell_line cell h).values;
      delays = map (λ _. None) cell.outputs;
      reports = map (λ _. false) cell.checks;
    })

-- a value of which no more is unknown: the same, or any where it was unknown
abbrev pub Refines : Trit → Trit → Type 0
Refines Zero u = u ≡ Zero
Refines One u = u ≡ One
Refines Unknown u = ⊤

-- the same at each place of two lists
abbrev pub AllRefine : List Trit → List Trit → Type 0
AllRefine [] [] = ⊤
AllRefine [] (u ∷ us) = ⊥
AllRefine (t ∷ ts) [] = ⊥
AllRefine (t ∷ ts) (u ∷ us) = Refines t u × AllRefine ts us

-- Inputs and states of which fewer are unknown give each output that was known the same value.
abbrev pub FewerUnknownsKeepOutputs : Type 0
FewerUnknownsKeepOutputs =
    (cell : CellData) (output : OutputPin) (v w states more : List Trit)
    → AllRefine v w → AllRefine states more
    → Refines (output_value cell.pins cell.groups v states output) (output_value cell.pins cell.groups w more output)
