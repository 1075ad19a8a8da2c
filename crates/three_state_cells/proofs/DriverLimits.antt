-- The paths of what drives the three-state outputs of a cell keep limits.
use Rattle.std.proofs.Common.{◌≡◌, ℕ, suc, ◌+◌, ◌*◌, ◌≤◌, Bool, true, ◌&&◌, List, [], ◌∷◌, ◌++◌, length, map, refl, sym, subst}
use Rattle.std.proofs.Common.{arith, length-append, IsTrue, nat_le}
use Rattle.std.specs.Prelude.{All}
use Rattle.std.proofs.Math.Nat.{suc-mul}
use Rattle.std.specs.List.{list_all}
use Rattle.std.proofs.lemmas.Bool.{and_parts, and_from, le-leb, leb-true}
use Rattle.std.proofs.lemmas.List.{map-append, length-map}
use Rattle.std.proofs.lemmas.List.Elements.{All-nil, All-cons, All-append}
use Rattle.cell_machine.specs.declared.pins.Pin.{Pin}
use Rattle.cell_machine.specs.declared.arcs.Arc.{Arc}
use Rattle.cell_machine.specs.CellRules.{longest_time, is_in_order, is_input_pin, is_output_pin, is_condition, is_arc}
use Rattle.cell_attributes.proofs.Turns.{count_shown}
use Rattle.timing_arcs.specs.declared.subject.Subject.{Subject}
use Rattle.cell_reader.specs.PinTimings.{subject_at, arcs_in}
use Rattle.cell_reader.specs.CellTexts.{subject_of}
use Rattle.driven_traces.specs.declared.delays.DrivePath.{DrivePath}
use Rattle.core_groups.specs.Outputs.{ThreeStateOutput, three_state_outputs}
use Rattle.core_groups.specs.CoreGroups.{core_group}
use Rattle.three_state_cells.specs.Timing.{output_number, answer_of, path_of, paths_of, paths_from, driver_of}
use Rattle.three_state_cells.specs.DrivenCells.{floating_of, data_by, driven_data}
use Rattle.three_state_cells.specs.Laws.{HasTimes, KeepsLimits, DriversKeepLimits}
use Rattle.three_state_cells.proofs.FewArcs.{driver_arcs_are_sound, driver_arcs_are_few}

abbrev drive_of : DrivePath → ℕ
drive_of path = path.drive

-- Of the paths to one output.

arc_times : (pins : List Pin) (drive : ℕ) (arc : Arc) → is_arc pins arc ≡ true → HasTimes (path_of pins drive arc)
arc_times pins drive arc h =
    let condition : Bool = is_condition pins (arc.from ∷ []) arc.condition in
    let falls : Bool = nat_le arc.fall longest_time && condition in
    let rises : Bool = nat_le arc.rise longest_time && falls in
    let a = and_parts (is_input_pin pins arc.from) (is_output_pin pins arc.to && rises) h in
    let b = and_parts (is_output_pin pins arc.to) rises a.1 in
    let c = and_parts (nat_le arc.rise longest_time) falls b.1 in
    let d = and_parts (nat_le arc.fall longest_time) condition c.1 in
    record { rise = leb-true arc.rise longest_time c.0; fall = leb-true arc.fall longest_time d.0 }

paths_times : (pins : List Pin) (drive : ℕ) (arcs : List Arc) → list_all (is_arc pins) arcs ≡ true
    → All HasTimes (map (path_of pins drive) arcs)
paths_times pins drive [] h = All-nil HasTimes
paths_times pins drive (arc ∷ arcs) h =
    let parts = and_parts (is_arc pins arc) (list_all (is_arc pins) arcs) h in
    All-cons HasTimes (path_of pins drive arc) (map (path_of pins drive) arcs) (arc_times pins drive arc parts.0)
    (paths_times pins drive arcs parts.1)

-- Numbers in order.

abbrev AreAbove : ℕ → List ℕ → Type 0
AreAbove low xs = IsTrue (list_all (nat_le low) xs)

above_lower : (low other : ℕ) (xs : List ℕ) → low ≤ other → AreAbove other xs → AreAbove low xs
above_lower low other [] h k = refl
above_lower low other (x ∷ xs) h k =
    let parts = and_parts (nat_le other x) (list_all (nat_le other) xs) k in
    let above : other ≤ x = leb-true other x parts.0 in
    and_from (nat_le low x) (list_all (nat_le low) xs) (le-leb low x (omega arith)) (above_lower low other xs h parts.1)

one_before : (x : ℕ) (xs : List ℕ) → AreAbove x xs → IsTrue (is_in_order xs) → IsTrue (is_in_order (x ∷ xs))
one_before x [] h k = refl
one_before x (y ∷ ys) h k = and_from (nat_le x y) (is_in_order (y ∷ ys)) (and_parts (nat_le x y) (list_all (nat_le x) ys) h).0 k

block_above : (pins : List Pin) (drive : ℕ) (arcs : List Arc) (later : List ℕ) → AreAbove drive later
    → AreAbove drive (map drive_of (map (path_of pins drive) arcs) ++ later)
block_above pins drive [] later h = h
block_above pins drive (arc ∷ arcs) later h =
    and_from (nat_le drive drive) (list_all (nat_le drive) (map drive_of (map (path_of pins drive) arcs) ++ later))
    (le-leb drive drive (omega arith))
    (block_above pins drive arcs later h)

block_in_order :
    (pins : List Pin) (drive : ℕ) (arcs : List Arc) (later : List ℕ) → AreAbove drive later → IsTrue (is_in_order later)
    → IsTrue (is_in_order (map drive_of (map (path_of pins drive) arcs) ++ later))
block_in_order pins drive [] later h k = k
block_in_order pins drive (arc ∷ arcs) later h k =
    one_before drive (map drive_of (map (path_of pins drive) arcs) ++ later) (block_above pins drive arcs later h)
    (block_in_order pins drive arcs later h k)

-- Of the paths to some outputs.

module _ (core : Subject) where
  all_times : (drive : ℕ) (outputs : List ThreeStateOutput) → All HasTimes (paths_from core drive outputs)
  all_times drive [] = All-nil HasTimes
  all_times drive (output ∷ outputs) =
      All-append HasTimes (paths_of core drive output) (paths_from core (drive + 1) outputs)
      (paths_times core.pins drive (arcs_in (answer_of core output))
      (driver_arcs_are_sound (subject_at core output.pin) output.group (answer_of core output) refl))
      (all_times (drive + 1) outputs)

  drives_split :
      (drive : ℕ) (output : ThreeStateOutput) (outputs : List ThreeStateOutput)
      → map drive_of (paths_from core drive (output ∷ outputs))
      ≡ map drive_of (paths_of core drive output) ++ map drive_of (paths_from core (drive + 1) outputs)
  drives_split drive output outputs = map-append drive_of (paths_of core drive output) (paths_from core (drive + 1) outputs)

  all_above : (drive : ℕ) (outputs : List ThreeStateOutput) → AreAbove drive (map drive_of (paths_from core drive outputs))
  all_above drive [] = refl
  all_above drive (output ∷ outputs) =
      subst (AreAbove drive) (sym (drives_split drive output outputs))
      (block_above core.pins drive (arcs_in (answer_of core output)) (map drive_of (paths_from core (drive + 1) outputs))
      (above_lower drive (drive + 1) (map drive_of (paths_from core (drive + 1) outputs)) (omega arith)
      (all_above (drive + 1) outputs)))

  all_in_order : (drive : ℕ) (outputs : List ThreeStateOutput)
      → IsTrue (is_in_order (map drive_of (paths_from core drive outputs)))
  all_in_order drive [] = refl
  all_in_order drive (output ∷ outputs) =
      subst (λ (xs : List ℕ). IsTrue (is_in_order xs)) (sym (drives_split drive output outputs))
      (block_in_order core.pins drive (arcs_in (answer_of core output)) (map drive_of (paths_from core (drive + 1) outputs))
      (above_lower drive (drive + 1) (map drive_of (paths_from core (drive + 1) outputs)) (omega arith)
      (all_above (drive + 1) outputs))
      (all_in_order (drive + 1) outputs))

  more_paths : (n m own later all : ℕ) → own ≤ m → later ≤ n * m → all ≡ own + later → all ≤ suc n * m
  more_paths n m own later all h k e = let split : suc n * m ≡ n * m + m = suc-mul n m in omega (arith, h, k, e, split)

  all_few : (drive : ℕ) (outputs : List ThreeStateOutput)
      → length (paths_from core drive outputs) ≤ length outputs * length core.pins
  all_few drive [] = omega arith
  all_few drive (output ∷ outputs) =
      let own = driver_arcs_are_few (subject_at core output.pin) output.group (answer_of core output) refl in
      let paths : length (paths_of core drive output) ≡ length (arcs_in (answer_of core output)) =
      length-map (arcs_in (answer_of core output)) (path_of core.pins drive) in
      more_paths (length outputs) (length core.pins) (length (paths_of core drive output))
      (length (paths_from core (drive + 1) outputs))
      (length (paths_from core drive (output ∷ outputs))) (omega (arith, own, paths)) (all_few (drive + 1) outputs)
      (length-append (paths_of core drive output) (paths_from core (drive + 1) outputs))

driver_keeps : (core : Subject) (outputs : List ThreeStateOutput) → KeepsLimits (length core.pins) (driver_of core outputs)
unfolding driver_of
driver_keeps core outputs =
    let counted = count_shown (λ (output : ThreeStateOutput). output_number core.pins output.pin) outputs in
    record {
      times = all_times core 0 outputs;
      order = all_in_order core 0 outputs;
      few = subst (λ (n : ℕ). length (paths_from core 0 outputs) ≤ n * length core.pins) (sym counted) (all_few core 0 outputs);
    }

pub drivers_keep_limits : DriversKeepLimits
unfolding driven_data floating_of
drivers_keep_limits unit number cell = by (three_state_outputs cell)
  where
    by : (outputs : List ThreeStateOutput)
        → KeepsLimits (length (data_by unit number cell outputs).core.pins) (data_by unit number cell outputs).driver
    by [] = record { times = All-nil HasTimes; order = refl; few = omega arith }
    by (output ∷ outputs) = driver_keeps (subject_of unit (core_group cell)) (output ∷ outputs)
