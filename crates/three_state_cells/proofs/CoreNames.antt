-- The name of a core is one that a cell may bear.
use Rattle.std.proofs.Common.{ℕ, ◌^◌, ◌<◌, ◌≤◌, ◌&&◌, List, [], ◌∷◌, ◌++◌, length, IsTrue, refl, arith, codes, decimal, nat_lt}
use Rattle.std.proofs.Common.{nat_le}
use Rattle.std.specs.List.{list_all}
use Rattle.std.specs.Str.Parse.{AllDigits}
use Rattle.std.proofs.lemmas.Bool.{and_parts, and_from, le-leb, lt-ltb}
use Rattle.std.proofs.lemmas.Fmt.{decimal_is_IsNumeral, length-decimal-le}
use Rattle.std.proofs.lemmas.Str.Parse.{digit_from_value}
use Rattle.cell_machine.specs.declared.pins.Pin.{Pin}
use Rattle.cell_machine.specs.declared.groups.StateGroup.{StateGroup}
use Rattle.cell_machine.specs.declared.outputs.OutputPin.{OutputPin}
use Rattle.cell_machine.specs.declared.checks.Check.{Check}
use Rattle.cell_machine.specs.declared.arcs.Arc.{Arc}
use Rattle.cell_machine.specs.CellRules.{is_name, is_cell, are_pins, are_groups, are_outputs, are_checks, are_arcs}
use Rattle.three_state_cells.specs.DrivenCells.{core_name}

digit_prints : (d : ℕ) → 48 ≤ d → d ≤ 57 → IsTrue (nat_lt 32 d && nat_lt d 127)
digit_prints d low high = and_from (nat_lt 32 d) (nat_lt d 127) (lt-ltb 32 d (omega arith)) (lt-ltb d 127 (omega arith))

digits_print : (ds : List ℕ) → AllDigits 10 ds → IsTrue (list_all (λ b. nat_lt 32 b && nat_lt b 127) ds)
digits_print [] h = refl
digits_print (d ∷ ds) h =
    let bounds = digit_from_value d h.0 in
    and_from (nat_lt 32 d && nat_lt d 127) (list_all (λ b. nat_lt 32 b && nat_lt b 127) ds)
    (digit_prints d (omega (arith, bounds)) (omega (arith, bounds))) (digits_print ds h.1)

below_digits : (n : ℕ) → n < 2 ^ 64 → n < 10 ^ 20
below_digits n h = omega (arith, h)

pub core_name_is_name : (n : ℕ) → n < 2 ^ 64 → IsTrue (is_name (core_name n))
core_name_is_name n h =
    let few : length (decimal n) ≤ 20 = length-decimal-le 20 n (omega arith) (below_digits n h) h in
    let some : IsTrue (nat_lt 0 (length (codes "-z" ++ decimal n))) = lt-ltb 0 (length (codes "-z" ++ decimal n)) (omega arith) in
    let short : IsTrue (nat_le (length (codes "-z" ++ decimal n)) 255) =
    le-leb (length (codes "-z" ++ decimal n)) 255 (omega arith) in
    let printed : IsTrue (list_all (λ b. nat_lt 32 b && nat_lt b 127) (decimal n)) =
    digits_print (decimal n) (decimal_is_IsNumeral n h).0.1 in
    rw some (rw short printed)

-- a cell keeps the rules of cells under another name
pub renamed_keeps_rules :
    (old new : List ℕ) (pins : List Pin) (groups : List StateGroup) (outputs : List OutputPin) (checks : List Check)
    (arcs : List Arc)
    → IsTrue (is_name new) → IsTrue (is_cell old pins groups outputs checks arcs)
    → IsTrue (is_cell new pins groups outputs checks arcs)
renamed_keeps_rules old new pins groups outputs checks arcs h k =
    and_from (is_name new) _ h (and_parts (is_name old)
    (are_pins pins && (are_groups pins groups
    && (are_outputs pins groups outputs && (are_checks pins checks && are_arcs pins arcs)))) k).1
