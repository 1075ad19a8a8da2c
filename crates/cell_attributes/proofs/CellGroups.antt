-- The state groups of a cell of which nothing is refused keep the rules of cells.
use Rattle.std.proofs.Common.{◌≡◌, ℕ, suc, ◌+◌, ◌*◌, ◌≤◌, Bool, true, false, List, [], ◌∷◌, ◌++◌, length, map, refl, sym, ap}
use Rattle.std.proofs.Common.{subst, arith, IsTrue, Option, Some, None, nat_le, slice_index}
use Rattle.std.specs.Prelude.{flat_map, if◌then◌else◌}
use Rattle.std.proofs.lemmas.Bool.{and_from, and_parts, le-leb}
use Rattle.liberty_groups.specs.declared.tree.Group.{Group}
use Rattle.cell_machine.specs.declared.groups.StateGroup.{StateGroup}
use Rattle.cell_machine.specs.declared.pins.Pin.{Pin}
use Rattle.cell_machine.specs.CellRules.{is_group, are_groups_from, are_distinct}
use Rattle.cell_attributes.specs.declared.state_readings.StateReading.{StateReading}
use Rattle.cell_attributes.specs.Groups.{inner_groups, state_groups}
use Rattle.cell_attributes.specs.Pins.{pins_of, pin_names}
use Rattle.cell_attributes.specs.States.{Arguments, StateName, arguments_of, is_table, states_in, states_of}
use Rattle.cell_attributes.specs.Vocabulary.{Vocabulary, vocabulary}
use Rattle.cell_attributes.specs.Texts.{class_at}
use Rattle.cell_attributes.specs.TextFaults.{malformed_in, unknown_in, coupled_in}
use Rattle.cell_attributes.specs.StateReadings.{state_reading, reading_of_texts, reading_of_table}
use Rattle.cell_attributes.specs.Limits.{state_at, no_support_in, wide_support_in}
use Rattle.cell_attributes.specs.Building.{kind_of_texts, table_groups, groups_with, groups_in, groups_from}
use Rattle.cell_attributes.specs.CellLaws.{numbers_of, groups_of, CellMeetsNone, GroupsKeepRules}
use Rattle.cell_attributes.proofs.Distinct.{nil_parts, pins_are_distinct}
use Rattle.cell_attributes.proofs.PinRules.{within_limit}
use Rattle.cell_attributes.proofs.GroupCount.{count_with, group_count}
use Rattle.cell_attributes.proofs.Numbering.{NumberIs, numbers_are}
use Rattle.cell_attributes.proofs.OwnNames.{OwnIn, OwnNumbers, own_numbers_of}
use Rattle.cell_attributes.proofs.GroupRules.{IsSoundReading, sound_reading}
use Rattle.cell_attributes.proofs.TextGroups.{text_group_holds}
use Rattle.cell_attributes.proofs.TableGroups.{table_groups_hold}

-- where no name is declared twice, the names of the pins are distinct
pub pins_distinct : (cell : Group) → CellMeetsNone cell → IsTrue (are_distinct (pin_names (pins_of cell)))
pins_distinct cell none = pins_are_distinct (inner_groups cell.items) none.none_twice

groups_append :
    (pins : List Pin) (n : ℕ) (xs ys : List StateGroup) → IsTrue (are_groups_from pins n xs)
    → IsTrue (are_groups_from pins (n + 2 * length xs) ys) → IsTrue (are_groups_from pins n (xs ++ ys))
groups_append pins n [] ys h k =
    let here : n + 2 * 0 ≡ n = omega arith in subst (λ m. IsTrue (are_groups_from pins m ys)) here k
groups_append pins n (x ∷ xs) ys h k =
    let parts = and_parts (is_group pins n x) (are_groups_from pins (n + 2) xs) h in
    let place : n + 2 * suc (length xs) ≡ n + 2 + 2 * length xs = omega arith in
    and_from (is_group pins n x) (are_groups_from pins (n + 2) (xs ++ ys)) parts.0
    (groups_append pins (n + 2) xs ys parts.1 (subst (λ m. IsTrue (are_groups_from pins m ys)) place k))

-- a reading of which nothing is refused
record IsUnrefused (r : StateReading) : Type 0 where
  pub sound : IsSoundReading r
  pub some : no_support_in r ≡ []
  pub few : wide_support_in r ≡ []

module _
    (states : List StateName) (pins : List Pin) (v : Vocabulary) (to : List ℕ)
    (numbers : (i : ℕ) → NumberIs states pins v.names i (slice_index to i) (class_at v.classes i)) where
  -- the groups that a reading gives keep the rules
  by_arguments :
      (group : Group) (n : ℕ) (arguments : Option Arguments) → arguments_of group ≡ arguments
      → (table : Bool) → is_table group ≡ table → OwnIn states (length pins) n table arguments
      → IsUnrefused (state_reading v (length pins) group)
      → IsTrue (are_groups_from pins n (groups_with to group (state_reading v (length pins) group) arguments))
  by_arguments group n None e table t own h = refl
  by_arguments group n (Some a) e true t own h =
      let same : state_reading v (length pins) group ≡ reading_of_table v (length pins) group = rw t refl in
      let u : IsUnrefused (reading_of_table v (length pins) group) = subst (λ r. IsUnrefused r) same h in
      let made : groups_with to group (reading_of_table v (length pins) group) (Some a)
      ≡ table_groups (reading_of_table v (length pins) group) a =
      ap (λ b. if b then table_groups (reading_of_table v (length pins) group) a
      else record {
        kind = kind_of_texts to group (reading_of_table v (length pins) group);
        support =
            (reading_of_table v (length pins) group).support;
      } ∷ []) t in
      subst (λ r. IsTrue (are_groups_from pins n (groups_with to group r (Some a)))) (sym same)
      (subst (λ gs. IsTrue (are_groups_from pins n gs)) (sym made)
      (table_groups_hold states pins v to numbers group a n e t u.sound u.some u.few))
  by_arguments group n (Some a) e false t own h =
      let same : state_reading v (length pins) group ≡ reading_of_texts v (length pins) group = rw t refl in
      let u : IsUnrefused (reading_of_texts v (length pins) group) = subst (λ r. IsUnrefused r) same h in
      let one : StateGroup = record {
        kind = kind_of_texts to group (reading_of_texts v (length pins) group);
        support = (reading_of_texts v (length pins) group).support;
      } in
      let made : groups_with to group (reading_of_texts v (length pins) group) (Some a) ≡ one ∷ [] =
      ap (λ b. if b then table_groups (reading_of_texts v (length pins) group) a else one ∷ []) t in
      subst (λ r. IsTrue (are_groups_from pins n (groups_with to group r (Some a)))) (sym same)
      (subst (λ gs. IsTrue (are_groups_from pins n gs)) (sym made)
      (and_from (is_group pins n one) true
      (text_group_holds states pins v to numbers group a n e t own.0 own.1 u.sound u.some u.few) refl))

  all_groups :
      (groups : List Group) (n : ℕ) → OwnNumbers states (length pins) n groups
      → flat_map malformed_in (map (state_reading v (length pins)) groups) ≡ []
      → flat_map unknown_in (map (state_reading v (length pins)) groups) ≡ []
      → flat_map coupled_in (map (state_reading v (length pins)) groups) ≡ []
      → flat_map no_support_in (map (state_reading v (length pins)) groups) ≡ []
      → flat_map wide_support_in (map (state_reading v (length pins)) groups) ≡ []
      → IsTrue (are_groups_from pins n (groups_from to groups (map (state_reading v (length pins)) groups)))
  all_groups [] n own a b c d e = refl
  all_groups (group ∷ groups) n own a b c d e =
      let r : StateReading = state_reading v (length pins) group in
      let rest : List StateReading = map (state_reading v (length pins)) groups in
      let pa = nil_parts (malformed_in r) (flat_map malformed_in rest) a in
      let pb = nil_parts (unknown_in r) (flat_map unknown_in rest) b in
      let pc = nil_parts (coupled_in r) (flat_map coupled_in rest) c in
      let pd = nil_parts (no_support_in r) (flat_map no_support_in rest) d in
      let pe = nil_parts (wide_support_in r) (flat_map wide_support_in rest) e in
      let here : IsTrue (are_groups_from pins n (groups_in to group r)) =
      by_arguments group n (arguments_of group) refl (is_table group) refl own.0
      (record { sound = sound_reading r pa.0 pb.0 pc.0; some = pd.0; few = pe.0 }) in
      let later = all_groups groups (n + 2 * length (states_in group)) own.1 pa.1 pb.1 pc.1 pd.1 pe.1 in
      let count : length (groups_in to group r) ≡ length (states_in group) = count_with to group r (arguments_of group) in
      groups_append pins n (groups_in to group r) (groups_from to groups rest) here
      (subst (λ l. IsTrue (are_groups_from pins (n + 2 * l) (groups_from to groups rest))) (sym count) later)

pub groups_keep_rules : GroupsKeepRules
groups_keep_rules cell none =
    let many : length (flat_map state_at (state_groups cell)) ≤ 16 =
    within_limit 16 (flat_map state_at (state_groups cell)) none.few_states in
    let same : length (groups_of cell) ≡ length (flat_map state_at (state_groups cell)) =
    group_count (numbers_of cell) (state_reading (vocabulary cell) (length (pins_of cell))) (state_groups cell) in
    let few : length (groups_of cell) ≤ 16 = omega arith in
    and_from (nat_le (length (groups_of cell)) 16) (are_groups_from (pins_of cell) (length (pins_of cell)) (groups_of cell))
    (le-leb (length (groups_of cell)) 16 few)
    (all_groups (states_of cell) (pins_of cell) (vocabulary cell) (numbers_of cell) (numbers_are cell (pins_distinct cell none))
    (state_groups cell) (length (pins_of cell)) (own_numbers_of cell (length (pins_of cell)) none.none_twice)
    none.states_read none.states_known none.states_apart none.some_support none.narrow_support)
