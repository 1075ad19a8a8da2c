-- What the words of a node and the points of a group tell.
use Rattle.std.proofs.Common.{◌≡◌, ℕ, ◌+◌, ◌*◌, ◌/◌, ◌%◌, ◌^◌, ◌<◌, Bool, false, true, not, ◌&&◌, cond, nat_eq, List, length}
use Rattle.std.proofs.Common.{Some, None, refl, sym, ap, ◌∙◌, slice_get, get_or, subst, [], arith}
use Rattle.std.proofs.lemmas.Bool.{true≢false}
use Rattle.std.proofs.lemmas.Option.{slice_get_within, get_or_from_slice_get}
use Rattle.std.proofs.lemmas.List.FromFn.{length-map-range_with_len, get_or-map-range_with_len}
use Rattle.trit_cubes.specs.Filling.{bit}
use Rattle.trit_cubes.specs.Sets.{point_of}
use Rattle.statetables.specs.declared.table.StateTable.{StateTable}
use Rattle.statetables.specs.declared.lanes.StepWords.{StepWords}
use Rattle.statetables.specs.Lanes.{found_at}
use Rattle.cell_machine.specs.declared.groups.GroupKind.TheVariants as kind
use Rattle.cell_machine.specs.declared.groups.StateGroup.{StateGroup}
use Rattle.cell_machine.specs.CellData.{CellData}
use Rattle.cell_machine.specs.CellTrace.{step_at, support_at}
use Rattle.cell_machine.specs.Names.{state_name}
use Rattle.cell_machine.specs.Step.{kind_step, trit_or_unknown}
use Rattle.cell_machine.specs.Values.{no_values, written}
use Rattle.cell_machine.proofs.GroupSteps.{step_at-is, support_at-is}
use Rattle.step_tables.specs.Turned.{turned}
use Rattle.step_tables.specs.NodeSteps.{blocks, node_step, TellChange}
use Rattle.step_tables.specs.declared.group_points.GroupPoint.{GroupPoint}
use Rattle.step_tables.specs.declared.step_table.Kept.{Kept}
use Rattle.step_tables.specs.declared.step_table.Kept.TheVariants.{Points, Words, Nothing}
use Rattle.step_tables.specs.GroupPoints.{clock_at, rises, steps_between, point_at, points_from, MovesByClock, ArePoints}
use Rattle.step_tables.specs.Kept.{TellSteps, IsKept}
use Rattle.step_tables.proofs.ClockLemmas.{steps_same}

-- the step of the node that has this number
node_step-is :
    (cell : CellData) (i : ℕ) (group : StateGroup) (table : StateTable) (node : ℕ) (inputs : List ℕ)
    → slice_get cell.groups i ≡ Some group → group.kind ≡ kind.Table table node inputs
    → node_step table node inputs group.support ≡ step_at cell i
node_step-is cell i group table node inputs at is =
    sym (λ j before after s. kind_step (is j) (state_name (length cell.pins) i) (written no_values group.support before)
    (written no_values group.support after) s)
    ∙ sym (step_at-is cell i group at)

pub words_tell :
    (cell : CellData) (i : ℕ) (group : StateGroup) (table : StateTable) (node : ℕ) (inputs : List ℕ) (places : ℕ)
    (words : List StepWords) → slice_get cell.groups i ≡ Some group → group.kind ≡ kind.Table table node inputs
    → places ≡ length (support_at cell i) → length words ≡ 18 * blocks (length group.support)
    → ((j : ℕ) (w : StepWords) → slice_get words j ≡ Some w → TellChange table node inputs group.support j w)
    → TellSteps cell i places words
words_tell cell i group table node inputs places words at is are all tell =
    let long : length group.support ≡ places = sym (are ∙ ap length (support_at-is cell i group at)) in
    let steps = node_step-is cell i group table node inputs at is in
    record {
      all = all ∙ ap (λ n. 18 * blocks n) long;
      tell = λ j w here k below.
          ap trit_or_unknown ((tell j w here).found k below)
          ∙ (λ t. steps t (turned (j % 18 / 2) (point_of (long t) (64 * (j / 18) + k))) (point_of (long t) (64 * (j / 18) + k))
          (nat_eq (j % 2) 1));
    }

bit_back : (s : Bool) → nat_eq (bit s) 1 ≡ s
bit_back true = refl
bit_back false = refl

bit_small : (s : Bool) → bit s < 2
bit_small true = omega arith
bit_small false = omega arith

-- the word of a change
pub word_told :
    (cell : CellData) (i places : ℕ) (words : List StepWords) (place after : ℕ) (s : Bool) (w : StepWords) (n : ℕ)
    → TellSteps cell i places words → place < 9 → n ≡ 18 * (after / 64) + 2 * place + bit s → slice_get words n ≡ Some w
    → trit_or_unknown (found_at (after % 64) w None)
    ≡ step_at cell i (turned place (point_of places after)) (point_of places after) s
word_told cell i places words place after s w n told few is at =
    let small = bit_small s in
    let block : n / 18 ≡ after / 64 = omega (arith, is, few, small) in
    let change : n % 18 / 2 ≡ place = omega (arith, is, few, small) in
    let parity : n % 2 ≡ bit s = omega (arith, is, few, small) in
    let here : 64 * (n / 18) + after % 64 ≡ after = omega (arith, block) in
    let state : nat_eq (n % 2) 1 ≡ s = ap (λ b. nat_eq b 1) parity ∙ bit_back s in
    told.tell n w at (after % 64) (omega arith)
    ∙ (λ t. step_at cell i (turned (change t) (point_of places (here t))) (point_of places (here t)) (state t))

-- there is such a word
pub word_there :
    (places length place after n : ℕ) (s : Bool) → length ≡ 18 * blocks places → place < 9 → after < 2 ^ places
    → n ≡ 18 * (after / 64) + 2 * place + bit s → n < length
word_there places length place after n s all few below is =
    let small = bit_small s in
    let before : after / 64 < (2 ^ places + 63) / 64 = omega (arith, below) in
    omega (arith, all, few, is, small, before)

no_self_rise : (b : Bool) → (not b && b) ≡ false
no_self_rise true = refl
no_self_rise false = refl

risen_parts : (b a : Bool) → (not b && a) ≡ true → (b ≡ false) × (a ≡ true)
risen_parts false true h = (refl, refl)
risen_parts true a h = absurd (true≢false (sym h))
risen_parts false false h = absurd (true≢false (sym h))

-- the points of a group that moves by its clock, where this point is one at which the clock is 0 if anywhere
pub points_are :
    (cell : CellData) (i places low : ℕ) (points : List GroupPoint) → MovesByClock cell i → points ≡ points_from cell i places low
    → ((k : ℕ) → k < 2 ^ places → clock_at cell i (point_of places k) ≡ false → clock_at cell i (point_of places low) ≡ false)
    → ArePoints cell i places points
points_are cell i places low points moves is is_low =
    let f = λ (j : ℕ). point_at cell i (point_of places low) (point_of places j) in
    let long : length points ≡ 2 ^ places = ap length is ∙ length-map-range_with_len f 0 (2 ^ places) in
    let entry_is : (k : ℕ) (h : GroupPoint) → slice_get points k ≡ Some h → h ≡ f k = λ k h at.
    let inside : k < length points = slice_get_within points k h at in
    sym (get_or_from_slice_get points k h h at)
    ∙ (ap (λ (xs : List GroupPoint). get_or xs k h) is
    ∙ get_or-map-range_with_len f 0 (2 ^ places) k k h (omega (arith, inside, long)) (omega arith)) in
    record {
      all = long;
      clocks = λ k h at. ap (λ (x : GroupPoint). x.clock) (entry_is k h at);
      held = λ k before h at none.
          ap (λ (x : GroupPoint). x.held) (entry_is k h at)
          ∙ steps_same cell i moves (point_of places k) (point_of places before) (point_of places k)
          (no_self_rise (clock_at cell i (point_of places k)) ∙ sym none);
      risen = λ k before h at below one.
          let parts = risen_parts (clock_at cell i (point_of places before)) (clock_at cell i (point_of places k)) one in
          let zero = is_low before below parts.0 in
          ap (λ (x : GroupPoint). x.risen) (entry_is k h at)
          ∙ steps_same cell i moves (point_of places low) (point_of places before) (point_of places k)
          (λ j. not ((zero ∙ sym parts.0) j) && clock_at cell i (point_of places k));
    }

-- what the clocks of two points say of the steps from the one to the other
by_clocks :
    (cell : CellData) (i places before after : ℕ) (points : List GroupPoint) (to : GroupPoint) → ArePoints cell i places points
    → before < 2 ^ places → slice_get points after ≡ Some to
    → (r : Bool) → rises cell i (point_of places before) (point_of places after) ≡ r
    → cond r to.risen to.held ≡ steps_between cell i (point_of places before) (point_of places after)
by_clocks cell i places before after points to are below at true e = are.risen after before to at below e
by_clocks cell i places before after points to are below at false e = are.held after before to at e

pub points_tell :
    (cell : CellData) (i places before after : ℕ) (points : List GroupPoint) (from to : GroupPoint)
    → ArePoints cell i places points → before < 2 ^ places
    → slice_get points before ≡ Some from → slice_get points after ≡ Some to
    → cond (not from.clock && to.clock) to.risen to.held ≡ steps_between cell i (point_of places before) (point_of places after)
points_tell cell i places before after points from to are below at_from at_to =
    by_clocks cell i places before after points to are below at_to (not from.clock && to.clock)
    (sym (λ j. not (are.clocks before from at_from j) && are.clocks after to at_to j))

abbrev points_in : Kept → List GroupPoint
points_in (Points points) = points
points_in (Words words) = []
points_in Nothing = []

abbrev words_in : Kept → List StepWords
words_in (Points points) = []
words_in (Words words) = words
words_in Nothing = []

pub points_kept : (cell : CellData) (i places : ℕ) (points : List GroupPoint) → ArePoints cell i places points
    → IsKept cell i places (Points points)
points_kept cell i places points are = record {
  of_points = λ others is. subst (ArePoints cell i places) (ap points_in is) are;
  of_words = λ words is. absurd cc;
}

pub words_kept : (cell : CellData) (i places : ℕ) (words : List StepWords) → TellSteps cell i places words
    → IsKept cell i places (Words words)
words_kept cell i places words tell = record {
  of_points = λ points is. absurd cc;
  of_words = λ others is. subst (TellSteps cell i places) (ap words_in is) tell;
}

pub nothing_kept : (cell : CellData) (i places : ℕ) → IsKept cell i places Nothing
nothing_kept cell i places = record {
  of_points = λ points is. absurd cc;
  of_words = λ words is. absurd cc;
}
