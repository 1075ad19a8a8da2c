-- Groups whose steps the inputs before a change decide by whether a clock rises.
use Rattle.std.proofs.Common.{◌≡◌, ℕ, Bool, true, false, not, ◌&&◌, cond, List, length, Some, refl, sym, ap, ◌∙◌}
use Rattle.std.specs.Prelude.{slice_get}
use Rattle.std.specs.Option.{option_map_or}
use Rattle.trit_cubes.specs.Filling.{trit_of}
use Rattle.bool_functions.specs.Tree.{value_of}
use Rattle.cell_machine.specs.declared.groups.Clocked.{Clocked}
use Rattle.cell_machine.specs.declared.groups.Gated.{Gated}
use Rattle.cell_machine.specs.declared.groups.GroupKind.{GroupKind}
use Rattle.cell_machine.specs.declared.groups.GroupKind.TheVariants as kind
use Rattle.cell_machine.specs.declared.groups.StateGroup.{StateGroup}
use Rattle.cell_machine.specs.Names.{state_name}
use Rattle.cell_machine.specs.Step.{kind_step, cleared_step}
use Rattle.cell_machine.specs.CellData.{CellData}
use Rattle.cell_machine.specs.CellTrace.{step_at}
use Rattle.cell_machine.specs.Values.{no_values, written, with_state}
use Rattle.cell_machine.proofs.GroupSteps.{step_at-is}
use Rattle.step_tables.specs.GroupPoints.{clock_of, clock_at, rises, MovesByClock, steps_between}

-- the clock of the group that has this number
pub clock_at-is :
    (cell : CellData) (i : ℕ) (group : StateGroup) (k : GroupKind) (point : List Bool)
    → slice_get cell.groups i ≡ Some group → group.kind ≡ k
    → clock_at cell i point ≡ clock_of k (written no_values group.support point)
clock_at-is cell i group k point at is =
    ap (λ o. option_map_or (λ (g : StateGroup). clock_of g.kind (written no_values g.support point)) o false) at
    ∙ ap (λ x. clock_of x (written no_values group.support point)) is

clocked_moves :
    (k : Clocked) (name : ℕ) (before other after : List Bool) (s : Bool)
    → (not (clock_of (kind.Ff k) before) && clock_of (kind.Ff k) after)
    ≡ (not (clock_of (kind.Ff k) other) && clock_of (kind.Ff k) after)
    → kind_step (kind.Ff k) name before after s ≡ kind_step (kind.Ff k) name other after s
clocked_moves k name before other after s h =
    ap (λ r. cleared_step k.clear k.preset k.both1 after s
    (cond r (trit_of (value_of (with_state name s after) k.next_state)) (trit_of s))) h

-- a step is that of the group's kind
step_by :
    (cell : CellData) (i : ℕ) (group : StateGroup) (k : GroupKind) (before after : List Bool) (s : Bool)
    → slice_get cell.groups i ≡ Some group → group.kind ≡ k
    → step_at cell i before after s
    ≡ kind_step k (state_name (length cell.pins) i) (written no_values group.support before)
    (written no_values group.support after) s
step_by cell i group k before after s at is =
    ap (λ step. step before after s) (step_at-is cell i group at)
    ∙ ap (λ x. kind_step x (state_name (length cell.pins) i) (written no_values group.support before)
    (written no_values group.support after) s) is

-- a flip-flop
pub moves_clocked :
    (cell : CellData) (i : ℕ) (group : StateGroup) (k : Clocked) → slice_get cell.groups i ≡ Some group → group.kind ≡ kind.Ff k
    → MovesByClock cell i
moves_clocked cell i group k at is = record {
  same_steps = λ before other after s h.
      let clock : (point : List Bool) → clock_at cell i point ≡ clock_of (kind.Ff k) (written no_values group.support point)
      = λ point. clock_at-is cell i group (kind.Ff k) point at is in
      step_by cell i group (kind.Ff k) before after s at is
      ∙ (clocked_moves k (state_name (length cell.pins) i) (written no_values group.support before)
      (written no_values group.support other) (written no_values group.support after) s
      (sym (λ j. not (clock before j) && clock after j) ∙ (h ∙ (λ j. not (clock other j) && clock after j)))
      ∙ sym (step_by cell i group (kind.Ff k) other after s at is));
}

-- a latch, which has no clock
pub moves_gated :
    (cell : CellData) (i : ℕ) (group : StateGroup) (k : Gated) → slice_get cell.groups i ≡ Some group → group.kind ≡ kind.Latch k
    → MovesByClock cell i
moves_gated cell i group k at is = record {
  same_steps = λ before other after s h.
      step_by cell i group (kind.Latch k) before after s at is ∙ sym (step_by cell i group (kind.Latch k) other after s at is);
}

-- the steps from two points where the clock rises from both or from neither
pub steps_same :
    (cell : CellData) (i : ℕ) → MovesByClock cell i → (before other after : List Bool)
    → rises cell i before after ≡ rises cell i other after → steps_between cell i before after ≡ steps_between cell i other after
steps_same cell i moves before other after h =
    λ j. record { «zero» = moves.same_steps before other after false h j; one = moves.same_steps before other after true h j }

pub no_rise : (b a : Bool) → a ≡ false → (not b && a) ≡ false
no_rise b true e = absurd cc
no_rise true false e = refl
no_rise false false e = refl
