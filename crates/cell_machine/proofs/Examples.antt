-- The definitions computed on small examples.
use Rattle.std.proofs.Common.{◌≡◌, ℕ, List, [], ◌∷◌, refl, Bool, true, false, not, ◌&&◌, if◌then◌else◌}
use Rattle.trit_cubes.specs.declared.trits.Trit.{Trit}
use Rattle.trit_cubes.specs.declared.trits.Trit.TheVariants.{Zero, One, Unknown}
use Rattle.statetables.specs.declared.symbols.InSymbol.{InSymbol}
use Rattle.statetables.specs.declared.symbols.InSymbol.TheVariants as in_symbol
use Rattle.statetables.specs.declared.symbols.CurrentSymbol.{CurrentSymbol}
use Rattle.statetables.specs.declared.symbols.CurrentSymbol.TheVariants as current_symbol
use Rattle.statetables.specs.declared.symbols.NextSymbol.{NextSymbol}
use Rattle.statetables.specs.declared.symbols.NextSymbol.TheVariants as next_symbol
use Rattle.statetables.specs.declared.table.TableRow.{TableRow}
use Rattle.cell_machine.specs.declared.groups.GroupKind.TheVariants as kind
use Rattle.cell_machine.specs.declared.groups.StateGroup.{StateGroup}
use Rattle.cell_machine.specs.declared.checks.CheckKind.{CheckKind}
use Rattle.cell_machine.specs.declared.checks.CheckKind.TheVariants as check_kind
use Rattle.cell_machine.specs.declared.checks.Edge.{Edge}
use Rattle.cell_machine.specs.declared.checks.Edge.TheVariants as edge
use Rattle.cell_machine.specs.declared.changes.Change.{Change}
use Rattle.cell_machine.specs.Report.{InputCheck, report}
use Rattle.cell_machine.specs.Machine.{Step, machine_step, forced}
use Rattle.cell_machine.specs.Values.{no_values}
use Rattle.trit_cubes.specs.Filling.{trit_of}
use Rattle.cell_machine.specs.Step.{group_step}
use Rattle.cell_machine.specs.Delay.{least_delay}

-- A flip-flop of a clock and a data input.
abbrev flip_flop : Step
flip_flop (old ∷ d ∷ []) (new ∷ e ∷ []) s = (if not old && new then trit_of e else trit_of s)
flip_flop _ _ s = Unknown

-- a rise of the clock takes the data in
clock_rises : machine_step flip_flop 0 Zero One (One ∷ []) Unknown ≡ One
clock_rises = refl

-- a clock that goes from 0 to X may have risen: the state stays where both ways give it
clock_may_rise : machine_step flip_flop 0 Zero Unknown (One ∷ []) One ≡ One
clock_may_rise = refl

clock_may_change_it : machine_step flip_flop 0 Zero Unknown (Zero ∷ []) One ≡ Unknown
clock_may_change_it = refl

-- a clock that goes from 1 to X has not risen
clock_may_fall : machine_step flip_flop 0 One Unknown (Zero ∷ []) One ≡ One
clock_may_fall = refl

-- no inputs force the state of a flip-flop
flip_flop_is_free : forced flip_flop (One ∷ One ∷ []) ≡ Unknown
flip_flop_is_free = refl

-- A state with a clear alone.
abbrev clear_and_set : Step
clear_and_set before (clear ∷ []) s = (if clear then Zero else trit_of s)
clear_and_set before _ s = Unknown

-- the points around are those before the change: a clear that is on after it forces the state
clear_forces : forced clear_and_set (One ∷ []) ≡ Zero
clear_forces = refl

clear_may_force : forced clear_and_set (Unknown ∷ []) ≡ Unknown
clear_may_force = refl

-- a row of a table of two inputs and one node
abbrev table_row : InSymbol → InSymbol → CurrentSymbol → NextSymbol → TableRow
table_row one other current next = record { inputs = one ∷ other ∷ []; current = current ∷ []; next = next ∷ [] }

-- A toggle as a state table.
abbrev toggle : StateGroup
toggle =
    record {
      kind =
          kind.Table
          (record {
            inputs = 2;
            nodes = 1;
            rows =
                table_row in_symbol.Any in_symbol.High current_symbol.Any next_symbol.Low
                ∷ table_row in_symbol.Rise in_symbol.Low current_symbol.Low next_symbol.High
                ∷ table_row in_symbol.Rise in_symbol.Low current_symbol.High next_symbol.Low
                ∷ table_row in_symbol.NotRise in_symbol.Low current_symbol.Any next_symbol.Keep
                ∷ [];
          })
          0 (0 ∷ 1 ∷ []);
      support = 0 ∷ 1 ∷ [];
    }

-- each rise turns the state
toggle_rises :
    (machine_step (group_step 3 toggle) 0 Zero One (Zero ∷ []) Zero ≡ One)
    × (machine_step (group_step 3 toggle) 0 Zero One (Zero ∷ []) One ≡ Zero)
unfolding no_values
toggle_rises = (refl, refl)

toggle_falls : machine_step (group_step 3 toggle) 0 One Zero (Zero ∷ []) One ≡ One
unfolding no_values
toggle_falls = refl

toggle_is_reset : machine_step (group_step 3 toggle) 1 Zero One (Unknown ∷ []) Unknown ≡ Zero
unfolding no_values
toggle_is_reset = refl

-- the changes of inputs 0 and 1
abbrev set_at : ℕ → ℕ → Trit → Change
set_at time pin to = record { at = time; pin = pin; to = to }

-- a check of these two events, each a pin and an edge of it, with this limit
abbrev check_of : CheckKind → (ℕ × Edge) → (ℕ × Edge) → ℕ → Bool → InputCheck
check_of kind first second limit on =
    record {
      kind = kind;
      first = record { pin = first.0; edge = first.1 };
      second =
          record { pin = second.0; edge = second.1 };
      limit = limit;
      holds = λ _. on;
    }

-- A setup of 50 from any event of input 1 to a possible rise of input 0.
abbrev setup : Bool → InputCheck
setup = check_of check_kind.Setup (1, edge.Any) (0, edge.Rise) 50

-- a distance of 49 is a violation, one of 50 is none, and none counts without the condition
setup_reports : report 2 (setup true) (set_at 149 0 One ∷ set_at 100 1 One ∷ set_at 10 0 Zero ∷ []) ≡ true
setup_reports = refl

setup_is_met : report 2 (setup true) (set_at 150 0 One ∷ set_at 100 1 One ∷ set_at 10 0 Zero ∷ []) ≡ false
setup_is_met = refl

setup_is_off : report 2 (setup false) (set_at 149 0 One ∷ set_at 100 1 One ∷ set_at 10 0 Zero ∷ []) ≡ false
setup_is_off = refl

-- A least width of 100 of a high pulse of input 0.
abbrev width : InputCheck
width = check_of check_kind.Width (0, edge.Rise) (0, edge.Fall) 100 true

width_reports : report 2 width (set_at 450 0 Zero ∷ set_at 400 0 One ∷ set_at 200 0 Zero ∷ set_at 10 1 One ∷ []) ≡ true
width_reports = refl

-- A least period of 100 of input 0 compares edges of one kind.
abbrev period : InputCheck
period = check_of check_kind.Period (0, edge.Any) (0, edge.Any) 100 true

abbrev clock_until_60 : List Change
clock_until_60 = set_at 60 0 Zero ∷ set_at 20 0 One ∷ set_at 10 0 Zero ∷ []

falls_are_near : report 1 period clock_until_60 ≡ true
falls_are_near = refl

rises_are_far : report 1 period (set_at 130 0 One ∷ clock_until_60) ≡ false
rises_are_far = refl

falls_are_near_again : report 1 period (set_at 150 0 Zero ∷ set_at 130 0 One ∷ clock_until_60) ≡ true
falls_are_near_again = refl

-- the least over the active paths, and 0 where none is
least_of_two :
    least_delay Zero One
    (record { active = true; rise = 7; fall = 9 }
    ∷ record { active = false; rise = 1; fall = 1 }
    ∷ record { active = true; rise = 5; fall = 11 }
    ∷ [])
    ≡ 5
least_of_two = refl

least_of_falls :
    least_delay One Unknown
    (record { active = true; rise = 7; fall = 9 } ∷ record { active = true; rise = 5; fall = 11 } ∷ []) ≡ 9
least_of_falls = refl

least_of_none : least_delay Zero One (record { active = false; rise = 1; fall = 1 } ∷ []) ≡ 0
least_of_none = refl
