-- The value changes of a dump, in the order of their times. (IEEE 1364-2005, 18.2.1 and 18.2.2.)
use Rattle.std.specs.Prelude.{ℕ, ◌==◌, nat_le, Bool, true, false, List, [], ◌∷◌, ◌++◌, codes, decimal, slice_get, unwrap_or}
use Rattle.std.specs.Prelude.{Option, Some, None, if◌then◌else◌}
use Rattle.std.specs.Ordering.{nat_cmp}
use Rattle.std.specs.BTreeMap.{insert_entry, is_at}
use Rattle.std.specs.Map.{lookup}
use Rattle.wave_reports.specs.declared.sections.ValueChange.{ValueChange}

-- the time is that of the change before
abbrev pub is_last : Option ℕ → ℕ → Bool
is_last None at = false
is_last (Some last) at = last == at

unfoldable pub stamp : ℕ → List ℕ
stamp at = codes "#" ++ (decimal at ++ codes "\n")

-- a time, where it is not that of the change before
abbrev pub time_text : Option ℕ → ℕ → List ℕ
time_text last at = if is_last last at then [] else stamp at

-- the key with this number
abbrev pub key_at : List (List ℕ) → ℕ → List ℕ
key_at keys number = unwrap_or (slice_get keys number) []

unfoldable pub level_text : ℕ → List ℕ → ℕ → List ℕ
level_text section key value = (value ∷ []) ++ (decimal section ++ (key ++ codes "\n"))

-- a signal's level at a time
unfoldable pub change_text : ℕ → List (List ℕ) → Option ℕ → (ℕ × ℕ) × ValueChange → List ℕ
change_text section keys last change = time_text last change.0.0 ++ level_text section (key_at keys change.0.1) change.1.value

-- no line behind this one told of the signal what showed before
abbrev pub is_newest : Option ℕ → ℕ → Bool
is_newest None line = true
is_newest (Some latest) line = nat_le latest line

abbrev pub stands : List (ℕ × ℕ) → (ℕ × ℕ) × ValueChange → Bool
stands latest change = is_newest (lookup (is_at (nat_cmp change.0.1)) latest) change.1.line

-- What is told of signals, in the order of times, where these lines were the last to tell what has shown of each signal and this
-- is the last time. What a line tells does not show where a later line told of the same signal something that shows no later: the
-- new level takes the place of what is still to come. (IEEE 1076-1993, 8.4.1, transport delay.)
abbrev pub changes_text : ℕ → List (List ℕ) → List (ℕ × ℕ) → Option ℕ → List ((ℕ × ℕ) × ValueChange) → List ℕ
changes_text section keys latest last [] = []
changes_text section keys latest last (change ∷ more) =
    if stands latest change then
    change_text section keys last change ++ changes_text section keys (insert_entry nat_cmp latest change.0.1 change.1.line)
    (Some change.0.0) more
    else changes_text section keys latest last more
