-- Lists of changes of the inputs. A history has the newest change first; a list in the order of time is read from its
-- front.
use Rattle.std.specs.Prelude.{ℕ, ◌<◌, Bool, not, List, [], ◌∷◌, replicate, slice_index_or, slice_set, ⊤}
use Rattle.trit_cubes.specs.declared.trits.Trit.{Trit}
use Rattle.trit_cubes.specs.declared.trits.Trit.TheVariants.{Unknown}
use Rattle.trit_cubes.specs.Filling.{same}
use Rattle.cell_machine.specs.declared.changes.Change.{Change}

-- The values of n inputs after a history. All begin at X (this project's rule).
abbrev pub inputs_after : ℕ → List Change → List Trit
inputs_after n [] = replicate n Unknown
inputs_after n (c ∷ h) = slice_set (inputs_after n h) c.pin c.to

-- the value that the changed input had, of the inputs before the change
abbrev pub value_before : List Trit → Change → Trit
value_before v c = slice_index_or v c.pin Unknown

-- Whether a change of these inputs is an event: it gives its input another value. A change that is no event alters
-- nothing and reports nothing (this project's rule).
abbrev pub is_event : List Trit → Change → Bool
is_event v c = not (same (value_before v c) c.to)

-- this time is after that of the newest change
abbrev pub ComesAfter : ℕ → List Change → Type 0
ComesAfter at [] = ⊤
ComesAfter at (c ∷ h) = c.at < at

-- a history of n inputs with times that rise strictly
abbrev pub IsProper : ℕ → List Change → Type 0
IsProper n [] = ⊤
IsProper n (c ∷ h) = (c.pin < n) × (ComesAfter c.at h) × IsProper n h

-- changes, the oldest first, that go on from a history of n inputs with times that rise strictly
abbrev pub IsProperFrom : ℕ → List Change → List Change → Type 0
IsProperFrom n h [] = ⊤
IsProperFrom n h (c ∷ cs) = (c.pin < n) × (ComesAfter c.at h) × IsProperFrom n (c ∷ h) cs
