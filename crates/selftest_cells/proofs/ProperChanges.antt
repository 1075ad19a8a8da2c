-- The drawn changes are changes of the inputs at times that rise strictly.
use Rattle.std.proofs.Common.{◌≡◌, ℕ, zero, suc, ◌<◌, ◌/◌, List, [], ◌∷◌, ◌++◌, refl, sym, subst, arith}
use Rattle.std.proofs.Math.Nat.{mod-lt}
use Rattle.cell_machine.specs.declared.changes.Change.{Change}
use Rattle.cell_machine.specs.History.{ComesAfter, IsProperFrom}
use Rattle.selftest_cells.specs.Draws.{next}
use Rattle.selftest_cells.specs.Changes.{number_before, time_before, change_at, first_changes, changes_of, ChangesAreProper}

-- the history after changes that go on from another
behind : List Change → List Change → List Change
behind h [] = h
behind h (c ∷ cs) = behind (c ∷ h) cs

behind-last : (h cs : List Change) (c : Change) → behind h (cs ++ c ∷ []) ≡ c ∷ behind h cs
unfolding behind
behind-last h [] c = refl
behind-last h (d ∷ cs) c = behind-last (d ∷ h) cs c

proper-last :
    (n : ℕ) (h cs : List Change) (c : Change)
    → IsProperFrom n h cs → c.pin < n → ComesAfter c.at (behind h cs) → IsProperFrom n h (cs ++ c ∷ [])
unfolding behind
proper-last n h [] c p below after = (below, after, tt)
proper-last n h (d ∷ cs) c p below after = (p.0, p.1, proper-last n (d ∷ h) cs c p.2 below after)

comes_after : (k n i : ℕ) → ComesAfter (time_before k (suc i)) (behind [] (first_changes k n i))
unfolding behind
comes_after k n zero = tt
comes_after k n (suc i) =
    subst (ComesAfter (time_before k (suc (suc i)))) (sym (behind-last [] (first_changes k n i) (change_at k n i))) (omega arith)

first_proper : (k n i : ℕ) → 0 < n → IsProperFrom n [] (first_changes k n i)
first_proper k n zero some = tt
first_proper k n (suc i) some =
    proper-last n [] (first_changes k n i) (change_at k n i) (first_proper k n i some)
    (mod-lt (next (number_before k i) / 65536) some)
    (comes_after k n i)

pub all_proper : ChangesAreProper
unfolding changes_of
all_proper k n some = first_proper k n 100 some
