-- The primes of a group's points, by the number of the pins in its support, and how many places an output has.
use Rattle.std.proofs.Common.{◌≡◌, ℕ, ◌+◌, ◌≤◌, suc, Bool, List, length, slice_get, slice_index_or, Some, sym, ◌∙◌, ap, subst}
use Rattle.std.proofs.Common.{arith}
use Rattle.std.specs.List.{All}
use Rattle.trit_cubes.specs.declared.trits.Trit.{Trit}
use Rattle.trit_cubes.specs.Sets.{gives, AreValuesOf}
use Rattle.trit_cubes.specs.Prime.{prime_list}
use Rattle.cell_machine.specs.declared.groups.StateGroup.{StateGroup}
use Rattle.cell_machine.specs.declared.outputs.OutputPin.{OutputPin}
use Rattle.cell_machine.specs.CellData.{CellData}
use Rattle.cell_machine.specs.CellTrace.{support_at, sources_at}
use Rattle.cell_machine.proofs.GroupSteps.{support_at-is}
use Rattle.cell_machine.proofs.OutputFacts.{sources_at-is}
use Rattle.cell_tables.proofs.TableLemmas.{cubes-long}

-- the pins of a group, counted
pub pins-counted :
    (cell : CellData) (g n : ℕ) (group : StateGroup)
    → n ≡ length group.support → slice_get cell.groups g ≡ Some group → n ≡ length (support_at cell g)
pins-counted cell g n group long is = long ∙ sym (ap length (support_at-is cell g group is))

-- the same and the two values of a change
pub places-counted :
    (cell : CellData) (g n : ℕ) (group : StateGroup)
    → n ≡ length group.support → slice_get cell.groups g ≡ Some group → n + 2 ≡ suc (suc (length (support_at cell g)))
places-counted cell g n group long is = omega (arith, pins-counted cell g n group long is)

-- an output's places are those of its support
pub sources-counted :
    (cell : CellData) (i n : ℕ) (output : OutputPin)
    → n ≡ length output.support → slice_get cell.outputs i ≡ Some output → n ≡ length (sources_at cell i)
sources-counted cell i n output long is = long ∙ sym (ap length (sources_at-is cell i output is))

-- the primes of the points at which a function gives a value, by another name of the number of places
pub primes-over :
    (n m : ℕ) (f : List Bool → Trit) (values : List Trit) (value : Trit) (cubes : List (List Trit))
    → n ≡ m → AreValuesOf m f values → ((g : List Bool → Trit) → AreValuesOf n g values → cubes ≡ prime_list n (gives value g))
    → cubes ≡ prime_list m (gives value f)
primes-over n m f values value cubes same are found =
    found f (subst (λ k. AreValuesOf k f values) (sym same) are) ∙ ap (λ k. prime_list k (gives value f)) same

-- primes over enough places are long enough
pub primes-wide :
    (k n : ℕ) (set : List Bool → Bool) (cubes : List (List Trit))
    → cubes ≡ prime_list n set → k ≤ n → All (λ (cube : List Trit). k ≤ length cube) cubes
primes-wide k n set cubes are room =
    subst (All (λ (cube : List Trit). k ≤ length cube)) (sym are)
    (λ i d l. let long : length (slice_index_or (prime_list n set) i d) ≡ n = cubes-long n set i d l in omega (arith, long, room))
