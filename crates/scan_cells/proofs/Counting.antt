-- No more places than both supports have sources.
use Rattle.std.proofs.Common.{◌≡◌, ℕ, zero, suc, ◌+◌, ◌<◌, ◌≤◌, Bool, true, false, ◌||◌, cond, List, [], ◌∷◌, length, map, filter}
use Rattle.std.proofs.Common.{nat_eq, refl, inl, inr, arith, length-append}
use Rattle.std.specs.List.{list_any, range_with_len}
use Rattle.std.proofs.lemmas.Bool.{ne_eqb, eq-eqb, cases_eq}
use Rattle.cell_machine.specs.declared.outputs.Source.{Source}
use Rattle.cell_machine.specs.declared.outputs.Source.TheVariants as source
use Rattle.cell_machine.specs.CellData.{CellData}
use Rattle.scan_cells.specs.Places.{same_source, pin_sources, state_sources, in_either, places_of}

either_turn :
    (a b : Bool) (x : Source) (both ps qs : List Source) → length both ≤ length ps + length qs
    → length (cond (a || b) (x ∷ both) both) ≤ length (cond a (x ∷ ps) ps) + length (cond b (x ∷ qs) qs)
either_turn true true x both ps qs h = omega arith
either_turn true false x both ps qs h = omega arith
either_turn false true x both ps qs h = omega arith
either_turn false false x both ps qs h = h

-- what passes one of two tests is no more than what passes each
either_few :
    (p q : Source → Bool) (xs : List Source)
    → length (filter (λ s. p s || q s) xs) ≤ length (filter p xs) + length (filter q xs)
either_few p q [] = omega arith
either_few p q (x ∷ xs) =
    either_turn (p x) (q x) x (filter (λ s. p s || q s) xs) (filter p xs) (filter q xs) (either_few p q xs)

-- the sources that these numbers make, each once
none_after :
    (test : Source → Bool) (f : ℕ → Source) (p : ℕ) → ((j : ℕ) → test (f j) ≡ nat_eq j p)
    → (k n : ℕ) → p < k → filter test (map f (range_with_len k n)) ≡ []
none_after test f p h k zero l = refl
none_after test f p h k (suc n) l =
    rw (h k, ne_eqb k p (λ e. omega (arith, e, l))) (none_after test f p h (k + 1) n (omega (arith, l)))

once :
    (test : Source → Bool) (f : ℕ → Source) (p : ℕ) → ((j : ℕ) → test (f j) ≡ nat_eq j p)
    → (k n : ℕ) → length (filter test (map f (range_with_len k n))) ≤ 1
once test f p h k zero = omega arith
once test f p h k (suc n) =
    elim (cases_eq k p) [
      | inl e ↦ rw (h k, eq-eqb k p e, none_after test f p h (k + 1) n (omega (arith, e))) (omega arith)
      | inr ne ↦ rw (h k, ne_eqb k p ne) (once test f p h (k + 1) n)
    ]

never :
    (test : Source → Bool) (f : ℕ → Source) → ((j : ℕ) → test (f j) ≡ false)
    → (k n : ℕ) → filter test (map f (range_with_len k n)) ≡ []
never test f h k zero = refl
never test f h k (suc n) = rw (h k) (never test f h (k + 1) n)

-- how many of the places of a cell with so many pins and groups pass a test
abbrev passing : (Source → Bool) → ℕ → ℕ → ℕ
passing test pins groups =
    length (filter test (pin_sources (range_with_len 0 pins))) + length (filter test (state_sources (range_with_len 0 groups)))

-- one source has one place at most
one_place : (y : Source) (pins groups : ℕ) → passing (λ s. same_source s y) pins groups ≤ 1
one_place (source.Pin p) pins groups =
    let test : Source → Bool = λ s. same_source s (source.Pin p) in
    let few : length (filter test (pin_sources (range_with_len 0 pins))) ≤ 1 = once test (λ j. source.Pin j) p (λ j. refl) 0 pins
    in
    let none : filter test (state_sources (range_with_len 0 groups)) ≡ [] = never test (λ j. source.State j) (λ j. refl) 0 groups
    in
    rw none (omega (arith, few))
one_place (source.State g) pins groups =
    let test : Source → Bool = λ s. same_source s (source.State g) in
    let none : filter test (pin_sources (range_with_len 0 pins)) ≡ [] = never test (λ j. source.Pin j) (λ j. refl) 0 pins in
    let few : length (filter test (state_sources (range_with_len 0 groups))) ≤ 1 =
    once test (λ j. source.State j) g (λ j. refl) 0 groups in
    rw none (omega (arith, few))

no_place : (xs : List Source) → filter (λ s. false) xs ≡ []
no_place [] = refl
no_place (x ∷ xs) = no_place xs

-- so do the sources of a support
support_places : (support : List Source) (pins groups : ℕ)
    → passing (λ s. list_any (same_source s) support) pins groups ≤ length support
support_places [] pins groups =
    rw (no_place (pin_sources (range_with_len 0 pins)), no_place (state_sources (range_with_len 0 groups))) (omega arith)
support_places (y ∷ ys) pins groups =
    let first : Source → Bool = λ s. same_source s y in
    let later : Source → Bool = λ s. list_any (same_source s) ys in
    let of_pins = either_few first later (pin_sources (range_with_len 0 pins)) in
    let of_groups = either_few first later (state_sources (range_with_len 0 groups)) in
    let one = one_place y pins groups in
    let more = support_places ys pins groups in
    omega (arith, of_pins, of_groups, one, more)

-- The places are no more than the sources of both supports.
pub few_places : (cell : CellData) (first second : List Source)
    → length (places_of cell first second) ≤ length first + length second
few_places cell first second =
    let pins = length cell.pins in
    let groups = length cell.groups in
    let one : Source → Bool = λ s. list_any (same_source s) first in
    let other : Source → Bool = λ s. list_any (same_source s) second in
    let of_pins = either_few one other (pin_sources (range_with_len 0 pins)) in
    let of_groups = either_few one other (state_sources (range_with_len 0 groups)) in
    let here = support_places first pins groups in
    let there = support_places second pins groups in
    rw (length-append (filter (in_either first second) (pin_sources (range_with_len 0 pins)))
    (filter (in_either first second) (state_sources (range_with_len 0 groups))))
    (omega (arith, of_pins, of_groups, here, there))

-- so are the pins among them
pub few_pins :
    (first second : List Source) (pins : ℕ)
    → length (filter (in_either first second) (pin_sources (range_with_len 0 pins))) ≤ length first + length second
few_pins first second pins =
    let one : Source → Bool = λ s. list_any (same_source s) first in
    let other : Source → Bool = λ s. list_any (same_source s) second in
    let of_pins = either_few one other (pin_sources (range_with_len 0 pins)) in
    let here = support_places first pins 0 in
    let there = support_places second pins 0 in
    omega (arith, of_pins, here, there)
