-- Looking up a name in a catalog of ports.
use Rattle.std.proofs.Common.{◌≡◌, ℕ, suc, ◌+◌, ◌<◌, Bool, true, false, cond, if◌then◌else◌, List, [], ◌∷◌, ◌++◌, length, refl}
use Rattle.std.proofs.Common.{sym, ap, subst, ◌∙◌, arith, position, bytes_eq, length-append}
use Rattle.std.specs.Prelude.{Option, Some, None, MatchOption, slice_get}
use Rattle.std.specs.List.{position_from}
use Rattle.std.specs.Option.{option_map}
use Rattle.std.proofs.lemmas.Iterator.Adapters.{position_from-zero}
use Rattle.cell_machine.proofs.StepLemmas.{init-append}
use Rattle.cell_machine.specs.Machine.{init}
use Rattle.stimulus.specs.declared.ports.Ports.{Ports}
use Rattle.stimulus.specs.Catalog.{input, output, entry_of, pin_answer, pin_found}
use Rattle.stimulus.specs.PortPlaces.{port_at}
use Rattle.std.proofs.lemmas.List.Quantifiers.{position-Some}
use Rattle.stimulus.specs.declared.catalog.PinFound.TheVariants.{Input}
use Rattle.stimulus.specs.Laws.{PortsAreInputs}
use Rattle.stimulus.specs.PortEntries.{listed, entry_of_cell, cell_entries, input_entries, output_entries, port_entries}

-- a name that no cell has
cell_missing : (name : List ℕ) (number : ℕ) (names : List (List ℕ)) (cells : List Ports)
    → position_from (bytes_eq name) number names ≡ None → entry_of (cell_entries number names cells) name ≡ None
cell_missing name number [] cells e = refl
cell_missing name number (x ∷ names) [] e = refl
cell_missing name number (x ∷ names) (cell ∷ cells) e =
    elim (bytes_eq name x) as (λ b. cond b (Some number) (position_from (bytes_eq name) (number + 1) names) ≡ None
    → (if b then Some (entry_of_cell number cell.standing) else entry_of (cell_entries (number + 1) names cells) name) ≡ None) [
      | true ↦ λ f. absurd cc
      | false ↦ λ f. cell_missing name (number + 1) names cells f
    ] e

-- a name that a cell has
cell_listed : (name : List ℕ) (number : ℕ) (names : List (List ℕ)) (cells : List Ports) (at : ℕ) → length names ≡ length cells
    → position_from (bytes_eq name) number names ≡ Some at
    → (place : ℕ) × ((at ≡ number + place)
    × (entry_of (cell_entries number names cells) name ≡ option_map (λ (cell : Ports). entry_of_cell at cell.standing)
    (slice_get cells place)))
cell_listed name number [] cells at l e = absurd cc
cell_listed name number (x ∷ names) [] at l e = absurd (omega (arith, l))
cell_listed name number (x ∷ names) (cell ∷ cells) at l e =
    elim (bytes_eq name x) as (λ b. cond b (Some number) (position_from (bytes_eq name) (number + 1) names) ≡ Some at
    → (place : ℕ) × ((at ≡ number + place)
    × ((if b then Some (entry_of_cell number cell.standing)
    else entry_of (cell_entries (number + 1) names cells) name) ≡ option_map (λ (c : Ports). entry_of_cell at c.standing)
    (slice_get (cell ∷ cells) place)))) [
      | true ↦ λ f. let same : number ≡ at = cc in (0, (omega (arith, same), ap (λ n. Some (entry_of_cell n cell.standing)) same))
      | false ↦ λ f. let (place, (is, found)) = cell_listed name (number + 1) names cells at (omega (arith, l)) f
          in (suc place, (omega (arith, is), found))
    ] e

-- an input of this name
input_listed : (name : List ℕ) (number : ℕ) (names : List (List ℕ))
    → entry_of (input_entries number names) name ≡ option_map input (position_from (bytes_eq name) number names)
input_listed name number [] = refl
input_listed name number (x ∷ names) =
    elim (bytes_eq name x) as (λ b. (if b then Some (input number)
    else entry_of (input_entries (number + 1) names) name) ≡ option_map input
    (cond b (Some number) (position_from (bytes_eq name) (number + 1) names))) [
      | true ↦ refl
      | false ↦ input_listed name (number + 1) names
    ]

-- an output of this name
output_listed : (name : List ℕ) (number : ℕ) (names : List (List ℕ))
    → entry_of (output_entries names) name ≡ option_map (λ (place : ℕ). output) (position_from (bytes_eq name) number names)
output_listed name number [] = refl
output_listed name number (x ∷ names) =
    elim (bytes_eq name x) as (λ b. (if b then Some output else entry_of (output_entries names) name) ≡ option_map
    (λ (place : ℕ). output) (cond b (Some number) (position_from (bytes_eq name) (number + 1) names))) [
      | true ↦ refl
      | false ↦ output_listed name (number + 1) names
    ]

-- the first of two answers that is there
abbrev pub or_else : {A : Type 0} → Option A → Option A → Option A
or_else (Some a) other = Some a
or_else None other = other

entry_of_both : {A : Type 0} (name : List ℕ) (front back : List (List ℕ × A))
    → entry_of (front ++ back) name ≡ or_else (entry_of front name) (entry_of back name)
entry_of_both name [] back = refl
entry_of_both {A} name (entry ∷ front) back =
    elim (bytes_eq name entry.0) as (λ b. (if b then Some entry.1 else entry_of (front ++ back) name) ≡ or_else
    (if b then Some entry.1 else entry_of front name) (entry_of back name)) [
      | true ↦ refl
      | false ↦ entry_of_both name front back
    ]

pub no_cell : (name : List ℕ) (names : List (List ℕ)) (cells : List Ports) → position (bytes_eq name) names ≡ None
    → entry_of (cell_entries 0 names cells) name ≡ None
no_cell name names cells e = cell_missing name 0 names cells (sym (position_from-zero (bytes_eq name) names) ∙ e)

pub some_cell : (name : List ℕ) (names : List (List ℕ)) (cells : List Ports) (at : ℕ) → length names ≡ length cells
    → position (bytes_eq name) names ≡ Some at
    → entry_of (cell_entries 0 names cells) name ≡ option_map (λ (cell : Ports). entry_of_cell at cell.standing)
    (slice_get cells at)
some_cell name names cells at l e =
    let (place, (is, found)) = cell_listed name 0 names cells at l (sym (position_from-zero (bytes_eq name) names) ∙ e) in
    let same : place ≡ at = omega (arith, is) in
    subst (λ p. entry_of (cell_entries 0 names cells) name ≡ option_map (λ (cell : Ports). entry_of_cell at cell.standing)
    (slice_get cells p)) same found

-- a port, by the numbers of the name among the inputs and the outputs
found_at : (place other : Option ℕ)
    → pin_answer (or_else (option_map input place) (option_map (λ (number : ℕ). output) other)) ≡ port_at place other
found_at (Some number) other = refl
found_at None None = refl
found_at None (Some number) = refl

pub port_found : (name : List ℕ) (cell : Ports)
    → pin_answer (entry_of (port_entries (Some cell)) name) ≡ port_at (position (bytes_eq name) cell.inputs)
    (position (bytes_eq name) cell.outputs)
port_found name cell =
    ap pin_answer (
    entry_of_both name (input_entries 0 cell.inputs) (output_entries cell.outputs)
    ∙ ap (λ e. or_else e (entry_of (output_entries cell.outputs) name))
    (input_listed name 0 cell.inputs ∙ ap (option_map input) (sym (position_from-zero (bytes_eq name) cell.inputs)))
    ∙ ap (λ e. or_else (option_map input (position (bytes_eq name) cell.inputs)) e)
    (output_listed name 0 cell.outputs
    ∙ ap (option_map (λ (place : ℕ). output)) (sym (position_from-zero (bytes_eq name) cell.outputs)))
    ) ∙ found_at (position (bytes_eq name) cell.inputs) (position (bytes_eq name) cell.outputs)

-- a catalog whose last cell was taken out again
pub undone : {A : Type 0} (popped : Option A) (xs new pushed : List A) (x : A) → pushed ≡ xs ++ x ∷ []
    → MatchOption popped ((pushed ≡ []) × (new ≡ [])) (λ last. pushed ≡ new ++ last ∷ []) → new ≡ xs
undone None xs new pushed x e (none, _) = absurd (omega (arith, simp length-append at (ap length (sym e ∙ none))))
undone (Some last) xs new pushed x e h = sym (init-append new last) ∙ ap init (sym h ∙ e) ∙ init-append xs x

-- a number at which a test passes is below the length
place_below : (p : List ℕ → Bool) (xs : List (List ℕ)) (i : ℕ) → position p xs ≡ Some i → i < length xs
place_below p xs i e = (position-Some p xs i [] e).0

input_below : (place other : Option ℕ) (names : List (List ℕ)) (p : List ℕ → Bool) (pin : ℕ) → position p names ≡ place
    → port_at place other ≡ Input pin → pin < length names
input_below (Some number) other names p pin is e = let same : number ≡ pin = cc in place_below p names pin (is ∙ ap Some same)
input_below None None names p pin is e = absurd cc
input_below None (Some number) names p pin is e = absurd cc

pub inputs_below : PortsAreInputs
inputs_below named cell ports there name pin e =
    let found : pin_found (listed named) cell name ≡ port_at (position (bytes_eq name) ports.inputs)
    (position (bytes_eq name) ports.outputs) =
    ap (λ o. pin_answer (entry_of (port_entries o) name)) there ∙ port_found name ports in
    input_below _ _ ports.inputs (bytes_eq name) pin refl (sym found ∙ e)
