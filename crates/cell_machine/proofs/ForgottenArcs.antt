-- What hangs on an input is forgotten before it changes.
use Rattle.std.proofs.Common.{◌≡◌, ◌<◌, ℕ, List, [], length, map, set, get_or, sym, ap, subst, ◌∙◌, arith}
use Rattle.std.specs.List.{range_with_len}
use Rattle.std.proofs.lemmas.List.{length-map}
use Rattle.std.proofs.lemmas.List.FromFn.{length-map-range_with_len}
use Rattle.trit_cubes.specs.declared.trits.Trit.{Trit}
use Rattle.cell_machine.specs.declared.arcs.Arc.{Arc}
use Rattle.cell_machine.specs.declared.arc_places.ArcPlaces.{ArcPlaces}
use Rattle.cell_machine.specs.declared.cell_start.CellStart.{CellStart}
use Rattle.cell_machine.specs.declared.kept_arcs.KeptArcs.{KeptArcs}
use Rattle.cell_machine.specs.CellData.{CellData}
use Rattle.cell_machine.specs.CellTrace.{inputs_of, arc_names, condition_names}
use Rattle.cell_machine.specs.Places.{AreBelow}
use Rattle.cell_machine.specs.KeptConditions.{names_input, AreForgotten}
use Rattle.cell_machine.specs.ArcPlaces.{arcs_naming, arcs_from, firsts_naming, AreArcPlaces}
use Rattle.cell_machine.specs.KeptArcs.{AreKeptArcs}
use Rattle.cell_machine.proofs.EntryPlaces.{places-below}
use Rattle.cell_machine.proofs.KeptValues.{kept_changed, range-get_or}
use Rattle.cell_machine.proofs.KeptPairs.{delays_changed, firsts-below}

-- there is an entry for each input

each-input :
    {X : Type 0} (cell : CellData) (f : ℕ → X) (made : List X) (input : ℕ)
    → made ≡ map f (range_with_len 0 (inputs_of cell)) → input < inputs_of cell → input < length made
each-input cell f made input are within =
    let long = ap length are ∙ length-map-range_with_len f 0 (inputs_of cell) in
    omega (arith, within, long)

pub record HaveEntries (input : ℕ) (places : ArcPlaces) : Type 0 where
  pub naming : input < length places.naming
  pub between : input < length places.between
  pub firsts : input < length places.firsts

pub entries-there :
    (cell : CellData) (found known : CellStart) (input : ℕ)
    → found ≡ known → AreArcPlaces cell known.places → input < inputs_of cell → HaveEntries input found.places
entries-there cell found known input same are within =
    subst (λ (k : CellStart). HaveEntries input k.places) (sym same)
    (record {
      naming = each-input cell (arcs_naming cell) known.places.naming input are.naming_are within;
      between = each-input cell (arcs_from cell) known.places.between input are.between_are within;
      firsts = each-input cell (firsts_naming cell) known.places.firsts input are.firsts_are within;
    })

-- the entries that are forgotten for an input are there

listed-below :
    {V : Type 0} (cell : CellData) (f : ℕ → List ℕ) (lists : List (List ℕ)) (kept : List V) (many input : ℕ)
    → lists ≡ map f (range_with_len 0 (inputs_of cell)) → input < inputs_of cell → length kept ≡ many → AreBelow many (f input)
    → AreBelow (length kept) (get_or lists input [])
listed-below cell f lists kept many input are within long below =
    subst (AreBelow (length kept)) (sym (range-get_or f (inputs_of cell) input lists [] are within))
    (subst (λ n. AreBelow n (f input)) (sym long) below)

pub forgotten-below :
    (cell : CellData) (found known : CellStart) (kept : KeptArcs) (input : ℕ) {v : List Trit}
    → found ≡ known → AreArcPlaces cell known.places → AreKeptArcs cell v kept → input < inputs_of cell
    → AreBelow (length kept.conditions) (get_or found.places.naming input [])
    × AreBelow (length kept.delays) (get_or found.places.firsts input [])
forgotten-below cell found known kept input same are stood within =
    let named : length kept.conditions ≡ length (arc_names cell)
    = stood.conditions_are.0 ∙ sym (length-map cell.arcs (λ (arc : Arc). condition_names arc.condition)) in
    subst (λ (k : CellStart). AreBelow (length kept.conditions) (get_or k.places.naming input [])
    × AreBelow (length kept.delays) (get_or k.places.firsts input [])) (sym same) (
      listed-below cell (arcs_naming cell) known.places.naming kept.conditions _ input are.naming_are within named
          (places-below (names_input cell.pins input) (arc_names cell)),
      listed-below cell (firsts_naming cell) known.places.firsts kept.delays _ input are.firsts_are within stood.delays_are.0
          (firsts-below cell input),
    )

-- what is left is right when the input changes
pub left-is-kept :
    (cell : CellData) (v : List Trit) (places : ArcPlaces) (kept next : KeptArcs) (input : ℕ) (to : Trit)
    → AreArcPlaces cell places → AreKeptArcs cell v kept → input < inputs_of cell
    → AreForgotten (get_or places.naming input []) kept.conditions next.conditions
    → AreForgotten (get_or places.firsts input []) kept.delays next.delays
    → AreKeptArcs cell (set v input to) next
left-is-kept cell v places kept next input to are stood within conditions delays =
    let naming = range-get_or (arcs_naming cell) (inputs_of cell) input places.naming [] are.naming_are within in
    let firsts = range-get_or (firsts_naming cell) (inputs_of cell) input places.firsts [] are.firsts_are within in
    record {
      conditions_are =
          kept_changed cell v kept.conditions next.conditions input to stood.conditions_are
          (subst (λ ps. AreForgotten ps kept.conditions next.conditions) naming conditions);
      delays_are =
          delays_changed cell v kept.delays next.delays input to stood.delays_are
          (subst (λ ps. AreForgotten ps kept.delays next.delays) firsts delays);
    }
