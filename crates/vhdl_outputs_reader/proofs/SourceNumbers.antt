-- Sources that are found by their numbers.
use Rattle.std.proofs.Common.{◌≡◌, ℕ, ◌||◌, nat_eq, List, [], ◌∷◌, ◌++◌, flat_map, refl, sym, ap, ◌∙◌}
use Rattle.std.specs.List.{list_any}
use Rattle.std.proofs.lemmas.Grind.{flat_map-append}
use Rattle.std.proofs.lemmas.List.{append-nil}
use Rattle.cell_machine.specs.declared.outputs.Source.{Source}
use Rattle.cell_machine.specs.declared.outputs.Source.TheVariants as source
use Rattle.vhdl_grammar.specs.VhdlNames.{same_source}
use Rattle.vhdl_outputs_reader.specs.SourceParts.{pin_of, pins_of, state_of, states_of, is_numbered, pins_with, states_with}

pin_found : (p : ℕ) (sources : List Source)
    → list_any (nat_eq p) (pins_of sources) ≡ list_any (same_source (source.Pin p)) sources
pin_found p [] = refl
pin_found p (source.Pin q ∷ sources) = ap (λ b. nat_eq p q || b) (pin_found p sources)
pin_found p (source.State g ∷ sources) = pin_found p sources

state_found : (g : ℕ) (sources : List Source)
    → list_any (nat_eq g) (states_of sources) ≡ list_any (same_source (source.State g)) sources
state_found g [] = refl
state_found g (source.Pin q ∷ sources) = state_found g sources
state_found g (source.State h ∷ sources) = ap (λ b. nat_eq g h || b) (state_found g sources)

-- a source is one of others exactly where its number is among theirs
pub source_found : (s : Source) (sources : List Source)
    → is_numbered s (pins_of sources) (states_of sources) ≡ list_any (same_source s) sources
unfolding is_numbered
source_found (source.Pin p) sources = pin_found p sources
source_found (source.State g) sources = state_found g sources

-- what one more source adds behind the others
added : (part : Source → List ℕ) (s : Source) (sources : List Source)
    → flat_map part (sources ++ s ∷ []) ≡ flat_map part sources ++ part s
added part s sources = flat_map-append part sources (s ∷ []) ∙ ap (λ l. flat_map part sources ++ l) (append-nil (part s))

-- the numbers with one more source
pub pins_added : (s : Source) (sources : List Source) → pins_with s (pins_of sources) ≡ pins_of (sources ++ s ∷ [])
unfolding pins_with
pins_added (source.Pin p) sources = sym (added pin_of (source.Pin p) sources)
pins_added (source.State g) sources = sym (added pin_of (source.State g) sources ∙ append-nil (pins_of sources))

pub states_added : (s : Source) (sources : List Source) → states_with s (states_of sources) ≡ states_of (sources ++ s ∷ [])
unfolding states_with
states_added (source.Pin p) sources = sym (added state_of (source.Pin p) sources ∙ append-nil (states_of sources))
states_added (source.State g) sources = sym (added state_of (source.State g) sources)
