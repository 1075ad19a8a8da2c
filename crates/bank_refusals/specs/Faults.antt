-- The texts of a cell that name a bus, a bundle or a variable of a bank where it has no bit for them (Liberty Reference Manual,
-- `function`, `ff_bank` and `related_pin`; which texts these are, and that a text without position can name none, are this
-- project's rules).
use Rattle.std.specs.Prelude.{ℕ, Bool, false, true, ◌||◌, ◌==◌, List, [], ◌∷◌, ◌++◌, flat_map, codes}
use Rattle.std.specs.Prelude.{Option, Some, None, is_some, is_none, if◌then◌else◌}
use Rattle.std.specs.List.{list_any, filter_map}
use Rattle.liberty_groups.specs.declared.tree.Item.{Item, out-Item}
use Rattle.liberty_groups.specs.declared.tree.Item.TheOpen.{Item-F}
use Rattle.liberty_groups.specs.declared.tree.Item.TheOpen as layer
use Rattle.liberty_groups.specs.declared.tree.Group.{Group}
use Rattle.liberty_groups.specs.Attributes.{Attribute, attributes_named, last_or, simple_named, words_between}
use Rattle.bus_texts.specs.declared.vectors.Vector.{Vector}
use Rattle.bus_texts.specs.declared.vectors.VectorKind.{VectorKind}
use Rattle.bus_texts.specs.declared.vectors.VectorKind.TheVariants as kinds
use Rattle.bus_texts.specs.Vectors.{is_called, vector_named}
use Rattle.bus_texts.specs.Texts.{member_of, text_fails}
use Rattle.bank_refusals.specs.Ranges.{stem}

-- The texts of a pin, of its `timing` groups and of states that are read over positions.
abbrev pub pin_texts : List (List ℕ)
pin_texts = codes "function" ∷ codes "state_function" ∷ codes "three_state" ∷ []

abbrev pub timing_texts : List (List ℕ)
timing_texts = codes "when" ∷ []

abbrev pub ff_texts : List (List ℕ)
ff_texts = codes "next_state" ∷ codes "clocked_on" ∷ codes "clear" ∷ codes "preset" ∷ []

abbrev pub latch_texts : List (List ℕ)
latch_texts = codes "data_in" ∷ codes "enable" ∷ codes "clear" ∷ codes "preset" ∷ []

-- The offset of a text that cannot become what it has to. Of a text that is written more than once the last counts.
abbrev pub fault_of : List Vector → Option ℕ → Option Attribute → List ℕ
fault_of vectors position None = []
fault_of vectors position (Some text) = if text_fails vectors position text.text then text.at ∷ [] else []

abbrev pub fault_named : List Vector → Option ℕ → List Item → List ℕ → List ℕ
fault_named vectors position items name = fault_of vectors position (last_or None (attributes_named name items))

abbrev pub text_faults : List Vector → Option ℕ → List (List ℕ) → List Item → List ℕ
text_faults vectors position names items = flat_map (fault_named vectors position items) names

-- Names of buses and bundles in `related_pin`; `related_bus_pins`, which names whole buses, is without fault. Of both the last
-- counts.
abbrev pub related_by : Option Attribute → Option Attribute → Option Attribute
related_by (Some related) buses = Some related
related_by None None = None
related_by None (Some buses) = Some (record { text = []; at = buses.at })

abbrev pub related_as : Item-F Item Group → Option Attribute
related_as item = related_by (simple_named (codes "related_pin") item) (simple_named (codes "related_bus_pins") item)

abbrev pub related_text : List Item → Option Attribute
related_text items = last_or None (filter_map (λ item. related_as (out-Item item)) items)

-- the bus or bundle of a name
abbrev pub is_variable : VectorKind → Bool
is_variable kinds.Bus = false
is_variable kinds.Bundle = false
is_variable kinds.Variable = true

abbrev pub pins_only : Option Vector → Option Vector
pins_only None = None
pins_only (Some vector) = if is_variable vector.kind then None else Some vector

abbrev pub pins_named : List Vector → List ℕ → Option Vector
pins_named vectors word = pins_only (vector_named vectors word)

abbrev pub lacks_member : ℕ → Option Vector → Bool
lacks_member at None = false
lacks_member at (Some vector) = is_none (member_of vector at None)

-- A word of `related_pin`: at a position it is a bus or bundle without a member there, without position it is the name of one of
-- any kind, with a bit in brackets behind it or without one.
abbrev pub is_reference : List Vector → List ℕ → Bool
is_reference vectors word = is_some (vector_named vectors word) || is_some (vector_named vectors (stem word))

abbrev pub word_fails : List Vector → Option ℕ → List ℕ → Bool
word_fails vectors None word = is_reference vectors word
word_fails vectors (Some at) word = lacks_member at (pins_named vectors word)

abbrev pub is_space : ℕ → Bool
is_space byte = byte == 32

abbrev pub related_words : List ℕ → List (List ℕ)
related_words text = words_between is_space text

abbrev pub related_fault : List Vector → Option ℕ → Option Attribute → List ℕ
related_fault vectors position None = []
related_fault vectors position (Some text) =
    if list_any (word_fails vectors position) (related_words text.text) then text.at ∷ [] else []

-- The faults of a `timing` group, and those of a pin with these statements.
abbrev pub timing_faults : List Vector → Option ℕ → List Item → List ℕ
timing_faults vectors position items =
    text_faults vectors position timing_texts items ++ related_fault vectors position (related_text items)

abbrev pub timing_faults_as : List Vector → Option ℕ → Item-F Item Group → List ℕ
timing_faults_as vectors position (layer.Simple name value at) = []
timing_faults_as vectors position (layer.Complex name arguments at) = []
timing_faults_as vectors position (layer.Inner group) =
    if is_called (codes "timing") group then timing_faults vectors position group.items else []

abbrev pub timing_faults_in : List Vector → Option ℕ → Item → List ℕ
timing_faults_in vectors position item = timing_faults_as vectors position (out-Item item)

abbrev pub pin_faults : List Vector → Option ℕ → List Item → List ℕ
pin_faults vectors position items =
    text_faults vectors position pin_texts items ++ flat_map (timing_faults_in vectors position) items
