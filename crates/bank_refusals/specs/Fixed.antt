-- Timing groups of a bus or bundle that become the same at each position, since the names in them that are replaced name no bus,
-- bundle or variable of a bank.
use Rattle.std.specs.Prelude.{ℕ, Bool, false, true, not, ◌&&◌, ◌||◌, List, codes, bytes_eq, Option, Some, None, is_some}
use Rattle.std.specs.List.{list_any, list_all}
use Rattle.liberty_groups.specs.declared.tree.Item.{Item, out-Item}
use Rattle.liberty_groups.specs.declared.tree.Item.TheOpen.{Item-F}
use Rattle.liberty_groups.specs.declared.tree.Item.TheOpen as layer
use Rattle.liberty_groups.specs.declared.tree.Group.{Group}
use Rattle.liberty_groups.specs.Attributes.{Attribute, simple_named}
use Rattle.bus_texts.specs.declared.vectors.Vector.{Vector}
use Rattle.bus_texts.specs.Vectors.{is_called}
use Rattle.bus_texts.specs.Texts.{names_vector}
use Rattle.bank_refusals.specs.Members.{is_shared}
use Rattle.bank_refusals.specs.Faults.{pins_named, related_words}

-- A condition names none.
abbrev pub names_none : List Vector → Option Attribute → Bool
names_none vectors None = true
names_none vectors (Some text) = not (names_vector vectors text.text)

-- No related pin is one.
abbrev pub is_vector_word : List Vector → List ℕ → Bool
is_vector_word vectors word = is_some (pins_named vectors word)

abbrev pub relates_none : List Vector → Option Attribute → Bool
relates_none vectors None = true
relates_none vectors (Some text) = not (list_any (is_vector_word vectors) (related_words text.text))

-- A statement of a timing group becomes the same at each position.
abbrev pub condition_in : Item → Option Attribute
condition_in item = simple_named (codes "when") (out-Item item)

abbrev pub related_in : Item → Option Attribute
related_in item = simple_named (codes "related_pin") (out-Item item)

abbrev pub is_fixed : List Vector → Item → Bool
is_fixed vectors item = names_none vectors (condition_in item) && relates_none vectors (related_in item)

-- A statement may be at fault at a position: it is a text of a pin, or a timing group that does not become the same at each.
abbrev pub is_pin_text : List ℕ → Bool
is_pin_text name =
    bytes_eq name (codes "function") || (bytes_eq name (codes "state_function") || bytes_eq name (codes "three_state"))

abbrev pub may_fail_as : List Vector → Item-F Item Group → Bool
may_fail_as vectors (layer.Simple name value at) = is_pin_text name
may_fail_as vectors (layer.Complex name arguments at) = false
may_fail_as vectors (layer.Inner group) = is_called (codes "timing") group && not (list_all (is_fixed vectors) group.items)

abbrev pub may_fail : List Vector → Item → Bool
may_fail vectors item = may_fail_as vectors (out-Item item)

-- Each member of a bus or bundle has the statement, and it is one of these.
abbrev pub varies : List Vector → Item → Bool
varies vectors item = is_shared item && may_fail vectors item
