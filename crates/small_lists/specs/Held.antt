-- The items of a short list.
use Rattle.std.specs.Prelude.{List, []}
use Rattle.small_lists.specs.declared.list.Held.{Held}
use Rattle.small_lists.specs.declared.list.Held.TheVariants.{Nothing, One, Two, Three, Four, Five, Six, Seven, Eight, Many}

abbrev pub held_items : {T : Type 0} → Held T → List T
held_items Nothing = []
held_items (One items) = items
held_items (Two items) = items
held_items (Three items) = items
held_items (Four items) = items
held_items (Five items) = items
held_items (Six items) = items
held_items (Seven items) = items
held_items (Eight items) = items
held_items (Many items) = items
