-- Timing groups that name no bus, bundle or variable become the same at each position.
use Rattle.std.proofs.Common.{◌≡◌, ℕ, Bool, true, false, ◌&&◌, ◌||◌, List, [], ◌∷◌, ◌++◌, map, Option, Some, None}
use Rattle.std.proofs.Common.{if◌then◌else◌, refl, ap, ◌∙◌}
use Rattle.std.specs.Prelude.{flat_map, codes, bytes_eq, is_some}
use Rattle.std.specs.List.{list_any, list_all}
use Rattle.std.proofs.lemmas.Bool.{and_parts, or_parts}
use Rattle.liberty_groups.specs.declared.tree.Value.{Value}
use Rattle.liberty_groups.specs.declared.tree.Item.{Item, out-Item}
use Rattle.liberty_groups.specs.declared.tree.Item.TheOpen.{Item-F}
use Rattle.liberty_groups.specs.declared.tree.Item.TheOpen as layer
use Rattle.liberty_groups.specs.declared.tree.Item.TheVariants as made
use Rattle.liberty_groups.specs.declared.tree.Group.{Group, roll-Group}
use Rattle.liberty_groups.specs.Attributes.{Attribute, simple_named, text_of}
use Rattle.bus_texts.specs.declared.vectors.Vector.{Vector}
use Rattle.bus_texts.specs.Vectors.{is_called, vector_named}
use Rattle.bus_texts.specs.Parts.{Part, parts_of}
use Rattle.bus_texts.specs.Texts.{replaced_by, spelled, rewritten_part, is_vector, names_vector}
use Rattle.bank_refusals.specs.Faults.{timing_texts, pins_named, related_words}
use Rattle.bank_refusals.specs.Fixed.{names_none, is_vector_word, relates_none, condition_in, related_in, is_fixed}
use Rattle.bank_refusals.proofs.Faultless.{from_not}
use Rattle.bank_cells.specs.Expanded.{one_value, values_if, text_as, spaced, member_in, related_part, related_pins, timing_by}
use Rattle.bank_cells.specs.Expanded.{timing_item, timing_at, pin_item_as, pin_item}
use Rattle.bank_cells.specs.Fixed.{fixed_as, fixed_timing}

module _ (vectors : List Vector) (at : ℕ) where
  -- a part that names none stays as it is
  part_same : (part : Part) (o : Option Vector) → is_some o ≡ false
      → spelled part (replaced_by 0 part.bit o) ≡ spelled part (replaced_by at part.bit o)
  part_same part None e = refl
  part_same part (Some vector) e = absurd cc

  parts_same : (parts : List Part) → list_any (is_vector vectors) parts ≡ false
      → flat_map (rewritten_part vectors 0) parts ≡ flat_map (rewritten_part vectors at) parts
  parts_same [] e = refl
  parts_same (part ∷ parts) e =
      let both = or_parts (is_vector vectors part) (list_any (is_vector vectors) parts) e in
      ap (λ bytes. bytes ++ flat_map (rewritten_part vectors 0) parts) (part_same part (vector_named vectors part.name) both.0)
      ∙ ap (λ bytes. rewritten_part vectors at part ++ bytes) (parts_same parts both.1)

  -- and so does a word of related pins
  word_same : (word : List ℕ) (o : Option Vector) → is_some o ≡ false → spaced (member_in word 0 o) ≡ spaced (member_in word at o)
  word_same word None e = refl
  word_same word (Some vector) e = absurd cc

  words_same : (words : List (List ℕ)) → list_any (is_vector_word vectors) words ≡ false
      → flat_map (related_part vectors 0) words ≡ flat_map (related_part vectors at) words
  words_same [] e = refl
  words_same (word ∷ words) e =
      let both = or_parts (is_vector_word vectors word) (list_any (is_vector_word vectors) words) e in
      ap (λ bytes. bytes ++ flat_map (related_part vectors 0) words) (word_same word (pins_named vectors word) both.0)
      ∙ ap (λ bytes. related_part vectors at word ++ bytes) (words_same words both.1)

  -- a statement of a timing group
  pub values_same : (is_text : Bool) (values : List Value)
      → names_none vectors (if is_text then Some (record { text = text_of values; at = 0 }) else None) ≡ true
      → values_if vectors (Some 0) is_text values ≡ values_if vectors (Some at) is_text values
  values_same false values e = refl
  values_same true [] e = refl
  values_same true (value ∷ []) e =
      ap (λ bytes. one_value bytes value.quoted)
      (parts_same (parts_of value.bytes) (from_not (names_vector vectors value.bytes) e))
  values_same true (value ∷ other ∷ more) e = refl

  condition_same : (offset : ℕ) (b : Bool) (values : List Value)
      → names_none vectors (if b then Some (record { text = text_of values; at = offset }) else None) ≡ true
      → names_none vectors (if b then Some (record { text = text_of values; at = 0 }) else None) ≡ true
  condition_same offset true values e = e
  condition_same offset false values e = e

  text_same : (y : Item-F Item Group) → names_none vectors (simple_named (codes "when") y) ≡ true
      → text_as vectors (Some 0) timing_texts y ≡ text_as vectors (Some at) timing_texts y
  text_same (layer.Simple name value offset) e =
      let of : (b : Bool) → names_none vectors (if b then Some (record { text = text_of value; at = 0 }) else None) ≡ true
      → values_if vectors (Some 0) (b || false) value ≡ values_if vectors (Some at) (b || false) value =
      λ b h. elim b as (λ b. names_none vectors (if b then Some (record { text = text_of value; at = 0 }) else None) ≡ true
      → values_if vectors (Some 0) (b || false) value ≡ values_if vectors (Some at) (b || false) value) [
        | true ↦ values_same true value
        | false ↦ values_same false value
      ] h in
      ap (λ values. made.Simple name values offset)
      (of (bytes_eq name (codes "when")) (condition_same offset (bytes_eq name (codes "when")) value e))
  text_same (layer.Complex name arguments offset) e = refl
  text_same (layer.Inner group) e = refl

  statement_by : (item : Item) (related buses : Option Attribute) → names_none vectors (condition_in item) ≡ true
      → relates_none vectors related ≡ true
      → timing_by vectors (Some 0) item related buses ≡ timing_by vectors (Some at) item related buses
  statement_by item (Some related) buses e f =
      ap (λ text. related_pins text related.at)
      (words_same (related_words related.text) (from_not (list_any (is_vector_word vectors) (related_words related.text)) f))
  statement_by item None (Some buses) e f = refl
  statement_by item None None e f = text_same (out-Item item) e

  statements_same : (items : List Item) → list_all (is_fixed vectors) items ≡ true
      → map (timing_item vectors (Some 0)) items ≡ map (timing_item vectors (Some at)) items
  statements_same [] e = refl
  statements_same (item ∷ items) e =
      let both = and_parts (is_fixed vectors item) (list_all (is_fixed vectors) items) e in
      let parts = and_parts (names_none vectors (condition_in item)) (relates_none vectors (related_in item)) both.0 in
      ap (λ made. made ∷ map (timing_item vectors (Some 0)) items)
      (statement_by item (simple_named (codes "related_pin") (out-Item item))
      (simple_named (codes "related_bus_pins") (out-Item item)) parts.0 parts.1)
      ∙ ap (λ rest. timing_item vectors (Some at) item ∷ rest) (statements_same items both.1)

  pub timing_same : (group : Group) → list_all (is_fixed vectors) group.items ≡ true
      → timing_at vectors (Some 0) group ≡ timing_at vectors (Some at) group
  timing_same group e =
      ap (λ items. roll-Group (record { name = group.name; arguments = group.arguments; items = items; at = group.at }))
      (statements_same group.items e)

  -- what a shared statement becomes, where that is the same at each position
  fixed_by : (y : Item-F Item Group) (item : Item) (group : Group) → fixed_as vectors y ≡ Some group
      → made.Inner group ≡ pin_item_as vectors (Some at) y item
  fixed_by (layer.Simple name value offset) item group e = absurd cc
  fixed_by (layer.Complex name arguments offset) item group e = absurd cc
  fixed_by (layer.Inner timing) item group e =
      by (is_called (codes "timing") timing) (list_all (is_fixed vectors) timing.items) refl e
    where
      by : (called fixed : Bool) → list_all (is_fixed vectors) timing.items ≡ fixed
          → (if called && fixed then Some (timing_at vectors (Some 0) timing) else None) ≡ Some group
          → made.Inner group ≡ (if called then made.Inner (timing_at vectors (Some at) timing) else item)
      by true true f g =
          let same : group ≡ timing_at vectors (Some 0) timing = cc in
          ap made.Inner (same ∙ timing_same timing f)
      by true false f g = absurd cc
      by false fixed f g = absurd cc

  pub fixed_pin : (item : Item) (group : Group) → fixed_timing vectors item ≡ Some group
      → made.Inner group ≡ pin_item vectors (Some at) item
  fixed_pin item group e = fixed_by (out-Item item) item group e
