-- Texts that name no bus, bundle or variable have no faults, and nor have the members of a bus or bundle that are alike.
use Rattle.std.proofs.Common.{◌≡◌, ℕ, ◌+◌, Bool, true, false, not, ◌&&◌, ◌||◌, List, [], ◌∷◌, ◌++◌, filter, Option, Some}
use Rattle.std.proofs.Common.{None, if◌then◌else◌, refl, sym, ap, ◌∙◌, codes, append-nil}
use Rattle.std.specs.Prelude.{flat_map, is_some, bytes_eq, Result, Ok, Err, OnOk}
use Rattle.std.specs.List.{list_any, list_all, filter_map, cons_option}
use Rattle.std.proofs.lemmas.Bool.{and_parts, and_from, or_parts, true≢false}
use Rattle.std.proofs.lemmas.Grind.{flat_map-append}
use Rattle.std.proofs.lemmas.List.Elements.{filter_map-append}
use Rattle.liberty_groups.specs.declared.tree.Value.{Value}
use Rattle.liberty_groups.specs.declared.tree.Item.{Item, out-Item}
use Rattle.liberty_groups.specs.declared.tree.Item.TheOpen.{Item-F}
use Rattle.liberty_groups.specs.declared.tree.Item.TheOpen as layer
use Rattle.liberty_groups.specs.declared.tree.Group.{Group}
use Rattle.liberty_groups.specs.Attributes.{Attribute, text_of, simple_named, attributes_named, last_or}
use Rattle.bus_texts.specs.declared.vectors.Vector.{Vector}
use Rattle.bus_texts.specs.Vectors.{is_called, vector_named}
use Rattle.bus_texts.specs.Parts.{Part, parts_of}
use Rattle.bus_texts.specs.Texts.{replaced_by, is_missing, part_misses, is_vector, names_vector}
use Rattle.bank_refusals.specs.Members.{is_shared, names_member, own_items_as, own_items}
use Rattle.bank_refusals.specs.Faults.{pin_texts, fault_of, fault_named, text_faults, pins_named, lacks_member, word_fails}
use Rattle.bank_refusals.specs.Faults.{related_words, related_as, related_text, related_fault, timing_faults, timing_faults_as}
use Rattle.bank_refusals.specs.Faults.{timing_faults_in, pin_faults}
use Rattle.bank_refusals.specs.Fixed.{names_none, is_vector_word, relates_none, condition_in, related_in, is_fixed}
use Rattle.bank_refusals.specs.Fixed.{is_pin_text, may_fail_as, may_fail, varies}
use Rattle.bank_refusals.specs.Refusals.{along, member_faults, vector_faults}
use Rattle.bank_refusals.specs.Alike.{text_stays, group_stays, stays, are_alike}

pub from_not : (b : Bool) → not b ≡ true → b ≡ false
from_not true e = sym e
from_not false e = refl

all_also : (test other : Item → Bool) → ((item : Item) → test item ≡ true → other item ≡ true) → (items : List Item)
    → list_all test items ≡ true → list_all other items ≡ true
all_also test other also [] e = refl
all_also test other also (item ∷ items) e =
    let both = and_parts (test item) (list_all test items) e in
    and_from (other item) (list_all other items) (also item both.0) (all_also test other also items both.1)

abbrev text_if : List Value → ℕ → Bool → Option Attribute
text_if value offset b = if b then Some (record { text = text_of value; at = offset }) else None

not_false : (b : Bool) → not b ≡ false → b ≡ true
not_false true e = refl
not_false false e = sym e

or_true : (b : Bool) → (b || true) ≡ true
or_true true = refl
or_true false = refl

first_text : (name : List ℕ) → bytes_eq name (codes "function") ≡ true → is_pin_text name ≡ true
first_text name e =
    ap (λ b. b || (bytes_eq name (codes "state_function") || bytes_eq name (codes "three_state"))) e

second_text : (name : List ℕ) → bytes_eq name (codes "state_function") ≡ true → is_pin_text name ≡ true
second_text name e =
    ap (λ b. bytes_eq name (codes "function") || (b || bytes_eq name (codes "three_state"))) e
    ∙ or_true (bytes_eq name (codes "function"))

third_text : (name : List ℕ) → bytes_eq name (codes "three_state") ≡ true → is_pin_text name ≡ true
third_text name e =
    ap (λ b. bytes_eq name (codes "function") || (bytes_eq name (codes "state_function") || b)) e
    ∙ (ap (λ b. bytes_eq name (codes "function") || b) (or_true (bytes_eq name (codes "state_function")))
    ∙ or_true (bytes_eq name (codes "function")))

-- what a call that went well comes to
pub where_went : {X E A B : Type 0} (result : Result X E) → (A → B) → OnOk result A → OnOk result B
where_went (Ok x) f a = f a
where_went (Err e) f a = tt

-- Of a text that is written more than once the last counts.
abbrev none_named : List Vector → List ℕ → Item → Bool
none_named vectors name item = names_none vectors (simple_named name (out-Item item))

module _ (vectors : List Vector) (name : List ℕ) where
  counts : (found : Option Attribute) (items : List Item) → names_none vectors found ≡ true
      → list_all (none_named vectors name) items ≡ true
      → names_none vectors (last_or found (attributes_named name items)) ≡ true
  counts found [] f e = f
  counts found (item ∷ items) f e =
      let both = and_parts (none_named vectors name item) (list_all (none_named vectors name) items) e in
      by (λ found f. counts found items f both.1) (simple_named name (out-Item item)) refl both.0
    where
      by : ((found : Option Attribute) → names_none vectors found ≡ true
          → names_none vectors (last_or found (attributes_named name items)) ≡ true)
          → (o : Option Attribute) → simple_named name (out-Item item) ≡ o
          → names_none vectors (simple_named name (out-Item item)) ≡ true
          → names_none vectors (last_or found (attributes_named name (item ∷ items))) ≡ true
      by next None is n = rw is (next found f)
      by next (Some text) is n = rw is (next (Some text) (sym (ap (names_none vectors) is) ∙ n))

module _ (vectors : List Vector) (at : ℕ) where
  part_there : (part : Part) (o : Option Vector) → is_some o ≡ false → is_missing (replaced_by at part.bit o) ≡ false
  part_there part None e = refl
  part_there part (Some vector) e = absurd cc

  parts_there : (parts : List Part) → list_any (is_vector vectors) parts ≡ false → list_any (part_misses vectors at) parts ≡ false
  parts_there [] e = refl
  parts_there (part ∷ parts) e =
      let both = or_parts (is_vector vectors part) (list_any (is_vector vectors) parts) e in
      ap (λ b. b || list_any (part_misses vectors at) parts) (part_there part (vector_named vectors part.name) both.0)
      ∙ parts_there parts both.1

  word_there : (o : Option Vector) → is_some o ≡ false → lacks_member at o ≡ false
  word_there None e = refl
  word_there (Some vector) e = absurd cc

  words_there : (words : List (List ℕ)) → list_any (is_vector_word vectors) words ≡ false
      → list_any (word_fails vectors (Some at)) words ≡ false
  words_there [] e = refl
  words_there (word ∷ words) e =
      let both = or_parts (is_vector_word vectors word) (list_any (is_vector_word vectors) words) e in
      ap (λ b. b || list_any (word_fails vectors (Some at)) words) (word_there (pins_named vectors word) both.0)
      ∙ words_there words both.1

  related_counts : (found : Option Attribute) (items : List Item) → relates_none vectors found ≡ true
      → list_all (is_fixed vectors) items ≡ true
      → relates_none vectors (last_or found (filter_map (λ item. related_as (out-Item item)) items)) ≡ true
  related_counts found [] f e = f
  related_counts found (item ∷ items) f e =
      let both = and_parts (is_fixed vectors item) (list_all (is_fixed vectors) items) e in
      let parts = and_parts (names_none vectors (condition_in item)) (relates_none vectors (related_in item)) both.0 in
      by (λ found f. related_counts found items f both.1) (related_in item)
      (simple_named (codes "related_bus_pins") (out-Item item)) refl refl parts.1
    where
      by : ((found : Option Attribute) → relates_none vectors found ≡ true
          → relates_none vectors (last_or found (filter_map (λ item. related_as (out-Item item)) items)) ≡ true)
          → (o p : Option Attribute) → related_in item ≡ o → simple_named (codes "related_bus_pins") (out-Item item) ≡ p
          → relates_none vectors (related_in item) ≡ true
          → relates_none vectors (last_or found (filter_map (λ item. related_as (out-Item item)) (item ∷ items))) ≡ true
      by next (Some text) p is also n = rw is (next (Some text) (sym (ap (relates_none vectors) is) ∙ n))
      by next None None is also n = rw (is, also) (next found f)
      by next None (Some buses) is also n = rw (is, also) (next (Some (record { text = []; at = buses.at })) refl)

  condition_there : (o : Option Attribute) → names_none vectors o ≡ true → fault_of vectors (Some at) o ≡ []
  condition_there None e = refl
  condition_there (Some text) e = ap (λ b. if b then text.at ∷ [] else [])
      (parts_there (parts_of text.text) (from_not (names_vector vectors text.text) e))

  related_there : (o : Option Attribute) → relates_none vectors o ≡ true → related_fault vectors (Some at) o ≡ []
  related_there None e = refl
  related_there (Some text) e =
      ap (λ b. if b then text.at ∷ [] else [])
      (words_there (related_words text.text) (from_not (list_any (is_vector_word vectors) (related_words text.text)) e))

  is_conditional : (item : Item) → is_fixed vectors item ≡ true → none_named vectors (codes "when") item ≡ true
  is_conditional item e = (and_parts (names_none vectors (condition_in item)) (relates_none vectors (related_in item)) e).0

  timing_there : (items : List Item) → list_all (is_fixed vectors) items ≡ true → timing_faults vectors (Some at) items ≡ []
  timing_there items e =
      ap (λ faults. (faults ++ []) ++ related_fault vectors (Some at) (related_text items))
      (condition_there (last_or None (attributes_named (codes "when") items))
      (counts vectors (codes "when") None items refl (all_also (is_fixed vectors) (none_named vectors (codes "when")) is_conditional items e)))
      ∙ related_there (related_text items) (related_counts None items refl e)

  -- A statement that varies is the only one with faults.
  never_fails : (y : Item-F Item Group) → may_fail_as vectors y ≡ false → timing_faults_as vectors (Some at) y ≡ []
  never_fails (layer.Simple name value offset) e = refl
  never_fails (layer.Complex name arguments offset) e = refl
  never_fails (layer.Inner group) e = by (is_called (codes "timing") group) e
    where
      by : (b : Bool) → (b && not (list_all (is_fixed vectors) group.items)) ≡ false
          → (if b then timing_faults vectors (Some at) group.items else []) ≡ []
      by true f = timing_there group.items (not_false (list_all (is_fixed vectors) group.items) f)
      by false f = refl

  varying_faults : (items : List Item)
      → flat_map (timing_faults_in vectors (Some at)) (filter (varies vectors) items)
      ≡ flat_map (timing_faults_in vectors (Some at)) (filter is_shared items)
  varying_faults [] = refl
  varying_faults (item ∷ items) = by (is_shared item) (may_fail vectors item) refl (varying_faults items)
    where
      by : (b c : Bool) → may_fail vectors item ≡ c
          → flat_map (timing_faults_in vectors (Some at)) (filter (varies vectors) items)
          ≡ flat_map (timing_faults_in vectors (Some at)) (filter is_shared items)
          → flat_map (timing_faults_in vectors (Some at))
          (if b && c then item ∷ filter (varies vectors) items else filter (varies vectors) items)
          ≡ flat_map (timing_faults_in vectors (Some at)) (if b then item ∷ filter is_shared items else filter is_shared items)
      by false c e rest = rest
      by true true e rest = ap (λ faults. timing_faults_in vectors (Some at) item ++ faults) rest
      by true false e rest =
          rest ∙ sym (ap (λ faults. faults ++ flat_map (timing_faults_in vectors (Some at)) (filter is_shared items))
          (never_fails (out-Item item) e))

  -- the texts among them
  text_here : (name : List ℕ) → ((other : List ℕ) → bytes_eq other name ≡ true → is_pin_text other ≡ true)
      → (y : Item-F Item Group) → may_fail_as vectors y ≡ false → simple_named name y ≡ None
  text_here name is (layer.Simple other value offset) e = by (bytes_eq other name) refl
    where
      by : (b : Bool) → bytes_eq other name ≡ b → text_if value offset b ≡ None
      by true f = absurd (true≢false (sym (is other f) ∙ e))
      by false f = refl
  text_here name is (layer.Complex other arguments offset) e = refl
  text_here name is (layer.Inner group) e = refl

  same_named : (name : List ℕ) → ((other : List ℕ) → bytes_eq other name ≡ true → is_pin_text other ≡ true)
      → (items : List Item)
      → attributes_named name (filter (varies vectors) items) ≡ attributes_named name (filter is_shared items)
  same_named name is [] = refl
  same_named name is (item ∷ items) = by (is_shared item) (may_fail vectors item) refl (same_named name is items)
    where
      by : (b c : Bool) → may_fail vectors item ≡ c
          → attributes_named name (filter (varies vectors) items) ≡ attributes_named name (filter is_shared items)
          → attributes_named name (if b && c then item ∷ filter (varies vectors) items else filter (varies vectors) items)
          ≡ attributes_named name (if b then item ∷ filter is_shared items else filter is_shared items)
      by false c e rest = rest
      by true true e rest = ap (cons_option (simple_named name (out-Item item))) rest
      by true false e rest =
          rest ∙ sym (ap (λ o. cons_option o (attributes_named name (filter is_shared items)))
          (text_here name is (out-Item item) e))

  fault_same : (name : List ℕ) → ((other : List ℕ) → bytes_eq other name ≡ true → is_pin_text other ≡ true)
      → (statements own : List Item)
      → fault_named vectors (Some at) (filter (varies vectors) statements ++ own) name
      ≡ fault_named vectors (Some at) (filter is_shared statements ++ own) name
  fault_same name is statements own =
      ap (λ l. fault_of vectors (Some at) (last_or None l))
      (filter_map-append (λ item. simple_named name (out-Item item)) (filter (varies vectors) statements) own
      ∙ (ap (λ l. l ++ attributes_named name own) (same_named name is statements)
      ∙ sym (filter_map-append (λ item. simple_named name (out-Item item)) (filter is_shared statements) own)))

  same_faults : (statements own : List Item)
      → pin_faults vectors (Some at) (filter (varies vectors) statements ++ own)
      ≡ pin_faults vectors (Some at) (filter is_shared statements ++ own)
  same_faults statements own i =
      (fault_same (codes "function") first_text statements own i
      ++ (fault_same (codes "state_function") second_text statements own i
      ++ (fault_same (codes "three_state") third_text statements own i ++ [])))
      ++ (flat_map-append (timing_faults_in vectors (Some at)) (filter (varies vectors) statements) own
      ∙ (ap (λ l. l ++ flat_map (timing_faults_in vectors (Some at)) own) (varying_faults statements)
      ∙ sym (flat_map-append (timing_faults_in vectors (Some at)) (filter is_shared statements) own))) i

  -- the faults of a member
  pub made_faults :
      (statements own items : List Item) (old all : List ℕ) → items ≡ filter (varies vectors) statements ++ own
      → all ≡ old ++ pin_faults vectors (Some at) items
      → all ≡ old ++ pin_faults vectors (Some at) (filter is_shared statements ++ own)
  made_faults statements own items old all are said =
      said ∙ ap (λ l. old ++ l) (ap (pin_faults vectors (Some at)) are ∙ same_faults statements own)

-- Members that are alike have no statements of their own.
module _ (vectors : List Vector) (vector : Vector) (at : ℕ) (member : List ℕ) where
  own_by : (y : Item-F Item Group) → group_stays vectors y ≡ true → own_items_as vector at member y ≡ []
  own_by (layer.Simple name value offset) e = refl
  own_by (layer.Complex name arguments offset) e = refl
  own_by (layer.Inner group) e =
      by (is_called (codes "pin") group)
      (and_parts (not (is_called (codes "pin") group))
      (not (is_called (codes "timing") group) || list_all (is_fixed vectors) group.items) e).0
    where
      by : (b : Bool) → not b ≡ true → (if b && list_any (names_member vector at member) group.arguments then group.items
          else []) ≡ []
      by true f = absurd cc
      by false f = refl

  pub no_own : (items : List Item) → list_all (stays vectors) items ≡ true → flat_map (own_items vector at member) items ≡ []
  no_own [] e = refl
  no_own (item ∷ items) e =
      let both = and_parts (stays vectors item) (list_all (stays vectors) items) e in
      let here = and_parts (text_stays vectors (out-Item item)) (group_stays vectors (out-Item item)) both.0 in
      ap (λ l. l ++ flat_map (own_items vector at member) items) (own_by (out-Item item) here.1) ∙ no_own items both.1

-- They name no bit where there is none.
module _ (vectors : List Vector) (name : List ℕ) where
  named_by : ((y : Item-F Item Group) → text_stays vectors y ≡ true → names_none vectors (simple_named name y) ≡ true)
      → (items : List Item)
      → list_all (stays vectors) items ≡ true → list_all (none_named vectors name) (filter is_shared items) ≡ true
  named_by pick [] e = refl
  named_by pick (item ∷ items) e =
      let both = and_parts (stays vectors item) (list_all (stays vectors) items) e in
      let here = and_parts (text_stays vectors (out-Item item)) (group_stays vectors (out-Item item)) both.0 in
      by (is_shared item) (pick (out-Item item) here.0) (named_by pick items both.1)
    where
      by : (b : Bool) → none_named vectors name item ≡ true → list_all (none_named vectors name) (filter is_shared items) ≡ true
          → list_all (none_named vectors name) (if b then item ∷ filter is_shared items else filter is_shared items) ≡ true
      by true first rest = and_from (none_named vectors name item) (list_all (none_named vectors name) (filter is_shared items))
          first rest
      by false first rest = rest

  text_faultless : (at : ℕ) → ((y : Item-F Item Group) → text_stays vectors y ≡ true
      → names_none vectors (simple_named name y) ≡ true) → (items : List Item)
      → list_all (stays vectors) items ≡ true → fault_named vectors (Some at) (filter is_shared items) name ≡ []
  text_faultless at pick items e =
      condition_there vectors at (last_or None (attributes_named name (filter is_shared items)))
      (counts vectors name None (filter is_shared items) refl (named_by pick items e))

module _ (vectors : List Vector) (at : ℕ) where
  abbrev first : Item-F Item Group → Bool
  first y = names_none vectors (simple_named (codes "function") y)

  abbrev second : Item-F Item Group → Bool
  second y = names_none vectors (simple_named (codes "state_function") y)

  abbrev third : Item-F Item Group → Bool
  third y = names_none vectors (simple_named (codes "three_state") y)

  texts_faultless : (items : List Item) → list_all (stays vectors) items ≡ true
      → text_faults vectors (Some at) pin_texts (filter is_shared items) ≡ []
  texts_faultless items e =
      let rest : List (List ℕ) → List ℕ = λ names. text_faults vectors (Some at) names (filter is_shared items) in
      ap (λ l. l ++ rest (codes "state_function" ∷ codes "three_state" ∷ []))
      (text_faultless vectors (codes "function") at (λ y s. (and_parts (first y) (second y && third y) s).0) items e)
      ∙ (ap (λ l. l ++ rest (codes "three_state" ∷ []))
      (text_faultless vectors (codes "state_function") at
      (λ y s. (and_parts (second y) (third y) (and_parts (first y) (second y && third y) s).1).0) items e)
      ∙ ap (λ l. l ++ rest [])
      (text_faultless vectors (codes "three_state") at
      (λ y s. (and_parts (second y) (third y) (and_parts (first y) (second y && third y) s).1).1) items e))

  timing_by : (y : Item-F Item Group) → group_stays vectors y ≡ true → timing_faults_as vectors (Some at) y ≡ []
  timing_by (layer.Simple name value offset) e = refl
  timing_by (layer.Complex name arguments offset) e = refl
  timing_by (layer.Inner group) e =
      by (is_called (codes "timing") group)
      (and_parts (not (is_called (codes "pin") group))
      (not (is_called (codes "timing") group) || list_all (is_fixed vectors) group.items) e).1
    where
      by : (b : Bool) → (not b || list_all (is_fixed vectors) group.items) ≡ true
          → (if b then timing_faults vectors (Some at) group.items else []) ≡ []
      by true f = timing_there vectors at group.items f
      by false f = refl

  timings_faultless : (items : List Item) → list_all (stays vectors) items ≡ true
      → flat_map (timing_faults_in vectors (Some at)) (filter is_shared items) ≡ []
  timings_faultless [] e = refl
  timings_faultless (item ∷ items) e =
      let both = and_parts (stays vectors item) (list_all (stays vectors) items) e in
      let here = and_parts (text_stays vectors (out-Item item)) (group_stays vectors (out-Item item)) both.0 in
      by (is_shared item) (timing_by (out-Item item) here.1) (timings_faultless items both.1)
    where
      by : (b : Bool) → timing_faults_in vectors (Some at) item ≡ []
          → flat_map (timing_faults_in vectors (Some at)) (filter is_shared items) ≡ []
          → flat_map (timing_faults_in vectors (Some at))
          (if b then item ∷ filter is_shared items else filter is_shared items) ≡ []
      by true none rest = ap (λ l. l ++ flat_map (timing_faults_in vectors (Some at)) (filter is_shared items)) none ∙ rest
      by false none rest = rest

  member_faultless : (group : Group) (vector : Vector) (member : List ℕ) → are_alike vectors group ≡ true
      → member_faults vectors group vector at member ≡ []
  member_faultless group vector member e =
      ap (λ own. pin_faults vectors (Some at) (filter is_shared group.items ++ own))
      (no_own vectors vector at member group.items e)
      ∙ (ap (pin_faults vectors (Some at)) (append-nil (filter is_shared group.items))
      ∙ (ap (λ l. l ++ flat_map (timing_faults_in vectors (Some at)) (filter is_shared group.items))
      (texts_faultless group.items e) ∙ timings_faultless group.items e))

along_faultless : (vectors : List Vector) (group : Group) (vector : Vector) (at : ℕ) (members : List (List ℕ))
    → are_alike vectors group ≡ true
    → along (member_faults vectors group vector) at members ≡ []
along_faultless vectors group vector at [] e = refl
along_faultless vectors group vector at (member ∷ members) e =
    ap (λ l. l ++ along (member_faults vectors group vector) (at + 1) members) (member_faultless vectors at group vector member e)
    ∙ along_faultless vectors group vector (at + 1) members e

vectors_faultless : (vectors : List Vector) (group : Group) (several : List Vector) → are_alike vectors group ≡ true
    → flat_map (vector_faults vectors group) several ≡ []
vectors_faultless vectors group [] e = refl
vectors_faultless vectors group (vector ∷ several) e =
    ap (λ l. l ++ flat_map (vector_faults vectors group) several) (along_faultless vectors group vector 0 vector.members e)
    ∙ vectors_faultless vectors group several e

-- so nothing is found of them
pub none_fail : (vectors : List Vector) (group : Group) (several : List Vector) (found : List ℕ) → are_alike vectors group ≡ true
    → found ≡ found ++ flat_map (vector_faults vectors group) several
none_fail vectors group several found e =
    sym (ap (λ l. found ++ l) (vectors_faultless vectors group several e) ∙ append-nil found)
