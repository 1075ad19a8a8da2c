-- A group from an `ff` or a `latch` of which nothing is refused keeps the rules of state groups.
use Rattle.std.proofs.Common.{◌≡◌, ℕ, ◌+◌, Bool, true, false, not, ◌||◌, ◌==◌, List, [], ◌++◌, length, refl, sym, ◌∙◌, ap, subst}
use Rattle.std.proofs.Common.{IsTrue, Option, Some, None, nat_lt, nat_le, slice_index}
use Rattle.std.specs.Prelude.{codes, is_none, unwrap_or, if◌then◌else◌}
use Rattle.std.specs.List.{list_all}
use Rattle.std.proofs.lemmas.Bool.{and_from, or_parts, not-false as not_not}
use Rattle.liberty_groups.specs.declared.tree.Group.{Group}
use Rattle.bool_functions.specs.declared.tree.Node.{Node as Tree}
use Rattle.bool_functions.specs.Tree.{names_of}
use Rattle.cell_machine.specs.declared.groups.Both.{Both}
use Rattle.cell_machine.specs.declared.groups.Both.TheVariants as both
use Rattle.cell_machine.specs.declared.groups.GroupKind.TheVariants as kind
use Rattle.cell_machine.specs.declared.pins.Pin.{Pin}
use Rattle.cell_machine.specs.Names.{names_of_optional}
use Rattle.cell_machine.specs.CellRules.{is_second, both_or_neither, is_group}
use Rattle.liberty_groups.specs.Attributes.{Attribute, attribute_of}
use Rattle.cell_attributes.specs.declared.texts.Scope.TheVariants as scope
use Rattle.cell_attributes.specs.declared.texts.Text.{Text}
use Rattle.cell_attributes.specs.Scans.{is_missing}
use Rattle.cell_attributes.specs.States.{Arguments, StateName, arguments_of, is_table, states_with, unless_kept, both_named}
use Rattle.cell_attributes.specs.States.{both_with, second_both}
use Rattle.cell_attributes.specs.Vocabulary.{Vocabulary}
use Rattle.cell_attributes.specs.Texts.{class_at, text_as}
use Rattle.cell_attributes.specs.StateReadings.{is_ff, data_name, control_name, both_or_none, lacks_attribute, place_if}
use Rattle.cell_attributes.specs.StateReadings.{group_malformed, own_scope, reading_of_texts}
use Rattle.cell_attributes.specs.Limits.{no_support_in, wide_support_in}
use Rattle.cell_attributes.specs.Building.{number_in, function_in, function_of, clocked, gated, kind_of_texts}
use Rattle.cell_attributes.proofs.Numbering.{NumberIs}
use Rattle.cell_attributes.proofs.TextNames.{text_names, names_of_function, is_absent, sound_has_function, names_of_written}
use Rattle.cell_attributes.proofs.TextNames.{absent_text, is_kept_input, is_input_or_own, control_names_are, data_names_are}
use Rattle.cell_attributes.proofs.GroupRules.{IsSoundReading, some_support, narrow_support, map_kept, NamesAre, group_from}

-- the second variable is never one that keeps its value
second_unkept : (o : Option Both) → IsTrue (is_second (unwrap_or (unless_kept o) both.Unknown))
second_unkept None = refl
second_unkept (Some both.Low) = refl
second_unkept (Some both.High) = refl
second_unkept (Some both.Keep) = refl
second_unkept (Some both.Unknown) = refl

second_of : (attribute : Option Attribute)
    → IsTrue (is_second (unwrap_or (both_with (λ text. unless_kept (both_named text)) attribute) both.Unknown))
second_of None = refl
second_of (Some attribute) = second_unkept (both_named attribute.text)

-- where no offset is given, the test fails
pub not_placed : (b : Bool) (at : ℕ) → place_if b at ≡ None → b ≡ false
not_placed true at h = absurd cc
not_placed false at h = refl

pub lacks_none : (group : Group) → group_malformed group ≡ None → lacks_attribute group ≡ false
lacks_none group h =
    (or_parts (is_none (arguments_of group)) (lacks_attribute group)
    (not_placed (is_none (arguments_of group) || lacks_attribute group) group.at h)).1

-- what an `ff`, and what a `latch` does not lack
lack_ff : (t f x a b : Bool) → (if t then x else (if f then a else b)) ≡ false → t ≡ false → f ≡ true → a ≡ false
lack_ff true f x a b h k l = absurd cc
lack_ff false true x a b h k l = h
lack_ff false false x a b h k l = absurd cc

lack_latch : (t f x a b : Bool) → (if t then x else (if f then a else b)) ≡ false → t ≡ false → f ≡ false → b ≡ false
lack_latch true f x a b h k l = absurd cc
lack_latch false true x a b h k l = absurd cc
lack_latch false false x a b h k l = h

neither_or_both : (f g : Option Tree) → both_or_neither f g ≡ both_or_none (is_none f) (is_none g)
neither_or_both None None = refl
neither_or_both None (Some g) = refl
neither_or_both (Some f) None = refl
neither_or_both (Some f) (Some g) = refl

three :
    (a b c x y z : List ℕ) → a ≡ x → b ≡ y → c ≡ z → a ++ (b ++ c) ≡ x ++ (y ++ z)
three a b c x y z e f g = ap (λ l. l ++ (b ++ c)) e ∙ ap (λ l. x ++ (l ++ c)) f ∙ ap (λ l. x ++ (y ++ l)) g

-- a text that names pins alone has a function that names what it does
kept_names : (pins : List Pin) (to : List ℕ) (t : Text) → IsTrue (list_all (is_kept_input pins to) (text_names t))
    → names_of_optional (function_in to t) ≡ text_names t
kept_names pins to t h = names_of_function to t ∙ map_kept pins to (text_names t) h

module _
    (states : List StateName) (pins : List Pin) (v : Vocabulary) (to : List ℕ)
    (numbers : (i : ℕ) → NumberIs states pins v.names i (slice_index to i) (class_at v.classes i))
    (group : Group) (a : Arguments) (m : ℕ)
    (e : arguments_of group ≡ Some a) (t : is_table group ≡ false)
    (first : number_in states (length pins) a.first ≡ Some m) (second : number_in states (length pins) a.second ≡ Some (m + 1))
    (sound : IsSoundReading (reading_of_texts v (length pins) group)) where
  abbrev data_text : Text
  data_text = text_as v (own_scope v (arguments_of group)) (attribute_of group (data_name group))

  abbrev control_text : Text
  control_text = text_as v scope.Control (attribute_of group (control_name group))

  abbrev clear_text : Text
  clear_text = text_as v scope.Control (attribute_of group (codes "clear"))

  abbrev preset_text : Text
  preset_text = text_as v scope.Control (attribute_of group (codes "preset"))

  data_are : IsTrue (list_all (is_input_or_own pins to m) (text_names data_text))
  data_are =
      subst (λ (o : Option Arguments). IsTrue
      (list_all (is_input_or_own pins to m) (text_names (text_as v (own_scope v o) (attribute_of group (data_name group))))))
      (sym e) (data_names_are states pins v to numbers m a first second (attribute_of group (data_name group)))

  names : NamesAre pins to m data_text control_text clear_text preset_text
  names = record {
    of_data = data_are;
    of_control = control_names_are states pins v to numbers (attribute_of group (control_name group));
    of_clear = control_names_are states pins v to numbers (attribute_of group (codes "clear"));
    of_preset = control_names_are states pins v to numbers (attribute_of group (codes "preset"));
  }

  clear_names : names_of_optional (function_in to clear_text) ≡ text_names clear_text
  clear_names = kept_names pins to clear_text (control_names_are states pins v to numbers (attribute_of group (codes "clear")))

  preset_names : names_of_optional (function_in to preset_text) ≡ text_names preset_text
  preset_names = kept_names pins to preset_text (control_names_are states pins v to numbers (attribute_of group (codes "preset")))

  control_kept : IsTrue (list_all (is_kept_input pins to) (text_names control_text))
  control_kept = control_names_are states pins v to numbers (attribute_of group (control_name group))

  no_lack : lacks_attribute group ≡ false
  no_lack = lacks_none group sound.whole

  holds : (reading_of_texts v (length pins) group).holds ≡ true
  holds =
      ap (λ b. not (length (states_with b (arguments_of group)) == 0)) t
      ∙ ap (λ o. not (length (states_with false o) == 0)) e

  group_of_kind :
      (some : IsTrue (nat_lt 0 (length (reading_of_texts v (length pins) group).support)))
      → (few : IsTrue (nat_le (length (reading_of_texts v (length pins) group).support) 8))
      → (ff : Bool) → is_ff group ≡ ff
      → IsTrue (is_group pins m (record {
        kind = if ff then kind.Ff (clocked to group (reading_of_texts v (length pins) group))
            else kind.Latch (gated to group (reading_of_texts v (length pins) group));
        support = (reading_of_texts v (length pins) group).support;
      }))
  group_of_kind some few true f =
      let lack : is_missing (data_name group) group || is_missing (control_name group) group ≡ false =
      lack_ff (is_table group) (is_ff group) (is_missing (codes "table") group)
      (is_missing (data_name group) group || is_missing (control_name group) group)
      (not (both_or_none (is_missing (data_name group) group) (is_missing (control_name group) group))) no_lack t f in
      let there = or_parts (is_missing (data_name group) group) (is_missing (control_name group) group) lack in
      let data_there : is_absent data_text ≡ false =
      absent_text v (own_scope v (arguments_of group)) (attribute_of group (data_name group)) ∙ there.0 in
      let control_there : is_absent control_text ≡ false = absent_text v scope.Control (attribute_of group (control_name group))
      ∙ there.1 in
      let control_written : names_of (function_of to control_text) ≡ text_names control_text =
      names_of_written to control_text sound.of_control control_there ∙ map_kept pins to (text_names control_text) control_kept in
      group_from pins to m data_text control_text clear_text preset_text names
      (kind.Ff (clocked to group (reading_of_texts v (length pins) group)))
      (three (names_of (function_of to control_text)) (names_of_optional (function_in to clear_text))
      (names_of_optional (function_in to preset_text))
      (text_names control_text) (text_names clear_text) (text_names preset_text) control_written clear_names preset_names)
      (names_of_written to data_text sound.of_data data_there)
      (second_of (attribute_of group (codes "clear_preset_var2")))
      some few
  group_of_kind some few false f =
      let lack : not (both_or_none (is_missing (data_name group) group) (is_missing (control_name group) group)) ≡ false =
      lack_latch (is_table group) (is_ff group) (is_missing (codes "table") group)
      (is_missing (data_name group) group || is_missing (control_name group) group)
      (not (both_or_none (is_missing (data_name group) group) (is_missing (control_name group) group))) no_lack t f in
      let both_there : both_or_none (is_missing (data_name group) group) (is_missing (control_name group) group) ≡ true =
      not_not (both_or_none (is_missing (data_name group) group) (is_missing (control_name group) group)) lack in
      let data_none : is_none (function_in to data_text) ≡ is_missing (data_name group) group =
      sound_has_function to data_text sound.of_data
      ∙ absent_text v (own_scope v (arguments_of group)) (attribute_of group (data_name group)) in
      let control_none : is_none (function_in to control_text) ≡ is_missing (control_name group) group =
      sound_has_function to control_text sound.of_control ∙ absent_text v scope.Control (attribute_of group (control_name group))
      in
      let neither : IsTrue (both_or_neither (function_in to data_text) (function_in to control_text)) =
      neither_or_both (function_in to data_text) (function_in to control_text)
      ∙ ap (λ b. both_or_none b (is_none (function_in to control_text))) data_none
      ∙ ap (both_or_none (is_missing (data_name group) group)) control_none
      ∙ both_there in
      group_from pins to m data_text control_text clear_text preset_text names
      (kind.Latch (gated to group (reading_of_texts v (length pins) group)))
      (three (names_of_optional (function_in to control_text)) (names_of_optional (function_in to clear_text))
      (names_of_optional (function_in to preset_text))
      (text_names control_text) (text_names clear_text) (text_names preset_text) (kept_names pins to control_text control_kept)
      clear_names preset_names)
      (names_of_function to data_text)
      (and_from (is_second (unwrap_or (second_both group) both.Unknown))
      (both_or_neither (function_in to data_text) (function_in to control_text))
      (second_of (attribute_of group (codes "clear_preset_var2"))) neither)
      some few

  pub text_group_holds :
      no_support_in (reading_of_texts v (length pins) group) ≡ [] → wide_support_in (reading_of_texts v (length pins) group) ≡ []
      → IsTrue (is_group pins m (record {
        kind = kind_of_texts to group (reading_of_texts v (length pins) group);
        support = (reading_of_texts v (length pins) group).support;
      }))
  text_group_holds some few =
      group_of_kind (some_support (reading_of_texts v (length pins) group) holds some)
      (narrow_support (reading_of_texts v (length pins) group) holds few) (is_ff group) refl
