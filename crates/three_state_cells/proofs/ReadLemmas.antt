-- A trimmed group and what is wrong in the timing that its core lost, as they are made of the statements of a cell.
use Rattle.std.proofs.Common.{◌≡◌, ℕ, ◌<◌, ◌≤◌, ◌^◌, true, false, List, [], ◌∷◌, ◌++◌, length, map, filter, sym, ap, ◌∙◌, subst}
use Rattle.std.proofs.Common.{arith}
use Rattle.std.proofs.Common.{append-nil, if◌then◌else◌, Option, Some, None, refl}
use Rattle.std.specs.Prelude.{flat_map}
use Rattle.std.specs.List.{fold}
use Rattle.std.proofs.lemmas.Bool.{lt-ltb}
use Rattle.std.proofs.lemmas.List.{append_assoc}
use Rattle.liberty_text.specs.declared.time.Unit.{Unit}
use Rattle.liberty_groups.specs.declared.tree.Item.{Item}
use Rattle.liberty_groups.specs.declared.tree.Item.TheOpen.{Group-F}
use Rattle.liberty_groups.specs.declared.tree.Item.TheViews.{out-roll-Group}
use Rattle.liberty_groups.specs.declared.tree.Group.{Group, roll-Group}
use Rattle.bus_texts.specs.declared.bus_types.BusType.{BusType}
use Rattle.bus_texts.specs.Vectors.{cell_vectors}
use Rattle.bank_cells.specs.Refusals.{has_many}
use Rattle.group_copies.specs.Copies.{with_items}
use Rattle.bank_cells.specs.Gathered.{gathered_item, gathered_cell, gathered}
use Rattle.timing_arcs.specs.declared.subject.Subject.{Subject}
use Rattle.cell_attributes.specs.Groups.{is_pin, inner_groups, pin_groups}
use Rattle.cell_attributes.specs.Pins.{pins_of, owners_of}
use Rattle.cell_reader.specs.declared.refusal.Reason.TheVariants as reason
use Rattle.cell_reader.specs.declared.refusal.Refusal.{Refusal}
use Rattle.cell_reader.specs.ReasonWords.{number_of_reason}
use Rattle.cell_reader.specs.CellTexts.{subject_with, subject_of}
use Rattle.cell_reader.specs.Refusals.{refusal_of}
use Rattle.core_groups.specs.CoreGroups.{core_group}
use Rattle.three_state_cells.specs.Refusals.{first_of_two, refusal_with, driver_refusal, driven_refusal}
use Rattle.three_state_cells.specs.Trimmed.{trimmed_items, trimmed, owners_among, all_keep_order, wrong_with, in_core, lost_wrong}
use Rattle.three_state_cells.specs.Trimmed.{HasNoneApart, IsTrimmedCore}
use Rattle.three_state_cells.specs.Sinks.{nothing_held, after_all, nothing_trimmed, after_trimmed, after_wrong}
use Rattle.three_state_cells.specs.declared.trimmed_items.AllItems.{AllItems}
use Rattle.three_state_cells.specs.declared.trimmed_items.TrimmedItems.{TrimmedItems}
use Rattle.three_state_cells.specs.declared.wrong_timings.WrongTimings.{WrongTimings}
use Rattle.three_state_cells.proofs.Deciding.{early_refusal_decides}
use Rattle.three_state_cells.proofs.JoinedReasons.{IsAbove, above_or}
use Rattle.three_state_cells.proofs.Places.{by_kinds, wrong_by_kinds}
use Rattle.three_state_cells.proofs.Refused.{pins}
use Rattle.three_state_cells.proofs.PlainCores.{as_core}
use Rattle.three_state_cells.proofs.Sinks.{all_trimmed, all_whole, all_wrong, all_ordered, all_quiet}

-- The group of a cell with buses, bundles or banks is gathered.
pub gathered_many : (types : List BusType) (cell : Group) → has_many cell ≡ true → gathered_cell types cell ≡ gathered types cell
unfolding gathered
gathered_many types cell e = sym (ap (λ b. if b then gathered_cell types cell else cell) e)

-- a list of all statements
pushed : (found items : List Item) → (fold after_all (record { items = found }) items).items ≡ found ++ items
pushed found [] = sym (append-nil found)
pushed found (item ∷ items) = pushed (found ++ item ∷ []) items ∙ append_assoc found (item ∷ []) items

module _ (types : List BusType) (cell : Group) where
  abbrev statements : List Item
  statements = flat_map (gathered_item types (cell_vectors types cell)) cell.items

  abbrev shape : Group-F Item Group
  shape = record { name = cell.name; arguments = cell.arguments; items = statements; at = cell.at }

  its_items : (gathered_cell types cell).items ≡ statements
  its_items = ap (λ (one : Group-F Item Group). one.items) (out-roll-Group shape)

  pub made_whole : (start held : AllItems) → start ≡ nothing_held → held ≡ fold after_all start statements
      → with_items cell held.items ≡ gathered_cell types cell
  made_whole start held none e =
      ap (with_items cell)
      (ap (λ (one : AllItems). one.items) (e ∙ ap (λ one. fold after_all one statements) none) ∙ pushed [] statements)

  trimmed_shape : with_items cell (trimmed_items 0 statements) ≡ trimmed (gathered_cell types cell)
  trimmed_shape =
      sym (ap (λ (one : Group-F Item Group). roll-Group (record {
        name = one.name;
        arguments = one.arguments;
        items = trimmed_items 0 one.items;
        at = one.at;
      })) (out-roll-Group shape))

  pub made_trimmed : (held : TrimmedItems) (group : Group) → held ≡ fold after_trimmed nothing_trimmed statements
      → group ≡ with_items cell held.items → group ≡ trimmed (gathered_cell types cell)
  made_trimmed held group e is =
      is
      ∙ (ap (with_items cell) (ap (λ (one : TrimmedItems). one.items) e ∙ all_trimmed statements) ∙ trimmed_shape)

  pub kept_whole : (held : TrimmedItems) (group : Group) → held ≡ fold after_trimmed nothing_trimmed statements
      → group ≡ with_items cell held.items → held.is_whole ≡ true → group ≡ gathered_cell types cell
  kept_whole held group e is whole =
      is
      ∙ ap (with_items cell)
      (ap (λ (one : TrimmedItems). one.items) e
      ∙ (all_trimmed statements ∙ all_whole statements (sym (ap (λ (one : TrimmedItems). one.is_whole) e) ∙ whole)))

  pub kept_order : (held : TrimmedItems) → held ≡ fold after_trimmed nothing_trimmed statements → held.is_ordered ≡ true
      → all_keep_order 0 (owners_of (gathered_cell types cell)) ≡ true
  kept_order held e order =
      ap (λ l. all_keep_order 0 (owners_among l)) its_items
      ∙ all_ordered statements (sym (ap (λ (one : TrimmedItems). one.is_ordered) e) ∙ order)

  pub none_apart : (held : TrimmedItems) → held ≡ fold after_trimmed nothing_trimmed statements → held.has_apart ≡ false
      → HasNoneApart (gathered_cell types cell)
  none_apart held e none =
      let quiet = λ (s : Subject). all_quiet s statements (sym (ap (λ (one : TrimmedItems). one.has_apart) e) ∙ none) in
      record {
        lost = λ s. ap (λ l. wrong_with s None 0 (map in_core (owners_among l))) its_items ∙ (quiet s).0;
        delays = λ s. ap (λ l. refusal_with s None 0 (filter is_pin (inner_groups l))) its_items ∙ (quiet s).1;
      }

  -- what is wrong in the timing that its core lost, and in the delays of its three-state outputs
  module _ (unit : Option Unit) (core : Group) (is : IsTrimmedCore (gathered_cell types cell) core) where
    abbrev subject : Subject
    subject = subject_of unit core

    few_owners : length (owners_among statements) < 2 ^ 64
    few_owners = subst (λ l. length (owners_among l) < 2 ^ 64) its_items is.few

    wrong_parts : (s : Subject) (wrong : WrongTimings) → s ≡ subject
        → wrong ≡ fold after_wrong (record { subject = s; found = None; delays = None }) statements
        → (wrong.found ≡ lost_wrong subject (gathered_cell types cell))
        × (wrong.delays ≡ driver_refusal subject (pin_groups (gathered_cell types cell)))
    wrong_parts s wrong same e =
        let told = all_wrong s statements (ap (λ (one : Subject). one.place) same) few_owners in (
          ap (λ (one : WrongTimings). one.found) e
              ∙ (told.0 ∙ (λ i. wrong_with (same i) None 0 (map in_core (owners_among (sym its_items i))))),
          ap (λ (one : WrongTimings). one.delays) e
              ∙ (told.1 ∙ (λ i. refusal_with (same i) None 0 (filter is_pin (inner_groups (sym its_items i))))),
        )

    pub wrong_made : (s : Subject) (wrong : WrongTimings) (told : Refusal) (first last : Refusal) → s ≡ subject
        → wrong ≡ fold after_wrong (record { subject = s; found = None; delays = None }) statements
        → Some first ≡ first_of_two (Some told) wrong.found → Some last ≡ first_of_two (Some first) wrong.delays
        → Some last
        ≡ first_of_two (first_of_two (Some told) (lost_wrong subject (gathered_cell types cell)))
        (driver_refusal subject (pin_groups (gathered_cell types cell)))
    wrong_made s wrong told first last same e one two =
        let parts = wrong_parts s wrong same e in
        two ∙ (λ i. first_of_two ((one ∙ ap (first_of_two (Some told)) parts.0) i) (parts.1 i))

    -- what refuses the gathered group
    same_subject : subject_of unit (core_group (gathered_cell types cell)) ≡ subject
    same_subject =
        ap (subject_with unit) (sym (pins (core_group (gathered_cell types cell))) ∙ ap pins_of (sym is.trims))

    pub refused_by : (earlier : List (List ℕ)) (told refusal : Refusal) → refusal_of subject earlier core ≡ Some told
        → Some refusal
        ≡ first_of_two (first_of_two (Some told) (lost_wrong subject (gathered_cell types cell)))
        (driver_refusal subject (pin_groups (gathered_cell types cell)))
        → driven_refusal unit earlier (gathered_cell types cell) ≡ Some refusal
    refused_by earlier told refusal e decided =
        let whole : Group = gathered_cell types cell in
        as_core unit earlier whole
        ∙ ((λ i. first_of_two (refusal_of (same_subject i) earlier (core_group whole))
        (driver_refusal (same_subject i) (pin_groups whole)))
        ∙ (ap (λ o. first_of_two o (driver_refusal subject (pin_groups whole)))
        (is.decides subject earlier ∙ ap (λ o. first_of_two o (lost_wrong subject whole)) e)
        ∙ sym decided))

pub told_alone : (s : Subject) (cell : Group) (told : Refusal) → HasNoneApart cell
    → Some told ≡ first_of_two (first_of_two (Some told) (lost_wrong s cell)) (driver_refusal s (pin_groups cell))
told_alone s cell told h = sym (λ i. first_of_two (first_of_two (Some told) (h.lost s i)) (h.delays s i))

-- A reason before those of texts decides.
first_stays : (told : Refusal) (later : Option Refusal) → number_of_reason told.reason ≤ 6 → IsAbove 6 later
    → first_of_two (Some told) later ≡ Some told
first_stays told None h k = refl
first_stays told (Some other) h k = rw (lt-ltb (number_of_reason told.reason) (number_of_reason other.reason) (omega arith)) refl

kinds_above : (m u o n : Option ℕ) → IsAbove 6 (by_kinds m u o n)
kinds_above m u o n =
    above_or 6 reason.Malformed m _ (omega arith)
    (above_or 7 reason.UnknownName u _ (omega arith)
    (above_or 8 reason.OwnCondition o _ (omega arith) (above_or 11 reason.Number n None (omega arith) tt)))

pub early_stays : (s : Subject) (cell : Group) (told : Refusal) → number_of_reason told.reason ≤ 6
    → Some told ≡ first_of_two (first_of_two (Some told) (lost_wrong s cell)) (driver_refusal s (pin_groups cell))
early_stays s cell told h =
    sym
    (ap (λ o. first_of_two o (driver_refusal s (pin_groups cell)))
    (first_stays told (lost_wrong s cell) h
    (subst (IsAbove 6) (sym (wrong_by_kinds s None None None None 0 (map in_core (owners_of cell)))) (kinds_above _ _ _ _)))
    ∙ early_refusal_decides s (pin_groups cell) told (omega (arith, h)))
