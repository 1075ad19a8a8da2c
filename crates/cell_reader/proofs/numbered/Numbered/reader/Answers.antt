use Rattle.std.proofs.Common.{◌≤◌, ◌∙◌, length, sym, subst, ap}
use Rattle.cell_attributes.specs.Pins.{pins_of}
use Rattle.cell_attributes.specs.States.{states_of}
use Rattle.cell_attributes.specs.Vocabulary.{Vocabulary}
use Rattle.cell_reader.proofs.PartCounts.{number_count}
use Rattle.cell_reader.proofs.numbered.Numbered.reader.Goals as goal

pub returns-clause-within : goal.returns-clause-within
returns-clause-within c =
    let cell = c.args.parts.now.cell.now in
    record {
      few_pins = subst (λ n. n ≤ 64) (sym (c.len.ensures ∙ ap length c.requires.parts.of_cell)) c.requires.pins;
      few_groups = subst (λ n. n ≤ 16) (sym (ap length (c.as_slice.ensures ∙ c.requires.numbered.of_groups))) c.requires.groups;
      numbered =
          ap length (c.deref.ensures.value ∙ c.requires.numbered.of_numbers)
          ∙ (number_count (states_of cell) (length (pins_of cell)) cell
          ∙ sym (ap (λ (v : Vocabulary). length v.classes) c.requires.parts.of_vocabulary));
    }
