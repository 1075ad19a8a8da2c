use Rattle.std.proofs.Common.{refl, sym, ap, subst, length, None, ◌∙◌}
use Rattle.std.proofs.lemmas.List.{length-replicate}
use Rattle.text_io.specs.declared.slots.OutSlot.TheVariants.{Report}
use Rattle.text_io.proofs.Wrote.{wrote-nil, wrote_item_as, wrote_items}
use Rattle.library_reader.specs.LibraryCells.{all_described}
use Rattle.stimulus.proofs.Runs.{appends_nothing, holds_next, part_of_item}
use Rattle.model_files.proofs.KnownThings.{none-known}
use Rattle.library_simulation.specs.KnownBesides.{StandsAt, AreBesides}
use Rattle.library_simulation.specs.Comparisons.{section_text, sections_text}
use Rattle.library_simulation.specs.Sections.{CanBeCompared}
use Rattle.library_simulation.proofs.BesideLemmas.{part_cause, differs_more, differs_whole}
use Rattle.library_simulation.proofs.comparisons.write_compared_sections.Goals as goal

pub loop-section-init : goal.loop-section-init
loop-section-init g c =
    let simulation = c.args.simulation.now in
    record {
      written = sym (wrote-nil _ Report);
      differ = refl;
      known = subst (AreBesides simulation) (sym c.in_ok-known.ensures) (none-known (StandsAt simulation) c.len.result);
      each = ap length c.in_ok-known.ensures ∙ length-replicate c.len.result None ∙ c.len.ensures;
      kept = refl;
    }

pub returns-in_err-known-clause-text : goal.returns-in_err-known-clause-text
returns-in_err-known-clause-text g c = appends_nothing _ _ _ c.from_residual.ensures.0

pub write_compared_section-requires-clause-run : goal.write_compared_section-requires-clause-run
write_compared_section-requires-clause-run g c =
    let read = c.args.simulation.now.read in
    let sections = c.args.simulation.now.sections in
    let within = rw c.as_slice-section-items.ensures at c.loop-section-test.true in
    let is = rw c.as_slice-section-items.ensures at c.section-item.is in
    holds_next (CanBeCompared (all_described read.cells) read.modules read.entities) sections c.loop-section.section-index _ c.requires.sections within is

pub returns-in_err-section_differs-clause-text : goal.returns-in_err-section_differs-clause-text
unfolding sections_text
returns-in_err-section_differs-clause-text g c =
    let read = c.args.simulation.now.read in
    let sections = c.args.simulation.now.sections in
    let within = rw c.as_slice-section-items.ensures at c.loop-section-test.true in
    let is = rw c.as_slice-section-items.ensures at c.section-item.is in
    part_of_item (section_text (all_described read.cells) read.modules read.entities) sections c.loop-section.section-index _ _ _ _ _ _ within is c.loop-section.invariant.written c.in_err-section_differs.ensures.text c.from_residual-in_err-section_differs.ensures.0

pub returns-in_err-section_differs-clause-cause : goal.returns-in_err-section_differs-clause-cause
returns-in_err-section_differs-clause-cause g c =
    let cause = c.in_err-section_differs.ensures.cause in
    part_cause _ _ _ _ _ c.loop-section.invariant.kept c.from_residual-in_err-section_differs.ensures.1 cause.later cause.kept cause.failed

pub loop-section-preserved : goal.loop-section-preserved
loop-section-preserved g c =
    let read = c.args.simulation.now.read in
    let sections = c.args.simulation.now.sections in
    let within = rw c.as_slice-section-items.ensures at c.loop-section-test.true in
    let is = rw c.as_slice-section-items.ensures at c.section-item.is in
    record {
      written = wrote_item_as (section_text (all_described read.cells) read.modules read.entities) sections c.loop-section.section-index _ _ _ _ _ within is c.loop-section.invariant.written c.in_ok-section_differs.ensures.text.whole;
      differ = differs_more (all_described read.cells) read.modules read.entities sections c.loop-section.section-index _ _ _ within is c.loop-section.invariant.differ c.in_ok-section_differs.ensures.differs;
      known = c.in_ok-section_differs.ensures.known;
      each = c.in_ok-section_differs.ensures.each ∙ c.loop-section.invariant.each;
      kept = c.in_ok-section_differs.ensures.cause.kept ∙ c.loop-section.invariant.kept;
    }

pub returns-clause-text : goal.returns-clause-text
unfolding sections_text
returns-clause-text g c =
    let read = c.args.simulation.now.read in
    let sections = c.args.simulation.now.sections in
    let over = rw c.as_slice-section-items.ensures at c.loop-section-test.false in
    record {
      whole = wrote_items (section_text (all_described read.cells) read.modules read.entities) sections _ _ _ Report over c.loop-section.invariant.written;
      part = tt;
    }

pub returns-clause-differs : goal.returns-clause-differs
returns-clause-differs g c =
    let read = c.args.simulation.now.read in
    let sections = c.args.simulation.now.sections in
    let over = rw c.as_slice-section-items.ensures at c.loop-section-test.false in
    differs_whole (all_described read.cells) read.modules read.entities sections _ _ over c.loop-section.invariant.differ
