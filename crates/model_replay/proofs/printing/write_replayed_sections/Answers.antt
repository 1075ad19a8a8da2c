use Rattle.std.proofs.Common.{refl, sym, ap, subst, length, ◌∙◌, None}
use Rattle.std.proofs.lemmas.List.{length-replicate}
use Rattle.text_io.proofs.Wrote.{wrote_item_as}
use Rattle.model_replay.specs.Outcome.{replayed_section_text}
use Rattle.model_replay.specs.Replays.{CanBeRun}
use Rattle.stimulus.proofs.Runs.{holds_next, appends_nothing}
use Rattle.model_replay.specs.KnownModels.{IsStartAt, AreStarts}
use Rattle.model_files.proofs.KnownThings.{none-known}
use Rattle.model_replay.proofs.SectionTexts.{sections_none, sections_whole, sections_part}
use Rattle.model_replay.proofs.printing.write_replayed_sections.Goals as goal

pub loop-section-init : goal.loop-section-init
loop-section-init g c =
    let is_start = g.L.ModelLanguage.is_start in
    let models = c.args.replay.now.models in
    record {
      written = sections_none g.L.ModelLanguage.language models c.args.replay.now.sections _;
      known = subst (AreStarts is_start models) (sym c.in_ok-known.ensures) (none-known (IsStartAt is_start models) c.len.result);
      each = ap length c.in_ok-known.ensures ∙ length-replicate c.len.result None ∙ c.len.ensures;
      kept = refl;
    }

pub write_replayed_section-requires-clause-run : goal.write_replayed_section-requires-clause-run
write_replayed_section-requires-clause-run g c =
    holds_next (CanBeRun g.L.ModelLanguage.language c.args.replay.now.models) c.args.replay.now.sections c.loop-section.section-index _ c.requires.runs (rw c.as_slice-section-items.ensures at c.loop-section-test.true) (rw c.as_slice-section-items.ensures at c.section-item.is)

pub loop-section-preserved : goal.loop-section-preserved
loop-section-preserved g c = record {
  written = wrote_item_as (replayed_section_text g.L.ModelLanguage.language c.args.replay.now.models) c.args.replay.now.sections c.loop-section.section-index _ _ _ _ _ (rw c.as_slice-section-items.ensures at c.loop-section-test.true) (rw c.as_slice-section-items.ensures at c.section-item.is) c.loop-section.invariant.written c.in_ok-write_replayed_section.ensures.text.whole;
  known = c.in_ok-write_replayed_section.ensures.known;
  each = c.in_ok-write_replayed_section.ensures.each ∙ c.loop-section.invariant.each;
  kept = c.in_ok-write_replayed_section.ensures.cause.kept ∙ c.loop-section.invariant.kept;
}

pub returns-in_err-write_replayed_section-clause-text : goal.returns-in_err-write_replayed_section-clause-text
returns-in_err-write_replayed_section-clause-text g c =
    sections_part g.L.ModelLanguage.language c.args.replay.now.models c.args.replay.now.sections c.loop-section.section-index _ _ _ _ _ _ (rw c.as_slice-section-items.ensures at c.loop-section-test.true) (rw c.as_slice-section-items.ensures at c.section-item.is) c.loop-section.invariant.written c.in_err-write_replayed_section.ensures.text c.from_residual-in_err-write_replayed_section.ensures.0

pub returns-clause-text : goal.returns-clause-text
returns-clause-text g c = record { whole = sections_whole g.L.ModelLanguage.language c.args.replay.now.models c.args.replay.now.sections _ _ _ (rw c.as_slice-section-items.ensures at c.loop-section-test.false) c.loop-section.invariant.written; part = tt }

pub returns-in_err-known-clause-text : goal.returns-in_err-known-clause-text
returns-in_err-known-clause-text g c = appends_nothing _ _ _ c.from_residual.ensures.0
