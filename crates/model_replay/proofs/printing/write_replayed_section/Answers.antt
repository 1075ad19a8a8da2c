use Rattle.std.proofs.Common.{◌<◌, length, arith}
use Rattle.stimulus.proofs.Runs.{appends_nothing}
use Rattle.model_replay.proofs.SectionTexts.{has_model, is_found}
use Rattle.model_files.proofs.KnownThings.{here-some, on-ok}
use Rattle.model_replay.proofs.printing.write_replayed_section.Goals as goal

pub write_found_section-requires-clause-found : goal.write_found_section-requires-clause-found
write_found_section-requires-clause-found g c =
    is_found g.L.ModelLanguage.language _ _ _ c.args.section.now c.index-as_slice-section.result c.ports-ports.result.now c.requires.run
    c.requires.catalog c.as_slice.ensures c.index-as_slice-section.is c.ports-ports.ensures

pub write_found_section-requires-clause-start : goal.write_found_section-requires-clause-start
write_found_section-requires-clause-start g c =
    let found = is_found g.L.ModelLanguage.language _ _ _ c.args.section.now c.index-as_slice-section.result c.ports-ports.result.now c.requires.run c.requires.catalog c.as_slice.ensures c.index-as_slice-section.is c.ports-ports.ensures in
    let models = c.args.replay.now.models in
    let cell = c.args.section.now.cell in
    let many : cell < length models = has_model g.L.ModelLanguage.language models c.args.section.now c.requires.run in
    let inside : cell < length c.learn.new.known.items = omega (arith, many, c.requires.each, c.in_ok-learn.ensures.len) in
    let here = here-some c.learn.new.known.items cell c.index.result.now c.in-Some.start inside c.index.ensures c.in-Some.is in
    c.in_ok-learn.ensures.known models found.found c.requires.known cell c.in-Some.start here c.index-as_slice-section.result found.found

pub returns-in_err-learn-clause-text : goal.returns-in_err-learn-clause-text
returns-in_err-learn-clause-text g c = appends_nothing _ _ _ c.from_residual.ensures.0

pub returns-clause-known : goal.returns-clause-known
returns-clause-known g c =
    let found = is_found g.L.ModelLanguage.language _ _ _ c.args.section.now c.index-as_slice-section.result c.ports-ports.result.now c.requires.run c.requires.catalog c.as_slice.ensures c.index-as_slice-section.is c.ports-ports.ensures in
    let are = c.in_ok-learn.ensures.known c.args.replay.now.models found.found c.requires.known in
    on-ok _ c.write_found_section.result are
