use Rattle.std.proofs.Common.{◌≡◌, sym, subst}
use Rattle.run_outcome.specs.Runs.{RunsAs}
use Rattle.model_files.specs.ModelNames.{HaveOwnNames}
use Rattle.run_outcome.proofs.FileStepLaws.{err_is}
use Rattle.model_replay.specs.ModelPorts.{models_named}
use Rattle.model_replay.specs.Outcome.{replay_files, replay_of}
use Rattle.model_replay.proofs.ReplayFiles.{models_planned, stimulus_planned, models_read, models_end, stimulus_ends, no_memory}
use Rattle.model_replay.proofs.ReplayFiles.{replay_read}
use Rattle.model_replay.proofs.reading.read_replay.Goals as goal

pub read_model_file-requires : goal.read_model_file-requires
read_model_file-requires g c = models_planned (g.D.Desk.state c.args.desk.now).words g.L.ModelLanguage.language.format c.requires

pub returns-in_err-models-clause-ended : goal.returns-in_err-models-clause-ended
returns-in_err-models-clause-ended g c =
    let s = g.D.Desk.state c.args.desk.now in
    let l = g.L.ModelLanguage.language in
    err_is c.from_residual.result _ _ c.from_residual.ensures.1
    (λ y is. subst (RunsAs (replay_files l.format) (replay_of l s.words) s (g.D.Desk.state c.read_model_file.new.desk)) (sym is) (models_end l _ _ _ c.in_err-models.ensures.err))

pub returns-in_err-catalog-clause-ended : goal.returns-in_err-catalog-clause-ended
returns-in_err-catalog-clause-ended g c =
    let l = g.L.ModelLanguage.language in
    err_is c.from_residual-in_err-catalog.result _ _ c.from_residual-in_err-catalog.ensures.1
    (λ y is. no_memory l _ _ c.in_ok-models.models.items y (models_read l _ _ _ c.in_ok-models.ensures.ok) is)

pub read_stimulus_file-requires : goal.read_stimulus_file-requires
read_stimulus_file-requires g c = let l = g.L.ModelLanguage.language in stimulus_planned l _ _ _ (models_read l _ _ _ c.in_ok-models.ensures.ok) c.requires

pub returns-in_err-sections-clause-ended : goal.returns-in_err-sections-clause-ended
returns-in_err-sections-clause-ended g c =
    let s = g.D.Desk.state c.args.desk.now in
    let l = g.L.ModelLanguage.language in
    let named = subst (λ ms. HaveOwnNames l ms → c.in_ok-catalog.catalog ≡ models_named l ms) c.as_slice.ensures.value c.in_ok-catalog.ensures in
    err_is c.from_residual-in_err-sections.result _ _ c.from_residual-in_err-sections.ensures.1
    (λ y is. subst (RunsAs (replay_files l.format) (replay_of l s.words) s (g.D.Desk.state c.read_stimulus_file.new.desk)) (sym is)
    (stimulus_ends l _ _ _ _ c.in_ok-catalog.catalog _ (models_read l _ _ _ c.in_ok-models.ensures.ok) (named c.in_ok-models.ensures.own) c.in_err-sections.ensures.err))

pub returns-clause-read : goal.returns-clause-read
returns-clause-read g c =
    let old = g.D.Desk.state c.args.desk.now in
    let new = g.D.Desk.state c.read_stimulus_file.new.desk in
    let l = g.L.ModelLanguage.language in
    let named = subst (λ ms. HaveOwnNames l ms → c.in_ok-catalog.catalog ≡ models_named l ms) c.as_slice.ensures.value c.in_ok-catalog.ensures in
    rw (c.from_vec.ensures, c.from_vec-2.ensures)
    (replay_read l old _ new c.in_ok-models.models.items c.in_ok-catalog.catalog c.in_ok-sections.sections.items c.in_ok-models.ensures.ok c.in_ok-models.ensures.text
    c.in_ok-models.ensures.well_formed c.in_ok-models.ensures.own (named c.in_ok-models.ensures.own) c.in_ok-sections.ensures.ok c.in_ok-sections.ensures.read)
