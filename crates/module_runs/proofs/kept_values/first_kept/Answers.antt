use Rattle.std.proofs.Common.{◌∙◌, ap, sym, subst, length, IsTrue}
use Rattle.std.proofs.lemmas.List.{length-replicate}
use Rattle.trit_cubes.specs.declared.trits.Trit.TheVariants.{Unknown}
use Rattle.module_runs.specs.Wiring.{is_wired}
use Rattle.module_runs.proofs.kept_values.first_kept.Goals as goal

pub find_all-requires : goal.find_all-requires
find_all-requires c =
    subst (λ n. IsTrue (is_wired n c.args.tables.now.model.now))
    (sym (ap length c.in_ok-room.ensures ∙ length-replicate c.most_nets.result Unknown)) c.most_nets.ensures
