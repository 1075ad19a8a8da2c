use Rattle.std.proofs.Common.{◌≡◌, ◌<◌, ◌++◌, ◌∷◌, [], take, cond, get_or, ap, sym, ◌∙◌, length, arith}
use Rattle.std.proofs.lemmas.List.{append-nil}
use Rattle.run_parts.specs.Places.{places_from}
use Rattle.run_parts.proofs.PlaceLemmas.{places-more}
use Rattle.module_runs.specs.FedInstances.{is_fed_by}
use Rattle.module_runs.proofs.fed_instances.places_fed.Goals as goal
use Rattle.module_runs.proofs.fed_instances.places_fed.Goals.{then-is_fed+in_ok-push, else-is_fed}

pub loop-i-preserved : goal.loop-i-preserved
loop-i-preserved c =
    let instances = c.args.instances.now in
    let test = is_fed_by c.args.feeder in
    let i = c.loop-i.i in
    let inside : i < length instances = omega arith in
    let d = c.index-instances-i.result in
    let before = places_from test 0 (take i instances) in
    let step = places-more test instances i d inside in
    let is : c.is_fed_by-is_fed.result ≡ test (get_or instances i d)
    = c.is_fed_by-is_fed.ensures ∙ ap test c.index-instances-i.is in
    elim c.if-is_fed.branch [
      | then-is_fed+in_ok-push w ↦
          w.places-is ∙ w.in_ok-push.ensures.ok ∙ ap (λ xs. xs ++ i ∷ []) c.loop-i.invariant
          ∙ ap (λ b. before ++ cond b (i ∷ []) []) (sym w.if-is_fed.true ∙ is) ∙ step
      | else-is_fed w ↦
          w.places-is ∙ c.loop-i.invariant ∙ sym (append-nil before)
          ∙ ap (λ b. before ++ cond b (i ∷ []) []) (sym w.if-is_fed.false ∙ is) ∙ step
    ]
