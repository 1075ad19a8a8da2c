use Rattle.std.proofs.Common.{ℕ, ◌+◌, ◌<◌, List, ◌++◌, take, length, ap, subst, ◌∙◌, arith}
use Rattle.std.proofs.lemmas.List.{take-append-drop}
use Rattle.liberty_text.specs.Idle.{front_run, is_plain_in_text}
use Rattle.liberty_text.proofs.Firsts.{run_stops, run_goes_on}
use Rattle.liberty_text.proofs.idle.text_run.Goals as goal

pub returns-then-run-near-clause-value : goal.returns-then-run-near-clause-value
returns-then-run-near-clause-value c =
    let near = c.split_at.result.0.now in
    let far = c.split_at.result.1.now in
    c.searched_run-run.ensures.value
    ∙ run_stops is_plain_in_text near far (subst (λ (n : ℕ). n < length near) c.searched_run-run.ensures.value c.if-run-near.true)
    ∙ ap (front_run is_plain_in_text)
    (ap (λ (l : List ℕ). l ++ far) c.split_at.ensures.front ∙ ap (λ (l : List ℕ). take 127 c.args.bytes.now ++ l) c.split_at.ensures.back ∙ take-append-drop 127 c.args.bytes.now)

pub returns-else-run-near-clause-value : goal.returns-else-run-near-clause-value
returns-else-run-near-clause-value c =
    let near = c.split_at.result.0.now in
    let far = c.split_at.result.1.now in
    ap (λ (n : ℕ). n + c.searched_run-else-run-near.result) c.searched_run-run.ensures.value
    ∙ ap (λ (n : ℕ). front_run is_plain_in_text near + n) c.searched_run-else-run-near.ensures.value
    ∙ run_goes_on is_plain_in_text near far (λ less. omega (arith, less, c.searched_run-run.ensures.value, c.if-run-near.false))
    ∙ ap (front_run is_plain_in_text)
    (ap (λ (l : List ℕ). l ++ far) c.split_at.ensures.front ∙ ap (λ (l : List ℕ). take 127 c.args.bytes.now ++ l) c.split_at.ensures.back ∙ take-append-drop 127 c.args.bytes.now)
