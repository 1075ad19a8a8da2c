use Rattle.std.proofs.Common.{◌≡◌, ◌<◌, Some, slice_get, ap, subst, ◌∙◌, List, arith}
use Rattle.std.proofs.lemmas.Option.{slice_get_within, get_or_from_slice_get}
use borrow.Author.Count.{below_more}
use Rattle.specify_blocks.specs.declared.model.VPath.{VPath}
use Rattle.module_runs.specs.Gates.{IsGate}
use Rattle.module_runs.proofs.gates.Gates.of.Goals as goal

pub loop-i-preserved : goal.loop-i-preserved
loop-i-preserved c =
    let m = c.args.model.now in
    let paths = c.as_slice-paths.result.now in
    let i = c.loop-i.i in
    record {
      seen =
          below_more (λ j. (path : VPath) → slice_get paths j ≡ Some path → IsGate m c.note.new.self path) i
          (λ j below path e. c.note.ensures.others path (c.loop-i.invariant.seen j below path e))
          (λ path e. subst (IsGate m c.note.new.self) (get_or_from_slice_get paths i path _ e) c.note.ensures.own);
      one_each = c.note.ensures.one_each;
    }

pub returns : goal.returns
returns c = λ i path e.
    let paths = c.as_slice-paths.result.now in
    let there : slice_get paths i ≡ Some path = ap (λ (ps : List VPath). slice_get ps i) c.as_slice-paths.ensures ∙ e in
    let within = slice_get_within paths i path there in
    let below : i < c.loop-i.i = omega (arith, within) in
    c.loop-i.invariant.seen i below path there
