use Rattle.std.proofs.Common.{◌≡◌, ◌≤◌, ◌+◌, ◌<◌, ◌∙◌, ap, length, arith, refl}
use Rattle.std.proofs.lemmas.Option.{slice_get_read}
use Rattle.udp_tables.specs.declared.models.VPort.{VPort}
use Rattle.run_parts.specs.PortNumbers.{input_number}
use Rattle.run_parts.proofs.PortLemmas.{one-input, no-input, more-numbers}
use Rattle.run_parts.proofs.ports.input_numbers.Goals as goal
use Rattle.run_parts.proofs.ports.input_numbers.Goals.{then-ports-i, else-ports-i}

pub loop-i-preserved : goal.loop-i-preserved
loop-i-preserved c =
    let ports = c.args.ports.now in
    let i = c.loop-i.i in
    let inside : i < length ports = omega arith in
    let is = slice_get_read ports (length ports) i c.index-ports-i.result refl inside c.index-ports-i.is in
    let counted : c.if-ports-i.count ≡ input_number ports (i + 1)
    = elim c.if-ports-i.branch [
      | then-ports-i w ↦ w.count-is ∙ ap (λ n. n + 1) c.loop-i.invariant.counted ∙ one-input ports i c.index-ports-i.result is (ap (λ (p : VPort). p.input) c.index-ports-i.is ∙ w.if-ports-i.true)
      | else-ports-i w ↦ w.count-is ∙ c.loop-i.invariant.counted ∙ no-input ports i c.index-ports-i.result is (ap (λ (p : VPort). p.input) c.index-ports-i.is ∙ w.if-ports-i.false)
    ] in
    let few : c.if-ports-i.count ≤ i + 1
    = elim c.if-ports-i.branch [
      | then-ports-i w ↦ omega (arith, w.count-is, c.loop-i.invariant.few)
      | else-ports-i w ↦ omega (arith, w.count-is, c.loop-i.invariant.few)
    ] in
    record {
      counted = counted;
      few = few;
      numbers = more-numbers ports i c.loop-i.count c.loop-i.numbers _ c.in_ok-push.ensures.ok c.loop-i.invariant.counted c.loop-i.invariant.numbers;
    }
