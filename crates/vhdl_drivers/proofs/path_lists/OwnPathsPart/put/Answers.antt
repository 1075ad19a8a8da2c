use Rattle.std.proofs.Common.{[], arith, refl}
use Rattle.text_io.specs.declared.slots.Slot.TheVariants.{Output}
use Rattle.text_io.proofs.LineLaws.{Gathers-nil, gathered_bound}
use Rattle.vhdl_drivers.proofs.DrivenPaths.{put_own, put_other, part_of_own}
use Rattle.vhdl_drivers.specs.DriverText.{drive_path_text}
use Rattle.vhdl_drivers.proofs.path_lists.OwnPathsPart.put.Goals.{then-path-self+in_ok-put, else-path-self}
use Rattle.vhdl_drivers.proofs.path_lists.OwnPathsPart.put.Goals as goal

pub loop-path-init : goal.loop-path-init
loop-path-init g c =
    record { put = record { done = []; gathered = Gathers-nil _ _ _; others = refl }; number = omega arith; kept = omega arith }

pub put-requires : goal.put-requires
put-requires g c = gathered_bound _ _ _ _ _ _ (Output c.args.slot) c.loop-path.invariant.put.gathered c.requires

pub loop-path-preserved : goal.loop-path-preserved
loop-path-preserved g c = elim c.if-path-self.branch [
  | then-path-self+in_ok-put w ↦
      rw (w.line-is, w.desk-is, w.number-is)
      (record {
        put = put_own (drive_path_text c.args.self.now.ports.now) c.args.self.now.drive _ _ _ _ _ _ _ _ _ c.args.self.now.paths.now c.loop-path.path-index _ c.loop-path-test.true w.if-path-self.true c.loop-path.invariant.put w.in_ok-put.ensures.text.whole;
        number = omega (arith, c.loop-path.invariant.number);
        kept = omega (arith, w.in_ok-put.ensures.cause.kept, c.loop-path.invariant.kept);
      })
  | else-path-self w ↦
      rw (w.line-is, w.desk-is, w.number-is)
      (record {
        put = put_other (drive_path_text c.args.self.now.ports.now) c.args.self.now.drive _ _ _ _ _ _ _ c.args.self.now.paths.now c.loop-path.path-index _ c.loop-path-test.true w.if-path-self.false c.loop-path.invariant.put;
        number = omega (arith, c.loop-path.invariant.number);
        kept = c.loop-path.invariant.kept;
      })
]

pub returns-in_err-put-clause-text : goal.returns-in_err-put-clause-text
returns-in_err-put-clause-text g c =
    part_of_own (drive_path_text c.args.self.now.ports.now) c.args.self.now.drive _ _ _ _ _ _ _ _ _ _ c.args.self.now.paths.now c.loop-path.path-index _ _ _ c.loop-path-test.true c.if-path-self.true c.loop-path.invariant.put c.in_err-put.ensures.text c.from_residual.ensures.0
