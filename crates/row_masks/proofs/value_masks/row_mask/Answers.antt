use Rattle.std.proofs.Common.{◌<◌, ◌^◌, arith}
use Rattle.row_masks.proofs.MaskLemmas.{mask-room}
use Rattle.row_masks.proofs.value_masks.row_mask.Goals as goal

pub overflow_mul-mask : goal.overflow_mul-mask
overflow_mul-mask g c =
    let l = c.loop-left in
    let room : l.mask < 2 ^ 63
    = mask-room _ c.args.rows.now c.loop-left-test.true c.requires l.invariant.within l.invariant.mask in
    omega arith

pub overflow_add-mask : goal.overflow_add-mask
overflow_add-mask g c =
    let l = c.loop-left in
    let room : l.mask < 2 ^ 63
    = mask-room _ c.args.rows.now c.loop-left-test.true c.requires l.invariant.within l.invariant.mask in
    omega (arith, c.bit.ensures.below)
