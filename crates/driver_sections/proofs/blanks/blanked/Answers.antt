use Rattle.std.proofs.Common.{◌<◌, length, arith}
use Rattle.driver_sections.proofs.Spaces.{begins_within}
use Rattle.driver_sections.proofs.blanks.blanked.Goals as goal

pub slice_bounds-extend_from_slice-end : goal.slice_bounds-extend_from_slice-end
slice_bounds-extend_from_slice-end c =
    let w : c.loop-section.section-index < length c.args.sections.now = omega arith in
    begins_within c.loop-section.next (length c.args.text.now) c.args.sections.now c.loop-section.section-index _ w c.loop-section.invariant.apart
