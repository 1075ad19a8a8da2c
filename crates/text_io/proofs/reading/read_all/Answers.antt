use Rattle.std.proofs.Common.{refl, sym, ◌∙◌, ap, arith, take, drop, length, ◌≡◌, ◌+◌, ◌++◌, ◌<◌, length-append, length-drop}
use Rattle.std.proofs.lemmas.List.{take-append-le, length-take}
use Rattle.text_io.specs.declared.slots.Slot.TheVariants.{Input}
use Rattle.text_io.specs.Desk.{took}
use Rattle.text_io.specs.Read.{ReadsAtMost}
use Rattle.text_io.proofs.Took.{took-zero, bound_still, took_more, left_after}
use Rattle.text_io.proofs.Fronts.{IsFront-nil, IsFront-more, length-front_more, front_at_end, front_at_limit, OnErr-always}
use Rattle.text_io.proofs.reading.read_all.Goals as goal

pub loop-piece-init : goal.loop-piece-init
loop-piece-init g c = rw c.new-bytes.ensures.items (record {
  within = omega arith;
  taken = sym (took-zero _ _);
  front = IsFront-nil _;
  kept = omega arith;
  whole_piece = refl;
})

pub read-requires : goal.read-requires
read-requires g c = bound_still _ _ _ _ (Input c.args.slot) c.loop-piece.invariant.taken c.requires

pub returns-then-count-eq0-clause-ok : goal.returns-then-count-eq0-clause-ok
returns-then-count-eq0-clause-ok g c =
    let s = g.D.Desk.state c.args.desk.now in
    let now_left = left_after _ _ _ _ c.loop-piece.invariant.taken in
    let asked : 0 < length c.read.new.into = omega (arith, c.read.auto.into, length-take c.min-want.result c.loop-piece.piece) in
    let none_left = rw now_left at (c.in_ok-count.ensures.end c.if-count-eq0.true asked) in
    let whole = front_at_end (s.left c.args.slot) c.loop-piece.bytes.items c.args.limit c.loop-piece.invariant.within c.loop-piece.invariant.front none_left in
    record {
      state = took_more _ _ _ _ _ _ c.loop-piece.invariant.taken c.in_ok-count.ensures.ok ∙ ap (λ k. took s c.args.slot (length c.loop-piece.bytes.items + k)) c.if-count-eq0.true;
      within = c.loop-piece.invariant.within;
      bytes = whole.0;
      more = whole.1;
    }

pub loop-piece-preserved : goal.loop-piece-preserved
loop-piece-preserved g c =
    let into = c.read.new.into in
    let count = c.in_ok-count.count in
    let bytes = c.loop-piece.bytes.items in
    let now_left = left_after _ _ _ _ c.loop-piece.invariant.taken in
    let gained : c.extend_from_slice.new.self.items ≡ bytes ++ take count into = c.in_ok-extend_from_slice.ensures.items ∙ ap (λ t. bytes ++ t) (take-append-le count into _ c.in_ok-count.ensures.at_most) in
    let size = length-front_more bytes into count c.in_ok-count.ensures.at_most in
    let read = rw now_left at c.in_ok-count.ensures.front in
    rw gained (record {
      within = rw size (omega (arith, c.in_ok-count.ensures.at_most, c.read.auto.into, length-take c.min-want.result c.loop-piece.piece));
      taken = took_more _ _ _ _ _ _ c.loop-piece.invariant.taken c.in_ok-count.ensures.ok ∙ ap (took (g.D.Desk.state c.args.desk.now) c.args.slot) (sym size);
      front = IsFront-more _ bytes into count c.in_ok-count.ensures.at_most c.loop-piece.invariant.front read;
      kept = omega (arith, c.in_ok-count.ensures.cause.kept, c.loop-piece.invariant.kept);
      whole_piece = length-append into (drop c.min-want.result c.loop-piece.piece) ∙ omega (arith, c.read.auto.into, length-take c.min-want.result c.loop-piece.piece, length-drop c.min-want.result c.loop-piece.piece);
    })

pub returns-in_err-extend_from_slice-clause-err : goal.returns-in_err-extend_from_slice-clause-err
returns-in_err-extend_from_slice-clause-err g c =
    let bytes = c.loop-piece.bytes.items in
    let read : ReadsAtMost (g.D.Desk.state c.args.desk.now) (g.D.Desk.state c.read.new.self) c.args.slot (c.args.limit + 1) = (
      length bytes + c.in_ok-count.count,
      omega (arith, c.in_ok-count.ensures.at_most, c.read.auto.into, length-take c.min-want.result c.loop-piece.piece),
      took_more _ _ _ _ _ _ c.loop-piece.invariant.taken c.in_ok-count.ensures.ok,
    ) in
    OnErr-always _ read

pub has_more-requires : goal.has_more-requires
has_more-requires g c = bound_still _ _ _ _ (Input c.args.slot) c.loop-piece.invariant.taken c.requires

pub returns-clause-ok : goal.returns-clause-ok
returns-clause-ok g c =
    let s = g.D.Desk.state c.args.desk.now in
    let now_left = left_after _ _ _ _ c.loop-piece.invariant.taken in
    let full : length c.loop-piece.bytes.items ≡ c.args.limit = omega arith in
    let told = rw now_left at c.in_ok-more.ensures.ok.told in
    let whole = front_at_limit (s.left c.args.slot) c.loop-piece.bytes.items c.args.limit c.in_ok-more.more full c.loop-piece.invariant.front told in
    record {
      state = took_more _ _ _ _ _ _ c.loop-piece.invariant.taken c.in_ok-more.ensures.ok.state;
      within = c.loop-piece.invariant.within;
      bytes = whole.0;
      more = whole.1;
    }
