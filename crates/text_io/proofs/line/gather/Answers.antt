use Rattle.std.proofs.Common.{[], ◌++◌, take, sym}
use Rattle.std.proofs.lemmas.List.{append-nil}
use Rattle.text_io.specs.declared.slots.Slot.TheVariants.{Output}
use Rattle.text_io.specs.Line.{StopsWithin}
use Rattle.text_io.proofs.Fronts.{OnErr-always}
use Rattle.text_io.proofs.Wrote.{wrote-nil, still_bound, wrote_more, goes_on, IsPrefix-front}
use Rattle.text_io.proofs.line.gather.Goals as goal

pub returns-then-piece-bytes-clause-ok : goal.returns-then-piece-bytes-clause-ok
returns-then-piece-bytes-clause-ok g c = record { written = []; state = sym (wrote-nil _ _); joined = sym c.put_behind.ensures.bytes }

pub returns-in_err-write_whole-clause-err : goal.returns-in_err-write_whole-clause-err
returns-in_err-write_whole-clause-err g c =
    let w = c.in_err-write_whole.ensures.text.part in
    let stops : StopsWithin (g.D.Desk.state c.args.desk.now) (g.D.Desk.state c.write_whole.new.desk) c.args.slot (take c.args.held c.args.bytes.now ++ c.args.piece.now) =
    record { part = w.0; front = IsPrefix-front w.0 (take c.args.held c.args.bytes.now) c.args.piece.now w.1; state = w.2 } in
    OnErr-always _ stops

pub write_whole-requires-then-piece-bytes-2 : goal.write_whole-requires-then-piece-bytes-2
write_whole-requires-then-piece-bytes-2 g c = still_bound _ _ _ _ (Output c.args.slot) c.in_ok-write_whole.ensures.text.whole c.requires.bound

pub returns-in_err-write_whole-2-clause-err : goal.returns-in_err-write_whole-2-clause-err
returns-in_err-write_whole-2-clause-err g c =
    let w = (goes_on _ _ _ _ _ _ _ c.in_ok-write_whole.ensures.text.whole c.in_err-write_whole-2.ensures.text).part in
    let stops : StopsWithin (g.D.Desk.state c.args.desk.now) (g.D.Desk.state c.write_whole-then-piece-bytes-2.new.desk) c.args.slot (take c.args.held c.args.bytes.now ++ c.args.piece.now) =
    record { part = w.0; front = w.1; state = w.2 } in
    OnErr-always _ stops

pub returns-then-piece-bytes-2-clause-ok : goal.returns-then-piece-bytes-2-clause-ok
returns-then-piece-bytes-2-clause-ok g c = record {
  written = take c.args.held c.args.bytes.now ++ c.args.piece.now;
  state = wrote_more _ _ _ _ _ _ c.in_ok-write_whole.ensures.text.whole c.in_ok-write_whole-2.ensures.text.whole;
  joined = sym (append-nil _);
}
