use Rattle.std.proofs.Common.{◌≡◌, false, length, take, subst, ap, arith, length-append}
use Rattle.std.proofs.lemmas.List.{length-take-le}
use Rattle.cell_cursor.specs.Braces.{has_outer, kinds_of}
use Rattle.cell_cursor.specs.Scanned.{Scanned, NoneOuter}
use Rattle.cell_cursor.proofs.ScannedLemmas.{all_are_scanned, run_scanned, run_tokens, scanned_is, run_mode, none_outer_ends}
use Rattle.cell_cursor.proofs.part.Part.scan.Goals as goal

pub invariant_of-self : goal.invariant_of-self
invariant_of-self c =
    let size = ap length c.in-Ok.ensures.bytes in
    record {
      tokens_are =
          run_tokens c.self.inside.bytes.items c.scan_run.new.bytes.items c.self.inside.scanner.tokens.items c.scan_run.new.scanner.tokens.items c.self.inside.scanner.mode _
          c.self.invariant.tokens_are c.self.invariant.open_is c.in-Ok.ensures.bytes c.in-Ok.ensures.tokens;
      open_is =
          run_mode c.self.inside.bytes.items c.scan_run.new.bytes.items c.self.inside.scanner.mode c.scan_run.new.scanner.mode _
          c.self.invariant.open_is c.in-Ok.ensures.bytes c.in-Ok.ensures.mode;
      counted = c.in-Ok.ensures.counted;
      few = omega (arith, size, c.in-Ok.ensures.few, length-append c.self.inside.bytes.items (take c.in-Ok.stretch.count c.args.bytes.now), length-take-le c.in-Ok.stretch.count c.args.bytes.now c.in-Ok.ensures.count);
    }

pub returns-in-Ok-clause-scanned : goal.returns-in-Ok-clause-scanned
returns-in-Ok-clause-scanned c =
    run_scanned c.self.inside.bytes.items c.scan_run.new.bytes.items c.self.inside.scanner.tokens.items c.scan_run.new.scanner.tokens.items c.self.inside.scanner.mode c.scan_run.new.scanner.mode _
    (all_are_scanned c.self.inside.bytes.items c.self.inside.scanner.tokens.items c.self.inside.scanner.mode c.self.invariant.tokens_are c.self.invariant.open_is) c.in-Ok.ensures.bytes c.in-Ok.ensures.tokens c.in-Ok.ensures.mode

pub returns-in-Ok-clause-none_before : goal.returns-in-Ok-clause-none_before
returns-in-Ok-clause-none_before c =
    subst (λ (v : Scanned). has_outer c.args.place (kinds_of v.tokens) ≡ false → NoneOuter c.args.place v.bytes c.args.bytes.now c.in-Ok.stretch.count) c.self.view_is
    (λ none. none_outer_ends c.args.place c.self.inside.bytes.items c.args.bytes.now c.self.inside.scanner.tokens.items c.self.inside.scanner.mode c.in-Ok.stretch.count (all_are_scanned c.self.inside.bytes.items c.self.inside.scanner.tokens.items c.self.inside.scanner.mode c.self.invariant.tokens_are c.self.invariant.open_is) (c.in-Ok.ensures.none_before none))

pub returns-in-Ok-clause-all : goal.returns-in-Ok-clause-all
returns-in-Ok-clause-all c =
    scanned_is c.self.inside.before c.scan_run.new.bytes.items c.scan_run.new.scanner.tokens.items c.scan_run.new.scanner.mode c.in-Ok.stretch.depth
    (run_tokens c.self.inside.bytes.items c.scan_run.new.bytes.items c.self.inside.scanner.tokens.items c.scan_run.new.scanner.tokens.items c.self.inside.scanner.mode _
    c.self.invariant.tokens_are c.self.invariant.open_is c.in-Ok.ensures.bytes c.in-Ok.ensures.tokens)
    (run_mode c.self.inside.bytes.items c.scan_run.new.bytes.items c.self.inside.scanner.mode c.scan_run.new.scanner.mode _
    c.self.invariant.open_is c.in-Ok.ensures.bytes c.in-Ok.ensures.mode)
    c.in-Ok.ensures.counted
