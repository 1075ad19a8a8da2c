use Rattle.std.proofs.Common.{◌∙◌, ◌+◌, length, ap}
use Rattle.cell_cursor.proofs.StandsLemmas.{part_refused, part_seen, part_to, part_waits, opened, part_back, stands_same}
use Rattle.cell_cursor.proofs.cursor.CellCursor.take_part.Goals as goal

pub returns-in-Refused-clause-stands : goal.returns-in-Refused-clause-stands
returns-in-Refused-clause-stands c =
    let part = opened c.args.self.now.part c.replace.result _ _ c.replace.ensures.value c.into_tokens-bytes.ensures.bytes c.into_tokens-bytes.ensures.tokens
    c.into_tokens-bytes.ensures.inside c.into_tokens-bytes.ensures.scanned c.into_tokens-bytes.ensures.all in
    part_refused c.args.may_have_ended c.args.self.now c.refuse.new.self c.in_ok-reached.reached c.in-Refused.fault _ _ _ _ _ _ _ c.in-Refused.is c.in_ok-reached.ensures c.new-items.ensures.items c.sharing-cursor.ensures
    c.before-before.ensures (c.in_ok-shared.ensures ∙ part.bytes_are) part.tokens_are (ap (λ k. k + length c.bytes.result.now) c.before-before.ensures ∙ ap (λ b. c.args.self.now.part.before + length b) c.bytes.ensures)
    part.scanned part.inside c.refuse.ensures.limit c.refuse.ensures.answer c.refuse.ensures.items

pub returns-else-not-may_have_ended-clause-stands : goal.returns-else-not-may_have_ended-clause-stands
returns-else-not-may_have_ended-clause-stands c =
    let part = opened c.args.self.now.part c.replace.result _ _ c.replace.ensures.value c.into_tokens-bytes.ensures.bytes c.into_tokens-bytes.ensures.tokens
    c.into_tokens-bytes.ensures.inside c.into_tokens-bytes.ensures.scanned c.into_tokens-bytes.ensures.all in
    part_to c.args.may_have_ended c.args.self.now c.go_to.new.self c.in_ok-reached.reached c.in-To.place _ _ _ _ _ _ _ c.if-not-may_have_ended.false c.in-To.is c.in_ok-reached.ensures c.new-items.ensures.items c.sharing-cursor.ensures
    c.before-before.ensures (c.in_ok-shared.ensures ∙ part.bytes_are) part.tokens_are (ap (λ k. k + length c.bytes.result.now) c.before-before.ensures ∙ ap (λ b. c.args.self.now.part.before + length b) c.bytes.ensures)
    c.requires.going part.scanned (c.requires.mode c.if-not-may_have_ended.false) part.inside c.go_to.ensures.limit c.go_to.ensures.answer c.go_to.ensures.place c.go_to.ensures.piece
    c.go_to.ensures.bytes c.go_to.ensures.tokens c.go_to.ensures.before c.go_to.ensures.items

pub returns-then-not-may_have_ended-clause-stands : goal.returns-then-not-may_have_ended-clause-stands
returns-then-not-may_have_ended-clause-stands c = λ bytes items g.
    let part = opened c.args.self.now.part c.replace.result _ _ c.replace.ensures.value c.into_tokens-bytes.ensures.bytes c.into_tokens-bytes.ensures.tokens
    c.into_tokens-bytes.ensures.inside c.into_tokens-bytes.ensures.scanned c.into_tokens-bytes.ensures.all in
    stands_same c.args.self.now c.scan_anew-then-not-may_have_ended.new.self bytes items c.scan_anew-then-not-may_have_ended.ensures.limit c.scan_anew-then-not-may_have_ended.ensures.place c.scan_anew-then-not-may_have_ended.ensures.piece
    (part_back c.args.self.now.part _ _ _ _ _ part c.before-before.ensures (c.as_slice-then-not-may_have_ended.ensures ∙ c.in_ok-shared.ensures) c.in_ok-scan_anew-in-To.ensures.part) c.scan_anew-then-not-may_have_ended.ensures.answer c.scan_anew-then-not-may_have_ended.ensures.items
    (part_seen c.args.may_have_ended c.args.self.now c.if-not-may_have_ended.true c.requires.going c.requires.none_waits bytes items g)

pub returns-in_ok-scan_anew-in-Unfinished-clause-stands : goal.returns-in_ok-scan_anew-in-Unfinished-clause-stands
returns-in_ok-scan_anew-in-Unfinished-clause-stands c = λ bytes items g.
    let part = opened c.args.self.now.part c.replace.result _ _ c.replace.ensures.value c.into_tokens-bytes.ensures.bytes c.into_tokens-bytes.ensures.tokens
    c.into_tokens-bytes.ensures.inside c.into_tokens-bytes.ensures.scanned c.into_tokens-bytes.ensures.all in
    stands_same c.args.self.now c.scan_anew.new.self bytes items c.scan_anew.ensures.limit c.scan_anew.ensures.place c.scan_anew.ensures.piece
    (part_back c.args.self.now.part _ _ _ _ _ part c.before-before.ensures (c.as_slice.ensures ∙ c.in_ok-shared.ensures) c.in_ok-scan_anew-in-Unfinished.ensures.part) c.scan_anew.ensures.answer c.scan_anew.ensures.items
    (part_waits c.args.may_have_ended c.args.self.now c.in_ok-reached.reached _ _ _ _ _ _ _ c.in-Unfinished.is c.in_ok-reached.ensures c.sharing-cursor.ensures part.tokens_are
    c.requires.going c.requires.none_waits part.scanned bytes items g)
