use Rattle.std.proofs.Common.{◌≡◌, ◌+◌, List, ℕ, Bor, sym, arith}
use Rattle.lexer.proofs.WordGroups.{before, untold, told}
use Rattle.lexer.proofs.word_groups.group_of.Goals as goal

abbrev words-of : Bor (List (Bor (List ℕ))) → List (Bor (List ℕ))
words-of group = group.now

pub returns-then-first-lt97 : goal.returns-then-first-lt97
returns-then-first-lt97 c fold rest e =
    sym (before words-of (λ (w : Bor (List ℕ)). fold w.now) 97 c.args.first rest c.args.groups.now e c.if-first-lt97.true)

pub returns-then-place-groups : goal.returns-then-place-groups
returns-then-place-groups c fold rest e =
    let place : c.args.first ≡ 97 + c.from-place.result = omega (arith, c.from-place.ensures, c.if-first-lt97.false) in
    sym (untold words-of (λ (w : Bor (List ℕ)). fold w.now) 97 c.args.first c.from-place.result rest c.args.groups.now e place
    (omega (arith, c.if-place-groups.true)))

pub returns : goal.returns
returns c fold rest e =
    let place : c.args.first ≡ 97 + c.from-place.result = omega (arith, c.from-place.ensures, c.if-first-lt97.false) in
    told words-of (λ (w : Bor (List ℕ)). fold w.now) 97 c.args.first c.from-place.result rest c.args.groups.now _ e place
    (omega (arith, c.if-place-groups.false))
