-- Tokens of which the last stands first.
use Rattle.std.proofs.Common.{◌≡◌, ◌-◌, List, [], ◌∷◌, ◌++◌, take, reverse, length, Option, Some, None, sym, ap, ◌∙◌, arith}
use Rattle.std.proofs.lemmas.List.{length-append, length-take-le, reverse-append, reverse-reverse, length-reverse}
use Rattle.std.specs.Option.{option_to_list}
use Rattle.liberty_text.specs.declared.token.Token.{Token}
use Rattle.liberty_text.specs.Unread.{first, others}

pub turned_back : (ts us : List Token) → us ≡ reverse ts → reverse us ≡ ts
turned_back ts us e = ap reverse e ∙ reverse-reverse ts

pub turned_length : (ts : List Token) → length ts ≡ length (reverse ts)
turned_length ts = sym (length-reverse ts)

pub turned_first : (ts us : List Token) (t : Token) → ts ≡ us ++ t ∷ [] → first (reverse ts) ≡ Some t
turned_first ts us t e = ap (λ (l : List Token). first (reverse l)) e ∙ ap first (reverse-append us (t ∷ []))

pub turned_others : (ts us : List Token) (o : Option Token) → ts ≡ us ++ option_to_list o → us ≡ take (length ts - 1) ts
    → reverse us ≡ others (reverse ts)
turned_others [] us None e f = ap reverse f
turned_others (t ∷ ts) us None e f =
    let k = ap length e in
    let j = length-append us [] in
    let m = ap length f in
    let n = length-take-le (length (t ∷ ts) - 1) (t ∷ ts) (omega arith) in
    absurd (omega (arith, k, j, m, n))
turned_others ts us (Some t) e f = sym (ap (λ (l : List Token). others (reverse l)) e ∙ ap others (reverse-append us (t ∷ [])))
