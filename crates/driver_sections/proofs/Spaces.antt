-- Sections one behind the other, and spaces in their places.
use Rattle.std.proofs.Common.{◌≡◌, ℕ, suc, ◌+◌, ◌-◌, ◌≤◌, ◌<◌, List, [], ◌∷◌, ◌++◌, length, drop, get_or, replicate, ap, subst}
use Rattle.std.proofs.Common.{◌∙◌, arith, append_assoc}
use Rattle.std.proofs.lemmas.List.{drop_more}
use Rattle.lexer.specs.declared.span.Span.{Span}
use Rattle.driver_sections.specs.Sections.{StandApart}

-- one more item, while there are some left
pub one_less : (before : List ℕ) (n i : ℕ) → i < n
    → (before ++ 32 ∷ []) ++ replicate (n - (i + 1)) 32 ≡ before ++ replicate (n - i) 32
one_less before n i h =
    let e : suc (n - (i + 1)) ≡ n - i = omega (arith, h) in
    append_assoc before (32 ∷ []) (replicate (n - (i + 1)) 32) ∙ ap (λ (k : ℕ). before ++ replicate k 32) e

pub in_order : (from to : ℕ) (sections : List Span) → StandApart from to sections → from ≤ to
in_order from to [] h = h
in_order from to (s ∷ sections) h = let k : s.end ≤ to = in_order s.end to sections h.2 in omega (arith, h.0, h.1, k)

-- a section that is still left begins before the end
pub begins_within : (from to : ℕ) (sections : List Span) (i : ℕ) (d : Span) → i < length sections
    → StandApart from to (drop i sections) → (get_or sections i d).at ≤ to
begins_within from to sections i d h a =
    let (b, c, e) = subst (StandApart from to) (drop_more sections i d h) a in
    let k : (get_or sections i d).end ≤ to = in_order (get_or sections i d).end to (drop (i + 1) sections) e in
    omega (arith, c, k)

-- one more section behind all
pub apart_more : (from next : ℕ) (sections : List Span) (s : Span) → StandApart from next sections → next ≤ s.at → s.at ≤ s.end →
    StandApart from s.end (sections ++ s ∷ [])
apart_more from next [] s h a b = let k : s.end ≤ s.end = omega arith in (omega (arith, h, a), b, k)
apart_more from next (x ∷ sections) s h a b = (h.0, h.1, apart_more x.end next sections s h.2 a b)

-- a later end
pub apart_later : (from next to : ℕ) (sections : List Span) → StandApart from next sections → next ≤ to
    → StandApart from to sections
apart_later from next to [] h a = omega (arith, h, a)
apart_later from next to (x ∷ sections) h a = (h.0, h.1, apart_later x.end next to sections h.2 a)
