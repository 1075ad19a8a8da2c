-- Names of VHDL that are the same whatever the case of their letters.
use Rattle.std.proofs.Common.{◌≡◌, ℕ, true, false, ◌||◌, List, [], ◌∷◌, ◌++◌, refl, sym, ◌∙◌}
use Rattle.std.specs.Cmp.{IsEquivalence}
use Rattle.std.specs.Cmp.Lexicographic.{on_texts_equal}
use Rattle.std.specs.List.{list_any}
use Rattle.std.specs.Str.{str_eq_ignore_ascii_case, str_to_ascii_lowercase}
use Rattle.std.proofs.lemmas.Map.Keys.{IsDistinct-push}
use Rattle.grammar_reader.specs.Words.{is_among}
use Rattle.vhdl_tokens.specs.Tokens.{is_name}
use Rattle.vhdl_tokens.specs.Spelling.{is_same}
use Rattle.vhdl_grammar.specs.WellFormed.{AreApart}
use Rattle.vhdl_grammar.proofs.LoweredNames.{same_lowered}

pub same_equivalence : IsEquivalence str_eq_ignore_ascii_case
same_equivalence = on_texts_equal str_to_ascii_lowercase

-- a name is no character literal
pub same_name : (x y : List ℕ) → is_name x ≡ true → is_same x y ≡ str_eq_ignore_ascii_case x y
same_name x y e = same_lowered x y e

among_same : (names : List (List ℕ)) (x : List ℕ) → is_name x ≡ true
    → is_among is_same names x ≡ list_any (str_eq_ignore_ascii_case x) names
among_same [] x e = refl
among_same (y ∷ names) x e = λ i. same_name x y e i || among_same names x e i

-- one more name that is none of those before
pub push_apart : (names : List (List ℕ)) (x : List ℕ) → AreApart names → is_name x ≡ true → is_among is_same names x ≡ false
    → AreApart (names ++ x ∷ [])
push_apart names x h e new = IsDistinct-push same_equivalence names x h (sym (among_same names x e) ∙ new)
