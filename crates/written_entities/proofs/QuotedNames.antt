-- The text of a name between quotation marks is one token of VHDL text.
use Rattle.std.proofs.Common.{◌≡◌, ℕ, suc, ◌+◌, ◌-◌, Bool, true, false, ◌&&◌, ◌==◌, if◌then◌else◌, List, [], ◌∷◌, ◌++◌, length}
use Rattle.std.proofs.Common.{take, Option, Some, unwrap_or, refl, ap, ◌∙◌, arith, subst, append_assoc, length-append}
use Rattle.std.specs.List.{list_all}
use Rattle.std.specs.Char.{is_ascii_alphabetic}
use Rattle.std.proofs.lemmas.Bool.{and_parts}
use Rattle.std.proofs.lemmas.Bool.Decides.{nat_tests}
use Rattle.std.proofs.Math.Seq.{take-append_seam}
use Rattle.vhdl_tokens.specs.Tokens.{is_name_byte, later, string_rest, token_length}
use Rattle.vhdl_tokens.specs.Spelling.{text_of, is_quoted}
use Rattle.grammar_reader.proofs.Fronts.{Front, Anything}
use Rattle.grammar_reader.proofs.Spelling.{one_token, behind}
use Rattle.written_entities.proofs.Names.{IsNamed, same_case}
use Rattle.written_entities.proofs.Spelling.{Spells, unmarked}

-- a name between quotation marks
abbrev pub quoted : List ℕ → List ℕ
quoted x = 34 ∷ x ++ 34 ∷ []

no_quote : (c : ℕ) → is_name_byte c ≡ true → (c == 34) ≡ false
no_quote c h = grind (arith, nat_tests)

no_line : (c : ℕ) → is_name_byte c ≡ true → (c == 10) ≡ false
no_line c h = grind (arith, nat_tests)

later_by : (quote line : Bool) (first more : Option ℕ) (n : ℕ) → quote ≡ false → line ≡ false → more ≡ Some n
    → (if quote then first else (if line then Rattle.std.proofs.Common.None else later 1 more)) ≡ Some (1 + n)
later_by quote line first more n e f g = rw (e, f, g) refl

closes : (x r : List ℕ) → list_all is_name_byte x ≡ true → string_rest ((x ++ 34 ∷ []) ++ r) ≡ Some (length x + 1)
closes [] r h = refl
closes (c ∷ x) r h =
    let p = and_parts (is_name_byte c) (list_all is_name_byte x) h in
    let more : 1 + (length x + 1) ≡ suc (length x) + 1 = omega arith in
    later_by (c == 34) (c == 10) (Some 1) (string_rest ((x ++ 34 ∷ []) ++ r)) (length x + 1) (no_quote c p.0) (no_line c p.0)
    (closes x r p.1) ∙ ap (λ (n : ℕ). Some n) more

quoted_length : (t : Bool) (x r : List ℕ) → list_all is_name_byte x ≡ true
    → token_length t (34 ∷ (x ++ 34 ∷ []) ++ r) ≡ suc (length (x ++ 34 ∷ []))
quoted_length t x r h =
    let long : 1 + (length x + 1) ≡ suc (length (x ++ 34 ∷ [])) = omega (arith, length-append x (34 ∷ [])) in
    ap (λ (o : Option ℕ). unwrap_or (later 1 o) 0) (closes x r h) ∙ long

quoted_token : {t : Bool} (x : List ℕ) → list_all is_name_byte x ≡ true → Spells Anything t (quoted x) (λ s. quoted x ∷ s) false
quoted_token {t = t} x h =
    one_token 34 (x ++ 34 ∷ []) (record {
      alone = λ r p. refl;
      size = λ r p. quoted_length t x r h;
      free =
          λ r. unmarked t (quoted x) r refl refl;
      after = refl;
    })

name_bytes : (x : List ℕ) → IsNamed x → list_all is_name_byte x ≡ true
name_bytes [] n = absurd (cc n.identifier)
name_bytes (b ∷ w) n = by b w (and_parts (is_ascii_alphabetic b) (list_all is_name_byte w) n.identifier)
  where
    letter : (c : ℕ) → is_ascii_alphabetic c ≡ true → is_name_byte c ≡ true
    letter c h = grind (arith, nat_tests)

    by : (b : ℕ) (w : List ℕ) → (is_ascii_alphabetic b ≡ true) × (list_all is_name_byte w ≡ true)
        → (is_name_byte b && list_all is_name_byte w) ≡ true
    by b w p = rw (letter b p.0) p.1

-- text that ends before a name between quotation marks, the name, and what follows
pub quoted_behind : {Q : List ℕ → Type 0} {t u v : Bool} {front rest : List ℕ} {f g : Front} (x : List ℕ) → IsNamed x
    → Spells Anything t front f u → Spells Q false rest g v
    → Spells Q t (front ++ (34 ∷ x ++ (34 ∷ rest))) (λ s. f (quoted x ∷ g s)) v
quoted_behind {Q = Q} {t = t} {v = v} {front = front} {rest = rest} {f = f} {g = g} x n h k =
    let same : quoted x ++ rest ≡ 34 ∷ x ++ (34 ∷ rest) = ap (λ (l : List ℕ). 34 ∷ l) (append_assoc x (34 ∷ []) rest) in
    subst (λ (l : List ℕ). Spells Q t (front ++ l) (λ s. f (quoted x ∷ g s)) v) same
    (behind h (behind (quoted_token x (name_bytes x n)) k))

text_is : (x : List ℕ) → text_of (quoted x) ≡ x
text_is x =
    let one_less : length (x ++ 34 ∷ []) - 1 ≡ length x = omega (arith, length-append x (34 ∷ [])) in
    ap (λ (n : ℕ). take n (x ++ 34 ∷ [])) one_less ∙ take-append_seam x (34 ∷ [])

-- the text of a name is this name
pub quoted_is : (x : List ℕ) → is_quoted (quoted x) x ≡ true
quoted_is x = ap (λ (l : List ℕ). Rattle.std.specs.Str.str_eq_ignore_ascii_case l x) (text_is x) ∙ same_case x
