-- Names that are kept from a library, or given where they are not.
use Rattle.std.proofs.Common.{◌≡◌, ℕ, ◌^◌, ◌<◌, Bool, true, false, not, ◌&&◌, IsTrue, List, [], ◌∷◌, ◌++◌, length, drop, refl}
use Rattle.std.proofs.Common.{sym, ap, ◌∙◌, subst, codes, decimal, nat_eq, if◌then◌else◌}
use Rattle.std.specs.List.{starts_with}
use Rattle.std.proofs.lemmas.Bool.{and_parts, and_from, not-true, true≢false, eq-eqb}
use Rattle.std.proofs.lemmas.Fmt.{decimal_injective}
use Rattle.std.proofs.lemmas.List.{append_cancel_left}
use Rattle.verilog_tokens.specs.Numbers.{is_number}
use Rattle.verilog_tokens.specs.Words.{is_verilog_word}
use Rattle.verilog_tokens.specs.Kept.{is_identifier, is_numbered, is_kept_name}
use Rattle.verilog_grammar.specs.WellFormed.{IsName}
use Rattle.generated_modules.proofs.NumberedNames.{decimal_digits, IsStem, stem_name}

-- the name with this number: a library's where it is kept, and else a word and the number
abbrev pub given_name : List ℕ → ℕ → List ℕ → List ℕ
given_name word k name = if is_kept_name word name then name else word ++ decimal k

-- what a kept name is, and what it is not
pub record IsKept (word name : List ℕ) : Type 0 where
  pub named : IsName name
  pub no_lib : starts_with nat_eq name (codes "lib_") ≡ false
  pub not_given : is_numbered word name ≡ false

pub kept : (word name : List ℕ) → IsTrue (is_kept_name word name) → IsKept word name
unfolding is_kept_name
kept word name h =
    let lib : Bool = not (starts_with nat_eq name (codes "lib_")) in
    let given : Bool = not (is_numbered word name) in
    let a = and_parts (is_identifier name) (not (is_verilog_word name) && (lib && given)) h in
    let b = and_parts (not (is_verilog_word name)) (lib && given) a.1 in
    let c = and_parts lib given b.1 in
    record {
      named = record { identifier = a.0; no_word = b.0 };
      no_lib = not-true (starts_with nat_eq name (codes "lib_")) c.0;
      not_given = not-true (is_numbered word name) c.1;
    }

-- a word with a number behind it is a given name
begins : (word ds : List ℕ) → IsTrue (starts_with nat_eq (word ++ ds) word)
begins [] ds = refl
begins (b ∷ bs) ds = and_from (nat_eq b b) (starts_with nat_eq (bs ++ ds) bs) (eq-eqb b b refl) (begins bs ds)

behind : (word ds : List ℕ) → drop (length word) (word ++ ds) ≡ ds
behind [] ds = refl
behind (b ∷ bs) ds = behind bs ds

is_given : (word ds : List ℕ) → IsTrue (is_number ds) → is_numbered word (word ++ ds) ≡ true
is_given word ds h =
    and_from (starts_with nat_eq (word ++ ds) word) (is_number (drop (length word) (word ++ ds))) (begins word ds)
    (subst (λ x. IsTrue (is_number x)) (sym (behind word ds)) h)

-- a kept name is no given one
pub not_given : (word name : List ℕ) (k : ℕ) → IsTrue (is_kept_name word name) → k < 2 ^ 64 → name ≡ word ++ decimal k → ⊥
not_given word name k h small e =
    true≢false
    (sym (ap (is_numbered word) e ∙ is_given word (decimal k) (decimal_digits k small))
    ∙ (kept word name h).not_given)

-- names of which the numbers, and the library's names where they are kept, differ
pub given_apart :
    (word : List ℕ) (j k : ℕ) (x y : List ℕ) → j < 2 ^ 64 → k < 2 ^ 64 → (j ≡ k → ⊥) → (is_kept_name word x ≡ true → x ≡ y → ⊥)
    → given_name word j x ≡ given_name word k y → ⊥
given_apart word j k x y h i numbers names = by (is_kept_name word x) (is_kept_name word y) refl refl
  where
    by :
        (a b : Bool) → is_kept_name word x ≡ a → is_kept_name word y ≡ b
        → (if a then x else word ++ decimal j) ≡ (if b then y else word ++ decimal k) → ⊥
    by true true e f same = names e same
    by true false e f same = not_given word x k e i same
    by false true e f same = not_given word y j f h (sym same)
    by false false e f same = numbers (decimal_injective j k h i (append_cancel_left word (decimal j) (decimal k) same))

pub given_is_name : (word : List ℕ) → IsStem word → (k : ℕ) (x : List ℕ) → k < 2 ^ 64 → IsName (given_name word k x)
given_is_name word stem k x h = by (is_kept_name word x) refl
  where
    by : (a : Bool) → is_kept_name word x ≡ a → IsName (if a then x else word ++ decimal k)
    by true e = (kept word x e).named
    by false e = stem_name word stem (decimal k) (decimal_digits k h)

-- it does not begin as this project's own names
pub given_no_lib :
    (word : List ℕ) → ((ds : List ℕ) → starts_with nat_eq (word ++ ds) (codes "lib_") ≡ false)
    → (k : ℕ) (x : List ℕ) → starts_with nat_eq (given_name word k x) (codes "lib_") ≡ false
given_no_lib word other k x = by (is_kept_name word x) refl
  where
    by : (a : Bool) → is_kept_name word x ≡ a → starts_with nat_eq (if a then x else word ++ decimal k) (codes "lib_") ≡ false
    by true e = (kept word x e).no_lib
    by false e = other (decimal k)
