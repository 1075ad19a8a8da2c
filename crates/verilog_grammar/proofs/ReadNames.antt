-- The tokens and the names that are read.
use Rattle.std.proofs.Common.{◌≡◌, ℕ, Bool, true, false, not, ◌||◌, ◌==◌, IsTrue, List, [], ◌∷◌, ◌++◌, Option}
use Rattle.std.proofs.Common.{refl, subst, arith}
use Rattle.std.specs.Prelude.{All}
use Rattle.std.specs.Str.{bytes_eq}
use Rattle.std.specs.List.{IsDistinct}
use Rattle.std.proofs.lemmas.Bool.{and_parts}
use Rattle.std.proofs.lemmas.Cmp.{nat_list_eq_equiv}
use Rattle.std.proofs.lemmas.List.Elements.{All-push}
use Rattle.std.proofs.lemmas.Map.Keys.{IsDistinct-push}
use Rattle.verilog_tokens.specs.Kept.{is_identifier}
use Rattle.verilog_tokens.specs.Words.{is_verilog_word}
use Rattle.std.specs.Char.{is_ascii_alphabetic}
use Rattle.grammar_rules.specs.Rule.{Verdict, Fits}
use Rattle.grammar_rules.proofs.Promises.{Promises, token}
use Rattle.verilog_tokens.specs.Tokens.{is_name}
use Rattle.grammar_reader.specs.declared.refusal.Refusal.{Refusal}
use Rattle.grammar_reader.specs.declared.refusal.Refusal.TheVariants.{Syntax, Twice}
use Rattle.grammar_reader.proofs.WordPromises as promised
pub use Rattle.grammar_reader.proofs.WordPromises.{values, goes_on, behind, surely}
pub use Rattle.grammar_reader.proofs.Passing.{fits_if, fits_unless, fits_where, some_if, fits_allowed, IsFound}
use Rattle.grammar_reader.specs.Words.{fresh}
use Rattle.udp_tables.specs.VerilogRules.{expect_where, any_name, is_among, new_name, known}
use Rattle.verilog_grammar.specs.WellFormed.{IsName, AreApart}

pub fits_same : {A : Type 0} (x a : A) → ◌≡◌ {A = Verdict A Refusal} (Fits x) (Fits a) → x ≡ a
fits_same x a e = cc

-- a token that begins as a name is one whole identifier
abbrev pub IsSpelled : List ℕ → Type 0
IsSpelled x = IsTrue (is_name x) → IsTrue (is_identifier x)

pub a_name : (x : List ℕ) → IsSpelled x → IsTrue (is_name x) → IsName x
a_name [] h e = absurd cc
a_name (b ∷ bs) h e = record {
  identifier = h e;
  no_word =
      (and_parts (is_ascii_alphabetic b || b == 95) (not (is_verilog_word (b ∷ bs))) e).1;
}

-- Names.

-- a name that is none of these
pub record IsNew (names : List (List ℕ)) (x : List ℕ) : Type 0 where
  pub name : IsName x
  pub new : is_among names x ≡ false

-- names of which none stands twice
pub record AreNames (names : List (List ℕ)) : Type 0 where
  pub all : All IsName names
  pub apart : AreApart names

pub push_name : (names : List (List ℕ)) (x : List ℕ) → AreNames names → IsNew names x → AreNames (names ++ x ∷ [])
push_name names x h n = record {
  all = All-push IsName names x h.all n.name;
  apart = IsDistinct-push nat_list_eq_equiv names x h.apart n.new;
}

pub no_names : AreNames []
unfolding IsDistinct
no_names = record { all = λ k d h. absurd (omega arith); apart = tt }

pub one_name : (x : List ℕ) → IsName x → AreNames (x ∷ [])
one_name x h = push_name [] x no_names (record { name = h; new = refl })

-- What the words of the grammar promise.

pub new_names : (names : List (List ℕ)) → Promises IsSpelled (new_name names) (IsNew names)
new_names names = token (λ x a p e.
    let n = fits_if (is_name x) (fresh bytes_eq names x) Syntax a e in
    let f = fits_unless (is_among names x) Twice x a n.1 in
    subst (IsNew names) f.1 (record { name = a_name x p n.0; new = f.0 }))

pub any_names : Promises IsSpelled any_name IsName
any_names = token (λ x a p e.
    let n = fits_if (is_name x) (Fits x) Syntax a e in
    subst IsName (fits_same x a n.1) (a_name x p n.0))

pub known_values : {A : Type 0} (find : List ℕ → Option A) → Promises IsSpelled (known find) (IsFound find)
known_values find = promised.known_values is_name find

pub where_holds : (b : Bool) (k : Refusal) (text : List ℕ) → Promises IsSpelled (expect_where b k text) (λ _. b ≡ true)
where_holds b k text = promised.where_holds bytes_eq b k text
