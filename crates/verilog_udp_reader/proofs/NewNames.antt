-- Names that are declared, in a list that is looked up by name.
use Rattle.std.proofs.Common.{◌≡◌, ℕ, Bool, true, false, List, [], ◌∷◌, Option, Some, None, Ok, Err, refl, sym, subst}
use Rattle.std.specs.Option.{is_none}
use Rattle.std.specs.Str.{bytes_eq}
use Rattle.bool_functions.specs.NameList.{Adds}
use Rattle.bool_functions.proofs.NameLists.{position-none, position-some}
use Rattle.grammar_rules.specs.Reading.{read}
use Rattle.grammar_reader.specs.declared.refusal.Refusal.TheVariants.{Syntax, Twice}
use Rattle.grammar_reader.specs.Next.{next_bytes, rest}
use Rattle.verilog_tokens.specs.Tokens.{is_name}
use Rattle.udp_tables.specs.VerilogRules.{is_among, any_name, new_name}

-- a name is taken exactly where it has a number
pub taken : (names : List (List ℕ)) (name : List ℕ) (found : Option ℕ) (new : List (List ℕ)) → Adds names name found new
    → is_none found ≡ is_among names name
taken names name found new a = by_among (is_among names name) refl found a
  where
    by_among : (b : Bool) → is_among names name ≡ b → (o : Option ℕ) → Adds names name o new → is_none o ≡ b
    by_among true e (Some i) h = absurd (position-some (bytes_eq name) names e h.0)
    by_among true e None h = refl
    by_among false e (Some i) h = refl
    by_among false e None h = absurd (h.0 (position-none (bytes_eq name) names e))

-- the name that is next, where it is declared
pub new_fits : (names s : List (List ℕ)) → is_name (next_bytes s) ≡ true → is_among names (next_bytes s) ≡ false
    → read (new_name names) s ≡ Ok (next_bytes s, rest s)
new_fits names [] e f = absurd cc
new_fits names (x ∷ s) e f = rw (e, f) refl

pub new_taken : (names s : List (List ℕ)) → is_name (next_bytes s) ≡ true → is_among names (next_bytes s) ≡ true
    → read (new_name names) s ≡ Err (Twice, s)
new_taken names [] e f = absurd cc
new_taken names (x ∷ s) e f = rw (e, f) refl

pub new_other : (names s : List (List ℕ)) → is_name (next_bytes s) ≡ false → read (new_name names) s ≡ Err (Syntax, s)
new_other names [] e = refl
new_other names (x ∷ s) e = rw e refl

-- the same, where it was added to the names, or was there already
pub declared_read : (names s left : List (List ℕ)) (x : List ℕ) (found : Option ℕ) (number : ℕ) (new : List (List ℕ))
    → x ≡ next_bytes s → left ≡ rest s → is_name x ≡ true → Adds names x found new → found ≡ Some number
    → read (new_name names) s ≡ Ok (x, left)
declared_read names s left x found number new ex el e a ef =
    let free : is_among names x ≡ false = sym (taken names x (Some number) new (subst (λ o. Adds names x o new) ef a)) in
    let fits : read (new_name names) s ≡ Ok (next_bytes s, rest s) =
    new_fits names s (subst (λ y. is_name y ≡ true) ex e) (subst (λ y. is_among names y ≡ false) ex free) in
    subst (λ q. read (new_name names) s ≡ Ok (x, q)) (sym el)
    (subst (λ y. read (new_name names) s ≡ Ok (y, rest s)) (sym ex) fits)

pub declared_taken : (names s new : List (List ℕ)) → is_name (next_bytes s) ≡ true → Adds names (next_bytes s) None new
    → read (new_name names) s ≡ Err (Twice, s)
declared_taken names s new e a = new_taken names s e (sym (taken names (next_bytes s) None new a))

-- the name that is next, where any may stand
pub any_fits : (s : List (List ℕ)) → is_name (next_bytes s) ≡ true → read any_name s ≡ Ok (next_bytes s, rest s)
any_fits [] e = absurd cc
any_fits (x ∷ s) e = rw e refl

pub any_other : (s : List (List ℕ)) → is_name (next_bytes s) ≡ false → read any_name s ≡ Err (Syntax, s)
any_other [] e = refl
any_other (x ∷ s) e = rw e refl
