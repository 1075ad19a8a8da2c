-- The terminal of an instance, at the next token.
use Rattle.std.proofs.Common.{◌≡◌, ℕ, Bool, true, false, List, [], ◌∷◌, Some, None, Ok, Err, refl}
use Rattle.grammar_rules.specs.Reading.{read}
use Rattle.verilog_grammar.specs.specify_blocks.declared.model.VNet.{VNet}
use Rattle.verilog_grammar.specs.specify_blocks.declared.model.VModule.{VModule}
use Rattle.verilog_tokens.specs.Tokens.{is_name}
use Rattle.grammar_reader.specs.declared.refusal.Refusal.TheVariants.{Syntax, Undefined, Twice}
use Rattle.verilog_grammar.specs.VerilogModules.{net_of, terminal}
use Rattle.grammar_reader.specs.Next.{next_bytes, rest}

module _ (m : VModule) (is_allowed is_taken : VNet → Bool) (s : List (List ℕ)) where
  pub other : is_name (next_bytes s) ≡ false → read (terminal m is_allowed is_taken) s ≡ Err (Syntax, s)
  other e = by s e
    where
      by : (q : List (List ℕ)) → is_name (next_bytes q) ≡ false → read (terminal m is_allowed is_taken) q ≡ Err (Syntax, q)
      by [] f = refl
      by (x ∷ q) f = rw f refl

  pub no_net : is_name (next_bytes s) ≡ true → net_of m (next_bytes s) ≡ None
      → read (terminal m is_allowed is_taken) s ≡ Err (Undefined, s)
  no_net e f = by s e f
    where
      by : (q : List (List ℕ)) → is_name (next_bytes q) ≡ true → net_of m (next_bytes q) ≡ None
          → read (terminal m is_allowed is_taken) q ≡ Err (Undefined, q)
      by [] g h = absurd cc
      by (x ∷ q) g h = rw (g, h) refl

  pub barred : (n : VNet) → is_name (next_bytes s) ≡ true → net_of m (next_bytes s) ≡ Some n → is_allowed n ≡ false →
      read (terminal m is_allowed is_taken) s ≡ Err (Undefined, s)
  barred n e f a = by s e f
    where
      by : (q : List (List ℕ)) → is_name (next_bytes q) ≡ true → net_of m (next_bytes q) ≡ Some n
          → read (terminal m is_allowed is_taken) q ≡ Err (Undefined, q)
      by [] g h = absurd cc
      by (x ∷ q) g h = rw (g, h, a) refl

  pub taken : (n : VNet) → is_name (next_bytes s) ≡ true → net_of m (next_bytes s) ≡ Some n → is_allowed n ≡ true
      → is_taken n ≡ true →
      read (terminal m is_allowed is_taken) s ≡ Err (Twice, s)
  taken n e f a t = by s e f
    where
      by : (q : List (List ℕ)) → is_name (next_bytes q) ≡ true → net_of m (next_bytes q) ≡ Some n
          → read (terminal m is_allowed is_taken) q ≡ Err (Twice, q)
      by [] g h = absurd cc
      by (x ∷ q) g h = rw (g, h, a, t) refl

  pub fits : (n : VNet) → is_name (next_bytes s) ≡ true → net_of m (next_bytes s) ≡ Some n → is_allowed n ≡ true
      → is_taken n ≡ false →
      read (terminal m is_allowed is_taken) s ≡ Ok (n, rest s)
  fits n e f a t = by s e f
    where
      by : (q : List (List ℕ)) → is_name (next_bytes q) ≡ true → net_of m (next_bytes q) ≡ Some n
          → read (terminal m is_allowed is_taken) q ≡ Ok (n, rest q)
      by [] g h = absurd cc
      by (x ∷ q) g h = rw (g, h, a, t) refl
