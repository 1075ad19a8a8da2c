-- What is packed is unpacked.
use Rattle.std.proofs.Common.{◌≡◌, ℕ, ◌+◌, ◌*◌, ◌/◌, ◌%◌, ◌<◌, Bool, true, false, ◌==◌, cond, refl, ap, ◌∙◌, arith}
use Rattle.std.proofs.lemmas.Nat.{div-mul-add, mod-mul-add}
use Rattle.liberty_text.specs.declared.token.TokenKind.{TokenKind}
use Rattle.liberty_text.specs.declared.token.TokenKind.TheVariants.{Brace}
use Rattle.liberty_text.specs.Scanner.{token}
use Rattle.liberty_text.specs.Kept.{kind_by, size_by, code_of, token_by, unpacked}

pub packed_back : (at code amount line : ℕ) → code < 8 → line < 2
    → unpacked at ((amount * 8 + code) * 2 + line) ≡ token_by at code amount line
packed_back at code amount line h i =
    let front = amount * 8 + code in
    let half : (front * 2 + line) / 2 ≡ front = div-mul-add front 2 line i in
    let flag : (front * 2 + line) % 2 ≡ line = mod-mul-add front 2 line i in
    ap (λ (n : ℕ). token_by at (n % 8) (n / 8) ((front * 2 + line) % 2)) half
    ∙ ap (λ (n : ℕ). token_by at (front % 8) (front / 8) n) flag
    ∙ ap (λ (n : ℕ). token_by at n (front / 8) line) (mod-mul-add amount 8 code h)
    ∙ ap (λ (n : ℕ). token_by at code n line) (div-mul-add amount 8 code h)

flag_back : (line : Bool) → (cond line 1 0 == 1) ≡ line
flag_back true = refl
flag_back false = refl

pub kept_back : (kind : TokenKind) (at size end amount : ℕ) (line : Bool) → kind_by (code_of kind) amount ≡ kind
    → size_by (code_of kind) amount ≡ size → at + size ≡ end
    → token_by at (code_of kind) amount (cond line 1 0) ≡ token kind at end line
kept_back kind at size end amount line e f g =
    ap (λ (k : TokenKind). token k at (at + size_by (code_of kind) amount) (cond line 1 0 == 1)) e
    ∙ ap (λ (n : ℕ). token kind at (at + n) (cond line 1 0 == 1)) f
    ∙ ap (λ (n : ℕ). token kind at n (cond line 1 0 == 1)) g ∙ ap (token kind at end) (flag_back line)

pub brace_back : (byte : ℕ) → byte < 256 → Brace (byte % 256) ≡ Brace byte
brace_back byte h = let same : byte % 256 ≡ byte = omega (arith, h) in ap Brace same
