-- The grammar of statements, told without what they give: which tokens are taken, and where and how one is refused.
use Rattle.std.specs.Prelude.{ℕ, zero, suc, Option, Some, None, Ok, Err, if◌then◌else◌}
use Rattle.grammar_rules.specs.Rule.{Verdict, Fits}
use Rattle.grammar_rules.specs.Rule as r
use Rattle.grammar_rules.specs.Reading.{Outcome}
use Rattle.liberty_groups.specs.declared.fault.Expected.TheVariants as expected
use Rattle.liberty_groups.specs.declared.fault.Refusal.{Refusal}
use Rattle.liberty_groups.specs.declared.fault.Refusal.TheVariants.{Syntax}
use Rattle.liberty_groups.specs.declared.reader.Mark.TheVariants as mark
use Rattle.liberty_groups.specs.declared.reader.Place.{Place}
use Rattle.liberty_groups.specs.declared.reader.Place.TheVariants as place
use Rattle.liberty_groups.specs.Lexeme.{Lexeme}
use Rattle.liberty_groups.specs.Grammar.{Grammar, ◌>>=◌, goes_on, expect, value_end, colon, starts, opens}

-- a rule that gives nothing
abbrev pub Skipping : Type 1
Skipping = Grammar (Unit {0})

abbrev pub passed_at : Place → Lexeme → Option (Verdict (Unit {0}) Refusal)
passed_at p x = if goes_on p x.token then Some (Fits tt) else None

-- { Word | Text | .. }
abbrev pub skipped_parts : Place → Skipping
skipped_parts p = r.Many (λ _. passed_at p) (λ _ _. r.Gives tt) tt

-- args ")"
unfoldable pub skipped_arguments : Skipping
skipped_arguments = do
  _ ← skipped_parts place.Arguments
  _ ← expect mark.Close (Syntax expected.Argument)
  r.Gives tt

unfoldable pub skipped_more_value : Skipping
skipped_more_value = do
  _ ← skipped_parts place.Value
  _ ← value_end place.Value
  r.Gives tt

unfoldable pub skipped_no_value : Skipping
skipped_no_value = do
  _ ← value_end place.ValueStart
  r.Gives tt

-- the value of a simple attribute
unfoldable pub skipped_value : Skipping
skipped_value = r.Choice (passed_at place.ValueStart) (λ _. skipped_more_value) skipped_no_value

-- one more statement, by a rule for what follows its name
abbrev pub skipped_more : Skipping → Unit {0} → Option Lexeme → Skipping
skipped_more rule u None = r.Gives tt
skipped_more rule u (Some x) = rule

-- { statement }
abbrev pub skipped_some : Skipping → Skipping
skipped_some rule = r.Many (λ _. starts) (skipped_more rule) tt

-- { statement } "}"
abbrev pub skipped_statements : Skipping → Skipping
skipped_statements rule = do
  _ ← skipped_some rule
  _ ← expect mark.End (Syntax expected.Statement)
  r.Gives tt

-- a group, by a rule for what follows its opening brace, or nothing more of a complex attribute
unfoldable pub skipped_group : ℕ → Skipping → Skipping
skipped_group levels body = r.Choice (opens levels) (λ _. body) (r.Gives tt)

-- "(" args ")", and "{" { statement } "}" if it is a group, after the name of a statement
unfoldable pub skipped_bracketed : ℕ → Skipping → Skipping
skipped_bracketed levels body = do
  _ ← expect mark.Open (Syntax expected.AfterName)
  _ ← skipped_arguments
  skipped_group levels body

abbrev pub skipped_after_name : ℕ → Skipping → Skipping
skipped_after_name levels body = r.Choice colon (λ _. skipped_value) (skipped_bracketed levels body)

-- what follows the brace that opens a group, where groups may be open to this many levels, this one counted
unfoldable pub skipped_body : ℕ → Skipping
skipped_body zero = r.Gives tt
skipped_body (suc levels) = skipped_statements (skipped_after_name levels (skipped_body levels))

-- what follows the name of a statement, where groups may be open to this many more levels
abbrev pub skipped_statement : ℕ → Skipping
skipped_statement levels = skipped_after_name levels (skipped_body levels)

-- an outcome without what it gives
abbrev pub forgotten : {A : Type 0} → Outcome Lexeme Refusal A → Outcome Lexeme Refusal (Unit {0})
forgotten (Ok p) = Ok (tt, p.1)
forgotten (Err e) = Err e
