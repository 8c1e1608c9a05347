-- TIES DO NOT MATTER: "of equally long matches the first rule's" decides nothing, since no text fits two of the rules.
-- So nobody has to believe that their order, by which the definitions go, gives what the Rust's lexer gives, which goes
-- by priorities. With the preprocessor's directives, which are not among the rules, there would be ties.
use Rattle.std.specs.Prelude.{ℕ, ◌≡◌, List}
use Rattle.definitions.specs.Rules.{Rule, rules}
use Rattle.patterns.specs.Textbook.{Fits}
use Rattle.lexing.specs.ByRules.{Member}

-- rules that a text fits have one kind and one callback
abbrev pub NoTiesOf : List Rule → Type 0
NoTiesOf rs =
    (u : List ℕ) (r q : Rule) (a b : List Rule) → Member r rs a → Member q rs b → Fits r.pattern u → Fits q.pattern u
    → (r.kind ≡ q.kind) × (r.callback ≡ q.callback)

-- more than that: they stand at one place, and are one
abbrev pub OneRuleOf : List Rule → Type 0
OneRuleOf rs =
    (u : List ℕ) (r q : Rule) (a b : List Rule) → Member r rs a → Member q rs b → Fits r.pattern u → Fits q.pattern u
    → (a ≡ b) × (r ≡ q)

abbrev pub NoTies : Type 0
NoTies = NoTiesOf rules

abbrev pub OneRule : Type 0
OneRule = OneRuleOf rules
