-- TIES DO NOT MATTER, computed: texts that one rule fits or none, and rules with a tie, which the statements and the
-- computed test exclude.
use Prim.Native.Nat.{ℕ, ◌≤◌}
use native.Mathlib.Omega.{arith}
use mathlib.Core.Path.{◌≡◌, refl, ◌∙◌, ap}
use mathlib.Core.Bool.{false}
use mathlib.Core.List.{List, [], ◌∷◌}
use lib.ListN.{length, take, drop}
use Rattle.definitions.specs.Pattern.{Pattern, ◌then◌, ◌or◌, many, fits}
use Rattle.definitions.specs.Rules.{Rule, rules, lex_char, ascii, any, none, token, token_callback, regex, ident, decimal, spelled}
use Rattle.patterns.specs.Textbook.{Fits}
use Rattle.patterns.specs.Remainder.{fits_empty}
use Rattle.patterns.proofs.Textbook.{fits_says, says_fits}
use Rattle.lexing.specs.ByRules.{Member}
use Rattle.lex_table.specs.Ties.{NoTiesOf, OneRuleOf}
use Rattle.lex_table.proofs.Same.{number}
use Rattle.lex_table.proofs.States.{go_through}
use Rattle.lex_table.proofs.Counts.{count, fitting, member_counts, none_read}
use Rattle.lex_table.proofs.Ties.{one_at_most}

-- ---------------------------------------------------------------- the rules

-- no rule matches without a byte
none_empty : count fits_empty rules ≡ 0
unfolding count fits_empty
none_empty = refl

not_none : (n : ℕ) → 1 ≤ n → n ≡ 0 → ⊥
not_none n h e = omega (arith, h, e)

no_empty : (r : Rule) (a : List Rule) → Member r rules a → Fits r.pattern [] → ⊥
no_empty r a m f =
    not_none (fitting [] rules) (member_counts (λ (p : Pattern). fits p []) rules a r m (says_fits r.pattern [] f))
    (none_read rules ∙ none_empty)

-- of the rules for numbers too one fits at most; and what is no byte stands in a name
each_once : (fitting (ascii "0") rules ≡ 1) × (fitting (ascii "01") rules ≡ 1) × (fitting (ascii "0b1") rules ≡ 1)
    × (fitting (ascii "0x1u") rules ≡ 1) × (fitting (ascii "0x") rules ≡ 0) × (fitting (ascii "//") rules ≡ 1)
    × (fitting (300 ∷ []) rules ≡ 1)
unfolding count fits
each_once = (refl, refl, refl, refl, refl, refl, refl)

-- ---------------------------------------------------------------- other rules

-- #( |\t)*if[^\n\\"'/]*, a directive of the Rust's lexer: with it there is a tie, with a name. That it is not among the
-- rules is why they have none.
if_directive : Rule
if_directive = regex (any "#" then many (any " " or any "\t") then any "i" then any "f" then many (none "\n\\\"'/")) 4

with_if : List Rule
unfolding if_directive
with_if = if_directive ∷ rules

two_fit : fitting (ascii "#if") with_if ≡ 2
unfolding with_if count fits
two_fit = refl

a_tie : NoTiesOf with_if → ⊥
unfolding with_if fits
a_tie h =
    let u = ascii "#if" in
    let q = regex ident 27 in
    let e : ◌≡◌ {A = ℕ} 4 27 =
    (h u if_directive q [] (if_directive ∷ take 12 rules) (record { behind = rules; stands = refl })
    (record { behind = drop 13 rules; stands = refl }) (fits_says if_directive.pattern u refl) (fits_says ident u refl)).0 in
    omega arith

-- nor does the test pass, be it a state that goes on or not
not_passed : (one_at_most 1 (go_through (ascii "#if") with_if) ≡ false) × (one_at_most 96 (go_through (ascii "#if") with_if) ≡ false)
unfolding one_at_most go_through with_if
not_passed = (refl, refl)

-- one kind and two callbacks
two_callbacks : NoTiesOf (token "'" 34 ∷ token_callback "'" lex_char 34 ∷ []) → ⊥
unfolding fits
two_callbacks h =
    let r = token "'" 34 in
    let q = token_callback "'" lex_char 34 in
    let f = fits_says (spelled (ascii "'")) (ascii "'") refl in
    let e : ◌≡◌ {A = ℕ} 0 3 =
    ap number (h (ascii "'") r q [] (r ∷ []) (record { behind = q ∷ []; stands = refl }) (record { behind = []; stands = refl }) f f).1 in
    omega arith

-- one kind and one callback, at two places
two_places : OneRuleOf (regex decimal 35 ∷ token "0" 35 ∷ []) → ⊥
unfolding fits
two_places h =
    let r = regex decimal 35 in
    let q = token "0" 35 in
    let e : ◌≡◌ {A = ℕ} 0 1 =
    ap length
    (h (ascii "0") r q [] (r ∷ []) (record { behind = q ∷ []; stands = refl }) (record { behind = []; stands = refl })
    (fits_says decimal (ascii "0") refl) (fits_says (spelled (ascii "0")) (ascii "0") refl)).0 in
    omega arith
