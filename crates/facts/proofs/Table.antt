-- What is said of each counted function, and that it is so: computed on the grammar.
use mathlib.Core.Path.{◌≡◌, refl}
use mathlib.Core.Bool.{Bool, true, false}
use mathlib.Core.List.{[], ◌∷◌}
use Rattle.definitions.specs.TokenKind as K
use Rattle.definitions.specs.Prog.{Rule, item, propvalues, eat_cell, expr_binding_power}
use Rattle.definitions.specs.Grammar.{grammar, Entry, SourceFile, ReferenceNoamp, PropValues, Cells, whole}
use Rattle.facts.proofs.Known.{Known, known, some, never, nothing, there}
use Rattle.facts.proofs.Facts.{By, by, every, nowhere, cleared, Fact, fact, unreached, fact_within}
use Rattle.facts.proofs.Look.{Look, looked, and_ok, turns, joined, look, looks_within}

-- neither [Semicolon] nor [Comma] nor [Comma, Semicolon] is pending
abbrev pub plain : Known → By
plain k = by k never never never k

abbrev pub took_plain : Fact
took_plain = fact nowhere (plain nothing)

abbrev pub took_any : Fact
took_any = fact nowhere (every nothing)

abbrev pub told : Fact → Fact → Look
told n y = looked true n y unreached unreached unreached

-- where values that answer yes end: if [Comma, Semicolon] is pending, before a semicolon
abbrev pub values_end : Bool → By
values_end true = by nothing never never (known false (some (K.Semicolon ∷ []))) nothing
values_end false = plain nothing

-- Where a function may be called, and what is known after it. An item is called where a token is there, and takes one.
-- Values take one where one is there.
abbrev pub calls_in : Rule → Fact
calls_in item = fact (every there) nowhere
calls_in (propvalues b) = fact (plain there) nowhere
calls_in (eat_cell b) = fact (every nothing) nowhere
calls_in (expr_binding_power n) = fact (every nothing) nowhere

abbrev pub calls_out : Rule → Look
calls_out item = told took_any took_any
calls_out (propvalues b) = told took_any (fact nowhere (values_end b))
calls_out (eat_cell b) = told (fact (by never never never never nothing) nowhere) took_plain
calls_out (expr_binding_power n) = told (fact (by never never never never nothing) (plain nothing)) took_plain

-- and what may be known less before it: values may be called at the end
abbrev pub wide_in : Rule → Fact
wide_in item = calls_in item
wide_in (propvalues b) = fact (plain nothing) nowhere
wide_in (eat_cell b) = calls_in (eat_cell b)
wide_in (expr_binding_power n) = calls_in (expr_binding_power n)

abbrev pub wide_out : Rule → Look
wide_out item = calls_out item
wide_out (propvalues b) = told took_any (fact (plain (known true (some []))) (values_end b))
wide_out (eat_cell b) = calls_out (eat_cell b)
wide_out (expr_binding_power n) = calls_out (expr_binding_power n)

unfoldable pub calls_by : Bool → Rule → Fact → Look
unfolding fact_within
calls_by true r e = calls_out r
calls_by false r e = and_ok (fact_within e (wide_in r)) (wide_out r)

unfoldable pub calls : Rule → Fact → Look
unfolding calls_by fact_within
calls r e = calls_by (fact_within e (calls_in r)) r e

unfoldable pub table : Rule → Fact → Look
unfolding calls turns joined
table r d = joined (turns d (calls r))

-- THE TABLE HOLDS of the grammar: computed
pub calls_hold : (r : Rule) → looks_within (look table (grammar r) (calls_in r)) (calls_out r) ≡ true
unfolding look looks_within table grammar
calls_hold item = refl
calls_hold (propvalues true) = refl
calls_hold (propvalues false) = refl
calls_hold (eat_cell true) = refl
calls_hold (eat_cell false) = refl
calls_hold (expr_binding_power m) = refl

pub wide_holds : (r : Rule) → looks_within (look table (grammar r) (wide_in r)) (wide_out r) ≡ true
unfolding look looks_within table grammar
wide_holds item = calls_hold item
wide_holds (propvalues true) = refl
wide_holds (propvalues false) = refl
wide_holds (eat_cell true) = calls_hold (eat_cell true)
wide_holds (eat_cell false) = calls_hold (eat_cell false)
wide_holds (expr_binding_power m) = calls_hold (expr_binding_power m)

-- and every entry does what it may: computed
abbrev pub start : Fact
start = fact (cleared nothing) nowhere

pub whole_looks : (e : Entry) → (look table (whole e) start).ok ≡ true
unfolding look table whole
whole_looks SourceFile = refl
whole_looks ReferenceNoamp = refl
whole_looks PropValues = refl
whole_looks Cells = refl
