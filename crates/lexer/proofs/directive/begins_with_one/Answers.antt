-- `begins_with_one`: the words that begin with the first letter.
use Rattle.std.proofs.Common.{rules, arith, sym, ◌∙◌, refl, [], ◌∷◌}
use Rattle.std.specs.Prelude.{eqb}
use Rattle.std.specs.List.{starts_with}
use Rattle.std.proofs.lemmas.Iterator.{YieldsList-from_slice}
use Rattle.std.proofs.lemmas.Iterator.Search.{any_from_yields_List}
use Rattle.definitions.specs.Rules.{ascii}
use Rattle.definitions.specs.Text.{begins_with, begins_with_one}
use Rattle.lexer.proofs.Directives.{any_starts, one_starts, first_starts, second_starts, by_letter, no_letter, other_letter}
use Rattle.lexer.proofs.directive.begins_with_one.Goals as goal

pub returns-in_default : goal.returns-in_default
returns-in_default c = no_letter c.args.text.now (omega arith)

pub returns-in-100 : goal.returns-in-100
unfolding begins_with_one begins_with
returns-in-100 c =
    let s = c.args.text.now in
    c.starts_with.ensures.value ∙ one_starts (ascii "define") s ∙ by_letter 100 (ascii "define" ∷ []) (λ u. refl) s (omega arith) c.in-100.is

pub returns-in-101 : goal.returns-in-101
unfolding begins_with_one begins_with
returns-in-101 c =
    let s = c.args.text.now in
    let ws = ascii "elif" ∷ ascii "else" ∷ ascii "endif" ∷ ascii "error" ∷ [] in
    any_from_yields_List (λ w. starts_with eqb s w.now) _ _ c.any.result c.any.ensures.ran
    (YieldsList-from_slice _ c.iter.ensures.rest) (λ x b q k. search rules)
    ∙ any_starts ws s ∙ by_letter 101 ws (λ u. refl) s (omega arith) c.in-101.is

pub returns-then-starts_with : goal.returns-then-starts_with
unfolding begins_with_one begins_with
returns-then-starts_with c =
    let s = c.args.text.now in
    let e = sym c.starts_with-in-105.ensures.value ∙ c.if-starts_with.true in
    c.if-starts_with.true ∙ first_starts (ascii "if") (ascii "include") s e
    ∙ by_letter 105 (ascii "if" ∷ ascii "include" ∷ []) (λ u. refl) s (omega arith) c.in-105.is

pub returns-else-starts_with : goal.returns-else-starts_with
unfolding begins_with_one begins_with
returns-else-starts_with c =
    let s = c.args.text.now in
    let e = sym c.starts_with-in-105.ensures.value ∙ c.if-starts_with.false in
    c.starts_with-else-starts_with.ensures.value ∙ second_starts (ascii "if") (ascii "include") s e
    ∙ by_letter 105 (ascii "if" ∷ ascii "include" ∷ []) (λ u. refl) s (omega arith) c.in-105.is

pub returns-in-112 : goal.returns-in-112
unfolding begins_with_one begins_with
returns-in-112 c =
    let s = c.args.text.now in
    c.starts_with-in-112.ensures.value ∙ one_starts (ascii "pragma") s ∙ by_letter 112 (ascii "pragma" ∷ []) (λ u. refl) s (omega arith) c.in-112.is

pub returns-in-117 : goal.returns-in-117
unfolding begins_with_one begins_with
returns-in-117 c =
    let s = c.args.text.now in
    c.starts_with-in-117.ensures.value ∙ one_starts (ascii "undef") s ∙ by_letter 117 (ascii "undef" ∷ []) (λ u. refl) s (omega arith) c.in-117.is

pub returns-in_default-first : goal.returns-in_default-first
returns-in_default-first c =
    other_letter c.args.text.now (omega arith) (λ e. omega (arith, e)) (λ e. omega (arith, e)) (λ e. omega (arith, e)) (λ e. omega (arith, e)) (λ e. omega (arith, e))
