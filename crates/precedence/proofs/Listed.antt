-- The powers worked out from levels are document 01's list, computed, so every run is what it is with the list. Another
-- formula or numbering does not give the list, and with its powers some run is another one.
use Prim.Native.Nat.{ℕ, zero, suc}
use native.Mathlib.Omega.{arith}
use mathlib.Core.Path.{◌≡◌, refl, ap, ◌∙◌, fun_ext}
use mathlib.Core.Bool.{cond}
use mathlib.Core.List.{List, [], ◌∷◌}
use lib.Dec.{eqb}
use lib.ListN.{get_or}
use Rattle.definitions.specs.Layout.{MOST_OPEN_CALLS}
use Rattle.definitions.specs.TokenKind as K
use Rattle.definitions.specs.NodeKind as N
use Rattle.definitions.specs.Token.{Token}
use Rattle.definitions.specs.Prog.{Rule, item, propvalues, eat_cell, expr_binding_power, Prog}
use Rattle.definitions.specs.Check.{silent}
use Rattle.definitions.specs.BindingPower.{Level, binary_levels, left_power, right_power}
use Rattle.definitions.specs.Grammar.{infix_levels, infix_turn, expr_binding_power_body, grammar, Entry, Cells, whole}
use Rattle.definitions.specs.Skeleton.{no_label, Skeleton}
use Rattle.definitions.specs.Run.{State, Out, taken, exec, run}
use Rattle.definitions.specs.Place.{root}
use Rattle.definitions.specs.Parent.{rows, rows_under}
use Rattle.definitions.specs.Call.{run_entry}
use Rattle.precedence.specs.Listed.{Pair, pair, listed_ternary, listed, binary_turn, turn_with, grammar_with, run_with, entry_with, AsListed}
use Rattle.precedence.proofs.Witnesses.{token}

by_rule : (r : Rule) → grammar r ≡ grammar_with listed_ternary listed r
unfolding grammar expr_binding_power_body infix_turn infix_levels grammar_with turn_with binary_turn silent
by_rule item = refl
by_rule (propvalues semicolon) = refl
by_rule (eat_cell until_end) = refl
by_rule (expr_binding_power min-bp) = refl

by_run : (n : ℕ) (r : Rule) (s : State) → run n r s ≡ run_with listed_ternary listed n r s
unfolding run run_with
by_run zero r s = refl
by_run (suc n) r s =
    ap (λ (p : Prog). exec (run n) no_label p s) (by_rule r)
    ∙ ap (λ (ask : Rule → State → Out). exec ask no_label (grammar_with listed_ternary listed r) s) (fun_ext λ q. fun_ext (by_run n q))

by_entry : (e : Entry) (ts : List Token) → run_entry e ts ≡ entry_with listed_ternary listed e ts
unfolding run_entry entry_with
by_entry e ts = ap (λ (ask : Rule → State → Out). (exec ask no_label (whole e) (taken ts)).made) (fun_ext λ r. fun_ext (by_run MOST_OPEN_CALLS r))

pub as_listed : AsListed
as_listed = record { ternary = refl; pairs = refl; prefix = refl; runs = by_entry }

-- ---------------------------------------------------------------- wrong ones

-- tokens of one byte between brackets
abbrev bracketed : List ℕ → List Token
bracketed [] = token K.RParen ∷ []
bracketed (k ∷ ks) = token k ∷ bracketed ks

abbrev cell : List ℕ → List Token
cell ks = token K.LParen ∷ bracketed ks

-- the kind of what the outermost operator of a cell starts with: row 4, after the root, the DtExpr, the LParen and the
-- operator's own row
abbrev first_operand : List Token → Skeleton → ℕ
first_operand ts o = get_or (rows (root N.EntryCells o ts)) 21 0

-- by another left and another right of a level
abbrev powers_by : (ℕ → ℕ) → (ℕ → ℕ) → List Level → List Pair
powers_by left right [] = []
powers_by left right (l ∷ ls) = pair (left l.number) (right l.number) l.kinds ∷ powers_by left right ls

-- 2 × level + 2 for both sides: `1-2-3` groups from the right, so that the first operand is a literal
not_both_two : ((e : Entry) (ts : List Token) → run_entry e ts ≡ entry_with listed_ternary (powers_by right_power right_power binary_levels) e ts) → ⊥
unfolding run_entry entry_with rows_under root
not_both_two h =
    let ts = cell (K.Number ∷ K.Minus ∷ K.Number ∷ K.Minus ∷ K.Number ∷ []) in
    let n : ◌≡◌ {A = ℕ} N.InfixExpr N.LiteralExpr = ap (first_operand ts) (h Cells ts) in omega arith

-- & and | at each other's level: `1|2&3` has the | inside
abbrev exchanged : ℕ → ℕ
exchanged n = cond (eqb n 3) 5 (cond (eqb n 5) 3 n)

not_exchanged : ((e : Entry) (ts : List Token)
    → run_entry e ts ≡ entry_with listed_ternary (powers_by (λ n. left_power (exchanged n)) (λ n. right_power (exchanged n)) binary_levels) e ts)
    → ⊥
unfolding run_entry entry_with rows_under root
not_exchanged h =
    let ts = cell (K.Number ∷ K.BitwiseOr ∷ K.Number ∷ K.Ampersand ∷ K.Number ∷ []) in
    let n : ◌≡◌ {A = ℕ} N.LiteralExpr N.InfixExpr = ap (first_operand ts) (h Cells ts) in omega arith

-- the ternary as level 0: `1?2:3?4:5` groups from the left
abbrev level_zero : Pair
level_zero = pair (left_power 0) (right_power 0) (K.QuestionMark ∷ [])

not_level_zero : ((e : Entry) (ts : List Token) → run_entry e ts ≡ entry_with level_zero listed e ts) → ⊥
unfolding run_entry entry_with rows_under root
not_level_zero h =
    let ts = cell (K.Number ∷ K.QuestionMark ∷ K.Number ∷ K.Colon ∷ K.Number ∷ K.QuestionMark ∷ K.Number ∷ K.Colon ∷ K.Number ∷ []) in
    let n : ◌≡◌ {A = ℕ} N.LiteralExpr N.InfixExpr = ap (first_operand ts) (h Cells ts) in omega arith
