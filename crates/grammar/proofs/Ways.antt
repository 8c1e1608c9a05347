-- Steps of a way that only the cycle of calls needs: a cell's plain cases apart, and what a match with two answers to
-- an arm has told.
use Prim.Native.Nat.{ℕ, zero, suc, ◌<◌}
use mathlib.Core.Path.{◌≡◌, refl, ap, ◌∙◌}
use mathlib.Core.Bool.{Bool}
use mathlib.Core.List.{List}
use mathlib.Core.Logic.{◌⊎◌, inl, inr}
use native.Mathlib.Omega.{arith}
use Rattle.std.specs.Prelude.{Option, None}
use Rattle.definitions.specs.TokenKind as K
use Rattle.definitions.specs.Token.{Token}
use Rattle.definitions.specs.Skeleton.{Span}
use Rattle.definitions.specs.Prog.{Ans, no, yes, also, Rule, Prog, ◌⨟◌, case}
use Rattle.definitions.specs.Check.{tell, when◌then◌else◌, of_kind, silent}
use Rattle.definitions.specs.Grammar.{dt_expr, eat_cell_body}
use Rattle.machine.specs.Machine.{Machine}
use Rattle.machine.specs.Machine as M
use Rattle.machine.specs.Walk.{Walked}
use Rattle.parser.specs.declared.Ans.{Ans as Answered}
use Rattle.parser.specs.declared.Ans.TheVariants as A
use Rattle.parser.specs.declared.Parser.{Parser}
use Rattle.parser.specs.View.{view, toks, ans_of, closed_by, Way}
use Rattle.parser.proofs.Ways.{if_yes, if_again}
use Rattle.plain_cells.specs.Subprograms.{plain_cell}
use Rattle.grammar.specs.Subprograms.{cell_rest}
use Rattle.grammar.proofs.Laws.{cell_is}

pub some_allowed : {n : ℕ} → (n ≡ 0 → ⊥) → 0 < n
some_allowed {n = zero} h = absurd (h refl)
some_allowed {n = suc n} h = omega arith

-- `eat_cell_body`: the plain cells are the test
pub cell_way : {ask : List Token → Rule → Machine → Walked} {b : Span} {e : Option M.Marker} (until_end : Bool) {p q : Parser} {a : Ans} {k : ℕ}
    → Way ask b e (when plain_cell then tell yes else when silent (of_kind K.LParen) then dt_expr ⨟ tell yes else cell_rest until_end) p a k q
    → Way ask b e (eat_cell_body until_end) p a k q
cell_way {ask = ask} {b = b} {e = e} u {p = p} w = record { is = w.is ∙ ap (closed_by e) (cell_is (ask (toks p)) (toks p) b u (view p)); same = w.same; left = w.left }

-- Yes and Again
pub if_other : {ask : List Token → Rule → Machine → Walked} {b : Span} {e : Option M.Marker} {c n y x : Prog} {p q s : Parser} {a : Ans} {k k' : ℕ} (r : Answered) → (r ≡ A.Yes) ⊎ (r ≡ A.Again)
    → Way ask b None c p (ans_of r) k q → Way ask b e y q a k' s → Way ask b e (case c n y x) p a k' s
if_other r h w z = elim h [ inl i ↦ if_yes w (ap ans_of i) z | inr i ↦ if_again w (ap ans_of i) z ]

-- No and Also, and it is not Also
pub never_also : (r : Answered) → (r ≡ A.No) ⊎ (r ≡ A.Also) → (ans_of r ≡ also → ⊥) → ans_of r ≡ no
never_also r h f = elim h [ inl i ↦ ap ans_of i | inr i ↦ absurd (f (ap ans_of i)) ]
