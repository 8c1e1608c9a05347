-- A turn over infix operators, and what else the functions of the cycle do, from parser to parser.
use Prim.Native.Nat.{ℕ, ◌<◌, ◌≤◌}
use mathlib.Core.Path.{◌≡◌, refl, ap, ◌∙◌}
use mathlib.Core.Bool.{Bool, true, false, false≢true, cond}
use mathlib.Core.List.{List}
use native.Mathlib.Omega.{arith}
use borrow.Author.Tests.{ne_eqb, eq-eqb, lt-ltb, le-ltb}
use lib.ListN.{drop}
use Rattle.std.specs.Prelude.{Option, None, Some, IsSome, MatchOption}
use Rattle.definitions.specs.Errors as E
use Rattle.definitions.specs.NodeKind as N
use Rattle.definitions.specs.Token.{Token}
use Rattle.definitions.specs.Skeleton.{Span}
use Rattle.definitions.specs.Prog.{Ans, no, yes, again, Rule, add_expected, Prog, ret, act, ◌⨟◌, case}
use Rattle.definitions.specs.Check.{bump!, expected, set, silent}
use Rattle.definitions.specs.Grammar.{INFIX_BUT_TERNARY, rhs, infix_turn}
use Rattle.definitions.specs.Run.{truth}
use Rattle.machine.specs.Machine.{Machine, peek}
use Rattle.machine.specs.Walk.{Walked, said, perform, walk, walk_rule, unlabelled}
use Rattle.machine.proofs.Way.{c_walk}
use Rattle.token_rows.specs.Tokens.{SEEN_AT_END, kind_of}
use Rattle.parser.specs.declared.Parser.{Parser}
use Rattle.parser.specs.View.{view, toks, rest, Becomes, Way, Walks}
use Rattle.parser.proofs.Ways.{same_then, same_toks, yes_case, no_case, seq, stay}
use Rattle.binding_power.specs.Power.{left_of, right_of, is_binary}
use Rattle.binding_power.specs.declared.BindingPower.{BindingPower}
use Rattle.binding_power.specs.Answer.{left_in, binary_in}
use Rattle.expr.specs.Chain.{look_for_infix, TurnsWithin}
use Rattle.expr.specs.Subprograms.{ternary_rhs}
use Rattle.expr.proofs.Levels.{turn_none, turn_weaker, turn_ternary, turn_binary, at_binary, left_end}

-- ---------------------------------------------------------------- answers told on

module _ {ask : List Token → Rule → Machine → Walked} {b : Span} where
  -- past a program that is walked in either case
  pub told_past : (t : Bool) {c g : Prog} {p q r : Parser} {a : Ans} {k j l : ℕ} → Way ask b None c p (truth t) k q → Way ask b None g q a j r
      → Way ask b None (case c (g ⨟ ret l no) (g ⨟ ret l yes) (g ⨟ ret l yes)) p (truth t) l r
  told_past true w v = yes_case {t = true} w refl (seq v stay)
  told_past false w v = no_case {t = false} w refl (seq v stay)

  -- a right side: the chain goes on with it
  pub righted : (t : Bool) {c : Prog} {p q : Parser} {k l : ℕ} → Way ask b None c p (truth t) k q
      → Way ask b None (case c (ret l yes) (ret l again) (ret l again)) p (cond t again yes) l q
  righted true w = yes_case {t = true} w refl stay
  righted false w = no_case {t = false} w refl stay

-- ---------------------------------------------------------------- a turn, by the operator at the cursor

pub looks_for : {p s x : Parser} → Walks (act (add_expected E.InfixOperator)) p yes s → Becomes (peek (toks s)) s x → Becomes (look_for_infix (toks p)) p x
unfolding walk perform
looks_for {p = p} {s = s} w z =
    let v = w.way (λ ts r m. said no m) unlabelled in
    record {
      is = z.is ∙ ap (λ (ts : List Token). peek ts (view s)) (same_toks w.same) ∙ ap (λ (x : Walked). peek (toks p) x.on) v.is;
      same = same_then w.same z.same;
      left = omega (arith, w.left, z.left);
    }

-- past the last token there is none
pub some_seen : (o : Option BindingPower) (k : ℕ) → left_in o ≡ left_of k → (IsSome o → 0 < left_in o) → IsSome o → k ≡ SEEN_AT_END → ⊥
some_seen None k e f g h = absurd (false≢true g)
some_seen (Some op) k e f g h = let z : op.left ≡ 0 = e ∙ ap left_of h ∙ left_end in omega (arith, z, f g)

module _ (n min : ℕ) {l r : ℕ} {p x : Parser} (z : Becomes (look_for_infix (toks p)) p x) (el : l ≡ left_of (kind_of (rest x))) (er : r ≡ right_of (kind_of (rest x))) where
  seen : (power : ℕ → ℕ) → power (kind_of (rest x)) ≡ power (kind_of (drop x.cursor.0 (toks p)))
  seen power = ap (λ (ts : List Token). power (kind_of (drop x.cursor.0 ts))) (same_toks z.same)

  pub no_operator : l ≡ 0 → TurnsWithin n (infix_turn min) p None x
  no_operator e = record { is = (turn_none min l r z.is (el ∙ seen left_of) (er ∙ seen right_of) (eq-eqb l 0 e)).is; same = z.same; left = z.left }

  pub weaker : 0 < l → l < min → TurnsWithin n (infix_turn min) p None x
  weaker e f =
      record {
        is = (turn_weaker min l r z.is (el ∙ seen left_of) (er ∙ seen right_of) (ne_eqb l 0 (λ i. omega (arith, e, i))) (lt-ltb l min f)).is;
        same = z.same;
        left = z.left;
      }

  module _ {q : Parser} {a : Ans} {k : ℕ} (e : 0 < l) (f : min ≤ l) where
    from : {g : Prog} → Way (walk_rule n) unlabelled None g x a k q
        → record { ans = a; shape = k; on = view q } ≡ walk (walk_rule n (toks p)) (toks p) unlabelled g (view x)
    from {g = g} w = w.is ∙ ap (λ (ts : List Token). walk (walk_rule n ts) ts unlabelled g (view x)) (same_toks z.same)

    pub ternary : l ≡ 2 → Way (walk_rule n) unlabelled None (bump! ⨟ ternary_rhs) x a k q → Way (walk_rule n) unlabelled None (infix_turn min) p a k q
    ternary g w =
        record {
          is = (turn_ternary min l r z.is (el ∙ seen left_of) (er ∙ seen right_of) (ne_eqb l 0 (λ i. omega (arith, e, i))) (le-ltb l min f) (eq-eqb l 2 g) (c_walk (from w))).is;
          same = same_then z.same w.same;
          left = omega (arith, z.left, w.left);
        }

    pub other : (l ≡ 2 → ⊥) → Way (walk_rule n) unlabelled None (bump! ⨟ rhs r) x a k q → Way (walk_rule n) unlabelled None (infix_turn min) p a k q
    other g w =
        record {
          is = (turn_binary min l r z.is (el ∙ seen left_of) (er ∙ seen right_of) (ne_eqb l 0 (λ i. omega (arith, e, i))) (le-ltb l min f) (ne_eqb l 2 g) (c_walk (from w))).is;
          same = same_then z.same w.same;
          left = omega (arith, z.left, w.left);
        }

-- the operator of a missing left side, as the code asks for it
asked : (o : Option BindingPower) (b : Bool) → MatchOption o (b ≡ false) (λ op. b ≡ op.binary) → b ≡ binary_in o
asked None b e = e
asked (Some op) b e = e

pub sees_binary : (n : ℕ) {p x : Parser} (o : Option BindingPower) → Becomes (look_for_infix (toks p)) p x → binary_in o ≡ is_binary (kind_of (rest x))
    → (b : Bool) → MatchOption o (b ≡ false) (λ op. b ≡ op.binary) → Way (walk_rule n) unlabelled None (expected E.InfixOperator ⨟ silent (set INFIX_BUT_TERNARY)) p (truth b) N.NO_NODE x
sees_binary n {x = x} o z e b f =
    let i = ap (λ (ts : List Token). is_binary (kind_of (drop x.cursor.0 ts))) (same_toks z.same) in
    record { is = (at_binary b z.is (asked o b f ∙ e ∙ i)).is; same = z.same; left = z.left }
