-- What an entry left over becomes: nothing, or one ParseError of leaves whose first is the token that stood ahead.
use Prim.Native.Nat.{ℕ, zero, suc, ◌≤◌, ◌-◌}
use mathlib.Core.Path.{◌≡◌, refl, ap, sym, ◌∙◌, subst}
use mathlib.Core.Bool.{true}
use mathlib.Core.List.{List, [], ◌∷◌}
use lib.ListN.{length}
use borrow.Author.Tests.{lt-ltb}
use Rattle.definitions.specs.Errors as E
use Rattle.definitions.specs.NodeKind as N
use Rattle.definitions.specs.Token.{Token, seen, drop_trivia}
use Rattle.definitions.specs.Prog.{choose, Rule, Prog, ◌⨟◌, loop}
use Rattle.definitions.specs.Check.{in_node, error! }
use Rattle.definitions.specs.Grammar.{left_over, left_over_turn}
use Rattle.definitions.specs.Once.{pushed_once}
use Rattle.definitions.specs.Skeleton.{Label, done, token, ◌⧺◌}
use Rattle.definitions.specs.Run.{State, Out, peeked, replies, makes, taken, do_emit, do_expected, perform, add, marked, is_again, goes_on, iter, exec}
use Rattle.laws.proofs.Trivia.{drop_twice, drop_trivia_length}
use Rattle.laws.proofs.Swept.{turn_ends, turn_takes}
use Rattle.brackets.specs.Brackets.{Outline, end, leaves_only, first_leaf}
use Rattle.brackets.specs.Brackets as B
use Rattle.brackets.proofs.Flat.{◌⊞◌, beside_end, flat, flat_join, shut}

-- leaves, of which the first is k
pub record Leaves (k : ℕ) (c : Outline) : Type 0 where
  pub no_nodes : leaves_only c ≡ true
  pub first_is : first_leaf c 0 ≡ k

module _ (ask : Rule → State → Out) (b : Label) where
  abbrev sweep : ℕ → State → Out
  sweep n s = iter n (exec ask b left_over_turn) s

  -- a token taken, and then the rest
  sweep_takes : (n : ℕ) (s : State) (t : Token) (ts : List Token) → drop_trivia s.rest ≡ t ∷ ts → (sweep (suc n) s).made ≡ token t (length ts) (sweep n (taken ts)).made
  unfolding iter goes_on is_again makes add ◌⧺◌
  sweep_takes n s t ts e =
      let l : length (t ∷ ts) ≤ length s.rest = subst (λ (x : List Token). length x ≤ length s.rest) e (drop_trivia_length s.rest) in
      rw (turn_takes ask b s t ts e, lt-ltb (length ts) (length s.rest) l) refl

  sweep_ends : (n : ℕ) (s : State) → drop_trivia s.rest ≡ [] → (sweep (suc n) s).made ≡ done
  unfolding iter goes_on is_again makes
  sweep_ends n s e = rw (turn_ends ask b s e) refl

  swept : (n : ℕ) (s : State) → leaves_only (flat (sweep n s).made) ≡ true
  unfolding iter replies flat leaves_only
  swept zero s = refl
  swept (suc n) s = go (drop_trivia s.rest) refl (λ u. swept n u)
    where
      go : (l : List Token) → drop_trivia s.rest ≡ l → ((u : State) → leaves_only (flat (sweep n u).made) ≡ true) → leaves_only (flat (sweep (suc n) s).made) ≡ true
      go [] e ih = ap (λ x. leaves_only (flat x)) (sweep_ends n s e)
      go (t ∷ ts) e ih = ap (λ x. leaves_only (flat x)) (sweep_takes n s t ts e) ∙ ih (taken ts)

  sweeps : (n : ℕ) (s : State) (t : Token) (ts : List Token) → drop_trivia s.rest ≡ t ∷ ts → Leaves (seen t) (flat (sweep (suc n) s).made)
  unfolding flat first_leaf
  sweeps n s t ts e = record { no_nodes = swept (suc n) s; first_is = ap (λ x. first_leaf (flat x) 0) (sweep_takes n s t ts e) }

  -- the report, and the tokens
  abbrev inner : Prog
  inner = error! ⨟ loop left_over_turn

  inner_leaves : (s : State) (t : Token) (ts : List Token) → drop_trivia s.rest ≡ t ∷ ts → Leaves (seen t) (flat (exec ask b inner s).made)
  unfolding exec perform do_emit makes add ◌⧺◌ flat
  inner_leaves s t ts e = sweeps (length (peeked s).rest) (peeked s) t ts (unfold peeked in (drop_twice s.rest ∙ e))

  node_flat : (k : ℕ) (p : Prog) (s : State) → flat (exec ask b (in_node (suc k) p) s).made ≡ B.node (suc k) (flat (exec ask b p s).made) end
  unfolding exec marked makes add flat shut ◌⊞◌
  node_flat k p s = ap (λ (x : Outline). B.node (suc k) x end) (flat_join (exec ask b p s).made done ∙ beside_end (flat (exec ask b p s).made))

  -- nothing is left
  pub none_left_over : (s : State) → drop_trivia s.rest ≡ [] → flat (exec ask b left_over s).made ≡ end
  unfolding left_over exec perform choose replies peeked add ◌⧺◌ flat
  none_left_over s e = rw e refl

  -- something is: one ParseError
  pub some_left_over : (s : State) (t : Token) (ts : List Token) → drop_trivia s.rest ≡ t ∷ ts
      → (c : Outline) × Leaves (seen t) c × (flat (exec ask b left_over s).made ≡ B.node N.ParseError c end)
  unfolding left_over exec perform choose replies peeked add ◌⧺◌ ◌⊞◌ do_expected makes
  some_left_over s t ts e =
      let u : State = record { rest = t ∷ ts; since = s.since; pending = pushed_once E.End s.pending } in
      let d : drop_trivia (t ∷ ts) ≡ t ∷ ts = ap drop_trivia (sym e) ∙ drop_twice s.rest ∙ e in
      (flat (exec ask b inner u).made, inner_leaves u t ts d, rw e (node_flat (N.ParseError - 1) inner u))
