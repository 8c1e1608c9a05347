-- An expression of C's table judges no Name: none of its nodes is a DtLabel or a DtPhandle.
use Prim.Native.Nat.{ℕ, zero, suc, ◌+◌}
use mathlib.Core.Path.{◌≡◌, refl, sym, ◌∙◌, ap, subst}
use mathlib.Core.Bool.{Bool, true, false, cond}
use mathlib.Core.List.{List, [], ◌∷◌, ◌++◌}
use Rattle.definitions.specs.NodeKind as N
use Rattle.definitions.specs.Token.{Token, trivia, drop_trivia}
use Rattle.definitions.specs.Skeleton.{Skeleton, done, ◌⧺◌}
use Rattle.definitions.specs.Place.{Tree, nil, leaf, subtree, ◌⊕◌, lead, front, after, place, width}
use Rattle.definitions.specs.Strict.{judges, token_count, judged}
use Rattle.definitions.specs.C.{Symbol, Change, opens, closes, keeps, change, Expr, literal, name, invocation, bracketed, prefix, binary, ternary}
use Rattle.laws.proofs.Tree.{place_join}
use Rattle.precedence.specs.Nodes.{one, nodes, Split, argument, taking, next_argument, is_comma, split_change, split, argument_list, expr_nodes}

-- no node of the tree judges the Names directly under it
unfoldable pub Unjudged : Tree → Type 0
Unjudged nil = Unit {0}
Unjudged (leaf k ts f) = Unjudged f
Unjudged (subtree k c f) = (judges k c ≡ false) × Unjudged c × Unjudged f

-- so no Name is judged in it
pub none_judged : (t : Tree) → Unjudged t → (at byte : ℕ) → judged false at byte t ≡ []
unfolding Unjudged judged
none_judged nil h at byte = refl
none_judged (leaf k ts f) h at byte = none_judged f h _ _
none_judged (subtree k c f) h at byte =
    ap (λ (b : Bool). judged b at byte c ++ judged false (at + token_count c) (byte + width c) f) h.0
    ∙ ap (◌++ judged false (at + token_count c) (byte + width c) f) (none_judged c h.1 at byte)
    ∙ none_judged f h.2 _ _

-- ---------------------------------------------------------------- placed

beside : (f g : Tree) → Unjudged f → Unjudged g → Unjudged (f ⊕ g)
unfolding Unjudged ◌⊕◌
beside nil g h i = i
beside (leaf k ts f) g h i = beside f g h i
beside (subtree k c f) g h i = (h.0, h.1, beside f g h.2 i)

trivia_first : (ts : List Token) → Unjudged (lead ts)
unfolding Unjudged lead
trivia_first [] = tt
trivia_first (t ∷ ts) = go (trivia t) (trivia_first ts)
  where
    go : (b : Bool) → Unjudged (lead ts) → Unjudged (cond b (leaf t.kind (t ∷ []) (lead ts)) nil)
    go true h = h
    go false h = tt

token_first : (ts : List Token) → Unjudged (front ts)
unfolding Unjudged front
token_first [] = tt
token_first (t ∷ ts) = tt

-- wherever the skeleton is placed
pub record Bare (p : Skeleton) : Type 0 where
  pub placed : (ts : List Token) → Unjudged (place p ts)

bare_done : Bare done
unfolding Unjudged place
bare_done = record { placed = λ ts. tt }

bare_one : Bare one
unfolding Unjudged place
bare_one = record { placed = λ ts. beside (lead ts) _ (trivia_first ts) (beside (front (drop_trivia ts)) nil (token_first (drop_trivia ts)) tt) }

bare_join : (p q : Skeleton) → Bare p → Bare q → Bare (p ⧺ q)
bare_join p q h i = record { placed = λ ts. subst Unjudged (sym (place_join p q ts)) (beside (place p ts) _ (h.placed ts) (i.placed (after p ts))) }

bare_nodes : (k : ℕ) (p : Skeleton) → ((c : Tree) → judges k c ≡ false) → Bare p → Bare (nodes k p)
unfolding Unjudged place ◌⊕◌ after
bare_nodes k p h i = record { placed = λ ts. beside (lead ts) _ (trivia_first ts) (h (place p (drop_trivia ts)), i.placed (drop_trivia ts), tt) }

-- ---------------------------------------------------------------- macro arguments

record Both (s : Split) : Type 0 where
  in_first : Bare s.first
  in_later : Bare s.later

bare_argument : (s : Split) → Both s → Bare (argument s)
unfolding judges
bare_argument s h = bare_join _ _ (bare_nodes N.MacroArgument s.first (λ c. refl) h.in_first) h.in_later

bare_taking : (s : Split) → Both s → Both (taking s)
bare_taking s h = record { in_first = bare_join one _ bare_one h.in_first; in_later = h.in_later }

bare_next : (s : Split) → Both s → Both (next_argument s)
bare_next s h = record { in_first = bare_done; in_later = bare_join one _ bare_one (bare_argument s h) }

bare_change : (c : Change) (x : Symbol) (f : ℕ → Split) → ((n : ℕ) → Both (f n)) → (n : ℕ) → Both (split_change c x f n)
bare_change opens x f h n = bare_taking _ (h (suc n))
bare_change closes x f h zero = bare_taking _ (h zero)
bare_change closes x f h (suc n) = bare_taking _ (h n)
bare_change keeps x f h zero = go (is_comma x)
  where
    go : (b : Bool) → Both (cond b (next_argument (f zero)) (taking (f zero)))
    go true = bare_next _ (h zero)
    go false = bare_taking _ (h zero)
bare_change keeps x f h (suc n) = bare_taking _ (h (suc n))

bare_split : (xs : List Symbol) (n : ℕ) → Both (split xs n)
bare_split [] n = record { in_first = bare_done; in_later = bare_done }
bare_split (x ∷ xs) n = bare_change (change x) x (split xs) (bare_split xs) n

bare_arguments : (xs : List Symbol) → Bare (argument_list xs)
bare_arguments [] = bare_done
bare_arguments (x ∷ xs) = bare_argument (split (x ∷ xs) 0) (bare_split (x ∷ xs) 0)

-- ---------------------------------------------------------------- expressions

-- between two tokens
pub bare_between : (p : Skeleton) → Bare p → Bare (one ⧺ (p ⧺ one))
bare_between p h = bare_join one _ bare_one (bare_join p one h bare_one)

pub bare_expr : (e : Expr) → Bare (expr_nodes e)
unfolding judges
bare_expr (literal k) = bare_nodes N.LiteralExpr one (λ c. refl) bare_one
bare_expr name = bare_nodes N.MacroInvocation one (λ c. refl) bare_one
bare_expr (invocation xs) =
    bare_nodes N.MacroInvocation _ (λ c. refl) (bare_join one _ bare_one (bare_between (argument_list xs) (bare_arguments xs)))
bare_expr (bracketed e) = bare_nodes N.ParenExpr _ (λ c. refl) (bare_between (expr_nodes e) (bare_expr e))
bare_expr (prefix k e) = bare_nodes N.PrefixExpr _ (λ c. refl) (bare_join one _ bare_one (bare_expr e))
bare_expr (binary l k r) = bare_nodes N.InfixExpr _ (λ c. refl) (bare_join (expr_nodes l) _ (bare_expr l) (bare_join one _ bare_one (bare_expr r)))
bare_expr (ternary c a b) =
    bare_nodes N.InfixExpr _ (λ t. refl)
    (bare_join (expr_nodes c) _ (bare_expr c) (bare_join one _ bare_one (bare_join (expr_nodes a) _ (bare_expr a) (bare_join one _ bare_one (bare_expr b)))))
