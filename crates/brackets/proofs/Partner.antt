-- A bracket without a partner: the statement of specs/Partner.antt. What C's table is proved by says that a cell's
-- LParen has its RParen or a report above it; where it has its RParen, the two are `Brackets` of the statement.
use Prim.Native.Nat.{ℕ, suc, ◌+◌, ◌*◌, ◌≤◌}
use native.Mathlib.Omega.{arith}
use mathlib.Core.Path.{◌≡◌, refl, sym, ◌∙◌, ap, subst}
use mathlib.Core.Logic.{◌⊎◌, inl, inr}
use mathlib.Core.List.{List, ◌∷◌, ◌++◌}
use lib.ListN.{length, take, drop, length-append, take-append-drop, length-drop}
use Rattle.definitions.specs.Layout.{TREE_ROW}
use Rattle.definitions.specs.TokenKind as K
use Rattle.definitions.specs.Token.{Token, seen, tokens_of}
use Rattle.definitions.specs.NodeKind as N
use Rattle.definitions.specs.Place.{Tree, nil, leaf, subtree}
use Rattle.definitions.specs.Parent.{rows_under}
use Rattle.definitions.specs.Call.{Result, call}
use Rattle.laws.specs.TreeRows.{read}
use Rattle.laws.proofs.Tree.{leaves}
use Rattle.laws.proofs.Decode.{◌⊞◌, read_preorder, shown, shown_preorder, shown_counts}
use Rattle.precedence.specs.Precedence.{tokens_before, mark_in, Brackets, opening_index}
use Rattle.precedence.proofs.Partner.{Partner}
use Rattle.precedence.proofs.Theorem.{kind_of, Tells, Answered, answered}
use Rattle.brackets.specs.Partner.{NoPartner, tokens_in, tokens_first, Reported, PartnerMissed}

-- an LParen that is token k, and the RParen that balances it
brackets_of : (ts : List Token) (k : ℕ) (bracket : Token) (rest : List Token) → drop k ts ≡ bracket ∷ rest → seen bracket ≡ K.LParen → Partner rest
    → (b : Brackets ts) × (opening_index ts b ≡ k)
brackets_of ts k bracket rest e o c =
    let total : length ts ≡ k + suc (length rest) = omega (arith, ap length e, length-drop k ts) in (
      record {
        before = take k ts;
        opening = bracket;
        inner = c.inner;
        closing = c.close;
        after = c.after;
        tokens_are = sym (take-append-drop k ts) ∙ ap (take k ts ++◌) (e ∙ ap (bracket ∷◌) c.split);
        opens = kind_of bracket K.LParen o (λ z. omega arith);
        closes = kind_of c.close K.RParen c.closes (λ z. omega arith);
        balanced = c.balanced;
      },
      omega (arith, ap length (take-append-drop k ts), length-append (take k ts) (drop k ts), total, ap length e),
    )

-- the tokens in a tree's rows are those of its leaves
in_rows : (t : Tree) → tokens_in (shown t) ≡ length (leaves t)
unfolding tokens_in shown leaves
in_rows nil = refl
in_rows (leaf k ts f) = let h = in_rows f in omega (arith, length-append ts (leaves f))
in_rows (subtree k c f) = let h = in_rows c in let g = in_rows f in omega (arith, length-append (leaves c) (leaves f))

first_row : (k : ℕ) (c : Tree) (u p : ℕ) (l : List ℕ) → tokens_first (read (rows_under u p (subtree k c nil) ++ l)) ≡ length (leaves c)
unfolding tokens_first shown ◌⊞◌
first_row k c u p l =
    ap (λ (x : List ℕ). tokens_first (read (x ++ l))) (sym (shown_preorder (subtree k c nil) u p))
    ∙ ap tokens_first (read_preorder (shown (subtree k c nil)) u p l (shown_counts (subtree k c nil)))
    ∙ in_rows c

missed_in : (ts : List Token) (p : ℕ) (r : Result) → Answered ts p r → NoPartner ts p r → (q : ℕ) × Reported p r q
missed_in ts p r a none = go a.paired
  where
    cell : tokens_first (read (drop (TREE_ROW * p) r.buffers.trees)) ≡ length (leaves a.children)
    cell = ap (λ (l : List ℕ). tokens_first (read l)) a.rows_are ∙ first_row N.DtExpr a.children a.parent p a.more

    go : Partner a.beyond ⊎ ((q : ℕ) × Tells r (tokens_before p r.buffers.trees) a.children q) → (q : ℕ) × Reported p r q
    go (inl c) = let b = brackets_of ts (tokens_before p r.buffers.trees) a.bracket a.beyond a.starts a.is_bracket c in absurd (none b.0 b.1)
    go (inr g) =
        let t = g.1 in
        (g.0, record { written = t.written; above = t.above; at_most = subst (λ (n : ℕ). mark_in g.0 r.buffers.reports ≤ tokens_before p r.buffers.trees + n) (sym cell) t.at_most })

-- A BRACKET WITHOUT A PARTNER has a report above it
pub missed : PartnerMissed
missed n setting bytes tokens l h p d none = missed_in (tokens_of tokens) p (call n setting bytes tokens l) (answered n setting bytes tokens l h p d) none
