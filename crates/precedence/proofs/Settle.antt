-- A judged cell in a whole run: no report made before or after it has a mark between its brackets, since marks never
-- fall.
use Prim.Native.Nat.{ℕ, suc, ◌+◌, ◌≤◌, ◌<◌}
use native.Mathlib.Nat.{le_trans}
use native.Mathlib.Omega.{arith}
use mathlib.Core.Path.{◌≡◌, sym, ◌∙◌, ap, subst}
use mathlib.Core.Logic.{◌⊎◌, inl, inr}
use mathlib.Core.Bool.{Bool, true, false, cond}
use mathlib.Core.List.{List, [], ◌∷◌, ◌++◌, append_assoc}
use lib.ListN.{length, drop, length-append}
use lib.Seq.{drop-drop, drop-append_seam}
use Rattle.definitions.specs.TokenKind as K
use Rattle.definitions.specs.NodeKind as N
use Rattle.definitions.specs.Token.{Token, seen, trivia, drop_trivia}
use Rattle.definitions.specs.Skeleton.{Report, Skeleton, token, ◌⧺◌}
use Rattle.definitions.specs.Place.{Tree, nil, leaf, subtree, ◌⊕◌, lead, front, after, place}
use Rattle.definitions.specs.Report.{Push, event, reported, exceeded, pushes}
use Rattle.definitions.specs.C.{symbols, Balanced, Expr, Gives}
use Rattle.laws.proofs.Marks.{push_mark, Falls}
use Rattle.laws.proofs.Tree.{leaves, leaves_beside}
use Rattle.laws.proofs.Placed.{place_whole, lead_whole}
use Rattle.precedence.specs.Nodes.{one, expr_nodes}
use Rattle.precedence.proofs.Pushed.{Quiet, Reported, here, there, reported_left, reported_right}
use Rattle.precedence.proofs.Symbols.{bracket_solid}
use Rattle.precedence.proofs.Partner.{Partner, HeardInside, Paired}
use Rattle.precedence.proofs.Cell.{Good, Bad, CellOf}

-- ---------------------------------------------------------------- marks before and after

in_more : {r : Report} (x : Push) (k l : List Push) → Reported r k ⊎ Reported r l → Reported r (x ∷ k) ⊎ Reported r l
in_more x k l (inl h) = inl (there h)
in_more x k l (inr h) = inr h

-- what is reported was reported in one of two parts
reported_parts : {r : Report} (k l : List Push) → Reported r (k ++ l) → Reported r k ⊎ Reported r l
reported_parts [] l h = inr h
reported_parts (reported r ∷ k) l here = inl here
reported_parts (x ∷ k) l (there h) = in_more x k l (reported_parts k l h)

quiet_none : {r : Report} (l : List Push) → Quiet l → Reported r l → ⊥
quiet_none (reported r ∷ l) q here = q
quiet_none (event m ∷ l) q (there h) = quiet_none l q h
quiet_none (reported r ∷ l) q (there h) = q
quiet_none (exceeded m ∷ l) q (there h) = quiet_none l q h
quiet_none [] q h = elim h [ ]

falls_to : (a b : ℕ) (k : List Push) (x : Push) (l : List Push) → Falls a (k ++ (x ∷ l)) b → push_mark x ≤ a
falls_to a b [] x l f = f.0
falls_to a b (y ∷ k) x l f = le_trans (falls_to (push_mark y) b k x l f.1) f.0

falls_from : (a b : ℕ) (k : List Push) (x : Push) (l : List Push) → Falls a (k ++ (x ∷ l)) b → Falls (push_mark x) l b
falls_from a b [] x l f = f.1
falls_from a b (y ∷ k) x l f = falls_from (push_mark y) b k x l f.1

-- a report before a push has no smaller mark, counted from the end
falls_before : {r : Report} (a b : ℕ) (k : List Push) (x : Push) (l : List Push) → Falls a (k ++ (x ∷ l)) b → Reported r k → push_mark x ≤ r.mark
falls_before a b (reported r ∷ k) x l f here = falls_to r.mark b k x l f.1
falls_before a b (y ∷ k) x l f (there h) = falls_before (push_mark y) b k x l f.1 h
falls_before a b [] x l f h = elim h [ ]

-- and one after it no greater
falls_under : {r : Report} (a b : ℕ) (l : List Push) → Falls a l b → Reported r l → r.mark ≤ a
falls_under a b (reported r ∷ l) f here = f.0
falls_under a b (y ∷ l) f (there h) = le_trans (falls_under (push_mark y) b l f.1 h) f.0
falls_under a b [] f h = elim h [ ]

-- ---------------------------------------------------------------- a cell in the whole

-- C's table gives the tokens between the brackets a tree: no report of the whole has a mark between them, and c is that
-- tree and reaches to the RParen
pub record Clean (whole : List Push) (inner : List Token) (close : Token) (after : List Token) (beyond u : List Token) (c : Tree) : Type 0 where
  pub tree : Expr
  pub gives : Gives (symbols false inner) tree
  pub silent : (rep : Report) → Reported rep whole → length (close ∷ after) ≤ rep.mark → rep.mark ≤ length beyond → ⊥
  pub holds : c ≡ place (one ⧺ (expr_nodes tree ⧺ one)) u
  pub reaches : length u ≤ length after + length (leaves c)

-- it gives none: some report has
pub record Faulty (whole : List Push) (inner : List Token) (close : Token) (after : List Token) (beyond : List Token) : Type 0 where
  pub no_tree : (e : Expr) → Gives (symbols false inner) e → ⊥
  pub rep : Report
  pub among : Reported rep whole
  pub high : length (close ∷ after) ≤ rep.mark
  pub low : rep.mark ≤ length beyond

-- a DtExpr with the children c, placed from u on
pub record Settled (whole : List Push) (u : List Token) (c : Tree) : Type 0 where
  pub bracket : Token
  pub beyond : List Token
  pub starts : u ≡ bracket ∷ beyond
  pub is_bracket : seen bracket ≡ K.LParen
  pub rest : Tree
  pub begins : c ≡ leaf K.LParen (bracket ∷ []) rest
  pub judged : (inner : List Token) (close : Token) (after : List Token) → beyond ≡ inner ++ (close ∷ after) → seen close ≡ K.RParen
      → Balanced (symbols false inner) → Clean whole inner close after beyond u c ⊎ Faulty whole inner close after beyond
  pub paired : Partner beyond ⊎ ((end : ℕ) × (length u ≤ end + length (leaves c)) × HeardInside whole beyond end)

first_child : (t : Token) (ts : List Token) (m : ℕ) (p : Skeleton) → seen t ≡ K.LParen → place (token t m p) (t ∷ ts) ≡ leaf K.LParen (t ∷ []) (place p ts)
unfolding place lead front drop_trivia ◌⊕◌
first_child t ts m p k = rw (bracket_solid t k) (ap (λ (j : ℕ). leaf j (t ∷ []) (place p ts)) k)

module _ (whole : List Push) (from to : ℕ) (falls : Falls from whole to) where
  -- a report of the whole stands before the cell, in it or after it
  outside : (m m' : ℕ) (i : Skeleton) (pre post : List Push) → whole ≡ pre ++ (event m ∷ (pushes i ++ (event m' ∷ post))) → Quiet (pushes i)
      → (x y : ℕ) → y < m → m' < x → (rep : Report) → Reported rep whole → x ≤ rep.mark → rep.mark ≤ y → ⊥
  outside m m' i pre post e q x y low high rep h a b =
      let f : Falls from (pre ++ (event m ∷ (pushes i ++ (event m' ∷ post)))) to = subst (λ (l : List Push). Falls from l to) e falls in
      by_side f (reported_parts pre (event m ∷ (pushes i ++ (event m' ∷ post))) (subst (Reported rep) e h))
    where
      by_last : Falls from (pre ++ (event m ∷ (pushes i ++ (event m' ∷ post)))) to → Reported rep (event m' ∷ post) → ⊥
      by_last f (there g) =
          omega (arith, falls_under m' to post (falls_from m to (pushes i) (event m') post (falls_from from to pre (event m) (pushes i ++ (event m' ∷ post)) f)) g)

      by_inside : Falls from (pre ++ (event m ∷ (pushes i ++ (event m' ∷ post)))) to → Reported rep (pushes i) ⊎ Reported rep (event m' ∷ post) → ⊥
      by_inside f (inl g) = quiet_none (pushes i) q g
      by_inside f (inr g) = by_last f g

      by_side : Falls from (pre ++ (event m ∷ (pushes i ++ (event m' ∷ post)))) to → Reported rep pre ⊎ Reported rep (event m ∷ (pushes i ++ (event m' ∷ post))) → ⊥
      by_side f (inl g) = omega (arith, falls_before from to pre (event m) (pushes i ++ (event m' ∷ post)) f g)
      by_side f (inr (there g)) = by_inside f (reported_parts (pushes i) (event m' ∷ post) g)

  -- the tokens from u on are those of the cell's tree, and those that are left after it
  reached : (m' : ℕ) (i : Skeleton) (u : List Token) → length (after i u) ≤ m' → length u ≤ m' + length (leaves (place i u))
  reached m' i u l = omega (arith, l, ap length (place_whole i u), length-append (leaves (place i u)) (after i u))

  settle_by : (m m' : ℕ) (i : Skeleton) (pre post : List Push) → whole ≡ pre ++ (event m ∷ (pushes i ++ (event m' ∷ post))) → (v : List Token) → (d : CellOf m m' i v)
      → length v ≤ m' + length (leaves (place i v)) → (inner : List Token) (close : Token) (after : List Token)
      → Good inner close after m' i ⊎ Bad inner close after d.beyond i
      → Clean whole inner close after d.beyond v (place i v) ⊎ Faulty whole inner close after d.beyond
  settle_by m m' i pre post e v d l inner close after (inl g) =
      let z : length v ≡ suc (length d.beyond) = ap length d.starts in
      inl (record {
        tree = g.tree;
        gives = g.gives;
        silent = outside m m' i pre post e g.quiet (length (close ∷ after)) (length d.beyond) (omega (arith, d.marked_at)) (omega (arith, g.past));
        holds = g.same.placed v;
        reaches = omega (arith, l, g.past);
      })
  settle_by m m' i pre post e v d l inner close after (inr b) =
      inr (record {
        no_tree = b.no_tree;
        rep = b.rep;
        among = subst (Reported b.rep) (sym e) (reported_right pre (there (reported_left (event m' ∷ post) b.among)));
        high = b.high;
        low = b.low;
      })

  -- a report of the cell is one of the whole
  pair_in : (m m' : ℕ) (i : Skeleton) (pre post : List Push) → whole ≡ pre ++ (event m ∷ (pushes i ++ (event m' ∷ post))) → (beyond : List Token)
      → Paired (pushes i) beyond → Partner beyond ⊎ HeardInside whole beyond m'
  pair_in m m' i pre post e beyond (inl p) = inl p
  pair_in m m' i pre post e beyond (inr h) =
      let f : Falls from (pre ++ (event m ∷ (pushes i ++ (event m' ∷ post)))) to = subst (λ (l : List Push). Falls from l to) e falls in
      inr (record {
        rep = h.rep;
        among = subst (Reported h.rep) (sym e) (reported_right pre (there (reported_left (event m' ∷ post) h.among)));
        low = h.low;
        high = falls_before m to (pushes i) (event m') post (falls_from from to pre (event m) (pushes i ++ (event m' ∷ post)) f) h.among;
      })

  reported_by : (m' : ℕ) (u beyond : List Token) (c : Tree) → length u ≤ m' + length (leaves c) → Partner beyond ⊎ HeardInside whole beyond m'
      → Partner beyond ⊎ ((end : ℕ) × (length u ≤ end + length (leaves c)) × HeardInside whole beyond end)
  reported_by m' u beyond c l (inl p) = inl p
  reported_by m' u beyond c l (inr w) = inr (m', l, w)

  pub settle_cell : (m m' : ℕ) (i : Skeleton) (pre post : List Push) → whole ≡ pre ++ (event m ∷ (pushes i ++ (event m' ∷ post))) → (u : List Token) → CellOf m m' i u
      → length (after i u) ≤ m' → Settled whole u (place i u)
  settle_cell m m' i pre post e u d l =
      record {
        bracket = d.bracket;
        beyond = d.beyond;
        starts = d.starts;
        is_bracket = d.is_bracket;
        rest = place d.rest d.beyond;
        begins =
            ap (λ (p : Skeleton). place p u) d.begins
            ∙ ap (place (token d.bracket (length d.beyond) d.rest)) d.starts
            ∙ first_child d.bracket d.beyond (length d.beyond) d.rest d.is_bracket;
        judged = λ inner close after b k h. settle_by m m' i pre post e u d (reached m' i u l) inner close after (d.judged inner close after b k h);
        paired = reported_by m' u d.beyond (place i u) (reached m' i u l) (pair_in m m' i pre post e d.beyond d.paired);
      }

-- ---------------------------------------------------------------- every DtExpr of a placed tree

-- Q holds of each DtExpr in the tree: of the tokens from it on, and of its children; ts: the tokens from the tree on
unfoldable pub Each : (List Token → Tree → Type 0) → List Token → Tree → Type 0
unfolding leaves
Each Q ts nil = Unit {0}
Each Q ts (leaf k raw f) = Each Q (drop (length raw) ts) f
Each Q ts (subtree k c f) = (k ≡ N.DtExpr → Q ts c) × Each Q ts c × Each Q (drop (length (leaves c)) ts) f

-- two such facts at once
pub each_both : (Q R : List Token → Tree → Type 0) (f : Tree) (ts : List Token) → Each Q ts f → Each R ts f → Each (λ us c. Q us c × R us c) ts f
unfolding Each
each_both Q R nil ts h i = tt
each_both Q R (leaf k raw f) ts h i = each_both Q R f (drop (length raw) ts) h i
each_both Q R (subtree k c f) ts h i = (λ e. (h.0 e, i.0 e), each_both Q R c ts h.1 i.1, each_both Q R f (drop (length (leaves c)) ts) h.2 i.2)

module _ (Q : List Token → Tree → Type 0) where
  each_beside : (f g : Tree) (ts : List Token) → Each Q ts f → Each Q (drop (length (leaves f)) ts) g → Each Q ts (f ⊕ g)
  unfolding Each ◌⊕◌ leaves
  each_beside nil g ts h i = i
  each_beside (leaf k raw f) g ts h i =
      let e : drop (length (raw ++ leaves f)) ts ≡ drop (length (leaves f)) (drop (length raw) ts) =
      ap (λ (n : ℕ). drop n ts) (length-append raw (leaves f)) ∙ sym (drop-drop (length (leaves f)) (length raw) ts) in
      each_beside f g (drop (length raw) ts) h (subst (λ (l : List Token). Each Q l g) e i)
  each_beside (subtree k c f) g ts h i =
      let e : drop (length (leaves c ++ leaves f)) ts ≡ drop (length (leaves f)) (drop (length (leaves c)) ts) =
      ap (λ (n : ℕ). drop n ts) (length-append (leaves c) (leaves f)) ∙ sym (drop-drop (length (leaves f)) (length (leaves c)) ts) in
      (h.0, h.1, each_beside f g (drop (length (leaves c)) ts) h.2 (subst (λ (l : List Token). Each Q l g) e i))

  -- f covers ts up to us
  pub each_then : (f g : Tree) (ts us : List Token) → leaves f ++ us ≡ ts → Each Q ts f → Each Q us g → Each Q ts (f ⊕ g)
  each_then f g ts us e h i =
      each_beside f g ts h (subst (λ (l : List Token). Each Q l g) (sym (drop-append_seam (leaves f) us) ∙ ap (drop (length (leaves f))) e) i)

  pub each_lead : (ts us : List Token) → Each Q us (lead ts)
  unfolding Each lead
  each_lead [] us = tt
  each_lead (t ∷ ts) us = go (trivia t) (each_lead ts (drop 1 us))
    where
      go : (b : Bool) → Each Q (drop 1 us) (lead ts) → Each Q us (cond b (leaf t.kind (t ∷ []) (lead ts)) nil)
      go true h = h
      go false h = tt

  pub each_front : (ts us : List Token) → Each Q us (front ts)
  unfolding Each front
  each_front [] us = tt
  each_front (t ∷ ts) us = tt

  -- ---------------------------------------------------------------- placed

  pub place_then : (p : Skeleton) (g : Tree) (ts : List Token) → Each Q ts (place p ts) → Each Q (after p ts) g → Each Q ts (place p ts ⊕ g)
  place_then p g ts h i = each_then (place p ts) g ts (after p ts) (place_whole p ts) h i

  both_whole : (a i : Skeleton) (u : List Token) → leaves (place a u ⊕ place i (after a u)) ++ after i (after a u) ≡ u
  both_whole a i u =
      ap (◌++ after i (after a u)) (leaves_beside (place a u) (place i (after a u)))
      ∙ append_assoc (leaves (place a u)) (leaves (place i (after a u))) (after i (after a u))
      ∙ ap (leaves (place a u) ++◌) (place_whole i (after a u))
      ∙ place_whole a u

  -- a node, its children and what follows it
  pub each_branch : (k : ℕ) (a i : Skeleton) (g : Tree) (ts : List Token)
      → (k ≡ N.DtExpr → Q (drop_trivia ts) (place a (drop_trivia ts) ⊕ place i (after a (drop_trivia ts))))
      → Each Q (drop_trivia ts) (place a (drop_trivia ts)) → Each Q (after a (drop_trivia ts)) (place i (after a (drop_trivia ts)))
      → Each Q (after i (after a (drop_trivia ts))) g
      → Each Q ts (lead ts ⊕ subtree k (place a (drop_trivia ts) ⊕ place i (after a (drop_trivia ts))) nil ⊕ g)
  unfolding Each ◌⊕◌
  each_branch k a i g ts q x y z =
      let u = drop_trivia ts in
      let c = place a u ⊕ place i (after a u) in
      let w : drop (length (leaves c)) u ≡ after i (after a u) =
      ap (drop (length (leaves c))) (sym (both_whole a i u)) ∙ drop-append_seam (leaves c) (after i (after a u)) in
      each_then (lead ts) (subtree k c g) ts u (lead_whole ts) (each_lead ts ts)
      (q, place_then a (place i (after a u)) u x y, subst (λ (l : List Token). Each Q l g) (sym w) z)
