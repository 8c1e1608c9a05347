-- The Names that document 02, 1/14 judges, read off a skeleton and counted from the end of the file, so that code that
-- follows a run's events can be held to them. Trivia that stand first change none of them.
use Prim.Native.Nat.{ℕ, ◌-◌}
use mathlib.Core.Path.{◌≡◌, refl, ap}
use mathlib.Core.Bool.{Bool, false, cond, not, ◌&&◌, ◌||◌}
use mathlib.Core.List.{List, [], ◌∷◌, ◌++◌}
use lib.Dec.{eqb}
use lib.ListN.{length, drop}
use Rattle.definitions.specs.TokenKind as K
use Rattle.definitions.specs.NodeKind as N
use Rattle.definitions.specs.Token.{Token, seen, drop_trivia, byte_count, past}
use Rattle.definitions.specs.Skeleton.{Skeleton, done, token, name, node, ignored, report, over}
use Rattle.definitions.specs.Place.{after}
use Rattle.definitions.specs.Strict.{NameAt}

-- ---------------------------------------------------------------- a Name counted from the end

-- the tokens from its first on, the bytes from its first on, and the bytes after it
pub record Back : Type 0 where
  pub tokens_left : ℕ
  pub bytes_left : ℕ
  pub bytes_after : ℕ

-- in a file of n tokens and b bytes
abbrev pub forward : ℕ → ℕ → Back → NameAt
forward n b x = record { first_token = n - x.tokens_left; start = b - x.bytes_left; end = b - x.bytes_after }

unfoldable pub forwards : ℕ → ℕ → List Back → List NameAt
forwards n b [] = []
forwards n b (x ∷ l) = forward n b x ∷ forwards n b l

pub forwards_append : (n b : ℕ) (l m : List Back) → forwards n b (l ++ m) ≡ forwards n b l ++ forwards n b m
unfolding forwards
forwards_append n b [] m = refl
forwards_append n b (x ∷ l) m = ap (forward n b x ∷◌) (forwards_append n b l m)

-- ---------------------------------------------------------------- what a skeleton holds

abbrev pub first_curly : List Token → Bool
first_curly [] = false
first_curly (t ∷ ts) = eqb (seen t) K.LCurly

-- whether an LCurly is made outside the nodes
unfoldable pub curly : Skeleton → List Token → Bool
unfolding seen drop_trivia after
curly done ts = false
curly (token t m o) ts = first_curly (drop_trivia ts) || curly o (past (drop_trivia ts))
curly (name raw m o) ts = curly o (drop (length raw) (drop_trivia ts))
curly (node k m m' a i o) ts = curly o (after i (after a (drop_trivia ts)))
curly (ignored m m' a i o) ts = curly a ts || (curly i (after a ts) || curly o (after i (after a ts)))
curly (report r o) ts = curly o ts
curly (over m o) ts = curly o ts

-- a DtLabel, or a DtPhandle without an LCurly
abbrev pub under : ℕ → Bool → Bool
under k c = eqb k N.DtLabel || (eqb k N.DtPhandle && not c)

abbrev pub back : List Token → List Token → Back
back ts us = record { tokens_left = length ts; bytes_left = byte_count ts; bytes_after = byte_count us }

-- the Names directly under such a node; u: what is made stands directly under one
unfoldable pub found : Bool → Skeleton → List Token → List Back
unfolding drop_trivia after byte_count curly
found u done ts = []
found u (token t m o) ts = found u o (past (drop_trivia ts))
found u (name raw m o) ts =
    let v = drop_trivia ts in
    let more = found u o (drop (length raw) v) in
    cond u (back v (drop (length raw) v) ∷ more) more
found u (node k m m' a i o) ts =
    let w = drop_trivia ts in
    let v = after a w in
    let below = under k (curly a w || curly i v) in
    found below a w ++ (found below i v ++ found u o (after i v))
found u (ignored m m' a i o) ts =
    let v = after a ts in
    found u a ts ++ (found u i v ++ found u o (after i v))
found u (report r o) ts = found u o ts
found u (over m o) ts = found u o ts

-- ---------------------------------------------------------------- trivia that stand first change nothing

pub after_same : (o : Skeleton) (ts us : List Token) → drop_trivia ts ≡ drop_trivia us → drop_trivia (after o ts) ≡ drop_trivia (after o us)
unfolding after
after_same done ts us e = e
after_same (token t m o) ts us e = ap (λ (l : List Token). drop_trivia (after o (past l))) e
after_same (name raw m o) ts us e = ap (λ (l : List Token). drop_trivia (after o (drop (length raw) l))) e
after_same (node k m m' a i o) ts us e = ap (λ (l : List Token). drop_trivia (after o (after i (after a l)))) e
after_same (ignored m m' a i o) ts us e = after_same o _ _ (after_same i _ _ (after_same a ts us e))
after_same (report r o) ts us e = after_same o ts us e
after_same (over m o) ts us e = after_same o ts us e

pub curly_same : (o : Skeleton) (ts us : List Token) → drop_trivia ts ≡ drop_trivia us → curly o ts ≡ curly o us
unfolding curly
curly_same done ts us e = refl
curly_same (token t m o) ts us e = ap (λ (l : List Token). first_curly l || curly o (past l)) e
curly_same (name raw m o) ts us e = ap (λ (l : List Token). curly o (drop (length raw) l)) e
curly_same (node k m m' a i o) ts us e = ap (λ (l : List Token). curly o (after i (after a l))) e
curly_same (ignored m m' a i o) ts us e =
    let f : drop_trivia (after a ts) ≡ drop_trivia (after a us) = after_same a ts us e in
    let g : drop_trivia (after i (after a ts)) ≡ drop_trivia (after i (after a us)) = after_same i _ _ f in
    rw (curly_same a ts us e, curly_same i (after a ts) (after a us) f, curly_same o (after i (after a ts)) (after i (after a us)) g) refl
curly_same (report r o) ts us e = curly_same o ts us e
curly_same (over m o) ts us e = curly_same o ts us e

pub found_same : (u : Bool) (o : Skeleton) (ts us : List Token) → drop_trivia ts ≡ drop_trivia us → found u o ts ≡ found u o us
unfolding found
found_same u done ts us e = refl
found_same u (token t m o) ts us e = ap (λ (l : List Token). found u o (past l)) e
found_same u (name raw m o) ts us e =
    ap (λ (l : List Token). cond u (back l (drop (length raw) l) ∷ found u o (drop (length raw) l)) (found u o (drop (length raw) l))) e
found_same u (node k m m' a i o) ts us e =
    ap
    (λ (w : List Token). found (under k (curly a w || curly i (after a w))) a w
    ++ (found (under k (curly a w || curly i (after a w))) i (after a w) ++ found u o (after i (after a w))))
    e
found_same u (ignored m m' a i o) ts us e =
    let f : drop_trivia (after a ts) ≡ drop_trivia (after a us) = after_same a ts us e in
    let g : drop_trivia (after i (after a ts)) ≡ drop_trivia (after i (after a us)) = after_same i _ _ f in
    rw (found_same u a ts us e, found_same u i (after a ts) (after a us) f, found_same u o (after i (after a ts)) (after i (after a us)) g) refl
found_same u (report r o) ts us e = found_same u o ts us e
found_same u (over m o) ts us e = found_same u o ts us e
