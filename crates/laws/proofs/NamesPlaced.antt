-- `judged` of the definitions finds the Names in the tree; here it is shown that they are those of the skeleton that
-- the tree is placed from.
use Prim.Native.Nat.{ℕ, ◌+◌, ◌-◌, ◌≤◌}
use native.Mathlib.Omega.{arith}
use mathlib.Core.Path.{◌≡◌, refl, ap, sym, ◌∙◌, subst}
use mathlib.Core.Bool.{Bool, true, false, cond, ◌&&◌, ◌||◌}
use mathlib.Core.List.{List, [], ◌∷◌, ◌++◌, append_assoc}
use lib.Dec.{eqb}
use lib.ListN.{length, take, drop, length-append, take-append-drop}
use borrow.Author.Tests.{eqb-true}
use Rattle.definitions.specs.TokenKind as K
use Rattle.definitions.specs.RowCauses.{is_kind}
use Rattle.definitions.specs.Token.{Token, is_error, seen, is_trivia, trivia, drop_trivia, byte_count, past}
use Rattle.definitions.specs.Skeleton.{Skeleton, done, token, name, node, ignored, report, over}
use Rattle.definitions.specs.Place.{Tree, nil, leaf, subtree, ◌⊕◌, lead, front, after, place, root, width}
use Rattle.definitions.specs.Strict.{NameAt, has_lcurly, judges, token_count, judged}
use Rattle.laws.proofs.Skeleton.{bytes_append}
use Rattle.laws.proofs.Tree.{leaves, leaves_beside, width_leaves, tokens_leaves}
use Rattle.laws.proofs.Placed.{lead_whole, front_whole, place_whole}
use Rattle.laws.proofs.Leaves.{or_cases}
use Rattle.laws.proofs.Input.{AllGood}
use Rattle.laws.proofs.NamesFound.{Back, forward, forwards, forwards_append, first_curly, curly, under, back, found}

-- ---------------------------------------------------------------- LCurlys in the tree

or_assoc : (a b c : Bool) → ((a || b) || c) ≡ (a || (b || c))
or_assoc true b c = refl
or_assoc false b c = refl

-- an LCurly among trees side by side
lcurly_beside : (f g : Tree) → has_lcurly (f ⊕ g) ≡ (has_lcurly f || has_lcurly g)
unfolding has_lcurly ◌⊕◌
lcurly_beside nil g = refl
lcurly_beside (leaf k ts f) g = ap (eqb k K.LCurly ||◌) (lcurly_beside f g) ∙ sym (or_assoc (eqb k K.LCurly) _ _)
lcurly_beside (subtree k c f) g = lcurly_beside f g

-- trivia are no leaves of another kind
trivia_other : (k x : ℕ) → eqb K.Whitespace x ≡ false → eqb K.LineComment x ≡ false → eqb K.BlockComment x ≡ false
    → is_trivia k ≡ true → eqb k x ≡ false
trivia_other k x w l b h =
    or_cases (eqb k K.Whitespace || eqb k K.LineComment) (eqb k K.BlockComment) h
    (λ g. or_cases (eqb k K.Whitespace) (eqb k K.LineComment) g (λ e. being K.Whitespace e w) (λ e. being K.LineComment e l))
    (λ e. being K.BlockComment e b)
  where
    being : (y : ℕ) → eqb k y ≡ true → eqb y x ≡ false → eqb k x ≡ false
    being y e f = ap (λ z. eqb z x) (eqb-true k y e) ∙ f

lead_curly : (ts : List Token) → has_lcurly (lead ts) ≡ false
unfolding lead has_lcurly trivia
lead_curly [] = refl
lead_curly (t ∷ ts) = go (is_trivia t.kind) refl (lead_curly ts)
  where
    go : (b : Bool) → is_trivia t.kind ≡ b → has_lcurly (lead ts) ≡ false → has_lcurly (cond b (leaf t.kind (t ∷ []) (lead ts)) nil) ≡ false
    go true e h = rw (trivia_other t.kind K.LCurly refl refl refl e, h) refl
    go false e h = refl

front_curly : (ts : List Token) → has_lcurly (front ts) ≡ first_curly ts
unfolding front has_lcurly
front_curly [] = refl
front_curly (t ∷ ts) = go (eqb (seen t) K.LCurly)
  where
    go : (b : Bool) → (b || false) ≡ b
    go true = refl
    go false = refl

after_lead : (ts : List Token) (f : Tree) → has_lcurly (lead ts ⊕ f) ≡ has_lcurly f
after_lead ts f = lcurly_beside (lead ts) f ∙ ap (◌|| has_lcurly f) (lead_curly ts)

pub place_curly : (o : Skeleton) (ts : List Token) → has_lcurly (place o ts) ≡ curly o ts
unfolding place curly has_lcurly ◌⊕◌
place_curly done ts = refl
place_curly (token t m o) ts =
    after_lead ts _ ∙ lcurly_beside (front (drop_trivia ts)) _
    ∙ ap (◌|| has_lcurly (place o (past (drop_trivia ts)))) (front_curly (drop_trivia ts))
    ∙ ap (first_curly (drop_trivia ts) ||◌) (place_curly o (past (drop_trivia ts)))
place_curly (name raw m o) ts = after_lead ts _ ∙ place_curly o (drop (length raw) (drop_trivia ts))
place_curly (node k m m' a i o) ts = after_lead ts _ ∙ place_curly o (after i (after a (drop_trivia ts)))
place_curly (ignored m m' a i o) ts =
    lcurly_beside (place a ts) _
    ∙ ap (has_lcurly (place a ts) ||◌) (lcurly_beside (place i (after a ts)) _)
    ∙ rw (place_curly a ts, place_curly i (after a ts), place_curly o (after i (after a ts))) refl
place_curly (report r o) ts = place_curly o ts
place_curly (over m o) ts = place_curly o ts

-- a node's children are those before it and those inside
pub children_curly : (a i : Skeleton) (ts : List Token) → has_lcurly (place a ts ⊕ place i (after a ts)) ≡ (curly a ts || curly i (after a ts))
children_curly a i ts = lcurly_beside (place a ts) (place i (after a ts)) ∙ rw (place_curly a ts, place_curly i (after a ts)) refl

-- ---------------------------------------------------------------- the Names of the tree

pub judged_beside : (u : Bool) (at byte : ℕ) (f g : Tree) → judged u at byte (f ⊕ g) ≡ judged u at byte f ++ judged u (at + token_count f) (byte + width f) g
unfolding judged ◌⊕◌ token_count width
judged_beside u at byte nil g = let p : at + 0 ≡ at = omega arith in let q : byte + 0 ≡ byte = omega arith in rw (p, q) refl
judged_beside u at byte (leaf k ts f) g = go (u && eqb k K.Name) (judged_beside u (at + length ts) (byte + byte_count ts) f g)
  where
    x : NameAt
    x = record { first_token = at; start = byte; end = byte + byte_count ts }

    p : at + (length ts + token_count f) ≡ at + length ts + token_count f
    p = omega arith

    q : byte + (byte_count ts + width f) ≡ byte + byte_count ts + width f
    q = omega arith

    more : List NameAt
    more = judged u (at + length ts) (byte + byte_count ts) f

    last : List NameAt
    last = judged u (at + length ts + token_count f) (byte + byte_count ts + width f) g

    go : (b : Bool) → judged u (at + length ts) (byte + byte_count ts) (f ⊕ g) ≡ more ++ last
        → cond b (x ∷ judged u (at + length ts) (byte + byte_count ts) (f ⊕ g)) (judged u (at + length ts) (byte + byte_count ts) (f ⊕ g))
        ≡ cond b (x ∷ more) more ++ judged u (at + (length ts + token_count f)) (byte + (byte_count ts + width f)) g
    go true e = rw (p, q) (ap (x ∷◌) e)
    go false e = rw (p, q) e
judged_beside u at byte (subtree k c f) g =
    let p : at + (token_count c + token_count f) ≡ at + token_count c + token_count f = omega arith in
    let q : byte + (width c + width f) ≡ byte + width c + width f = omega arith in
    ap (judged (judges k c) at byte c ++◌) (judged_beside u (at + token_count c) (byte + width c) f g)
    ∙ sym (append_assoc (judged (judges k c) at byte c) (judged u (at + token_count c) (byte + width c) f) _)
    ∙ rw (p, q) refl

-- no token is a Name: the parser makes those
abbrev pub Unnamed : List Token → Type 0
Unnamed [] = Unit {0}
Unnamed (t ∷ ts) = (eqb (seen t) K.Name ≡ false) × Unnamed ts

-- the checks of rows let no other tokens through
input_unnamed : (t : Token) (b : Bool) → is_error t.kind ≡ b → (c : Bool) → eqb t.kind K.Name ≡ c → is_kind t.kind ≡ true → eqb (seen t) K.Name ≡ false
unfolding seen is_kind
input_unnamed t true e c f g = ap (λ (q : Bool). eqb (cond q K.Unrecognized t.kind) K.Name) e
input_unnamed t false e false f g = ap (λ (q : Bool). eqb (cond q K.Unrecognized t.kind) K.Name) e ∙ f
input_unnamed t false e true f g =
    let x : ◌≡◌ {A = ℕ} 1 0 = ap (λ (q : Bool). cond q 1 0) (sym g ∙ ap is_kind (eqb-true t.kind K.Name f)) in
    absurd (omega arith)

pub unnamed_input : (ts : List Token) → AllGood ts → Unnamed ts
unnamed_input [] h = tt
unnamed_input (t ∷ ts) h = (input_unnamed t _ refl _ refl h.0.kind, unnamed_input ts h.1)

unnamed_back : (l m : List Token) → Unnamed (l ++ m) → Unnamed m
unnamed_back [] m h = h
unnamed_back (t ∷ l) m h = unnamed_back l m h.1

lead_judged : (u : Bool) (at byte : ℕ) (ts : List Token) → judged u at byte (lead ts) ≡ []
unfolding lead judged trivia
lead_judged u at byte [] = refl
lead_judged u at byte (t ∷ ts) = go (is_trivia t.kind) refl (lead_judged u (at + 1) (byte + byte_count (t ∷ [])) ts)
  where
    and_false : (b : Bool) → (b && false) ≡ false
    and_false true = refl
    and_false false = refl

    go : (b : Bool) → is_trivia t.kind ≡ b → judged u (at + 1) (byte + byte_count (t ∷ [])) (lead ts) ≡ []
        → judged u at byte (cond b (leaf t.kind (t ∷ []) (lead ts)) nil) ≡ []
    go true e h = rw (trivia_other t.kind K.Name refl refl refl e, and_false u) h
    go false e h = refl

front_judged : (u : Bool) (at byte : ℕ) (ts : List Token) → Unnamed ts → judged u at byte (front ts) ≡ []
unfolding front judged
front_judged u at byte [] h = refl
front_judged u at byte (t ∷ ts) h = rw h.0 (go u)
  where
    x : NameAt
    x = record { first_token = at; start = byte; end = byte + byte_count (t ∷ []) }

    go : (c : Bool) → cond (c && false) (x ∷ []) [] ≡ []
    go true = refl
    go false = refl

-- in a file of n tokens and b bytes: some of its tokens, up to its end
module _ (n b : ℕ) where
  pub record Within (ts : List Token) : Type 0 where
    pub tokens : length ts ≤ n
    pub bytes : byte_count ts ≤ b
    pub unnamed : Unnamed ts

  pub within_back : (l m ts : List Token) → l ++ m ≡ ts → Within ts → Within m
  within_back l m ts e h =
      let p : length ts ≡ length l + length m = ap length (sym e) ∙ length-append l m in
      let q : byte_count ts ≡ byte_count l + byte_count m = ap byte_count (sym e) ∙ bytes_append l m in
      record { tokens = omega (arith, h.tokens); bytes = omega (arith, h.bytes); unnamed = unnamed_back l m (subst Unnamed (sym e) h.unnamed) }

  -- the Names of trees that stand where these tokens start
  abbrev pub judged_at : Bool → List Token → Tree → List NameAt
  judged_at u ts f = judged u (n - length ts) (b - byte_count ts) f

  judged_then : (u : Bool) (f g : Tree) (ts us : List Token) → Within ts → leaves f ++ us ≡ ts → judged_at u ts (f ⊕ g) ≡ judged_at u ts f ++ judged_at u us g
  judged_then u f g ts us h e =
      let p : length ts ≡ length (leaves f) + length us = ap length (sym e) ∙ length-append (leaves f) us in
      let q : byte_count ts ≡ byte_count (leaves f) + byte_count us = ap byte_count (sym e) ∙ bytes_append (leaves f) us in
      let x : n - length ts + token_count f ≡ n - length us = omega (arith, tokens_leaves f, h.tokens) in
      let y : b - byte_count ts + width f ≡ b - byte_count us = omega (arith, width_leaves f, h.bytes) in
      judged_beside u (n - length ts) (b - byte_count ts) f g ∙ rw (x, y) refl

  -- trivia first
  judged_past : (u : Bool) (g : Tree) (ts : List Token) → Within ts → judged_at u ts (lead ts ⊕ g) ≡ judged_at u (drop_trivia ts) g
  judged_past u g ts h = judged_then u (lead ts) g ts (drop_trivia ts) h (lead_whole ts) ∙ ap (◌++ judged_at u (drop_trivia ts) g) (lead_judged u _ _ ts)

  -- a Name leaf
  judged_name : (u : Bool) (r : ℕ) (g : Tree) (ts : List Token) → Within ts
      → judged_at u ts (leaf K.Name (take r ts) g) ≡ cond u (forward n b (back ts (drop r ts)) ∷ judged_at u (drop r ts) g) (judged_at u (drop r ts) g)
  unfolding judged
  judged_name u r g ts h =
      let e : take r ts ++ drop r ts ≡ ts = take-append-drop r ts in
      let p : length ts ≡ length (take r ts) + length (drop r ts) = ap length (sym e) ∙ length-append (take r ts) (drop r ts) in
      let q : byte_count ts ≡ byte_count (take r ts) + byte_count (drop r ts) = ap byte_count (sym e) ∙ bytes_append (take r ts) (drop r ts) in
      let x : n - length ts + length (take r ts) ≡ n - length (drop r ts) = omega (arith, h.tokens) in
      let y : b - byte_count ts + byte_count (take r ts) ≡ b - byte_count (drop r ts) = omega (arith, h.bytes) in
      rw (x, y) (go u)
    where
      go : (c : Bool) → cond (c && true) (forward n b (back ts (drop r ts)) ∷ judged_at u (drop r ts) g) (judged_at u (drop r ts) g)
          ≡ cond c (forward n b (back ts (drop r ts)) ∷ judged_at u (drop r ts) g) (judged_at u (drop r ts) g)
      go true = refl
      go false = refl

  -- THE JUDGED NAMES of what is placed are those of the skeleton
  pub judged_found : (u : Bool) (o : Skeleton) (ts : List Token) → Within ts → judged_at u ts (place o ts) ≡ forwards n b (found u o ts)
  unfolding place found forwards judged after judges ◌⊕◌
  judged_found u done ts h = refl
  judged_found u (token t m o) ts h =
      let v : List Token = drop_trivia ts in
      let hv : Within v = within_back (leaves (lead ts)) v ts (lead_whole ts) h in
      let hp : Within (past v) = within_back (leaves (front v)) (past v) v (front_whole v) hv in
      judged_past u (front v ⊕ place o (past v)) ts h
      ∙ judged_then u (front v) (place o (past v)) v (past v) hv (front_whole v)
      ∙ ap (◌++ judged_at u (past v) (place o (past v))) (front_judged u _ _ v hv.unnamed)
      ∙ judged_found u o (past v) hp
  judged_found u (name raw m o) ts h =
      let v : List Token = drop_trivia ts in
      let hv : Within v = within_back (leaves (lead ts)) v ts (lead_whole ts) h in
      let w : List Token = drop (length raw) v in
      let hw : Within w = within_back (take (length raw) v) w v (take-append-drop (length raw) v) hv in
      judged_past u (leaf K.Name (take (length raw) v) (place o w)) ts h
      ∙ judged_name u (length raw) (place o w) v hv
      ∙ ap (λ (l : List NameAt). cond u (forward n b (back v w) ∷ l) l) (judged_found u o w hw)
      ∙ go u (found u o w) (back v w)
    where
      go : (c : Bool) (l : List Back) (x : Back) → cond c (forward n b x ∷ forwards n b l) (forwards n b l) ≡ forwards n b (cond c (x ∷ l) l)
      go true l x = refl
      go false l x = refl
  judged_found u (node k m m' a i o) ts h =
      let w : List Token = drop_trivia ts in
      let hw : Within w = within_back (leaves (lead ts)) w ts (lead_whole ts) h in
      let v : List Token = after a w in
      let hv : Within v = within_back (leaves (place a w)) v w (place_whole a w) hw in
      let x : List Token = after i v in
      let hx : Within x = within_back (leaves (place i v)) x v (place_whole i v) hv in
      let below : Bool = under k (curly a w || curly i v) in
      let c : Tree = place a w ⊕ place i v in
      let same : judges k c ≡ below = ap (under k) (children_curly a i w) in
      let whole : leaves c ++ x ≡ w = ap (◌++ x) (leaves_beside (place a w) (place i v)) ∙ append_assoc (leaves (place a w)) (leaves (place i v)) x
      ∙ ap (leaves (place a w) ++◌) (place_whole i v) ∙ place_whole a w in
      let inside : judged_at (judges k c) w c ≡ forwards n b (found below a w ++ found below i v) =
      ap (λ (q : Bool). judged_at q w c) same
      ∙ judged_then below (place a w) (place i v) w v hw (place_whole a w)
      ∙ rw (judged_found below a w hw, judged_found below i v hv) (sym (forwards_append n b (found below a w) (found below i v))) in
      judged_past u (subtree k c (place o x)) ts h
      ∙ judged_node u k c (place o x) w x hw whole
      ∙ rw (inside, judged_found u o x hx)
      (sym (forwards_append n b (found below a w ++ found below i v) (found u o x)) ∙ ap (forwards n b) (append_assoc (found below a w) (found below i v) (found u o x)))
    where
      judged_node : (q : Bool) (j : ℕ) (c g : Tree) (vs us : List Token) → Within vs → leaves c ++ us ≡ vs
          → judged_at q vs (subtree j c g) ≡ judged_at (judges j c) vs c ++ judged_at q us g
      judged_node q j c g vs us hv e =
          let p : length vs ≡ length (leaves c) + length us = ap length (sym e) ∙ length-append (leaves c) us in
          let r : byte_count vs ≡ byte_count (leaves c) + byte_count us = ap byte_count (sym e) ∙ bytes_append (leaves c) us in
          let x : n - length vs + token_count c ≡ n - length us = omega (arith, tokens_leaves c, hv.tokens) in
          let y : b - byte_count vs + width c ≡ b - byte_count us = omega (arith, width_leaves c, hv.bytes) in
          rw (x, y) refl
  judged_found u (ignored m m' a i o) ts h =
      let v : List Token = after a ts in
      let hv : Within v = within_back (leaves (place a ts)) v ts (place_whole a ts) h in
      let x : List Token = after i v in
      let hx : Within x = within_back (leaves (place i v)) x v (place_whole i v) hv in
      judged_then u (place a ts) (place i v ⊕ place o x) ts v h (place_whole a ts)
      ∙ ap (judged_at u ts (place a ts) ++◌) (judged_then u (place i v) (place o x) v x hv (place_whole i v))
      ∙ rw (judged_found u a ts h, judged_found u i v hv, judged_found u o x hx)
      (ap (forwards n b (found u a ts) ++◌) (sym (forwards_append n b (found u i v) (found u o x))) ∙ sym (forwards_append n b (found u a ts) (found u i v ++ found u o x)))
  judged_found u (report r o) ts h = judged_found u o ts h
  judged_found u (over m o) ts h = judged_found u o ts h

-- and of a whole tree: its root is one of the nodes
pub root_found : (k : ℕ) (o : Skeleton) (ts : List Token) → Unnamed ts
    → judged false 0 0 (root k o ts) ≡ forwards (length ts) (byte_count ts) (found (under k (curly o ts)) o ts)
unfolding root judged judges
root_found k o ts h =
    let z : length ts - length ts ≡ 0 = omega arith in
    let y : byte_count ts - byte_count ts ≡ 0 = omega arith in
    let w : Within (length ts) (byte_count ts) ts = record { tokens = omega arith; bytes = omega arith; unnamed = h } in
    let f : Tree = place o ts in
    let g : Tree = lead (after o ts) in
    let c : has_lcurly (f ⊕ g) ≡ curly o ts = lcurly_beside f g ∙ rw (place_curly o ts, lead_curly (after o ts)) (or_false (curly o ts)) in
    let u : Bool = under k (curly o ts) in
    append_none (judged (judges k (f ⊕ g)) 0 0 (f ⊕ g))
    ∙ ap (λ (q : Bool). judged q 0 0 (f ⊕ g)) (ap (under k) c)
    ∙ judged_beside u 0 0 f g
    ∙ ap (judged u 0 0 f ++◌) (lead_judged u _ _ (after o ts))
    ∙ append_none (judged u 0 0 f)
    ∙ ap (λ (q : ℕ). judged u q 0 f) (sym z)
    ∙ ap (λ (q : ℕ). judged u (length ts - length ts) q f) (sym y)
    ∙ judged_found (length ts) (byte_count ts) u o ts w
  where
    or_false : (a : Bool) → (a || false) ≡ a
    or_false true = refl
    or_false false = refl

    append_none : (l : List NameAt) → l ++ [] ≡ l
    append_none [] = refl
    append_none (x ∷ l) = ap (x ∷◌) (append_none l)
