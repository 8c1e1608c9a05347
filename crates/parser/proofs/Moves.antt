-- What each step of the literal machine comes to: expectations, the cursor's moves, tests, tokens and names taken.
use Rattle.std.proofs.Common.{ℕ, ◌+◌, ◌-◌, ◌/◌, ◌≤◌, ◌<◌, ◌≡◌, refl, sym, ◌∙◌, ap, Bool, true, false, cond, not, ◌||◌, le_refl, List, [], ◌∷◌, length, drop, eqb, ltb, leb}
use Rattle.std.specs.List.{list_any}
use Rattle.std.proofs.lemmas.Bool.{lt-ltb, lt-leb, le-ltb, le-leb, eq-eqb, ne_eqb}
use Rattle.basics.proofs.Tests.{eqb_swap}
use native.Mathlib.Omega.{arith}
use Rattle.basics.specs.Word.{low}
use Rattle.definitions.specs.Layout.{TOKEN_ROW, ADD_TOKEN, ADD_COMBINED_TOKEN, KIND_CODES, FIRST_OTHER, OTHER_CODES}
use Rattle.definitions.specs.Token.{Token, tokens_of, ended, one_of, first_in, seen, past}
use Rattle.definitions.specs.Skeleton.{Span}
use Rattle.definitions.specs.Prog.{yes, Act, act, silent_at, at_end, bump, bump_name, immediate_next}
use Rattle.definitions.specs.Run.{truth}
use Rattle.machine.specs.Machine.{Machine, Pending, with_taken, took, range_at, expect_kind, expect_other}
use Rattle.machine.specs.Machine as M
use Rattle.machine.specs.Walk.{Walked, said, perform}
use Rattle.basics.proofs.TokenRows.{token_at, tokens_cons, tokens_end}
use Rattle.token_rows.proofs.Seen.{end_row, one_of_one}
use Rattle.parser.specs.View.{view, toks, rest, tokens_left, take_first, Same, Becomes, Walks}
use Rattle.parser.specs.declared.Parser.{Parser}
use Rattle.parser.proofs.Ways.{acts, same_self, same_then, same_toks}

-- ---------------------------------------------------------------- membership

-- what `contains` answers
pub any_one_of : (ks : List ℕ) (k : ℕ) → list_any (λ (x : ℕ). eqb x k) ks ≡ one_of ks k
unfolding one_of
any_one_of [] k = refl
any_one_of (x ∷ ks) k = ap (λ (b : Bool). eqb x k || b) (any_one_of ks k) ∙ first (eqb x k) (one_of ks k)
  where
    first : (b c : Bool) → (b || c) ≡ cond b true c
    first true c = refl
    first false c = refl

-- the first of two kinds, and the second
pub first_is : (a d k : ℕ) → k ≡ a → eqb k a ≡ one_of (a ∷ d ∷ []) k
unfolding one_of
first_is a d k e = eq-eqb k a e ∙ sym (ap (λ (b : Bool). cond b true (one_of (d ∷ []) k)) (eq-eqb a k (sym e)))

pub second_is : (a d k : ℕ) → (k ≡ a → ⊥) → eqb k d ≡ one_of (a ∷ d ∷ []) k
unfolding one_of
second_is a d k e = eqb_swap k d ∙ sym (one_of_one d k) ∙ sym (ap (λ (b : Bool). cond b true (one_of (d ∷ []) k)) (ne_eqb a k (λ f. e (sym f))))

-- ---------------------------------------------------------------- expectations

-- which of them a code is
module _ (k : ℕ) (x : Pending) where
  abbrev other : Pending
  other = cond (ltb k (FIRST_OTHER + OTHER_CODES)) (expect_other k x) x

  abbrev else : Pending
  else = cond (leb FIRST_OTHER k) other x

  pub adds_kind : k < KIND_CODES → expect_kind k x ≡ M.expect k x
  unfolding M.expect
  adds_kind h = sym (ap (λ (c : Bool). cond c (expect_kind k x) else) (lt-ltb k KIND_CODES h))

  pub adds_other : KIND_CODES ≤ k → FIRST_OTHER ≤ k → k < FIRST_OTHER + OTHER_CODES → expect_other k x ≡ M.expect k x
  unfolding M.expect
  adds_other h i j =
      sym
      (ap (λ (c : Bool). cond c (expect_kind k x) else) (le-ltb k KIND_CODES h)
      ∙ ap (λ (c : Bool). cond c other x) (le-leb FIRST_OTHER k i)
      ∙ ap (λ (c : Bool). cond c (expect_other k x) x) (lt-ltb k (FIRST_OTHER + OTHER_CODES) j))

  -- no expectation
  pub adds_none : KIND_CODES ≤ k → k < FIRST_OTHER → x ≡ M.expect k x
  unfolding M.expect
  adds_none h i =
      sym (ap (λ (c : Bool). cond c (expect_kind k x) else) (le-ltb k KIND_CODES h) ∙ ap (λ (c : Bool). cond c other x) (lt-leb FIRST_OTHER k i))

  pub adds_past : KIND_CODES ≤ k → FIRST_OTHER ≤ k → FIRST_OTHER + OTHER_CODES ≤ k → x ≡ M.expect k x
  unfolding M.expect
  adds_past h i j =
      sym
      (ap (λ (c : Bool). cond c (expect_kind k x) else) (le-ltb k KIND_CODES h)
      ∙ ap (λ (c : Bool). cond c other x) (le-leb FIRST_OTHER k i)
      ∙ ap (λ (c : Bool). cond c (expect_other k x) x) (le-ltb k (FIRST_OTHER + OTHER_CODES) j))

-- ---------------------------------------------------------------- the cursor

pub range_rows : (l : List Token) (m : Machine) (e : ℕ) → e ≡ (range_at l m).to → record { from = m.byte; to = e } ≡ range_at l m
unfolding range_at
range_rows [] m e f = ap (λ (x : ℕ). record { from = m.byte; to = x }) f
range_rows (t ∷ l) m e f = ap (λ (x : ℕ). record { from = m.byte; to = x }) f

ended_in : (tokens : List ℕ) (i : ℕ) → i < length tokens / TOKEN_ROW → false ≡ ended (drop i (tokens_of tokens))
ended_in tokens i h = sym (ap ended (tokens_cons tokens i h))

ended_past : (tokens : List ℕ) (i : ℕ) → length tokens / TOKEN_ROW ≤ i → true ≡ ended (drop i (tokens_of tokens))
ended_past tokens i h = sym (ap ended (tokens_end tokens i h))

-- what is left tells whether there is a token
pub some_left : (p : Parser) → 0 < tokens_left p → p.cursor.0 < length p.tokens.now / TOKEN_ROW
unfolding tokens_left
some_left p h = omega (arith, h)

pub none_left : (p : Parser) → tokens_left p ≡ 0 → length p.tokens.now / TOKEN_ROW ≤ p.cursor.0
unfolding tokens_left
none_left p h = omega (arith, h)

pub in_rows : (p : Parser) → p.cursor.0 < length p.tokens.now / TOKEN_ROW → 0 < tokens_left p
unfolding tokens_left
in_rows p h = omega (arith, h)

pub ended_rest : (p : Parser) (b : Bool) → (b ≡ true → 0 < tokens_left p) → (b ≡ false → tokens_left p ≡ 0) → not b ≡ ended (rest p)
ended_rest p true f g = ended_in p.tokens.now p.cursor.0 (some_left p (f refl))
ended_rest p false f g = ended_past p.tokens.now p.cursor.0 (none_left p (g refl))

-- the row at the cursor taken; e: its end
pub took_row : (tokens : List ℕ) (e : ℕ) (m : Machine) → m.cursor < length tokens / TOKEN_ROW
    → ((x : Machine) → x.byte ≡ m.byte → e ≡ (range_at (drop m.cursor (tokens_of tokens)) x).to)
    → with_taken (m.cursor + 1) e m ≡ take_first (drop m.cursor (tokens_of tokens)) m
unfolding take_first
took_row tokens e m h g =
    ap (λ (x : ℕ). with_taken (m.cursor + 1) x m) (end_row tokens m.cursor m.byte e h g m refl) ∙ sym (ap (λ (l : List Token). take_first l m) (tokens_cons tokens m.cursor h))

pub took_nothing : (tokens : List ℕ) (m : Machine) → length tokens / TOKEN_ROW ≤ m.cursor → m ≡ take_first (drop m.cursor (tokens_of tokens)) m
unfolding take_first
took_nothing tokens m h = sym (ap (λ (l : List Token). take_first l m) (tokens_end tokens m.cursor h))

-- ---------------------------------------------------------------- tests

silent_is : (ts : List Token) (b : Span) (ks : List ℕ) (m p : Machine) (y : Bool) → p ≡ M.peek ts m → y ≡ first_in ks (drop p.cursor ts) → said (truth y) p ≡ perform ts b (silent_at ks) m
unfolding perform
silent_is ts b ks m p y e f = ap (λ (z : Bool). said (truth z) p) f ∙ ap (λ (x : Machine). said (truth (first_in ks (drop x.cursor ts))) x) e

at_end_is : (ts : List Token) (b : Span) (m p : Machine) (y : Bool) → p ≡ M.peek ts m → y ≡ ended (drop p.cursor ts) → said (truth y) p ≡ perform ts b at_end m
unfolding perform
at_end_is ts b m p y e f = ap (λ (z : Bool). said (truth z) p) f ∙ ap (λ (x : Machine). said (truth (ended (drop x.cursor ts))) x) e

-- q: after the peek
pub walks_silent : (ks : List ℕ) (y : Bool) (p q : Parser) → Becomes (M.peek (toks p)) p q → y ≡ first_in ks (rest q) → Walks (act (silent_at ks)) p (truth y) q
walks_silent ks y p q e f =
    acts (λ b. silent_is (toks p) b ks (view p) (view q) y e.is (f ∙ ap (λ (l : List Token). first_in ks (drop q.cursor.0 l)) (same_toks e.same))) e.same e.left

pub walks_end : (y : Bool) (p q : Parser) → Becomes (M.peek (toks p)) p q → y ≡ ended (rest q) → Walks (act at_end) p (truth y) q
walks_end y p q e f =
    acts (λ b. at_end_is (toks p) b (view p) (view q) y e.is (f ∙ ap (λ (l : List Token). ended (drop q.cursor.0 l)) (same_toks e.same))) e.same e.left

-- the row after the one at the cursor
pub walks_next : (k : ℕ) (y : Bool) (p : Parser) → y ≡ first_in (k ∷ []) (past (rest p)) → Walks (act (immediate_next k)) p (truth y) p
unfolding perform
walks_next k y p e = acts (λ b. ap (λ (z : Bool). said (truth z) (view p)) e) same_self (le_refl _)

-- ---------------------------------------------------------------- tokens taken

module _ (tokens : List ℕ) (b : Span) (m p : Machine) (e : p ≡ M.peek (tokens_of tokens) m) where
  abbrev ts : List Token
  ts = tokens_of tokens

  bump_in : (q r : Machine) → p.cursor < length tokens / TOKEN_ROW → q ≡ take_first (drop p.cursor ts) p → r ≡ M.push ADD_TOKEN 0 q → said yes r ≡ perform ts b bump m
  unfolding perform M.bump M.bump_first take_first
  bump_in q r h f g =
      let d = tokens_cons tokens p.cursor h in
      ap (λ (x : Machine). said yes x)
      (g ∙ ap (λ (x : Machine). M.push ADD_TOKEN 0 x) (f ∙ ap (λ (l : List Token). take_first l p) d) ∙ sym (ap (λ (l : List Token). M.bump_first l p) d))
      ∙ ap (λ (x : Machine). said yes (M.bump_first (drop x.cursor ts) x)) e

  bump_past : length tokens / TOKEN_ROW ≤ p.cursor → said yes p ≡ perform ts b bump m
  unfolding perform M.bump M.bump_first
  bump_past h =
      ap (λ (x : Machine). said yes x) (sym (ap (λ (l : List Token). M.bump_first l p) (tokens_end tokens p.cursor h)))
      ∙ ap (λ (x : Machine). said yes (M.bump_first (drop x.cursor ts) x)) e

  name_in : (ks : List ℕ) (q r x : Machine) (n : ℕ) → p.cursor < length tokens / TOKEN_ROW → q ≡ take_first (drop p.cursor ts) p → r ≡ M.name_stretch ks (drop q.cursor ts) q → n ≡ low (r.cursor - p.cursor)
      → x ≡ M.push ADD_COMBINED_TOKEN n r → said yes x ≡ perform ts b (bump_name ks) m
  unfolding perform M.bump_name M.name_first take_first
  name_in ks q r x n h f g i j =
      let d = tokens_cons tokens p.cursor h in
      let t = token_at tokens p.cursor in
      let z : r ≡ M.name_stretch ks (drop (p.cursor + 1) ts) (took t p) =
      g ∙ ap (λ (y : Machine). M.name_stretch ks (drop y.cursor ts) y) (f ∙ ap (λ (l : List Token). take_first l p) d) in
      ap (λ (y : Machine). said yes y)
      (j ∙ ap (λ (v : ℕ). M.push ADD_COMBINED_TOKEN v r) i ∙ ap (λ (y : Machine). M.push ADD_COMBINED_TOKEN (low (y.cursor - p.cursor)) y) z
      ∙ sym (ap (λ (l : List Token). M.name_first ks l p) d))
      ∙ ap (λ (y : Machine). said yes (M.name_first ks (drop y.cursor ts) y)) e

  name_past : (ks : List ℕ) → length tokens / TOKEN_ROW ≤ p.cursor → said yes p ≡ perform ts b (bump_name ks) m
  unfolding perform M.bump_name M.name_first
  name_past ks h =
      ap (λ (x : Machine). said yes x) (sym (ap (λ (l : List Token). M.name_first ks l p) (tokens_end tokens p.cursor h)))
      ∙ ap (λ (y : Machine). said yes (M.name_first ks (drop y.cursor ts) y)) e

-- one more row of a name, or none
name_more : (tokens ks : List ℕ) (m q : Machine) → m.cursor < length tokens / TOKEN_ROW → first_in ks (drop m.cursor (tokens_of tokens)) ≡ true → q ≡ take_first (drop m.cursor (tokens_of tokens)) m
    → M.name_stretch ks (drop q.cursor (tokens_of tokens)) q ≡ M.name_stretch ks (drop m.cursor (tokens_of tokens)) m
unfolding M.name_stretch take_first first_in
name_more tokens ks m q h f g =
    let d = tokens_cons tokens m.cursor h in
    let t = token_at tokens m.cursor in
    let o : one_of ks (seen t) ≡ true = sym (ap (first_in ks) d) ∙ f in
    ap (λ (y : Machine). M.name_stretch ks (drop y.cursor (tokens_of tokens)) y) (g ∙ ap (λ (l : List Token). take_first l m) d)
    ∙ sym (ap (λ (z : Bool). cond z (M.name_stretch ks (drop (m.cursor + 1) (tokens_of tokens)) (took t m)) m) o)
    ∙ sym (ap (λ (l : List Token). M.name_stretch ks l m) d)

pub name_done : (ks : List ℕ) (l : List Token) (m : Machine) → first_in ks l ≡ false → m ≡ M.name_stretch ks l m
unfolding M.name_stretch first_in
name_done ks [] m f = refl
name_done ks (t ∷ ts) m f = sym (ap (λ (z : Bool). cond z (M.name_stretch ks ts (took t m)) m) f)

-- q: after the peek
module _ (p q : Parser) (e : Becomes (M.peek (toks p)) p q) where
  seated : view q ≡ M.peek (toks q) (view p)
  seated = e.is ∙ ap (λ (l : List Token). M.peek l (view p)) (sym (same_toks e.same))

  of_p : (a : Act) (b : Span) (w : Walked) → w ≡ perform (toks q) b a (view p) → w ≡ perform (toks p) b a (view p)
  of_p a b w f = f ∙ ap (λ (l : List Token). perform l b a (view p)) (same_toks e.same)

  -- r: after the token, s: after its event
  pub walks_bump : (r s : Parser) → 0 < tokens_left q → Becomes (take_first (rest q)) q r → Becomes (M.push ADD_TOKEN 0) r s → Walks (act bump) p yes s
  walks_bump r s h f g =
      acts (λ b. of_p bump b _ (bump_in q.tokens.now b (view p) (view q) seated (view r) (view s) (some_left q h) f.is g.is))
      (same_then (same_then e.same f.same) g.same) (omega (arith, e.left, f.left, g.left))

  pub walks_bump_past : tokens_left q ≡ 0 → Walks (act bump) p yes q
  walks_bump_past h = acts (λ b. of_p bump b _ (bump_past q.tokens.now b (view p) (view q) seated (none_left q h))) e.same e.left

  -- s: after the stretch of n raw tokens, u: after its event
  pub walks_name : (ks : List ℕ) (n : ℕ) (r s u : Parser) → 0 < tokens_left q → Becomes (take_first (rest q)) q r → Becomes (M.name_stretch ks (rest r)) r s → n ≡ low (s.cursor.0 - q.cursor.0)
      → Becomes (M.push ADD_COMBINED_TOKEN n) s u → Walks (act (bump_name ks)) p yes u
  walks_name ks n r s u h f g i j =
      let k : view s ≡ M.name_stretch ks (drop r.cursor.0 (toks q)) (view r) = g.is ∙ ap (λ (l : List Token). M.name_stretch ks (drop r.cursor.0 l) (view r)) (same_toks f.same) in
      acts (λ b. of_p (bump_name ks) b _ (name_in q.tokens.now b (view p) (view q) seated ks (view r) (view s) (view u) n (some_left q h) f.is k i j.is))
      (same_then (same_then (same_then e.same f.same) g.same) j.same) (omega (arith, e.left, f.left, g.left, j.left))

  pub walks_name_past : (ks : List ℕ) → tokens_left q ≡ 0 → Walks (act (bump_name ks)) p yes q
  walks_name_past ks h = acts (λ b. of_p (bump_name ks) b _ (name_past q.tokens.now b (view p) (view q) seated ks (none_left q h))) e.same e.left

-- so far in a name's stretch: the rest of it from q is the rest of it from p
pub record Stretch (ks : List ℕ) (p q : Parser) : Type 0 where
  pub is : M.name_stretch ks (rest q) (view q) ≡ M.name_stretch ks (rest p) (view p)
  pub same : Same p q
  pub left : tokens_left q ≤ tokens_left p

-- r: one token on
pub stretch_more : (ks : List ℕ) (p q r : Parser) → Stretch ks p q → q.cursor.0 < length q.tokens.now / TOKEN_ROW → first_in ks (rest q) ≡ true → Becomes (take_first (rest q)) q r → Stretch ks p r
stretch_more ks p q r s h f g =
    record {
      is = ap (λ (l : List Token). M.name_stretch ks (drop r.cursor.0 l) (view r)) (same_toks g.same) ∙ name_more q.tokens.now ks (view q) (view r) h f g.is ∙ s.is;
      same = same_then s.same g.same;
      left = omega (arith, s.left, g.left);
    }
