-- What the sink's steps make of a filled state: a token, trivia, a name, and the end of a node.
use native.Mathlib.Omega.{arith}
use Prim.Native.Nat.{ℕ, zero, suc, ◌+◌, ◌-◌, ◌*◌, ◌/◌, ◌≤◌, ◌<◌}
use mathlib.Core.List.{List, [], ◌∷◌, ◌++◌, append_assoc, append-nil}
use mathlib.Core.Path.{◌≡◌, refl, sym, ◌∙◌, ap, subst}
use mathlib.Core.Bool.{Bool, true, false, cond, ◌||◌}
use lib.ListN.{length, get_or, take, drop, length-drop}
use lib.Seq.{drop-drop, get_or-drop, take-length, take_all, length-take-le}
use lib.Dec.{leb, eqb}
use borrow.Author.Tests.{leb-true, lt-ltb, le-ltb, lt-leb}
use Rattle.basics.specs.Word.{low}
use Rattle.basics.proofs.Flags.{flags}
use Rattle.basics.proofs.TokenRows.{tokens_length, tokens_drop}
use Rattle.definitions.specs.Layout.{TOKEN_ROW, TOKEN_LENGTH, TREE_ROW, TREE_KIND, TREE_PARENT, NODE, TWO_TO_32}
use Rattle.definitions.specs.LexError as L
use Rattle.definitions.specs.TokenKind as K
use Rattle.definitions.specs.Token.{Token, tokens_of, is_error, seen, trivia, byte_count}
use Rattle.definitions.specs.Place.{Tree, nil, leaf, subtree, ◌⊕◌, lead, front, width, count, row_count}
use Rattle.definitions.specs.Parent.{tree_row, rows_under}
use Rattle.sink_rows.specs.Rows.{FIRST_BYTE, CHILDREN_BEFORE}
use Rattle.sink_tokens.specs.Tokens.{kind_seen, trivia_here, at_most, widthN}
use Rattle.sink.specs.Model.{sink_of, trivia_on, token_on, combined_on, finish_on}
use Rattle.sink.proofs.Loops.{trivia_more, trivia_done}
use Rattle.sink.proofs.Trees.{raw}
use Rattle.sink.proofs.Grow.{Filled, state, grow, grow_grow, grow_nil, Fits, fits_front, fits_back, low_small, put_seam, field_seam, leaf_runs}

-- ---------------------------------------------------------------- token rows

first_kind : (l : List ℕ) (t : Token) (ts : List Token) → tokens_of l ≡ t ∷ ts → get_or l 0 0 ≡ t.kind
unfolding tokens_of
first_kind [] t ts e = absurd (let z : ◌≡◌ {A = ℕ} 0 1 = cc in omega arith)
first_kind (k ∷ []) t ts e = absurd (let z : ◌≡◌ {A = ℕ} 0 1 = cc in omega arith)
first_kind (k ∷ n ∷ l) t ts e = ap (λ x. kind_of x) e
  where
    kind_of : List Token → ℕ
    kind_of [] = 0
    kind_of (x ∷ xs) = x.kind

first_len : (l : List ℕ) (t : Token) (ts : List Token) → tokens_of l ≡ t ∷ ts → get_or l 1 0 ≡ t.len
unfolding tokens_of
first_len [] t ts e = absurd (let z : ◌≡◌ {A = ℕ} 0 1 = cc in omega arith)
first_len (k ∷ []) t ts e = absurd (let z : ◌≡◌ {A = ℕ} 0 1 = cc in omega arith)
first_len (k ∷ n ∷ l) t ts e = ap (λ x. len_of x) e
  where
    len_of : List Token → ℕ
    len_of [] = 0
    len_of (x ∷ xs) = x.len

module _ (tokens : List ℕ) where
  -- these are the tokens from an index on
  abbrev pub From : ℕ → List Token → Type 0
  From at ts = drop at (tokens_of tokens) ≡ ts

  pub from_left : (at : ℕ) (ts : List Token) → From at ts → length tokens / TOKEN_ROW - at ≡ length ts
  from_left at ts e = omega (arith, length-drop at (tokens_of tokens), ap length e, tokens_length tokens)

  pub from_inside : (at : ℕ) (t : Token) (ts : List Token) → From at (t ∷ ts) → at < length tokens / TOKEN_ROW
  from_inside at t ts e = omega (arith, from_left at (t ∷ ts) e)

  pub from_kind : (at : ℕ) (t : Token) (ts : List Token) → From at (t ∷ ts) → get_or tokens (at * TOKEN_ROW) 0 ≡ t.kind
  from_kind at t ts e =
      let z : at * TOKEN_ROW + 0 ≡ at * TOKEN_ROW = omega arith in
      let g : get_or tokens (at * TOKEN_ROW + 0) 0 ≡ t.kind = sym (get_or-drop (at * TOKEN_ROW) tokens 0 0) ∙ first_kind (drop (at * TOKEN_ROW) tokens) t ts (tokens_drop at tokens ∙ e) in
      rw z at g

  pub from_len : (at : ℕ) (t : Token) (ts : List Token) → From at (t ∷ ts) → get_or tokens (at * TOKEN_ROW + TOKEN_LENGTH) 0 ≡ t.len
  from_len at t ts e = sym (get_or-drop (at * TOKEN_ROW) tokens 1 0) ∙ first_len (drop (at * TOKEN_ROW) tokens) t ts (tokens_drop at tokens ∙ e)

  pub from_past : (at n : ℕ) (ts us : List Token) → From at ts → drop n ts ≡ us → From (at + n) us
  from_past at n ts us e h = sym (drop-drop n at (tokens_of tokens)) ∙ ap (λ l. drop n l) e ∙ h

  pub from_grown : (f : Tree) (s : Filled) (ts us : List Token) → From s.cursor ts → drop (raw f) ts ≡ us → From (grow f s).cursor us
  unfolding grow
  from_grown f s ts us e h = from_past s.cursor (raw f) ts us e h

  -- ---------------------------------------------------------------- a token

  token_one : (s : Filled) (t : Token) (ts : List Token) → From s.cursor (t ∷ ts) → Fits (leaf (seen t) (t ∷ []) nil) s
      → token_on tokens (state s) ≡ state (grow (leaf (seen t) (t ∷ []) nil) s)
  unfolding token_on state kind_seen seen is_error byte_count
  token_one s t ts e r =
      rw (lt-ltb s.cursor (length tokens / TOKEN_ROW) (from_inside s.cursor t ts e), from_kind s.cursor t ts e, from_len s.cursor t ts e)
      (leaf_runs (seen t) (t ∷ []) 1 t.len refl (omega arith) s r)

  token_none : (s : Filled) → From s.cursor [] → token_on tokens (state s) ≡ state s
  unfolding token_on state
  token_none s e = rw (le-ltb s.cursor (length tokens / TOKEN_ROW) (omega (arith, from_left s.cursor [] e)))

  pub token_runs : (s : Filled) (ts : List Token) → From s.cursor ts → Fits (front ts) s → token_on tokens (state s) ≡ state (grow (front ts) s)
  unfolding front
  token_runs s [] e r = token_none s e ∙ ap state (sym (grow_nil s))
  token_runs s (t ∷ ts) e r = token_one s t ts e r

  -- ---------------------------------------------------------------- trivia

  trivia_is : (s : Filled) (t : Token) (ts : List Token) (b : Bool) → From s.cursor (t ∷ ts) → trivia t ≡ b → trivia_here tokens (sink_of (state s)).cursor ≡ b
  unfolding trivia_here state trivia
  trivia_is s t ts b e h = rw (lt-ltb s.cursor (length tokens / TOKEN_ROW) (from_inside s.cursor t ts e), from_kind s.cursor t ts e) h

  trivia_over : (s : Filled) → From s.cursor [] → trivia_here tokens (sink_of (state s)).cursor ≡ false
  unfolding trivia_here state
  trivia_over s e = rw (le-ltb s.cursor (length tokens / TOKEN_ROW) (omega (arith, from_left s.cursor [] e)))

  seen_trivia : (t : Token) → trivia t ≡ true → seen t ≡ t.kind
  unfolding seen is_error trivia
  seen_trivia t h = go (eqb t.kind K.Whitespace) (eqb t.kind K.LineComment) (eqb t.kind K.BlockComment) refl refl refl h
    where
      small : t.kind < L.UnexpectedEndIncbin → cond (leb L.UnexpectedEndIncbin t.kind) K.Unrecognized t.kind ≡ t.kind
      small g = rw (lt-leb L.UnexpectedEndIncbin t.kind g)

      go : (x y z : Bool) → eqb t.kind K.Whitespace ≡ x → eqb t.kind K.LineComment ≡ y → eqb t.kind K.BlockComment ≡ z → (x || y || z) ≡ true
          → cond (leb L.UnexpectedEndIncbin t.kind) K.Unrecognized t.kind ≡ t.kind
      go true y z p q r h = small (omega flags)
      go false true z p q r h = small (omega flags)
      go false false true p q r h = small (omega flags)
      go false false false p q r h = absurd (let z : ◌≡◌ {A = ℕ} 0 1 = cc in omega arith)

  raw_one : (k : ℕ) (t : Token) (ts : List Token) → drop (raw (leaf k (t ∷ []) nil)) (t ∷ ts) ≡ ts
  unfolding raw
  raw_one k t ts = refl

  pub trivia_runs : (ts : List Token) (s : Filled) → From s.cursor ts → Fits (lead ts) s → trivia_on tokens (state s) ≡ state (grow (lead ts) s)
  unfolding lead ◌⊕◌
  trivia_runs [] s e r = trivia_done tokens (state s) (trivia_over s e) ∙ ap state (sym (grow_nil s))
  trivia_runs (t ∷ ts) s e r = go (λ q e' r'. trivia_runs ts q e' r') (trivia t) refl r
    where
      go : ((q : Filled) → From q.cursor ts → Fits (lead ts) q → trivia_on tokens (state q) ≡ state (grow (lead ts) q)) → (b : Bool) → trivia t ≡ b
          → Fits (cond b (leaf t.kind (t ∷ []) (lead ts)) nil) s → trivia_on tokens (state s) ≡ state (grow (cond b (leaf t.kind (t ∷ []) (lead ts)) nil) s)
      go ih false h r = trivia_done tokens (state s) (trivia_is s t ts false e h) ∙ ap state (sym (grow_nil s))
      go ih true h r =
          let f = leaf t.kind (t ∷ []) nil in
          let k : seen t ≡ t.kind = seen_trivia t h in
          let one : token_on tokens (state s) ≡ state (grow f s) =
          subst (λ n. Fits (leaf n (t ∷ []) nil) s → token_on tokens (state s) ≡ state (grow (leaf n (t ∷ []) nil) s)) k (token_one s t ts e) (fits_front f (lead ts) s r) in
          sym (trivia_more tokens (state s) (trivia_is s t ts true e h))
          ∙ ap (λ x. trivia_on tokens x) one
          ∙ ih (grow f s) (from_grown f s (t ∷ ts) ts e (raw_one t.kind t ts)) (fits_back f (lead ts) s r)
          ∙ ap state (grow_grow f (lead ts) s)

  -- ---------------------------------------------------------------- a name

  width_runs : (k : ℕ) (ts : List Token) (at sum : ℕ) → From at ts → k ≤ length ts → sum + byte_count (take k ts) < TWO_TO_32 → widthN k tokens at sum ≡ sum + byte_count (take k ts)
  unfolding widthN byte_count
  width_runs zero ts at sum e h b = omega arith
  width_runs (suc k) [] at sum e h b = absurd (omega arith)
  width_runs (suc k) (t ∷ ts) at sum e h b =
      let l : low (sum + t.len) ≡ sum + t.len = low_small (sum + t.len) (omega arith) in
      let a : sum + t.len + byte_count (take k ts) ≡ sum + (t.len + byte_count (take k ts)) = omega arith in
      rw (from_len at t ts e, l) (width_runs k ts (at + 1) (sum + t.len) (from_past at 1 (t ∷ ts) ts e refl) (omega arith) (omega arith) ∙ a)

  take_most : (n : ℕ) (ts : List Token) → take (at_most n (length ts)) ts ≡ take n ts
  unfolding at_most
  take_most n ts = go (leb n (length ts)) refl
    where
      go : (b : Bool) → leb n (length ts) ≡ b → take (cond b n (length ts)) ts ≡ take n ts
      go true h = refl
      go false h = take-length ts ∙ sym (take_all n ts (omega flags))

  length_most : (n : ℕ) (ts : List Token) → length (take n ts) ≡ at_most n (length ts)
  unfolding at_most
  length_most n ts = go (leb n (length ts)) refl
    where
      go : (b : Bool) → leb n (length ts) ≡ b → length (take n ts) ≡ cond b n (length ts)
      go true h = length-take-le n ts (leb-true n (length ts) h)
      go false h = ap length (take_all n ts (omega flags))

  most_le : (n m : ℕ) → at_most n m ≤ m
  unfolding at_most
  most_le n m = go (leb n m) refl
    where
      go : (b : Bool) → leb n m ≡ b → cond b n m ≤ m
      go true h = leb-true n m h
      go false h = omega arith

  pub name_runs : length tokens < TWO_TO_32 → (n : ℕ) (s : Filled) (ts : List Token) → From s.cursor ts → Fits (leaf K.Name (take n ts) nil) s
      → combined_on tokens n (state s) ≡ state (grow (leaf K.Name (take n ts) nil) s)
  unfolding combined_on state width
  name_runs small n s ts e r =
      let m = at_most n (length ts) in
      let z : 0 + byte_count (take m ts) ≡ byte_count (take n ts) = (let z : 0 + byte_count (take m ts) ≡ byte_count (take m ts) = omega arith in z) ∙ ap byte_count (take_most n ts) in
      let w : widthN m tokens s.cursor 0 ≡ byte_count (take n ts) = width_runs m ts s.cursor 0 e (most_le n (length ts)) (rw z (omega (arith, r.byte))) ∙ z in
      let l : low m ≡ m = low_small m (omega (arith, most_le n (length ts), from_left s.cursor ts e)) in
      rw (from_left s.cursor ts e, w, l) (leaf_runs K.Name (take n ts) m (byte_count (take n ts)) (length_most n ts) refl s r)

-- ---------------------------------------------------------------- the open node

-- with a node of kind k open: its row has the open node before it as its parent, and holds that node's children
unfoldable pub inside : ℕ → Filled → Filled
inside k s =
    record {
      written = s.written ++ tree_row NODE k s.byte s.children s.node [];
      free = drop TREE_ROW s.free;
      cursor = s.cursor;
      byte = s.byte;
      rows = s.rows + 1;
      node = s.rows;
      children = 0;
    }

-- AN OPEN ROW AND THE ROWS INSIDE IT BECOME A CLOSED ROW AND THE ROWS INSIDE IT
pub finish_runs : (k : ℕ) (f : Tree) (s : Filled) → Fits (subtree k f nil) s → finish_on (state (grow f (inside k s))) ≡ state (grow (subtree k f nil) s)
unfolding state grow inside finish_on rows_under width count raw row_count
finish_runs k f s r =
    let T = s.written in
    let o : List ℕ = tree_row NODE k s.byte s.children s.node [] in
    let c : List ℕ = tree_row NODE k (width f) (count f) s.node [] in
    let F : List ℕ = rows_under s.rows (suc s.rows) f in
    let D : List ℕ = drop (TREE_ROW * row_count f) (drop TREE_ROW s.free) in
    let Z : List ℕ = F ++ D in
    let i : s.rows + 1 ≡ suc s.rows = omega arith in
    let t : ((T ++ o) ++ F) ++ D ≡ T ++ (o ++ Z) = simp append_assoc in
    let w : s.byte + width f - s.byte ≡ width f = omega arith in
    let n : 0 + count f ≡ count f = omega arith in
    let lc : low (s.children + 1) ≡ s.children + 1 = low_small (s.children + 1) (omega (arith, r.children)) in
    let d : D ≡ drop (TREE_ROW * suc (row_count f + 0)) s.free =
    (let y : TREE_ROW + TREE_ROW * row_count f ≡ TREE_ROW * suc (row_count f + 0) = omega arith in
    drop-drop (TREE_ROW * row_count f) TREE_ROW s.free ∙ ap (λ m. drop m s.free) y) in
    let z : T ++ (c ++ Z) ≡ (T ++ (c ++ (F ++ []))) ++ drop (TREE_ROW * suc (row_count f + 0)) s.free =
    ap (λ q. T ++ (c ++ (F ++ q))) d ∙ (rw (append-nil F) (sym (append_assoc T (c ++ F) _))) in
    let a : s.cursor + raw f ≡ s.cursor + (raw f + 0) = omega arith in
    let b : s.byte + width f ≡ s.byte + (width f + 0) = omega arith in
    let m : suc s.rows + row_count f ≡ s.rows + suc (row_count f + 0) = omega arith in
    rw (
      i,
      t,
      field_seam s.rows TREE_PARENT T (o ++ Z) r.whole (omega arith),
      field_seam s.rows TREE_KIND T (o ++ Z) r.whole (omega arith),
      field_seam s.rows FIRST_BYTE T (o ++ Z) r.whole (omega arith),
      field_seam s.rows CHILDREN_BEFORE T (o ++ Z) r.whole (omega arith),
      w,
      n,
      put_seam s.rows T c (o ++ Z) r.whole refl (omega arith),
      lc,
      a,
      b,
      m,
      z,
    )
